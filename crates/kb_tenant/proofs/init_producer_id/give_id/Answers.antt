use Rattle.std.proofs.Common.{◌≡◌, None, ⊎_elim, inl, inr, ap, arith, rules}
use Rattle.kb_topics.specs.CatalogFault.{code_of as fault_code}
use Rattle.kb_tenant.specs.InitProducerId.{id_refused}
use Rattle.kb_tenant.proofs.init_producer_id.give_id.Goals as goal

pub returns-in-Err-clause-told : goal.returns-in-Err-clause-told
returns-in-Err-clause-told g c =
    let none : c.args.request.now.transactional_id ≡ None = search rules in
    let told : c.refused-in-Err.result ≡ id_refused (fault_code c.in-Err.fault) = search rules in
    ⊎_elim
    (λ done. inl (record { counted = done.counted; met = λ honest agree. let is = done.met honest agree in grind (arith, is, none, told) }))
    (λ refused. inr (record {
      want = (record { fault = c.in-Err.fault; told = ap (λ x. x.error_code) told; want = refused.want }, let is = told in grind (arith, is));
      counted = refused.counted;
      stays = refused.stays;
    }))
    c.in-Err.ensures.told
