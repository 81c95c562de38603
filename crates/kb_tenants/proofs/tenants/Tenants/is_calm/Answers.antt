use Rattle.std.proofs.Common.{◌≡◌, ◌∙◌, ap, true, false, rules}
use Rattle.std.specs.Prelude.{map}
use Rattle.std.proofs.lemmas.Iterator.{cases_from_all, YieldsList-from_slice}
use borrow.Author.Tests.{tests}
use Rattle.kb_tenant_api.specs.Turns.{all_calm}
use Rattle.kb_tenants.specs.Tenants.{state_of}
use Rattle.kb_tenants.proofs.Hosted.{uncounted, calm_cases}
use Rattle.kb_tenants.proofs.tenants.Tenants.is_calm.Goals as goal

pub returns : goal.returns
returns g c =
    let log = g.L.PartitionLog.log in
    let files = (g.S.Store.disk c.args.self.now.shelf.store).files in
    let all = cases_from_all _ _ _ (λ x. uncounted x ≡ true) (λ x. uncounted x ≡ false) c.all.ensures.ran (YieldsList-from_slice c.deref.result.now cc) (λ x q k. search (rules, tests)) (λ x q k. search (rules, tests)) in
    calm_cases log files c.deref.result.now c.all.result all ∙ ap (λ ts. all_calm (map (state_of log files) ts)) c.deref.ensures.value
