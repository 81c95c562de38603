use Rattle.std.proofs.Common.{◌<◌, subst}
use Rattle.std.proofs.lemmas.List.{length-map}
use Rattle.std.proofs.lemmas.Option.{slice_get_within}
use Rattle.kb_tenant_api.specs.Hosted.{TenantState, names_of}
use Rattle.kb_restart.proofs.Found.{is_found}
use Rattle.kb_loss.proofs.Since.{still_synced}
use Rattle.kb_recovered.proofs.Results.{on_ok}
use Rattle.kb_recovered.proofs.laws.commit_lasts.Goals as goal

pub returns-clause-found : goal.returns-clause-found
returns-clause-found g c = λ honest in_files strays is apart t name at left.
    let b = c.commit.new.self in
    let d = g.S.Store.disk b.store in
    let within = subst (λ n. t < n) (length-map b.state.tenants (λ (x : TenantState). x.name)) (slice_get_within (names_of b.state.tenants) t name at) in
    is_found d (g.met.S.Store.lawful b.store) honest strays b.state.tenants t (in_files honest strays is t within) apart name at left

pub returns-clause-lasts : goal.returns-clause-lasts
returns-clause-lasts g c =
    let b = c.commit.new.self in
    let d = g.S.Store.disk b.store in
    let l = g.S.Store.loss b.store in
    on_ok c.commit.result c.commit.ensures.synced (λ synced settled honest touched. still_synced d.files touched l (g.met.S.Store.timely b.store) (synced settled honest))
