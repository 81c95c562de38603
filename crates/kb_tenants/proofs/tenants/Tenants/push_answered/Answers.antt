use Rattle.std.proofs.Common.{◌≡◌, ◌∙◌, ◌++◌, ap, arith, map, subst, sym, take}
use Rattle.std.specs.Prelude.{◌<◌}
use Rattle.std.specs.List.{flat_map}
use Rattle.std.proofs.lemmas.List.{length-map, take_all}
use Rattle.kb_tenant_api.specs.Hosted.{Kept}
use Rattle.kb_tenants.specs.Tenants.{answered_connections, connection_of, state_of}
use Rattle.kb_tenants.proofs.Hosted.{kept_here}
use Rattle.kb_tenants.proofs.Others.{found}
use Rattle.kb_tenants.proofs.tenants.Tenants.push_answered.Goals as goal

pub returns : goal.returns
returns g c =
    let log = g.L.PartitionLog.log in
    let ts = c.args.self.now in
    let files = (g.S.Store.disk ts.shelf.store).files in
    let x = c.index.result.now in
    let lt = subst (λ n. c.args.tenant < n) (length-map ts.tenants.items (state_of log files)) c.requires in
    let kept = kept_here log files ts.tenants.items c.args.tenant x (found ts.tenants.items c.args.tenant x lt c.index.ensures) in
    let rs = c.released-released.result.now in
    let all : take c.loop-replies.replies-index rs ≡ rs = take_all c.loop-replies.replies-index rs (omega (arith, c.loop-replies-test.false)) in
    c.loop-replies.invariant
    ∙ ap (λ xs. c.args.numbers.now.items ++ map connection_of xs) (ap (flat_map (λ v. v.items)) all ∙ c.released-released.ensures)
    ∙ sym (ap (λ (k : Kept). c.args.numbers.now.items ++ answered_connections k.groups) kept)
