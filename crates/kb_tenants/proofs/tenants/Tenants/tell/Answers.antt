use Rattle.std.proofs.Common.{inl, inr, ap, ◌∙◌, refl, sym, subst, w32}
use Rattle.std.specs.Prelude.{◌<◌}
use Rattle.std.proofs.lemmas.Int.{to_z-of_z}
use Rattle.std.proofs.lemmas.List.{length-map}
use Rattle.kb_tenant.specs.Replies.{IsAnswer}
use Rattle.kb_tenant_api.specs.Replies.{told_to}
use Rattle.kb_log.specs.Shelf.{Shelved}
use Rattle.kb_tenants.specs.Counts.{counts_of}
use Rattle.kb_tenants.specs.Tenants.{hosted, state_of}
use Rattle.kb_tenants.proofs.Causes.{counted_same, counted_still}
use Rattle.kb_tenants.proofs.Hosted.{kept_here}
use Rattle.kb_tenants.proofs.Others.{found}
use Rattle.kb_tenants.proofs.tenants.Tenants.tell.Goals as goal

pub returns-in-Ok-clause-meets : goal.returns-in-Ok-clause-meets
returns-in-Ok-clause-meets g c = λ honest calm.
    let ts = c.args.self.now in
    let files = (g.S.Store.disk ts.shelf.store).files in
    let x = c.index.result.now in
    let lt = subst (λ n. c.args.tenant < n) (length-map ts.tenants.items (state_of g.L.PartitionLog.log files)) c.requires.tenant in
    let seen = kept_here g.L.PartitionLog.log files ts.tenants.items c.args.tenant x (found ts.tenants.items c.args.tenant x lt c.index.ensures) in (
      refl,
      subst (λ k. IsAnswer c.args.correlation_id (told_to c.args.connection k.groups) c.in-Ok.answer) (sym seen)
          (subst (λ z. IsAnswer z (told_to c.args.connection x.groups) c.in-Ok.answer) (to_z-of_z w32 c.args.correlation_id c.ranges.correlation_id) c.in-Ok.ensures.ok),
    )

pub returns-in-Ok-clause-answers : goal.returns-in-Ok-clause-answers
returns-in-Ok-clause-answers g c =
    let ts = c.args.self.now in
    let files = (g.S.Store.disk ts.shelf.store).files in
    let x = c.index.result.now in
    let lt = subst (λ n. c.args.tenant < n) (length-map ts.tenants.items (state_of g.L.PartitionLog.log files)) c.requires.tenant in
    let seen = kept_here g.L.PartitionLog.log files ts.tenants.items c.args.tenant x (found ts.tenants.items c.args.tenant x lt c.index.ensures) in
    inl (subst (λ k. IsAnswer c.args.correlation_id (told_to c.args.connection k.groups) c.in-Ok.answer) (sym seen)
    (subst (λ z. IsAnswer z (told_to c.args.connection x.groups) c.in-Ok.answer) (to_z-of_z w32 c.args.correlation_id c.ranges.correlation_id) c.in-Ok.ensures.ok))

pub returns-in-Err-clause-answers : goal.returns-in-Err-clause-answers
returns-in-Err-clause-answers g c =
    let ts = c.args.self.now in
    let files = (g.S.Store.disk ts.shelf.store).files in
    let x = c.index.result.now in
    let lt = subst (λ n. c.args.tenant < n) (length-map ts.tenants.items (state_of g.L.PartitionLog.log files)) c.requires.tenant in
    let seen = kept_here g.L.PartitionLog.log files ts.tenants.items c.args.tenant x (found ts.tenants.items c.args.tenant x lt c.index.ensures) in
    inr (refl, λ silent. c.in-Err.ensures.err (sym (ap (λ k. told_to c.args.connection k.groups) seen) ∙ silent))

pub returns-in-Ok-clause-accounted : goal.returns-in-Ok-clause-accounted
returns-in-Ok-clause-accounted g c =
    let old = c.args.self.now in
    counted_same c.args.tenant (hosted g.L.PartitionLog.log g.S.Store.disk old) (g.S.Store.disk old.shelf.store).failures (counts_of old)

pub returns-in-Err-clause-accounted : goal.returns-in-Err-clause-accounted
returns-in-Err-clause-accounted g c =
    let disk = g.S.Store.disk in
    let seen = hosted g.L.PartitionLog.log disk in
    let old = c.args.self.now in
    let new = c.refuse.new.self in
    let r = c.refuse.ensures in
    counted_still c.args.tenant (seen old) (seen new) (disk old.shelf.store).failures (disk new.shelf.store).failures (counts_of old) (counts_of new)
    (ap (λ (s : Shelved g.row.S.Denot). (disk s.store).failures) r.shelf) r.accounted (r.turn.grows c.args.tenant) r.causes
