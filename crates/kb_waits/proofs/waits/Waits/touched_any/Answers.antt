use Rattle.std.proofs.Common.{◌≡◌, eqb, sym, subst}
use Rattle.std.specs.List.{dedup}
use Rattle.std.proofs.lemmas.List.Filters.{dedup_is}
use Rattle.kb_waits.specs.Queue.{AreParked, IsUnderAny}
use Rattle.kb_waits.specs.Waits.{is_under_any}
use Rattle.kb_waits.proofs.Answered.{AreParked-deduped, any-under, is_under_any-decides}
use Rattle.kb_waits.proofs.waits.Waits.touched_any.Goals as goal

pub returns-clause-touched : goal.returns-clause-touched
returns-clause-touched c =
    let left : c.dedup.new.self.items ≡ dedup eqb c.sort_unstable.new.self.items = dedup_is eqb _ _ c.dedup.ensures.filtered in
    subst (λ xs. AreParked c.args.self.now (IsUnderAny c.args.keys.now) xs) (sym left)
    (subst (λ q. AreParked q (IsUnderAny c.args.keys.now) (dedup eqb c.sort_unstable.new.self.items)) c.self.view_is
    (AreParked-deduped c.self.inside.entries (is_under_any c.args.keys.now) (IsUnderAny c.args.keys.now) (is_under_any-decides c.args.keys.now) c.in_ok-found.found.items
    (any-under c.self.inside.entries c.self.inside.deadlines c.self.inside.waiters c.args.keys.now c.in_ok-found.found.items c.self.invariant c.in_ok-found.ensures)
    c.sort_unstable.new.self.items c.sort_unstable.ensures.permutation c.sort_unstable.ensures.sorted))
