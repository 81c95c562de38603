-- Whether a member may commit, by its group's id.
use Rattle.std.proofs.Common.{◌≡◌, ℕ, ℤ, false, List, [], ◌∷◌, length, refl, sym, ap, nat_eq, if◌then◌else◌, true≢false}
use Rattle.kb_groups.specs.Calls as one
use Rattle.kb_wire.specs.declared.error_code.ErrorCode.TheVariants.{InvalidGroupId}
use Rattle.kb_coordinator.specs.Groups.{Groups, found, silent}
use Rattle.kb_coordinator.specs.Requests.{commit_of_none, error_of, named}
use Rattle.kb_coordinator.specs.Calls.{after_may_commit, by_group, may_commit, with_changed}

pub is_named : (id : List ℕ) → false ≡ nat_eq (length id) 0 → one.is_empty id ≡ false
is_named [] h = absurd (true≢false (sym h))
is_named (x ∷ xs) h = refl

pub commit_named : (id member : List ℕ) (generation : ℤ) (gs : Groups) → one.is_empty id ≡ false → error_of (by_group (commit_of_none generation) (one.may_commit (named member) generation) (found id gs.groups)) ≡ may_commit id member generation gs
commit_named id member generation gs h =
    ap (λ b. if b then InvalidGroupId else error_of (by_group (commit_of_none generation) (one.may_commit (named member) generation) (found id gs.groups))) (sym h)

pub after_named : (clock : ℕ) (id member : List ℕ) (generation : ℤ) (gs : Groups) → one.is_empty id ≡ false → with_changed id (one.after_may_commit clock (named member) generation) gs ≡ after_may_commit clock id member generation gs
after_named clock id member generation gs h =
    ap (λ b. if b then silent gs else with_changed id (one.after_may_commit clock (named member) generation) gs) (sym h)
