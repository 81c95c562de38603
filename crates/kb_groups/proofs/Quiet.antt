-- Before the next moment at which something is due, nothing happens.
use Rattle.std.proofs.Common.{◌≡◌, ℕ, ◌+◌, ◌<◌, ◌≤◌, min, List, [], ◌∷◌, Some, refl, ap, ◌∙◌, Bool, true, false, ◌&&◌, if◌then◌else◌, nat_eq, nat_le, is_none, map, arith}
use Rattle.kb_groups.specs.declared.member.Member.{Member}
use Rattle.kb_groups.specs.declared.state.State.{State}
use Rattle.kb_groups.specs.declared.state.Phase.{Phase}
use Rattle.kb_groups.specs.declared.state.Phase.TheVariants.{Empty, Joining, Syncing, Stable}
use Rattle.kb_groups.specs.Members.{Roster, member, changed}
use Rattle.kb_groups.specs.Rebalance.{Step}
use Rattle.kb_groups.specs.Calls.{unmoved, started, touched}
use Rattle.kb_groups.specs.Moments.{has_expired, expires, expired, is_due, at_deadline, closed, tick, never, session_end, earliest, deadline, next_due, session_due}

not_expired : (clock : ℕ) (m : Member) → clock < session_end m → has_expired clock m ≡ false
not_expired clock m = elim (is_none m.waiter) as (λ b. clock < (if b then m.session_start + m.session_timeout else never) → (b && nat_le (m.session_start + m.session_timeout) clock) ≡ false) [ true ↦ λ h. grind (arith, h) | false ↦ λ h. refl ]

not_expires : (clock n : ℕ) (ms : Roster) → clock < earliest ms → expires clock (member ms n) ≡ false
unfolding earliest
not_expires clock n [] h = refl
not_expires clock n (e ∷ ms) h = by (nat_eq n e.0) (not_expired clock e.1 (omega (arith, h))) (not_expires clock n ms (omega (arith, h)))
  where
    by : (b : Bool) → has_expired clock e.1 ≡ false → expires clock (member ms n) ≡ false → expires clock (if b then Some e.1 else member ms n) ≡ false
    by true here rest = here
    by false here rest = rest

none_expire : (clock : ℕ) (ns : List ℕ) (s : Step) → clock < earliest s.group.members → expired clock ns s ≡ s
unfolding expired
none_expire clock [] s h = refl
none_expire clock (n ∷ ns) s h = rw (not_expires clock n s.group.members h) (none_expire clock ns s h)

not_due : (clock : ℕ) (p : Phase) → clock < deadline p → is_due clock p ≡ false
not_due clock Empty h = refl
not_due clock (Joining d) h = grind (arith, h)
not_due clock Syncing h = refl
not_due clock Stable h = refl

-- An early moment changes nothing.
pub tick_early : (clock : ℕ) (g : State) → clock < next_due g → tick clock g ≡ unmoved g
tick_early clock g h =
    ap (at_deadline clock) (none_expire clock (map (λ e. e.0) g.members) (unmoved g) (omega (arith, h)))
    ∙ ap (λ b. if b then closed clock (unmoved g) else unmoved g) (not_due clock g.phase (omega (arith, h)))

started_end : (clock : ℕ) (m : Member) → min (session_end m) (clock + m.session_timeout) ≤ session_end (started clock m)
started_end clock m = elim (is_none m.waiter) as (λ b. min (if b then m.session_start + m.session_timeout else never) (clock + m.session_timeout) ≤ (if b then clock + m.session_timeout else never)) [ true ↦ omega arith | false ↦ omega arith ]

earliest_started : (clock n : ℕ) (ms : Roster) → min (earliest ms) (session_due clock (member ms n)) ≤ earliest (changed n (started clock) ms)
unfolding earliest changed
earliest_started clock n [] = omega arith
earliest_started clock n (e ∷ ms) = by (nat_eq n e.0) (started_end clock e.1) (earliest_started clock n ms)
  where
    by : (b : Bool) → min (session_end e.1) (clock + e.1.session_timeout) ≤ session_end (started clock e.1) → min (earliest ms) (session_due clock (member ms n)) ≤ earliest (changed n (started clock) ms) → min (min (session_end e.1) (earliest ms)) (session_due clock (if b then Some e.1 else member ms n)) ≤ earliest (if b then (e.0, started clock e.1) ∷ ms else e ∷ changed n (started clock) ms)
    by true here rest = omega (arith, here)
    by false here rest = omega (arith, rest)

-- A session that starts ends at its own end.
pub due_started : (b : Bool) (clock n q : ℕ) (g : State) → q ≤ next_due g → min q (session_due clock (member g.members n)) ≤ next_due (touched b clock n g)
due_started true clock n q g h = omega (arith, earliest_started clock n g.members, h)
due_started false clock n q g h = omega (arith, h)

pub due_after : (b : Bool) (clock n q next : ℕ) (g new : State) → new ≡ touched b clock n g → next ≡ min q (session_due clock (member g.members n)) → q ≤ next_due g → next ≤ next_due new
due_after b clock n q next g new e f h = rw e (rw f (due_started b clock n q g h))
