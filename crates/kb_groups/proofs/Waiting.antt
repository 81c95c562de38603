-- Whether a request of some member waits.
use Rattle.std.proofs.Common.{◌≡◌, ◌∙◌, ℕ, ℤ, ◌+◌, ◌≤◌, ◌||◌, Bool, true, false, [], ◌∷◌, length, Option, Some, None, slice_get, drop, is_some, nat_eq, if◌then◌else◌, refl, sym, ap, true≢false}
use Rattle.kb_groups.specs.declared.member.Member.{Member}
use Rattle.kb_groups.specs.declared.member.Waiter.{Waiter}
use Rattle.kb_groups.specs.declared.state.State.{State}
use Rattle.kb_groups.specs.Answers.{any_waits, waits_on}
use Rattle.kb_groups.specs.Members.{Roster, changed, each}
use Rattle.kb_groups.specs.Rebalance.{freed}
use Rattle.kb_groups.specs.Calls.{dropped, fresh_at, hung_up, started, touched}
use Rattle.kb_groups.proofs.Steps.{drop_end, drop_next}

pub none_waits : (generation : ℤ) (g : State) → g ≡ fresh_at generation → false ≡ any_waits g.members
unfolding any_waits
none_waits generation g is = ap (λ (s : State). any_waits s.members) (sym is)

-- A session that starts is no wait.
started_waits : (clock n : ℕ) (ms : Roster) → any_waits (changed n (started clock) ms) ≡ any_waits ms
unfolding any_waits changed
started_waits clock n [] = refl
started_waits clock n (e ∷ ms) = by (nat_eq n e.0) (started_waits clock n ms)
  where
    by : (b : Bool) → any_waits (changed n (started clock) ms) ≡ any_waits ms → any_waits (if b then (e.0, started clock e.1) ∷ ms else e ∷ changed n (started clock) ms) ≡ (is_some e.1.waiter || any_waits ms)
    by true h = refl
    by false h = ap (λ b. is_some e.1.waiter || b) h

touched_waits : (b : Bool) (clock n : ℕ) (g : State) → any_waits (touched b clock n g).members ≡ any_waits g.members
touched_waits true clock n g = started_waits clock n g.members
touched_waits false clock n g = refl

pub waits_after : (b : Bool) (clock n : ℕ) (g new : State) (waits : Bool) → new ≡ touched b clock n g → waits ≡ any_waits g.members → waits ≡ any_waits new.members
waits_after b clock n g new waits e h = rw e (h ∙ sym (touched_waits b clock n g))

-- Where nobody waits, no connection that ends changes anything.
not_hung_up : (clock connection : ℕ) (m : Member) → is_some m.waiter ≡ false → hung_up clock connection m ≡ m
not_hung_up clock connection m = elim m.waiter as (λ (o : Option Waiter). is_some o ≡ false → (if waits_on connection o then freed clock m else m) ≡ m) [ None ↦ λ h. refl | Some w ↦ λ h. absurd (true≢false h) ]

either_false : (a b : Bool) → (a || b) ≡ false → (a ≡ false) × (b ≡ false)
either_false true b h = absurd (true≢false h)
either_false false b h = (refl, h)

none_hung_up : (clock connection : ℕ) (ms : Roster) → any_waits ms ≡ false → each (λ n m. hung_up clock connection m) ms ≡ ms
unfolding any_waits each
none_hung_up clock connection [] h = refl
none_hung_up clock connection (e ∷ ms) h =
    let both = either_false (is_some e.1.waiter) (any_waits ms) h in
    (λ k. (e.0, not_hung_up clock connection e.1 both.0 k) ∷ none_hung_up clock connection ms both.1 k)

pub none_dropped : (clock connection : ℕ) (g : State) → any_waits g.members ≡ false → g ≡ dropped clock connection g
none_dropped clock connection g h = sym (ap (λ (ms : Roster). record g { members = ms }) (none_hung_up clock connection g.members h))

-- ## The loop over the members

pub waits_stop : (i : ℕ) (es : Roster) (n : ℕ) (m : Member) (all : Bool) → any_waits (drop i es) ≡ all → Some (n, m) ≡ slice_get es i → true ≡ is_some m.waiter → true ≡ all
unfolding any_waits
waits_stop i es n m all inv at waits = ap (λ b. b || any_waits (drop (i + 1) es)) waits ∙ sym (ap any_waits (drop_next i es (n, m) (sym at))) ∙ inv

pub waits_go : (i : ℕ) (es : Roster) (n : ℕ) (m : Member) (all : Bool) → any_waits (drop i es) ≡ all → Some (n, m) ≡ slice_get es i → false ≡ is_some m.waiter → any_waits (drop (i + 1) es) ≡ all
unfolding any_waits
waits_go i es n m all inv at free = ap (λ b. b || any_waits (drop (i + 1) es)) free ∙ sym (ap any_waits (drop_next i es (n, m) (sym at))) ∙ inv

pub waits_end : (i : ℕ) (es : Roster) (all : Bool) → any_waits (drop i es) ≡ all → length es ≤ i → false ≡ all
unfolding any_waits
waits_end i es all inv h = sym (ap any_waits (drop_end i es h)) ∙ inv
