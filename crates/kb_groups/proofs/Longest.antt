-- The longest rebalance timeout, member by member.
use Rattle.std.proofs.Common.{◌≡◌, ℕ, zero, suc, ◌+◌, ◌≤◌, max, [], ◌∷◌, length, Some, slice_get, drop, sym, ap, arith}
use Rattle.std.proofs.Math.Numerals.{suc-eq-add-one}
use Rattle.std.proofs.lemmas.Option.{same_Some, none-some}
use Rattle.kb_groups.specs.declared.member.Member.{Member}
use Rattle.kb_groups.specs.Rebalance.{longest}
use Rattle.kb_groups.specs.Members.{Roster}

longest_suc : (i : ℕ) (es : Roster) (n : ℕ) (m : Member) → slice_get es i ≡ Some (n, m) → longest (drop i es) ≡ max m.rebalance_timeout (longest (drop (suc i) es))
unfolding longest
longest_suc zero [] n m h = absurd (none-some (n, m) h)
longest_suc zero (e ∷ es) n m h = ap (λ p. max p.1.rebalance_timeout (longest es)) (same_Some _ _ h)
longest_suc (suc i) [] n m h = absurd (none-some (n, m) h)
longest_suc (suc i) (e ∷ es) n m h = longest_suc i es n m h

pub longest_step : (i : ℕ) (es : Roster) (n : ℕ) (m : Member) (was next all : ℕ) → max was (longest (drop i es)) ≡ all → Some (n, m) ≡ slice_get es i → next ≡ max was m.rebalance_timeout → max next (longest (drop (i + 1) es)) ≡ all
longest_step i es n m was next all inv at e =
    let s : longest (drop i es) ≡ max m.rebalance_timeout (longest (drop (i + 1) es)) = rw (← suc-eq-add-one i) (longest_suc i es n m (sym at)) in
    omega (arith, s, inv, e)

pub longest_end : (i : ℕ) (es : Roster) (r : ℕ) → length es ≤ i → max r (longest (drop i es)) ≡ r
unfolding longest
longest_end zero [] r h = omega arith
longest_end (suc i) [] r h = omega arith
longest_end zero (e ∷ es) r h = absurd (omega (arith, h))
longest_end (suc i) (e ∷ es) r h = longest_end i es r (omega (arith, h))
