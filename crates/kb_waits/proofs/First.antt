-- The first of the deadlines in their order.
use Rattle.std.proofs.Common.{◌≡◌, ℕ, ◌<◌, ◌≤◌, Bool, true, false, Option, None, Some, refl, sym, ◌∙◌, arith, length, [], ◌∷◌, List}
use Rattle.std.specs.Prelude.{IsSomeAnd, IsTrue}
use Rattle.std.specs.BTreeMap.{is_at}
use Rattle.std.specs.BTreeSet.{BTreeSet, IsLowerBound}
use Rattle.std.specs.List.{list_any}
use Rattle.std.specs.declared.cmp.Ordering.{Ordering}
use Rattle.std.specs.declared.cmp.Ordering.TheVariants.{Less, Equal, Greater}
use Rattle.std.specs.Ordering.{nat_cmp, ordering_then, MatchOrdering, is_gt}
use Rattle.std.specs.Cmp.{ranked}
use Rattle.std.specs.FinMap as fin
use Rattle.std.proofs.lemmas.Bool.{false≢true, eqb-true}
use Rattle.kb_waits.specs.Due.{by_deadline}
use Rattle.kb_waits.specs.Queue.{Queue, Wait, IsLeastDeadline}
use Rattle.kb_waits.specs.Waits.{passes, ends_at, IsIndexed}
use Rattle.kb_waits.specs.declared.waiters.Waiters.{Waiters}
use Rattle.kb_waits.proofs.Indexed.{dated_at, dated-there}

no_earlier : (r s : Ordering) (a b : ℕ) → MatchOrdering r (a < b) (a ≡ b) (b < a) → is_gt (ordering_then r s) ≡ false → a ≤ b
no_earlier Less s a b m h = omega arith
no_earlier Equal s a b m h = omega arith
no_earlier Greater s a b m h = cc

ends : (o : Option Wait) (d : ℕ) → passes (ends_at d) o ≡ true → IsSomeAnd o (λ w. w.deadline ≡ d)
ends None d h = absurd (false≢true h)
ends (Some w) d h = eqb-true w.deadline d h

-- a first pair has the least deadline
pub first-least : (q : Queue) (set : BTreeSet (ℕ × ℕ)) (w : Waiters) (p : ℕ × ℕ) → IsIndexed q set w → IsTrue (dated_at set p.0 p.1) → IsLowerBound by_deadline set p → IsLeastDeadline q p.0
first-least q set w p i member least = record {
  connection = p.1;
  parked = ends (fin.get q p.1) p.0 (sym (i.dated p.0 p.1) ∙ member);
  least = λ n wait there. no_earlier (nat_cmp p.0 wait.deadline) _ p.0 wait.deadline (ranked p.0 wait.deadline _ refl) (least (wait.deadline, n) (dated-there q set w n wait i there));
}

some_pair : {X : Type 0} (t : X → Bool) (xs : List X) → list_any t xs ≡ true → 0 < length xs
some_pair t [] h = absurd (false≢true h)
some_pair t (x ∷ xs) h = omega arith

-- where there is no pair nothing is parked
pub first-none : (q : Queue) (set : BTreeSet (ℕ × ℕ)) (w : Waiters) → IsIndexed q set w → (0 < length set.keys → false ≡ true) → (n : ℕ) → fin.get q n ≡ None
first-none q set w i none n = by (fin.get q n) refl
  where
    by : (o : Option Wait) → fin.get q n ≡ o → o ≡ None
    by None e = refl
    by (Some wait) e = absurd (false≢true (none (some_pair (is_at (by_deadline (wait.deadline, n))) set.keys (dated-there q set w n wait i e))))
