-- One after another is dealt with.
use Rattle.std.proofs.Common.{◌≡◌, ◌≤◌, ◌+◌, ◌∙◌, ℕ, List, [], ◌∷◌, ◌++◌, length, Option, None, Some, inl, inr, refl, sym, subst, arith}
use Rattle.std.proofs.lemmas.List.{length-append}
use Rattle.kb_node.specs.Closing.{AreDealtWith}
use Rattle.kb_node.specs.Traffic.{Along}
use Rattle.kb_node.proofs.Traffic.{along_then}

-- so many were dealt with so far, each when it was due
pub record AreDealt {X : Type 0} (due : X → Option ℕ) (Deals : ℕ → X → X → Type 0) (count : ℕ) (old new : X) : Type 0 where
  pub numbers : List ℕ
  pub done : Along (λ n a b. (due a ≡ Some n) × Deals n a b) numbers old new
  pub many : length numbers ≡ count

module _ {X : Type 0} (due : X → Option ℕ) (Deals : ℕ → X → X → Type 0) where
  pub dealt_none : (x : X) → AreDealt due Deals 0 x x
  dealt_none x = record { numbers = []; done = refl; many = refl }

  pub dealt_next : (i n : ℕ) (a b c : X) → AreDealt due Deals i a b → due b ≡ Some n → Deals n b c → AreDealt due Deals (i + 1) a c
  dealt_next i n a b c before is deals = record {
    numbers = before.numbers ++ n ∷ [];
    done = along_then (λ n a b. (due a ≡ Some n) × Deals n a b) before.numbers (n ∷ []) a b c before.done (c, (is, deals), refl);
    many = omega (arith, length-append before.numbers (n ∷ []), before.many);
  }

  pub dealt_all : {Y : Type 0} (view : X → Y) (i most : ℕ) (a b c : X) → AreDealt due Deals i a b → due b ≡ None → view c ≡ view b
      → AreDealtWith due Deals view most a c
  dealt_all view i most a b c before none still = record { numbers = before.numbers; last = b; done = before.done; all = inl none; still = still }

  pub dealt_most : {Y : Type 0} (view : X → Y) (i most : ℕ) (a b c : X) → AreDealt due Deals i a b → most ≤ i → view c ≡ view b
      → AreDealtWith due Deals view most a c
  dealt_most view i most a b c before le still = record {
    numbers = before.numbers;
    last = b;
    done = before.done;
    all = inr (omega (arith, le, before.many));
    still = still;
  }
