-- How lines are told to a sink that may not take them.
use Rattle.std.specs.Prelude.{◌≡◌, ℕ, zero, suc, ◌+◌, ◌-◌, ◌^◌, min, Bool, true, false, List, if◌then◌else◌}

-- one more, as far as they can be counted
abbrev pub one_more_missed : ℕ → ℕ
one_more_missed missed = min (missed + 1) (2 ^ 64 - 1)

-- Where lines were missed their count is offered, and they are told if it is taken. Else there is nothing to tell.
abbrev pub CatchesUp : {S : Type 0} → (S → ℕ → Bool → S → Type 0) → ℕ → S → Bool → ℕ → S → Type 0
CatchesUp offers_count zero sink done missed after = (done ≡ true) × (missed ≡ 0) × (after ≡ sink)
CatchesUp offers_count (suc n) sink done missed after =
    (missed ≡ (if done then 0 else suc n)) × offers_count sink (suc n) done after

-- A line is offered if all those before it are told, and is missed if it is not taken.
abbrev pub Offers : {S : Type 0} → (S → List ℕ → Bool → S → Type 0) → Bool → List ℕ → ℕ → S → ℕ → S → Type 0
Offers offers_line false line owed sink missed after = (missed ≡ one_more_missed owed) × (after ≡ sink)
Offers offers_line true line owed sink missed after =
    (taken : Bool) × (missed ≡ (if taken then 0 else 1)) × offers_line sink line taken after

-- First the count of those that were missed, and then the line.
pub record TellsLine {S : Type 0} (offers_count : S → ℕ → Bool → S → Type 0) (offers_line : S → List ℕ → Bool → S → Type 0) (line : List ℕ) (owed : ℕ) (sink : S) (missed : ℕ) (after : S) : Type 0 where
  pub done : Bool
  pub left : ℕ
  pub between : S
  pub count_first : CatchesUp offers_count owed sink done left between
  pub then_line : Offers offers_line done line left between missed after
