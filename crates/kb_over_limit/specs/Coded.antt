-- What is counted of a value that is read.
use Rattle.std.specs.Prelude.{◌≡◌, ℕ, List, [], ◌∷◌, Result, Ok, Err}
use Rattle.kb_wire.specs.declared.fault.WireFault.{WireFault}
use Rattle.kb_over_limit.specs.declared.tally.Tally.{Tally}

-- what values, one after the other, make of a tally
abbrev pub each : {A : Type 0} → (A → Tally → Tally) → List A → Tally → Tally
each f [] t = t
each f (x ∷ xs) t = each f xs (f x t)

-- The value is at the front, and its entries are counted; or there is a fault.
abbrev pub Tallies : {A : Type 0} → Result (A × List ℕ) WireFault → (A → Tally → Tally) → Tally → Result (Unit {0}) WireFault → Tally → List ℕ → Type 0
Tallies {A} read f old (Ok u) new after = (x : A) × (read ≡ Ok (x, after)) × (new ≡ f x old)
Tallies read f old (Err e) new after = read ≡ Err e

-- the value is at the front, or there is a fault
abbrev pub Finds : {A : Type 0} → Result (A × List ℕ) WireFault → Result A WireFault → List ℕ → Type 0
Finds read (Ok x) after = read ≡ Ok (x, after)
Finds read (Err e) after = read ≡ Err e
