-- Files with bytes of refused appends.
use Rattle.std.proofs.Common.{◌≡◌, ◌∙◌, ◌++◌, ◌==◌, ◌||◌, ℕ, Bool, true, false, List, [], ◌∷◌, refl, ap}
use Rattle.std.proofs.lemmas.Bool.{eq-eqb}
use Rattle.kb_durable.specs.Durable.{is_torn}
use Rattle.kb_durable.specs.declared.torn.Torn.{Torn}

pub torn_pushed : (ts : List Torn) (file len : ℕ) → is_torn (ts ++ record { file = file; len = len } ∷ []) file ≡ true
torn_pushed [] file len = ap (λ b. b || false) (eq-eqb file file refl)
torn_pushed (t ∷ ts) file len = ap (λ b. (t.file == file) || b) (torn_pushed ts file len) ∙ either (t.file == file)
  where
    either : (b : Bool) → (b || true) ≡ true
    either true = refl
    either false = refl
