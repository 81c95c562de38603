-- The refusals of a tenant, by cause.
use Rattle.std.specs.Prelude.{ℕ, List, [], ◌∷◌, ◌-◌, codes, decimal}
use Rattle.kb_metrics.specs.Text.{behind_text}
use Rattle.kb_metrics.specs.declared.causes.CauseRow.{CauseRow}

abbrev pub cause_row : CauseRow → List ℕ × ℕ
cause_row c = (c.cause.now, c.count)

-- each cause with how many refusals it has: those that are not the store's are of memory
unfoldable pub each_cause : (all store : ℕ) → List (List ℕ × ℕ)
each_cause all store = (codes "memory", all - store) ∷ (codes "store", store) ∷ []

abbrev pub cause_text : List ℕ → List ℕ × ℕ → List ℕ
cause_text front c = behind_text front ((codes "cause", c.0) ∷ []) (decimal c.1)
