-- A label's value is read back from its text.
use Rattle.std.proofs.Common.{◌≡◌, ℕ, List, [], ◌∷◌, ◌++◌, Some, false, refl, ap, ◌∙◌, arith, append_assoc}
use Rattle.kb_metrics.specs.Text.{escape, escaped, value_read}

-- a byte is read back from its text, where the rest is
read_one : (b : ℕ) (rest value text : List ℕ) → value_read false rest ≡ Some (value, text) → value_read false (escape b ++ rest) ≡ Some (b ∷ value, text)
read_one b rest value text h = grind (arith, h)

pub read_back : (value text : List ℕ) → value_read false (escaped value ++ 34 ∷ text) ≡ Some (value, text)
read_back [] text = refl
read_back (b ∷ value) text =
    ap (value_read false) (append_assoc (escape b) (escaped value) (34 ∷ text)) ∙ read_one b (escaped value ++ 34 ∷ text) value text (read_back value text)
