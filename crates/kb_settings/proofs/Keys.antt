-- The keys of a document that are not known.
use Rattle.std.proofs.Common.{◌≡◌, ℕ, Bor, true, false, cond, Less, string_bytes, ◌||◌, List, [], ◌∷◌, map, refl, ap, ◌∙◌}
use Rattle.std.specs.List.{AllByRecursion, list_any}
use Rattle.std.specs.List.Sorted.{IsStrictlySortedBy}
use Rattle.std.specs.Map.{keys_of}
use Rattle.std.specs.String.{string_cmp}
use Rattle.std.specs.Str.{bytes_eq}
use Rattle.std.specs.Cmp.Lexicographic.{nat_list_eq_equiv}
use Rattle.toml.specs.View.{members_view}
use Rattle.toml.proofs.Views.{Entry}
use Rattle.kb_settings.specs.Names.{byte_order}
use Rattle.kb_settings.specs.Document.{first, other_key, other_keys}
use Rattle.kb_settings.proofs.NamesInOrder.{Below, Rises, only-in_order}

pub any-known : (key : List ℕ) (keys : List (Bor (List ℕ))) → list_any (λ k. bytes_eq k.now key) keys ≡ list_any (bytes_eq key) (map (λ k. k.now) keys)
any-known key [] = refl
any-known key (k ∷ keys) = ap (λ b. b || list_any (λ k. bytes_eq k.now key) keys) (nat_list_eq_equiv.symm k.now key) ∙ ap (λ b. bytes_eq key k.now || b) (any-known key keys)

-- the other keys of a document rise, as its keys do

below-others : (k : List ℕ) (known : List (List ℕ)) (es : List Entry) → AllByRecursion (λ y. byte_order k (string_bytes y) ≡ Less) (keys_of es) → Below k (other_keys known (members_view es))
below-others k known [] h = tt
below-others k known (e ∷ es) h =
    elim (list_any (bytes_eq (string_bytes e.0)) known) as (λ b. Below k (cond b (other_keys known (members_view es)) (string_bytes e.0 ∷ other_keys known (members_view es)))) [
      | true ↦ below-others k known es h.1
      | false ↦ (h.0, below-others k known es h.1)
    ]

rises-others : (known : List (List ℕ)) (es : List Entry) → IsStrictlySortedBy string_cmp (keys_of es) → Rises (other_keys known (members_view es))
unfolding IsStrictlySortedBy
rises-others known [] h = tt
rises-others known (e ∷ es) h =
    elim (list_any (bytes_eq (string_bytes e.0)) known) as (λ b. Rises (cond b (other_keys known (members_view es)) (string_bytes e.0 ∷ other_keys known (members_view es)))) [
      | true ↦ rises-others known es h.1
      | false ↦ (below-others (string_bytes e.0) known es h.0, rises-others known es h.1)
    ]

pub others-in-order : (known : List (List ℕ)) (es : List Entry) → IsStrictlySortedBy string_cmp (keys_of es) → first (other_keys known (members_view es)) ≡ other_key known (members_view es)
others-in-order known es h = ap first (only-in_order (other_keys known (members_view es)) (other_keys known (members_view es)) (rises-others known es h) (λ q. refl))
