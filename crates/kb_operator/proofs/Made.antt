-- Texts that are made, and lines of which each is whole.
use Rattle.std.proofs.Common.{◌≡◌, ◌≢◌, ◌∙◌, ◌++◌, ◌∷◌, [], ℕ, List, Option, Some, None, Result, Ok, Err, ap, arith, length, map, refl, string_bytes, subst, sym}
use Rattle.std.specs.Prelude.{IsErr, IsSome}
use Rattle.std.specs.Vec.{with_items}
use Rattle.std.specs.declared.vec.Vec.{Vec}
use Rattle.std.specs.declared.string.String.{String}
use Rattle.std.proofs.lemmas.Bool.{false≢true}
use Rattle.std.proofs.lemmas.List.{length-map, map-append, with_items_is}
use Rattle.kb_operator.specs.Logged.{Grows, LogLine, MakesTexts, lines_at, texts_of}
use Rattle.kb_operator.specs.Report.{bytes_of_each}
use Rattle.kb_operator.proofs.Logged.{grows_both}

pub no_item : {X : Type 0} (x : X) (xs : List X) → x ∷ xs ≢ []
no_item x xs is = let none = ap length is in absurd (omega arith)

-- there is a text where one more had to be made
pub some_text : (told rest all : List (List ℕ)) (text : Option (List ℕ)) → IsSome text → (told ++ texts_of text) ++ rest ≡ all → all ≢ []
some_text told rest all None h is none = absurd (false≢true h)
some_text [] rest all (Some text) h is none = no_item text rest (is ∙ none)
some_text (t ∷ ts) rest all (Some text) h is none = no_item t ((ts ++ text ∷ []) ++ rest) (is ∙ none)

-- no item is left
pub no_items : {X : Type 0} (xs : List X) → length xs ≡ 0 → xs ≡ []
no_items [] none = refl
no_items (x ∷ xs) none = absurd (omega arith)

-- one more text is told
pub told_more : {A : Type 0} (now : ℕ) (texts : List (String A)) (text : String A) (a b c : Option (List LogLine))
    → Grows a b (lines_at now (bytes_of_each texts)) → Grows b c (record { moment = Some now; text = Some (string_bytes text) } ∷ [])
    → Grows a c (lines_at now (bytes_of_each (texts ++ text ∷ [])))
told_more {A = A} now texts text a b c p q =
    let line : List ℕ → LogLine = λ t. record { moment = Some now; text = Some t } in
    let bytes : String A → List ℕ = λ t. string_bytes t in
    let lines : lines_at now (bytes_of_each (texts ++ text ∷ [])) ≡ lines_at now (bytes_of_each texts) ++ line (bytes text) ∷ [] =
    ap (map line) (map-append bytes texts (text ∷ [])) ∙ map-append line (map bytes texts) (bytes text ∷ []) in
    subst (Grows a c) (sym lines) (grows_both a b c (lines_at now (bytes_of_each texts)) (line (bytes text) ∷ []) p q)

-- memory ran out
pub makes_none : {A B E : Type 0} (wanted : List (List ℕ)) (r : Result (Vec (String A) B) E) → IsErr r → wanted ≢ [] → MakesTexts wanted r
makes_none wanted (Ok texts) err some = absurd (false≢true err)
makes_none wanted (Err e) err some = some

-- each item of a Vec is marked
pub marked_items : {X Z : Type 0} (f : X → X) (v : Vec X Z) (ws : List X) → ws ≡ map f v.items → (with_items v ws).items ≡ map f v.items
marked_items f v ws is = with_items_is v ws (ap length is ∙ length-map v.items f ∙ sym v.ok.0) ∙ is
