-- What is added to a text, one behind the other.
use Rattle.std.proofs.Common.{◌≡◌, ◌∙◌, ◌<◌, ◌+◌, ◌++◌, ◌||◌, ◌∷◌, [], Bool, true, false, ℕ, List, Result, Ok, Err, ap, append-nil, append_assoc, codes, drop, get_or, length, map, refl, subst, sym}
use Rattle.std.proofs.lemmas.List.{drop_more}
use Rattle.std.specs.List.{flat_map, list_any}
use Rattle.std.specs.Prelude.{OnErr, OnOk}
use Rattle.std.specs.Io.KnownBytes.{Appends, Keeps}
use Rattle.std.proofs.KnownBytes.{Appends-kept, Appends-nil}
use Rattle.std.proofs.lemmas.Grind.{flat_map-append}
use Rattle.std.specs.Prelude.{Option}
use Rattle.kb_operator.specs.Report.{lines_text}
use Rattle.kb_operator.specs.Shown.{quoted_behind, quoted_byte}
use Rattle.kb_operator.specs.Written.{WritesFront}

-- one more piece
pub piece : (t m new done more : List ℕ) → m ≡ t ++ done → new ≡ m ++ more → new ≡ t ++ (done ++ more)
piece t m new done more had is = is ∙ ap (λ x. x ++ more) had ∙ append_assoc t done more

-- more lines
pub lines_more : (t m new : List ℕ) (done more : List (List ℕ)) → m ≡ t ++ lines_text done → new ≡ m ++ lines_text more
    → new ≡ t ++ lines_text (done ++ more)
lines_more t m new done more had is =
    piece t m new (lines_text done) (lines_text more) had is ∙ ap (λ x. t ++ x) (sym (flat_map-append (λ line. line ++ codes "\n") done more))

-- one more line
pub line_more : (t m new : List ℕ) (done : List (List ℕ)) (line : List ℕ) → m ≡ t ++ lines_text done → new ≡ m ++ (line ++ codes "\n")
    → new ≡ t ++ lines_text (done ++ line ∷ [])
line_more t m new done line had is =
    lines_more t m new done (line ∷ []) had (is ∙ ap (λ x. m ++ x) (sym (append-nil (line ++ codes "\n"))))

-- the first one
pub line_one : (t new line : List ℕ) → new ≡ t ++ (line ++ codes "\n") → new ≡ t ++ lines_text (line ∷ [])
line_one t new line is = is ∙ ap (λ x. t ++ x) (sym (append-nil (line ++ codes "\n")))

-- the same of the last call, which may be refused
pub piece_ok : {A E : Type 0} (r : Result A E) (t m new done more : List ℕ) → m ≡ t ++ done → OnOk r (new ≡ m ++ more) → OnOk r (new ≡ t ++ (done ++ more))
piece_ok (Ok a) t m new done more had is = piece t m new done more had is
piece_ok (Err e) t m new done more had is = tt

pub lines_ok : {A E : Type 0} (r : Result A E) (t m new : List ℕ) (done more : List (List ℕ)) → m ≡ t ++ lines_text done
    → OnOk r (new ≡ m ++ lines_text more) → OnOk r (new ≡ t ++ lines_text (done ++ more))
lines_ok (Ok a) t m new done more had is = lines_more t m new done more had is
lines_ok (Err e) t m new done more had is = tt

pub line_ok : {A E : Type 0} (r : Result A E) (t m new : List ℕ) (done : List (List ℕ)) (line : List ℕ) → m ≡ t ++ lines_text done
    → OnOk r (new ≡ m ++ (line ++ codes "\n")) → OnOk r (new ≡ t ++ lines_text (done ++ line ∷ []))
line_ok (Ok a) t m new done line had is = line_more t m new done line had is
line_ok (Err e) t m new done line had is = tt

-- nothing was written
pub no_front : {A E : Type 0} (r : Result A E) (text : List ℕ) (a : Option (List ℕ)) → OnErr r (WritesFront text a a)
no_front (Ok x) text a = tt
no_front (Err e) text a = record { front = []; rest = text; split = refl; wrote = Appends-nil a }

-- the line of one more item, where those of the others are left
pub lines_left : {X : Type 0} (f : X → List ℕ) (xs : List X) (i : ℕ) (x : X) (m new all : List ℕ) → i < length xs → x ≡ get_or xs i x
    → new ≡ m ++ (f x ++ codes "\n") → m ++ lines_text (map f (drop i xs)) ≡ all → new ++ lines_text (map f (drop (i + 1) xs)) ≡ all
lines_left f xs i x m new all lt at is told =
    let rest = lines_text (map f (drop (i + 1) xs)) in
    ap (λ z. z ++ rest) is ∙ append_assoc m (f x ++ codes "\n") rest ∙ ap (λ y. m ++ ((f y ++ codes "\n") ++ rest)) at
    ∙ ap (λ ys. m ++ lines_text (map f ys)) (sym (drop_more xs i x lt)) ∙ told

-- the same of a part of a line
pub parts_left : {X A : Type 0} (f : X → List A) (xs : List X) (i : ℕ) (x : X) (m new all : List A) → i < length xs → x ≡ get_or xs i x
    → new ≡ m ++ f x → m ++ flat_map f (drop i xs) ≡ all → new ++ flat_map f (drop (i + 1) xs) ≡ all
parts_left f xs i x m new all lt at is told =
    let rest = flat_map f (drop (i + 1) xs) in
    ap (λ z. z ++ rest) is ∙ append_assoc m (f x) rest ∙ ap (λ y. m ++ (f y ++ rest)) at
    ∙ ap (λ ys. m ++ flat_map f ys) (sym (drop_more xs i x lt)) ∙ told

-- the same of a byte in quotes, whose form is by the one before it
pub bytes_left : (xs : List ℕ) (i d before : ℕ) (m new all : List ℕ) → i < length xs → new ≡ m ++ quoted_byte before (get_or xs i d)
    → m ++ quoted_behind before (drop i xs) ≡ all → new ++ quoted_behind (get_or xs i d) (drop (i + 1) xs) ≡ all
bytes_left xs i d before m new all lt is told =
    let rest = quoted_behind (get_or xs i d) (drop (i + 1) xs) in
    ap (λ z. z ++ rest) is ∙ append_assoc m (quoted_byte before (get_or xs i d)) rest
    ∙ ap (λ ys. m ++ quoted_behind before ys) (sym (drop_more xs i d lt)) ∙ told

-- none of those so far passes a test, and the next one does not
pub none_left : {X : Type 0} (test : X → Bool) (xs : List X) (i : ℕ) (x : X) (all : Bool) → i < length xs → x ≡ get_or xs i x
    → test x ≡ false → list_any test (drop i xs) ≡ all → list_any test (drop (i + 1) xs) ≡ all
none_left test xs i x all lt at fails told =
    sym (ap (λ b. b || list_any test (drop (i + 1) xs)) (sym (ap test at) ∙ fails)) ∙ ap (list_any test) (sym (drop_more xs i x lt)) ∙ told

-- the next one does
pub one_left : {X : Type 0} (test : X → Bool) (xs : List X) (i : ℕ) (x : X) (all : Bool) → i < length xs → x ≡ get_or xs i x
    → test x ≡ true → list_any test (drop i xs) ≡ all → true ≡ all
one_left test xs i x all lt at passes told =
    sym (ap (λ b. b || list_any test (drop (i + 1) xs)) (sym (ap test at) ∙ passes)) ∙ ap (list_any test) (sym (drop_more xs i x lt)) ∙ told

-- a line whose end comes last
pub whole_line_ok : {A E : Type 0} (r : Result A E) (t m new line : List ℕ) → m ≡ t ++ line → OnOk r (new ≡ m ++ codes "\n")
    → OnOk r (new ≡ t ++ lines_text (line ∷ []))
whole_line_ok (Ok a) t m new line had is = line_one t new line (piece t m new line (codes "\n") had is)
whole_line_ok (Err e) t m new line had is = tt

-- all was written
pub whole_front : (bytes text : List ℕ) (a b c : Option (List ℕ)) → bytes ≡ text → Appends a b bytes → Keeps b c → WritesFront text a c
whole_front bytes text a b c is wrote kept =
    record { front = text; rest = []; split = sym (append-nil text); wrote = subst (Appends a c) is (Appends-kept a b c bytes wrote kept) }
