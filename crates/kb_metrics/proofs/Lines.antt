-- The lines of a page that have a tenant's label are what the families say of it.
use Rattle.std.proofs.Common.{◌≡◌, ◌∙◌, ◌+◌, ◌/◌, ◌%◌, nat_lt, ℕ, zero, suc, List, [], ◌∷◌, ◌++◌, ◌==◌, ◌&&◌, not, Bool, true, false, refl, sym, ap, subst, arith, cond}
use Rattle.std.proofs.Common.{append_assoc, append-nil, bytes_eq, codes, decimal, drop, take, filter, length, nat_eq, Option, Some, None, ℤ, pos, negsuc}
use Rattle.std.proofs.lemmas.Bool.Decides.{nat_tests}
use Rattle.std.proofs.lemmas.Cmp.{nat_list_eq_equiv}
use Rattle.std.proofs.lemmas.Grind.{flat_map-append}
use Rattle.std.proofs.lemmas.List.Folds.{list_all-append}
use Rattle.std.specs.Fmt.{digits, digits_onto, digit_glyph, signed_decimal}
use Rattle.std.specs.List.{after_first, flat_map, list_all, onto_first, prefix_len, slice_split, starts_with}
use Rattle.std.specs.Cmp.Lexicographic.{same_text}
use Rattle.kb_metrics.specs.Lines.{is_brace, is_line_feed, is_line_of, text_of_lines, lines_of}
use Rattle.kb_metrics.specs.Families.{tenant_label}
use Rattle.kb_metrics.specs.Text.{behind_text, escape, escaped, front_text, label_text, more_text, value_read}
use Rattle.kb_metrics.proofs.Reading.{read_back}

pub both : (p q : Bool) → (p && q) ≡ true → (p ≡ true) × (q ≡ true)
both true q h = (refl, h)
both false q h = absurd cc

not_true : (c : Bool) → not c ≡ true → c ≡ false
not_true true h = absurd cc
not_true false h = refl

same : (a b : Bool) → (a ≡ true → b ≡ true) → (b ≡ true → a ≡ true) → a ≡ b
same true b h k = sym (h refl)
same false true h k = k refl
same false false h k = refl

-- ---- a line, and what stands behind it

-- a byte inside a line
abbrev pub is_inner : ℕ → Bool
is_inner b = not (b == 10)

abbrev pub inner : List ℕ → Bool
inner text = list_all is_inner text

split_line : (line rest : List ℕ) → list_all is_inner line ≡ true
    → slice_split is_line_feed (line ++ 10 ∷ rest) ≡ line ∷ slice_split is_line_feed rest
split_line [] rest h = refl
split_line (b ∷ line) rest h =
    let s = both (is_inner b) (list_all is_inner line) h in
    ap (λ c. cond c ([] ∷ slice_split is_line_feed (line ++ 10 ∷ rest)) (onto_first b (slice_split is_line_feed (line ++ 10 ∷ rest)))) (not_true (b == 10) s.0)
    ∙ ap (onto_first b) (split_line line rest s.1)

-- the first line is there where it has the label
first_line : (name line rest : List ℕ) → list_all is_inner line ≡ true
    → lines_of name (line ++ 10 ∷ rest) ≡ cond (is_line_of name line) (line ∷ lines_of name rest) (lines_of name rest)
unfolding lines_of
first_line name line rest h = ap (filter (is_line_of name)) (split_line line rest h)

-- ---- the first label

abbrev pub is_outside : ℕ → Bool
is_outside b = not (b == 123)

drop_one_more : (n b : ℕ) (xs : List ℕ) → drop (1 + n + 1) (b ∷ xs) ≡ drop (n + 1) xs
drop_one_more n b xs = ap (λ k. drop k (b ∷ xs)) e where
  e : 1 + n + 1 ≡ suc (n + 1)
  e = omega arith

pub behind_brace : (front rest : List ℕ) → list_all is_outside front ≡ true → after_first is_brace (front ++ 123 ∷ rest) ≡ rest
behind_brace [] rest h = refl
behind_brace (b ∷ front) rest h =
    let s = both (is_outside b) (list_all is_outside front) h in
    ap (λ c. drop (cond (not c) (1 + prefix_len (λ x. not (is_brace x)) (front ++ 123 ∷ rest)) 0 + 1) (b ∷ front ++ 123 ∷ rest)) (not_true (b == 123) s.0)
    ∙ drop_one_more (prefix_len (λ x. not (is_brace x)) (front ++ 123 ∷ rest)) b (front ++ 123 ∷ rest) ∙ behind_brace front rest s.1

no_brace : (line : List ℕ) → list_all is_outside line ≡ true → after_first is_brace line ≡ []
no_brace [] h = refl
no_brace (b ∷ line) h =
    let s = both (is_outside b) (list_all is_outside line) h in
    ap (λ c. drop (cond (not c) (1 + prefix_len (λ x. not (is_brace x)) line) 0 + 1) (b ∷ line)) (not_true (b == 123) s.0)
    ∙ drop_one_more (prefix_len (λ x. not (is_brace x)) line) b line ∙ no_brace line s.1

-- ---- whose label it is

text_is : (s p : List ℕ) → starts_with nat_eq s p ≡ true → s ≡ p ++ drop (length p) s
text_is s p h = sym (take_drop (length p) s) ∙ ap (λ t. t ++ drop (length p) s) (sym (same_text p (take (length p) s) (sym h)))
  where
    take_drop : (n : ℕ) (xs : List ℕ) → take n xs ++ drop n xs ≡ xs
    take_drop zero xs = refl
    take_drop (suc n) [] = refl
    take_drop (suc n) (x ∷ xs) = ap (λ t. x ∷ t) (take_drop n xs)

starts_so : (p rest : List ℕ) → starts_with nat_eq (p ++ rest) p ≡ true
starts_so [] rest = refl
starts_so (b ∷ p) rest = ap (λ c. c && starts_with nat_eq (p ++ rest) p) (both (nat_eq b b) true (nat_list_eq_equiv.refl (b ∷ []))).0 ∙ starts_so p rest

-- what stands behind the name of the label
value_behind : (name rest : List ℕ) → drop 8 (label_text (tenant_label name) ++ rest) ≡ escaped name ++ 34 ∷ rest
value_behind name rest = append_assoc (escaped name) (34 ∷ []) rest

the_value : Option (List ℕ × List ℕ) → List ℕ
the_value None = []
the_value (Some read) = read.0

one_name : (own name rest more : List ℕ) → label_text (tenant_label own) ++ rest ≡ label_text (tenant_label name) ++ more → own ≡ name
unfolding the_value
one_name own name rest more e =
    let texts = sym (value_behind own rest) ∙ ap (drop 8) e ∙ value_behind name more in
    ap the_value (sym (read_back own rest) ∙ ap (value_read false) texts ∙ read_back name more)

equal : (own name : List ℕ) → own ≡ name → bytes_eq own name ≡ true
equal own name e = subst (λ n. bytes_eq own n ≡ true) e (nat_list_eq_equiv.refl own)

-- a line begins with the label of its own tenant, and of no other
its_label : (own name rest : List ℕ) → starts_with nat_eq (label_text (tenant_label own) ++ rest) (label_text (tenant_label name)) ≡ bytes_eq own name
its_label own name rest = same _ _
    (λ h. equal own name (one_name own name rest (drop (length (label_text (tenant_label name))) (label_text (tenant_label own) ++ rest)) (text_is (label_text (tenant_label own) ++ rest) (label_text (tenant_label name)) h)))
    (λ h. subst (λ n. starts_with nat_eq (label_text (tenant_label own) ++ rest) (label_text (tenant_label n)) ≡ true) (same_text own name (sym h))
    (starts_so (label_text (tenant_label own)) rest))

its_line : (own name fname rest : List ℕ) → list_all is_outside fname ≡ true
    → is_line_of name (fname ++ 123 ∷ (label_text (tenant_label own) ++ rest)) ≡ bytes_eq own name
its_line own name fname rest h =
    ap (λ t. starts_with nat_eq t (label_text (tenant_label name))) (behind_brace fname (label_text (tenant_label own) ++ rest) h) ∙ its_label own name rest

-- ---- what is inside a line

pub onto : (a b : List ℕ) → inner a ≡ true → inner b ≡ true → inner (a ++ b) ≡ true
onto a b h k = list_all-append is_inner a b ∙ ap (λ c. c && list_all is_inner b) h ∙ k

escape_inner : (b : ℕ) → inner (escape b) ≡ true
escape_inner b = go (b == 92) (b == 34) (b == 10) refl
  where
    go : (slash quote feed : Bool) → (b == 10) ≡ feed
        → list_all is_inner (cond slash (92 ∷ 92 ∷ []) (cond quote (92 ∷ 34 ∷ []) (cond feed (92 ∷ 110 ∷ []) (b ∷ [])))) ≡ true
    go true quote feed h = refl
    go false true feed h = refl
    go false false true h = refl
    go false false false h = ap (λ c. not c && true) h

escaped_inner : (value : List ℕ) → inner (escaped value) ≡ true
escaped_inner [] = refl
escaped_inner (b ∷ value) = onto (escape b) (escaped value) (escape_inner b) (escaped_inner value)

pub label_inner : (name value : List ℕ) → inner name ≡ true → inner (label_text (name, value)) ≡ true
label_inner name value h = onto (name ++ 61 ∷ 34 ∷ escaped value) (34 ∷ []) (onto name (61 ∷ 34 ∷ escaped value) h (escaped_inner value)) refl

-- a byte that ends no line, and opens no labels
abbrev pub is_quiet : ℕ → Bool
is_quiet b = is_inner b && is_outside b

abbrev pub quiet : List ℕ → Bool
quiet text = list_all is_quiet text

pub quiet_onto : (a b : List ℕ) → quiet a ≡ true → quiet b ≡ true → quiet (a ++ b) ≡ true
quiet_onto a b h k = list_all-append is_quiet a b ∙ ap (λ c. c && quiet b) h ∙ k

pub quiet_one : (b : ℕ) (text : List ℕ) → is_quiet b ≡ true → quiet text ≡ true → quiet (b ∷ text) ≡ true
quiet_one b text h k = ap (λ c. c && quiet text) h ∙ k

pub quiet_is : (text : List ℕ) → quiet text ≡ true → (inner text ≡ true) × (list_all is_outside text ≡ true)
quiet_is [] h = (refl, refl)
quiet_is (b ∷ text) h =
    let s = both (is_quiet b) (quiet text) h in
    let one = both (is_inner b) (is_outside b) s.0 in
    let more = quiet_is text s.1 in
    (ap (λ c. c && inner text) one.0 ∙ more.0, ap (λ c. c && list_all is_outside text) one.1 ∙ more.1)

pub quiet_digit : (n : ℕ) → is_quiet (48 + n % 10) ≡ true
quiet_digit n = grind (arith, nat_tests)

glyph_quiet : (n : ℕ) → is_quiet (digit_glyph false (n % 10)) ≡ true
glyph_quiet n = ap (λ c. is_quiet (cond c (48 + n % 10) (87 + n % 10))) small ∙ quiet_digit n
  where
    small : nat_lt (n % 10) 10 ≡ true
    small = grind (arith, nat_tests)

chosen : (c : Bool) (a b : List ℕ) → quiet a ≡ true → quiet b ≡ true → quiet (cond c a b) ≡ true
chosen true a b h k = h
chosen false a b h k = k

digits_quiet : (k n : ℕ) (behind : List ℕ) → quiet behind ≡ true → quiet (digits_onto k 10 false n behind) ≡ true
digits_quiet zero n behind h = h
digits_quiet (suc k) n behind h =
    let g : quiet (digit_glyph false (n % 10) ∷ behind) ≡ true = quiet_one (digit_glyph false (n % 10)) behind (glyph_quiet n) h in
    chosen (n / 10 == 0) _ _ g (digits_quiet k (n / 10) (digit_glyph false (n % 10) ∷ behind) g)

pub decimal_quiet : (n : ℕ) → quiet (decimal n) ≡ true
unfolding digits
decimal_quiet n = digits_quiet 64 n [] refl

pub decimal_inner : (n : ℕ) → inner (decimal n) ≡ true
decimal_inner n = (quiet_is (decimal n) (decimal_quiet n)).0

pub signed_inner : (z : ℤ) → inner (signed_decimal z) ≡ true
signed_inner (pos n) = decimal_inner n
signed_inner (negsuc n) = decimal_inner (suc n)

pub more_inner : (l : List ℕ × List ℕ) → inner l.0 ≡ true → inner (more_text l) ≡ true
more_inner l h = label_inner l.0 l.1 h

-- ---- what is said of a tenant: lines with its own label

pub record Says (own text : List ℕ) : Type 0 where
  pub lines : List (List ℕ)
  pub whole : text_of_lines lines ≡ text
  pub mine : (name rest : List ℕ) → bytes_eq own name ≡ true → lines_of name (text ++ rest) ≡ lines ++ lines_of name rest
  pub others : (name rest : List ℕ) → bytes_eq own name ≡ false → lines_of name (text ++ rest) ≡ lines_of name rest

pub says_nothing : {own : List ℕ} → Says own []
says_nothing = record { lines = []; whole = refl; mine = λ name rest e. refl; others = λ name rest e. refl }

pub joined_both : (xs ys : List (List ℕ)) → text_of_lines (xs ++ ys) ≡ text_of_lines xs ++ text_of_lines ys
joined_both xs ys = flat_map-append (λ line. line ++ 10 ∷ []) xs ys

pub says_both : {own a b : List ℕ} → Says own a → Says own b → Says own (a ++ b)
says_both {own} {a} {b} p q = record {
  lines = p.lines ++ q.lines;
  whole = joined_both p.lines q.lines ∙ ap (λ t. t ++ text_of_lines q.lines) p.whole ∙ ap (λ t. a ++ t) q.whole;
  mine = λ name rest e. ap (lines_of name) (append_assoc a b rest) ∙ p.mine name (b ++ rest) e ∙ ap (λ ls. p.lines ++ ls) (q.mine name rest e)
      ∙ sym (append_assoc p.lines q.lines (lines_of name rest));
  others = λ name rest e. ap (lines_of name) (append_assoc a b rest) ∙ p.others name (b ++ rest) e ∙ q.others name rest e;
}

pub says_each : {X : Type 0} {own : List ℕ} (f : X → List ℕ) → ((x : X) → Says own (f x)) → (xs : List X) → Says own (flat_map f xs)
says_each f each [] = says_nothing
says_each f each (x ∷ xs) = says_both (each x) (says_each f each xs)

says_line : (own line : List ℕ) → inner line ≡ true → ((name : List ℕ) → is_line_of name line ≡ bytes_eq own name) → Says own (line ++ 10 ∷ [])
says_line own line h its = record {
  lines = line ∷ [];
  whole = append-nil (line ++ 10 ∷ []);
  mine = λ name rest e. ap (lines_of name) (append_assoc line (10 ∷ []) rest) ∙ first_line name line rest h
      ∙ ap (λ c. cond c (line ∷ lines_of name rest) (lines_of name rest)) (its name ∙ e);
  others = λ name rest e. ap (lines_of name) (append_assoc line (10 ∷ []) rest) ∙ first_line name line rest h
      ∙ ap (λ c. cond c (line ∷ lines_of name rest) (lines_of name rest)) (its name ∙ e);
}

pub as_sample : (fname label more value : List ℕ)
    → (fname ++ 123 ∷ (label ++ (more ++ 125 ∷ 32 ∷ value))) ++ 10 ∷ [] ≡ (fname ++ 123 ∷ label) ++ more ++ 125 ∷ (32 ∷ value ++ 10 ∷ [])
as_sample fname label more value = simp append_assoc

-- a sample, whatever labels it has behind that of its tenant
pub says_sample : (own fname : List ℕ) (more : List (List ℕ × List ℕ)) (value : List ℕ) → list_all is_outside fname ≡ true → inner fname ≡ true
    → inner (flat_map more_text more) ≡ true → inner value ≡ true → Says own (behind_text (front_text fname (tenant_label own)) more value)
says_sample own fname more value outside n m v =
    let label : List ℕ = label_text (tenant_label own) in
    let tail : List ℕ = flat_map more_text more ++ 125 ∷ 32 ∷ value in
    let line : List ℕ = fname ++ 123 ∷ (label ++ tail) in
    let inside : inner (123 ∷ (label ++ tail)) ≡ true =
    onto label tail (label_inner (codes "tenant") own refl) (onto (flat_map more_text more) (125 ∷ 32 ∷ value) m v) in
    let fits : inner line ≡ true = onto fname (123 ∷ (label ++ tail)) n inside in
    subst (Says own) (as_sample fname label (flat_map more_text more) value) (says_line own line fits (λ name. its_line own name fname tail outside))

-- ---- lines of nobody

pub record Silent (text : List ℕ) : Type 0 where
  pub silent : (name rest : List ℕ) → lines_of name (text ++ rest) ≡ lines_of name rest

pub silent_nothing : Silent []
silent_nothing = record { silent = λ name rest. refl }

pub silent_both : {a b : List ℕ} → Silent a → Silent b → Silent (a ++ b)
silent_both {a} {b} p q = record { silent = λ name rest. ap (lines_of name) (append_assoc a b rest) ∙ p.silent name (b ++ rest) ∙ q.silent name rest }

pub silent_each : {X : Type 0} (f : X → List ℕ) → ((x : X) → Silent (f x)) → (xs : List X) → Silent (flat_map f xs)
silent_each f each [] = silent_nothing
silent_each f each (x ∷ xs) = silent_both (each x) (silent_each f each xs)

-- a line that is nobody's
pub silent_line : (line : List ℕ) → inner line ≡ true → ((name : List ℕ) → is_line_of name line ≡ false) → Silent (line ++ 10 ∷ [])
silent_line line h nobody = record {
  silent = λ name rest. ap (lines_of name) (append_assoc line (10 ∷ []) rest) ∙ first_line name line rest h
      ∙ ap (λ c. cond c (line ∷ lines_of name rest) (lines_of name rest)) (nobody name);
}

pub silent_quiet : (line : List ℕ) → quiet line ≡ true → Silent (line ++ 10 ∷ [])
silent_quiet line h = silent_line line (quiet_is line h).0
    (λ name. ap (λ t. starts_with nat_eq t (label_text (tenant_label name))) (no_brace line (quiet_is line h).1))
