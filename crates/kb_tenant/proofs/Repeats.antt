-- Names that were seen, and those that were seen again.
use Rattle.std.proofs.Common.{◌≡◌, ◌∙◌, ◌⊎◌, inl, inr, sym, ap, refl, subst, ℕ, zero, suc, ◌+◌, ◌<◌, ◌≤◌, List, [], ◌∷◌, length, take, get_or, Bool, true, false, Option, Some, ⊎_elim, arith}
use Rattle.std.specs.Prelude.{cond, is_some, nat_le}
use Rattle.std.specs.List.{count_by}
use Rattle.std.specs.Str.{bytes_eq}
use Rattle.std.proofs.lemmas.Bool.{cases_Bool, false_from_ne_true, le-leb, leb-true, leb-false}
use Rattle.std.proofs.lemmas.List.Sums.{count_by_more_yes, count_by_more_no}
use Rattle.std.proofs.lemmas.Slice.Eq.{bytes_eq-Decides}
use Rattle.kb_api_data.specs.declared.create_topics.CreateTopic.{CreateTopic}
use Rattle.kb_tenant.specs.CreateTopics.{stands_twice}

abbrev pub is_named : List ℕ → CreateTopic → Bool
is_named name t = bytes_eq name t.name

abbrev pub times : List ℕ → List CreateTopic → ℕ
times name ts = count_by (is_named name) ts

-- Kept is just what stands so often among some entries.
abbrev pub Keeps : {V : Type 0} → (List ℕ → Option V) → ℕ → List CreateTopic → Type 0
Keeps kept least ts = (q : List ℕ) → is_some (kept q) ≡ nat_le least (times q ts)

-- An entry more: its name stands once more, and any other as often as before.
one_more : (ts : List CreateTopic) (i : ℕ) (t : CreateTopic) (name q : List ℕ) → i < length ts → t ≡ get_or ts i t → name ≡ t.name
    → ((name ≡ q) × (times q (take (i + 1) ts) ≡ times q (take i ts) + 1)) ⊎ ((bytes_eq name q ≡ false) × (times q (take (i + 1) ts) ≡ times q (take i ts)))
one_more ts i t name q lt is same = ⊎_elim
    (λ yes.
    let test : is_named q (get_or ts i t) ≡ true = ap (λ (x : CreateTopic). bytes_eq q x.name) (sym is) ∙ ap (bytes_eq q) (sym same) ∙ yes in
    let here : q ≡ name = (bytes_eq-Decides q name).0 yes in
    inl (sym here, count_by_more_yes (is_named q) ts i t lt test))
    (λ no.
    let apart : bytes_eq name q ≡ false = false_from_ne_true (bytes_eq name q) (λ bad. absurd (subst (λ b. b ≡ true → ⊥) (sym no) (λ x. cc) ((bytes_eq-Decides q name).1 (sym ((bytes_eq-Decides name q).0 bad))))) in
    let test : is_named q (get_or ts i t) ≡ false = ap (λ (x : CreateTopic). bytes_eq q x.name) (sym is) ∙ ap (bytes_eq q) (sym same) ∙ no in
    inr (apart, count_by_more_no (is_named q) ts i t lt test))
    (cases_Bool (bytes_eq q name))

-- what is kept, once the name is kept too
with_name : {V : Type 0} (old new : List ℕ → Option V) (name q : List ℕ) (v : V) → new q ≡ cond (bytes_eq name q) (Some v) (old q) → name ≡ q → is_some (new q) ≡ true
with_name old new name q v after here = ap is_some (after ∙ ap (λ b. cond b (Some v) (old q)) ((bytes_eq-Decides name q).1 here))

other_name : {V : Type 0} (old new : List ℕ → Option V) (name q : List ℕ) (v : V) → new q ≡ cond (bytes_eq name q) (Some v) (old q) → bytes_eq name q ≡ false → is_some (new q) ≡ is_some (old q)
other_name old new name q v after apart = ap is_some (after ∙ ap (λ b. cond b (Some v) (old q)) apart)

-- one more name is seen
pub seen_more : {V : Type 0} (old new : List ℕ → Option V) (ts : List CreateTopic) (i : ℕ) (t : CreateTopic) (name : List ℕ) (v : V) → i < length ts → t ≡ get_or ts i t → name ≡ t.name
    → Keeps old 1 (take i ts) → ((q : List ℕ) → new q ≡ cond (bytes_eq name q) (Some v) (old q)) → Keeps new 1 (take (i + 1) ts)
seen_more old new ts i t name v lt is same before after q = ⊎_elim
    (λ yes. with_name old new name q v (after q) yes.0 ∙ sym (le-leb 1 (times q (take (i + 1) ts)) (omega (arith, yes.1))))
    (λ no. other_name old new name q v (after q) no.0 ∙ before q ∙ ap (nat_le 1) (sym no.1))
    (one_more ts i t name q lt is same)

-- a name that was seen before comes again
pub again_more : {V W : Type 0} (seen : List ℕ → Option V) (old new : List ℕ → Option W) (ts : List CreateTopic) (i : ℕ) (t : CreateTopic) (name : List ℕ) (w : W) → i < length ts → t ≡ get_or ts i t → name ≡ t.name
    → is_some (seen name) ≡ true → Keeps seen 1 (take i ts) → Keeps old 2 (take i ts) → ((q : List ℕ) → new q ≡ cond (bytes_eq name q) (Some w) (old q)) → Keeps new 2 (take (i + 1) ts)
again_more seen old new ts i t name w lt is same was once before after q = ⊎_elim
    (λ yes.
    let some : 1 ≤ times q (take i ts) = leb-true 1 (times q (take i ts)) (sym (once q) ∙ ap (λ x. is_some (seen x)) (sym yes.0) ∙ was) in
    with_name old new name q w (after q) yes.0 ∙ sym (le-leb 2 (times q (take (i + 1) ts)) (omega (arith, yes.1, some))))
    (λ no. other_name old new name q w (after q) no.0 ∙ before q ∙ ap (nat_le 2) (sym no.1))
    (one_more ts i t name q lt is same)

-- a name that was not seen before comes
pub first_more : {V W : Type 0} (seen : List ℕ → Option V) (old : List ℕ → Option W) (ts : List CreateTopic) (i : ℕ) (t : CreateTopic) (name : List ℕ) → i < length ts → t ≡ get_or ts i t → name ≡ t.name
    → is_some (seen name) ≡ false → Keeps seen 1 (take i ts) → Keeps old 2 (take i ts) → Keeps old 2 (take (i + 1) ts)
first_more seen old ts i t name lt is same was once before q = ⊎_elim
    (λ yes.
    let none : times q (take i ts) < 1 = leb-false 1 (times q (take i ts)) (sym (once q) ∙ ap (λ x. is_some (seen x)) (sym yes.0) ∙ was) in
    let zero : times q (take i ts) ≡ 0 = omega (arith, none) in
    let one : times q (take (i + 1) ts) ≡ 1 = omega (arith, yes.1, none) in
    before q ∙ ap (nat_le 2) zero ∙ sym (ap (nat_le 2) one))
    (λ no. before q ∙ ap (nat_le 2) (sym no.1))
    (one_more ts i t name q lt is same)

take_past : {E : Type 0} (es : List E) (i : ℕ) → length es ≤ i → take i es ≡ es
take_past [] zero h = refl
take_past [] (suc i) h = refl
take_past (e ∷ es) zero h = absurd (omega arith)
take_past (e ∷ es) (suc i) h = ap (λ l. e ∷ l) (take_past es i (omega (arith, h)))

-- all names were looked at
pub repeats_over : {V : Type 0} (kept : List ℕ → Option V) (ts : List CreateTopic) (i : ℕ) → length ts ≤ i → Keeps kept 2 (take i ts) → (q : List ℕ) → is_some (kept q) ≡ stands_twice q ts
repeats_over kept ts i le all q = all q ∙ ap (λ l. nat_le 2 (times q l)) (take_past ts i le)
