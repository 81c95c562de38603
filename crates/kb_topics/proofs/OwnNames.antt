-- Topics of different names, after one was added, taken out or changed.
use Rattle.std.proofs.Common.{◌≡◌, ◌∙◌, ℕ, Bool, true, false, cond, List, [], ◌∷◌, Option, Some, None, refl, sym, ap}
use Rattle.std.specs.Ordering.{nat_cmp, match_ordering}
use Rattle.std.specs.declared.cmp.Ordering.{Ordering}
use Rattle.std.specs.declared.cmp.Ordering.TheVariants.{Less, Equal, Greater}
use Rattle.std.specs.Map.{remove_entry, set_value}
use Rattle.std.specs.BTreeMap.{insert_entry, is_at}
use Rattle.std.specs.Str.{bytes_eq}
use Rattle.kb_topics.specs.Known.{PartitionState, TopicState, named, put_topic, topic_at, with_part}
use Rattle.kb_topics.proofs.Links.{bytes_alike, bytes_same}
use Rattle.kb_topics.specs.WellFormed.{AreNamedApart}
use Rattle.kb_topics.proofs.Names.{named_set}

-- a name that no topic has is not the first one's, nor one of the others'
not_first : (q : List ℕ) (e : ℕ × TopicState) (ts : List (ℕ × TopicState)) → named q (e ∷ ts) ≡ None → (bytes_eq q e.1.name ≡ false) × (named q ts ≡ None)
not_first q e ts none = by (bytes_eq q e.1.name) none
  where
    by : (b : Bool) → cond b (Some e.0) (named q ts) ≡ None → (b ≡ false) × (named q ts ≡ None)
    by true h = absurd cc
    by false h = (refl, h)

other_way : (p q : List ℕ) → bytes_eq p q ≡ false → bytes_eq q p ≡ false
other_way p q differ = by (bytes_eq q p) refl
  where
    by : (b : Bool) → bytes_eq q p ≡ b → bytes_eq q p ≡ false
    by false is = is
    by true is = absurd (let same : bytes_eq p q ≡ true = bytes_alike p q (sym (bytes_same q p is)) in cc)

-- ---- one is added

still_none : (ts : List (ℕ × TopicState)) (n : ℕ) (t : TopicState) (q : List ℕ) → named q ts ≡ None → bytes_eq q t.name ≡ false → named q (insert_entry nat_cmp ts n t) ≡ None
still_none [] n t q none other = ap (λ b. cond b (Some n) None) other
still_none (e ∷ ts) n t q none other = by (nat_cmp n e.0) (not_first q e ts none) (still_none ts n t q)
  where
    by : (o : Ordering) → (bytes_eq q e.1.name ≡ false) × (named q ts ≡ None) → (named q ts ≡ None → bytes_eq q t.name ≡ false → named q (insert_entry nat_cmp ts n t) ≡ None)
        → named q (match_ordering {X = List (ℕ × TopicState)} o ((n, t) ∷ e ∷ ts) ((e.0, t) ∷ ts) (e ∷ insert_entry nat_cmp ts n t)) ≡ None
    by Less apart rest = ap (λ b. cond b (Some n) (named q (e ∷ ts))) other ∙ none
    by Equal apart rest = ap (λ b. cond b (Some e.0) (named q ts)) other ∙ apart.1
    by Greater apart rest = ap (λ b. cond b (Some e.0) (named q (insert_entry nat_cmp ts n t))) apart.0 ∙ rest apart.1 other

pub apart_inserted : (ts : List (ℕ × TopicState)) (n : ℕ) (t : TopicState) → named t.name ts ≡ None → AreNamedApart ts → AreNamedApart (insert_entry nat_cmp ts n t)
apart_inserted [] n t none apart = (refl, tt)
apart_inserted (e ∷ ts) n t none apart = by (nat_cmp n e.0) (not_first t.name e ts none) (apart_inserted ts n t)
  where
    by : (o : Ordering) → (bytes_eq t.name e.1.name ≡ false) × (named t.name ts ≡ None) → (named t.name ts ≡ None → AreNamedApart ts → AreNamedApart (insert_entry nat_cmp ts n t))
        → AreNamedApart (match_ordering {X = List (ℕ × TopicState)} o ((n, t) ∷ e ∷ ts) ((e.0, t) ∷ ts) (e ∷ insert_entry nat_cmp ts n t))
    by Less first rest = (none, apart)
    by Equal first rest = (first.1, apart.1)
    by Greater first rest = (still_none ts n t e.1.name apart.0 (other_way t.name e.1.name first.0), rest first.1 apart.1)

-- ---- one is taken out

none_left : (test : ℕ → Bool) (ts : List (ℕ × TopicState)) (q : List ℕ) → named q ts ≡ None → named q (remove_entry test ts) ≡ None
none_left test [] q none = refl
none_left test (e ∷ ts) q none = by (test e.0) (not_first q e ts none) (none_left test ts q)
  where
    by : (b : Bool) → (bytes_eq q e.1.name ≡ false) × (named q ts ≡ None) → (named q ts ≡ None → named q (remove_entry test ts) ≡ None)
        → named q (cond {A = List (ℕ × TopicState)} b ts (e ∷ remove_entry test ts)) ≡ None
    by true apart rest = apart.1
    by false apart rest = ap (λ b. cond b (Some e.0) (named q (remove_entry test ts))) apart.0 ∙ rest apart.1

pub apart_removed : (test : ℕ → Bool) (ts : List (ℕ × TopicState)) → AreNamedApart ts → AreNamedApart (remove_entry test ts)
apart_removed test [] apart = tt
apart_removed test (e ∷ ts) apart = by (test e.0) (apart_removed test ts apart.1)
  where
    by : (b : Bool) → AreNamedApart (remove_entry test ts) → AreNamedApart (cond {A = List (ℕ × TopicState)} b ts (e ∷ remove_entry test ts))
    by true rest = apart.1
    by false rest = (none_left test ts e.1.name apart.0, rest)

-- what has a name then had it before
pub named_before : (test : ℕ → Bool) (ts : List (ℕ × TopicState)) (q : List ℕ) (j : ℕ) → AreNamedApart ts → named q (remove_entry test ts) ≡ Some j → named q ts ≡ Some j
named_before test [] q j apart there = there
named_before test (e ∷ ts) q j apart there = by (test e.0) (bytes_eq q e.1.name) refl there (named_before test ts q j apart.1)
  where
    by : (b c : Bool) → bytes_eq q e.1.name ≡ c → named q (cond {A = List (ℕ × TopicState)} b ts (e ∷ remove_entry test ts)) ≡ Some j → (named q (remove_entry test ts) ≡ Some j → named q ts ≡ Some j)
        → named q (e ∷ ts) ≡ Some j
    by true true same there rest = absurd (let none : named q ts ≡ None = ap (λ x. named x ts) (bytes_same q e.1.name same) ∙ apart.0 in cc)
    by true false same there rest = ap (λ b. cond b (Some e.0) (named q ts)) same ∙ there
    by false true same there rest =
        ap (λ b. cond b (Some e.0) (named q ts)) same ∙ sym (ap (λ b. cond b (Some e.0) (named q (remove_entry test ts))) same) ∙ there
    by false false same there rest =
        ap (λ b. cond b (Some e.0) (named q ts)) same ∙ rest (sym (ap (λ b. cond b (Some e.0) (named q (remove_entry test ts))) same) ∙ there)

-- ---- one is changed, but for its name

apart_set : (ts : List (ℕ × TopicState)) (i : ℕ) (t u : TopicState) → topic_at i ts ≡ Some t → u.name ≡ t.name → AreNamedApart ts → AreNamedApart (set_value (is_at (nat_cmp i)) ts u)
apart_set [] i t u here same apart = tt
apart_set (e ∷ ts) i t u here same apart = by (is_at (nat_cmp i) e.0) here (apart_set ts i t u)
  where
    by : (b : Bool) → cond b (Some e.1) (topic_at i ts) ≡ Some t → (topic_at i ts ≡ Some t → u.name ≡ t.name → AreNamedApart ts → AreNamedApart (set_value (is_at (nat_cmp i)) ts u))
        → AreNamedApart (cond {A = List (ℕ × TopicState)} b ((e.0, u) ∷ ts) (e ∷ set_value (is_at (nat_cmp i)) ts u))
    by true found rest =
        let one : e.1 ≡ t = cc in
        (ap (λ q. named q ts) (same ∙ sym (ap (λ (x : TopicState). x.name) one)) ∙ apart.0, apart.1)
    by false found rest = (named_set ts i t u e.1.name found same ∙ apart.0, rest found same apart.1)

pub apart_put : (ts : List (ℕ × TopicState)) (i p : ℕ) (part : PartitionState) (o : Option TopicState) → topic_at i ts ≡ o → AreNamedApart ts → AreNamedApart (put_topic i p part ts o)
apart_put ts i p part None at apart = apart
apart_put ts i p part (Some t) at apart = apart_set ts i t (with_part p part t) at refl apart
