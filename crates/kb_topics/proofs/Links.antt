-- What links the names of a catalog to its topics, before and after a change.
use Rattle.std.proofs.Common.{◌≡◌, ◌∙◌, ◌<◌, ◌+◌, ◌-◌, ◌≤◌, ℕ, Bool, true, false, cond, ◌⊎◌, inl, inr, List, [], ◌∷◌, Option, Some, None, refl, sym, ap, subst, arith, eqb-true, eq-eqb}
use Rattle.std.specs.Ordering.{nat_cmp}
use Rattle.std.specs.Cmp.{nat_cmp_total, unsigned_tied, eq_by_cmp_equiv}
use Rattle.std.specs.List.Sorted.{IsStrictlySortedBy}
use Rattle.std.specs.Map.{keys_of}
use Rattle.std.specs.BTreeMap.{BTreeMap, get_by_text, is_at}
use Rattle.std.specs.Str.{bytes_eq}
use Rattle.std.specs.declared.string.String.{String}
use Rattle.std.proofs.lemmas.Slice.Eq.{bytes_eq-Decides}
use Rattle.std.proofs.lemmas.Map.{lookup-none}
use Rattle.std.proofs.lemmas.Map.Entries.{none_past_head}
use Rattle.std.proofs.lemmas.Map.Keys.{IsDistinct-from_sorted, sorted_tail}
use Rattle.kb_topics.specs.Known.{TopicState, topic_at, named}
use Rattle.kb_topics.specs.Linked.{IsLinked}

pub bytes_same : (xs ys : List ℕ) → bytes_eq xs ys ≡ true → xs ≡ ys
bytes_same xs ys e = (bytes_eq-Decides xs ys).0 e

pub bytes_alike : (xs ys : List ℕ) → xs ≡ ys → bytes_eq xs ys ≡ true
bytes_alike xs ys e = (bytes_eq-Decides xs ys).1 e

pub cases : (b : Bool) → (b ≡ true) ⊎ (b ≡ false)
cases true = inl refl
cases false = inr refl

pub same_number : (k i : ℕ) → is_at (nat_cmp k) i ≡ true → k ≡ i
same_number k i e = eqb-true k i (sym (unsigned_tied k i) ∙ e)

pub own_number : (k : ℕ) → is_at (nat_cmp k) k ≡ true
own_number k = unsigned_tied k k ∙ eq-eqb k k refl

pub topic_in_tail : (j : ℕ) (e : ℕ × TopicState) (ts : List (ℕ × TopicState)) (u : TopicState) → IsStrictlySortedBy nat_cmp (keys_of (e ∷ ts)) → topic_at j ts ≡ Some u → topic_at j (e ∷ ts) ≡ Some u
topic_in_tail j e ts u s f =
    elim (cases (is_at (nat_cmp j) e.0)) [
      | inl t ↦ let none : topic_at j ts ≡ None = lookup-none _ ts (none_past_head (eq_by_cmp_equiv nat_cmp_total) j e ts (IsDistinct-from_sorted nat_cmp (keys_of (e ∷ ts)) s) t) in absurd cc
      | inr t ↦ ap (λ b. cond b (Some e.1) (topic_at j ts)) t ∙ f
    ]

-- the topic that was found by its name is there under its instance
pub named_found : (q : List ℕ) (ts : List (ℕ × TopicState)) (j : ℕ) → named q ts ≡ Some j → IsStrictlySortedBy nat_cmp (keys_of ts) → (u : TopicState) × (topic_at j ts ≡ Some u) × (u.name ≡ q)
named_found q [] j f s = absurd cc
named_found q (e ∷ ts) j f s =
    elim (cases (bytes_eq q e.1.name)) [
      | inl t ↦
          let here : Some e.0 ≡ Some j = sym (ap (λ b. cond b (Some e.0) (named q ts)) t) ∙ f in
          let same : e.0 ≡ j = cc in
          (e.1, ap (λ b. cond b (Some e.1) (topic_at j ts)) (subst (λ i. is_at (nat_cmp j) i ≡ true) (sym same) (own_number j)), sym (bytes_same q e.1.name t))
      | inr t ↦
          let later = named_found q ts j (sym (ap (λ b. cond b (Some e.0) (named q ts)) t) ∙ f) (sorted_tail nat_cmp e.0 (keys_of ts) s) in
          (later.0, topic_in_tail j e ts later.0 s later.1, later.2)
    ]

-- a name that is not found is no topic's
pub named_none : (q : List ℕ) (ts : List (ℕ × TopicState)) (i : ℕ) (t : TopicState) → named q ts ≡ None → topic_at i ts ≡ Some t → t.name ≡ q → ⊥
named_none q [] i t n f same = cc
named_none q (e ∷ ts) i t n f same =
    elim (cases (bytes_eq q e.1.name)) [
      | inl b ↦ let here : Some e.0 ≡ None = sym (ap (λ b. cond b (Some e.0) (named q ts)) b) ∙ n in cc
      | inr b ↦
          elim (cases (is_at (nat_cmp i) e.0)) [
            | inl a ↦
                let found : Some e.1 ≡ Some t = sym (ap (λ b. cond b (Some e.1) (topic_at i ts)) a) ∙ f in
                let one : e.1 ≡ t = cc in
                let equal : bytes_eq q e.1.name ≡ true = bytes_alike q e.1.name (sym same ∙ ap (λ x. x.name) (sym one)) in
                cc
            | inr a ↦ named_none q ts i t (sym (ap (λ b. cond b (Some e.0) (named q ts)) b) ∙ n) (sym (ap (λ b. cond b (Some e.1) (topic_at i ts)) a) ∙ f) same
          ]
    ]

module _ {Y : Type 0} (names : BTreeMap (String Y) ℕ) (ts : List (ℕ × TopicState)) (n : ℕ) (l : IsLinked names ts n) where
  agree : (q : List ℕ) (a b : Option ℕ) → get_by_text names q ≡ a → named q ts ≡ b → a ≡ b
  agree q None None g f = refl
  agree q None (Some j) g f =
      let u = named_found q ts j f l.ordered in
      let there : get_by_text names q ≡ Some j = subst (λ x. get_by_text names x ≡ Some j) u.2 (l.forth j u.0 u.1) in
      absurd cc
  agree q (Some i) None g f = let u = l.back q i g in absurd (named_none q ts i u.0 f u.1 u.2)
  agree q (Some i) (Some j) g f =
      let u = named_found q ts j f l.ordered in
      let there : get_by_text names q ≡ Some j = subst (λ x. get_by_text names x ≡ Some j) u.2 (l.forth j u.0 u.1) in
      sym g ∙ there

  -- the map of names finds what a search by name does
  pub named_is : (q : List ℕ) → get_by_text names q ≡ named q ts
  named_is q = agree q (get_by_text names q) (named q ts) refl refl

  -- the number of topics that were made is no topic's
  pub fresh : topic_at n ts ≡ None
  fresh = each (topic_at n ts) refl
    where
      each : (o : Option TopicState) → topic_at n ts ≡ o → o ≡ None
      each None e = refl
      each (Some t) e = absurd (let lt = l.below n t e in omega arith)

  -- one number more that was given out
  pub linked_more : IsLinked names ts (n + 1)
  linked_more = record {
    ordered = l.ordered;
    below = λ i t h. let lt = l.below i t h in omega (arith, lt);
    forth = l.forth;
    back = l.back;
  }

  -- one more topic, under a number that was given out and is no topic's, and a new name
  pub linked_added : (j : ℕ) → j < n → topic_at j ts ≡ None → (names' : BTreeMap (String Y) ℕ) (ts' : List (ℕ × TopicState)) (t : TopicState) → IsStrictlySortedBy nat_cmp (keys_of ts') → ((i : ℕ) → topic_at i ts' ≡ cond (is_at (nat_cmp j) i) (Some t) (topic_at i ts)) → ((q : List ℕ) → get_by_text names' q ≡ cond (bytes_eq t.name q) (Some j) (get_by_text names q)) → get_by_text names t.name ≡ None → IsLinked names' ts' n
  linked_added j given free names' ts' t s u v absent = record {
    ordered = s;
    below = λ i x h. elim (cases (is_at (nat_cmp j) i)) [
      | inl a ↦ let same = same_number j i a in omega (arith, same, given)
      | inr a ↦ l.below i x (sym (u i ∙ ap (λ b. cond b (Some t) (topic_at i ts)) a) ∙ h)
    ];
    forth = λ i x h. elim (cases (is_at (nat_cmp j) i)) [
      | inl a ↦
          let same = same_number j i a in
          let one : Some t ≡ Some x = sym (u i ∙ ap (λ b. cond b (Some t) (topic_at i ts)) a) ∙ h in
          let is : t ≡ x = cc in
          v x.name ∙ ap (λ b. cond b (Some j) (get_by_text names x.name)) (bytes_alike t.name x.name (ap (λ y. y.name) is)) ∙ ap Some same
      | inr a ↦
          let old = l.forth i x (sym (u i ∙ ap (λ b. cond b (Some t) (topic_at i ts)) a) ∙ h) in
          elim (cases (bytes_eq t.name x.name)) [
            | inl b ↦ let gone : get_by_text names x.name ≡ None = subst (λ q. get_by_text names q ≡ None) (bytes_same t.name x.name b) absent in absurd cc
            | inr b ↦ v x.name ∙ ap (λ c. cond c (Some j) (get_by_text names x.name)) b ∙ old
          ]
    ];
    back = λ q i h. elim (cases (bytes_eq t.name q)) [
      | inl b ↦
          let one : Some j ≡ Some i = sym (v q ∙ ap (λ c. cond c (Some j) (get_by_text names q)) b) ∙ h in
          let same : j ≡ i = cc in
          (t, u i ∙ ap (λ c. cond c (Some t) (topic_at i ts)) (subst (λ k. is_at (nat_cmp k) i ≡ true) (sym same) (own_number i)), bytes_same t.name q b)
      | inr b ↦
          let old = l.back q i (sym (v q ∙ ap (λ c. cond c (Some j) (get_by_text names q)) b) ∙ h) in
          elim (cases (is_at (nat_cmp j) i)) [
            | inl a ↦
                let none : topic_at i ts ≡ None = subst (λ m. topic_at m ts ≡ None) (same_number j i a) free in
                let no : None ≡ Some old.0 = sym none ∙ old.1 in
                absurd cc
            | inr a ↦ (old.0, u i ∙ ap (λ c. cond c (Some t) (topic_at i ts)) a ∙ old.1, old.2)
          ]
    ];
  }

  -- without the topic of a name
  pub linked_removed : (names' : BTreeMap (String Y) ℕ) (ts' : List (ℕ × TopicState)) (name : List ℕ) (k : ℕ) → IsStrictlySortedBy nat_cmp (keys_of ts') → ((i : ℕ) → topic_at i ts' ≡ cond (is_at (nat_cmp k) i) None (topic_at i ts)) → ((q : List ℕ) → get_by_text names' q ≡ cond (bytes_eq name q) None (get_by_text names q)) → get_by_text names name ≡ Some k → IsLinked names' ts' n
  linked_removed names' ts' name k s u v there = record {
    ordered = s;
    below = λ i x h. l.below i x (kept i x h).1;
    forth = λ i x h.
        let was = kept i x h in
        let old = l.forth i x was.1 in
        elim (cases (bytes_eq name x.name)) [
          | inl b ↦
              let at : get_by_text names x.name ≡ Some k = subst (λ q. get_by_text names q ≡ Some k) (bytes_same name x.name b) there in
              let same : k ≡ i = cc in
              let own : is_at (nat_cmp k) i ≡ true = subst (λ j. is_at (nat_cmp k) j ≡ true) same (own_number k) in
              absurd cc
          | inr b ↦ v x.name ∙ ap (λ c. cond c None (get_by_text names x.name)) b ∙ old
        ];
    back = λ q i h. elim (cases (bytes_eq name q)) [
      | inl b ↦ let none : None ≡ Some i = sym (v q ∙ ap (λ c. cond c None (get_by_text names q)) b) ∙ h in absurd cc
      | inr b ↦
          let was : get_by_text names q ≡ Some i = sym (v q ∙ ap (λ c. cond c None (get_by_text names q)) b) ∙ h in
          let old = l.back q i was in
          elim (cases (is_at (nat_cmp k) i)) [
            | inl a ↦
                let same = same_number k i a in
                let first = l.back name k there in
                let one : Some first.0 ≡ Some old.0 = sym first.1 ∙ ap (λ j. topic_at j ts) same ∙ old.1 in
                let is : first.0 ≡ old.0 = cc in
                let alike : bytes_eq name q ≡ true = bytes_alike name q (sym first.2 ∙ ap (λ y. y.name) is ∙ old.2) in
                absurd cc
            | inr a ↦ (old.0, u i ∙ ap (λ c. cond c None (topic_at i ts)) a ∙ old.1, old.2)
          ]
    ];
  }
    where
      kept : (i : ℕ) (x : TopicState) → topic_at i ts' ≡ Some x → (is_at (nat_cmp k) i ≡ false) × (topic_at i ts ≡ Some x)
      kept i x h = elim (cases (is_at (nat_cmp k) i)) [
        | inl a ↦ let none : None ≡ Some x = sym (u i ∙ ap (λ b. cond b None (topic_at i ts)) a) ∙ h in absurd cc
        | inr a ↦ (a, sym (u i ∙ ap (λ b. cond b None (topic_at i ts)) a) ∙ h)
      ]

  -- with another topic of the same name under an instance
  pub linked_changed : (ts' : List (ℕ × TopicState)) (k : ℕ) (old new : TopicState) → IsStrictlySortedBy nat_cmp (keys_of ts') → ((i : ℕ) → topic_at i ts' ≡ cond (is_at (nat_cmp k) i) (Some new) (topic_at i ts)) → topic_at k ts ≡ Some old → new.name ≡ old.name → IsLinked names ts' n
  linked_changed ts' k old new s u there same_name = record {
    ordered = s;
    below = λ i x h. elim (cases (is_at (nat_cmp k) i)) [
      | inl a ↦ l.below i old (subst (λ j. topic_at j ts ≡ Some old) (same_number k i a) there)
      | inr a ↦ l.below i x (sym (u i ∙ ap (λ b. cond b (Some new) (topic_at i ts)) a) ∙ h)
    ];
    forth = λ i x h. elim (cases (is_at (nat_cmp k) i)) [
      | inl a ↦
          let one : Some new ≡ Some x = sym (u i ∙ ap (λ b. cond b (Some new) (topic_at i ts)) a) ∙ h in
          let is : new ≡ x = cc in
          ap (get_by_text names) (ap (λ y. y.name) (sym is) ∙ same_name) ∙ l.forth i old (subst (λ j. topic_at j ts ≡ Some old) (same_number k i a) there)
      | inr a ↦ l.forth i x (sym (u i ∙ ap (λ b. cond b (Some new) (topic_at i ts)) a) ∙ h)
    ];
    back = λ q i h.
        let was = l.back q i h in
        elim (cases (is_at (nat_cmp k) i)) [
          | inl a ↦
              let one : Some old ≡ Some was.0 = sym (subst (λ j. topic_at j ts ≡ Some old) (same_number k i a) there) ∙ was.1 in
              let is : old ≡ was.0 = cc in
              (new, u i ∙ ap (λ c. cond c (Some new) (topic_at i ts)) a, same_name ∙ ap (λ y. y.name) is ∙ was.2)
          | inr a ↦ (was.0, u i ∙ ap (λ c. cond c (Some new) (topic_at i ts)) a ∙ was.1, was.2)
        ];
  }

  -- other maps with the same names and topics
  pub linked_alike : (names' : BTreeMap (String Y) ℕ) (ts' : List (ℕ × TopicState)) → ((q : List ℕ) → get_by_text names' q ≡ get_by_text names q) → ts' ≡ ts → IsLinked names' ts' n
  linked_alike names' ts' v e = subst (λ us. IsLinked names' us n) (sym e) (record {
    ordered = l.ordered;
    below = l.below;
    forth = λ i t h. v t.name ∙ l.forth i t h;
    back = λ q i h. l.back q i (sym (v q) ∙ h);
  })

  -- where the last number is no topic's, one less was given out
  pub linked_less : topic_at (n - 1) ts ≡ None → 1 ≤ n → IsLinked names ts (n - 1)
  linked_less none some = record {
    ordered = l.ordered;
    below = λ i t h. each i t h (cases (is_at (nat_cmp (n - 1)) i));
    forth = l.forth;
    back = l.back;
  }
    where
      each : (i : ℕ) (t : TopicState) → topic_at i ts ≡ Some t → (is_at (nat_cmp (n - 1)) i ≡ true) ⊎ (is_at (nat_cmp (n - 1)) i ≡ false) → i < n - 1
      each i t h (inl a) = let gone : topic_at i ts ≡ None = subst (λ j. topic_at j ts ≡ None) (same_number (n - 1) i a) none in absurd cc
      each i t h (inr a) =
          let lt = l.below i t h in
          let apart : i ≡ n - 1 → ⊥ = λ e. (let own : is_at (nat_cmp (n - 1)) i ≡ true = subst (λ j. is_at (nat_cmp (n - 1)) j ≡ true) (sym e) (own_number (n - 1)) in cc) in
          grind (arith, lt, some, apart)
