-- Which topic has a name, after a topic was added, taken out or changed.
use Rattle.std.proofs.Common.{◌≡◌, ◌∙◌, ℕ, Bool, true, false, cond, List, [], ◌∷◌, Some, None, refl, sym, ap}
use Rattle.std.specs.Ordering.{nat_cmp, match_ordering, is_eq}
use Rattle.std.specs.declared.cmp.Ordering.{Ordering}
use Rattle.std.specs.declared.cmp.Ordering.TheVariants.{Less, Equal, Greater}
use Rattle.std.specs.Map.{remove_entry, set_value}
use Rattle.std.specs.BTreeMap.{insert_entry, is_at}
use Rattle.std.specs.Str.{bytes_eq}
use Rattle.kb_topics.specs.Known.{TopicState, topic_at, named}
use Rattle.kb_topics.proofs.Links.{same_number}

-- a topic of another name is added, under a new instance
pub named_inserted : (ts : List (ℕ × TopicState)) (n : ℕ) (t : TopicState) (q : List ℕ) → topic_at n ts ≡ None → bytes_eq q t.name ≡ false → named q (insert_entry nat_cmp ts n t) ≡ named q ts
named_inserted [] n t q none other = ap (λ b. cond b (Some n) None) other
named_inserted (e ∷ ts) n t q none other = by (nat_cmp n e.0) none (named_inserted ts n t q)
  where
    by : (o : Ordering) → cond (is_eq o) (Some e.1) (topic_at n ts) ≡ None → (topic_at n ts ≡ None → bytes_eq q t.name ≡ false → named q (insert_entry nat_cmp ts n t) ≡ named q ts)
        → named q (match_ordering {X = List (ℕ × TopicState)} o ((n, t) ∷ e ∷ ts) ((e.0, t) ∷ ts) (e ∷ insert_entry nat_cmp ts n t)) ≡ named q (e ∷ ts)
    by Less gone rest = ap (λ b. cond b (Some n) (named q (e ∷ ts))) other
    by Equal gone rest = absurd cc
    by Greater gone rest = ap (λ o. cond (bytes_eq q e.1.name) (Some e.0) o) (rest gone other)

-- a topic of another instance is taken out
pub named_removed : (ts : List (ℕ × TopicState)) (i j : ℕ) (q : List ℕ) → named q ts ≡ Some j → (j ≡ i → ⊥) → named q (remove_entry (is_at (nat_cmp i)) ts) ≡ Some j
named_removed [] i j q here ne = here
named_removed (e ∷ ts) i j q here ne = by (bytes_eq q e.1.name) (is_at (nat_cmp i) e.0) refl refl here (named_removed ts i j q)
  where
    by : (b c : Bool) → bytes_eq q e.1.name ≡ b → is_at (nat_cmp i) e.0 ≡ c → cond b (Some e.0) (named q ts) ≡ Some j → (named q ts ≡ Some j → (j ≡ i → ⊥) → named q (remove_entry (is_at (nat_cmp i)) ts) ≡ Some j)
        → named q (cond {A = List (ℕ × TopicState)} c ts (e ∷ remove_entry (is_at (nat_cmp i)) ts)) ≡ Some j
    by true true same at found rest = let one : e.0 ≡ j = cc in absurd (ne (sym one ∙ sym (same_number i e.0 at)))
    by true false same at found rest = ap (λ b. cond b (Some e.0) (named q (remove_entry (is_at (nat_cmp i)) ts))) same ∙ found
    by false true same at found rest = found
    by false false same at found rest = ap (λ b. cond b (Some e.0) (named q (remove_entry (is_at (nat_cmp i)) ts))) same ∙ rest found ne

-- a topic is changed, but for its name
pub named_set : (ts : List (ℕ × TopicState)) (i : ℕ) (t u : TopicState) (q : List ℕ) → topic_at i ts ≡ Some t → u.name ≡ t.name → named q (set_value (is_at (nat_cmp i)) ts u) ≡ named q ts
named_set [] i t u q here same = refl
named_set (e ∷ ts) i t u q here same = by (is_at (nat_cmp i) e.0) here (named_set ts i t u q)
  where
    by : (b : Bool) → cond b (Some e.1) (topic_at i ts) ≡ Some t → (topic_at i ts ≡ Some t → u.name ≡ t.name → named q (set_value (is_at (nat_cmp i)) ts u) ≡ named q ts)
        → named q (cond {A = List (ℕ × TopicState)} b ((e.0, u) ∷ ts) (e ∷ set_value (is_at (nat_cmp i)) ts u)) ≡ named q (e ∷ ts)
    by true found rest = let one : e.1 ≡ t = cc in ap (λ n. cond (bytes_eq q n) (Some e.0) (named q ts)) (same ∙ sym (ap (λ (x : TopicState). x.name) one))
    by false found rest = ap (λ o. cond (bytes_eq q e.1.name) (Some e.0) o) (rest found same)
