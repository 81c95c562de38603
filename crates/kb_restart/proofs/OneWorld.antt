-- A tenant keeps one thing alone that its files come to.
use Rattle.std.proofs.Common.{◌≡◌, ◌∙◌, ◌⊎◌, ◌<◌, inl, inr, ℕ, true, false, cond, List, [], ◌∷◌, Option, Some, None, sym, ap, subst, refl, length}
use Rattle.std.specs.Prelude.{pos, slice_get, unwrap_or, IsSome}
use Rattle.std.specs.Option.{option_and_then}
use Rattle.std.specs.List.Sorted.{IsStrictlySortedBy}
use Rattle.std.specs.Ordering.{nat_cmp}
use Rattle.std.specs.Cmp.{nat_cmp_total, eq_by_cmp_equiv}
use Rattle.std.specs.Map.{keys_of, lookup}
use Rattle.std.specs.BTreeMap.{is_at}
use Rattle.std.proofs.lemmas.List.{same_lists}
use Rattle.std.proofs.lemmas.Map.{lookup-none}
use Rattle.std.proofs.lemmas.Map.Entries.{none_past_head}
use Rattle.std.proofs.lemmas.Map.Keys.{sorted_tail, IsDistinct-from_sorted}
use Rattle.std.proofs.lemmas.Option.{slice_get-get_or, unwrap_or-slice_get}
use Rattle.kb_store.specs.Disk.{Files}
use Rattle.kb_coordinator.specs.Groups.{Groups}
use Rattle.kb_topics.specs.Known.{Known, TopicState, new_partition, partition_at, topic_at}
use Rattle.kb_topics.proofs.WellFormed.{fold_well_formed}
use Rattle.kb_tenant_state.specs.Logs.{LogState, Logs, log_at}
use Rattle.kb_tenant_state.specs.Tied.{counted, partition_count}
use Rattle.kb_tenant_state.proofs.Put.{at_head, cases}
use Rattle.kb_tenant_api.specs.Hosted.{Kept}
use Rattle.kb_opening.specs.Opened.{Owners, IsOpened, IsSame}
use Rattle.kb_opening.proofs.Unique.{only_opened}

-- ---- the logs of topics

same_items : (xs ys : List LogState) → length xs ≡ length ys → ((p : ℕ) → p < length xs → slice_get xs p ≡ slice_get ys p) → xs ≡ ys
same_items xs ys e h = same_lists xs ys e (λ k d lt. sym (unwrap_or-slice_get xs k d) ∙ ap (λ o. unwrap_or o d) (h k lt) ∙ unwrap_or-slice_get ys k d)

-- what is found behind the first entry is not its
not_first : {A : Type 0} (j : ℕ) (e : ℕ × A) (es : List (ℕ × A)) (v : A) → IsStrictlySortedBy nat_cmp (keys_of (e ∷ es)) → lookup (is_at (nat_cmp j)) es ≡ Some v → is_at (nat_cmp j) e.0 ≡ false
not_first j e es v s l =
    elim (cases (is_at (nat_cmp j) e.0)) [
      | inl t ↦ let none : lookup (is_at (nat_cmp j)) es ≡ None = lookup-none _ es (none_past_head (eq_by_cmp_equiv nat_cmp_total) j e es (IsDistinct-from_sorted nat_cmp (keys_of (e ∷ es)) s) t) in absurd cc
      | inr f ↦ f
    ]

past_head : {A : Type 0} (j : ℕ) (e : ℕ × A) (es : List (ℕ × A)) → is_at (nat_cmp j) e.0 ≡ false → lookup (is_at (nat_cmp j)) (e ∷ es) ≡ lookup (is_at (nat_cmp j)) es
past_head j e es f = ap (λ b. cond b (Some e.1) (lookup (is_at (nat_cmp j)) es)) f

one_entry : (l m : ℕ × List LogState) (ls ms : Logs) → m.0 ≡ l.0 → m.1 ≡ l.1 → ms ≡ ls → ◌≡◌ {A = Logs} (m ∷ ms) (l ∷ ls)
one_entry l m ls ms e f g = λ i. (e i, f i) ∷ g i

heads : (l : ℕ × List LogState) (ls : Logs) (t : ℕ × TopicState) (ts : List (ℕ × TopicState)) → counted length (l ∷ ls) ≡ counted partition_count (t ∷ ts)
    → (l.0 ≡ t.0) × (length l.1 ≡ partition_count t.1) × (counted length ls ≡ counted partition_count ts)
heads l ls t ts e =
    let first : ◌≡◌ {A = ℕ × ℕ} (l.0, length l.1) (t.0, partition_count t.1) = cc in
    (ap (λ (q : ℕ × ℕ). q.0) first, ap (λ (q : ℕ × ℕ). q.1) first, cc)

found_at : (i p : ℕ) (l : ℕ × List LogState) (ls : Logs) → l.0 ≡ i → log_at i p (l ∷ ls) ≡ slice_get l.1 p
found_at i p l ls e = ap (option_and_then (λ (t : List LogState). slice_get t p)) (subst (λ k. lookup (is_at (nat_cmp k)) (l ∷ ls) ≡ Some l.1) e (at_head l ls))

found_past : (i p : ℕ) (l : ℕ × List LogState) (ls : Logs) (k : ℕ) → l.0 ≡ k → is_at (nat_cmp i) k ≡ false → log_at i p (l ∷ ls) ≡ log_at i p ls
found_past i p l ls k e f = ap (option_and_then (λ (t : List LogState). slice_get t p)) (past_head i l ls (subst (λ m. is_at (nat_cmp i) m ≡ false) (sym e) f))

-- as many of each topic as it has partitions, and of each partition the same
same_logs : (ts : List (ℕ × TopicState)) (ls ms : Logs) → IsStrictlySortedBy nat_cmp (keys_of ts) → counted length ls ≡ counted partition_count ts → counted length ms ≡ counted partition_count ts
    → ((i p : ℕ) (t : TopicState) → topic_at i ts ≡ Some t → p < partition_count t → log_at i p ms ≡ log_at i p ls) → ms ≡ ls
same_logs [] [] [] s e f h = refl
same_logs [] [] (m ∷ ms) s e f h = absurd cc
same_logs [] (l ∷ ls) ms s e f h = absurd cc
same_logs (t ∷ ts) [] ms s e f h = absurd cc
same_logs (t ∷ ts) (l ∷ ls) [] s e f h = absurd cc
same_logs (t ∷ ts) (l ∷ ls) (m ∷ ms) s e f h =
    let a = heads l ls t ts e in
    let b = heads m ms t ts f in
    let here : m.1 ≡ l.1 = same_items m.1 l.1 (b.1 ∙ sym a.1)
    (λ p lt. sym (found_at t.0 p m ms b.0) ∙ h t.0 p t.1 (at_head t ts) (subst (λ n. p < n) b.1 lt) ∙ found_at t.0 p l ls a.0) in
    let rest : ms ≡ ls = same_logs ts ls ms (sorted_tail nat_cmp t.0 (keys_of ts) s) a.2 b.2
    (λ i p u at lt.
    let no = not_first i t ts u s at in
    sym (found_past i p m ms t.0 b.0 no) ∙ h i p u (past_head i t ts no ∙ at) lt ∙ found_past i p l ls t.0 a.0 no) in
    one_entry l m ls ms (b.0 ∙ sym a.0) here rest

-- ---- what files come to

some_partition : (k : Known) (i p : ℕ) (t : TopicState) → topic_at i k.topics ≡ Some t → p < partition_count t → IsSome (partition_at k (pos i) (pos p))
some_partition k i p t at lt =
    subst (λ o. IsSome o) (sym (ap (option_and_then (λ (u : TopicState). slice_get u.partitions p)) at ∙ slice_get-get_or t.partitions p new_partition lt)) refl

module _ (files : Files) (of : Owners) (k j : Kept) (o : IsOpened files of k.world.known k.world.logs) (q : IsOpened files of j.world.known j.world.logs) where
  same : IsSame k.world.known k.world.logs j.world.known j.world.logs
  same = only_opened files of k.world.known k.world.logs o j.world.known j.world.logs q

  logs_same : j.world.logs ≡ k.world.logs
  logs_same =
      let whole = o.in_use.whole in
      same_logs k.world.known.topics k.world.logs j.world.logs (fold_well_formed o.generation whole.known.before k.world.known whole.known.fold).ordered o.has.tied
      (q.has.tied ∙ ap (λ (x : Known). counted partition_count x.topics) same.topics)
      (λ i p t at lt. same.each i p (some_partition k.world.known i p t at lt))

  -- beside the same groups it keeps the same
  pub kept_same : j.groups ≡ k.groups → j ≡ k
  kept_same groups =
      ap (λ (x : Known). kept_with x j.world.logs j.groups) same.topics
      ∙ ap (λ (ls : Logs). kept_with k.world.known ls j.groups) logs_same
      ∙ ap (λ (gs : Groups). kept_with k.world.known k.world.logs gs) groups
    where
      kept_with : Known → Logs → Groups → Kept
      kept_with x ls gs = record { world = record { known = x; logs = ls }; groups = gs }
