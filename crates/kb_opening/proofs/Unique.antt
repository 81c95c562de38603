-- The files of a tenant come to one world.
use Rattle.std.proofs.Common.{◌≡◌, ◌∙◌, ◌≤◌, ◌<◌, ◌+◌, ◌++◌, inl, inr, ℕ, zero, suc, true, false, List, [], ◌∷◌, Option, Some, None, refl, sym, ap, subst, arith, max, get_or}
use Rattle.std.specs.Prelude.{pos, IsSome, IsSorted, IsPermutation}
use Rattle.std.specs.Option.{option_and_then}
use Rattle.std.specs.List.{All}
use Rattle.std.specs.Ordering.{nat_cmp, is_lt, ordering_then, MatchOrdering}
use Rattle.std.specs.declared.cmp.Ordering.{Ordering}
use Rattle.std.specs.declared.cmp.Ordering.TheVariants.{Less, Equal, Greater}
use Rattle.std.proofs.lemmas.Bool.{cases_lt, false≢true}
use Rattle.std.proofs.lemmas.Cmp.{ranked}
use Rattle.std.proofs.lemmas.Option.{none-some, same_Some}
use Rattle.std.proofs.lemmas.List.Elements.{All-cons, All-head, All-nil}
use Rattle.std.proofs.lemmas.List.Sorted.{All-permutation, IsPermutation-sym, IsPermutation-trans, length_permutation}
use Rattle.kb_store.specs.Disk.{Files}
use Rattle.kb_batch.specs.Batch.{natural, count_of}
use Rattle.kb_log.specs.Log.{IsRun, starting}
use Rattle.kb_segment_log.specs.Chain.{place_cmp, Chain, first_of, parts_at}
use Rattle.kb_segment_log.proofs.Unique.{one_chain}
use Rattle.kb_topics.specs.declared.command.Command.{Command}
use Rattle.kb_topics.specs.Known.{Known, PartitionState, partition_at}
use Rattle.kb_topics.specs.MetaLog.{Says, SayEach}
use Rattle.kb_topics.specs.Reading.{Reading, in_use, read_all, read_step, starting_at}
use Rattle.kb_tenant_state.specs.Logs.{LogState, Logs}
use Rattle.kb_replay.proofs.Reading.{one_command}
use Rattle.kb_opening.specs.Opened.{IsLogOf, EndsWith, IsLongest, IsLongestFold, ComesToKnown, Owners, IsInUse, IsOpened, IsOnly}
use Rattle.kb_opening.proofs.Catalogs.{chain_run}

-- ---- one first file

pub no_shorter : {A : Type 0} (x : A) (xs : List A) → IsPermutation [] (x ∷ xs) → ⊥
no_shorter x xs p = omega (arith, length_permutation [] (x ∷ xs) p)

-- what does not come before by its base, or else by its number, does not begin below
lower_by : (a b : ℕ) (o : Ordering) → is_lt (ordering_then (nat_cmp b a) o) ≡ false → a ≤ b
lower_by a b o e = by (nat_cmp b a) refl
  where
    is : (r : Ordering) → nat_cmp b a ≡ r → MatchOrdering r (b < a) (b ≡ a) (a < b)
    is r same = subst (λ (r : Ordering). MatchOrdering r (b < a) (b ≡ a) (a < b)) same (ranked b a (nat_cmp b a) refl)

    by : (r : Ordering) → nat_cmp b a ≡ r → a ≤ b
    by Less same = absurd (false≢true (sym e ∙ ap (λ (r : Ordering). is_lt (ordering_then r o)) same))
    by Equal same = let e : b ≡ a = is Equal same in omega (arith, e)
    by Greater same = let l : a < b = is Greater same in omega (arith, l)

module _ {A : Type 0} (cmp : A → A → Ordering) (base : A → ℕ) (lower : (p q : A) → is_lt (cmp q p) ≡ false → base p ≤ base q) (first : List A → ℕ) (begins : (x : A) (xs : List A) → first (x ∷ xs) ≡ base x) where
  -- the first of some in order is the lowest
  lowest : (x : A) (xs : List A) → IsSorted cmp (x ∷ xs) → All (λ (q : A). base x ≤ base q) (x ∷ xs)
  lowest x [] s = All-cons (λ (q : A). base x ≤ base q) x [] (omega arith) (All-nil (λ (q : A). base x ≤ base q))
  lowest x (y ∷ ys) s =
      let head : base x ≤ base y = lower x y (s 0 x (omega arith) (omega arith)) in
      let rest : All (λ (q : A). base y ≤ base q) (y ∷ ys) = lowest y ys (λ k d l m.
      let next : suc k + 1 ≡ suc (k + 1) = omega arith in
      subst (λ (n : ℕ). is_lt (cmp (get_or (x ∷ y ∷ ys) n d) (get_or (y ∷ ys) k d)) ≡ false) next (s (suc k) d (omega arith) (omega (arith, m)))) in
      All-cons (λ (q : A). base x ≤ base q) x (y ∷ ys) (omega arith) (λ k d lt. let more : base y ≤ base (get_or (y ∷ ys) k d) = rest k d lt in omega (arith, head, more))

  same_first : (xs ys : List A) → IsPermutation xs ys → IsSorted cmp xs → IsSorted cmp ys → first ys ≡ first xs
  same_first [] [] p r s = refl
  same_first [] (y ∷ ys) p r s = absurd (no_shorter y ys p)
  same_first (x ∷ xs) [] p r s = absurd (no_shorter x xs (IsPermutation-sym (x ∷ xs) [] p))
  same_first (x ∷ xs) (y ∷ ys) p r s =
      let up : base x ≤ base y = All-head (λ (q : A). base x ≤ base q) y ys (All-permutation (λ (q : A). base x ≤ base q) (x ∷ xs) (y ∷ ys) p (lowest x xs r)) in
      let down : base y ≤ base x = All-head (λ (q : A). base y ≤ base q) x xs (All-permutation (λ (q : A). base y ≤ base q) (y ∷ ys) (x ∷ xs) (IsPermutation-sym (x ∷ xs) (y ∷ ys) p) (lowest y ys s)) in
      let same : base y ≡ base x = omega (arith, up, down) in
      begins y ys ∙ same ∙ sym (begins x xs)

-- ---- one log

-- a run has one end
one_end : (at : ℕ) (bs : List (List ℕ)) (e f : ℕ) → IsRun at bs e → IsRun at bs f → f ≡ e
one_end at [] e f r q = sym q ∙ r
one_end at (b ∷ bs) e f r q = one_end (at + count_of b) bs e f r.2 q.2

module _ (files : Files) (numbers : List ℕ) (start : ℕ) where
  first_is : (bs cs : List (List ℕ)) (c : Chain files numbers start bs) (d : Chain files numbers start cs) → first_of start d.order ≡ first_of start c.order
  first_is bs cs c d = same_first place_cmp (λ p. p.base) (λ p q e. lower_by p.base q.base (nat_cmp q.file p.file) e) (first_of start) (λ x xs. refl) c.order d.order (IsPermutation-trans _ _ _ (IsPermutation-sym _ _ c.ordered.these) d.ordered.these) c.ordered.sorted d.ordered.sorted

  end_is : (bs cs : List (List ℕ)) (c : Chain files numbers start bs) (d : Chain files numbers start cs) → d.end ≡ c.end
  end_is bs cs c d =
      let run = chain_run (first_of start c.order) (parts_at files c.order) bs c.end c.count c.chain in
      let other = chain_run (first_of start d.order) (parts_at files d.order) cs d.end d.count d.chain in
      one_end (first_of start c.order) bs c.end d.end run
      (subst (λ (n : ℕ). IsRun n bs d.end) (first_is bs cs c d) (subst (λ (xs : List (List ℕ)). IsRun (first_of start d.order) xs d.end) (one_chain files numbers start bs cs c d) other))

  abbrev state : ℕ → ℕ → List (List ℕ) → LogState
  state first last bs = record { start = first; end = last; batches = bs }

  pub one_log : (l m : LogState) → IsLogOf files numbers start l → IsLogOf files numbers start m → m ≡ l
  one_log l m i j =
      let starts : m.start ≡ l.start = j.starts ∙ ap (λ n. max n start) (first_is i.bs j.bs i.chain j.chain) ∙ sym i.starts in
      let ends : m.end ≡ l.end = j.ends ∙ ap (λ n. max n start) (end_is i.bs j.bs i.chain j.chain) ∙ sym i.ends in
      let batches : m.batches ≡ l.batches =
      j.batches ∙ ap (λ n. starting n j.bs) starts ∙ ap (starting l.start) (one_chain files numbers start i.bs j.bs i.chain j.chain) ∙ sym i.batches in
      ap (λ n. state n m.end m.batches) starts ∙ ap (λ n. state l.start n m.batches) ends ∙ ap (state l.start l.end) batches

-- ---- one catalog

-- the first of some commands that are applicable is
stepped : (j k : Reading) (c : Command) (cs : List Command) → read_all j (c ∷ cs) ≡ Some k → (n : Reading) × (read_step j c ≡ Some n) × (read_all n cs ≡ Some k)
stepped j k c cs e = by (read_step j c) refl
  where
    by : (o : Option Reading) → read_step j c ≡ o → (n : Reading) × (read_step j c ≡ Some n) × (read_all n cs ≡ Some k)
    by None is = absurd (none-some k (sym (ap (option_and_then (λ (m : Reading). read_all m cs)) is) ∙ e))
    by (Some n) is = (n, is, sym (ap (option_and_then (λ (m : Reading). read_all m cs)) is) ∙ e)

-- commands do not end in front of one that is applicable
not_ended : (j k n : Reading) (s : List ℕ) (ss xs : List (List ℕ)) (c : Command) (cs : List Command) → Says s c → read_all k (c ∷ cs) ≡ Some n → xs ≡ s ∷ ss → EndsWith xs j → j ≡ k → ⊥
not_ended j k n s ss xs c cs says fold is ends same =
    let made = stepped k n c cs fold in
    let none : read_step j c ≡ None = subst (λ (ys : List (List ℕ)). EndsWith ys j) is ends c says in
    none-some made.0 (sym none ∙ ap (λ m. read_step m c) same ∙ made.1)

head_is : (s t : List ℕ) (ss ts : List (List ℕ)) → s ∷ ss ≡ t ∷ ts → (s ≡ t) × (ss ≡ ts)
head_is s t ss ts e = (cc, cc)

-- two readings of the same batches that go as far as they can
same_fold : (j k n : Reading) (us ws xs ys : List (List ℕ)) (cs ds : List Command) → SayEach us cs → SayEach ws ds → read_all j cs ≡ Some k → read_all j ds ≡ Some n → us ++ xs ≡ ws ++ ys → EndsWith xs k → EndsWith ys n → n ≡ k
same_fold j k n [] [] xs ys [] [] p q f g e r s = same_Some n k (sym g ∙ f)
same_fold j k n [] [] xs ys [] (d ∷ ds) p q f g e r s = absurd q
same_fold j k n [] [] xs ys (c ∷ cs) ds p q f g e r s = absurd p
same_fold j k n [] (w ∷ ws) xs ys [] [] p q f g e r s = absurd q
same_fold j k n [] (w ∷ ws) xs ys [] (d ∷ ds) p q f g e r s = absurd (not_ended k j n w (ws ++ ys) xs d ds q.0 g e r (sym (same_Some j k f)))
same_fold j k n [] (w ∷ ws) xs ys (c ∷ cs) ds p q f g e r s = absurd p
same_fold j k n (u ∷ us) ws xs ys [] ds p q f g e r s = absurd p
same_fold j k n (u ∷ us) [] xs ys (c ∷ cs) [] p q f g e r s = absurd (not_ended n j k u (us ++ xs) ys c cs p.0 f (sym e) s (sym (same_Some j n g)))
same_fold j k n (u ∷ us) [] xs ys (c ∷ cs) (d ∷ ds) p q f g e r s = absurd q
same_fold j k n (u ∷ us) (w ∷ ws) xs ys (c ∷ cs) [] p q f g e r s = absurd q
same_fold j k n (u ∷ us) (w ∷ ws) xs ys (c ∷ cs) (d ∷ ds) p q f g e r s =
    let heads = head_is u w (us ++ xs) (ws ++ ys) e in
    let one : d ≡ c = one_command w d c q.0 (subst (λ (t : List ℕ). Says t c) heads.0 p.0) in
    let made = stepped j k c cs f in
    let also = stepped j n d ds g in
    let same : also.0 ≡ made.0 = same_Some also.0 made.0 (sym also.1 ∙ ap (read_step j) one ∙ made.1) in
    same_fold made.0 k n us ws xs ys cs ds p.1 q.1 made.2 (subst (λ (m : Reading). read_all m ds ≡ Some n) same also.2) heads.1 r s

-- what batches are read as is one
pub one_reading : (generation : ℕ) (bs : List (List ℕ)) (r s : Reading) → IsLongest generation bs r → IsLongest generation bs s → s ≡ r
one_reading generation bs r s l m =
    same_fold (starting_at generation) r s l.before m.before l.behind m.behind l.fold.commands m.fold.commands l.fold.said m.fold.said l.fold.read m.fold.read (sym l.split ∙ m.split) l.ends m.ends

pub one_known : (generation : ℕ) (bs : List (List ℕ)) (k n : Known) → IsLongestFold generation bs k → IsLongestFold generation bs n → n ≡ k
one_known generation bs k n l m = ap (λ (r : Reading). r.known) (one_reading generation bs (in_use k) (in_use n) l m)

-- so is what files come to
pub one_whole : (files : Files) (numbers : List ℕ) (generation : ℕ) (k n : Known) → ComesToKnown files numbers generation k → ComesToKnown files numbers generation n → n ≡ k
one_whole files numbers generation k n c d =
    one_known generation c.commands k n c.known (subst (λ (bs : List (List ℕ)). IsLongestFold generation bs n) (one_chain files numbers 0 c.commands d.commands c.chain d.chain) d.known)

-- and one generation is in use
pub one_generation : (files : Files) (owners : Owners) (g h : ℕ) (k n : Known) → IsInUse files owners g k → IsInUse files owners h n → h ≡ g
one_generation files owners g h k n u v = elim (cases_lt g h) [
  | inl below ↦ absurd (u.greatest h below v.small n v.whole)
  | inr above ↦ elim (cases_lt h g) [
    | inl more ↦ absurd (v.greatest g more u.small k u.whole)
    | inr no_more ↦ omega (arith, above, no_more)
  ]
]

-- ---- one world

some_part : (o : Option PartitionState) → IsSome o → (part : PartitionState) × (o ≡ Some part)
some_part None some = absurd (false≢true some)
some_part (Some part) some = (part, refl)

pub only_opened : (files : Files) (owners : Owners) (k : Known) (logs : Logs) → IsOpened files owners k logs → IsOnly files owners k logs
only_opened files owners k logs o n others q = record {
  topics = known;
  each = λ i p some.
      let part = some_part (partition_at k (pos i) (pos p)) some in
      let l = o.has.each i p part.0 part.1 in
      let m = q.has.each i p part.0 (ap (λ (m : Known). partition_at m (pos i) (pos p)) known ∙ part.1) in
      m.1 ∙ ap Some (one_log files (owners.partition i p) (natural part.0.start) l.0 m.0 l.2 m.2) ∙ sym l.1;
}
  where
    known : n ≡ k
    known = one_whole files (owners.catalog o.generation) o.generation k n o.in_use.whole
        (subst (λ (g : ℕ). ComesToKnown files (owners.catalog g) g n) (one_generation files owners o.generation q.generation k n o.in_use q.in_use) q.in_use.whole)
