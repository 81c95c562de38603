-- What a catalog knows after more commands.
use Rattle.std.proofs.Common.{◌≡◌, ◌∙◌, ◌<◌, ◌≤◌, ◌++◌, ◌∷◌, ◌⊎◌, ◌≤ℤ◌, [], ℕ, ℤ, zero, suc, Bool, true, false, cond, Option, Some, None, List, length, nat_le, sym, ap, subst, refl, inl, inr, ⊎_elim, arith}
use Rattle.std.specs.Prelude.{◌&&◌, IsSome, pos, negsuc, int_le, slice_get, slice_set}
use Rattle.std.specs.List.{Contains}
use Rattle.std.specs.declared.cmp.Ordering.{Ordering}
use Rattle.std.specs.declared.cmp.Ordering.TheVariants.{Less, Equal, Greater}
use Rattle.std.specs.Cmp.Lexicographic.{slice_cmp}
use Rattle.std.specs.Map.{lookup, remove_entry}
use Rattle.std.specs.BTreeMap.{is_at, insert_entry}
use Rattle.std.specs.Option.{option_and_then, option_map}
use Rattle.std.specs.Ordering.{int_eq, match_ordering, nat_cmp}
use Rattle.std.proofs.lemmas.Bool.{cases_eq, false≢true}
use Rattle.std.proofs.lemmas.Int.{ints}
use Rattle.std.proofs.lemmas.List.{append-nil}
use Rattle.std.proofs.lemmas.List.Elements.{Contains-append_left, Contains-append_right}
use Rattle.std.proofs.lemmas.Option.{none-some, same_Some}
use Rattle.kb_batch.specs.Batch.{natural}
use Rattle.kb_topics.specs.declared.command.CommitOffset.{CommitOffset}
use Rattle.kb_topics.specs.declared.command.Command.{Command}
use Rattle.kb_topics.specs.declared.command.Command.TheVariants.{Create, Delete, Issue, Commit, Start, Snapshot, Topic, DeleteGroup}
use Rattle.kb_topics.specs.Known.{Known, CommittedOffset, PartitionState, TopicState, topic_at, named, partition_at, with_topic, without_topic, with_id, with_part, with_partition, with_commit, with_start, put_topic, new_topic, config_in, offset_in, may_create, is_left, step, committed_at, has_committed, without_commit, without_commits, without_group}
use Rattle.kb_topics.specs.MetaLog.{Says, SayEach, IsFoldOf}
use Rattle.kb_topics.specs.Reading.{Reading, in_use, read_all, read_step, starting_at}
use Rattle.kb_topics.specs.WellFormed.{IsWellFormed, AreTopics}
use Rattle.std.proofs.lemmas.Map.Text.{is_eq-slice_cmp}
use Rattle.std.proofs.lemmas.Slice.Eq.{bytes_eq-Decides}
use Rattle.std.specs.Prelude.{map}
use Rattle.kb_topics.proofs.Groups.{at_less, less}
use Rattle.kb_topics.proofs.Links.{named_found, same_number}
use Rattle.kb_topics.proofs.WellFormed.{read_well_formed, fold_well_formed}
use Rattle.kb_tenant_state.proofs.StillKept.{other_removed, inserted_other}
use Rattle.kb_tenant_state.proofs.Put.{found_put}
use Rattle.kb_replay.proofs.Reading.{one_command}
use Rattle.kb_opening.specs.Opened.{EndsWith, IsLongestFold}
use Rattle.kb_snapshot.specs.Snapshot.{snapshot_of}
use Rattle.kb_snapshot.proofs.Loading.{read_snapshot}
use Rattle.kb_loss.specs.Fronts.{IsFrontOf}
use Rattle.kb_loss.specs.Known.{IsLaterPartition, AreLaterPartitions, IsStillThere, StaysAt, GoesOnTo}
use Rattle.kb_loss.specs.Renewed.{BeginsAnew}

-- ---- partitions

int_same : (z : ℤ) → z ≤ℤ z
int_same z = grind (arith, ints)

int_then : (x y z : ℤ) → x ≤ℤ y → y ≤ℤ z → x ≤ℤ z
int_then x y z a b = grind (arith, ints, a, b)

int_is : (x y : ℤ) → int_le x y ≡ true → x ≤ℤ y
int_is x y e = grind (arith, ints, e)

-- what is found is still found where an entry is put
still_some : {K X : Type 0} (test : K → Bool) (cmp : K → K → Ordering) (es : List (K × X)) (k : K) (v : X) → IsSome (lookup test es) → IsSome (lookup test (insert_entry cmp es k v))
still_some {K} {X} test cmp [] k v some = absurd (false≢true some)
still_some {K} {X} test cmp (e ∷ es) k v some = by (cmp k e.0) (test e.0) refl some (λ rest. still_some test cmp es k v rest)
  where
    first : (b : Bool) → IsSome (lookup test (e ∷ es)) → IsSome (cond b (Some v) (lookup test (e ∷ es)))
    first true was = refl
    first false was = was

    by : (o : Ordering) (b : Bool) → test e.0 ≡ b → IsSome (cond b (Some e.1) (lookup test es)) → (IsSome (lookup test es) → IsSome (lookup test (insert_entry cmp es k v)))
        → IsSome (lookup test (match_ordering {X = List (K × X)} o ((k, v) ∷ e ∷ es) ((e.0, v) ∷ es) (e ∷ insert_entry cmp es k v)))
    by Less b is was more = first (test k) (subst (λ c. IsSome (cond c (Some e.1) (lookup test es))) (sym is) was)
    by Equal true is was more = subst (λ c. IsSome (cond c (Some v) (lookup test es))) (sym is) refl
    by Equal false is was more = subst (λ c. IsSome (cond c (Some v) (lookup test es))) (sym is) was
    by Greater true is was more = subst (λ c. IsSome (cond c (Some e.1) (lookup test (insert_entry cmp es k v)))) (sym is) refl
    by Greater false is was more = subst (λ c. IsSome (cond c (Some e.1) (lookup test (insert_entry cmp es k v)))) (sym is) (more was)

-- an entry that is found is found still where one is taken out, unless it is that one
found_or_gone : {X : Type 0} (group other : List ℕ) (es : List (List ℕ × X)) → IsSome (lookup (is_at (slice_cmp nat_cmp other)) es)
    → (group ≡ other) ⊎ IsSome (lookup (is_at (slice_cmp nat_cmp other)) (remove_entry (is_at (slice_cmp nat_cmp group)) es))
found_or_gone {X} group other [] some = absurd (false≢true some)
found_or_gone {X} group other (e ∷ es) some = by (is_at (slice_cmp nat_cmp group) e.0) refl (is_at (slice_cmp nat_cmp other) e.0) refl some (found_or_gone group other es)
  where
    same : (x : List ℕ) → is_at (slice_cmp nat_cmp x) e.0 ≡ true → x ≡ e.0
    same x is = (bytes_eq-Decides x e.0).0 (sym (is_eq-slice_cmp x e.0) ∙ is)

    look : List (List ℕ × X) → Option X
    look xs = lookup (is_at (slice_cmp nat_cmp other)) xs

    rest : List (List ℕ × X)
    rest = remove_entry (is_at (slice_cmp nat_cmp group)) es

    by : (a : Bool) → is_at (slice_cmp nat_cmp group) e.0 ≡ a → (b : Bool) → is_at (slice_cmp nat_cmp other) e.0 ≡ b → IsSome (cond b (Some e.1) (look es)) → (IsSome (look es) → (group ≡ other) ⊎ IsSome (look rest))
        → (group ≡ other) ⊎ IsSome (look (cond {A = List (List ℕ × X)} a es (e ∷ rest)))
    by true is true at some more = inl (same group is ∙ sym (same other at))
    by true is false at some more = inr some
    by false is true at some more = inr (subst (λ c. IsSome (cond c (Some e.1) (look rest))) (sym at) refl)
    by false is false at some more = ⊎_elim inl (λ still. inr (subst (λ c. IsSome (cond c (Some e.1) (look rest))) (sym at) still)) (more some)

pub later_itself : (cs : List Command) (p : PartitionState) → IsLaterPartition cs p p
later_itself cs p = record { start = int_same p.start; commits = λ group some. inr some }

-- all of some commands are among others
abbrev pub AreAmong : List Command → List Command → Type 0
AreAmong cs es = (c : Command) → Contains cs c → Contains es c

module _ (cs ds es : List Command) (one : AreAmong cs es) (two : AreAmong ds es) where
  pub later_then : (p q r : PartitionState) → IsLaterPartition cs p q → IsLaterPartition ds q r → IsLaterPartition es p r
  later_then p q r a b = record {
    start = int_then p.start q.start r.start a.start b.start;
    commits = λ group some. ⊎_elim
        (λ gone. inl (one (DeleteGroup group) gone))
        (λ still. ⊎_elim (λ gone. inl (two (DeleteGroup group) gone)) (λ found. inr found) (b.commits group still))
        (a.commits group some);
  }

  all_then : (ps qs rs : List PartitionState) → AreLaterPartitions cs ps qs → AreLaterPartitions ds qs rs → AreLaterPartitions es ps rs
  all_then [] [] [] a b = tt
  all_then [] [] (r ∷ rs) a b = absurd b
  all_then [] (q ∷ qs) rs a b = absurd a
  all_then (p ∷ ps) [] rs a b = absurd a
  all_then (p ∷ ps) (q ∷ qs) [] a b = absurd b
  all_then (p ∷ ps) (q ∷ qs) (r ∷ rs) a b = (later_then p q r a.0 b.0, all_then ps qs rs a.1 b.1)

later_commit : (cs : List Command) (p : PartitionState) (group : List ℕ) (c : CommittedOffset) → IsLaterPartition cs p (with_commit p group c)
later_commit cs p group c = record { start = int_same p.start; commits = λ other some. inr (still_some (is_at (slice_cmp nat_cmp other)) (slice_cmp nat_cmp) p.commits group c some) }

later_start : (cs : List Command) (p : PartitionState) (offset : ℤ) → p.start ≤ℤ offset → IsLaterPartition cs p (with_start p offset)
later_start cs p offset l = record { start = l; commits = λ group some. inr some }

-- what a command that deletes a group leaves
later_without : (cs : List Command) (group : List ℕ) (p : PartitionState) → Contains cs (DeleteGroup group) → IsLaterPartition cs p (without_commit group p)
later_without cs group p there = record {
  start = int_same p.start;
  commits = λ other some. ⊎_elim (λ same. inl (subst (λ x. Contains cs (DeleteGroup x)) same there)) (λ still. inr still) (found_or_gone group other p.commits some);
}

all_without : (cs : List Command) (group : List ℕ) (ps : List PartitionState) → Contains cs (DeleteGroup group) → AreLaterPartitions cs ps (map (without_commit group) ps)
all_without cs group [] there = tt
all_without cs group (p ∷ ps) there = (later_without cs group p there, all_without cs group ps there)

all_itself : (cs : List Command) (ps : List PartitionState) → AreLaterPartitions cs ps ps
all_itself cs [] = tt
all_itself cs (p ∷ ps) = (later_itself cs p, all_itself cs ps)

all_set : (cs : List Command) (ps : List PartitionState) (n : ℕ) (p q : PartitionState) → slice_get ps n ≡ Some p → IsLaterPartition cs p q → AreLaterPartitions cs ps (slice_set ps n q)
all_set cs [] n p q at l = absurd cc
all_set cs (x ∷ ps) zero p q at l = let same : x ≡ p = cc in (subst (λ (y : PartitionState). IsLaterPartition cs y q) (sym same) l, all_itself cs ps)
all_set cs (x ∷ ps) (suc n) p q at l = (later_itself cs x, all_set cs ps n p q at l)

pub all_get : (cs : List Command) (ps qs : List PartitionState) (n : ℕ) (p : PartitionState) → AreLaterPartitions cs ps qs → slice_get ps n ≡ Some p → (q : PartitionState) × (slice_get qs n ≡ Some q) × IsLaterPartition cs p q
all_get cs [] qs n p a at = absurd cc
all_get cs (x ∷ ps) [] n p a at = absurd a
all_get cs (x ∷ ps) (q ∷ qs) zero p a at = let same : x ≡ p = cc in (q, refl, subst (λ (y : PartitionState). IsLaterPartition cs y q) same a.0)
all_get cs (x ∷ ps) (q ∷ qs) (suc n) p a at = all_get cs ps qs n p a.1 at

-- ---- topics

still_itself : (cs : List Command) (t : TopicState) → IsStillThere cs t t
still_itself cs t = record { name = refl; config = refl; partitions = all_itself cs t.partitions }

still_then : (cs ds es : List Command) → AreAmong cs es → AreAmong ds es → (t u v : TopicState) → IsStillThere cs t u → IsStillThere ds u v → IsStillThere es t v
still_then cs ds es one two t u v a b = record {
  name = b.name ∙ a.name;
  config = b.config ∙ a.config;
  partitions = all_then cs ds es one two t.partitions u.partitions v.partitions a.partitions b.partitions;
}

-- one command keeps a topic, or deletes it
abbrev Keeps : ℕ → TopicState → Command → Known → Type 0
Keeps i t c new = (c ≡ Delete t.name) ⊎ StaysAt (c ∷ []) i t new

stays_same : (cs : List Command) (i : ℕ) (t : TopicState) (new : Known) → topic_at i new.topics ≡ Some t → StaysAt cs i t new
stays_same cs i t new at = record { topic = t; at = at; still = still_itself cs t }

below_creates : (n : ℕ) (ts : List (ℕ × TopicState)) (i : ℕ) (t : TopicState) → AreTopics n ts → topic_at i ts ≡ Some t → i < n
below_creates n [] i t all at = absurd cc
below_creates n (e ∷ ts) i t all at = by (is_at (nat_cmp i) e.0) refl at (λ rest. below_creates n ts i t all.1 rest)
  where
    by : (b : Bool) → is_at (nat_cmp i) e.0 ≡ b → cond b (Some e.1) (topic_at i ts) ≡ Some t → (topic_at i ts ≡ Some t → i < n) → i < n
    by true is at more = let same = same_number i e.0 is in let low = all.0.0 in omega (arith, same, low)
    by false is at more = more at

-- a partition that starts no earlier is put in the place of one
put_keeps : (cs : List Command) (i j p : ℕ) (part new : PartitionState) (k : Known) (t u : TopicState) → topic_at j k.topics ≡ Some u → slice_get u.partitions p ≡ Some part → IsLaterPartition cs part new → topic_at i k.topics ≡ Some t
    → StaysAt cs i t (record k { topics = put_topic j p new k.topics (topic_at j k.topics) })
put_keeps cs i j p part new k t u there at l has =
    let put : put_topic j p new k.topics (topic_at j k.topics) ≡ put_topic j p new k.topics (Some u) = ap (put_topic j p new k.topics) there in
    let found = ap (topic_at i) put ∙ found_put k.topics j i u (with_part p new u) there in
    by (is_at (nat_cmp j) i) refl found
  where
    by : (b : Bool) → is_at (nat_cmp j) i ≡ b → topic_at i (put_topic j p new k.topics (topic_at j k.topics)) ≡ cond b (Some (with_part p new u)) (topic_at i k.topics) → StaysAt cs i t (record k { topics = put_topic j p new k.topics (topic_at j k.topics) })
    by true is found =
        let same = same_number j i is in
        let one : u ≡ t = same_Some u t (sym there ∙ ap (λ n. topic_at n k.topics) same ∙ has) in
        record {
          topic = with_part p new u;
          at = found;
          still = subst (λ (x : TopicState). IsStillThere cs x (with_part p new u)) one (record { name = refl; config = refl; partitions = all_set cs u.partitions p part new at l });
        }
    by false is found = record { topic = t; at = found ∙ has; still = still_itself cs t }

found_topic : (k : Known) (i p : ℤ) (part : PartitionState) → partition_at k i p ≡ Some part → (u : TopicState) × (topic_at (natural i) k.topics ≡ Some u) × (slice_get u.partitions (natural p) ≡ Some part)
found_topic k (pos i) (pos p) part at = by (topic_at i k.topics) refl at
  where
    by : (o : Option TopicState) → topic_at i k.topics ≡ o → option_and_then (λ (t : TopicState). slice_get t.partitions p) o ≡ Some part → (u : TopicState) × (topic_at i k.topics ≡ Some u) × (slice_get u.partitions p ≡ Some part)
    by None is at = absurd (none-some part at)
    by (Some u) is at = (u, is, at)
found_topic k (pos i) (negsuc p) part at = absurd (none-some part at)
found_topic k (negsuc i) p part at = absurd (none-some part at)

module _ (i : ℕ) (t : TopicState) (k : Known) (has : topic_at i k.topics ≡ Some t) where
  keeps_by : (cs : List Command) → (j p : ℤ) (new : PartitionState → PartitionState) (n : Known) (o : Option PartitionState) → partition_at k j p ≡ o → ((part : PartitionState) → IsLaterPartition cs part (new part)) → option_map (λ part. with_partition k j p (new part)) o ≡ Some n → StaysAt cs i t n
  keeps_by cs j p new n None is l e = absurd (none-some n e)
  keeps_by cs j p new n (Some part) is l e =
      let f = found_topic k j p part is in
      subst (StaysAt cs i t) (same_Some (with_partition k j p (new part)) n e) (put_keeps cs i (natural j) (natural p) part (new part) k t f.0 f.1 f.2 (l part) has)

  starts_by : (cs : List Command) → (j p offset : ℤ) (n : Known) (o : Option PartitionState) → partition_at k j p ≡ o → option_and_then (λ (part : PartitionState). cond (int_le part.start offset) (Some (with_partition k j p (with_start part offset))) None) o ≡ Some n → StaysAt cs i t n
  starts_by cs j p offset n None is e = absurd (none-some n e)
  starts_by cs j p offset n (Some part) is e = by (int_le part.start offset) refl e
    where
      by : (b : Bool) → int_le part.start offset ≡ b → cond b (Some (with_partition k j p (with_start part offset))) None ≡ Some n → StaysAt cs i t n
      by true l e =
          let f = found_topic k j p part is in
          subst (StaysAt cs i t) (same_Some (with_partition k j p (with_start part offset)) n e) (put_keeps cs i (natural j) (natural p) part (with_start part offset) k t f.0 f.1 f.2 (later_start cs part offset (int_is part.start offset l)) has)
      by false l e = absurd (none-some n e)

  commits_by : (cs : List Command) → (c : CommitOffset) (n : Known) (b : Bool) → cond b (option_map (λ part. with_partition k c.instance c.partition (with_commit part c.group (offset_in c))) (partition_at k c.instance c.partition)) None ≡ Some n → StaysAt cs i t n
  commits_by cs c n true e = keeps_by cs c.instance c.partition (λ part. with_commit part c.group (offset_in c)) n (partition_at k c.instance c.partition) refl (λ part. later_commit cs part c.group (offset_in c)) e
  commits_by cs c n false e = absurd (none-some n e)

  creates_by : (cs : List Command) → (n : Known) (new : TopicState) (b : Bool) → IsWellFormed k → cond b (Some (with_topic k new)) None ≡ Some n → StaysAt cs i t n
  creates_by cs n new true wf e =
      let low = below_creates k.creates k.topics i t wf.topics has in
      subst (StaysAt cs i t) (same_Some (with_topic k new) n e) (stays_same cs i t (with_topic k new) (inserted_other k.creates i new k.topics (λ same. omega (arith, same, low)) ∙ has))
  creates_by cs n new false wf e = absurd (none-some n e)

  deletes_by : (name : List ℕ) (n : Known) (o : Option ℕ) → IsWellFormed k → named name k.topics ≡ o → option_map (without_topic k) o ≡ Some n → Keeps i t (Delete name) n
  deletes_by name n None wf is e = absurd (none-some n e)
  deletes_by name n (Some j) wf is e = ⊎_elim
      (λ (same : i ≡ j).
      let f = named_found name k.topics j is wf.ordered in
      let one : f.0 ≡ t = same_Some f.0 t (sym f.1 ∙ ap (λ m. topic_at m k.topics) (sym same) ∙ has) in
      inl (ap Delete (sym f.2 ∙ ap (λ (x : TopicState). x.name) one)))
      (λ (ne : i ≡ j → ⊥). inr (subst (StaysAt (Delete name ∷ []) i t) (same_Some (without_topic k j) n e) (stays_same (Delete name ∷ []) i t (without_topic k j) (other_removed j i k.topics ne ∙ has))))
      (cases_eq i j)

  groups_by : (group : List ℕ) (n : Known) (b : Bool) → cond b (Some (without_group k group)) None ≡ Some n → StaysAt (DeleteGroup group ∷ []) i t n
  groups_by group n true e =
      subst (StaysAt (DeleteGroup group ∷ []) i t) (same_Some (without_group k group) n e)
      (record {
        topic = without_commits group t;
        at = at_less group i k.topics ∙ ap (option_map (without_commits group)) has;
        still = record { name = refl; config = refl; partitions = all_without (DeleteGroup group ∷ []) group t.partitions (0, omega arith, refl) };
      })
  groups_by group n false e = absurd (none-some n e)

  issues_by : (cs : List Command) → (n : Known) (b : Bool) → cond b (Some (with_id k)) None ≡ Some n → StaysAt cs i t n
  issues_by cs n true e = subst (StaysAt cs i t) (same_Some (with_id k) n e) (stays_same cs i t (with_id k) has)
  issues_by cs n false e = absurd (none-some n e)

  step_keeps : (c : Command) (n : Known) → IsWellFormed k → step k c ≡ Some n → Keeps i t c n
  step_keeps (Create c) n wf e = inr (creates_by (Create c ∷ []) n (new_topic c.name (natural c.partitions) (config_in c)) (may_create k c) wf e)
  step_keeps (Delete name) n wf e = deletes_by name n (named name k.topics) wf refl e
  step_keeps (Issue id) n wf e = inr (issues_by (Issue id ∷ []) n (int_eq id (pos k.issues) && is_left k.issues) e)
  step_keeps (Commit c) n wf e = inr (commits_by (Commit c ∷ []) c n (nat_le (length c.metadata) 4096) e)
  step_keeps (Start s) n wf e = inr (starts_by (Start s ∷ []) s.instance s.partition s.offset n (partition_at k s.instance s.partition) refl e)
  step_keeps (DeleteGroup group) n wf e = inr (groups_by group n (has_committed group k.topics) e)
  step_keeps (Snapshot s) n wf e = absurd (none-some n e)
  step_keeps (Topic c) n wf e = absurd (none-some n e)

-- ---- topics that are gone

module _ (i : ℕ) (k : Known) (low : i < k.creates) (none : topic_at i k.topics ≡ None) where
  abbrev IsGone : Known → Type 0
  IsGone n = topic_at i n.topics ≡ None

  gone_put : (j p : ℤ) (part new : PartitionState) → partition_at k j p ≡ Some part → IsGone (with_partition k j p new)
  gone_put j p part new is =
      let f = found_topic k j p part is in
      let put : put_topic (natural j) (natural p) new k.topics (topic_at (natural j) k.topics) ≡ put_topic (natural j) (natural p) new k.topics (Some f.0) = ap (put_topic (natural j) (natural p) new k.topics) f.1 in
      ap (topic_at i) put ∙ found_put k.topics (natural j) i f.0 (with_part (natural p) new f.0) f.1 ∙ by f.0 f.1 (is_at (nat_cmp (natural j)) i) refl
    where
      by : (u : TopicState) → topic_at (natural j) k.topics ≡ Some u → (b : Bool) → is_at (nat_cmp (natural j)) i ≡ b → cond b (Some (with_part (natural p) new u)) (topic_at i k.topics) ≡ None
      by u at true same = absurd (none-some u (sym none ∙ ap (λ m. topic_at m k.topics) (sym (same_number (natural j) i same)) ∙ at))
      by u at false same = none

  gone_by : (j p : ℤ) (new : PartitionState → PartitionState) (n : Known) (o : Option PartitionState) → partition_at k j p ≡ o → option_map (λ part. with_partition k j p (new part)) o ≡ Some n → IsGone n
  gone_by j p new n None is e = absurd (none-some n e)
  gone_by j p new n (Some part) is e = subst IsGone (same_Some (with_partition k j p (new part)) n e) (gone_put j p part (new part) is)

  gone_started : (j p offset : ℤ) (n : Known) (o : Option PartitionState) → partition_at k j p ≡ o → option_and_then (λ (part : PartitionState). cond (int_le part.start offset) (Some (with_partition k j p (with_start part offset))) None) o ≡ Some n → IsGone n
  gone_started j p offset n None is e = absurd (none-some n e)
  gone_started j p offset n (Some part) is e = by (int_le part.start offset) e
    where
      by : (b : Bool) → cond b (Some (with_partition k j p (with_start part offset))) None ≡ Some n → IsGone n
      by true e = subst IsGone (same_Some (with_partition k j p (with_start part offset)) n e) (gone_put j p part (with_start part offset) is)
      by false e = absurd (none-some n e)

  gone_committed : (c : CommitOffset) (n : Known) (b : Bool) → cond b (option_map (λ part. with_partition k c.instance c.partition (with_commit part c.group (offset_in c))) (partition_at k c.instance c.partition)) None ≡ Some n → IsGone n
  gone_committed c n true e = gone_by c.instance c.partition (λ part. with_commit part c.group (offset_in c)) n (partition_at k c.instance c.partition) refl e
  gone_committed c n false e = absurd (none-some n e)

  gone_created : (n : Known) (new : TopicState) (b : Bool) → cond b (Some (with_topic k new)) None ≡ Some n → IsGone n
  gone_created n new true e = subst IsGone (same_Some (with_topic k new) n e) (inserted_other k.creates i new k.topics (λ same. omega (arith, same, low)) ∙ none)
  gone_created n new false e = absurd (none-some n e)

  gone_deleted : (name : List ℕ) (n : Known) (o : Option ℕ) → IsWellFormed k → named name k.topics ≡ o → option_map (without_topic k) o ≡ Some n → IsGone n
  gone_deleted name n None wf is e = absurd (none-some n e)
  gone_deleted name n (Some j) wf is e =
      let f = named_found name k.topics j is wf.ordered in
      subst IsGone (same_Some (without_topic k j) n e) (other_removed j i k.topics (λ same. none-some f.0 (sym none ∙ ap (λ m. topic_at m k.topics) same ∙ f.1)) ∙ none)

  gone_issued : (n : Known) (b : Bool) → cond b (Some (with_id k)) None ≡ Some n → IsGone n
  gone_issued n true e = subst IsGone (same_Some (with_id k) n e) none
  gone_issued n false e = absurd (none-some n e)

  gone_group : (group : List ℕ) (n : Known) (b : Bool) → cond b (Some (without_group k group)) None ≡ Some n → IsGone n
  gone_group group n true e = subst IsGone (same_Some (without_group k group) n e) (at_less group i k.topics ∙ ap (option_map (without_commits group)) none)
  gone_group group n false e = absurd (none-some n e)

  step_gone : (c : Command) (n : Known) → IsWellFormed k → step k c ≡ Some n → IsGone n
  step_gone (Create c) n wf e = gone_created n (new_topic c.name (natural c.partitions) (config_in c)) (may_create k c) e
  step_gone (Delete name) n wf e = gone_deleted name n (named name k.topics) wf refl e
  step_gone (Issue id) n wf e = gone_issued n (int_eq id (pos k.issues) && is_left k.issues) e
  step_gone (Commit c) n wf e = gone_committed c n (nat_le (length c.metadata) 4096) e
  step_gone (Start s) n wf e = gone_started s.instance s.partition s.offset n (partition_at k s.instance s.partition) refl e
  step_gone (DeleteGroup group) n wf e = gone_group group n (has_committed group k.topics) e
  step_gone (Snapshot s) n wf e = absurd (none-some n e)
  step_gone (Topic c) n wf e = absurd (none-some n e)

-- ---- numbers

abbrev counts : Known → Known → Type 0
counts k n = (k.creates ≤ n.creates) × (k.issues ≤ n.issues)

module _ (k : Known) where
  counts_is : (m n : Known) → counts k m → Some m ≡ Some n → counts k n
  counts_is m n c e = subst (counts k) (same_Some m n e) c

  counts_cond : (m n : Known) (b : Bool) → counts k m → cond b (Some m) None ≡ Some n → counts k n
  counts_cond m n true c e = counts_is m n c e
  counts_cond m n false c e = absurd (none-some n e)

  counts_map : {A : Type 0} (f : A → Known) (n : Known) (o : Option A) → ((x : A) → counts k (f x)) → option_map f o ≡ Some n → counts k n
  counts_map f n None c e = absurd (none-some n e)
  counts_map f n (Some x) c e = counts_is (f x) n (c x) e

  counts_then : {A : Type 0} (f : A → Option Known) (n : Known) (o : Option A) → ((x : A) → f x ≡ Some n → counts k n) → option_and_then f o ≡ Some n → counts k n
  counts_then f n None c e = absurd (none-some n e)
  counts_then f n (Some x) c e = c x e

  counts_both : (o : Option Known) (n : Known) (b : Bool) → (o ≡ Some n → counts k n) → cond b o None ≡ Some n → counts k n
  counts_both o n true c e = c e
  counts_both o n false c e = absurd (none-some n e)

  same_counts : counts k k
  same_counts = (omega arith, omega arith)

  step_counts : (c : Command) (n : Known) → step k c ≡ Some n → counts k n
  step_counts (Create c) n e = counts_cond (with_topic k (new_topic c.name (natural c.partitions) (config_in c))) n (may_create k c) (omega arith, omega arith) e
  step_counts (Delete name) n e = counts_map (without_topic k) n (named name k.topics) (λ i. same_counts) e
  step_counts (Issue id) n e = counts_cond (with_id k) n (int_eq id (pos k.issues) && is_left k.issues) (omega arith, omega arith) e
  step_counts (Commit c) n e =
      counts_both (option_map (λ part. with_partition k c.instance c.partition (with_commit part c.group (offset_in c))) (partition_at k c.instance c.partition)) n (nat_le (length c.metadata) 4096)
      (λ f. counts_map (λ part. with_partition k c.instance c.partition (with_commit part c.group (offset_in c))) n (partition_at k c.instance c.partition) (λ part. same_counts) f) e
  step_counts (Start s) n e =
      counts_then (λ (part : PartitionState). cond (int_le part.start s.offset) (Some (with_partition k s.instance s.partition (with_start part s.offset))) None) n (partition_at k s.instance s.partition)
      (λ part f. counts_cond (with_partition k s.instance s.partition (with_start part s.offset)) n (int_le part.start s.offset) same_counts f) e
  step_counts (DeleteGroup group) n e = counts_cond (without_group k group) n (has_committed group k.topics) same_counts e
  step_counts (Snapshot s) n e = absurd (none-some n e)
  step_counts (Topic c) n e = absurd (none-some n e)

-- ---- commands, one after another

contains_first : (c d : Command) (cs : List Command) → d ≡ c → Contains (d ∷ cs) c
contains_first c d cs e = (0, omega arith, e)

contains_later : (c d : Command) (cs : List Command) → Contains cs c → Contains (d ∷ cs) c
contains_later c d cs (k, l, e) = (suc k, omega (arith, l), e)

among_first : (c : Command) (cs : List Command) → AreAmong (c ∷ []) (c ∷ cs)
among_first c cs d (zero, l, e) = (0, omega arith, e)
among_first c cs d (suc i, l, e) = absurd (omega (arith, l))

goes_nowhere : (k n : Known) → Some (in_use k) ≡ Some (in_use n) → GoesOnTo k n
goes_nowhere k n e =
    let same : k ≡ n = ap (λ (r : Reading). r.known) (same_Some (in_use k) (in_use n) e) in
    subst (GoesOnTo k) same (record { commands = []; read = refl; topics = λ i t at. inr (stays_same [] i t k at); deleted = λ i low none. none; creates = omega arith; issues = omega arith })

goes_once : (k m n : Known) (c : Command) → IsWellFormed k → step k c ≡ Some m → GoesOnTo m n → GoesOnTo k n
goes_once k m n c wf e on = record {
  commands = c ∷ on.commands;
  read = ap (λ o. option_and_then (λ (r : Reading). read_all r on.commands) (option_map in_use o)) e ∙ on.read;
  topics = λ i t at. ⊎_elim
      (λ (deleted : c ≡ Delete t.name). inl (contains_first (Delete t.name) c on.commands deleted))
      (λ (s : StaysAt (c ∷ []) i t m). ⊎_elim
      (λ (later : Contains on.commands (Delete s.topic.name)).
      inl (contains_later (Delete t.name) c on.commands (subst (λ (x : List ℕ). Contains on.commands (Delete x)) s.still.name later)))
      (λ (u : StaysAt on.commands i s.topic n). inr (record {
        topic = u.topic;
        at = u.at;
        still = still_then (c ∷ []) on.commands (c ∷ on.commands) (among_first c on.commands) (λ d. contains_later d c on.commands) t s.topic u.topic s.still u.still;
      }))
      (on.topics i s.topic s.at))
      (step_keeps i t k at c m wf e);
  deleted = λ i low none. let one = step_counts k c m e in on.deleted i (omega (arith, low, one.0)) (step_gone i k low none c m wf e);
  creates = let one = step_counts k c m e in omega (arith, one.0, on.creates);
  issues = let one = step_counts k c m e in omega (arith, one.1, on.issues);
}

-- applicable commands, and then others
read_both : (j k n : Reading) (cs ds : List Command) → read_all j cs ≡ Some k → read_all k ds ≡ Some n → read_all j (cs ++ ds) ≡ Some n
read_both j k n [] ds f g = subst (λ (r : Reading). read_all r ds ≡ Some n) (sym (same_Some j k f)) g
read_both j k n (c ∷ cs) ds f g = by (read_step j c) f (λ m h. read_both m k n cs ds h g)
  where
    by : (o : Option Reading) → option_and_then (λ (r : Reading). read_all r cs) o ≡ Some k → ((m : Reading) → read_all m cs ≡ Some k → read_all m (cs ++ ds) ≡ Some n) → option_and_then (λ (r : Reading). read_all r (cs ++ ds)) o ≡ Some n
    by None h more = absurd (none-some k h)
    by (Some m) h more = more m h

pub goes_itself : (k : Known) → GoesOnTo k k
goes_itself k = goes_nowhere k k refl

-- what goes on from what goes on
pub goes_then : (k m n : Known) → GoesOnTo k m → GoesOnTo m n → GoesOnTo k n
goes_then k m n a b = record {
  commands = a.commands ++ b.commands;
  read = read_both (in_use k) (in_use m) (in_use n) a.commands b.commands a.read b.read;
  topics = λ i t at. ⊎_elim
      (λ (deleted : Contains a.commands (Delete t.name)). inl (Contains-append_left a.commands b.commands (Delete t.name) deleted))
      (λ (s : StaysAt a.commands i t m). ⊎_elim
      (λ (later : Contains b.commands (Delete s.topic.name)).
      inl (Contains-append_right a.commands b.commands (Delete t.name) (subst (λ (x : List ℕ). Contains b.commands (Delete x)) s.still.name later)))
      (λ (u : StaysAt b.commands i s.topic n). inr (record {
        topic = u.topic;
        at = u.at;
        still = still_then a.commands b.commands (a.commands ++ b.commands) (λ c. Contains-append_left a.commands b.commands c)
            (λ c. Contains-append_right a.commands b.commands c) t s.topic u.topic s.still u.still;
      }))
      (b.topics i s.topic s.at))
      (a.topics i t at);
  deleted = λ i low none. b.deleted i (let one = a.creates in omega (arith, low, one)) (a.deleted i low none);
  creates = let one = a.creates in let two = b.creates in omega (arith, one, two);
  issues = let one = a.issues in let two = b.issues in omega (arith, one, two);
}

pub commands_first : (k m n : Known) (a : GoesOnTo k m) (b : GoesOnTo m n) (c : Command) → Contains a.commands c → Contains (goes_then k m n a b).commands c
unfolding goes_then
commands_first k m n a b c has = Contains-append_left a.commands b.commands c has

pub commands_second : (k m n : Known) (a : GoesOnTo k m) (b : GoesOnTo m n) (c : Command) → Contains b.commands c → Contains (goes_then k m n a b).commands c
unfolding goes_then
commands_second k m n a b c has = Contains-append_right a.commands b.commands c has

goes_all : (ss : List (List ℕ)) (cs : List Command) (k n : Known) → SayEach ss cs → IsWellFormed k → read_all (in_use k) cs ≡ Some (in_use n) → GoesOnTo k n
goes_all [] [] k n said wf e = goes_nowhere k n e
goes_all [] (c ∷ cs) k n said wf e = absurd said
goes_all (s ∷ ss) [] k n said wf e = absurd said
goes_all (s ∷ ss) (c ∷ cs) k n said wf e = by (step k c) refl e (λ m w f. goes_all ss cs m n said.1 w f)
  where
    by : (o : Option Known) → step k c ≡ o → option_and_then (λ (r : Reading). read_all r cs) (option_map in_use o) ≡ Some (in_use n) → ((m : Known) → IsWellFormed m → read_all (in_use m) cs ≡ Some (in_use n) → GoesOnTo m n) → GoesOnTo k n
    by None is f more = absurd (none-some (in_use n) f)
    by (Some m) is f more = goes_once k m n c wf is (more m (read_well_formed s (in_use k) (in_use m) c said.0 (ap (option_map in_use) is) wf) f)

-- ---- a catalog's batches

-- the first of some commands that are applicable is
stepped : (j k : Reading) (c : Command) (cs : List Command) → read_all j (c ∷ cs) ≡ Some k → (n : Reading) × (read_step j c ≡ Some n) × (read_all n cs ≡ Some k)
stepped j k c cs e = by (read_step j c) refl
  where
    by : (o : Option Reading) → read_step j c ≡ o → (n : Reading) × (read_step j c ≡ Some n) × (read_all n cs ≡ Some k)
    by None is = absurd (none-some k (sym (ap (option_and_then (λ (m : Reading). read_all m cs)) is) ∙ e))
    by (Some n) is = (n, is, sym (ap (option_and_then (λ (m : Reading). read_all m cs)) is) ∙ e)

head_is : (s t : List ℕ) (ss ts : List (List ℕ)) → s ∷ ss ≡ t ∷ ts → (s ≡ t) × (ss ≡ ts)
head_is s t ss ts e = (cc, cc)

-- the commands behind those that were all read
record Further (k n : Reading) : Type 0 where
  batches : List (List ℕ)
  commands : List Command
  said : SayEach batches commands
  read : read_all k commands ≡ Some n

further : (j k n : Reading) (us ws xs ys : List (List ℕ)) (cs ds : List Command) → SayEach us cs → SayEach ws ds → read_all j cs ≡ Some k → read_all j ds ≡ Some n → us ++ xs ≡ ws ++ ys → EndsWith ys n → Further k n
further j k n [] ws xs ys [] ds p q f g e s = record { batches = ws; commands = ds; said = q; read = subst (λ (r : Reading). read_all r ds ≡ Some n) (same_Some j k f) g }
further j k n [] ws xs ys (c ∷ cs) ds p q f g e s = absurd p
further j k n (u ∷ us) ws xs ys [] ds p q f g e s = absurd p
further j k n (u ∷ us) [] xs ys (c ∷ cs) [] p q f g e s =
    let made = stepped j k c cs f in
    let none : read_step n c ≡ None = subst (λ (zs : List (List ℕ)). EndsWith zs n) (sym e) s c p.0 in
    absurd (none-some made.0 (sym none ∙ ap (λ m. read_step m c) (sym (same_Some j n g)) ∙ made.1))
further j k n (u ∷ us) [] xs ys (c ∷ cs) (d ∷ ds) p q f g e s = absurd q
further j k n (u ∷ us) (w ∷ ws) xs ys (c ∷ cs) [] p q f g e s = absurd q
further j k n (u ∷ us) (w ∷ ws) xs ys (c ∷ cs) (d ∷ ds) p q f g e s =
    let heads = head_is u w (us ++ xs) (ws ++ ys) e in
    let one : d ≡ c = one_command w d c q.0 (subst (λ (t : List ℕ). Says t c) heads.0 p.0) in
    let made = stepped j k c cs f in
    let also = stepped j n d ds g in
    let same : also.0 ≡ made.0 = same_Some also.0 made.0 (sym also.1 ∙ ap (read_step j) one ∙ made.1) in
    further made.0 k n us ws xs ys cs ds p.1 q.1 made.2 (subst (λ (m : Reading). read_all m ds ≡ Some n) same also.2) heads.1 s

-- where batches that were all commands are a front of others, these come to what those came to after more commands
pub catalog_on : (generation : ℕ) (bs cs : List (List ℕ)) (k n : Known) → IsFoldOf generation bs k → IsFrontOf bs cs → IsLongestFold generation cs n → GoesOnTo k n
catalog_on generation bs cs k n fold front long =
    let more = further (starting_at generation) (in_use k) (in_use n) bs long.before front.rest long.behind fold.commands long.fold.commands fold.said long.fold.said fold.read long.fold.read (sym front.split ∙ long.split) long.ends in
    goes_all more.batches more.commands k n more.said (fold_well_formed generation bs k fold) more.read

-- ---- a later generation

-- which begins with a snapshot of what was known
pub anew_on : (generation : ℕ) (bs : List (List ℕ)) (k n : Known) → 0 < generation → BeginsAnew k bs → IsLongestFold generation bs n → GoesOnTo k n
anew_on zero bs k n some anew long = absurd (omega (arith, some))
anew_on (suc g) bs k n some anew long =
    goes_then k anew.renewed n anew.later
    (catalog_on (suc g) anew.snapshot bs anew.renewed n (record { commands = snapshot_of anew.renewed; said = anew.said; read = read_snapshot anew.renewed anew.kept }) anew.front long)

-- a renewal, after more commands of the generation before
pub anew_of : (generation : ℕ) (bs more : List (List ℕ)) (k r : Known) (ss later : List (List ℕ)) → IsFoldOf generation bs k → IsFoldOf generation (bs ++ more) r → SayEach ss (snapshot_of r) → IsFrontOf ss later → BeginsAnew k later
anew_of generation bs more k r ss later before fold said front = record {
  renewed = r;
  later = catalog_on generation bs (bs ++ more) k r before (record { rest = more; split = refl })
      (record { before = bs ++ more; behind = []; split = sym (append-nil (bs ++ more)); fold = fold; ends = tt });
  kept = fold_well_formed generation (bs ++ more) r fold;
  snapshot = ss;
  said = said;
  front = front;
}

-- and one after another
pub anew_then : (k m : Known) (bs : List (List ℕ)) → GoesOnTo k m → BeginsAnew m bs → BeginsAnew k bs
anew_then k m bs goes anew = record {
  renewed = anew.renewed;
  later = goes_then k m anew.renewed goes anew.later;
  kept = anew.kept;
  snapshot = anew.snapshot;
  said = anew.said;
  front = anew.front;
}
