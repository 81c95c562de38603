-- What a command makes of a catalog where the call is not refused, and how a refusal is left.
use Rattle.std.proofs.Common.{rules, ◌≡◌, ◌∙◌, ◌<◌, ◌+◌, ◌-◌, ◌^◌, ℕ, Bool, true, false, cond, List, [], ◌∷◌, ◌++◌, length, Option, Some, None, Result, Ok, Err, refl, sym, ap, subst, arith}
use Rattle.std.specs.Prelude.{ℤ, pos, negsuc, ◌≤ℤ◌, ◌<ℤ◌, ◌&&◌, nat_le, nat_lt, int_le, int_lt, not, is_none, is_some, is_err, unwrap_or, OnOk, IfSome, MatchOption}
use Rattle.std.specs.Option.{option_map, option_and_then}
use Rattle.std.specs.Ordering.{int_eq}
use Rattle.std.specs.Str.{bytes_eq}
use Rattle.std.proofs.lemmas.Int.{ints}
use Rattle.kb_batch.specs.Batch.{natural}
use Rattle.kb_log.specs.OnShelf.{OnShelf, batches_of}
use Rattle.kb_topics.specs.declared.config.TopicConfig.{TopicConfig}
use Rattle.kb_topics.specs.declared.command.Command.{Command}
use Rattle.kb_topics.specs.declared.command.Command.TheVariants.{Create, Delete}
use Rattle.kb_topics.specs.declared.fault.CatalogFault.{CatalogFault}
use Rattle.kb_topics.specs.declared.fault.CatalogFault.TheVariants as faults
use Rattle.kb_topics.specs.Name.{is_legal}
use Rattle.kb_topics.specs.Known.{Known, TopicState, PartitionState, topic_at, named, partition_at, new_topic, with_topic, without_topic, with_id, with_partition, with_start, is_limit, is_left, is_partition_count, step}
use Rattle.kb_topics.specs.Refusals.{create_refusal, delete_refusal, issue_refusal, start_refusal}
use Rattle.kb_topics.specs.Reading.{Reading, in_use, read_all, read_step, starting_at}
use Rattle.kb_topics.specs.MetaLog.{Says, SayEach, IsReadAs, IsFoldOf}
use Rattle.kb_topics.specs.Calls.{Appended, Unchanged, IsLogCause, IsCause, StaysFold, Records}
use Rattle.kb_topics.specs.Catalog.{place_in}
use Rattle.kb_topics.specs.Commands.{create_command, issue_command, start_command}
use Rattle.kb_topics.proofs.Topics.{remove_inserted}
use Rattle.kb_topics.proofs.Appending.{unchanged_same}

-- ---- tests of whole numbers

le_int : (x y : ℤ) → (y <ℤ x → ⊥) → int_le x y ≡ true
le_int x y h = grind (arith, ints, h)

lt_int_false : (x y : ℤ) → (x <ℤ y → ⊥) → int_lt x y ≡ false
lt_int_false x y h = grind (arith, ints, h)

int_le_is : (x y : ℤ) → int_le x y ≡ true → x ≤ℤ y
int_le_is x y h = grind (arith, ints, h)

-- ---- what is read

abbrev then_read : List Command → Option Reading → Option Reading
then_read cs o = option_and_then (λ r. read_all r cs) o

later_more : (cs : List Command) (c : Command) (m n : Reading) → ((j : Reading) → read_all j cs ≡ Some m → read_all j (cs ++ c ∷ []) ≡ Some n) → (o : Option Reading) → then_read cs o ≡ Some m → then_read (cs ++ c ∷ []) o ≡ Some n
later_more cs c m n more None g = absurd cc
later_more cs c m n more (Some j) g = more j g

read_more : (r : Reading) (cs : List Command) (c : Command) (m n : Reading) → read_all r cs ≡ Some m → read_step m c ≡ Some n → read_all r (cs ++ c ∷ []) ≡ Some n
read_more r [] c m n e f =
    let same : r ≡ m = cc in
    ap (then_read []) (ap (λ j. read_step j c) same ∙ f)
read_more r (d ∷ cs) c m n e f = later_more cs c m n (λ j g. read_more j cs c m n g f) (read_step r d) e

said_more : (ss : List (List ℕ)) (cs : List Command) (s : List ℕ) (c : Command) → SayEach ss cs → Says s c → SayEach (ss ++ s ∷ []) (cs ++ c ∷ [])
said_more [] [] s c h g = (g, tt)
said_more [] (d ∷ cs) s c h g = absurd h
said_more (t ∷ ss) [] s c h g = absurd h
said_more (t ∷ ss) (d ∷ cs) s c h g = (h.0, said_more ss cs s c h.1 g)

-- one more batch of a generation
pub read_as_more : (generation : ℕ) (ss : List (List ℕ)) (r n : Reading) (s : List ℕ) (c : Command) → IsReadAs generation ss r → Says s c → read_step r c ≡ Some n → IsReadAs generation (ss ++ s ∷ []) n
read_as_more generation ss r n s c h says f = record {
  commands = h.commands ++ c ∷ [];
  said = said_more ss h.commands s c h.said says;
  read = read_more (starting_at generation) h.commands c r n h.read f;
}

pub fold_more : (generation : ℕ) (ss : List (List ℕ)) (k n : Known) (s : List ℕ) (c : Command) → IsFoldOf generation ss k → Says s c → step k c ≡ Some n → IsFoldOf generation (ss ++ s ∷ []) n
fold_more generation ss k n s c h says f = read_as_more generation ss (in_use k) (in_use n) s c h says (ap (option_map in_use) f)

-- ---- answers

still : (a b : OnShelf) (old new : Known) → new ≡ old → Unchanged a b → StaysFold a old b new
still a b old new same u = λ h g n fold. subst (λ ss. IsFoldOf n ss new) (sym (u.kept h g)) (subst (IsFoldOf n (batches_of a)) (sym same) fold)

-- an accepted call
pub recorded : {T : Type 0} (a b : OnShelf) (old new : Known) (c : Command) (answer x : T) (refusal : Option CatalogFault) → refusal ≡ None → x ≡ answer → step old c ≡ Some new → Appended a b c → Records a old c answer refusal (Ok x) b new
recorded a b old new c answer x refusal none same made appended = (
  none,
  same,
  made,
  appended,
  λ h g n fold.
      let s = appended.added h g in
      subst (λ ss. IsFoldOf n ss new) (sym s.2) (fold_more n (batches_of a) old new s.0 c fold s.1 made),
)

-- a call that the log refused
pub not_recorded : {T : Type 0} (a b : OnShelf) (old new : Known) (c : Command) (answer : T) (refusal : Option CatalogFault) (f : CatalogFault) → refusal ≡ None → new ≡ old → IsLogCause a f b × Unchanged a b → Records a old c answer refusal (Err f) b new
not_recorded a b old new c answer refusal f none same h = (subst (λ r. IsCause a r f b) (sym none) h.0, same, h.1, still a b old new same h.1)

-- a call that was refused before the log was asked
pub refused : {T : Type 0} (a : OnShelf) (old new : Known) (c : Command) (answer : T) (refusal : Option CatalogFault) (f : CatalogFault) → refusal ≡ Some f → new ≡ old → Records a old c answer refusal (Err f) a new
refused a old new c answer refusal f some same = (subst (λ r. IsCause a r f a) (sym some) refl, same, unchanged_same a, still a a old new same (unchanged_same a))

chain : (legal there count limits many used : Bool) → cond (not legal) (Some faults.Name) (cond there (Some faults.Exists) (cond (not count) (Some faults.Partitions) (cond (not limits) (Some faults.Limit) (cond many (Some faults.TooMany) (cond used (Some faults.Full) None))))) ≡ None → (legal ≡ true) × (there ≡ false) × (count ≡ true) × (limits ≡ true) × (many ≡ false) × (used ≡ false)
chain false there count limits many used e = absurd cc
chain true true count limits many used e = absurd cc
chain true false false limits many used e = absurd cc
chain true false true false many used e = absurd cc
chain true false true true true used e = absurd cc
chain true false true true false true e = absurd cc
chain true false true true false false e = (refl, refl, refl, refl, refl, refl)

pub none_of : {A : Type 0} (o : Option A) → is_some o ≡ false → o ≡ None
none_of None e = refl
none_of (Some x) e = absurd cc

is_none_of : {A : Type 0} (o : Option A) → is_some o ≡ false → is_none o ≡ true
is_none_of None e = refl
is_none_of (Some x) e = absurd cc

both_of : (a b : Bool) → (a && b) ≡ true → (a ≡ true) × (b ≡ true)
both_of true b e = (refl, e)
both_of false b e = absurd cc

fewer : (n : ℕ) → nat_le 1000 n ≡ false → nat_lt n 1000 ≡ true
fewer n e = grind (arith, e)

one_left : (n : ℕ) → n < 2 ^ 63 - 1 → is_left n ≡ true
one_left n h = grind (arith, h)

own_int : (z : ℤ) → int_eq z z ≡ true
own_int z = search rules

module _ (k : Known) (name : List ℕ) (p : ℤ) (config : TopicConfig) (e : create_refusal k name p config ≡ None) where
  passed : (is_legal name ≡ true) × (is_some (named name k.topics) ≡ false) × (is_partition_count p ≡ true) × ((is_limit config.retention_ms && is_limit config.retention_bytes) ≡ true) × (nat_le 1000 (length k.topics) ≡ false) × (nat_le (2 ^ 63 - 1) k.creates ≡ false)
  passed = chain (is_legal name) (is_some (named name k.topics)) (is_partition_count p) (is_limit config.retention_ms && is_limit config.retention_bytes) (nat_le 1000 (length k.topics)) (nat_le (2 ^ 63 - 1) k.creates) e

  pub unnamed : named name k.topics ≡ None
  unnamed = none_of (named name k.topics) passed.1

  pub instances_left : k.creates < 2 ^ 63 - 1
  instances_left = let h = passed.5 in grind (arith, h)

  pub some_partitions : pos 1 ≤ℤ p
  some_partitions = let h = (both_of (int_le (pos 1) p) (int_le p (pos 64)) passed.2).0 in int_le_is (pos 1) p h

  pub step_create : step k (create_command k name p config) ≡ Some (with_topic k (new_topic name (natural p) config))
  step_create =
      let limits = both_of (is_limit config.retention_ms) (is_limit config.retention_bytes) passed.3 in
      rw (passed.0, is_none_of (named name k.topics) passed.1, own_int (pos k.creates), passed.2, limits.0, limits.1, fewer (length k.topics) passed.4, one_left k.creates instances_left) refl

pub legal_short : (name : List ℕ) → is_legal name ≡ true → length name < 2 ^ 15
legal_short name e =
    let h = both_of (nat_le 1 (length name) && nat_le (length name) 249 && not (bytes_eq name (46 ∷ [])) && not (bytes_eq name (46 ∷ 46 ∷ []))) _ e in
    grind (arith, h.0)

-- what was made and taken back
pub undone : (k j m : Known) (t : TopicState) → topic_at k.creates k.topics ≡ None → j ≡ with_topic k t → m ≡ record (without_topic j (j.creates - 1)) { creates = j.creates - 1 } → m ≡ k
undone k j m t fresh e f =
    let n : k.creates + 1 - 1 ≡ k.creates = omega arith in
    f ∙ ap (λ (i : Known). record (without_topic i (i.creates - 1)) { creates = i.creates - 1 }) e
    ∙ ap (λ i. record (without_topic (with_topic k t) i) { creates = i }) n
    ∙ ap (λ ts. record k { topics = ts }) (remove_inserted k.creates t k.topics fresh)

-- ---- the other calls

deleted_by : (k m : Known) (o : Option ℕ) → is_some o ≡ true → MatchOption o (m ≡ k) (λ i. m ≡ without_topic k i) → option_map (without_topic k) o ≡ Some m
deleted_by k m None f g = absurd cc
deleted_by k m (Some j) f g = ap Some (sym g)

pub step_delete : (k m : Known) (name : List ℕ) → is_some (named name k.topics) ≡ true → MatchOption (named name k.topics) (m ≡ k) (λ i. m ≡ without_topic k i) → step k (Delete name) ≡ Some m
step_delete k m name e h = deleted_by k m (named name k.topics) e h

pub some_of : (o p : Option ℕ) → o ≡ p → is_none o ≡ false → is_some p ≡ true
some_of None p e f = absurd cc
some_of (Some i) p e f = ap is_some (sym e)

pub delete_known : (o : Option ℕ) → is_some o ≡ true → delete_refusal o ≡ None
delete_known None e = absurd cc
delete_known (Some i) e = refl

pub step_issue : (k m : Known) → k.issues < 2 ^ 63 - 1 → m ≡ with_id k → step k (issue_command k) ≡ Some m
step_issue k m h e = rw (own_int (pos k.issues), one_left k.issues h) (ap Some (sym e))

pub ids_left : (k : Known) → k.issues < 2 ^ 63 - 1 → issue_refusal k ≡ None
ids_left k h = grind (arith, h)

pub step_start : (k m : Known) (i p : ℤ) (offset : ℤ) (part : PartitionState) → partition_at k i p ≡ Some part → (offset <ℤ part.start → ⊥) → IfSome (partition_at k i p) (λ q. m ≡ with_partition k i p (with_start q offset)) → step k (start_command i p offset) ≡ Some m
step_start k m i p offset part e ahead h =
    let is : m ≡ with_partition k i p (with_start part offset) = subst (λ o. IfSome o (λ q. m ≡ with_partition k i p (with_start q offset))) e h in
    let passes : int_le part.start offset ≡ true = le_int part.start offset ahead in
    ap (option_and_then (λ (q : PartitionState). cond (int_le q.start offset) (Some (with_partition k i p (with_start q offset))) None)) e
    ∙ ap (λ b. cond b (Some (with_partition k i p (with_start part offset))) None) passes ∙ ap Some (sym is)

pub start_passes : (offset : ℤ) (o : Option PartitionState) (part : PartitionState) → o ≡ Some part → (offset <ℤ part.start → ⊥) → start_refusal offset o ≡ None
start_passes offset o part e ahead = ap (start_refusal offset) e ∙ ap (λ b. cond b (Some faults.Back) None) (lt_int_false offset part.start ahead)

pub on_ok : {T E P : Type 0} (r : Result T E) → is_err r ≡ false → OnOk r P → P
on_ok (Ok x) e p = p
on_ok (Err f) e p = absurd cc

pub create_short : (k : Known) (name : List ℕ) (p : ℤ) (config : TopicConfig) → create_refusal k name p config ≡ None → length name < 2 ^ 15
create_short k name p config e = legal_short name (passed k name p config e).0

-- ---- commands whose fields are written otherwise

pub started_alike : (a b : OnShelf) (i j p q o r : ℤ) → j ≡ i → q ≡ p → r ≡ o → Appended a b (start_command j q r) → Appended a b (start_command i p o)
started_alike a b i j p q o r e f g h = subst (λ z. Appended a b (start_command i p z)) g (subst (λ z. Appended a b (start_command i z r)) f (subst (λ z. Appended a b (start_command z q r)) e h))

abbrev pub creation : List ℕ → ℤ → ℤ → ℤ → ℤ → Command
creation name i p ms bytes = Create (record { name = name; instance = i; partitions = p; retention_ms = ms; retention_bytes = bytes })

pub created_alike : (a b : OnShelf) (name text : List ℕ) (i j p q ms mt bytes cytes : ℤ) → text ≡ name → j ≡ i → q ≡ p → mt ≡ ms → cytes ≡ bytes → Appended a b (creation text j q mt cytes) → Appended a b (creation name i p ms bytes)
created_alike a b name text i j p q ms mt bytes cytes d e f g h app =
    subst (λ z. Appended a b (creation name i p ms z)) h (subst (λ z. Appended a b (creation name i p z cytes)) g (subst (λ z. Appended a b (creation name i z mt cytes)) f
    (subst (λ z. Appended a b (creation name z q mt cytes)) e (subst (λ s. Appended a b (creation s j q mt cytes)) d app))))

-- a start that was moved
pub start_recorded : (a b : OnShelf) (k m : Known) (i p : ℤ) (n q : ℕ) (offset : ℤ) (part : PartitionState) → place_in i p ≡ Some (n, q) → partition_at k (pos n) (pos q) ≡ Some part → (offset <ℤ part.start → ⊥) → IfSome (partition_at k (pos n) (pos q)) (λ r. m ≡ with_partition k (pos n) (pos q) (with_start r offset)) → Appended a b (start_command i p offset) → Records {T = Unit {0}} a k (start_command i p offset) tt (start_refusal offset (partition_at k i p)) (Ok tt) b m
start_recorded a b k m (pos i) (pos p) n q offset part e f ahead h app =
    let same : (i, p) ≡ (n, q) = ap (λ o. unwrap_or o (i, p)) e in
    let there : partition_at k (pos i) (pos p) ≡ Some part = subst (λ (x : ℕ × ℕ). partition_at k (pos x.0) (pos x.1) ≡ Some part) (sym same) f in
    let made : IfSome (partition_at k (pos i) (pos p)) (λ r. m ≡ with_partition k (pos i) (pos p) (with_start r offset)) = subst (λ (x : ℕ × ℕ). IfSome (partition_at k (pos x.0) (pos x.1)) (λ r. m ≡ with_partition k (pos x.0) (pos x.1) (with_start r offset))) (sym same) h in
    recorded a b k m (start_command (pos i) (pos p) offset) tt tt (start_refusal offset (partition_at k (pos i) (pos p))) (start_passes offset (partition_at k (pos i) (pos p)) part there ahead) refl (step_start k m (pos i) (pos p) offset part there ahead made) app
start_recorded a b k m (pos i) (negsuc p) n q offset part e f ahead h app = absurd cc
start_recorded a b k m (negsuc i) p n q offset part e f ahead h app = absurd cc

-- ... and one that the log refused
pub start_not_recorded : (a b : OnShelf) (k m : Known) (i p : ℤ) (n q : ℕ) (offset : ℤ) (part : PartitionState) (fault : CatalogFault) → place_in i p ≡ Some (n, q) → partition_at k (pos n) (pos q) ≡ Some part → (offset <ℤ part.start → ⊥) → m ≡ k → IsLogCause a fault b × Unchanged a b → Records {T = Unit {0}} a k (start_command i p offset) tt (start_refusal offset (partition_at k i p)) (Err fault) b m
start_not_recorded a b k m (pos i) (pos p) n q offset part fault e f ahead same h =
    let at : (i, p) ≡ (n, q) = ap (λ o. unwrap_or o (i, p)) e in
    let there : partition_at k (pos i) (pos p) ≡ Some part = subst (λ (x : ℕ × ℕ). partition_at k (pos x.0) (pos x.1) ≡ Some part) (sym at) f in
    not_recorded {T = Unit {0}} a b k m (start_command (pos i) (pos p) offset) tt (start_refusal offset (partition_at k (pos i) (pos p))) fault (start_passes offset (partition_at k (pos i) (pos p)) part there ahead) same h
start_not_recorded a b k m (pos i) (negsuc p) n q offset part fault e f ahead same h = absurd cc
start_not_recorded a b k m (negsuc i) p n q offset part fault e f ahead same h = absurd cc
