-- What a tenant has is what its files come to, whatever was refused.
use Rattle.std.proofs.Common.{◌≡◌, ◌∙◌, ◌<◌, ◌≤◌, ◌^◌, ◌⊎◌, inl, inr, ⊎_elim, ℕ, zero, suc, Bool, true, false, not, cond, List, [], ◌∷◌, Option, Some, None, refl, sym, ap, subst, eqb-true, arith}
use Rattle.std.specs.Prelude.{ℤ, pos, ◌&&◌, IfOk, Result, Ok, Err, slice_get, nat_eq, IsSome, option_map, unwrap_or, length, string_bytes}
use Rattle.std.specs.FinMap.{get, keys, contains_key-keys}
use Rattle.std.specs.Bool.{Decides}
use Rattle.std.specs.Cmp.{unsigned_tied}
use Rattle.std.specs.Option.{option_and_then}
use Rattle.std.specs.Ordering.{nat_cmp, eq_by_cmp}
use Rattle.std.specs.Map.{lookup}
use Rattle.std.specs.BTreeMap.{is_at}
use Rattle.std.specs.declared.alloc.Global.{Global}
use Rattle.std.specs.declared.vec.Vec.{Vec}
use Rattle.std.specs.List.{AllByRecursion, Contains, IsDistinct, filter, list_any}
use Rattle.std.specs.Str.{bytes_eq}
use Rattle.std.proofs.lemmas.Bool.{and_parts, cases_lt, eq-eqb, false≢true}
use Rattle.std.proofs.lemmas.List.Elements.{All-contains}
use Rattle.std.proofs.lemmas.Map.Keys.{IsDistinct-cons, IsDistinct-head, IsDistinct-tail}
use Rattle.std.proofs.lemmas.List.{append-nil}
use Rattle.std.proofs.lemmas.Map.Made.{is_member-Decides, lookup-map_values}
use Rattle.std.proofs.lemmas.Option.{none-some, slice_get-map, slice_get_within}
use Rattle.std.proofs.lemmas.Slice.Eq.{bytes_eq-Decides}
use Rattle.kb_store.specs.Disk.{Disk, Files, IsLawfulDisk, IsThere, Table, bytes_of}
use Rattle.kb_batch.specs.Batch.{is_natural, natural}
use Rattle.kb_segment.specs.Header.{Header, header_in}
use Rattle.kb_segment.specs.declared.segment.Segment.{Segment}
use Rattle.kb_log.specs.OnShelf.{Identity}
use Rattle.kb_segment_log.specs.SegmentLog.{bytes_at, segment_log, whose, IsFileOf, IsHeaded, IsNamed, Names}
use Rattle.kb_segment_log.specs.Chain.{ComesTo}
use Rattle.kb_segment_log.specs.Reopened.{AreNamedOf}
use Rattle.kb_segment_log.specs.declared.log.SegmentLog.{SegmentLog}
use Rattle.kb_segment_log.proofs.Fronts.{header_within}
use Rattle.kb_segment_log.proofs.Reopens.{reopens}
use Rattle.kb_topics.specs.Catalog.{known, meta_log, catalog_identity}
use Rattle.kb_topics.specs.Known.{Known, PartitionState, TopicState, partition_at, topic_at}
use Rattle.kb_tenant_state.specs.Partitions.{log_state, logs_of, partition_identity}
use Rattle.kb_tenant_state.specs.Partitions as partitions
use Rattle.kb_snapshot.specs.Renewal.{IsUnfinished}
use Rattle.kb_tenant_state.specs.Scene.{IsGivenUp}
use Rattle.kb_tenant_state.specs.declared.partition.Partition.{Partition}
use Rattle.kb_tenant_state.proofs.Changed.{log_at_is}
use Rattle.kb_tenant_state.specs.Parts.{IsOfFormer, IsOfGone, IsPast, IsSound, Agrees, entries, meta, start_said}
use Rattle.kb_tenant_state.specs.Tied.{counted, partition_count}
use Rattle.kb_tenant_state.specs.declared.parts.Parts.{Parts}
use Rattle.kb_tenant_api.specs.Hosted.{TenantState, kept_of, names_of}
use Rattle.kb_tenants.specs.Tenants.{IsKeptIn, IsLeftBy, IsOfSome, IsOfUnfinished}
use Rattle.kb_opening.specs.Opened.{Owners, ComesToKnown, IsInUse, IsLogOf, IsLongestFold, IsOpened, NoneAbove}
use Rattle.kb_opening.specs.Tenant.{generation_of}
use Rattle.kb_opening.proofs.Generations.{nothing_whole}
use Rattle.kb_opening.proofs.Lost.{known_of}
use Rattle.kb_opening.proofs.Counted.{logs_counted}
use Rattle.kb_opening.proofs.Named.{Rises, at_place, is_place}
use Rattle.kb_opening.proofs.Owned.{generation_told, small_in}
use Rattle.kb_opening.specs.Owners.{place_among, catalog_of, partition_of, strays_of, is_of_catalog, is_of_partition, is_of_one, passes, says}
use Rattle.kb_restart.specs.Again.{AreApart, AreStillStrays, IsFound}
use Rattle.kb_restart.specs.Restart.{IsOfLater, IsUnknown, owners_of}
use Rattle.kb_restart.proofs.Headed.{not_both, number_is}
use Rattle.kb_restart.proofs.Listed.{all_listed, listed_apart}
use Rattle.kb_restart.proofs.Reopened.{item_within}
use Rattle.kb_restart.proofs.Strays.{legal_in, own_number}
use Rattle.kb_restart.proofs.Unfinished.{WasIts, not_whole}
use Rattle.kb_restart.proofs.Read.{both_true, catalog_one, in_filter, of_filter, partition_one, passes_weaker}

-- ---- answers

pub ok_both : {T E : Type 0} {P Q X : T → Type 0} (r : Result T E) → ((x : T) → P x → Q x → X x) → IfOk r P → IfOk r Q → IfOk r X
ok_both (Ok x) f p q = f x p q
ok_both (Err e) f p q = tt

-- ---- lists

some_is : {A : Type 0} {x y : A} → Some x ≡ Some y → x ≡ y
some_is {A} {x} {y} e = cc

distinct_filter : (p : ℕ → Bool) (xs : List ℕ) → IsDistinct nat_eq xs → IsDistinct nat_eq (filter p xs)
distinct_filter p [] d = d
distinct_filter p (x ∷ xs) d = by (p x) (distinct_filter p xs (IsDistinct-tail nat_eq x xs d))
  where
    apart : (ys : List ℕ) → AllByRecursion (λ y. nat_eq x y ≡ false) ys → AllByRecursion (λ y. nat_eq x y ≡ false) (filter p ys)
    apart [] a = a
    apart (y ∷ ys) a = each (p y) (apart ys a.1)
      where
        each : (b : Bool) → AllByRecursion (λ z. nat_eq x z ≡ false) (filter p ys) → AllByRecursion (λ z. nat_eq x z ≡ false) (cond b (y ∷ filter p ys) (filter p ys))
        each true r = (a.0, r)
        each false r = r

    by : (b : Bool) → IsDistinct nat_eq (filter p xs) → IsDistinct nat_eq (cond b (x ∷ filter p xs) (filter p xs))
    by true r = IsDistinct-cons nat_eq x (filter p xs) (apart xs (IsDistinct-head nat_eq x xs d)) r
    by false r = r

behind : (x : ℕ) (xs : List ℕ) (n : ℕ) → Contains xs n → Contains (x ∷ xs) n
behind x xs n (k, l, e) = (suc k, omega (arith, l), e)

of_cons : (P : ℕ → Type 0) (x : ℕ) (xs : List ℕ) → P x → ((n : ℕ) → Contains xs n → P n) → (n : ℕ) → Contains (x ∷ xs) n → P n
of_cons P x xs here rest n (zero, l, e) = subst P e here
of_cons P x xs here rest n (suc k, l, e) = rest n (k, omega (arith, l), e)

-- what fails of none of some numbers does not fail of all
all_of : (P : ℕ → Type 0) (xs : List ℕ) → ((n : ℕ) → Contains xs n → (P n → ⊥) → ⊥) → (((n : ℕ) → Contains xs n → P n) → ⊥) → ⊥
all_of P [] each none = none (λ n has. let lt = has.1 in absurd (omega (arith, lt)))
all_of P (x ∷ xs) each none =
    each x (0, omega arith, refl) (λ here. all_of P xs (λ n has. each n (behind x xs n has)) (λ rest. none (λ n has. of_cons P x xs here rest n has)))

-- ---- a partition that is known is there

abbrev size_of : Vec (Partition SegmentLog) Global → ℕ
size_of v = length v.items

module _ (es : partitions.Entries SegmentLog) (k : Known) (tied : partitions.places_of es ≡ counted partition_count k.topics) where
  -- as many partitions stand under an instance as its topic has
  sizes_are : (i : ℕ) → option_map size_of (lookup (is_at (nat_cmp i)) es) ≡ option_map partition_count (topic_at i k.topics)
  sizes_are i =
      sym (lookup-map_values size_of (is_at (nat_cmp i)) es) ∙ ap (λ ns. lookup (is_at (nat_cmp i)) ns) tied ∙ lookup-map_values partition_count (is_at (nat_cmp i)) k.topics

  known_there : (i n : ℕ) (part : PartitionState) → partition_at k (pos i) (pos n) ≡ Some part → (x : Partition SegmentLog) × (partitions.partition_at i n es ≡ Some x)
  known_there i n part at = by (topic_at i k.topics) refl (lookup (is_at (nat_cmp i)) es) refl
    where
      by : (o : Option TopicState) → topic_at i k.topics ≡ o → (v : Option (Vec (Partition SegmentLog) Global)) → lookup (is_at (nat_cmp i)) es ≡ v → (x : Partition SegmentLog) × (partitions.partition_at i n es ≡ Some x)
      by None e v f = absurd (none-some part (sym (ap (λ o. option_and_then (λ (t : TopicState). slice_get t.partitions n) o) e) ∙ at))
      by (Some t) e None f = absurd (none-some (partition_count t) (sym (ap (option_map size_of) f) ∙ sizes_are i ∙ ap (option_map partition_count) e))
      by (Some t) e (Some v) f =
          let count : length v.items ≡ length t.partitions = some_is (sym (ap (option_map size_of) f) ∙ sizes_are i ∙ ap (option_map partition_count) e) in
          let found : slice_get t.partitions n ≡ Some part = sym (ap (λ o. option_and_then (λ (t : TopicState). slice_get t.partitions n) o) e) ∙ at in
          let x = item_within v.items n (subst (λ m. n < m) (sym count) (slice_get_within t.partitions n part found)) in
          (x.0, ap (λ o. option_and_then (λ (t : Vec (Partition SegmentLog) Global). slice_get t.items n) o) f ∙ x.1)

-- of an instance that is gone there is none
none_unmade : (es : partitions.Entries SegmentLog) (i n : ℕ) (x : Partition SegmentLog) → partitions.IsUnmade i es → partitions.partition_at i n es ≡ Some x → ⊥
none_unmade es i n x gone at = by (lookup (is_at (nat_cmp i)) es) refl
  where
    by : (v : Option (Vec (Partition SegmentLog) Global)) → lookup (is_at (nat_cmp i)) es ≡ v → ⊥
    by None e = none-some x (sym (ap (λ o. option_and_then (λ (t : Vec (Partition SegmentLog) Global). slice_get t.items n) o) e) ∙ at)
    by (Some v) e = none-some (size_of v) (sym gone ∙ lookup-map_values size_of (is_at (nat_cmp i)) es ∙ ap (option_map size_of) e)

-- ---- the files of a store

nat_decides : (a b : ℕ) → Decides (nat_eq a b) (a ≡ b)
nat_decides a b = (λ e. eqb-true a b e, λ e. eq-eqb a b e)

in_keys : (table : Table) (file : ℕ) → IsSome (get table file) → Contains (keys table) file
in_keys table file there =
    let alike : list_any (eq_by_cmp nat_cmp file) (keys table) ≡ list_any (nat_eq file) (keys table) = λ i. list_any (λ y. unsigned_tied file y i) (keys table) in
    (is_member-Decides nat_decides (keys table) file).0 (sym alike ∙ sym (contains_key-keys table file) ∙ there)

of_keys : (d : Disk) (file : ℕ) → Contains (keys d.table) file → IsThere d file
of_keys d file has = All-contains (λ n. IsThere d n) (keys d.table) file (all_listed d d (keys d.table) refl (record { table = refl; files = λ h. refl; honest = λ h. h })) has

-- ---- whose a file is

-- each file of a log's segments begins with a header that names the log
headed_of : (who : Identity) (files : Files) (ss : List Segment) (file : ℕ) → AllByRecursion (IsHeaded who files) ss → IsFileOf ss file → IsNamed who files file
headed_of who files [] file h own = absurd own
headed_of who files (s ∷ ss) file h own = ⊎_elim
    (λ (is : s.file ≡ file). subst (IsNamed who files) is (record { header = h.0.header; read = h.0.read; names = h.0.names }))
    (λ (rest : IsFileOf ss file). headed_of who files ss file h.1 rest)
    own

-- so does one whose begin was refused, where its header can be read
pub names_owner : (l : SegmentLog) (files : Files) (file : ℕ) (h : Header) → (segment_log l).agrees files → (segment_log l).owns file → header_in (bytes_at files file) ≡ Some h → Names (whose l) h
names_owner l files file h agrees own read = ⊎_elim
    (λ (of : IsFileOf l.segments.items file).
    let n = headed_of (whose l) files l.segments.items file agrees.headed of in
    subst (Names (whose l)) (some_is (sym n.read ∙ read)) n.names)
    (λ (spare : l.spare ≡ Some file). ((agrees.recovered.beside file spare).next h read).names)
    own

-- and so does a file that a log had
names_had : (l : SegmentLog) (files : Files) (file : ℕ) (bytes : List ℕ) (h : Header) → (segment_log l).agrees files → (segment_log l).owns file → get files file ≡ Some bytes → header_in bytes ≡ Some h → Names (whose l) h
names_had l files file bytes h agrees own had read = names_owner l files file h agrees own (ap (λ o. header_in (unwrap_or o [])) had ∙ read)

no_header : (h : Header) → header_in [] ≡ Some h → ⊥
no_header h read = let w = header_within [] h read in omega (arith, w.0, w.1)

-- what is said of a file's header is said of the one that was read
said : (files : Files) (test : Header → Bool) (file : ℕ) (h : Header) → header_in (bytes_at files file) ≡ Some h → says files test file ≡ true → test h ≡ true
said files test file h read is = sym (ap (passes test) read) ∙ is

-- a header that passes a test can be read
read_of : (files : Files) (test : Header → Bool) (file : ℕ) → says files test file ≡ true → (h : Header) × (header_in (bytes_at files file) ≡ Some h)
read_of files test file is = by (header_in (bytes_at files file)) refl
  where
    by : (found : Option Header) → header_in (bytes_at files file) ≡ found → (h : Header) × (header_in (bytes_at files file) ≡ Some h)
    by None e = absurd (false≢true (sym (ap (passes test) e) ∙ is))
    by (Some h) e = (h, e)

same_bytes : (a b : List ℕ) → a ≡ b → bytes_eq a b ≡ true
same_bytes a b e = (bytes_eq-Decides a b).1 e

is_number : (n : ℕ) (z : ℤ) → z ≡ pos n → is_natural n z ≡ true
is_number n z e = ap (is_natural n) e ∙ eq-eqb n n refl

one_number : (n m : ℕ) (z : ℤ) → z ≡ pos m → is_natural n z ≡ true → m ≡ n
one_number n m z e is = ap natural (sym e ∙ number_is n z is)

says_catalog : (files : Files) (name : List ℕ) (g size file : ℕ) → IsNamed (catalog_identity name (pos g) size) files file → says files (is_of_catalog name g) file ≡ true
says_catalog files name g size file n =
    let h = n.header in
    ap (passes (is_of_catalog name g)) n.read
    ∙ both_true (bytes_eq h.tenant name && is_natural 1 h.kind) (is_natural g h.generation)
    (both_true (bytes_eq h.tenant name) (is_natural 1 h.kind) (same_bytes h.tenant name n.names.tenant) (is_number 1 h.kind n.names.kind))
    (is_number g h.generation n.names.generation)

says_partition : (files : Files) (name : List ℕ) (i p size file : ℕ) → IsNamed (partition_identity name i p size) files file → says files (is_of_partition name i p) file ≡ true
says_partition files name i p size file n =
    let h = n.header in
    ap (passes (is_of_partition name i p)) n.read
    ∙ both_true (((bytes_eq h.tenant name && is_natural 0 h.kind) && is_natural i h.instance) && is_natural p h.partition) (is_natural 0 h.generation)
    (both_true ((bytes_eq h.tenant name && is_natural 0 h.kind) && is_natural i h.instance) (is_natural p h.partition)
    (both_true (bytes_eq h.tenant name && is_natural 0 h.kind) (is_natural i h.instance)
    (both_true (bytes_eq h.tenant name) (is_natural 0 h.kind) (same_bytes h.tenant name n.names.tenant) (is_number 0 h.kind n.names.kind))
    (is_number i h.instance n.names.instance))
    (is_number p h.partition n.names.partition))
    (is_number 0 h.generation n.names.generation)

-- what a header of a catalog says, and of a partition
record IsCatalogs (name : List ℕ) (g : ℕ) (h : Header) : Type 0 where
  tenant : h.tenant ≡ name
  kind : is_natural 1 h.kind ≡ true
  generation : is_natural g h.generation ≡ true

record IsPartitions (name : List ℕ) (i p : ℕ) (h : Header) : Type 0 where
  tenant : h.tenant ≡ name
  kind : is_natural 0 h.kind ≡ true
  instance : is_natural i h.instance ≡ true
  partition : is_natural p h.partition ≡ true

catalogs : (name : List ℕ) (g : ℕ) (h : Header) → is_of_catalog name g h ≡ true → IsCatalogs name g h
catalogs name g h is =
    let last = and_parts (bytes_eq h.tenant name && is_natural 1 h.kind) (is_natural g h.generation) is in
    let first = and_parts (bytes_eq h.tenant name) (is_natural 1 h.kind) last.0 in
    record { tenant = (bytes_eq-Decides h.tenant name).0 first.0; kind = first.1; generation = last.1 }

partitions_are : (name : List ℕ) (i p : ℕ) (h : Header) → is_of_partition name i p h ≡ true → IsPartitions name i p h
partitions_are name i p h is =
    let four = and_parts (((bytes_eq h.tenant name && is_natural 0 h.kind) && is_natural i h.instance) && is_natural p h.partition) (is_natural 0 h.generation) is in
    let three = and_parts ((bytes_eq h.tenant name && is_natural 0 h.kind) && is_natural i h.instance) (is_natural p h.partition) four.0 in
    let two = and_parts (bytes_eq h.tenant name && is_natural 0 h.kind) (is_natural i h.instance) three.0 in
    let one = and_parts (bytes_eq h.tenant name) (is_natural 0 h.kind) two.0 in
    record { tenant = (bytes_eq-Decides h.tenant name).0 one.0; kind = one.1; instance = two.1; partition = three.1 }

not_stray : (files : Files) (names : List (List ℕ)) (numbers : List ℕ) (test : Header → Bool) → ((h : Header) → test h ≡ true → is_of_one names h ≡ true)
    → (file : ℕ) → says files test file ≡ true → Contains (strays_of files names numbers) file → ⊥
not_stray files names numbers test weaker file is stray =
    let one = passes_weaker test (is_of_one names) weaker (header_in (bytes_at files file)) is in
    false≢true (sym (ap not one) ∙ (of_filter (λ n. not (says files (is_of_one names) n)) numbers file stray).1)

-- ---- names that rise stand once

pub apart_of : (names : List (List ℕ)) → Rises names → AreApart names
apart_of names rises t u name here there = by (place_among name names) (at t here) (at u there)
  where
    at : (v : ℕ) → slice_get names v ≡ Some name → is_place v (place_among name names) ≡ true
    at v is = at_place names v name name rises is ∙ same_bytes name name refl

    by : (o : Option ℕ) → is_place t o ≡ true → is_place u o ≡ true → t ≡ u
    by None a b = absurd (false≢true a)
    by (Some i) a b = sym (eqb-true i t a) ∙ eqb-true i u b

-- ---- whether a log owns a file

in_segments : (ss : List Segment) (file : ℕ) → IsFileOf ss file ⊎ (IsFileOf ss file → ⊥)
in_segments [] file = inr (λ own. own)
in_segments (s ∷ ss) file = by (in_segments ss file) (nat_eq s.file file) refl
  where
    by : IsFileOf ss file ⊎ (IsFileOf ss file → ⊥) → (b : Bool) → nat_eq s.file file ≡ b → IsFileOf (s ∷ ss) file ⊎ (IsFileOf (s ∷ ss) file → ⊥)
    by rest true e = inl (inl (eqb-true s.file file e))
    by rest false e = ⊎_elim
        (λ (own : IsFileOf ss file). inl (inr own))
        (λ (free : IsFileOf ss file → ⊥). inr (λ own. ⊎_elim (λ (is : s.file ≡ file). false≢true (sym e ∙ eq-eqb s.file file is)) (λ (again : IsFileOf ss file). free again) own))
        rest

is_spare : (o : Option ℕ) (file : ℕ) → (o ≡ Some file) ⊎ (o ≡ Some file → ⊥)
is_spare None file = inr (λ is. none-some file is)
is_spare (Some n) file = by (nat_eq n file) refl
  where
    by : (b : Bool) → nat_eq n file ≡ b → (Some n ≡ Some file) ⊎ (Some n ≡ Some file → ⊥)
    by true e = inl (ap Some (eqb-true n file e))
    by false e = inr (λ is. false≢true (sym e ∙ eq-eqb n file (some_is is)))

owns_or_not : (l : SegmentLog) (file : ℕ) → (segment_log l).owns file ⊎ ((segment_log l).owns file → ⊥)
owns_or_not l file = ⊎_elim
    (λ (own : IsFileOf l.segments.items file). inl (inl own))
    (λ (free : IsFileOf l.segments.items file → ⊥). ⊎_elim
    (λ (spare : l.spare ≡ Some file). inl (inr spare))
    (λ (none : l.spare ≡ Some file → ⊥). inr (λ own. ⊎_elim (λ (is : IsFileOf l.segments.items file). free is) (λ (is : l.spare ≡ Some file). none is) own))
    (is_spare l.spare file))
    (in_segments l.segments.items file)

-- ---- a file that was given up

module _ (p : Parts SegmentLog) (file : ℕ) (bytes : List ℕ) (o : IsGivenUp segment_log (string_bytes p.tenant) (IsPast segment_log p) file bytes) (h : Header) (read : header_in bytes ≡ Some h) where
  abbrev Gone : Type 0
  Gone = IsOfGone (string_bytes p.tenant) p.segment_bytes (known p.catalog).creates (entries p) (whose o.had.of)

  abbrev Former : Type 0
  Former = IsOfFormer (string_bytes p.tenant) p.segment_bytes (meta segment_log p).identity.generation (whose o.had.of)

  names_given : Names (whose o.had.of) h
  names_given = names_had o.had.of o.had.files file bytes h o.had.agrees o.had.owns o.had.had read

  given_tenant : h.tenant ≡ string_bytes p.tenant
  given_tenant = names_given.tenant ∙ o.had.tenants

  -- it is of a generation below the one in use, where it is of the catalog's
  given_below : (g : ℕ) → IsCatalogs (string_bytes p.tenant) g h → g < generation_of p
  given_below g c = ⊎_elim
      (λ (gone : Gone).
      let m = subst (λ who. Names who h) gone.named names_given in
      absurd (not_both h.kind (is_number 0 h.kind m.kind) c.kind))
      (λ (former : Former).
      let m = subst (λ who. Names who h) former.named names_given in
      let is : natural former.generation ≡ g = ap natural (sym m.generation ∙ number_is g h.generation c.generation) in
      subst (λ n. n < generation_of p) is former.below)
      o.past

  -- and of no partition that is there
  given_gone : (i n : ℕ) → IsPartitions (string_bytes p.tenant) i n h → (x : Partition SegmentLog) → partitions.partition_at i n (entries p) ≡ Some x → ⊥
  given_gone i n c x at = ⊎_elim
      (λ (gone : Gone).
      let m = subst (λ who. Names who h) gone.named names_given in
      let is : gone.instance ≡ i = one_number i gone.instance h.instance m.instance c.instance in
      none_unmade (entries p) i n x (subst (λ j. partitions.IsUnmade j (entries p)) is gone.gone) at)
      (λ (former : Former).
      let m = subst (λ who. Names who h) former.named names_given in
      not_both h.kind c.kind (is_number 1 h.kind m.kind))
      o.past

-- ---- the generation in use

-- a generation below one is in use, and comes to that
record UseBelow (files : Files) (of : Owners) (k : Known) (g : ℕ) : Type 0 where
  generation : ℕ
  in_use : IsInUse files of generation k
  below : generation < g

-- ---- the tenant

module _ (d : Disk) (lawful : IsLawfulDisk d) (honest : d.honest) (strays : List ℕ) (ts : List TenantState) (t : ℕ) (k : IsKeptIn segment_log d strays ts t) (apart : AreApart (names_of ts)) where
  abbrev names : List (List ℕ)
  names = names_of ts

  abbrev numbers : List ℕ
  numbers = keys d.table

  abbrev its : Parts SegmentLog
  its = k.own

  abbrev name : List ℕ
  name = string_bytes k.own.tenant

  name_at : (u : ℕ) (q : Parts SegmentLog) → slice_get k.parts u ≡ Some q → slice_get names u ≡ Some (string_bytes q.tenant)
  name_at u q at = ap (λ ns. slice_get ns u) k.named ∙ slice_get-map (λ (p : Parts SegmentLog). string_bytes p.tenant) k.parts u ∙ ap (option_map (λ (p : Parts SegmentLog). string_bytes p.tenant)) at

  own_name : slice_get names t ≡ Some name
  own_name = name_at t its k.at

  -- its name stands nowhere else
  one_place : (u : ℕ) (other : List ℕ) → slice_get names u ≡ Some other → other ≡ name → t ≡ u
  one_place u other at same = apart t u name own_name (at ∙ ap Some same)

  one_tenant : (u : ℕ) (q : Parts SegmentLog) → slice_get k.parts u ≡ Some q → string_bytes q.tenant ≡ name → q ≡ its
  one_tenant u q at same = some_is (sym at ∙ ap (λ n. slice_get k.parts n) (sym (one_place u (string_bytes q.tenant) (name_at u q at) same)) ∙ k.at)

  sound : IsSound segment_log its d.table k.next
  sound = k.sound.each t its k.at

  agrees : Agrees segment_log its d.files
  agrees = k.agree t its k.at

  abbrev generation : ℕ
  generation = generation_of its

  -- ---- its files' headers

  -- what a file says whose header names the meta log
  meta_says : (file : ℕ) → IsNamed (whose (meta_log its.catalog)) d.files file → says d.files (is_of_catalog name generation) file ≡ true
  meta_says file named =
      let z = (meta segment_log its).identity.generation in
      let n : IsNamed (catalog_identity name z its.segment_bytes) d.files file = subst (λ who. IsNamed who d.files file) sound.catalog_named named in
      let h = n.header in
      let told = generation_told h (legal_in (bytes_at d.files file) h n.read) (ap (is_natural 0) n.names.kind) in
      says_catalog d.files name generation its.segment_bytes file (record {
        header = h;
        read = n.read;
        names = record {
          tenant = n.names.tenant;
          kind = n.names.kind;
          instance = n.names.instance;
          partition = n.names.partition;
          generation = number_is (natural h.generation) h.generation (own_number h.generation told) ∙ ap (λ v. pos (natural v)) n.names.generation;
        };
      })

  -- and one whose header names a partition's log
  log_says : (i n : ℕ) (x : Partition SegmentLog) → partitions.partition_at i n (entries its) ≡ Some x → (file : ℕ) → IsNamed (whose x.log) d.files file → says d.files (is_of_partition name i n) file ≡ true
  log_says i n x there file named = says_partition d.files name i n its.segment_bytes file (subst (λ who. IsNamed who d.files file) (sound.logs_named i n x there) named)

  -- ---- any tenant's

  module _ (file : ℕ) (h : Header) (read : header_in (bytes_at d.files file) ≡ Some h) where
    meta_names : (u : ℕ) (q : Parts SegmentLog) → slice_get k.parts u ≡ Some q → (meta segment_log q).owns file → Names (catalog_identity (string_bytes q.tenant) (meta segment_log q).identity.generation q.segment_bytes) h
    meta_names u q at own = subst (λ who. Names who h) (k.sound.each u q at).catalog_named (names_owner (meta_log q.catalog) d.files file h (k.agree u q at).catalog own read)

    log_names : (u : ℕ) (q : Parts SegmentLog) → slice_get k.parts u ≡ Some q → (i n : ℕ) (x : Partition SegmentLog) → partitions.partition_at i n (entries q) ≡ Some x → (segment_log x.log).owns file → Names (partition_identity (string_bytes q.tenant) i n q.segment_bytes) h
    log_names u q at i n x there own = subst (λ who. Names who h) ((k.sound.each u q at).logs_named i n x there) (names_owner x.log d.files file h ((k.agree u q at).logs.each i n x there) own read)

    -- of an unfinished log
    abbrev left_identity : (u : ℕ) (q : Parts SegmentLog) → slice_get k.parts u ≡ Some q → IsOfUnfinished segment_log k.accounts.left u file (bytes_of d file) → Identity
    left_identity u q at x = catalog_identity (string_bytes q.tenant) x.generation (k.accounts.unfinished.each u x.generation q x.of at x.at).1

    left_names : (u : ℕ) (q : Parts SegmentLog) (at : slice_get k.parts u ≡ Some q) (x : IsOfUnfinished segment_log k.accounts.left u file (bytes_of d file)) → Names (left_identity u q at x) h
    left_names u q at x =
        let un = (k.accounts.unfinished.each u x.generation q x.of at x.at).2 in
        subst (λ who. Names who h) un.identity (names_had x.of.0 x.of.1 file (bytes_of d file) h un.agrees x.owns x.had read)

    -- a file that names the tenant and is of no log is left alone, where it was not given up and is of no unfinished log
    left_alone : h.tenant ≡ name → Contains numbers file → (IsOfSome segment_log k.parts file → ⊥) → (IsGivenUp segment_log name (IsPast segment_log its) file (bytes_of d file) → ⊥)
        → (IsOfUnfinished segment_log k.accounts.left t file (bytes_of d file) → ⊥) → Contains strays file
    left_alone of has nobodys not_given not_left =
        k.accounts.each file (of_keys d file has) nobodys
        (λ none. no_header h (sym (ap header_in none) ∙ read))
        (λ (o : IsLeftBy segment_log k.parts k.accounts.left file (bytes_of d file)). ⊎_elim
        (λ (up : IsGivenUp segment_log (string_bytes o.parts.tenant) (IsPast segment_log o.parts) file (bytes_of d file)).
        let theirs = given_tenant o.parts file (bytes_of d file) up h read in
        not_given (subst (λ (q : Parts SegmentLog). IsGivenUp segment_log (string_bytes q.tenant) (IsPast segment_log q) file (bytes_of d file)) (one_tenant o.tenant o.parts o.at (sym theirs ∙ of)) up))
        (λ (x : IsOfUnfinished segment_log k.accounts.left o.tenant file (bytes_of d file)).
        let theirs = (left_names o.tenant o.parts o.at x).tenant in
        not_left (subst (λ u. IsOfUnfinished segment_log k.accounts.left u file (bytes_of d file)) (sym (one_place o.tenant (string_bytes o.parts.tenant) (name_at o.tenant o.parts o.at) (sym theirs ∙ of))) x))
        o.how)

  module _ (left : AreStillStrays d.files (keys d.table) (names_of ts) ts (string_bytes k.own.tenant) strays) where
    -- a generation below one is in use and comes to what the tenant knows
    abbrev Below : ℕ → Type 0
    Below g = UseBelow d.files (owners_of d.files numbers name) (known its.catalog) g

    -- ---- the catalog's

    -- a file of a generation of the catalog
    module _ (g : ℕ) (file : ℕ) (has : Contains (catalog_of d.files name g numbers) file) where
      catalog_said : says d.files (is_of_catalog name g) file ≡ true
      catalog_said = (of_filter (says d.files (is_of_catalog name g)) numbers file has).1

      says_of : (h : Header) → header_in (bytes_at d.files file) ≡ Some h → IsCatalogs name g h
      says_of h read = catalogs name g h (said d.files (is_of_catalog name g) file h read catalog_said)

      abbrev header : Header
      header = (read_of d.files (is_of_catalog name g) file catalog_said).0

      read : header_in (bytes_at d.files file) ≡ Some header
      read = (read_of d.files (is_of_catalog name g) file catalog_said).1

      tells : IsCatalogs name g header
      tells = says_of header read

      by_own : (meta segment_log its).owns file → generation ≡ g
      by_own own =
          let n = meta_names file header read t its k.at own in
          ap natural (sym n.generation ∙ number_is g header.generation tells.generation)

      -- is of no other log than that of this generation
      owned_by : IsOfSome segment_log k.parts file → (meta segment_log its).owns file
      owned_by some = ⊎_elim
          (λ (own : (meta segment_log some.parts).owns file).
          let n = meta_names file header read some.tenant some.parts some.at own in
          subst (λ q. (meta segment_log q).owns file) (one_tenant some.tenant some.parts some.at (sym n.tenant ∙ tells.tenant)) own)
          (λ (own : partitions.Owned segment_log (entries some.parts) file).
          let n = log_names file header read some.tenant some.parts some.at own.instance own.number own.partition own.at own.own in
          absurd (not_both header.kind (is_number 0 header.kind n.kind) tells.kind))
          some.owns

      -- where it is left alone, the generation in use comes to what the tenant knows, and this one is above it
      later_of : Contains strays file → Below g
      later_of stray = ⊎_elim
          (λ (s : Contains (strays_of d.files names numbers) file). absurd (not_stray d.files names numbers (is_of_catalog name g) (catalog_one names t g name own_name) file catalog_said s))
          (λ more. ⊎_elim
          (λ (u : IsUnknown d.files numbers names ts file). absurd (no_partition u))
          (λ (l : IsOfLater d.files numbers names ts file). by_later l)
          more)
          (left file stray (passes_weaker (is_of_catalog name g) (is_of_one (name ∷ [])) (catalog_one (name ∷ []) 0 g name refl) (header_in (bytes_at d.files file)) catalog_said))
        where
          no_partition : IsUnknown d.files numbers names ts file → ⊥
          no_partition u =
              let other = (of_filter (says d.files (is_of_partition u.name u.instance u.partition)) numbers file u.has).1 in
              not_both header.kind (partitions_are u.name u.instance u.partition header (said d.files (is_of_partition u.name u.instance u.partition) file header read other)).kind tells.kind

          by_later : IsOfLater d.files numbers names ts file → Below g
          by_later l =
              let other = (of_filter (says d.files (is_of_catalog l.name l.later)) numbers file l.has).1 in
              let b = catalogs l.name l.later header (said d.files (is_of_catalog l.name l.later) file header read other) in
              let one : l.name ≡ name = sym b.tenant ∙ tells.tenant in
              let place : t ≡ l.tenant = one_place l.tenant l.name l.named one in
              let knows : (kept_of ts l.tenant).world.known ≡ known its.catalog = ap (λ v. (kept_of ts v).world.known) (sym place) ∙ k.known_is in
              let is : l.later ≡ g = one_number g l.later header.generation (number_is l.later header.generation b.generation) tells.generation in
              record {
                generation = l.generation;
                in_use = subst (λ w. IsInUse d.files (owners_of d.files numbers name) l.generation w) knows
                    (subst (λ n. IsInUse d.files (owners_of d.files numbers n) l.generation (kept_of ts l.tenant).world.known) one l.in_use);
                below = subst (λ n. l.generation < n) is l.above;
              }

      -- of an unfinished log it is by this generation, which is not the one in use
      left_is : (x : IsOfUnfinished segment_log k.accounts.left t file (bytes_of d file)) → x.generation ≡ pos g
      left_is x = sym (left_names file header read t its k.at x).generation ∙ number_is g header.generation tells.generation

      not_in_use : g ≡ generation → IsOfUnfinished segment_log k.accounts.left t file (bytes_of d file) → ⊥
      not_in_use is x = k.accounts.unfinished.other t x.generation its x.of k.at x.at (ap natural (left_is x) ∙ is)

      -- it is left alone where it is not the meta log's, and of no unfinished log
      left_here : generation ≤ g → ((meta segment_log its).owns file → ⊥) → (IsOfUnfinished segment_log k.accounts.left t file (bytes_of d file) → ⊥) → Below g
      left_here up not_own not_left =
          let listed = (of_filter (says d.files (is_of_catalog name g)) numbers file has).0 in
          later_of (left_alone file header read tells.tenant listed
          (λ some. not_own (owned_by some))
          (λ given. let below = given_below its file (bytes_of d file) given header read g tells in omega (arith, below, up))
          not_left)

    -- a generation of which an unfinished log had all files is not whole
    module _ (g : ℕ) (above : generation < g) (all : (file : ℕ) → Contains (catalog_of d.files name g numbers) file → IsOfUnfinished segment_log k.accounts.left t file (bytes_of d file)) (j : Known) where
      of_one : (u : SegmentLog × Files) → k.accounts.left t (pos g) ≡ Some u → ComesToKnown d.files (catalog_of d.files name g numbers) g j → ⊥
      of_one u at whole = not_whole un.0 (catalog_identity name (pos g) un.1) u.0 u.1 un.2 d.files (catalog_of d.files name g numbers) was g (omega (arith, above)) j whole
        where
          un : (was_known : Known) × (size : ℕ) × IsUnfinished segment_log was_known (catalog_identity name (pos g) size) u.0 u.1
          un = k.accounts.unfinished.each t (pos g) its u k.at at

          was : (file : ℕ) → Contains (catalog_of d.files name g numbers) file → WasIts un.0 (catalog_identity name (pos g) un.1) u.0 u.1 un.2 d.files file
          was file has =
              let x = all file has in
              let same : x.of ≡ u = some_is (sym x.at ∙ ap (k.accounts.left t) (left_is g file has x) ∙ at) in
              record {
                owns = subst (λ (v : SegmentLog × Files). (segment_log v.0).owns file) same x.owns;
                had = subst (λ (v : SegmentLog × Files). get v.1 file ≡ Some (bytes_of d file)) same x.had;
                header = header g file has;
                read = read g file has;
              }

      none_whole : ComesToKnown d.files (catalog_of d.files name g numbers) g j → ⊥
      none_whole whole = by (catalog_of d.files name g numbers) refl
        where
          by : (xs : List ℕ) → catalog_of d.files name g numbers ≡ xs → ⊥
          by [] e = nothing_whole d.files g j (omega (arith, above)) (subst (λ ns. ComesToKnown d.files ns g j) e whole)
          by (file ∷ xs) e =
              let has : Contains (catalog_of d.files name g numbers) file = subst (λ ns. Contains ns file) (sym e) (0, omega arith, refl) in
              let x = all file has in
              of_one x.of (ap (k.accounts.left t) (sym (left_is g file has x)) ∙ x.at) whole

    -- no generation above that of the catalog is whole
    greatest : NoneAbove d.files (owners_of d.files numbers name) generation
    greatest g above small j whole = all_of (λ file. IsOfUnfinished segment_log k.accounts.left t file (bytes_of d file)) (catalog_of d.files name g numbers)
        (λ file has not_left.
        let below = left_here g file has (omega (arith, above)) (λ own. let is = by_own g file has own in omega (arith, is, above)) not_left in
        below.in_use.greatest g below.below small j whole)
        (λ all. none_whole g above all j whole)

    -- each file of the catalog's generation is its own, or another generation is in use
    all_own : (xs : List ℕ) → ((file : ℕ) → Contains xs file → Contains (catalog_of d.files name generation numbers) file)
        → ((file : ℕ) → Contains xs file → (meta segment_log its).owns file) ⊎ Below generation
    all_own [] among = inl (λ file has. let lt = has.1 in absurd (omega (arith, lt)))
    all_own (x ∷ xs) among =
        let has = among x (0, omega arith, refl) in
        ⊎_elim
        (λ (own : (meta segment_log its).owns x). ⊎_elim
        (λ (rest : (file : ℕ) → Contains xs file → (meta segment_log its).owns file). inl (of_cons (λ n. (meta segment_log its).owns n) x xs own rest))
        (λ (later : Below generation). inr later)
        (all_own xs (λ file more. among file (behind x xs file more))))
        (λ (not : (meta segment_log its).owns x → ⊥). inr (left_here generation x has (omega arith) not (not_in_use generation x has refl)))
        (owns_or_not (meta_log its.catalog) x)

    module _ (catalog_owned : (file : ℕ) → Contains (catalog_of d.files name generation numbers) file → (meta segment_log its).owns file) where
      catalog_listed : (file : ℕ) → IsThere d file → IsNamed (whose (meta_log its.catalog)) d.files file → Contains (catalog_of d.files name generation numbers) file
      catalog_listed file there named = in_filter (says d.files (is_of_catalog name generation)) numbers file (in_keys d.table file there) (meta_says file named)

      catalog_named : (file : ℕ) → Contains (catalog_of d.files name generation numbers) file → IsThere d file × IsNamed (whose (meta_log its.catalog)) d.files file
      catalog_named file has = (
        of_keys d file (of_filter (says d.files (is_of_catalog name generation)) numbers file has).0,
        record {
          header = header generation file has;
          read = read generation file has;
          names = names_owner (meta_log its.catalog) d.files file (header generation file has) agrees.catalog (catalog_owned file has) (read generation file has);
        },
      )

      catalog_files : AreNamedOf (whose (meta_log its.catalog)) d (catalog_of d.files name generation numbers)
      catalog_files = record {
        apart = distinct_filter (says d.files (is_of_catalog name generation)) numbers (listed_apart d numbers refl);
        these = λ file. (λ is. catalog_listed file is.0 is.1, λ has. catalog_named file has);
      }

      catalog_comes : ComesTo d.files (catalog_of d.files name generation numbers) 0 (meta segment_log its).start (meta segment_log its).end ((meta segment_log its).batches d.files)
      catalog_comes = reopens (meta_log its.catalog) d k.next 0 (catalog_of d.files name generation numbers) lawful honest catalog_files
          (λ file there named. catalog_owned file (catalog_listed file there named)) sound.catalog agrees.catalog agrees.catalog.recovered agrees.meta_started

      -- all batches of the catalog's chain are its commands
      whole_list : IsLongestFold generation ((meta segment_log its).batches d.files) (known its.catalog)
      whole_list = record {
        before = (meta segment_log its).batches d.files;
        behind = [];
        split = sym (append-nil ((meta segment_log its).batches d.files));
        fold = agrees.fold;
        ends = tt;
      }

      own_whole : ComesToKnown d.files (catalog_of d.files name generation numbers) generation (known its.catalog)
      own_whole = known_of d.files (catalog_of d.files name generation numbers) (meta segment_log its).start (meta segment_log its).end ((meta segment_log its).batches d.files) generation (known its.catalog) catalog_comes whole_list

      own_small : generation < 2 ^ 63
      own_small = by (catalog_of d.files name generation numbers) refl
        where
          by : (xs : List ℕ) → catalog_of d.files name generation numbers ≡ xs → generation < 2 ^ 63
          by [] e = elim (cases_lt 0 generation) [
            | inl above ↦ absurd (nothing_whole d.files generation (known its.catalog) above (subst (λ ns. ComesToKnown d.files ns generation (known its.catalog)) e own_whole))
            | inr none ↦ omega (arith, none)
          ]
          by (file ∷ xs) e =
              let has : Contains (catalog_of d.files name generation numbers) file = subst (λ ns. Contains ns file) (sym e) (0, omega arith, refl) in
              let h = header generation file has in
              let is : natural h.generation ≡ generation = ap natural (number_is generation h.generation (tells generation file has).generation) in
              let small = small_in (bytes_at d.files file) h (read generation file has) in
              omega (arith, is, small)

      own_use : IsInUse d.files (owners_of d.files numbers name) generation (known its.catalog)
      own_use = record { small = own_small; whole = own_whole; greatest = greatest }

    -- a generation comes to what the tenant knows
    use_found : (h : ℕ) × IsInUse d.files (owners_of d.files numbers name) h (known its.catalog)
    use_found = ⊎_elim
        (λ own. (generation, own_use own))
        (λ (later : Below generation). (later.generation, later.in_use))
        (all_own (catalog_of d.files name generation numbers) (λ file has. has))

    -- ---- a partition's

    module _ (i n : ℕ) (x : Partition SegmentLog) (there : partitions.partition_at i n (entries its) ≡ Some x) (part : PartitionState) (known_at : partition_at (known its.catalog) (pos i) (pos n) ≡ Some part) where
      abbrev list : List ℕ
      list = partition_of d.files name i n numbers

      abbrev test : Header → Bool
      test = is_of_partition name i n

      log_listed : (file : ℕ) → IsThere d file → IsNamed (whose x.log) d.files file → Contains list file
      log_listed file at named = in_filter (says d.files test) numbers file (in_keys d.table file at) (log_says i n x there file named)

      module _ (file : ℕ) (has : Contains list file) where
        partition_said : says d.files test file ≡ true
        partition_said = (of_filter (says d.files test) numbers file has).1

        abbrev part_header : Header
        part_header = (read_of d.files test file partition_said).0

        part_read : header_in (bytes_at d.files file) ≡ Some part_header
        part_read = (read_of d.files test file partition_said).1

        part_tells : IsPartitions name i n part_header
        part_tells = partitions_are name i n part_header (said d.files test file part_header part_read partition_said)

        log_no_stray : Contains strays file → ⊥
        log_no_stray stray = ⊎_elim
            (λ (s : Contains (strays_of d.files names numbers) file). not_stray d.files names numbers test (partition_one names t i n name own_name) file partition_said s)
            (λ more. ⊎_elim
            (λ (u : IsUnknown d.files numbers names ts file). is_known u)
            (λ (l : IsOfLater d.files numbers names ts file). no_catalog l)
            more)
            (left file stray (passes_weaker test (is_of_one (name ∷ [])) (partition_one (name ∷ []) 0 i n name refl) (header_in (bytes_at d.files file)) partition_said))
          where
            no_catalog : IsOfLater d.files numbers names ts file → ⊥
            no_catalog l =
                let other = (of_filter (says d.files (is_of_catalog l.name l.later)) numbers file l.has).1 in
                not_both part_header.kind part_tells.kind (catalogs l.name l.later part_header (said d.files (is_of_catalog l.name l.later) file part_header part_read other)).kind

            is_known : IsUnknown d.files numbers names ts file → ⊥
            is_known u =
                let h = part_header in
                let a = part_tells in
                let other = (of_filter (says d.files (is_of_partition u.name u.instance u.partition)) numbers file u.has).1 in
                let b = partitions_are u.name u.instance u.partition h (said d.files (is_of_partition u.name u.instance u.partition) file h part_read other) in
                let place : t ≡ u.tenant = one_place u.tenant u.name u.named (sym b.tenant ∙ a.tenant) in
                let instance : u.instance ≡ i = one_number i u.instance h.instance (number_is u.instance h.instance b.instance) a.instance in
                let number : u.partition ≡ n = one_number n u.partition h.partition (number_is u.partition h.partition b.partition) a.partition in
                let none : partition_at (known its.catalog) (pos i) (pos n) ≡ None =
                ap (λ w. partition_at w (pos i) (pos n)) (sym k.known_is) ∙ ap (λ v. partition_at (kept_of ts v).world.known (pos i) (pos n)) place
                ∙ ap (λ j. partition_at (kept_of ts u.tenant).world.known (pos j) (pos n)) (sym instance) ∙ ap (λ m. partition_at (kept_of ts u.tenant).world.known (pos u.instance) (pos m)) (sym number) ∙ u.unknown in
                none-some part (sym none ∙ known_at)

        -- who has it has it by this log
        log_owned_by : IsOfSome segment_log k.parts file → (segment_log x.log).owns file
        log_owned_by some = ⊎_elim
            (λ (own : (meta segment_log some.parts).owns file).
            let m = meta_names file part_header part_read some.tenant some.parts some.at own in
            absurd (not_both part_header.kind part_tells.kind (is_number 1 part_header.kind m.kind)))
            (λ (own : partitions.Owned segment_log (entries some.parts) file).
            let h = part_header in
            let a = part_tells in
            let m = log_names file h part_read some.tenant some.parts some.at own.instance own.number own.partition own.at own.own in
            let same : some.parts ≡ its = one_tenant some.tenant some.parts some.at (sym m.tenant ∙ a.tenant) in
            let instance : own.instance ≡ i = one_number i own.instance h.instance m.instance a.instance in
            let number : own.number ≡ n = one_number n own.number h.partition m.partition a.partition in
            let found : Some own.partition ≡ Some x =
            sym own.at ∙ ap (λ (q : Parts SegmentLog). partitions.partition_at own.instance own.number (entries q)) same
            ∙ ap (λ j. partitions.partition_at j own.number (entries its)) instance ∙ ap (λ m. partitions.partition_at i m (entries its)) number ∙ there in
            subst (λ (y : Partition SegmentLog). (segment_log y.log).owns file) (some_is found) own.own)
            some.owns

        log_owned : (segment_log x.log).owns file
        log_owned = ⊎_elim
            (λ (own : (segment_log x.log).owns file). own)
            (λ (not : (segment_log x.log).owns file → ⊥).
            absurd (log_no_stray (left_alone file part_header part_read part_tells.tenant (of_filter (says d.files test) numbers file has).0
            (λ some. not (log_owned_by some))
            (λ given. given_gone its file (bytes_of d file) given part_header part_read i n part_tells x there)
            (λ left_by. let m = left_names file part_header part_read t its k.at left_by in not_both part_header.kind part_tells.kind (is_number 1 part_header.kind m.kind)))))
            (owns_or_not x.log file)

        log_names_it : IsThere d file × IsNamed (whose x.log) d.files file
        log_names_it = (
          of_keys d file (of_filter (says d.files test) numbers file has).0,
          record { header = part_header; read = part_read; names = names_owner x.log d.files file part_header (agrees.logs.each i n x there) log_owned part_read },
        )

      log_files : AreNamedOf (whose x.log) d list
      log_files = record {
        apart = distinct_filter (says d.files test) numbers (listed_apart d numbers refl);
        these = λ file. (λ is. log_listed file is.0 is.1, λ has. log_names_it file has);
      }

      log_comes : IsLogOf d.files list (natural part.start) (log_state (segment_log x.log) d.files)
      log_comes =
          let recorded = ap start_said known_at in
          let its_agrees = agrees.logs.each i n x there in
          let c = reopens x.log d k.next (natural part.start) list lawful honest log_files (λ file at named. log_owned file (log_listed file at named)) (sound.logs.each i n x there) its_agrees its_agrees.recovered
          (subst (λ start. (segment_log x.log).resumes start) recorded (agrees.started i n x there)) in
          record { bs = c.bs; chain = c.chain; starts = c.starts; ends = c.ends; batches = c.batches }

    -- ---- all of it

    is_opened : IsOpened d.files (owners_of d.files numbers name) (known its.catalog) (logs_of segment_log (entries its) d.files)
    is_opened =
        let tied = sound.tied in
        record {
          generation = use_found.0;
          in_use = use_found.1;
          has = record {
            tied = logs_counted segment_log (entries its) d.files ∙ tied;
            each = λ i n part known_at.
                let x = known_there (entries its) (known its.catalog) tied i n part known_at in
                (log_state (segment_log x.0.log) d.files, log_at_is segment_log (entries its) i n d.files ∙ ap (option_map (λ (x : Partition SegmentLog). log_state (segment_log x.log) d.files)) x.1, log_comes i n x.0 x.1 part known_at);
          };
        }

    kept_opened : IsFound d.files numbers name (kept_of ts t)
    kept_opened = record {
      opened = subst (λ w. IsOpened d.files (owners_of d.files numbers name) w (kept_of ts t).world.logs) (sym k.known_is)
          (subst (λ ls. IsOpened d.files (owners_of d.files numbers name) (known its.catalog) ls) (sym k.logs_are) is_opened);
    }

  pub is_found : (own : List ℕ) → slice_get (names_of ts) t ≡ Some own → AreStillStrays d.files (keys d.table) (names_of ts) ts own strays → IsFound d.files (keys d.table) own (kept_of ts t)
  is_found own at left =
      let same : own ≡ name = some_is (sym at ∙ own_name) in
      subst (λ n. IsFound d.files numbers n (kept_of ts t)) (sym same) (kept_opened (subst (λ n. AreStillStrays d.files numbers names ts n strays) same left))
