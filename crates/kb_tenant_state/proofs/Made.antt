-- What the partitions of a tenant are after those of a topic were made.
use Rattle.std.proofs.Common.{◌≡◌, ◌∙◌, ◌⊎◌, ◌++◌, ⊎_elim, inl, inr, ℕ, Bool, true, false, cond, List, [], ◌∷◌, Option, Some, None, refl, sym, ap, subst, length}
use Rattle.std.specs.Prelude.{ℤ, pos, string_bytes, map, option_map, replicate, slice_get}
use Rattle.std.specs.List.{All}
use Rattle.std.specs.Option.{option_and_then}
use Rattle.std.specs.FinMap as map
use Rattle.std.specs.Ordering.{nat_cmp, match_ordering, is_eq}
use Rattle.std.specs.List.Sorted.{IsStrictlySortedBy}
use Rattle.std.specs.declared.cmp.Ordering.{Ordering}
use Rattle.std.specs.declared.cmp.Ordering.TheVariants.{Less, Equal, Greater}
use Rattle.std.specs.Map.{keys_of, lookup, remove_entry}
use Rattle.std.specs.BTreeMap.{insert_entry, is_at}
use Rattle.std.specs.declared.alloc.Global.{Global}
use Rattle.std.specs.declared.string.String.{String}
use Rattle.std.specs.declared.vec.Vec.{Vec}
use Rattle.std.proofs.lemmas.Map.Made.{lookup-map_values}
use Rattle.std.proofs.lemmas.List.Elements.{All-head, All-tail}
use Rattle.std.proofs.lemmas.Option.{slice_get_within, get_or_from_slice_get}
use Rattle.kb_store.specs.Disk.{Files}
use Rattle.kb_log.specs.OnShelf.{Log, Identity, IsLawfulLog, identity_of}
use Rattle.kb_producers.specs.Batches.{kept_all}
use Rattle.kb_tenant_state.specs.Logs.{LogState, no_log}
use Rattle.kb_tenant_state.specs.Made.{AreNumbered, IsEmptyPartition}
use Rattle.kb_tenant_state.specs.Partitions.{Entries, AreNamed, AreStarted, partition_at, partition_identity, log_state, logs_of, places_of, IsMade, IsUnmade}
use Rattle.kb_tenant_state.specs.declared.partition.Partition.{Partition}
use Rattle.kb_tenant_state.proofs.Changed.{found_at}
use Rattle.kb_tenant_state.proofs.Put.{cases, get_either, own_number, same_number}

-- what holds of each item holds of the one at a place
each_at : {A : Type 0} (P : A → Type 0) (xs : List A) (k : ℕ) (x : A) → All P xs → slice_get xs k ≡ Some x → P x
each_at P xs k x all at = subst P (get_or_from_slice_get xs k x x at) (all k x (slice_get_within xs k x at))

-- an entry with its value seen
abbrev pub seen : {A B : Type 0} → (A → B) → ℕ × A → ℕ × B
seen f e = (e.0, f e.1)

-- an entry is put in before its value is looked at, or after
pub insert_mapped : {A B : Type 0} (f : A → B) (i : ℕ) (v : A) (es : List (ℕ × A)) → map (seen f) (insert_entry nat_cmp es i v) ≡ insert_entry nat_cmp (map (seen f) es) i (f v)
insert_mapped f i v [] = refl
insert_mapped {A} {B} f i v (e ∷ es) = by (nat_cmp i e.0) (insert_mapped f i v es)
  where
    by : (o : Ordering) → map (seen f) (insert_entry nat_cmp es i v) ≡ insert_entry nat_cmp (map (seen f) es) i (f v)
        → map (seen f) (match_ordering o ((i, v) ∷ e ∷ es) ((e.0, v) ∷ es) (e ∷ insert_entry nat_cmp es i v))
        ≡ match_ordering o ((i, f v) ∷ seen f e ∷ map (seen f) es) ((e.0, f v) ∷ map (seen f) es) (seen f e ∷ insert_entry nat_cmp (map (seen f) es) i (f v))
    by Less h = refl
    by Equal h = refl
    by Greater h = ap (λ rest. seen f e ∷ rest) h

-- a new entry that is taken out again
remove_inserted : {A : Type 0} (i : ℕ) (v : A) (es : List (ℕ × A)) → lookup (is_at (nat_cmp i)) es ≡ None → remove_entry (is_at (nat_cmp i)) (insert_entry nat_cmp es i v) ≡ es
remove_inserted i v [] none = ap (λ b. cond b [] ((i, v) ∷ [])) (own_number i)
remove_inserted {A} i v (e ∷ es) none = by (nat_cmp i e.0) refl none (remove_inserted i v es)
  where
    by : (o : Ordering) → nat_cmp i e.0 ≡ o → lookup (is_at (nat_cmp i)) (e ∷ es) ≡ None → (lookup (is_at (nat_cmp i)) es ≡ None → remove_entry (is_at (nat_cmp i)) (insert_entry nat_cmp es i v) ≡ es)
        → remove_entry (is_at (nat_cmp i)) (match_ordering o ((i, v) ∷ e ∷ es) ((e.0, v) ∷ es) (e ∷ insert_entry nat_cmp es i v)) ≡ e ∷ es
    by Less same gone h = ap (λ b. cond b (e ∷ es) ((i, v) ∷ remove_entry (is_at (nat_cmp i)) (e ∷ es))) (own_number i)
    by Equal same gone h = absurd (let here : Some e.1 ≡ None = sym (ap (λ o. cond (is_eq o) (Some e.1) (lookup (is_at (nat_cmp i)) es)) same) ∙ gone in cc)
    by Greater same gone h =
        let past : is_at (nat_cmp i) e.0 ≡ false = ap is_eq same in
        ap (λ b. cond b (insert_entry nat_cmp es i v) (e ∷ remove_entry (is_at (nat_cmp i)) (insert_entry nat_cmp es i v))) past
        ∙ ap (λ rest. e ∷ rest) (h (sym (ap (λ b. cond b (Some e.1) (lookup (is_at (nat_cmp i)) es)) past) ∙ gone))

pub counted_by : {A : Type 0} (f : A → ℕ) (n : ℕ) (x : A) (o : Option A) (b : Bool) → f x ≡ n → option_map f (cond b (Some x) o) ≡ cond b (Some n) (option_map f o)
counted_by f n x o true e = ap Some e
counted_by f n x o false e = refl

-- no number of partitions: no partitions
none_counted : {A B : Type 0} (f : A → B) (o : Option A) → option_map f o ≡ None → o ≡ None
none_counted f None e = refl
none_counted f (Some x) e = absurd cc

pub unmade_here : {L : Type 0} (i : ℕ) (es : Entries L) → IsUnmade i es → lookup (is_at (nat_cmp i)) es ≡ None
unmade_here {L} i es unmade =
    let count : Vec (Partition L) Global → ℕ = λ t. length t.items in
    none_counted count (lookup (is_at (nat_cmp i)) es) (sym (lookup-map_values count (is_at (nat_cmp i)) es) ∙ unmade)

abbrev log_of : ℕ → ℕ → List (List ℕ) → LogState
log_of start end batches = record { start = start; end = end; batches = batches }

module _ {L : Type 0} (log : L → Log) where
  -- what the tenant sees of a partition without records
  seen_empty : (files : Files) (x : Partition L) → IsEmptyPartition log x → log_state (log x.log) files ≡ no_log
  seen_empty files x new =
      ap (λ n. log_of n (log x.log).end ((log x.log).batches files)) new.begun.start
      ∙ ap (λ n. log_of 0 n ((log x.log).batches files)) new.begun.end
      ∙ ap (λ bs. log_of 0 0 bs) (new.begun.empty files)

  all_empty : (files : Files) (xs : List (Partition L)) → All (IsEmptyPartition log) xs → map (λ (x : Partition L). log_state (log x.log) files) xs ≡ replicate (length xs) no_log
  all_empty files [] all = refl
  all_empty files (x ∷ xs) all =
      ap (λ l. l ∷ map (λ (y : Partition L). log_state (log y.log) files) xs) (seen_empty files x (All-head (IsEmptyPartition log) x xs all))
      ∙ ap (λ ls. no_log ∷ ls) (all_empty files xs (All-tail (IsEmptyPartition log) x xs all))

abbrev identity_by : ℕ → List ℕ → ℤ → ℤ → Identity
identity_by size tenant instance partition = record { tenant = tenant; kind = pos 0; instance = instance; partition = partition; generation = pos 0; segment_bytes = size }

-- the identity of a partition's id
pub partition_id : (name : String Global) (instance' partition' : ℤ) (tenant : List ℕ) (instance number size : ℕ) → string_bytes name ≡ tenant → instance' ≡ pos instance → partition' ≡ pos number
    → identity_of (record { tenant = name; kind = pos 0; instance = instance'; partition = partition'; generation = pos 0 }) size ≡ partition_identity tenant instance number size
partition_id name instance' partition' tenant instance number size t i p =
    ap (λ bs. identity_by size bs instance' partition') t ∙ ap (λ z. identity_by size tenant z partition') i ∙ ap (identity_by size tenant (pos instance)) p

-- one more, of the next number
pub numbered_more : {L : Type 0} (log : L → Log) (tenant : List ℕ) (instance size : ℕ) (xs : List (Partition L)) (x : Partition L) → AreNumbered log tenant instance size xs
    → (log x.log).identity ≡ partition_identity tenant instance (length xs) size → AreNumbered log tenant instance size (xs ++ x ∷ [])
numbered_more log tenant instance size xs x before next p y at = ⊎_elim
    (λ was. before p y was)
    (λ new. ap (λ z. (log z.log).identity) new.1 ∙ next ∙ ap (λ n. partition_identity tenant instance n size) (sym new.0))
    (get_either xs x y p at)

-- ---- a topic is put in

module _ {L : Type 0} (instance : ℕ) (es es' : Entries L) (v : Vec (Partition L) Global)
    (updates : (j : ℕ) → lookup (is_at (nat_cmp j)) es' ≡ cond (is_at (nat_cmp instance) j) (Some v) (lookup (is_at (nat_cmp j)) es)) where
  -- under the instance stand those that are put in, and else what stood there
  pub put_at : (j q : ℕ) → partition_at j q es' ≡ cond (is_at (nat_cmp instance) j) (slice_get v.items q) (partition_at j q es)
  put_at j q = found_at es' j q _ (updates j) ∙ by (is_at (nat_cmp instance) j)
    where
      by : (b : Bool) → option_and_then (λ (t : Vec (Partition L) Global). slice_get t.items q) (cond b (Some v) (lookup (is_at (nat_cmp j)) es)) ≡ cond b (slice_get v.items q) (partition_at j q es)
      by true = refl
      by false = refl

  -- each partition is one of those put in, or stands where it stood
  pub taken_at : (j q : ℕ) (x : Partition L) → partition_at j q es' ≡ Some x → ((j ≡ instance) × (slice_get v.items q ≡ Some x)) ⊎ (partition_at j q es ≡ Some x)
  taken_at j q x at = elim (cases (is_at (nat_cmp instance) j)) [
    | inl e ↦ inl (sym (same_number instance j e), sym (put_at j q ∙ ap (λ b. cond b (slice_get v.items q) (partition_at j q es)) e) ∙ at)
    | inr e ↦ inr (sym (put_at j q ∙ ap (λ b. cond b (slice_get v.items q) (partition_at j q es)) e) ∙ at)
  ]

  -- one that was there stays
  pub kept_at : IsUnmade instance es → (j q : ℕ) (x : Partition L) → partition_at j q es ≡ Some x → partition_at j q es' ≡ Some x
  kept_at unmade j q x at = elim (cases (is_at (nat_cmp instance) j)) [
    | inl e ↦
        let none : lookup (is_at (nat_cmp j)) es ≡ None = ap (λ k. lookup (is_at (nat_cmp k)) es) (sym (same_number instance j e)) ∙ unmade_here instance es unmade in
        let gone : None ≡ Some x = sym (found_at es j q None none) ∙ at in
        absurd cc
    | inr e ↦ put_at j q ∙ ap (λ b. cond b (slice_get v.items q) (partition_at j q es)) e ∙ at
  ]

module _ {L : Type 0} (log : L → Log) (instance count : ℕ) (es es' : Entries L) (v : Vec (Partition L) Global)
    (len : length v.items ≡ count) (empty : All (IsEmptyPartition log) v.items) (entries : es' ≡ insert_entry nat_cmp es instance v)
    (unmade : IsUnmade instance es) (ordered : IsStrictlySortedBy nat_cmp (keys_of es'))
    (updates : (j : ℕ) → lookup (is_at (nat_cmp j)) es' ≡ cond (is_at (nat_cmp instance) j) (Some v) (lookup (is_at (nat_cmp j)) es)) where
  -- each partition is a new one, or stands where it stood
  made_at : (j q : ℕ) (x : Partition L) → partition_at j q es' ≡ Some x → IsEmptyPartition log x ⊎ (partition_at j q es ≡ Some x)
  made_at j q x at = ⊎_elim
      (λ new. inl (each_at (IsEmptyPartition log) v.items q x empty new.1))
      (λ was. inr was)
      (taken_at instance es es' v updates j q x at)

  -- each log is that of its own partition, where each of the new ones is
  pub made_named : (tenant : List ℕ) (size : ℕ) → AreNumbered log tenant instance size v.items → AreNamed log tenant size es → AreNamed log tenant size es'
  made_named tenant size numbered named j q x at = ⊎_elim
      (λ new. numbered q x new.1 ∙ ap (λ i. partition_identity tenant i q size) (sym new.0))
      (λ was. named j q x was)
      (taken_at instance es es' v updates j q x at)

  -- each log would start where it does, where no start is recorded of the new ones
  pub made_started : ((l : L) → IsLawfulLog (log l)) → (recorded : ℕ → ℕ → ℕ) → ((p : ℕ) → recorded instance p ≡ 0) → AreStarted log recorded es → AreStarted log recorded es'
  made_started law recorded none started j q x at = ⊎_elim
      (λ new.
      let fresh : IsEmptyPartition log x = each_at (IsEmptyPartition log) v.items q x empty new.1 in
      let here : recorded j q ≡ 0 = ap (λ i. recorded i q) new.0 ∙ none q in
      subst (λ n. (log x.log).resumes n) (fresh.begun.start ∙ sym here) ((law x.log).resumes_start map.empty 0 (fresh.begun.sound map.empty 0)))
      (λ was. started j q x was)
      (taken_at instance es es' v updates j q x at)

  pub made : IsMade log instance count es es'
  made = record {
    owned = λ file o. ⊎_elim
        (λ (new : IsEmptyPartition log o.partition). absurd (new.begun.owns file o.own))
        (λ was. record { instance = o.instance; number = o.number; partition = o.partition; at = was; own = o.own })
        (made_at o.instance o.number o.partition o.at);
    owned_old = λ file o. record {
      instance = o.instance;
      number = o.number;
      partition = o.partition;
      at = kept_at instance es es' v updates unmade o.instance o.number o.partition o.at;
      own = o.own;
    };
    exact = λ table exact i p x at. ⊎_elim (λ (new : IsEmptyPartition log x). (new.begun.exact table, new.begun.timed)) (λ was. exact i p x was) (made_at i p x at);
    timed = λ timed i p x at. ⊎_elim (λ (new : IsEmptyPartition log x). new.begun.timed) (λ was. timed i p x was) (made_at i p x at);
    sound = λ table next s. record {
      ordered = ordered;
      each = λ i p x at. ⊎_elim (λ (new : IsEmptyPartition log x). new.begun.sound table next) (λ was. s.each i p x was) (made_at i p x at);
      apart = λ i p j q x y at there differ file own other. ⊎_elim
          (λ (new : IsEmptyPartition log x). new.begun.owns file own)
          (λ was. ⊎_elim (λ (new : IsEmptyPartition log y). new.begun.owns file other) (λ is. s.apart i p j q x y was is differ file own other) (made_at j q y there))
          (made_at i p x at);
    };
    agrees = λ files a. record {
      each = λ i p x at. ⊎_elim (λ (new : IsEmptyPartition log x). new.begun.agrees files) (λ was. a.each i p x was) (made_at i p x at);
      producers = λ i p x at. ⊎_elim (λ (new : IsEmptyPartition log x). new.unproduced ∙ sym (ap kept_all (new.begun.empty files))) (λ was. a.producers i p x was) (made_at i p x at);
    };
    state = λ files.
        ap (λ ds. logs_of log ds files) entries
        ∙ insert_mapped (λ (t : Vec (Partition L) Global). map (λ (x : Partition L). log_state (log x.log) files) t.items) instance v es
        ∙ ap (λ (t : List LogState). insert_entry nat_cmp (logs_of log es files) instance t) (all_empty log files v.items empty ∙ ap (λ n. replicate n no_log) len);
    places =
        ap places_of entries
        ∙ insert_mapped (λ (t : Vec (Partition L) Global). length t.items) instance v es
        ∙ ap (λ n. insert_entry nat_cmp (places_of es) instance n) len;
    counts = λ i.
        let count_of : Vec (Partition L) Global → ℕ = λ t. length t.items in
        let test : ℕ → Bool = is_at (nat_cmp i) in
        lookup-map_values count_of test es' ∙ ap (option_map count_of) (updates i) ∙ counted_by count_of count v (lookup test es) (is_at (nat_cmp instance) i) len
        ∙ ap (λ o. cond (is_at (nat_cmp instance) i) (Some count) o) (sym (lookup-map_values count_of test es));
    back = ap (λ ds. remove_entry (is_at (nat_cmp instance)) ds) entries ∙ remove_inserted instance v es (unmade_here instance es unmade);
  }
