-- One partition among a tenant's becomes another.
use Rattle.std.proofs.Common.{◌≡◌, ◌∙◌, ◌⊎◌, ◌<◌, cond, inl, inr, ⊎_elim, ℕ, List, Option, Some, None, refl, sym, ap, subst, arith, length}
use Rattle.std.specs.Prelude.{map, option_map, slice_get, slice_set, slice_index_or}
use Rattle.std.specs.Option.{option_and_then}
use Rattle.std.specs.Ordering.{nat_cmp}
use Rattle.std.specs.List.Sorted.{IsStrictlySortedBy}
use Rattle.std.specs.Map.{keys_of, lookup, set_value}
use Rattle.std.specs.BTreeMap.{is_at}
use Rattle.std.proofs.lemmas.Map.{keys-set_value}
use Rattle.std.specs.Vec.{with_item, vec_len}
use Rattle.std.specs.declared.alloc.Global.{Global}
use Rattle.std.specs.declared.vec.Vec.{Vec}
use Rattle.std.proofs.lemmas.List.{length-set}
use Rattle.std.proofs.lemmas.Map.Made.{lookup-map_values}
use Rattle.std.proofs.lemmas.Map.Steps.{set_value_same}
use Rattle.std.proofs.lemmas.Option.{slice_get-map, slice_get-get_or, slice_get_past}
use Rattle.kb_store.specs.Disk.{Disk, Files}
use Rattle.kb_log.specs.Apart.{Stays, other_stays}
use Rattle.kb_log.specs.OnShelf.{Log, Spares, Frames, IsLawfulLog, no_file}
use Rattle.kb_log.specs.OnShelf as one
use Rattle.kb_producers.specs.Batches.{kept_all}
use Rattle.kb_tenant_state.specs.OneLog.{StaysTold}
use Rattle.kb_tenant_state.specs.Logs.{LogState, log_at, with_log, put_log}
use Rattle.kb_tenant_state.specs.Partitions.{Entries, Owned, AreSound, AreNamed, AreStarted, Restarts, partition_at, partition_identity, places_of, log_state, logs_of, scene_on}
use Rattle.kb_tenant_state.specs.Scene.{Frame, GivesUp, Settles}
use Rattle.kb_tenant_state.specs.declared.partition.Partition.{Partition}
use Rattle.kb_tenant_state.proofs.Left.{gives_writes, strays_gives}
use Rattle.kb_tenant_state.proofs.Put.{cases, found_put, get_here, get_kept, get_put, own_number, same_number, map_same, map_put, put_same, lookup_put, values_put}

-- the partition at a place becomes another
pub record Change {L : Type 0} (es es' : Entries L) (i p : ℕ) (x x' : Partition L) : Type 0 where
  pub topic : Vec (Partition L) Global
  pub ordered : IsStrictlySortedBy nat_cmp (keys_of es)
  pub there : lookup (is_at (nat_cmp i)) es ≡ Some topic
  pub here : slice_get topic.items p ≡ Some x
  pub put : es' ≡ set_value (is_at (nat_cmp i)) es (with_item topic p x')

-- ---- what is found

pub item_at : {A : Type 0} (v : Vec A Global) (p : ℕ) (x : A) → p < vec_len v → x ≡ slice_index_or v.items p x → slice_get v.items p ≡ Some x
item_at v p x lt is = slice_get-get_or v.items p x (omega (arith, lt, v.ok.0)) ∙ sym (ap (λ y. Some y) is)

pub no_item : {A : Type 0} (v : Vec A Global) (p : ℕ) → (p < vec_len v → ⊥) → slice_get v.items p ≡ None
no_item v p not = slice_get_past v.items p (omega (arith, not, v.ok.0))

pub found_at : {L : Type 0} (es : Entries L) (i p : ℕ) (o : Option (Vec (Partition L) Global)) → lookup (is_at (nat_cmp i)) es ≡ o → partition_at i p es ≡ option_and_then (λ (t : Vec (Partition L) Global). slice_get t.items p) o
found_at {L} es i p o e = ap (λ o. option_and_then (λ (t : Vec (Partition L) Global). slice_get t.items p) o) e

-- ---- what a tenant sees

-- the logs of one topic
abbrev pub shown : {L : Type 0} → (L → Log) → Files → Vec (Partition L) Global → List LogState
shown log files t = map (λ x. log_state (log x.log) files) t.items

-- a log is found where its partition is
pub log_at_is : {L : Type 0} (log : L → Log) (es : Entries L) (i p : ℕ) (files : Files) → log_at i p (logs_of log es files) ≡ option_map (λ (x : Partition L). log_state (log x.log) files) (partition_at i p es)
log_at_is {L} log es i p files =
    ap (λ o. option_and_then (λ (t : List LogState). slice_get t p) o) (lookup-map_values (shown log files) (is_at (nat_cmp i)) es)
    ∙ in_topic (lookup (is_at (nat_cmp i)) es)
  where
    in_topic : (o : Option (Vec (Partition L) Global)) → option_and_then (λ (t : List LogState). slice_get t p) (option_map (shown log files) o) ≡ option_map (λ (x : Partition L). log_state (log x.log) files) (option_and_then (λ (t : Vec (Partition L) Global). slice_get t.items p) o)
    in_topic None = refl
    in_topic (Some t) = slice_get-map (λ (x : Partition L). log_state (log x.log) files) t.items p

-- another log is put where the partition is
pub with_log_is : {L : Type 0} (log : L → Log) (es : Entries L) (i p : ℕ) (files : Files) (t : Vec (Partition L) Global) (w : LogState) → lookup (is_at (nat_cmp i)) es ≡ Some t
    → with_log i p w (logs_of log es files) ≡ set_value (is_at (nat_cmp i)) (logs_of log es files) (slice_set (shown log files t) p w)
with_log_is log es i p files t w e =
    ap (put_log i p w (logs_of log es files)) (lookup-map_values (shown log files) (is_at (nat_cmp i)) es ∙ ap (option_map (shown log files)) e)

-- a log that is put back changes nothing
pub with_same_log : {L : Type 0} (log : L → Log) (es : Entries L) (i p : ℕ) (files : Files) (t : Vec (Partition L) Global) (x : Partition L) → lookup (is_at (nat_cmp i)) es ≡ Some t → slice_get t.items p ≡ Some x
    → with_log i p (log_state (log x.log) files) (logs_of log es files) ≡ logs_of log es files
with_same_log {L} log es i p files t x e f =
    let state : Partition L → LogState = λ y. log_state (log y.log) files in
    let same : slice_set (shown log files t) p (state x) ≡ shown log files t = put_same (shown log files t) p (state x) (slice_get-map state t.items p ∙ ap (option_map state) f) in
    with_log_is log es i p files t (state x) e
    ∙ ap (λ ls. set_value (is_at (nat_cmp i)) (logs_of log es files) ls) same
    ∙ set_value_same (is_at (nat_cmp i)) (logs_of log es files) (shown log files t) (lookup-map_values (shown log files) (is_at (nat_cmp i)) es ∙ ap (option_map (shown log files)) e)

-- ---- the change

module _ {L : Type 0} (es es' : Entries L) (i p : ℕ) (x x' : Partition L) (c : Change es es' i p x x') where
  pub old_at : partition_at i p es ≡ Some x
  old_at = found_at es i p _ c.there ∙ c.here

  -- each partition is the new one, or was there before at another place
  pub changed_at : (j q : ℕ) (y : Partition L) → partition_at j q es' ≡ Some y → ((j ≡ i) × (q ≡ p) × (y ≡ x')) ⊎ ((partition_at j q es ≡ Some y) × ((j ≡ i) × (q ≡ p) → ⊥))
  changed_at j q y at = in_topic (lookup (is_at (nat_cmp j)) es') refl
    where
      in_topic : (o : Option (Vec (Partition L) Global)) → lookup (is_at (nat_cmp j)) es' ≡ o → ((j ≡ i) × (q ≡ p) × (y ≡ x')) ⊎ ((partition_at j q es ≡ Some y) × ((j ≡ i) × (q ≡ p) → ⊥))
      in_topic None e = let none : None ≡ Some y = sym (ap (λ o. option_and_then (λ (t : Vec (Partition L) Global). slice_get t.items q) o) e) ∙ at in absurd cc
      in_topic (Some u) e =
          let found : slice_get u.items q ≡ Some y = sym (ap (λ o. option_and_then (λ (t : Vec (Partition L) Global). slice_get t.items q) o) e) ∙ at in
          ⊎_elim
          (λ s. ⊎_elim
          (λ h. inl (s.0, h.0, h.1))
          (λ o. inr (ap (λ k. partition_at k q es) s.0 ∙ ap (λ o. option_and_then (λ (t : Vec (Partition L) Global). slice_get t.items q) o) c.there ∙ o.1, λ bad. o.0 bad.1))
          (get_put c.topic.items p q x x' y c.here (subst (λ (t : Vec (Partition L) Global). slice_get t.items q ≡ Some y) s.1 found)))
          (λ o. inr (ap (λ o. option_and_then (λ (t : Vec (Partition L) Global). slice_get t.items q) o) o.1 ∙ found, λ bad. o.0 bad.0))
          (lookup_put es i j c.topic (with_item c.topic p x') u c.there (subst (λ (fs : Entries L). lookup (is_at (nat_cmp j)) fs ≡ Some u) c.put e))

  -- the new one is at the place
  pub new_at : partition_at i p es' ≡ Some x'
  new_at = found_at es' i p (Some (with_item c.topic p x')) (ap (λ (fs : Entries L). lookup (is_at (nat_cmp i)) fs) c.put
      ∙ found_put es i i c.topic (with_item c.topic p x') c.there ∙ ap (λ b. cond b (Some (with_item c.topic p x')) (lookup (is_at (nat_cmp i)) es)) (own_number i))
      ∙ get_here c.topic.items p x x' c.here

  -- each partition that was there is the one that was put away, or still stands where it stood
  pub kept_at : (j q : ℕ) (y : Partition L) → partition_at j q es ≡ Some y → (y ≡ x) ⊎ (partition_at j q es' ≡ Some y)
  kept_at j q y at = elim (cases (is_at (nat_cmp i) j)) [
    | inl e ↦
        let was : slice_get c.topic.items q ≡ Some y = sym (found_at es j q (Some c.topic) (ap (λ k. lookup (is_at (nat_cmp k)) es) (sym (same_number i j e)) ∙ c.there)) ∙ at in
        ⊎_elim (λ s. inl s) (λ o. inr (found_at es' j q (Some (with_item c.topic p x')) (found j (Some (with_item c.topic p x')) (ap (λ b. cond b (Some (with_item c.topic p x')) (lookup (is_at (nat_cmp j)) es)) e)) ∙ o))
        (get_kept c.topic.items p q x x' y c.here was)
    | inr e ↦ inr (found_at es' j q (lookup (is_at (nat_cmp j)) es) (found j (lookup (is_at (nat_cmp j)) es) (ap (λ b. cond b (Some (with_item c.topic p x')) (lookup (is_at (nat_cmp j)) es)) e)) ∙ at)
  ]
    where
      found : (j : ℕ) (o : Option (Vec (Partition L) Global)) → cond (is_at (nat_cmp i) j) (Some (with_item c.topic p x')) (lookup (is_at (nat_cmp j)) es) ≡ o → lookup (is_at (nat_cmp j)) es' ≡ o
      found j o e = ap (λ (fs : Entries L). lookup (is_at (nat_cmp j)) fs) c.put ∙ found_put es i j c.topic (with_item c.topic p x') c.there ∙ e

  -- what holds of the new partition and of the others holds of each
  pub each_partition : (P : ℕ → ℕ → Partition L → Type 0) → P i p x' → ((j q : ℕ) (y : Partition L) → partition_at j q es ≡ Some y → ((j ≡ i) × (q ≡ p) → ⊥) → P j q y) → (j q : ℕ) (y : Partition L) → partition_at j q es' ≡ Some y → P j q y
  each_partition P here other j q y at = ⊎_elim
      (λ s. rw (s.0, s.1, s.2) here)
      (λ o. other j q y o.0 o.1)
      (changed_at j q y at)

  -- each topic has as many partitions as before
  pub same_places : places_of es' ≡ places_of es
  same_places =
      let count : Vec (Partition L) Global → ℕ = λ t. length t.items in
      ap places_of c.put
      ∙ values_put count count es i (with_item c.topic p x') (count c.topic) c.ordered (λ j t a ne. refl) (length-set c.topic.items p x')
      ∙ set_value_same (is_at (nat_cmp i)) (places_of es) (count c.topic) (lookup-map_values count (is_at (nat_cmp i)) es ∙ ap (option_map count) c.there)

  -- a call for one log, which keeps to its own files
  module _ (log : L → Log) (law : (l : L) → IsLawfulLog (log l)) (d d' : Disk) (next next' : ℕ) (sound : AreSound log es d.table next)
      (frames : Frames (record { log = log x.log; disk = d; next = next }) (record { log = log x'.log; disk = d'; next = next' })) where
    stays : (j q : ℕ) (y : Partition L) → partition_at j q es ≡ Some y → ((j ≡ i) × (q ≡ p) → ⊥) → Stays (log y.log) (log x'.log).owns d d' next'
    stays j q y at ne = other_stays (log y.log) (log x.log).owns (log x'.log).owns d d' next next' (law y.log) frames.others (sound.each j q y at)
        (λ file mine theirs. sound.apart j q i p y x at old_at ne file mine theirs)

    pub changed_sound : AreSound log es' d'.table next'
    changed_sound = record {
      ordered = subst (λ ks. IsStrictlySortedBy nat_cmp ks) (sym (ap keys_of c.put ∙ keys-set_value (is_at (nat_cmp i)) es (with_item c.topic p x'))) c.ordered;
      each = each_partition (λ j q y. (log y.log).sound d'.table next') frames.sound (λ j q y at ne. (stays j q y at ne).sound);
      apart = λ j q k r y z a b ne file own theirs. ⊎_elim
          (λ s. ⊎_elim
          (λ u. ne (s.0 ∙ sym u.0, s.1 ∙ sym u.1))
          (λ u. (stays k r z u.0 u.1).apart file theirs (subst (λ (v : Partition L). (log v.log).owns file) s.2 own))
          (changed_at k r z b))
          (λ s. ⊎_elim
          (λ u. (stays j q y s.0 s.1).apart file own (subst (λ (v : Partition L). (log v.log).owns file) u.2 theirs))
          (λ u. sound.apart j q k r y z s.0 u.0 ne file own theirs)
          (changed_at k r z b))
          (changed_at j q y a);
    }

    mine : (file : ℕ) → (log x.log).owns file → Owned log es file
    mine file own = record { instance = i; number = p; partition = x; at = old_at; own = own }

    pub changed_spares : Spares (Owned log es) (Owned log es') d d' next next'
    changed_spares = record {
      later = frames.others.later;
      honest = frames.others.honest;
      owned = λ file o. ⊎_elim
          (λ s. ⊎_elim (λ old. inl (mine file old)) (λ new. inr new) (frames.others.owned file (subst (λ (v : Partition L). (log v.log).owns file) s.2 o.own)))
          (λ s. inl (record { instance = o.instance; number = o.number; partition = o.partition; at = s.0; own = o.own }))
          (changed_at o.instance o.number o.partition o.at);
      lengths = λ file lt not. frames.others.lengths file lt (λ own. not (mine file own));
      contents = λ honest file lt not. frames.others.contents honest file lt (λ own. not (mine file own));
    }

    -- what a call keeps, where its partition's table of producers stays told
    pub changed_frame : StaysTold (record { log = log x.log; disk = d; next = next }) x.producers.kept (record { log = log x'.log; disk = d'; next = next' }) x'.producers.kept → Frame (scene_on log es d next) (scene_on log es' d' next')
    changed_frame told = record {
      sound = changed_sound;
      others = changed_spares;
      failures = frames.failures;
      agrees = λ honest agree. record {
        each = each_partition (λ j q y. (log y.log).agrees d'.files) (frames.agrees honest (agree.each i p x old_at)) (λ j q y at ne. (stays j q y at ne).agrees honest (agree.each j q y at));
        producers = each_partition (λ j q y. y.producers.kept ≡ kept_all ((log y.log).batches d'.files)) (told honest (agree.each i p x old_at) (agree.producers i p x old_at))
            (λ j q y at ne. agree.producers j q y at ∙ sym (ap kept_all ((stays j q y at ne).list honest)));
      };
    }

    -- where it is written, and that no file is given up
    pub changed_gives : GivesUp no_file (scene_on log es d next) (scene_on log es' d' next')
    changed_gives =
        strays_gives (scene_on log es d next) (scene_on log es' d' next') (log x.log).owns (log x'.log).owns
        (λ file own. record { instance = i; number = p; partition = x'; at = new_at; own = own })
        (λ file o. ⊎_elim
        (λ s. inl (subst (λ (v : Partition L). (log v.log).owns file) s o.own))
        (λ at. inr (record { instance = o.instance; number = o.number; partition = o.partition; at = at; own = o.own }))
        (kept_at o.instance o.number o.partition o.at))
        frames.strays

    -- each log is still the one that it was
    pub changed_named : (tenant : List ℕ) (size : ℕ) → AreNamed log tenant size es → AreNamed log tenant size es'
    changed_named tenant size named =
        each_partition (λ j q y. (log y.log).identity ≡ partition_identity tenant j q size) (frames.identity ∙ named i p x old_at) (λ j q y at ne. named j q y at)

    -- each log would still start where it does, where the changed one would
    pub changed_resumes : (recorded : ℕ → ℕ → ℕ) → ((start : ℕ) → (log x.log).resumes start → (log x'.log).resumes start) → AreStarted log recorded es → AreStarted log recorded es'
    changed_resumes recorded keeps started =
        each_partition (λ j q y. (log y.log).resumes (recorded j q)) (keeps (recorded i p) (started i p x old_at)) (λ j q y at ne. started j q y at)

    -- so it would where the changed one's start is recorded
    pub changed_restarts : (old new : ℕ → ℕ → ℕ) (start : ℕ) → (log x'.log).start ≡ start → Restarts old i p start new → AreStarted log old es → AreStarted log new es'
    changed_restarts old new start is restarts started =
        each_partition (λ j q y. (log y.log).resumes (new j q))
        (subst (λ n. (log x'.log).resumes n) (is ∙ sym restarts.here) ((law x'.log).resumes_start d'.table next' frames.sound))
        (λ j q y at ne. subst (λ n. (log y.log).resumes n) (sym (restarts.others j q ne)) (started j q y at))

    -- what a call that was refused nothing leaves
    pub changed_settles : ((log x.log).timed → (log x'.log).timed) → one.Settles (record { log = log x.log; disk = d; next = next }) (record { log = log x'.log; disk = d'; next = next' })
        → Settles (scene_on log es d next) (scene_on log es' d' next')
    changed_settles timed settles = record {
      accounts = λ file there not.
          let before = settles.accounts file there (λ own. not (record { instance = i; number = p; partition = x'; at = new_at; own = own })) in (
            before.0,
            λ o. ⊎_elim
                (λ s. before.1 (subst (λ (v : Partition L). (log v.log).owns file) s o.own))
                (λ at. not (record { instance = o.instance; number = o.number; partition = o.partition; at = at; own = o.own }))
                (kept_at o.instance o.number o.partition o.at),
          );
      exact = λ exact. each_partition (λ j q y. (log y.log).exact d'.table × (log y.log).timed) (let old = exact i p x old_at in (settles.exact old.0, timed old.1)) (λ j q y at ne.
          let old = exact j q y at in (
            (law y.log).exact_stays d.table d'.table old.0 (λ file mine.
                frames.others.lengths file ((law y.log).given_out d.table next (sound.each j q y at) file mine) (λ theirs. sound.apart j q i p y x at old_at ne file mine theirs)),
            old.1,
          ));
      timed = λ old. each_partition (λ j q y. (log y.log).timed) (timed (old i p x old_at)) (λ j q y at ne. old j q y at);
      writes = gives_writes (scene_on log es d next) (scene_on log es' d' next') no_file changed_gives;
    }

    same_state : d'.honest → (j q : ℕ) (y : Partition L) → partition_at j q es ≡ Some y → ((j ≡ i) × (q ≡ p) → ⊥) → log_state (log y.log) d'.files ≡ log_state (log y.log) d.files
    same_state honest j q y at ne = ap (λ bs. (let s : LogState = record { start = (log y.log).start; end = (log y.log).end; batches = bs } in s)) ((stays j q y at ne).list honest)

    -- the tenant sees another log there, and the others as before
    pub changed_logs : d'.honest → (w : LogState) → log_state (log x'.log) d'.files ≡ w → logs_of log es' d'.files ≡ with_log i p w (logs_of log es d.files)
    changed_logs honest w new =
        let state : Partition L → LogState = λ y. log_state (log y.log) d.files in
        let state' : Partition L → LogState = λ y. log_state (log y.log) d'.files in
        let topic : shown log d'.files (with_item c.topic p x') ≡ slice_set (shown log d.files c.topic) p w =
        map_put state state' c.topic.items p x' w (λ q y a ne. same_state honest i q y (ap (λ o. option_and_then (λ (t : Vec (Partition L) Global). slice_get t.items q) o) c.there ∙ a) (λ bad. ne bad.1)) new in
        ap (λ fs. logs_of log fs d'.files) c.put
        ∙ values_put (shown log d.files) (shown log d'.files) es i (with_item c.topic p x') (slice_set (shown log d.files c.topic) p w) c.ordered
        (λ j t a ne. map_same state state' t.items (λ q y b. same_state honest j q y (ap (λ o. option_and_then (λ (t : Vec (Partition L) Global). slice_get t.items q) o) a ∙ b) (λ bad. ne bad.0)))
        topic
        ∙ sym (with_log_is log es i p d.files c.topic w c.there)

    -- where the log is as before, the tenant sees nothing new
    pub same_logs : d'.honest → log_state (log x'.log) d'.files ≡ log_state (log x.log) d.files → logs_of log es' d'.files ≡ logs_of log es d.files
    same_logs honest same = changed_logs honest (log_state (log x.log) d.files) same ∙ with_same_log log es i p d.files c.topic x c.there c.here

-- ---- no change

-- the entries are as before, and nothing was done
pub frame_same : {L : Type 0} (log : L → Log) (es es' : Entries L) (d : Disk) (next : ℕ) → es' ≡ es → AreSound log es d.table next → Frame (scene_on log es d next) (scene_on log es' d next)
frame_same {L} log es es' d next e sound = subst (λ (fs : Entries L). Frame (scene_on log es d next) (scene_on log fs d next)) (sym e) (record {
  sound = sound;
  others = record {
    later = omega arith;
    honest = λ h. h;
    owned = λ file o. inl o;
    lengths = λ file lt not. refl;
    contents = λ honest file lt not. refl;
  };
  failures = omega arith;
  agrees = λ honest agree. agree;
})

-- no file is another, and each is its owner's still
pub gives_same : {L : Type 0} (log : L → Log) (es es' : Entries L) (given : ℕ → Type 0) (d : Disk) (next : ℕ) → es' ≡ es → GivesUp given (scene_on log es d next) (scene_on log es' d next)
gives_same {L} log es es' given d next e honest file there not some = (there, refl, λ own. absurd (not (subst (λ (fs : Entries L). Owned log fs file) (sym e) own)))

pub settles_same : {L : Type 0} (log : L → Log) (es es' : Entries L) (d : Disk) (next : ℕ) → es' ≡ es → Settles (scene_on log es d next) (scene_on log es' d next)
settles_same {L} log es es' d next e = subst (λ (fs : Entries L). Settles (scene_on log es d next) (scene_on log fs d next)) (sym e) (record {
  accounts = λ file there not. (there, not);
  exact = λ exact. exact;
  timed = λ timed. timed;
  writes = λ honest file there not some. (there, refl);
})

pub named_same : {L : Type 0} (log : L → Log) (es es' : Entries L) (tenant : List ℕ) (size : ℕ) → es' ≡ es → AreNamed log tenant size es → AreNamed log tenant size es'
named_same {L} log es es' tenant size e named = subst (λ (fs : Entries L). AreNamed log tenant size fs) (sym e) named

pub started_same : {L : Type 0} (log : L → Log) (es es' : Entries L) (recorded : ℕ → ℕ → ℕ) → es' ≡ es → AreStarted log recorded es → AreStarted log recorded es'
started_same {L} log es es' recorded e started = subst (λ (fs : Entries L). AreStarted log recorded fs) (sym e) started

-- where there is no partition whose start is recorded
pub restarts_unknown : {L : Type 0} (log : L → Log) (es es' : Entries L) (i p start : ℕ) (old new : ℕ → ℕ → ℕ) → partition_at i p es ≡ None → es' ≡ es → Restarts old i p start new
    → AreStarted log old es → AreStarted log new es'
restarts_unknown {L} log es es' i p start old new none e restarts started = started_same log es es' new e (λ j q y at.
    let other : (j ≡ i) × (q ≡ p) → ⊥ = λ same.
    let gone : None ≡ Some y = sym none ∙ sym (ap (λ k. partition_at i k es) same.1) ∙ sym (ap (λ k. partition_at k q es) same.0) ∙ at in absurd cc in
    subst (λ n. (log y.log).resumes n) (sym (restarts.others j q other)) (started j q y at))
