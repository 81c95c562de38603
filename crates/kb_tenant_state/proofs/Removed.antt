-- What the partitions of a tenant are without those of a topic.
use Rattle.std.proofs.Common.{◌≡◌, ◌∙◌, ◌⊎◌, ◌≤◌, inl, inr, ⊎_elim, ℕ, Bool, true, false, cond, List, [], ◌∷◌, Some, None, refl, sym, ap, length}
use Rattle.std.specs.Prelude.{slice_get, Result, OnOk}
use Rattle.std.specs.FinMap.{get}
use Rattle.std.specs.Ordering.{nat_cmp}
use Rattle.std.specs.List.Sorted.{IsStrictlySortedBy}
use Rattle.std.specs.Map.{keys_of, lookup, remove_entry}
use Rattle.std.specs.BTreeMap.{is_at}
use Rattle.std.specs.declared.alloc.Global.{Global}
use Rattle.std.specs.declared.vec.Vec.{Vec}
use Rattle.std.proofs.lemmas.Result.{on_ok_weaker}
use Rattle.kb_store.specs.Disk.{Disk, Table, Files}
use Rattle.kb_store.specs.declared.fault.StoreFault.{StoreFault}
use Rattle.kb_log.specs.Apart.{Stays, other_stays}
use Rattle.kb_log.specs.OnShelf.{Log, Accounts, OnlyRemoves, Spares, IsLawfulLog, no_file}
use Rattle.kb_producers.specs.Batches.{kept_all}
use Rattle.kb_tenant_state.specs.Logs.{LogState, without_logs}
use Rattle.kb_tenant_state.specs.Partitions.{Entries, Owned, OwnedBy, AreSound, AreNamed, AreStarted, partition_at, places_of, log_state, logs_of, scene_on}
use Rattle.kb_tenant_state.specs.Scene.{Frame, GivesUp, Settles}
use Rattle.kb_tenant_state.specs.Topic.{AreApartLogs, OwnedAmong}
use Rattle.kb_tenant_state.specs.declared.partition.Partition.{Partition}
use Rattle.kb_tenant_state.proofs.Changed.{found_at, shown}
use Rattle.kb_tenant_state.proofs.Left.{removes_gives, removes_writes}
use Rattle.kb_tenant_state.proofs.Put.{cases, each_value, map_same, other_number, same_number, values_same}

-- an entry is taken out before its value is looked at, or after
remove_mapped : {A B : Type 0} (f : A → B) (test : ℕ → Bool) (es : List (ℕ × A)) → each_value f (remove_entry test es) ≡ remove_entry test (each_value f es)
remove_mapped f test [] = refl
remove_mapped {A} {B} f test (e ∷ es) = by (test e.0) (remove_mapped f test es)
  where
    by : (b : Bool) → each_value f (remove_entry test es) ≡ remove_entry test (each_value f es)
        → each_value f (cond b es (e ∷ remove_entry test es)) ≡ cond b (each_value f es) ((e.0, f e.1) ∷ remove_entry test (each_value f es))
    by true h = refl
    by false h = ap (λ rest. (e.0, f e.1) ∷ rest) h

pub places_without : {L : Type 0} (i : ℕ) (es es' : Entries L) → es' ≡ remove_entry (is_at (nat_cmp i)) es → places_of es' ≡ remove_entry (is_at (nat_cmp i)) (places_of es)
places_without {L} i es es' entries = ap places_of entries ∙ remove_mapped (λ (t : Vec (Partition L) Global). length t.items) (is_at (nat_cmp i)) es

pub logs_without : {L : Type 0} (log : L → Log) (i : ℕ) (es es' : Entries L) (files : Files) → es' ≡ remove_entry (is_at (nat_cmp i)) es → logs_of log es' files ≡ without_logs i (logs_of log es files)
logs_without log i es es' files entries = ap (λ fs. logs_of log fs files) entries ∙ remove_mapped (shown log files) (is_at (nat_cmp i)) es

-- ---- the topic's logs

module _ {L : Type 0} (log : L → Log) (i : ℕ) (es : Entries L) (t : Vec (Partition L) Global) (there : lookup (is_at (nat_cmp i)) es ≡ Some t) where
  at_place : (p : ℕ) (x : Partition L) → slice_get t.items p ≡ Some x → partition_at i p es ≡ Some x
  at_place p x at = found_at es i p (Some t) there ∙ at

  pub topic_sound : (table : Table) (next : ℕ) → AreSound log es table next → AreApartLogs log t.items table next
  topic_sound table next sound = record {
    each = λ p x at. sound.each i p x (at_place p x at);
    apart = λ p q x y a b ne. sound.apart i p i q x y (at_place p x a) (at_place q y b) (λ bad. ne bad.1);
  }

  pub topic_gone : (r : Result (Unit {0}) StoreFault) (table : Table) → OnOk r ((file : ℕ) → OwnedAmong log t.items file → get table file ≡ None) → OnOk r ((file : ℕ) → OwnedBy log i es file → get table file ≡ None)
  topic_gone r table = on_ok_weaker r (λ gone file o. gone file (record { number = o.number; partition = o.partition; at = sym (found_at es i o.number (Some t) there) ∙ o.at; own = o.own }))

  -- ---- the logs of the others

  module _ (es' : Entries L) (entries : es' ≡ remove_entry (is_at (nat_cmp i)) es) (ordered : IsStrictlySortedBy nat_cmp (keys_of es'))
      (updates : (j : ℕ) → lookup (is_at (nat_cmp j)) es' ≡ cond (is_at (nat_cmp i) j) None (lookup (is_at (nat_cmp j)) es))
      (law : (l : L) → IsLawfulLog (log l)) (d d' : Disk) (next next' : ℕ) (sound : AreSound log es d.table next)
      (others : Spares (OwnedAmong log t.items) no_file d d' next next') where
    -- each partition stands where it stood, and is of another topic
    rest_at : (j q : ℕ) (y : Partition L) → partition_at j q es' ≡ Some y → (partition_at j q es ≡ Some y) × (j ≡ i → ⊥)
    rest_at j q y at = elim (cases (is_at (nat_cmp i) j)) [
      | inl e ↦
          let gone : None ≡ Some y = sym (found_at es' j q None (updates j ∙ ap (λ b. cond b None (lookup (is_at (nat_cmp j)) es)) e)) ∙ at in
          absurd cc
      | inr e ↦ (sym (found_at es' j q (lookup (is_at (nat_cmp j)) es) (updates j ∙ ap (λ b. cond b None (lookup (is_at (nat_cmp j)) es)) e)) ∙ at, other_number i j e)
    ]

    -- each partition was one of the topic's, or still stands where it stood
    left_at : (j q : ℕ) (y : Partition L) → partition_at j q es ≡ Some y → (slice_get t.items q ≡ Some y) ⊎ (partition_at j q es' ≡ Some y)
    left_at j q y at = elim (cases (is_at (nat_cmp i) j)) [
      | inl e ↦ inl (sym (found_at es j q (Some t) (ap (λ k. lookup (is_at (nat_cmp k)) es) (sym (same_number i j e)) ∙ there)) ∙ at)
      | inr e ↦ inr (found_at es' j q (lookup (is_at (nat_cmp j)) es) (updates j ∙ ap (λ b. cond b None (lookup (is_at (nat_cmp j)) es)) e) ∙ at)
    ]

    mine : (file : ℕ) → OwnedAmong log t.items file → Owned log es file
    mine file o = record { instance = i; number = o.number; partition = o.partition; at = at_place o.number o.partition o.at; own = o.own }

    stays : (j q : ℕ) (y : Partition L) → partition_at j q es' ≡ Some y → Stays (log y.log) no_file d d' next'
    stays j q y at =
        let rest = rest_at j q y at in
        other_stays (log y.log) (OwnedAmong log t.items) no_file d d' next next' (law y.log) others (sound.each j q y rest.0)
        (λ file theirs o. sound.apart j q i o.number y o.partition rest.0 (at_place o.number o.partition o.at) (λ bad. rest.1 bad.0) file theirs o.own)

    pub removed_frame : d.failures ≤ d'.failures → Frame (scene_on log es d next) (scene_on log es' d' next')
    removed_frame failures = record {
      sound = record {
        ordered = ordered;
        each = λ j q y at. (stays j q y at).sound;
        apart = λ j q k r y z a b. sound.apart j q k r y z (rest_at j q y a).0 (rest_at k r z b).0;
      };
      others = record {
        later = others.later;
        honest = others.honest;
        owned = λ file o. inl (record { instance = o.instance; number = o.number; partition = o.partition; at = (rest_at o.instance o.number o.partition o.at).0; own = o.own });
        lengths = λ file lt not. others.lengths file lt (λ o. not (mine file o));
        contents = λ honest file lt not. others.contents honest file lt (λ o. not (mine file o));
      };
      failures = failures;
      agrees = λ honest agree. record {
        each = λ j q y at. (stays j q y at).agrees honest (agree.each j q y (rest_at j q y at).0);
        producers = λ j q y at. agree.producers j q y (rest_at j q y at).0 ∙ sym (ap kept_all ((stays j q y at).list honest));
      };
    }

    pub removed_named : (tenant : List ℕ) (size : ℕ) → AreNamed log tenant size es → AreNamed log tenant size es'
    removed_named tenant size named j q y at = named j q y (rest_at j q y at).0

    pub removed_started : (recorded : ℕ → ℕ → ℕ) → AreStarted log recorded es → AreStarted log recorded es'
    removed_started recorded started j q y at = started j q y (rest_at j q y at).0

    -- of the files those alone are given up that were of the topic's logs
    pub removed_gives : OnlyRemoves d d' → GivesUp (OwnedBy log i es) (scene_on log es d next) (scene_on log es' d' next')
    removed_gives = removes_gives (scene_on log es d next) (scene_on log es' d' next') (OwnedBy log i es) (λ file o not. ⊎_elim
        (λ at. record { number = o.number; partition = o.partition; at = at_place o.number o.partition at; own = o.own })
        (λ at. absurd (not (record { instance = o.instance; number = o.number; partition = o.partition; at = at; own = o.own })))
        (left_at o.instance o.number o.partition o.at))

    pub removed_settles : OnlyRemoves d d' → Accounts (OwnedAmong log t.items) no_file d d' → Settles (scene_on log es d next) (scene_on log es' d' next')
    removed_settles left accounts = record {
      accounts = λ file here not.
          let before = accounts file here (λ bad. bad) in (
            before.0,
            λ o. ⊎_elim
                (λ at. before.1 (record { number = o.number; partition = o.partition; at = at; own = o.own }))
                (λ at. not (record { instance = o.instance; number = o.number; partition = o.partition; at = at; own = o.own }))
                (left_at o.instance o.number o.partition o.at),
          );
      exact = λ exact j q y at.
          let rest = rest_at j q y at in
          let old = exact j q y rest.0 in (
            (law y.log).exact_stays d.table d'.table old.0 (λ file theirs.
                others.lengths file ((law y.log).given_out d.table next (sound.each j q y rest.0) file theirs)
                (λ o. sound.apart j q i o.number y o.partition rest.0 (at_place o.number o.partition o.at) (λ bad. rest.1 bad.0) file theirs o.own)),
            old.1,
          );
      timed = λ timed j q y at. timed j q y (rest_at j q y at).0;
      writes = removes_writes (scene_on log es d next) (scene_on log es' d' next') left;
    }

    same_state : d'.honest → (j q : ℕ) (y : Partition L) → partition_at j q es' ≡ Some y → log_state (log y.log) d'.files ≡ log_state (log y.log) d.files
    same_state honest j q y at = ap (λ bs. (let s : LogState = record { start = (log y.log).start; end = (log y.log).end; batches = bs } in s)) ((stays j q y at).list honest)

    pub removed_logs : d'.honest → logs_of log es' d'.files ≡ without_logs i (logs_of log es d.files)
    removed_logs honest =
        let state : Partition L → LogState = λ y. log_state (log y.log) d.files in
        let state' : Partition L → LogState = λ y. log_state (log y.log) d'.files in
        values_same (shown log d.files) (shown log d'.files) es' ordered (λ j v a. map_same state state' v.items (λ q y b. same_state honest j q y (found_at es' j q (Some v) a ∙ b)))
        ∙ logs_without log i es es' d.files entries
