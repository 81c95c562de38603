-- The bytes of the batches of some logs, one after another.
use Rattle.std.proofs.Common.{◌≡◌, ◌∙◌, ◌≤◌, ◌<◌, ◌+◌, ◌-◌, ◌^◌, inl, inr, ⊎_elim, ℕ, suc, List, [], ◌∷◌, Option, Some, None, refl, sym, ap, subst, arith}
use Rattle.std.specs.Prelude.{map, min, slice_get}
use Rattle.std.specs.FinMap.{get}
use Rattle.std.specs.Ordering.{nat_cmp}
use Rattle.std.specs.List.{AllByRecursion}
use Rattle.std.specs.List.Sorted.{IsStrictlySortedBy}
use Rattle.std.specs.Map.{keys_of, lookup}
use Rattle.std.specs.Option.{option_and_then}
use Rattle.std.specs.BTreeMap.{is_at}
use Rattle.std.specs.declared.alloc.Global.{Global}
use Rattle.std.specs.declared.vec.Vec.{Vec}
use Rattle.std.proofs.lemmas.List.Sums.{sum_by-cons}
use Rattle.std.proofs.lemmas.Map.Keys.{sorted_tail}
use Rattle.kb_store.specs.Disk.{Disk, Files, Grew, Table}
use Rattle.kb_log.specs.Log.{size_of}
use Rattle.kb_log.specs.OnShelf.{Log, Reads}
use Rattle.kb_tenant_state.specs.Logs.{LogState}
use Rattle.kb_tenant_state.specs.OneLog.{LogWants}
use Rattle.kb_tenant_state.specs.PartitionCalls.{IsWant, Same}
use Rattle.kb_tenant_state.specs.Partitions.{Agree, AreSound, Entries, log_state, logs_of, partition_at, scene_on}
use Rattle.kb_tenant_state.specs.Scene.{Frame}
use Rattle.kb_tenant_state.specs.Stored.{bytes_in, bytes_in_all, up_to_end}
use Rattle.kb_tenant_state.specs.Topic.{AgreeLogs, AreSoundLogs, Looks, LookWants, size_of_logs}
use Rattle.kb_tenant_state.specs.declared.fault.PartitionFault.{PartitionFault}
use Rattle.kb_tenant_state.specs.declared.fault.PartitionFault.TheVariants.{Unknown, Range, Full, Store, Memory}
use Rattle.kb_tenant_state.specs.declared.partition.Partition.{Partition}
use Rattle.kb_tenant_state.proofs.Put.{at_head, in_tail}
use Rattle.kb_tenant_state.proofs.Sums.{total, total_cons}

-- ---- a look at logs

pub no_look : (d : Disk) (n : ℕ) → Looks d d n n
no_look d n = record { disk = record { table = refl; honest = λ h. h; files = λ h. refl }; next = refl; failures = omega arith }

pub look_then : (d e f : Disk) (k l m : ℕ) → Looks d e k l → Looks e f l m → Looks d f k m
look_then d e f k l m p q = record {
  disk = record { table = q.disk.table ∙ p.disk.table; honest = λ h. p.disk.honest (q.disk.honest h); files = λ h. q.disk.files h ∙ p.disk.files (q.disk.honest h) };
  next = q.next ∙ p.next;
  failures = omega (arith, p.failures, q.failures);
}

pub grown_then : (a b c : ℕ) → a ≤ b → Grew b c → Grew a c
grown_then a b c le grew = omega (arith, le, grew)

-- ---- the partitions of a topic

module _ {L : Type 0} (log : L → Log) (xs : List (Partition L)) (d : Disk) (next : ℕ) where
  -- the first partitions were looked at, and the rest is still to come
  pub record Summing (rest : List (Partition L)) (d' : Disk) (next' size : ℕ) : Type 0 where
    pub look : Looks d d' next next'
    pub sound : AreSoundLogs log rest d.table next
    pub agree : AgreeLogs log xs d.files → AgreeLogs log rest d.files
    pub small : size < 2 ^ 64
    pub told : d'.honest → AgreeLogs log xs d.files → up_to_end (size + size_of_logs log rest d.files) ≡ up_to_end (size_of_logs log xs d.files)

  pub sum_none : AreSoundLogs log xs d.table next → Summing xs d next 0
  sum_none sound = record { look = no_look d next; sound = sound; agree = λ a. a; small = omega arith; told = λ h a. omega arith }

  module _ (rest behind : List (Partition L)) (x : Partition L) (d' : Disk) (next' size : ℕ) (split : rest ≡ x ∷ behind) (so_far : Summing rest d' next' size) where
    first_sound : AreSoundLogs log (x ∷ behind) d.table next
    first_sound = subst (λ (ys : List (Partition L)). AreSoundLogs log ys d.table next) split so_far.sound

    first_agrees : AgreeLogs log xs d.files → AgreeLogs log (x ∷ behind) d.files
    first_agrees a = subst (λ (ys : List (Partition L)). AgreeLogs log ys d.files) split (so_far.agree a)

    -- the next log is sound
    pub next_sound : (log x.log).sound d'.table next'
    next_sound = subst (λ (t : Table). (log x.log).sound t next') (sym so_far.look.disk.table) (subst (λ (n : ℕ). (log x.log).sound d.table n) (sym so_far.look.next) first_sound.0)

    agrees_there : d'.honest → AgreeLogs log xs d.files → (log x.log).agrees d'.files
    agrees_there h a = subst (λ (f : Files). (log x.log).agrees f) (sym (so_far.look.disk.files h)) (first_agrees a).0

    module _ (e : Disk) (last : ℕ) (reads : Reads (record { log = log x.log; disk = d'; next = next' }) (record { log = log x.log; disk = e; next = last })) where
      pub looked : Looks d e next last
      looked = look_then d d' e next next' last so_far.look (record { disk = reads.disk; next = reads.next; failures = reads.failures })

      -- its batches are summed, too
      pub sum_next : (more new : ℕ) → (e.honest → (log x.log).agrees d'.files → more ≡ up_to_end (size_of ((log x.log).batches d'.files))) → new ≡ min (size + more) (2 ^ 64 - 1)
          → Summing behind e last new
      sum_next more new told is = record {
        look = looked;
        sound = first_sound.1;
        agree = λ a. (first_agrees a).1;
        small = omega (arith, is);
        told = λ h a.
            let before = reads.disk.honest h in
            let here : more ≡ up_to_end (size_of ((log x.log).batches d.files)) = told h (agrees_there before a) ∙ ap (λ (f : Files). up_to_end (size_of ((log x.log).batches f))) (so_far.look.disk.files before) in
            let all : size_of_logs log rest d.files ≡ size_of ((log x.log).batches d.files) + size_of_logs log behind d.files =
            ap (λ (ys : List (Partition L)). size_of_logs log ys d.files) split ∙ sum_by-cons (λ (y : Partition L). size_of ((log y.log).batches d.files)) x behind in
            omega (arith, is, here, all, so_far.told before a);
      }

      -- or it is refused
      pub want_next : (f : PartitionFault) → LogWants (record { log = log x.log; disk = d'; next = next' }) f (record { log = log x.log; disk = e; next = last }) → LookWants log xs d next f e
      want_next Unknown w = w
      want_next Range w = w
      want_next Full w = w
      want_next Store w = λ h a. ⊎_elim
          (λ grew. inl (grown_then d.failures d'.failures e.failures so_far.look.failures grew))
          (λ used. inr (omega (arith, used, so_far.look.next)))
          (w h (agrees_there (reads.disk.honest h) a))
      want_next Memory w = w

  pub sum_all : (rest : List (Partition L)) (d' : Disk) (next' size : ℕ) → rest ≡ [] → Summing rest d' next' size → d'.honest → AgreeLogs log xs d.files → size ≡ up_to_end (size_of_logs log xs d.files)
  sum_all rest d' next' size none s h a =
      let all : size_of_logs log rest d.files ≡ 0 = ap (λ (ys : List (Partition L)). size_of_logs log ys d.files) none in
      omega (arith, all, s.small, s.told h a)

-- ---- all topics

module _ {L : Type 0} (log : L → Log) where
  pub each_among : (P : Partition L → Type 0) (xs : List (Partition L)) → ((q : ℕ) (x : Partition L) → slice_get xs q ≡ Some x → P x) → AllByRecursion P xs
  each_among P [] h = tt
  each_among P (x ∷ xs) h = (h 0 x refl, each_among P xs (λ q y at. h (suc q) y at))

  -- what holds of each partition that is found holds of all of each topic
  pub each_topic : (P : Partition L → Type 0) (es : Entries L) → IsStrictlySortedBy nat_cmp (keys_of es) → ((i p : ℕ) (x : Partition L) → partition_at i p es ≡ Some x → P x)
      → AllByRecursion (λ (e : ℕ × Vec (Partition L) Global). AllByRecursion P e.1.items) es
  each_topic P [] s h = tt
  each_topic P (e ∷ es) s h = (
    each_among P e.1.items (λ q x at. h e.0 q x (ap (option_and_then (λ (t : Vec (Partition L) Global). slice_get t.items q)) (at_head e es) ∙ at)),
    each_topic P es (sorted_tail nat_cmp e.0 (keys_of es) s) (λ i q x at. h i q x (later i q x (lookup (is_at (nat_cmp i)) es) refl at)),
  )
    where
      later : (i q : ℕ) (x : Partition L) (o : Option (Vec (Partition L) Global)) → lookup (is_at (nat_cmp i)) es ≡ o → option_and_then (λ (t : Vec (Partition L) Global). slice_get t.items q) o ≡ Some x → partition_at i q (e ∷ es) ≡ Some x
      later i q x None at there = absurd cc
      later i q x (Some t) at there = ap (option_and_then (λ (t : Vec (Partition L) Global). slice_get t.items q)) (in_tail i e es t s at) ∙ there

  -- the bytes of the batches of each topic
  abbrev pub sizes : Entries L → Files → ℕ
  sizes es files = total (λ (t : Vec (Partition L) Global). size_of_logs log t.items files) es

  pub seen_size : (xs : List (Partition L)) (files : Files) → bytes_in (map (λ (x : Partition L). log_state (log x.log) files) xs) ≡ size_of_logs log xs files
  seen_size [] files = refl
  seen_size (x ∷ xs) files =
      let state : LogState = log_state (log x.log) files in
      let seen : bytes_in (state ∷ map (λ (y : Partition L). log_state (log y.log) files) xs) ≡ size_of ((log x.log).batches files) + bytes_in (map (λ (y : Partition L). log_state (log y.log) files) xs) =
      sum_by-cons (λ (l : LogState). size_of l.batches) state (map (λ (y : Partition L). log_state (log y.log) files) xs) in
      omega (arith, seen, sum_by-cons (λ (y : Partition L). size_of ((log y.log).batches files)) x xs, seen_size xs files)

  -- are those of the logs that the tenant sees
  pub seen_sizes : (es : Entries L) (files : Files) → bytes_in_all (logs_of log es files) ≡ sizes es files
  seen_sizes [] files = refl
  seen_sizes (e ∷ es) files =
      let first : List LogState = map (λ (x : Partition L). log_state (log x.log) files) e.1.items in
      let seen : bytes_in_all ((e.0, first) ∷ logs_of log es files) ≡ bytes_in first + bytes_in_all (logs_of log es files) = total_cons bytes_in (e.0, first) (logs_of log es files) in
      omega (arith, seen, total_cons (λ (t : Vec (Partition L) Global). size_of_logs log t.items files) e es, seen_size e.1.items files, seen_sizes es files)

  module _ (es : Entries L) (d : Disk) (next : ℕ) where
    -- the first topics were looked at, and the rest is still to come
    pub record SummingAll (rest : Entries L) (d' : Disk) (next' size : ℕ) : Type 0 where
      pub look : Looks d d' next next'
      pub sound : AllByRecursion (λ (e : ℕ × Vec (Partition L) Global). AreSoundLogs log e.1.items d.table next) rest
      pub agree : Agree log es d.files → AllByRecursion (λ (e : ℕ × Vec (Partition L) Global). AgreeLogs log e.1.items d.files) rest
      pub small : size < 2 ^ 64
      pub told : d'.honest → Agree log es d.files → up_to_end (size + sizes rest d.files) ≡ up_to_end (sizes es d.files)

    pub all_none : AreSound log es d.table next → SummingAll es d next 0
    all_none s = record {
      look = no_look d next;
      sound = each_topic (λ (x : Partition L). (log x.log).sound d.table next) es s.ordered s.each;
      agree = λ a. each_topic (λ (x : Partition L). (log x.log).agrees d.files) es s.ordered a.each;
      small = omega arith;
      told = λ h a. omega arith;
    }

    module _ (rest behind : Entries L) (x : ℕ × Vec (Partition L) Global) (d' : Disk) (next' size : ℕ) (split : rest ≡ x ∷ behind) (so_far : SummingAll rest d' next' size) where
      topics_sound : AllByRecursion (λ (e : ℕ × Vec (Partition L) Global). AreSoundLogs log e.1.items d.table next) (x ∷ behind)
      topics_sound = subst (λ (ys : Entries L). AllByRecursion (λ (e : ℕ × Vec (Partition L) Global). AreSoundLogs log e.1.items d.table next) ys) split so_far.sound

      topics_agree : Agree log es d.files → AllByRecursion (λ (e : ℕ × Vec (Partition L) Global). AgreeLogs log e.1.items d.files) (x ∷ behind)
      topics_agree a = subst (λ (ys : Entries L). AllByRecursion (λ (e : ℕ × Vec (Partition L) Global). AgreeLogs log e.1.items d.files) ys) split (so_far.agree a)

      -- the logs of the next topic are sound
      pub topic_sound : AreSoundLogs log x.1.items d'.table next'
      topic_sound = subst (λ (t : Table). AreSoundLogs log x.1.items t next') (sym so_far.look.disk.table) (subst (λ (n : ℕ). AreSoundLogs log x.1.items d.table n) (sym so_far.look.next) topics_sound.0)

      topic_agrees : d'.honest → Agree log es d.files → AgreeLogs log x.1.items d'.files
      topic_agrees h a = subst (λ (f : Files). AgreeLogs log x.1.items f) (sym (so_far.look.disk.files h)) (topics_agree a).0

      module _ (e : Disk) (last : ℕ) (looks : Looks d' e next' last) where
        pub all_looked : Looks d e next last
        all_looked = look_then d d' e next next' last so_far.look looks

        -- its batches are summed, too
        pub all_next : (more new : ℕ) → (e.honest → AgreeLogs log x.1.items d'.files → more ≡ up_to_end (size_of_logs log x.1.items d'.files)) → new ≡ min (size + more) (2 ^ 64 - 1)
            → SummingAll behind e last new
        all_next more new told is = record {
          look = all_looked;
          sound = topics_sound.1;
          agree = λ a. (topics_agree a).1;
          small = omega (arith, is);
          told = λ h a.
              let before = looks.disk.honest h in
              let here : more ≡ up_to_end (size_of_logs log x.1.items d.files) = told h (topic_agrees before a) ∙ ap (λ (f : Files). up_to_end (size_of_logs log x.1.items f)) (so_far.look.disk.files before) in
              let all : sizes rest d.files ≡ size_of_logs log x.1.items d.files + sizes behind d.files =
              ap (λ (ys : Entries L). sizes ys d.files) split ∙ total_cons (λ (t : Vec (Partition L) Global). size_of_logs log t.items d.files) x behind in
              omega (arith, is, here, all, so_far.told before a);
        }

        -- or it is refused
        pub want_all : (f : PartitionFault) → LookWants log x.1.items d' next' f e → IsWant (scene_on log es d next) f (scene_on log es e last)
        want_all Unknown w = w
        want_all Range w = w
        want_all Full w = w
        want_all Store w = λ h a. ⊎_elim
            (λ grew. inl (grown_then d.failures d'.failures e.failures so_far.look.failures grew))
            (λ used. inr (omega (arith, used, so_far.look.next)))
            (w h (topic_agrees (looks.disk.honest h) a))
        want_all Memory w = w

    pub all_sized : (rest : Entries L) (d' : Disk) (next' size : ℕ) → rest ≡ [] → SummingAll rest d' next' size → d'.honest → Agree log es d.files → size ≡ up_to_end (bytes_in_all (logs_of log es d.files))
    all_sized rest d' next' size none s h a =
        let all : sizes rest d.files ≡ 0 = ap (λ (ys : Entries L). sizes ys d.files) none in
        omega (arith, all, s.small, s.told h a, seen_sizes es d.files)

    -- what a look leaves
    pub look_frame : (d' : Disk) (next' : ℕ) → AreSound log es d.table next → Looks d d' next next' → Frame (scene_on log es d next) (scene_on log es d' next')
    look_frame d' next' sound look = record {
      sound = subst (λ (t : Table). AreSound log es t next') (sym look.disk.table) (subst (λ (n : ℕ). AreSound log es d.table n) (sym look.next) sound);
      others = record {
        later = omega (arith, look.next);
        honest = look.disk.honest;
        owned = λ file own. inl own;
        lengths = λ file lt not. ap (λ (t : Table). get t file) look.disk.table;
        contents = λ h file lt not. ap (λ (f : Files). get f file) (look.disk.files h);
      };
      failures = look.failures;
      agrees = λ h a. subst (λ (f : Files). Agree log es f) (sym (look.disk.files h)) a;
    }

    pub look_same : (d' : Disk) (next' : ℕ) → Looks d d' next next' → Same (scene_on log es d next) (scene_on log es d' next')
    look_same d' next' look h a = ap (λ (f : Files). logs_of log es f) (look.disk.files h)
