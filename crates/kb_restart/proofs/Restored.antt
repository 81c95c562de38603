-- The tenants are opened one after another.
use Rattle.std.proofs.Common.{◌≡◌, ◌∙◌, ◌⊎◌, ◌≤◌, ◌<◌, ◌+◌, ◌^◌, ◌++◌, inl, inr, ⊎_elim, ℕ, zero, suc, List, [], ◌∷◌, Some, refl, sym, ap, subst, arith, length, length-append, map, take, get_or, Bor, Result, Err}
use Rattle.std.specs.Prelude.{nat_eq, pos, slice_get, string_bytes, option_map, IsSome, IsPermutation}
use Rattle.std.specs.FinMap.{get}
use Rattle.std.specs.List.{All, Contains, IsDistinct}
use Rattle.std.proofs.lemmas.List.{map-append}
use Rattle.std.proofs.lemmas.Option.{slice_get_within, slice_get-map, slice_get-get_or, same_Some}
use Rattle.std.proofs.lemmas.List.Elements.{All-contains, All-contains_itself, All-push, Contains-append_right}
use Rattle.std.proofs.lemmas.List.Sorted.{IsPermutation-sym, Contains-permutation}
use Rattle.kb_store.specs.Disk.{Disk, Files, IsThere}
use Rattle.kb_batch.specs.Batch.{natural}
use Rattle.kb_segment_log.specs.SegmentLog.{segment_log, AreNamed, Clears}
use Rattle.kb_segment_log.specs.SegmentLaws.{segment_lawful}
use Rattle.kb_segment_log.specs.Chain.{IsAsBefore}
use Rattle.kb_segment_log.specs.declared.log.SegmentLog.{SegmentLog}
use Rattle.kb_segment_log.proofs.Opened.{distinct_moved}
use Rattle.kb_topics.specs.Catalog.{known, meta_log}
use Rattle.kb_topics.specs.Known.{Known}
use Rattle.kb_tenant_state.specs.Logs.{Logs}
use Rattle.kb_tenant_state.specs.Partitions.{logs_of, AreExact}
use Rattle.kb_tenant_state.specs.Parts.{IsSound, Owns, entries, meta}
use Rattle.kb_tenant_state.specs.declared.parts.Parts.{Parts}
use Rattle.kb_tenants.proofs.Others.{still_sound, still_seen, still_agrees}
use Rattle.kb_opening.specs.Opened.{Owners, IsInUse, IsOpened}
use Rattle.kb_opening.specs.Directory.{all_files, files_at}
use Rattle.kb_opening.specs.Tenant.{owners_in, generation_of, tenant_in, identity_in, AreListed, AreNumberedBelow, AreOwnNamed, IsOfTenant, IsTaken, IsTenantOf, TakesSome, TakesTenant}
use Rattle.kb_opening.specs.declared.directory.Directory.{Directory}
use Rattle.kb_opening.specs.declared.owner.Owner.{Owner}
use Rattle.kb_opening.specs.declared.owner.Owner.TheVariants.{Catalog, Partition}
use Rattle.kb_opening.specs.Settled.{AreAccounted}
use Rattle.kb_opening.proofs.Causes.{clears_none, misses_raised}
use Rattle.kb_opening.proofs.Logged.{exact_stays}
use Rattle.kb_opening.proofs.Lost.{known_stays}
use Rattle.kb_opening.proofs.Moved.{log_of_stays, named_stays}
use Rattle.kb_opening.proofs.Openings.{clears_then, missed_since}
use Rattle.kb_opening.specs.Partition.{MissesShelf}
use Rattle.kb_log.specs.declared.fault.LogFault.{LogFault}
use Rattle.kb_broker.proofs.OpeningParts.{mapped-more}
use Rattle.kb_restart.specs.Restart.{names_in, AreOwnedNamed, IsOfFirst, IsRestored, AreRestored}
use Rattle.kb_restart.proofs.Accounted.{next_accounted}
use Rattle.kb_opening.proofs.Apart.{distinct_parts, tenants_apart}

-- ---- lists

pub all_from : (P : ℕ → Type 0) (xs : List ℕ) → ((n : ℕ) → Contains xs n → P n) → All P xs
all_from P xs each = λ k d lt. each _ (All-contains_itself xs k d lt)

item_at : {A : Type 0} (xs : List A) (x y : A) (p : ℕ) → slice_get (xs ++ x ∷ []) p ≡ Some y → (slice_get xs p ≡ Some y) ⊎ ((p ≡ length xs) × (x ≡ y))
item_at [] x y zero e = inr (refl, same_Some x y e)
item_at [] x y (suc p) e = absurd cc
item_at (z ∷ zs) x y zero e = inl e
item_at (z ∷ zs) x y (suc p) e = ⊎_elim (λ a. inl a) (λ (h : (p ≡ length zs) × (x ≡ y)). inr (ap suc h.0, h.1)) (item_at zs x y p e)

pub one_more : {A : Type 0} (xs ys : List A) (x : A) (n : ℕ) → ys ≡ xs ++ x ∷ [] → length xs ≡ n → length ys ≡ n + 1
one_more xs ys x n grown count = ap length grown ∙ length-append xs (x ∷ []) ∙ ap (λ m. m + 1) count

pub names_more : (names : List (Bor (List ℕ))) (t : ℕ) (d : Bor (List ℕ)) (ps qs : List (Parts SegmentLog)) (p : Parts SegmentLog) → t < length names → names_in ps ≡ map (λ name. name.now) (take t names) → qs ≡ ps ++ p ∷ []
    → string_bytes p.tenant ≡ (get_or names t d).now → names_in qs ≡ map (λ name. name.now) (take (t + 1) names)
names_more names t d ps qs p lt so_far grown its =
    mapped-more (λ (name : Bor (List ℕ)). name.now) names t d (names_in ps) (names_in qs) lt so_far
    (ap (λ (xs : List (Parts SegmentLog)). names_in xs) grown ∙ map-append (λ (x : Parts SegmentLog). string_bytes x.tenant) ps (p ∷ []) ∙ ap (λ n. names_in ps ++ n ∷ []) its)

pub all_more : {A : Type 0} (P : A → Type 0) (xs ys : List A) (x : A) → All P xs → ys ≡ xs ++ x ∷ [] → P x → All P ys
all_more P xs ys x all grown is = subst (All P) (sym grown) (All-push P xs x all is)

-- ---- the cause of a refusal

-- a part's, after what came before it
pub passed_on : {T U : Type 0} (first mid now : Disk) (next next' : ℕ) (As As' : Type 0) (s : Result U LogFault) (f : LogFault) → MissesShelf {T = T} mid next' As' (Err f) now → s ≡ Err f → (next < 2 ^ 64 → next' < 2 ^ 64) → first.failures ≤ mid.failures → (now.honest → As → As')
    → MissesShelf first next As s now
passed_on first mid now next next' As As' s f m is room le gives = misses_raised first now next next' As s room (missed_since first mid now next' next' As As' s f is refl le gives m)

-- ---- what files come to stays where they do

module _ (f g : Files) (of : Owners) (catalog : (h n : ℕ) → Contains (of.catalog h) n → get g n ≡ get f n) (partition : (i p n : ℕ) → Contains (of.partition i p) n → get g n ≡ get f n) where
  pub use_stays : (h : ℕ) (k : Known) → IsInUse f of h k → IsInUse g of h k
  use_stays h k u = record {
    small = u.small;
    whole = known_stays h k f g (of.catalog h) (catalog h) u.whole;
    greatest = λ above lt small j c. u.greatest above lt small j (known_stays above j g f (of.catalog above) (λ n has. sym (catalog above n has)) c);
  }

  pub opened_stays : (k : Known) (logs : Logs) → IsOpened f of k logs → IsOpened g of k logs
  opened_stays k logs o = record {
    generation = o.generation;
    in_use = use_stays o.generation k o.in_use;
    has = record {
      tied = o.has.tied;
      each = λ i p part at. let l = o.has.each i p part at in (l.0, l.1, log_of_stays f g (of.partition i p) (partition i p) (natural part.start) l.0 l.2);
    };
  }

-- ---- none yet

pub none_restored : (d : Disk) (had : Directory) (next : ℕ) (ps : List (Parts SegmentLog)) → ps ≡ [] → AreListed had d next → AreRestored d had ps d next had
none_restored d had next ps none listed = subst (λ (xs : List (Parts SegmentLog)). AreRestored d had xs d next had) (sym none) record {
  each = λ t parts at. absurd cc;
  others = λ o le. refl;
  strays = refl;
  fewer = λ file is. is;
  listed = listed;
  clears = clears_none d;
  accounts = λ file has. inr (inr has);
}

-- ---- one more

taken_tenant : (t g : ℕ) (k : Known) (o : Owner) → IsTaken t g k o → tenant_in o ≡ t
taken_tenant t g k (Catalog u h) is = is.0
taken_tenant t g k (Partition u i p) is = is.0

module _ (old : Disk) (had : Directory) (ps : List (Parts SegmentLog)) (mid : Disk) (next : ℕ) (has : Directory) (once : IsDistinct nat_eq (all_files had)) (before : AreRestored old had ps mid next has) where
  -- the files of the next tenant are those that it had first
  pub first_had : (file : ℕ) → IsOfTenant has (length ps) file → IsOfTenant had (length ps) file
  first_had file o =
      let mine = o.mine in
      record { owner = o.owner; mine = mine; has = subst (λ ns. Contains ns file) (before.others o.owner (omega (arith, mine))) o.has }

  -- they are no other tenant's
  pub no_other : (t : ℕ) → t < length ps → (file : ℕ) → IsOfTenant had t file → IsOfTenant had (length ps) file → ⊥
  no_other t lt file mine yours = tenants_apart had once t (length ps) file mine yours (λ e. omega (arith, lt, e))

  -- they are as they were first
  as_first : mid.honest → (o : Owner) → tenant_in o ≡ length ps → (file : ℕ) → Contains (files_at o had) file → get mid.files file ≡ get old.files file
  as_first h o mine file is = before.clears.contents h file (λ f. no_other f.tenant f.first file f.has (record { owner = o; mine = mine; has = is }))

  -- and are named as they were
  pub next_headed : (name : List ℕ) (size : ℕ) → mid.honest → AreOwnNamed name size (length ps) old.files had → AreOwnNamed name size (length ps) mid.files has
  next_headed name size h own o mine =
      let who = identity_in name size o in
      let headed = own o mine in
      subst (λ ns. AreNamed who mid.files ns) (sym (before.others o (omega (arith, mine))))
      (λ k d lt. named_stays who old.files mid.files _ (as_first h o mine _ (All-contains_itself (files_at o had) k d lt)) (headed k d lt))

  pub next_own : (names : List (Bor (List ℕ))) (size t : ℕ) (d : Bor (List ℕ)) → length ps ≡ t → t < length names → mid.honest → AreOwnedNamed (map (λ name. name.now) names) size old.files had → AreOwnNamed (get_or names t d).now size t mid.files has
  next_own names size t d count lt h all =
      let name = (get_or names t d).now in
      let shown : Bor (List ℕ) → List ℕ = λ name. name.now in
      let at : slice_get (map shown names) t ≡ Some name = slice_get-map shown names t ∙ ap (option_map shown) (slice_get-get_or names t d lt) in
      subst (λ n. AreOwnNamed name size n mid.files has) count (next_headed name size h (subst (λ n. AreOwnNamed name size n old.files had) (sym count) (all t name at)))

  -- also where the next tenant is refused
  pub next_clears : (now : Disk) → Clears (IsOfTenant has (length ps)) mid now → Clears (IsOfFirst had (length ps + 1)) old now
  next_clears now c = clears_then old mid now
      (λ file f. let lt = f.first in record { tenant = f.tenant; first = omega (arith, lt); has = f.has })
      (λ file o. record { tenant = length ps; first = omega arith; has = first_had file o })
      before.clears c

  module _ (p : Parts SegmentLog) (now : Disk) (last : ℕ) (left : Directory)
      (later : next ≤ last)
      (numbered : AreNumberedBelow has (length ps) last)
      (sound : IsSound segment_log p now.table last)
      (owned : (file : ℕ) → Owns segment_log p file → IsOfTenant has (length ps) file)
      (opened : now.honest → AreOwnNamed (string_bytes p.tenant) p.segment_bytes (length ps) mid.files has → IsTenantOf mid.files (owners_in has (length ps)) p now.files)
      (used : now.honest → AreOwnNamed (string_bytes p.tenant) p.segment_bytes (length ps) mid.files has → IsInUse mid.files (owners_in has (length ps)) (generation_of p) (known p.catalog))
      (calm : p.refusals ≡ 0)
      (taken : TakesTenant (length ps) (generation_of p) (known p.catalog) has left)
      (some : TakesSome has left)
      (stay : All (IsAsBefore mid now) (all_files left))
      (gone : (o : Owner) → IsTaken (length ps) (generation_of p) (known p.catalog) o → (file : ℕ) → Contains (files_at o has) file → Contains (all_files left) file → ⊥)
      (clears : Clears (IsOfTenant has (length ps)) mid now)
      (exact : (meta segment_log p).exact now.table × AreExact segment_log (entries p) now.table)
      (accounted : AreAccounted has (Owns segment_log p) now left)
      (none_left : (file : ℕ) → Owns segment_log p file → Contains (all_files left) file → ⊥) where
    -- what is left stood there before
    still : (file : ℕ) → Contains (all_files left) file → Contains (all_files has) file
    still file is = Contains-permutation (some.taken ++ all_files left) (all_files has) file (IsPermutation-sym (all_files has) (some.taken ++ all_files left) some.all) (Contains-append_right some.taken (all_files left) file is)

    -- a tenant before it
    each_old : (t : ℕ) (q : Parts SegmentLog) → slice_get ps t ≡ Some q → IsRestored old had t q now last left
    each_old t q at =
        let lt = slice_get_within ps t q at in
        let r = before.each t q at in
        let apart : (file : ℕ) → Owns segment_log q file → IsOfTenant has (length ps) file → ⊥ = λ file own theirs. no_other t lt file (r.owned file own) (first_had file theirs) in
        let lengths : (file : ℕ) → file < next → Owns segment_log q file → get now.table file ≡ get mid.table file = λ file below own. clears.lengths file (apart file own) in
        let contents : now.honest → (file : ℕ) → file < next → Owns segment_log q file → get now.files file ≡ get mid.files file = λ h file below own. clears.contents h file (apart file own) in
        record {
          sound = still_sound segment_log segment_lawful q mid now next last r.sound later lengths contents;
          owned = r.owned;
          opened = λ h own.
              let o = r.opened (clears.honest h) own in
              let seen = still_seen segment_log segment_lawful q mid now next last r.sound later lengths contents h in
              record {
                agrees = still_agrees segment_log segment_lawful q mid now next last r.sound later lengths contents h o.agrees;
                opened = subst (λ (ls : Logs). IsOpened old.files (owners_in had t) (known q.catalog) ls) (sym (ap (λ w. w.logs) seen)) o.opened;
              };
          in_use = λ h own. r.in_use (clears.honest h) own;
          numbered = λ g some from below. r.numbered g some (omega (arith, from, later)) below;
          refusals = r.refusals;
          gone = λ o is file was now. r.gone o is file was (still file now);
          newer = λ g above. taken.others (Catalog t g) (λ e. omega (arith, lt, e)) ∙ r.newer g above;
          unknown = λ i n none. taken.others (Partition t i n) (λ e. omega (arith, lt, e)) ∙ r.unknown i n none;
          meta_exact = (segment_lawful (meta_log q.catalog)).exact_stays mid.table now.table r.meta_exact (λ file own. clears.lengths file (apart file (inl own)));
          exact = exact_stays (entries q) mid.table now.table (λ file own. clears.lengths file (apart file (inr own))) r.exact;
          apart = λ file own here. r.apart file own (still file here);
        }

    same_owners : owners_in has (length ps) ≡ owners_in had (length ps)
    same_owners = λ k. record { catalog = λ g. before.others (Catalog (length ps) g) (omega arith) k; partition = λ i n. before.others (Partition (length ps) i n) (omega arith) k }

    -- its files were as they were first
    unchanged : now.honest → (o : Owner) → tenant_in o ≡ length ps → (file : ℕ) → Contains (files_at o had) file → get old.files file ≡ get mid.files file
    unchanged h o mine file is = sym (as_first (clears.honest h) o mine file is)

    each_new : IsRestored old had (length ps) p now last left
    each_new = record {
      sound = sound;
      owned = λ file own. first_had file (owned file own);
      opened = λ h own.
          let o = opened h (next_headed (string_bytes p.tenant) p.segment_bytes (clears.honest h) own) in
          let logs = logs_of segment_log (entries p) now.files in
          record {
            agrees = o.agrees;
            opened = opened_stays mid.files old.files (owners_in had (length ps)) (λ g n is. unchanged h (Catalog (length ps) g) refl n is) (λ i q n is. unchanged h (Partition (length ps) i q) refl n is) (known p.catalog) logs
                (subst (λ (of : Owners). IsOpened mid.files of (known p.catalog) logs) same_owners o.opened);
          };
      in_use = λ h own.
          use_stays mid.files old.files (owners_in had (length ps)) (λ g n is. unchanged h (Catalog (length ps) g) refl n is) (λ i q n is. unchanged h (Partition (length ps) i q) refl n is) (generation_of p) (known p.catalog)
          (subst (λ (of : Owners). IsInUse mid.files of (generation_of p) (known p.catalog)) same_owners (used h (next_headed (string_bytes p.tenant) p.segment_bytes (clears.honest h) own)));
      numbered = λ g some from below. sym (before.others (Catalog (length ps) g) (omega arith)) ∙ numbered g some from below;
      refusals = calm;
      newer = λ g above. taken.newer g above ∙ before.others (Catalog (length ps) g) (omega arith);
      gone = λ o is file was now.
          let mine = taken_tenant (length ps) (generation_of p) (known p.catalog) o is in
          gone o is file (subst (λ ns. Contains ns file) (sym (before.others o (omega (arith, mine)))) was) now;
      unknown = λ i n none. taken.unknown i n none ∙ before.others (Partition (length ps) i n) (omega arith);
      meta_exact = exact.0;
      exact = exact.1;
      apart = none_left;
    }

    each_now : (t : ℕ) (q : Parts SegmentLog) → slice_get (ps ++ p ∷ []) t ≡ Some q → IsRestored old had t q now last left
    each_now t q at = ⊎_elim
        (λ was. each_old t q was)
        (λ (e : (t ≡ length ps) × (p ≡ q)). subst (λ u. IsRestored old had u q now last left) (sym e.0) (subst (λ (v : Parts SegmentLog). IsRestored old had (length ps) v now last left) e.1 each_new))
        (item_at ps p q t at)

    same : (file : ℕ) → Contains (all_files left) file → IsAsBefore mid now file
    same file is = All-contains (IsAsBefore mid now) (all_files left) file stay is

    listed_now : AreListed left now last
    listed_now = record {
      there = all_from (λ n. IsThere now n) (all_files left) (λ n is. subst (λ o. IsSome o) (sym (same n is).length) (All-contains (λ n. IsThere mid n) (all_files has) n before.listed.there (still n is)));
      given_out = all_from (λ n. n < last) (all_files left) (λ n is. let below : n < next = All-contains (λ n. n < next) (all_files has) n before.listed.given_out (still n is) in omega (arith, below, later));
      once = (distinct_parts some.taken (all_files left) (distinct_moved (all_files has) (some.taken ++ all_files left) some.all before.listed.once)).1;
    }

    many : length (ps ++ p ∷ []) ≡ length ps + 1
    many = length-append ps (p ∷ [])

    pub next_restored : (qs : List (Parts SegmentLog)) → qs ≡ ps ++ p ∷ [] → AreRestored old had qs now last left
    next_restored qs grown = subst (λ (xs : List (Parts SegmentLog)). AreRestored old had xs now last left) (sym grown) record {
      each = each_now;
      others = λ o le. taken.others o (λ e. omega (arith, le, e, many)) ∙ before.others o (omega (arith, le, many));
      strays = taken.strays ∙ before.strays;
      fewer = λ file is. before.fewer file (still file is);
      listed = listed_now;
      clears = subst (λ n. Clears (IsOfFirst had n) old now) (sym many) (next_clears now clears);
      accounts = next_accounted had has left ps p mid now next before.listed clears before.accounts accounted;
    }
