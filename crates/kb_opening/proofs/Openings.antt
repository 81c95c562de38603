-- The partitions of a topic are opened one after another.
use Rattle.std.proofs.Common.{◌≡◌, ◌∙◌, ◌⊎◌, ◌≤◌, ◌<◌, ◌+◌, ◌-◌, ◌^◌, ◌++◌, inl, inr, ⊎_elim, ℕ, zero, suc, List, [], ◌∷◌, Some, refl, sym, ap, subst, arith, length, length-append, get_or, min}
use Rattle.std.specs.Prelude.{slice_get, IsSome, Result, Err, IsErrOf}
use Rattle.std.specs.FinMap.{get}
use Rattle.std.specs.List.{All, Contains}
use Rattle.std.specs.declared.alloc.Global.{Global}
use Rattle.std.specs.declared.vec.Vec.{Vec}
use Rattle.std.proofs.Math.Nat.{min-le_left, min-le_right, le-min}
use Rattle.std.proofs.lemmas.Bool.{cases_lt}
use Rattle.std.proofs.lemmas.Option.{slice_get_within, slice_get_read, slice_get-get_or, same_Some}
use Rattle.std.proofs.lemmas.List.Elements.{All-contains_itself}
use Rattle.kb_store.specs.Disk.{Disk, Files, IsThere}
use Rattle.kb_log.specs.OnShelf.{Log, Identity}
use Rattle.kb_log.specs.declared.fault.LogFault.{LogFault}
use Rattle.kb_log.specs.declared.fault.LogFault.TheVariants.{Range, Full, Store, Memory}
use Rattle.kb_producers.specs.Batches.{kept_all}
use Rattle.kb_producers.specs.Table.{TableState}
use Rattle.kb_producers.specs.declared.kept.Kept.{Kept}
use Rattle.kb_segment_log.specs.Chain.{Opens, LosesNothing}
use Rattle.kb_segment_log.specs.SegmentLaws.{segment_lawful}
use Rattle.kb_segment_log.specs.SegmentLog.{segment_log, AreNamed, Clears}
use Rattle.kb_segment_log.specs.declared.log.SegmentLog.{SegmentLog}
use Rattle.kb_tenant_state.specs.Logs.{LogState}
use Rattle.kb_tenant_state.specs.Partitions.{log_state, partition_identity}
use Rattle.kb_tenant_state.specs.Topic.{AreApartLogs, OwnedAmong}
use Rattle.kb_tenant_state.specs.declared.partition.Partition.{Partition}
use Rattle.kb_opening.specs.Opened.{IsLogOf}
use Rattle.kb_opening.specs.Partition.{LoseNothing, IsPartitionOf, MissesShelf, Lists, IsAmong, AreGiven, AreAllNamed, ArePartitionsOf, AreNumbered}
use Rattle.kb_opening.proofs.Lost.{log_else, log_then, log_from}
use Rattle.kb_opening.proofs.Moved.{Agree, named_stays, log_of_stays}

-- ---- an item behind a list

pub item_at : {A : Type 0} (xs : List A) (x y : A) (p : ℕ) → slice_get (xs ++ x ∷ []) p ≡ Some y → (slice_get xs p ≡ Some y) ⊎ ((p ≡ length xs) × (x ≡ y))
item_at [] x y zero e = inr (refl, same_Some x y e)
item_at [] x y (suc p) e = absurd cc
item_at (z ∷ zs) x y zero e = inl e
item_at (z ∷ zs) x y (suc p) e = ⊎_elim (λ a. inl a) (λ (h : (p ≡ length zs) × (x ≡ y)). inr (ap suc h.0, h.1)) (item_at zs x y p e)

-- ---- the cause of a refusal

grew_since : (most a b c : ℕ) → a ≤ b → min (b + 1) most ≤ c → min (a + 1) most ≤ c
grew_since most a b c le grew =
    let left : min (a + 1) most ≤ a + 1 = min-le_left (a + 1) most in
    let more : min (a + 1) most ≤ b + 1 = omega (arith, left, le) in
    let both : min (a + 1) most ≤ min (b + 1) most = le-min more (min-le_right (a + 1) most) in
    omega (arith, both, grew)

-- The same refusal, as an answer of another type, after calls that were not refused.
pub missed_since : {T U : Type 0} (first mid now : Disk) (next next' : ℕ) (As As' : Type 0) (s : Result U LogFault) (f : LogFault) → s ≡ Err f → next' ≡ next → first.failures ≤ mid.failures → (now.honest → As → As')
    → MissesShelf {T = T} mid next' As' (Err f) now → MissesShelf first next As s now
missed_since first mid now next next' As As' s f is same le gives m =
    let more = m.later in
    record {
      later = omega (arith, le, more);
      store = λ h a e. ⊎_elim
          (λ grew. inl (grew_since (2 ^ 64 - 1) first.failures mid.failures now.failures le grew))
          (λ over. inr (subst (λ (n : ℕ). 2 ^ 64 ≤ n) same over))
          (m.store h (gives h a) (let t : f ≡ Store = cc in ap Err t));
      range = λ e. m.range (let t : f ≡ Range = cc in ap Err t);
      full = λ e. m.full (let t : f ≡ Full = cc in ap Err t);
    }

-- The same of files that are to name a log, where it is said of them by another name of the log.
pub missed_named : {T U : Type 0} (first mid now : Disk) (next next' : ℕ) (As : Type 0) (own who : Identity) (numbers : List ℕ) (s : Result U LogFault) (f : LogFault) → MissesShelf {T = T} mid next' (AreNamed who mid.files numbers) (Err f) now
    → own ≡ who → s ≡ Err f → next' ≡ next → first.failures ≤ mid.failures → (now.honest → As → AreNamed own mid.files numbers) → MissesShelf first next As s now
missed_named first mid now next next' As own who numbers s f m e is same le gives =
    missed_since first mid now next next' As (AreNamed who mid.files numbers) s f is same le (λ h such. subst (λ (w : Identity). AreNamed w mid.files numbers) e (gives h such)) m

-- Memory is no fault of the store's.
pub missed_none : {T : Type 0} (first now : Disk) (next : ℕ) (As : Type 0) (s : Result T LogFault) → s ≡ Err Memory → first.failures ≤ now.failures → MissesShelf first next As s now
missed_none first now next As s is le = record {
  later = le;
  store = λ h a e. absurd (let t : IsErrOf (Err Memory) Store = subst (λ x. IsErrOf x Store) is e in cc);
  range = λ e. cc;
  full = λ e. cc;
}

-- ---- an item at a place

pub list_at : {A : Type 0} (all : List A) (n k : ℕ) (x : A) → k ≡ n → n < length all → x ≡ get_or all n x → slice_get all k ≡ Some x
list_at all n k x same lt is = ap (λ m. slice_get all m) same ∙ slice_get_read all (length all) n x refl lt is

pub number_at : (all : List ℕ) (n k : ℕ) → k ≡ n → n < length all → slice_get all k ≡ Some (get_or all n 0)
number_at all n k same lt = ap (λ m. slice_get all m) same ∙ slice_get-get_or all n 0 lt

-- the start at a place
pub begun_is : (starts : List ℕ) (n k start : ℕ) → k ≡ n → n < length starts → slice_get starts k ≡ Some start → get_or starts n 0 ≡ start
begun_is starts n k start same lt at = same_Some (get_or starts n 0) start (sym (number_at starts n k same lt) ∙ at)

pub one_more : {A : Type 0} (xs ys : List A) (x : A) (n : ℕ) → ys ≡ xs ++ x ∷ [] → length xs ≡ n → length ys ≡ n + 1
one_more xs ys x n grown count = ap length grown ∙ length-append xs (x ∷ []) ∙ ap (λ m. m + 1) count

-- ---- one partition

abbrev Opened : Type 0
Opened = Partition SegmentLog

state_stays : (l : Log) (old new : Files) → l.batches new ≡ l.batches old → log_state l new ≡ log_state l old
state_stays l old new e = ap (λ (bs : List (List ℕ)). record { start = l.start; end = l.end; batches = bs }) e

-- what is said of a partition, by its log and what is kept of producers
abbrev Said : Files → List ℕ → ℕ → SegmentLog → List Kept → Files → Type 0
Said files numbers start log kept now = (segment_log log).agrees now × (kept ≡ kept_all ((segment_log log).batches now)) × IsLogOf files numbers start (log_state (segment_log log) now)

-- a log that was opened, and what was read of producers in it
pub of_opened : (files : Files) (numbers : List ℕ) (start : ℕ) (log : SegmentLog) (producers : TableState) (x : Opened) (mid now : Files) → x.log ≡ log → x.producers ≡ producers → now ≡ mid
    → Opens files numbers start (segment_log log) mid → (segment_log log).agrees mid → producers.kept ≡ kept_all ((segment_log log).batches mid) → IsPartitionOf files numbers start x now
of_opened files numbers start log producers x mid now its with same o agrees told =
    let begun : Said files numbers start log producers.kept mid = (agrees, told, record { bs = o.bs; chain = o.chain; starts = o.starts; ends = o.ends; batches = o.batches }) in
    let moved : Said files numbers start log producers.kept now = subst (λ (fs : Files). Said files numbers start log producers.kept fs) (sym same) begun in
    let is : Said files numbers start x.log producers.kept now = subst (λ (l : SegmentLog). Said files numbers start l producers.kept now) (sym its) moved in
    record { agrees = is.0; told = ap (λ (t : TableState). t.kept) with ∙ is.1; log = is.2 }

pub partition_stays : (files : Files) (numbers : List ℕ) (start : ℕ) (x : Opened) (old new : Files) → ((file : ℕ) → (segment_log x.log).owns file → get new file ≡ get old file)
    → IsPartitionOf files numbers start x old → IsPartitionOf files numbers start x new
partition_stays files numbers start x old new same i =
    let law = segment_lawful x.log in
    let bs = law.batches_stay old new same in
    record {
      agrees = law.agrees_stays old new i.agrees same;
      told = i.told ∙ ap kept_all (sym bs);
      log = subst (λ (l : LogState). IsLogOf files numbers start l) (sym (state_stays (segment_log x.log) old new bs)) i.log;
    }

-- it is of the files as they were before, if its own were the same then
pub partition_of_old : (first mid : Files) (numbers : List ℕ) (start : ℕ) (x : Opened) (now : Files) → Agree numbers first mid → IsPartitionOf mid numbers start x now → IsPartitionOf first numbers start x now
partition_of_old first mid numbers start x now same i = record {
  agrees = i.agrees;
  told = i.told;
  log = log_of_stays mid first numbers (λ n has. sym (same n has)) start (log_state (segment_log x.log) now) i.log;
}

-- ---- files that stay

pub clears_wider : {owns owns' : ℕ → Type 0} (old new : Disk) → ((file : ℕ) → owns file → owns' file) → Clears owns old new → Clears owns' old new
clears_wider old new wider c = record {
  honest = c.honest;
  lengths = λ file not. c.lengths file (λ own. not (wider file own));
  contents = λ h file not. c.contents h file (λ own. not (wider file own));
}

pub clears_then : {owns owns' both : ℕ → Type 0} (first mid now : Disk) → ((file : ℕ) → owns file → both file) → ((file : ℕ) → owns' file → both file) → Clears owns first mid → Clears owns' mid now → Clears both first now
clears_then first mid now left right c e = record {
  honest = λ h. c.honest (e.honest h);
  lengths = λ file not. e.lengths file (λ own. not (right file own)) ∙ c.lengths file (λ own. not (left file own));
  contents = λ h file not. e.contents h file (λ own. not (right file own)) ∙ c.contents (e.honest h) file (λ own. not (left file own));
}

-- ---- some are opened

-- The file is of the partition of that number.
pub record IsOf (lists : Lists) (p file : ℕ) : Type 0 where
  pub list : Vec ℕ Global
  pub at : slice_get lists p ≡ Some list
  pub has : Contains list.items file

-- It is of one of the first partitions.
pub record IsOfFirst (lists : Lists) (count file : ℕ) : Type 0 where
  pub number : ℕ
  pub below : number < count
  pub its : IsOf lists number file

pub among_first : (lists : Lists) (count : ℕ) (file : ℕ) → IsOfFirst lists count file → IsAmong lists file
among_first lists count file o = record { number = o.number; list = o.its.list; at = o.its.at; has = o.its.has }

pub among_at : (lists : Lists) (p : ℕ) (list : Vec ℕ Global) → slice_get lists p ≡ Some list → (file : ℕ) → Contains list.items file → IsAmong lists file
among_at lists p list at file has = record { number = p; list = list; at = at; has = has }

-- The first partitions are opened, and the files of all others are as they were. What they have is known where the files are as
-- was said.
pub record Opening (As : Type 0) (lists : Lists) (starts : List ℕ) (xs : List Opened) (first now : Disk) (next : ℕ) : Type 0 where
  pub sound : AreApartLogs segment_log xs now.table next
  pub owned : (p : ℕ) (x : Opened) → slice_get xs p ≡ Some x → (file : ℕ) → (segment_log x.log).owns file → IsOf lists p file
  pub opened : now.honest → As → ArePartitionsOf first.files lists starts xs now.files
  pub others : Clears (IsOfFirst lists (length xs)) first now
  pub lost : now.honest → (p : ℕ) (list : Vec ℕ Global) (start : ℕ) → p < length xs → slice_get lists p ≡ Some list → slice_get starts p ≡ Some start → LosesNothing list.items start first now

pub among_owned : (As : Type 0) (lists : Lists) (starts : List ℕ) (xs : List Opened) (first now : Disk) (next : ℕ) → Opening As lists starts xs first now next → (file : ℕ) → OwnedAmong segment_log xs file → IsAmong lists file
among_owned As lists starts xs first now next so_far file o =
    let its = so_far.owned o.number o.partition o.at file o.own in
    record { number = o.number; list = its.list; at = its.at; has = its.has }

-- of none of the others anything changed
pub so_far_lost : (As : Type 0) (lists : Lists) (starts : List ℕ) (xs : List Opened) (first now : Disk) (next : ℕ) → AreGiven lists first next → Opening As lists starts xs first now next → now.honest → LoseNothing lists starts first now
so_far_lost As lists starts xs first now next given so_far h p list start there begun = elim (cases_lt p (length xs)) [
  | inl below ↦ so_far.lost h p list start below there begun
  | inr above ↦ log_else (IsOfFirst lists (length xs)) list.items start first now (given.there p list there) so_far.others
      (λ file has o. let below = o.below in given.apart p o.number list o.its.list there o.its.at (λ e. omega (arith, below, above, e)) file has o.its.has) h
]

-- ---- the next one

module _ (As : Type 0) (lists : Lists) (starts : List ℕ) (xs : List Opened) (list : Vec ℕ Global) (first mid : Disk) (next : ℕ)
    (given : AreGiven lists first next) (so_far : Opening As lists starts xs first mid next) (at : slice_get lists (length xs) ≡ Some list) where
  -- its files are of no partition before it
  no_earlier : (file : ℕ) → Contains list.items file → IsOfFirst lists (length xs) file → ⊥
  no_earlier file has o =
      let below = o.below in
      given.apart o.number (length xs) o.its.list list o.its.at at (λ e. omega (arith, below, e)) file o.its.has has

  agree_table : (file : ℕ) → Contains list.items file → get mid.table file ≡ get first.table file
  agree_table file has = so_far.others.lengths file (no_earlier file has)

  agree_files : mid.honest → Agree list.items first.files mid.files
  agree_files h file has = so_far.others.contents h file (no_earlier file has)

  pub next_there : All (λ n. IsThere mid n) list.items
  next_there = λ k d l. subst (λ o. IsSome o) (sym (agree_table _ (All-contains_itself list.items k d l))) (given.there (length xs) list at k d l)

  pub next_headed : (tenant : List ℕ) (instance size : ℕ) → mid.honest → AreAllNamed tenant instance size first.files lists → AreNamed (partition_identity tenant instance (length xs) size) mid.files list.items
  next_headed tenant instance size h all = λ k d l.
      named_stays (partition_identity tenant instance (length xs) size) first.files mid.files _ (agree_files h _ (All-contains_itself list.items k d l)) (all (length xs) list at k d l)

  -- what others are of is none of its files
  other_list : (p : ℕ) (other : Vec ℕ Global) → slice_get lists p ≡ Some other → (p ≡ length xs → ⊥) → (file : ℕ) → Contains other.items file → Contains list.items file → ⊥
  other_list p other there differ file has its = given.apart p (length xs) other list there at differ file has its

  -- of the logs that are not opened yet nothing changed
  not_yet : (p : ℕ) (other : Vec ℕ Global) → slice_get lists p ≡ Some other → length xs ≤ p → (file : ℕ) → Contains other.items file → IsOfFirst lists (length xs) file → ⊥
  not_yet p other there above file has o =
      let below = o.below in
      given.apart p o.number other o.its.list there o.its.at (λ e. omega (arith, below, above, e)) file has o.its.has

  -- one step more loses nothing of any
  pub none_lost : (now : Disk) → Clears (Contains list.items) mid now → (now.honest → (start : ℕ) → slice_get starts (length xs) ≡ Some start → LosesNothing list.items start mid now) → now.honest → LoseNothing lists starts first now
  none_lost now others lost h p other start there begun = elim (cases_lt p (length xs)) [
    | inl below ↦ log_then (Contains list.items) other.items start first mid now others (other_list p other there (λ e. omega (arith, below, e))) h (so_far.lost (others.honest h) p other start below there begun)
    | inr above ↦ elim (cases_lt (length xs) p) [
      | inl more ↦ log_then (Contains list.items) other.items start first mid now others (other_list p other there (λ e. omega (arith, more, e))) h
          (log_else (IsOfFirst lists (length xs)) other.items start first mid (given.there p other there) so_far.others (not_yet p other there (omega (arith, above))) (others.honest h))
      | inr no_more ↦
          let is : p ≡ length xs = omega (arith, above, no_more) in
          let same_list : list ≡ other = same_Some list other (sym at ∙ ap (λ k. slice_get lists k) (sym is) ∙ there) in
          subst (λ (v : Vec ℕ Global). LosesNothing v.items start first now) same_list
          (log_from (IsOfFirst lists (length xs)) list.items start first mid now so_far.others no_earlier (others.honest h) (lost h start (ap (λ k. slice_get starts k) (sym is) ∙ begun)))
    ]
  ]

  pub now_others : (now : Disk) → Clears (Contains list.items) mid now → Clears (IsAmong lists) first now
  now_others now others = clears_then first mid now (among_first lists (length xs)) (among_at lists (length xs) list at) so_far.others others

  module _ (x : Opened) (start : ℕ) (now : Disk) (starts_at : slice_get starts (length xs) ≡ Some start) (others : Clears (Contains list.items) mid now)
      (sound : (segment_log x.log).sound now.table next) (owns : (file : ℕ) → (segment_log x.log).owns file → Contains list.items file)
      (is : now.honest → As → IsPartitionOf mid.files list.items start x now.files) (loses : now.honest → LosesNothing list.items start mid now) where
    apart_from : (p : ℕ) (y : Opened) → slice_get xs p ≡ Some y → (file : ℕ) → (segment_log y.log).owns file → Contains list.items file → ⊥
    apart_from p y there file own has = no_earlier file has (record { number = p; below = slice_get_within xs p y there; its = so_far.owned p y there file own })

    sounds : AreApartLogs segment_log (xs ++ x ∷ []) now.table next
    sounds = record {
      each = λ p y there. ⊎_elim
          (λ was. (segment_lawful y.log).sound_stays mid.table now.table next next (so_far.sound.each p y was) (omega arith) (λ file own. others.lengths file (apart_from p y was file own)))
          (λ (new : (p ≡ length xs) × (x ≡ y)). subst (λ (z : Opened). (segment_log z.log).sound now.table next) new.1 sound)
          (item_at xs x y p there);
      apart = λ p q y z there here differ file own other. ⊎_elim
          (λ was. ⊎_elim
          (λ is. so_far.sound.apart p q y z was is differ file own other)
          (λ (new : (q ≡ length xs) × (x ≡ z)). apart_from p y was file own (owns file (subst (λ (z : Opened). (segment_log z.log).owns file) (sym new.1) other)))
          (item_at xs x z q here))
          (λ (new : (p ≡ length xs) × (x ≡ y)). ⊎_elim
          (λ is. apart_from q z is file other (owns file (subst (λ (z : Opened). (segment_log z.log).owns file) (sym new.1) own)))
          (λ (also : (q ≡ length xs) × (x ≡ z)). differ (new.0 ∙ sym also.0))
          (item_at xs x z q here))
          (item_at xs x y p there);
    }

    owneds : (p : ℕ) (y : Opened) → slice_get (xs ++ x ∷ []) p ≡ Some y → (file : ℕ) → (segment_log y.log).owns file → IsOf lists p file
    owneds p y there file own = ⊎_elim
        (λ was. so_far.owned p y was file own)
        (λ (new : (p ≡ length xs) × (x ≡ y)). record {
          list = list;
          at = ap (λ k. slice_get lists k) new.0 ∙ at;
          has = owns file (subst (λ (z : Opened). (segment_log z.log).owns file) (sym new.1) own);
        })
        (item_at xs x y p there)

    openeds : now.honest → As → ArePartitionsOf first.files lists starts (xs ++ x ∷ []) now.files
    openeds h such p y numbers from there listed begun = ⊎_elim
        (λ was. partition_stays first.files numbers.items from y mid.files now.files (λ file own. others.contents h file (apart_from p y was file own)) (so_far.opened (others.honest h) such p y numbers from was listed begun))
        (λ (new : (p ≡ length xs) × (x ≡ y)).
        let same_list : list ≡ numbers = same_Some list numbers (sym at ∙ ap (λ k. slice_get lists k) (sym new.0) ∙ listed) in
        let same_start : start ≡ from = same_Some start from (sym starts_at ∙ ap (λ k. slice_get starts k) (sym new.0) ∙ begun) in
        subst (λ (z : Opened). IsPartitionOf first.files numbers.items from z now.files) new.1
        (subst (λ (v : Vec ℕ Global). IsPartitionOf first.files v.items from x now.files) same_list
        (subst (λ (s : ℕ). IsPartitionOf first.files list.items s x now.files) same_start
        (partition_of_old first.files mid.files list.items start x now.files (agree_files (others.honest h)) (is h such)))))
        (item_at xs x y p there)

    more : (file : ℕ) → IsOfFirst lists (length xs) file → IsOfFirst lists (length (xs ++ x ∷ [])) file
    more file o = let below = o.below in record { number = o.number; below = omega (arith, below, length-append xs (x ∷ [])); its = o.its }

    last : (file : ℕ) → Contains list.items file → IsOfFirst lists (length (xs ++ x ∷ [])) file
    last file has = record { number = length xs; below = omega (arith, length-append xs (x ∷ [])); its = record { list = list; at = at; has = has } }

    pub next_opened : (ys : List Opened) → ys ≡ xs ++ x ∷ [] → Opening As lists starts ys first now next
    next_opened ys e = subst (λ (zs : List Opened). Opening As lists starts zs first now next) (sym e) record {
      sound = sounds;
      owned = owneds;
      opened = openeds;
      others = clears_then first mid now more last so_far.others others;
      lost = λ h p numbers from below there begun.
          none_lost now others (λ honest begin begun_at. subst (λ (n : ℕ). LosesNothing list.items n mid now) (same_Some start begin (sym starts_at ∙ begun_at)) (loses honest)) h p numbers from there begun;
    }

-- ---- under which names

pub next_numbered : (tenant : List ℕ) (instance size : ℕ) (xs ys : List Opened) (x : Opened) (n : ℕ) → ys ≡ xs ++ x ∷ [] → length xs ≡ n → (segment_log x.log).identity ≡ partition_identity tenant instance n size
    → AreNumbered tenant instance size xs → AreNumbered tenant instance size ys
next_numbered tenant instance size xs ys x n grown count its numbered p y at =
    ⊎_elim
    (λ was. numbered p y was)
    (λ (new : (p ≡ length xs) × (x ≡ y)).
    let place : n ≡ p = sym count ∙ sym new.0 in
    ap (λ (z : Opened). (segment_log z.log).identity) (sym new.1) ∙ its ∙ ap (λ (q : ℕ). partition_identity tenant instance q size) place)
    (item_at xs x y p (subst (λ (zs : List Opened). slice_get zs p ≡ Some y) grown at))
