-- What is in the files of logs that were opened, and which files are left.
use Rattle.std.proofs.Common.{◌≡◌, ◌∙◌, ◌⊎◌, ◌<◌, ◌++◌, inl, inr, ⊎_elim, ℕ, suc, List, [], ◌∷◌, Some, None, Ok, Err, refl, sym, ap, subst, arith, length}
use Rattle.std.specs.Prelude.{slice_get, is_some, IsSome, IfOk, Result}
use Rattle.std.specs.FinMap.{get}
use Rattle.std.specs.List.{AllByRecursion, Contains}
use Rattle.std.specs.declared.alloc.Global.{Global}
use Rattle.std.specs.declared.vec.Vec.{Vec}
use Rattle.std.proofs.lemmas.Bool.{false≢true}
use Rattle.std.proofs.lemmas.Option.{slice_get_within, same_Some}
use Rattle.std.proofs.lemmas.List.Elements.{Contains-append_cases}
use Rattle.kb_store.specs.Disk.{Disk, Table, Keeps}
use Rattle.kb_log.specs.declared.fault.LogFault.{LogFault}
use Rattle.kb_segment.specs.declared.segment.Segment.{Segment}
use Rattle.kb_segment_log.specs.SegmentLaws.{segment_lawful}
use Rattle.kb_segment_log.specs.SegmentLog.{segment_log, IsFileOf, IsKept, Clears}
use Rattle.kb_segment_log.specs.declared.log.SegmentLog.{SegmentLog}
use Rattle.kb_tenant_state.specs.declared.partition.Partition.{Partition}
use Rattle.kb_opening.specs.Partition.{Lists, IsAmong, AreGiven}
use Rattle.kb_opening.specs.Settled.{IsSettledFrom, AreSettledFrom}
use Rattle.kb_opening.specs.Topics.{listed_numbers}
use Rattle.kb_opening.proofs.Openings.{Opening, item_at}

-- ---- files that are gone

pub not_there : (table : Table) (file : ℕ) → get table file ≡ None → IsSome (get table file) → ⊥
not_there table file none some = absurd (false≢true (sym (ap is_some none) ∙ some))

there_in : (table : Table) (next : ℕ) (ss : List Segment) (file : ℕ) → AllByRecursion (IsKept table next) ss → IsFileOf ss file → IsSome (get table file)
there_in table next [] file kept own = absurd own
there_in table next (s ∷ ss) file kept own = ⊎_elim
    (λ (is : s.file ≡ file). subst (λ n. IsSome (get table n)) is kept.0.sound.there)
    (λ (later : IsFileOf ss file). there_in table next ss file kept.1 later)
    own

-- a log's own files are there
owned_there : (log : SegmentLog) (table : Table) (next : ℕ) → (segment_log log).sound table next → (file : ℕ) → (segment_log log).owns file → IsSome (get table file)
owned_there log table next sound file own = ⊎_elim
    (λ is. there_in table next log.segments.items file sound.kept is)
    (λ spare. (sound.beside file spare).there)
    own

-- one that was gone before is still
gone_still : (log : SegmentLog) (old new : Disk) (next : ℕ) → (segment_log log).sound old.table next → Clears (segment_log log).owns old new → (file : ℕ) → get old.table file ≡ None → get new.table file ≡ None
gone_still log old new next sound clears file none = clears.lengths file (λ own. not_there old.table file none (owned_there log old.table next sound file own)) ∙ none

-- ---- one log

pub cut_settled : (log : SegmentLog) (r : Result SegmentLog LogFault) (old new : Disk) (next : ℕ) → (segment_log log).sound old.table next → Clears (segment_log log).owns old new
    → ((segment_log log).exact old.table → IfOk r (λ cut. (segment_log cut).exact new.table))
    → IfOk r (λ cut. (start : ℕ) → (segment_log log).resumes start → (segment_log cut).resumes start)
    → IfOk r (λ cut. (file : ℕ) → (segment_log log).owns file → (segment_log cut).owns file ⊎ (get new.table file ≡ None))
    → (numbers : List ℕ) (start : ℕ) → IsSettledFrom numbers start log old → IfOk r (λ cut. IsSettledFrom numbers start cut new)
cut_settled log (Ok cut) old new next sound clears exact resumes gone numbers start was = record {
  exact = exact was.exact;
  resumes = resumes start was.resumes;
  gone = λ file has. ⊎_elim (λ own. gone file own) (λ none. inr (gone_still log old new next sound clears file none)) (was.gone file has);
}
cut_settled log (Err f) old new next sound clears exact resumes gone numbers start was = tt

pub settled_kept : (numbers : List ℕ) (start : ℕ) (log : SegmentLog) (old new : Disk) → Keeps old new → IsSettledFrom numbers start log old → IsSettledFrom numbers start log new
settled_kept numbers start log old new kept was = record {
  exact = subst (λ (t : Table). (segment_log log).exact t) (sym kept.table) was.exact;
  resumes = was.resumes;
  gone = λ file has. subst (λ (t : Table). (segment_log log).owns file ⊎ (get t file ≡ None)) (sym kept.table) (was.gone file has);
}

-- other files changed
settled_stays : (numbers : List ℕ) (start : ℕ) (log : SegmentLog) (old new : Disk) → ((file : ℕ) → (segment_log log).owns file → get new.table file ≡ get old.table file) → ((file : ℕ) → Contains numbers file → get new.table file ≡ get old.table file)
    → IsSettledFrom numbers start log old → IsSettledFrom numbers start log new
settled_stays numbers start log old new owned given was = record {
  exact = (segment_lawful log).exact_stays old.table new.table was.exact owned;
  resumes = was.resumes;
  gone = λ file has. ⊎_elim (λ own. inl own) (λ none. inr (given file has ∙ none)) (was.gone file has);
}

-- ---- those of a topic

module _ (As : Type 0) (lists : Lists) (starts : List ℕ) (xs : List (Partition SegmentLog)) (list : Vec ℕ Global) (first mid : Disk) (next : ℕ)
    (given : AreGiven lists first next) (so_far : Opening As lists starts xs first mid next) (at : slice_get lists (length xs) ≡ Some list)
    (x : Partition SegmentLog) (start : ℕ) (now : Disk) (starts_at : slice_get starts (length xs) ≡ Some start) (others : Clears (Contains list.items) mid now) where
  -- a file of a partition before it is none of its own
  other_list : (p : ℕ) (numbers : Vec ℕ Global) → p < length xs → slice_get lists p ≡ Some numbers → (file : ℕ) → Contains numbers.items file → get now.table file ≡ get mid.table file
  other_list p numbers lt listed file has = others.lengths file (λ mine. given.apart p (length xs) numbers list listed at (λ e. omega (arith, lt, e)) file has mine)

  other_owned : (p : ℕ) (y : Partition SegmentLog) → slice_get xs p ≡ Some y → (file : ℕ) → (segment_log y.log).owns file → get now.table file ≡ get mid.table file
  other_owned p y there file own =
      let its = so_far.owned p y there file own in
      other_list p its.list (slice_get_within xs p y there) its.at file its.has

  pub next_settled : (ys : List (Partition SegmentLog)) → ys ≡ xs ++ x ∷ [] → AreSettledFrom lists starts xs mid → IsSettledFrom list.items start x.log now → (segment_log x.log).timed → AreSettledFrom lists starts ys now
  next_settled ys grown before its timed p y numbers from there listed begun = ⊎_elim
      (λ was.
      let old = before p y numbers from was listed begun in
      (settled_stays numbers.items from y.log mid now (other_owned p y was) (other_list p numbers (slice_get_within xs p y was) listed) old.0, old.1))
      (λ (new : (p ≡ length xs) × (x ≡ y)).
      let same_list : list ≡ numbers = same_Some list numbers (sym at ∙ ap (λ k. slice_get lists k) (sym new.0) ∙ listed) in
      let same_start : start ≡ from = same_Some start from (sym starts_at ∙ ap (λ k. slice_get starts k) (sym new.0) ∙ begun) in
      subst (λ (z : Partition SegmentLog). IsSettledFrom numbers.items from z.log now × (segment_log z.log).timed) new.1 (
        subst (λ (v : Vec ℕ Global). IsSettledFrom v.items from x.log now) same_list
            (subst (λ (s : ℕ). IsSettledFrom list.items s x.log now) same_start its),
        timed,
      ))
      (item_at xs x y p (subst (λ (zs : List (Partition SegmentLog)). slice_get zs p ≡ Some y) grown there))

-- a number in some lists is of one of them
pub among_numbers : (lists : Lists) (file : ℕ) → Contains (listed_numbers lists) file → IsAmong lists file
among_numbers [] file has = let lt = has.1 in absurd (omega (arith, lt))
among_numbers (l ∷ ls) file has = ⊎_elim
    (λ here. record { number = 0; list = l; at = refl; has = here })
    (λ later. let o = among_numbers ls file later in record { number = suc o.number; list = o.list; at = o.at; has = o.has })
    (Contains-append_cases l.items (listed_numbers ls) file has)
