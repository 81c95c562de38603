-- The commands of a catalog's log: those of the chain of its files, up to where the log is cut.
use Rattle.std.proofs.Common.{◌≡◌, ◌∙◌, ◌<◌, ◌+◌, ◌++◌, ◌∷◌, [], ℕ, Ok, Err, false, cond, List, max, sym, ap, subst, refl, ⊎_elim, arith, nat_le}
use Rattle.std.specs.Prelude.{IfOk, Result}
use Rattle.std.proofs.lemmas.Bool.Decides.{nat_tests}
use Rattle.std.proofs.lemmas.List.{append-nil}
use Rattle.kb_store.specs.Disk.{Disk, Files, Keeps}
use Rattle.kb_batch.specs.Batch.{count_of}
use Rattle.kb_batch.specs.BatchLaws.{batch_counted}
use Rattle.kb_log.specs.Log.{IsRun, next_of, first_base, starting}
use Rattle.kb_log.specs.OnShelf.{Log, OnShelf, IsLawfulLog, Agrees, batches_of}
use Rattle.kb_segment_log.specs.SegmentLog.{segment_log}
use Rattle.kb_segment_log.specs.SegmentLaws.{run_join, run_ordered, base_is, next_is}
use Rattle.kb_segment_log.proofs.Unique.{one_chain}
use Rattle.kb_segment_log.specs.Chain.{Chain, Part, first_of, parts_at, StopsAt, EndsIn, GoesThrough, IsChain, Opens}
use Rattle.kb_segment_log.specs.Cut.{EndsThere, IsBetween}
use Rattle.kb_segment_log.specs.declared.log.SegmentLog.{SegmentLog}
use Rattle.kb_segment_log.proofs.Steps.{moment}
use Rattle.kb_topics.specs.declared.catalog.Catalog.{Catalog}
use Rattle.kb_topics.specs.Catalog.{known, meta_log}
use Rattle.kb_topics.specs.MetaLog.{IsFoldOf, IsReadAs}
use Rattle.kb_topics.specs.Reading.{Reading, in_use}
use Rattle.kb_topics.specs.Replay.{IsReady}
use Rattle.kb_topics.specs.declared.stage.Stage.{Stage}
use Rattle.kb_replay.specs.Replay as replay
use Rattle.kb_replay.specs.Replay.{IsReplay}
use Rattle.kb_opening.specs.Opened.{EndsWith, IsLongest, IsLongestFold}
use Rattle.kb_opening.specs.Catalog.{AreWhole, IsCatalogFrom, IsCatalogOf, IsWhole}

-- ---- runs

not_le : (a b : ℕ) → b < a → nat_le a b ≡ false
not_le a b l = grind (arith, nat_tests)

-- a run from the start on is left whole
pub starting_all : (at : ℕ) (bs : List (List ℕ)) (end : ℕ) → IsRun at bs end → starting at bs ≡ bs
starting_all at [] end r = refl
starting_all at (b ∷ bs) end r =
    ap (λ t. cond t (starting at bs) (b ∷ bs)) (not_le (next_of b) at (omega (arith, next_is at b r.1, batch_counted b r.0)))

-- a chain is a run
pub chain_run : (at : ℕ) (fs : List Part) (bs : List (List ℕ)) (end n : ℕ) → IsChain at fs bs end n → IsRun at bs end
chain_run at [] bs end n c = subst (λ (x : List (List ℕ)). IsRun at x end) (sym c.0) c.1
chain_run at (f ∷ fs) bs end n c = ⊎_elim
    (λ (s : StopsAt at f bs end n). subst (λ (x : List (List ℕ)). IsRun at x end) (sym s.none) s.ends)
    (λ more. ⊎_elim
    (λ (e : EndsIn at f bs end n). e.longest.links)
    (λ (g : GoesThrough at f (λ mid behind others. IsChain mid fs behind end others) bs n).
    subst (λ (x : List (List ℕ)). IsRun at x end) (sym g.split) (run_join at g.mid end g.run g.behind g.longest.links (chain_run g.mid fs g.behind end g.others g.further)))
    more)
    c

-- what is left of a run behind a front
run_left : (at m e : ℕ) (xs ys : List (List ℕ)) → IsRun at xs m → IsRun at (xs ++ ys) e → IsRun m ys e
run_left at m e [] ys r q = subst (λ (a : ℕ). IsRun a ys e) r q
run_left at m e (x ∷ xs) ys r q = run_left (at + count_of x) m e xs ys r.2 q.2

-- a run that ends where it begins has no batch
none_left : (at : ℕ) (bs : List (List ℕ)) → IsRun at bs at → bs ≡ []
none_left at [] r = refl
none_left at (b ∷ bs) r = absurd (omega (arith, batch_counted b r.0, run_ordered (at + count_of b) bs at r.2))

-- ---- a log

-- a front that ends where the log does is the whole list
pub all_there : (a : OnShelf) (before : List (List ℕ)) → IsLawfulLog a.log → Agrees a → EndsThere a a.log.end before → batches_of a ≡ before
all_there a before law agrees t =
    let from = first_base a.log.end (batches_of a) in
    let all = subst (λ (x : List (List ℕ)). IsRun from x a.log.end) t.split (law.run a.disk.files agrees) in
    let none = none_left a.log.end t.behind (run_left from a.log.end a.log.end before t.behind t.run all) in
    t.split ∙ ap (λ x. before ++ x) none ∙ append-nil before

pub max_zero : (a : ℕ) → max a 0 ≡ a
max_zero a = omega arith

-- from 0 on the whole chain is opened
pub opened_all : (files : Files) (numbers : List ℕ) (log : Log) (now : Files) (o : Opens files numbers 0 log now) → log.batches now ≡ o.bs
opened_all files numbers log now o =
    let first = first_of 0 o.chain.order in
    o.batches ∙ ap (λ n. starting n o.bs) (o.starts ∙ max_zero first) ∙ starting_all first o.bs o.chain.end (chain_run first (parts_at files o.chain.order) o.bs o.chain.end o.chain.count o.chain.chain)

-- and the log starts where the first batch does
pub opened_whole : (files : Files) (numbers : List ℕ) (log : Log) (now : Files) (o : Opens files numbers 0 log now) → first_base log.end (log.batches now) ≡ log.start
opened_whole files numbers log now o =
    let first = first_of 0 o.chain.order in
    let run = chain_run first (parts_at files o.chain.order) o.bs o.chain.end o.chain.count o.chain.chain in
    ap (first_base log.end) (opened_all files numbers log now o) ∙ first_is first o.bs log.end (subst (λ (n : ℕ). IsRun first o.bs n) (sym (o.ends ∙ max_zero o.chain.end)) run) ∙ sym (o.starts ∙ max_zero first)
  where
    first_is : (at : ℕ) (bs : List (List ℕ)) (end : ℕ) → IsRun at bs end → first_base end bs ≡ at
    first_is at [] end r = sym r
    first_is at (b ∷ bs) end r = base_is at b r.1

-- ---- a catalog

pub ends_with : (bs : List (List ℕ)) (r : Reading) → replay.StopsAt bs r → EndsWith bs r
ends_with [] r e = tt
ends_with (b ∷ bs) r e = e

-- the commands that were read end where the log is cut, or at its end
pub ends_there : (generation : ℕ) (l : Log) (d e : Disk) (n at : ℕ) (k : Reading) → e.files ≡ d.files → (r : IsReplay generation (l.batches d.files) l.end at k) → EndsThere (moment l e n) at r.before
ends_there generation l d e n at k same r =
    let is : l.batches e.files ≡ l.batches d.files = ap l.batches same in
    record {
      behind = r.behind;
      split = is ∙ r.split;
      run = subst (λ (x : List (List ℕ)). IsRun (first_base l.end x) r.before at) (sym is) r.run;
    }

-- what was read of a log is the longest of its batches
pub longest_read : (generation : ℕ) (bs : List (List ℕ)) (end at : ℕ) (r : Reading) → IsReplay generation bs end at r → IsLongest generation bs r
longest_read generation bs end at r read = record { before = read.before; behind = read.behind; split = read.split; fold = read.read; ends = ends_with read.behind r read.stops }

-- where the log agreed with its files, it still does, and a batch begins where the commands end
pub read_there : (generation : ℕ) (l : Log) (k : Reading) (d e : Disk) (n to at : ℕ) → to ≡ at → Keeps d e → (e.honest → l.agrees d.files → first_base l.end (l.batches d.files) ≡ l.start → IsReplay generation (l.batches d.files) l.end to k)
    → e.honest → l.agrees d.files → first_base l.end (l.batches d.files) ≡ l.start → l.agrees e.files × IsBetween (moment l e n) at
read_there generation l k d e n to at is kept read h was whole =
    let same = kept.files h in
    let r = subst (λ (x : ℕ). IsReplay generation (l.batches d.files) l.end x k) is (read h was whole) in
    (subst (λ (x : Files). l.agrees x) (sym same) was, record { before = r.before; there = ends_there generation l d e n at k same r })

pub catalog_from : (generation : ℕ) (l : Log) (log : SegmentLog) (c : Catalog SegmentLog) (k : Reading) (d e f : Disk) (n to at : ℕ) → to ≡ at → Keeps d e → (e.honest → l.agrees d.files → first_base l.end (l.batches d.files) ≡ l.start → IsReplay generation (l.batches d.files) l.end to k)
    → (f.honest → e.honest) → (f.honest → l.agrees e.files → IsBetween (moment l e n) at → (segment_log log).agrees f.files)
    → (f.honest → l.agrees e.files → (before : List (List ℕ)) → EndsThere (moment l e n) at before → (segment_log log).batches f.files ≡ before)
    → k ≡ in_use (known c) → meta_log c ≡ log → f.honest → l.agrees d.files → first_base l.end (l.batches d.files) ≡ l.start → IsCatalogFrom generation (l.batches d.files) c f.files
catalog_from generation l log c k d e f n to at is kept read later agrees cut knows has h was whole =
    let mid = later h in
    let same = kept.files mid in
    let r = subst (λ (x : ℕ). IsReplay generation (l.batches d.files) l.end x k) is (read mid was whole) in
    let now = subst (λ (x : Files). l.agrees x) (sym same) was in
    let there = ends_there generation l d e n at k same r in
    record {
      agrees = subst (λ (x : SegmentLog). (segment_log x).agrees f.files) (sym has) (agrees h now (record { before = r.before; there = there }));
      fold = subst (λ (x : SegmentLog). IsFoldOf generation ((segment_log x).batches f.files) (known c)) (sym has)
          (subst (λ (x : List (List ℕ)). IsFoldOf generation x (known c)) (sym (cut h now r.before there)) (subst (λ (x : Reading). IsReadAs generation r.before x) knows r.read));
      known = subst (λ (x : Reading). IsLongest generation (l.batches d.files) x) knows (longest_read generation (l.batches d.files) l.end at k r);
    }

pub catalog_of : (files : Files) (numbers : List ℕ) (generation : ℕ) (log : Log) (now : Files) (c : Catalog SegmentLog) (left : Files) → Opens files numbers 0 log now → IsCatalogFrom generation (log.batches now) c left → IsCatalogOf files numbers generation c left
catalog_of files numbers generation log now c left o from = record {
  agrees = from.agrees;
  fold = from.fold;
  commands = o.bs;
  chain = o.chain;
  known = subst (λ (x : List (List ℕ)). IsLongestFold generation x (known c)) (opened_all files numbers log now o) from.known;
}

-- a reading with no command of a snapshot left
pub ready_is : (r : Reading) → IsReady r → r ≡ in_use r.known
ready_is r ready = ap (λ (s : Stage). record { known = r.known; stage = s }) ready

-- the batches of a whole chain are whole
pub whole_list : (files : Files) (numbers : List ℕ) (generation : ℕ) (list bs : List (List ℕ)) → list ≡ bs → Chain files numbers 0 bs → IsWhole files numbers generation → AreWhole generation list
whole_list files numbers generation list bs is chain whole =
    (whole.0, subst (λ (x : List (List ℕ)). IsLongestFold generation x whole.0) (sym (is ∙ one_chain files numbers 0 whole.1.commands bs whole.1.chain chain)) whole.1.known)

-- ---- answers

pub if_ok : {T E : Type 0} {P Q : T → Type 0} (r : Result T E) → ((x : T) → P x → Q x) → IfOk r P → IfOk r Q
if_ok (Ok x) f p = f x p
if_ok (Err e) f p = tt
