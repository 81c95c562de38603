-- What is lost, file by file, on a disk of the same files.
use Rattle.std.proofs.Common.{◌≡◌, ◌∙◌, ◌<◌, ◌+◌, ◌++◌, ℕ, List, [], ◌∷◌, length, drop, get_or, drop-cons, add-one, append_assoc, sym, ap}
use Rattle.std.proofs.Common.{Option, Some, None, ◌&&◌, ◌||◌, Bool, true, false, not, is_some, if◌then◌else◌, nat_lt, unwrap_or, refl}
use Rattle.std.specs.FinMap.{get, keys}
use Rattle.kb_store.specs.Disk.{Disk, Files, Table}
use Rattle.kb_batch.specs.Batch.{natural}
use Rattle.kb_segment.specs.Header.{Header, header_in}
use Rattle.kb_survey.specs.Listed.{is_in}
use Rattle.kb_survey.specs.Whole.{no_batches, whole_in}
use Rattle.kb_survey.specs.Snapshot.{snapshot_end}
use Rattle.kb_start.specs.declared.left.Left.{Left}
use Rattle.kb_start.specs.declared.losses.Loss.{Loss}
use Rattle.kb_start.specs.declared.losses.Opened.{Opened}
use Rattle.kb_start.specs.Left.{any_dropped, is_dropped}
use Rattle.kb_start.specs.Starts.{header_at, start_of}
use Rattle.kb_start.specs.Survey.{begins, catalog_at, catalog_by, catalogs_in_use, copied_to, dropped_losses, end_at, end_behind, has_lower, is_superseded, known_of, loss_above, loss_at, loss_of, losses_of, used_by, Known}
use Rattle.kb_start.specs.Survey.{stray_at, stray_loss, stray_losses, unfit_after, with_stray, AddsStrays}
use Rattle.kb_start.specs.declared.losses.Surveyed.{Surveyed}
use Rattle.kb_survey.specs.Stray.{stray_of}
use Rattle.kb_survey.specs.declared.stray.Stray.{Stray}
use Rattle.kb_survey.specs.declared.stray.Stray.TheVariants.{Short, Unreadable, LaterVersion}
use Rattle.kb_survey.specs.declared.stray.Stray.TheVariants.{OfNobody, NeverGivenOut, Unfinished, OfNoTopic}

same_loss : (k : Known) (u : List Header) (d e : Disk) (l : Left) → e.table ≡ d.table → e.files ≡ d.files → loss_of k u e l ≡ loss_of k u d l
same_loss k u d e l t f = ap (λ table. of_both table e.files) t ∙ ap (of_both d.table) f
  where
    of_both : Table → Files → List Loss
    of_both table files =
        let bytes = unwrap_or (get files l.file) [] in
        let header = if is_in (keys table) l.file then header_in bytes else None in
        let start = start_of k.names k.starts header in
        let whole = if is_in (keys table) l.file then whole_in start (drop (unwrap_or l.after 0) bytes) else no_batches in
        if is_dropped l && not (is_superseded u header) then (if nat_lt 0 whole.batches then record { file = l.file; header = header; whole = whole } ∷ [] else []) else []

-- with one more file
pub lost_next : (k : Known) (u : List Header) (d e : Disk) (files : List Left) (i : ℕ) (other : Left) (before now first : List Loss)
    → i < length files → e.table ≡ d.table → e.files ≡ d.files → now ≡ before ++ loss_of k u e (get_or files i other)
    → before ++ losses_of k u d (drop i files) ≡ first → now ++ losses_of k u d (drop (i + 1) files) ≡ first
lost_next k u d e files i other before now first in_range t f is told =
    let l = get_or files i other in
    let rest = losses_of k u d (drop (i + 1) files) in
    let next : drop i files ≡ get_or files i other ∷ drop (i + 1) files = rw (add-one, drop-cons files i other in_range) in
    ap (λ ls. ls ++ rest) is ∙ append_assoc before (loss_of k u e l) rest
    ∙ ap (λ ls. before ++ (ls ++ rest)) (same_loss k u d e l t f)
    ∙ ap (λ fs. before ++ losses_of k u d fs) (sym next) ∙ told

-- those of all files
same_losses : (k : Known) (u : List Header) (d e : Disk) (ls : List Left) → e.table ≡ d.table → e.files ≡ d.files → losses_of k u e ls ≡ losses_of k u d ls
same_losses k u d e [] t f = refl
same_losses k u d e (l ∷ ls) t f =
    ap (λ x. x ++ losses_of k u e ls) (same_loss k u d e l t f) ∙ ap (λ x. loss_of k u d l ++ x) (same_losses k u d e ls t f)

either : (a b : Bool) → (a || b) ≡ false → (a ≡ false) × (b ≡ false)
either true b e = absurd cc
either false b e = (refl, e)

-- where no file is dropped
pub none_lost : (k : Known) (u : List Header) (d : Disk) (ls : List Left) → any_dropped ls ≡ false → losses_of k u d ls ≡ []
none_lost k u d [] e = refl
none_lost k u d (l ∷ ls) e =
    let both = either (is_dropped l) (any_dropped ls) e in
    let lost = loss_at k d l.file (unwrap_or l.after 0) in
    ap (λ b. (if b && not (is_superseded u (header_at d l.file)) then lost else []) ++ losses_of k u d ls) both.0 ∙ none_lost k u d ls both.1

-- ---- what is in use, file by file

same_catalog : (strays : List ℕ) (d e : Disk) (l : Left) → e.table ≡ d.table → e.files ≡ d.files → catalog_at e strays l ≡ catalog_at d strays l
same_catalog strays d e l t f = ap (λ table. of_both table e.files) t ∙ ap (of_both d.table) f
  where
    of_both : Table → Files → List Header
    of_both table files =
        let header = if is_in (keys table) l.file then header_in (unwrap_or (get files l.file) []) else None in
        if is_some l.after && not (is_in strays l.file) then catalog_by header else []

same_used : (strays : List ℕ) (d e : Disk) (ls : List Left) → e.table ≡ d.table → e.files ≡ d.files
    → catalogs_in_use e strays ls ≡ catalogs_in_use d strays ls
same_used strays d e [] t f = refl
same_used strays d e (l ∷ ls) t f =
    ap (λ x. x ++ catalogs_in_use e strays ls) (same_catalog strays d e l t f)
    ∙ ap (λ x. catalog_at d strays l ++ x) (same_used strays d e ls t f)

-- the losses of an opening on a disk of the same files
pub same_dropped : (o : Opened) (d e : Disk) → e.table ≡ d.table → e.files ≡ d.files → dropped_losses o e ≡ dropped_losses o d
same_dropped o d e t f =
    let used = catalogs_in_use e o.strays.now o.files.now in
    same_losses (known_of o) used d e o.files.now t f
    ∙ ap (λ u. losses_of (known_of o) u d o.files.now) (same_used o.strays.now d e o.files.now t f)

-- with one more file
pub catalogs_used_next : (strays : List ℕ) (d e : Disk) (files : List Left) (i : ℕ) (other : Left) (before now all : List Header)
    → i < length files → e.table ≡ d.table → e.files ≡ d.files → now ≡ before ++ catalog_at e strays (get_or files i other)
    → before ++ catalogs_in_use d strays (drop i files) ≡ all → now ++ catalogs_in_use d strays (drop (i + 1) files) ≡ all
catalogs_used_next strays d e files i other before now all in_range t f is told =
    let l = get_or files i other in
    let rest = catalogs_in_use d strays (drop (i + 1) files) in
    let next : drop i files ≡ get_or files i other ∷ drop (i + 1) files = rw (add-one, drop-cons files i other in_range) in
    ap (λ hs. hs ++ rest) is ∙ append_assoc before (catalog_at e strays l) rest
    ∙ ap (λ hs. before ++ (hs ++ rest)) (same_catalog strays d e l t f)
    ∙ ap (λ fs. before ++ catalogs_in_use d strays fs) (sym next) ∙ told

-- ---- files that are of no log, one after another

same_header : (d e : Disk) (file : ℕ) → e.table ≡ d.table → e.files ≡ d.files → header_at e file ≡ header_at d file
same_header d e file t f = ap (λ table. of_both table e.files) t ∙ ap (of_both d.table) f
  where
    of_both : Table → Files → Option Header
    of_both table files = if is_in (keys table) file then header_in (unwrap_or (get files file) []) else None

pub same_stray : (d e : Disk) (names : List (List ℕ)) (nexts : List ℕ) (file : ℕ) → e.table ≡ d.table → e.files ≡ d.files
    → stray_at e names nexts file ≡ stray_at d names nexts file
same_stray d e names nexts file t f = ap (λ table. of_both table e.files) t ∙ ap (of_both d.table) f
  where
    of_both : Table → Files → Option Stray
    of_both table files = if is_in (keys table) file then Some (stray_of (unwrap_or (get files file) []) names nexts) else None

same_loss_at : (k : Known) (d e : Disk) (file place : ℕ) → e.table ≡ d.table → e.files ≡ d.files → loss_at k e file place ≡ loss_at k d file place
same_loss_at k d e file place t f = ap (λ table. of_both table e.files) t ∙ ap (of_both d.table) f
  where
    of_both : Table → Files → List Loss
    of_both table files =
        let bytes = unwrap_or (get files file) [] in
        let header = if is_in (keys table) file then header_in bytes else None in
        let start = start_of k.names k.starts header in
        let whole = if is_in (keys table) file then whole_in start (drop place bytes) else no_batches in
        if nat_lt 0 whole.batches then record { file = file; header = header; whole = whole } ∷ [] else []

same_above : (d e : Disk) (file place start : ℕ) → e.table ≡ d.table → e.files ≡ d.files → loss_above e file place start ≡ loss_above d file place start
same_above d e file place start t f = ap (λ table. of_both table e.files) t ∙ ap (of_both d.table) f
  where
    of_both : Table → Files → List Loss
    of_both table files =
        let bytes = unwrap_or (get files file) [] in
        let header = if is_in (keys table) file then header_in bytes else None in
        let whole = if is_in (keys table) file then whole_in start (drop place bytes) else no_batches in
        if nat_lt 0 whole.batches then record { file = file; header = header; whole = whole } ∷ [] else []

same_end : (d e : Disk) (file place : ℕ) → e.table ≡ d.table → e.files ≡ d.files → end_at e file place ≡ end_at d file place
same_end d e file place t f = ap (λ table. of_both table e.files) t ∙ ap (of_both d.table) f
  where
    of_both : Table → Files → ℕ
    of_both table files = if is_in (keys table) file then snapshot_end (drop place (unwrap_or (get files file) [])) else 0

same_behind : (d e : Disk) (h : Header) (o : Option Header) → e.table ≡ d.table → e.files ≡ d.files → end_behind e h o ≡ end_behind d h o
same_behind d e h None t f = refl
same_behind d e h (Some first) t f = ap (λ end. if begins h first then end else 0) (same_end d e (natural h.generation) first.size t f)

pub same_copied : (u : List Header) (d e : Disk) (o : Option Header) → e.table ≡ d.table → e.files ≡ d.files → copied_to u e o ≡ copied_to u d o
same_copied u d e None t f = refl
same_copied u d e (Some h) t f =
    let file = natural h.generation in
    ap (λ end. if has_lower u h then end else 0)
    (same_behind d e h (header_at e file) t f ∙ ap (end_behind d h) (same_header d e file t f))

same_stray_loss : (k : Known) (u : List Header) (d e : Disk) (file : ℕ) (o : Option Stray) → e.table ≡ d.table → e.files ≡ d.files
    → stray_loss k u e file o ≡ stray_loss k u d file o
same_stray_loss k u d e file None t f = refl
same_stray_loss k u d e file (Some Unreadable) t f = same_loss_at k d e file 0 t f
same_stray_loss k u d e file (Some Unfinished) t f =
    same_above d e file 0 (copied_to u e (header_at e file)) t f
    ∙ ap (loss_above d file 0) (same_copied u d e (header_at e file) t f ∙ ap (copied_to u d) (same_header d e file t f))
same_stray_loss k u d e file (Some Short) t f = refl
same_stray_loss k u d e file (Some LaterVersion) t f = refl
same_stray_loss k u d e file (Some OfNobody) t f = refl
same_stray_loss k u d e file (Some NeverGivenOut) t f = refl
same_stray_loss k u d e file (Some OfNoTopic) t f = refl

pub same_stray_losses : (k : Known) (u : List Header) (nexts : List ℕ) (d e : Disk) (files : List ℕ) → e.table ≡ d.table → e.files ≡ d.files
    → stray_losses k u e nexts files ≡ stray_losses k u d nexts files
same_stray_losses k u nexts d e [] t f = refl
same_stray_losses k u nexts d e (x ∷ xs) t f =
    ap (λ ls. ls ++ stray_losses k u e nexts xs)
    (same_stray_loss k u d e x (stray_at e k.names nexts x) t f ∙ ap (stray_loss k u d x) (same_stray d e k.names nexts x t f))
    ∙ ap (λ ls. stray_loss k u d x (stray_at d k.names nexts x) ++ ls) (same_stray_losses k u nexts d e xs t f)

-- by what is in use on a disk of the same files
pub same_aside : (o : Opened) (nexts : List ℕ) (d e : Disk) → e.table ≡ d.table → e.files ≡ d.files
    → stray_losses (known_of o) (used_by o e) e nexts o.strays.now ≡ stray_losses (known_of o) (used_by o d) d nexts o.strays.now
same_aside o nexts d e t f =
    same_stray_losses (known_of o) (used_by o e) nexts d e o.strays.now t f
    ∙ ap (λ u. stray_losses (known_of o) u d nexts o.strays.now) (same_used o.strays.now d e o.files.now t f)

-- the losses with one more file
pub stray_next : (k : Known) (u : List Header) (nexts : List ℕ) (d e : Disk) (files : List ℕ) (i other : ℕ) (before now first : List Loss)
    → i < length files → e.table ≡ d.table → e.files ≡ d.files
    → now ≡ before ++ stray_loss k u e (get_or files i other) (stray_at e k.names nexts (get_or files i other))
    → before ++ stray_losses k u d nexts (drop i files) ≡ first → now ++ stray_losses k u d nexts (drop (i + 1) files) ≡ first
stray_next k u nexts d e files i other before now first in_range t f is told =
    let file = get_or files i other in
    let rest = stray_losses k u d nexts (drop (i + 1) files) in
    let next : drop i files ≡ file ∷ drop (i + 1) files = rw (add-one, drop-cons files i other in_range) in
    let same : stray_loss k u e file (stray_at e k.names nexts file) ≡ stray_loss k u d file (stray_at d k.names nexts file) =
    same_stray_loss k u d e file (stray_at e k.names nexts file) t f ∙ ap (stray_loss k u d file) (same_stray d e k.names nexts file t f) in
    ap (λ ls. ls ++ rest) is ∙ append_assoc before (stray_loss k u e file (stray_at e k.names nexts file)) rest
    ∙ ap (λ ls. before ++ (ls ++ rest)) same ∙ ap (λ fs. before ++ stray_losses k u d nexts fs) (sym next) ∙ told

-- and how many are in the way
pub unfit_next : (names : List (List ℕ)) (nexts : List ℕ) (d e : Disk) (files : List ℕ) (i other before now first : ℕ)
    → i < length files → e.table ≡ d.table → e.files ≡ d.files → now ≡ with_stray before (stray_at e names nexts (get_or files i other))
    → unfit_after d names nexts before (drop i files) ≡ first → unfit_after d names nexts now (drop (i + 1) files) ≡ first
unfit_next names nexts d e files i other before now first in_range t f is told =
    let file = get_or files i other in
    let rest = drop (i + 1) files in
    let next : drop i files ≡ file ∷ rest = rw (add-one, drop-cons files i other in_range) in
    ap (λ n. unfit_after d names nexts n rest) (is ∙ ap (with_stray before) (same_stray d e names nexts file t f))
    ∙ ap (unfit_after d names nexts before) (sym next) ∙ told

pub same_unfit : (names : List (List ℕ)) (nexts : List ℕ) (d e : Disk) (unfit : ℕ) (files : List ℕ) → e.table ≡ d.table → e.files ≡ d.files
    → unfit_after e names nexts unfit files ≡ unfit_after d names nexts unfit files
same_unfit names nexts d e unfit [] t f = refl
same_unfit names nexts d e unfit (x ∷ xs) t f =
    ap (λ n. unfit_after e names nexts n xs) (ap (with_stray unfit) (same_stray d e names nexts x t f))
    ∙ same_unfit names nexts d e (with_stray unfit (stray_at d names nexts x)) xs t f

-- and all that is of no log, on a disk of the same files
pub same_adds : (o : Opened) (d e : Disk) (before after : Surveyed) → e.table ≡ d.table → e.files ≡ d.files
    → AddsStrays o e before after → AddsStrays o d before after
same_adds o d e before after t f adds = record {
  losses = adds.losses ∙ ap (λ ls. before.losses.items ++ ls) (same_aside o o.next_instances.now d e t f);
  unfit = adds.unfit ∙ same_unfit (known_of o).names o.next_instances.now d e before.strays.unfit o.strays.now t f;
}
