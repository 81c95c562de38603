-- What is told of the files of a folder, file by file, on a disk of the same files.
use Rattle.std.proofs.Common.{◌≡◌, ◌∙◌, ◌<◌, ◌+◌, ◌++◌, ◌&&◌, ℕ, List, [], ◌∷◌, codes, length, drop, get_or, drop-cons, add-one, append_assoc, append-nil, sym, ap, refl}
use Rattle.std.proofs.Common.{Option, Some, None, not, is_some, if◌then◌else◌, unwrap_or}
use Rattle.std.specs.FinMap.{get, keys}
use Rattle.std.proofs.lemmas.List.Concat.{flat_map-append}
use Rattle.kb_store.specs.Disk.{Disk, Files, Table}
use Rattle.kb_segment.specs.Header.{Header, header_in}
use Rattle.kb_survey.specs.Listed.{is_in}
use Rattle.kb_survey.specs.Stray.{stray_of}
use Rattle.kb_survey.specs.declared.stray.Stray.{Stray}
use Rattle.kb_start.specs.declared.left.Left.{Left}
use Rattle.kb_start.specs.declared.losses.Opened.{Opened}
use Rattle.kb_start.specs.Left.{is_dropped}
use Rattle.kb_start.specs.Starts.{header_at}
use Rattle.kb_start.specs.Survey.{catalog_at, catalog_by, catalogs_in_use, is_superseded, known_of, stray_at, used_by}
use Rattle.kb_operator.specs.Report.{aside_lines, dropped_lines, dropped_of, lines_text, stray_if}
use Rattle.kb_operator.specs.Texts.{drop_line}

-- ---- what files say

same_catalog : (strays : List ℕ) (d e : Disk) (l : Left) → e.table ≡ d.table → e.files ≡ d.files → catalog_at e strays l ≡ catalog_at d strays l
same_catalog strays d e l t f = ap (λ table. of_both table e.files) t ∙ ap (of_both d.table) f
  where
    of_both : Table → Files → List Header
    of_both table files =
        let header = if is_in (keys table) l.file then header_in (unwrap_or (get files l.file) []) else None in
        if is_some l.after && not (is_in strays l.file) then catalog_by header else []

same_used : (strays : List ℕ) (d e : Disk) (ls : List Left) → e.table ≡ d.table → e.files ≡ d.files
    → catalogs_in_use e strays ls ≡ catalogs_in_use d strays ls
same_used strays d e [] t f = refl
same_used strays d e (l ∷ ls) t f =
    ap (λ x. x ++ catalogs_in_use e strays ls) (same_catalog strays d e l t f)
    ∙ ap (λ x. catalog_at d strays l ++ x) (same_used strays d e ls t f)

same_header : (d e : Disk) (file : ℕ) → e.table ≡ d.table → e.files ≡ d.files → header_at e file ≡ header_at d file
same_header d e file t f = ap (λ table. of_both table e.files) t ∙ ap (of_both d.table) f
  where
    of_both : Table → Files → Option Header
    of_both table files = if is_in (keys table) file then header_in (unwrap_or (get files file) []) else None

same_stray : (d e : Disk) (names : List (List ℕ)) (nexts : List ℕ) (file : ℕ) → e.table ≡ d.table → e.files ≡ d.files
    → stray_at e names nexts file ≡ stray_at d names nexts file
same_stray d e names nexts file t f = ap (λ table. of_both table e.files) t ∙ ap (of_both d.table) f
  where
    of_both : Table → Files → Option Stray
    of_both table files = if is_in (keys table) file then Some (stray_of (unwrap_or (get files file) []) names nexts) else None

-- ---- what is told of them

same_dropped : (damaged : List ℕ) (o : Opened) (d e : Disk) (l : Left) → e.table ≡ d.table → e.files ≡ d.files
    → dropped_of damaged o e l ≡ dropped_of damaged o d l
same_dropped damaged o d e l t f =
    ap (λ u. of_both u (header_at e l.file)) (same_used o.strays.now d e o.files.now t f)
    ∙ ap (of_both (used_by o d)) (same_header d e l.file t f)
  where
    of_both : List Header → Option Header → List (List ℕ)
    of_both used header = if is_dropped l then drop_line l (is_superseded used header) (is_in damaged l.file) ∷ [] else []

-- with one more file
pub dropped_next : (damaged : List ℕ) (o : Opened) (d e : Disk) (files : List Left) (i : ℕ) (other : Left) (before now all : List (List ℕ))
    → i < length files → e.table ≡ d.table → e.files ≡ d.files → now ≡ before ++ dropped_of damaged o e (get_or files i other)
    → before ++ dropped_lines damaged o d (drop i files) ≡ all → now ++ dropped_lines damaged o d (drop (i + 1) files) ≡ all
dropped_next damaged o d e files i other before now all within t f is told =
    let l = get_or files i other in
    let rest = dropped_lines damaged o d (drop (i + 1) files) in
    let next : drop i files ≡ get_or files i other ∷ drop (i + 1) files = rw (add-one, drop-cons files i other within) in
    ap (λ ls. ls ++ rest) is ∙ append_assoc before (dropped_of damaged o e l) rest
    ∙ ap (λ ls. before ++ (ls ++ rest)) (same_dropped damaged o d e l t f)
    ∙ ap (λ fs. before ++ dropped_lines damaged o d fs) (sym next) ∙ told

pub aside_next : (path : List ℕ) (o : Opened) (d e : Disk) (files : List ℕ) (i other : ℕ) (before now all : List (List ℕ))
    → i < length files → e.table ≡ d.table → e.files ≡ d.files
    → now ≡ before ++ stray_if path (get_or files i other) (stray_at e (known_of o).names o.next_instances.now (get_or files i other))
    → before ++ aside_lines path o d (drop i files) ≡ all → now ++ aside_lines path o d (drop (i + 1) files) ≡ all
aside_next path o d e files i other before now all within t f is told =
    let file = get_or files i other in
    let names = (known_of o).names in
    let nexts = o.next_instances.now in
    let rest = aside_lines path o d (drop (i + 1) files) in
    let next : drop i files ≡ get_or files i other ∷ drop (i + 1) files = rw (add-one, drop-cons files i other within) in
    ap (λ ls. ls ++ rest) is ∙ append_assoc before (stray_if path file (stray_at e names nexts file)) rest
    ∙ ap (λ s. before ++ (stray_if path file s ++ rest)) (same_stray d e names nexts file t f)
    ∙ ap (λ fs. before ++ aside_lines path o d fs) (sym next) ∙ told

same_dropped_lines : (damaged : List ℕ) (o : Opened) (d e : Disk) (ls : List Left) → e.table ≡ d.table → e.files ≡ d.files
    → dropped_lines damaged o e ls ≡ dropped_lines damaged o d ls
same_dropped_lines damaged o d e [] t f = refl
same_dropped_lines damaged o d e (l ∷ ls) t f =
    ap (λ x. x ++ dropped_lines damaged o e ls) (same_dropped damaged o d e l t f)
    ∙ ap (λ x. dropped_of damaged o d l ++ x) (same_dropped_lines damaged o d e ls t f)

pub dropped_same : (damaged : List ℕ) (o : Opened) (d e : Disk) → e.table ≡ d.table → e.files ≡ d.files
    → dropped_lines damaged o e o.files.now ≡ dropped_lines damaged o d o.files.now
dropped_same damaged o d e t f = same_dropped_lines damaged o d e o.files.now t f

same_aside_lines : (path : List ℕ) (o : Opened) (d e : Disk) (files : List ℕ) → e.table ≡ d.table → e.files ≡ d.files
    → aside_lines path o e files ≡ aside_lines path o d files
same_aside_lines path o d e [] t f = refl
same_aside_lines path o d e (file ∷ files) t f =
    ap (λ s. stray_if path file s ++ aside_lines path o e files) (same_stray d e (known_of o).names o.next_instances.now file t f)
    ∙ ap (λ x. stray_if path file (stray_at d (known_of o).names o.next_instances.now file) ++ x) (same_aside_lines path o d e files t f)

pub aside_same : (path : List ℕ) (o : Opened) (d e : Disk) → e.table ≡ d.table → e.files ≡ d.files
    → aside_lines path o e o.strays.now ≡ aside_lines path o d o.strays.now
aside_same path o d e t f = same_aside_lines path o d e o.strays.now t f

-- ---- lines as text

lines_both : (xs ys : List (List ℕ)) → lines_text (xs ++ ys) ≡ lines_text xs ++ lines_text ys
lines_both xs ys = flat_map-append (λ line. line ++ codes "\n") xs ys

-- the lines of a report, one part behind another
pub report_is : (held : List ℕ) (deleted dropped losses strays : List (List ℕ))
    → (held ++ codes "\n") ++ lines_text deleted ++ lines_text dropped ++ lines_text losses ++ lines_text strays
    ≡ lines_text ((held ∷ []) ++ deleted ++ dropped ++ losses ++ strays)
report_is held deleted dropped losses strays =
    let a = held ∷ [] in
    sym (lines_both (a ++ deleted ++ dropped ++ losses) strays
    ∙ ap (λ x. x ++ lines_text strays) (lines_both (a ++ deleted ++ dropped) losses
    ∙ ap (λ x. x ++ lines_text losses) (lines_both (a ++ deleted) dropped
    ∙ ap (λ x. x ++ lines_text dropped) (lines_both a deleted
    ∙ ap (λ x. x ++ lines_text deleted) (append-nil (held ++ codes "\n"))))))
