-- What is kept, file by file, on a disk of the same files.
use Rattle.std.proofs.Common.{◌≡◌, ◌∙◌, ◌<◌, ◌+◌, ◌++◌, ℕ, List, [], ◌∷◌, length, drop, get_or, drop-cons, add-one, append_assoc, sym, ap}
use Rattle.std.proofs.Common.{◌&&◌, ◌||◌, if◌then◌else◌, unwrap_or, None, refl}
use Rattle.std.specs.FinMap.{get, keys}
use Rattle.kb_store.specs.Disk.{Disk, Files, Table}
use Rattle.kb_segment.specs.Header.{header_in}
use Rattle.kb_survey.specs.Listed.{is_in}
use Rattle.kb_start.specs.declared.left.Left.{Left}
use Rattle.kb_start.specs.declared.losses.Loss.{Loss}
use Rattle.kb_start.specs.Left.{is_dropped}
use Rattle.kb_start.specs.Kept.{is_lost, part, dropped_part, parts_of, Part}

same_part : (losses : List Loss) (damaged : List ℕ) (d e : Disk) (l : Left) → e.table ≡ d.table → e.files ≡ d.files → dropped_part losses damaged e l ≡ dropped_part losses damaged d l
same_part losses damaged d e l t f = ap (λ table. of_both table e.files) t ∙ ap (of_both d.table) f
  where
    of_both : Table → Files → List Part
    of_both table files =
        let place = unwrap_or l.after 0 in
        let bytes = drop place (if is_in (keys table) l.file then unwrap_or (get files l.file) [] else []) in
        let header = if is_in (keys table) l.file then header_in (unwrap_or (get files l.file) []) else None in
        if is_dropped l && (is_lost losses header || is_in damaged l.file) then part l.file place bytes ∷ [] else []

-- with one more file
pub kept_next : (losses : List Loss) (damaged : List ℕ) (d e : Disk) (files : List Left) (i : ℕ) (other : Left) (before now all : List Part)
    → i < length files → e.table ≡ d.table → e.files ≡ d.files → now ≡ before ++ dropped_part losses damaged e (get_or files i other)
    → before ++ parts_of losses damaged d (drop i files) ≡ all → now ++ parts_of losses damaged d (drop (i + 1) files) ≡ all
kept_next losses damaged d e files i other before now all in_range t f is told =
    let l = get_or files i other in
    let rest = parts_of losses damaged d (drop (i + 1) files) in
    let next : drop i files ≡ l ∷ drop (i + 1) files = rw (add-one, drop-cons files i other in_range) in
    ap (λ ps. ps ++ rest) is ∙ append_assoc before (dropped_part losses damaged e l) rest
    ∙ ap (λ ps. before ++ (ps ++ rest)) (same_part losses damaged d e l t f)
    ∙ ap (λ fs. before ++ parts_of losses damaged d fs) (sym next) ∙ told

same_parts : (losses : List Loss) (damaged : List ℕ) (d e : Disk) (ls : List Left) → e.table ≡ d.table → e.files ≡ d.files → parts_of losses damaged e ls ≡ parts_of losses damaged d ls
same_parts losses damaged d e [] t f = refl
same_parts losses damaged d e (l ∷ ls) t f =
    ap (λ x. x ++ parts_of losses damaged e ls) (same_part losses damaged d e l t f) ∙ ap (λ x. dropped_part losses damaged d l ++ x) (same_parts losses damaged d e ls t f)

-- and of all files
pub kept_all : (losses : List Loss) (damaged : List ℕ) (d e : Disk) (ls : List Left) (before now : List Part) → e.table ≡ d.table → e.files ≡ d.files
    → now ≡ before ++ parts_of losses damaged e ls → now ≡ before ++ parts_of losses damaged d ls
kept_all losses damaged d e ls before now t f is = is ∙ ap (λ ps. before ++ ps) (same_parts losses damaged d e ls t f)
