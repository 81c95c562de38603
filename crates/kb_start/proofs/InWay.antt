-- Files that are in the way, and what is kept of them, file by file, on a disk of the same files.
use Rattle.std.proofs.Common.{◌≡◌, ◌∙◌, ◌<◌, ◌+◌, ◌++◌, ℕ, List, [], ◌∷◌, length, drop, get_or, drop-cons, add-one, append_assoc, sym, ap}
use Rattle.std.proofs.Common.{Bool, true, false, cond, if◌then◌else◌, unwrap_or, refl}
use Rattle.std.specs.FinMap.{get, keys}
use Rattle.kb_store.specs.Disk.{Disk, Files, Table}
use Rattle.kb_survey.specs.Listed.{is_in}
use Rattle.kb_start.specs.Aside.{in_way_among, is_in_way, whole_part, whole_parts}
use Rattle.kb_start.specs.Kept.{part, Part}
use Rattle.kb_start.specs.Survey.{stray_at}
use Rattle.kb_start.proofs.Lost.{same_stray}

-- the same on a disk of the same files
pub same_in_way : (d e : Disk) (names : List (List ℕ)) (nexts files : List ℕ) → e.table ≡ d.table → e.files ≡ d.files
    → in_way_among e names nexts files ≡ in_way_among d names nexts files
same_in_way d e names nexts [] t f = refl
same_in_way d e names nexts (x ∷ xs) t f =
    ap (λ o. cond (is_in_way o) (x ∷ in_way_among e names nexts xs) (in_way_among e names nexts xs)) (same_stray d e names nexts x t f)
    ∙ ap (λ cs. cond (is_in_way (stray_at d names nexts x)) (x ∷ cs) cs) (same_in_way d e names nexts xs t f)

-- with one more file
pub in_way_next : (names : List (List ℕ)) (nexts : List ℕ) (d e : Disk) (files : List ℕ) (i other : ℕ) (before now all : List ℕ)
    → i < length files → e.table ≡ d.table → e.files ≡ d.files
    → now ≡ (if is_in_way (stray_at e names nexts (get_or files i other)) then before ++ get_or files i other ∷ [] else before)
    → before ++ in_way_among d names nexts (drop i files) ≡ all → now ++ in_way_among d names nexts (drop (i + 1) files) ≡ all
in_way_next names nexts d e files i other before now all in_range t f is told =
    let file = get_or files i other in
    let rest = in_way_among d names nexts (drop (i + 1) files) in
    let next : drop i files ≡ file ∷ drop (i + 1) files = rw (add-one, drop-cons files i other in_range) in
    ap (λ cs. cs ++ rest) is
    ∙ ap (λ o. (if is_in_way o then before ++ file ∷ [] else before) ++ rest) (same_stray d e names nexts file t f)
    ∙ moved (is_in_way (stray_at d names nexts file)) ∙ ap (λ fs. before ++ in_way_among d names nexts fs) (sym next) ∙ told
  where
    moved : (b : Bool) → (if b then before ++ get_or files i other ∷ [] else before) ++ in_way_among d names nexts (drop (i + 1) files)
        ≡ before ++ cond b (get_or files i other ∷ in_way_among d names nexts (drop (i + 1) files)) (in_way_among d names nexts (drop (i + 1) files))
    moved true = append_assoc before (get_or files i other ∷ []) (in_way_among d names nexts (drop (i + 1) files))
    moved false = refl

-- ---- what is kept of them

same_whole : (d e : Disk) (file : ℕ) → e.table ≡ d.table → e.files ≡ d.files → whole_part e file ≡ whole_part d file
same_whole d e file t f = ap (λ table. of_both table e.files) t ∙ ap (of_both d.table) f
  where
    of_both : Table → Files → Part
    of_both table files = part file 0 (drop 0 (if is_in (keys table) file then unwrap_or (get files file) [] else []))

-- with one more file
pub whole_next : (d e : Disk) (files : List ℕ) (i other : ℕ) (before now all : List Part)
    → i < length files → e.table ≡ d.table → e.files ≡ d.files → now ≡ before ++ whole_part e (get_or files i other) ∷ []
    → before ++ whole_parts d (drop i files) ≡ all → now ++ whole_parts d (drop (i + 1) files) ≡ all
whole_next d e files i other before now all in_range t f is told =
    let file = get_or files i other in
    let rest = whole_parts d (drop (i + 1) files) in
    let next : drop i files ≡ file ∷ drop (i + 1) files = rw (add-one, drop-cons files i other in_range) in
    ap (λ ps. ps ++ rest) is ∙ append_assoc before (whole_part e file ∷ []) rest
    ∙ ap (λ p. before ++ p ∷ rest) (same_whole d e file t f)
    ∙ ap (λ fs. before ++ whole_parts d fs) (sym next) ∙ told

-- and of all files
pub same_wholes : (d e : Disk) (files : List ℕ) → e.table ≡ d.table → e.files ≡ d.files → whole_parts e files ≡ whole_parts d files
same_wholes d e [] t f = refl
same_wholes d e (file ∷ files) t f =
    ap (λ p. p ∷ whole_parts e files) (same_whole d e file t f) ∙ ap (λ ps. whole_part d file ∷ ps) (same_wholes d e files t f)
