-- Files that lose an end that may be of a damaged batch, one after another, on a disk of the same files.
use Rattle.std.proofs.Common.{◌≡◌, ◌∙◌, ◌<◌, ◌+◌, ◌++◌, ℕ, List, [], ◌∷◌, length, drop, get_or, drop-cons, add-one, append_assoc, sym, ap}
use Rattle.std.proofs.Common.{Bool, true, false, ◌&&◌, ◌||◌, if◌then◌else◌, refl}
use Rattle.kb_store.specs.Disk.{Disk, Files, Table}
use Rattle.kb_segment.specs.Header.{Header}
use Rattle.kb_start.specs.declared.left.Left.{Left}
use Rattle.kb_start.specs.declared.losses.Opened.{Opened}
use Rattle.kb_start.specs.Left.{any_dropped, is_dropped}
use Rattle.kb_start.specs.Starts.{header_at}
use Rattle.kb_start.specs.Survey.{used_by}
use Rattle.kb_start.specs.Damaged.{damaged_among, damaged_files, has_damaged_end, is_end_damaged}

abbrev disk_of : Disk → Table → Files → Disk
disk_of d table files = record { table = table; files = files; honest = d.honest; failures = d.failures }

same_damaged : (u : List Header) (d e : Disk) (l : Left) → e.table ≡ d.table → e.files ≡ d.files → has_damaged_end u e l ≡ has_damaged_end u d l
same_damaged u d e l t f =
    ap (λ table. has_damaged_end u (disk_of d table e.files) l) t ∙ ap (λ files. has_damaged_end u (disk_of d d.table files) l) f

-- with one more file
pub damaged_next : (u : List Header) (d e : Disk) (files : List Left) (i : ℕ) (other : Left) (before now all : List ℕ)
    → i < length files → e.table ≡ d.table → e.files ≡ d.files
    → now ≡ (if has_damaged_end u e (get_or files i other) then before ++ (get_or files i other).file ∷ [] else before)
    → before ++ damaged_among u d (drop i files) ≡ all → now ++ damaged_among u d (drop (i + 1) files) ≡ all
damaged_next u d e files i other before now all in_range t f is told =
    let l = get_or files i other in
    let rest = damaged_among u d (drop (i + 1) files) in
    let next : drop i files ≡ l ∷ drop (i + 1) files = rw (add-one, drop-cons files i other in_range) in
    ap (λ ns. ns ++ rest) is
    ∙ ap (λ b. (if b then before ++ l.file ∷ [] else before) ++ rest) (same_damaged u d e l t f)
    ∙ moved (has_damaged_end u d l) ∙ ap (λ ls. before ++ damaged_among u d ls) (sym next) ∙ told
  where
    moved : (b : Bool) → (if b then before ++ (get_or files i other).file ∷ [] else before) ++ damaged_among u d (drop (i + 1) files)
        ≡ before ++ (if b then (get_or files i other).file ∷ damaged_among u d (drop (i + 1) files) else damaged_among u d (drop (i + 1) files))
    moved true = append_assoc before ((get_or files i other).file ∷ []) (damaged_among u d (drop (i + 1) files))
    moved false = refl

-- those of an opening's files
pub same_files : (o : Opened) (d e : Disk) → e.table ≡ d.table → e.files ≡ d.files → damaged_files o e ≡ damaged_files o d
same_files o d e t f =
    ap (λ table. damaged_files o (disk_of d table e.files)) t ∙ ap (λ files. damaged_files o (disk_of d d.table files)) f

pub same_among : (u : List Header) (d e : Disk) (ls : List Left) → e.table ≡ d.table → e.files ≡ d.files
    → damaged_among u e ls ≡ damaged_among u d ls
same_among u d e ls t f =
    ap (λ table. damaged_among u (disk_of d table e.files) ls) t ∙ ap (λ files. damaged_among u (disk_of d d.table files) ls) f

neither : (a b : Bool) → (a || b) ≡ false → (a ≡ false) × (b ≡ false)
neither true b e = absurd cc
neither false b e = (refl, e)

-- where no file is dropped
pub none_damaged : (u : List Header) (d : Disk) (ls : List Left) → any_dropped ls ≡ false → damaged_among u d ls ≡ []
none_damaged u d [] e = refl
none_damaged u d (l ∷ ls) e =
    let both = neither (is_dropped l) (any_dropped ls) e in
    ap (λ b. if b then l.file ∷ damaged_among u d ls else damaged_among u d ls)
    (ap (λ c. c && is_end_damaged u d l (header_at d l.file)) both.0) ∙ none_damaged u d ls both.1
