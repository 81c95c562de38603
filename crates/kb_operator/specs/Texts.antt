-- What is told of the files of a folder: what they would lose, what is dropped of them, and which are of no log.
use Rattle.std.specs.Prelude.{◌+◌, ◌-◌, ◌++◌, ℕ, zero, suc, ℤ, List, [], ◌∷◌, codes, decimal, length, Bool, true, false, Option, Some, None, string_bytes}
use Rattle.std.specs.Fmt.{signed_decimal}
use Rattle.std.specs.List.{flat_map}
use Rattle.std.specs.declared.string.String.{String}
use Rattle.kb_batch.specs.Batch.{is_natural}
use Rattle.kb_segment.specs.Header.{Header}
use Rattle.kb_survey.specs.declared.stray.Stray.{Stray}
use Rattle.kb_survey.specs.declared.stray.Stray.TheVariants.{Short, Unreadable, LaterVersion}
use Rattle.kb_survey.specs.declared.stray.Stray.TheVariants.{OfNobody, NeverGivenOut, Unfinished, OfNoTopic}
use Rattle.kb_start.specs.declared.left.Left.{Left}
use Rattle.kb_start.specs.declared.losses.Loss.{Loss}
use Rattle.kb_operator.specs.FileNames.{path_of}
use Rattle.kb_operator.specs.Sums.{told}

-- ---- files that would lose whole batches

-- a partition of a tenant's topic
abbrev pub partition_text : List ℕ → ℤ → ℤ → List ℕ
partition_text tenant instance partition =
    codes "tenant " ++ (tenant ++ (codes ", topic number " ++ (signed_decimal instance ++ (codes ", partition " ++ signed_decimal partition))))

-- it, or the catalog of a tenant
abbrev pub of_kind : Header → Bool → List ℕ
of_kind h true = partition_text h.tenant h.instance h.partition
of_kind h false = codes "tenant " ++ (h.tenant ++ codes ", its catalog")

-- whose a file is, by its header where it can be read
abbrev pub owner_text : Option Header → List ℕ
owner_text None = codes "its header cannot be read"
owner_text (Some h) = of_kind h (is_natural 0 h.kind)

-- what a file of the folder at a path would lose
abbrev pub loss_line : List ℕ → Loss → List ℕ
loss_line path l =
    path_of path l.file ++ (codes ": " ++ (owner_text l.header ++ (codes ": " ++ (decimal l.whole.batches ++ (codes " whole batches, "
    ++ (decimal l.whole.bytes ++ codes " bytes"))))))

-- how many whole batches some files would lose together, and how many bytes those have
abbrev pub batches_lost : List Loss → ℕ
batches_lost [] = 0
batches_lost (l ∷ ls) = l.whole.batches + batches_lost ls

abbrev pub bytes_lost : List Loss → ℕ
bytes_lost [] = 0
bytes_lost (l ∷ ls) = l.whole.bytes + bytes_lost ls

-- why a start on the folder at a path is refused of which so many files would lose so many batches and bytes
unfoldable pub damage_words : List ℕ → ℕ → ℕ → ℕ → List ℕ
damage_words path files batches bytes =
    codes "the folder " ++ (path ++ (codes " has damage: " ++ (decimal files ++ (codes " files would lose " ++ (decimal batches
    ++ (codes " whole batches (" ++ (decimal bytes ++ codes " bytes). Nothing was changed. Copy the folder first; then start with --drop-damaged to go on without them: they are kept in a folder of their own.")))))))

abbrev pub damage_text : List ℕ → List Loss → List ℕ
damage_text path ls = damage_words path (length ls) (told (batches_lost ls)) (told (bytes_lost ls))

-- ---- what an opening drops

-- an end that may be of a damaged batch is told as such
abbrev pub damage_mark : Bool → List ℕ
damage_mark true = codes ", maybe with a damaged batch"
damage_mark false = []

-- bytes behind the end of a log; or a whole file, of which a snapshot took the place or not
abbrev pub dropped_by : Left → Option ℕ → Bool → Bool → List ℕ
dropped_by l (Some after) replaced damaged =
    codes "dropped file " ++ (decimal l.file ++ (codes ": " ++ (decimal (l.before - after) ++ (codes " bytes behind the end of its log"
    ++ damage_mark damaged))))
dropped_by l None true damaged =
    codes "dropped file " ++ (decimal l.file ++ (codes " whole, " ++ (decimal l.before ++ codes " bytes: a snapshot took the place of this part of a catalog")))
dropped_by l None false damaged =
    codes "dropped file " ++ (decimal l.file ++ (codes " whole, " ++ (decimal l.before ++ (codes " bytes: nothing in it is of its log"
    ++ damage_mark damaged))))

abbrev pub drop_line : Left → Bool → Bool → List ℕ
drop_line l replaced damaged = dropped_by l l.after replaced damaged

-- ---- files that are of no log

abbrev pub stray_cause : Stray → List ℕ
stray_cause Short = codes "it is shorter than a header"
stray_cause Unreadable = codes "its header cannot be read"
stray_cause LaterVersion = codes "its header is of a later version"
stray_cause OfNobody = codes "no user names its tenant"
stray_cause NeverGivenOut = codes "the catalog of its tenant does not know its topic yet"
stray_cause Unfinished = codes "it is of a snapshot of a catalog that was not finished"
stray_cause OfNoTopic = codes "its topic or its partition is not there any more"

-- why a file of the folder at a path is left aside
abbrev pub stray_line : List ℕ → ℕ → Stray → List ℕ
stray_line path file stray = path_of path file ++ (codes ": stray: " ++ stray_cause stray)

-- how many files of each tenant are of topics that its catalog does not know yet
abbrev pub unknown_part : {A : Type 0} → String A × ℕ → List ℕ
unknown_part e = codes ", " ++ (decimal e.1 ++ (codes " of topics that the catalog of tenant " ++ (string_bytes e.0 ++ codes " does not know yet")))

-- how many files there are of all tenants
abbrev pub files_of_all : {A : Type 0} → List (String A × ℕ) → ℕ
files_of_all [] = 0
files_of_all (e ∷ es) = e.1 + files_of_all es

-- how many have a header of a later version, if any do
abbrev pub later_part : ℕ → List ℕ
later_part zero = []
later_part (suc n) = codes ", " ++ (decimal (suc n) ++ codes " with a header of a later version")

-- Why a start on the folder at a path is refused that so many files are in the way of, of which those of each tenant are of topics that its
-- catalog does not know yet.
abbrev pub stray_text : {A : Type 0} → List ℕ → ℕ → List (String A × ℕ) → List ℕ
stray_text path unfit unknown =
    codes "the folder " ++ (path ++ (codes " has " ++ (decimal unfit ++ codes " files that the settings do not fit")))
    ++ flat_map unknown_part unknown ++ later_part (unfit - files_of_all unknown)
    ++ codes ". Nothing was changed. Restore all files of a backup together into an empty folder, or start with --accept-strays to go on without them: they are kept in a folder of their own."
