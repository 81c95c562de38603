-- What a start would lose of the files of a store, and how many files are in its way.
use Rattle.std.specs.Prelude.{◌≡◌, ◌+◌, ◌++◌, ◌==◌, ◌&&◌, ◌||◌, ℕ, Bool, false, not, List, [], ◌∷◌, drop, map, nat_lt, Option, Some, None}
use Rattle.std.specs.Prelude.{is_some, unwrap_or, if◌then◌else◌}
use Rattle.std.specs.FinMap.{keys}
use Rattle.std.specs.Str.{bytes_eq}
use Rattle.kb_store.specs.Disk.{Disk, bytes_of}
use Rattle.kb_batch.specs.Batch.{is_natural, natural}
use Rattle.kb_segment.specs.Header.{Header}
use Rattle.kb_survey.specs.declared.whole.Whole.{Whole}
use Rattle.kb_survey.specs.declared.stray.Stray.{Stray}
use Rattle.kb_survey.specs.declared.stray.Stray.TheVariants.{Unfinished, Unreadable}
use Rattle.kb_survey.specs.Listed.{is_in}
use Rattle.kb_survey.specs.Snapshot.{snapshot_end}
use Rattle.kb_survey.specs.Whole.{no_batches, whole_in}
use Rattle.kb_survey.specs.Stray.{is_unfit, stray_of}
use Rattle.kb_start.specs.declared.left.Left.{Left}
use Rattle.kb_start.specs.declared.losses.Loss.{Loss}
use Rattle.kb_start.specs.declared.losses.Opened.{Opened}
use Rattle.kb_start.specs.declared.losses.Surveyed.{Surveyed}
use Rattle.kb_topics.specs.declared.command.MoveStart.{MoveStart}
use Rattle.kb_start.specs.Left.{is_dropped, told}
use Rattle.kb_start.specs.Starts.{header_at, start_of}

-- the whole batches that stand in a file from a place on and end above a start, where it is there
abbrev pub whole_at : Disk → ℕ → ℕ → ℕ → Whole
whole_at d file place start = if is_in (keys d.table) file then whole_in start (drop place (bytes_of d file)) else no_batches

abbrev pub loss_above : Disk → ℕ → ℕ → ℕ → List Loss
loss_above d file place start =
    if nat_lt 0 (whole_at d file place start).batches
    then record { file = file; header = header_at d file; whole = whole_at d file place start } ∷ [] else []

-- What is known beside the files: tenants, and the starts that are recorded of the partitions of each.
pub record Known : Type 0 where
  pub names : List (List ℕ)
  pub starts : List (List MoveStart)

abbrev pub known_of : Opened → Known
known_of o = record { names = map (λ name. name.now) o.names.now; starts = map (λ of. of.items) o.starts.now }

-- a file, where whole batches stand in it from a place on and end above the start that is recorded
abbrev pub loss_at : Known → Disk → ℕ → ℕ → List Loss
loss_at k d file place = loss_above d file place (start_of k.names k.starts (header_at d file))

-- ---- catalogs that are in use

-- what a header says, where it is that of a catalog
abbrev pub catalog_by : Option Header → List Header
catalog_by None = []
catalog_by (Some h) = if is_natural 1 h.kind then h ∷ [] else []

-- of a file that an opening leaves, and that is none of the strays
abbrev pub catalog_at : Disk → List ℕ → Left → List Header
catalog_at d strays l = if is_some l.after && not (is_in strays l.file) then catalog_by (header_at d l.file) else []

-- of some files: those of the catalogs' generations that are in use
abbrev pub catalogs_in_use : Disk → List ℕ → List Left → List Header
catalogs_in_use d strays [] = []
catalogs_in_use d strays (l ∷ ls) = catalog_at d strays l ++ catalogs_in_use d strays ls

-- ---- what a snapshot took the place of

-- it is of a greater generation of the same tenant's catalog
abbrev pub supersedes : Header → Header → Bool
supersedes other h = bytes_eq other.tenant h.tenant && nat_lt (natural h.generation) (natural other.generation)

-- one of them is
abbrev pub supersede : List Header → Header → Bool
supersede [] h = false
supersede (other ∷ others) h = supersedes other h || supersede others h

-- A file of a tenant's catalog of which a greater generation is in use.
abbrev pub is_superseded : List Header → Option Header → Bool
is_superseded used None = false
is_superseded used (Some h) = is_natural 1 h.kind && supersede used h

-- ---- what is lost of files that are dropped

-- a file that is gone, or has another length, where whole batches of it are gone that no snapshot took the place of
abbrev pub loss_of : Known → List Header → Disk → Left → List Loss
loss_of k used d l =
    if is_dropped l && not (is_superseded used (header_at d l.file)) then loss_at k d l.file (unwrap_or l.after 0) else []

-- those of some files
abbrev pub losses_of : Known → List Header → Disk → List Left → List Loss
losses_of k used d [] = []
losses_of k used d (l ∷ ls) = loss_of k used d l ++ losses_of k used d ls

-- what is in use behind an opening
abbrev pub used_by : Opened → Disk → List Header
used_by o d = catalogs_in_use d o.strays.now o.files.now

-- those of an opening's
abbrev pub dropped_losses : Opened → Disk → List Loss
dropped_losses o d = losses_of (known_of o) (used_by o d) d o.files.now

-- ---- files that are of no log

-- why a file is of no log, where it is there
abbrev pub stray_at : Disk → List (List ℕ) → List ℕ → ℕ → Option Stray
stray_at d names nexts file = if is_in (keys d.table) file then Some (stray_of (bytes_of d file) names nexts) else None

-- a header is that of the first file of a catalog's generation
abbrev pub begins_catalog : Header → Bool
begins_catalog h = is_natural 1 h.kind && is_natural 0 h.base

-- of a lower generation of the same tenant's catalog
abbrev pub is_below : Header → Header → Bool
is_below h other = begins_catalog other && supersedes h other

-- one of them is
abbrev pub has_lower : List Header → Header → Bool
has_lower [] h = false
has_lower (other ∷ others) h = is_below h other || has_lower others h

-- of the same generation of the same tenant's catalog
abbrev pub is_of_same : Header → Header → Bool
is_of_same h other = bytes_eq other.tenant h.tenant && natural other.generation == natural h.generation

abbrev pub begins : Header → Header → Bool
begins h first = begins_catalog first && is_of_same h first

-- how far the snapshot reaches whose first batch stands at a place of a file
abbrev pub end_at : Disk → ℕ → ℕ → ℕ
end_at d file place = if is_in (keys d.table) file then snapshot_end (drop place (bytes_of d file)) else 0

-- how far the snapshot of a generation reaches, by the header of the file of the generation's number
abbrev pub end_behind : Disk → Header → Option Header → ℕ
end_behind d h None = 0
end_behind d h (Some first) = if begins h first then end_at d (natural h.generation) first.size else 0

-- Up to which offset a generation says again what the catalog in use says. That is its snapshot, where a lower generation is in use, the
-- first file of which is there. A generation has the number of the file that it begins with.
abbrev pub copied_to : List Header → Disk → Option Header → ℕ
copied_to used d None = 0
copied_to used d (Some h) = if has_lower used h then end_behind d h (header_at d (natural h.generation)) else 0

-- Where its header cannot be read its whole batches would be gone. Of a generation of a catalog that is not in use all would be that the
-- catalog in use does not say.
abbrev pub stray_loss : Known → List Header → Disk → ℕ → Option Stray → List Loss
stray_loss k used d file (Some Unreadable) = loss_at k d file 0
stray_loss k used d file (Some Unfinished) = loss_above d file 0 (copied_to used d (header_at d file))
stray_loss k used d file stray = []

abbrev pub stray_losses : Known → List Header → Disk → List ℕ → List ℕ → List Loss
stray_losses k used d nexts [] = []
stray_losses k used d nexts (file ∷ files) = stray_loss k used d file (stray_at d k.names nexts file) ++ stray_losses k used d nexts files

-- with one more, where it is in the way
abbrev pub with_stray : ℕ → Option Stray → ℕ
with_stray unfit None = unfit
with_stray unfit (Some stray) = if is_unfit stray then told (unfit + 1) else unfit

-- how many are in the way, with those of some files
abbrev pub unfit_after : Disk → List (List ℕ) → List ℕ → ℕ → List ℕ → ℕ
unfit_after d names nexts unfit [] = unfit
unfit_after d names nexts unfit (file ∷ files) = unfit_after d names nexts (with_stray unfit (stray_at d names nexts file)) files

-- A survey goes on with the files that are of no log: with their losses, and with those that are in the way.
pub record AddsStrays (o : Opened) (d : Disk) (before after : Surveyed) : Type 0 where
  pub losses : after.losses.items ≡ before.losses.items ++ stray_losses (known_of o) (used_by o d) d o.next_instances.now o.strays.now
  pub unfit : after.strays.unfit ≡ unfit_after d (known_of o).names o.next_instances.now before.strays.unfit o.strays.now
