-- The headers of the files of a directory that was read name the logs of their owners.
use Rattle.std.proofs.Common.{◌≡◌, ◌∙◌, ◌⊎◌, ⊎_elim, ℕ, List, true, Option, Some, None, refl, sym, ap, subst, eqb-true}
use Rattle.std.specs.Prelude.{ℤ, pos, negsuc, ◌&&◌, slice_get}
use Rattle.std.specs.List.{Contains}
use Rattle.std.specs.Str.{bytes_eq}
use Rattle.std.proofs.lemmas.Bool.{and_parts, false≢true}
use Rattle.std.proofs.lemmas.Slice.Eq.{bytes_eq-Decides}
use Rattle.kb_store.specs.Disk.{Files}
use Rattle.kb_batch.specs.Batch.{is_natural}
use Rattle.kb_segment.specs.Header.{Header, is_legal, is_partition, is_meta, is_not_negative, header_in}
use Rattle.kb_segment_log.specs.SegmentLog.{bytes_at, Names, IsNamed}
use Rattle.kb_topics.specs.Catalog.{catalog_identity}
use Rattle.kb_tenant_state.specs.Partitions.{partition_identity}
use Rattle.kb_opening.specs.Owners.{is_of_catalog, is_of_partition, passes, says}
use Rattle.kb_opening.specs.Directory.{files_at, IsDirectory}
use Rattle.kb_opening.specs.declared.directory.Directory.{Directory}
use Rattle.kb_opening.specs.declared.owner.Owner.TheVariants.{Catalog, Partition}
use Rattle.kb_restart.specs.Restart.{AreOwnedNamed}
use Rattle.kb_restart.proofs.Read.{of_filter}
use Rattle.kb_restart.proofs.Restored.{all_from}
use Rattle.kb_restart.proofs.Strays.{legal_in, one_of_both}

-- ---- one header

pub number_is : (n : ℕ) (z : ℤ) → is_natural n z ≡ true → z ≡ pos n
number_is n (pos m) e = ap pos (eqb-true m n e)
number_is n (negsuc m) e = absurd (false≢true e)

pub not_both : (z : ℤ) → is_natural 0 z ≡ true → is_natural 1 z ≡ true → ⊥
not_both z none one = let no : pos 0 ≡ pos 1 = sym (number_is 0 z none) ∙ number_is 1 z one in absurd cc

-- a catalog's file is of no topic
of_no_topic : (h : Header) → is_legal h ≡ true → is_natural 1 h.kind ≡ true → (h.instance ≡ pos 0) × (h.partition ≡ pos 0)
of_no_topic h legal kind = ⊎_elim
    (λ (is : is_partition h.kind h.instance h.partition h.generation ≡ true).
    let three = and_parts ((is_natural 0 h.kind && is_not_negative h.instance) && is_not_negative h.partition) (is_natural 0 h.generation) is in
    let two = and_parts (is_natural 0 h.kind && is_not_negative h.instance) (is_not_negative h.partition) three.0 in
    absurd (not_both h.kind (and_parts (is_natural 0 h.kind) (is_not_negative h.instance) two.0).0 kind))
    (λ (is : is_meta h.kind h.instance h.partition h.generation ≡ true).
    let three = and_parts ((is_natural 1 h.kind && is_natural 0 h.instance) && is_natural 0 h.partition) (is_not_negative h.generation) is in
    let two = and_parts (is_natural 1 h.kind && is_natural 0 h.instance) (is_natural 0 h.partition) three.0 in
    (number_is 0 h.instance (and_parts (is_natural 1 h.kind) (is_natural 0 h.instance) two.0).1, number_is 0 h.partition two.1))
    (one_of_both h legal)

names_catalog : (name : List ℕ) (g size : ℕ) (h : Header) → is_legal h ≡ true → is_of_catalog name g h ≡ true → Names (catalog_identity name (pos g) size) h
names_catalog name g size h legal is =
    let two = and_parts (bytes_eq h.tenant name && is_natural 1 h.kind) (is_natural g h.generation) is in
    let one = and_parts (bytes_eq h.tenant name) (is_natural 1 h.kind) two.0 in
    let none = of_no_topic h legal one.1 in
    record {
      tenant = (bytes_eq-Decides h.tenant name).0 one.0;
      kind = number_is 1 h.kind one.1;
      instance = none.0;
      partition = none.1;
      generation = number_is g h.generation two.1;
    }

names_partition : (name : List ℕ) (i p size : ℕ) (h : Header) → is_of_partition name i p h ≡ true → Names (partition_identity name i p size) h
names_partition name i p size h is =
    let four = and_parts (((bytes_eq h.tenant name && is_natural 0 h.kind) && is_natural i h.instance) && is_natural p h.partition) (is_natural 0 h.generation) is in
    let three = and_parts ((bytes_eq h.tenant name && is_natural 0 h.kind) && is_natural i h.instance) (is_natural p h.partition) four.0 in
    let two = and_parts (bytes_eq h.tenant name && is_natural 0 h.kind) (is_natural i h.instance) three.0 in
    let one = and_parts (bytes_eq h.tenant name) (is_natural 0 h.kind) two.0 in
    record {
      tenant = (bytes_eq-Decides h.tenant name).0 one.0;
      kind = number_is 0 h.kind one.1;
      instance = number_is i h.instance two.1;
      partition = number_is p h.partition three.1;
      generation = number_is 0 h.generation four.1;
    }

-- ---- one file

headed_catalog : (files : Files) (name : List ℕ) (g size n : ℕ) → says files (is_of_catalog name g) n ≡ true → IsNamed (catalog_identity name (pos g) size) files n
headed_catalog files name g size n is = by (header_in (bytes_at files n)) refl
  where
    by : (found : Option Header) → header_in (bytes_at files n) ≡ found → IsNamed (catalog_identity name (pos g) size) files n
    by None e = absurd (false≢true (sym (ap (passes (is_of_catalog name g)) e) ∙ is))
    by (Some h) e = record { header = h; read = e; names = names_catalog name g size h (legal_in (bytes_at files n) h e) (sym (ap (passes (is_of_catalog name g)) e) ∙ is) }

headed_partition : (files : Files) (name : List ℕ) (i p size n : ℕ) → says files (is_of_partition name i p) n ≡ true → IsNamed (partition_identity name i p size) files n
headed_partition files name i p size n is = by (header_in (bytes_at files n)) refl
  where
    by : (found : Option Header) → header_in (bytes_at files n) ≡ found → IsNamed (partition_identity name i p size) files n
    by None e = absurd (false≢true (sym (ap (passes (is_of_partition name i p)) e) ∙ is))
    by (Some h) e = record { header = h; read = e; names = names_partition name i p size h (sym (ap (passes (is_of_partition name i p)) e) ∙ is) }

-- ---- all of a directory

pub all_headed : (files : Files) (names : List (List ℕ)) (numbers : List ℕ) (d : Directory) → IsDirectory files names numbers d → (size : ℕ) → AreOwnedNamed names size files d
all_headed files names numbers d dir size t name at (Catalog u g) mine =
    all_from (IsNamed (catalog_identity name (pos g) size) files) (files_at (Catalog u g) d) (λ n has.
    headed_catalog files name g size n
    (of_filter (says files (is_of_catalog name g)) numbers n (subst (λ ns. Contains ns n) (dir.catalogs u g name (ap (λ v. slice_get names v) mine ∙ at)) has)).1)
all_headed files names numbers d dir size t name at (Partition u i p) mine =
    all_from (IsNamed (partition_identity name i p size) files) (files_at (Partition u i p) d) (λ n has.
    headed_partition files name i p size n
    (of_filter (says files (is_of_partition name i p)) numbers n (subst (λ ns. Contains ns n) (dir.partitions u i p name (ap (λ v. slice_get names v) mine ∙ at)) has)).1)
