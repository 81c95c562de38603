-- A file whose number is listed is there.
use Rattle.std.proofs.Common.{◌≡◌, ◌∙◌, ℕ, List, true, nat_eq, ap, sym}
use Rattle.std.specs.FinMap.{keys, contains_key-keys}
use Rattle.std.specs.Ordering.{nat_cmp, eq_by_cmp}
use Rattle.std.specs.Cmp.{unsigned_tied, nat_eq_equiv}
use Rattle.std.specs.List.{list_any}
use Rattle.kb_store.specs.Disk.{Disk, IsThere}
use Rattle.kb_survey.specs.Listed.{is_in}

pub is_there : (d : Disk) (listed : List ℕ) (file : ℕ) → listed ≡ keys d.table → is_in listed file ≡ true → IsThere d file
is_there d listed file same found =
    let alike : list_any (eq_by_cmp nat_cmp file) listed ≡ list_any (λ y. nat_eq y file) listed = λ i. list_any (λ y. (unsigned_tied file y ∙ nat_eq_equiv.symm file y) i) listed in
    contains_key-keys d.table file ∙ ap (list_any (eq_by_cmp nat_cmp file)) (sym same) ∙ alike ∙ found
