-- Files by their lengths, and by their bytes: where a disk is honest both name the same.
use Rattle.std.proofs.Common.{◌≡◌, ◌∙◌, ◌<◌, ◌≤◌, ◌&&◌, ◌==◌, ℕ, Bool, true, false, T, cond, List, [], ◌∷◌, length, map, ap, refl, sym, subst, arith}
use Rattle.std.specs.Prelude.{Option, Some, None, option_map, unwrap_or, filter, bytes_eq}
use Rattle.std.specs.Ordering.{is_eq, is_lt, nat_cmp}
use Rattle.std.specs.Cmp.{nat_cmp_total}
use Rattle.std.specs.List.{AllByRecursion}
use Rattle.std.proofs.lemmas.Bool.{eqb-true}
use Rattle.std.specs.FinMap.{FinMap, entries, entries_sorted, entries-from_sorted, find, from_sorted, get, get-entries, get-from_sorted, keys, nat_cmp-IsAntisymmetric, same_map}
use Rattle.std.specs.FinMap.Entries.{below_all, is_sorted}
use Rattle.kb_store.specs.Disk.{Disk, Files, IsLawfulDisk, Table}
use Rattle.kb_log.specs.Shelf.{one_above}
use Rattle.kb_segment.specs.Header.{Header, header_in}
use Rattle.kb_segment_log.specs.SegmentLog.{bytes_at}
use Rattle.kb_opening.specs.Owners.{passes, says}
use Rattle.kb_topics.specs.Known.{Known}
use Rattle.kb_tenant_state.specs.Logs.{Logs}
use Rattle.kb_move.specs.Alike.{Opens, is_named, with_owned_files, owned_in}
use Rattle.kb_move.specs.Copied.{copied, first_number, is_owned, names, owned, with_files_from}
use Rattle.kb_move.proofs.Joined.{opens_beside, opens_joined}

-- ---- the numbers of both

abbrev measured : List (ℕ × List ℕ) → List (ℕ × ℕ)
measured es = map (λ e. (e.0, length e.1)) es

find_measured : (q : ℕ) (es : List (ℕ × List ℕ)) → find nat_cmp q (measured es) ≡ option_map length (find nat_cmp q es)
find_measured q [] = refl
find_measured q (e ∷ es) = by (is_eq (nat_cmp q e.0)) (find_measured q es)
  where
    by : (b : Bool) → find nat_cmp q (measured es) ≡ option_map length (find nat_cmp q es)
        → cond b (Some (length e.1)) (find nat_cmp q (measured es)) ≡ option_map length (cond b (Some e.1) (find nat_cmp q es))
    by true rest = refl
    by false rest = rest

below_measured : (x : ℕ) (es : List (ℕ × List ℕ)) → below_all nat_cmp x (measured es) ≡ below_all nat_cmp x es
below_measured x [] = refl
below_measured x (e ∷ es) = ap (λ b. is_lt (nat_cmp x e.0) && b) (below_measured x es)

sorted_measured : (es : List (ℕ × List ℕ)) → is_sorted nat_cmp (measured es) ≡ is_sorted nat_cmp es
sorted_measured [] = refl
sorted_measured (e ∷ es) = λ i. below_measured e.0 es i && sorted_measured es i

numbers_measured : (es : List (ℕ × List ℕ)) → map (λ e. e.0) (measured es) ≡ map (λ e. e.0) es
numbers_measured [] = refl
numbers_measured (e ∷ es) = ap (λ xs. e.0 ∷ xs) (numbers_measured es)

module _ (d : Disk) (lawful : IsLawfulDisk d) (honest : d.honest) where
  abbrev lengths : Table
  lengths = from_sorted (measured (entries d.files))

  sorted : T (is_sorted nat_cmp (measured (entries d.files)))
  sorted = subst T (sym (sorted_measured (entries d.files))) (entries_sorted d.files)

  found : (file : ℕ) → get lengths file ≡ option_map length (get d.files file)
  found file =
      get-from_sorted nat_cmp (measured (entries d.files)) file sorted
      ∙ find_measured file (entries d.files)
      ∙ ap (option_map length) (sym (get-entries d.files file))

  -- the table and the files have the same numbers
  pub same_numbers : keys d.table ≡ keys d.files
  same_numbers =
      ap (λ (t : Table). keys t) (same_map nat_cmp_total nat_cmp-IsAntisymmetric d.table lengths (λ file. lawful.lengths honest file ∙ sym (found file)))
      ∙ ap (map (λ e. e.0)) (entries-from_sorted nat_cmp (measured (entries d.files)) sorted)
      ∙ numbers_measured (entries d.files)

-- ---- whose files they are

named_so : (tenant : List ℕ) (h : Option Header) → names tenant h ≡ passes (is_named tenant) h
named_so tenant None = refl
named_so tenant (Some h) = refl

owned_so : (tenant : List ℕ) (d : Disk) (ns : List ℕ) → filter (is_owned tenant d) ns ≡ filter (says d.files (is_named tenant)) ns
owned_so tenant d ns = ap (λ p. filter p ns) (λ i n. named_so tenant (header_in (bytes_at d.files n)) i)

-- a tenant's files are those whose header names it
pub owned_is : (tenant : List ℕ) (d : Disk) → IsLawfulDisk d → d.honest → owned tenant d ≡ owned_in tenant d.files
owned_is tenant d lawful honest =
    ap (filter (is_owned tenant d)) (same_numbers d lawful honest) ∙ owned_so tenant d (keys d.files)

-- ---- the copy

-- a list that is told to be empty is
pub none_told : {X : Type 0} (xs : List X) (n : ℕ) → n ≡ length xs → true ≡ (n == 0) → xs ≡ []
none_told [] n is told = refl
none_told (x ∷ xs) n is told = absurd (omega (arith, is, eqb-true n 0 (sym told)))

all_under : (ns : List ℕ) (n : ℕ) → one_above ns ≤ n → AllByRecursion (λ m. m < n) ns
all_under [] n le = tt
all_under (m ∷ ns) n le = (omega (arith, le), all_under ns n (omega (arith, le)))

module _ (tenant : List ℕ) (from to : Disk) (here : IsLawfulDisk from) (there : IsLawfulDisk to) (true_here : from.honest) (true_there : to.honest) where
  is_joined : copied tenant from to ≡ with_owned_files (first_number from to) tenant from.files to.files
  is_joined = ap (λ ns. with_files_from (first_number from to) (map (bytes_at from.files) ns) to.files) (owned_is tenant from here true_here)

  under : AllByRecursion (λ m. m < first_number from to) (keys to.files)
  under = subst (AllByRecursion (λ m. m < first_number from to)) (same_numbers to there true_there)
      (all_under (keys to.table) (first_number from to) (omega arith))

  pub copy_opens : owned tenant to ≡ [] → (k : Known) (logs : Logs) → Opens from.files tenant k logs → Opens (copied tenant from to) tenant k logs
  copy_opens alone k logs opens = subst (λ f. Opens f tenant k logs) (sym is_joined)
      (opens_joined from.files to.files tenant (first_number from to) k logs under (sym (owned_is tenant to there true_there) ∙ alone) opens)

  pub copy_spares : (other : List ℕ) → bytes_eq tenant other ≡ false → (k : Known) (logs : Logs) → Opens to.files other k logs → Opens (copied tenant from to) other k logs
  copy_spares other apart k logs opens = subst (λ f. Opens f other k logs) (sym is_joined)
      (opens_beside from.files to.files tenant other (first_number from to) k logs under apart opens)
