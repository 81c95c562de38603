-- What other tenants have once a tenant's files are removed.
use Rattle.std.proofs.Common.{◌≡◌, ◌∙◌, ◌||◌, ℕ, Bool, true, false, not, cond, List, [], ◌∷◌, ap, refl, sym, subst}
use Rattle.std.specs.Prelude.{filter, if◌then◌else◌, Option, Some, None, bytes_eq, is_some, map, get_or, unwrap_or}
use Rattle.std.specs.Cmp.{nat_cmp_total}
use Rattle.std.specs.List.{All, AllByRecursion}
use Rattle.std.specs.Ordering.{eq_by_cmp, is_eq, nat_cmp}
use Rattle.std.specs.declared.cmp.Ordering.{Ordering}
use Rattle.std.specs.declared.cmp.Ordering.TheVariants.{Less, Equal, Greater}
use Rattle.std.specs.FinMap.{get, keys, remove, get-remove, nat_cmp-IsAntisymmetric}
use Rattle.std.proofs.lemmas.List.Elements.{All-from_recursion, All-map}
use Rattle.std.proofs.lemmas.Slice.Eq.{bytes_eq-Decides}
use Rattle.kb_store.specs.Disk.{Files}
use Rattle.kb_segment.specs.Header.{Header, header_in}
use Rattle.kb_segment_log.specs.SegmentLog.{bytes_at}
use Rattle.kb_opening.specs.Opened.{IsOpened}
use Rattle.kb_opening.specs.Owners.{is_of_catalog, is_of_partition, passes, says}
use Rattle.kb_topics.specs.Known.{Known}
use Rattle.kb_tenant_state.specs.Logs.{Logs}
use Rattle.kb_survey.proofs.Keys.{get_where, keys_where_number, same_keys, where_number}
use Rattle.kb_start.specs.Deleted.{without_files}
use Rattle.kb_move.specs.Alike.{AreAlike, Opens, is_named, owners_of}
use Rattle.kb_move.proofs.Alike.{opened_alike}
use Rattle.kb_move.proofs.Joined.{filter_narrow, of_catalog_named, of_partition_named, same_here, same_pairs, same_there}

-- ---- what is left

-- whether a number is one of those that go
abbrev goes : List ℕ → ℕ → Bool
goes [] q = false
goes (n ∷ ns) q = goes ns q || eq_by_cmp nat_cmp q n

same_number : (q n : ℕ) → eq_by_cmp nat_cmp q n ≡ true → q ≡ n
same_number q n e = by (nat_cmp q n) refl e
  where
    by : (o : Ordering) → nat_cmp q n ≡ o → is_eq o ≡ true → q ≡ n
    by Less c t = absurd cc
    by Equal c t = nat_cmp-IsAntisymmetric q n c
    by Greater c t = absurd cc

get_left : (ns : List ℕ) (files : Files) (q : ℕ) → get (without_files ns files) q ≡ cond (goes ns q) None (get files q)
get_left [] files q = refl
get_left (n ∷ ns) files q = get_left ns (remove files n) q ∙ ap (cond (goes ns q) None) (get-remove nat_cmp_total files n q) ∙ both (goes ns q) (eq_by_cmp nat_cmp q n) (get files q)
  where
    both : (a b : Bool) (o : Option (List ℕ)) → cond a None (cond b None o) ≡ cond (a || b) None o
    both true b o = refl
    both false b o = refl

keys_left : (ns : List ℕ) (files : Files) → keys (without_files ns files) ≡ filter (λ q. not (goes ns q)) (keys files)
keys_left ns files =
    same_keys (without_files ns files) (where_number (λ q. not (goes ns q)) files)
    (λ q. ap is_some (get_left ns files q ∙ other (goes ns q) (get files q) ∙ sym (get_where (λ q. not (goes ns q)) files q)))
    ∙ keys_where_number (λ q. not (goes ns q)) files
  where
    other : (a : Bool) (o : Option (List ℕ)) → cond a None o ≡ cond (not a) o None
    other true o = refl
    other false o = refl

bytes_left : (ns : List ℕ) (files : Files) (q : ℕ) → not (goes ns q) ≡ true → bytes_at (without_files ns files) q ≡ bytes_at files q
bytes_left ns files q stays = ap (λ o. unwrap_or o []) (get_left ns files q ∙ by (goes ns q) stays)
  where
    by : (a : Bool) → not a ≡ true → cond a None (get files q) ≡ get files q
    by true e = absurd cc
    by false e = refl

all_filtered : (p : ℕ → Bool) (P : ℕ → Type 0) → ((q : ℕ) → p q ≡ true → P q) → (qs : List ℕ) → AllByRecursion P (filter p qs)
all_filtered p P so [] = tt
all_filtered p P so (q ∷ qs) = by (all_filtered p P so qs) (p q) refl
  where
    by : AllByRecursion P (filter p qs) → (b : Bool) → p q ≡ b → AllByRecursion P (if◌then◌else◌ b (q ∷ filter p qs) (filter p qs))
    by rest true e = (so q e, rest)
    by rest false e = rest

-- ---- another tenant

module _ (files : Files) (ns : List ℕ) (name other : List ℕ) (apart : bytes_eq name other ≡ false)
    (named : AllByRecursion (λ q. says files (is_named name) q ≡ true) ns) where
  abbrev left : Files
  left = without_files ns files

  not_both : (h : Header) → is_named other h ≡ true → is_named name h ≡ true → ⊥
  not_both h a b =
      let x : h.tenant ≡ name = (bytes_eq-Decides h.tenant name).0 b in
      let same : bytes_eq name other ≡ true = ap (λ t. bytes_eq t other) (sym x) ∙ a in
      let no : true ≡ false = sym same ∙ apart in absurd cc

  unlike : (test : Header → Bool) → ((h : Header) → test h ≡ true → is_named other h ≡ true)
      → (o : Option Header) → passes test o ≡ true → passes (is_named name) o ≡ true → ⊥
  unlike test so None a b = absurd cc
  unlike test so (Some h) a b = not_both h (so h a) b

  goes_named : (ms : List ℕ) → AllByRecursion (λ q. says files (is_named name) q ≡ true) ms → (q : ℕ) → goes ms q ≡ true → says files (is_named name) q ≡ true
  goes_named [] all q e = absurd cc
  goes_named (m ∷ ms) all q e = by (goes_named ms all.1 q) (goes ms q) (eq_by_cmp nat_cmp q m) refl refl e
    where
      by : (goes ms q ≡ true → says files (is_named name) q ≡ true) → (a b : Bool) → goes ms q ≡ a → eq_by_cmp nat_cmp q m ≡ b → (a || b) ≡ true
          → says files (is_named name) q ≡ true
      by rest true b x y e = rest x
      by rest false true x y e = subst (λ r. says files (is_named name) r ≡ true) (sym (same_number q m y)) all.0
      by rest false false x y e = absurd cc

  module _ (test : Header → Bool) (so : (h : Header) → test h ≡ true → is_named other h ≡ true) where
    stays : (q : ℕ) → says files test q ≡ true → not (goes ns q) ≡ true
    stays q e = by (goes ns q) refl
      where
        by : (a : Bool) → goes ns q ≡ a → not a ≡ true
        by true g = absurd (unlike test so (header_in (bytes_at files q)) e (goes_named ns named q g))
        by false g = refl

    same_files : filter (says files test) (keys files) ≡ filter (says files test) (keys left)
    same_files =
        sym (ap (filter (says files test)) (keys_left ns files)
        ∙ filter_narrow (says files test) (λ q. not (goes ns q)) stays (keys files))

  others_here : owners_of files (keys files) other ≡ owners_of files (keys left) other
  others_here = λ j. record {
    catalog = λ g. same_files (is_of_catalog other g) (of_catalog_named other g) j;
    partition = λ i p. same_files (is_of_partition other i p) (of_partition_named other i p) j;
  }

  left_alike : AreAlike files left (same_pairs (keys left))
  unfolding same_pairs
  left_alike = record {
    bytes = All-map (λ (p : ℕ × ℕ). bytes_at left p.1 ≡ bytes_at files p.0) (λ m. (m, m)) (keys left)
        (All-from_recursion (λ m. bytes_at left m ≡ bytes_at files m) (keys left)
        (subst (AllByRecursion (λ m. bytes_at left m ≡ bytes_at files m)) (sym (keys_left ns files))
        (all_filtered (λ q. not (goes ns q)) (λ m. bytes_at left m ≡ bytes_at files m) (λ q e. bytes_left ns files q e) (keys files))));
    order = All-map (λ (p : ℕ × ℕ). All (λ (q : ℕ × ℕ). nat_cmp p.1 q.1 ≡ nat_cmp p.0 q.0) (map (λ m. (m, m)) (keys left))) (λ m. (m, m)) (keys left)
        (λ k d lt. All-map (λ (q : ℕ × ℕ). nat_cmp (get_or (keys left) k d) q.1 ≡ nat_cmp (get_or (keys left) k d) q.0) (λ m. (m, m)) (keys left) (λ j e le. refl));
  }

  opens_left : (k : Known) (logs : Logs) → Opens files other k logs → Opens left other k logs
  opens_left k logs o =
      let here = subst (λ w. IsOpened files w k logs) others_here o in
      let paired = subst (λ ms. IsOpened files (owners_of files ms other) k logs) (sym (same_here (keys left))) here in
      let there = opened_alike files left (same_pairs (keys left)) other k logs left_alike paired in
      subst (λ ms. IsOpened left (owners_of left ms other) k logs) (same_there (keys left)) there

pub others_open : (files : Files) (ns tenant other : List ℕ) (k : Known) (logs : Logs) → bytes_eq tenant other ≡ false
    → AllByRecursion (λ n. says files (is_named tenant) n ≡ true) ns → Opens files other k logs → Opens (without_files ns files) other k logs
others_open files ns tenant other k logs apart named = opens_left files ns tenant other apart named k logs
