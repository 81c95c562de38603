-- What the files come to that are left, when they are opened again.
use Rattle.std.proofs.Common.{◌≡◌, ◌∙◌, ◌⊎◌, ◌+◌, ◌++◌, inl, inr, ⊎_elim, ℕ, zero, suc, Bool, true, false, cond, List, [], ◌∷◌, Some, refl, sym, ap, subst, arith, length}
use Rattle.std.specs.Prelude.{nat_eq, pos, slice_get, is_some, filter, ◌||◌, IsPermutation}
use Rattle.std.specs.FinMap.{get, keys, contains_key-keys}
use Rattle.std.specs.List.{All, AllByRecursion, Contains, IsDistinct, list_any}
use Rattle.std.specs.Ordering.{nat_cmp, eq_by_cmp}
use Rattle.std.specs.Cmp.{unsigned_tied, nat_eq_equiv}
use Rattle.std.proofs.lemmas.Bool.{cases_lt, false≢true, eqb-true}
use Rattle.std.proofs.lemmas.List.Elements.{All-contains, All-filter}
use Rattle.std.proofs.lemmas.List.Sorted.{IsPermutation-refl, IsPermutation-sym, IsPermutation-trans, IsPermutation-cons, IsPermutation-middle, Contains-permutation}
use Rattle.std.proofs.lemmas.Map.Keys.{IsDistinct-tail}
use Rattle.kb_store.specs.Disk.{Disk, Table, Files, IsThere, Keeps}
use Rattle.kb_batch.specs.Batch.{natural}
use Rattle.kb_segment.specs.Header.{Header}
use Rattle.kb_segment_log.specs.SegmentLog.{Clears}
use Rattle.kb_segment_log.specs.Chain.{ComesTo, remaining, KeepsHeaders}
use Rattle.kb_segment_log.specs.declared.log.SegmentLog.{SegmentLog}
use Rattle.kb_segment_log.proofs.Comes.{kept_headers, headers_then}
use Rattle.kb_segment_log.proofs.Opened.{distinct_moved, head_apart}
use Rattle.kb_segment_log.proofs.Remaining.{all_there, permutation_filter}
use Rattle.kb_topics.specs.Known.{Known}
use Rattle.kb_tenant_state.specs.Logs.{Logs}
use Rattle.kb_tenant_state.specs.declared.parts.Parts.{Parts}
use Rattle.kb_tenant_api.specs.Hosted.{kept_of}
use Rattle.kb_opening.specs.Opened.{Owners, IsOpened, TenantLosesNothing, remaining_of}
use Rattle.kb_opening.specs.Owners.{says, passes, is_of_catalog, is_of_partition}
use Rattle.kb_opening.specs.Tenant.{owners_in, AreListed, IsOfTenant}
use Rattle.kb_opening.specs.declared.directory.Directory.{Directory}
use Rattle.kb_opening.specs.declared.owner.Owner.TheVariants.{Catalog, Partition}
use Rattle.kb_opening.proofs.Lost.{of_filter, remaining_same, chain_moved, known_moved}
use Rattle.kb_opening.proofs.LostTopics.{owner_there}
use Rattle.kb_restart.specs.Restart.{owners_of, AreReopened, AreRestored, ComeToTheSame, IsOfFirst, NamedLoseNothing, NoneLosesAny}
use Rattle.kb_restart.proofs.Listed.{all_listed, listed_apart}
use Rattle.kb_opening.proofs.Apart.{tenants_apart}
use Rattle.kb_restart.proofs.Read.{of_filter as filtered}
use Rattle.kb_restart.proofs.Restored.{opened_stays, first_had, no_other}

-- ---- of some owners' files

-- each list is the same
owners_with : (of of' : Owners) → ((h : ℕ) → of'.catalog h ≡ of.catalog h) → ((i p : ℕ) → of'.partition i p ≡ of.partition i p) → of' ≡ of
owners_with of of' catalog partition = λ k. record { catalog = λ h. catalog h k; partition = λ i p. partition i p k }

module _ (owns : ℕ → Type 0) (of : Owners) (catalog : (h n : ℕ) → Contains (of.catalog h) n → owns n → ⊥) (partition : (i p n : ℕ) → Contains (of.partition i p) n → owns n → ⊥) where
  far_else : (d e : Disk) → Clears owns d e → remaining_of e.table of ≡ remaining_of d.table of
  far_else d e c = owners_with (remaining_of d.table of) (remaining_of e.table of)
      (λ h. remaining_same d.table e.table (of.catalog h) (λ n has. c.lengths n (catalog h n has)))
      (λ i p. remaining_same d.table e.table (of.partition i p) (λ n has. c.lengths n (partition i p n has)))

  pub tenant_then : (d e f : Disk) → Clears owns e f → f.honest → TenantLosesNothing of d e → TenantLosesNothing of d f
  tenant_then d e f c h lost k logs o =
      subst (λ (x : Owners). IsOpened f.files x k logs) (sym (far_else e f c))
      (opened_stays e.files f.files (remaining_of e.table of)
      (λ j n has. c.contents h n (catalog j n (of_filter (λ m. is_some (get e.table m)) (of.catalog j) n has)))
      (λ i p n has. c.contents h n (partition i p n (of_filter (λ m. is_some (get e.table m)) (of.partition i p) n has))) k logs (lost k logs o))

  pub tenant_from : (d e f : Disk) → Clears owns d e → e.honest → TenantLosesNothing of e f → TenantLosesNothing of d f
  tenant_from d e f c h lost k logs o = lost k logs (opened_stays d.files e.files of (λ j n has. c.contents h n (catalog j n has)) (λ i p n has. c.contents h n (partition i p n has)) k logs o)

-- where nothing changes
pub tenant_still : (of : Owners) (d : Disk) → ((h : ℕ) → All (λ n. IsThere d n) (of.catalog h)) → ((i p : ℕ) → All (λ n. IsThere d n) (of.partition i p)) → TenantLosesNothing of d d
tenant_still of d catalog partition k logs o =
    subst (λ (x : Owners). IsOpened d.files x k logs) (sym (owners_with of (remaining_of d.table of) (λ h. all_there d.table (of.catalog h) (catalog h)) (λ i p. all_there d.table (of.partition i p) (partition i p)))) o

pub tenant_kept : (of : Owners) (d e f : Disk) → Keeps d e → e.honest → TenantLosesNothing of e f → TenantLosesNothing of d f
tenant_kept of d e f kept h lost k logs o = lost k logs (subst (λ (x : Files). IsOpened x of k logs) (sym (kept.files h)) o)

pub tenant_after : (of : Owners) (d e f : Disk) → Keeps e f → f.honest → TenantLosesNothing of d e → TenantLosesNothing of d f
tenant_after of d e f kept h lost k logs o =
    subst (λ (t : Table). IsOpened f.files (remaining_of t of) k logs) (sym kept.table) (subst (λ (x : Files). IsOpened x (remaining_of e.table of) k logs) (sym (kept.files h)) (lost k logs o))

-- a store that is only read
pub named_still : (numbers : List ℕ) (names : List (List ℕ)) (d e : Disk) → All (λ n. IsThere d n) numbers → Keeps d e → e.honest → NamedLoseNothing numbers names d e
named_still numbers names d e there kept h t name at =
    let among : (p : ℕ → Bool) → All (λ n. IsThere d n) (filter p numbers) = λ p. All-filter p (λ n. IsThere d n) numbers there in
    let of = owners_of d.files numbers name in
    tenant_after of d d e kept h (tenant_still of d (λ g. among (says d.files (is_of_catalog name g))) (λ i p. among (says d.files (is_of_partition name i p))))

-- ---- of the tenants of a directory

pub none_changed : (had : Directory) (d : Disk) (next : ℕ) → AreListed had d next → NoneLosesAny had d d
none_changed had d next listed t = tenant_still (owners_in had t) d (λ g. owner_there had d next listed (Catalog t g)) (λ i p. owner_there had d next listed (Partition t i p))

module _ (old : Disk) (had : Directory) (ps : List (Parts SegmentLog)) (mid : Disk) (next : ℕ) (has : Directory) (listed : AreListed had old next) (before : AreRestored old had ps mid next has) where
  -- one more is opened, or refused
  pub tenants_lost : (now : Disk) → Clears (IsOfTenant has (length ps)) mid now → NoneLosesAny had old mid → TenantLosesNothing (owners_in has (length ps)) mid now → now.honest → NoneLosesAny had old now
  tenants_lost now clears lost its h t = elim (cases_lt t (length ps)) [
    | inl below ↦ other (λ e. omega (arith, below, e))
    | inr above ↦ elim (cases_lt (length ps) t) [
      | inl more ↦ other (λ e. omega (arith, more, e))
      | inr no_more ↦ subst (λ u. TenantLosesNothing (owners_in had u) old now) (let is : length ps ≡ t = omega (arith, above, no_more) in is) here
    ]
  ]
    where
      far : (t ≡ length ps → ⊥) → (file : ℕ) → IsOfTenant had t file → IsOfTenant has (length ps) file → ⊥
      far ne file own theirs = tenants_apart had listed.once t (length ps) file own (first_had old had ps mid next has listed.once before file theirs) ne

      other : (t ≡ length ps → ⊥) → TenantLosesNothing (owners_in had t) old now
      other ne = tenant_then (IsOfTenant has (length ps)) (owners_in had t)
          (λ g n is. far ne n (record { owner = Catalog t g; mine = refl; has = is })) (λ i p n is. far ne n (record { owner = Partition t i p; mine = refl; has = is }))
          old mid now clears h (lost t)

      same : owners_in has (length ps) ≡ owners_in had (length ps)
      same = owners_with (owners_in had (length ps)) (owners_in has (length ps)) (λ g. before.others (Catalog (length ps) g) (omega arith)) (λ i p. before.others (Partition (length ps) i p) (omega arith))

      first : (file : ℕ) → IsOfTenant had (length ps) file → IsOfFirst had (length ps) file → ⊥
      first file own f = no_other old had ps mid next has listed.once before f.tenant f.first file f.has own

      here : TenantLosesNothing (owners_in had (length ps)) old now
      here = tenant_from (IsOfFirst had (length ps)) (owners_in had (length ps))
          (λ g n is. first n (record { owner = Catalog (length ps) g; mine = refl; has = is })) (λ i p n is. first n (record { owner = Partition (length ps) i p; mine = refl; has = is }))
          old mid now before.clears (clears.honest h) (subst (λ (x : Owners). TenantLosesNothing x mid now) same its)

-- ---- lists of the same numbers

record Found (x : ℕ) (ys : List ℕ) : Type 0 where
  pub front : List ℕ
  pub back : List ℕ
  pub split : ys ≡ front ++ x ∷ back

found : (x : ℕ) (ys : List ℕ) → Contains ys x → Found x ys
found x [] (k, l, e) = absurd (omega (arith, l))
found x (y ∷ ys) (zero, l, e) = record { front = []; back = ys; split = ap (λ z. z ∷ ys) e }
found x (y ∷ ys) (suc k, l, e) = let rec = found x ys (k, omega (arith, l), e) in record { front = y ∷ rec.front; back = rec.back; split = ap (λ zs. y ∷ zs) rec.split }

in_cons : (x n : ℕ) (xs : List ℕ) → Contains (x ∷ xs) n → (x ≡ n) ⊎ Contains xs n
in_cons x n xs (zero, l, e) = inl e
in_cons x n xs (suc k, l, e) = inr (k, omega (arith, l), e)

behind_cons : (x n : ℕ) (xs : List ℕ) → Contains xs n → Contains (x ∷ xs) n
behind_cons x n xs (k, l, e) = (suc k, omega (arith, l), e)

pub same_members : (xs ys : List ℕ) → IsDistinct nat_eq xs → IsDistinct nat_eq ys → ((n : ℕ) → Contains xs n → Contains ys n) → ((n : ℕ) → Contains ys n → Contains xs n) → IsPermutation xs ys
same_members [] [] p q to from = IsPermutation-refl []
same_members [] (y ∷ ys) p q to from = let no = from y (zero, omega arith, refl) in absurd (omega (arith, no.1))
same_members (x ∷ xs) ys p q to from =
    let at = found x ys (to x (zero, omega arith, refl)) in
    let rest = at.front ++ at.back in
    let moved : IsPermutation ys (x ∷ rest) = subst (λ (zs : List ℕ). IsPermutation zs (x ∷ rest)) (sym at.split) (IsPermutation-middle at.front x at.back) in
    let once = distinct_moved ys (x ∷ rest) moved q in
    let rec = same_members xs rest (IsDistinct-tail nat_eq x xs p) (IsDistinct-tail nat_eq x rest once)
    (λ n has. ⊎_elim (λ (is : x ≡ n). absurd (head_apart x xs p (subst (Contains xs) (sym is) has))) (λ (c : Contains rest n). c) (in_cons x n rest (in_moved n ys (x ∷ rest) moved (to n (behind_cons x n xs has)))))
    (λ n has. ⊎_elim (λ (is : x ≡ n). absurd (head_apart x rest once (subst (Contains rest) (sym is) has))) (λ (c : Contains xs n). c) (in_cons x n xs (from n (in_moved n (x ∷ rest) ys (IsPermutation-sym ys (x ∷ rest) moved) (behind_cons x n rest has))))) in
    IsPermutation-trans (x ∷ xs) (x ∷ rest) ys (IsPermutation-cons x xs rest rec) (IsPermutation-sym ys (x ∷ rest) moved)
  where
    in_moved : (n : ℕ) (us vs : List ℕ) → IsPermutation us vs → Contains us n → Contains vs n
    in_moved n us vs moved has = Contains-permutation us vs n moved has

all_filter : (P : ℕ → Type 0) (p : ℕ → Bool) (xs : List ℕ) → AllByRecursion P xs → AllByRecursion P (filter p xs)
all_filter P p [] all = tt
all_filter P p (x ∷ xs) all = each (p x) (all_filter P p xs all.1)
  where
    each : (t : Bool) → AllByRecursion P (filter p xs) → AllByRecursion P (cond t (x ∷ filter p xs) (filter p xs))
    each true rec = (all.0, rec)
    each false rec = rec

distinct_filter : (p : ℕ → Bool) (xs : List ℕ) → IsDistinct nat_eq xs → IsDistinct nat_eq (filter p xs)
unfolding IsDistinct
distinct_filter p [] d = d
distinct_filter p (x ∷ xs) d = each (p x) (distinct_filter p xs d.1)
  where
    each : (t : Bool) → IsDistinct nat_eq (filter p xs) → IsDistinct nat_eq (cond t (x ∷ filter p xs) (filter p xs))
    each true rec = (all_filter (λ y. nat_eq x y ≡ false) p xs d.0, rec)
    each false rec = rec

-- those that pass one test among those that pass another
filter_turned : (p q r : ℕ → Bool) (xs : List ℕ) → ((n : ℕ) → r n ≡ true → p n ≡ q n) → filter p (filter r xs) ≡ filter r (filter q xs)
filter_turned p q r [] same = refl
filter_turned p q r (x ∷ xs) same = each (r x) refl (filter_turned p q r xs same)
  where
    each : (t : Bool) → r x ≡ t → filter p (filter r xs) ≡ filter r (filter q xs) → filter p (cond t (x ∷ filter r xs) (filter r xs)) ≡ filter r (cond (q x) (x ∷ filter q xs) (filter q xs))
    each true is rec =
        ap (λ s. cond s (x ∷ filter p (filter r xs)) (filter p (filter r xs))) (same x is) ∙ passed (q x)
      where
        passed : (s : Bool) → cond s (x ∷ filter p (filter r xs)) (filter p (filter r xs)) ≡ filter r (cond s (x ∷ filter q xs) (filter q xs))
        passed true = ap (λ ys. x ∷ ys) rec ∙ sym (ap (λ s. cond s (x ∷ filter r (filter q xs)) (filter r (filter q xs))) is)
        passed false = rec
    each false is rec = rec ∙ missed (q x)
      where
        missed : (s : Bool) → filter r (filter q xs) ≡ filter r (cond s (x ∷ filter q xs) (filter q xs))
        missed true = sym (ap (λ s. cond s (x ∷ filter r (filter q xs)) (filter r (filter q xs))) is)
        missed false = refl

in_filter : (p : ℕ → Bool) (xs : List ℕ) (n : ℕ) → p n ≡ true → Contains xs n → Contains (filter p xs) n
in_filter p [] n is has = has
in_filter p (x ∷ xs) n is has = each (p x) refl has (λ rest. in_filter p xs n is rest)
  where
    each : (t : Bool) → p x ≡ t → Contains (x ∷ xs) n → (Contains xs n → Contains (filter p xs) n) → Contains (cond t (x ∷ filter p xs) (filter p xs)) n
    each true here (zero, l, e) rec = (zero, omega arith, e)
    each true here (suc k, l, e) rec = behind_cons x n (filter p xs) (rec (k, omega (arith, l), e))
    each false here (zero, l, e) rec = absurd (false≢true (sym here ∙ ap p e ∙ is))
    each false here (suc k, l, e) rec = rec (k, omega (arith, l), e)

-- ---- the numbers of a store's files

any_contains : (n : ℕ) (xs : List ℕ) → list_any (λ y. nat_eq y n) xs ≡ true → Contains xs n
any_contains n [] e = absurd (false≢true e)
any_contains n (x ∷ xs) e = each (nat_eq x n) refl e (λ rest. any_contains n xs rest)
  where
    each : (t : Bool) → nat_eq x n ≡ t → (t || list_any (λ y. nat_eq y n) xs) ≡ true → (list_any (λ y. nat_eq y n) xs ≡ true → Contains xs n) → Contains (x ∷ xs) n
    each true is any rec = (zero, omega arith, eqb-true x n is)
    each false is any rec = behind_cons x n xs (rec any)

keys_once : (d : Disk) → IsDistinct nat_eq (keys d.table)
keys_once d = listed_apart d (keys d.table) refl

key_there : (d : Disk) (n : ℕ) → Contains (keys d.table) n → IsThere d n
key_there d n has = All-contains (λ n. IsThere d n) (keys d.table) n (all_listed d d (keys d.table) refl record { table = refl; honest = λ h. h; files = λ h. refl }) has

there_key : (d : Disk) (n : ℕ) → IsThere d n → Contains (keys d.table) n
there_key d n there =
    let alike : list_any (eq_by_cmp nat_cmp n) (keys d.table) ≡ list_any (λ y. nat_eq y n) (keys d.table) = λ i. list_any (λ y. (unsigned_tied n y ∙ nat_eq_equiv.symm n y) i) (keys d.table) in
    any_contains n (keys d.table) (sym alike ∙ sym (contains_key-keys d.table n) ∙ there)

-- ---- the files that are left, by their headers

module _ (old new : Disk) (headers : KeepsHeaders old new) where
  -- the numbers of a store are those of its files before that are still there
  pub keys_left : IsPermutation (keys new.table) (remaining new.table (keys old.table))
  keys_left = same_members (keys new.table) (remaining new.table (keys old.table)) (keys_once new) (distinct_filter (λ n. is_some (get new.table n)) (keys old.table) (keys_once old))
      (λ n has. let there = key_there new n has in in_filter (λ m. is_some (get new.table m)) (keys old.table) n there (there_key old n (headers n there).0))
      (λ n has. there_key new n (filtered (λ m. is_some (get new.table m)) (keys old.table) n has).1)

  said_same : (test : Header → Bool) (n : ℕ) → is_some (get new.table n) ≡ true → says new.files test n ≡ says old.files test n
  said_same test n there = ap (passes test) (headers n there).1

  pub says_left : (test : Header → Bool) → IsPermutation (filter (says new.files test) (keys new.table)) (remaining new.table (filter (says old.files test) (keys old.table)))
  says_left test = subst (λ (x : List ℕ). IsPermutation (filter (says new.files test) (keys new.table)) x)
      (filter_turned (says new.files test) (says old.files test) (λ n. is_some (get new.table n)) (keys old.table) (said_same test))
      (permutation_filter (says new.files test) (keys new.table) (remaining new.table (keys old.table)) keys_left)

-- ---- in another order

comes_moved : (files : Files) (ns ms : List ℕ) (start first last : ℕ) (list : List (List ℕ)) → IsPermutation ms ns → ComesTo files ns start first last list → ComesTo files ms start first last list
comes_moved files ns ms start first last list moved c = record { bs = c.bs; chain = chain_moved files ns ms start c.bs moved c.chain; starts = c.starts; ends = c.ends; batches = c.batches }

opened_moved : (files : Files) (of of' : Owners) (k : Known) (logs : Logs) → ((h : ℕ) → IsPermutation (of'.catalog h) (of.catalog h)) → ((i p : ℕ) → IsPermutation (of'.partition i p) (of.partition i p)) → IsOpened files of k logs → IsOpened files of' k logs
opened_moved files of of' k logs catalog partition o = record {
  generation = o.generation;
  in_use = record {
    small = o.in_use.small;
    whole = known_moved files (of.catalog o.generation) (of'.catalog o.generation) o.generation k (catalog o.generation) o.in_use.whole;
    greatest = λ h above small j c. o.in_use.greatest h above small j (known_moved files (of'.catalog h) (of.catalog h) h j (IsPermutation-sym (of'.catalog h) (of.catalog h) (catalog h)) c);
  };
  has = record {
    tied = o.has.tied;
    each = λ i p part at. let l = o.has.each i p part at in (l.0, l.1, comes_moved files (of.partition i p) (of'.partition i p) (natural part.start) l.0.start l.0.end l.0.batches (partition i p) l.2);
  };
}

-- ---- opened again

pub come_to_same : (names : List (List ℕ)) (old new : Disk) → (new.honest → KeepsHeaders old new) → (new.honest → NamedLoseNothing (keys old.table) names old new) → ComeToTheSame names old new
come_to_same names old new headers lost h ts was = record {
  names_are = was.names_are;
  each = λ t name at.
      let its = was.each t name at in
      let k = kept_of ts t in
      record {
        opened = opened_moved new.files (remaining_of new.table (owners_of old.files (keys old.table) name)) (owners_of new.files (keys new.table) name) k.world.known k.world.logs
            (λ g. says_left old new (headers h) (is_of_catalog name g)) (λ i p. says_left old new (headers h) (is_of_partition name i p))
            (lost h t name at k.world.known k.world.logs its.opened);
        groups = its.groups;
      };
}

-- also since the files were listed
pub same_since : (old first now : Disk) (kept : Keeps old first) (numbers : List ℕ) → numbers ≡ keys old.table → (names whole : List (List ℕ)) → names ≡ whole → (now.honest → first.honest) → (now.honest → KeepsHeaders first now) → (now.honest → NamedLoseNothing numbers names first now) → ComeToTheSame whole old now
same_since old first now kept numbers same names whole named honest headers lost =
    come_to_same whole old now (λ h. headers_then old first now (kept_headers old first kept (honest h)) (headers h))
    (λ h t name at.
    let its = lost h t name (subst (λ (ns : List (List ℕ)). slice_get ns t ≡ Some name) (sym named) at) in
    tenant_kept (owners_of old.files (keys old.table) name) old first now kept (honest h)
    (subst (λ (fs : Files). TenantLosesNothing (owners_of fs (keys old.table) name) first now) (kept.files (honest h))
    (subst (λ (ns : List ℕ). TenantLosesNothing (owners_of first.files ns name) first now) same its)))

pub same_kept : (names : List (List ℕ)) (old now : Disk) → Keeps old now → ComeToTheSame names old now
same_kept names old now kept h ts was =
    subst (λ (fs : Files). AreReopened fs (keys now.table) names ts) (sym (kept.files h)) (subst (λ (t : Table). AreReopened old.files (keys t) names ts) (sym kept.table) was)
