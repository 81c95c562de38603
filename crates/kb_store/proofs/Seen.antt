-- The table and the files that a map's entries are seen as, after a change of the map.
use Rattle.std.proofs.Common.{◌≡◌, ◌∙◌, ℕ, Bool, true, false, cond, List, [], ◌∷◌, Option, Some, None, IsSome, option_map, unwrap_or, sym, ap, subst, refl, length, Result, Ok, Err, OnErr}
use Rattle.std.specs.Ordering.{nat_cmp, eq_by_cmp}
use Rattle.std.specs.Cmp.{nat_cmp_total, eq_by_cmp_equiv}
use Rattle.std.specs.FinMap.{from_entries, get, insert, remove, find, get-from_entries, get-insert, get-remove, same_map, nat_cmp-IsAntisymmetric}
use Rattle.std.specs.BTreeMap.{is_at}
use Rattle.std.specs.Map.{lookup}
use Rattle.std.specs.declared.vec.Vec.{Vec}
use Rattle.kb_store.specs.Disk.{Becomes, Removes, IsThere, len_of, bytes_of}
use Rattle.kb_store.specs.Memory.{seen_as, lens_of, pairs_of, memory_disk}

module _ {V X : Type 0} (h : V → X) where
  option_cond : (b : Bool) (w o : Option V) → option_map h (cond b w o) ≡ cond b (option_map h w) (option_map h o)
  option_cond true w o = refl
  option_cond false w o = refl

  find_seen : (es : List (ℕ × V)) (q : ℕ) → find nat_cmp q (seen_as h es) ≡ option_map h (lookup (is_at (nat_cmp q)) es)
  find_seen [] q = refl
  find_seen (e ∷ es) q = ap (cond (eq_by_cmp nat_cmp q e.0) (Some (h e.1))) (find_seen es q) ∙ sym (option_cond (eq_by_cmp nat_cmp q e.0) (Some e.1) (lookup (is_at (nat_cmp q)) es))

  pub get_seen : (es : List (ℕ × V)) (q : ℕ) → get (from_entries {R = nat_cmp} (seen_as h es)) q ≡ option_map h (lookup (is_at (nat_cmp q)) es)
  get_seen es q = get-from_entries nat_cmp_total (seen_as h es) q ∙ find_seen es q

  turned : (k q : ℕ) → is_at (nat_cmp k) q ≡ eq_by_cmp nat_cmp q k
  turned k q = (eq_by_cmp_equiv nat_cmp_total).symm k q

  pub seen_insert : (es es' : List (ℕ × V)) (k : ℕ) (w : V) → ((q : ℕ) → lookup (is_at (nat_cmp q)) es' ≡ cond (is_at (nat_cmp k) q) (Some w) (lookup (is_at (nat_cmp q)) es)) → from_entries {R = nat_cmp} (seen_as h es') ≡ insert (from_entries (seen_as h es)) k (h w)
  seen_insert es es' k w u = same_map nat_cmp_total nat_cmp-IsAntisymmetric _ _ (λ q.
      get_seen es' q ∙ ap (option_map h) (u q) ∙ option_cond (is_at (nat_cmp k) q) (Some w) (lookup (is_at (nat_cmp q)) es) ∙ ap (λ b. cond b (Some (h w)) (option_map h (lookup (is_at (nat_cmp q)) es))) (turned k q)
      ∙ ap (cond (eq_by_cmp nat_cmp q k) (Some (h w))) (sym (get_seen es q)) ∙ sym (get-insert nat_cmp_total (from_entries (seen_as h es)) k (h w) q))

  pub seen_as_insert : (es es' : List (ℕ × V)) (k : ℕ) (w : V) (x : X) → ((q : ℕ) → lookup (is_at (nat_cmp q)) es' ≡ cond (is_at (nat_cmp k) q) (Some w) (lookup (is_at (nat_cmp q)) es)) → h w ≡ x → from_entries {R = nat_cmp} (seen_as h es') ≡ insert (from_entries (seen_as h es)) k x
  seen_as_insert es es' k w x u e = seen_insert es es' k w u ∙ ap (insert (from_entries (seen_as h es)) k) e

  pub seen_remove : (es es' : List (ℕ × V)) (k : ℕ) → ((q : ℕ) → lookup (is_at (nat_cmp q)) es' ≡ cond (is_at (nat_cmp k) q) None (lookup (is_at (nat_cmp q)) es)) → from_entries {R = nat_cmp} (seen_as h es') ≡ remove (from_entries (seen_as h es)) k
  seen_remove es es' k u = same_map nat_cmp_total nat_cmp-IsAntisymmetric _ _ (λ q.
      get_seen es' q ∙ ap (option_map h) (u q) ∙ option_cond (is_at (nat_cmp k) q) None (lookup (is_at (nat_cmp q)) es) ∙ ap (λ b. cond b None (option_map h (lookup (is_at (nat_cmp q)) es))) (turned k q)
      ∙ ap (cond (eq_by_cmp nat_cmp q k) None) (sym (get_seen es q)) ∙ sym (get-remove nat_cmp_total (from_entries (seen_as h es)) k q))

  pub there_seen : (es : List (ℕ × V)) (q : ℕ) → IsSome (get (from_entries {R = nat_cmp} (seen_as h es)) q) → IsSome (lookup (is_at (nat_cmp q)) es)
  there_seen es q some = each (lookup (is_at (nat_cmp q)) es) (subst (λ o. IsSome o) (get_seen es q) some)
    where
      each : (o : Option V) → IsSome (option_map h o) → IsSome o
      each None s = s
      each (Some v) s = refl

  pub at_seen : (es : List (ℕ × V)) (q : ℕ) (v : V) (d : X) → lookup (is_at (nat_cmp q)) es ≡ Some v → unwrap_or (get (from_entries {R = nat_cmp} (seen_as h es)) q) d ≡ h v
  at_seen es q v d e = ap (λ o. unwrap_or o d) (get_seen es q ∙ ap (option_map h) e)

  pub none_there : (es : List (ℕ × V)) (q : ℕ) → IsSome (get (from_entries {R = nat_cmp} (seen_as h es)) q) → None ≡ lookup (is_at (nat_cmp q)) es → ⊥
  none_there es q some none = let s : IsSome {T = V} None = subst (λ o. IsSome o) (sym none) (there_seen es q some) in cc

pub on_err : {T E P : Type 0} (r : Result T E) → P → OnErr r P
on_err (Ok x) p = tt
on_err (Err e) p = p

-- ---- the disk of a store in memory, after a change of what it keeps

module _ {A : Type 0} (es : List (ℕ × Vec ℕ A)) (k : ℕ) where
  -- one file is put, with bytes of that length
  pub becomes_put : (es' : List (ℕ × Vec ℕ A)) (w : Vec ℕ A) (n : ℕ) (bytes : List ℕ) → ((q : ℕ) → lookup (is_at (nat_cmp q)) es' ≡ cond (is_at (nat_cmp k) q) (Some w) (lookup (is_at (nat_cmp q)) es)) → length w.items ≡ n → w.items ≡ bytes → Becomes (memory_disk es) (insert (from_entries {R = nat_cmp} (lens_of es)) k n) (insert (from_entries {R = nat_cmp} (pairs_of es)) k bytes) (memory_disk es')
  becomes_put es' w n bytes u counted kept = record {
    table = seen_as_insert (λ v. length v.items) es es' k w n u counted;
    honest = λ h. h;
    files = λ h. seen_as_insert (λ v. v.items) es es' k w bytes u kept;
  }

  -- one file is taken out
  pub becomes_removed : (es' : List (ℕ × Vec ℕ A)) → ((q : ℕ) → lookup (is_at (nat_cmp q)) es' ≡ cond (is_at (nat_cmp k) q) None (lookup (is_at (nat_cmp q)) es)) → Removes (memory_disk es) k (memory_disk es')
  becomes_removed es' u = record {
    table = seen_remove (λ v. length v.items) es es' k u;
    honest = λ h. h;
    files = λ h. seen_remove (λ v. v.items) es es' k u;
  }

  -- what is kept under a number that is there
  pub kept_len : (v : Vec ℕ A) → lookup (is_at (nat_cmp k)) es ≡ Some v → len_of (memory_disk es) k ≡ length v.items
  kept_len v e = at_seen (λ v. length v.items) es k v 0 e

  pub kept_bytes : (v : Vec ℕ A) → lookup (is_at (nat_cmp k)) es ≡ Some v → bytes_of (memory_disk es) k ≡ v.items
  kept_bytes v e = at_seen (λ v. v.items) es k v [] e

  pub is_kept : IsThere (memory_disk es) k → IsSome (lookup (is_at (nat_cmp k)) es)
  is_kept there = there_seen (λ v. length v.items) es k there

  pub is_not_gone : IsThere (memory_disk es) k → None ≡ lookup (is_at (nat_cmp k)) es → ⊥
  is_not_gone there none = none_there (λ v. length v.items) es k there none
