-- What the partitions of a tenant are after those of a topic that are there were taken in.
use Rattle.std.proofs.Common.{◌≡◌, ◌∙◌, ◌⊎◌, ⊎_elim, inl, inr, ℕ, Bool, cond, Some, refl, sym, ap, length}
use Rattle.std.specs.Prelude.{map, option_map, slice_get}
use Rattle.std.specs.Ordering.{nat_cmp}
use Rattle.std.specs.List.Sorted.{IsStrictlySortedBy}
use Rattle.std.specs.Map.{keys_of, lookup}
use Rattle.std.specs.BTreeMap.{insert_entry, is_at}
use Rattle.std.specs.declared.alloc.Global.{Global}
use Rattle.std.specs.declared.vec.Vec.{Vec}
use Rattle.std.proofs.lemmas.Map.Made.{lookup-map_values}
use Rattle.kb_log.specs.OnShelf.{Log}
use Rattle.kb_tenant_state.specs.Partitions.{Entries, Owned, partition_at, log_state, logs_of, places_of, IsRestored, IsUnmade}
use Rattle.kb_tenant_state.specs.Topic.{OwnedAmong}
use Rattle.kb_tenant_state.specs.declared.partition.Partition.{Partition}
use Rattle.kb_tenant_state.proofs.Made.{counted_by, insert_mapped, kept_at, put_at, taken_at}
use Rattle.kb_tenant_state.proofs.Put.{own_number}

module _ {L : Type 0} (log : L → Log) (instance : ℕ) (es es' : Entries L) (v : Vec (Partition L) Global)
    (entries : es' ≡ insert_entry nat_cmp es instance v) (unmade : IsUnmade instance es) (ordered : IsStrictlySortedBy nat_cmp (keys_of es'))
    (updates : (j : ℕ) → lookup (is_at (nat_cmp j)) es' ≡ cond (is_at (nat_cmp instance) j) (Some v) (lookup (is_at (nat_cmp j)) es)) where
  -- each partition is one of those taken in, or stands where it stood
  restored_at : (j q : ℕ) (x : Partition L) → partition_at j q es' ≡ Some x
      → ((j ≡ instance) × (slice_get v.items q ≡ Some x)) ⊎ (partition_at j q es ≡ Some x)
  restored_at = taken_at instance es es' v updates

  -- one that is taken in stands under the instance
  new_at : (q : ℕ) (x : Partition L) → slice_get v.items q ≡ Some x → partition_at instance q es' ≡ Some x
  new_at q x at = put_at instance es es' v updates instance q ∙ ap (λ b. cond b (slice_get v.items q) (partition_at instance q es)) (own_number instance) ∙ at

  -- one that was there stays
  old_at : (j q : ℕ) (x : Partition L) → partition_at j q es ≡ Some x → partition_at j q es' ≡ Some x
  old_at = kept_at instance es es' v updates unmade

  among : (file q : ℕ) (x : Partition L) → slice_get v.items q ≡ Some x → (log x.log).owns file → OwnedAmong log v.items file
  among file q x at own = record { number = q; partition = x; at = at; own = own }

  before : (file j q : ℕ) (x : Partition L) → partition_at j q es ≡ Some x → (log x.log).owns file → Owned log es file
  before file j q x at own = record { instance = j; number = q; partition = x; at = at; own = own }

  pub restored : IsRestored log instance v.items es es'
  restored = record {
    at = put_at instance es es' v updates;
    owned = λ file o. ⊎_elim
        (λ new. inr (among file o.number o.partition new.1 o.own))
        (λ was. inl (before file o.instance o.number o.partition was o.own))
        (restored_at o.instance o.number o.partition o.at);
    owned_old = λ file o. record { instance = o.instance; number = o.number; partition = o.partition; at = old_at o.instance o.number o.partition o.at; own = o.own };
    owned_new = λ file o. record { instance = instance; number = o.number; partition = o.partition; at = new_at o.number o.partition o.at; own = o.own };
    sound = λ table next s t strange. record {
      ordered = ordered;
      each = λ i p x at. ⊎_elim (λ new. t.each p x new.1) (λ was. s.each i p x was) (restored_at i p x at);
      apart = λ i p j q x y at there differ file own other. ⊎_elim
          (λ new. ⊎_elim
          (λ more. t.apart p q x y new.1 more.1 (λ same. differ (new.0 ∙ sym more.0, same)) file own other)
          (λ is. strange file (before file j q y is other) (among file p x new.1 own))
          (restored_at j q y there))
          (λ was. ⊎_elim
          (λ more. strange file (before file i p x was own) (among file q y more.1 other))
          (λ is. s.apart i p j q x y was is differ file own other)
          (restored_at j q y there))
          (restored_at i p x at);
    };
    agrees = λ files a told. record {
      each = λ i p x at. ⊎_elim (λ new. (told p x new.1).0) (λ was. a.each i p x was) (restored_at i p x at);
      producers = λ i p x at. ⊎_elim (λ new. (told p x new.1).1) (λ was. a.producers i p x was) (restored_at i p x at);
    };
    state = λ files.
        ap (λ ds. logs_of log ds files) entries
        ∙ insert_mapped (λ (t : Vec (Partition L) Global). map (λ (x : Partition L). log_state (log x.log) files) t.items) instance v es;
    places = ap places_of entries ∙ insert_mapped (λ (t : Vec (Partition L) Global). length t.items) instance v es;
    counts = λ i.
        let count_of : Vec (Partition L) Global → ℕ = λ t. length t.items in
        let test : ℕ → Bool = is_at (nat_cmp i) in
        lookup-map_values count_of test es' ∙ ap (option_map count_of) (updates i) ∙ counted_by count_of (length v.items) v (lookup test es) (is_at (nat_cmp instance) i) refl
        ∙ ap (λ o. cond (is_at (nat_cmp instance) i) (Some (length v.items)) o) (sym (lookup-map_values count_of test es));
  }
