-- The logs of a topic are discarded one after another, the last one first.
use Rattle.std.proofs.Common.{◌≡◌, ◌∙◌, ◌⊎◌, ◌≤◌, ◌<◌, ◌+◌, ◌-◌, ◌^◌, ◌++◌, inl, inr, ⊎_elim, ℕ, zero, suc, true, false, List, [], ◌∷◌, Option, Some, None, refl, subst, arith, length, min}
use Rattle.std.specs.Prelude.{slice_get, IsSome, Result, Ok, Err, OnOk, is_ok}
use Rattle.std.specs.FinMap.{get}
use Rattle.std.proofs.Math.Nat.{min-le_left, min-le_right, le-min}
use Rattle.std.proofs.lemmas.Option.{slice_get_within}
use Rattle.std.proofs.lemmas.Result.{on_ok_weaker}
use Rattle.kb_store.specs.Disk.{Disk, HasCause}
use Rattle.kb_store.specs.declared.fault.StoreFault.{StoreFault}
use Rattle.kb_log.specs.Apart.{other_stays}
use Rattle.kb_log.specs.OnShelf.{Log, Accounts, OnlyRemoves, Spares, IsLawfulLog, no_file}
use Rattle.kb_tenant_state.specs.Topic.{AreApartLogs, OwnedAmong}
use Rattle.kb_tenant_state.specs.declared.partition.Partition.{Partition}
use Rattle.kb_tenant_state.proofs.Put.{get_either}

-- ---- an item behind a list

get_left : {A : Type 0} (xs : List A) (x y : A) (p : ℕ) → slice_get xs p ≡ Some y → slice_get (xs ++ x ∷ []) p ≡ Some y
get_left [] x y p a = absurd cc
get_left (z ∷ zs) x y zero a = a
get_left (z ∷ zs) x y (suc p) a = get_left zs x y p a

get_last : {A : Type 0} (xs : List A) (x : A) → slice_get (xs ++ x ∷ []) (length xs) ≡ Some x
get_last [] x = refl
get_last (z ∷ zs) x = get_last zs x

-- ---- the cause of a refusal

grew_since : (most a b c : ℕ) → a ≤ b → min (b + 1) most ≤ c → min (a + 1) most ≤ c
grew_since most a b c le grew =
    let left : min (a + 1) most ≤ a + 1 = min-le_left (a + 1) most in
    let more : min (a + 1) most ≤ b + 1 = omega (arith, left, le) in
    let both : min (a + 1) most ≤ min (b + 1) most = le-min more (min-le_right (a + 1) most) in
    omega (arith, both, grew)

later_cause : (a b c : Disk) (r : Result (Unit {0}) StoreFault) → a.failures ≤ b.failures → HasCause b r c → HasCause a r c
later_cause a b c r le cause =
    let more = cause.later in
    record {
      later = omega (arith, le, more);
      device = λ e. grew_since (2 ^ 64 - 1) a.failures b.failures c.failures le (cause.device e);
    }

kept_cause : (a b c : Disk) (r : Result (Unit {0}) StoreFault) → HasCause a r b → b.failures ≤ c.failures → HasCause a r c
kept_cause a b c r cause le =
    let more = cause.later in
    record {
      later = omega (arith, le, more);
      device = λ e. let grew : min (a.failures + 1) (2 ^ 64 - 1) ≤ b.failures = cause.device e in omega (arith, le, grew);
    }

answered : (r : Result (Unit {0}) StoreFault) → true ≡ is_ok r → r ≡ Ok tt
answered (Ok u) e = refl
answered (Err f) e = absurd cc

was_refused : (P : Type 0) (r : Result (Unit {0}) StoreFault) → false ≡ is_ok r → OnOk r P
was_refused P (Ok u) e = absurd cc
was_refused P (Err f) e = tt

-- ---- some are left

-- Of all these partitions those are left, which are as they were; the files of the others are gone where no call was refused.
pub record Discarding {L : Type 0} (log : L → Log) (all left : List (Partition L)) (first now : Disk) (next next' : ℕ) (r : Result (Unit {0}) StoreFault) : Type 0 where
  pub sound : AreApartLogs log left now.table next'
  pub among : (file : ℕ) → OwnedAmong log left file → OwnedAmong log all file
  pub others : Spares (OwnedAmong log all) no_file first now next next'
  pub gone : OnOk r ((file : ℕ) → OwnedAmong log all file → ((get now.table file ≡ None) × (OwnedAmong log left file → ⊥)) ⊎ OwnedAmong log left file)
  pub accounts : OnOk r (Accounts (OwnedAmong log all) (OwnedAmong log left) first now)
  pub removes : OnlyRemoves first now
  pub cause : HasCause first r now

-- files alone are removed, and then others
removes_then : (a b c : Disk) → (c.honest → b.honest) → OnlyRemoves a b → OnlyRemoves b c → OnlyRemoves a c
removes_then a b c before p q = record {
  lengths = λ file there. let same = q.lengths file there in
      same ∙ p.lengths file (subst (λ (n : Option ℕ). IsSome n) same there);
  contents = λ honest file there. q.contents honest file there ∙ p.contents (before honest) file (subst (λ (n : Option ℕ). IsSome n) (q.lengths file there) there);
}

pub all_left : {L : Type 0} (log : L → Log) (all : List (Partition L)) (d : Disk) (next : ℕ) → AreApartLogs log all d.table next → Discarding log all all d d next next (Ok tt)
all_left log all d next sound = record {
  sound = sound;
  among = λ file o. o;
  others = record {
    later = omega arith;
    honest = λ h. h;
    owned = λ file o. absurd o;
    lengths = λ file lt not. refl;
    contents = λ honest file lt not. refl;
  };
  gone = λ file o. inr o;
  accounts = λ file there not. (there, not);
  removes = record { lengths = λ file there. refl; contents = λ honest file there. refl };
  cause = record { later = omega arith; device = λ e. absurd cc };
}

nothing : {L : Type 0} (log : L → Log) (left : List (Partition L)) → length left ≡ 0 → (file : ℕ) → OwnedAmong log left file → ⊥
nothing log left none file o = let within = slice_get_within left o.number o.partition o.at in omega (arith, within, none)

pub none_left : {L : Type 0} (log : L → Log) (all left : List (Partition L)) (first now : Disk) (next next' : ℕ) (r : Result (Unit {0}) StoreFault) → Discarding log all left first now next next' r → length left ≡ 0
    → OnOk r ((file : ℕ) → OwnedAmong log all file → get now.table file ≡ None)
none_left log all left first now next next' r d none = on_ok_weaker r (λ done file o. ⊎_elim (λ g. g.0) (λ l. absurd (nothing log left none file l)) (done file o)) d.gone

pub none_left_accounts : {L : Type 0} (log : L → Log) (all left : List (Partition L)) (first now : Disk) (next next' : ℕ) (r : Result (Unit {0}) StoreFault) → Discarding log all left first now next next' r → length left ≡ 0
    → OnOk r (Accounts (OwnedAmong log all) no_file first now)
none_left_accounts log all left first now next next' r d none = on_ok_weaker r (λ done file there not. done file there (nothing log left none file)) d.accounts

-- ---- one is discarded

pub last_sound : {L : Type 0} (log : L → Log) (all left : List (Partition L)) (x : Partition L) (first now : Disk) (next next' : ℕ) (r : Result (Unit {0}) StoreFault) → Discarding log all (left ++ x ∷ []) first now next next' r
    → (log x.log).sound now.table next'
last_sound log all left x first now next next' r so_far = so_far.sound.each (length left) x (get_last left x)

module _ {L : Type 0} (log : L → Log) (law : (l : L) → IsLawfulLog (log l)) (all left : List (Partition L)) (x : Partition L)
    (first now now' : Disk) (next next' next'' : ℕ) (r s : Result (Unit {0}) StoreFault)
    (begun : AreApartLogs log all first.table next) (so_far : Discarding log all (left ++ x ∷ []) first now next next' r)
    (others : Spares (log x.log).owns no_file now now' next' next'')
    (gone : OnOk s ((file : ℕ) → (log x.log).owns file → get now'.table file ≡ None)) (accounts : OnOk s (Accounts (log x.log).owns no_file now now')) (removes : OnlyRemoves now now') (cause : HasCause now s now') where
  last_owns : (file : ℕ) → (log x.log).owns file → OwnedAmong log (left ++ x ∷ []) file
  last_owns file own = record { number = length left; partition = x; at = get_last left x; own = own }

  still_owns : (file : ℕ) → OwnedAmong log left file → OwnedAmong log (left ++ x ∷ []) file
  still_owns file o = record { number = o.number; partition = o.partition; at = get_left left x o.partition o.number o.at; own = o.own }

  not_both : (file : ℕ) → OwnedAmong log left file → (log x.log).owns file → ⊥
  not_both file o own =
      let within : o.number < length left = slice_get_within left o.number o.partition o.at in
      so_far.sound.apart o.number (length left) o.partition x (get_left left x o.partition o.number o.at) (get_last left x) (λ e. omega (arith, within, e)) file o.own own

  sound : AreApartLogs log left now'.table next''
  sound = record {
    each = λ p y at.
        (other_stays (log y.log) (log x.log).owns no_file now now' next' next'' (law y.log) others (so_far.sound.each p y (get_left left x y p at))
        (λ file theirs own. not_both file (record { number = p; partition = y; at = at; own = theirs }) own)).sound;
    apart = λ p q y z a b ne. so_far.sound.apart p q y z (get_left left x y p a) (get_left left x z q b) ne;
  }

  taken : Spares (OwnedAmong log all) no_file first now' next next''
  taken =
      let was = so_far.others.later in
      let is = others.later in
      record {
        later = omega (arith, was, is);
        honest = λ h. so_far.others.honest (others.honest h);
        owned = λ file o. absurd o;
        lengths = λ file lt not. others.lengths file (omega (arith, was, lt)) (λ own. not (so_far.among file (last_owns file own))) ∙ so_far.others.lengths file lt not;
        contents = λ h file lt not. others.contents h file (omega (arith, was, lt)) (λ own. not (so_far.among file (last_owns file own))) ∙ so_far.others.contents (others.honest h) file lt not;
      }

  given_out : (file : ℕ) → OwnedAmong log all file → file < next'
  given_out file o =
      let lt = (law o.partition.log).given_out first.table next (begun.each o.number o.partition o.at) file o.own in
      let le = so_far.others.later in
      omega (arith, lt, le)

  gone_now : ((file : ℕ) → OwnedAmong log all file → ((get now.table file ≡ None) × (OwnedAmong log (left ++ x ∷ []) file → ⊥)) ⊎ OwnedAmong log (left ++ x ∷ []) file)
      → ((file : ℕ) → (log x.log).owns file → get now'.table file ≡ None)
      → (file : ℕ) → OwnedAmong log all file → ((get now'.table file ≡ None) × (OwnedAmong log left file → ⊥)) ⊎ OwnedAmong log left file
  gone_now done here file o = ⊎_elim
      (λ g. inl (others.lengths file (given_out file o) (λ own. g.1 (last_owns file own)) ∙ g.0, λ l. g.1 (still_owns file l)))
      (λ l. ⊎_elim
      (λ at. inr (record { number = l.number; partition = l.partition; at = at; own = l.own }))
      (λ e. let own = subst (λ (v : Partition L). (log v.log).owns file) e.1 l.own in inl (here file own, λ k. not_both file k own))
      (get_either left x l.partition l.number l.at))
      (done file o)

  accounts_now : Accounts (OwnedAmong log all) (OwnedAmong log (left ++ x ∷ [])) first now → Accounts (log x.log).owns no_file now now' → Accounts (OwnedAmong log all) (OwnedAmong log left) first now'
  accounts_now done here file there not =
      let before = here file there (λ bad. bad) in
      done file before.0 (λ o. ⊎_elim
      (λ at. not (record { number = o.number; partition = o.partition; at = at; own = o.own }))
      (λ e. before.1 (subst (λ (v : Partition L). (log v.log).owns file) e.1 o.own))
      (get_either left x o.partition o.number o.at))

  -- where no call was refused, its answer is the answer
  pub discarded : true ≡ is_ok r → Discarding log all left first now' next next'' s
  discarded e = record {
    sound = sound;
    among = λ file o. so_far.among file (still_owns file o);
    others = taken;
    gone = on_ok_weaker s (λ here. gone_now (subst (λ (a : Result (Unit {0}) StoreFault). OnOk a ((file : ℕ) → OwnedAmong log all file → ((get now.table file ≡ None) × (OwnedAmong log (left ++ x ∷ []) file → ⊥)) ⊎ OwnedAmong log (left ++ x ∷ []) file)) (answered r e) so_far.gone) here) gone;
    accounts = on_ok_weaker s (accounts_now (subst (λ (a : Result (Unit {0}) StoreFault). OnOk a (Accounts (OwnedAmong log all) (OwnedAmong log (left ++ x ∷ [])) first now)) (answered r e) so_far.accounts)) accounts;
    removes = removes_then first now now' others.honest so_far.removes removes;
    cause = later_cause first now now' s so_far.cause.later cause;
  }

  -- the first refusal is the answer
  pub refused : false ≡ is_ok r → Discarding log all left first now' next next'' r
  refused e = record {
    sound = sound;
    among = λ file o. so_far.among file (still_owns file o);
    others = taken;
    gone = was_refused _ r e;
    accounts = was_refused _ r e;
    removes = removes_then first now now' others.honest so_far.removes removes;
    cause = kept_cause first now now' r so_far.cause cause.later;
  }
