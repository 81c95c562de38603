-- What each codec keeps, proved once for each primitive and for each way to put codecs together.
use Rattle.std.proofs.Common.{◌≡◌, ℕ, zero, suc, ◌+◌, ◌-◌, ◌%◌, ◌^◌, ◌<◌, ◌≤◌, Bool, true, false, cond, ltb, List, [], ◌∷◌, ◌++◌, length}
use Rattle.std.proofs.Common.{take, drop, Option, Some, None, Result, Ok, Err, refl, sym, ap, subst, ◌∙◌, append_assoc, arith, inl, inr}
use Rattle.std.proofs.Common.{lit≤}
use Rattle.std.specs.Prelude.{ℤ, pos, negsuc, FitsSigned, IsUtf8, not, ◌==◌, ◌⊎◌, replicate}
use Rattle.std.specs.Int.{Width, w8, w16, w32, w64, byte_len, from_be_bytes, to_be_bytes, cast_signed, cast_unsigned}
use Rattle.std.specs.List.{flat_map, AllByRecursion}
use Rattle.std.specs.Str.{is_utf8}
use Rattle.std.proofs.lemmas.Bool.{ltb-true, ltb-false, le-ltb}
use Rattle.std.proofs.lemmas.Int.{ints, to_z-of_z}
use Rattle.std.proofs.lemmas.List.{length-replicate, take_at, drop_at, take-append-drop, length-append, length-take}
use Rattle.std.proofs.lemmas.List.Elements.{recursion_from_All, All-from_recursion}
use Rattle.std.proofs.lemmas.Nat.{from_be_bytes-to_be_bytes_2, from_be_bytes-to_be_bytes_4, from_be_bytes-to_be_bytes_8, pow_pos}
use Rattle.std.proofs.lemmas.Str.{is_utf8-from_IsUtf8, IsUtf8-from_is_utf8}
use mir.Val.{bits, hbits, sel}
use Rattle.kb_wire.specs.declared.fault.WireFault.{WireFault}
use Rattle.kb_wire.specs.declared.fault.WireFault.TheVariants.{Short, Bad}
use Rattle.kb_wire.specs.Codec.{◌>>=◌, Codec, Body, int, boolean, boolean_at, as_count, counted, as_nullable_count, nullable_number}
use Rattle.kb_wire.specs.Codec.{nullable_counted, count, nullable_count, octets, utf8, SpellEach, items_at, items, sized, nullable_at}
use Rattle.kb_wire.specs.Codec.{SpellsNullable, nullable, int8, int16, int32, int64, string, nullable_string, blob, nullable_blob, array}
use Rattle.kb_wire.specs.Codec.{nullable_array, nothing, ◌⊗◌, via, refined}

pub record IsLawful {A : Type 0} (c : Codec A) : Type 0 where
  -- what is read is spelled so
  pub found : (s : List ℕ) (v : A) (rest : List ℕ) → c.read s ≡ Ok (v, rest) → (x : List ℕ) × (s ≡ x ++ rest) × c.Spells x v
  -- what is spelled so is read, whatever follows it
  pub only : (x : List ℕ) (v : A) (rest : List ℕ) → c.Spells x v → c.read (x ++ rest) ≡ Ok (v, rest)
  -- a Bad front stays Bad, whatever follows it
  pub bad : (s t : List ℕ) → c.read s ≡ Err Bad → c.read (s ++ t) ≡ Err Bad
  -- a Short front calls for bytes: some bytes after it make an end of it
  pub ends : (s : List ℕ) → (t : List ℕ) × (c.read (s ++ t) ≡ Err Short → ⊥)
  -- what is written is a spelling
  pub again : (v : A) → c.InRange v → c.Fits v → c.Spells (c.written v) v
  -- what is spelled fits and is in range, so it can be written
  pub fits : (x : List ℕ) (v : A) → c.Spells x v → c.Fits v
  pub in_range : (x : List ℕ) (v : A) → c.Spells x v → c.InRange v

-- the same of what stands behind a length or a count
pub record IsLawfulBody {A : Type 0} (b : Body A) : Type 0 where
  pub found : (n : ℕ) (s : List ℕ) (v : A) (rest : List ℕ) → b.read n s ≡ Ok (v, rest) → (x : List ℕ) × (s ≡ x ++ rest) × b.Spells x v
      × (b.size v ≡ n)
  pub only : (x : List ℕ) (v : A) (rest : List ℕ) → b.Spells x v → b.read (b.size v) (x ++ rest) ≡ Ok (v, rest)
  pub bad : (n : ℕ) (s t : List ℕ) → b.read n s ≡ Err Bad → b.read n (s ++ t) ≡ Err Bad
  pub ends : (n : ℕ) (s : List ℕ) → (t : List ℕ) × (b.read n (s ++ t) ≡ Err Short → ⊥)
  pub again : (v : A) → b.InRange v → b.Fits v → b.Spells (b.written v) v
  pub fits : (x : List ℕ) (v : A) → b.Spells x v → b.Fits v
  pub in_range : (x : List ℕ) (v : A) → b.Spells x v → b.InRange v

-- ---- what follows for whoever reads

-- at most one value can be read from the front of any bytes: none spell two values, and no spelling begins another
abbrev pub OneValue : {A : Type 0} → Codec A → Type 0
OneValue {A} c = (x y s t : List ℕ) (v w : A) → c.Spells x v → c.Spells y w → x ++ s ≡ y ++ t → (v ≡ w) × (x ≡ y)

-- more bytes do not mend a Bad front
abbrev pub BadStays : {A : Type 0} → Codec A → Type 0
BadStays c = (s t : List ℕ) → c.read s ≡ Err Bad → c.read (s ++ t) ≡ Err Bad

-- some bytes make an end of a Short front
abbrev pub ShortEnds : {A : Type 0} → Codec A → Type 0
ShortEnds c = (s : List ℕ) → c.read s ≡ Err Short → (t : List ℕ) × (c.read (s ++ t) ≡ Err Short → ⊥)

-- ---- steps that may fail

-- the value of a step that did not fail
pub bind_ok : {A B : Type 0} (r : Result A WireFault) (f : A → Result B WireFault) (y : B) → (r >>= f) ≡ Ok y → (x : A) × (r ≡ Ok x)
    × (f x ≡ Ok y)
bind_ok (Ok x) f y e = (x, refl, e)
bind_ok (Err d) f y e = absurd cc

abbrev pub done : {A : Type 0} → A → Result A WireFault
done x = Ok x

pub ok_is : {A : Type 0} (x y : A) → done x ≡ done y → x ≡ y
ok_is x y e = cc

-- a test that did not fail, where true is the fault
pub guard_ok : {A : Type 0} (b : Bool) (d : WireFault) (x y : A) → cond b (Err d) (Ok x) ≡ Ok y → (b ≡ false) × (x ≡ y)
guard_ok true d x y e = absurd cc
guard_ok false d x y e = (refl, cc)

-- the same, where false is the fault
pub guard_passed : {A : Type 0} (b : Bool) (d : WireFault) (x y : A) → cond b (Ok x) (Err d) ≡ Ok y → (b ≡ true) × (x ≡ y)
guard_passed true d x y e = (refl, cc)
guard_passed false d x y e = absurd cc

-- where a step failed, it is the first or the second that did
pub bind_err : {A B : Type 0} (r : Result A WireFault) (f : A → Result B WireFault) (d : WireFault) → (r >>= f) ≡ Err d → (r ≡ Err d)
    ⊎ ((x : A) × (r ≡ Ok x) × (f x ≡ Err d))
bind_err (Ok x) f d e = inr (x, refl, e)
bind_err (Err c) f d e = inl cc

-- where the second cannot fail, it is the first
pub map_err : {A B : Type 0} (r : Result A WireFault) (f : A → B) (d : WireFault) → (r >>= λ x. Ok (f x)) ≡ Err d → r ≡ Err d
map_err (Ok x) f d e = absurd cc
map_err (Err c) f d e = cc

-- what was read is read again, whatever follows
pub more_ok : {A : Type 0} (c : Codec A) → IsLawful c → (s t : List ℕ) (v : A) (rest : List ℕ) → c.read s ≡ Ok (v, rest)
    → c.read (s ++ t) ≡ Ok (v, rest ++ t)
more_ok c l s t v rest e =
    let f = l.found s v rest e in
    ap c.read (ap (λ u. u ++ t) f.1 ∙ append_assoc f.0 rest t) ∙ l.only f.0 v (rest ++ t) f.2

-- one part and then another are one part
two_parts : (s a t b rest : List ℕ) → s ≡ a ++ t → t ≡ b ++ rest → s ≡ (a ++ b) ++ rest
two_parts s a t b rest e f = e ∙ ap (λ u. a ++ u) f ∙ sym (append_assoc a b rest)

-- what a step after a codec keeps
pub bad_then : {A B : Type 0} (c : Codec A) → IsLawful c → (f : A × List ℕ → Result B WireFault)
    → ((v : A) (rest t : List ℕ) → f (v, rest) ≡ Err Bad → f (v, rest ++ t) ≡ Err Bad) → (s t : List ℕ) → (c.read s >>= f) ≡ Err Bad
    → (c.read (s ++ t) >>= f) ≡ Err Bad
bad_then c l f after s t e =
    elim (bind_err (c.read s) f Bad e) [
      | inl h ↦ rw (l.bad s t h) refl
      | inr h ↦ rw (more_ok c l s t h.0.0 h.0.1 h.1) (after h.0.0 h.0.1 t h.2)
    ]

ends_after : {A B : Type 0} (c : Codec A) → IsLawful c → (f : A × List ℕ → Result B WireFault)
    → ((v : A) (rest : List ℕ) → (t : List ℕ) × (f (v, rest ++ t) ≡ Err Short → ⊥)) → (s : List ℕ) (r : Result (A × List ℕ) WireFault)
    → c.read s ≡ r → (r ≡ Err Short → ⊥) → (t : List ℕ) × ((c.read (s ++ t) >>= f) ≡ Err Short → ⊥)
ends_after c l f after s (Ok x) e n =
    let g = after x.0 x.1 in
    (g.0, rw (more_ok c l s g.0 x.0 x.1 e) g.1)
ends_after c l f after s (Err Short) e n = absurd (n refl)
ends_after c l f after s (Err Bad) e n = ([], rw (l.bad s [] e) (λ q. cc))

pub ends_then : {A B : Type 0} (c : Codec A) → IsLawful c → (f : A × List ℕ → Result B WireFault)
    → ((v : A) (rest : List ℕ) → (t : List ℕ) × (f (v, rest ++ t) ≡ Err Short → ⊥)) → (s : List ℕ) → (t : List ℕ)
    × ((c.read (s ++ t) >>= f) ≡ Err Short → ⊥)
ends_then c l f after s =
    let g = l.ends s in
    let h = ends_after c l f after (s ++ g.0) (c.read (s ++ g.0)) refl g.1 in
    (g.0 ++ h.0, rw (sym (append_assoc s g.0 h.0)) h.1)

passed_bad : {B : Type 0} (b : Bool) (x y : B) → cond b (done x) (Err Bad) ≡ Err Bad → cond b (done y) (Err Bad) ≡ Err Bad
passed_bad true x y e = absurd cc
passed_bad false x y e = refl

passed_ends : {B : Type 0} (b : Bool) (x : B) → cond b (done x) (Err Bad) ≡ Err Short → ⊥
passed_ends true x e = cc
passed_ends false x e = cc

-- a test that asks for bytes
asked_bad : {B : Type 0} (b : Bool) (v : B) → cond b (Err Short) (done v) ≡ Err Bad → ⊥
asked_bad true v e = cc
asked_bad false v e = cc

asked_ends : {B : Type 0} (b : Bool) (v : B) → b ≡ false → cond b (Err Short) (done v) ≡ Err Short → ⊥
asked_ends true v t e = cc
asked_ends false v t e = cc

-- ---- numbers

-- a number of the width is told by its bytes
record IsWide (w : Width) : Type 0 where
  len : (n : ℕ) → length (to_be_bytes w n) ≡ byte_len w
  again : (v : ℤ) → FitsSigned w v → cast_signed w (from_be_bytes w (to_be_bytes w (cast_unsigned w v))) ≡ v
  half : 2 ^ bits w ≤ 2 ^ hbits w + 2 ^ hbits w

-- two's complement gives numbers of the width
half_fits : (w : Width) (b : Bool) (m : ℕ) → 2 ^ bits w ≤ 2 ^ hbits w + 2 ^ hbits w → ltb m (2 ^ hbits w) ≡ b
    → FitsSigned w (sel b (pos m) (negsuc (2 ^ bits w - suc m)))
half_fits w true m half t = record { sfits = ltb-true _ _ t }
half_fits w false m half t =
    let low : 2 ^ hbits w ≤ m = ltb-false _ _ t in
    let some : 0 < 2 ^ hbits w = pow_pos (hbits w) in
    record { sfits = omega arith }

signed_fits : (w : Width) → IsWide w → (m : ℕ) (v : ℤ) → cast_signed w m ≡ v → FitsSigned w v
signed_fits w wide m v e = subst (λ z. FitsSigned w z) e (half_fits w (ltb m (2 ^ hbits w)) m wide.half refl)

wide8 : IsWide w8
wide8 = record {
  len = λ n. refl;
  again = λ v fits. let e : cast_unsigned w8 v % 256 ≡ cast_unsigned w8 v = omega (arith, ints) in rw e (to_z-of_z w8 v fits);
  half = lit≤ tt;
}

wide16 : IsWide w16
wide16 = record {
  len = λ n. refl;
  again = λ v fits. ap (cast_signed w16) (from_be_bytes-to_be_bytes_2 (cast_unsigned w16 v) (omega (arith, ints))) ∙ to_z-of_z w16 v fits;
  half = lit≤ tt;
}

wide32 : IsWide w32
wide32 = record {
  len = λ n. refl;
  again = λ v fits. ap (cast_signed w32) (from_be_bytes-to_be_bytes_4 (cast_unsigned w32 v) (omega (arith, ints))) ∙ to_z-of_z w32 v fits;
  half = lit≤ tt;
}

wide64 : IsWide w64
wide64 = record {
  len = λ n. refl;
  again = λ v fits. ap (cast_signed w64) (from_be_bytes-to_be_bytes_8 (cast_unsigned w64 v) (omega (arith, ints))) ∙ to_z-of_z w64 v fits;
  half = lit≤ tt;
}

int_lawful : (w : Width) → IsWide w → IsLawful (int w)
unfolding int
int_lawful w wide = record {
  found = λ s v rest e.
      let k = byte_len w in
      let g = guard_ok (ltb (length s) k) Short (cast_signed w (from_be_bytes w (take k s)), drop k s) (v, rest) e in
      let long : k ≤ length s = ltb-false _ _ g.0 in (
        take k s,
        sym (take-append-drop k s) ∙ ap (λ t.
            take k s ++ t) (ap (λ p. p.1) g.1),
        (omega (arith, length-take k s), ap (λ p. p.0) g.1),
      );
  only = λ x v rest h.
      let k = byte_len w in
      let long : ltb (length (x ++ rest)) k ≡ false = le-ltb _ _ (omega (arith, length-append x rest, h.0)) in
      rw (long, take_at x rest k h.0, drop_at x rest k h.0, h.1) refl;
  bad = λ s t e. absurd (asked_bad (ltb (length s) (byte_len w))
      (cast_signed w (from_be_bytes w (take (byte_len w) s)), drop (byte_len w) s) e);
  ends = λ s.
      let k = byte_len w in
      let t = s ++ to_be_bytes w 0 in
      let test : ltb (length t) k ≡ false = le-ltb _ _ (omega (arith, length-append s (to_be_bytes w 0), wide.len 0)) in
      (to_be_bytes w 0, asked_ends (ltb (length t) k) (cast_signed w (from_be_bytes w (take k t)), drop k t) test);
  again = λ v r f. (wide.len (cast_unsigned w v), wide.again v r);
  fits = λ x v h. tt;
  in_range = λ x v h. signed_fits w wide (from_be_bytes w x) v h.1;
}

pub int8_lawful : IsLawful int8
int8_lawful = int_lawful w8 wide8

pub int16_lawful : IsLawful int16
int16_lawful = int_lawful w16 wide16

pub int32_lawful : IsLawful int32
int32_lawful = int_lawful w32 wide32

pub int64_lawful : IsLawful int64
int64_lawful = int_lawful w64 wide64

boolean_found : (s : List ℕ) (v : Bool) (rest : List ℕ) → boolean_at s ≡ Ok (v, rest) → (x : List ℕ) × (s ≡ x ++ rest)
    × ((b : ℕ) × (x ≡ b ∷ []) × (not (b == 0) ≡ v))
boolean_found [] v rest e = absurd cc
boolean_found (b ∷ s) v rest e =
    let is = ok_is (not (b == 0), s) (v, rest) e in
    (b ∷ [], ap (λ p. b ∷ p.1) is, (b, refl, ap (λ p. p.0) is))

boolean_bad : (s t : List ℕ) → boolean_at s ≡ Err Bad → boolean_at (s ++ t) ≡ Err Bad
boolean_bad [] t e = absurd cc
boolean_bad (b ∷ s) t e = absurd cc

boolean_ends : (s : List ℕ) → (t : List ℕ) × (boolean_at (s ++ t) ≡ Err Short → ⊥)
boolean_ends [] = (0 ∷ [], λ e. cc)
boolean_ends (b ∷ s) = ([], λ e. cc)

pub boolean_lawful : IsLawful boolean
unfolding boolean
boolean_lawful = record {
  found = boolean_found;
  only = λ x v rest h. rw (h.1, h.2) refl;
  bad = boolean_bad;
  ends = boolean_ends;
  again = λ v r f. elim v as (λ w. (b : ℕ) × (cond w 1 0 ∷ [] ≡ b ∷ [])
      × (not (b == 0) ≡ w)) [ true ↦ (1, refl, refl) | false ↦ (0, refl, refl) ];
  fits = λ x v h. tt;
  in_range = λ x v h. tt;
}

-- ---- lengths and counts

as_count_ok : (z : ℤ) (s : List ℕ) (n : ℕ) (rest : List ℕ) → as_count z s ≡ Ok (n, rest) → (z ≡ pos n) × (s ≡ rest)
as_count_ok (pos m) s n rest e = let is = ok_is (m, s) (n, rest) e in (ap (λ p. pos p.0) is, ap (λ p. p.1) is)
as_count_ok (negsuc m) s n rest e = absurd cc

as_count_bad : (z : ℤ) (s t : List ℕ) → as_count z s ≡ Err Bad → as_count z (s ++ t) ≡ Err Bad
as_count_bad (pos m) s t e = absurd cc
as_count_bad (negsuc m) s t e = refl

as_count_ends : (z : ℤ) (s : List ℕ) → (t : List ℕ) × (as_count z (s ++ t) ≡ Err Short → ⊥)
as_count_ends (pos m) s = ([], λ e. cc)
as_count_ends (negsuc m) s = ([], λ e. cc)

pub counted_lawful : (c : Codec ℤ) → IsLawful c → IsLawful (counted c)
unfolding counted
counted_lawful c l = record {
  found = λ s n rest e.
      let p = bind_ok (c.read s) (λ x. as_count x.0 x.1) (n, rest) e in
      let f = l.found s p.0.0 p.0.1 p.1 in
      let is = as_count_ok p.0.0 p.0.1 n rest p.2 in
      (f.0, f.1 ∙ ap (λ t. f.0 ++ t) is.1, subst (λ z. c.Spells f.0 z) is.0 f.2);
  only = λ x n rest h. rw (l.only x (pos n) rest h) refl;
  bad = bad_then c l (λ x. as_count x.0 x.1) as_count_bad;
  ends = ends_then c l (λ x. as_count x.0 x.1) as_count_ends;
  again = λ n r f. l.again (pos n) f.1 f.0;
  fits = λ x n h. (l.fits x (pos n) h, l.in_range x (pos n) h);
  in_range = λ x n h. tt;
}

as_nullable_count_ok : (z : ℤ) (s : List ℕ) (n : Option ℕ) (rest : List ℕ) → as_nullable_count z s ≡ Ok (n, rest) → (z ≡ nullable_number n)
    × (s ≡ rest)
as_nullable_count_ok (pos m) s n rest e = let is = ok_is (Some m, s) (n, rest) e in (ap (λ p. nullable_number p.0) is, ap (λ p. p.1) is)
as_nullable_count_ok (negsuc zero) s n rest e = let is = ok_is (None, s) (n, rest) e in (ap (λ p. nullable_number p.0) is, ap (λ p. p.1) is)
as_nullable_count_ok (negsuc (suc m)) s n rest e = absurd cc

as_nullable_count_of : (n : Option ℕ) (rest : List ℕ) → as_nullable_count (nullable_number n) rest ≡ Ok (n, rest)
as_nullable_count_of None rest = refl
as_nullable_count_of (Some n) rest = refl

as_nullable_count_bad : (z : ℤ) (s t : List ℕ) → as_nullable_count z s ≡ Err Bad → as_nullable_count z (s ++ t) ≡ Err Bad
as_nullable_count_bad (pos m) s t e = absurd cc
as_nullable_count_bad (negsuc zero) s t e = absurd cc
as_nullable_count_bad (negsuc (suc m)) s t e = refl

as_nullable_count_ends : (z : ℤ) (s : List ℕ) → (t : List ℕ) × (as_nullable_count z (s ++ t) ≡ Err Short → ⊥)
as_nullable_count_ends (pos m) s = ([], λ e. cc)
as_nullable_count_ends (negsuc zero) s = ([], λ e. cc)
as_nullable_count_ends (negsuc (suc m)) s = ([], λ e. cc)

pub nullable_counted_lawful : (c : Codec ℤ) → IsLawful c → IsLawful (nullable_counted c)
unfolding nullable_counted
nullable_counted_lawful c l = record {
  found = λ s n rest e.
      let p = bind_ok (c.read s) (λ x. as_nullable_count x.0 x.1) (n, rest) e in
      let f = l.found s p.0.0 p.0.1 p.1 in
      let is = as_nullable_count_ok p.0.0 p.0.1 n rest p.2 in
      (f.0, f.1 ∙ ap (λ t. f.0 ++ t) is.1, subst (λ z. c.Spells f.0 z) is.0 f.2);
  only = λ x n rest h. ap (λ r. r >>= λ x. as_nullable_count x.0 x.1) (l.only x (nullable_number n) rest h) ∙ as_nullable_count_of n rest;
  bad = bad_then c l (λ x. as_nullable_count x.0 x.1) as_nullable_count_bad;
  ends = ends_then c l (λ x. as_nullable_count x.0 x.1) as_nullable_count_ends;
  again = λ n r f. l.again (nullable_number n) f.1 f.0;
  fits = λ x n h. (l.fits x (nullable_number n) h, l.in_range x (nullable_number n) h);
  in_range = λ x n h. tt;
}

-- ---- bodies

body_more_ok : {A : Type 0} (b : Body A) → IsLawfulBody b → (n : ℕ) (s t : List ℕ) (v : A) (rest : List ℕ) → b.read n s ≡ Ok (v, rest)
    → b.read n (s ++ t) ≡ Ok (v, rest ++ t)
body_more_ok b l n s t v rest e =
    let f = l.found n s v rest e in
    ap (λ u. b.read n u) (ap (λ u. u ++ t) f.1 ∙ append_assoc f.0 rest t) ∙ ap (λ k. b.read k (f.0 ++ (rest ++ t))) (sym f.3)
    ∙ l.only f.0 v (rest ++ t) f.2

pub octets_lawful : IsLawfulBody octets
unfolding octets
octets_lawful = record {
  found = λ n s v rest e.
      let g = guard_ok (ltb (length s) n) Short (take n s, drop n s) (v, rest) e in
      let long : n ≤ length s = ltb-false _ _ g.0 in
      let front : take n s ≡ v = ap (λ p. p.0) g.1 in (
        take n s,
        sym (take-append-drop n s) ∙ ap (λ t. take n s ++ t) (ap (λ p. p.1) g.1),
        front,
        ap length (sym front)
            ∙ omega (arith, length-take n s),
      );
  only = λ x v rest h.
      let same : length x ≡ length v = ap length h in
      let long : ltb (length (x ++ rest)) (length v) ≡ false = le-ltb _ _ (omega (arith, length-append x rest)) in
      rw (long, take_at x rest (length v) same, drop_at x rest (length v) same, h) refl;
  bad = λ n s t e. absurd (asked_bad (ltb (length s) n) (take n s, drop n s) e);
  ends = λ n s.
      let t = s ++ replicate n 0 in
      let test : ltb (length t) n ≡ false = le-ltb _ _ (omega (arith, length-append s (replicate n 0), length-replicate {A = ℕ} n 0)) in
      (replicate n 0, asked_ends (ltb (length t) n) (take n t, drop n t) test);
  again = λ v r f. refl;
  fits = λ x v h. tt;
  in_range = λ x v h. tt;
}

pub utf8_lawful : IsLawfulBody utf8
unfolding utf8 octets
utf8_lawful = record {
  found = λ n s v rest e.
      let p = bind_ok (octets.read n s) (λ x. cond (is_utf8 x.0) (Ok x) (Err Bad)) (v, rest) e in
      let g = guard_passed (is_utf8 p.0.0) Bad p.0 (v, rest) p.2 in
      let f = octets_lawful.found n s p.0.0 p.0.1 p.1 in
      let is : IsUtf8 p.0.0 = IsUtf8-from_is_utf8 p.0.0 g.0 in
      subst (λ q. (x : List ℕ) × (s ≡ x ++ q.1) × ((x ≡ q.0) × IsUtf8 q.0) × (length q.0 ≡ n)) g.1 (f.0, f.1, (f.2, is), f.3);
  only = λ x v rest h. rw (octets_lawful.only x v rest h.0, is_utf8-from_IsUtf8 v h.1) refl;
  bad = λ n s t e.
      elim (bind_err (octets.read n s) (λ x. cond (is_utf8 x.0) (Ok x) (Err Bad)) Bad e) [
        | inl h ↦ rw (octets_lawful.bad n s t h) refl
        | inr h ↦ rw (body_more_ok octets octets_lawful n s t h.0.0 h.0.1 h.1) (passed_bad (is_utf8 h.0.0) h.0 (h.0.0, h.0.1 ++ t) h.2)
      ];
  ends = λ n s. let g = octets_lawful.ends n s in (
    g.0,
    λ e. elim (bind_err (octets.read n (s ++ g.0)) (λ x.
        cond (is_utf8 x.0) (Ok x) (Err Bad)) Short e) [ inl h ↦ g.1 h | inr h ↦ passed_ends (is_utf8 h.0.0) h.0 h.2 ],
  );
  again = λ v r f. (refl, r);
  fits = λ x v h. tt;
  in_range = λ x v h. h.1;
}

each_cons : {A : Type 0} (spells : List ℕ → A → Type 0) (x y : List ℕ) (v : A) (vs : List A) → spells x v → SpellEach spells y vs
    → SpellEach spells (x ++ y) (v ∷ vs)
each_cons spells x y v vs p q = (x, y, refl, p, q)

items_found : {A : Type 0} (c : Codec A) → IsLawful c → (n : ℕ) (s : List ℕ) (vs : List A) (rest : List ℕ)
    → items_at c.read n s ≡ Ok (vs, rest) → (x : List ℕ) × (s ≡ x ++ rest) × SpellEach c.Spells x vs × (length vs ≡ n)
unfolding items_at
items_found {A} c l zero s vs rest e =
    let start : List A × List ℕ = ([], s) in
    subst (λ (q : List A × List ℕ). (x : List ℕ) × (s ≡ x ++ q.1) × SpellEach c.Spells x q.0
    × (length q.0 ≡ 0)) (ok_is start (vs, rest) e) ([], refl, refl, refl)
items_found {A} c l (suc n) s vs rest e =
    let p = bind_ok (c.read s) (λ first. items_at c.read n first.1 >>= λ others. Ok (first.0 ∷ others.0, others.1)) (vs, rest) e in
    let q = bind_ok (items_at c.read n p.0.1) (λ others. Ok (p.0.0 ∷ others.0, others.1)) (vs, rest) p.2 in
    let f = l.found s p.0.0 p.0.1 p.1 in
    let o = items_found c l n p.0.1 q.0.0 q.0.1 q.1 in
    let made : List A × List ℕ = (p.0.0 ∷ q.0.0, q.0.1) in
    subst (λ (q : List A × List ℕ). (x : List ℕ) × (s ≡ x ++ q.1) × SpellEach c.Spells x q.0
    × (length q.0 ≡ suc n)) (ok_is made (vs, rest) q.2)
    (f.0 ++ o.0, two_parts s f.0 p.0.1 o.0 q.0.1 f.1 o.1, each_cons c.Spells f.0 o.0 p.0.0 q.0.0 f.2 o.2, ap suc o.3)

items_only : {A : Type 0} (c : Codec A) → IsLawful c → (x : List ℕ) (vs : List A) (rest : List ℕ) → SpellEach c.Spells x vs
    → items_at c.read (length vs) (x ++ rest) ≡ Ok (vs, rest)
unfolding items_at
items_only c l x [] rest h = rw h refl
items_only c l x (v ∷ vs) rest h = rw (h.2, append_assoc, l.only h.0 v (h.1 ++ rest) h.3, items_only c l h.1 vs rest h.4) refl

items_again : {A : Type 0} (c : Codec A) → IsLawful c → (vs : List A) → AllByRecursion c.InRange vs → AllByRecursion c.Fits vs
    → SpellEach c.Spells (flat_map c.written vs) vs
items_again c l [] r f = refl
items_again c l (v ∷ vs) r f = (c.written v, flat_map c.written vs, refl, l.again v r.0 f.0, items_again c l vs r.1 f.1)

items_fit : {A : Type 0} (c : Codec A) → IsLawful c → (x : List ℕ) (vs : List A) → SpellEach c.Spells x vs → AllByRecursion c.Fits vs
items_fit c l x [] h = tt
items_fit c l x (v ∷ vs) h = (l.fits h.0 v h.3, items_fit c l h.1 vs h.4)

items_in_range : {A : Type 0} (c : Codec A) → IsLawful c → (x : List ℕ) (vs : List A) → SpellEach c.Spells x vs
    → AllByRecursion c.InRange vs
items_in_range c l x [] h = tt
items_in_range c l x (v ∷ vs) h = (l.in_range h.0 v h.3, items_in_range c l h.1 vs h.4)

items_bad : {A : Type 0} (c : Codec A) → IsLawful c → (n : ℕ) (s t : List ℕ) → items_at c.read n s ≡ Err Bad
    → items_at c.read n (s ++ t) ≡ Err Bad
unfolding items_at
items_bad {A} c l zero s t e = absurd cc
items_bad {A} c l (suc n) s t e =
    bad_then {B = List A × List ℕ} c l (λ first. items_at c.read n first.1 >>= λ others. Ok (first.0 ∷ others.0, others.1))
    (λ v rest u q. rw (items_bad c l n rest u
    (map_err {B = List A × List ℕ} (items_at c.read n rest) (λ others. (v ∷ others.0, others.1)) Bad q)) refl) s t e

items_end : {A : Type 0} (c : Codec A) → IsLawful c → (n : ℕ) (s : List ℕ) → (t : List ℕ) × (items_at c.read n (s ++ t) ≡ Err Short → ⊥)
unfolding items_at
items_end {A} c l zero s = ([], λ e. cc)
items_end {A} c l (suc n) s =
    ends_then {B = List A × List ℕ} c l (λ first. items_at c.read n first.1 >>= λ others. Ok (first.0 ∷ others.0, others.1))
    (λ v rest. let g = items_end c l n rest in
    (g.0, λ q. g.1 (map_err {B = List A × List ℕ} (items_at c.read n (rest ++ g.0)) (λ others. (v ∷ others.0, others.1)) Short q))) s

pub items_lawful : {A : Type 0} (c : Codec A) → IsLawful c → IsLawfulBody (items c)
unfolding items
items_lawful c l = record {
  found = items_found c l;
  only = items_only c l;
  bad = items_bad c l;
  ends = items_end c l;
  again = λ vs r f. items_again c l vs (recursion_from_All c.InRange vs r) (recursion_from_All c.Fits vs f);
  fits = λ x vs h. All-from_recursion c.Fits vs (items_fit c l x vs h);
  in_range = λ x vs h. All-from_recursion c.InRange vs (items_in_range c l x vs h);
}

pub sized_lawful : {A : Type 0} (h : Codec ℕ) (b : Body A) → IsLawful h → IsLawfulBody b → IsLawful (sized h b)
unfolding sized
sized_lawful h b lh lb = record {
  found = λ s v rest e.
      let p = bind_ok (h.read s) (λ n. b.read n.0 n.1) (v, rest) e in
      let fh = lh.found s p.0.0 p.0.1 p.1 in
      let fb = lb.found p.0.0 p.0.1 v rest p.2 in
      (fh.0 ++ fb.0, two_parts s fh.0 p.0.1 fb.0 rest fh.1 fb.1, (fh.0, fb.0, refl, subst (λ n. h.Spells fh.0 n) (sym fb.3) fh.2, fb.2));
  only = λ x v rest q. rw (q.2, append_assoc, lh.only q.0 (b.size v) (q.1 ++ rest) q.3, lb.only q.1 v rest q.4) refl;
  bad = bad_then h lh (λ n. b.read n.0 n.1) lb.bad;
  ends = ends_then h lh (λ n. b.read n.0 n.1) lb.ends;
  again = λ v r f. (h.written (b.size v), b.written v, refl, lh.again (b.size v) r.0 f.0, lb.again v r.1 f.1);
  fits = λ x v q. (lh.fits q.0 (b.size v) q.3, lb.fits q.1 v q.4);
  in_range = λ x v q. (lh.in_range q.0 (b.size v) q.3, lb.in_range q.1 v q.4);
}

nullable_found : {A : Type 0} (h : Codec (Option ℕ)) (b : Body A) → IsLawfulBody b
    → (n : Option ℕ) (front s t : List ℕ) (v : Option A) (rest : List ℕ) → h.Spells front n → s ≡ front ++ t
    → nullable_at b n t ≡ Ok (v, rest) → (x : List ℕ) × (s ≡ x ++ rest) × SpellsNullable h b x v
nullable_found {A} h b lb None front s t v rest hs is e =
    let start : Option A × List ℕ = (None, t) in
    subst (λ (q : Option A × List ℕ). (x : List ℕ) × (s ≡ x ++ q.1) × SpellsNullable h b x q.0) (ok_is start (v, rest) e) (front, is, hs)
nullable_found {A} h b lb (Some n) front s t v rest hs is e =
    let p = bind_ok (b.read n t) (λ x. Ok (Some x.0, x.1)) (v, rest) e in
    let f = lb.found n t p.0.0 p.0.1 p.1 in
    let made : Option A × List ℕ = (Some p.0.0, p.0.1) in
    subst (λ (q : Option A × List ℕ). (x : List ℕ) × (s ≡ x ++ q.1) × SpellsNullable h b x q.0) (ok_is made (v, rest) p.2)
    (front ++ f.0, two_parts s front t f.0 p.0.1 is f.1, (front, f.0, refl, subst (λ m. h.Spells front (Some m)) (sym f.3) hs, f.2))

nullable_only : {A : Type 0} (h : Codec (Option ℕ)) (b : Body A) → IsLawful h → IsLawfulBody b → (x : List ℕ) (v : Option A) (rest : List ℕ)
    → SpellsNullable h b x v → (h.read (x ++ rest) >>= λ n. nullable_at b n.0 n.1) ≡ Ok (v, rest)
nullable_only h b lh lb x None rest q = rw (lh.only x None rest q) refl
nullable_only h b lh lb x (Some v) rest q =
    rw (q.2, append_assoc, lh.only q.0 (Some (b.size v)) (q.1 ++ rest) q.3, lb.only q.1 v rest q.4) refl

nullable_again : {A : Type 0} (h : Codec (Option ℕ)) (b : Body A) → IsLawful h → IsLawfulBody b → (v : Option A) → (nullable h b).InRange v
    → (nullable h b).Fits v → SpellsNullable h b ((nullable h b).written v) v
unfolding nullable
nullable_again h b lh lb None r f = lh.again None r f
nullable_again h b lh lb (Some v) r f =
    (h.written (Some (b.size v)), b.written v, refl, lh.again (Some (b.size v)) r.0 f.0, lb.again v r.1 f.1)

nullable_body_fits : {A : Type 0} (h : Codec (Option ℕ)) (b : Body A) → IsLawful h → IsLawfulBody b → (x : List ℕ) (v : Option A)
    → SpellsNullable h b x v → (nullable h b).Fits v
unfolding nullable
nullable_body_fits h b lh lb x None q = lh.fits x None q
nullable_body_fits h b lh lb x (Some v) q = (lh.fits q.0 (Some (b.size v)) q.3, lb.fits q.1 v q.4)

nullable_in_range : {A : Type 0} (h : Codec (Option ℕ)) (b : Body A) → IsLawful h → IsLawfulBody b → (x : List ℕ) (v : Option A)
    → SpellsNullable h b x v → (nullable h b).InRange v
unfolding nullable
nullable_in_range h b lh lb x None q = lh.in_range x None q
nullable_in_range h b lh lb x (Some v) q = (lh.in_range q.0 (Some (b.size v)) q.3, lb.in_range q.1 v q.4)

nullable_at_bad : {A : Type 0} (b : Body A) → IsLawfulBody b → (n : Option ℕ) (s t : List ℕ) → nullable_at b n s ≡ Err Bad
    → nullable_at b n (s ++ t) ≡ Err Bad
nullable_at_bad b lb None s t e = absurd cc
nullable_at_bad b lb (Some n) s t e = rw (lb.bad n s t (map_err (b.read n s) (λ x. (Some x.0, x.1)) Bad e)) refl

nullable_at_ends : {A : Type 0} (b : Body A) → IsLawfulBody b → (n : Option ℕ) (s : List ℕ) → (t : List ℕ)
    × (nullable_at b n (s ++ t) ≡ Err Short → ⊥)
nullable_at_ends b lb None s = ([], λ e. cc)
nullable_at_ends b lb (Some n) s = let g = lb.ends n s in (g.0, λ e. g.1 (map_err (b.read n (s ++ g.0)) (λ x. (Some x.0, x.1)) Short e))

pub nullable_lawful : {A : Type 0} (h : Codec (Option ℕ)) (b : Body A) → IsLawful h → IsLawfulBody b → IsLawful (nullable h b)
unfolding nullable
nullable_lawful h b lh lb = record {
  found = λ s v rest e.
      let p = bind_ok (h.read s) (λ n. nullable_at b n.0 n.1) (v, rest) e in
      let f = lh.found s p.0.0 p.0.1 p.1 in
      nullable_found h b lb p.0.0 f.0 s p.0.1 v rest f.2 f.1 p.2;
  only = nullable_only h b lh lb;
  bad = bad_then h lh (λ n. nullable_at b n.0 n.1) (nullable_at_bad b lb);
  ends = ends_then h lh (λ n. nullable_at b n.0 n.1) (nullable_at_ends b lb);
  again = nullable_again h b lh lb;
  fits = nullable_body_fits h b lh lb;
  in_range = nullable_in_range h b lh lb;
}

-- ---- the protocol's names

pub length_lawful : IsLawful (count w16)
length_lawful = counted_lawful int16 int16_lawful

pub count32_lawful : IsLawful (count w32)
count32_lawful = counted_lawful int32 int32_lawful

pub string_lawful : IsLawful string
string_lawful = sized_lawful (count w16) utf8 length_lawful utf8_lawful

pub nullable_string_lawful : IsLawful nullable_string
nullable_string_lawful = nullable_lawful (nullable_count w16) utf8 (nullable_counted_lawful int16 int16_lawful) utf8_lawful

pub blob_lawful : IsLawful blob
blob_lawful = sized_lawful (count w32) octets count32_lawful octets_lawful

pub nullable_blob_lawful : IsLawful nullable_blob
nullable_blob_lawful = nullable_lawful (nullable_count w32) octets (nullable_counted_lawful int32 int32_lawful) octets_lawful

pub array_lawful : {A : Type 0} (c : Codec A) → IsLawful c → IsLawful (array c)
array_lawful c l = sized_lawful (count w32) (items c) count32_lawful (items_lawful c l)

pub nullable_array_lawful : {A : Type 0} (c : Codec A) → IsLawful c → IsLawful (nullable_array c)
nullable_array_lawful c l = nullable_lawful (nullable_count w32) (items c) (nullable_counted_lawful int32 int32_lawful) (items_lawful c l)

-- ---- fields one after another

pub nothing_lawful : IsLawful nothing
unfolding nothing
nothing_lawful = record {
  found = λ s v rest e. ([], ap (λ p. p.1) (ok_is (tt, s) (v, rest) e), refl);
  only = λ x v rest h. rw h refl;
  bad = λ s t e. cc;
  ends = λ s. ([], λ e. cc);
  again = λ v r f. refl;
  fits = λ x v h. tt;
  in_range = λ x v h. tt;
}

pub pair_lawful : {A B : Type 0} {a : Codec A} {b : Codec B} → IsLawful a → IsLawful b → IsLawful (a ⊗ b)
pair_lawful {A} {B} {a} {b} la lb = record {
  found = λ s v rest e.
      let p = bind_ok (a.read s) (λ x. b.read x.1 >>= λ y. Ok ((x.0, y.0), y.1)) (v, rest) e in
      let q = bind_ok (b.read p.0.1) (λ y. Ok ((p.0.0, y.0), y.1)) (v, rest) p.2 in
      let fa = la.found s p.0.0 p.0.1 p.1 in
      let fb = lb.found p.0.1 q.0.0 q.0.1 q.1 in
      let made : (A × B) × List ℕ = ((p.0.0, q.0.0), q.0.1) in
      subst (λ (w : (A × B) × List ℕ). (x : List ℕ) × (s ≡ x ++ w.1) × (a ⊗ b).Spells x w.0) (ok_is made (v, rest) q.2)
      (fa.0 ++ fb.0, two_parts s fa.0 p.0.1 fb.0 q.0.1 fa.1 fb.1, (fa.0, fb.0, refl {a = fa.0 ++ fb.0}, fa.2, fb.2));
  only = λ s v rest h. rw (h.2, append_assoc, la.only h.0 v.0 (h.1 ++ rest) h.3, lb.only h.1 v.1 rest h.4) refl;
  bad = bad_then {B = (A × B) × List ℕ} a la (λ x. b.read x.1 >>= λ y. Ok ((x.0, y.0), y.1)) (λ v rest t q.
      rw (lb.bad rest t (map_err {B = (A × B) × List ℕ} (b.read rest) (λ y. ((v, y.0), y.1)) Bad q)) refl);
  ends = ends_then {B = (A × B) × List ℕ} a la (λ x. b.read x.1 >>= λ y. Ok ((x.0, y.0), y.1)) (λ v rest.
      let g = lb.ends rest in (g.0, λ q. g.1 (map_err {B = (A × B) × List ℕ} (b.read (rest ++ g.0)) (λ y. ((v, y.0), y.1)) Short q)));
  again = λ v r f. (a.written v.0, b.written v.1, refl, la.again v.0 r.0 f.0, lb.again v.1 r.1 f.1);
  fits = λ x v h. (la.fits h.0 v.0 h.3, lb.fits h.1 v.1 h.4);
  in_range = λ x v h. (la.in_range h.0 v.0 h.3, lb.in_range h.1 v.1 h.4);
}

pub via_lawful : {A B : Type 0} (there : A → B) (back : B → A) {c : Codec A} → IsLawful c → ((v : B) → there (back v) ≡ v)
    → ((v : A) → back (there v) ≡ v) → IsLawful (via there back c)
via_lawful {A} {B} there back {c} l there_back back_there = record {
  found = λ s v rest e.
      let p = bind_ok (c.read s) (λ x. Ok (there x.0, x.1)) (v, rest) e in
      let f = l.found s p.0.0 p.0.1 p.1 in
      let made : B × List ℕ = (there p.0.0, p.0.1) in
      subst (λ (w : B × List ℕ). (x : List ℕ) × (s ≡ x ++ w.1) × c.Spells x (back w.0)) (ok_is made (v, rest) p.2)
      (f.0, f.1, rw (back_there p.0.0) f.2);
  only = λ x v rest h. rw (l.only x (back v) rest h, there_back v) refl;
  bad = λ s t e. rw (l.bad s t (map_err (c.read s) (λ x. (there x.0, x.1)) Bad e)) refl;
  ends = λ s. let g = l.ends s in (g.0, λ e. g.1 (map_err (c.read (s ++ g.0)) (λ x. (there x.0, x.1)) Short e));
  again = λ v r f. l.again (back v) r f;
  fits = λ x v h. l.fits x (back v) h;
  in_range = λ x v h. l.in_range x (back v) h;
}

pub refined_lawful : {A : Type 0} (p : A → Bool) (c : Codec A) → IsLawful c → IsLawful (refined p c)
unfolding refined
refined_lawful p c l = record {
  found = λ s v rest e.
      let q = bind_ok (c.read s) (λ x. cond (p x.0) (Ok x) (Err Bad)) (v, rest) e in
      let g = guard_passed (p q.0.0) Bad q.0 (v, rest) q.2 in
      let f = l.found s q.0.0 q.0.1 q.1 in
      (f.0, f.1 ∙ ap (λ y. f.0 ++ y.1) g.1, (subst (λ y. c.Spells f.0 y.0) g.1 f.2, subst (λ y. p y.0 ≡ true) g.1 g.0));
  only = λ x v rest h. rw (l.only x v rest h.0, h.1) refl;
  bad = bad_then c l (λ x. cond (p x.0) (Ok x) (Err Bad)) (λ v rest t q. passed_bad (p v) (v, rest) (v, rest ++ t) q);
  ends = ends_then c l (λ x. cond (p x.0) (Ok x) (Err Bad)) (λ v rest. ([], passed_ends (p v) (v, rest ++ [])));
  again = λ v r f. (l.again v r.0 f, r.1);
  fits = λ x v h. l.fits x v h.0;
  in_range = λ x v h. (l.in_range x v h.0, h.1);
}
