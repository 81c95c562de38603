-- How a value is spelled in bytes, and how bytes are read: the primitives of the Kafka protocol guide ("Protocol Primitive Types"), and
-- the ways to put them together.
use Rattle.std.specs.Prelude.{◌≡◌, ℕ, zero, suc, ℤ, pos, negsuc, Bool, true, List, [], ◌∷◌, ◌++◌, length, take, drop, Option, Some, None}
use Rattle.std.specs.Prelude.{Result, Ok, Err, nat_lt, ◌==◌, if◌then◌else◌, FitsSigned, IsUtf8, All, not}
use Rattle.std.specs.Int.{Width, w8, w16, w32, w64, byte_len, from_be_bytes, to_be_bytes, cast_signed, cast_unsigned}
use Rattle.std.specs.List.{flat_map}
use Rattle.std.specs.Str.{is_utf8}
use Rattle.kb_wire.specs.declared.fault.WireFault.{WireFault}
use Rattle.kb_wire.specs.declared.fault.WireFault.TheVariants.{Short, Bad}

-- one reading and then another: the first fault ends it
infixl 10 ◌>>=◌
abbrev pub ◌>>=◌ : {A B : Type 0} → Result A WireFault → (A → Result B WireFault) → Result B WireFault
(Ok x) >>= f = f x
(Err e) >>= f = Err e

-- How values of one type stand in bytes.
pub record Codec (A : Type 0) : Type 1 where
  -- the bytes spell the value
  pub Spells : List ℕ → A → Type 0
  -- the value at the front and the bytes after it, or the first fault
  pub read : List ℕ → Result (A × List ℕ) WireFault
  -- the one spelling that is written
  pub written : A → List ℕ
  -- its lengths and counts fit their fields
  pub Fits : A → Type 0
  -- its parts are values of their Rust types: numbers in range, texts UTF-8
  pub InRange : A → Type 0

-- ---- numbers and flags

-- two's complement, high byte first
unfoldable pub int : Width → Codec ℤ
int w = record {
  Spells = λ s v. (length s ≡ byte_len w) × (cast_signed w (from_be_bytes w s) ≡ v);
  read = λ s. if nat_lt (length s) (byte_len w) then Err Short
      else Ok (cast_signed w (from_be_bytes w (take (byte_len w) s)), drop (byte_len w) s);
  written = λ v. to_be_bytes w (cast_unsigned w v);
  Fits = λ v. Unit {0};
  InRange = λ v. FitsSigned w v;
}

abbrev pub boolean_at : List ℕ → Result (Bool × List ℕ) WireFault
boolean_at [] = Err Short
boolean_at (b ∷ rest) = Ok (not (b == 0), rest)

-- 0 is false, and any other byte is read as true
unfoldable pub boolean : Codec Bool
boolean = record {
  Spells = λ s v. (b : ℕ) × (s ≡ b ∷ []) × (not (b == 0) ≡ v);
  read = boolean_at;
  written = λ v. (if v then 1 else 0) ∷ [];
  Fits = λ v. Unit {0};
  InRange = λ v. Unit {0};
}

-- ---- lengths and counts

abbrev pub as_count : ℤ → List ℕ → Result (ℕ × List ℕ) WireFault
as_count (pos n) rest = Ok (n, rest)
as_count (negsuc n) rest = Err Bad

-- a number that is not negative
unfoldable pub counted : Codec ℤ → Codec ℕ
counted c = record {
  Spells = λ s n. c.Spells s (pos n);
  read = λ s. c.read s >>= λ x. as_count x.0 x.1;
  written = λ n. c.written (pos n);
  Fits = λ n. c.Fits (pos n) × c.InRange (pos n);
  InRange = λ n. Unit {0};
}

abbrev pub as_nullable_count : ℤ → List ℕ → Result (Option ℕ × List ℕ) WireFault
as_nullable_count (pos n) rest = Ok (Some n, rest)
as_nullable_count (negsuc zero) rest = Ok (None, rest)
as_nullable_count (negsuc (suc n)) rest = Err Bad

abbrev pub nullable_number : Option ℕ → ℤ
nullable_number None = negsuc 0
nullable_number (Some n) = pos n

-- a number that is not negative, or -1 for null
unfoldable pub nullable_counted : Codec ℤ → Codec (Option ℕ)
nullable_counted c = record {
  Spells = λ s n. c.Spells s (nullable_number n);
  read = λ s. c.read s >>= λ x. as_nullable_count x.0 x.1;
  written = λ n. c.written (nullable_number n);
  Fits = λ n. c.Fits (nullable_number n) × c.InRange (nullable_number n);
  InRange = λ n. Unit {0};
}

-- a length or a count of that width
abbrev pub count : Width → Codec ℕ
count w = counted (int w)

abbrev pub nullable_count : Width → Codec (Option ℕ)
nullable_count w = nullable_counted (int w)

-- ---- what stands behind a length or a count

-- A codec whose length or count stands before it: read is given it, and size tells it.
pub record Body (A : Type 0) : Type 1 where
  pub size : A → ℕ
  pub Spells : List ℕ → A → Type 0
  pub read : ℕ → List ℕ → Result (A × List ℕ) WireFault
  pub written : A → List ℕ
  pub Fits : A → Type 0
  pub InRange : A → Type 0

-- that many bytes
unfoldable pub octets : Body (List ℕ)
octets = record {
  size = length;
  Spells = λ s v. s ≡ v;
  read = λ n s. if nat_lt (length s) n then Err Short else Ok (take n s, drop n s);
  written = λ v. v;
  Fits = λ v. Unit {0};
  InRange = λ v. Unit {0};
}

-- that many bytes of UTF-8
unfoldable pub utf8 : Body (List ℕ)
utf8 = record {
  size = length;
  Spells = λ s v. (s ≡ v) × IsUtf8 v;
  read = λ n s. octets.read n s >>= λ x. if is_utf8 x.0 then Ok x else Err Bad;
  written = λ v. v;
  Fits = λ v. Unit {0};
  InRange = λ v. IsUtf8 v;
}

-- the bytes are the items' spellings, one after another
abbrev pub SpellEach : {A : Type 0} → (List ℕ → A → Type 0) → List ℕ → List A → Type 0
SpellEach spells s [] = s ≡ []
SpellEach spells s (v ∷ vs) = (x y : List ℕ) × (s ≡ x ++ y) × spells x v × SpellEach spells y vs

unfoldable pub items_at : {A : Type 0} → (List ℕ → Result (A × List ℕ) WireFault) → ℕ → List ℕ → Result (List A × List ℕ) WireFault
items_at item zero s = Ok ([], s)
items_at item (suc n) s = item s >>= λ first. items_at item n first.1 >>= λ others. Ok (first.0 ∷ others.0, others.1)

-- that many items
unfoldable pub items : {A : Type 0} → Codec A → Body (List A)
items c = record {
  size = length;
  Spells = SpellEach c.Spells;
  read = items_at c.read;
  written = λ vs. flat_map c.written vs;
  Fits = λ vs. All c.Fits vs;
  InRange = λ vs. All c.InRange vs;
}

-- a length, and the body
unfoldable pub sized : {A : Type 0} → Codec ℕ → Body A → Codec A
sized head body = record {
  Spells = λ s v. (h t : List ℕ) × (s ≡ h ++ t) × head.Spells h (body.size v) × body.Spells t v;
  read = λ s. head.read s >>= λ n. body.read n.0 n.1;
  written = λ v. head.written (body.size v) ++ body.written v;
  Fits = λ v. head.Fits (body.size v) × body.Fits v;
  InRange = λ v. head.InRange (body.size v) × body.InRange v;
}

-- a length that may be null, and the body where it is not
abbrev pub SpellsNullable : {A : Type 0} → Codec (Option ℕ) → Body A → List ℕ → Option A → Type 0
SpellsNullable head body s None = head.Spells s None
SpellsNullable head body s (Some v) = (h t : List ℕ) × (s ≡ h ++ t) × head.Spells h (Some (body.size v)) × body.Spells t v

abbrev pub nullable_at : {A : Type 0} → Body A → Option ℕ → List ℕ → Result (Option A × List ℕ) WireFault
nullable_at body None s = Ok (None, s)
nullable_at body (Some n) s = body.read n s >>= λ x. Ok (Some x.0, x.1)

abbrev pub written_nullable : {A : Type 0} → Codec (Option ℕ) → Body A → Option A → List ℕ
written_nullable head body None = head.written None
written_nullable head body (Some v) = head.written (Some (body.size v)) ++ body.written v

abbrev pub FitsNullable : {A : Type 0} → Codec (Option ℕ) → Body A → Option A → Type 0
FitsNullable head body None = head.Fits None
FitsNullable head body (Some v) = head.Fits (Some (body.size v)) × body.Fits v

abbrev pub InRangeNullable : {A : Type 0} → Codec (Option ℕ) → Body A → Option A → Type 0
InRangeNullable head body None = head.InRange None
InRangeNullable head body (Some v) = head.InRange (Some (body.size v)) × body.InRange v

unfoldable pub nullable : {A : Type 0} → Codec (Option ℕ) → Body A → Codec (Option A)
nullable head body = record {
  Spells = SpellsNullable head body;
  read = λ s. head.read s >>= λ n. nullable_at body n.0 n.1;
  written = written_nullable head body;
  Fits = FitsNullable head body;
  InRange = InRangeNullable head body;
}

-- ---- the protocol's names

abbrev pub int8 : Codec ℤ
int8 = int w8

abbrev pub int16 : Codec ℤ
int16 = int w16

abbrev pub int32 : Codec ℤ
int32 = int w32

abbrev pub int64 : Codec ℤ
int64 = int w64

abbrev pub string : Codec (List ℕ)
string = sized (count w16) utf8

abbrev pub nullable_string : Codec (Option (List ℕ))
nullable_string = nullable (nullable_count w16) utf8

abbrev pub blob : Codec (List ℕ)
blob = sized (count w32) octets

abbrev pub nullable_blob : Codec (Option (List ℕ))
nullable_blob = nullable (nullable_count w32) octets

abbrev pub array : {A : Type 0} → Codec A → Codec (List A)
array c = sized (count w32) (items c)

abbrev pub nullable_array : {A : Type 0} → Codec A → Codec (Option (List A))
nullable_array c = nullable (nullable_count w32) (items c)

-- ---- fields one after another

-- no field
unfoldable pub nothing : Codec (Unit {0})
nothing = record {
  Spells = λ s v. s ≡ [];
  read = λ s. Ok (tt, s);
  written = λ v. [];
  Fits = λ v. Unit {0};
  InRange = λ v. Unit {0};
}

infixr 20 ◌⊗◌
abbrev pub ◌⊗◌ : {A B : Type 0} → Codec A → Codec B → Codec (A × B)
a ⊗ b = record {
  Spells = λ s v. (x y : List ℕ) × (s ≡ x ++ y) × a.Spells x v.0 × b.Spells y v.1;
  read = λ s. a.read s >>= λ x. b.read x.1 >>= λ y. Ok ((x.0, y.0), y.1);
  written = λ v. a.written v.0 ++ b.written v.1;
  Fits = λ v. a.Fits v.0 × b.Fits v.1;
  InRange = λ v. a.InRange v.0 × b.InRange v.1;
}

-- the same spelling for a type that is told apart by names
abbrev pub via : {A B : Type 0} → (A → B) → (B → A) → Codec A → Codec B
via there back c = record {
  Spells = λ s v. c.Spells s (back v);
  read = λ s. c.read s >>= λ x. Ok (there x.0, x.1);
  written = λ v. c.written (back v);
  Fits = λ v. c.Fits (back v);
  InRange = λ v. c.InRange (back v);
}

-- of a codec's values those that pass a test: the bytes of any other are Bad
unfoldable pub refined : {A : Type 0} → (A → Bool) → Codec A → Codec A
refined p c = record {
  Spells = λ s v. c.Spells s v × (p v ≡ true);
  read = λ s. c.read s >>= λ x. if p x.0 then Ok x else Err Bad;
  written = c.written;
  Fits = c.Fits;
  InRange = λ v. c.InRange v × (p v ≡ true);
}

-- a whole body: bytes that are left over are a fault
abbrev pub whole : {A : Type 0} → Codec A → List ℕ → Result A WireFault
whole c s = c.read s >>= λ x. if length x.1 == 0 then Ok x.0 else Err Bad
