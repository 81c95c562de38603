-- When a value fits: what a caller of write shows.
use Rattle.std.specs.Prelude.{◌<◌, ◌^◌, ℕ, List, length, Some, None, All}
use Rattle.std.proofs.Common.{lit<}
use Rattle.kb_wire.specs.Codec.{Codec, int, counted, nullable_counted, sized, nullable, octets, utf8, items, string, nullable_string, blob}
use Rattle.kb_wire.specs.Codec.{nullable_blob, array, nullable_array}

-- a text of at most 32767 bytes
pub string_fits : (v : List ℕ) → length v < 2 ^ 15 → string.Fits v
unfolding sized counted int utf8
string_fits v lt = ((tt, record { sfits = lt }), tt)

pub nullable_string_fits : (v : List ℕ) → length v < 2 ^ 15 → nullable_string.Fits (Some v)
unfolding nullable nullable_counted int utf8
nullable_string_fits v lt = ((tt, record { sfits = lt }), tt)

pub null_string_fits : nullable_string.Fits None
unfolding nullable nullable_counted int
null_string_fits = (tt, record { sfits = lit< tt })

-- at most 2147483647 bytes
pub blob_fits : (v : List ℕ) → length v < 2 ^ 31 → blob.Fits v
unfolding sized counted int octets
blob_fits v lt = ((tt, record { sfits = lt }), tt)

pub nullable_blob_fits : (v : List ℕ) → length v < 2 ^ 31 → nullable_blob.Fits (Some v)
unfolding nullable nullable_counted int octets
nullable_blob_fits v lt = ((tt, record { sfits = lt }), tt)

-- at most 2147483647 items, each of which fits
pub array_fits : {A : Type 0} (c : Codec A) (vs : List A) → length vs < 2 ^ 31 → All c.Fits vs → (array c).Fits vs
unfolding sized counted int items
array_fits c vs lt each = ((tt, record { sfits = lt }), each)

pub null_array_fits : {A : Type 0} (c : Codec A) → (nullable_array c).Fits None
unfolding nullable nullable_counted int
null_array_fits c = (tt, record { sfits = lit< tt })
