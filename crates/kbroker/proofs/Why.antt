-- Why a connection was closed.
use Rattle.std.proofs.Common.{◌≡◌, ◌∙◌, ℕ, ℤ, pos, negsuc, List, Bor, Option, None, Some, Result, Ok, Err, inl, inr, ap, length, refl, sym, string_bytes}
use Rattle.std.proofs.lemmas.Option.{slice_get_past, slice_get_read}
use Rattle.std.proofs.Math.IntN.{nat_abs}
use Rattle.std.specs.Prelude.{IfOk, option_copied, slice_get}
use Rattle.std.specs.Int.{FitsUnsignedBits}
use Rattle.std.specs.Slice.{IsItemAt}
use Rattle.std.specs.declared.string.String.{String}
use Rattle.kb_node.specs.declared.closed.Cause.{Cause}
use Rattle.kb_operator.specs.Logged.{bytes_or_none}
use Rattle.kbroker.specs.Shut.{IsWhy, api_name, api_names, cause_words}

pub why_of : {A E : Type 0} (r : Result (String A) E) (cause : Cause) (request_bytes : ℕ)
    → IfOk r (λ text. string_bytes text ≡ cause_words cause request_bytes) → IsWhy cause request_bytes (bytes_or_none r)
why_of (Ok text) cause request_bytes is = inl is
why_of (Err e) cause request_bytes is = inr refl

-- what stands at a place, as it is copied
pub copied_at : {X : Type 0} (xs : List X) (i : ℕ) (r : Option (Bor X)) → IsItemAt xs i r → option_copied r ≡ slice_get xs i
copied_at xs i None h = sym (slice_get_past xs i h.3)
copied_at xs i (Some x) h = sym (slice_get_read xs (length xs) i x.now refl h.3.0 h.1)

-- the name at the place of a key
pub name_found : (key : ℤ) (place : ℕ) (got : Option (List ℕ)) → FitsUnsignedBits 64 key → place ≡ nat_abs key → got ≡ slice_get api_names place
    → got ≡ api_name key
name_found (pos k) place got fits is item = item ∙ ap (slice_get api_names) is
name_found (negsuc n) place got fits is item = absurd fits
