-- Replies with a throttle time, and the versions that have one.
use Rattle.std.proofs.Common.{◌≡◌, ◌<◌, ◌+◌, ◌^◌, ◌++◌, ℕ, ℤ, pos, List, ◌∷◌, length, true, false, nat_lt, refl, arith}
use Rattle.std.proofs.lemmas.Bool.Decides.{nat_tests}
use Rattle.kb_wire.specs.Codec.{int}
use Rattle.kb_wire.specs.declared.api_key.TheConstants.{DELETE_TOPICS, JOIN_GROUP}
use Rattle.kb_tenant.specs.Replies.{framed, reply_size}
use Rattle.kb_isolation_spec.specs.Session.{Session, replied}
use Rattle.kb_isolation_spec.specs.Versions.{base_of}

pub replied-throttled : (id key version : ℤ) (body : List ℕ) (s : Session) → 8 + length body < 2 ^ 31 → replied (record { correlation_id = id; is_throttled = true; api_key = key; api_version = version }) body s ≡ record s { output = s.output ++ framed id (0 ∷ 0 ∷ 0 ∷ 0 ∷ body) }
unfolding replied int
replied-throttled id key version body s fits =
    let small : nat_lt 2147483647 (reply_size (0 ∷ 0 ∷ 0 ∷ 0 ∷ body)) ≡ false = grind (arith, nat_tests, fits) in
    rw small refl

pub replied-plain : (id key version : ℤ) (body : List ℕ) (s : Session) → 4 + length body < 2 ^ 31 → replied (record { correlation_id = id; is_throttled = false; api_key = key; api_version = version }) body s ≡ record s { output = s.output ++ framed id body }
unfolding replied
replied-plain id key version body s fits =
    let small : nat_lt 2147483647 (reply_size body) ≡ false = grind (arith, nat_tests, fits) in
    rw small refl

pub join-base : base_of JOIN_GROUP (pos 2) ≡ record { version = pos 1; is_throttled = true }
unfolding base_of
join-base = refl

pub deletion-base : base_of DELETE_TOPICS (pos 3) ≡ record { version = pos 1; is_throttled = false }
unfolding base_of
deletion-base = refl
