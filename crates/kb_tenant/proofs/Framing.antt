-- The size of a reply, set when its body is there.
use Rattle.std.proofs.Common.{◌≡◌, ◌∙◌, ◌+◌, ◌≤◌, ◌<◌, ◌-◌, ◌++◌, Bool, true, false, ℕ, ℤ, List, length, drop, ap, refl, arith, if◌then◌else◌}
use Rattle.std.specs.Prelude.{Option, Some, None}
use Rattle.std.proofs.lemmas.Bool.{ltb-false, le-ltb}
use Rattle.std.specs.Int.{w32, to_be_bytes}
use Rattle.kb_wire.specs.Codec.{int}
use Rattle.kb_tenant.specs.Limits.{is_past}
use Rattle.kb_tenant.specs.Replies.{Replies, Shuts, IsAnswer, begun, framed, most_bytes, most_size, replies_within, reply_size}
use Rattle.kb_tenant.specs.declared.answer.Answer.TheVariants as answers

pub sized : (id : ℤ) (body bytes : List ℕ) → bytes ≡ begun id ++ body → length bytes - 4 ≡ reply_size body
unfolding int
sized id body bytes is = ap (λ s. length s - 4) is ∙ omega arith

pub long : (id : ℤ) (body bytes : List ℕ) → bytes ≡ begun id ++ body → 4 ≤ length bytes
unfolding int
long id body bytes is = omega (arith, ap length is)

pub is_framed : (id : ℤ) (body bytes : List ℕ) → bytes ≡ begun id ++ body → to_be_bytes w32 (length bytes - 4) ++ drop 4 bytes ≡ framed id body
unfolding int framed
is_framed id body bytes is = ap (λ n. to_be_bytes w32 n ++ drop 4 bytes) (sized id body bytes is) ∙ ap (λ s. to_be_bytes w32 (reply_size body) ++ drop 4 s) is

-- how long a reply is with its size
pub begun_long : (id : ℤ) (body : List ℕ) → length (begun id ++ body) ≡ 4 + reply_size body
unfolding int
begun_long id body = omega arith

-- a reply that is longer than it may be is not sent
pub past_shut : (limit : Option ℕ) (id : ℤ) (body : List ℕ) → most_size limit < reply_size body → IsAnswer id (replies_within limit body) answers.Shut
past_shut None id body past = omega (arith, past)
past_shut (Some n) id body past = by (is_past (Some n) (reply_size body)) refl
  where
    by : (b : Bool) → is_past (Some n) (reply_size body) ≡ b → IsAnswer id (if b then Shuts else Replies body) answers.Shut
    by true is = tt
    by false is = omega (arith, past, ltb-false n (reply_size body) is)

pub within_shut : (limit : Option ℕ) (id : ℤ) (body : List ℕ) → most_bytes limit < length (begun id ++ body) → IsAnswer id (replies_within limit body) answers.Shut
within_shut limit id body past = past_shut limit id body (omega (arith, past, begun_long id body))

-- one that is not is within the limit
pub within_size : (limit : Option ℕ) (body : List ℕ) → reply_size body ≤ most_size limit → replies_within limit body ≡ Replies body
within_size None body fits = refl
within_size (Some n) body fits =
    let small : reply_size body ≤ n = omega (arith, fits) in
    ap (λ (b : Bool). if b then Shuts else Replies body) (le-ltb n (reply_size body) small)

pub within_whole : (limit : Option ℕ) (id : ℤ) (body : List ℕ) → length (begun id ++ body) ≤ most_bytes limit → replies_within limit body ≡ Replies body
within_whole limit id body fits = within_size limit body (omega (arith, fits, begun_long id body))
