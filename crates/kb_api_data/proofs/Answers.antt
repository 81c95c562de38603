-- A partition's answer: that it fits without records and how long it is then, and that it is spelled with them.
use Rattle.std.proofs.Common.{◌≡◌, ◌≤◌, ◌<◌, ◌^◌, ◌+◌, ℕ, ℤ, List, [], length, Some, None, FitsSigned, lit<, refl, sym, subst, arith}
use Rattle.std.specs.Int.{w16, w32, w64}
use Rattle.kb_wire.specs.Codec.{int, nullable, nullable_counted, items, octets}
use Rattle.kb_wire.specs.Fits.{nullable_blob_fits, null_array_fits}
use Rattle.kb_api_data.specs.Layouts.{fetch_partition_reply, aborted_transaction}
use Rattle.kb_api_data.specs.Lawful.{fetch_partition_reply_lawful}
use Rattle.kb_api_data.specs.declared.fetch.FetchPartitionReply.{FetchPartitionReply}

-- the answer, its fields one by one
abbrev pub answer : ℤ → ℤ → ℤ → ℤ → List ℕ → FetchPartitionReply
answer p e h l records = record { partition = p; error_code = e; high_watermark = h; last_stable_offset = l; aborted_transactions = None; records = Some records }

records_fit : (p e h l : ℤ) (records : List ℕ) → length records < 2 ^ 31 → fetch_partition_reply.Fits (answer p e h l records)
unfolding fetch_partition_reply int
records_fit p e h l records small = (tt, (tt, (tt, (tt, (null_array_fits aborted_transaction, nullable_blob_fits records small)))))

pub answer_fits : (p e h l : ℤ) (records : List ℕ) → records ≡ [] → fetch_partition_reply.Fits (answer p e h l records)
answer_fits p e h l records none = subst (λ r. fetch_partition_reply.Fits (answer p e h l r)) (sym none) (records_fit p e h l [] (lit< tt))

pub empty_len : (p e h l : ℤ) → length (fetch_partition_reply.written (answer p e h l [])) ≡ 30
unfolding fetch_partition_reply int nullable nullable_counted items octets
empty_len p e h l = refl

pub answer_len : (p e h l : ℤ) (records : List ℕ) → records ≡ [] → length (fetch_partition_reply.written (answer p e h l records)) ≡ 30
answer_len p e h l records none = subst (λ r. length (fetch_partition_reply.written (answer p e h l r)) ≡ 30) (sym none) (empty_len p e h l)

pub less : (n size old new : ℕ) → n ≡ size → old ≤ new + n → old ≤ new + size
less n size old new len h = omega (arith, len, h)

pub within : (n size room : ℕ) → n ≡ size → size ≤ room → n ≤ room
within n size room few h = omega (arith, few, h)

fields_in_range : (p e h l : ℤ) (records : List ℕ) → FitsSigned w32 p → FitsSigned w16 e → FitsSigned w64 h → FitsSigned w64 l → fetch_partition_reply.InRange (answer p e h l records)
unfolding fetch_partition_reply int nullable nullable_counted octets
fields_in_range p e h l records fp fe fh fl = (fp, (fe, (fh, (fl, (tt, (tt, tt))))))

pub answer_spelled : (p e h l : ℤ) (records : List ℕ) → FitsSigned w32 p → FitsSigned w16 e → FitsSigned w64 h → FitsSigned w64 l → length records < 2 ^ 31 → fetch_partition_reply.Spells (fetch_partition_reply.written (answer p e h l records)) (answer p e h l records)
answer_spelled p e h l records fp fe fh fl small =
    fetch_partition_reply_lawful.again (answer p e h l records) (fields_in_range p e h l records fp fe fh fl) (records_fit p e h l records small)
