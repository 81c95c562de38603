-- A partition's answer in version 5: that it fits without records and how long it is then, and that it is spelled with them.
use Rattle.std.proofs.Common.{◌≡◌, ◌<◌, ◌^◌, ℕ, ℤ, List, [], length, Some, None, FitsSigned, lit<, refl, sym, subst}
use Rattle.std.specs.Int.{w16, w32, w64}
use Rattle.kb_wire.specs.Codec.{int, nullable, nullable_counted, items, octets}
use Rattle.kb_wire.specs.Fits.{nullable_blob_fits, null_array_fits}
use Rattle.kb_api_data.specs.Layouts.{fetch_partition_reply_v5, aborted_transaction}
use Rattle.kb_api_data.specs.Lawful.{fetch_partition_reply_v5_lawful}
use Rattle.kb_api_data.specs.declared.fetch_v5.FetchPartitionReplyV5.{FetchPartitionReplyV5}

-- the answer, its fields one by one
abbrev pub answer : ℤ → ℤ → ℤ → ℤ → ℤ → List ℕ → FetchPartitionReplyV5
answer p e h l s records = record { partition = p; error_code = e; high_watermark = h; last_stable_offset = l; log_start_offset = s; aborted_transactions = None; records = Some records }

records_fit : (p e h l s : ℤ) (records : List ℕ) → length records < 2 ^ 31 → fetch_partition_reply_v5.Fits (answer p e h l s records)
unfolding fetch_partition_reply_v5 int
records_fit p e h l s records small = (tt, (tt, (tt, (tt, (tt, (null_array_fits aborted_transaction, nullable_blob_fits records small))))))

pub answer_fits : (p e h l s : ℤ) (records : List ℕ) → records ≡ [] → fetch_partition_reply_v5.Fits (answer p e h l s records)
answer_fits p e h l s records none = subst (λ r. fetch_partition_reply_v5.Fits (answer p e h l s r)) (sym none) (records_fit p e h l s [] (lit< tt))

pub empty_len : (p e h l s : ℤ) → length (fetch_partition_reply_v5.written (answer p e h l s [])) ≡ 38
unfolding fetch_partition_reply_v5 int nullable nullable_counted items octets
empty_len p e h l s = refl

pub answer_len : (p e h l s : ℤ) (records : List ℕ) → records ≡ [] → length (fetch_partition_reply_v5.written (answer p e h l s records)) ≡ 38
answer_len p e h l s records none = subst (λ r. length (fetch_partition_reply_v5.written (answer p e h l s r)) ≡ 38) (sym none) (empty_len p e h l s)

fields_in_range : (p e h l s : ℤ) (records : List ℕ) → FitsSigned w32 p → FitsSigned w16 e → FitsSigned w64 h → FitsSigned w64 l → FitsSigned w64 s → fetch_partition_reply_v5.InRange (answer p e h l s records)
unfolding fetch_partition_reply_v5 int nullable nullable_counted octets
fields_in_range p e h l s records fp fe fh fl fs = (fp, (fe, (fh, (fl, (fs, (tt, (tt, tt)))))))

pub answer_spelled : (p e h l s : ℤ) (records : List ℕ) → FitsSigned w32 p → FitsSigned w16 e → FitsSigned w64 h → FitsSigned w64 l → FitsSigned w64 s → length records < 2 ^ 31 → fetch_partition_reply_v5.Spells (fetch_partition_reply_v5.written (answer p e h l s records)) (answer p e h l s records)
answer_spelled p e h l s records fp fe fh fl fs small =
    fetch_partition_reply_v5_lawful.again (answer p e h l s records) (fields_in_range p e h l s records fp fe fh fl fs) (records_fit p e h l s records small)
