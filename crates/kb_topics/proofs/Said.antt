-- What a batch says that was built of one command, also once it is stamped.
use Rattle.std.proofs.Common.{◌≡◌, ◌∙◌, ◌≤◌, ℕ, List, [], ◌∷◌, map, Some, None, Result, Ok, Err, refl, ap, inl, lit<}
use Rattle.std.specs.Prelude.{ℤ, pos, negsuc, false, is_err, length}
use Rattle.kb_wire.specs.Codec.{sized, counted, items}
use Rattle.kb_wire.specs.Varint.{groups, zigzag, to_zigzag}
use Rattle.kb_wire.specs.Codec.{refined}
use Rattle.kb_batch.specs.declared.record.Record.{Record}
use Rattle.kb_batch.specs.declared.record.RecordView.{RecordView}
use Rattle.kb_batch.specs.declared.fault.BuildFault.{BuildFault}
use Rattle.kb_batch.specs.Record.{headers, timestamp_of, view_of}
use Rattle.kb_batch.specs.Batch.{records_of, greatest, greatest_timestamp_of, stamped}
use Rattle.kb_batch.specs.Header.{base_timestamp_of}
use Rattle.kb_batch.specs.Scan.{views_of}
use Rattle.kb_batch.specs.Building.{Building, base_of, IsBuilt, Pushes, with_record, pushed}
use Rattle.kb_batch.specs.BatchLaws.{records_of-stamped, base_timestamp_of-stamped, max_timestamp_of-stamped, producer_id_of-stamped, producer_epoch_of-stamped, base_sequence_of-stamped}
use Rattle.kb_topics.specs.declared.command.Command.{Command}
use Rattle.kb_topics.specs.Layouts.{command_codec}
use Rattle.kb_topics.specs.MetaLog.{Says}

no_header : headers.Spells (0 ∷ []) []
unfolding headers sized counted zigzag to_zigzag refined groups items
no_header = (0 ∷ [], [], refl, (inl (lit< tt, refl, refl), refl), refl)

times : (base : ℤ) (rs : List Record) → map (λ r. timestamp_of base r) rs ≡ map (λ (v : RecordView). v.timestamp) (map (view_of base) rs)
times base [] = refl
times base (r ∷ rs) = ap (λ ts. timestamp_of base r ∷ ts) (times base rs)

greatest_seen : (s : List ℕ) → greatest_timestamp_of s ≡ greatest (map (λ (v : RecordView). v.timestamp) (views_of s))
greatest_seen s = ap greatest (times (base_timestamp_of s) (records_of s))

-- a builder with no producer and one record
abbrev pub one_value : List ℕ → Building
one_value value = record { producer_id = negsuc 0; producer_epoch = negsuc 0; base_sequence = negsuc 0; records = pushed (pos 0) None (Some value) ∷ [] }

pub says_built : (b : Building) (s value : List ℕ) (c : Command) → b ≡ one_value value → command_codec.Spells value c → IsBuilt b s → Says s c
says_built b s value c e spelled built =
    let alone : views_of s ≡ pushed (pos 0) None (Some value) ∷ [] = built.records ∙ ap (λ x. x.records) e in
    record {
      producer_id = built.producer_id ∙ ap (λ x. x.producer_id) e;
      producer_epoch = built.producer_epoch ∙ ap (λ x. x.producer_epoch) e;
      base_sequence = built.base_sequence ∙ ap (λ x. x.base_sequence) e;
      base_timestamp = built.base_timestamp ∙ ap (λ x. base_of x.records) e;
      max_timestamp = built.max_timestamp ∙ greatest_seen s ∙ ap (λ vs. greatest (map (λ (v : RecordView). v.timestamp) vs)) alone;
      spelled_record = pushed (pos 0) None (Some value);
      alone = alone;
      timestamp = refl;
      no_key = refl;
      no_header = no_header;
      value = value;
      has_value = refl;
      spelled = spelled;
    }

pub says_stamped : (base : ℤ) (s : List ℕ) (c : Command) → 16 ≤ length s → Says s c → Says (stamped base s) c
says_stamped base s c long h = record {
  producer_id = producer_id_of-stamped base s long ∙ h.producer_id;
  producer_epoch = producer_epoch_of-stamped base s long ∙ h.producer_epoch;
  base_sequence = base_sequence_of-stamped base s long ∙ h.base_sequence;
  base_timestamp = base_timestamp_of-stamped base s long ∙ h.base_timestamp;
  max_timestamp = max_timestamp_of-stamped base s long ∙ h.max_timestamp;
  spelled_record = h.spelled_record;
  alone = ap (λ t. map (view_of t) (records_of (stamped base s))) (base_timestamp_of-stamped base s long) ∙ ap (map (view_of (base_timestamp_of s))) (records_of-stamped base s long) ∙ h.alone;
  timestamp = h.timestamp;
  no_key = h.no_key;
  no_header = h.no_header;
  value = h.value;
  has_value = h.has_value;
  spelled = h.spelled;
}

-- a push that was not refused
pub pushed_one : (old new : Building) (v : RecordView) (r : Result (Unit {0}) BuildFault) → is_err r ≡ false → Pushes old v r new → new ≡ with_record old v
pushed_one old new v (Ok u) e h = h.2
pushed_one old new v (Err f) e h = absurd cc
