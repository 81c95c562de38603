-- What a fetch is answered, as it is counted on the way: by what the code keeps of a reply that is being written. What that comes to is
-- `fetched` of `Fetch`, which counts nothing but its limits.
use Rattle.std.specs.Prelude.{ℕ, ℤ, pos, Bool, true, false, List, [], Option, Some, None, Result, Ok, Err}
use Rattle.std.specs.Prelude.{length, min, nat_le, not, ◌-◌, ◌<◌, ◌≤◌, ◌⊎◌, ◌≡◌, ◌==◌, ◌&&◌, ◌||◌}
use Rattle.kb_batch.specs.Batch.{natural}
use Rattle.kb_api_data.specs.FetchRecords.{answer_with_v5}
use Rattle.kb_api_data.specs.declared.fetch.FetchPartition.{FetchPartition}
use Rattle.kb_api_data.specs.declared.fetch.FetchRequest.{FetchRequest}
use Rattle.kb_api_data.specs.declared.fetch.FetchTopic.{FetchTopic}
use Rattle.kb_api_data.specs.declared.fetch_v5.FetchPartitionReplyV5.{FetchPartitionReplyV5}
use Rattle.kb_api_data.specs.declared.fetch_v5.FetchReplyV5.{FetchReplyV5}
use Rattle.kb_api_data.specs.declared.fetch_v5.FetchTopicReplyV5.{FetchTopicReplyV5}
use Rattle.kb_topics.specs.Known.{named}
use Rattle.kb_tenant_state.specs.declared.fault.PartitionFault.{PartitionFault}
use Rattle.kb_tenant_state.specs.declared.fault.PartitionFault.TheVariants as partition
use Rattle.kb_tenant_state.specs.Calls.{fetch}
use Rattle.kb_tenant_state.specs.World.{World, place_in}
use Rattle.kb_tenant_state.specs.declared.topic_partition.TopicPartition.{TopicPartition}
use Rattle.kb_tenant.specs.Fetch.{Limits, bounds_of, front_of, refusal_of}
use Rattle.kb_tenant.specs.Turns.{in_turn, AreServed}
use Rattle.kb_tenant.specs.declared.fetch.given.Given.{Given}

-- the limits that are left
abbrev pub limits_of : Given → Limits
limits_of g = record { left = g.left; first = g.first }

-- ---- the counts

-- Nothing was given yet, and all bytes that are wanted at least are missing. Limits below 0 count as 0, and that of the
-- whole reply as 8,388,608 at most.
abbrev pub begun : FetchRequest → Given
begun r = record {
  left = min (natural r.max_bytes) 8388608;
  first = true;
  missing = natural r.min_bytes;
  is_asked = false;
  is_wrong = false;
}

-- after so many bytes of records of one more partition
abbrev pub less : Given → ℕ → Given
less g n = record g { left = g.left - n; first = g.first && (n == 0); missing = g.missing - n; is_asked = true }

-- after a partition that was refused
abbrev pub wrong : Given → Given
wrong g = record g { is_asked = true; is_wrong = true }

-- how many bytes of records a partition may give
abbrev pub limit_of : Given → FetchPartition → ℕ
limit_of g e = min (natural e.partition_max_bytes) g.left

-- ---- one partition

abbrev pub refused : Given → ℤ → PartitionFault → Given × FetchPartitionReplyV5
refused g p f = (wrong g, answer_with_v5 (refusal_of p f) [])

-- It gives records.
abbrev pub accepted : Given → ℤ → ℤ × ℤ → List ℕ → Given × FetchPartitionReplyV5
accepted g p bounds records = (less g (length records), answer_with_v5 (front_of p bounds) records)

abbrev pub answered_by : Given → ℤ → Option (ℤ × ℤ) → Result (List ℕ) PartitionFault → Given × FetchPartitionReplyV5
answered_by g p (Some bounds) (Ok records) = accepted g p bounds records
answered_by g p (Some bounds) (Err f) = refused g p f
answered_by g p None r = refused g p partition.Unknown

-- the records that it gives, within its limit
abbrev pub fetched_at : World → Given → FetchPartition → TopicPartition → Result (List ℕ) PartitionFault
fetched_at w g e place = fetch w place e.fetch_offset (limit_of g e) g.first

abbrev pub answered_at : World → Given → FetchPartition → Option TopicPartition → Given × FetchPartitionReplyV5
answered_at w g e (Some place) = answered_by g e.partition (bounds_of w place) (fetched_at w g e place)
answered_at w g e None = refused g e.partition partition.Unknown

-- an entry of a topic that has this instance, if it is there
abbrev pub fetch_answered : World → Option ℕ → Given → FetchPartition → Given × FetchPartitionReplyV5
fetch_answered w topic g e = answered_at w g e (place_in topic e.partition)

-- ---- all partitions

abbrev pub answered_topic : World → Given → FetchTopic → Given × FetchTopicReplyV5
answered_topic w g t =
    let r = in_turn (fetch_answered w (named t.topic w.known.topics)) g t.partitions in
    (r.0, record { topic = t.topic; partitions = r.1 })

-- the partitions in order, each within what those before it left
abbrev pub fetched : World → FetchRequest → Given × FetchReplyV5
fetched w r =
    let f = in_turn (answered_topic w) (begun r) r.topics in
    (f.0, record { throttle_time_ms = pos 0; topics = f.1 })

-- ---- readiness

-- whether a reply is ready, as it was counted on the way
abbrev pub has_enough : Given → ℕ → ℕ → Bool
has_enough g clock deadline = not g.is_asked || g.is_wrong || (g.missing == 0) || nat_le deadline clock

-- So many bytes at least are missing of those that a fetch waits for, more than none, and nothing was refused.
pub record Misses (n : ℕ) (g : Given) : Type 0 where
  pub some : 0 < n
  pub missing : n ≤ g.missing
  pub right : g.is_wrong ≡ false

-- ---- where something is refused

-- An entry is refused since the store failed, which it did, or for want of memory; and the limits go on as behind any that is refused.
abbrev pub IsUnread : Type 0 → Given → FetchPartition → Given → FetchPartitionReplyV5 → Type 0
IsUnread failed g e h x = (((h, x) ≡ refused g e.partition partition.Store) × failed) ⊎ ((h, x) ≡ refused g e.partition partition.Memory)

-- An entry comes to what is defined, or is refused for such a want.
abbrev pub IsReadOr : Type 0 → Given × FetchPartitionReplyV5 → Given → FetchPartition → Given → FetchPartitionReplyV5 → Type 0
IsReadOr failed defined g e h x = ((h, x) ≡ defined) ⊎ IsUnread failed g e h x

-- An entry of the topic of an instance is answered what is defined, on what those before it left of the limits; or it is refused for
-- such a want.
abbrev pub IsFetchTold : Type 0 → World → Option ℕ → Given → FetchPartition → Given → FetchPartitionReplyV5 → Type 0
IsFetchTold failed w topic g e h x = IsReadOr failed (fetch_answered w topic g e) g e h x

-- The same of a topic's entries, one after another.
abbrev pub IsFetchTopicTold : Type 0 → World → Given → FetchTopic → Given → FetchTopicReplyV5 → Type 0
IsFetchTopicTold failed w g t h x =
    (x.topic ≡ t.topic) × AreServed (IsFetchTold failed w (named t.topic w.known.topics)) g t.partitions h x.partitions

-- The same of a request's topics, which leave that of its limits.
abbrev pub AreFetchesTold : Type 0 → World → FetchRequest → Given → FetchReplyV5 → Type 0
AreFetchesTold failed w q left x = (x.throttle_time_ms ≡ pos 0) × AreServed (IsFetchTopicTold failed w) (begun q) q.topics left x.topics
