-- OffsetCommit tells no place, touches no log and no name.
use Rattle.std.proofs.Common.{◌≡◌, ◌∙◌, ◌≤◌, ℕ, ℤ, Bool, true, false, List, [], ◌∷◌, length, Option, Some, None, refl, sym, subst, ap}
use Rattle.kb_api_group.specs.declared.offset_commit.CommitPartition.{CommitPartition}
use Rattle.kb_api_group.specs.declared.offset_commit.CommitTopic.{CommitTopic}
use Rattle.kb_api_group.specs.declared.offset_commit.OffsetCommitRequest.{OffsetCommitRequest}
use Rattle.kb_topics.specs.Known.{CommittedOffset, PartitionState, named, topic_at, with_commit}
use Rattle.kb_topics.specs.Refusals.{commit_refusal}
use Rattle.kb_topics.specs.declared.fault.CatalogFault.{CatalogFault}
use Rattle.kb_tenant_state.specs.Calls.{committed_unless, known_at, with_committed}
use Rattle.kb_tenant_state.specs.Logs.{log_at}
use Rattle.kb_tenant_state.specs.Tied.{IsTied, counted}
use Rattle.kb_tenant_state.specs.World.{World, place_in}
use Rattle.kb_tenant_state.specs.declared.topic_partition.TopicPartition.{TopicPartition}
use Rattle.kb_tenant.specs.OffsetCommit.{committed_all, committed_at, committed_entry, committed_topic, committed_unless_full, is_over_limits, metadata_in}
use Rattle.kb_tenant.specs.Turns.{in_turn}
use Rattle.kb_tenant.specs.Waiting.{HasOwnNames}
use Rattle.kb_tenant.specs.declared.limits.DataLimits.{DataLimits}
use Rattle.kb_tenant.proofs.Moves.{Moves}
use Rattle.kb_tenant.proofs.RetainMoves.{IsAlike, alike_same, put_alike}

-- The logs stay, and what is known is as before but for what groups committed.
pub record Commits (w v : World) : Type 0 where
  pub logs : v.logs ≡ w.logs
  pub alike : IsAlike w.known v.known

pub commits_none : (w : World) → Commits w w
commits_none w = record { logs = refl; alike = alike_same w.known }

pub commits_then : (w v u : World) → Commits w v → Commits v u → Commits w u
commits_then w v u p q = record {
  logs = q.logs ∙ p.logs;
  alike = record {
    creates = q.alike.creates ∙ p.alike.creates;
    none = λ i none. q.alike.none i (p.alike.none i none);
    counts = q.alike.counts ∙ p.alike.counts;
    names = λ name. q.alike.names name ∙ p.alike.names name;
    apart = λ own. q.alike.apart (p.alike.apart own);
  };
}

-- one entry after another
turns_commit : {E A : Type 0} (f : World → E → World × A) → ((w : World) (e : E) → Commits w (f w e).0) → (w : World) (es : List E) → Commits w (in_turn f w es).0
turns_commit f each w [] = commits_none w
turns_commit f each w (e ∷ es) = commits_then w (f w e).0 (in_turn f (f w e).0 es).0 (each w e) (turns_commit f each (f w e).0 es)

put_commits : (w : World) (place : TopicPartition) (group : List ℕ) (c : CommittedOffset) (o : Option PartitionState) → Commits w (record w { known = with_committed w.known place group c o })
put_commits w place group c None = commits_none w
put_commits w place group c (Some p) = record {
  logs = refl;
  alike = put_alike w.known place.instance place.number (with_commit p group c) (topic_at place.instance w.known.topics) refl;
}

unless_commits : (w : World) (place : TopicPartition) (group : List ℕ) (c : CommittedOffset) (o : Option CatalogFault) → Commits w (committed_unless w place group c o).0
unless_commits w place group c (Some f) = commits_none w
unless_commits w place group c None = put_commits w place group c (known_at w.known place)

full_commits : (full : Bool) (w : World) (place : TopicPartition) (group : List ℕ) (offset : ℤ) (metadata : List ℕ) → Commits w (committed_unless_full full w place group offset metadata).0
full_commits true w place group offset metadata = commits_none w
full_commits false w place group offset metadata =
    unless_commits w place group (record { offset = offset; metadata = metadata }) (commit_refusal metadata (known_at w.known place))

at_commits : (limits : DataLimits) (w : World) (o : Option TopicPartition) (group : List ℕ) (e : CommitPartition) → Commits w (committed_at limits w o group e).0
at_commits limits w None group e = commits_none w
at_commits limits w (Some place) group e =
    let metadata = metadata_in e.metadata in
    full_commits (is_over_limits limits w place group metadata) w place group e.offset metadata

entry_commits : (limits : DataLimits) (refusal : Option ℤ) (group : List ℕ) (topic : Option ℕ) (w : World) (e : CommitPartition) → Commits w (committed_entry limits refusal group topic w e).0
entry_commits limits (Some code) group topic w e = commits_none w
entry_commits limits None group topic w e = at_commits limits w (place_in topic e.partition) group e

topic_commits : (limits : DataLimits) (refusal : Option ℤ) (group : List ℕ) (w : World) (t : CommitTopic) → Commits w (committed_topic limits refusal group w t).0
topic_commits limits refusal group w t =
    let topic = named t.name w.known.topics in
    turns_commit (committed_entry limits refusal group topic) (entry_commits limits refusal group topic) w t.partitions

all_commits : (limits : DataLimits) (w : World) (refusal : Option ℤ) (r : OffsetCommitRequest) → Commits w (committed_all limits w refusal r).0
all_commits limits w refusal r = turns_commit (committed_topic limits refusal r.group_id) (topic_commits limits refusal r.group_id) w r.topics

-- ---- the laws

pub moves_by : (w v : World) → Commits w v → Moves [] [] w v
moves_by w v c = record {
  tied = λ t. record {
    next = λ i le. c.alike.none i (t.next i (subst (λ n. n ≤ i) c.alike.creates le));
    logs = ap (counted length) c.logs ∙ t.logs ∙ sym c.alike.counts;
  };
  told = λ place at. at;
  held = λ t name place log none h. record {
    topic = c.alike.names name ∙ h.topic;
    there = ap (λ ls. log_at place.instance place.number ls) c.logs ∙ h.there;
  };
}

pub commit_moves : (limits : DataLimits) (w : World) (refusal : Option ℤ) (r : OffsetCommitRequest) → Moves [] [] w (committed_all limits w refusal r).0
commit_moves limits w refusal r = moves_by w (committed_all limits w refusal r).0 (all_commits limits w refusal r)

pub commit_tied : (limits : DataLimits) (w : World) (refusal : Option ℤ) (r : OffsetCommitRequest) → IsTied w → IsTied (committed_all limits w refusal r).0
commit_tied limits w refusal r = (commit_moves limits w refusal r).tied

pub commit_names : (limits : DataLimits) (w : World) (refusal : Option ℤ) (r : OffsetCommitRequest) → HasOwnNames w → HasOwnNames (committed_all limits w refusal r).0
commit_names limits w refusal r = (all_commits limits w refusal r).alike.apart

pub commit_logs : (limits : DataLimits) (w : World) (refusal : Option ℤ) (r : OffsetCommitRequest) → (committed_all limits w refusal r).0.logs ≡ w.logs
commit_logs limits w refusal r = (all_commits limits w refusal r).logs
