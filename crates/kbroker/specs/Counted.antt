-- What a broker and an edge count of what they refuse, by the places of tenants.
use Rattle.std.specs.Prelude.{ℕ, List, slice_get, unwrap_or}
use Rattle.kb_isolation_spec.specs.Broker.{BrokerState}
use Rattle.kb_isolation_spec.specs.Calls.{is_calm}
use Rattle.kb_node.specs.declared.reader_waits.ReaderWaits.{ReaderWaits}
use Rattle.kb_operator.specs.Refused.{BrokerCounts}
use Rattle.kb_tenants.specs.declared.counts.Counts.{Counts}
use Rattle.kbroker.specs.Refusals.{refusals_at}
use Rattle.kbroker.specs.Unread.{unread_at}

-- of a broker whose store refused so many calls, of sockets that were closed, and of waits for readers
abbrev pub told_counts : BrokerState → List Counts → ℕ → List ℕ → List ReaderWaits → BrokerCounts
told_counts b counts failures closed waits = record {
  calm = is_calm b;
  refused = λ place. refusals_at place b.tenants counts;
  closed = λ place. unwrap_or (slice_get closed place) 0;
  unread = λ place. unread_at place waits;
  unbound = b.unbound_refusals;
  disk = failures;
}
