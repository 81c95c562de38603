use Rattle.std.proofs.Common.{◌≡◌, ◌<◌, ℕ, [], length}
use Rattle.kb_broker.specs.Hosts.{is_honest}
use Rattle.kb_isolation_spec.specs.Broker.{kept_of_tenant}
use Rattle.kb_tenant_state.specs.Ids.{GivesFresh}
use Rattle.kbroker.proofs.ids.skip_ids.Given as goal

-- the tenants at the places so far give fresh ids out
abbrev pub invariant-loop-place : goal.invariant-loop-place
invariant-loop-place g l = record {
  alone : l.broker.state.lines ≡ [];
  count : length l.broker.state.tenants ≡ length l.fn.broker.state.tenants;
  fresh : is_honest g.S.Store.disk l.broker → (t : ℕ) → t < l.place → GivesFresh (kept_of_tenant l.broker.state t).world;
}
