use Rattle.std.proofs.Common.{◌≡◌, ◌<◌, ◌∙◌, ap, length, subst, sym}
use Rattle.std.specs.Prelude.{OnErr}
use Rattle.kb_tenant_api.specs.Hosted as tenants
use Rattle.kb_tenant_api.specs.Turns.{IsTurn}
use Rattle.kb_tenant_state.specs.Counts.{IsCalm}
use Rattle.kb_tenants.proofs.Passed.{length_named}
use Rattle.kb_isolation_spec.specs.Broker.{BrokerState}
use Rattle.kb_isolation_spec.specs.Stranded.{NoneStranded}
use Rattle.kb_broker.specs.Hosts.{IsLaterWith, OnStore, is_honest}
use Rattle.kb_broker.specs.Ids.{IsSkippedAt}
use Rattle.kb_broker.proofs.Skipped.{skipped-fresh, skipped-held, skipped-ready}
use Rattle.kb_broker.proofs.broker.Broker.skip_ids.Goals as goal

pub skip_ids-requires-clause-there : goal.skip_ids-requires-clause-there
skip_ids-requires-clause-there g c = subst (λ (x : OnStore g.row.S.Denot). c.args.place < length x.state.tenants) (sym c.self.view_is) c.requires.there

pub skip_ids-requires-clause-alone : goal.skip_ids-requires-clause-alone
skip_ids-requires-clause-alone g c = ap (λ (x : OnStore g.row.S.Denot). x.state.lines) c.self.view_is ∙ c.requires.alone

pub invariant_of-self : goal.invariant_of-self
invariant_of-self g c =
    skipped-ready g.S.Store.disk c.self.inside.engine c.skip_ids.new.self
    (ap (λ (x : OnStore g.row.S.Denot). x.state.lines) c.self.view_is ∙ c.requires.alone) c.skip_ids.ensures.others c.skip_ids.ensures.turn.names c.self.invariant

pub returns-clause-ready : goal.returns-clause-ready
returns-clause-ready g c =
    skipped-ready g.S.Store.disk c.self.inside.engine c.skip_ids.new.self
    (ap (λ (x : OnStore g.row.S.Denot). x.state.lines) c.self.view_is ∙ c.requires.alone) c.skip_ids.ensures.others c.skip_ids.ensures.turn.names c.self.invariant

pub returns-clause-others : goal.returns-clause-others
returns-clause-others g c =
    let new = c.skip_ids.new.self in
    subst (λ (x : OnStore g.row.S.Denot). new.state ≡ record x.state { tenants = new.state.tenants }) c.self.view_is c.skip_ids.ensures.others

pub returns-clause-count : goal.returns-clause-count
returns-clause-count g c =
    let new = c.skip_ids.new.self in
    subst (λ (x : OnStore g.row.S.Denot). length new.state.tenants ≡ length x.state.tenants) c.self.view_is
    (length_named c.self.inside.engine.state.tenants new.state.tenants c.skip_ids.ensures.turn.names)

pub returns-clause-later : goal.returns-clause-later
returns-clause-later g c =
    let disk = g.S.Store.disk in
    let new = c.skip_ids.new.self in
    subst (λ (x : OnStore g.row.S.Denot). IsLaterWith (disk x.store) (disk new.store) x.strays new.strays x.state.tenants new.state.tenants x.counts new.counts) c.self.view_is c.skip_ids.ensures.later

pub returns-clause-turn : goal.returns-clause-turn
returns-clause-turn g c =
    let new = c.skip_ids.new.self in
    subst (λ (x : OnStore g.row.S.Denot). IsTurn c.args.place (is_honest g.S.Store.disk new) x.state.tenants new.state.tenants) c.self.view_is c.skip_ids.ensures.turn

pub returns-clause-skipped : goal.returns-clause-skipped
returns-clause-skipped g c = λ honest.
    let disk = g.S.Store.disk in
    let new = c.skip_ids.new.self in
    subst (λ (x : OnStore g.row.S.Denot). IsSkippedAt c.args.place c.skip_ids.result (disk x.store).failures (disk new.store).failures x.state.tenants new.state.tenants) c.self.view_is (c.skip_ids.ensures.skipped honest)

pub returns-clause-counted : goal.returns-clause-counted
returns-clause-counted g c =
    let new = c.skip_ids.new.self in
    subst (λ (x : OnStore g.row.S.Denot). OnErr c.skip_ids.result (IsCalm (tenants.refusals_of x.state.tenants c.args.place) (tenants.refusals_of new.state.tenants c.args.place) → ⊥)) c.self.view_is c.skip_ids.ensures.counted

pub returns-clause-held : goal.returns-clause-held
returns-clause-held g c = λ honest held.
    let disk = g.S.Store.disk in
    let old = c.self.inside.engine in
    let new = c.skip_ids.new.self in
    skipped-held c.args.place (is_honest disk new) old.state new.state c.skip_ids.ensures.others c.skip_ids.ensures.turn honest c.skip_ids.ensures.groups
    (subst (λ (x : OnStore g.row.S.Denot). NoneStranded x.state) (sym c.self.view_is) held)

pub returns-clause-fresh : goal.returns-clause-fresh
returns-clause-fresh g c =
    let disk = g.S.Store.disk in
    let old = c.self.inside.engine in
    let new = c.skip_ids.new.self in
    skipped-fresh c.args.place c.skip_ids.result (disk old.store).failures (disk new.store).failures old.state.tenants new.state.tenants (is_honest disk new) c.skip_ids.ensures.skipped
