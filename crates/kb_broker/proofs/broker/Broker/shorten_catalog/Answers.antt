use Rattle.std.proofs.Common.{◌≡◌, ◌<◌, ◌∙◌, ap, length, subst, sym}
use Rattle.kb_tenant_api.specs.Hosted as tenants
use Rattle.kb_tenant_api.specs.Turns.{IsTurn}
use Rattle.kb_tenants.proofs.Passed.{length_named}
use Rattle.kb_isolation_spec.specs.Broker.{BrokerState}
use Rattle.kb_isolation_spec.specs.Stranded.{NoneStranded}
use Rattle.kb_broker.specs.Hosts.{IsLaterWith, OnStore, is_honest}
use Rattle.kb_broker.specs.Shortened.{IsShort, IsShortenedAt}
use Rattle.kb_broker.proofs.Skipped.{skipped-held, skipped-ready}
use Rattle.kb_broker.proofs.broker.Broker.shorten_catalog.Goals as goal

pub shorten_catalog-requires-clause-there : goal.shorten_catalog-requires-clause-there
shorten_catalog-requires-clause-there g c = subst (λ (x : OnStore g.row.S.Denot). c.args.place < length x.state.tenants) (sym c.self.view_is) c.requires.there

pub shorten_catalog-requires-clause-alone : goal.shorten_catalog-requires-clause-alone
shorten_catalog-requires-clause-alone g c = ap (λ (x : OnStore g.row.S.Denot). x.state.lines) c.self.view_is ∙ c.requires.alone

pub invariant_of-self : goal.invariant_of-self
invariant_of-self g c =
    skipped-ready g.S.Store.disk c.self.inside.engine c.shorten_catalog.new.self
    (ap (λ (x : OnStore g.row.S.Denot). x.state.lines) c.self.view_is ∙ c.requires.alone) c.shorten_catalog.ensures.others c.shorten_catalog.ensures.turn.names c.self.invariant

pub returns-clause-ready : goal.returns-clause-ready
returns-clause-ready g c =
    skipped-ready g.S.Store.disk c.self.inside.engine c.shorten_catalog.new.self
    (ap (λ (x : OnStore g.row.S.Denot). x.state.lines) c.self.view_is ∙ c.requires.alone) c.shorten_catalog.ensures.others c.shorten_catalog.ensures.turn.names c.self.invariant

pub returns-clause-others : goal.returns-clause-others
returns-clause-others g c =
    let new = c.shorten_catalog.new.self in
    subst (λ (x : OnStore g.row.S.Denot). new.state ≡ record x.state { tenants = new.state.tenants }) c.self.view_is c.shorten_catalog.ensures.others

pub returns-clause-count : goal.returns-clause-count
returns-clause-count g c =
    let new = c.shorten_catalog.new.self in
    subst (λ (x : OnStore g.row.S.Denot). length new.state.tenants ≡ length x.state.tenants) c.self.view_is
    (length_named c.self.inside.engine.state.tenants new.state.tenants c.shorten_catalog.ensures.turn.names)

pub returns-clause-later : goal.returns-clause-later
returns-clause-later g c =
    let disk = g.S.Store.disk in
    let new = c.shorten_catalog.new.self in
    subst (λ (x : OnStore g.row.S.Denot). IsLaterWith (disk x.store) (disk new.store) x.strays new.strays x.state.tenants new.state.tenants x.counts new.counts) c.self.view_is c.shorten_catalog.ensures.later

pub returns-clause-turn : goal.returns-clause-turn
returns-clause-turn g c =
    let new = c.shorten_catalog.new.self in
    subst (λ (x : OnStore g.row.S.Denot). IsTurn c.args.place (is_honest g.S.Store.disk new) x.state.tenants new.state.tenants) c.self.view_is c.shorten_catalog.ensures.turn

pub returns-clause-stays : goal.returns-clause-stays
returns-clause-stays g c = λ honest t.
    let new = c.shorten_catalog.new.self in
    subst (λ (x : OnStore g.row.S.Denot). tenants.kept_of new.state.tenants t ≡ tenants.kept_of x.state.tenants t) c.self.view_is (c.shorten_catalog.ensures.stays honest t)

pub returns-clause-shortened : goal.returns-clause-shortened
returns-clause-shortened g c =
    subst (λ (x : OnStore g.row.S.Denot). IsShortenedAt g.S.Store.disk c.args.place x c.shorten_catalog.new.self) c.self.view_is c.shorten_catalog.ensures.shortened

pub returns-clause-short : goal.returns-clause-short
returns-clause-short g c =
    subst (λ (x : OnStore g.row.S.Denot). IsShort c.args.place x → c.shorten_catalog.new.self ≡ x) c.self.view_is c.shorten_catalog.ensures.short

pub returns-clause-held : goal.returns-clause-held
returns-clause-held g c = λ honest held.
    let disk = g.S.Store.disk in
    let old = c.self.inside.engine in
    let new = c.shorten_catalog.new.self in
    skipped-held c.args.place (is_honest disk new) old.state new.state c.shorten_catalog.ensures.others c.shorten_catalog.ensures.turn honest
    (ap (λ k. k.groups) (c.shorten_catalog.ensures.stays honest c.args.place))
    (subst (λ (x : OnStore g.row.S.Denot). NoneStranded x.state) (sym c.self.view_is) held)
