use Rattle.kb_isolation_spec.specs.Greeting.{for_tenant}
use Rattle.std.proofs.Common.{◌≡◌, None, inl, inr, subst, sym, ◌∙◌}
use Rattle.std.specs.FinMap as fin
use Rattle.kb_tenant.specs.Told.{FailedBy}
use Rattle.kb_tenants.specs.Tenants.{commands_of, shelf_is_honest, IsCatalogFull, numbers_in}
use Rattle.kb_connection.specs.View.{greeting_of}
use Rattle.kb_broker.specs.Hosts.{tenants_in}
use Rattle.kb_isolation_spec.specs.Session.{BoundTo, in_front}
use Rattle.kb_isolation_spec.specs.Machine.{after_turn, kept_by_turn}
use Rattle.kb_broker.specs.Places.{IsMemberTurnAt, IsTakenAt, IsToldAt, IsTurnAt, IsWaitTurnAt}
use Rattle.kb_broker.proofs.Handled.{able-stage}
use Rattle.kb_broker.specs.Parked.{IsAskedOnAt, IsConcern}
use Rattle.kb_broker.proofs.Counted.{asked-counted, keyed-counted, later-loss, left-counted, member-counted, met-counted, turn-counted, waits-counted}
use Rattle.kb_broker.proofs.Served.{dated-none, greeted-free, keyed-none, left-by, own-concern, owned-none, owned-shut}
use Rattle.kb_broker.proofs.TenantTurns.{spent-greeted, spent-shut}
use Rattle.kb_broker.proofs.PutOut.{told-counted, told-greeted}
use Rattle.kb_tenants.specs.Counts.{all_counts}
use Rattle.kb_tenants.proofs.Passed.{length_named}
use Rattle.kb_tenants.proofs.Shares.{shares_kept}
use Rattle.kb_broker.proofs.Honest.{later-none}
use Rattle.kb_broker.proofs.serving.take_turn.Goals as goal

pub returns-in_err-greet-in-Greets-clause-spent : goal.returns-in_err-greet-in-Greets-clause-spent
returns-in_err-greet-in-Greets-clause-spent g c = spent-shut c.args.connection.now c.greet.new.self c.requires.able c.in_err-greet-in-Greets.ensures.err

pub returns-in_ok-greet-in-Greets-clause-spent : goal.returns-in_ok-greet-in-Greets-clause-spent
returns-in_ok-greet-in-Greets-clause-spent g c =
    spent-greeted c.greet.result c.args.setup.now (greeting_of c.in-Greets.greeting) c.args.connection.now c.greet.new.self (sym (able-stage c.args.connection.now.session c.requires.able) ∙ sym c.in-Greets.ensures) c.requires.able c.greet.ensures.ok c.greet.ensures.err

pub serve_bound-requires-clause-bound : goal.serve_bound-requires-clause-bound
serve_bound-requires-clause-bound g c = sym (able-stage c.args.connection.now.session c.requires.able) ∙ sym c.in-Bound.ensures

pub returns-in_ok-greet-in-Greets-clause-dated : goal.returns-in_ok-greet-in-Greets-clause-dated
returns-in_ok-greet-in-Greets-clause-dated g c =
    let a = c.args in
    let greets = sym (able-stage a.connection.now.session c.requires.able) ∙ sym c.in-Greets.ensures in
    dated-none (fin.get a.parking.now a.connection.now.number) c.greet.new.self.session.stage c.requires.free (greeted-free a.setup.now (greeting_of c.in-Greets.greeting) a.connection.now c.greet.new.self greets c.in_ok-greet-in-Greets.ensures.ok)

pub returns-in_err-greet-in-Greets-clause-owned : goal.returns-in_err-greet-in-Greets-clause-owned
returns-in_err-greet-in-Greets-clause-owned g c = owned-shut c.args.connection.now c.greet.new.self (fin.get c.args.parking.now c.args.connection.now.number) c.in_err-greet-in-Greets.ensures.err

pub returns-in_ok-greet-in-Greets-clause-owned : goal.returns-in_ok-greet-in-Greets-clause-owned
returns-in_ok-greet-in-Greets-clause-owned g c =
    let a = c.args in
    let greets = sym (able-stage a.connection.now.session c.requires.able) ∙ sym c.in-Greets.ensures in
    owned-none c.greet.new.self.session.stage (fin.get a.parking.now a.connection.now.number) (greeted-free a.setup.now (greeting_of c.in-Greets.greeting) a.connection.now c.greet.new.self greets c.in_ok-greet-in-Greets.ensures.ok)

pub returns-in_ok-greet-in-Greets-clause-keyed : goal.returns-in_ok-greet-in-Greets-clause-keyed
returns-in_ok-greet-in-Greets-clause-keyed g c = λ honest.
    let a = c.args in
    let greets = sym (able-stage a.connection.now.session c.requires.able) ∙ sym c.in-Greets.ensures in
    keyed-none (tenants_in g.L.PartitionLog.log g.S.Store.disk a.tenants.now) a.connection.now.number c.greet.new.self.session.stage (fin.get a.parking.now a.connection.now.number) (greeted-free a.setup.now (greeting_of c.in-Greets.greeting) a.connection.now c.greet.new.self greets c.in_ok-greet-in-Greets.ensures.ok)

pub returns-in_ok-touched-in-Bound-clause-remaining : goal.returns-in_ok-touched-in-Bound-clause-remaining
returns-in_ok-touched-in-Bound-clause-remaining g c = λ honest.
    let a = c.args in
    let t = c.in-Bound.tenant in
    let us = tenants_in g.L.PartitionLog.log g.S.Store.disk c.serve_bound.new.tenants in
    let p = c.serve_bound.new.parking in
    let touched = c.in_ok-touched-in-Bound.touched in
    let bound = sym (able-stage a.connection.now.session c.requires.able) ∙ sym c.in-Bound.ensures in
    let concern = subst (λ n. IsConcern c.whom_it_concerns.result t n us p touched) (c.number-number.ensures ∙ c.serve_bound.ensures.number) c.whom_it_concerns.ensures.concern in
    let before = subst (λ shelf. (g.S.Store.disk shelf.store).honest) c.whom_it_concerns.ensures.shelf honest in
    left-counted t (tenants_in g.L.PartitionLog.log g.S.Store.disk a.tenants.now) us (tenants_in g.L.PartitionLog.log g.S.Store.disk c.whom_it_concerns.new.tenants) c.whom_it_concerns.ensures.turn c.whom_it_concerns.ensures.stays c.whom_it_concerns.result a.setup.now a.clock a.connection.now.session.stage a.connection.now.number a.parking.now a.connection.now.session c.serve_bound.new.connection.session c.whom_it_concerns.ensures.counted
    (left-by (shelf_is_honest g.S.Store.disk c.serve_bound.new.tenants) before c.whom_it_concerns.result a.setup.now t a.clock a.connection.now.number a.parking.now p (tenants_in g.L.PartitionLog.log g.S.Store.disk a.tenants.now) us a.connection.now.session c.serve_bound.new.connection.session a.connection.now.session.stage touched bound c.serve_bound.ensures.parked concern c.in_ok-touched-in-Bound.ensures.touched)

pub returns-in_ok-touched-in-Bound-clause-includes_itself : goal.returns-in_ok-touched-in-Bound-clause-includes_itself
returns-in_ok-touched-in-Bound-clause-includes_itself g c =
    let t = c.in-Bound.tenant in
    let us = tenants_in g.L.PartitionLog.log g.S.Store.disk c.serve_bound.new.tenants in
    let p = c.serve_bound.new.parking in
    let touched = c.in_ok-touched-in-Bound.touched in
    own-concern c.whom_it_concerns.result t c.args.connection.now.number us p touched
    (subst (λ n. IsConcern c.whom_it_concerns.result t n us p touched) (c.number-number.ensures ∙ c.serve_bound.ensures.number) c.whom_it_concerns.ensures.concern)

pub returns-in_err-greet-in-Greets-clause-waits : goal.returns-in_err-greet-in-Greets-clause-waits
returns-in_err-greet-in-Greets-clause-waits g c =
    let a = c.args in
    let ts = tenants_in g.L.PartitionLog.log g.S.Store.disk a.tenants.now in
    let greets = sym (able-stage a.connection.now.session c.requires.able) ∙ sym c.in-Greets.ensures in
    subst (λ st. IsWaitTurnAt a.connection.now.number st ts ts) (sym greets) tt

pub returns-in_ok-greet-in-Greets-clause-waits : goal.returns-in_ok-greet-in-Greets-clause-waits
returns-in_ok-greet-in-Greets-clause-waits g c =
    let a = c.args in
    let ts = tenants_in g.L.PartitionLog.log g.S.Store.disk a.tenants.now in
    let greets = sym (able-stage a.connection.now.session c.requires.able) ∙ sym c.in-Greets.ensures in
    subst (λ st. IsWaitTurnAt a.connection.now.number st ts ts) (sym greets) tt

pub returns-in_ok-greet-in-Greets-clause-member : goal.returns-in_ok-greet-in-Greets-clause-member
returns-in_ok-greet-in-Greets-clause-member g c =
    let a = c.args in
    let ts = tenants_in g.L.PartitionLog.log g.S.Store.disk a.tenants.now in
    let greets = sym (able-stage a.connection.now.session c.requires.able) ∙ sym c.in-Greets.ensures in
    subst (λ st. IsMemberTurnAt a.connection.now.number st ts ts c.greet.new.self.session.stage) (sym greets) tt

pub returns-in_err-touched-in-Bound-clause-waits : goal.returns-in_err-touched-in-Bound-clause-waits
returns-in_err-touched-in-Bound-clause-waits g c =
    let a = c.args in
    let bound = sym (able-stage a.connection.now.session c.requires.able) ∙ sym c.in-Bound.ensures in
    subst (λ st. IsWaitTurnAt a.connection.now.number st (tenants_in g.L.PartitionLog.log g.S.Store.disk a.tenants.now) (tenants_in g.L.PartitionLog.log g.S.Store.disk c.serve_bound.new.tenants)) (sym bound) c.serve_bound.ensures.waits

pub returns-in_err-touched-in-Bound-clause-asked : goal.returns-in_err-touched-in-Bound-clause-asked
returns-in_err-touched-in-Bound-clause-asked g c = λ honest.
    let a = c.args in
    let log = g.L.PartitionLog.log in
    let disk = g.S.Store.disk in
    let bound = sym (able-stage a.connection.now.session c.requires.able) ∙ sym c.in-Bound.ensures in
    subst (λ st. IsAskedOnAt st (tenants_in log disk a.tenants.now) (tenants_in log disk c.serve_bound.new.tenants)) (sym bound)
    (c.serve_bound.ensures.asked honest)

pub returns-in_ok-touched-in-Bound-clause-later : goal.returns-in_ok-touched-in-Bound-clause-later
returns-in_ok-touched-in-Bound-clause-later g c =
    let w = c.whom_it_concerns.ensures in
    later-loss g.L.PartitionLog.log g.S.Store.disk c.args.tenants.now c.serve_bound.new.tenants c.whom_it_concerns.new.tenants c.in-Bound.tenant c.serve_bound.ensures.later w.turn w.shelf w.strays
    (shares_kept g.L.PartitionLog.log g.S.Store.disk c.serve_bound.new.tenants c.whom_it_concerns.new.tenants
    (length_named (tenants_in g.L.PartitionLog.log g.S.Store.disk c.serve_bound.new.tenants) (tenants_in g.L.PartitionLog.log g.S.Store.disk c.whom_it_concerns.new.tenants) w.turn.names) w.counts)

pub returns-in_ok-touched-in-Bound-clause-turn : goal.returns-in_ok-touched-in-Bound-clause-turn
returns-in_ok-touched-in-Bound-clause-turn g c =
    let log = g.L.PartitionLog.log in
    let disk = g.S.Store.disk in
    let w = c.whom_it_concerns.ensures in
    let us = c.serve_bound.new.tenants in
    let vs = c.whom_it_concerns.new.tenants in
    subst (λ st. IsTurnAt (shelf_is_honest disk vs) st (tenants_in log disk c.args.tenants.now) (tenants_in log disk vs)) (sym (sym (able-stage c.args.connection.now.session c.requires.able) ∙ sym c.in-Bound.ensures))
    (turn-counted c.in-Bound.tenant (tenants_in log disk c.args.tenants.now) (tenants_in log disk us) (tenants_in log disk vs) w.turn w.stays (shelf_is_honest disk us) (shelf_is_honest disk vs) (λ honest. subst (λ shelf. (g.S.Store.disk shelf.store).honest) c.whom_it_concerns.ensures.shelf honest) c.serve_bound.ensures.turn)

pub returns-in_ok-touched-in-Bound-clause-keyed : goal.returns-in_ok-touched-in-Bound-clause-keyed
returns-in_ok-touched-in-Bound-clause-keyed g c = λ honest.
    let log = g.L.PartitionLog.log in
    let disk = g.S.Store.disk in
    let w = c.whom_it_concerns.ensures in
    let n = c.args.connection.now.number in
    keyed-counted c.in-Bound.tenant (tenants_in log disk c.args.tenants.now) (tenants_in log disk c.serve_bound.new.tenants) (tenants_in log disk c.whom_it_concerns.new.tenants) w.turn w.stays n c.serve_bound.new.connection.session.stage (fin.get c.serve_bound.new.parking n) (c.serve_bound.ensures.keyed (subst (λ shelf. (g.S.Store.disk shelf.store).honest) c.whom_it_concerns.ensures.shelf honest))

pub returns-in_ok-touched-in-Bound-clause-asked : goal.returns-in_ok-touched-in-Bound-clause-asked
returns-in_ok-touched-in-Bound-clause-asked g c = λ honest.
    let log = g.L.PartitionLog.log in
    let disk = g.S.Store.disk in
    let w = c.whom_it_concerns.ensures in
    subst (λ st. IsAskedOnAt st (tenants_in log disk c.args.tenants.now) (tenants_in log disk c.whom_it_concerns.new.tenants)) (sym (sym (able-stage c.args.connection.now.session c.requires.able) ∙ sym c.in-Bound.ensures))
    (asked-counted c.in-Bound.tenant (tenants_in log disk c.args.tenants.now) (tenants_in log disk c.serve_bound.new.tenants) (tenants_in log disk c.whom_it_concerns.new.tenants) w.turn w.stays (c.serve_bound.ensures.asked (subst (λ shelf. (g.S.Store.disk shelf.store).honest) c.whom_it_concerns.ensures.shelf honest)))

pub returns-in_ok-touched-in-Bound-clause-ok : goal.returns-in_ok-touched-in-Bound-clause-ok
returns-in_ok-touched-in-Bound-clause-ok g c =
    let log = g.L.PartitionLog.log in
    let disk = g.S.Store.disk in
    let w = c.whom_it_concerns.ensures in
    let a = c.args in
    let us = c.serve_bound.new.tenants in
    let vs = c.whom_it_concerns.new.tenants in
    let t = c.in-Bound.tenant in
    subst (λ st. IsTakenAt (shelf_is_honest disk vs) a.setup.now a.clock a.connection.now.number st (tenants_in log disk a.tenants.now) (tenants_in log disk vs) a.connection.now.session c.serve_bound.new.connection.session) (sym (sym (able-stage c.args.connection.now.session c.requires.able) ∙ sym c.in-Bound.ensures))
    (met-counted t (tenants_in log disk a.tenants.now) (tenants_in log disk us) (tenants_in log disk vs) w.turn w.stays (shelf_is_honest disk us) (shelf_is_honest disk vs)
    (λ k l. (c.serve_bound.new.connection.session ≡ after_turn (for_tenant a.setup.now t) k a.clock a.connection.now.number a.connection.now.session) × (l ≡ kept_by_turn (for_tenant a.setup.now t) k a.clock a.connection.now.number (in_front a.connection.now.session)))
    (λ honest. subst (λ shelf. (g.S.Store.disk shelf.store).honest) c.whom_it_concerns.ensures.shelf honest) (c.serve_bound.ensures.turn.grows t) c.in_ok-touched-in-Bound.ensures.ok)

pub returns-in_ok-touched-in-Bound-clause-waits : goal.returns-in_ok-touched-in-Bound-clause-waits
returns-in_ok-touched-in-Bound-clause-waits g c =
    let log = g.L.PartitionLog.log in
    let disk = g.S.Store.disk in
    let a = c.args in
    let w = c.whom_it_concerns.ensures in
    let ts = tenants_in log disk a.tenants.now in
    let us = tenants_in log disk c.serve_bound.new.tenants in
    let vs = tenants_in log disk c.whom_it_concerns.new.tenants in
    waits-counted c.in-Bound.tenant ts us vs w.turn w.stays a.connection.now.number a.connection.now.session.stage (subst (λ st. IsWaitTurnAt a.connection.now.number st ts us) (sym (sym (able-stage c.args.connection.now.session c.requires.able) ∙ sym c.in-Bound.ensures)) c.serve_bound.ensures.waits)

pub returns-in_ok-touched-in-Bound-clause-member : goal.returns-in_ok-touched-in-Bound-clause-member
returns-in_ok-touched-in-Bound-clause-member g c =
    let log = g.L.PartitionLog.log in
    let disk = g.S.Store.disk in
    let a = c.args in
    let w = c.whom_it_concerns.ensures in
    let ts = tenants_in log disk a.tenants.now in
    let us = tenants_in log disk c.serve_bound.new.tenants in
    let vs = tenants_in log disk c.whom_it_concerns.new.tenants in
    let r = c.serve_bound.new.connection.session.stage in
    member-counted c.in-Bound.tenant ts us vs w.turn w.stays a.connection.now.number a.connection.now.session.stage r (subst (λ st. IsMemberTurnAt a.connection.now.number st ts us r) (sym (sym (able-stage c.args.connection.now.session c.requires.able) ∙ sym c.in-Bound.ensures)) c.in_ok-touched-in-Bound.ensures.member)

-- what is told

pub returns-in_err-greet-in-Greets-clause-told : goal.returns-in_err-greet-in-Greets-clause-told
returns-in_err-greet-in-Greets-clause-told g c = λ honest.
    let a = c.args in
    let disk = g.S.Store.disk in
    let us = a.tenants.now in
    let failures = (disk us.shelf.store).failures in
    let greets = sym (able-stage a.connection.now.session c.requires.able) ∙ sym c.in-Greets.ensures in
    told-greeted (FailedBy failures failures us.shelf.next) (IsCatalogFull g.L.PartitionLog.log us) a.setup.now a.clock
    a.connection.now.number (tenants_in g.L.PartitionLog.log disk us) a.connection.now c.greet.new.self
    (greeting_of c.in-Greets.greeting) greets (inr c.in_err-greet-in-Greets.ensures.err)

pub returns-in_ok-greet-in-Greets-clause-told : goal.returns-in_ok-greet-in-Greets-clause-told
returns-in_ok-greet-in-Greets-clause-told g c = λ honest.
    let a = c.args in
    let disk = g.S.Store.disk in
    let us = a.tenants.now in
    let failures = (disk us.shelf.store).failures in
    let greets = sym (able-stage a.connection.now.session c.requires.able) ∙ sym c.in-Greets.ensures in
    told-greeted (FailedBy failures failures us.shelf.next) (IsCatalogFull g.L.PartitionLog.log us) a.setup.now a.clock
    a.connection.now.number (tenants_in g.L.PartitionLog.log disk us) a.connection.now c.greet.new.self
    (greeting_of c.in-Greets.greeting) greets (inl c.in_ok-greet-in-Greets.ensures.ok)

pub returns-in_err-touched-in-Bound-clause-told : goal.returns-in_err-touched-in-Bound-clause-told
returns-in_err-touched-in-Bound-clause-told g c = λ honest.
    let a = c.args in
    let log = g.L.PartitionLog.log in
    let disk = g.S.Store.disk in
    let us = c.serve_bound.new.tenants in
    let failed = FailedBy (disk a.tenants.now.shelf.store).failures (disk us.shelf.store).failures us.shelf.next in
    let bound = sym (able-stage a.connection.now.session c.requires.able) ∙ sym c.in-Bound.ensures in
    subst (λ st. IsToldAt failed (IsCatalogFull log us) a.setup.now a.clock a.connection.now.number st (tenants_in log disk a.tenants.now) (tenants_in log disk us) a.connection.now.session c.serve_bound.new.connection.session) (sym bound) (c.serve_bound.ensures.told honest)

pub returns-in_ok-touched-in-Bound-clause-told : goal.returns-in_ok-touched-in-Bound-clause-told
returns-in_ok-touched-in-Bound-clause-told g c = λ honest.
    let a = c.args in
    let log = g.L.PartitionLog.log in
    let disk = g.S.Store.disk in
    let w = c.whom_it_concerns.ensures in
    let n = a.connection.now.number in
    let s = a.connection.now.session in
    let r = c.serve_bound.new.connection.session in
    let us = c.serve_bound.new.tenants in
    let vs = c.whom_it_concerns.new.tenants in
    let ts = tenants_in log disk a.tenants.now in
    let before = (disk a.tenants.now.shelf.store).failures in
    let bound = sym (able-stage s c.requires.able) ∙ sym c.in-Bound.ensures in
    let told = subst (λ shelf. IsToldAt (FailedBy before (disk shelf.store).failures shelf.next) (IsCatalogFull log us) a.setup.now a.clock n (BoundTo c.in-Bound.tenant None) ts (tenants_in log disk us) s r) (sym w.shelf)
    (c.serve_bound.ensures.told (subst (λ shelf. (disk shelf.store).honest) w.shelf honest)) in
    let failed = FailedBy before (disk vs.shelf.store).failures vs.shelf.next in
    subst (λ st. IsToldAt failed (IsCatalogFull log vs) a.setup.now a.clock n st ts (tenants_in log disk vs) s r) (sym bound)
    (told-counted failed (commands_of log us) (commands_of log vs) a.setup.now a.clock n c.in-Bound.tenant ts (tenants_in log disk us) (tenants_in log disk vs) s r w.commands w.stays told)

pub returns-in_err-greet-in-Greets-clause-later : goal.returns-in_err-greet-in-Greets-clause-later
returns-in_err-greet-in-Greets-clause-later g c = later-none (g.S.Store.disk c.args.tenants.now.shelf.store) (numbers_in c.args.tenants.now.strays) (tenants_in g.L.PartitionLog.log g.S.Store.disk c.args.tenants.now) (all_counts c.args.tenants.now)

pub returns-in_ok-greet-in-Greets-clause-later : goal.returns-in_ok-greet-in-Greets-clause-later
returns-in_ok-greet-in-Greets-clause-later g c = later-none (g.S.Store.disk c.args.tenants.now.shelf.store) (numbers_in c.args.tenants.now.strays) (tenants_in g.L.PartitionLog.log g.S.Store.disk c.args.tenants.now) (all_counts c.args.tenants.now)
