use Rattle.std.proofs.Common.{◌≡◌, ◌<◌, List, arith, get_or, length, refl, sym, ◌∙◌, ap, subst}
use Rattle.std.specs.FinMap as fin
use Rattle.kb_isolation_spec.specs.Session.{new_session}
use Rattle.kb_isolation_spec.specs.Machine.{Line}
use Rattle.kb_isolation_spec.specs.RequestLimits.{HaveLimit}
use Rattle.kb_isolation_spec.specs.Broker.{BrokerState, Rising}
use Rattle.kb_isolation_spec.specs.Calls.{left_by, output_in}
use Rattle.kb_isolation_spec.proofs.Sets.{find-none}
use Rattle.kb_broker.proofs.Placed.{IsLeft, get-at, left-found, find-found, closed-found, closed-none}
use Rattle.kb_tenants.specs.Tenants.{shelf_is_honest}
use Rattle.kb_broker.specs.Hosts.{tenants_in}
use Rattle.kb_broker.specs.Parked.{IsQueueOf}
use Rattle.kb_broker.specs.Speakers.{IsHeard}
use Rattle.kb_broker.proofs.Fields.{carried-on, queue-closed, rising-inside}
use Rattle.kb_broker.proofs.Handled.{at-inside}
use Rattle.kb_broker.proofs.Heard.{heard-removed, roomy-removed}
use Rattle.kb_broker.proofs.Honest.{counts-is, commands-are, state-is, store-is, strays-is, stands-on}
use Rattle.kb_broker.proofs.RequestLimits.{limit-removed}
use Rattle.kb_broker.proofs.engine.Engine.disconnect.Given as given
use Rattle.kb_broker.proofs.engine.Engine.disconnect.Goals as goal

-- the connection, in the state in which a member that waited on it waits no longer
gone : (g : given.Over) (c : goal.After-into_output g) → IsLeft c.leave.new.self.state c.args.self.now.state c.in-Some.i c.args.number c.remove.result
gone g c = left-found _ c.leave.new.self.state c.args.self.now.state c.in-Some.i c.args.number c.remove.result (state-is _ _ c.self.view_is) c.leave.ensures.state c.in-Some.ensures.within c.in-Some.ensures.some c.remove.ensures.value

pub note-requires : goal.note-requires
note-requires g c =
    let d : Line = record { number = 0; session = new_session 0 } in
    let b = c.args.self.now.state in
    let i = c.in-Some.i in
    let ls = c.self.inside.connections.items in
    let l = get_or ls i d in
    let inside = state-is _ _ c.self.view_is ∙ c.leave.ensures.state d in
    let lines : ls ≡ b.lines = ap (λ (x : BrokerState). x.lines) inside in
    let within = c.in-Some.ensures.within in
    roomy-removed 0 b.last ls i l c.self.inside.speakers c.args.number c.self.invariant.2 (subst (Rising 0 b.last) (sym lines) c.requires.rising)
    (get-at ls i d (subst (λ (xs : List Line). i < length xs) (sym lines) within)) (sym (ap (λ (xs : List Line). (get_or xs i d).number) lines ∙ c.in-Some.ensures.some d))

pub remove-requires : goal.remove-requires
remove-requires g c =
    let d : Line = record { number = 0; session = new_session 0 } in
    let same : length c.self.inside.connections.items ≡ length c.args.self.now.state.lines = ap (λ (x : BrokerState). length x.lines) (state-is _ _ c.self.view_is ∙ c.leave.ensures.state d) in
    omega (arith, c.in-Some.ensures.within, same, c.self.inside.connections.ok.0)

pub returns-in-Some-clause-state : goal.returns-in-Some-clause-state
returns-in-Some-clause-state g c =
    stands-on c.args.self.now _ _ _ _ _ _ (closed-found _ c.leave.new.self.state c.args.self.now.state c.in-Some.i c.args.number c.remove.result c.remove.new.self.items (state-is _ _ c.self.view_is) c.requires.rising (gone g c) c.remove.ensures.items) (store-is _ _ c.self.view_is ∙ c.leave.ensures.store) (strays-is _ _ c.self.view_is ∙ c.leave.ensures.strays)
    (counts-is _ _ c.self.view_is ∙ c.leave.ensures.counts) (commands-are _ _ c.self.view_is ∙ c.leave.ensures.commands)

pub returns-in-Some-clause-output : goal.returns-in-Some-clause-output
returns-in-Some-clause-output g c =
    c.into_output.ensures ∙ sym (ap output_in (find-found c.args.self.now.state c.in-Some.i c.args.number c.remove.result c.requires.rising (gone g c).found))

pub returns-in-None-clause-state : goal.returns-in-None-clause-state
returns-in-None-clause-state g c = stands-on c.args.self.now _ _ _ _ _ _ (closed-none c.args.self.now.state c.args.number c.in-None.ensures.none) refl refl refl refl

pub returns-in-None-clause-output : goal.returns-in-None-clause-output
returns-in-None-clause-output g c = c.new.ensures.items ∙ sym (ap output_in (find-none c.args.number c.args.self.now.state.lines c.in-None.ensures.none))

pub invariant_of-self : goal.invariant_of-self
invariant_of-self g c =
    let disk = g.S.Store.disk in
    let b = c.args.self.now.state in
    let i = c.in-Some.i in
    let l = c.remove.result in
    let q = c.self.inside.parking in
    let p = c.forget.new.self in
    let H = shelf_is_honest disk c.self.inside.tenants in
    let ts = tenants_in g.L.PartitionLog.log disk c.self.inside.tenants in
    let ls = c.self.inside.connections.items in
    let h = gone g c in
    let inside = state-is _ _ c.self.view_is ∙ h.is in
    let left : BrokerState = record b { tenants = left_by b.clock l.number l.session.stage b.tenants } in
    let a = at-inside _ left i l inside (record { within = h.found.at.within; here = h.found.at.here }) in (
      c.self.invariant.0,
      subst (IsQueueOf H p ts) (sym c.remove.ensures.items)
          (queue-closed H H q p ts ts 0 b.last ls i l c.self.invariant.1 (rising-inside _ left inside c.requires.rising) a
          (λ k ne. c.forget.ensures.others k (λ e. ne (e ∙ sym h.found.number))) (ap (fin.get p) h.found.number ∙ c.forget.ensures.gone) (λ honest. honest) (carried-on ts ls q)),
      subst (IsHeard c.note.new.speakers) (sym c.remove.ensures.items)
          (heard-removed 0 b.last ls i l c.self.inside.speakers c.note.new.speakers c.args.number c.self.invariant.2 (rising-inside _ left inside c.requires.rising) a (sym h.found.number) c.note.ensures.items c.note.ensures.capacity),
      subst (HaveLimit c.self.inside.setup.request_bytes) (sym c.remove.ensures.items) (limit-removed c.self.inside.setup.request_bytes ls i l a c.self.invariant.3),
    )
