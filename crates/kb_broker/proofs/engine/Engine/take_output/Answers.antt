use Rattle.std.proofs.Common.{refl, sym, ◌∙◌, ap}
use Rattle.kb_isolation_spec.specs.Machine.{Line}
use Rattle.kb_isolation_spec.specs.Calls.{output_in}
use Rattle.kb_isolation_spec.proofs.Sets.{find-none}
use Rattle.kb_broker.proofs.Placed.{at-read, found, find-found, taken-found, taken-none}
use Rattle.kb_tenants.specs.Tenants.{shelf_is_honest}
use Rattle.kb_broker.specs.Hosts.{tenants_in}
use Rattle.kb_broker.proofs.Fields.{carried-on, rising-inside}
use Rattle.kb_broker.proofs.Handled.{at-inside}
use Rattle.kb_broker.proofs.Parked.{queue-kept}
use Rattle.kb_broker.proofs.Heard.{heard-set, roomy}
use Rattle.kb_broker.proofs.Honest.{counts-is, commands-are, state-is, store-is, strays-is, stands-on}
use Rattle.kb_broker.proofs.RequestLimits.{limit-put}
use Rattle.kb_broker.proofs.engine.Engine.take_output.Goals as goal

pub note-requires : goal.note-requires
note-requires g c =
    let b = c.args.self.now.state in
    let i = c.in-Some.i in
    let l = c.index_mut-connection.result.now in
    let m = c.take_output-output.new.self in
    let ls = c.self.inside.connections.items in
    let at = at-inside _ b i l (state-is _ _ c.self.view_is) (at-read _ b i l (state-is _ _ c.self.view_is) c.in-Some.ensures.within c.index_mut-connection.ensures.value) in
    roomy 0 b.last ls i l m c.self.inside.speakers c.args.number c.speaks.result c.self.invariant.2 (rising-inside _ b (state-is _ _ c.self.view_is) c.requires) at
    (ap (λ (x : Line). x.number) c.take_output-output.ensures.state) (sym (found _ b i c.args.number l (state-is _ _ c.self.view_is) c.in-Some.ensures.within c.in-Some.ensures.some c.index_mut-connection.ensures.value).number) c.speaks.ensures

pub returns-in-Some-clause-state : goal.returns-in-Some-clause-state
returns-in-Some-clause-state g c =
    let b = c.args.self.now.state in
    let i = c.in-Some.i in
    let l = c.index_mut-connection.result.now in
    stands-on c.args.self.now _ _ _ _ _ _ (taken-found _ b i c.args.number l c.take_output-output.new.self (state-is _ _ c.self.view_is) c.requires (found _ b i c.args.number l (state-is _ _ c.self.view_is) c.in-Some.ensures.within c.in-Some.ensures.some c.index_mut-connection.ensures.value) c.take_output-output.ensures.state) (store-is _ _ c.self.view_is) (strays-is _ _ c.self.view_is) (counts-is _ _ c.self.view_is) (commands-are _ _ c.self.view_is)

pub returns-in-Some-clause-output : goal.returns-in-Some-clause-output
returns-in-Some-clause-output g c =
    let b = c.args.self.now.state in
    let i = c.in-Some.i in
    let l = c.index_mut-connection.result.now in
    c.take_output-output.ensures.output ∙ sym (ap output_in (find-found b i c.args.number l c.requires (found _ b i c.args.number l (state-is _ _ c.self.view_is) c.in-Some.ensures.within c.in-Some.ensures.some c.index_mut-connection.ensures.value)))

pub returns-in-None-clause-state : goal.returns-in-None-clause-state
returns-in-None-clause-state g c = stands-on c.args.self.now _ _ _ _ _ _ (taken-none c.args.self.now.state c.args.number c.in-None.ensures.none) refl refl refl refl

pub returns-in-None-clause-output : goal.returns-in-None-clause-output
returns-in-None-clause-output g c = c.new.ensures.items ∙ sym (ap output_in (find-none c.args.number c.args.self.now.state.lines c.in-None.ensures.none))

pub invariant_of-self : goal.invariant_of-self
invariant_of-self g c =
    let disk = g.S.Store.disk in
    let b = c.args.self.now.state in
    let i = c.in-Some.i in
    let l = c.index_mut-connection.result.now in
    let m = c.take_output-output.new.self in
    let q = c.self.inside.parking in
    let H = shelf_is_honest disk c.self.inside.tenants in
    let ts = tenants_in g.L.PartitionLog.log disk c.self.inside.tenants in
    let ls = c.self.inside.connections.items in
    let at = at-inside _ b i l (state-is _ _ c.self.view_is) (at-read _ b i l (state-is _ _ c.self.view_is) c.in-Some.ensures.within c.index_mut-connection.ensures.value) in (
      c.self.invariant.0,
      queue-kept H H q ts ts 0 b.last ls i l m c.self.invariant.1
          (rising-inside _ b (state-is _ _ c.self.view_is) c.requires) at
          (ap (λ (x : Line). x.number) c.take_output-output.ensures.state) (λ honest. honest) (ap (λ (x : Line). x.session.stage) c.take_output-output.ensures.state) (λ honest. carried-on ts ls q),
      heard-set 0 b.last ls i l m c.self.inside.speakers c.note.new.speakers c.args.number c.speaks.result c.self.invariant.2 (rising-inside _ b (state-is _ _ c.self.view_is) c.requires) at
          (ap (λ (x : Line). x.number) c.take_output-output.ensures.state) (sym (found _ b i c.args.number l (state-is _ _ c.self.view_is) c.in-Some.ensures.within c.in-Some.ensures.some c.index_mut-connection.ensures.value).number) c.speaks.ensures c.note.ensures.items c.note.ensures.capacity,
      limit-put c.self.inside.setup.request_bytes ls i l m at (ap (λ (x : Line). x.session.limit) c.take_output-output.ensures.state) c.self.invariant.3,
    )
