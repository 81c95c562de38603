use Rattle.std.proofs.Common.{◌≡◌, ◌++◌, ◌∷◌, [], refl, sym, ◌∙◌, ap, subst, inl, inr, Some}
use Rattle.std.specs.Prelude.{map, true}
use Rattle.std.proofs.lemmas.List.{map_push, append-nil}
use Rattle.kb_isolation_spec.specs.declared.shut.Shut.TheVariants as causes
use Rattle.kb_isolation_spec.specs.Machine.{Sent, Closes, Comes, leaving}
use Rattle.kb_isolation_spec.specs.Broker.{IsStep}
use Rattle.kb_isolation_spec.specs.Calls.{IsRefusedUnbound, opened}
use Rattle.kb_broker.specs.Hosts.{is_honest, IsLaterBy, StepsTo}
use Rattle.kb_broker.specs.Truth.{SpeaksAt}
use Rattle.kb_broker.specs.Runs.{sent_of, unkept}
use Rattle.kb_broker.specs.declared.run.Written.{Written}
use Rattle.kb_broker.proofs.Happened.{connected-later, disconnected-later, disconnected-ready}
use Rattle.kb_broker.proofs.Honest.{ready-of, state-is}
use Rattle.kb_broker.proofs.RunEvents.{when_err, when_ok}
use Rattle.kb_broker.proofs.broker.Broker.happen.Goals as goal

pub returns-then-is_err-clause-passed : goal.returns-then-is_err-clause-passed
returns-then-is_err-clause-passed g c =
    let old = c.args.self.now.state in
    let new = c.connect.new.self.state in
    let n = c.in-Open.number in
    let w : Written = record { conn = n; bytes = c.new.result; shut = true; why = Some causes.Memory } in
    let ws = c.args.written.now.items in
    let added = ap (map sent_of) c.push_reserved.ensures.items ∙ (map_push sent_of ws w ∙ ap (λ b. map sent_of ws ++ (let s : Sent = record { number = n; bytes = b; shut = true; why = Some causes.Memory } in s) ∷ []) c.new.ensures.items) in
    let refused = when_err c.connect.result (IsRefusedUnbound old new) (sym c.is_err.ensures.value ∙ c.if-is_err.true) c.connect.ensures.err in
    rw c.in-Open.is (unkept n ∷ [], added, record { step = c.connect.ensures.step; spoken = (connected-later g.S.Store.disk c.connect.result c.args.self.now c.connect.new.self n c.connect.ensures.store c.connect.ensures.strays c.connect.ensures.counts c.connect.ensures.ok c.connect.ensures.err).spoken; ready = ready-of g.S.Store.disk c.connect.new.self c.connect.ensures.ready; leads = inr (refused, refl) })

pub returns-else-is_err-clause-passed : goal.returns-else-is_err-clause-passed
returns-else-is_err-clause-passed g c =
    let n = c.in-Open.number in
    let kept = when_ok c.connect.result (c.connect.new.self.state ≡ opened c.args.self.now.state n) (sym c.is_err.ensures.value ∙ c.if-is_err.false) c.connect.ensures.ok in
    rw c.in-Open.is ([], sym (append-nil (map sent_of c.args.written.now.items)), record { step = c.connect.ensures.step; spoken = (connected-later g.S.Store.disk c.connect.result c.args.self.now c.connect.new.self n c.connect.ensures.store c.connect.ensures.strays c.connect.ensures.counts c.connect.ensures.ok c.connect.ensures.err).spoken; ready = ready-of g.S.Store.disk c.connect.new.self c.connect.ensures.ready; leads = inl (kept, refl) })

pub returns-in-In-clause-passed : goal.returns-in-In-clause-passed
returns-in-In-clause-passed g c =
    let old = c.args.self.now.state in
    let new = c.input.new.self.state in
    let n = c.in-In.number in
    let step : is_honest g.S.Store.disk c.input.new.self → IsStep (Comes n c.in-In.piece.items) old new = subst (λ p. StepsTo g.S.Store.disk (Comes n p) c.args.self.now c.input.new.self) c.deref.ensures.value c.input.ensures.step in
    let spoken : is_honest g.S.Store.disk c.input.new.self → SpeaksAt (Comes n c.in-In.piece.items) old new =
    subst (λ p. is_honest g.S.Store.disk c.input.new.self → SpeaksAt (Comes n p) old new) c.deref.ensures.value c.input.ensures.later.spoken in
    rw c.in-In.is ([], sym (append-nil (map sent_of c.args.written.now.items)), record { step = step; spoken = spoken; ready = ready-of g.S.Store.disk c.input.new.self c.input.ensures.ready; leads = (c.input.ensures.numbers, refl) })

pub returns-in-Close-clause-passed : goal.returns-in-Close-clause-passed
returns-in-Close-clause-passed g c =
    let disk = g.S.Store.disk in
    let n = c.in-Close.number in
    let old = c.args.self.now in
    let new = c.close.new.self in
    rw c.in-Close.is (
      leaving (Closes n) old.state.lines,
      c.close.ensures.written,
      record {
        step = c.close.ensures.step;
        spoken = (disconnected-later disk old new n c.close.ensures.state).spoken;
        ready = ready-of disk new (disconnected-ready disk old new n c.requires.ready c.close.ensures.state);
        leads = (state-is _ _ c.close.ensures.state, refl);
      },
    )

pub returns-in-At-clause-passed : goal.returns-in-At-clause-passed
returns-in-At-clause-passed g c =
    rw c.in-At.is ([], sym (append-nil (map sent_of c.args.written.now.items)), record { step = c.moment.ensures.step; spoken = c.moment.ensures.later.spoken; ready = ready-of g.S.Store.disk c.moment.new.self c.moment.ensures.ready; leads = (c.moment.ensures.numbers, refl) })

pub returns-in-Close-clause-ready : goal.returns-in-Close-clause-ready
returns-in-Close-clause-ready g c = disconnected-ready g.S.Store.disk c.args.self.now c.close.new.self c.in-Close.number c.requires.ready c.close.ensures.state

pub returns-then-is_err-clause-later : goal.returns-then-is_err-clause-later
returns-then-is_err-clause-later g c = rw c.in-Open.is (connected-later g.S.Store.disk c.connect.result c.args.self.now c.connect.new.self c.in-Open.number c.connect.ensures.store c.connect.ensures.strays c.connect.ensures.counts c.connect.ensures.ok c.connect.ensures.err)

pub returns-else-is_err-clause-later : goal.returns-else-is_err-clause-later
returns-else-is_err-clause-later g c = rw c.in-Open.is (connected-later g.S.Store.disk c.connect.result c.args.self.now c.connect.new.self c.in-Open.number c.connect.ensures.store c.connect.ensures.strays c.connect.ensures.counts c.connect.ensures.ok c.connect.ensures.err)

pub returns-in-Close-clause-later : goal.returns-in-Close-clause-later
returns-in-Close-clause-later g c = rw c.in-Close.is (disconnected-later g.S.Store.disk c.args.self.now c.close.new.self c.in-Close.number c.close.ensures.state)

pub returns-in-In-clause-later : goal.returns-in-In-clause-later
returns-in-In-clause-later g c =
    let n = c.in-In.number in
    let later : IsLaterBy g.S.Store.disk (SpeaksAt (Comes n c.in-In.piece.items)) c.args.self.now c.input.new.self =
    subst (λ p. IsLaterBy g.S.Store.disk (SpeaksAt (Comes n p)) c.args.self.now c.input.new.self) c.deref.ensures.value c.input.ensures.later in
    rw c.in-In.is later

pub returns-in-At-clause-later : goal.returns-in-At-clause-later
returns-in-At-clause-later g c = rw c.in-At.is c.moment.ensures.later
