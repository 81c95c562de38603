use Rattle.std.proofs.Common.{◌≡◌, sym, ◌∙◌, ap}
use Rattle.std.specs.FinMap as fin
use Rattle.kb_isolation_spec.specs.Session.{is_free, without_wait}
use Rattle.kb_broker.specs.Parked.{parked_for}
use Rattle.kb_broker.proofs.Handled.{from_err, from_ok}
use Rattle.kb_broker.proofs.Served.{IsParkedBy, spent-refused, parked-by, parked-gone, dated-answered, on-ok, owned-answered, owned-shut}
use Rattle.kb_connection.specs.TenantAnswers.{with_answer}
use Rattle.kb_connection.specs.View.{without_front}
use Rattle.kb_broker.proofs.PutOut.{put-done, put-shut}
use Rattle.kb_broker.proofs.serving.hand_over.Goals as goal

pub returns-then-is_err-clause-spent : goal.returns-then-is_err-clause-spent
returns-then-is_err-clause-spent c = spent-refused c.args.setup.now.versions c.args.connection.now c.shut_down.new.self c.requires.asks c.shut_down.ensures

pub returns-then-is_err-clause-owned : goal.returns-then-is_err-clause-owned
returns-then-is_err-clause-owned c = owned-shut c.args.connection.now c.shut_down.new.self (fin.get c.park.new.parking c.args.connection.now.number) c.shut_down.ensures

pub returns-then-is_err-2-clause-owned : goal.returns-then-is_err-2-clause-owned
returns-then-is_err-2-clause-owned c = owned-shut c.args.connection.now c.answer-given.new.self (fin.get c.forget.new.self c.args.connection.now.number) (from_err c.answer-given.result c.is_err-2.result _ c.is_err-2.ensures.value c.if-is_err-2.true c.answer-given.ensures.err)

pub returns-then-is_err-2-clause-parked : goal.returns-then-is_err-2-clause-parked
returns-then-is_err-2-clause-parked c =
    let a = c.args in
    let q = a.parking.now in
    let n = a.connection.now.number in
    let parked : IsParkedBy q c.park.new.parking a.tenant n a.answer = parked-by c.park.result q c.park.new.parking a.tenant c.number-number.result n a.answer c.number-number.ensures c.park.ensures.parked c.park.ensures.others (sym c.is_err.ensures.value ∙ c.if-is_err.false) in
    parked-gone q c.park.new.parking c.forget.new.self a.tenant c.number-number.result n a.answer parked c.number-number.ensures c.forget.ensures.others

-- where it was not refused
parked : (c : goal.Else-is_err-2) → IsParkedBy c.args.parking.now c.park.new.parking c.args.tenant c.args.connection.now.number c.args.answer
parked c =
    let a = c.args in
    parked-by c.park.result a.parking.now c.park.new.parking a.tenant c.number-number.result a.connection.now.number a.answer c.number-number.ensures c.park.ensures.parked c.park.ensures.others (sym c.is_err.ensures.value ∙ c.if-is_err.false)

pub returns-else-is_err-2-clause-parked : goal.returns-else-is_err-2-clause-parked
returns-else-is_err-2-clause-parked c = (parked c).others

pub returns-else-is_err-2-clause-dated : goal.returns-else-is_err-2-clause-dated
returns-else-is_err-2-clause-dated c = λ key version head body asks.
    let a = c.args in
    dated-answered a.setup.now c.answer-given.result a.parking.now c.park.new.parking a.tenant a.connection.now.number a.connection.now c.answer-given.new.self a.answer key version head body (parked c) c.requires.bound asks (c.answer-given.ensures.ok a.setup.now) c.answer-given.ensures.free (sym c.is_err-2.ensures.value ∙ c.if-is_err-2.false)

pub returns-else-is_err-2-clause-owned : goal.returns-else-is_err-2-clause-owned
returns-else-is_err-2-clause-owned c =
    let a = c.args in
    let m = c.answer-given.new.self in
    owned-answered a.tenant m.session.stage a.answer (fin.get c.park.new.parking a.connection.now.number) (parked c).own (c.answer-given.ensures.stage ∙ ap without_wait c.requires.bound) (λ no. c.answer-given.ensures.free no (ap is_free c.requires.bound))

pub returns-else-is_err-2-clause-keyed : goal.returns-else-is_err-2-clause-keyed
returns-else-is_err-2-clause-keyed c = on-ok c.answer-given.result (fin.get c.park.new.parking c.args.connection.now.number ≡ parked_for c.args.tenant c.args.answer) (parked c).own

pub returns-then-is_err-clause-output : goal.returns-then-is_err-clause-output
returns-then-is_err-clause-output c = λ key version head body asks. put-shut (with_answer head c.args.answer (without_front c.args.connection.now.session)) c.args.connection.now c.shut_down.new.self c.shut_down.ensures

pub returns-then-is_err-2-clause-output : goal.returns-then-is_err-2-clause-output
returns-then-is_err-2-clause-output c = λ key version head body asks. put-shut (with_answer head c.args.answer (without_front c.args.connection.now.session)) c.args.connection.now c.answer-given.new.self (from_err c.answer-given.result c.is_err-2.result _ c.is_err-2.ensures.value c.if-is_err-2.true c.answer-given.ensures.err)

pub returns-else-is_err-2-clause-output : goal.returns-else-is_err-2-clause-output
returns-else-is_err-2-clause-output c = λ key version head body asks. put-done (with_answer head c.args.answer (without_front c.args.connection.now.session)) c.args.connection.now c.answer-given.new.self (from_ok c.answer-given.result c.is_err-2.result _ c.is_err-2.ensures.value c.if-is_err-2.false (c.answer-given.ensures.answered c.args.setup.now key version head body asks))
