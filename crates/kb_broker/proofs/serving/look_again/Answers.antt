use Rattle.std.proofs.Common.{◌≡◌, rules, subst, sym, ◌∙◌, true}
use Rattle.kb_tenants.specs.Tenants.{numbers_in, shelf_is_honest}
use Rattle.kb_tenant_api.specs.Turns.{IsTurn, IsMet}
use Rattle.kb_tenant.specs.Replies as plain
use Rattle.kb_tenant_api.specs.Hosted.{kept_of}
use Rattle.kb_tenant.specs.Told.{FailedBy}
use Rattle.kb_isolation_spec.specs.Tenant.{ready}
use Rattle.kb_connection.specs.View.{wait_of}
use Rattle.kb_broker.specs.Hosts.{tenants_in, IsLaterWith}
use Rattle.kb_broker.specs.Places.{IsLookAnswer, TellsAwaited}
use Rattle.kb_broker.proofs.Handled.{from_err, from_ok}
use Rattle.kb_broker.proofs.Honest.{later-by, later-counted, later-none}
use Rattle.kb_broker.proofs.TenantTurns.{looked-ok, looked-err}
use Rattle.kb_connection.specs.TenantAnswers.{answered_again}
use Rattle.kb_broker.proofs.PutOut.{again-told, member-answered, put-done, put-shut}
use Rattle.kb_tenants.specs.Counts.{all_counts}
use Rattle.kb_tenants.proofs.Passed.{length_named}
use Rattle.kb_tenants.proofs.Shares.{shares_kept}
use Rattle.kb_broker.proofs.serving.look_again.Goals as goal

pub returns-else-is_err-clause-looked : goal.returns-else-is_err-clause-looked
returns-else-is_err-clause-looked g c =
    let a = c.args in
    let t = c.in-Some.tenant in
    let w = c.in-Some.waiting.now in
    let passes : c.is_looked_for.result ≡ true = search rules in
    let l = c.ask_again-answer.ensures in
    looked-ok (shelf_is_honest g.S.Store.disk c.ask_again-answer.new.tenants) c.wake.result a.whom a.clock t (tenants_in g.L.PartitionLog.log g.S.Store.disk a.tenants.now) (tenants_in g.L.PartitionLog.log g.S.Store.disk c.ask_again-answer.new.tenants) a.connection.now c.wake.new.self (wait_of w) c.ask_again-answer.result c.in-Some.ensures.some (sym c.is_looked_for.ensures ∙ passes) l.turn l.stays
    (subst (λ n. IsMet t (shelf_is_honest g.S.Store.disk c.ask_again-answer.new.tenants) (tenants_in g.L.PartitionLog.log g.S.Store.disk a.tenants.now) (tenants_in g.L.PartitionLog.log g.S.Store.disk c.ask_again-answer.new.tenants)
    (λ k m. (m ≡ k) × plain.IsAnswer w.head.correlation_id (ready k a.clock n (wait_of w)) c.ask_again-answer.result)) c.number-number.ensures l.meets)
    (λ honest. subst (λ n. IsLookAnswer t a.clock n (tenants_in g.L.PartitionLog.log g.S.Store.disk a.tenants.now)
    (tenants_in g.L.PartitionLog.log g.S.Store.disk c.ask_again-answer.new.tenants) (wait_of w) c.ask_again-answer.result) c.number-number.ensures (l.answers honest)) c.wake.ensures.ok c.wake.ensures.number c.wake.ensures.stage c.wake.ensures.unread c.wake.ensures.limit c.wake.ensures.ends (sym c.is_err.ensures.value ∙ c.if-is_err.false)

pub returns-then-is_err-clause-looked : goal.returns-then-is_err-clause-looked
returns-then-is_err-clause-looked g c =
    let a = c.args in
    let t = c.in-Some.tenant in
    let passes : c.is_looked_for.result ≡ true = search rules in
    let l = c.ask_again-answer.ensures in
    let shut = from_err c.wake.result c.is_err.result _ c.is_err.ensures.value c.if-is_err.true c.wake.ensures.err in
    looked-err (shelf_is_honest g.S.Store.disk c.refuse.new.self) a.whom a.clock t (tenants_in g.L.PartitionLog.log g.S.Store.disk a.tenants.now) (tenants_in g.L.PartitionLog.log g.S.Store.disk c.ask_again-answer.new.tenants) (tenants_in g.L.PartitionLog.log g.S.Store.disk c.refuse.new.self) a.connection.now c.wake.new.self (wait_of c.in-Some.waiting.now) c.in-Some.ensures.some (sym c.is_looked_for.ensures ∙ passes) (subst (λ shelf. IsTurn t (g.S.Store.disk shelf.store).honest (tenants_in g.L.PartitionLog.log g.S.Store.disk a.tenants.now) (tenants_in g.L.PartitionLog.log g.S.Store.disk c.ask_again-answer.new.tenants)) (sym c.refuse.ensures.shelf) l.turn) c.refuse.ensures.turn (λ honest. l.stays (subst (λ shelf. (g.S.Store.disk shelf.store).honest) c.refuse.ensures.shelf honest)) c.refuse.ensures.stays c.refuse.ensures.counted shut
    c.wake.ensures.number c.wake.ensures.stage c.wake.ensures.unread c.ask_again-answer.result
    (λ honest. subst (λ n. IsLookAnswer t a.clock n (tenants_in g.L.PartitionLog.log g.S.Store.disk a.tenants.now)
    (tenants_in g.L.PartitionLog.log g.S.Store.disk c.ask_again-answer.new.tenants) (wait_of c.in-Some.waiting.now) c.ask_again-answer.result) c.number-number.ensures (l.answers (subst (λ shelf. (g.S.Store.disk shelf.store).honest) c.refuse.ensures.shelf honest)))
    c.wake.ensures.same

pub returns-then-is_err-clause-later : goal.returns-then-is_err-clause-later
returns-then-is_err-clause-later g c =
    let disk = g.S.Store.disk in
    let before = c.args.tenants.now in
    let after = c.ask_again-answer.new.tenants in
    let end = c.refuse.new.self in
    let r = c.refuse.ensures in
    let counted = later-counted (disk after.shelf.store) (numbers_in after.strays) (tenants_in g.L.PartitionLog.log disk after) (tenants_in g.L.PartitionLog.log disk end) (all_counts after) r.turn.names r.turn.grows in
    let shares = shares_kept g.L.PartitionLog.log disk after end (length_named (tenants_in g.L.PartitionLog.log disk after) (tenants_in g.L.PartitionLog.log disk end) r.turn.names) r.causes in
    later-by (disk before.shelf.store) (disk after.shelf.store) (disk end.shelf.store) (numbers_in before.strays) (numbers_in after.strays) (numbers_in end.strays) (tenants_in g.L.PartitionLog.log disk before) (tenants_in g.L.PartitionLog.log disk after) (tenants_in g.L.PartitionLog.log disk end)
    (all_counts before) (all_counts after) (all_counts end) c.ask_again-answer.ensures.later
    (subst (λ files. IsLaterWith (disk after.shelf.store) (disk end.shelf.store) (numbers_in after.strays) (numbers_in files) (tenants_in g.L.PartitionLog.log disk after) (tenants_in g.L.PartitionLog.log disk end) (all_counts after) (all_counts end)) (sym r.strays)
    (subst (λ shelf. IsLaterWith (disk after.shelf.store) (disk shelf.store) (numbers_in after.strays) (numbers_in after.strays) (tenants_in g.L.PartitionLog.log disk after) (tenants_in g.L.PartitionLog.log disk end) (all_counts after) (all_counts end)) (sym r.shelf)
    (subst (IsLaterWith (disk after.shelf.store) (disk after.shelf.store) (numbers_in after.strays) (numbers_in after.strays) (tenants_in g.L.PartitionLog.log disk after) (tenants_in g.L.PartitionLog.log disk end) (all_counts after)) (sym shares) counted)))

pub returns-else-is_err-clause-told : goal.returns-else-is_err-clause-told
returns-else-is_err-clause-told g c = λ honest.
    let a = c.args in
    let t = c.in-Some.tenant in
    let w = wait_of c.in-Some.waiting.now in
    let n = a.connection.now.number in
    let log = g.L.PartitionLog.log in
    let disk = g.S.Store.disk in
    let ts = tenants_in log disk a.tenants.now in
    let us = tenants_in log disk c.ask_again-answer.new.tenants in
    let shelf = c.ask_again-answer.new.tenants.shelf in
    let failed = FailedBy (disk a.tenants.now.shelf.store).failures (disk shelf.store).failures shelf.next in
    let answer = c.ask_again-answer.result in
    let asked = c.ask_again-answer.ensures in
    let answers = subst (λ k. IsLookAnswer t a.clock k ts us w answer) c.number-number.ensures (asked.answers honest) in
    again-told failed a.clock n t ts a.connection.now.session.stage w a.connection.now.session c.wake.new.self.session answer
    c.in-Some.ensures.some (asked.told honest) (member-answered a.clock n t ts us w answer answers)
    (put-done (answered_again w.head answer a.connection.now.session) a.connection.now c.wake.new.self
    (from_ok c.wake.result c.is_err.result _ c.is_err.ensures.value c.if-is_err.false (c.wake.ensures.answered t w c.in-Some.ensures.some)))

pub returns-then-is_err-clause-told : goal.returns-then-is_err-clause-told
returns-then-is_err-clause-told g c = λ honest.
    let a = c.args in
    let t = c.in-Some.tenant in
    let w = wait_of c.in-Some.waiting.now in
    let n = a.connection.now.number in
    let log = g.L.PartitionLog.log in
    let disk = g.S.Store.disk in
    let ts = tenants_in log disk a.tenants.now in
    let us = tenants_in log disk c.ask_again-answer.new.tenants in
    let before = (disk a.tenants.now.shelf.store).failures in
    let answer = c.ask_again-answer.result in
    let asked = c.ask_again-answer.ensures in
    let end = c.refuse.new.self.shelf in
    let failed = FailedBy before (disk end.store).failures end.next in
    let shut = from_err c.wake.result c.is_err.result _ c.is_err.ensures.value c.if-is_err.true c.wake.ensures.err in
    let honest_before = subst (λ shelf. (disk shelf.store).honest) c.refuse.ensures.shelf honest in
    let answers = subst (λ k. IsLookAnswer t a.clock k ts us w answer) c.number-number.ensures (asked.answers honest_before) in
    let Tells : Type 0 → Type 0 = λ failing. TellsAwaited failing w.head.correlation_id a.clock (kept_of ts t) w.awaited answer in
    again-told failed a.clock n t ts a.connection.now.session.stage w a.connection.now.session c.wake.new.self.session answer
    c.in-Some.ensures.some
    (subst (λ shelf. Tells (FailedBy before (disk shelf.store).failures shelf.next)) (sym c.refuse.ensures.shelf)
    (asked.told honest_before))
    (member-answered a.clock n t ts us w answer answers) (put-shut (answered_again w.head answer a.connection.now.session) a.connection.now c.wake.new.self shut)

pub returns-in_default-clause-later : goal.returns-in_default-clause-later
returns-in_default-clause-later g c = later-none (g.S.Store.disk c.args.tenants.now.shelf.store) (numbers_in c.args.tenants.now.strays) (tenants_in g.L.PartitionLog.log g.S.Store.disk c.args.tenants.now) (all_counts c.args.tenants.now)

pub returns-then-not-is_looked_for-clause-later : goal.returns-then-not-is_looked_for-clause-later
returns-then-not-is_looked_for-clause-later g c = later-none (g.S.Store.disk c.args.tenants.now.shelf.store) (numbers_in c.args.tenants.now.strays) (tenants_in g.L.PartitionLog.log g.S.Store.disk c.args.tenants.now) (all_counts c.args.tenants.now)
