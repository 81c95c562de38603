use Rattle.std.proofs.Common.{◌<◌, ◌++◌, ℕ, List, arith, length, refl}
use Rattle.kb_operator.specs.Logged.{texts_of}
use Rattle.kb_operator.specs.Report.{bytes_of_each}
use Rattle.kb_operator.specs.Unread.{unread_text}
use Rattle.kb_operator.specs.declared.journal.Tenant.{Tenant}
use Rattle.kb_operator.proofs.Made.{makes_none, some_text}
use Rattle.kb_operator.proofs.Pushed.{parts_left}
use Rattle.kb_operator.proofs.journal.unread.unread_texts.Goals as goal

pub loop-tenant-preserved : goal.loop-tenant-preserved
loop-tenant-preserved g c =
    let before = c.loop-tenant in
    let unread = (g.B.RefusalCounts.counts c.args.broker.now).unread in
    let tenants = c.args.tenants.now in
    let i = before.tenant-index in
    let item = c.tenant-item.result in
    let within : i < length tenants = omega arith in
    let wanted = unread_text (unread item.place) item in
    parts_left (λ (t : Tenant). texts_of (unread_text (unread t.place) t)) tenants i item (bytes_of_each before.texts.items)
    (bytes_of_each c.push_if.new.texts.items) _ within c.tenant-item.is (c.in_ok-push_if.ensures.ok wanted c.unread_text.ensures) before.invariant

pub returns-in_err-push_if : goal.returns-in_err-push_if
returns-in_err-push_if g c =
    let before = c.loop-tenant in
    let unread = (g.B.RefusalCounts.counts c.args.broker.now).unread in
    let texts_at : Tenant → List (List ℕ) = λ t. texts_of (unread_text (unread t.place) t) in
    let tenants = c.args.tenants.now in
    let i = before.tenant-index in
    let item = c.tenant-item.result in
    let within : i < length tenants = omega arith in
    let wanted = unread_text (unread item.place) item in
    let texts = bytes_of_each before.texts.items in
    makes_none _ c.from_residual.result c.from_residual.ensures.0
    (some_text texts _ _ wanted (c.in_err-push_if.ensures.err wanted c.unread_text.ensures)
    (parts_left texts_at tenants i item texts (texts ++ texts_of wanted) _ within c.tenant-item.is refl before.invariant))
