use Rattle.std.proofs.Common.{◌∙◌, sym, ap, arith, subst}
use Rattle.kb_coordinator.specs.Calls.{reply_among, reply_to}
use Rattle.kb_coordinator.specs.Groups.{AreInOrder}
use Rattle.kb_coordinator.proofs.Lists.{at_index}
use Rattle.kb_coordinator.proofs.Steps.{lists_end, lists_go, lists_stop}
use Rattle.kb_coordinator.proofs.coordinator.Coordinator.reply_to.Goals as goal

pub returns-in-Some : goal.returns-in-Some
returns-in-Some c =
    let items = c.self.inside.released.items in
    let at = at_index items c.loop-i.i c.index.result.now (omega (arith, c.loop-i-test.true, c.self.inside.released.ok)) c.index.ensures in
    lists_stop (λ v. v.items) c.args.connection c.loop-i.i items c.index.result.now _ _ c.loop-i.invariant at (ap (reply_among c.args.connection) (sym c.deref.ensures.value) ∙ sym c.in-Some.ensures)
    ∙ ap (reply_to c.args.connection) c.self.view_is

pub loop-i-preserved : goal.loop-i-preserved
loop-i-preserved c =
    let items = c.self.inside.released.items in
    let at = at_index items c.loop-i.i c.index.result.now (omega (arith, c.loop-i-test.true, c.self.inside.released.ok)) c.index.ensures in
    lists_go (λ v. v.items) c.args.connection c.loop-i.i items c.index.result.now _ c.loop-i.invariant at (ap (reply_among c.args.connection) (sym c.deref.ensures.value) ∙ sym c.in_default.ensures)

pub returns : goal.returns
returns c =
    lists_end (λ v. v.items) c.args.connection c.loop-i.i c.self.inside.released.items _ c.loop-i.invariant (omega (arith, c.loop-i-test.false, c.len-i-end.ensures, c.self.inside.released.ok))
    ∙ ap (reply_to c.args.connection) c.self.view_is

pub reply_among-requires : goal.reply_among-requires
reply_among-requires c =
    let order = c.self.invariant.4 c.loop-i.i c.index.result.now (omega (arith, c.loop-i-test.true, c.self.inside.released.ok)) in
    subst AreInOrder (sym c.deref.ensures.value) (subst (λ v. AreInOrder v.items) (sym c.index.ensures) order)
