use Rattle.kb_durable.proofs.Run.{begun, run_loss, run_on, run_trims}
use Rattle.kb_durable.proofs.waiting.remove_some.Goals as goal

pub loop-init : goal.loop-init
loop-init g c =
    begun c.args.waiting.now.items (g.S.Store.disk c.args.store.now) (g.S.Store.loss c.args.store.now) c.requires.there c.requires.synced

pub returns-in_err-remove_first-clause-trims : goal.returns-in_err-remove_first-clause-trims
returns-in_err-remove_first-clause-trims g c =
    let i = c.loop.counter in
    let d = g.S.Store.disk c.args.store.now in
    let e = g.S.Store.disk c.loop.store in
    let f = g.S.Store.disk c.remove_first.new.store in
    let a = g.S.Store.loss c.args.store.now in
    let b = g.S.Store.loss c.loop.store in
    let m = g.S.Store.loss c.remove_first.new.store in
    run_trims i c.args.waiting.now.items c.loop.waiting.items c.remove_first.new.waiting.items d e f a b m c.loop.invariant c.loop-test.true c.in_err-remove_first.ensures.trims

pub returns-in_err-remove_first-clause-loss : goal.returns-in_err-remove_first-clause-loss
returns-in_err-remove_first-clause-loss g c =
    let i = c.loop.counter in
    let d = g.S.Store.disk c.args.store.now in
    let e = g.S.Store.disk c.loop.store in
    let f = g.S.Store.disk c.remove_first.new.store in
    let a = g.S.Store.loss c.args.store.now in
    let b = g.S.Store.loss c.loop.store in
    let m = g.S.Store.loss c.remove_first.new.store in
    run_loss i c.args.waiting.now.items c.loop.waiting.items c.remove_first.new.waiting.items d e f a b m c.loop.invariant c.in_err-remove_first.ensures.loss

pub returns-then-not-branch-clause-trims : goal.returns-then-not-branch-clause-trims
returns-then-not-branch-clause-trims g c =
    let i = c.loop.counter in
    let d = g.S.Store.disk c.args.store.now in
    let e = g.S.Store.disk c.loop.store in
    let f = g.S.Store.disk c.remove_first.new.store in
    let a = g.S.Store.loss c.args.store.now in
    let b = g.S.Store.loss c.loop.store in
    let m = g.S.Store.loss c.remove_first.new.store in
    run_trims i c.args.waiting.now.items c.loop.waiting.items c.remove_first.new.waiting.items d e f a b m c.loop.invariant c.loop-test.true c.in_ok-remove_first.ensures.trims

pub returns-then-not-branch-clause-loss : goal.returns-then-not-branch-clause-loss
returns-then-not-branch-clause-loss g c =
    let i = c.loop.counter in
    let d = g.S.Store.disk c.args.store.now in
    let e = g.S.Store.disk c.loop.store in
    let f = g.S.Store.disk c.remove_first.new.store in
    let a = g.S.Store.loss c.args.store.now in
    let b = g.S.Store.loss c.loop.store in
    let m = g.S.Store.loss c.remove_first.new.store in
    run_loss i c.args.waiting.now.items c.loop.waiting.items c.remove_first.new.waiting.items d e f a b m c.loop.invariant c.in_ok-remove_first.ensures.loss

pub loop-preserved : goal.loop-preserved
loop-preserved g c =
    let i = c.loop.counter in
    let d = g.S.Store.disk c.args.store.now in
    let e = g.S.Store.disk c.loop.store in
    let f = g.S.Store.disk c.remove_first.new.store in
    let a = g.S.Store.loss c.args.store.now in
    let b = g.S.Store.loss c.loop.store in
    let m = g.S.Store.loss c.remove_first.new.store in
    run_on i c.args.waiting.now.items c.loop.waiting.items c.remove_first.new.waiting.items d e f a b m c.loop.invariant (c.in_ok-remove_first.ensures.one search)
    c.in_ok-remove_first.ensures.trims c.in_ok-remove_first.ensures.there c.in_ok-remove_first.ensures.synced c.in_ok-remove_first.ensures.loss c.in_ok-remove_first.ensures.cause.later
