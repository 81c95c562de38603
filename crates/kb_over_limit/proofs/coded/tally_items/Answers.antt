use Rattle.std.proofs.lemmas.Result.{err_from_is_err_and}
use Rattle.kb_over_limit.proofs.Loop.{all_counted, fault_ends, none_yet, one_more}
use Rattle.kb_over_limit.proofs.coded.tally_items.Goals as goal

pub loop-init : goal.loop-init
loop-init g c = none_yet g.T.Coded.codec g.T.Coded.tallied c.args.count c.args.cursor.now c.args.tally.now

pub loop-preserved : goal.loop-preserved
loop-preserved g c =
    one_more g.T.Coded.codec g.T.Coded.tallied c.args.count c.args.cursor.now c.args.tally.now c.loop.counter c.loop.cursor c.tally.new.cursor
    c.loop.tally c.tally.new.tally tt c.loop-test.true c.loop.invariant c.in_ok-tally.ensures

pub returns-in_err-tally : goal.returns-in_err-tally
returns-in_err-tally g c =
    let p = err_from_is_err_and c.from_residual.result c.from_residual.ensures.1 in
    rw (p.1, p.2) (fault_ends g.T.Coded.codec g.T.Coded.tallied c.args.count c.args.cursor.now c.args.tally.now c.loop.counter c.loop.cursor
    c.tally.new.cursor c.loop.tally c.in_err-tally.field-0.0 c.loop-test.true c.loop.invariant c.in_err-tally.ensures)

pub returns : goal.returns
returns g c =
    all_counted g.T.Coded.codec g.T.Coded.tallied c.args.count c.args.cursor.now c.args.tally.now c.loop.counter c.loop.cursor c.loop.tally tt
    c.loop-test.false c.loop.invariant
