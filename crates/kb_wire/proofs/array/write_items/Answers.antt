use Rattle.std.proofs.Common.{refl}
use Rattle.std.proofs.lemmas.Result.{err_from_is_err_and}
use Rattle.kb_wire.specs.Codec.{items}
use Rattle.kb_wire.proofs.Items.{adds_more, adds_failed, adds_all, item_is}
use Rattle.kb_wire.proofs.array.write_items.Goals as goal

pub write_to-requires : goal.write_to-requires
unfolding items
write_to-requires g c = λ k. ((refl, tt), item_is g.T.Layout.codec.Fits c.args.list.now c.loop-item.item-index c.item-item.result c.loop-item-test.true c.item-item.is c.requires)

pub loop-item-preserved : goal.loop-item-preserved
loop-item-preserved g c = adds_more g.T.Layout.codec c.args.list.now c.loop-item.item-index c.item-item.result c.args.sink.now c.loop-item.sink c.write_to.new.sink c.loop-item-test.true c.item-item.is c.loop-item.invariant c.in_ok-write_to.ensures

pub returns : goal.returns
unfolding items
returns g c = adds_all g.T.Layout.codec c.args.list.now c.loop-item.item-index c.args.sink.now c.loop-item.sink c.loop-item-test.false c.loop-item.invariant

pub returns-in_err-write_to : goal.returns-in_err-write_to
unfolding items
returns-in_err-write_to g c =
    let p = err_from_is_err_and c.from_residual.result c.from_residual.ensures.1 in
    rw (p.1, p.2) (adds_failed g.T.Layout.codec c.args.list.now c.loop-item.item-index c.item-item.result c.args.sink.now c.loop-item.sink c.write_to.new.sink c.in_err-write_to.field-0.0 c.loop-item-test.true c.item-item.is c.loop-item.invariant c.in_err-write_to.ensures)
