use Rattle.std.proofs.Common.{Ok}
use Rattle.kb_wire.proofs.Items.{AddsFirst}
use Rattle.kb_wire.proofs.array.write_items.Given as goal

abbrev pub invariant-loop-item : goal.invariant-loop-item
invariant-loop-item g l = AddsFirst g.T.Layout.codec l.list l.item-index l.fn.sink (Ok tt) l.sink
