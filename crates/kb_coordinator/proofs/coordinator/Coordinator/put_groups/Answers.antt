use Rattle.std.proofs.Common.{◌≤◌, ◌<◌, ◌∙◌, ◌++◌, sym, ap, length, map, drop, arith}
use Rattle.kb_api_group.specs.Layouts.{described_group}
use Rattle.kb_coordinator.specs.Tools.{description}
use Rattle.kb_coordinator.proofs.Until.{until_counted, until_next, until_over, until_past}
use Rattle.kb_coordinator.proofs.Written.{small_count}
use Rattle.kb_coordinator.proofs.coordinator.Coordinator.put_groups.Goals as goal

pub put_count-requires : goal.put_count-requires
put_count-requires c = small_count (length c.args.ids.now) (omega (arith, c.if-ids.false))

pub returns-then-len-most : goal.returns-then-len-most
returns-then-len-most c =
    let f = description c.args.self.now in
    let ids = c.args.ids.now in
    let many : c.args.most < length c.loop-id.sink.bytes = omega (arith, c.if-len-most.true, c.len.ensures) in
    sym (until_past c.args.most described_group.written c.loop-id.sink.bytes (map f (drop c.loop-id.id-index ids)) many) ∙ c.loop-id.invariant
    ∙ until_counted c.args.most described_group f c.args.sink.now.bytes c.put_count.new.self.bytes ids c.in_ok-put_count.ensures.ok

pub loop-id-preserved : goal.loop-id-preserved
loop-id-preserved c =
    let f = description c.args.self.now in
    let few : length c.loop-id.sink.bytes ≤ c.args.most = omega (arith, c.if-len-most.false, c.len.ensures) in
    until_next c.args.most described_group.written f c.loop-id.sink.bytes c.put_group.new.sink.bytes c.args.ids.now c.loop-id.id-index c.id-item.result few c.loop-id-test.true c.id-item.is
    (c.in_ok-put_group.ensures ∙ ap (λ x. c.loop-id.sink.bytes ++ described_group.written (f x)) c.as_str.ensures) ∙ c.loop-id.invariant

pub returns : goal.returns
returns c =
    let f = description c.args.self.now in
    let ids = c.args.ids.now in
    sym (until_over c.args.most described_group.written f c.loop-id.sink.bytes ids c.loop-id.id-index c.loop-id-test.false) ∙ c.loop-id.invariant
    ∙ until_counted c.args.most described_group f c.args.sink.now.bytes c.put_count.new.self.bytes ids c.in_ok-put_count.ensures.ok
