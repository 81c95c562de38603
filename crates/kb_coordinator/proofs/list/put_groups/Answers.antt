use Rattle.std.proofs.Common.{◌≤◌, ◌<◌, ◌∙◌, sym, length, map, drop, arith}
use Rattle.kb_api_group.specs.Layouts.{listed_group}
use Rattle.kb_coordinator.specs.Tools.{listed}
use Rattle.kb_coordinator.proofs.Until.{until_counted, until_next, until_over, until_past}
use Rattle.kb_coordinator.proofs.Written.{small_count}
use Rattle.kb_coordinator.proofs.list.put_groups.Goals as goal

pub put_count-requires : goal.put_count-requires
put_count-requires c = small_count (length c.args.groups.now) (omega (arith, c.if-groups.false))

pub returns-then-len-most : goal.returns-then-len-most
returns-then-len-most c =
    let es = c.args.groups.now in
    let many : c.args.most < length c.loop-entry.sink.bytes = omega (arith, c.if-len-most.true, c.len.ensures) in
    sym (until_past c.args.most listed_group.written c.loop-entry.sink.bytes (map listed (drop c.loop-entry.entry-index es)) many) ∙ c.loop-entry.invariant
    ∙ until_counted c.args.most listed_group listed c.args.sink.now.bytes c.put_count.new.self.bytes es c.in_ok-put_count.ensures.ok

pub loop-entry-preserved : goal.loop-entry-preserved
loop-entry-preserved c =
    let few : length c.loop-entry.sink.bytes ≤ c.args.most = omega (arith, c.if-len-most.false, c.len.ensures) in
    until_next c.args.most listed_group.written listed c.loop-entry.sink.bytes c.put_group.new.sink.bytes c.args.groups.now c.loop-entry.entry-index c.entry-item.result few c.loop-entry-test.true c.entry-item.is c.in_ok-put_group.ensures ∙ c.loop-entry.invariant

pub returns : goal.returns
returns c =
    let es = c.args.groups.now in
    sym (until_over c.args.most listed_group.written listed c.loop-entry.sink.bytes es c.loop-entry.entry-index c.loop-entry-test.false) ∙ c.loop-entry.invariant
    ∙ until_counted c.args.most listed_group listed c.args.sink.now.bytes c.put_count.new.self.bytes es c.in_ok-put_count.ensures.ok
