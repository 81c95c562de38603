use Rattle.std.proofs.Common.{◌≡◌, ◌∙◌, sym, ap, ◌++◌, length, map, w32, arith}
use Rattle.std.specs.List.{flat_map}
use Rattle.std.proofs.lemmas.List.{length-map}
use Rattle.kb_wire.specs.Codec.{count}
use Rattle.kb_api_group.specs.Layouts.{join_member}
use Rattle.kb_coordinator.specs.Replies.{listed}
use Rattle.kb_coordinator.proofs.Written.{small_count, write_next, write_over, written_both, array_written}
use Rattle.kb_coordinator.proofs.replies.put_members.Goals as goal

pub put_count-requires : goal.put_count-requires
put_count-requires c = small_count (length c.args.members.now) (omega (arith, c.if-members.false))

pub loop-member-preserved : goal.loop-member-preserved
loop-member-preserved c =
    write_next join_member.written listed c.loop-member.sink.bytes c.put_member.new.sink.bytes c.args.members.now c.loop-member.member-index c.member-item.result c.loop-member-test.true c.member-item.is c.in_ok-put_member.ensures ∙ c.loop-member.invariant

pub returns : goal.returns
returns c =
    let ms = c.args.members.now in
    let all : c.loop-member.sink.bytes ≡ c.put_count.new.self.bytes ++ flat_map join_member.written (map listed ms) = sym (write_over join_member.written listed c.loop-member.sink.bytes ms c.loop-member.member-index c.loop-member-test.false) ∙ c.loop-member.invariant in
    written_both c.args.sink.now.bytes c.put_count.new.self.bytes c.loop-member.sink.bytes ((count w32).written (length ms)) (flat_map join_member.written (map listed ms)) c.in_ok-put_count.ensures.ok all
    ∙ ap (λ x. c.args.sink.now.bytes ++ x) (array_written join_member (map listed ms) (length ms) (sym (length-map ms listed)))
