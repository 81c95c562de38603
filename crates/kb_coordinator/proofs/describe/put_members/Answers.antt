use Rattle.std.proofs.Common.{◌≡◌, ◌∙◌, sym, ap, ◌++◌, length, map, option_copied, w32, arith, true≢false}
use Rattle.std.specs.List.{flat_map}
use Rattle.std.proofs.lemmas.List.{length-map}
use Rattle.kb_wire.specs.Codec.{count}
use Rattle.kb_api_group.specs.Layouts.{described_member}
use Rattle.kb_coordinator.specs.Tools.{member_told}
use Rattle.kb_coordinator.proofs.Told.{write_at}
use Rattle.kb_coordinator.proofs.Written.{small_count, write_over, written_both, array_written}
use Rattle.kb_coordinator.proofs.describe.put_members.Goals as goal
use Rattle.kb_coordinator.proofs.describe.put_members.Goals.{in-Some+in_ok-put_member, in_default}

pub put_count-requires : goal.put_count-requires
put_count-requires c = small_count c.len-2.result (omega (arith, c.if-len.false, c.len.ensures, c.len-2.ensures))

pub loop-i-preserved : goal.loop-i-preserved
loop-i-preserved c = elim c.match-get.branch [
  | in-Some+in_ok-put_member w ↦ write_at described_member.written (member_told (option_copied c.args.protocol)) c.loop-i.sink.bytes c.match-get.sink.bytes c.args.members.now c.loop-i.i (w.in-Some.number.now, w.in-Some.member.now) (sym w.in-Some.ensures.entry) (ap (λ s. s.bytes) w.sink-is ∙ w.in_ok-put_member.ensures) ∙ c.loop-i.invariant
  | in_default w ↦ absurd (true≢false (sym (w.in_default.ensures.found.1 (omega (arith, c.loop-i-test.true, c.len-i-end.ensures)))))
]

pub returns : goal.returns
returns c =
    let told = member_told (option_copied c.args.protocol) in
    let ms = c.args.members.now in
    let all : c.loop-i.sink.bytes ≡ c.put_count.new.self.bytes ++ flat_map described_member.written (map told ms) = sym (write_over described_member.written told c.loop-i.sink.bytes ms c.loop-i.i (omega (arith, c.loop-i-test.false, c.len-i-end.ensures))) ∙ c.loop-i.invariant in
    written_both c.args.sink.now.bytes c.put_count.new.self.bytes c.loop-i.sink.bytes ((count w32).written (length ms)) (flat_map described_member.written (map told ms)) (c.in_ok-put_count.ensures.ok ∙ ap (λ n. c.args.sink.now.bytes ++ (count w32).written n) c.len-2.ensures) all
    ∙ ap (λ x. c.args.sink.now.bytes ++ x) (array_written described_member (map told ms) (length ms) (sym (length-map ms told)))
