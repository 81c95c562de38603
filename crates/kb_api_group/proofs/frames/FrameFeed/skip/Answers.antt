use Rattle.std.proofs.Common.{◌+◌, ◌≤◌, ◌∙◌, length, rules, arith}
use Rattle.kb_api_group.proofs.Fronts.{is_skipped, skipped-within, skipped-behind}
use Rattle.kb_api_group.proofs.frames.FrameFeed.skip.Goals as goal

pub overflow_add-self-2 : goal.overflow_add-self-2
overflow_add-self-2 c =
    let k = is_skipped c.args.limit c.args.self.now c.in-Frame.frame c.in-Frame.ensures in
    let within : c.self.inside.start + (4 + length c.as_slice.result.now) ≤ length c.self.inside.bytes.items = skipped-within c.args.limit _ _ _ c.as_slice.result.now c.self.inside.start c.self.view_is (omega (arith, c.self.invariant.0)) c.as_slice.ensures k in
    search rules

pub make_room-self-inside-requires : goal.make_room-self-inside-requires
make_room-self-inside-requires c =
    let k = is_skipped c.args.limit c.args.self.now c.in-Frame.frame c.in-Frame.ensures in
    let within : c.self.inside.start + (4 + length c.as_slice.result.now) ≤ length c.self.inside.bytes.items = skipped-within c.args.limit _ _ _ c.as_slice.result.now c.self.inside.start c.self.view_is (omega (arith, c.self.invariant.0)) c.as_slice.ensures k in
    search rules

pub returns : goal.returns
returns c = c.make_room-self-inside.ensures.unread ∙ skipped-behind c.args.limit _ _ _ c.as_slice.result.now c.self.inside.start c.self.view_is c.as_slice.ensures (is_skipped c.args.limit c.args.self.now c.in-Frame.frame c.in-Frame.ensures)
