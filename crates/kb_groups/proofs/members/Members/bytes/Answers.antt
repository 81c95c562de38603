use Rattle.std.proofs.Common.{arith, sym, ap, ◌∙◌, true≢false}
use Rattle.kb_groups.specs.Bytes.{roster_bytes}
use Rattle.kb_groups.specs.Sizes.{counted}
use Rattle.kb_groups.proofs.Sizes.{roster_end, roster_go}
use Rattle.kb_groups.proofs.members.Members.bytes.Goals as goal
use Rattle.kb_groups.proofs.members.Members.bytes.Goals.{in-Some, in_default}

pub loop-i-preserved : goal.loop-i-preserved
loop-i-preserved c = elim c.match-get_index.branch [
  | in-Some w ↦ (
    roster_go c.loop-i.i c.self.inside.map.entries _ w.in-Some.member.now c.loop-i.bytes w.bytes.result c.match-get_index.bytes _ c.loop-i.invariant.0 w.in-Some.ensures.entry w.bytes.ensures (omega (arith, w.bytes-is, w.saturating_add-bytes.ensures)),
    omega (arith, w.bytes-is, w.saturating_add-bytes.ensures),
  )
  | in_default w ↦ absurd (true≢false (sym (w.in_default.ensures.found.1 (omega (arith, c.loop-i-test.true, c.len-i-end.ensures.len)))))
]

pub returns : goal.returns
returns c = roster_end c.loop-i.i c.self.inside.map.entries c.loop-i.bytes _ c.loop-i.invariant.0 (omega (arith, c.loop-i-test.false, c.len-i-end.ensures.len)) (omega (arith, c.loop-i.invariant.1)) ∙ ap (λ ms. counted (roster_bytes ms)) c.self.view_is
