use Rattle.std.proofs.Common.{◌≡◌, ◌∙◌, ◌+◌, ◌-◌, ap, sym, length, arith}
use Rattle.std.proofs.lemmas.Bool.{eqb-true}
use Rattle.kb_node.specs.Waiting.{behind}
use Rattle.kb_node.proofs.Goes.{goes_then}
use Rattle.kb_node.proofs.Waiting.{behind_done, behind_left, behind_next}
use Rattle.kb_node.proofs.edge.Edge.serve_short.Goals as goal

pub loop-preserved : goal.loop-preserved
loop-preserved g c =
    let i = c.loop.counter in let now = c.serve_next.ensures.lanes in (
      c.serve_next.ensures.commits,
      ap (λ l. behind (16 - (i + 1)) l.short) now ∙ behind_next 16 i c.loop.self.lanes.short c.loop-test.true ∙ c.loop.invariant.1,
      ap (λ l. l.long) now ∙ c.loop.invariant.2,
      ap (λ l. l.short_rounds) now ∙ c.loop.invariant.3,
      goes_then c.loop.invariant.4 c.serve_next.ensures.goes,
    )

pub returns-then-has_no_short-clause-lanes : goal.returns-then-has_no_short-clause-lanes
returns-then-has_no_short-clause-lanes g c =
    let none = eqb-true (length c.loop.self.lanes.short) 0 (sym c.if-has_no_short.ensures) in
    let short = behind_left 16 c.loop.counter c.loop.self.lanes.short _ c.loop.invariant.1 none in
    λ i. record { short = short i; long = c.loop.invariant.2 i; short_rounds = c.loop.invariant.3 i }

pub returns-after-loop-clause-lanes : goal.returns-after-loop-clause-lanes
returns-after-loop-clause-lanes g c =
    let short = behind_done 16 c.loop.counter c.loop.self.lanes.short _ c.loop.invariant.1 (omega (arith, c.loop-test.false)) in
    λ i. record { short = short i; long = c.loop.invariant.2 i; short_rounds = c.loop.invariant.3 i }
