use Rattle.std.proofs.Common.{ap, ◌∙◌, not}
use Rattle.std.specs.Prelude.{◌&&◌}
use Rattle.kb_waits.specs.Waiters.{has, is_one}
use Rattle.kb_waits.proofs.Waiting.{has_none-more}
use Rattle.kb_waits.proofs.waiters.Waiters.remove_all.Goals as goal

pub loop-key-preserved : goal.loop-key-preserved
loop-key-preserved c = λ k n.
    c.remove.ensures k n
    ∙ ap (λ b. not (is_one c.key-item.result c.args.connection k n) && b) (c.loop-key.invariant k n)
    ∙ has_none-more c.args.keys.now c.loop-key.key-index c.key-item.result c.args.connection k n (has c.args.self.now k n) c.loop-key-test.true c.key-item.is
