use Rattle.std.proofs.Common.{sym, ap, ◌∙◌, not}
use Rattle.std.specs.Prelude.{◌&&◌, ◌||◌}
use Rattle.kb_waits.specs.Waiters.{has, is_one, is_one_of}
use Rattle.kb_waits.proofs.Queues.{tied_same}
use Rattle.kb_waits.proofs.Waiting.{has_all-more, has_all-undone}
use Rattle.kb_waits.proofs.waiters.Waiters.add_all.Goals as goal

pub returns-in-Err-clause-refused : goal.returns-in-Err-clause-refused
returns-in-Err-clause-refused c = λ k n.
    c.remove_all.ensures k n
    ∙ ap (λ b. not (is_one_of c.args.keys.now c.args.connection k n) && b) (c.in-Err.ensures.refused k n ∙ c.loop-key.invariant k n)
    ∙ has_all-undone c.args.keys.now c.loop-key.key-index c.args.connection k n (has c.args.self.now k n) (λ t. ap (has c.args.self.now k) (sym (tied_same c.args.connection n t)) ∙ c.requires k)

pub loop-key-preserved : goal.loop-key-preserved
loop-key-preserved c = λ k n.
    c.in-Ok.ensures.added k n
    ∙ ap (λ b. is_one c.key-item.result c.args.connection k n || b) (c.loop-key.invariant k n)
    ∙ has_all-more c.args.keys.now c.loop-key.key-index c.key-item.result c.args.connection k n (has c.args.self.now k n) c.loop-key-test.true c.key-item.is
