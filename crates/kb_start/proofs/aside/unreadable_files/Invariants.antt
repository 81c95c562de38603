use Rattle.std.proofs.Common.{◌≡◌, ◌++◌, drop}
use Rattle.kb_start.specs.Aside.{unreadable_among}
use Rattle.kb_start.proofs.aside.unreadable_files.Given as goal

-- those so far, and those of the losses that are left
abbrev pub invariant-loop-loss : goal.invariant-loop-loss
invariant-loop-loss l = l.files.items ++ unreadable_among (drop l.loss-index l.losses) ≡ unreadable_among l.losses
