use Rattle.std.proofs.Common.{◌≡◌, ◌≤◌, ◌++◌, drop}
use Rattle.std.specs.FinMap.{keys}
use Rattle.kb_store.specs.Disk.{Keeps}
use Rattle.kb_start.specs.Survey.{known_of, stray_losses, unfit_after}
use Rattle.kb_start.proofs.losses.add_strays.Given as goal

-- the losses so far and those of the files that are left, and how many files are in the way with these
abbrev pub invariant-loop-file : goal.invariant-loop-file
invariant-loop-file g l =
    let old = g.S.Store.disk l.fn.store in
    let now = g.S.Store.disk l.store in
    let known = known_of l.opened in
    let nexts = l.opened.next_instances.now in
    record {
      listed : l.listed ≡ keys now.table;
      unchanged : Keeps old now;
      later : old.failures ≤ now.failures;
      told : now.honest → l.survey.losses.items ++ stray_losses known l.used old nexts (drop l.file-index l.opened.strays.now)
          ≡ l.initial.survey.losses.items ++ stray_losses known l.used old nexts l.opened.strays.now;
      counted : now.honest → unfit_after old known.names nexts l.survey.strays.unfit (drop l.file-index l.opened.strays.now)
          ≡ unfit_after old known.names nexts l.initial.survey.strays.unfit l.opened.strays.now;
    }
