use Rattle.std.proofs.Common.{◌≡◌, ◌≤◌, ◌++◌, drop}
use Rattle.std.specs.FinMap.{keys}
use Rattle.kb_store.specs.Disk.{Keeps}
use Rattle.kb_start.specs.Aside.{in_way_among}
use Rattle.kb_start.specs.Survey.{known_of}
use Rattle.kb_start.proofs.aside.add_in_way.Given as goal

-- those so far, and those of the files that are left
abbrev pub invariant-loop-file : goal.invariant-loop-file
invariant-loop-file g l =
    let old = g.S.Store.disk l.fn.store in
    let now = g.S.Store.disk l.store in
    let known = known_of l.opened in
    let nexts = l.opened.next_instances.now in
    record {
      listed : l.listed ≡ keys now.table;
      unchanged : Keeps old now;
      later : old.failures ≤ now.failures;
      told : now.honest → l.files.items ++ in_way_among old known.names nexts (drop l.file-index l.opened.strays.now)
          ≡ l.initial.files.items ++ in_way_among old known.names nexts l.opened.strays.now;
    }
