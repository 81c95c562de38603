use Rattle.std.proofs.Common.{◌≡◌, ◌++◌, drop}
use Rattle.std.specs.List.{flat_map}
use Rattle.kbroker.specs.Found.{left_of, HaveLengths}
use Rattle.kbroker.proofs.open.files_left.Given as goal

-- those so far, and those of the files that are left
abbrev pub invariant-loop-file : goal.invariant-loop-file
invariant-loop-file g l =
    let told = left_of (g.S.Store.disk l.store).table l.deleted in
    HaveLengths (g.S.PutsOff.inside l.store).table l.before
    → l.files.items ++ flat_map told (drop l.file-index l.before) ≡ flat_map told l.before
