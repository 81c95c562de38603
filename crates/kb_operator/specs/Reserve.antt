-- What is told of the file that keeps some room of the disk for catalogs.
use Rattle.std.specs.Prelude.{◌++◌, ℕ, List, codes, decimal, nat_lt, if◌then◌else◌, Option, Some, None}

-- it has fewer bytes than it should, in the folder at a path
abbrev pub reserve_text : List ℕ → ℕ → Option (List ℕ)
reserve_text path has =
    if nat_lt has 4194304
    then Some (codes "the reserve " ++ (path ++ (codes "/reserve has " ++ (decimal has ++ codes " of 4194304 bytes: the disk has no room for it. Free some, and start again: without it a full disk refuses topics and offsets, too"))))
    else None
