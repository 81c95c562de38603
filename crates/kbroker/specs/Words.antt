-- What the words of a command line say.
use Rattle.std.specs.Prelude.{◌≡◌, List, ℕ, Bool, true, false, Some, None, codes}
use Rattle.clap.specs.Matches.{one_text, found_of}
use Rattle.clap.specs.declared.parser.matches.ArgMatches.{ArgMatches}

-- a flag is set where the words name it, and else it is not
abbrev pub IsFlag : ArgMatches → List ℕ → Bool → Type 0
IsFlag found id flag = (one_text (found_of found) id ≡ None → flag ≡ false) × (one_text (found_of found) id ≡ Some (codes "true") → flag ≡ true)
    × (one_text (found_of found) id ≡ Some (codes "false") → flag ≡ false)
