-- What may stand on a command line, in clap's words.
use Rattle.std.specs.Prelude.{◌≡◌, ◌++◌, List, [], ◌∷◌, true, false, Some, codes, fold}
use Rattle.clap.specs.Words.{App, Rule, Shape, Text, app_of, new_rule, rule_of, with_rule}
use Rattle.clap.specs.Simple.{new_shape}
use Rattle.clap.specs.declared.builder.action.ArgAction.TheVariants.{Set, SetTrue}
use Rattle.clap.specs.declared.builder.arg.Arg.{Arg}
use Rattle.clap.specs.declared.builder.command.Command.{Command}
use Rattle.clap.specs.declared.builder.command.Command.TheViews.{out-Command}

-- `--name VALUE`, or nothing
abbrev pub option : Text → Rule
option name = record (new_rule name) { long = Some name; action = Some Set; value_names = 1 }

-- `--name VALUE`, which has to be there
abbrev pub needed : Text → Rule
needed name = record (option name) { required = true }

-- `--name VALUE`, and where it is not there this value
abbrev pub or_else : Text → Text → Rule
or_else name value = record (option name) { defaults = value ∷ [] }

-- `--name`, or nothing
abbrev pub flag : Text → Rule
flag name = record (new_rule name) { long = Some name; action = Some SetTrue }

-- of which broker, as whom, and of which partition
abbrev pub partition_rules : List Rule
partition_rules = needed (codes "broker") ∷ needed (codes "user") ∷ needed (codes "password")
    ∷ needed (codes "topic") ∷ or_else (codes "partition") (codes "0") ∷ or_else (codes "retries") (codes "3") ∷ []

-- `kconsole produce`
abbrev pub produce : Shape
produce = record (new_shape (codes "produce")) { rules = partition_rules ++ option (codes "create") ∷ [] }

-- `kconsole consume`
abbrev pub consume : Shape
consume = record (new_shape (codes "consume")) {
  rules = partition_rules ++ or_else (codes "from") (codes "0") ∷ option (codes "max") ∷ flag (codes "follow") ∷ [];
}

-- `kconsole`, which wants one of the two
abbrev pub console : App
console = record {
  top = record (new_shape (codes "kconsole")) { is_leaf = false; has_version = true; subcommand_required = true };
  subs = produce ∷ consume ∷ [];
}

-- an argument is read so, and is of its command alone
abbrev pub IsArg : Arg → Rule → Type 0
IsArg arg rule = (rule_of arg ≡ rule) × (arg.global ≡ false)

-- a command has these arguments more
abbrev pub AddsRules : Command → List Rule → Command → Type 0
AddsRules old rules new =
    (app_of new ≡ fold with_rule (app_of old) rules) × ((out-Command new).has_globals ≡ (out-Command old).has_globals)

-- a subcommand is read so, and its arguments are its own
abbrev pub IsSubcommand : Command → Shape → Type 0
IsSubcommand command shape =
    (app_of command ≡ record { top = shape; subs = [] }) × ((out-Command command).has_globals ≡ false)
