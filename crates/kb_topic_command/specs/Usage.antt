-- What may stand behind `topic` on a command line, in clap's words.
use Rattle.std.specs.Prelude.{◌≡◌, ◌++◌, List, [], ◌∷◌, true, false, Some, codes, fold}
use Rattle.clap.specs.Words.{App, Rule, Shape, Text, app_of, new_rule, rule_of, with_rule}
use Rattle.clap.specs.Simple.{new_shape}
use Rattle.clap.specs.declared.builder.action.ArgAction.TheVariants.{Set, Append}
use Rattle.clap.specs.declared.builder.arg.Arg.{Arg}
use Rattle.clap.specs.declared.builder.command.Command.{Command}
use Rattle.clap.specs.declared.builder.command.Command.TheViews.{out-Command}

-- `--name VALUE`, or nothing
abbrev pub option : Text → Rule
option name = record (new_rule name) { long = Some name; action = Some Set; value_names = 1 }

-- `--name VALUE`, which has to be there
abbrev pub needed : Text → Rule
needed name = record (option name) { required = true }

-- `--name VALUE`, and where it is not there this value
abbrev pub or_else : Text → Text → Rule
or_else name value = record (option name) { defaults = value ∷ [] }

-- `--name VALUE`, as often as one likes
abbrev pub repeated : Text → Rule
repeated name = record (option name) { action = Some Append }

-- the topic's name, which has to be there
abbrev pub topic_name : Rule
topic_name = record (new_rule (codes "name")) { action = Some Set; value_names = 1; required = true }

-- of which broker, as whom
abbrev pub broker_rules : List Rule
broker_rules = needed (codes "broker") ∷ needed (codes "user") ∷ needed (codes "password") ∷ []

-- `topic create`: one partition where no number is said
abbrev pub create : Shape
create = record (new_shape (codes "create")) {
  rules = broker_rules ++ topic_name ∷ or_else (codes "partitions") (codes "1") ∷ repeated (codes "config") ∷ [];
}

-- `topic delete`
abbrev pub delete : Shape
delete = record (new_shape (codes "delete")) { rules = broker_rules ++ topic_name ∷ [] }

-- `topic list`
abbrev pub list : Shape
list = record (new_shape (codes "list")) { rules = broker_rules }

-- `topic`, which wants one of the three
abbrev pub topic : App
topic = record {
  top = record (new_shape (codes "topic")) { is_leaf = false; subcommand_required = true };
  subs = create ∷ delete ∷ list ∷ [];
}

-- an argument is read so, and is of its command alone
abbrev pub IsArg : Arg → Rule → Type 0
IsArg arg rule = (rule_of arg ≡ rule) × (arg.global ≡ false)

-- a command has these arguments more
abbrev pub AddsRules : Command → List Rule → Command → Type 0
AddsRules old rules new =
    (app_of new ≡ fold with_rule (app_of old) rules) × ((out-Command new).has_globals ≡ (out-Command old).has_globals)

-- a subcommand is read so, and its arguments are its own
abbrev pub IsSubcommand : Command → Shape → Type 0
IsSubcommand command shape =
    (app_of command ≡ record { top = shape; subs = [] }) × ((out-Command command).has_globals ≡ false)
