-- What the calls that make a command come to.
use Rattle.std.proofs.Common.{◌≡◌, ◌∙◌, List, [], ◌∷◌, Some, ap, true, false}
use Rattle.std.specs.Prelude.{fold}
use Rattle.clap.specs.Words.{App, Rule, Text, app_of, new_app, rule_of, with_rule}
use Rattle.clap.specs.declared.builder.action.ArgAction.TheVariants.{Append}
use Rattle.clap.specs.declared.builder.arg.Arg.{Arg}
use Rattle.clap.specs.declared.builder.command.Command.{Command}
use Rattle.clap.specs.declared.builder.command.Command.TheViews.{out-Command}
use Rattle.kb_topic_command.specs.Usage.{AddsRules, IsArg, needed, option, or_else, repeated}

-- `text(..).required(true)`
pub required_is : (a b : Arg) (name : Text) → IsArg a (option name) → b ≡ record a { required = true } → IsArg b (needed name)
required_is a b name h e =
    (ap rule_of e ∙ ap (λ (r : Rule). record r { required = true }) h.0, ap (λ (x : Arg). x.global) e ∙ h.1)

-- `text(..).default_value(value)`
pub default_is : (a b : Arg) (name value : Text) → IsArg a (option name) → rule_of b ≡ record (rule_of a) { defaults = value ∷ [] } → b.global ≡ a.global
    → IsArg b (or_else name value)
default_is a b name value h rule global = (rule ∙ ap (λ (r : Rule). record r { defaults = value ∷ [] }) h.0, global ∙ h.1)

-- `text(..).action(ArgAction::Append)`
pub repeated_is : (a b : Arg) (name : Text) → IsArg a (option name) → b ≡ record a { action = Some Append } → IsArg b (repeated name)
repeated_is a b name h e =
    (ap rule_of e ∙ ap (λ (r : Rule). record r { action = Some Append }) h.0, ap (λ (x : Arg). x.global) e ∙ h.1)

-- a command is read so, and has no global argument
abbrev pub IsApp : Command → App → Type 0
IsApp command app = (app_of command ≡ app) × ((out-Command command).has_globals ≡ false)

-- more arguments behind those that were added
pub added : (old mid new : Command) (xs ys : List Rule) → AddsRules old xs mid → AddsRules mid ys new
    → (app_of new ≡ fold with_rule (fold with_rule (app_of old) xs) ys) × ((out-Command new).has_globals ≡ (out-Command old).has_globals)
added old mid new xs ys first second = (second.0 ∙ ap (λ (a : App). fold with_rule a ys) first.0, second.1 ∙ first.1)

-- the same where the command is known
pub grown : (old new : Command) (app : App) (rules : List Rule) → IsApp old app → AddsRules old rules new → IsApp new (fold with_rule app rules)
grown old new app rules is adds = (adds.0 ∙ ap (λ (a : App). fold with_rule a rules) is.0, adds.1 ∙ is.1)

-- `Command::new(alloc, name).about(..)`
pub begun : (fresh command : Command) (name : Text) → app_of fresh ≡ new_app name → (out-Command fresh).has_globals ≡ false
    → app_of command ≡ app_of fresh → (out-Command command).has_globals ≡ (out-Command fresh).has_globals → IsApp command (new_app name)
begun fresh command name app local same globals = (same ∙ app, globals ∙ local)
