-- What the words behind `topic` ask for, by the values that `clap` matched to their names, and what may be wrong with them.
use Rattle.std.specs.Prelude.{◌≡◌, ◌≤◌, ◌<◌, ◌⊎◌, ℕ, pos, List, [], ◌∷◌, length, Some, None, codes, unwrap_or}
use Rattle.std.specs.List.{Any}
use Rattle.std.specs.Str.Parse.{IsNumeral, digits_value, without_leading_plus}
use Rattle.clap.specs.Words.{Row, Text, all_of, first_of}
use Rattle.kb_admin.specs.Session.{Session, new_admin_session}
use Rattle.kb_admin.specs.Settings.{SaysSetting}
use Rattle.kb_admin.specs.declared.task.Setting.{Setting}
use Rattle.kb_admin.specs.declared.task.Task.{Task}
use Rattle.kb_admin.specs.declared.task.Task.TheVariants as tasks
use Rattle.kb_topic_command.specs.declared.fault.TopicFault.{TopicFault}
use Rattle.kb_topic_command.specs.declared.fault.TopicFault.TheVariants as faults

-- the value of a name, or an empty one
abbrev pub text_for : List Row → Text → Text
text_for rows name = unwrap_or (first_of name rows) []

-- all values of a name, in the order of the words
abbrev pub texts_for : List Row → Text → List Text
texts_for rows name = unwrap_or (all_of name rows) []

-- the number that a text writes in decimal digits
abbrev pub written_number : Text → ℕ
written_number text = digits_value 10 (without_leading_plus text)

-- it writes one, of at most 31 bits
abbrev pub IsCount : Text → Type 0
IsCount text = IsNumeral 10 (without_leading_plus text) × (written_number text ≤ 2147483647)

-- a setting for each text, in order
abbrev pub AreSaid : List Text → List Setting → Type 0
AreSaid [] [] = Unit {0}
AreSaid [] (s ∷ ss) = ⊥
AreSaid (t ∷ ts) [] = ⊥
AreSaid (t ∷ ts) (s ∷ ss) = SaysSetting t (Some s) × AreSaid ts ss

-- What a subcommand asks for: a topic of that name with so many partitions and just those settings, no topic of that name, or all topics.
abbrev pub Asks : Text → List Row → Task → Type 0
Asks verb rows (tasks.Create topic) = (verb ≡ codes "create") × (topic.name ≡ text_for rows (codes "name"))
    × IsCount (text_for rows (codes "partitions")) × (topic.partitions ≡ pos (written_number (text_for rows (codes "partitions"))))
    × AreSaid (texts_for rows (codes "config")) topic.settings.items
Asks verb rows (tasks.Delete name) = (verb ≡ codes "delete") × (name ≡ text_for rows (codes "name"))
Asks verb rows tasks.List = (verb ≡ codes "create" → ⊥) × (verb ≡ codes "delete" → ⊥)

-- the client that does that: of the user and with the password of the words
abbrev pub AsksBy : Text → List Row → Session → Type 0
AsksBy verb rows s = Asks verb rows s.task × (s ≡ new_admin_session (text_for rows (codes "user")) (text_for rows (codes "password")) s.task)

-- ---- wrong words, each with what is told of them

-- a text that is too long
abbrev pub IsLong : Text → Text → Type 0
IsLong text message = (255 < length text) × (message ≡ codes "a text has more than 255 bytes")

-- no number of partitions
abbrev pub IsNoCount : Text → Text → Type 0
IsNoCount text message = (IsCount text → ⊥) × (message ≡ codes "--partitions is no number, or too large")

-- a text among the settings that says none
abbrev pub IsNoSetting : Text → Text → Type 0
IsNoSetting text message = SaysSetting text None × (message ≡ codes "--config is no KEY=VALUE, or has more than 255 bytes")

abbrev pub HasNoSetting : List Text → Text → Type 0
HasNoSetting texts message = Any (λ text. IsNoSetting text message) texts

-- what is wrong with the words of a topic that is to be made
abbrev pub IsWrongTopic : List Row → Text → Type 0
IsWrongTopic rows message = IsLong (text_for rows (codes "name")) message
    ⊎ (IsNoCount (text_for rows (codes "partitions")) message ⊎ HasNoSetting (texts_for rows (codes "config")) message)

-- what is wrong with the words of a task
abbrev pub IsWrongTask : Text → List Row → Text → Type 0
IsWrongTask verb rows message = ((verb ≡ codes "create") × IsWrongTopic rows message)
    ⊎ ((verb ≡ codes "delete") × IsLong (text_for rows (codes "name")) message)

-- What is wrong with the words of a subcommand.
abbrev pub IsWrong : Text → List Row → Text → Type 0
IsWrong verb rows message = IsWrongTask verb rows message
    ⊎ (IsLong (text_for rows (codes "user")) message ⊎ IsLong (text_for rows (codes "password")) message)

-- the fault tells what is wrong with the words, or memory ran out
abbrev pub BlamesWords : (Text → Type 0) → TopicFault → Type 0
BlamesWords Wrong (faults.Words message) = Wrong message.now
BlamesWords Wrong faults.Memory = Unit {0}
BlamesWords Wrong (faults.Connect why) = ⊥
BlamesWords Wrong faults.Silent = ⊥
BlamesWords Wrong (faults.Admin fault meaning) = ⊥
BlamesWords Wrong faults.Write = ⊥
