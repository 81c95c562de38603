-- What is printed of a task, by what the broker answered.
use Rattle.std.specs.Prelude.{ℕ, ℤ, pos, List, [], ◌++◌, codes, decimal, if◌then◌else◌}
use Rattle.std.specs.Fmt.{signed_decimal}
use Rattle.std.specs.List.{flat_map}
use Rattle.std.specs.Ordering.{int_eq}
use Rattle.kb_admin.specs.declared.session.Heard.{Heard}
use Rattle.kb_admin.specs.declared.session.Heard.TheVariants as hears
use Rattle.kb_admin.specs.declared.task.Task.{Task}
use Rattle.kb_admin.specs.declared.task.Task.TheVariants as tasks
use Rattle.kb_admin.specs.declared.fault.AdminFault.TheVariants.{Refused}
use Rattle.kb_admin.specs.Outcomes.{Topic}
use Rattle.kb_admin.specs.Faults as admin

-- the line of a topic that was made
abbrev pub made_line : List ℕ → ℤ → List ℕ
made_line name partitions = codes "made " ++ name ++ codes ", partitions: " ++ signed_decimal partitions ++ codes "\n"

-- the line of a task that was done; a list has none, whose topics are printed
abbrev pub done_text : Task → List ℕ
done_text (tasks.Create topic) = made_line topic.name topic.partitions
done_text (tasks.Delete name) = codes "deleted " ++ name ++ codes "\n"
done_text tasks.List = []

-- what a topic has: how many partitions, or the error
abbrev pub topic_has : Topic → List ℕ
topic_has topic = if int_eq topic.error_code (pos 0) then decimal topic.partitions else admin.fault_text (Refused topic.error_code)

-- the line of a topic
abbrev pub topic_line : Topic → List ℕ
topic_line topic = topic.name ++ codes " " ++ topic_has topic ++ codes "\n"

-- The text of an answer: a line for each topic, in the answer's order, or the line of what was done.
abbrev pub answer_text : Task → Heard → List ℕ
answer_text task (hears.Topics topics) = flat_map topic_line topics
answer_text task hears.Done = done_text task
answer_text task hears.More = []
answer_text task hears.Next = []
