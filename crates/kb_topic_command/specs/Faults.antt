-- What is told of a task that came to nothing.
use Rattle.std.specs.Prelude.{ℕ, List, ◌++◌, Some, None, codes, string_bytes}
use Rattle.kb_admin.specs.Faults as admin
use Rattle.kb_admin.specs.declared.fault.AdminFault.{AdminFault}
use Rattle.kb_admin.specs.declared.fault.AdminFault.TheVariants as broker
use Rattle.kb_topic_command.specs.declared.fault.TopicFault.{TopicFault}
use Rattle.kb_topic_command.specs.declared.fault.TopicFault.TheVariants.{Words, Memory, Connect, Silent, Admin, Write}

-- the text of a fault: behind what the broker answered stands what that says of what was asked
abbrev pub fault_text : TopicFault → List ℕ
fault_text (Words text) = text.now
fault_text Memory = codes "out of memory"
fault_text (Connect address) = codes "cannot connect to " ++ string_bytes address
fault_text Silent = codes "the broker closed the connection, or did not answer"
fault_text (Admin fault None) = admin.fault_text fault
fault_text (Admin fault (Some meaning)) = admin.fault_text fault ++ string_bytes meaning
fault_text Write = codes "write fault"

-- what a session's fault is to the one who asked for a task
abbrev pub of_admin : AdminFault → TopicFault
of_admin broker.Memory = Memory
of_admin (broker.Refused code) = Admin (broker.Refused code) None
of_admin broker.Protocol = Admin broker.Protocol None
