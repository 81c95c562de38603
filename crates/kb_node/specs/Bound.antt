-- Why an edge is not bound.
use Rattle.std.specs.Prelude.{Option, Some, None}
use Rattle.kb_node.specs.declared.doors.BindCause.{BindCause}
use Rattle.kb_node.specs.declared.doors.DoorFault.{DoorFault}
use Rattle.kb_node.specs.declared.doors.DoorFault.TheVariants as faults
use Rattle.kb_node.specs.declared.edge.BindFault.{BindFault}
use Rattle.kb_node.specs.declared.edge.BindFault.TheVariants.{Bind, Memory}

-- the address cannot be listened on, or memory was refused
abbrev pub bind_fault : DoorFault → BindFault
bind_fault (faults.Bind cause) = Bind
bind_fault faults.Memory = Memory

-- what stood in the way, where it was not memory
abbrev pub bind_cause : DoorFault → Option BindCause
bind_cause (faults.Bind cause) = Some cause
bind_cause faults.Memory = None
