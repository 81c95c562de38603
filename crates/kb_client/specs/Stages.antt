-- How a client ends.
use Rattle.std.specs.Prelude.{Option, None, Some}
use Rattle.kb_client.specs.declared.fault.ClientFault.{ClientFault}
use Rattle.kb_client.specs.declared.fault.ClientFault.TheVariants as faults
use Rattle.kb_client.specs.declared.stage.Ending.{Ending}
use Rattle.kb_client.specs.declared.stage.Ending.TheVariants as endings
use Rattle.kb_client.specs.declared.stage.Stage.{Stage}
use Rattle.kb_client.specs.declared.stage.Stage.TheVariants as stages

abbrev pub ending_fault : Ending → ClientFault
ending_fault endings.Denied = faults.Denied
ending_fault (endings.Code code) = faults.Code code
ending_fault endings.Protocol = faults.Protocol

-- the fault that stands for good
abbrev pub fault_of : Stage → Option ClientFault
fault_of stages.Closed = None
fault_of stages.Handshake = None
fault_of stages.Authenticate = None
fault_of (stages.Create partitions) = None
fault_of stages.Identify = None
fault_of (stages.Produce producer) = None
fault_of (stages.Ended ending) = Some (ending_fault ending)
