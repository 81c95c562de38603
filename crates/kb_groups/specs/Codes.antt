-- Kafka's numbers of the codes (Kafka protocol guide, "Error Codes").
use Rattle.std.specs.Prelude.{ℤ}
use Rattle.kb_wire.specs.ErrorCode.{code_of}
use Rattle.kb_wire.specs.declared.error_code.ErrorCode.TheVariants as codes
use Rattle.kb_groups.specs.declared.code.Code.{Code}
use Rattle.kb_groups.specs.declared.code.Code.TheVariants.{Fine, IllegalGeneration, InconsistentGroupProtocol, UnknownMemberId}
use Rattle.kb_groups.specs.declared.code.Code.TheVariants.{InvalidSessionTimeout, RebalanceInProgress, GroupMaxSizeReached}

abbrev pub number : Code → ℤ
number Fine = code_of codes.None
number IllegalGeneration = code_of codes.IllegalGeneration
number InconsistentGroupProtocol = code_of codes.InconsistentGroupProtocol
number UnknownMemberId = code_of codes.UnknownMemberId
number InvalidSessionTimeout = code_of codes.InvalidSessionTimeout
number RebalanceInProgress = code_of codes.RebalanceInProgress
number GroupMaxSizeReached = code_of codes.GroupMaxSizeReached
