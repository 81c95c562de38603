-- What a script came to.
use Rattle.std.proofs.Common.{◌≡◌, ℕ, List, Option, None, Some, IfSome, Result, Err, IfErr, subst}
use Rattle.kb_settings.specs.declared.settings.Settings.{Settings}
use Rattle.kb_isolation_spec.specs.Broker.{BrokerState}
use Rattle.kb_broker.specs.declared.opening.Listing.{Listing}
use Rattle.kb_broker.specs.Opening.{opening_over}
use Rattle.kb_node.specs.declared.fault.NodeFault.{NodeFault}
use Rattle.kbroker.specs.declared.Fault.{Fault}
use Rattle.kbroker.specs.Scripts.{IsCutShort, IsHaltedOn, IsOfScript, IsPlayedOn, IsPlayedOver}

-- it was played on a broker that opened by some settings
pub played_over : (left : Option (List ℕ)) (listing : Listing) (s : Settings) (b : BrokerState) (from to : Option (List ℕ))
    → b ≡ opening_over listing s b.tenants → IfSome left (λ text. IsPlayedOn b text from to) → IfSome left (λ text. IsPlayedOver listing s text from to)
played_over None listing s b from to is played = tt
played_over (Some text) listing s b from to is played = (b, is, played)

-- it ended with a fault
cut_known : (left : Option (List ℕ)) (b : BrokerState) (failures : ℕ) (told : NodeFault) (fault : Fault) (from to : Option (List ℕ))
    → IsOfScript failures told fault → IfSome left (λ text. IsHaltedOn b text told from to) → IfSome left (λ text. IsCutShort b text failures fault from to)
cut_known None b failures told fault from to is halted = tt
cut_known (Some text) b failures told fault from to is halted = (told, is, halted)

pub cut_short : {A : Type 0} (played : Result A NodeFault) (left : Option (List ℕ)) (b : BrokerState) (failures : ℕ) (told : NodeFault) (fault : Fault)
    (from to : Option (List ℕ)) → played ≡ Err told → IsOfScript failures told fault
    → IfErr played (λ e. IfSome left (λ text. IsHaltedOn b text e from to)) → IfSome left (λ text. IsCutShort b text failures fault from to)
cut_short played left b failures told fault from to was is halted =
    cut_known left b failures told fault from to is (subst (λ r. IfErr r (λ e. IfSome left (λ text. IsHaltedOn b text e from to))) was halted)
