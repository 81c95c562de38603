-- Which script is played on which broker, and how it ends for the program.
use Rattle.std.specs.Prelude.{◌≡◌, ◌<◌, ℕ, List, Option, Some, None}
use Rattle.kb_settings.specs.declared.settings.Settings.{Settings}
use Rattle.kb_isolation_spec.specs.Broker.{BrokerState}
use Rattle.kb_broker.specs.declared.opening.Listing.{Listing}
use Rattle.kb_broker.specs.declared.script.ScriptFault.TheVariants as script_faults
use Rattle.kb_broker.specs.Opening.{opening, opening_over}
use Rattle.kb_broker.specs.Script.{script}
use Rattle.kb_broker.specs.ScriptRun.{IsPlayed}
use Rattle.kb_node.specs.Node.{standard_broker, IsHalted}
use Rattle.kb_node.specs.declared.fault.NodeFault.{NodeFault}
use Rattle.kb_node.specs.declared.fault.NodeFault.TheVariants as nodes
use Rattle.kbroker.specs.declared.Fault.{Fault}
use Rattle.kbroker.specs.declared.Fault.TheVariants.{Words, Operator, Node, Topic, Tenant, NoFolder, Ids, Streams}

-- the broker that keeps nothing: that of the settings, or else the standard one
abbrev pub broker_in_memory : Option Settings → BrokerState
broker_in_memory None = standard_broker
broker_in_memory (Some settings) = opening settings

-- a text was played, and all that the broker said was written
abbrev pub IsPlayedOn : BrokerState → List ℕ → Option (List ℕ) → Option (List ℕ) → Type 0
IsPlayedOn b text from to = IsPlayed b (script b text) from to

-- it was played on a broker that opened by those settings, with what its folder had
abbrev pub IsPlayedOver : Listing → Settings → List ℕ → Option (List ℕ) → Option (List ℕ) → Type 0
IsPlayedOver listing settings text from to = (b : BrokerState) × (b ≡ opening_over listing settings b.tenants) × IsPlayedOn b text from to

-- it ended with that fault
abbrev pub IsHaltedOn : BrokerState → List ℕ → NodeFault → Option (List ℕ) → Option (List ℕ) → Type 0
IsHaltedOn b text fault from to = IsHalted b (script b text) fault from to

-- what a script's fault is to the program: the folder's, where there was no memory and its store has refused so many calls
abbrev pub IsOfScript : ℕ → NodeFault → Fault → Type 0
IsOfScript failures fault (Node told) = (told ≡ fault) × (fault ≡ nodes.Script script_faults.Memory → failures ≡ 0)
IsOfScript failures fault (Operator told) = (fault ≡ nodes.Script script_faults.Memory) × (0 < failures)
IsOfScript failures fault (Words told) = ⊥
IsOfScript failures fault (Topic told) = ⊥
IsOfScript failures fault (Tenant told) = ⊥
IsOfScript failures fault (NoFolder path) = ⊥
IsOfScript failures fault (Ids why) = ⊥
IsOfScript failures fault (Streams error) = ⊥

-- a text ended with a fault that is this one to the program
abbrev pub IsCutShort : BrokerState → List ℕ → ℕ → Fault → Option (List ℕ) → Option (List ℕ) → Type 0
IsCutShort b text failures fault from to = (told : NodeFault) × IsOfScript failures told fault × IsHaltedOn b text told from to
