-- What a program of the broker writes.
use Rattle.std.specs.Prelude.{◌≡◌, ◌⊎◌, ℕ, List, [], ◌∷◌, codes, Option, None, Some, Result, Err}
use Rattle.std.specs.Io.KnownBytes.{Keeps}
use Rattle.kb_tenant_api.specs.Hosted.{new_tenant}
use Rattle.kb_tenant.specs.declared.node.Node.{Node}
use Rattle.kb_isolation_spec.specs.Broker.{BrokerState}
use Rattle.kb_broker.specs.declared.script.ScriptFault.{ScriptFault}
use Rattle.kb_broker.specs.Opening.{served_versions}
use Rattle.kb_broker.specs.Script.{Script, script}
use Rattle.kb_broker.specs.ScriptRun.{IsPlayed, IsEnded, IsStopped}
use Rattle.kb_node.specs.declared.fault.NodeFault.{NodeFault}
use Rattle.kb_node.specs.declared.fault.NodeFault.TheVariants as faults

-- 1. The broker of the standard settings

-- of every tenant clients are told localhost and port 9092, and no more than 1,000,000 offsets are kept, of 67,108,864 bytes of texts
abbrev pub standard_node : Node
standard_node = record {
  host = codes "localhost";
  port = 9092;
  limits = record {
    topics = None;
    partitions = None;
    offsets = Some 1000000;
    group_bytes = Some 67108864;
    bytes = None;
    request_entries = None;
    fetch_bytes = None;
    reply_bytes = None;
  };
}

-- the tenants a and b, which keep nothing, with a user each; nobody is connected, and no time has passed
abbrev pub standard_broker : BrokerState
standard_broker = record {
  setup = record {
    versions = served_versions;
    users = record { name = codes "ann"; password = codes "pw1"; tenant = 0 } ∷ record {
      name = codes "bob";
      password = codes "pw2";
      tenant = 1;
    } ∷ [];
    nodes = standard_node ∷ standard_node ∷ [];
    node = standard_node;
    request_bytes = 2097152;
  };
  tenants = new_tenant (codes "a") ∷ new_tenant (codes "b") ∷ [];
  unbound_refusals = 0;
  clock = 0;
  last = 0;
  lines = [];
}

-- what a text says to it
abbrev pub standard_script : List ℕ → Script
standard_script text = script standard_broker text

-- 2. A program that plays a script

-- a script was played, or it ended with some fault
abbrev pub IsScriptRun : BrokerState → Script → Option (List ℕ) → Option (List ℕ) → Type 0
IsScriptRun b s from to = IsPlayed b s from to ⊎ ((fault : ScriptFault) × IsEnded b s fault from to)

-- the program ended with a fault: at a refused write what was written is that of a run all the same, and with no memory for the
-- settings it is nothing
abbrev pub IsHalted : BrokerState → Script → NodeFault → Option (List ℕ) → Option (List ℕ) → Type 0
IsHalted b s (faults.Script fault) from to = IsEnded b s fault from to
IsHalted b s faults.Write from to = IsScriptRun b s from to
IsHalted b s faults.Memory from to = Keeps from to

-- Which lines of a text were played by then, where the reader has so much of it left: those before the one at which it ended. At a
-- refused write that is so of a run all the same, and with no memory for the settings nothing was written.
abbrev pub IsHaltedAt : BrokerState → List ℕ → Option (List ℕ) → NodeFault → Option (List ℕ) → Option (List ℕ) → Type 0
IsHaltedAt b text left (faults.Script fault) from to = IsStopped b text left fault from to
IsHaltedAt b text left faults.Write from to =
    IsPlayed b (script b text) from to ⊎ ((fault : ScriptFault) × IsStopped b text left fault from to)
IsHaltedAt b text left faults.Memory from to = Keeps from to

-- the text was played, and all that the broker said was written
abbrev pub IsScriptPlayed : List ℕ → Option (List ℕ) → Option (List ℕ) → Type 0
IsScriptPlayed text from to = IsPlayed standard_broker (standard_script text) from to

-- the text ended with that fault
abbrev pub IsScriptEnded : List ℕ → NodeFault → Option (List ℕ) → Option (List ℕ) → Type 0
IsScriptEnded text fault from to = IsHalted standard_broker (standard_script text) fault from to

-- and its lines were played up to there
abbrev pub IsScriptStopped : List ℕ → Option (List ℕ) → NodeFault → Option (List ℕ) → Option (List ℕ) → Type 0
IsScriptStopped text left fault from to = IsHaltedAt standard_broker text left fault from to

-- 3. How a run is answered

-- a script's fault is that of the run, and no memory is asked for then
abbrev pub IsScriptFault : {A : Type 0} → NodeFault → Result A ScriptFault → Type 0
IsScriptFault (faults.Script fault) ran = ran ≡ Err fault
IsScriptFault faults.Write ran = Unit {0}
IsScriptFault faults.Memory ran = ⊥
