-- What is handed on after a script.
use Rattle.std.proofs.Common.{◌≡◌, ℕ, List, Option, None, Some, IfSome, Result, Ok, Err, OnOk, IfErr, IsOk, subst, inl, inr}
use Rattle.std.specs.Io.KnownBytes.{Keeps}
use Rattle.std.proofs.KnownBytes.{Appends-kept}
use Rattle.kb_isolation_spec.specs.Machine.{Happening}
use Rattle.kb_isolation_spec.specs.Broker.{BrokerState}
use Rattle.kb_broker.specs.declared.script.ScriptFault.{ScriptFault}
use Rattle.kb_broker.specs.declared.script.ScriptFault.TheVariants as script_faults
use Rattle.kb_broker.specs.Script.{Script, said_by, script}
use Rattle.kb_broker.specs.ScriptRun.{AreStepsWritten, IsWrittenInPart, IsPlayed, IsEnded, HavePlayed, IsStopped}
use Rattle.kb_node.specs.declared.fault.NodeFault.{NodeFault}
use Rattle.kb_node.specs.declared.fault.NodeFault.TheVariants as faults
use Rattle.kb_node.specs.Node.{IsScriptRun, IsHalted, IsHaltedAt, IsScriptFault}

-- ---- what was written stands after a flush

written-kept : (b : BrokerState) (es : List Happening) (from mid to : Option (List ℕ)) → AreStepsWritten b es from mid → Keeps mid to → AreStepsWritten b es from to
written-kept b es from mid to w k = (w.0, w.1, Appends-kept from mid to _ w.2 k)

in-part-kept : (b : BrokerState) (es : List Happening) (from mid to : Option (List ℕ)) → IsWrittenInPart b es from mid → Keeps mid to → IsWrittenInPart b es from to
in-part-kept b es from mid to w k = (w.0, w.1, w.2, w.3, w.4, w.5, Appends-kept from mid to _ w.6 k)

pub played-kept : (b : BrokerState) (s : Script) (from mid to : Option (List ℕ)) → IsPlayed b s from mid → Keeps mid to → IsPlayed b s from to
played-kept b s from mid to p k = (p.0, written-kept b s.events from mid to p.1 k)

pub ended-kept : (b : BrokerState) (s : Script) (fault : ScriptFault) (from mid to : Option (List ℕ)) → IsEnded b s fault from mid → Keeps mid to → IsEnded b s fault from to
ended-kept b s (script_faults.BadLine n) from mid to p k = (p.0, written-kept b s.events from mid to p.1 k)
ended-kept b s script_faults.TooLong from mid to p k = (p.0, written-kept b s.events from mid to p.1 k)
ended-kept b s script_faults.Read from mid to p k = (p.0, p.1, p.2, written-kept b p.0 from mid to p.3 k)
ended-kept b s script_faults.Write from mid to p k = (p.0, p.1, p.2, in-part-kept b p.0 from mid to p.3 k)
ended-kept b s script_faults.Memory from mid to p k = (p.0, p.1, p.2, written-kept b p.0 from mid to p.3 k)

lines-kept : (fault : ScriptFault) (b : BrokerState) (lines : List (List ℕ)) (front : List ℕ) (from mid to : Option (List ℕ))
    → HavePlayed fault b lines front from mid → Keeps mid to → HavePlayed fault b lines front from to
lines-kept (script_faults.BadLine n) b lines front from mid to p k = (p.0, played-kept b (said_by b lines) from mid to p.1 k)
lines-kept script_faults.TooLong b lines front from mid to p k = played-kept b (said_by b lines) from mid to p k
lines-kept script_faults.Read b lines front from mid to p k = (p.0, played-kept b (said_by b lines) from mid to p.1 k)
lines-kept script_faults.Write b lines front from mid to p k = let q = p.1 in (p.0, (q.0, in-part-kept b (said_by b lines).events from mid to q.1 k))
lines-kept script_faults.Memory b lines front from mid to p k = played-kept b (said_by b lines) from mid to p k

stopped-kept : (b : BrokerState) (text : List ℕ) (left : Option (List ℕ)) (fault : ScriptFault) (from mid to : Option (List ℕ))
    → IsStopped b text left fault from mid → Keeps mid to → IsStopped b text left fault from to
stopped-kept b text left fault from mid to s k = (s.0, s.1, s.2, lines-kept fault b s.0 s.1 from mid to s.3 k)

-- ---- the answer to a run

-- a run of what is known to be left, by what it answered
abbrev RunOk : {A : Type 0} → Result A ScriptFault → BrokerState → Option (List ℕ) → Option (List ℕ) → Option (List ℕ) → Type 0
RunOk ran b left from to = OnOk ran (IfSome left (λ text. IsPlayed b (script b text) from to))

abbrev RunErr : {A : Type 0} → Result A ScriptFault → BrokerState → Option (List ℕ) → Option (List ℕ) → Option (List ℕ) → Type 0
RunErr ran b left from to = IfErr ran (λ fault. IfSome left (λ text. IsEnded b (script b text) fault from to))

pub answered-ok : {A B : Type 0} (ran : Result A ScriptFault) (answer : Result B NodeFault) (b : BrokerState) (left from mid to : Option (List ℕ))
    → RunOk ran b left from mid → Keeps mid to → OnOk answer (IsOk ran) → OnOk answer (IfSome left (λ text. IsPlayed b (script b text) from to))
answered-ok ran (Err e) b left from mid to run k ok = tt
answered-ok (Err e) (Ok y) b left from mid to run k ok = cc
answered-ok (Ok x) (Ok y) b None from mid to run k ok = tt
answered-ok (Ok x) (Ok y) b (Some text) from mid to run k ok = played-kept b (script b text) from mid to run k

-- a run is known whatever it answered
run-known : {A : Type 0} (ran : Result A ScriptFault) (b : BrokerState) (text : List ℕ) (from mid to : Option (List ℕ))
    → RunOk ran b (Some text) from mid → RunErr ran b (Some text) from mid → Keeps mid to → IsScriptRun b (script b text) from to
run-known (Ok x) b text from mid to ok err k = inl (played-kept b (script b text) from mid to ok k)
run-known (Err e) b text from mid to ok err k = inr (e, ended-kept b (script b text) e from mid to err k)

fault-known : {A : Type 0} (ran : Result A ScriptFault) (fault : ScriptFault) (b : BrokerState) (text : List ℕ) (from mid to : Option (List ℕ))
    → ran ≡ Err fault → RunErr ran b (Some text) from mid → Keeps mid to → IsEnded b (script b text) fault from to
fault-known ran fault b text from mid to is err k =
    ended-kept b (script b text) fault from mid to (subst (λ r. RunErr r b (Some text) from mid) is err) k

halted : {A : Type 0} (ran : Result A ScriptFault) (fault : NodeFault) (b : BrokerState) (text : List ℕ) (from mid to : Option (List ℕ))
    → RunOk ran b (Some text) from mid → RunErr ran b (Some text) from mid → Keeps mid to → IsScriptFault fault ran → IsHalted b (script b text) fault from to
halted ran (faults.Script fault) b text from mid to ok err k is = fault-known ran fault b text from mid to is err k
halted ran faults.Write b text from mid to ok err k is = run-known ran b text from mid to ok err k
halted ran faults.Memory b text from mid to ok err k is = absurd is

pub answered-err : {A B : Type 0} (ran : Result A ScriptFault) (answer : Result B NodeFault) (b : BrokerState) (left from mid to : Option (List ℕ))
    → RunOk ran b left from mid → RunErr ran b left from mid → Keeps mid to → IfErr answer (λ fault. IsScriptFault fault ran)
    → IfErr answer (λ fault. IfSome left (λ text. IsHalted b (script b text) fault from to))
answered-err ran (Ok y) b left from mid to ok err k is = tt
answered-err ran (Err e) b None from mid to ok err k is = tt
answered-err ran (Err e) b (Some text) from mid to ok err k is = halted ran e b text from mid to ok err k is

-- ---- which lines were played

abbrev RunStopped : {A : Type 0} → Result A ScriptFault → BrokerState → Option (List ℕ) → Option (List ℕ) → Option (List ℕ) → Option (List ℕ) → Type 0
RunStopped ran b text left from to = IfErr ran (λ fault. IfSome text (λ t. IsStopped b t left fault from to))

stop-known : {A : Type 0} (ran : Result A ScriptFault) (b : BrokerState) (text : List ℕ) (left from mid to : Option (List ℕ))
    → RunOk ran b (Some text) from mid → RunStopped ran b (Some text) left from mid → Keeps mid to → IsHaltedAt b text left faults.Write from to
stop-known (Ok x) b text left from mid to ok stopped k = inl (played-kept b (script b text) from mid to ok k)
stop-known (Err e) b text left from mid to ok stopped k = inr (e, stopped-kept b text left e from mid to stopped k)

halted-at : {A : Type 0} (ran : Result A ScriptFault) (fault : NodeFault) (b : BrokerState) (text : List ℕ) (left from mid to : Option (List ℕ))
    → RunOk ran b (Some text) from mid → RunStopped ran b (Some text) left from mid → Keeps mid to → IsScriptFault fault ran → IsHaltedAt b text left fault from to
halted-at ran (faults.Script fault) b text left from mid to ok stopped k is =
    stopped-kept b text left fault from mid to (subst (λ r. RunStopped r b (Some text) left from mid) is stopped) k
halted-at ran faults.Write b text left from mid to ok stopped k is = stop-known ran b text left from mid to ok stopped k
halted-at ran faults.Memory b text left from mid to ok stopped k is = absurd is

pub answered-stopped : {A B : Type 0} (ran : Result A ScriptFault) (answer : Result B NodeFault) (b : BrokerState) (text left from mid to : Option (List ℕ))
    → RunOk ran b text from mid → RunStopped ran b text left from mid → Keeps mid to → IfErr answer (λ fault. IsScriptFault fault ran)
    → IfErr answer (λ fault. IfSome text (λ t. IsHaltedAt b t left fault from to))
answered-stopped ran (Ok y) b text left from mid to ok stopped k is = tt
answered-stopped ran (Err e) b None left from mid to ok stopped k is = tt
answered-stopped ran (Err e) b (Some text) left from mid to ok stopped k is = halted-at ran e b text left from mid to ok stopped k is
