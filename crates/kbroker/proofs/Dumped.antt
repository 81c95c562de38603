-- What is handed on of a dump.
use Rattle.std.proofs.Common.{◌≡◌, ◌++◌, ℕ, List, [], Option, Result, Ok, Err, refl, sym, ap, subst, append-nil}
use Rattle.std.specs.Prelude.{OnOk, OnErr}
use Rattle.std.specs.Io.KnownBytes.{Appends, Keeps}
use Rattle.std.proofs.KnownBytes.{Appends-kept}
use Rattle.kb_dump.specs.Dump.{WritesFront}
use Rattle.kb_dump.specs.declared.fault.DumpFault.{DumpFault}
use Rattle.kb_dump.specs.declared.fault.DumpFault.TheVariants as dumps
use Rattle.kb_operator.specs.declared.fault.OperatorFault.{OperatorFault}
use Rattle.kb_store.specs.Disk.{Grew}
use Rattle.kbroker.specs.declared.Fault.TheVariants.{Operator}
use Rattle.kbroker.specs.Dumped.{IsOfDump, IsBlamed}

-- a front that was written stands after a flush
pub front_kept : (text : List ℕ) (a b c : Option (List ℕ)) → WritesFront text a b → Keeps b c → WritesFront text a c
front_kept text a b c w k = record { front = w.front; rest = w.rest; split = w.split; wrote = Appends-kept a b c w.front w.wrote k }

-- a text that was written is a front of it, however the dump ended
pub front_of : {A E H : Type 0} (r : Result A E) (text : List ℕ) (a b c : Option (List ℕ)) → OnOk r (H → Appends a b text) → OnErr r (H → WritesFront text a b) → Keeps b c → H → WritesFront text a c
front_of (Ok x) text a b c ok err k h = record { front = text; rest = []; split = sym (append-nil text); wrote = Appends-kept a b c text (ok h) k }
front_of (Err e) text a b c ok err k h = front_kept text a b c (err h) k

-- a text that was written stands after a flush
pub text_kept : {A E H : Type 0} (r : Result A E) (x : A) (text : List ℕ) (a b c : Option (List ℕ)) → r ≡ Ok x → OnOk r (H → Appends a b text) → Keeps b c → H → Appends a c text
text_kept {A} {E} {H} r x text a b c is ok k h = Appends-kept a b c text (subst (λ q. OnOk q (H → Appends a b text)) is ok h) k

-- what a dump's fault blames
pub blamed : (before now : ℕ) (dumped : DumpFault) (fault : OperatorFault) → IsOfDump dumped fault → (dumped ≡ dumps.Store → Grew before now) → IsBlamed before now (Operator fault)
blamed before now dumps.Store fault is grew = λ m w. grew refl
blamed before now dumps.Memory fault is grew = λ m w. absurd (m (ap Operator is))
blamed before now dumps.Write fault is grew = λ m w. absurd (w (ap Operator is))
