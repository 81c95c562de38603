-- Where replies go out whatever is handed on, no commit was refused.
use Rattle.std.proofs.Common.{◌≡◌, Bool, true, false, ◌&&◌, Option, Some, None, not, refl}
use Rattle.std.specs.Prelude.{is_none}
use Rattle.kb_store.specs.declared.fault.StoreFault.{StoreFault}
use Rattle.kb_node.specs.declared.commits.Commits.{Commits}
use Rattle.kb_node.specs.Commits.{holds_back, tells_at_once}

no_fault_by : (fault : Option StoreFault) (waits : Bool) → (is_none fault && waits) ≡ true → fault ≡ None
no_fault_by None waits is = refl
no_fault_by (Some fault) waits is = absurd (let no : false ≡ true = is in cc)

pub no_fault : (c : Commits) → tells_at_once c ≡ true → c.fault ≡ None
no_fault c is = no_fault_by c.fault (not (holds_back c.sync)) is

none_waits_by : (fault : Option StoreFault) (waits : Bool) → (is_none fault && not waits) ≡ true → waits ≡ false
none_waits_by None false is = refl
none_waits_by None true is = absurd (let no : false ≡ true = is in cc)
none_waits_by (Some fault) waits is = absurd (let no : false ≡ true = is in cc)

-- then no reply waits for a commit
pub none_waits : (c : Commits) → tells_at_once c ≡ true → holds_back c.sync ≡ false
none_waits c is = none_waits_by c.fault (holds_back c.sync) is
