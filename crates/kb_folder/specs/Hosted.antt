-- A folder of the system, to its callers.
use Rattle.std.specs.Prelude.{List, Bool}
use Rattle.std.proofs.Common.{refl}
use Rattle.std.specs.Coded.{Coded, code_by, coded×, coded_ℕ, coded_bool, coded_list}
use Rattle.std.specs.FinMap as map
use Rattle.kb_store.specs.Disk.{Files}
use Rattle.kb_folder.specs.History.{Answer}
use Rattle.kb_folder.specs.Told.{Calls}

-- What the system answered, and whether it keeps in mind what it has changed, so that a sync can make it last.
pub record Hosted : Type 0 where
  pub history : Calls
  pub syncs : Bool

abbrev pub hosted_code : Coded Hosted
hosted_code = code_by ((Files × List Answer) × Bool) (coded× (coded× (map.code coded_ℕ (coded_list coded_ℕ)) (coded_list (coded× (coded_list coded_ℕ) (coded_list coded_ℕ)))) coded_bool)
    (λ f. ((f.history.start, f.history.answers), f.syncs))
    (λ p. record { history = record { start = p.0.0; answers = p.0.1 }; syncs = p.1 }) (λ _. refl)
