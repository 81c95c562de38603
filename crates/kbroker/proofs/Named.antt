-- The first tenant of a name, as it is looked at.
use Rattle.std.proofs.Common.{◌≡◌, ◌∙◌, ℕ, Bor, Bool, true, false, cond, List, [], ◌∷◌, map, Option, Some, None, refl, sym, ap}
use Rattle.std.specs.List.{find}
use Rattle.std.specs.Option.{option_map}
use Rattle.std.specs.Str.{bytes_eq}
use Rattle.kb_store.specs.Disk.{Files}
use Rattle.kb_log.specs.OnShelf.{Log}
use Rattle.kb_metrics.specs.declared.gauges.TenantGauges.{TenantGauges}
use Rattle.kbroker.specs.Observed.{observed_unstored}
use Rattle.kbroker.specs.Pages.{first_named}

-- what is found first, seen by a function that keeps the test
found_seen : {X Y : Type 0} (view : X → Y) (p : X → Bool) (q : Y → Bool) → ((x : X) → p x ≡ q (view x)) → (xs : List X)
    → option_map view (find p xs) ≡ find q (map view xs)
found_seen view p q same [] = refl
found_seen view p q same (x ∷ xs) =
    elim (p x) as (λ b. p x ≡ b → option_map view (cond b (Some x) (find p xs)) ≡ find q (view x ∷ map view xs)) [
      | true ↦ λ e. ap (λ b. cond b (Some (view x)) (find q (map view xs))) (sym (sym (same x) ∙ e))
      | false ↦ λ e. found_seen view p q same xs ∙ ap (λ b. cond b (Some (view x)) (find q (map view xs))) (sym (sym (same x) ∙ e))
    ] refl

-- whether a tenant has that name
abbrev pub is_named : {L : Type 0} → List ℕ → TenantGauges L → Bool
is_named name t = bytes_eq t.name.now name

-- the first tenant of a name that is found is the first one that is observed
pub found_named : {L : Type 0} (log : L → Log) (files : Files) (name : List ℕ) (ts : List (TenantGauges L)) (r : Option (Bor (TenantGauges L)))
    → option_map (λ t. t.now) r ≡ find (is_named name) ts → option_map (λ t. observed_unstored log files t.now) r ≡ first_named name (map (observed_unstored log files) ts)
found_named log files name ts None e =
    ap (option_map (observed_unstored log files)) e ∙ found_seen (observed_unstored log files) (is_named name) (λ o. bytes_eq o.name name) (λ t. refl) ts
found_named log files name ts (Some t) e =
    ap (option_map (observed_unstored log files)) e ∙ found_seen (observed_unstored log files) (is_named name) (λ o. bytes_eq o.name name) (λ t. refl) ts
