-- A script on a broker that has just opened.
use Rattle.std.proofs.Common.{◌≡◌, ℕ, true, List, [], ◌∷◌, map, refl}
use Rattle.kb_tenant_api.specs.Hosted.{new_tenant}
use Rattle.kb_tenant_api.specs.Turns.{all_calm}
use Rattle.kb_isolation_spec.specs.Calls.{is_calm}
use Rattle.kb_settings.specs.declared.settings.Settings.{Settings}
use Rattle.kb_broker.specs.Opening.{opening, tenants_of}

all-new-calm : (names : List (List ℕ)) → all_calm (map new_tenant names) ≡ true
all-new-calm [] = refl
all-new-calm (name ∷ names) = all-new-calm names

pub calm-opening : (s : Settings) → is_calm (opening s) ≡ true
calm-opening s = all-new-calm (tenants_of s.users.items)
