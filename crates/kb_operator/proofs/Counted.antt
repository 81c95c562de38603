-- What tenants take together, counted one by one.
use Rattle.std.proofs.Common.{◌≡◌, ℕ, ◌+◌, Option, map, option_map, string_bytes, sym, ap}
use Rattle.std.proofs.lemmas.Simd.{map-map}
use Rattle.kb_settings.specs.declared.settings.User.{User}
use Rattle.kb_settings.specs.declared.settings.Settings.{Settings}
use Rattle.kb_settings.specs.Names.{in_order}
use Rattle.kb_settings.specs.Values.{Account, account_of, values_of}
use Rattle.kb_operator.specs.Sums.{told, tenants_of}

-- the names that users name are those of the settings
pub names_same : (s : Settings) → in_order (map (λ (u : User). string_bytes u.tenant) s.users.items) ≡ tenants_of (values_of s)
names_same s = sym (ap in_order (map-map (λ (a : Account). a.tenant) account_of s.users.items))

-- what is told of so many bytes, and of what is still to be counted
abbrev pub with_rest : ℕ → Option ℕ → Option ℕ
with_rest stored rest = option_map (λ n. told (stored + n)) rest
