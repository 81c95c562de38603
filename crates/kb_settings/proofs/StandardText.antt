-- The standard settings are those of a text.
use Rattle.std.proofs.Common.{◌≡◌, ℕ, List, [], ◌∷◌, Some, Ok, codes, refl, sym, ap, ◌∙◌}
use Rattle.toml.proofs.OnLiterals.{toml_on_literals}
use Rattle.kb_settings.specs.Limits.{Limits}
use Rattle.kb_settings.specs.Values.{Account, Values, ann, bob, standard, standard_text}
use Rattle.kb_settings.specs.Reading.{settings_of}

says-standard : settings_of standard_text ≡ Some (Ok standard)
unfolding toml_on_literals
says-standard = refl

-- they have this host, these users and no limits, and all else is written
pub said : (host : List ℕ) (users : List Account) (tenants : List Limits) → host ≡ codes "localhost" → users ≡ ann ∷ bob ∷ [] → tenants ≡ []
    → settings_of standard_text ≡ Some (Ok (record standard { host = host; users = users; tenants = tenants }))
said host users tenants h u t =
    says-standard ∙ ap (λ h. Some (Ok (record standard { host = h }))) (sym h)
    ∙ ap (λ us. Some (Ok (record standard { host = host; users = us }))) (sym u)
    ∙ ap (λ ts. Some (Ok (record standard { host = host; users = users; tenants = ts }))) (sym t)
