use Rattle.std.proofs.Common.{◌≡◌, ◌∙◌, None, Some, ap, map, rules}
use Rattle.std.specs.List.{find}
use Rattle.std.specs.Str.{bytes_eq}
use Rattle.kb_settings.specs.Limits.{limits_in}
use Rattle.kb_settings.specs.Values.{groups_or}
use Rattle.kb_settings.proofs.settings.Settings.groups_of.Goals as goal

pub returns-in-Some-clause-says : goal.returns-in-Some-clause-says
returns-in-Some-clause-says c =
    let found : Some (limits_in c.in-Some.limits.now) ≡ find (λ t. bytes_eq t.name c.args.tenant.now) (map limits_in c.args.self.now.tenants.items) = search rules in
    ap groups_or found

pub returns-in-None-clause-says : goal.returns-in-None-clause-says
returns-in-None-clause-says c =
    let none : None ≡ find (λ t. bytes_eq t.name c.args.tenant.now) (map limits_in c.args.self.now.tenants.items) = search rules in
    c.standard.ensures ∙ ap groups_or none
