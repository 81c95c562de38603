use Rattle.std.proofs.Common.{◌∙◌, List, ap, map, string_bytes}
use Rattle.std.proofs.lemmas.List.{take_all}
use Rattle.kb_settings.specs.Names.{in_order}
use Rattle.kb_settings.specs.declared.settings.User.{User}
use Rattle.kb_settings.proofs.names.tenant_names.Goals as goal

pub returns : goal.returns
returns c =
    c.in_order.ensures
    ∙ ap in_order c.loop-user.invariant
    ∙ ap (λ (users : List User). in_order (map (λ u. string_bytes u.tenant) users)) (take_all c.loop-user.user-index c.args.users.now c.loop-user-test.false)
