use Rattle.std.proofs.Common.{ap, map, refl, ◌∙◌}
use Rattle.kb_broker.specs.Opening.{login_of, tenants_of}
use Rattle.kb_broker.proofs.OpeningParts.{setup-made}
use Rattle.kb_broker.proofs.opening.new_setup.Goals as goal

pub returns : goal.returns
returns c =
    let logins = c.in_ok-logins.ensures ∙ ap (λ us. map (login_of (tenants_of us)) us) c.deref.ensures.value in
    setup-made c.args.listing (λ name. name.now) c.args.settings.now c.args.names.now _ _ _ _ _ _ c.requires c.in_ok-versions.ensures.is logins c.in_ok-nodes.ensures c.in_ok-node.ensures refl c.new.ensures
