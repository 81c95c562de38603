use Rattle.std.proofs.Common.{◌≡◌, ◌∙◌, List, ap, map, rules}
use Rattle.toml.specs.View.{members_view}
use Rattle.toml.proofs.Views.{Entry}
use Rattle.kb_settings.specs.Document.{first, other_keys}
use Rattle.kb_settings.proofs.Keys.{others-in-order}
use Rattle.kb_settings.proofs.document.other_key.Goals as goal

pub members-init : goal.members-init
members-init c =
    let left : c.into_iter-key-iterator.result ≡ c.args.document.now.entries = search rules in (
      tt,
      tt,
      ap (λ (es : List Entry). first (other_keys (map (λ key. key.now) c.args.keys.now) (members_view es))) left
          ∙ others-in-order _ c.args.document.now.entries c.iter-key-items.ensures.ordered,
    )
