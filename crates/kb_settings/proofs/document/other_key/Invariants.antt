use Rattle.std.proofs.Common.{◌≡◌, map}
use Rattle.toml.specs.View.{table_view, members_view}
use Rattle.kb_settings.specs.Document.{first, other_key, other_keys}
use Rattle.kb_settings.proofs.document.other_key.Given as goal

abbrev pub invariant-members : goal.invariant-members
invariant-members l =
    (goal.iterator-members).can_next l.key-iterator × (goal.iterator-members).is_finite l.key-iterator
    × (first (other_keys (map (λ key. key.now) l.keys) (members_view l.key-iterator)) ≡ other_key (map (λ key. key.now) l.keys) (table_view l.fn.document))
