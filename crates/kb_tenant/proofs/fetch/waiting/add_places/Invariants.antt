use Rattle.std.proofs.Common.{◌≡◌, ◌++◌, take}
use Rattle.kb_tenant.specs.Fetch.{places_in}
use Rattle.kb_tenant.proofs.fetch.waiting.add_places.Given as goal

-- the places of the entries so far
abbrev pub invariant-loop-entry : goal.invariant-loop-entry
invariant-loop-entry l = l.places.items ≡ l.initial.places.items ++ places_in l.topic (take l.entry-index l.entries)
