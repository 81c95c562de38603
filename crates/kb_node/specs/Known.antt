-- What is known of a store when something else than an event is done.
use Rattle.std.specs.Prelude.{◌≡◌, true, IsSome}
use Rattle.kb_store.specs.Disk.{Disk}
use Rattle.kb_store.specs.Loss.{Loss}
use Rattle.kb_node.specs.Commits.{Lasts, holds_back}
use Rattle.kb_node.specs.Traffic.{Commit, Deed, Event, Fail, Take}
use Rattle.kb_node.specs.declared.commits.Commits.{Commits}

-- Nothing but events: no output is taken, and nothing is committed.
abbrev pub silent : {S : Type 0} → Deed → S → Type 0
silent deed store = ⊥

-- Output is taken whatever lasts, and nothing is committed.
abbrev pub hasty : {S : Type 0} → Deed → S → Type 0
hasty (Event e) store = Unit {0}
hasty (Take n bytes) store = Unit {0}
hasty Commit store = ⊥
hasty Fail store = ⊥

-- Where replies wait for a commit, output is taken only while all that was done before it lasts. Nothing is committed.
abbrev pub telling : {S : Type 0} → (S → Type 0) → (S → Disk) → (S → Loss) → Commits → Deed → S → Type 0
telling settled disk loss commits (Event e) store = Unit {0}
telling settled disk loss commits (Take n bytes) store = holds_back commits.sync ≡ true → Lasts settled disk loss store
telling settled disk loss commits Commit store = ⊥
telling settled disk loss commits Fail store = ⊥

-- The same, and behind a commit all that was done before it lasts. One is refused only where that is known from then on.
abbrev pub lasting : {S : Type 0} → (S → Type 0) → (S → Disk) → (S → Loss) → Commits → Deed → S → Type 0
lasting settled disk loss commits (Event e) store = Unit {0}
lasting settled disk loss commits (Take n bytes) store = holds_back commits.sync ≡ true → Lasts settled disk loss store
lasting settled disk loss commits Commit store = Lasts settled disk loss store
lasting settled disk loss commits Fail store = IsSome commits.fault
