-- How long a request may be on the connections of a world.
use Rattle.std.specs.Prelude.{◌≡◌, ℕ, List}
use Rattle.std.specs.List.{AllByRecursion}
use Rattle.kb_isolation_spec.specs.Machine.{Line}

-- on each of these connections no request above that size is read, and each of at most that size is
abbrev pub HaveLimit : ℕ → List Line → Type 0
HaveLimit limit lines = AllByRecursion (λ l. l.session.limit ≡ limit) lines
