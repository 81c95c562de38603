-- Which protocol a group takes.
use Rattle.std.specs.Prelude.{ℕ, Bool, true, false, ◌||◌, ◌&&◌, List, [], ◌∷◌, Option, Some, None, bytes_eq, map, if◌then◌else◌}
use Rattle.kb_groups.specs.declared.protocol.Protocol.{Protocol}
use Rattle.kb_groups.specs.declared.member.Member.{Member}
use Rattle.kb_groups.specs.declared.reply.Listed.{Listed}
use Rattle.kb_groups.specs.Members.{Roster, member}

-- Whether the protocol of that name is among these.
unfoldable pub lists : List Protocol → List ℕ → Bool
lists [] name = false
lists (p ∷ ps) name = bytes_eq p.name name || lists ps name

unfoldable pub all_list : Roster → List ℕ → Bool
all_list [] name = true
all_list (e ∷ ms) name = lists e.1.protocols name && all_list ms name

-- The first of the names that all members list.
unfoldable pub common : List (List ℕ) → Roster → Option (List ℕ)
common [] ms = None
common (name ∷ names) ms = if all_list ms name then Some name else common names ms

abbrev pub names_of : List Protocol → List (List ℕ)
names_of ps = map (λ p. p.name) ps

-- The first metadata under a name.
unfoldable pub metadata : List Protocol → List ℕ → List ℕ
metadata [] name = []
metadata (p ∷ ps) name = if bytes_eq p.name name then p.metadata else metadata ps name

-- The members as the leader gets them, in joining order.
unfoldable pub listing : Roster → List ℕ → List Listed
listing [] name = []
listing (e ∷ ms) name = record { member = e.0; metadata = metadata e.1.protocols name } ∷ listing ms name

abbrev pub or_empty : Option (List ℕ) → List ℕ
or_empty None = []
or_empty (Some x) = x

abbrev pub protocols_of : Option Member → List Protocol
protocols_of None = []
protocols_of (Some m) = m.protocols

-- The protocol of a generation: the leader's first name that all members list.
unfoldable pub chosen : ℕ → Roster → List ℕ
chosen leader ms = or_empty (common (names_of (protocols_of (member ms leader))) ms)
