-- A group as tools see it (Kafka protocol guide, DescribeGroups): the names of its states, and what is told of its protocol and members.
use Rattle.std.specs.Prelude.{ℕ, List, [], Option, Some, None, codes}
use Rattle.kb_groups.specs.declared.state.Phase.{Phase}
use Rattle.kb_groups.specs.declared.state.Phase.TheVariants.{Empty, Joining, Syncing, Stable}
use Rattle.kb_groups.specs.declared.state.State.{State}
use Rattle.kb_groups.specs.declared.member.Member.{Member}
use Rattle.kb_groups.specs.Members.{Roster}
use Rattle.kb_groups.specs.Protocols.{chosen, metadata}

-- Kafka's names of states.
unfoldable pub state_name : Phase → List ℕ
state_name Empty = codes "Empty"
state_name (Joining _) = codes "PreparingRebalance"
state_name Syncing = codes "CompletingRebalance"
state_name Stable = codes "Stable"

-- The protocol of a generation with that leader.
abbrev pub protocol_led : Option ℕ → Roster → List ℕ
protocol_led None ms = []
protocol_led (Some leader) ms = chosen leader ms

-- The group's protocol, which is told only while the group is Stable.
abbrev pub protocol_in : Phase → State → Option (List ℕ)
protocol_in Empty g = None
protocol_in (Joining _) g = None
protocol_in Syncing g = None
protocol_in Stable g = Some (protocol_led g.leader g.members)

abbrev pub protocol_of : State → Option (List ℕ)
protocol_of g = protocol_in g.phase g

-- A member's metadata under the protocol that is told; none where none is.
abbrev pub metadata_under : Option (List ℕ) → Member → List ℕ
metadata_under None m = []
metadata_under (Some name) m = metadata m.protocols name

-- And its assignment.
abbrev pub assignment_under : Option (List ℕ) → Member → List ℕ
assignment_under None m = []
assignment_under (Some name) m = m.assignment
