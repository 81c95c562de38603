-- How many members of a tenant's groups wait on a connection, and how many were answered on it.
use Rattle.std.specs.Prelude.{◌≡◌, ◌⊎◌, Result, Ok, Err, ◌≤◌, ◌+◌, ℕ, Bool, true, false, ◌&&◌, List, [], ◌∷◌, nat_eq}
use Rattle.kb_groups.specs.declared.reply.Release.{Release}
use Rattle.kb_groups.specs.Answers.{waits_on}
use Rattle.kb_groups.specs.Members.{Roster}
use Rattle.kb_coordinator.specs.declared.groups.Entry.{Entry}
use Rattle.kb_coordinator.specs.Groups.{Groups}
use Rattle.kb_wire.specs.declared.fault.ReadFault.{ReadFault}
use Rattle.kb_tenant_api.specs.Replies.{Reaction, Plain, Rebalances}
use Rattle.kb_tenant_api.specs.declared.answer.Answer.{Answer}
use Rattle.kb_tenant_api.specs.declared.answer.Answer.TheVariants as answers

abbrev pub once : Bool → ℕ
once true = 1
once false = 0

-- how many of those members wait on the connection of number n
abbrev pub waiting : ℕ → Roster → ℕ
waiting n [] = 0
waiting n (e ∷ ms) = once (waits_on n e.1.waiter) + waiting n ms

-- of those groups' members
abbrev pub waiting_in : ℕ → List Entry → ℕ
waiting_in n [] = 0
waiting_in n (e ∷ es) = waiting n e.group.members + waiting_in n es

-- how many of those replies are for it
abbrev pub given : ℕ → List Release → ℕ
given n [] = 0
given n (r ∷ rs) = once (nat_eq r.connection n) + given n rs

-- how many members wait on the connection of number n
abbrev pub members_on : ℕ → Groups → ℕ
members_on n gs = waiting_in n gs.groups

-- and how many waited there and have a reply that nobody took
abbrev pub replies_on : ℕ → Groups → ℕ
replies_on n gs = given n gs.released

-- a request comes to a wait for its group
abbrev pub rebalances : Reaction → Bool
rebalances (Plain reaction) = false
rebalances Rebalances = true

-- After a request on the connection of number n: no member more waits on any connection, but one there where it is more, and of those
-- who waited each waits still or was answered.
abbrev pub AreServed : ℕ → Bool → Groups → Groups → Type 0
AreServed n more old new = (k : ℕ) → members_on k new + replies_on k new ≤ members_on k old + once (nat_eq n k && more)

-- After a moment: no member more waits on any connection, and of those who waited each waits still or was answered.
abbrev pub AreTicked : Groups → Groups → Type 0
AreTicked old new =
    (k : ℕ) → (members_on k new ≤ members_on k old) × (members_on k new + replies_on k new ≤ members_on k old + replies_on k old)

-- A request that is not answered by a wait for its group leaves no member more waiting on its connection.
abbrev pub IsWaitTold : ℕ → Groups → Answer → Groups → Type 0
IsWaitTold n old answer new = (answer ≡ answers.Rebalance) ⊎ (members_on n new ≤ members_on n old)

-- the same, where a body that is not the API's, or want of memory, is a fault
abbrev pub IsWaitToldBy : ℕ → Groups → Result Answer ReadFault → Groups → Type 0
IsWaitToldBy n old (Ok answer) new = IsWaitTold n old answer new
IsWaitToldBy n old (Err fault) new = members_on n new ≤ members_on n old
