-- What a machine says event by event, where its output is taken after each.
use Rattle.std.specs.Prelude.{◌≡◌, ℕ, ◌<◌, List, [], ◌∷◌, map, not, ◌&&◌, length, Bool, ⊤}
use Rattle.std.specs.List.{AllByRecursion}
use Rattle.kb_isolation_spec.specs.Machine.{Happening, Line, View, Sent, each_line, stepped, those_sent, find_line}
use Rattle.kb_isolation_spec.specs.Owners.{concerns}
use Rattle.kb_isolation_spec.specs.Broker.{BrokerState, view_of, owned_by, only, IsUnowned}
use Rattle.kb_isolation_spec.specs.Calls.{without_output, shut_in}

-- the output of every connection was taken
abbrev pub quieted_lines : List Line → List Line
quieted_lines lines = each_line (λ k s. without_output s) lines

abbrev pub quieted : View → View
quieted w = record w { lines = quieted_lines w.lines }

-- what each connection got in one step, whether it was shut in this step, and why it was shut, if it was
abbrev pub said : List Line → List Line → List Sent
said old new = map (λ (l : Line). record {
  number = l.number;
  bytes = l.session.output;
  shut = l.session.shut
      && not (shut_in (find_line l.number old));
  why = l.session.why;
}) new

-- what the machine says to its connections at each event, and at an event of another's, where it does nothing
abbrev pub tell : (ℕ → Bool) → List Happening → View → List (List Sent)
tell mine [] w = []
tell mine (e ∷ es) w = let next = stepped (concerns mine e) e w in said w.lines next.lines ∷ tell mine es (quieted next)

-- the numbers of the connections rise from above that number
abbrev pub RisesAbove : ℕ → List Sent → Type 0
RisesAbove low [] = ⊤
RisesAbove low (s ∷ ss) = (low < s.number) × RisesAbove s.number ss

-- what was said at each event is what the machine of each tenant says there to the tenant's connections, and to a connection
-- without owner what a machine with nothing in it but that connection says; and at each event the connections, whosever they are, come
-- by rising number
pub record Tells (b : BrokerState) (es : List Happening) (steps : List (List Sent)) : Type 0 where
  pub owned : (t : ℕ) → map (those_sent (owned_by t es b)) steps ≡ tell (owned_by t es b) es (view_of t (owned_by t es b) b)
  pub unowned : (n : ℕ) → IsUnowned n es b → map (those_sent (only n)) steps ≡ tell (only n) es (view_of (length b.tenants) (only n) b)
  pub in_order : AllByRecursion (λ step. RisesAbove 0 step) steps
