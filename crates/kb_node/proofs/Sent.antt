-- What is written to a stream is in front of what its connection got.
use Rattle.std.proofs.Common.{◌≡◌, ◌≤◌, ◌++◌, ◌∙◌, ℕ, List, [], Option, Some, None, ⊎_elim, ap, refl, sym, subst, append_assoc, append-nil, arith}
use Rattle.std.specs.List.{flat_map}
use Rattle.kb_store.specs.Disk.{Disk}
use Rattle.kb_isolation_spec.specs.Session.{Session}
use Rattle.kb_isolation_spec.specs.Machine.{Sent, find_line}
use Rattle.kb_isolation_spec.specs.Broker.{Rising}
use Rattle.kb_node.specs.Cores.{Core, Seen}
use Rattle.kb_node.specs.Got.{AreIsolated, HasGot, taken_of}
use Rattle.kb_node.specs.Moves.{IsTurn}
use Rattle.kb_node.specs.Streams.{AreCarried, AreSent, AreClientsServed, IsAlone, IsInFront, IsSent, bytes_got, core_of, unwritten_in}
use Rattle.kb_node.specs.Traffic.{Along, Deed, written_by}
use Rattle.kb_node.proofs.Isolated.{isolated}
use Rattle.kb_node.proofs.Numbers.{nobody_in_order}
use Rattle.kb_node.proofs.Streams.{carried}

-- what was taken is in front of what the connection got
got_front : (n : ℕ) (bytes : List ℕ) (o : Option Session) (got : List Sent) → HasGot n bytes o got → IsInFront bytes (bytes_got got)
got_front n bytes None got h = ⊎_elim
    (λ none. ([], ap bytes_got none.1 ∙ sym (append-nil bytes ∙ none.0)))
    (λ last. (last.1, ap bytes_got last.2 ∙ append-nil last.0.bytes ∙ last.4))
    h
got_front n bytes (Some s) got h = (s.output, ap bytes_got h ∙ append-nil (bytes ++ s.output))

-- a front of a front
front_then : (first mid all : List ℕ) → IsInFront first mid → IsInFront mid all → IsInFront first all
front_then first mid all one two = (one.0 ++ two.0, two.1 ∙ ap (λ x. x ++ two.0) one.1 ∙ append_assoc first one.0 two.0)

module _ {S T : Type 0} (contents remaining : T → Option (List ℕ)) (deeds : List Deed) (from to : Seen S T) where
  in_front : (n : ℕ) (all : List ℕ) → from.sockets ≡ [] → IsInFront (taken_of n deeds) all → IsSent contents remaining n deeds from to all
  in_front n all none front = λ c.
      let before : unwritten_in (core_of n from.sockets) ≡ [] = ap (λ (cs : List (Core T)). unwritten_in (core_of n cs)) none in
      front_then (flat_map written_by c.uses) (taken_of n deeds) all (c.writes.0, ap (λ x. x ++ taken_of n deeds) (sym before) ∙ c.writes.1) front

  pub sent : from.sockets ≡ [] → AreIsolated deeds from.host.broker.state to.host.broker.state → AreSent contents remaining deeds from to
  sent none apart = record {
    owned = λ t calm n owned. in_front n _ none (got_front n (taken_of n deeds) (find_line n to.host.broker.state.lines) _ (apart.owned t calm n owned));
    unowned = λ sound n owner calm.
        in_front n _ none (got_front n (taken_of n deeds) (find_line n to.host.broker.state.lines) _ (apart.unowned sound n owner calm));
  }

-- turns from where nobody is connected
pub served : {S T : Type 0} {disk : S → Disk} {known : Deed → S → Type 0} {contents remaining : T → Option (List ℕ)} (nows : List ℕ) (from to : Seen S T)
    → Along (IsTurn disk known contents remaining) nows from to → IsAlone from → AreClientsServed disk known contents remaining nows from to
served {S} {T} {disk} {known} {contents} {remaining} nows from to turns alone =
    let all : AreCarried disk known contents remaining nows from to = carried nows from to turns (nobody_in_order from alone.sockets) in
    let low : 0 ≤ from.host.broker.state.last = omega arith in
    let rises : Rising 0 from.host.broker.state.last from.host.broker.state.lines = subst (Rising 0 from.host.broker.state.last) (sym alone.lines) low in
    record {
      carried = all;
      sent = λ honest. sent contents remaining all.run.deeds from to alone.sockets
          (isolated disk known from.host.tried all.run.deeds from.host.broker to.host.broker all.run.done all.run.is_run rises alone.tried honest);
    }
