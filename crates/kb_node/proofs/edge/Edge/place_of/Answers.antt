use Rattle.std.proofs.Common.{rules}
use Rattle.std.proofs.lemmas.List.Sorted.{answers_always}
use Rattle.kb_node.specs.declared.socket.Socket.{Socket}
use Rattle.kb_node.proofs.Numbers.{searched_place}
use Rattle.kb_node.proofs.edge.Edge.place_of.Goals as goal

pub returns-clause-found : goal.returns-clause-found
returns-clause-found g c rises =
    let facts = c.binary_search_by_key.ensures in
    let by_number = facts.position (λ (s : Socket _). s.connection) (answers_always _ _ _ (λ f a r g called. search rules)) in
    searched_place c.args.self.now.host c.args.self.now.sockets.items c.deref.result.now c.args.number c.binary_search_by_key.result c.ok.result
    c.deref.ensures.value c.ok.ensures.value rises facts.bound by_number
