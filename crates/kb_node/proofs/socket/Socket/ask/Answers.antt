use Rattle.std.proofs.Common.{refl, sym, ◌≡◌, ◌++◌, ◌+◌, ◌-◌, ◌∙◌, Bool, ap, subst, true, false, ℕ, drop, take, vec_len}
use Rattle.kb_isolation_spec.specs.Broker.{BrokerState}
use Rattle.kb_isolation_spec.specs.Machine.{Comes}
use Rattle.kb_node.specs.Sockets.{can_ask}
use Rattle.kb_node.specs.Traffic.{Happens}
use Rattle.kb_node.proofs.Carries.{cut, hands, reads, stays}
use Rattle.kb_node.proofs.socket.Socket.ask.Goals as goal

there : (over : Bool) (unwritten n : ℕ) (b : BrokerState) → can_ask over unwritten n b ≡ true → over ≡ false
there true unwritten n b h = absurd (let no : false ≡ true = h in cc)
there false unwritten n b h = refl

pub returns-then-self-clause-carries : goal.returns-then-self-clause-carries
returns-then-self-clause-carries g c = stays g.S.Store.disk g.T.Write.contents g.T.Read.remaining c.args.self.now _ _ _ refl refl refl refl (λ is. is) refl

pub returns-then-not-may_begin-clause-carries : goal.returns-then-not-may_begin-clause-carries
returns-then-not-may_begin-clause-carries g c = let r = c.may_begin.ensures.rest in stays g.S.Store.disk g.T.Write.contents g.T.Read.remaining c.args.self.now _ _ _ refl
    (ap (λ s. s.stream) r) (ap (λ s. drop s.written s.output.items) r) (ap (λ s. drop s.input.handed s.input.bytes.items) r) c.may_begin.ensures.over_stays
    (ap (λ s. s.is_lost) r)

pub returns-then-not-is_short-clause-carries : goal.returns-then-not-is_short-clause-carries
returns-then-not-is_short-clause-carries g c =
    let r = c.may_begin.ensures.rest in
    let old = c.args.self.now.input in let mid = c.may_begin.new.self.input in let new = c.advance-count.new.self in
    let is_cut = cut old.handed c.advance-count.result new.handed old.bytes.items (c.advance-count.ensures.handed ∙ ap (λ s. s.input.handed + c.advance-count.result) r) in
    let bytes = c.advance-count.ensures.bytes ∙ ap (λ s. s.input.bytes) r in
    hands g.S.Store.disk g.T.Write.contents g.T.Read.remaining c.args.self.now _ _ _ c.passed-piece.result.now
    (subst (λ n. Happens g.S.Store.disk (Comes n c.passed-piece.result.now) c.args.host.now.broker c.input.new.self.broker) (ap (λ s. s.connection) r) c.input.ensures.happens)
    (ap (λ s. s.stream) r) (ap (λ s. drop s.written s.output.items) r)
    (is_cut ∙ ap (λ b. take c.advance-count.result (drop (new.handed - c.advance-count.result) b.items) ++ drop new.handed b.items) (sym bytes)
    ∙ ap (λ x. x ++ drop new.handed new.bytes.items) (sym c.passed-piece.ensures)
    ∙ ap (λ x. c.passed-piece.result.now ++ x) (sym c.tidy.ensures.bytes))
    (there c.args.self.now.is_over (vec_len c.args.self.now.output - c.args.self.now.written) c.args.self.now.connection c.args.host.now.broker.state c.requires)
    c.if-self.false (ap (λ s. s.is_lost) r)

pub returns-clause-carries : goal.returns-clause-carries
returns-clause-carries g c =
    let r = c.read_piece-read.ensures.rest in
    reads g.S.Store.disk g.T.Write.contents g.T.Read.remaining c.args.self.now c.read_piece-read.new.self _ _ _ (take c.read_piece-read.result c.read_piece-read.new.piece)
    c.read_piece-read.ensures.came c.take_in.ensures.hands_on c.read_piece-read.ensures.connection c.take_in.ensures.stream
    (c.take_in.ensures.unwritten ∙ ap (λ s. drop s.written s.output.items) r) (ap (λ s. drop s.input.handed s.input.bytes.items) r)
    (there c.args.self.now.is_over (vec_len c.args.self.now.output - c.args.self.now.written) c.args.self.now.connection c.args.host.now.broker.state c.requires)
    c.if-self.false (ap (λ s. s.is_lost) r)
