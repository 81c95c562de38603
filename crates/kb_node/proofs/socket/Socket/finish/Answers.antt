use Rattle.std.proofs.Common.{ap, refl, ◌∙◌}
use Rattle.kb_node.specs.Next.{waits_for}
use Rattle.kb_node.proofs.Carries.{noted_telling, telling_on}
use Rattle.kb_node.proofs.ToldAll.{both_noted}
use Rattle.kb_node.proofs.socket.Socket.finish.Goals as goal

pub returns-then-is_done-clause-tells : goal.returns-then-is_done-clause-tells
returns-then-is_done-clause-tells g c =
    let disk = g.S.Store.disk in let out = g.T.Write.contents in let in_ = g.T.Read.remaining in
    telling_on disk out in_ c.args.self.now c.note_denial.new.self _ c.args.host.now.broker c.args.host.now.broker _
    (noted_telling disk out in_ c.args.self.now c.note_login.new.self c.note_denial.new.self c.args.host.now.broker c.requires c.note_login.ensures.rest c.note_denial.ensures.rest)
    c.end.ensures.tells

pub returns-clause-tells : goal.returns-clause-tells
returns-clause-tells g c =
    (noted_telling g.S.Store.disk g.T.Write.contents g.T.Read.remaining c.args.self.now c.note_login.new.self c.note_denial.new.self c.args.host.now.broker c.requires
    c.note_login.ensures.rest c.note_denial.ensures.rest).tells

pub returns-clause-rest : goal.returns-clause-rest
returns-clause-rest g c = λ _. (
  refl,
  both_noted c.args.self.now c.note_login.new.self _ c.note_login.ensures.rest c.note_denial.ensures.rest,
  c.next.ensures.next ∙ ap (λ x. waits_for c.note_denial.new.self x.state) c.broker-4.ensures,
)
