use Rattle.std.proofs.Common.{◌-◌, ◌∙◌, inl, sym, arith}
use Rattle.kb_node.proofs.Carries.{StaysTelling, telling_on, writes_told}
use Rattle.kb_node.specs.Known.{telling}
use Rattle.kb_node.proofs.ToldAll.{all_written, heard_all, heard_later, none_after, none_unwritten, told_kept}
use Rattle.kb_node.proofs.socket.Socket.write_all.Goals as goal

pub returns-then-unwritten-eq0-clause-tells : goal.returns-then-unwritten-eq0-clause-tells
returns-then-unwritten-eq0-clause-tells g c =
    let put = c.write_on.ensures.written in
    let disk = g.S.Store.disk in let out = g.T.Write.contents in let in_ = g.T.Read.remaining in
    let known = telling g.S.Store.settled disk g.S.Store.loss c.args.host.now.commits in
    let first : StaysTelling disk known out in_ c.args.self.now c.write_on.new.self c.args.host.now.broker c.args.host.now.broker = record {
      tells = writes_told disk out in_ c.args.self.now c.write_on.new.self c.args.host.now.broker put.0 put.1 put.2 c.write_on.ensures.unhanded c.write_on.ensures.over c.write_on.ensures.lost;
      connection = c.write_on.ensures.connection;
      ended = c.write_on.ensures.ended ∙ c.requires.not_ended;
    } in
    telling_on disk out in_ c.args.self.now c.write_on.new.self _ c.args.host.now.broker c.args.host.now.broker _ first c.write_output.ensures.tells

pub returns-then-unwritten-eq0-clause-told : goal.returns-then-unwritten-eq0-clause-told
returns-then-unwritten-eq0-clause-told g c =
    let told = c.write_output.ensures.told (inl (all_written c.write_on.new.self (omega (arith, c.if-unwritten-eq0.true, c.unwritten.ensures)))) in
    record { all = λ turn. told; heard = heard_all c.write_output.new.self c.write_output.new.host.broker.state told }

pub returns-else-unwritten-eq0-clause-tells : goal.returns-else-unwritten-eq0-clause-tells
returns-else-unwritten-eq0-clause-tells g c =
    let put = c.write_on.ensures.written in
    writes_told g.S.Store.disk g.T.Write.contents g.T.Read.remaining c.args.self.now c.write_on.new.self c.args.host.now.broker put.0 put.1 put.2
    c.write_on.ensures.unhanded c.write_on.ensures.over c.write_on.ensures.lost

pub returns-else-unwritten-eq0-clause-told : goal.returns-else-unwritten-eq0-clause-told
returns-else-unwritten-eq0-clause-told g c =
    let put = c.write_on.ensures.written in
    record {
      all = λ turn. told_kept c.args.self.now c.write_on.new.self c.args.host.now.broker.state put.0 c.write_on.ensures.connection c.write_on.ensures.answer put.2
          (λ all. absurd (omega (arith, c.if-unwritten-eq0.false, c.unwritten.ensures, none_unwritten c.write_on.new.self (none_after put.0 _ (sym all ∙ put.2)))))
          turn;
      heard = heard_later c.write_on.new.self c.args.host.now.broker.state
          (λ none. absurd (omega (arith, c.if-unwritten-eq0.false, c.unwritten.ensures, none)));
    }
