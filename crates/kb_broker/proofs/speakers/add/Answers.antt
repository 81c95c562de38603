use Rattle.std.proofs.Common.{◌≤◌, ◌∙◌, suc, length, arith}
use Rattle.std.specs.Vec.{vec_capacity}
use Rattle.kb_broker.specs.Speakers.{IsHeard}
use Rattle.kb_broker.proofs.Heard.{heard-added}
use Rattle.kb_broker.proofs.speakers.add.Goals as goal

pub returns-in-Ok-clause-heard : goal.returns-in-Ok-clause-heard
returns-in-Ok-clause-heard c =
    let ls = c.args.connections.now.items in
    let ns = c.reserve.new.self in
    let kept : IsHeard ns ls = record { numbers = c.reserve.ensures.items ∙ c.requires.heard.numbers; room = (let room = c.requires.heard.room in let grown = c.reserve.ensures.capacity in omega (arith, room, grown)) } in
    let room : suc (length ls) ≤ vec_capacity ns = (let ok = c.in_ok-reserve.ensures.ok in let len = c.len.ensures in let many = c.args.connections.now.ok.0 in omega (arith, ok, len, many)) in
    heard-added ls c.push.new.self.items c.args.connection ns kept c.requires.silent c.in-Ok.ensures.items room
