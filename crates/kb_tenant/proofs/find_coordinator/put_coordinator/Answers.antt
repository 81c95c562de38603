use Rattle.std.proofs.Common.{rules, ◌≡◌, of_z, subst, sym, to_z, w16, w32}
use Rattle.std.proofs.lemmas.Result.{on_ok_weaker}
use Rattle.kb_wire.specs.Codec.{int, string}
use Rattle.kb_wire.specs.Fits.{null_string_fits}
use Rattle.kb_api_group.specs.Layouts.{find_coordinator_reply}
use Rattle.kb_tenant.proofs.Coordinator.{message_written}
use Rattle.kb_tenant.proofs.find_coordinator.put_coordinator.Goals as goal

pub put_nullable_string-requires : goal.put_nullable_string-requires
put_nullable_string-requires c = null_string_fits

pub put_string-requires : goal.put_string-requires
unfolding find_coordinator_reply int
put_string-requires c = subst string.Fits (sym c.as_str.ensures) c.requires.1.1.0

pub returns : goal.returns
returns c = on_ok_weaker c.put_i32-2.result (λ last.
    let reply = c.args.reply.now in
    let code : to_z w16 (of_z w16 reply.error_code) ≡ reply.error_code = search rules in
    let id : to_z w32 (of_z w32 reply.node_id) ≡ reply.node_id = search rules in
    let port : to_z w32 (of_z w32 reply.port) ≡ reply.port = search rules in
    message_written c.args.has_message reply _ _ _ _ c.args.sink.now.bytes c.put_i16.new.self.bytes c.put_nullable_string.new.self.bytes
    c.put_i32.new.self.bytes c.put_string.new.self.bytes c.put_i32-2.new.self.bytes c.if-not-has_message.false code id c.as_str.ensures port
    c.in_ok-put_i16.ensures.ok c.in_ok-put_nullable_string.ensures.ok c.in_ok-put_i32.ensures.ok c.in_ok-put_string.ensures.ok last)
    c.put_i32-2.ensures.ok
