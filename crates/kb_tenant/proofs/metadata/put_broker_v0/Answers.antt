use mir.Val.{to_z, of_z}
use Rattle.std.proofs.Common.{◌≡◌, ◌∙◌, sym, ap, refl, subst, ◌++◌, lit<, w32}
use Rattle.std.proofs.lemmas.Int.{to_z-of_z}
use Rattle.std.proofs.lemmas.Result.{on_ok_weaker}
use Rattle.kb_wire.specs.Codec.{int, string, count}
use Rattle.kb_api_data.specs.Layouts.{metadata_broker_v0}
use Rattle.kb_tenant.specs.Metadata.{broker, broker_v0}
use Rattle.kb_tenant.proofs.Described.{broker_v0_written}
use Rattle.kb_tenant.proofs.Fitting.{small_count, one_written, written_both}
use Rattle.kb_tenant.proofs.metadata.put_broker_v0.Goals as goal

pub put_count-requires : goal.put_count-requires
put_count-requires c = small_count 1 (lit< tt)

pub write-requires : goal.write-requires
unfolding metadata_broker_v0 int
write-requires c = λ k. ((refl, tt), (tt, (subst string.Fits (sym (c.new.ensures ∙ c.as_str.ensures)) c.requires, tt)))

pub returns : goal.returns
returns c = on_ok_weaker c.write.result (λ last.
    let old = c.args.sink.now.bytes in
    let one = broker_v0 (broker c.args.node.now) in
    let start = c.put_count.new.self.bytes in
    let wrote : c.write.new.sink.bytes ≡ start ++ metadata_broker_v0.written one =
    last
    ∙ ap (λ x. start ++ x) (broker_v0_written c.args.node.now c.new.result (to_z w32 (of_z w32 c.from.result)) (c.new.ensures ∙ c.as_str.ensures) (to_z-of_z w32 c.from.result (record { sfits = c.from.type_inv }) ∙ c.from.ensures)) in
    written_both old start c.write.new.sink.bytes ((count w32).written 1) (metadata_broker_v0.written one) c.in_ok-put_count.ensures.ok wrote ∙ ap (λ x. old ++ x) (one_written metadata_broker_v0 one)) c.write.ensures.ok
