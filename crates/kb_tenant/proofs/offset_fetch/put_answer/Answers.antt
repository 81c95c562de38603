use Rattle.std.proofs.Common.{◌<◌, ◌^◌, sym, ap, subst, length, arith, to_z, of_z, w16, w32, w64}
use Rattle.std.proofs.lemmas.Int.{to_z-of_z}
use Rattle.std.proofs.lemmas.Result.{on_ok_weaker}
use Rattle.std.specs.Prelude.{Some}
use Rattle.kb_wire.specs.Codec.{nullable_string}
use Rattle.kb_wire.specs.Fits.{nullable_string_fits}
use Rattle.kb_tenant.proofs.OffsetsKept.{answer_written}
use Rattle.kb_tenant.proofs.offset_fetch.put_answer.Goals as goal

pub put_nullable_string-requires : goal.put_nullable_string-requires
put_nullable_string-requires c =
    let small : length c.args.metadata.now < 2 ^ 15 = omega (arith, c.if-metadata.false) in
    subst (λ s. nullable_string.Fits (Some s)) (sym c.new.ensures) (nullable_string_fits c.args.metadata.now small)

pub returns : goal.returns
returns c = on_ok_weaker c.put_i16.result (λ last.
    answer_written c.args.has_epochs c.args.partition _ c.args.offset _ _ c.args.metadata.now _ c.args.sink.now.bytes c.put_i32.new.self.bytes c.put_i64.new.self.bytes c.put_epoch.new.sink.bytes c.put_nullable_string.new.self.bytes c.put_i16.new.self.bytes
    (to_z-of_z w32 c.args.partition c.ranges.partition) (to_z-of_z w64 c.args.offset c.ranges.offset) (ap Some c.new.ensures) (ap (λ x. to_z w16 (of_z w16 x)) c.code.ensures)
    c.in_ok-put_i32.ensures.ok c.in_ok-put_i64.ensures.ok c.in_ok-put_epoch.ensures c.in_ok-put_nullable_string.ensures.ok last) c.put_i16.ensures.ok
