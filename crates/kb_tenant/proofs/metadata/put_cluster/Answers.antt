use Rattle.std.proofs.Common.{◌∙◌, ◌++◌, ◌∷◌, [], sym, ap, subst}
use Rattle.std.specs.Prelude.{pos, Some}
use Rattle.std.proofs.lemmas.Result.{on_ok_weaker}
use Rattle.kb_wire.specs.Codec.{array, int32, nullable_string}
use Rattle.kb_api_data.specs.Layouts.{metadata_broker}
use Rattle.kb_tenant.specs.Metadata.{broker}
use Rattle.kb_tenant.proofs.Fitting.{text_fits_nullable, written_both}
use Rattle.kb_tenant.proofs.metadata.put_cluster.Goals as goal

pub put_nullable_string-requires : goal.put_nullable_string-requires
put_nullable_string-requires c =
    subst (λ s. nullable_string.Fits (Some s)) (sym (c.new.ensures ∙ c.as_str.ensures)) (text_fits_nullable c.args.node.now.host c.requires)

pub returns : goal.returns
returns c = on_ok_weaker c.put_i32.result (λ last.
    let old = c.args.sink.now.bytes in
    let brokers = (array metadata_broker).written (broker c.args.node.now ∷ []) in
    let cluster = nullable_string.written (Some c.args.node.now.host) in
    let self = int32.written (pos 0) in
    let told = c.in_ok-put_nullable_string.ensures.ok
    ∙ ap (λ s. c.put_broker.new.sink.bytes ++ nullable_string.written (Some s)) (c.new.ensures ∙ c.as_str.ensures) in
    written_both old c.put_broker.new.sink.bytes c.put_i32.new.self.bytes brokers (cluster ++ self) c.in_ok-put_broker.ensures
    (written_both c.put_broker.new.sink.bytes c.put_nullable_string.new.self.bytes c.put_i32.new.self.bytes cluster self told last)) c.put_i32.ensures.ok
