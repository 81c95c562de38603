use Rattle.std.proofs.Common.{[], ap, ◌∙◌, ◌++◌, sym}
use Rattle.std.proofs.lemmas.Result.{on_ok_weaker}
use Rattle.kb_wire.specs.Codec.{blob, string}
use Rattle.kb_coordinator.proofs.Told.{member_written}
use Rattle.kb_coordinator.proofs.describe.put_member.Goals as goal

pub returns : goal.returns
returns c = on_ok_weaker c.put_blob-2.result (λ last.
    member_written _ [] [] _ _ c.args.sink.now.bytes c.put_text.new.sink.bytes c.put_text-2.new.sink.bytes c.put_text-3.new.sink.bytes c.put_blob.new.sink.bytes c.put_blob-2.new.sink.bytes
    (c.in_ok-put_text.ensures ∙ ap (λ x. c.args.sink.now.bytes ++ string.written x) (c.as_slice.ensures ∙ c.in_ok-id.ensures))
    c.in_ok-put_text-2.ensures c.in_ok-put_text-3.ensures
    (c.in_ok-put_blob.ensures ∙ ap (λ x. c.put_text-3.new.sink.bytes ++ blob.written x) c.metadata_under.ensures)
    (last ∙ ap (λ x. c.put_blob.new.sink.bytes ++ blob.written x) c.assignment_under.ensures)) c.put_blob-2.ensures
