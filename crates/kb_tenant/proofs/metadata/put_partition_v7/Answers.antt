use Rattle.std.proofs.Common.{◌≡◌, ◌∙◌, ◌++◌, ◌∷◌, [], List, ℕ, get_or, ap, sym, w32}
use Rattle.std.specs.Prelude.{pos}
use Rattle.std.proofs.lemmas.Int.{to_z_pos}
use Rattle.std.proofs.lemmas.Result.{on_ok_weaker}
use Rattle.kb_wire.specs.Codec.{int, int32}
use Rattle.kb_tenant.proofs.Described.{partition_bytes_v7}
use Rattle.kb_tenant.proofs.metadata.put_partition_v7.Goals as goal

pub returns : goal.returns
unfolding int
returns c =
    let bytes = c.to_be_bytes.result in
    let is : bytes ≡ int32.written (pos c.args.partition) = c.to_be_bytes.ensures ∙ ap int32.written (to_z_pos w32 c.args.partition c.requires) in
    let each : bytes ≡ get_or bytes 0 0 ∷ get_or bytes 1 0 ∷ get_or bytes 2 0 ∷ get_or bytes 3 0 ∷ [] =
    c.to_be_bytes.ensures ∙ sym (ap (λ (l : List ℕ). get_or l 0 0 ∷ get_or l 1 0 ∷ get_or l 2 0 ∷ get_or l 3 0 ∷ []) c.to_be_bytes.ensures) in
    on_ok_weaker c.put_bytes.result (λ last. last ∙ ap (λ x. c.args.sink.now.bytes ++ x) (partition_bytes_v7 c.args.partition _ _ _ _ (sym is ∙ each))) c.put_bytes.ensures.ok
