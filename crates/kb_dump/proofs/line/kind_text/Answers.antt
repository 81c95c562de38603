use Rattle.std.proofs.Common.{◌∙◌, ap, sym, append_assoc}
use Rattle.std.specs.Int.{w32, w64}
use Rattle.std.specs.Fmt.{signed_decimal}
use Rattle.std.proofs.lemmas.Int.{to_z-of_z}
use Rattle.kb_dump.proofs.Words.{spelled}
use Rattle.kb_dump.proofs.line.kind_text.Goals as goal

pub returns-then-is_partition : goal.returns-then-is_partition
returns-then-is_partition c =
    let instance = ap signed_decimal (to_z-of_z w64 c.instance-instance.result (record { sfits = c.instance-instance.type_inv }) ∙ c.instance-instance.ensures) in
    let partition = ap signed_decimal (to_z-of_z w32 c.partition-partition.result (record { sfits = c.partition-partition.type_inv }) ∙ c.partition-partition.ensures) in
    let kind = sym c.is_partition.ensures ∙ c.if-is_partition.true in
    spelled _ _ _ c.format.ensures.ok (simp (append_assoc, instance, partition, kind))

pub returns : goal.returns
returns c =
    let kind = sym c.is_partition.ensures ∙ c.if-is_partition.false in
    let first = sym c.is_first.ensures ∙ c.if-is_first.false in
    let generation = ap signed_decimal (to_z-of_z w64 c.generation-generation.result (record { sfits = c.generation-generation.type_inv }) ∙ c.generation-generation.ensures) in
    spelled _ _ _ c.format-2.ensures.ok (simp (append_assoc, kind, first, generation))
