use Rattle.std.proofs.Common.{◌≡◌, ◌++◌, ℕ, List, ap, append_assoc, codes, sym}
use Rattle.std.specs.Int.{w32}
use Rattle.std.specs.Fmt.{signed_decimal}
use Rattle.std.proofs.lemmas.Int.{to_z-of_z}
use Rattle.kb_topic_command.proofs.Spelled.{spelled}
use Rattle.kb_topic_command.proofs.texts.made_line.Goals as goal

-- the words of the line, one behind the other
words : (name partitions : List ℕ)
    → codes "made " ++ (name ++ (codes ", partitions: " ++ (partitions ++ codes "\n")))
    ≡ codes "made " ++ name ++ codes ", partitions: " ++ partitions ++ codes "\n"
words name partitions = sym (simp append_assoc)

pub returns : goal.returns
returns c =
    let partitions = ap signed_decimal (to_z-of_z w32 c.args.partitions c.ranges.partitions) in
    spelled _ _ _ c.format.ensures.ok (rw partitions (words c.args.name.now (signed_decimal c.args.partitions)))
