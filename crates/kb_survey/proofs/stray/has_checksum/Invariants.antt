use Rattle.std.proofs.Common.{◌≡◌, ◌-◌, length}
use Rattle.std.specs.List.{list_any, range_with_len}
use Rattle.kb_segment.specs.Header.{is_sealed}
use Rattle.kb_survey.specs.Stray.{has_checksum}
use Rattle.kb_survey.proofs.stray.has_checksum.Given as goal

abbrev pub invariant-loop-said : goal.invariant-loop-said
invariant-loop-said l =
    list_any (λ n. is_sealed n l.front) (range_with_len l.said (length l.front - l.said)) ≡ has_checksum l.front
