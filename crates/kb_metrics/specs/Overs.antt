-- How often a tenant was told that it is past a limit, by what is limited.
use Rattle.std.specs.Prelude.{ℕ, List, [], ◌∷◌, codes, decimal}
use Rattle.kb_metrics.specs.Text.{behind_text}
use Rattle.kb_metrics.specs.declared.overs.OverRow.{OverRow}
use Rattle.kb_over_limit.specs.declared.over.OverLimit.{OverLimit}

abbrev pub over_row : OverRow → List ℕ × ℕ
over_row o = (o.what.now, o.count)

-- each limit with how often it was passed
unfoldable pub each_over : OverLimit → List (List ℕ × ℕ)
each_over o =
    (codes "topics", o.topics) ∷ (codes "partitions", o.partitions) ∷ (codes "offsets", o.offsets) ∷ (codes "bytes", o.bytes)
    ∷ (codes "groups", o.groups) ∷ (codes "group_bytes", o.group_bytes) ∷ []

abbrev pub over_text : List ℕ → List ℕ × ℕ → List ℕ
over_text front o = behind_text front ((codes "what", o.0) ∷ []) (decimal o.1)
