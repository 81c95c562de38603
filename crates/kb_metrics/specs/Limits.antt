-- The limits of a tenant.
use Rattle.std.specs.Prelude.{ℕ, List, [], ◌∷◌, codes, decimal, Option, None, Some}
use Rattle.kb_metrics.specs.Text.{behind_text}
use Rattle.kb_metrics.specs.declared.limits.LimitRow.{LimitRow}
use Rattle.kb_metrics.specs.declared.limits.Limits.{Limits}

abbrev pub limit_row : LimitRow → List ℕ × Option ℕ
limit_row l = (l.what.now, l.most)

-- each limit with what it is of; none where there is no limit
unfoldable pub each_limit : Limits → List (List ℕ × Option ℕ)
each_limit l =
    (codes "topics", l.topics) ∷ (codes "partitions", l.partitions) ∷ (codes "offsets", l.offsets) ∷ (codes "bytes", l.bytes)
    ∷ (codes "fetch_bytes", l.fetch_bytes) ∷ (codes "groups", l.groups) ∷ (codes "group_bytes", l.group_bytes) ∷ []

-- a limit, where there is one
abbrev pub most_text : List ℕ → List ℕ → Option ℕ → List ℕ
most_text front what None = []
most_text front what (Some most) = behind_text front ((codes "what", what) ∷ []) (decimal most)

abbrev pub limit_text : List ℕ → List ℕ × Option ℕ → List ℕ
limit_text front l = most_text front l.0 l.1
