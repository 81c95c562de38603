-- Why a file is of no log, by what its first bytes say.
use Rattle.std.specs.Prelude.{◌-◌, ◌==◌, ◌&&◌, ℕ, Bool, true, false, nat_le, nat_lt, List, [], ◌∷◌, length, take, Option, Some, None, if◌then◌else◌}
use Rattle.std.specs.Int.{w16, w32}
use Rattle.std.specs.List.{list_any, range_with_len}
use Rattle.std.specs.Str.{bytes_eq}
use Rattle.kb_batch.specs.Batch.{is_natural, natural}
use Rattle.kb_batch.specs.Header.{number_at}
use Rattle.kb_segment.specs.Header.{Header, header_in, is_sealed}
use Rattle.kb_survey.specs.declared.stray.Stray.{Stray}
use Rattle.kb_survey.specs.declared.stray.Stray.TheVariants.{Short, Unreadable, LaterVersion}
use Rattle.kb_survey.specs.declared.stray.Stray.TheVariants.{OfNobody, NeverGivenOut, Unfinished, OfNoTopic}

-- of some tenants' next instances that of the tenant of a name
abbrev pub next_of : List ℕ → List (List ℕ) → List ℕ → Option ℕ
next_of name [] nexts = None
next_of name (n ∷ names) [] = None
next_of name (n ∷ names) (next ∷ nexts) = if bytes_eq name n then Some next else next_of name names nexts

-- it is of a catalog's generation above the first one, which begins with a snapshot
abbrev pub is_of_snapshot : Header → Bool
is_of_snapshot h = is_natural 1 h.kind && nat_lt 0 (natural h.generation)

-- A file of a topic is of none that was ever made where its instance was not given out yet.
abbrev pub is_never_given_out : Header → ℕ → Bool
is_never_given_out h next = is_natural 0 h.kind && nat_le next (natural h.instance)

-- Of a tenant that gives out an instance next: the snapshot was not finished, or this one took its place.
abbrev pub stray_by : Header → Option ℕ → Stray
stray_by h None = OfNobody
stray_by h (Some next) =
    if is_of_snapshot h then Unfinished else (if is_never_given_out h next then NeverGivenOut else OfNoTopic)

abbrev pub stray_with : Header → List (List ℕ) → List ℕ → Stray
stray_with h names nexts = stray_by h (next_of h.tenant names nexts)

-- a version above 2 stands behind the magic number
abbrev pub is_above : List ℕ → Bool
is_above s = (number_at w32 0 s == 1262637895) && nat_lt 2 (number_at w16 4 s)

-- Some first bytes have their CRC-32C behind them: the first six, with magic number and version, or more.
abbrev pub has_checksum : List ℕ → Bool
has_checksum s = list_any (λ n. is_sealed n s) (range_with_len 6 (length s - 6))

-- A header of a later version begins and ends as each does, and has at most 1,024 bytes. What stands in between is not known here.
abbrev pub is_later : List ℕ → Bool
is_later s = is_above s && has_checksum s

abbrev pub unreadable : List ℕ → Stray
unreadable s = if is_later (take 1024 s) then LaterVersion else Unreadable

abbrev pub stray_read : List ℕ → Option Header → List (List ℕ) → List ℕ → Stray
stray_read s None names nexts = unreadable s
stray_read s (Some h) names nexts = stray_with h names nexts

-- Why a file of those bytes is of no log of those tenants, whose catalogs have not given out those instances yet. The shortest header
-- has 35 bytes.
abbrev pub stray_of : List ℕ → List (List ℕ) → List ℕ → Stray
stray_of s names nexts = if nat_lt (length s) 35 then Short else stray_read s (header_in s) names nexts

-- it is of a topic or a kind of file that the tenants' catalogs do not know yet
abbrev pub is_unfit : Stray → Bool
is_unfit NeverGivenOut = true
is_unfit LaterVersion = true
is_unfit Short = false
is_unfit Unreadable = false
is_unfit OfNobody = false
is_unfit Unfinished = false
is_unfit OfNoTopic = false
