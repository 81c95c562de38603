-- What is told of what a start found in a folder: each text is a line of its own.
use Rattle.std.specs.Prelude.{◌-◌, ◌++◌, ℕ, zero, suc, List, [], codes, decimal, map, take, length, nat_lt, if◌then◌else◌, Option, Some, None, string_bytes}
use Rattle.std.specs.List.{flat_map}
use Rattle.std.specs.declared.string.String.{String}
use Rattle.kb_server_log.specs.Change.{change_at}
use Rattle.kb_server_log.specs.declared.change.Change.{Change}
use Rattle.kb_server_log.specs.declared.change.Change.TheVariants.{Ahead, Recent, Old}
use Rattle.kb_start.specs.declared.deleted.Deleted.{Deleted}
use Rattle.kb_start.specs.declared.losses.StrayCounts.{StrayCounts}
use Rattle.kb_operator.specs.declared.journal.Held.{Held}
use Rattle.kb_operator.specs.declared.journal.Word.{Word}
use Rattle.kb_operator.specs.declared.journal.Word.TheVariants as words
use Rattle.kb_operator.specs.Logged.{texts_of}

-- a count between words, if there is one
abbrev pub count_text : List ℕ → ℕ → List ℕ → Option (List ℕ)
count_text front n behind = if nat_lt 0 n then Some (front ++ (decimal n ++ behind)) else None

-- ---- what a broker has that opened

abbrev pub held_line : Held → List ℕ
held_line h =
    codes "tenants " ++ (decimal h.tenants ++ (codes ", topics " ++ (decimal h.topics ++ (codes ", partitions " ++ (decimal h.partitions
    ++ (codes ", files " ++ (decimal h.files.files ++ (codes ", bytes " ++ (decimal h.files.bytes ++ (codes ", stray files " ++ decimal h.strays))))))))))

-- the same behind a word; a broker that serves has so many connections at most, and a sync of that name
abbrev pub found_line : Word → Held → ℕ → List ℕ → List ℕ
found_line words.Start h connections sync =
    codes "start: " ++ (held_line h ++ (codes ", connections at most " ++ (decimal connections ++ (codes ", sync " ++ sync))))
found_line words.Found h connections sync = codes "found: " ++ held_line h

-- ---- what a start keeps, leaves aside and removes

-- of so many parts of files that are kept, those that are dropped, and then so many whole files that are set aside
abbrev pub kept_lines : ℕ → ℕ → List ℕ → List (List ℕ)
kept_lines parts aside path =
    texts_of (count_text (codes "kept what is dropped of damaged files: ") (parts - aside) (codes ", in " ++ path))
    ++ texts_of (count_text (codes "set aside files that the settings do not fit: ") aside (codes ", in " ++ path))

-- how many files are of a tenant that no user names
abbrev pub nobody_line : {A : Type 0} → String A × ℕ → List ℕ
nobody_line e = codes "stray files of tenant " ++ (string_bytes e.0 ++ (codes ", which no user names: " ++ decimal e.1))

abbrev pub stray_lines : StrayCounts → List (List ℕ)
stray_lines s =
    map nobody_line s.of_nobody.entries
    ++ texts_of (count_text (codes "stray files that are shorter than a header: ") s.short [])
    ++ texts_of (count_text (codes "stray files whose header cannot be read: ") s.unreadable [])
    ++ texts_of (count_text (codes "stray files of catalogs' snapshots that were not finished: ") s.unfinished [])

-- how many files are of a tenant's deleted topics
abbrev pub deleted_part : {A : Type 0} → String A × ℕ → List ℕ
deleted_part e = codes ", of tenant " ++ (string_bytes e.0 ++ (codes " " ++ decimal e.1))

-- how many tenants are not named, if any are not
abbrev pub more_part : ℕ → List ℕ
more_part zero = []
more_part (suc n) = codes ", of " ++ (decimal (suc n) ++ codes " tenants more")

-- how many files of deleted topics are removed, and of which 40 tenants first; none where there are none
abbrev pub deleted_text : Deleted → Option (List ℕ)
deleted_text d =
    if nat_lt 0 (length d.files.items)
    then Some (codes "removes files of deleted topics: " ++ decimal (length d.files.items)
    ++ flat_map deleted_part (take 40 d.by_tenant.entries) ++ more_part (length d.by_tenant.entries - 40))
    else None

-- ---- where a clock is, seen from the last change of a file

-- a change that is ahead of it, or more than a day ago, with its time; none where it was within the day before
abbrev pub change_by : Change → List ℕ → Option (List ℕ)
change_by Ahead time = Some (codes "the clock is before the last change of a file: " ++ time)
change_by Recent time = None
change_by Old time = Some (codes "the last change of a file is more than a day ago: " ++ time)

abbrev pub change_text : ℕ → Option ℕ → List ℕ → Option (List ℕ)
change_text now None time = None
change_text now (Some changed) time = change_by (change_at now changed) time
