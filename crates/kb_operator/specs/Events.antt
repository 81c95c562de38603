-- What is told of what happens to a broker: each text is a line of its own.
use Rattle.std.specs.Prelude.{◌++◌, ℕ, List, [], ◌∷◌, codes, decimal, nat_lt, if◌then◌else◌}
use Rattle.kb_server_log.specs.declared.guard.Notice.{Notice}
use Rattle.kb_server_log.specs.declared.guard.Notice.TheVariants.{Ahead, Taken, Back}
use Rattle.kb_operator.specs.declared.journal.Journal.{Journal}
use Rattle.kb_operator.specs.Bucket.{told_of}
use Rattle.kb_operator.specs.Logins.{due_lines}

-- so many producer ids of a tenant's catalog were lost
abbrev pub lost_ids_line : List ℕ → ℕ → List ℕ
lost_ids_line tenant lost = codes "producer ids that the catalog of tenant " ++ tenant ++ codes " had lost: " ++ decimal lost

-- what the wall clock did
abbrev pub notice_text : Notice → List ℕ
notice_text Ahead = codes "the clock went ahead: it is not followed for ten minutes"
notice_text Taken = codes "the clock was ahead for ten minutes: it is followed"
notice_text Back = codes "the clock is no longer ahead"

-- how many milliseconds a commit took, if it took more than a second
abbrev pub commit_lines : ℕ → List (List ℕ)
commit_lines millis = if nat_lt 1000 millis then (codes "a commit took " ++ decimal millis ++ codes " ms") ∷ [] else []

-- .. and a turn without one
abbrev pub turn_lines : ℕ → List (List ℕ)
turn_lines millis = if nat_lt 1000 millis then (codes "a turn took " ++ decimal millis ++ codes " ms") ∷ [] else []

-- what was passed over in seconds before: logins that were right, those that failed, and connections that were shut
abbrev pub passed_over_lines : {T : Type 0} → ℕ → Journal T → List (List ℕ)
passed_over_lines second j =
    due_lines (codes "login of others: ") second j.logins ++ due_lines (codes "login failed from others: ") second j.failed
    ++ due_lines (codes "closed others: ") second j.shut

-- they are told of then
abbrev pub passed_over : {T : Type 0} → ℕ → Journal T → Journal T
passed_over second j =
    record j { logins = told_of second j.logins; failed = told_of second j.failed; shut = told_of second j.shut }
