-- Lines of one kind, of which at most 16 are told in a second.
use Rattle.std.specs.Prelude.{◌+◌, ◌-◌, ◌^◌, ◌==◌, ℕ, Bool, nat_lt, min, if◌then◌else◌}
use Rattle.kb_operator.specs.declared.bucket.Bucket.{Bucket}

-- none was told in a second that is another one
abbrev pub at_second : ℕ → Bucket → Bucket
at_second second b = if second == b.second then b else record { second = second; told = 0; more = b.more }

abbrev pub has_room : Bucket → Bool
has_room b = nat_lt b.told 16

-- one more is told where there is room, and else passed over
abbrev pub with_line : Bucket → Bucket
with_line b =
    if has_room b then record { second = b.second; told = b.told + 1; more = b.more }
    else record { second = b.second; told = b.told; more = min (b.more + 1) (2 ^ 64 - 1) }

-- so many more are passed over; their count stays at 2^64 - 1
abbrev pub with_more : ℕ → Bucket → Bucket
with_more n b = record b { more = min (b.more + n) (2 ^ 64 - 1) }

-- what was passed over is told of once its second is over
abbrev pub due_at : ℕ → Bucket → ℕ
due_at second b = if second == b.second then 0 else b.more

abbrev pub told_of : ℕ → Bucket → Bucket
told_of second b = if second == b.second then b else record { second = b.second; told = b.told; more = 0 }
