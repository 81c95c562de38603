-- When replies go out, and when what was done is made to last.
use Rattle.std.specs.Prelude.{◌≡◌, ℕ, ◌+◌, ◌-◌, ◌^◌, min, Bool, true, false, not, ◌&&◌, ◌||◌, nat_le, if◌then◌else◌, is_none}
use Rattle.kb_store.specs.Disk.{Disk}
use Rattle.kb_store.specs.Loss.{Loss, Only}
use Rattle.kb_settings.specs.declared.sync.Sync.{Sync}
use Rattle.kb_settings.specs.declared.sync.Sync.TheVariants as syncs
use Rattle.kb_broker.specs.Hosts.{OnStore}
use Rattle.kb_node.specs.declared.commits.Commits.{Commits}

-- 1. Replies

-- replies wait for a commit
abbrev pub holds_back : Sync → Bool
holds_back syncs.Always = true
holds_back syncs.Interval = false
holds_back syncs.Never = false

-- Replies may go out: no commit was refused, and where they wait for one all that was done is committed.
abbrev pub may_tell : Commits → Bool
may_tell c = is_none c.fault && (not (holds_back c.sync) || c.is_committed)

-- they may go out whatever is handed on
abbrev pub tells_at_once : Commits → Bool
tells_at_once c = is_none c.fault && not (holds_back c.sync)

-- 2. Commits at times

abbrev pub is_at_times : Sync → Bool
is_at_times syncs.Always = false
is_at_times syncs.Interval = true
is_at_times syncs.Never = false

-- the moment of the next commit, so long after the last: the greatest number where there is nothing to commit
abbrev pub next_commit : Commits → ℕ
next_commit c = if is_at_times c.sync && not c.is_committed then min (c.last + c.millis) (2 ^ 64 - 1) else 2 ^ 64 - 1

-- there is something to commit, and the last commit is so long ago
abbrev pub is_due : ℕ → Commits → Bool
is_due now c = is_at_times c.sync && not c.is_committed && nat_le (min (c.last + c.millis) (2 ^ 64 - 1)) now

-- 3. What a commit is good for

-- A broker, what is known of its commits, and the greatest number that a connection had, those among them that could not be kept.
pub record Host (S : Type 0) : Type 0 where
  pub broker : OnStore S
  pub commits : Commits
  pub tried : ℕ

-- A loss of power leaves the files of a store as they are, and nothing else, where it has told the truth and put nothing off.
abbrev pub Lasts : {S : Type 0} → (S → Type 0) → (S → Disk) → (S → Loss) → S → Type 0
Lasts settled disk loss store = settled store → (disk store).honest → Only (disk store).files (loss store)
