-- What is told of sockets that were closed and of requests that were refused, by tenant, since the last line.
use Rattle.std.specs.Prelude.{◌≡◌, ◌≢◌, ◌⊎◌, ◌+◌, ◌-◌, ◌==◌, ◌&&◌, ◌||◌, ◌++◌, ℕ, zero, suc, List, [], ◌∷◌, codes, decimal, drop, length, map, take}
use Rattle.std.specs.Prelude.{Bool, true, false, not, leb, nat_lt, if◌then◌else◌}
use Rattle.std.specs.Prelude.{Option, None, Some, string_bytes}
use Rattle.std.specs.Int.{div_ceil}
use Rattle.std.specs.List.{flat_map, list_any}
use Rattle.kb_operator.specs.declared.counts.TenantRefusals.{TenantRefusals}
use Rattle.kb_operator.specs.declared.counts.Unread.{Unread}
use Rattle.kb_operator.specs.declared.journal.Closed.{Closed}
use Rattle.kb_operator.specs.declared.journal.Journal.{Journal}
use Rattle.kb_operator.specs.declared.journal.Tenant.{Tenant}
use Rattle.kb_operator.specs.Counted.{turned_away_lines}
use Rattle.kb_operator.specs.Logged.{Grows, LogLine, lines_at, missed_at, texts_of}
use Rattle.kb_operator.specs.Sums.{told}
use Rattle.kb_operator.specs.Unread.{unread_texts, with_unread}

-- ---- which tenants stand in a line

-- the tenants of so many lines, thirty in each
abbrev pub in_thirties : ℕ → List Tenant → List (List Tenant)
in_thirties zero ts = []
in_thirties (suc n) ts = take 30 ts ∷ in_thirties n (drop 30 ts)

-- those of all lines
abbrev pub in_lines : List Tenant → List (List Tenant)
in_lines ts = in_thirties (div_ceil (length ts) 30) ts

-- ---- sockets that were closed

-- counts of both together; each stays at 2^64 - 1
abbrev pub closed_with : Closed → Closed → Closed
closed_with c d = record {
  strangers = told (c.strangers + d.strangers);
  unread = told (c.unread + d.unread);
  idle = told (c.idle + d.idle);
  slow = told (c.slow + d.slow);
}

abbrev pub none_closed : Closed
none_closed = record { strangers = 0; unread = 0; idle = 0; slow = 0 }

abbrev pub is_none_closed : Closed → Bool
is_none_closed c = (c.strangers == 0) && (c.unread == 0) && (c.idle == 0) && (c.slow == 0)

-- of a tenant more were closed than were told
abbrev pub is_over : (ℕ → ℕ) → Tenant → Bool
is_over closed t = nat_lt t.sockets.told (closed t.place)

abbrev pub over_part : (ℕ → ℕ) → Tenant → List ℕ
over_part closed t =
    if is_over closed t
    then decimal (closed t.place - t.sockets.told) ++ (codes " of tenant " ++ (string_bytes t.name ++ (codes " over its "
    ++ (decimal t.connections ++ codes ", "))))
    else []

-- of some tenants, and of those that kept silent by what they did; none where no socket was closed
abbrev pub closed_line : (ℕ → ℕ) → Closed → List Tenant → Option (List ℕ)
closed_line closed c ts =
    if is_none_closed c && not (list_any (is_over closed) ts) then None
    else Some (codes "connections closed: " ++ (flat_map (over_part closed) ts ++ (decimal c.strangers ++ (codes " before a login, "
    ++ (decimal c.unread ++ (codes " that did not read, " ++ (decimal c.idle ++ (codes " that were idle, " ++ (decimal c.slow
    ++ codes " whose request took too long")))))))))

-- the lines of tenants: what kept silent stands in the first one
abbrev pub closed_lines : (ℕ → ℕ) → Closed → List (List Tenant) → List (List ℕ)
closed_lines closed c [] = []
closed_lines closed c (ts ∷ tss) = texts_of (closed_line closed c ts) ++ closed_lines closed none_closed tss

-- what kept silent and is not told of then
abbrev pub closed_left : Closed → List Tenant → Closed
closed_left c [] = c
closed_left c (t ∷ ts) = none_closed

-- a tenant is told of
abbrev pub with_closed : (ℕ → ℕ) → Tenant → Tenant
with_closed closed t = record t { sockets = record { told = closed t.place } }

-- ---- requests that were refused

abbrev pub has_grown : (ℕ → TenantRefusals) → Tenant → Bool
has_grown refused t = nat_lt t.refusals.told (refused t.place).all

-- how many of them the disk refused, if any
abbrev pub disk_part : ℕ → List ℕ
disk_part n = if nat_lt 0 n then codes " (" ++ (decimal n ++ codes " by the disk)") else []

abbrev pub refused_part : (ℕ → TenantRefusals) → Tenant → List ℕ
refused_part refused t =
    if has_grown refused t
    then codes ", tenant " ++ (string_bytes t.name ++ (codes " " ++ (decimal ((refused t.place).all - t.refusals.told)
    ++ disk_part ((refused t.place).by_disk - t.by_disk.told))))
    else []

-- how many calls the disk refused of all tenants, which is said where they stand in more than one line
abbrev pub of_all : List Tenant → List ℕ
of_all ts = if nat_lt 30 (length ts) then codes " of all tenants" else []

abbrev pub by_disk_part : ℕ → List ℕ → List ℕ
by_disk_part n whose = if nat_lt 0 n then codes "; by the disk " ++ (decimal n ++ whose) else []

-- of some tenants, and so many before a login; none where no request was refused
abbrev pub refused_line : (ℕ → TenantRefusals) → ℕ → ℕ → List ℕ → List Tenant → Option (List ℕ)
refused_line refused unbound disk whose ts =
    if (unbound == 0) && not (list_any (has_grown refused) ts) then None
    else Some (codes "refusals: before a login " ++ (decimal unbound ++ (flat_map (refused_part refused) ts ++ by_disk_part disk whose)))

-- the lines of tenants: those before a login stand in the first one
abbrev pub refused_lines : (ℕ → TenantRefusals) → ℕ → ℕ → List ℕ → List (List Tenant) → List (List ℕ)
refused_lines refused unbound disk whose [] = []
refused_lines refused unbound disk whose (ts ∷ tss) =
    texts_of (refused_line refused unbound disk whose ts) ++ refused_lines refused 0 disk whose tss

-- a tenant is told of
abbrev pub with_refused : (ℕ → TenantRefusals) → Tenant → Tenant
with_refused refused t = record t {
  refusals = record { told = (refused t.place).all };
  by_disk = if has_grown refused t then record { told = (refused t.place).by_disk } else t.by_disk;
}

-- ---- what a broker counts, and when it is told

-- whether it refused nothing yet; by the place of a tenant how many requests it refused and how many sockets it closed, and how the tenant
-- waits for those that read its replies; how many requests it refused before a login, and how many calls its store refused
pub record BrokerCounts : Type 0 where
  pub calm : Bool
  pub refused : ℕ → TenantRefusals
  pub closed : ℕ → ℕ
  pub unread : ℕ → Unread
  pub unbound : ℕ
  pub disk : ℕ

-- counts are told at most once a second
abbrev pub are_due : {T : Type 0} → ℕ → Journal T → Bool
are_due moment j = not j.is_quiet && leb j.pace.next moment

abbrev pub with_turned_away : {T : Type 0} → ℕ → Journal T → Journal T
with_turned_away n j = record j { turned_away = told (j.turned_away + n) }

abbrev pub with_pace : {T : Type 0} → ℕ → Journal T → Journal T
with_pace moment j = record j { pace = record { next = moment + 1000 } }

-- ---- the lines that are due

module _ {T : Type 0} where
  abbrev pub turned_away_texts : Journal T → List (List ℕ)
  turned_away_texts j = turned_away_lines j.turned_away j.connections

  abbrev pub closed_texts : (ℕ → ℕ) → Journal T → List (List ℕ)
  closed_texts closed j = closed_lines closed j.closed (in_lines j.tenants.items)

  abbrev pub refused_texts : BrokerCounts → Journal T → List (List ℕ)
  refused_texts c j =
      refused_lines c.refused (c.unbound - j.unbound.told) (c.disk - j.disk.told) (of_all j.tenants.items) (in_lines j.tenants.items)

-- ---- what a call tells and leaves

-- Each line is told, and what stands in it counts as told.
module _ {T : Type 0} (logged : T → Option (List LogLine)) (now : ℕ) where
  pub record ToldTurnedAway (old new : Journal T) : Type 0 where
    pub lines : Grows (logged old.lines) (logged new.lines) (lines_at now (turned_away_texts old))
    pub others : new ≡ record old { turned_away = 0; lines = new.lines }

  pub record ToldClosed (closed : ℕ → ℕ) (old new : Journal T) : Type 0 where
    pub lines : Grows (logged old.lines) (logged new.lines) (lines_at now (closed_texts closed old))
    pub tenants : new.tenants.items ≡ map (with_closed closed) old.tenants.items
    pub others : new ≡ record old { tenants = new.tenants; closed = closed_left old.closed old.tenants.items; lines = new.lines }

  pub record ToldUnread (unread : ℕ → Unread) (old new : Journal T) : Type 0 where
    pub lines : Grows (logged old.lines) (logged new.lines) (lines_at now (unread_texts unread old.tenants.items))
    pub tenants : new.tenants.items ≡ map (with_unread unread) old.tenants.items
    pub others : new ≡ record old { tenants = new.tenants; lines = new.lines }

  pub record ToldRefused (c : BrokerCounts) (old new : Journal T) : Type 0 where
    pub lines : Grows (logged old.lines) (logged new.lines) (lines_at now (refused_texts c old))
    pub tenants : new.tenants.items ≡ map (with_refused c.refused) old.tenants.items
    pub others : new ≡ record old {
      unbound = record { told = c.unbound };
      disk = record { told = c.disk };
      tenants = new.tenants;
      lines = new.lines;
    }

-- Or there was no memory for these texts, of which there are some. Then one line is missed, and what stands in them is told later.
pub record Misses {T : Type 0} (logged : T → Option (List LogLine)) (now : ℕ) (texts : List (List ℕ)) (old new : Journal T) : Type 0 where
  pub some : texts ≢ []
  pub line : Grows (logged old.lines) (logged new.lines) (missed_at now ∷ [])
  pub others : new ≡ record old { lines = new.lines }

module _ {T : Type 0} (logged : T → Option (List LogLine)) (now : ℕ) where
  abbrev pub TellsTurnedAway : Journal T → Journal T → Type 0
  TellsTurnedAway old new = ToldTurnedAway logged now old new ⊎ Misses logged now (turned_away_texts old) old new

  abbrev pub TellsClosed : (ℕ → ℕ) → Journal T → Journal T → Type 0
  TellsClosed closed old new = ToldClosed logged now closed old new ⊎ Misses logged now (closed_texts closed old) old new

  abbrev pub TellsUnread : (ℕ → Unread) → Journal T → Journal T → Type 0
  TellsUnread unread old new = ToldUnread logged now unread old new ⊎ Misses logged now (unread_texts unread old.tenants.items) old new

  abbrev pub TellsRefused : BrokerCounts → Journal T → Journal T → Type 0
  TellsRefused c old new = ToldRefused logged now c old new ⊎ Misses logged now (refused_texts c old) old new

  -- the same of a journal that may be quiet, and of a broker that may have refused nothing
  pub record TellsRefusals (c : BrokerCounts) (old new : Journal T) : Type 0 where
    pub quiet : old.is_quiet || c.calm ≡ true → new ≡ old
    pub told : old.is_quiet || c.calm ≡ false → TellsRefused c old new

  -- all of it, one behind the other
  pub record TellsCounts (c : BrokerCounts) (old new : Journal T) : Type 0 where
    pub behind_first : Journal T
    pub behind_closed : Journal T
    pub behind_unread : Journal T
    pub turned_away : TellsTurnedAway old behind_first
    pub closed : TellsClosed c.closed behind_first behind_closed
    pub unread : TellsUnread c.unread behind_closed behind_unread
    pub refusals : TellsRefusals c behind_unread new

  -- .. where they are due; what was closed at once is counted in any case
  pub record MayTellCounts (moment closed_at_once : ℕ) (c : BrokerCounts) (old new : Journal T) : Type 0 where
    pub early : are_due moment old ≡ false → new ≡ with_turned_away closed_at_once old
    pub due : are_due moment old ≡ true → TellsCounts c (with_pace moment (with_turned_away closed_at_once old)) new
