-- What the holders of sockets may have of replies that are not written, and of requests that are begun.
use Rattle.std.specs.Prelude.{ℕ, List, ◌+◌, ◌-◌, ◌/◌, ◌^◌, min, Bool, true, ◌||◌, nat_eq, if◌then◌else◌, Option, None, Some, unwrap_or, length, map, replicate, string_bytes}
use Rattle.kb_settings.specs.Names.{in_order}
use Rattle.kb_settings.specs.declared.settings.Settings.{Settings}
use Rattle.kb_shares.specs.Shares.{Pool, idle_pool}
use Rattle.kb_shares.specs.declared.share.Share.{Share}
use Rattle.kb_node.specs.SocketShares.{Seats, holder_of}
use Rattle.kb_node.specs.TenantTraffic.{key_in}

-- What a holder has of all bytes, where there are so many tenants: those, and all that have not logged in as one more. A half belongs to
-- them in equal parts, and none has more than a quarter of the whole above its part. With no tenant one holder has all.
abbrev pub share_of : ℕ → ℕ → Share
share_of total tenants =
    if nat_eq tenants 0 then record { own = total; most = total }
    else record { own = total / 2 / (tenants + 1); most = total / 2 / (tenants + 1) + total / 4 }

-- so many bytes in the shares of so many tenants, and of those that have not logged in: nothing of them is used
abbrev pub pool_of : ℕ → ℕ → Pool
pool_of total tenants = idle_pool total (replicate (tenants + 1) (share_of total tenants))

-- how many tenants the settings have, as far as 32 bits go
abbrev pub tenant_count : Settings → ℕ
tenant_count s = min (length (in_order (map (λ u. string_bytes u.tenant) s.users.items))) (2 ^ 32 - 1)

-- the holder of the socket of a connection: its tenant's place, or the one behind all of them
abbrev pub holder_place : ℕ → Seats → ℕ
holder_place connection s = unwrap_or (holder_of connection s.sockets) s.tenants

-- A request of that API key may be a Fetch: it is one, or its key is not known.
abbrev pub may_be_fetch : Option ℕ → Bool
may_be_fetch None = true
may_be_fetch (Some key) = nat_eq key 1

-- How many bytes are kept free for the reply to a piece of a request, until it is there: as many as the batches of a Fetch may have where that
-- may be one, as where the request was begun before.
abbrev pub reserve_for : Bool → List ℕ → ℕ
reserve_for is_begun piece = if is_begun || may_be_fetch (key_in 0 0 piece) then 8388608 else 65536

-- how many bytes are counted of a socket with so many unwritten, and so many kept free for what it is told
abbrev pub kept_for : ℕ → ℕ → ℕ
kept_for unwritten promised = min (unwritten + promised) (2 ^ 64 - 1)
