-- What is told of settings, line by line and in the order of their file, without passwords and the token for metrics.
use Rattle.std.specs.Prelude.{◌++◌, ◌==◌, ◌||◌, ◌+◌, ◌/◌, ◌%◌, ℕ, List, [], ◌∷◌, codes, decimal, length, map, nat_lt, if◌then◌else◌, Bool, true}
use Rattle.std.specs.Prelude.{Option, Some, None, option_map}
use Rattle.kb_settings.specs.Limits.{Limits, standard_data, standard_groups}
use Rattle.kb_settings.specs.Values.{Account, Requests, Values, entries_for, reply_bytes_for}
use Rattle.kb_settings.specs.declared.sync.Sync.{Sync}
use Rattle.kb_settings.specs.declared.sync.Sync.TheVariants.{Always, Interval, Never}
use Rattle.kb_settings.specs.declared.tenant_limits.ConnectionLimits.{ConnectionLimits}
use Rattle.kb_settings.specs.declared.tenant_limits.GroupLimits.{GroupLimits}
use Rattle.kb_settings.specs.declared.tenant_limits.DataLimits.{DataLimits}
use Rattle.kb_operator.specs.Fits.{colons}
use Rattle.kb_operator.specs.Others.{others}
use Rattle.kb_operator.specs.Report.{lines_text}
use Rattle.kb_operator.specs.Sums.{fetched_at_most, held_at_most, stored_at_most, tenants_of, told}

-- ---- values

-- a hexadecimal digit
abbrev pub digit_of : ℕ → ℕ
digit_of n = if nat_lt n 10 then 48 + n else 87 + n

-- both digits of a byte
abbrev pub digits_of : ℕ → List ℕ
digits_of b = digit_of (b / 16) ∷ digit_of (b % 16) ∷ []

-- a byte of a text in quotes: a quote and a backslash stand behind a backslash, and a control character of ASCII is its number
abbrev pub quoted_ascii : ℕ → List ℕ
quoted_ascii b =
    if (b == 34) || (b == 92) then 92 ∷ b ∷ []
    else (if nat_lt b 32 || (b == 127) then codes "\\u00" ++ digits_of b else b ∷ [])

-- .. behind another one: the control characters above ASCII, which UTF-8 begins with 194 and ends with their number, are that number, too
abbrev pub quoted_byte : ℕ → ℕ → List ℕ
quoted_byte before b = if before == 194 then digits_of b else (if b == 194 then codes "\\u00" else quoted_ascii b)

abbrev pub quoted_behind : ℕ → List ℕ → List ℕ
quoted_behind before [] = []
quoted_behind before (b ∷ bs) = quoted_byte before b ++ quoted_behind b bs

abbrev pub quoted : List ℕ → List ℕ
quoted text = codes "\"" ++ (quoted_behind 0 text ++ codes "\"")

-- a host and a port: one with a colon is an IPv6 address, and stands in brackets
abbrev pub host_port : List ℕ × ℕ → List ℕ
host_port a =
    if nat_lt 0 (colons a.0) then codes "[" ++ (a.0 ++ (codes "]:" ++ decimal a.1)) else a.0 ++ (codes ":" ++ decimal a.1)

abbrev pub sync_text : Sync → List ℕ
sync_text Always = codes "always"
sync_text Interval = codes "interval"
sync_text Never = codes "never"

-- ---- a key with its value

abbrev pub count_line : List ℕ → ℕ → List ℕ
count_line key n = key ++ (codes " = " ++ decimal n)

abbrev pub flag_line : List ℕ → Bool → List ℕ
flag_line key b = key ++ (codes " = " ++ (if b then codes "true" else codes "false"))

abbrev pub quoted_line : List ℕ → List ℕ → List ℕ
quoted_line key text = key ++ codes " = " ++ quoted text

abbrev pub address_lines : List ℕ → Option (List ℕ × ℕ) → List (List ℕ)
address_lines key None = []
address_lines key (Some a) = quoted_line key (host_port a) ∷ []

abbrev pub flagged_line : List ℕ → ℕ → List ℕ
flagged_line key n = key ++ (codes ": no limit, and " ++ (decimal n ++ codes " with the flag --stock-clients"))

-- a limit as the settings say, or what it is where a broker serves with the flag `--stock-clients`
abbrev pub limit_lines : List ℕ → Option ℕ → Option ℕ → List (List ℕ)
limit_lines key (Some n) with_flag = count_line key n ∷ []
limit_lines key None (Some n) = flagged_line key n ∷ []
limit_lines key None None = []

-- ---- the keys

-- where it listens, and what clients are told
abbrev pub listen_lines : Values → List (List ℕ)
listen_lines v = quoted_line (codes "host") v.host ∷ count_line (codes "port") v.port ∷ address_lines (codes "advertise") v.advertise

abbrev pub size_lines : Values → List (List ℕ)
size_lines v =
    count_line (codes "segment_bytes") v.segment_bytes
    ∷ count_line (codes "cache_batches") v.cache_batches
    ∷ count_line (codes "cache_bytes") v.cache_bytes
    ∷ count_line (codes "connections") v.connections
    ∷ count_line (codes "output_bytes") v.output_bytes
    ∷ []

-- when what was done is made to last, and what a socket may do before it logs in and behind its replies
abbrev pub time_lines : Values → List (List ℕ)
time_lines v =
    quoted_line (codes "sync") (sync_text v.sync)
    ∷ count_line (codes "sync_ms") v.sync_ms
    ∷ count_line (codes "login_seconds") v.login_seconds
    ∷ count_line (codes "reply_seconds") v.reply_seconds
    ∷ count_line (codes "strangers") v.strangers
    ∷ []

abbrev pub request_lines : Requests → List (List ℕ)
request_lines r =
    count_line (codes "request_seconds") r.request_seconds
    ∷ count_line (codes "idle_seconds") r.idle_seconds
    ∷ count_line (codes "input_bytes") r.input_bytes
    ∷ count_line (codes "request_bytes") r.request_bytes
    ∷ []

-- how many entries a request may name, and how many bytes its reply may have
abbrev pub entries_lines : Values → List (List ℕ)
entries_lines v = limit_lines (codes "request_entries") (entries_for v.stock_clients v) (entries_for true v)

abbrev pub reply_bytes_lines : Values → List (List ℕ)
reply_bytes_lines v = limit_lines (codes "reply_bytes") (reply_bytes_for v.stock_clients v) (reply_bytes_for true v)

-- the same, and which clients and logins there are
abbrev pub served_lines : Values → List (List ℕ)
served_lines v =
    entries_lines v ++ reply_bytes_lines v ++ flag_line (codes "stock_clients") v.stock_clients ∷ [] ++ flag_line (codes "logins") v.logins ∷ []

-- ---- users and tenants

abbrev pub user_line : Account → List ℕ
user_line u = codes "user " ++ quoted u.name ++ codes " of tenant " ++ quoted u.tenant

-- one more limit, where there is one
abbrev pub limit_part : List ℕ → Option ℕ → List ℕ
limit_part key None = []
limit_part key (Some n) = codes ", " ++ (key ++ (codes " = " ++ decimal n))

abbrev pub data_part : DataLimits → List ℕ
data_part d =
    limit_part (codes "topics") d.topics ++ (limit_part (codes "partitions") d.partitions ++ (limit_part (codes "offsets") (Some d.offsets)
    ++ (limit_part (codes "bytes") d.bytes ++ limit_part (codes "fetch_bytes") d.fetch_bytes)))

abbrev pub group_part : ConnectionLimits → GroupLimits → List ℕ
group_part c g =
    codes "connections = " ++ (decimal c.most ++ (codes ", reserved_connections = " ++ (decimal c.reserved
    ++ (codes ", groups = " ++ (decimal g.groups ++ (codes ", group_bytes = " ++ decimal g.bytes))))))

-- what a tenant may have
abbrev pub numbers_part : ConnectionLimits → GroupLimits → DataLimits → List ℕ
numbers_part c g d = group_part c g ++ data_part d

-- what a tenant's clients are told, where it has an address of its own
abbrev pub own_address_part : Option (List ℕ × ℕ) → List ℕ
own_address_part None = []
own_address_part (Some a) = codes ", advertise = " ++ quoted (host_port a)

abbrev pub own_connections : Limits → ConnectionLimits
own_connections t = record { most = t.connections; reserved = t.reserved_connections }

abbrev pub tenant_line : Limits → List ℕ
tenant_line t =
    codes "tenant " ++ quoted t.name ++ codes ": " ++ numbers_part (own_connections t) t.groups t.data_limits ++ own_address_part t.advertise

-- so many tenants that no limits name, and what each may have; none where there is no such tenant
abbrev pub others_part : ℕ → List ℕ
others_part count = codes "tenants without a table: " ++ (decimal count ++ codes ", each with ")

abbrev pub others_line : Values → ℕ → List ℕ
others_line v count = others_part count ++ numbers_part (record { most = v.connections; reserved = 0 }) standard_groups standard_data

abbrev pub others_lines : Values → ℕ → List (List ℕ)
others_lines v count = if nat_lt 0 count then others_line v count ∷ [] else []

-- ---- what all come to together

abbrev pub members_line : ℕ → ℕ → List ℕ
members_line users tenants = codes "users: " ++ (decimal users ++ (codes ", tenants: " ++ decimal tenants))

abbrev pub stored_line : Option ℕ → List ℕ
stored_line None = codes "bytes that all tenants may store: no limit"
stored_line (Some n) = codes "bytes that all tenants may store: " ++ decimal n

abbrev pub fetched_line : ℕ → List ℕ
fetched_line n = codes "bytes of memory that replies of Fetch may take: " ++ decimal n

abbrev pub sockets_line : ℕ → List ℕ
sockets_line n =
    codes "bytes of requests and replies that sockets may hold: "
    ++ (decimal n ++ codes ", and a request and a reply of each tenant above that")

abbrev pub total_lines : Values → List (List ℕ)
total_lines v =
    members_line (length v.users) (length (tenants_of v)) ∷ stored_line (option_map told (stored_at_most v))
    ∷ fetched_line (told (fetched_at_most v)) ∷ sockets_line (told (held_at_most v)) ∷ []

-- ---- all of it, with the folder that they name

abbrev pub key_lines : Values → List ℕ → List (List ℕ)
key_lines v folder =
    listen_lines v ++ size_lines v ++ time_lines v ++ request_lines v.requests ++ served_lines v
    ++ address_lines (codes "metrics") v.metrics.address ++ quoted_line (codes "data") folder ∷ []

abbrev pub settings_lines : Values → List ℕ → List (List ℕ)
settings_lines v folder = key_lines v folder ++ map user_line v.users ++ map tenant_line v.tenants ++ others_lines v (told (others v)) ++ total_lines v

abbrev pub settings_text : Values → List ℕ → List ℕ
settings_text v folder = lines_text (settings_lines v folder)
