-- What a settings document says, key by key.
use Rattle.std.specs.Prelude.{ℕ, pos, List, [], ◌∷◌, map, length, codes, Bool, true, false, ◌&&◌, if◌then◌else◌}
use Rattle.std.specs.Prelude.{Option, None, Some, is_some, option_map, option_and_then, Result, Ok, Err}
use Rattle.std.specs.List.{list_any}
use Rattle.std.specs.Str.{bytes_eq}
use Rattle.toml.specs.Data.{Data, as_str, as_bool, integer, array, table, get_member}
use Rattle.toml.specs.Data.{Items, no_items, item, Members, no_members, member}
use Rattle.kb_settings.specs.Names.{in_order}
use Rattle.kb_settings.specs.Settings.{is_within, is_credential, is_tenant, are_different}
use Rattle.kb_settings.specs.Address.{is_listened, bare, endpoint_in}
use Rattle.kb_settings.specs.Limits.{Limits, are_limits, standard_groups, standard_data}
use Rattle.kb_settings.specs.Metrics.{is_token, is_guarded}
use Rattle.kb_settings.specs.Values.{Account, Metrics, Requests, Values}
use Rattle.kb_settings.specs.declared.sync.Sync.{Sync}
use Rattle.kb_settings.specs.declared.tenant_limits.GroupLimits.{GroupLimits}
use Rattle.kb_settings.specs.declared.tenant_limits.DataLimits.{DataLimits}
use Rattle.kb_settings.specs.declared.sync.Sync.TheVariants.{Always, Interval, Never}

-- 1. What a value says: nothing where it is wrong

-- a text that fits
abbrev pub if_fits : (List ℕ → Bool) → List ℕ → Option (List ℕ)
if_fits fits text = if fits text then Some text else None

abbrev pub text_in : (List ℕ → Bool) → Data → Option (List ℕ)
text_in fits value = option_and_then (if_fits fits) (as_str value)

-- a number, both limits included
abbrev pub number_in : ℕ → ℕ → Data → Option ℕ
number_in low high (integer (pos n)) = if is_within low high n then Some n else None
number_in low high _ = None

-- a limit that may be missing, both ends included
abbrev pub limit_in : ℕ → ℕ → Data → Option (Option ℕ)
limit_in low high value = option_map Some (number_in low high value)

-- a folder: any text
abbrev pub folder_in : Data → Option (Option (List ℕ))
folder_in value = option_map Some (as_str value)

-- a host, with or without brackets
abbrev pub host_in : Bool → Data → Option (List ℕ)
host_in told value = option_and_then (λ text. if_fits (is_listened told) (bare text)) (as_str value)

-- `HOST:PORT`
abbrev pub advertise_in : Data → Option (Option (List ℕ × ℕ))
advertise_in value = option_map Some (option_and_then endpoint_in (as_str value))

-- when what was done is made to last
abbrev pub sync_named : List ℕ → Option Sync
sync_named text =
    if bytes_eq text (codes "always") then Some Always
    else if bytes_eq text (codes "interval") then Some Interval
    else if bytes_eq text (codes "never") then Some Never
    else None

abbrev pub sync_in : Data → Option Sync
sync_in value = option_and_then sync_named (as_str value)

-- whether clients are told of another address than is listened on
abbrev pub is_told : Members → Bool
is_told document = is_some (get_member (codes "advertise") document)

-- the keys that are none of these
abbrev pub other_keys : List (List ℕ) → Members → List (List ℕ)
other_keys keys no_members = []
other_keys keys (member key value rest) =
    if list_any (bytes_eq key) keys then other_keys keys rest else key ∷ other_keys keys rest

abbrev pub first : List (List ℕ) → Option (List ℕ)
first [] = None
first (key ∷ keys) = Some key

-- the first of them in byte order
abbrev pub other_key : List (List ℕ) → Members → Option (List ℕ)
other_key keys document = first (in_order (other_keys keys document))

-- 2. The users

-- a text that must be there, and fit
abbrev pub text_of : (List ℕ → Bool) → List ℕ → Members → Option (List ℕ)
text_of fits key entry = option_and_then (text_in fits) (get_member key entry)

abbrev pub user_keys : List (List ℕ)
user_keys = codes "name" ∷ codes "password" ∷ codes "tenant" ∷ []

-- a user of these texts, where all are there, and no other key
abbrev pub account_with : Option (List ℕ) → Option (List ℕ) → Option (List ℕ) → Option (List ℕ) → Option Account
account_with (Some name) (Some password) (Some tenant) None =
    Some (record { name = name; password = password; tenant = tenant })
account_with name password tenant other = None

-- an entry of `user`
abbrev pub account_in : Data → Option Account
account_in (table entry) =
    account_with (text_of is_credential (codes "name") entry) (text_of is_credential (codes "password") entry)
    (text_of is_tenant (codes "tenant") entry) (other_key user_keys entry)
account_in _ = None

-- one more in front, where both are there
abbrev pub in_front : Option Account → Option (List Account) → Option (List Account)
in_front (Some account) (Some accounts) = Some (account ∷ accounts)
in_front account accounts = None

-- all entries
abbrev pub accounts_in : Items → Option (List Account)
accounts_in no_items = Some []
accounts_in (item entry entries) = in_front (account_in entry) (accounts_in entries)

-- 1 to 1,000 users, no two of one name, of at most 256 different tenants
abbrev pub are_users : List Account → Bool
are_users users =
    is_within 1 1000 (length users) && are_different (map (λ u. u.name) users)
    && is_within 0 256 (length (in_order (map (λ u. u.tenant) users)))

abbrev pub checked_users : List Account → Option (List Account)
checked_users users = if are_users users then Some users else None

abbrev pub users_in : Data → Option (List Account)
users_in (array entries) = option_and_then checked_users (accounts_in entries)
users_in _ = None

-- 3. The tenants' limits

-- what is said at a key that may be missing
abbrev pub said_or : {A : Type 0} → A → (Data → Option A) → Option Data → Option A
said_or standard says None = Some standard
said_or standard says (Some value) = says value

abbrev pub tenant_keys : List (List ℕ)
tenant_keys =
    codes "name" ∷ codes "connections" ∷ codes "reserved_connections" ∷ codes "groups" ∷ codes "group_bytes"
    ∷ codes "topics" ∷ codes "partitions" ∷ codes "offsets" ∷ codes "bytes" ∷ codes "fetch_bytes" ∷ codes "advertise" ∷ []

-- limits of this name and these numbers, where all are right, and there is no other key
abbrev pub limits_with : Option (List ℕ) → Option ℕ → Option ℕ → Option GroupLimits → Option DataLimits → Option (Option (List ℕ × ℕ))
    → Option (List ℕ) → Option Limits
limits_with (Some name) (Some connections) (Some reserved) (Some groups) (Some data_limits) (Some advertise) None =
    Some (record {
      name = name;
      connections = connections;
      reserved_connections = reserved;
      groups = groups;
      data_limits = data_limits;
      advertise = advertise;
    })
limits_with name connections reserved groups data_limits advertise other = None

-- how many are reserved: none where it is not said, and no more than there may be at most
abbrev pub reserved_of : Members → Option ℕ → Option ℕ
reserved_of entry None = None
reserved_of entry (Some connections) =
    said_or 0 (number_in 0 connections) (get_member (codes "reserved_connections") entry)

-- how many connections an entry of `tenant` allows: where it is not said, all
abbrev pub connections_of : ℕ → Members → Option ℕ
connections_of standard entry = said_or standard (number_in 1 1000000) (get_member (codes "connections") entry)

abbrev pub groups_with : Option ℕ → Option ℕ → Option GroupLimits
groups_with (Some groups) (Some bytes) = Some (record { groups = groups; bytes = bytes })
groups_with groups bytes = None

-- what the groups of an entry's tenant may take
abbrev pub groups_of : Members → Option GroupLimits
groups_of entry =
    groups_with (said_or standard_groups.groups (number_in 0 1000) (get_member (codes "groups") entry))
    (said_or standard_groups.bytes (number_in 1048576 9223372036854775807) (get_member (codes "group_bytes") entry))

abbrev pub data_with : Option (Option ℕ) → Option (Option ℕ) → Option ℕ → Option (Option ℕ) → Option (Option ℕ) → Option DataLimits
data_with (Some topics) (Some partitions) (Some offsets) (Some bytes) (Some fetch_bytes) =
    Some (record { topics = topics; partitions = partitions; offsets = offsets; bytes = bytes; fetch_bytes = fetch_bytes })
data_with topics partitions offsets bytes fetch_bytes = None

-- what an entry's tenant may have
abbrev pub data_of : Members → Option DataLimits
data_of entry =
    data_with (said_or None (limit_in 0 1000) (get_member (codes "topics") entry))
    (said_or None (limit_in 0 64000) (get_member (codes "partitions") entry))
    (said_or standard_data.offsets (number_in 0 1000000) (get_member (codes "offsets") entry))
    (said_or None (limit_in 1048576 9223372036854775807) (get_member (codes "bytes") entry))
    (said_or None (limit_in 65536 8388608) (get_member (codes "fetch_bytes") entry))

-- the host and the port that an entry's tenant has of its own, where it has some
abbrev pub advertise_of : Members → Option (Option (List ℕ × ℕ))
advertise_of entry = said_or None advertise_in (get_member (codes "advertise") entry)

-- an entry of `tenant`
abbrev pub entry_limits : ℕ → Data → Option Limits
entry_limits standard (table entry) =
    limits_with (text_of is_tenant (codes "name") entry) (connections_of standard entry)
    (reserved_of entry (connections_of standard entry)) (groups_of entry) (data_of entry) (advertise_of entry)
    (other_key tenant_keys entry)
entry_limits standard _ = None

abbrev pub limits_before : Option Limits → Option (List Limits) → Option (List Limits)
limits_before (Some limits) (Some others) = Some (limits ∷ others)
limits_before limits others = None

-- all entries
abbrev pub all_limits : ℕ → Items → Option (List Limits)
all_limits standard no_items = Some []
all_limits standard (item entry entries) = limits_before (entry_limits standard entry) (all_limits standard entries)

abbrev pub checked_limits : ℕ → List (List ℕ) → List Limits → Option (List Limits)
checked_limits connections names tenants = if are_limits connections names tenants then Some tenants else None

-- the limits of tenants that these users name
abbrev pub tenants_in : ℕ → List Account → Data → Option (List Limits)
tenants_in connections users (array entries) =
    option_and_then (checked_limits connections (map (λ u. u.tenant) users)) (all_limits connections entries)
tenants_in connections users _ = None

-- 4. The document

abbrev pub settings_keys : List (List ℕ)
settings_keys =
    codes "host" ∷ codes "port" ∷ codes "advertise" ∷ codes "segment_bytes" ∷ codes "cache_batches" ∷ codes "cache_bytes"
    ∷ codes "connections" ∷ codes "output_bytes" ∷ codes "sync" ∷ codes "sync_ms" ∷ codes "login_seconds" ∷ codes "reply_seconds"
    ∷ codes "strangers" ∷ codes "request_seconds" ∷ codes "idle_seconds" ∷ codes "input_bytes" ∷ codes "request_bytes"
    ∷ codes "request_entries" ∷ codes "reply_bytes" ∷ codes "stock_clients" ∷ codes "logins" ∷ codes "metrics" ∷ codes "metrics_token" ∷ codes "data"
    ∷ codes "user" ∷ codes "tenant" ∷ []

-- goes on with what is said at a key, or names the key where it is wrong
abbrev pub go_on : {A B : Type 0} → List ℕ → Option A → (A → Result B (List ℕ)) → Result B (List ℕ)
go_on key None next = Err key
go_on key (Some says) next = next says

-- the same of a key of the document, which may be missing
abbrev pub read_key : {A B : Type 0} → Members → List ℕ → A → (Data → Option A) → (A → Result B (List ℕ)) → Result B (List ℕ)
read_key document key standard says next = go_on key (said_or standard says (get_member key document)) next

-- the same of some keys together, of which the first wrong one is named
abbrev pub with_part : {A B : Type 0} → Result A (List ℕ) → (A → Result B (List ℕ)) → Result B (List ℕ)
with_part (Err key) next = Err key
with_part (Ok part) next = next part

-- how much of files is kept in memory, or the first wrong key
abbrev pub cache_in : Members → Result (ℕ × ℕ) (List ℕ)
cache_in document =
    read_key document (codes "cache_batches") 1024 (number_in 1 65536) λ batches.
    read_key document (codes "cache_bytes") 67108864 (number_in 0 1099511627776) λ bytes.
    Ok (batches, bytes)

-- how many clients may be connected, and how many bytes are kept for them
abbrev pub room_in : Members → Result (ℕ × ℕ) (List ℕ)
room_in document =
    read_key document (codes "connections") 1024 (number_in 1 1000000) λ connections.
    read_key document (codes "output_bytes") 268435456 (number_in 1048576 4294967295) λ output_bytes.
    Ok (connections, output_bytes)

-- when what was done is made to last
abbrev pub syncs_in : Members → Result (Sync × ℕ) (List ℕ)
syncs_in document =
    read_key document (codes "sync") Interval sync_in λ sync.
    read_key document (codes "sync_ms") 1000 (number_in 1 60000) λ ms.
    Ok (sync, ms)

-- how many seconds a client has for its login, and for the next byte of a reply
abbrev pub seconds_in : Members → Result (ℕ × ℕ) (List ℕ)
seconds_in document =
    read_key document (codes "login_seconds") 10 (number_in 1 3600) λ login.
    read_key document (codes "reply_seconds") 60 (number_in 1 3600) λ reply.
    Ok (login, reply)

-- the limits of requests, or their first wrong key
abbrev pub requests_in : Members → Result Requests (List ℕ)
requests_in document =
    read_key document (codes "request_seconds") 30 (number_in 1 3600) λ request_seconds.
    read_key document (codes "idle_seconds") 600 (number_in 0 4294967) λ idle_seconds.
    read_key document (codes "input_bytes") 268435456 (number_in 8388608 4294967295) λ input_bytes.
    read_key document (codes "request_bytes") 2097152 (number_in 2097152 104857600) λ request_bytes.
    read_key document (codes "request_entries") None (limit_in 1000 2097152) λ request_entries.
    read_key document (codes "reply_bytes") None (limit_in 1048576 2147483647) λ reply_bytes.
    Ok (record {
      request_seconds = request_seconds;
      idle_seconds = idle_seconds;
      input_bytes = input_bytes;
      request_bytes = request_bytes;
      request_entries = request_entries;
      reply_bytes = reply_bytes;
    })

-- whether stock clients are served, and whether logins are told in the log
abbrev pub flags_in : Members → Result (Bool × Bool) (List ℕ)
flags_in document =
    read_key document (codes "stock_clients") false as_bool λ stock_clients.
    read_key document (codes "logins") true as_bool λ logins.
    Ok (stock_clients, logins)

-- a token, where one is said
abbrev pub token_in : Data → Option (Option (List ℕ))
token_in value = option_map Some (text_in is_token value)

-- where metrics are served and to whom, unless that is to everybody
abbrev pub guarded : Option (List ℕ × ℕ) → Option (List ℕ) → Option Metrics
guarded None token = Some (record { address = None; token = token })
guarded (Some address) token =
    if is_guarded address.0 (is_some token) then Some (record { address = Some address; token = token }) else None

-- the same of a document, or the first wrong key
abbrev pub metrics_in : Members → Result Metrics (List ℕ)
metrics_in document =
    read_key document (codes "metrics") None advertise_in λ address.
    read_key document (codes "metrics_token") None token_in λ token.
    go_on (codes "metrics_token") (guarded address token) λ metrics.
    Ok metrics

-- the settings, unless there is another key
abbrev pub no_other : {A : Type 0} → Option (List ℕ) → A → Result A (List ℕ)
no_other None settings = Ok settings
no_other (Some key) settings = Err key

-- the settings of a document, or its first wrong key: the keys in this order, then those that there are not
abbrev pub settings_in : Members → Result Values (List ℕ)
settings_in document =
    read_key document (codes "host") (codes "localhost") (host_in (is_told document)) λ host.
    read_key document (codes "port") 9092 (number_in 1 65535) λ port.
    read_key document (codes "advertise") None advertise_in λ advertise.
    read_key document (codes "segment_bytes") 16777216 (number_in 4096 1073741824) λ segment_bytes.
    with_part (cache_in document) λ cache.
    with_part (room_in document) λ room.
    with_part (syncs_in document) λ syncs.
    with_part (seconds_in document) λ seconds.
    read_key document (codes "strangers") room.0 (number_in 1 room.0) λ strangers.
    with_part (requests_in document) λ requests.
    with_part (flags_in document) λ flags.
    with_part (metrics_in document) λ metrics.
    read_key document (codes "data") None folder_in λ folder.
    go_on (codes "user") (option_and_then users_in (get_member (codes "user") document)) λ users.
    read_key document (codes "tenant") [] (tenants_in room.0 users) λ tenants.
    no_other (other_key settings_keys document) (record {
      host = host;
      port = port;
      advertise = advertise;
      segment_bytes = segment_bytes;
      cache_batches = cache.0;
      cache_bytes = cache.1;
      connections = room.0;
      output_bytes = room.1;
      sync = syncs.0;
      sync_ms = syncs.1;
      login_seconds = seconds.0;
      reply_seconds = seconds.1;
      strangers = strangers;
      requests = requests;
      stock_clients = flags.0;
      logins = flags.1;
      metrics = metrics;
      folder = folder;
      users = users;
      tenants = tenants;
    })
