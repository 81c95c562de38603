-- What is told of tenants that wait for those that read their replies.
use Rattle.std.specs.Prelude.{◌++◌, ℕ, List, codes, decimal, nat_lt, if◌then◌else◌, Option, None, Some, string_bytes}
use Rattle.std.specs.List.{flat_map}
use Rattle.kb_operator.specs.declared.counts.Unread.{Unread}
use Rattle.kb_operator.specs.declared.journal.Tenant.{Tenant}
use Rattle.kb_operator.specs.Logged.{texts_of}

-- the line of the tenant of a name, of whose replies so many bytes are not read
abbrev pub waits_line : List ℕ → ℕ → List ℕ
waits_line name bytes =
    codes "tenant " ++ name ++ codes " waits for its readers: " ++ decimal bytes ++ codes " bytes of replies are not read"

-- the line of a tenant that waits so: none where it did not wait since the last one
abbrev pub unread_text : Unread → Tenant → Option (List ℕ)
unread_text unread t =
    if nat_lt t.waits.told unread.waits then Some (waits_line (string_bytes t.name) unread.bytes) else None

-- the lines of some tenants, each by how it waits itself
abbrev pub unread_texts : (ℕ → Unread) → List Tenant → List (List ℕ)
unread_texts unread tenants = flat_map (λ t. texts_of (unread_text (unread t.place) t)) tenants

-- a tenant is told of, which has waited so often
abbrev pub with_waits : ℕ → Tenant → Tenant
with_waits waits t = record t { waits = record { told = waits } }

-- each tenant is told of as it waits itself
abbrev pub with_unread : (ℕ → Unread) → Tenant → Tenant
with_unread unread t = with_waits (unread t.place).waits t
