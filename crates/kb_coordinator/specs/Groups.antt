-- The groups of a tenant.
use Rattle.std.specs.Prelude.{◌≡◌, ◌≤◌, ◌+◌, ◌-◌, ℕ, length, suc, min, List, [], ◌∷◌, map, Option, Some, None, bytes_eq, if◌then◌else◌}
use Rattle.std.specs.Option.{option_map}
use Rattle.std.specs.Ordering.{is_lt, nat_cmp}
use Rattle.std.specs.Cmp.Lexicographic.{slice_cmp}
use Rattle.std.specs.List.{insert}
use Rattle.std.specs.List.Sorted.{IsNonDecreasingBy, IsStrictlySortedBy}
use Rattle.kb_groups.specs.declared.state.State.{State}
use Rattle.kb_groups.specs.declared.reply.Release.{Release}
use Rattle.kb_groups.specs.Moments.{never, next_due}
use Rattle.kb_groups.specs.Bytes.{group_bytes}
use Rattle.kb_coordinator.specs.declared.groups.Entry.{Entry}
use Rattle.kb_coordinator.specs.declared.limits.Limits.{Limits}

-- The groups by id in byte order, the number below that of the next new member, the replies that the last request or moment gave to
-- requests that waited, by group and then by connection number, and how far the groups may grow.
pub record Groups : Type 0 where
  pub groups : List Entry
  pub members : ℕ
  pub released : List Release
  pub limits : Limits

-- 1,000 groups, and 64 MiB.
abbrev pub standard : Limits
standard = record { groups = 1000; bytes = 67108864 }

abbrev pub none : Groups
none = record { groups = []; members = 0; released = []; limits = standard }

-- These are the limits from now on.
abbrev pub limited : Limits → Groups → Groups
limited limits gs = record gs { limits = limits }

-- The first member from now on gets that number.
abbrev pub numbered_from : ℕ → Groups → Groups
numbered_from first gs = record gs { members = first - 1 }

-- Nobody who waited is answered.
abbrev pub silent : Groups → Groups
silent gs = record gs { released = [] }

-- Each id is below those after it, in byte order.
abbrev pub AreSorted : List Entry → Type 0
AreSorted es = IsStrictlySortedBy (slice_cmp nat_cmp) (map (λ e. e.id) es)

-- The replies stand by rising connection number.
abbrev pub AreInOrder : List Release → Type 0
AreInOrder rs = IsNonDecreasingBy (λ (r : Release). r.connection) rs

-- The group of that id.
unfoldable pub found : List ℕ → List Entry → Option State
found id [] = None
found id (e ∷ es) = if bytes_eq e.id id then Some e.group else found id es

-- The groups with that one changed, if it is there.
unfoldable pub changed : List ℕ → (State → State) → List Entry → List Entry
changed id f [] = []
changed id f (e ∷ es) = if bytes_eq e.id id then record { id = e.id; group = f e.group } ∷ es else e ∷ changed id f es

-- The groups without that one.
unfoldable pub without : List ℕ → List Entry → List Entry
without id [] = []
without id (e ∷ es) = if bytes_eq e.id id then es else e ∷ without id es

-- The place of the group of that id.
unfoldable pub place_of : List ℕ → List Entry → Option ℕ
place_of id [] = None
place_of id (e ∷ es) = if bytes_eq e.id id then Some 0 else option_map suc (place_of id es)

-- The place of the first group whose id is above that one, in byte order.
unfoldable pub first_above : List ℕ → List Entry → ℕ
first_above id [] = 0
first_above id (e ∷ es) = if is_lt (slice_cmp nat_cmp id e.id) then 0 else suc (first_above id es)

-- The groups with a new one in its place.
abbrev pub with_new : List ℕ → State → List Entry → List Entry
with_new id g es = insert es (first_above id es) (record { id = id; group = g })

-- The first moment at which a session of these groups ends or a deadline of them comes.
unfoldable pub earliest : List Entry → ℕ
earliest [] = never
earliest (e ∷ es) = min (next_due e.group) (earliest es)

-- ## What the groups keep

-- The ids of the groups, and what each keeps.
unfoldable pub kept_bytes : List Entry → ℕ
kept_bytes [] = 0
kept_bytes (e ∷ es) = length e.id + group_bytes e.group + kept_bytes es

-- That many bytes are what the groups keep, and within the limit.
abbrev pub AreWithin : Limits → ℕ → List Entry → Type 0
AreWithin limits bytes es = (bytes ≡ kept_bytes es) × (bytes ≤ limits.bytes) × (limits.bytes ≤ 9223372036854775807)
