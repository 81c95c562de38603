-- Which settings cannot be served, though each key by itself is right.
use Rattle.std.specs.Prelude.{◌≡◌, ◌+◌, ◌==◌, ◌&&◌, ℕ, Bool, false, List, [], ◌∷◌, length, codes, string_bytes, bytes_eq, Option, Some, None, if◌then◌else◌}
use Rattle.kb_settings.specs.Values.{Values}
use Rattle.kb_operator.specs.declared.fault.OperatorFault.{OperatorFault}
use Rattle.kb_operator.specs.declared.fault.OperatorFault.TheVariants as faults

-- how many colons there are
abbrev pub colons : List ℕ → ℕ
colons [] = 0
colons (b ∷ bs) = (if b == 58 then 1 else 0) + colons bs

-- a host with a port behind it: it has one colon, where an IPv6 address has two or more
abbrev pub has_port : List ℕ → Bool
has_port host = colons host == 1

-- a data folder without a name
abbrev pub is_nameless : Option (List ℕ) → Bool
is_nameless None = false
is_nameless (Some folder) = length folder == 0

-- metrics are to be served where the broker listens
abbrev pub is_taken : List ℕ → ℕ → Option (List ℕ × ℕ) → Bool
is_taken host port None = false
is_taken host port (Some address) = address.1 == port && bytes_eq address.0 host

-- the first key that does not fit
abbrev pub misfit : Values → Option (List ℕ)
misfit v =
    if is_nameless v.folder then Some (codes "data")
    else (if has_port v.host then Some (codes "host")
    else (if is_taken v.host v.port v.metrics.address then Some (codes "metrics") else None))

-- That key is blamed; of memory nothing is said.
abbrev pub IsMisfit : Values → OperatorFault → Type 0
IsMisfit v (faults.Field key why) = misfit v ≡ Some (string_bytes key)
IsMisfit v faults.Memory = Unit {0}
IsMisfit v other = ⊥
