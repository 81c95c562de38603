-- How the kernel writes the device of a file as a number, and where a disk has too little.
use Rattle.std.specs.Prelude.{ℕ, ◌+◌, ◌*◌, ◌/◌, ◌%◌, ◌++◌, List, codes, decimal, nat_lt, if◌then◌else◌, Option, None, Some}

-- the number of a device: the low 8 bits of its minor number, then the 12 bits of its major one, then the other bits of the minor one
abbrev pub device_number : ℕ → ℕ → ℕ
device_number major minor = minor % 256 + major * 256 + minor / 256 * 1048576

-- what is told where a disk has less than may be stored; nothing where one of the two is not known
abbrev pub disk_text : List ℕ → Option ℕ → Option ℕ → Option (List ℕ)
disk_text path (Some stored) (Some disk) =
    if nat_lt disk stored
    then Some (codes "the disk of " ++ (path ++ (codes " has " ++ (decimal disk ++ (codes " bytes, and tenants may store " ++ decimal stored))))) else None
disk_text path (Some stored) None = None
disk_text path None disk = None
