-- Who waits for a key.
use Rattle.std.specs.Prelude.{◌≡◌, not, ◌||◌, ℕ, Bool, false, ◌&&◌, List, Option, Some, None}
use Rattle.std.specs.BTreeMap as tree
use Rattle.std.specs.BTreeSet as sorted
use Rattle.std.specs.List.{list_any}
use Rattle.std.specs.Ordering.{eq_by_cmp, nat_cmp}
use Rattle.kb_waits.specs.contracts.key.WaitKeyOrd.TheImpl as key_ord
use Rattle.kb_waits.specs.declared.key.WaitKey.{WaitKey}
use Rattle.kb_waits.specs.declared.waiters.Waiters.{Waiters}

-- whether two keys are equal
abbrev pub same_key : WaitKey → WaitKey → Bool
same_key a b = eq_by_cmp (key_ord.ghosts).cmp a b

-- whether a set, if there is one, has the connection
abbrev pub set_has : ℕ → Option (sorted.BTreeSet ℕ) → Bool
set_has n None = false
set_has n (Some set) = sorted.contains nat_cmp set n

-- whether the connection waits for the key
abbrev pub has : Waiters → WaitKey → ℕ → Bool
has waiters k n = set_has n (tree.get (key_ord.ghosts).cmp waiters.sets k)

-- a list has the connections that wait for one of the keys at least, in any order
abbrev pub AreWaiting : Waiters → List WaitKey → List ℕ → Type 0
AreWaiting waiters keys found =
    (n : ℕ) → list_any (eq_by_cmp nat_cmp n) found ≡ list_any (λ k. has waiters k n) keys

-- whether k and n are this key and this connection
abbrev pub is_one : WaitKey → ℕ → WaitKey → ℕ → Bool
is_one key connection k n = same_key key k && eq_by_cmp nat_cmp connection n

-- whether k is one of these keys, and n this connection
abbrev pub is_one_of : List WaitKey → ℕ → WaitKey → ℕ → Bool
is_one_of keys connection k n = list_any (λ a. same_key a k) keys && eq_by_cmp nat_cmp connection n

-- no connection waits for a key
abbrev pub NobodyWaits : Waiters → Type 0
NobodyWaits waiters = (k : WaitKey) (n : ℕ) → has waiters k n ≡ false

-- the connection waits for no key
abbrev pub WaitsForNone : Waiters → ℕ → Type 0
WaitsForNone waiters connection = (k : WaitKey) → has waiters k connection ≡ false

-- the same connections wait for each key
abbrev pub SameWaiters : Waiters → Waiters → Type 0
SameWaiters old new = (k : WaitKey) (n : ℕ) → has new k n ≡ has old k n

-- the connection joins those who wait for the key, or for each of the keys
abbrev pub Joins : WaitKey → ℕ → Waiters → Waiters → Type 0
Joins key connection old new =
    (k : WaitKey) (n : ℕ) → has new k n ≡ (is_one key connection k n || has old k n)

abbrev pub JoinsEach : List WaitKey → ℕ → Waiters → Waiters → Type 0
JoinsEach keys connection old new =
    (k : WaitKey) (n : ℕ) → has new k n ≡ (is_one_of keys connection k n || has old k n)

-- the connection leaves those who wait for the key, or for each of the keys
abbrev pub Leaves : WaitKey → ℕ → Waiters → Waiters → Type 0
Leaves key connection old new =
    (k : WaitKey) (n : ℕ) → has new k n ≡ (not (is_one key connection k n) && has old k n)

abbrev pub LeavesEach : List WaitKey → ℕ → Waiters → Waiters → Type 0
LeavesEach keys connection old new =
    (k : WaitKey) (n : ℕ) → has new k n ≡ (not (is_one_of keys connection k n) && has old k n)
