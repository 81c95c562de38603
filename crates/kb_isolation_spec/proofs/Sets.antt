-- A change of one connection in the list.
use Rattle.std.proofs.Common.{◌≡◌, ◌≢◌, ℕ, zero, suc, ◌+◌, ◌<◌, ◌≤◌, List, [], ◌∷◌, ◌++◌, length, get_or, set, Bool, true, false, Some, None, refl, sym, ◌∙◌, ap, arith, subst}
use Rattle.std.specs.Prelude.{cond, map}
use Rattle.std.specs.List.{AllByRecursion}
use Rattle.std.proofs.lemmas.Bool.Decides.{nat_tests}
use Rattle.kb_isolation_spec.specs.Session.{Session, can}
use Rattle.kb_isolation_spec.specs.Machine.{Line, each_line, on, those, work, first_able, find_line}
use Rattle.kb_isolation_spec.specs.Owners.{Pairwise}
use Rattle.kb_isolation_spec.specs.Broker.{Rising}
use Rattle.kb_isolation_spec.proofs.Owners.{same_line, pairwise-same}

-- the connection at a place
pub record IsAt (ls : List Line) (i : ℕ) (l : Line) : Type 0 where
  pub within : i < length ls
  pub here : l ≡ get_or ls i l

pub tail-at : (k : Line) (ls : List Line) (i : ℕ) (l : Line) → IsAt (k ∷ ls) (suc i) l → IsAt ls i l
tail-at k ls i l a = record { within = omega (arith, a.within); here = a.here }

pub no-at : {P : Type 0} (i : ℕ) (l : Line) → IsAt [] i l → P
no-at i l a = absurd (omega (arith, a.within))

pub all-at : (P : Line → Type 0) (ls : List Line) (i : ℕ) (l : Line) → IsAt ls i l → AllByRecursion P ls → P l
all-at P [] i l a h = no-at i l a
all-at P (k ∷ ls) zero l a h = subst P (sym a.here) h.0
all-at P (k ∷ ls) (suc i) l a h = all-at P ls i l (tail-at k ls i l a) h.1

pub all-map : (P Q : Line → Type 0) → ((l : Line) → P l → Q l) → (ls : List Line) → AllByRecursion P ls → AllByRecursion Q ls
all-map P Q f [] h = tt
all-map P Q f (l ∷ ls) h = (f l h.0, all-map P Q f ls h.1)

pub pairwise-set : (R : Line → Line → Type 0) → ((l : Line) → R l l) → (ls : List Line) (i : ℕ) (l m : Line) → IsAt ls i l → R l m → Pairwise R ls (set ls i m)
pairwise-set R r [] i l m a h = no-at i l a
pairwise-set R r (k ∷ ls) zero l m a h = (subst (λ x. R x m) a.here h, pairwise-same R r ls)
pairwise-set R r (k ∷ ls) (suc i) l m a h = (r k, pairwise-set R r ls i l m (tail-at k ls i l a) h)

pub work-set : (ls : List Line) (i : ℕ) (l m : Line) → IsAt ls i l → work (set ls i m) + length l.session.unread ≡ work ls + length m.session.unread
work-set [] i l m a = no-at i l a
work-set (k ∷ ls) zero l m a = let e = ap (λ (x : Line). length x.session.unread) a.here in omega (arith, e)
work-set (k ∷ ls) (suc i) l m a = omega (arith, work-set ls i l m (tail-at k ls i l a))

pub set-at : (ls : List Line) (i : ℕ) (l m : Line) → IsAt ls i l → IsAt (set ls i m) i m
set-at [] i l m a = no-at i l a
set-at (k ∷ ls) zero l m a = record { within = omega arith; here = refl }
set-at (k ∷ ls) (suc i) l m a = let h = set-at ls i l m (tail-at k ls i l a) in record { within = omega (arith, h.within); here = h.here }

-- 1. Rising numbers

pub rising-above : (low last : ℕ) (ls : List Line) (i : ℕ) (l : Line) → Rising low last ls → IsAt ls i l → low < l.number
rising-above low last [] i l r a = no-at i l a
rising-above low last (k ∷ ls) zero l r a = let e = ap (λ (x : Line). x.number) a.here in omega (arith, e, r.0)
rising-above low last (k ∷ ls) (suc i) l r a = let h = rising-above k.number last ls i l r.1 (tail-at k ls i l a) in omega (arith, h, r.0)

pub rising-last : (low last : ℕ) (ls : List Line) → Rising low last ls → low ≤ last
rising-last low last [] r = r
rising-last low last (k ∷ ls) r = omega (arith, r.0, rising-last k.number last ls r.1)

pub rising-set : (low last : ℕ) (ls : List Line) (i : ℕ) (l m : Line) → Rising low last ls → IsAt ls i l → m.number ≡ l.number → Rising low last (set ls i m)
rising-set low last [] i l m r a e = no-at i l a
rising-set low last (k ∷ ls) zero l m r a e = let f : m.number ≡ k.number = e ∙ ap (λ (x : Line). x.number) a.here in rw f r
rising-set low last (k ∷ ls) (suc i) l m r a e = (r.0, rising-set k.number last ls i l m r.1 (tail-at k ls i l a) e)

-- two places have two numbers
pub rising-places : (low last : ℕ) (ls : List Line) (i j : ℕ) (l m : Line) → Rising low last ls → IsAt ls i l → IsAt ls j m → i < j → l.number < m.number
rising-places low last [] i j l m r a b h = no-at i l a
rising-places low last (k ∷ ls) zero zero l m r a b h = absurd (omega arith)
rising-places low last (k ∷ ls) zero (suc j) l m r a b h = let e = ap (λ (x : Line). x.number) a.here in let g = rising-above k.number last ls j m r.1 (tail-at k ls j m b) in omega (arith, e, g)
rising-places low last (k ∷ ls) (suc i) zero l m r a b h = absurd (omega arith)
rising-places low last (k ∷ ls) (suc i) (suc j) l m r a b h = rising-places k.number last ls i j l m r.1 (tail-at k ls i l a) (tail-at k ls j m b) (omega arith)

each-on_below : (low last n : ℕ) (f : Session → Session) (ls : List Line) → Rising low last ls → n ≤ low → each_line (on n f) ls ≡ ls
each-on_below low last n f [] r h = refl
each-on_below low last n f (k ∷ ls) r h = let rest = each-on_below k.number last n f ls r.1 (omega (arith, r.0)) in let lt = r.0 in grind (arith, nat_tests, rest, lt)

-- a write at a place is a change at its number
pub set-on : (low last : ℕ) (f : Session → Session) (ls : List Line) (i : ℕ) (l m : Line) → Rising low last ls → IsAt ls i l → m.number ≡ l.number → m.session ≡ f l.session → set ls i m ≡ each_line (on l.number f) ls
set-on low last f [] i l m r a e g = no-at i l a
set-on low last f (k ∷ ls) zero l m r a e g =
    let n : l.number ≡ k.number = ap (λ (x : Line). x.number) a.here in
    let s : m.session ≡ f k.session = g ∙ ap (λ (x : Line). f x.session) a.here in
    let rest = each-on_below k.number last l.number f ls r.1 (omega (arith, n)) in
    let new : Line = record { number = k.number; session = f k.session } in
    let same : m ≡ new = same_line new m (e ∙ n) s in
    grind (arith, nat_tests, same, rest, n)
set-on low last f (k ∷ ls) (suc i) l m r a e g =
    let rest = set-on k.number last f ls i l m r.1 (tail-at k ls i l a) e g in
    let lt : k.number < l.number = rising-above k.number last ls i l r.1 (tail-at k ls i l a) in
    grind (arith, nat_tests, rest, lt)

-- numbers stay
pub numbers-set : (ls : List Line) (i : ℕ) (l m : Line) → IsAt ls i l → m.number ≡ l.number → map (λ (x : Line). x.number) (set ls i m) ≡ map (λ (x : Line). x.number) ls
numbers-set [] i l m a e = no-at i l a
numbers-set (k ∷ ls) zero l m a e = ap (λ n. n ∷ map (λ (x : Line). x.number) ls) (e ∙ ap (λ (x : Line). x.number) a.here)
numbers-set (k ∷ ls) (suc i) l m a e = ap (λ ns. k.number ∷ ns) (numbers-set ls i l m (tail-at k ls i l a) e)

-- 2. What holds of each connection

pub all-set : (P : Line → Type 0) (ls : List Line) (i : ℕ) (m : Line) → AllByRecursion P ls → P m → AllByRecursion P (set ls i m)
all-set P [] i m h p = h
all-set P (k ∷ ls) zero m h p = (p, h.1)
all-set P (k ∷ ls) (suc i) m h p = (h.0, all-set P ls i m h.1 p)

pub all-those : (P : Line → Type 0) (mine : ℕ → Bool) (ls : List Line) → AllByRecursion P ls → AllByRecursion P (those mine ls)
all-those P mine [] h = tt
all-those P mine (l ∷ ls) h = all-those_by P mine l (those mine ls) (mine l.number) refl h.0 (all-those P mine ls h.1)
  where
    all-those_by : (P : Line → Type 0) (mine : ℕ → Bool) (l : Line) (ls : List Line) (b : Bool) → mine l.number ≡ b → P l → AllByRecursion P ls → AllByRecursion P (cond (mine l.number) (l ∷ ls) ls)
    all-those_by P mine l ls true e p h = rw e (p, h)
    all-those_by P mine l ls false e p h = rw e h

pub all-push : (P : Line → Type 0) (ls : List Line) (x : Line) → AllByRecursion P ls → P x → AllByRecursion P (ls ++ x ∷ [])
all-push P [] x h p = (p, tt)
all-push P (l ∷ ls) x h p = (h.0, all-push P ls x h.1 p)

pub each-on_none : (n : ℕ) (f : Session → Session) (ls : List Line) → AllByRecursion (λ l. l.number ≢ n) ls → each_line (on n f) ls ≡ ls
each-on_none n f [] h = refl
each-on_none n f (l ∷ ls) h = let no = h.0 in let rest = each-on_none n f ls h.1 in grind (arith, nat_tests, rest)

-- 3. The connection of a number

pub find-at : (low last : ℕ) (ls : List Line) (i : ℕ) (l : Line) → Rising low last ls → IsAt ls i l → find_line l.number ls ≡ Some l.session
find-at low last [] i l r a = no-at i l a
find-at low last (k ∷ ls) zero l r a = let e = a.here in grind (arith, nat_tests, e)
find-at low last (k ∷ ls) (suc i) l r a =
    let lt : k.number < l.number = rising-above k.number last ls i l r.1 (tail-at k ls i l a) in
    let rest = find-at k.number last ls i l r.1 (tail-at k ls i l a) in
    grind (arith, nat_tests, rest, lt)

pub find-none : (n : ℕ) (ls : List Line) → AllByRecursion (λ l. l.number ≢ n) ls → find_line n ls ≡ None
find-none n [] h = refl
find-none n (l ∷ ls) h = let no = h.0 in let rest = find-none n ls h.1 in grind (arith, nat_tests, rest)

-- a write at a place leaves what other numbers have
pub find-set_other : (n : ℕ) (ls : List Line) (i : ℕ) (l m : Line) → IsAt ls i l → m.number ≡ l.number → n ≢ l.number → find_line n (set ls i m) ≡ find_line n ls
find-set_other n [] i l m a e ne = no-at i l a
find-set_other n (k ∷ ls) zero l m a e ne =
    let f : l.number ≡ k.number = ap (λ (x : Line). x.number) a.here in
    grind (arith, nat_tests, e, f, ne)
find-set_other n (k ∷ ls) (suc i) l m a e ne = let rest = find-set_other n ls i l m (tail-at k ls i l a) e ne in grind (arith, rest)

-- 4. Who can take a turn

pub all-still : (ls : List Line) → first_able ls ≡ None → AllByRecursion (λ l. can l.session ≡ false) ls
all-still [] h = tt
all-still (l ∷ ls) h = (grind arith, all-still ls (grind arith))

pub none-able : (ls : List Line) → AllByRecursion (λ l. can l.session ≡ false) ls → first_able ls ≡ None
none-able [] h = refl
none-able (l ∷ ls) h = let here = h.0 in let rest = none-able ls h.1 in grind (arith, here, rest)

-- another connection than that cannot take a turn
abbrev pub IsIdle : ℕ → Line → Type 0
IsIdle n l = l.number ≢ n → can l.session ≡ false

-- where no other can, the one that can is the first
pub first-still : (low last : ℕ) (ls : List Line) (i : ℕ) (l : Line) → Rising low last ls → IsAt ls i l → AllByRecursion (IsIdle l.number) ls → can l.session ≡ true → first_able ls ≡ Some l
first-still low last [] i l r a s c = no-at i l a
first-still low last (k ∷ ls) zero l r a s c = let e = a.here in grind (arith, e, c)
first-still low last (k ∷ ls) (suc i) l r a s c =
    let lt : k.number < l.number = rising-above k.number last ls i l r.1 (tail-at k ls i l a) in
    let no : can k.session ≡ false = s.0 (omega arith) in
    let rest = first-still k.number last ls i l r.1 (tail-at k ls i l a) s.1 c in
    grind (arith, no, rest)

pub still-none : (low last : ℕ) (ls : List Line) (i : ℕ) (l : Line) → Rising low last ls → IsAt ls i l → AllByRecursion (IsIdle l.number) ls → can l.session ≡ false → first_able ls ≡ None
still-none low last [] i l r a s c = no-at i l a
still-none low last (k ∷ ls) zero l r a s c =
    let e : can k.session ≡ false = ap (λ (x : Line). can x.session) (sym a.here) ∙ c in
    let n : l.number ≡ k.number = ap (λ (x : Line). x.number) a.here in
    let rest = none-able ls (still-above k.number last l.number ls r.1 (omega arith) s.1) in
    grind (arith, e, rest)
  where
    still-above : (low last n : ℕ) (ls : List Line) → Rising low last ls → n ≤ low → AllByRecursion (IsIdle n) ls → AllByRecursion (λ l. can l.session ≡ false) ls
    still-above low last n [] r h s = tt
    still-above low last n (l ∷ ls) r h s = (let lt = r.0 in s.0 (omega arith), still-above l.number last n ls r.1 (let lt = r.0 in omega arith) s.1)
still-none low last (k ∷ ls) (suc i) l r a s c =
    let lt : k.number < l.number = rising-above k.number last ls i l r.1 (tail-at k ls i l a) in
    let no : can k.session ≡ false = s.0 (omega arith) in
    let rest = still-none k.number last ls i l r.1 (tail-at k ls i l a) s.1 c in
    grind (arith, no, rest)
