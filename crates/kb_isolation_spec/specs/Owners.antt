-- Which connections are a tenant's: those that what they say binds to it.
use Rattle.std.specs.Prelude.{◌≡◌, ℕ, ◌<◌, ◌==◌, List, [], ◌∷◌, length, filter, Bool, true, false, if◌then◌else◌, Option, Some, None, ⊤}
use Rattle.std.specs.List.{AllByRecursion}
use Rattle.kb_isolation_spec.specs.Session.{Stage, Greets, BoundTo, Session, new_session, fed}
use Rattle.kb_isolation_spec.specs.Greeting.{Setup, greeted}
use Rattle.kb_isolation_spec.specs.Machine.{Happening, Opens, Comes, Closes, Moment, Line, again, find_line}

-- 1. What a connection's own bytes lead it to

-- a greeting connection's next request; a bound one stays
abbrev pub greet_turn_at : Setup → Session → Stage → Session
greet_turn_at setup s (Greets greeting) = greeted setup greeting s
greet_turn_at setup s (BoundTo tenant wait) = s

unfoldable pub greet_turn : Setup → Session → Session
greet_turn setup s = greet_turn_at setup s s.stage

-- the greeting as far as the bytes go
unfoldable pub greeted_so_far : Setup → Session → Session
greeted_so_far setup s = again (greet_turn setup) (length s.unread) s

-- the tenant that a connection is bound to
abbrev pub whose : Stage → Option ℕ
whose (Greets greeting) = None
whose (BoundTo tenant wait) = Some tenant

-- the tenant that a connection's own pieces bind it to, those that come while it is open, or none
abbrev pub destiny : Setup → ℕ → Session → List Happening → Option ℕ
destiny setup n s [] = whose s.stage
destiny setup n s (Opens m ∷ es) = destiny setup n s es
destiny setup n s (Comes m piece ∷ es) = if m == n then destiny setup n (greeted_so_far setup (fed piece s)) es else destiny setup n s es
destiny setup n s (Closes m ∷ es) = if m == n then whose s.stage else destiny setup n s es
destiny setup n s (Moment now ∷ es) = destiny setup n s es

-- of a connection that is not open yet
abbrev pub unborn : Setup → ℕ → List Happening → Option ℕ
unborn setup n [] = None
unborn setup n (Opens m ∷ es) = if m == n then destiny setup n (new_session setup.request_bytes) es else unborn setup n es
unborn setup n (Comes m piece ∷ es) = unborn setup n es
unborn setup n (Closes m ∷ es) = unborn setup n es
unborn setup n (Moment now ∷ es) = unborn setup n es

abbrev pub fate_from : Setup → ℕ → Option Session → List Happening → Option ℕ
fate_from setup n None es = unborn setup n es
fate_from setup n (Some s) es = destiny setup n (greeted_so_far setup s) es

-- the owner of a connection: the tenant to which what it said and what it is still to say binds it, or none
abbrev pub owner : Setup → List Line → List Happening → ℕ → Option ℕ
owner setup lines es n = fate_from setup n (find_line n lines) es

abbrev pub is_owner : ℕ → Option ℕ → Bool
is_owner t None = false
is_owner t (Some u) = u == t

-- whether the connection is the tenant's
unfoldable pub owned : Setup → List Line → List Happening → ℕ → ℕ → Bool
owned setup lines es t n = is_owner t (owner setup lines es n)

-- 2. A tenant's events: the moments, and those of its connections

abbrev pub concerns : (ℕ → Bool) → Happening → Bool
concerns mine (Opens n) = mine n
concerns mine (Comes n piece) = mine n
concerns mine (Closes n) = mine n
concerns mine (Moment now) = true

abbrev pub purge : (ℕ → Bool) → List Happening → List Happening
purge mine es = filter (concerns mine) es

-- 3. What each step keeps

-- a connection that is bound in the end is the tenant's exactly if it is bound to it; of any other nothing is said
abbrev pub Fits : ℕ → Bool → Option ℕ → Type 0
Fits t included None = ⊤
Fits t included (Some u) = included ≡ (u == t)

-- those are the tenant's connections, by what they have said and what is still to come: the open ones, and the later ones. Some that
-- are never bound may be among them
pub record OwnsLines (setup : Setup) (t : ℕ) (mine : ℕ → Bool) (last : ℕ) (es : List Happening) (lines : List Line) : Type 0 where
  pub now : AllByRecursion (λ l. Fits t (mine l.number) (destiny setup l.number (greeted_so_far setup l.session) es)) lines
  pub later : (n : ℕ) → last < n → Fits t (mine n) (unborn setup n es)

-- the relation holds of each two, in order
abbrev pub Pairwise : (Line → Line → Type 0) → List Line → List Line → Type 0
Pairwise R [] [] = ⊤
Pairwise R [] (m ∷ ms) = ⊥
Pairwise R (l ∷ ls) [] = ⊥
Pairwise R (l ∷ ls) (m ∷ ms) = R l m × Pairwise R ls ms
