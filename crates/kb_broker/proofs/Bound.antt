-- The connections that are bound to a tenant are all in its view.
use Rattle.std.proofs.Common.{◌≡◌, ◌∙◌, ℕ, List, [], ◌∷◌, ◌==◌, ◌&&◌, Bool, true, false, refl, ap, cond, filter, subst, Some, None, Option}
use Rattle.std.specs.List.{AllByRecursion}
use Rattle.kb_isolation_spec.specs.Session.{BoundTo, Greets, Stage}
use Rattle.kb_isolation_spec.specs.Greeting.{Setup}
use Rattle.kb_isolation_spec.specs.Machine.{Happening, Line, those}
use Rattle.kb_isolation_spec.specs.Owners.{Fits, destiny, greeted_so_far, is_owner, whose}
use Rattle.kb_isolation_spec.specs.Broker.{BrokerState, Mine, view_of}
use Rattle.kb_isolation_spec.proofs.Owners.{destiny-bound, heard-bound}
use Rattle.kb_broker.specs.Counts.{is_of, lines_bound_to, waiting_lines}
use Rattle.kb_broker.specs.Places.{waits_in}

module _ (setup : Setup) (t : ℕ) (mine : ℕ → Bool) (es : List Happening) where
  -- one that is bound to the tenant is among its own
  own_by : (l : Line) (st : Stage) → l.session.stage ≡ st → Fits t (mine l.number) (destiny setup l.number (greeted_so_far setup l.session) es)
      → is_owner t (whose st) ≡ true → mine l.number ≡ true
  own_by l (Greets greeting) at fits h = absurd cc
  own_by l (BoundTo u wait) at fits h =
      let heard_all : greeted_so_far setup l.session ≡ l.session = heard-bound setup l.session u wait at in
      let bound : destiny setup l.number l.session es ≡ Some u = destiny-bound setup l.number l.session es u (record { wait = wait; is = at }) in
      let whole : destiny setup l.number (greeted_so_far setup l.session) es ≡ Some u = ap (λ s. destiny setup l.number s es) heard_all ∙ bound in
      subst (Fits t (mine l.number)) whole fits ∙ h

  own : (l : Line) → Fits t (mine l.number) (destiny setup l.number (greeted_so_far setup l.session) es) → is_of t l ≡ true → mine l.number ≡ true
  own l fits h = own_by l l.session.stage refl fits h

  -- what is taken of those that are bound to the tenant is taken of its own
  taken : (p : Line → Bool) → ((l : Line) → p l ≡ true → is_of t l ≡ true) → (ls : List Line)
      → AllByRecursion (λ l. Fits t (mine l.number) (destiny setup l.number (greeted_so_far setup l.session) es)) ls → filter p (those mine ls) ≡ filter p ls
  taken p bound [] all = refl
  taken p bound (l ∷ ls) all = go (mine l.number) refl (p l) refl (taken p bound ls all.1)
    where
      go : (m : Bool) → mine l.number ≡ m → (c : Bool) → p l ≡ c → filter p (those mine ls) ≡ filter p ls
          → filter p (cond m (l ∷ those mine ls) (those mine ls)) ≡ cond c (l ∷ filter p ls) (filter p ls)
      go true e true f k = ap (λ c. cond c (l ∷ filter p (those mine ls)) (filter p (those mine ls))) f ∙ ap (λ x. l ∷ x) k
      go true e false f k = ap (λ c. cond c (l ∷ filter p (those mine ls)) (filter p (those mine ls))) f ∙ k
      go false e true f k = let is_own = own l all.0 (bound l f) in absurd cc
      go false e false f k = k

first : (p q : Bool) → (p && q) ≡ true → p ≡ true
first true q h = refl
first false q h = absurd cc

pub bound_lines : (t : ℕ) (mine : ℕ → Bool) (es : List Happening) (b : BrokerState) → Mine t mine es b
    → lines_bound_to t (view_of t mine b).lines ≡ lines_bound_to t b.lines
bound_lines t mine es b owns = taken b.setup t mine es (is_of t) (λ l h. h) b.lines owns.now

pub bound_waits : (t : ℕ) (mine : ℕ → Bool) (es : List Happening) (b : BrokerState) → Mine t mine es b
    → waiting_lines t (view_of t mine b).lines ≡ waiting_lines t b.lines
bound_waits t mine es b owns =
    taken b.setup t mine es (λ (l : Line). is_of t l && waits_in (Some l.session)) (λ l h. first (is_of t l) (waits_in (Some l.session)) h) b.lines owns.now
