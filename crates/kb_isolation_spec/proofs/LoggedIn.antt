-- On the broker of all tenants a bound connection has logged in as a user of its tenant.
use Rattle.std.proofs.Common.{◌≡◌, ℕ, List, [], ◌∷◌, ◌++◌, Bool, sym, ap, subst, arith}
use Rattle.kb_isolation_spec.specs.Greeting.{User}
use Rattle.kb_isolation_spec.specs.Machine.{Happening, Line, View, Sent, those}
use Rattle.kb_isolation_spec.specs.Owners.{purge}
use Rattle.kb_isolation_spec.specs.Broker.{BrokerState, IsCalmFor, IsEventRun, Mine, Rising, view_of}
use Rattle.kb_isolation_spec.specs.Told.{quieted_lines}
use Rattle.kb_isolation_spec.specs.Left.{IsLeft, LeavesWorlds, last_world}
use Rattle.kb_isolation_spec.specs.Logins.{HaveLoggedIn}
use Rattle.kb_isolation_spec.proofs.Alone.{run-purge}
use Rattle.kb_isolation_spec.proofs.Logins.{have-last}

-- who takes the output changes no login
have-quieted : (users : List User) (ls : List Line) → HaveLoggedIn users ls → HaveLoggedIn users (quieted_lines ls)
have-quieted users [] h = tt
have-quieted users (l ∷ ls) h = (h.0, have-quieted users ls h.1)

pub have-left : (t : ℕ) (mine : ℕ → Bool) (es later : List Happening) (a b : BrokerState) (got : List Sent) → a.lines ≡ [] → IsEventRun a.last es → LeavesWorlds es a b got → Mine t mine (es ++ later) a → IsCalmFor t a b → HaveLoggedIn a.setup.users (those mine b.lines)
have-left t mine es later a b got none run leaves owns calm =
    let left : IsLeft t mine es later a b got = leaves t mine later owns calm in
    let w : View = view_of t mine a in
    let nobody : those mine a.lines ≡ [] = ap (those mine) none in
    let rising : Rising 0 a.last w.lines = subst (Rising 0 a.last) (sym nobody) (let e : Rising 0 a.last [] = omega arith in e) in
    let have = have-last a.last (purge mine es) w rising (run-purge mine a.last es run) (subst (HaveLoggedIn a.setup.users) (sym nobody) tt) in
    subst (HaveLoggedIn a.setup.users) (sym (ap (λ (v : View). v.lines) left.world)) (have-quieted a.setup.users (last_world (purge mine es) w).lines have)
