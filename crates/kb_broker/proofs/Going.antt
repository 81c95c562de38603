-- Turns that go on: among which connections, and what they leave of the broker on its store.
use Rattle.std.proofs.Common.{◌≡◌, ◌≢◌, ◌<◌, ◌≤◌, ◌+◌, ℕ, zero, suc, List, [], ◌∷◌, length, get_or, set, take, eqb, Option, Some, None, Bool, true, false, inl, inr, refl, sym, ◌∙◌, ap, subst, arith}
use Rattle.std.specs.Prelude.{Contains, ◌⊎◌, cond, max}
use Rattle.std.specs.Bool.{OnTrue}
use Rattle.std.specs.FinMap as fin
use Rattle.std.specs.List.{All, AllByRecursion}
use Rattle.std.specs.List.Sorted.{IsPermutation}
use Rattle.std.proofs.lemmas.Bool.Decides.{nat_tests}
use Rattle.std.proofs.lemmas.List.{get_or_default, take_more}
use Rattle.std.proofs.lemmas.List.Elements.{All-contains, Contains-push_cases}
use Rattle.std.proofs.lemmas.List.Sorted.{Contains-permutation}
use Rattle.kb_waits.specs.Queue as queue
use Rattle.kb_waits.specs.Queue.{Queue}
use Rattle.kb_store.specs.Disk.{Disk}
use Rattle.kb_tenant_api.specs.Hosted as hosted
use Rattle.kb_tenant_api.specs.Hosted.{TenantState}
use Rattle.kb_tenant_api.specs.Serve.{has_released}
use Rattle.kb_tenant_api.specs.Turns.{IsTurn}
use Rattle.kb_tenant.specs.Replies.{Silent}
use Rattle.kb_isolation_spec.specs.Tenant.{Wait, ready}
use Rattle.kb_isolation_spec.specs.Session.{Stage, Greets, BoundTo, Session, can, is_free, without_wait}
use Rattle.kb_isolation_spec.specs.Machine.{Line, Moment, first_able}
use Rattle.std.specs.declared.alloc.Global.{Global}
use Rattle.std.specs.declared.vec.Vec.{Vec}
use Rattle.kb_isolation_spec.specs.Owners.{whose}
use Rattle.kb_isolation_spec.specs.Machine.{find_line}
use Rattle.kb_isolation_spec.specs.Broker.{BrokerState, IsSound, IsUnready, AreUnready, AnyWait}
use Rattle.kb_isolation_spec.specs.declared.whom.Whom.TheVariants as whoms
use Rattle.kb_isolation_spec.specs.Turned.{Scope, Everybody, AreStill, IsGoing, IsLookedFor, SameOthers, Served, Turned, Waked}
use Rattle.kb_isolation_spec.proofs.Sets.{IsAt, all-map, none-able, find-at}
use Rattle.kb_isolation_spec.proofs.Feeds.{still-settled}
use Rattle.kb_isolation_spec.proofs.Parts.{each-tenant, eqb_same, eqb_other}
use Rattle.kb_isolation_spec.proofs.Owned.{found as found-all}
use Rattle.kb_isolation_spec.proofs.Quiet.{first-silent, own-turn}
use Rattle.kb_isolation_spec.proofs.Turns.{free-unready, going-same, going-then, turned-same, turned-then, unready-weaken}
use Rattle.kb_isolation_spec.proofs.Wakes.{turned-quiet, turned-served}
use Rattle.kb_isolation_spec.specs.Stranded.{NoneStranded}
use Rattle.kb_broker.specs.Hosts.{OnStore, is_honest, IsLater, IsLaterBy, IsReadyOn, NoneReady, StepsTo}
use Rattle.kb_broker.specs.Truth.{PassesAt, SpeaksAt, SpeaksFor, SpeaksIn, SpeaksTruth}
use Rattle.kb_broker.specs.Places.{numbers, waits_in, AreIdle, IsNext, IsScoped, IsMemberTurnAt, IsServedAt, IsTakenAt, IsTurnAt}
use Rattle.kb_broker.specs.Parked.{deadline_at, deadline_in, until_of, AreAllOf, AreAnswered, IsKeyedAt, IsKeyedIn, IsOwnedAt, IsOwnedIn, IsQueueOf, IsAskedOnAt, IsPassedOn, IsWhose, IsLeftAmong, IsLeftBy, IsQuietAt, IsUnreadyAt, IsUnreadyIn, IsSoughtAt, IsSoughtIn, IsMinded, AreMinded, SameBut, IsServedFor, IsOwnTo, IsAllOf, IsLeftTo, IsReadyAmong, can_in, AreAmong}
use Rattle.kb_broker.specs.declared.serving.Concerned.{Concerned}
use Rattle.kb_broker.specs.declared.serving.Concerned.TheVariants as concerned
use Rattle.kb_broker.proofs.Honest.{later-after, later-same, later-then, ready-of}
use Rattle.kb_broker.proofs.Handled.{HasBegun, IsMoved, IsTaken, idle-none, moved-going, moved-held, moved-others, moved-step, moved-unready, put_with, unready-over, waked-still, scoped-turned, served-for, served-taken}
use Rattle.kb_broker.proofs.Truth.{in_then, moment_then}
use Rattle.kb_broker.proofs.Parked.{IsCarried, among, among-same, among-settled, at-unready, carried-same, carried-turn, deadline-free, each-find, find-set, first-least, minded-all, queue-put, unready-at, waiting-on}

-- 1. Numbers that are put in

contains-more : (y : ℕ) (xs : List ℕ) (k : ℕ) → Contains xs k → Contains (y ∷ xs) k
contains-more y xs k c = (suc c.0, (let h = c.1 in omega (arith, h)), c.2)

contains-first : (k : ℕ) (xs : List ℕ) → Contains (k ∷ xs) k
contains-first k xs = (0, omega arith, refl)

pub contains-cases : (y : ℕ) (xs : List ℕ) (k : ℕ) → Contains (y ∷ xs) k → (y ≡ k) ⊎ Contains xs k
contains-cases y xs k c = at c.0 c.1 c.2
  where
    at : (i : ℕ) → i < suc (length xs) → get_or (y ∷ xs) i k ≡ k → (y ≡ k) ⊎ Contains xs k
    at zero lt is = inl is
    at (suc i) lt is = inr (i, omega (arith, lt), is)

-- one more is put in
pub put-keeps : (n : ℕ) (ns ms : List ℕ) → IsPermutation (n ∷ ns) ms → (k : ℕ) → Contains ns k → Contains ms k
put-keeps n ns ms put k c = Contains-permutation (n ∷ ns) ms k put (contains-more n ns k c)

-- and the numbers up to a place were put in before, of those that can take a turn
pub put-more : (P : ℕ → Type 0) (i : ℕ) (ns ks ms : List ℕ) (d : ℕ) → i < length ns → IsPermutation (get_or ns i d ∷ ks) ms → ((k : ℕ) → P k → Contains (take i ns) k → Contains ks k) → (k : ℕ) → P k → Contains (take (i + 1) ns) k → Contains ms k
put-more P i ns ks ms d lt put added k able c = by (Contains-push_cases (take i ns) (get_or ns i d) k (subst (λ xs. Contains xs k) (take_more ns i d lt) c))
  where
    by : Contains (take i ns) k ⊎ (get_or ns i d ≡ k) → Contains ms k
    by (inl c) = put-keeps (get_or ns i d) ks ms put k (added k able c)
    by (inr e) = Contains-permutation (get_or ns i d ∷ ks) ms k put (subst (λ j. Contains (j ∷ ks) k) (sym e) (contains-first k ks))

-- one that cannot is left out
pub skip-more : (P : ℕ → Type 0) (i : ℕ) (ns ks : List ℕ) (d : ℕ) → i < length ns → (P (get_or ns i d) → ⊥) → ((k : ℕ) → P k → Contains (take i ns) k → Contains ks k) → (k : ℕ) → P k → Contains (take (i + 1) ns) k → Contains ks k
skip-more P i ns ks d lt stuck added k able c = by (Contains-push_cases (take i ns) (get_or ns i d) k (subst (λ xs. Contains xs k) (take_more ns i d lt) c))
  where
    by : Contains (take i ns) k ⊎ (get_or ns i d ≡ k) → Contains ks k
    by (inl c) = added k able c
    by (inr e) = absurd (stuck (subst P (sym e) able))

-- 2. The least number of those that can take a turn

-- it can take a turn, and all that can are among those of which it is the least: it is the next
pub next-least : (b : BrokerState) (i : ℕ) (l : Line) (ns : List ℕ) → IsSound b → IsAt b.lines i l → All (λ k. l.number ≤ k) ns → AreAmong ns b → can l.session ≡ true → IsNext i b
next-least b i l ns sound at least among able = record {
  sound = sound;
  within = at.within;
  first = λ d. first-least 0 b.last b.lines i l sound.rising at
      (all-map (λ (k : Line). find_line k.number b.lines ≡ Some k.session) (λ (k : Line). k.number < l.number → can k.session ≡ false) (λ k found lt. stuck k found lt (can k.session) refl) b.lines (found-all 0 b.last b.lines sound.rising))
      able
      ∙ ap Some (at.here ∙ get_or_default b.lines i l d at.within);
}
  where
    stuck : (k : Line) → find_line k.number b.lines ≡ Some k.session → k.number < l.number → (c : Bool) → can k.session ≡ c → can k.session ≡ false
    stuck k found lt true e = let up = All-contains (λ j. l.number ≤ j) ns k.number least (among k.number (ap can_in found ∙ e)) in absurd (omega (arith, lt, up))
    stuck k found lt false e = e

-- nobody can take a turn where nobody is among those that can
pub none-among : (b : BrokerState) (ns : List ℕ) → IsSound b → ns ≡ [] → AreAmong ns b → first_able b.lines ≡ None
none-among b ns sound none among = none-able b.lines (each-find (λ n o. can_in o ≡ false) 0 b.last b.lines sound.rising (λ n. by n (can_in (find_line n b.lines)) refl))
  where
    by : (n : ℕ) (c : Bool) → can_in (find_line n b.lines) ≡ c → can_in (find_line n b.lines) ≡ false
    by n true e = let c = subst (λ ks. Contains ks n) none (among n e) in absurd (let h = c.1 in omega (arith, h))
    by n false e = e

-- the least is taken out
pub among-taken : (b : BrokerState) (n : ℕ) (ns ms : List ℕ) → AreAmong ns b → IsPermutation ns (n ∷ ms) → AreAmong (n ∷ ms) b
among-taken b n ns ms among taken k able = Contains-permutation ns (n ∷ ms) k taken (among k able)

-- and cannot take a turn
pub among-popped : (b : BrokerState) (n : ℕ) (ns ms : List ℕ) → AreAmong ns b → IsPermutation ns (n ∷ ms) → can_in (find_line n b.lines) ≡ false → AreAmong ms b
among-popped b n ns ms among taken stuck k able = by (contains-cases n ms k (among-taken b n ns ms among taken k able))
  where
    by : (n ≡ k) ⊎ Contains ms k → Contains ms k
    by (inl e) = let no : false ≡ true = sym stuck ∙ (ap (λ j. can_in (find_line j b.lines)) e ∙ able) in absurd (cc)
    by (inr c) = c

-- what join says
abbrev pub AreJoined : (ns ms ks : List ℕ) → BrokerState → Type 0
AreJoined ns ms ks b = (k : ℕ) → can_in (find_line k b.lines) ≡ true → Contains ms k ⊎ Contains ns k → Contains ks k

-- where it is known
pub from-true : (b : Bool) (P : Type 0) → b ≡ true → OnTrue b P → P
from-true true P e h = h
from-true false P e h = let no : false ≡ true = e in absurd (cc)

-- after the turn of the connection of that number, which was taken out, and looks at no other, it was put in again
pub among-nobody : (a b : BrokerState) (n : ℕ) (ns ms ks : List ℕ) → SameOthers n a b → AreAmong (n ∷ ms) a → ns ≡ n ∷ [] → AreJoined ns ms ks b → AreAmong ks b
among-nobody a b n ns ms ks same among own joined k able = joined k able (by (eqb n k) refl)
  where
    rest : k ≢ n → (n ≡ k) ⊎ Contains ms k → Contains ms k ⊎ Contains ns k
    rest ne (inl e) = absurd (ne (sym e))
    rest ne (inr c) = inl c

    by : (c : Bool) → eqb n k ≡ c → Contains ms k ⊎ Contains ns k
    by true e = inr (subst (λ xs. Contains xs k) (sym own) (subst (λ j. Contains (j ∷ []) k) (sym (eqb_same n k e)) (contains-first k [])))
    by false e = rest (eqb_other n k e) (contains-cases n ms k (among k (sym (ap can_in (same k (eqb_other n k e))) ∙ able)))

-- where those that were looked at were put in, and it is one of them
pub among-joined : (a b : BrokerState) (n : ℕ) (ns ms ks : List ℕ) → Contains ns n → SameBut ns a b → AreAmong (n ∷ ms) a → AreJoined ns ms ks b → AreAmong ks b
among-joined a b n ns ms ks own same among joined k able = joined k able (by (among-same ns (n ∷ ms) a b same among k able))
  where
    out : (n ≡ k) ⊎ Contains ms k → Contains ms k ⊎ Contains ns k
    out (inl e) = inr (subst (Contains ns) e own)
    out (inr c) = inl c

    by : Contains (n ∷ ms) k ⊎ Contains ns k → Contains ms k ⊎ Contains ns k
    by (inl c) = out (contains-cases n ms k c)
    by (inr c) = inr c

-- the connection that alone can take a turn
idle-able : (n k : ℕ) (ls : List Line) → AllByRecursion (λ (l : Line). l.number ≢ n → can l.session ≡ false) ls → k ≢ n → can_in (find_line k ls) ≡ true → ⊥
idle-able n k [] idle ne able = let no : false ≡ true = able in absurd (cc)
idle-able n k (l ∷ ls) idle ne able = by (eqb l.number k) refl (idle-able n k ls idle.1 ne) able
  where
    by : (c : Bool) → eqb l.number k ≡ c → (can_in (find_line k ls) ≡ true → ⊥) → can_in (cond c (Some l.session) (find_line k ls)) ≡ true → ⊥
    by true e rest h = let no : false ≡ true = sym (idle.0 (λ same. ne (sym (eqb_same l.number k e) ∙ same))) ∙ h in absurd (cc)
    by false e rest h = rest h

-- after its turn, and looks
pub among-idle : (n : ℕ) (ns : List ℕ) (a b : BrokerState) → AreIdle n a → Contains ns n → SameBut ns a b → AreAmong ns b
among-idle n ns a b idle own same k able = by (among k ns)
  where
    by : Contains ns k ⊎ (Contains ns k → ⊥) → Contains ns k
    by (inl c) = c
    by (inr apart) = absurd (idle-able n k a.lines idle (λ e. apart (subst (Contains ns) (sym e) own)) (sym (ap can_in (same k apart)) ∙ able))

-- where it alone stands there, no other has changed
pub one-same : (n : ℕ) (ns : List ℕ) (a b : BrokerState) → Contains ns n → length ns ≤ 1 → SameBut ns a b → SameOthers n a b
one-same n ns a b own one same k ne = same k (λ c. ne (sym c.2 ∙ (first k c.0 c.1 ∙ (get_or_default ns 0 k n (let h = own.1 in omega (arith, h)) ∙ (sym (first n own.0 own.1) ∙ own.2)))))
  where
    first : (d i : ℕ) → i < length ns → get_or ns i d ≡ get_or ns 0 d
    first d i lt = ap (λ j. get_or ns j d) (let zero : i ≡ 0 = omega (arith, lt, one) in zero)

-- 3. Turns that were taken

-- connections took some turns from a on, and all that stands between turns holds
pub record HasGone {S : Type 0} (disk : S → Disk) (a b : OnStore S) : Type 0 where
  pub going : IsGoing a.state b.state
  pub later : IsLater disk a b
  pub unready : NoneReady disk b
  pub still : is_honest disk b → IsScoped b.state
  pub turned : is_honest disk b → (scope : Scope) → AreStill scope a.state → Turned scope a.state b.state

pub gone-same : {S : Type 0} (disk : S → Disk) (a : OnStore S) → IsSound a.state → NoneReady disk a → (is_honest disk a → IsScoped a.state) → HasGone disk a a
gone-same disk a sound unready still = record {
  going = going-same a.state sound;
  later = later-same disk a;
  unready = unready;
  still = still;
  turned = λ honest scope s. turned-same scope a.state sound s;
}

-- and then some more
pub gone-then : {S : Type 0} (disk : S → Disk) (a b c : OnStore S) → HasGone disk a b → IsGoing b.state c.state → IsLater disk b c → (is_honest disk c → (scope : Scope) → AreStill scope b.state → Turned scope b.state c.state) → HasGone disk a c
gone-then disk a b c h going later turned = record {
  going = going-then a.state b.state c.state h.going going;
  later = later-then disk a b c h.later later;
  unready = λ honest. let before = later.honest honest in let scoped = h.still before in (turned honest scoped.0 scoped.1).unready (h.unready before);
  still = λ honest. scoped-turned b.state c.state (h.still (later.honest honest)) (turned honest);
  turned = λ honest scope s. let before = h.turned (later.honest honest) scope s in turned-then scope a.state b.state c.state before (turned honest scope before.still);
}

-- 4. One turn

able-free : (s : Session) → can s ≡ true → is_free s.stage ≡ true
unfolding can
able-free s e = grind (arith, e)

-- a connection that can take a turn does not stand in the queue
pub not-parked : (H : Type 0) (q : Queue) (a b : BrokerState) (i : ℕ) (l : Line) → a ≡ b → IsQueueOf H q a.tenants a.lines → IsSound b → IsAt b.lines i l → can l.session ≡ true → fin.get q l.number ≡ None
not-parked H q a b i l e v sound at able =
    none (fin.get q l.number)
    (v.dated l.number
    ∙ (ap (λ (x : BrokerState). deadline_in (find_line l.number x.lines)) e
    ∙ (ap deadline_in (find-at 0 b.last b.lines i l sound.rising at)
    ∙ deadline-free l.session.stage (able-free l.session able))))
  where
    none : (o : Option queue.Wait) → until_of o ≡ None → o ≡ None
    none (Some w) h = absurd (cc)
    none None h = refl

-- what the tenants keep after a turn at that stage, for those that stand in the queue
carried-at : (H : Type 0) → H → (st : Stage) (b : BrokerState) (us : List TenantState) (q : Queue) → AreUnready AnyWait b → IsTurnAt H st b.tenants us → IsAskedOnAt st b.tenants us → IsCarried b.tenants us b.lines q
carried-at H honest (Greets h) b us q unready turn asked = subst (λ ts. IsCarried b.tenants ts b.lines q) (sym turn) (carried-same b.tenants b.tenants b.lines q (λ t. omega arith) (λ t. refl))
carried-at H honest (BoundTo t w) b us q unready turn asked = carried-turn H honest t b.tenants us b.lines q turn asked (waiting-on b unready)

queue-taken : (H G : Type 0) (q p : Queue) (b : BrokerState) (i : ℕ) (l m : Line) (us : List TenantState) → IsQueueOf H q b.tenants b.lines → IsTaken G b i l m us → (G → H) → (H → AreUnready AnyWait b) → (G → IsAskedOnAt l.session.stage b.tenants us)
    → ((k : ℕ) → k ≢ l.number → fin.get p k ≡ fin.get q k) → until_of (fin.get p l.number) ≡ deadline_at m.session.stage → IsOwnedAt m.session.stage (fin.get p l.number) → (G → IsKeyedAt us l.number m.session.stage (fin.get p l.number)) → IsQueueOf G p us (set b.lines i m)
queue-taken H G q p b i l m us v k back unready asked parked dated owned keyed =
    queue-put H G q p b.tenants us 0 b.last b.lines i l m v k.next.sound.rising k.at k.number back parked dated owned
    (λ honest. carried-at G honest l.session.stage b us q (unready (back honest)) k.turn (asked honest)) keyed

-- the queue after a turn, where a is what the broker's own fields are
pub queue-turn : (H G : Type 0) (q p : Queue) (a b : BrokerState) (i : ℕ) (l m : Line) (us : List TenantState) → a ≡ b → IsQueueOf H q a.tenants a.lines → IsTaken G b i l m us → (G → H) → (H → AreUnready AnyWait b) → (G → IsAskedOnAt l.session.stage a.tenants us)
    → ((k : ℕ) → k ≢ l.number → fin.get p k ≡ fin.get q k) → until_of (fin.get p l.number) ≡ deadline_at m.session.stage → IsOwnedAt m.session.stage (fin.get p l.number) → (G → IsKeyedAt us l.number m.session.stage (fin.get p l.number)) → IsQueueOf G p us (set a.lines i m)
queue-turn H G q p a b i l m us e v k back unready asked parked dated owned keyed =
    subst (λ (x : BrokerState). IsQueueOf H q x.tenants x.lines → (G → IsAskedOnAt l.session.stage x.tenants us) → IsQueueOf G p us (set x.lines i m)) (sym e)
    (λ v' asked'. queue-taken H G q p b i l m us v' k back unready asked' parked dated owned keyed) v asked

-- the turn of a connection bound to a tenant leaves no wait of the tenant ready but among those
record IsSpared (t : ℕ) (ns : List ℕ) (b : BrokerState) (l m : Line) (us : List TenantState) (d : BrokerState) : Type 0 where
  own : Contains ns l.number × IsSoughtAt (whoms.Tenant t) d.clock m.session.stage
  others : (k : ℕ) (y : Session) (w : Wait) → k ≢ l.number → find_line k b.lines ≡ Some y → y.stage ≡ BoundTo t (Some w) → ready (hosted.kept_of b.tenants t) b.clock k w ≡ Silent → (ready (hosted.kept_of us t) b.clock k w ≡ Silent) ⊎ Contains ns k

-- a connection bound to a tenant waits for what is looked for as the tenant's
sought-own : (t clock : ℕ) (st : Stage) → without_wait st ≡ BoundTo t None → IsSoughtAt (whoms.Tenant t) clock st
sought-own t clock (Greets h) e = tt
sought-own t clock (BoundTo u None) e = tt
sought-own t clock (BoundTo u (Some w)) e = let is : u ≡ t = cc in grind (arith, nat_tests, is)

-- where the queue has each that waits under what it asks
spared-passed : (H G : Type 0) → G → (t : ℕ) (x : Option Wait) (ns : List ℕ) (b : BrokerState) (i : ℕ) (l m : Line) (us : List TenantState) (q : Queue) → IsTaken H b i l m us → l.session.stage ≡ BoundTo t x → IsQueueOf G q b.tenants b.lines
    → IsTurn t H b.tenants us → IsPassedOn b.setup t b.clock l.number q b.tenants us l.session m.session ns → IsSpared t ns b l m us (put_with b i m us)
spared-passed H G true-so t x ns b i l m us q taken bound v turn p = record {
  own = (p.own, sought-own t b.clock m.session.stage (taken.spent.stage t x bound ∙ ap without_wait bound));
  others = λ k y w ne e f silent. mine k y w ne e f silent (among k ns);
}
  where
    calm : hosted.refusals_of b.tenants t ≡ 0
    calm = let up = turn.grows t in let end = p.calm in omega (arith, up, end)

    apart : (k : ℕ) (y : Session) (w : Wait) → k ≢ l.number → find_line k b.lines ≡ Some y → y.stage ≡ BoundTo t (Some w) → ready (hosted.kept_of b.tenants t) b.clock k w ≡ Silent → (Contains ns k → ⊥) → ready (hosted.kept_of us t) b.clock k w ≡ Silent
    apart k y w ne e f silent not-in =
        let keyed : IsKeyedAt b.tenants k (BoundTo t (Some w)) (fin.get q k) = subst (λ st. IsKeyedAt b.tenants k st (fin.get q k)) f (subst (λ o. IsKeyedIn b.tenants k o (fin.get q k)) e (v.keyed true-so k)) in
        p.others k w ne not-in (keyed calm (first-silent (hosted.kept_of b.tenants t) b.clock k w silent)) silent

    mine : (k : ℕ) (y : Session) (w : Wait) → k ≢ l.number → find_line k b.lines ≡ Some y → y.stage ≡ BoundTo t (Some w) → ready (hosted.kept_of b.tenants t) b.clock k w ≡ Silent → Contains ns k ⊎ (Contains ns k → ⊥) → (ready (hosted.kept_of us t) b.clock k w ≡ Silent) ⊎ Contains ns k
    mine k y w ne e f silent (inl c) = inr c
    mine k y w ne e f silent (inr not-in) = inl (apart k y w ne e f silent not-in)

-- where all of the tenant's are among those
spared-all : (H G : Type 0) (t : ℕ) (x : Option Wait) (ns : List ℕ) (b : BrokerState) (i : ℕ) (l m : Line) (us : List TenantState) (q : Queue) → IsTaken H b i l m us → l.session.stage ≡ BoundTo t x → IsQueueOf G q b.tenants b.lines
    → AreAllOf t l.number q ns → IsSpared t ns b l m us (put_with b i m us)
spared-all H G t x ns b i l m us q taken bound v all = record {
  own = (all.own, sought-own t b.clock m.session.stage (taken.spent.stage t x bound ∙ ap without_wait bound));
  others = λ k y w ne e f silent. inr (all.others k ne (subst (λ st. IsOwnedAt st (fin.get q k)) f (subst (λ o. IsOwnedIn o (fin.get q k)) e (v.owned k))));
}

-- and that no other may be ready
left-spared : (H : Type 0) → H → (t : ℕ) (ns : List ℕ) (b : BrokerState) (i : ℕ) (l m : Line) (us : List TenantState) → AreUnready AnyWait b → IsTaken H b i l m us
    → IsTurn t H b.tenants us → IsSpared t ns b l m us (put_with b i m us) → (k : ℕ) → IsMinded (whoms.Tenant t) ns (put_with b i m us) k
left-spared H honest t ns b i l m us unready taken turn p k =
    find-set (λ o. IsUnreadyIn d k o ⊎ (Contains ns k × IsSoughtIn (whoms.Tenant t) d.clock o)) 0 b.last k b.lines i l m taken.next.sound.rising taken.at taken.number
    (λ ne. other (find_line k b.lines) refl ne) (λ e. subst (λ j. IsUnready AnyWait d j m.session.stage ⊎ (Contains ns j × IsSoughtAt (whoms.Tenant t) d.clock m.session.stage)) (sym e) (inr p.own))
  where
    d : BrokerState
    d = put_with b i m us

    asked-here : (w : Wait) → (ready (hosted.kept_of us t) b.clock k w ≡ Silent) ⊎ Contains ns k → IsUnready AnyWait d k (BoundTo t (Some w)) ⊎ (Contains ns k × IsSoughtAt (whoms.Tenant t) d.clock (BoundTo t (Some w)))
    asked-here w (inl silent) = inl (λ any. silent)
    asked-here w (inr c) = inr (c, grind (arith, nat_tests))

    waits : k ≢ l.number → (y : Session) (r : Stage) → find_line k b.lines ≡ Some y → y.stage ≡ r → IsUnready AnyWait b k r → IsUnready AnyWait d k r ⊎ (Contains ns k × IsSoughtAt (whoms.Tenant t) d.clock r)
    waits ne y (Greets h) e f unready' = inl tt
    waits ne y (BoundTo n None) e f unready' = inl tt
    waits ne y (BoundTo n (Some w)) e f unready' = by (eqb t n) refl
      where
        by : (c : Bool) → eqb t n ≡ c → IsUnready AnyWait d k (BoundTo n (Some w)) ⊎ (Contains ns k × IsSoughtAt (whoms.Tenant t) d.clock (BoundTo n (Some w)))
        by true g =
            let is : t ≡ n = eqb_same t n g in
            subst (λ j. IsUnready AnyWait d k (BoundTo j (Some w)) ⊎ (Contains ns k × IsSoughtAt (whoms.Tenant t) d.clock (BoundTo j (Some w)))) is
            (asked-here w (p.others k y w ne e (f ∙ ap (λ j. BoundTo j (Some w)) (sym is)) (subst (λ j. ready (hosted.kept_of b.tenants j) b.clock k w ≡ Silent) (sym is) (unready' tt))))
        by false g = inl (λ any. ap (λ x. ready x b.clock k w) (turn.others honest n (eqb_other t n g)) ∙ unready' tt)

    other : (o : Option Session) → find_line k b.lines ≡ o → k ≢ l.number → IsUnreadyIn d k (find_line k b.lines) ⊎ (Contains ns k × IsSoughtIn (whoms.Tenant t) d.clock (find_line k b.lines))
    other None e ne = inl (subst (IsUnreadyIn d k) (sym e) tt)
    other (Some y) e ne = subst (λ o. IsUnreadyIn d k o ⊎ (Contains ns k × IsSoughtIn (whoms.Tenant t) d.clock o)) (sym e) (waits ne y y.stage e refl (subst (IsUnreadyIn b k) e (unready-at b unready k)))

-- where all that its groups answered are among those
spared-answered : (H : Type 0) (t : ℕ) (x : Option Wait) (ns : List ℕ) (b : BrokerState) (i : ℕ) (l m : Line) (us : List TenantState) → IsTaken H b i l m us → l.session.stage ≡ BoundTo t x → AreAnswered t b.clock l.number b.tenants us ns
    → IsSpared t ns b l m us (put_with b i m us)
spared-answered H t x ns b i l m us taken bound p = record {
  own = (p.own, sought-own t b.clock m.session.stage (taken.spent.stage t x bound ∙ ap without_wait bound));
  others = λ k y w ne e f silent. by k w ne silent (among k ns);
}
  where
    by : (k : ℕ) (w : Wait) → k ≢ l.number → ready (hosted.kept_of b.tenants t) b.clock k w ≡ Silent → Contains ns k ⊎ (Contains ns k → ⊥) → (ready (hosted.kept_of us t) b.clock k w ≡ Silent) ⊎ Contains ns k
    by k w ne silent (inl c) = inr c
    by k w ne silent (inr not-in) = inl (p.others k w ne not-in silent)

left-these : (H : Type 0) → H → (G : Type 0) → G → (t : ℕ) (ns : List ℕ) (b : BrokerState) (i : ℕ) (l m : Line) (us : List TenantState) (q : Queue) (st : Stage) → AreUnready AnyWait b → IsTaken H b i l m us → l.session.stage ≡ st → whose st ≡ Some t → IsQueueOf G q b.tenants b.lines
    → IsTurnAt H st b.tenants us → IsLeftAmong b.setup t b.clock l.number q b.tenants us l.session m.session ns → (k : ℕ) → IsMinded (whoms.Tenant t) ns (put_with b i m us) k
left-these H honest G true-so t ns b i l m us q (Greets h) unready taken s who v turn p = absurd (cc)
left-these H honest G true-so t ns b i l m us q (BoundTo u x) unready taken s who v turn' p = left-spared H honest t ns b i l m us unready taken turn (by p)
  where
    same : u ≡ t
    same = cc

    bound : l.session.stage ≡ BoundTo t x
    bound = s ∙ ap (λ n. BoundTo n x) same

    turn : IsTurn t H b.tenants us
    turn = subst (λ n. IsTurn n H b.tenants us) same turn'

    by : IsLeftAmong b.setup t b.clock l.number q b.tenants us l.session m.session ns → IsSpared t ns b l m us (put_with b i m us)
    by (inl passed) = spared-passed H G true-so t x ns b i l m us q taken bound v turn passed
    by (inr (inl all)) = spared-all H G t x ns b i l m us q taken bound v all
    by (inr (inr answered)) = spared-answered H t x ns b i l m us taken bound answered

pub left-by : (H : Type 0) → H → (G : Type 0) → G → (c : Concerned) (b : BrokerState) (i : ℕ) (l m : Line) (us : List TenantState) (q : Queue) → AreUnready AnyWait b → IsTaken H b i l m us → IsWhose c l.session.stage → IsQueueOf G q b.tenants b.lines
    → IsLeftBy c b.setup b.clock l.session.stage l.number q b.tenants us l.session m.session → IsLeftTo c (put_with b i m us)
left-by H honest G true-so concerned.Nobody b i l m us q unready k who v left = tt
left-by H honest G true-so (concerned.These t ns) b i l m us q unready k who v left = left-these H honest G true-so t ns.items b i l m us q l.session.stage unready k refl who v k.turn left
left-by H honest G true-so (concerned.All t) b i l m us q unready k who v left = tt

-- the turn of a connection bound to a tenant made nothing ready that waits
quiet-at : (H : Type 0) → H → (G : Type 0) → G → (scope : Scope) (b : BrokerState) (i : ℕ) (l m : Line) (us : List TenantState) (q : Queue) (st : Stage) → AreUnready AnyWait b → IsTaken H b i l m us → l.session.stage ≡ st → IsQueueOf G q b.tenants b.lines
    → IsTurnAt H st b.tenants us → IsServedAt st scope b (put_with b i m us) → IsQuietAt b.setup b.clock l.number st q b.tenants us l.session m.session → Turned scope b (put_with b i m us)
quiet-at H honest G true-so scope b i l m us q (Greets h) unready k s v turn served quiet = served
quiet-at H honest G true-so scope b i l m us q (BoundTo t w) unready k s v turn served quiet =
    turned-quiet t scope b d served (at-unready d served.going.sound (λ j. each-tenant (λ n. IsUnreadyAt n d) l.number j (eqb l.number j) refl here (λ ne. other j ne (left j))))
  where
    d : BrokerState
    d = put_with b i m us

    own : (has_released (hosted.kept_of us t).groups ≡ false) ⊎ (is_free m.session.stage ≡ true) → IsUnready AnyWait d m.number m.session.stage
    own (inl none) = own-turn b i t l m us H turn honest k.at (able-free l.session k.able) (ap without_wait s) k.number (k.spent.stage t w s) quiet.session quiet.kept none
    own (inr free) = free-unready AnyWait d m.number m.session.stage free

    here : IsUnreadyAt l.number d
    here = find-set (IsUnreadyIn d l.number) 0 b.last l.number b.lines i l m k.next.sound.rising k.at k.number (λ ne. absurd (ne refl)) (λ e. subst (λ n. IsUnready AnyWait d n m.session.stage) k.number (own quiet.own))

    left : (j : ℕ) → IsMinded (whoms.Tenant t) (l.number ∷ []) d j
    left = left-these H honest G true-so t (l.number ∷ []) b i l m us q (BoundTo t w) unready k s refl v turn quiet.others

    other : (j : ℕ) → j ≢ l.number → IsMinded (whoms.Tenant t) (l.number ∷ []) d j → IsUnreadyAt j d
    other j ne (inl u) = u
    other j ne (inr p) = absurd (one j ne p.0)
      where
        one : (j : ℕ) → j ≢ l.number → Contains (l.number ∷ []) j → ⊥
        one j ne c = let at : c.0 ≡ 0 = (let h = c.1 in omega (arith, h)) in ne (sym c.2 ∙ ap (λ x. get_or (l.number ∷ []) x j) at)

-- whose waiting requests are to be looked at after it
pub served-by : (H : Type 0) → H → (G : Type 0) → G → (c : Concerned) (scope : Scope) (b : BrokerState) (i : ℕ) (l m : Line) (us : List TenantState) (q : Queue) → AreStill scope b → AreUnready AnyWait b → IsTaken H b i l m us → IsTakenAt H b.setup b.clock l.number l.session.stage b.tenants us l.session m.session → IsMemberTurnAt l.number l.session.stage b.tenants us m.session.stage
    → IsWhose c l.session.stage → IsQueueOf G q b.tenants b.lines → IsLeftBy c b.setup b.clock l.session.stage l.number q b.tenants us l.session m.session → IsServedFor c scope b (put_with b i m us)
served-by H honest G true-so c scope b i l m us q still unready k is member who v left = by c who left
  where
    served : IsServedAt l.session.stage scope b (put_with b i m us)
    served = served-taken H honest scope b i l m us l.session.stage still k refl k.turn is member

    by : (c : Concerned) → IsWhose c l.session.stage → IsLeftBy c b.setup b.clock l.session.stage l.number q b.tenants us l.session m.session → IsServedFor c scope b (put_with b i m us)
    by concerned.Nobody who quiet = quiet-at H honest G true-so scope b i l m us q l.session.stage unready k refl v k.turn served quiet
    by (concerned.These t ns) who left = served-for (concerned.These t ns) l.session.stage scope b (put_with b i m us) (λ e. absurd (cc)) who served
    by (concerned.All t) who left = served-for (concerned.All t) l.session.stage scope b (put_with b i m us) (λ e. absurd (cc)) who served

-- where memory was refused all of the tenant are looked at
pub refused-left : (c : Concerned) (st : Stage) (b : BrokerState) → IsAllOf c st → IsLeftTo c b
refused-left concerned.Nobody st b all = tt
refused-left (concerned.These t ns) st b all = absurd all
refused-left (concerned.All t) st b all = tt

pub refused-own : (c : Concerned) (st : Stage) (n : ℕ) → IsAllOf c st → IsOwnTo c n
refused-own concerned.Nobody st n all = tt
refused-own (concerned.These t ns) st n all = absurd all
refused-own (concerned.All t) st n all = tt

-- those were looked at again
pub turned-these : (t : ℕ) (ns : List ℕ) (scope : Scope) (a b c : BrokerState) → Served t scope a b → AreMinded (whoms.Tenant t) b c ns → ((k : ℕ) → IsMinded (whoms.Tenant t) ns b k) → Turned scope a c
turned-these t ns scope a b c served minded left =
    let unready : AreUnready AnyWait c = minded-all (whoms.Tenant t) b c ns minded left in
    turned-served t scope a b c served minded.waked (unready-weaken AnyWait (IsLookedFor (whoms.Tenant t) b.clock) c (λ u w h. tt) unready) (λ u. unready)

pub confined-these : (ns : List ℕ) (n : ℕ) (a b c : BrokerState) → Contains ns n → SameOthers n a b → SameBut ns b c → SameBut ns a c
confined-these ns n a b c own first then k apart = then k apart ∙ first k (λ e. apart (subst (Contains ns) (sym e) own))

-- 5. A moment

-- what the tenants' own parts, and then looks, left of the broker on its store, before the turns
pub record IsAwake {S : Type 0} (disk : S → Disk) (now : ℕ) (answered : Option (Vec ℕ Global)) (a s b : OnStore S) : Type 0 where
  pub ready : IsReadyOn disk a
  pub first : IsLaterBy disk (PassesAt now) a s
  pub begun : HasBegun (is_honest disk s) now answered a.state s.state
  pub going : IsGoing s.state b.state
  pub later : IsLaterBy disk (SpeaksFor whoms.All) s b
  pub waked : is_honest disk b → Waked whoms.All s.state b.state
  pub rest : is_honest disk b → IsReadyAmong answered s.state → AreUnready AnyWait b.state

pub awake-unready : {S : Type 0} (disk : S → Disk) (now : ℕ) (answered : Option (Vec ℕ Global)) (a s b : OnStore S) → IsAwake disk now answered a s b → NoneReady disk b
awake-unready disk now answered a s b h = λ honest.
    let then = h.later.honest honest in
    h.rest honest (unready-over (is_honest disk s) then now answered a.state s.state (ready-of disk a h.ready (h.first.honest then)) h.begun)

pub awake-still : {S : Type 0} (disk : S → Disk) (now : ℕ) (answered : Option (Vec ℕ Global)) (a s b : OnStore S) → IsAwake disk now answered a s b → is_honest disk b → IsScoped b.state
awake-still disk now answered a s b h = λ honest. (Everybody, waked-still (is_honest disk s) now answered a.state s.state b.state h.ready.settled h.begun (h.waked honest))

-- those that were looked at are all that can take a turn
pub awake-among : {S : Type 0} (disk : S → Disk) (now : ℕ) (answered : Option (Vec ℕ Global)) (a s b : OnStore S) (ns : List ℕ) → IsAwake disk now answered a s b → SameBut ns s.state b.state → AreAmong ns b.state
awake-among disk now answered a s b ns h same = among-settled ns s.state b.state (idle-none (is_honest disk s) now answered a.state s.state s.state h.ready.settled h.begun refl) same

-- what a moment leaves
pub record IsMovedOn {S : Type 0} (disk : S → Disk) (now : ℕ) (a d : OnStore S) : Type 0 where
  pub ready : IsReadyOn disk d
  pub later : IsLaterBy disk (SpeaksAt (Moment now)) a d
  pub step : StepsTo disk (Moment now) a d
  pub clock : d.state.clock ≡ max a.state.clock now
  pub last : d.state.last ≡ a.state.last
  pub numbers : numbers d.state ≡ numbers a.state
  pub others : is_honest disk d → (k : ℕ) → waits_in (find_line k a.state.lines) ≡ false → find_line k d.state.lines ≡ find_line k a.state.lines
  pub held : is_honest disk d → NoneStranded a.state → NoneStranded d.state

pub moved-on : {S : Type 0} (disk : S → Disk) (now : ℕ) (answered : Option (Vec ℕ Global)) (a s b d : OnStore S) → IsAwake disk now answered a s b → IsGoing b.state d.state → IsLater disk b d
    → (is_honest disk d → (scope : Scope) → AreStill scope b.state → Turned scope b.state d.state) → first_able d.state.lines ≡ None → IsMovedOn disk now a d
moved-on disk now answered a s b d h going later turned settled =
    let H = is_honest disk s in
    let still = still-settled Everybody s.state (idle-none H now answered a.state s.state s.state h.ready.settled h.begun refl) in
    let after = later-after disk (SpeaksFor whoms.All) SpeaksTruth (SpeaksIn Everybody) s b d h.later later (λ looked spoken.
    let first = looked Everybody (λ t c. tt) still in
    in_then Everybody s.state b.state d.state first (spoken Everybody first.still)) in
    let whole = later-after disk (PassesAt now) (SpeaksIn Everybody) (SpeaksAt (Moment now)) a s d h.first after (moment_then now a.state s.state d.state) in
    let gone = moved-going H now answered a.state s.state b.state h.ready.settled h.begun d.state h.going going in
    let moved : is_honest disk d → IsMoved H now answered a.state s.state b.state d.state = λ honest. record {
      ready = ready-of disk a h.ready (whole.honest honest);
      begun = h.begun;
      waked = h.waked (later.honest honest);
      rest = h.rest (later.honest honest);
      turned = turned honest;
      none = settled;
    } in
    record {
      ready = record { sound = gone.sound; settled = settled; unready = λ honest. moved-unready H (after.honest honest) now answered a.state s.state b.state d.state (moved honest) };
      later = whole;
      step = λ honest. moved-step H (after.honest honest) now answered a.state s.state b.state d.state (moved honest);
      clock = gone.clock;
      last = gone.last;
      numbers = gone.numbers;
      others = λ honest. moved-others H (after.honest honest) now answered a.state s.state b.state d.state (moved honest);
      held = λ honest. moved-held H (after.honest honest) now answered a.state s.state b.state d.state (moved honest);
    }
