-- What the engine's calls on its own fields, and its looks, leave of the queue and of the broker.
use Rattle.std.proofs.Common.{◌≡◌, ◌≢◌, ◌++◌, ◌+◌, ◌<◌, ℕ, List, [], ◌∷◌, length, get_or, take, cond, eqb, nat_cmp, Option, Some, None, Result, Ok, Err, OnOk, OnErr, Bool, true, false, suc, inl, inr, refl, sym, ◌∙◌, ap, subst, arith, true≢false}
use Rattle.std.specs.Prelude.{not, ◌||◌, ◌⊎◌, IfSome, IfNone, Contains}
use Rattle.std.specs.Option.{is_some}
use Rattle.std.specs.Cmp.{nat_cmp_total}
use Rattle.std.specs.FinMap as fin
use Rattle.std.specs.List.{AllByRecursion, remove}
use Rattle.std.proofs.Math.Seq.{take-suc}
use Rattle.std.proofs.lemmas.Bool.{eqb-true}
use Rattle.std.proofs.lemmas.Bool.Decides.{nat_tests}
use Rattle.kb_waits.specs.Queue as queue
use Rattle.kb_waits.specs.Queue.{Queue}
use Rattle.kb_tenant_api.specs.Hosted.{TenantState}
use Rattle.kb_isolation_spec.specs.declared.shut.Shut.TheVariants as causes
use Rattle.kb_isolation_spec.specs.Tenant.{Wait}
use Rattle.kb_isolation_spec.specs.Session.{Stage, Greets, BoundTo, Session, new_session, is_free, fed, without_wait, shut_down}
use Rattle.kb_isolation_spec.specs.Machine.{Line, those}
use Rattle.kb_isolation_spec.specs.Calls.{other_than}
use Rattle.kb_isolation_spec.specs.Machine.{find_line}
use Rattle.kb_isolation_spec.specs.Broker.{BrokerState, IsSound, IsUnready, AreUnready, AnyWait, Rising}
use Rattle.kb_isolation_spec.specs.declared.whom.Whom.{Whom}
use Rattle.kb_isolation_spec.specs.declared.whom.Whom.TheVariants as whoms
use Rattle.kb_isolation_spec.specs.Turned.{SameOthers, Waked}
use Rattle.std.specs.declared.alloc.Global.{Global}
use Rattle.std.specs.declared.vec.Vec.{Vec}
use Rattle.kb_isolation_spec.proofs.Sets.{IsAt, all-map, find-at, rising-set, set-at}
use Rattle.kb_isolation_spec.proofs.Parts.{eqb_same, eqb_other}
use Rattle.kb_isolation_spec.proofs.Steps.{remove-those}
use Rattle.kb_isolation_spec.proofs.Turns.{unready-same}
use Rattle.kb_connection.specs.View.{with_session}
use Rattle.kb_broker.specs.Places.{number_at, waits_in, any_waits, IsPassed, ArePassed, AreWaked, IsLookedAt, IsOneMore}
use Rattle.kb_broker.specs.Parked.{until, deadline_at, deadline_in, until_of, IsKeyedIn, IsOwnedIn, IsQueueOf, IsReadyAmong, IsUnreadyIn, IsUnreadyAt, AreSought, IsSoughtAt, IsSoughtIn, SameBut, AreMinded}
use Rattle.kb_broker.proofs.Placed.{get-at, number_at-is}
use Rattle.kb_broker.proofs.Handled.{put_with, fed-stage}
use Rattle.kb_broker.proofs.Looked.{looked-number, looked-waked, one-more, waked-more}
use Rattle.kb_broker.proofs.Parked.{IsCarried, IsMindedOne, carried-in, carried-same, each-find, minded-all, minded-more, nobody-waits, sought-minded}

-- 1. Nobody waits

empty-none : (q : Queue) (n : ℕ) → fin.len q ≡ 0 → fin.get q n ≡ None
empty-none q n e = ap (λ x. fin.get x n) (fin.empty_of_len q e) ∙ fin.get-empty nat_cmp n

pub unsaid : (b : Bool) → not b ≡ false → b ≡ true
unsaid true e = refl
unsaid false e = absurd (cc)

dateless : (o : Option Session) → deadline_in o ≡ None → waits_in o ≡ false
dateless None e = refl
dateless (Some s) e = at s.stage e
  where
    at : (st : Stage) → deadline_at st ≡ None → not (is_free st) ≡ false
    at (Greets h) e = refl
    at (BoundTo t None) e = refl
    at (BoundTo t (Some w)) e = absurd (cc)

-- where the queue is empty no connection waits
pub none-waits : (H : Type 0) (q : Queue) (a b : BrokerState) → a ≡ b → IsQueueOf H q a.tenants a.lines → Rising 0 b.last b.lines → fin.len q ≡ 0 → AllByRecursion (λ (l : Line). waits_in (Some l.session) ≡ false) b.lines
none-waits H q a b e v rising empty =
    each-find (λ n o. waits_in o ≡ false) 0 b.last b.lines rising (λ n.
    dateless (find_line n b.lines) (ap (λ (x : BrokerState). deadline_in (find_line n x.lines)) (sym e) ∙ nobody-waits H q a.tenants n a.lines v (empty-none q n empty)))

-- what stands for nobody is not there
untimed : (o : Option queue.Wait) → until_of o ≡ None → o ≡ None
untimed None e = refl
untimed (Some w) e = absurd (cc)

undated : (o : Option Session) → waits_in o ≡ false → deadline_in o ≡ None
undated None e = refl
undated (Some s) e = at s.stage e
  where
    at : (st : Stage) → not (is_free st) ≡ false → deadline_at st ≡ None
    at (Greets h) e = refl
    at (BoundTo t None) e = refl
    at (BoundTo t (Some w)) e = absurd (cc)

neither : (a b : Bool) → (a || b) ≡ false → (a ≡ false) × (b ≡ false)
neither false b e = (refl, e)
neither true b e = absurd (cc)

-- where none waits, each does not
pub all-free : (ls : List Line) → any_waits ls ≡ false → AllByRecursion (λ (l : Line). waits_in (Some l.session) ≡ false) ls
all-free [] e = tt
all-free (l ∷ ls) e = let p = neither (waits_in (Some l.session)) (any_waits ls) e in (p.0, all-free ls p.1)

none-any : (ls : List Line) → AllByRecursion (λ (l : Line). waits_in (Some l.session) ≡ false) ls → any_waits ls ≡ false
none-any [] h = refl
none-any (l ∷ ls) h = ap (λ b. b || any_waits ls) h.0 ∙ none-any ls h.1

found-free : (n : ℕ) (ls : List Line) → any_waits ls ≡ false → waits_in (find_line n ls) ≡ false
found-free n [] e = refl
found-free n (l ∷ ls) e = let p = neither (waits_in (Some l.session)) (any_waits ls) e in each (eqb l.number n) p.0 (found-free n ls p.1)
  where
    each : (t : Bool) → waits_in (Some l.session) ≡ false → waits_in (find_line n ls) ≡ false → waits_in (cond t (Some l.session) (find_line n ls)) ≡ false
    each true here rest = here
    each false here rest = rest

-- the queue is empty exactly where no connection waits
pub queue-waits : (H : Type 0) (q : Queue) (a b : BrokerState) → a ≡ b → IsQueueOf H q a.tenants a.lines → Rising 0 b.last b.lines → not (eqb (fin.len q) 0) ≡ any_waits b.lines
queue-waits H q a b e v rising = each (eqb (fin.len q) 0) (any_waits b.lines) refl refl
  where
    emptied : any_waits b.lines ≡ false → fin.len q ≡ 0
    emptied free = ap fin.len (fin.same_map nat_cmp_total fin.nat_cmp-IsAntisymmetric q fin.empty (λ n.
        untimed (fin.get q n) (v.dated n ∙ ap (λ (x : BrokerState). deadline_in (find_line n x.lines)) e ∙ undated (find_line n b.lines) (found-free n b.lines free)) ∙ sym (fin.get-empty nat_cmp n))) ∙ fin.len-empty nat_cmp queue.Wait

    each : (t u : Bool) → eqb (fin.len q) 0 ≡ t → any_waits b.lines ≡ u → not t ≡ u
    each true false s r = refl
    each false true s r = refl
    each true true s r = absurd (true≢false (sym r ∙ none-any b.lines (none-waits H q a b e v rising (eqb-true (fin.len q) 0 s))))
    each false false s r = absurd (true≢false (sym (ap (λ n. eqb n 0) (emptied r)) ∙ s))

-- and no wait is looked for
pub none-passed : (whom : Whom) (b : BrokerState) → AllByRecursion (λ (l : Line). waits_in (Some l.session) ≡ false) b.lines → ArePassed whom b
none-passed whom b h = all-map (λ (l : Line). waits_in (Some l.session) ≡ false) (λ (l : Line). IsPassed whom b.clock l.session.stage) (λ l. at l.session.stage) b.lines h
  where
    at : (st : Stage) → not (is_free st) ≡ false → IsPassed whom b.clock st
    at (Greets h) e = tt
    at (BoundTo t None) e = tt
    at (BoundTo t (Some w)) e = absurd (cc)

-- 2. A connection is closed

find-closed_other : (m n : ℕ) (ls : List Line) → n ≢ m → find_line n (those (other_than m) ls) ≡ find_line n ls
find-closed_other m n [] ne = refl
find-closed_other m n (l ∷ ls) ne = let rest = find-closed_other m n ls ne in grind (arith, nat_tests, rest, ne)

find-closed_own : (m : ℕ) (ls : List Line) → find_line m (those (other_than m) ls) ≡ None
find-closed_own m [] = refl
find-closed_own m (l ∷ ls) = let rest = find-closed_own m ls in grind (arith, nat_tests, rest)

-- in a list without the connection of a number
pub find-closed : (P : Option Session → Type 0) (m n : ℕ) (ls : List Line) → (n ≢ m → P (find_line n ls)) → (n ≡ m → P None) → P (find_line n (those (other_than m) ls))
find-closed P m n ls other own = by (eqb m n) refl
  where
    by : (b : Bool) → eqb m n ≡ b → P (find_line n (those (other_than m) ls))
    by true e = let is = eqb_same m n e in subst (λ k. P (find_line k (those (other_than m) ls))) is (subst P (sym (find-closed_own m ls)) (own (sym is)))
    by false e = let ne = eqb_other m n e in subst P (sym (find-closed_other m n ls ne)) (other ne)

-- the connection at a place is closed, and stands in the queue no longer
pub queue-closed : (H G : Type 0) (q p : Queue) (ts us : List TenantState) (low last : ℕ) (ls : List Line) (i : ℕ) (l : Line) → IsQueueOf H q ts ls → Rising low last ls → IsAt ls i l
    → ((k : ℕ) → k ≢ l.number → fin.get p k ≡ fin.get q k) → fin.get p l.number ≡ None → (G → H) → IsCarried ts us ls q → IsQueueOf G p us (remove ls i)
queue-closed H G q p ts us low last ls i l v rising at others gone back carried =
    subst (IsQueueOf G p us) (sym (remove-those low last ls i l rising at))
    (record {
      dated = λ n. find-closed (λ o. until_of (fin.get p n) ≡ deadline_in o) l.number n ls (λ ne. ap until_of (others n ne) ∙ v.dated n) (λ is. ap until_of (ap (fin.get p) is ∙ gone));
      owned = λ n. find-closed (λ o. IsOwnedIn o (fin.get p n)) l.number n ls (λ ne. subst (IsOwnedIn (find_line n ls)) (sym (others n ne)) (v.owned n)) (λ is. tt);
      keyed = λ honest n. find-closed (λ o. IsKeyedIn us n o (fin.get p n)) l.number n ls (λ ne. subst (IsKeyedIn us n (find_line n ls)) (sym (others n ne)) (carried-in ts us ls q n carried (v.keyed (back honest) n))) (λ is. tt);
    })

-- 3. What a connection waits for

pub carried-on : (ts : List TenantState) (ls : List Line) (q : Queue) → IsCarried ts ts ls q
carried-on ts ls q = carried-same ts ts ls q (λ t. omega arith) (λ t. refl)

-- numbers rise among the broker's own connections
pub rising-inside : (a b : BrokerState) → a ≡ b → Rising 0 b.last b.lines → Rising 0 b.last a.lines
rising-inside a b e rising = subst (λ (x : BrokerState). Rising 0 b.last x.lines) (sym e) rising

-- by the code's tests whether there is a value
pub from_none : {A : Type 0} (o : Option A) (b : Bool) (P : Type 0) → is_some o ≡ not b → b ≡ true → IfNone o P → P
from_none None b P e t h = h
from_none (Some x) b P e t h = let no : true ≡ false = e ∙ ap not t in absurd (cc)

pub from_some : {A : Type 0} (o : Option A) (b : Bool) (P : Type 0) (Q : A → Type 0) → ((x : A) → Q x → P) → is_some o ≡ not b → b ≡ false → IfSome o Q → P
from_some None b P Q f e t h = let no : false ≡ true = e ∙ ap not t in absurd (cc)
from_some (Some x) b P Q f e t h = f x h

pub deadline-some : (st : Stage) (t : ℕ) (w : Wait) → st ≡ BoundTo t (Some w) → deadline_at st ≡ None → ⊥
deadline-some st t w e none = let no : Some (until w.awaited) ≡ None = sym (ap deadline_at e) ∙ none in cc

-- the wait is as it was, where there is one
pub stage-kept : (old new : Stage) → (new ≡ old) ⊎ (deadline_at new ≡ None) → (deadline_at new ≡ None → ⊥) → new ≡ old
stage-kept old new (inl same) waits = same
stage-kept old new (inr none) waits = absurd (waits none)

-- a piece leaves a wait as it is, or ends it, also where it could not be kept
pub stage-fed : {A E : Type 0} (result : Result A E) (piece : List ℕ) (l m : Line) → OnOk result (m ≡ with_session l (fed piece l.session)) → OnErr result (m ≡ with_session l (shut_down causes.Memory l.session))
    → (m.session.stage ≡ l.session.stage) ⊎ (deadline_at m.session.stage ≡ None)
stage-fed (Ok x) piece l m ok err = subst (λ (k : Line). (k.session.stage ≡ l.session.stage) ⊎ (deadline_at k.session.stage ≡ None)) (sym ok) (fed-stage piece l.session)
stage-fed (Err x) piece l m ok err = inr (ap (λ (k : Line). deadline_at k.session.stage) err ∙ at l.session.stage)
  where
    at : (st : Stage) → deadline_at (without_wait st) ≡ None
    at (Greets h) = refl
    at (BoundTo t w) = refl

pub number-fed : {A E : Type 0} (result : Result A E) (piece : List ℕ) (l m : Line) → OnOk result (m ≡ with_session l (fed piece l.session)) → OnErr result (m ≡ with_session l (shut_down causes.Memory l.session)) → m.number ≡ l.number
number-fed (Ok x) piece l m ok err = ap (λ (k : Line). k.number) ok
number-fed (Err x) piece l m ok err = ap (λ (k : Line). k.number) err

-- 4. One look

-- what tenants keep stays
pub looked-carried : (H : Type 0) → H → (whom : Whom) (clock : ℕ) (ts us : List TenantState) (l m : Line) (st : Stage) (ls : List Line) (q : Queue) → IsLookedAt H whom clock st ts us l m → IsCarried ts us ls q
looked-carried H honest whom clock ts us l m (Greets h) ls q p = subst (λ x. IsCarried ts x ls q) (sym p.0) (carried-on ts ls q)
looked-carried H honest whom clock ts us l m (BoundTo t None) ls q p = subst (λ x. IsCarried ts x ls q) (sym p.0) (carried-on ts ls q)
looked-carried H honest whom clock ts us l m (BoundTo t (Some w)) ls q (inl p) = subst (λ x. IsCarried ts x ls q) (sym p.1.0) (carried-on ts ls q)
looked-carried H honest whom clock ts us l m (BoundTo t (Some w)) ls q (inr p) = carried-same ts us ls q p.1.turn.grows (p.1.stays honest)

-- the connection waits for nothing that is ready then, or nothing was looked at
looked-either : (H : Type 0) → H → (whom : Whom) (b : BrokerState) (l m : Line) (us : List TenantState) (st : Stage) → IsLookedAt H whom b.clock st b.tenants us l m → IsUnready AnyWait b l.number m.session.stage ⊎ ((m ≡ l) × (IsSoughtAt whom b.clock st → IsUnready AnyWait b l.number st))
looked-either H honest whom b l m us (Greets h) p = inr (p.1, λ s. tt)
looked-either H honest whom b l m us (BoundTo t None) p = inr (p.1, λ s. tt)
looked-either H honest whom b l m us (BoundTo t (Some w)) (inl p) = inr (p.1.1, λ s. (let no : true ≡ false = sym s ∙ p.0 in absurd (cc)))
looked-either H honest whom b l m us (BoundTo t (Some w)) (inr p) = inl (p.1.unready honest b refl refl)

minded-one : (H : Type 0) → H → (whom : Whom) (b : BrokerState) (i : ℕ) (l m : Line) (us : List TenantState) → IsSound b → IsAt b.lines i l → IsLookedAt H whom b.clock l.session.stage b.tenants us l m → IsMindedOne whom (number_at i b) b (put_with b i m us)
minded-one H honest whom b i l m us sound at is = record {
  waked = waked;
  others = (one-more H whom b i l m us sound at is).others;
  rest = λ u. unready (left (subst (λ n. IsUnready AnyWait b n l.session.stage) number (subst (IsUnreadyIn b (number_at i b)) before u)));
  done = λ s. unready (looked (subst (IsSoughtIn whom b.clock) before s));
  todo = todo (looked-either H honest whom b l m us l.session.stage is);
}
  where
    c : BrokerState
    c = put_with b i m us

    waked : Waked whom b c
    waked = looked-waked H honest whom b i l m us l.session.stage sound at refl is

    number : number_at i b ≡ l.number
    number = number_at-is b i l at

    same : m.number ≡ l.number
    same = looked-number H whom b.clock b.tenants us l m l.session.stage is

    before : find_line (number_at i b) b.lines ≡ Some l.session
    before = ap (λ n. find_line n b.lines) number ∙ find-at 0 b.last b.lines i l sound.rising at

    after : find_line (number_at i b) c.lines ≡ Some m.session
    after = ap (λ n. find_line n c.lines) (number ∙ sym same) ∙ find-at 0 b.last c.lines i m (rising-set 0 b.last b.lines i l m sound.rising at same) (set-at b.lines i l m at)

    unready : IsUnready AnyWait b l.number m.session.stage → IsUnreadyAt (number_at i b) c
    unready u = subst (IsUnreadyIn c (number_at i b)) (sym after) (subst (λ n. IsUnready AnyWait c n m.session.stage) (sym number) (unready-same AnyWait b c l.number m.session.stage refl waked.kept u))

    left : IsUnready AnyWait b l.number l.session.stage → IsUnready AnyWait b l.number m.session.stage
    left u = by (looked-either H honest whom b l m us l.session.stage is)
      where
        by : IsUnready AnyWait b l.number m.session.stage ⊎ ((m ≡ l) × (IsSoughtAt whom b.clock l.session.stage → IsUnready AnyWait b l.number l.session.stage)) → IsUnready AnyWait b l.number m.session.stage
        by (inl v) = v
        by (inr p) = subst (λ (x : Line). IsUnready AnyWait b l.number x.session.stage) (sym p.0) u

    looked : IsSoughtAt whom b.clock l.session.stage → IsUnready AnyWait b l.number m.session.stage
    looked s = by (looked-either H honest whom b l m us l.session.stage is)
      where
        by : IsUnready AnyWait b l.number m.session.stage ⊎ ((m ≡ l) × (IsSoughtAt whom b.clock l.session.stage → IsUnready AnyWait b l.number l.session.stage)) → IsUnready AnyWait b l.number m.session.stage
        by (inl v) = v
        by (inr p) = left (p.1 s)

    todo : IsUnready AnyWait b l.number m.session.stage ⊎ ((m ≡ l) × (IsSoughtAt whom b.clock l.session.stage → IsUnready AnyWait b l.number l.session.stage)) → IsUnreadyAt (number_at i b) c ⊎ (find_line (number_at i b) c.lines ≡ find_line (number_at i b) b.lines)
    todo (inl u) = inl (unready u)
    todo (inr p) = inr (after ∙ (ap (λ (x : Line). Some x.session) p.0 ∙ sym before))

-- the same, where a is what the broker's own fields are
looked-in : (H : Type 0) (whom : Whom) (a b : BrokerState) (l m : Line) (us : List TenantState) → a ≡ b → IsLookedAt H whom a.clock l.session.stage a.tenants us l m → IsLookedAt H whom b.clock l.session.stage b.tenants us l m
looked-in H whom a b l m us e is = subst (λ (x : BrokerState). IsLookedAt H whom x.clock l.session.stage x.tenants us l m) e is

pub one-more_in : (H : Type 0) (whom : Whom) (a b : BrokerState) (i : ℕ) (l m : Line) (us : List TenantState) → a ≡ b → IsSound b → IsAt b.lines i l → IsLookedAt H whom a.clock l.session.stage a.tenants us l m → IsOneMore i b (put_with a i m us)
one-more_in H whom a b i l m us e sound at is = subst (λ (x : BrokerState). IsOneMore i b (put_with x i m us)) (sym e) (one-more H whom b i l m us sound at (looked-in H whom a b l m us e is))

pub waked-more_in : (H : Type 0) → H → (whom : Whom) (first a b : BrokerState) (i : ℕ) (l m : Line) (us : List TenantState) → a ≡ b → IsAt b.lines i l → IsLookedAt H whom a.clock l.session.stage a.tenants us l m → AreWaked whom first b i → AreWaked whom first (put_with a i m us) (i + 1)
waked-more_in H honest whom first a b i l m us e at is v =
    let one : suc i ≡ i + 1 = omega arith in
    subst (λ (x : BrokerState). AreWaked whom first (put_with x i m us) (i + 1)) (sym e) (subst (AreWaked whom first (put_with b i m us)) one (waked-more H honest whom first b i l m us v at (looked-in H whom a b l m us e is)))

pub minded-more_in : (H : Type 0) → H → (whom : Whom) (first a b : BrokerState) (ns : List ℕ) (i : ℕ) (l m : Line) (us : List TenantState) → a ≡ b → IsSound b → IsAt b.lines i l → IsLookedAt H whom a.clock l.session.stage a.tenants us l m → AreMinded whom first b ns → AreMinded whom first (put_with a i m us) (ns ++ number_at i b ∷ [])
minded-more_in H honest whom first a b ns i l m us e sound at is v =
    subst (λ (x : BrokerState). AreMinded whom first (put_with x i m us) (ns ++ number_at i b ∷ [])) (sym e)
    (minded-more whom first b (put_with b i m us) (number_at i b) ns v (minded-one H honest whom b i l m us sound at (looked-in H whom a b l m us e is)))

-- 5. Looks, one after another

pub number-some : (b : BrokerState) (i n : ℕ) → i < length b.lines → ((d : Line) → (get_or b.lines i d).number ≡ n) → number_at i b ≡ n
number-some b i n lt some =
    let d : Line = record { number = 0; session = new_session 0 } in
    number_at-is b i (get_or b.lines i d) (get-at b.lines i d lt) ∙ some d

pub minded-take : (whom : Whom) (a b : BrokerState) (ns : List ℕ) (j n : ℕ) → j < length ns → n ≡ get_or ns j 0 → AreMinded whom a b (take j ns ++ n ∷ []) → AreMinded whom a b (take (j + 1) ns)
minded-take whom a b ns j n lt is v =
    let one : suc j ≡ j + 1 = omega arith in
    let more : take j ns ++ n ∷ [] ≡ take (j + 1) ns = ap (λ x. take j ns ++ x ∷ []) is ∙ (sym (take-suc ns j 0 lt) ∙ ap (λ x. take x ns) one) in
    subst (AreMinded whom a b) more v

-- one of those has changed
pub same-more : (ns : List ℕ) (n : ℕ) (a b c : BrokerState) → Contains ns n → SameBut ns a b → SameOthers n b c → SameBut ns a c
same-more ns n a b c in' same others = λ k apart. others k (λ e. apart (subst (Contains ns) (sym e) in')) ∙ same k apart

-- those that may be ready were looked at: none is ready then
pub sought-looked : (H : Type 0) (q : Queue) (answered : Option (Vec ℕ Global)) (a b c : BrokerState) (ns ms : List ℕ) → a ≡ b → IsQueueOf H q a.tenants a.lines → AreSought q answered a.clock ns → ms ≡ ns → AreMinded whoms.All a c ms → IsReadyAmong answered b → AreUnready AnyWait c
sought-looked H q answered a b c ns ms e v sought same minded ready =
    minded-all whoms.All a c ns (subst (AreMinded whoms.All a c) same minded) (sought-minded H q answered a ns v sought (subst (IsReadyAmong answered) (sym e) ready))
