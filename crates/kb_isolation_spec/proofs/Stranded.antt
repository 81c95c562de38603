-- Members that wait, and the connections on which they do.
use Rattle.std.proofs.Common.{◌≡◌, ◌≢◌, ◌<◌, ◌≤◌, ◌+◌, ◌++◌, ◌∷◌, ℕ, zero, suc, [], List, length, set, eqb, nat_eq, Bool, true, false, not, ◌&&◌, Option, Some, None, refl, sym, ◌∙◌, ap, subst, arith, ◌⊎◌, inl, inr}
use Rattle.std.specs.Prelude.{cond, nat_lt}
use Rattle.std.proofs.lemmas.Bool.Decides.{nat_tests}
use Rattle.kb_groups.specs.declared.reply.Release.{Release}
use Rattle.kb_coordinator.specs.Calls.{reply_among}
use Rattle.kb_coordinator.specs.Groups.{Groups}
use Rattle.kb_tenant_api.specs.Hosted as hosted
use Rattle.kb_tenant_api.specs.Hosted.{Kept, TenantState, left}
use Rattle.kb_tenant_api.specs.Turns.{HavePassed, with_kept}
use Rattle.kb_tenant_api.specs.Replies.{told, told_to}
use Rattle.kb_tenant_api.specs.Waiters.{AreServed, given, members_on, once, replies_on}
use Rattle.kb_tenant_api.proofs.WaitersServed.{left_none, left_on}
use Rattle.kb_tenant.specs.Replies.{Silent}
use Rattle.kb_isolation_spec.specs.declared.shut.Shut.TheVariants as causes
use Rattle.kb_isolation_spec.specs.Tenant.{Awaited, Records, Group, Wait, is_members, ready, ready_for}
use Rattle.kb_isolation_spec.specs.Session.{Stage, Greets, BoundTo, Session, fed, new_session, has_member, is_free, overruns, room, shut_down}
use Rattle.kb_isolation_spec.specs.Machine.{Line, each_line, on, those, find_line}
use Rattle.kb_isolation_spec.specs.Broker.{BrokerState, IsSound}
use Rattle.kb_isolation_spec.specs.Calls.{closed, left_by, left_in, moved, opened, other_than, output_taken, without_output}
use Rattle.kb_isolation_spec.specs.Told.{quieted_lines}
use Rattle.kb_isolation_spec.specs.Stranded.{IsMembersAt, IsMembersIn, NoneStranded, members_of, replies_of}
use Rattle.kb_isolation_spec.proofs.Leaving.{kept-other, kept-with, left_fed}
use Rattle.kb_isolation_spec.proofs.Parts.{each-tenant, eqb_same}
use Rattle.kb_isolation_spec.proofs.Sets.{IsAt, find-at, find-set_other, rising-set, set-at}

-- 1. What holds of a connection on which a member waits

-- a connection and the tenants change
abbrev change : BrokerState → ℕ → Line → List TenantState → ℕ → BrokerState
change b i m ts x = record b { lines = set b.lines i m; tenants = ts; unbound_refusals = x }

pub stranded-changed : (b : BrokerState) (i : ℕ) (l m : Line) (ts : List TenantState) (x : ℕ) → IsSound b → IsAt b.lines i l → m.number ≡ l.number → NoneStranded b
    → ((t n : ℕ) → members_of ts t n + replies_of ts t n ≤ 1) → ((t n : ℕ) → n ≢ l.number → members_of ts t n ≤ members_of b.tenants t n) → ((t : ℕ) → 0 < members_of ts t l.number → IsMembersAt t m.session.stage)
    → NoneStranded (change b i m ts x)
stranded-changed b i l m ts x s at n h one others here = record {
  held = λ t k some. by t k (eqb k l.number) refl some;
  once = one;
}
  where
    by : (t k : ℕ) (c : Bool) → eqb k l.number ≡ c → 0 < members_of ts t k → IsMembersIn t (find_line k (set b.lines i m))
    by t k true e some =
        let same : k ≡ l.number = eqb_same k l.number e in
        let found : find_line m.number (set b.lines i m) ≡ Some m.session = find-at 0 b.last (set b.lines i m) i m (rising-set 0 b.last b.lines i l m s.rising at n) (set-at b.lines i l m at) in
        subst (IsMembersIn t) (sym (ap (λ j. find_line j (set b.lines i m)) (same ∙ sym n) ∙ found)) (here t (subst (λ j. 0 < members_of ts t j) same some))
    by t k false e some =
        let ne : k ≢ l.number = (λ f. let yes : eqb k l.number ≡ true = grind (arith, nat_tests) in cc) in
        let fewer = others t k ne in
        subst (IsMembersIn t) (sym (find-set_other k b.lines i l m at n ne)) (h.held t k (omega (arith, some, fewer)))

-- the connection of that line
held-at : (b : BrokerState) (i : ℕ) (l : Line) → IsSound b → IsAt b.lines i l → NoneStranded b → (t : ℕ) → 0 < members_of b.tenants t l.number → IsMembersAt t l.session.stage
held-at b i l s at h t some = subst (IsMembersIn t) (find-at 0 b.last b.lines i l s.rising at) (h.held t l.number some)

-- it has no member of a tenant where it is free, or another's
none-free : (t m : ℕ) (st : Stage) → is_free st ≡ true → (0 < m → IsMembersAt t st) → m ≡ 0
none-free t zero st free h = refl
none-free t (suc m) (Greets g) free h = absurd (h (omega arith))
none-free t (suc m) (BoundTo u None) free h = absurd (h (omega arith))
none-free t (suc m) (BoundTo u (Some w)) free h = let no : false ≡ true = free in absurd (cc)

none-other : (t u m : ℕ) (w : Option Wait) → t ≢ u → (0 < m → IsMembersAt t (BoundTo u w)) → m ≡ 0
none-other t u zero w ne h = refl
none-other t u (suc m) None ne h = absurd (h (omega arith))
none-other t u (suc m) (Some w) ne h = absurd (ne (sym (h (omega arith)).0))

none-idle : (t m : ℕ) (st : Stage) → has_member st ≡ false → (0 < m → IsMembersAt t st) → m ≡ 0
none-idle t zero st idle h = refl
none-idle t (suc m) (Greets g) idle h = absurd (h (omega arith))
none-idle t (suc m) (BoundTo u None) idle h = absurd (h (omega arith))
none-idle t (suc m) (BoundTo u (Some w)) idle h = let no : false ≡ true = sym idle ∙ (h (omega arith)).1 in absurd (cc)

-- 2. Turns

-- a connection that waits for nothing takes a turn, or is shut, and no tenant keeps anything else
pub stranded-greeted : (b : BrokerState) (i : ℕ) (l m : Line) (x : ℕ) → IsSound b → IsAt b.lines i l → m.number ≡ l.number → is_free l.session.stage ≡ true → NoneStranded b → NoneStranded (change b i m b.tenants x)
stranded-greeted b i l m x s at n free h = stranded-changed b i l m b.tenants x s at n h h.once (λ t k ne. omega arith)
    (λ t some. let none = none-free t (members_of b.tenants t l.number) l.session.stage free (held-at b i l s at h t) in absurd (omega (arith, some, none)))

-- what a tenant's groups are after a call for the connection of number n: on no connection more than one member waits or has a reply, and
-- on no other connection one more waits
pub record AreSpared (b : BrokerState) (u n : ℕ) (gs : Groups) : Type 0 where
  pub one : (k : ℕ) → members_on k gs + replies_on k gs ≤ 1
  pub fewer : (k : ℕ) → k ≢ n → members_on k gs ≤ members_of b.tenants u k

-- a request of a connection that waits for nothing
pub spared-served : (b : BrokerState) (i u : ℕ) (l : Line) (gs : Groups) → IsSound b → IsAt b.lines i l → is_free l.session.stage ≡ true → NoneStranded b
    → AreServed l.number true (hosted.kept_of b.tenants u).groups gs ⊎ (gs ≡ (hosted.kept_of b.tenants u).groups) → AreSpared b u l.number gs
spared-served b i u l gs s at free h (inr same) = record {
  one = λ k. subst (λ (x : Groups). members_on k x + replies_on k x ≤ 1) (sym same) (h.once u k);
  fewer = λ k ne. subst (λ (x : Groups). members_on k x ≤ members_of b.tenants u k) (sym same) (omega arith);
}
spared-served b i u l gs s at free h (inl served) = record {
  one = λ k. one k (eqb l.number k) refl;
  fewer = λ k ne. (let e : nat_eq l.number k ≡ false = grind (arith, nat_tests) in let up = more k false e in let is = served k in omega (arith, is, up));
}
  where
    none : members_of b.tenants u l.number ≡ 0
    none = none-free u (members_of b.tenants u l.number) l.session.stage free (held-at b i l s at h u)

    more : (k : ℕ) (c : Bool) → nat_eq l.number k ≡ c → once (nat_eq l.number k && true) ≤ once c
    more k true e = let is = ap (λ (y : Bool). once (y && true)) e in omega (arith, is)
    more k false e = let is = ap (λ (y : Bool). once (y && true)) e in omega (arith, is)

    one : (k : ℕ) (c : Bool) → eqb l.number k ≡ c → members_on k gs + replies_on k gs ≤ 1
    one k true e =
        let is : l.number ≡ k = eqb_same l.number k e in
        let zero : members_of b.tenants u k ≡ 0 = ap (members_of b.tenants u) (sym is) ∙ none in
        let up = more k true e in
        let sum = served k in
        omega (arith, sum, zero, up)
    one k false e = let up = more k false e in let sum = served k in let before = h.once u k in omega (arith, sum, up, before)

-- and then a member waits on that connection no longer
pub spared-left : (b : BrokerState) (u n clock : ℕ) (made new : Kept) → AreSpared b u n made.groups → new ≡ left clock n made → AreSpared b u n new.groups
unfolding left
spared-left b u n clock made new h is = subst (λ (x : Kept). AreSpared b u n x.groups) (sym is) (record {
  one = λ k. (let less = left_on k clock n made.groups.groups in let one = h.one k in omega (arith, less, one));
  fewer = λ k ne. (let less = left_on k clock n made.groups.groups in let few = h.fewer k ne in omega (arith, less, few));
})

-- The turn of a bound connection: of its tenant's groups a member more waits on the connection, which then waits for its group, or none
-- more.
pub stranded-served : (b : BrokerState) (i u : ℕ) (l m : Line) (ts : List TenantState) (x : ℕ) → IsSound b → IsAt b.lines i l → m.number ≡ l.number → is_free l.session.stage ≡ true
    → ((t : ℕ) → t ≢ u → hosted.kept_of ts t ≡ hosted.kept_of b.tenants t) → AreSpared b u l.number (hosted.kept_of ts u).groups
    → IsMembersAt u m.session.stage ⊎ (members_of ts u l.number ≤ members_of b.tenants u l.number) → NoneStranded b → NoneStranded (change b i m ts x)
stranded-served b i u l m ts x s at n free others spared own h = stranded-changed b i l m ts x s at n h
    (λ t k. each-tenant (λ v. members_of ts v k + replies_of ts v k ≤ 1) u t (eqb u t) refl (spared.one k)
    (λ ne. subst (λ (z : Kept). members_on k z.groups + replies_on k z.groups ≤ 1) (sym (others t ne)) (h.once t k)))
    (λ t k apart. each-tenant (λ v. members_of ts v k ≤ members_of b.tenants v k) u t (eqb u t) refl (spared.fewer k apart)
    (λ ne. subst (λ (z : Kept). members_on k z.groups ≤ members_of b.tenants t k) (sym (others t ne)) (omega arith)))
    (λ t some. each-tenant (λ v. 0 < members_of ts v l.number → IsMembersAt v m.session.stage) u t (eqb u t) refl (here own)
    (λ ne more.
    let none = none-free t (members_of b.tenants t l.number) l.session.stage free (held-at b i l s at h t) in
    let same = ap (λ (z : Kept). members_on l.number z.groups) (others t ne) in
    absurd (omega (arith, more, none, same))) some)
  where
    here : IsMembersAt u m.session.stage ⊎ (members_of ts u l.number ≤ members_of b.tenants u l.number) → 0 < members_of ts u l.number → IsMembersAt u m.session.stage
    here (inl waits) some = waits
    here (inr no_more) some =
        let none = none-free u (members_of b.tenants u l.number) l.session.stage free (held-at b i l s at h u) in
        absurd (omega (arith, no_more, some, none))

pub left-nobody : (clock n : ℕ) (kept new : Kept) → new ≡ left clock n kept → members_on n new.groups ≡ 0
unfolding left
left-nobody clock n kept new is = ap (λ (z : Kept). members_on n z.groups) is ∙ left_none clock n kept.groups.groups

-- 3. A connection that is shut, or fed

-- a member waits on it no longer
pub stranded-left : (b : BrokerState) (i u : ℕ) (l m : Line) (w : Option Wait) (ts : List TenantState) (x clock : ℕ) → IsSound b → IsAt b.lines i l → m.number ≡ l.number → l.session.stage ≡ BoundTo u w
    → ((t : ℕ) → t ≢ u → hosted.kept_of ts t ≡ hosted.kept_of b.tenants t) → hosted.kept_of ts u ≡ left clock l.number (hosted.kept_of b.tenants u) → NoneStranded b → NoneStranded (change b i m ts x)
unfolding left
stranded-left b i u l m w ts x clock s at n g others own h = stranded-changed b i l m ts x s at n h
    (λ t k. each-tenant (λ v. members_of ts v k + replies_of ts v k ≤ 1) u t (eqb u t) refl
    (subst (λ (z : Kept). members_on k z.groups + replies_on k z.groups ≤ 1) (sym own) (let fewer = left_on k clock l.number (hosted.kept_of b.tenants u).groups.groups in omega (arith, fewer, h.once u k)))
    (λ ne. subst (λ (z : Kept). members_on k z.groups + replies_on k z.groups ≤ 1) (sym (others t ne)) (h.once t k)))
    (λ t k apart. each-tenant (λ v. members_of ts v k ≤ members_of b.tenants v k) u t (eqb u t) refl
    (subst (λ (z : Kept). members_on k z.groups ≤ members_of b.tenants u k) (sym own) (left_on k clock l.number (hosted.kept_of b.tenants u).groups.groups))
    (λ ne. subst (λ (z : Kept). members_on k z.groups ≤ members_of b.tenants t k) (sym (others t ne)) (omega arith)))
    (λ t some. each-tenant (λ v. 0 < members_of ts v l.number → IsMembersAt v m.session.stage) u t (eqb u t) refl
    (λ more. let none : members_of ts u l.number ≡ 0 = ap (λ (z : Kept). members_on l.number z.groups) own ∙ left_none clock l.number (hosted.kept_of b.tenants u).groups.groups in absurd (omega (arith, more, none)))
    (λ ne more.
    let none = none-other t u (members_of b.tenants t l.number) w ne (λ y. subst (IsMembersAt t) g (held-at b i l s at h t y)) in
    let same = ap (λ (z : Kept). members_on l.number z.groups) (others t ne) in
    absurd (omega (arith, more, none, same))) some)

-- no member waited on it
pub stranded-idle : (b : BrokerState) (i : ℕ) (l m : Line) (x : ℕ) → IsSound b → IsAt b.lines i l → m.number ≡ l.number → has_member l.session.stage ≡ false → NoneStranded b → NoneStranded (change b i m b.tenants x)
stranded-idle b i l m x s at n idle h = stranded-changed b i l m b.tenants x s at n h h.once (λ t k ne. omega arith)
    (λ t some. let none = none-idle t (members_of b.tenants t l.number) l.session.stage idle (held-at b i l s at h t) in absurd (omega (arith, some, none)))

-- it is as it was
pub stranded-same : (b : BrokerState) (i : ℕ) (l m : Line) (x : ℕ) → IsSound b → IsAt b.lines i l → m.number ≡ l.number → m.session.stage ≡ l.session.stage → NoneStranded b → NoneStranded (change b i m b.tenants x)
stranded-same b i l m x s at n same h = stranded-changed b i l m b.tenants x s at n h h.once (λ t k ne. omega arith)
    (λ t some. subst (IsMembersAt t) (sym same) (held-at b i l s at h t some))

-- by whether a member waits on it
pub stranded-gone : (b : BrokerState) (i : ℕ) (l m : Line) (x clock : ℕ) → IsSound b → IsAt b.lines i l → m.number ≡ l.number → NoneStranded b → NoneStranded (change b i m (left_by clock l.number l.session.stage b.tenants) x)
stranded-gone b i l m x clock s at n h = by l.session.stage refl
  where
    at-some : (u : ℕ) (w : Wait) (c : Bool) → l.session.stage ≡ BoundTo u (Some w) → is_members w.awaited ≡ c → NoneStranded (change b i m (cond c (with_kept u (left clock l.number (hosted.kept_of b.tenants u)) b.tenants) b.tenants) x)
    at-some u w true g e = stranded-left b i u l m (Some w) (with_kept u (left clock l.number (hosted.kept_of b.tenants u)) b.tenants) x clock s at n g
        (λ t ne. kept-other u t (left clock l.number (hosted.kept_of b.tenants u)) b.tenants ne) (kept-with clock l.number u b.tenants) h
    at-some u w false g e = stranded-idle b i l m x s at n (ap has_member g ∙ e) h

    by : (st : Stage) → l.session.stage ≡ st → NoneStranded (change b i m (left_by clock l.number st b.tenants) x)
    by (Greets g) e = stranded-idle b i l m x s at n (ap has_member e) h
    by (BoundTo u None) e = stranded-idle b i l m x s at n (ap has_member e) h
    by (BoundTo u (Some w)) e = at-some u w (is_members w.awaited) e refl

-- a piece comes on it
pub stranded-fed : (b : BrokerState) (i : ℕ) (l m : Line) (piece : List ℕ) (x : ℕ) → IsSound b → IsAt b.lines i l → m.number ≡ l.number → m.session ≡ fed piece l.session → NoneStranded b
    → NoneStranded (change b i m (left_fed piece b.clock l.number l.session b.tenants) x)
unfolding fed
stranded-fed b i l m piece x s at n e h = by (overruns piece l.session) refl
  where
    fits : overruns piece l.session ≡ false → (fed piece l.session).stage ≡ l.session.stage
    fits under = two l.session.shut (nat_lt (room l.session) (length piece)) under
      where
        two : (c d : Bool) → (not c && d) ≡ false → (let r : Session = cond c l.session (cond d (shut_down causes.Overrun l.session) (record l.session { unread = l.session.unread ++ piece })) in r).stage ≡ l.session.stage
        two true d k = refl
        two false true k = let no : true ≡ false = k in absurd (cc)
        two false false k = refl

    by : (c : Bool) → overruns piece l.session ≡ c → NoneStranded (change b i m (cond c (left_by b.clock l.number l.session.stage b.tenants) b.tenants) x)
    by true f = stranded-gone b i l m x b.clock s at n h
    by false f = stranded-same b i l m x s at n (ap (λ (y : Session). y.stage) e ∙ fits f) h

-- 4. Looks

-- who was told has a reply
told-some : (n : ℕ) (rs : List Release) → (told (reply_among n rs) ≡ Silent → ⊥) → 0 < given n rs
unfolding reply_among
told-some n [] h = absurd (h refl)
told-some n (r ∷ rs) h = by (nat_eq r.connection n) h (told-some n rs)
  where
    by : (c : Bool) → (told (cond c (Some r.reply) (reply_among n rs)) ≡ Silent → ⊥) → ((told (reply_among n rs) ≡ Silent → ⊥) → 0 < given n rs) → 0 < once c + given n rs
    by true k rest = omega arith
    by false k rest = let some = rest k in omega (arith, some)

-- a member that waits is told what its group says
ready-member : (kept : Kept) (clock n : ℕ) (w : Wait) → is_members w.awaited ≡ true → ready kept clock n w ≡ told_to n kept.groups
unfolding ready
ready-member kept clock n w own = by w.awaited own
  where
    by : (x : Awaited) → is_members x ≡ true → ready_for kept clock n x ≡ told_to n kept.groups
    by (Records version body deadline limit) e = let no : false ≡ true = e in absurd (cc)
    by Group e = refl

-- a connection that waits was looked at: what tenants keep stays, and one that waited for its group waits still, or was told
pub stranded-looked : (b : BrokerState) (i u : ℕ) (l m : Line) (w : Wait) (ts : List TenantState) (x clock : ℕ) → IsSound b → IsAt b.lines i l → m.number ≡ l.number → l.session.stage ≡ BoundTo u (Some w)
    → ((t : ℕ) → hosted.kept_of ts t ≡ hosted.kept_of b.tenants t) → (is_members w.awaited ≡ true → (m.session.stage ≡ l.session.stage) ⊎ (ready (hosted.kept_of b.tenants u) clock l.number w ≡ Silent → ⊥))
    → NoneStranded b → NoneStranded (change b i m ts x)
stranded-looked b i u l m w ts x clock s at n g same looked h = stranded-changed b i l m ts x s at n h
    (λ t k. subst (λ (z : Kept). members_on k z.groups + replies_on k z.groups ≤ 1) (sym (same t)) (h.once t k))
    (λ t k ne. subst (λ (z : Kept). members_on k z.groups ≤ members_of b.tenants t k) (sym (same t)) (omega arith))
    (λ t some.
    let before = subst (λ (z : Kept). 0 < members_on l.number z.groups) (same t) some in
    let waits : IsMembersAt t (BoundTo u (Some w)) = subst (IsMembersAt t) g (held-at b i l s at h t before) in
    by t before waits (looked waits.1))
  where
    by : (t : ℕ) → 0 < members_of b.tenants t l.number → (u ≡ t) × (is_members w.awaited ≡ true) → (m.session.stage ≡ l.session.stage) ⊎ (ready (hosted.kept_of b.tenants u) clock l.number w ≡ Silent → ⊥) → IsMembersAt t m.session.stage
    by t before waits (inl stays) = subst (IsMembersAt t) (sym (stays ∙ g)) waits
    by t before waits (inr told) =
        let there = told-some l.number (hosted.kept_of b.tenants u).groups.released (λ none. told (ready-member (hosted.kept_of b.tenants u) clock l.number w waits.1 ∙ none)) in
        let own = subst (λ v. 0 < members_of b.tenants v l.number) (sym waits.0) before in
        absurd (let one = h.once u l.number in omega (arith, there, own, one))

-- 5. Events

find-pushed : (n k : ℕ) (s : Session) (t : ℕ) (ls : List Line) → IsMembersIn t (find_line n ls) → IsMembersIn t (find_line n (ls ++ record { number = k; session = s } ∷ []))
find-pushed n k s t [] h = absurd h
find-pushed n k s t (l ∷ ls) h = by (eqb l.number n) h (find-pushed n k s t ls)
  where
    by : (c : Bool) → IsMembersIn t (cond c (Some l.session) (find_line n ls)) → (IsMembersIn t (find_line n ls) → IsMembersIn t (find_line n (ls ++ record { number = k; session = s } ∷ []))) → IsMembersIn t (cond c (Some l.session) (find_line n (ls ++ record { number = k; session = s } ∷ [])))
    by true here rest = here
    by false here rest = rest here

pub stranded-opened : (b : BrokerState) (n : ℕ) → NoneStranded b → NoneStranded (opened b n)
stranded-opened b n h = record { held = λ t k some. find-pushed k n (new_session b.setup.request_bytes) t b.lines (h.held t k some); once = h.once }

pub stranded-unopened : (b : BrokerState) (x : ℕ) → NoneStranded b → NoneStranded (record b { unbound_refusals = x })
stranded-unopened b x h = record { held = h.held; once = h.once }

find-quiet : (n k t : ℕ) (ls : List Line) → IsMembersIn t (find_line k ls) → IsMembersIn t (find_line k (each_line (on n without_output) ls))
find-quiet n k t [] h = absurd h
find-quiet n k t (l ∷ ls) h = by (eqb l.number k) (eqb l.number n) h (find-quiet n k t ls)
  where
    by : (c d : Bool) → IsMembersIn t (cond c (Some l.session) (find_line k ls)) → (IsMembersIn t (find_line k ls) → IsMembersIn t (find_line k (each_line (on n without_output) ls)))
        → IsMembersIn t (cond c (Some (cond d (without_output l.session) l.session)) (find_line k (each_line (on n without_output) ls)))
    by true true here rest = here
    by true false here rest = here
    by false d here rest = rest here

pub stranded-taken : (b : BrokerState) (n : ℕ) → NoneStranded b → NoneStranded (output_taken b n)
stranded-taken b n h = record { held = λ t k some. find-quiet n k t b.lines (h.held t k some); once = h.once }

find-closed : (n k : ℕ) (ls : List Line) → k ≢ n → find_line k (those (other_than n) ls) ≡ find_line k ls
find-closed n k [] ne = refl
find-closed n k (l ∷ ls) ne = let rest = find-closed n k ls ne in by (eqb l.number n) refl (eqb l.number k) refl rest
  where
    by : (c : Bool) → eqb l.number n ≡ c → (d : Bool) → eqb l.number k ≡ d → find_line k (those (other_than n) ls) ≡ find_line k ls
        → find_line k (cond (not c) (l ∷ those (other_than n) ls) (those (other_than n) ls)) ≡ cond d (Some l.session) (find_line k ls)
    by true e true f rest = absurd (ne (sym (eqb_same l.number k f) ∙ eqb_same l.number n e))
    by true e false f rest = rest
    by false e d f rest = ap (λ (y : Bool). cond y (Some l.session) (find_line k (those (other_than n) ls))) f ∙ ap (cond d (Some l.session)) rest

-- what a connection that is gone leaves of a tenant: nobody waits on it
left-facts : (clock n : ℕ) (o : Option Session) (ts : List TenantState) → ((t : ℕ) → 0 < members_of ts t n → IsMembersIn t o)
    → (t : ℕ) → (members_of (left_in clock n o ts) t n ≡ 0) × ((k : ℕ) → (members_of (left_in clock n o ts) t k ≤ members_of ts t k) × (replies_of (left_in clock n o ts) t k ≡ replies_of ts t k))
unfolding left
left-facts clock n None ts held t = (nobody t (members_of ts t n) (held t), λ k. (omega arith, refl))
  where
    nobody : (t m : ℕ) → (0 < m → ⊥) → m ≡ 0
    nobody t zero h = refl
    nobody t (suc m) h = absurd (h (omega arith))
left-facts clock n (Some s) ts held t = by s.stage held
  where
    same : (st : Stage) → has_member st ≡ false → ((v : ℕ) → 0 < members_of ts v n → IsMembersAt v st) → (members_of ts t n ≡ 0) × ((k : ℕ) → (members_of ts t k ≤ members_of ts t k) × (replies_of ts t k ≡ replies_of ts t k))
    same st idle h = (none-idle t (members_of ts t n) st idle (h t), λ k. (omega arith, refl))

    Facts : List TenantState → ℕ → Type 0
    Facts us v = (members_of us v n ≡ 0) × ((k : ℕ) → (members_of us v k ≤ members_of ts v k) × (replies_of us v k ≡ replies_of ts v k))

    some : (u : ℕ) (w : Wait) (c : Bool) → is_members w.awaited ≡ c → ((v : ℕ) → 0 < members_of ts v n → IsMembersAt v (BoundTo u (Some w))) → Facts (cond c (with_kept u (left clock n (hosted.kept_of ts u)) ts) ts) t
    some u w true e h = each-tenant (Facts (with_kept u (left clock n (hosted.kept_of ts u)) ts)) u t (eqb u t) refl
        (let own = kept-with clock n u ts in (
          ap (λ (z : Kept). members_on n z.groups) own ∙ left_none clock n (hosted.kept_of ts u).groups.groups,
          λ k. (subst (λ (z : Kept). members_on k z.groups ≤ members_of ts u k) (sym own) (left_on k clock n (hosted.kept_of ts u).groups.groups), ap (λ (z : Kept). replies_on k z.groups) own),
        ))
        (λ ne. let other = kept-other u t (left clock n (hosted.kept_of ts u)) ts ne in (
          ap (λ (z : Kept). members_on n z.groups) other ∙ none-other t u (members_of ts t n) (Some w) ne (h t),
          λ k. (subst (λ (z : Kept). members_on k z.groups ≤ members_of ts t k) (sym other) (omega arith), ap (λ (z : Kept). replies_on k z.groups) other),
        ))
    some u w false e h = same (BoundTo u (Some w)) e h

    by : (st : Stage) → ((v : ℕ) → 0 < members_of ts v n → IsMembersAt v st) → Facts (left_by clock n st ts) t
    by (Greets g) h = same (Greets g) refl h
    by (BoundTo u None) h = same (BoundTo u None) refl h
    by (BoundTo u (Some w)) h = some u w (is_members w.awaited) refl h

pub stranded-closed : (b : BrokerState) (n : ℕ) → NoneStranded b → NoneStranded (closed b n)
stranded-closed b n h =
    let facts = left-facts b.clock n (find_line n b.lines) b.tenants (λ t some. h.held t n some) in
    record {
      held = λ t k some.
          let ne : k ≢ n = (λ e. let none = (facts t).0 in let there = subst (λ j. 0 < members_of (closed b n).tenants t j) e some in omega (arith, none, there)) in
          let fewer = ((facts t).1 k).0 in
          subst (IsMembersIn t) (sym (find-closed n k b.lines ne)) (h.held t k (omega (arith, some, fewer)));
      once = λ t k. let one = h.once t k in let fewer = ((facts t).1 k).0 in let same = ((facts t).1 k).1 in omega (arith, one, fewer, same);
    }

-- the tenants' own parts of a moment
pub stranded-begun : (b : BrokerState) (now clock : ℕ) (H : Type 0) (ts : List TenantState) → H → HavePassed clock H b.tenants ts → NoneStranded b → NoneStranded (record (moved b now) { tenants = ts })
stranded-begun b now clock H ts honest passed h = record {
  held = λ t k some. h.held t k (let less = (passed.waits honest t k).0 in omega (arith, some, less));
  once = λ t k. let less = (passed.waits honest t k).1 in let one = h.once t k in omega (arith, less, one);
}

-- what a piece that overruns a connection leaves of its tenant, before the connection itself is shut
pub stranded-over : (b : BrokerState) (i : ℕ) (l : Line) (piece : List ℕ) → IsSound b → IsAt b.lines i l → NoneStranded b → NoneStranded (record b { tenants = left_fed piece b.clock l.number l.session b.tenants })
stranded-over b i l piece s at h = by (overruns piece l.session)
  where
    by : (c : Bool) → NoneStranded (record b { tenants = cond c (left_by b.clock l.number l.session.stage b.tenants) b.tenants })
    by true =
        let facts = left-facts b.clock l.number (Some l.session) b.tenants (λ t some. held-at b i l s at h t some) in
        record {
          held = λ t k some. (let fewer = ((facts t).1 k).0 in h.held t k (omega (arith, some, fewer)));
          once = λ t k. (let one = h.once t k in let fewer = ((facts t).1 k).0 in let same = ((facts t).1 k).1 in omega (arith, one, fewer, same));
        }
    by false = h

find-emptied : (k t : ℕ) (ls : List Line) → IsMembersIn t (find_line k ls) → IsMembersIn t (find_line k (quieted_lines ls))
find-emptied k t [] h = absurd h
find-emptied k t (l ∷ ls) h = by (eqb l.number k) h (find-emptied k t ls)
  where
    by : (c : Bool) → IsMembersIn t (cond c (Some l.session) (find_line k ls)) → (IsMembersIn t (find_line k ls) → IsMembersIn t (find_line k (quieted_lines ls)))
        → IsMembersIn t (cond c (Some (without_output l.session)) (find_line k (quieted_lines ls)))
    by true here rest = here
    by false here rest = rest here

-- the output of every connection was taken
pub stranded-emptied : (b : BrokerState) → NoneStranded b → NoneStranded (record b { lines = quieted_lines b.lines })
stranded-emptied b h = record { held = λ t k some. find-emptied k t b.lines (h.held t k some); once = h.once }
