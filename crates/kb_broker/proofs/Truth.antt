-- What a broker says to each tenant, from one moment to a later one.
use Rattle.std.proofs.Common.{◌≡◌, ◌≢◌, ◌++◌, ◌≤◌, ℕ, List, [], ◌∷◌, eqb, Bool, true, false, Option, Some, None, arith}
use Rattle.std.proofs.Common.{Result, Ok, Err, OnOk, OnErr, inl, inr, refl, sym, ◌∙◌, ap, subst}
use Rattle.std.specs.Prelude.{◌⊎◌, ◌+◌, ◌^◌, ◌&&◌, cond, ⊤}
use Rattle.std.specs.List.{AllByRecursion}
use Rattle.std.proofs.lemmas.Bool.Decides.{nat_tests}
use Rattle.kb_api_group.specs.Frames.{front}
use Rattle.kb_wire.specs.Codec.{int}
use Rattle.kb_tenant_state.specs.Counts.{IsCalm, counted_once}
use Rattle.kb_tenant_api.specs.Hosted as hosted
use Rattle.kb_tenant_api.specs.Hosted.{TenantState}
use Rattle.kb_tenant_api.specs.Turns.{HavePassed}
use Rattle.kb_tenant.specs.Told.{FailedBy}
use Rattle.kb_isolation_spec.specs.declared.shut.Shut.{Shut}
use Rattle.kb_isolation_spec.specs.declared.shut.Shut.TheVariants as causes
use Rattle.kb_isolation_spec.specs.declared.whom.Whom.{Whom}
use Rattle.kb_isolation_spec.specs.Tenant.{Wait}
use Rattle.kb_isolation_spec.specs.Session.{Greeting, Stage, Greets, BoundTo, Session, can, fed, in_front, is_free, is_turn, new_session, shut_down, without_wait}
use Rattle.kb_isolation_spec.specs.Greeting.{Setup, for_tenant, greeted}
use Rattle.kb_isolation_spec.specs.Machine.{Happening, Opens, Comes, Closes, Moment, Line, after_turn, each_line, find_line, first_able, kept_by_turn, kept_fed, on, stepped, those, woken}
use Rattle.kb_isolation_spec.specs.Owners.{Fits, OwnsLines, destiny, greeted_so_far, unborn, whose}
use Rattle.kb_isolation_spec.specs.Broker.{AnyWait, AreUnready, BrokerState, IsEventRun, IsSound, IsUntaken, Mine, bound_as, is_deaf, kept_of_tenant, refusals_of, view_of}
use Rattle.kb_isolation_spec.specs.Calls.{IsRefusedUnbound, closed, opened}
use Rattle.kb_isolation_spec.specs.Turned.{Scope, Of, Everybody, AreStill, Concerns, HasTenant, InScope, IsGoing, IsStill, Waked}
use Rattle.kb_isolation_spec.proofs.Feeds.{comes-bound, comes-fed, comes-set, fed-nothing, fed-shut}
use Rattle.kb_isolation_spec.proofs.Laws.{first-can, first-those, those-each}
use Rattle.kb_isolation_spec.proofs.Leaving.{all-found, find-those, kept-closed, kept-fed, kept-unclosed, kept-unfed, left_fed, other-whose, own-whose, refusals-closed, refusals-fed}
use Rattle.kb_isolation_spec.proofs.Owned.{found}
use Rattle.kb_isolation_spec.proofs.Owners.{IsBound, IsMine, SameFate, bound-same, fate-greeted, heard-still, those-on_other}
use Rattle.kb_isolation_spec.proofs.Parts.{eqb_same}
use Rattle.kb_isolation_spec.proofs.Sets.{IsAt, all-at, all-map, all-set, all-still, find-at, set-on}
use Rattle.kb_isolation_spec.proofs.Steps.{closes-others, lines-push, owns-opens, view-closed, view-opened, with_lines}
use Rattle.kb_isolation_spec.proofs.Wakes.{unready-view}
use Rattle.kb_isolation_spec.proofs.Turns.{fate-two, tenant-later}
use Rattle.kb_broker.specs.Places.{HearsOf, IsCountedAt, IsDoneOrShut, IsLookedAt, IsSpent, IsTakenAt, IsToldAgain, IsToldAt, IsToldBound, IsTurnAt}
use Rattle.kb_broker.specs.Truth.{SpeaksTo, IsApart, IsDefined, IsTrueMoment, LeadTo, MayAct, MayCount, MayGo, MayHear, MayPass, MayStep, MayTake, MayTurn, Own, PassesAt, SpeaksAt, SpeaksFor, SpeaksIn, SpeaksTruth, brought, with_change, counted_at, own_of}
use Rattle.kb_broker.proofs.Handled.{put_with}
use Rattle.kb_broker.proofs.Looked.{concerned, looked-waked, passed-same}

-- 1. Whose a connection is, after a step

-- one that was shut before it was bound takes no turn
can-shut : (cause : Shut) (s : Session) → can (shut_down cause s) ≡ false
unfolding can front int
can-shut cause s = by (is_free (without_wait s.stage))
  where
    by : (b : Bool) → (b && is_turn (front s.limit [])) ≡ false
    by true = refl
    by false = refl

-- and is never bound, whatever comes
mute : (setup : Setup) (n : ℕ) (s : Session) (h : Greeting) (es : List Happening) → s.stage ≡ Greets h → s.shut ≡ true → can s ≡ false → destiny setup n s es ≡ None
mute setup n s h [] e shut c = ap whose e
mute setup n s h (Opens m ∷ es) e shut c = mute setup n s h es e shut c
mute setup n s h (Moment now ∷ es) e shut c = mute setup n s h es e shut c
mute setup n s h (Closes m ∷ es) e shut c =
    let rest = mute setup n s h es e shut c in
    let here : whose s.stage ≡ None = ap whose e in
    grind (arith, rest, here)
mute setup n s h (Comes m piece ∷ es) e shut c =
    let rest = mute setup n s h es e shut c in
    let heard : destiny setup n (greeted_so_far setup (fed piece s)) es ≡ None =
    ap (λ x. destiny setup n (greeted_so_far setup x) es) (fed-shut piece s shut) ∙ (ap (λ x. destiny setup n x es) (heard-still setup s c) ∙ rest) in
    grind (arith, heard, rest)

mine-mute : (setup : Setup) (t : ℕ) (mine : ℕ → Bool) (es : List Happening) (m : Line) (s : Session) (h : Greeting) → s.stage ≡ Greets h → m.session ≡ shut_down causes.Memory s → IsMine setup t mine es m
mine-mute setup t mine es m s h e is =
    let c : can m.session ≡ false = ap can is ∙ can-shut causes.Memory s in
    let stage : m.session.stage ≡ Greets h = ap (λ (x : Session). x.stage) is ∙ ap without_wait e in
    subst (Fits t (mine m.number)) (sym (ap (λ x. destiny setup m.number x es) (heard-still setup m.session c) ∙ mute setup m.number m.session h es stage (ap (λ (x : Session). x.shut) is) c)) tt

mine-fate : (setup : Setup) (t : ℕ) (mine : ℕ → Bool) (es : List Happening) (l m : Line) → SameFate setup l m → IsMine setup t mine es l → IsMine setup t mine es m
mine-fate setup t mine es l m f h =
    subst (λ n. Fits t (mine n) (destiny setup n (greeted_so_far setup m.session) es)) (sym f.number) (subst (Fits t (mine l.number)) (sym (f.fate es)) h)

mine-greeted : (setup : Setup) (t : ℕ) (mine : ℕ → Bool) (es : List Happening) (l m : Line) (h : Greeting) → l.session.stage ≡ Greets h → m.number ≡ l.number
    → IsDoneOrShut (greeted setup h l.session) l.session m.session → IsMine setup t mine es l → IsMine setup t mine es m
mine-greeted setup t mine es l m h e n (inl done) k = mine-fate setup t mine es l m (fate-greeted setup h l m e n done) k
mine-greeted setup t mine es l m h e n (inr shut) k = mine-mute setup t mine es m l.session h e shut

-- where another one stands at its place
mine-set : (b : BrokerState) (i : ℕ) (l m : Line) (us : List TenantState) (t : ℕ) (mine : ℕ → Bool) (es : List Happening) → IsAt b.lines i l
    → (IsMine b.setup t mine es l → IsMine b.setup t mine es m) → Mine t mine es b → Mine t mine es (put_with b i m us)
mine-set b i l m us t mine es at f k = record {
  now = all-set (IsMine b.setup t mine es) b.lines i m k.now (f (all-at (IsMine b.setup t mine es) b.lines i l at k.now));
  later = k.later;
}

-- a connection in a scope that has none of the tenant's is not the tenant's
apart-line : (scope : Scope) (b : BrokerState) (l : Line) (t : ℕ) (mine : ℕ → Bool) (es : List Happening) → Mine t mine es b → IsMine b.setup t mine es l
    → InScope scope b l → IsApart scope mine → mine l.number ≡ false
apart-line Everybody b l t mine es k own inside apart = absurd apart
apart-line (Of n) b l t mine es k own (inl is) apart = ap mine is ∙ apart
apart-line (Of n) b l t mine es k own (inr h) apart = by (find_line n b.lines) refl
  where
    theirs : t ≢ h.0 → (x : Bool) → mine l.number ≡ x → mine l.number ≡ false
    theirs ne true f = absurd (ne (sym (own-whose b.setup t mine es l own f h.0 h.2)))
    theirs ne false f = f

    by : (o : Option Session) → find_line n b.lines ≡ o → mine l.number ≡ false
    by None e = let none : None ≡ Some h.0 = sym (ap bound_as e) ∙ h.1 in absurd (cc)
    by (Some s) e =
        let there = all-found (IsMine b.setup t mine es) n b.lines s k.now e in
        theirs (other-whose b.setup t mine es (record { number = n; session = s }) there apart h.0 (sym (ap bound_as e) ∙ h.1)) (mine l.number) refl

-- 2. What a tenant has, after a step

-- another connection stands at a place, and the tenants keep something else
own-put : (b : BrokerState) (i : ℕ) (l m : Line) (us : List TenantState) (t : ℕ) (mine : ℕ → Bool) → IsSound b → IsAt b.lines i l → m.number ≡ l.number
    → own_of t mine (put_with b i m us) ≡ with_change l.number m.session (hosted.kept_of us t) (hosted.refusals_of us t) (own_of t mine b)
own-put b i l m us t mine s at n =
    ap (λ ls. let o : Own = record { view = record (view_of t mine b) { kept = hosted.kept_of us t; lines = ls }; refusals = hosted.refusals_of us t } in o)
    (ap (those mine) (set-on 0 b.last (λ x. m.session) b.lines i l m s.rising at n refl) ∙ those-each mine (on l.number (λ x. m.session)) b.lines)

-- one that is not the tenant's
own-passed : (b : BrokerState) (i : ℕ) (l m : Line) (us : List TenantState) (t : ℕ) (mine : ℕ → Bool) → IsSound b → IsAt b.lines i l → m.number ≡ l.number → mine l.number ≡ false
    → hosted.kept_of us t ≡ hosted.kept_of b.tenants t → hosted.refusals_of us t ≡ hosted.refusals_of b.tenants t → own_of t mine (put_with b i m us) ≡ own_of t mine b
own-passed b i l m us t mine s at n theirs kept count =
    ap (λ ls. let o : Own = record { view = record (view_of t mine b) { kept = hosted.kept_of us t; lines = ls }; refusals = hosted.refusals_of us t } in o)
    (ap (those mine) (set-on 0 b.last (λ x. m.session) b.lines i l m s.rising at n refl) ∙ those-on_other mine l.number (λ x. m.session) b.lines theirs)
    ∙ (ap (λ k. let o : Own = record { view = record (view_of t mine b) { kept = k }; refusals = hosted.refusals_of us t } in o) kept
    ∙ ap (λ c. let o : Own = record { view = view_of t mine b; refusals = c } in o) count)

-- the tenant's own connection is found among its own
own-found : (b : BrokerState) (i : ℕ) (l : Line) (t : ℕ) (mine : ℕ → Bool) → IsSound b → IsAt b.lines i l → mine l.number ≡ true → find_line l.number (own_of t mine b).view.lines ≡ Some l.session
own-found b i l t mine s at ours = find-those mine l.number b.lines ours ∙ find-at 0 b.last b.lines i l s.rising at

-- a refusal was counted, for which the connection of a number was shut
counted-own : (n t : ℕ) (mine : ℕ → Bool) (st : Stage) (b c : BrokerState) → IsCountedAt n st b c → ((u : ℕ) → whose st ≡ Some u → u ≡ t) → own_of t mine c ≡ counted_at n st (own_of t mine b)
counted-own n t mine (Greets h) b c r own = ap (own_of t mine) r.is
counted-own n t mine (BoundTo u w) b c r own =
    ap (own_of t mine) r.is
    ∙ (ap (λ k. let o : Own = record { view = record (view_of t mine b) { kept = k }; refusals = refusals_of c t } in o) (ap (hosted.kept_of c.tenants) (sym (own u refl)) ∙ (r.left ∙ ap (λ v. hosted.left b.clock n (hosted.kept_of b.tenants v)) (own u refl)))
    ∙ ap (λ x. let o : Own = record { view = record (view_of t mine b) { kept = hosted.left b.clock n (kept_of_tenant b t) }; refusals = x } in o) (ap (refusals_of c) (sym (own u refl)) ∙ (r.once ∙ ap (λ v. counted_once (refusals_of b v)) (own u refl))))

counted-other : (n t : ℕ) (mine : ℕ → Bool) (st : Stage) (b c : BrokerState) → IsCountedAt n st b c → ((u : ℕ) → whose st ≡ Some u → t ≢ u) → own_of t mine c ≡ own_of t mine b
counted-other n t mine (Greets h) b c r other = ap (own_of t mine) r.is
counted-other n t mine (BoundTo u w) b c r other =
    ap (own_of t mine) r.is
    ∙ (ap (λ k. let o : Own = record { view = record (view_of t mine b) { kept = k }; refusals = refusals_of c t } in o) (r.turn.others tt t (other u refl))
    ∙ ap (λ x. let o : Own = record { view = view_of t mine b; refusals = x } in o) (r.turn.counts t (other u refl)))

mine-counted : (n t : ℕ) (mine : ℕ → Bool) (es : List Happening) (st : Stage) (b c : BrokerState) → IsCountedAt n st b c → Mine t mine es b → Mine t mine es c
mine-counted n t mine es (Greets h) b c r k = subst (Mine t mine es) (sym r.is) (record { now = k.now; later = k.later })
mine-counted n t mine es (BoundTo u w) b c r k = subst (Mine t mine es) (sym r.is) (record { now = k.now; later = k.later })

-- waiting or not
counted-waiting : (n : ℕ) (st : Stage) (o : Own) → counted_at n (without_wait st) o ≡ counted_at n st o
counted-waiting n (Greets h) o = refl
counted-waiting n (BoundTo u w) o = refl

-- 3. One step after another

goes-none : (t : ℕ) (a b : Own) → b ≡ a → MayGo t a b
goes-none t a b e = record { between = []; steps = e }

goes-step : (t : ℕ) (a b : Own) → MayStep t a b → MayGo t a b
goes-step t a b step = record { between = b ∷ []; steps = (step, refl) }

lead-then : (t : ℕ) (xs ys : List Own) (a b c : Own) → LeadTo t a xs b → LeadTo t b ys c → LeadTo t a (xs ++ ys) c
lead-then t [] ys a b c e q = subst (λ x. LeadTo t x ys c) e q
lead-then t (x ∷ xs) ys a b c p q = (p.0, lead-then t xs ys x b c p.1 q)

goes-then : (t : ℕ) (a b c : Own) → MayGo t a b → MayGo t b c → MayGo t a c
goes-then t a b c p q = record { between = p.between ++ q.between; steps = lead-then t p.between q.between a b c p.steps q.steps }

pub speaks_same : (a : BrokerState) → SpeaksTruth a a
speaks_same a scope still = record { still = still; goes = λ t mine es k. record { stays = k; goes = goes-none t (own_of t mine a) (own_of t mine a) refl; apart = λ apart. refl } }

pub in_then : (scope : Scope) (a b c : BrokerState) → SpeaksIn scope a b → SpeaksIn scope b c → SpeaksIn scope a c
in_then scope a b c p q = record {
  still = q.still;
  goes = λ t mine es k.
      let u = p.goes t mine es k in
      let v = q.goes t mine es u.stays in
      record { stays = v.stays; goes = goes-then t (own_of t mine a) (own_of t mine b) (own_of t mine c) u.goes v.goes; apart = λ apart. v.apart apart ∙ u.apart apart };
}

pub speaks_then : (a b c : BrokerState) → SpeaksTruth a b → SpeaksTruth b c → SpeaksTruth a c
speaks_then a b c p q scope still = let first = p scope still in in_then scope a b c first (q scope first.still)

-- looks, and then more of them
pub looks_same : (whom : Whom) (a : BrokerState) → SpeaksFor whom a a
looks_same whom a scope has still = speaks_same a scope still

pub looks_then : (whom : Whom) (a b c : BrokerState) → IsGoing a b → SpeaksFor whom a b → SpeaksFor whom b c → SpeaksFor whom a c
looks_then whom a b c going p q scope has still =
    let first = p scope has still in
    in_then scope a b c first (q scope (λ t h. tenant-later scope a b t going (has t h)) first.still)

-- a turn, and then looks at waits of those that it concerns
pub turn_then : (whom : Whom) (a b c : BrokerState) → SpeaksTruth a b → SpeaksFor whom b c → ((scope : Scope) → AreStill scope a → (t : ℕ) → Concerns whom t → HasTenant scope b t) → SpeaksTruth a c
turn_then whom a b c p q has scope still = let first = p scope still in in_then scope a b c first (q scope (has scope still) first.still)

-- 4. A turn

-- the tenant's own, and what it was told
abbrev IsOwnTurn : (failed : Type 0) (full : ℕ → Type 0) (b : BrokerState) (l m : Line) (us : List TenantState) (t : ℕ) → (ℕ → Bool) → Type 0
IsOwnTurn failed full b l m us t mine = (mine l.number ≡ true) × MayCount l.session.stage (refusals_of b t) (hosted.refusals_of us t)
    × MayTake failed (full t) b.setup t b.clock l.number l.session.stage (kept_of_tenant b t) (hosted.kept_of us t) l.session m.session

-- another's, which leaves what the tenant has
abbrev IsOthersTurn : (b : BrokerState) (l : Line) (us : List TenantState) (t : ℕ) → (ℕ → Bool) → Type 0
IsOthersTurn b l us t mine =
    (mine l.number ≡ false) × (hosted.kept_of us t ≡ hosted.kept_of b.tenants t) × (hosted.refusals_of us t ≡ hosted.refusals_of b.tenants t)

module _ (failed : Type 0) (full : ℕ → Type 0) (b : BrokerState) (i : ℕ) (l m : Line) (us : List TenantState) (sound : IsSound b) (at : IsAt b.lines i l)
    (number : m.number ≡ l.number) (spent : IsSpent l.session m.session) where
  turn-mine : (t : ℕ) (mine : ℕ → Bool) (es : List Happening) (st : Stage) → l.session.stage ≡ st
      → IsToldAt failed full b.setup b.clock l.number st b.tenants us l.session m.session → Mine t mine es b → Mine t mine es (put_with b i m us)
  turn-mine t mine es (Greets h) e told k = mine-set b i l m us t mine es at (mine-greeted b.setup t mine es l m h e number told) k
  turn-mine t mine es (BoundTo u w) e told k =
      let p : IsBound u l.session = record { wait = w; is = e } in
      mine-set b i l m us t mine es at (mine-fate b.setup t mine es l m (fate-two b u l m p (bound-same u l.session m.session p (spent.stage u w e)) number)) k

  turn-whose : (t : ℕ) (mine : ℕ → Bool) (es : List Happening) (st : Stage) → l.session.stage ≡ st → IsTurnAt ⊤ st b.tenants us
      → IsToldAt failed full b.setup b.clock l.number st b.tenants us l.session m.session → Mine t mine es b
      → IsOwnTurn failed full b l m us t mine ⊎ IsOthersTurn b l us t mine
  turn-whose t mine es st e turn told k = by (mine l.number) refl st e turn told
    where
      own : IsMine b.setup t mine es l
      own = all-at (IsMine b.setup t mine es) b.lines i l at k.now

      by : (x : Bool) → mine l.number ≡ x → (st : Stage) → l.session.stage ≡ st → IsTurnAt ⊤ st b.tenants us
          → IsToldAt failed full b.setup b.clock l.number st b.tenants us l.session m.session → IsOwnTurn failed full b l m us t mine ⊎ IsOthersTurn b l us t mine
      by true ours (Greets h) e turn told = inl (
        ours,
        subst (λ s. MayCount s (refusals_of b t) (hosted.refusals_of us t)) (sym e) (ap (λ ts. hosted.refusals_of ts t) turn),
        subst (λ s. MayTake failed (full t) b.setup t b.clock l.number s (kept_of_tenant b t) (hosted.kept_of us t) l.session m.session) (sym e) (ap (λ ts. hosted.kept_of ts t) turn, told),
      )
      by true ours (BoundTo u w) e turn told =
          let is : u ≡ t = own-whose b.setup t mine es l own ours u (ap whose e) in
          inl (
            ours,
            subst (λ s. MayCount s (refusals_of b t) (hosted.refusals_of us t)) (sym e) (turn.grows t),
            subst (λ s. MayTake failed (full t) b.setup t b.clock l.number s (kept_of_tenant b t) (hosted.kept_of us t) l.session m.session) (sym e)
                (is, subst (λ v. IsToldBound failed (full v) b.setup v b.clock l.number (hosted.kept_of b.tenants v) (hosted.kept_of us v) l.session m.session) is told),
          )
      by false theirs (Greets h) e turn told = inr (theirs, ap (λ ts. hosted.kept_of ts t) turn, ap (λ ts. hosted.refusals_of ts t) turn)
      by false theirs (BoundTo u w) e turn told =
          let ne : t ≢ u = other-whose b.setup t mine es l own theirs u (ap whose e) in
          inr (theirs, turn.others tt t ne, turn.counts t ne)

  -- what the tenant has goes on so, where nothing more came of it
  turn-goes : (t : ℕ) (mine : ℕ → Bool) → IsOwnTurn failed full b l m us t mine ⊎ IsOthersTurn b l us t mine
      → (IsOwnTurn failed full b l m us t mine → MayStep t (own_of t mine b) (own_of t mine (put_with b i m us))) → MayGo t (own_of t mine b) (own_of t mine (put_with b i m us))
  turn-goes t mine (inl own) taken = goes-step t (own_of t mine b) (own_of t mine (put_with b i m us)) (taken own)
  turn-goes t mine (inr other) taken =
      goes-none t (own_of t mine b) (own_of t mine (put_with b i m us)) (own-passed b i l m us t mine sound at number other.0 other.1 other.2)

  turn-apart : (t : ℕ) (mine : ℕ → Bool) → IsOwnTurn failed full b l m us t mine ⊎ IsOthersTurn b l us t mine → mine l.number ≡ false
      → own_of t mine (put_with b i m us) ≡ own_of t mine b
  turn-apart t mine (inl own) theirs = let ours : false ≡ true = sym theirs ∙ own.0 in absurd (cc)
  turn-apart t mine (inr other) theirs = own-passed b i l m us t mine sound at number theirs other.1 other.2

-- the numbers are of the store's failures before and after, of its next file, and of the commands that each catalog has recorded
abbrev full_by : (ℕ → ℕ) → ℕ → Type 0
full_by commands t = 2 ^ 63 ≤ commands t + 1

module _ (failed fails next : ℕ) (commands : ℕ → ℕ) (b : BrokerState) (i : ℕ) (l m : Line) (us : List TenantState) (sound : IsSound b)
    (unready : AreUnready AnyWait b) (at : IsAt b.lines i l) (number : m.number ≡ l.number) (first : first_able b.lines ≡ Some l) where
  may-turn : (t : ℕ) (mine : ℕ → Bool) (es : List Happening) → Mine t mine es b → IsOwnTurn (FailedBy failed fails next) (full_by commands) b l m us t mine
      → MayTurn t (own_of t mine b) (own_of t mine (put_with b i m us))
  may-turn t mine es k own = record {
    l = l;
    session = m.session;
    first = first-those mine b.lines l first own.0;
    waits = unready-view AnyWait b t mine es unready (λ w. tt) k;
    is = own-put b i l m us t mine sound at number;
    counts = own.1;
    failed = failed;
    fails = fails;
    next = next;
    commands = commands t;
    told = own.2;
  }

  -- where nothing was counted in it
  own-defined : (H : Type 0) → H → (t : ℕ) (mine : ℕ → Bool) (es : List Happening) (st : Stage) → IsMine b.setup t mine es l → mine l.number ≡ true → l.session.stage ≡ st
      → IsTakenAt H b.setup b.clock l.number st b.tenants us l.session m.session
      → IsDefined (IsCalm (refusals_of b t) (hosted.refusals_of us t)) b.setup t b.clock l.number st (kept_of_tenant b t) (hosted.kept_of us t) l.session m.session
  own-defined H honest t mine es (Greets h) own ours e is = is
  own-defined H honest t mine es (BoundTo u w) own ours e is = λ calm.
      let same : u ≡ t = own-whose b.setup t mine es l own ours u (ap whose e) in
      subst (λ v. (m.session ≡ after_turn (for_tenant b.setup v) (kept_of_tenant b v) b.clock l.number l.session) × (hosted.kept_of us v ≡ kept_by_turn (for_tenant b.setup v) (kept_of_tenant b v) b.clock l.number (in_front l.session))) same
      (is honest (subst (λ v. IsCalm (refusals_of b v) (hosted.refusals_of us v)) (sym same) calm))

  -- a turn was taken
  pub true_turn : (H : Type 0) → H → IsTakenAt H b.setup b.clock l.number l.session.stage b.tenants us l.session m.session → IsSpent l.session m.session → IsTurnAt ⊤ l.session.stage b.tenants us
      → IsToldAt (FailedBy failed fails next) (full_by commands) b.setup b.clock l.number l.session.stage b.tenants us l.session m.session
      → ((scope : Scope) → AreStill scope b → AreStill scope (put_with b i m us)) → SpeaksTruth b (put_with b i m us)
  unfolding may-turn
  true_turn H honest defined spent turn told stills scope still = record {
    still = stills scope still;
    goes = λ t mine es k.
        let own = all-at (IsMine b.setup t mine es) b.lines i l at k.now in
        let inside = all-at (IsStill scope b) b.lines i l at still (first-can b.lines l first) in
        let whose = turn-whose (FailedBy failed fails next) (full_by commands) b i l m us sound at number spent t mine es l.session.stage refl turn told k in
        record {
          stays = turn-mine (FailedBy failed fails next) (full_by commands) b i l m us sound at number spent t mine es l.session.stage refl told k;
          goes = turn-goes (FailedBy failed fails next) (full_by commands) b i l m us sound at number spent t mine whose
              (λ o. inl (record { turn = may-turn t mine es k o; exact = own-defined H honest t mine es l.session.stage own o.0 refl defined }));
          apart = λ apart. turn-apart (FailedBy failed fails next) (full_by commands) b i l m us sound at number spent t mine whose (apart-line scope b l t mine es k own inside apart);
        };
  }

  -- it shut its connection for want of memory, and then that was counted
  pub refused_turn : (c : BrokerState) → IsSpent l.session m.session → IsTurnAt ⊤ l.session.stage b.tenants us
      → IsToldAt (FailedBy failed fails next) (full_by commands) b.setup b.clock l.number l.session.stage b.tenants us l.session m.session
      → m.session ≡ shut_down causes.Memory l.session → IsCountedAt l.number l.session.stage (put_with b i m us) c
      → ((scope : Scope) → AreStill scope b → AreStill scope c) → SpeaksTruth b c
  unfolding may-turn
  refused_turn c spent turn told shut counted stills scope still = record {
    still = stills scope still;
    goes = λ t mine es k.
        let own = all-at (IsMine b.setup t mine es) b.lines i l at k.now in
        let inside = all-at (IsStill scope b) b.lines i l at still (first-can b.lines l first) in
        let whose = turn-whose (FailedBy failed fails next) (full_by commands) b i l m us sound at number spent t mine es l.session.stage refl turn told k in
        let left = turn-mine (FailedBy failed fails next) (full_by commands) b i l m us sound at number spent t mine es l.session.stage refl told k in
        record {
          stays = mine-counted l.number t mine es l.session.stage (put_with b i m us) c counted left;
          goes = gone t mine es k own whose;
          apart = λ apart. let theirs = apart-line scope b l t mine es k own inside apart in other t mine es own theirs whose;
        };
  }
    where
      other : (t : ℕ) (mine : ℕ → Bool) (es : List Happening) → IsMine b.setup t mine es l → mine l.number ≡ false
          → IsOwnTurn (FailedBy failed fails next) (full_by commands) b l m us t mine ⊎ IsOthersTurn b l us t mine → own_of t mine c ≡ own_of t mine b
      other t mine es own theirs whose =
          counted-other l.number t mine l.session.stage (put_with b i m us) c counted (other-whose b.setup t mine es l own theirs)
          ∙ turn-apart (FailedBy failed fails next) (full_by commands) b i l m us sound at number spent t mine whose theirs

      gone : (t : ℕ) (mine : ℕ → Bool) (es : List Happening) → Mine t mine es b → IsMine b.setup t mine es l
          → IsOwnTurn (FailedBy failed fails next) (full_by commands) b l m us t mine ⊎ IsOthersTurn b l us t mine → MayGo t (own_of t mine b) (own_of t mine c)
      gone t mine es k own (inl o) = goes-step t (own_of t mine b) (own_of t mine c) (inr (inr (record {
        left = own_of t mine (put_with b i m us);
        turn = may-turn t mine es k o;
        shut = shut;
        counted = counted-own l.number t mine l.session.stage (put_with b i m us) c counted (own-whose b.setup t mine es l own o.0);
      })))
      gone t mine es k own (inr o) = goes-none t (own_of t mine b) (own_of t mine c) (other t mine es own o.0 (inr o))

-- what a turn leaves of the tenants, where the store has told the truth
pub turn_on : (H : Type 0) → H → (st : Stage) (ts us : List TenantState) → IsTurnAt H st ts us → IsTurnAt ⊤ st ts us
turn_on H honest (Greets h) ts us same = same
turn_on H honest (BoundTo t w) ts us turn = record { names = turn.names; grows = turn.grows; counts = turn.counts; others = λ ours. turn.others honest }

-- 5. A look

-- a tenant that is concerned is one of the scope's
in-scope : (scope : Scope) (b : BrokerState) (l : Line) (u : ℕ) → HasTenant scope b u → whose l.session.stage ≡ Some u → InScope scope b l
in-scope (Of n) b l u h e = inr (u, h, e)
in-scope Everybody b l u h e = inr (u, h, e)

module _ (H : Type 0) (honest : H) (failed fails next : ℕ) (whom : Whom) (b : BrokerState) (i : ℕ) (l m : Line) (us : List TenantState) (sound : IsSound b)
    (at : IsAt b.lines i l) where
  -- nothing was looked at
  look-passed : (scope : Scope) (t : ℕ) (mine : ℕ → Bool) (es : List Happening) → put_with b i m us ≡ b → Mine t mine es b → SpeaksTo scope t mine es b (put_with b i m us)
  look-passed scope t mine es same k = subst (SpeaksTo scope t mine es b) (sym same) (record {
    stays = k;
    goes = goes-none t (own_of t mine b) (own_of t mine b) refl;
    apart = λ apart. refl;
  })

  -- the tenant's own request was looked at
  look-own : (t u : ℕ) (mine : ℕ → Bool) (w : Wait) → l.session.stage ≡ BoundTo u (Some w) → m.number ≡ l.number → mine l.number ≡ true → u ≡ t
      → hosted.kept_of us t ≡ hosted.kept_of b.tenants t → hosted.refusals_of b.tenants t ≤ hosted.refusals_of us t
      → HearsOf (FailedBy failed fails next) b.clock l.number (hosted.kept_of b.tenants u) w l.session m.session
      → (IsCalm (refusals_of b t) (hosted.refusals_of us t) → m.session ≡ woken (kept_of_tenant b t) b.clock l.number l.session)
      → MayStep t (own_of t mine b) (own_of t mine (put_with b i m us))
  look-own t u mine w e n ours is kept counts told exact = inr (inl (record {
    l = l;
    session = m.session;
    there = own-found b i l t mine sound at ours;
    is = own-put b i l m us t mine sound at n ∙ ap (λ k. with_change l.number m.session k (hosted.refusals_of us t) (own_of t mine b)) kept;
    counts = counts;
    failed = failed;
    fails = fails;
    next = next;
    told = subst (λ s. MayHear (FailedBy failed fails next) t b.clock l.number s (kept_of_tenant b t) l.session m.session) (sym e)
        (is, subst (λ v. HearsOf (FailedBy failed fails next) b.clock l.number (hosted.kept_of b.tenants v) w l.session m.session) is told);
    exact = exact;
  }))

  look-goes : (scope : Scope) → ((t : ℕ) → Concerns whom t → HasTenant scope b t) → (t : ℕ) (mine : ℕ → Bool) (es : List Happening) (st : Stage) → l.session.stage ≡ st
      → IsLookedAt H whom b.clock st b.tenants us l m → IsToldAgain (FailedBy failed fails next) b.clock l.number st b.tenants l.session m.session
      → Mine t mine es b → SpeaksTo scope t mine es b (put_with b i m us)
  look-goes scope has t mine es (Greets h) e is told k = look-passed scope t mine es (passed-same b i l m us at is) k
  look-goes scope has t mine es (BoundTo u None) e is told k = look-passed scope t mine es (passed-same b i l m us at is) k
  look-goes scope has t mine es (BoundTo u (Some w)) e (inl is) told k = look-passed scope t mine es (passed-same b i l m us at is.1) k
  look-goes scope has t mine es (BoundTo u (Some w)) e (inr is) told k =
      let p : IsBound u l.session = record { wait = Some w; is = e } in
      record {
        stays = mine-set b i l m us t mine es at (mine-fate b.setup t mine es l m (fate-two b u l m p (bound-same u l.session m.session p is.1.stage) is.1.number)) k;
        goes = by (mine l.number) refl;
        apart = λ apart. other (apart-line scope b l t mine es k own (in-scope scope b l u (has u (concerned whom b.clock u w is.0)) (ap whose e)) apart);
      }
    where
      own : IsMine b.setup t mine es l
      own = all-at (IsMine b.setup t mine es) b.lines i l at k.now

      other : mine l.number ≡ false → own_of t mine (put_with b i m us) ≡ own_of t mine b
      other theirs = own-passed b i l m us t mine sound at is.1.number theirs (is.1.stays honest t) (is.1.turn.counts t (other-whose b.setup t mine es l own theirs u (ap whose e)))

      by : (x : Bool) → mine l.number ≡ x → MayGo t (own_of t mine b) (own_of t mine (put_with b i m us))
      by true ours = goes-step t (own_of t mine b) (own_of t mine (put_with b i m us))
          (look-own t u mine w e is.1.number ours (own-whose b.setup t mine es l own ours u (ap whose e)) (is.1.stays honest t) (is.1.turn.grows t) told
          (λ calm. (let same : u ≡ t = own-whose b.setup t mine es l own ours u (ap whose e) in
          subst (λ v. m.session ≡ woken (kept_of_tenant b v) b.clock l.number l.session) same (is.1.meets honest (subst (λ v. IsCalm (refusals_of b v) (hosted.refusals_of us v)) (sym same) calm)))))
      by false theirs = goes-none t (own_of t mine b) (own_of t mine (put_with b i m us)) (other theirs)

-- where a is what the broker's own fields are
pub true_look : (H : Type 0) → H → (failed fails next : ℕ) (whom : Whom) (a b : BrokerState) (i : ℕ) (l m : Line) (us : List TenantState)
    → a ≡ b → IsSound b → IsAt b.lines i l
    → IsLookedAt H whom a.clock l.session.stage a.tenants us l m
    → IsToldAgain (FailedBy failed fails next) a.clock l.number l.session.stage a.tenants l.session m.session
    → SpeaksFor whom b (put_with a i m us)
true_look H honest failed fails next whom a b i l m us e sound at is told =
    let here = subst (λ (x : BrokerState). IsLookedAt H whom x.clock l.session.stage x.tenants us l m) e is in
    let heard = subst (λ (x : BrokerState). IsToldAgain (FailedBy failed fails next) x.clock l.number l.session.stage x.tenants l.session m.session) e told in
    let waked : Waked whom b (put_with b i m us) = looked-waked H honest whom b i l m us l.session.stage sound at refl here in
    subst (λ (x : BrokerState). SpeaksFor whom b (put_with x i m us)) (sym e) (λ scope has still. record {
      still = waked.still scope has still;
      goes = λ t mine es k. look-goes H honest failed fails next whom b i l m us sound at scope has t mine es l.session.stage refl here heard k;
    })

-- 6. Events

act-then : (t : ℕ) (e : Happening) (a b c : Own) → MayAct t e a b → MayGo t b c → MayAct t e a c
act-then t e a b c p q = record { begun = p.begun; begins = p.begins; goes = goes-then t p.begun b c p.goes q }

-- a piece, and then turns
pub comes_then : (n : ℕ) (piece : List ℕ) (a b c : BrokerState) → AreStill (Of n) b → SpeaksAt (Comes n piece) a b → SpeaksTruth b c → SpeaksAt (Comes n piece) a c
comes_then n piece a b c still p q t mine es run k =
    let first = p t mine es run k in
    let then = (q (Of n) still).goes t mine es first.stays in
    record {
      stays = then.stays;
      own = λ ours. act-then t (Comes n piece) (own_of t mine a) (own_of t mine b) (own_of t mine c) (first.own ours) then.goes;
      apart = λ theirs. then.apart theirs ∙ first.apart theirs;
    }

-- a connection that opens

unborn-none : (setup : Setup) (n last : ℕ) (es : List Happening) → n ≤ last → IsEventRun last es → unborn setup n es ≡ None
unborn-none setup n last [] le run = refl
unborn-none setup n last (Opens m ∷ es) le run =
    let lt = run.0 in
    let ne : eqb m n ≡ false = grind (arith, nat_tests) in
    let rest = unborn-none setup n m es (omega (arith, lt, le)) run.1 in
    grind (arith, ne, rest)
unborn-none setup n last (Comes m piece ∷ es) le run = unborn-none setup n last es le run
unborn-none setup n last (Closes m ∷ es) le run = unborn-none setup n last es le run
unborn-none setup n last (Moment now ∷ es) le run = unborn-none setup n last es le run.1

-- one that cannot be kept is nobody's
owns-unopened : (setup : Setup) (t last n : ℕ) (mine : ℕ → Bool) (es : List Happening) (ls : List Line) → IsEventRun n es → OwnsLines setup t mine last (Opens n ∷ es) ls → OwnsLines setup t mine last es ls
owns-unopened setup t last n mine es ls run o = record { now = o.now; later = λ k lt. by k (eqb n k) refl (o.later k lt) }
  where
    by : (k : ℕ) (x : Bool) → eqb n k ≡ x → Fits t (mine k) (cond (eqb n k) (destiny setup k (new_session setup.request_bytes) es) (unborn setup k es)) → Fits t (mine k) (unborn setup k es)
    by k true e f = let same : n ≡ k = eqb_same n k e in subst (Fits t (mine k)) (sym (unborn-none setup k n es (omega (arith, same)) run)) tt
    by k false e f = subst (Fits t (mine k)) (ap (λ (x : Bool). cond x (destiny setup k (new_session setup.request_bytes) es) (unborn setup k es)) e) f

-- what the tenant sees of a new one
pub own-opened : (b : BrokerState) (n t : ℕ) (mine : ℕ → Bool) (x : Bool) → mine n ≡ x → own_of t mine (opened b n) ≡ record (own_of t mine b) { view = stepped x (Opens n) (view_of t mine b) }
own-opened b n t mine x e = ap (λ v. let o : Own = record { view = v; refusals = refusals_of b t } in o)
    (ap (with_lines (view_of t mine b)) (lines-push b.lines (record { number = n; session = new_session b.setup.request_bytes }) mine) ∙ view-opened (view_of t mine b) n mine x e)

at-opened : (a : BrokerState) (n : ℕ) → SpeaksAt (Opens n) a (opened a n)
at-opened a n t mine es run k = record {
  stays = owns-opens a.setup t a.last n mine es a.lines run.0 k;
  own = λ ours. record { begun = own_of t mine (opened a n); begins = inl (own-opened a n t mine true ours); goes = goes-none t (own_of t mine (opened a n)) (own_of t mine (opened a n)) refl };
  apart = λ theirs. own-opened a n t mine false theirs;
}

at-unopened : (a c : BrokerState) (n : ℕ) → IsRefusedUnbound a c → SpeaksAt (Opens n) a c
at-unopened a c n refused t mine es run k = record {
  stays = subst (Mine t mine es) (sym refused.is) (let m = owns-unopened a.setup t a.last n mine es a.lines run.1 k in record { now = m.now; later = m.later });
  own = λ ours. record { begun = own_of t mine c; begins = inr (ap (own_of t mine) refused.is); goes = goes-none t (own_of t mine c) (own_of t mine c) refl };
  apart = λ theirs. ap (own_of t mine) refused.is;
}

pub at_opened : {A E : Type 0} (r : Result A E) (a c : BrokerState) (n : ℕ) → OnOk r (c ≡ opened a n) → OnErr r (IsRefusedUnbound a c) → SpeaksAt (Opens n) a c
at_opened (Ok x) a c n ok err = subst (SpeaksAt (Opens n) a) (sym ok) (at-opened a n)
at_opened (Err x) a c n ok err = at-unopened a c n err

-- one that closes

own-closed : (b : BrokerState) (n t : ℕ) (mine : ℕ → Bool) (es : List Happening) (x : Bool) → mine n ≡ x → Mine t mine (Closes n ∷ es) b
    → own_of t mine (closed b n) ≡ record (own_of t mine b) { view = stepped x (Closes n) (view_of t mine b) }
own-closed b n t mine es x e k =
    ap (λ v. let o : Own = record { view = v; refusals = refusals_of (closed b n) t } in o)
    (view-closed (view_of t mine b) n mine b.lines (hosted.kept_of (closed b n).tenants t) x refl e
    (λ ours. kept-closed b.setup t n b.clock mine (Closes n ∷ es) b.tenants b.lines k.now (e ∙ ours))
    (λ theirs. kept-unclosed b.setup t n b.clock mine (Closes n ∷ es) b.tenants b.lines k.now (e ∙ theirs)))
    ∙ ap (λ c. let o : Own = record { view = stepped x (Closes n) (view_of t mine b); refusals = c } in o) (refusals-closed b.clock n (find_line n b.lines) b.tenants t)

at-closed : (a : BrokerState) (n : ℕ) → SpeaksAt (Closes n) a (closed a n)
at-closed a n t mine es run k = record {
  stays = record { now = closes-others a.setup t n mine es a.lines k.now; later = k.later };
  own = λ ours. record { begun = own_of t mine (closed a n); begins = own-closed a n t mine es true ours k; goes = goes-none t (own_of t mine (closed a n)) (own_of t mine (closed a n)) refl };
  apart = λ theirs. own-closed a n t mine es false theirs k;
}

pub at_closed : (a c : BrokerState) (n : ℕ) → c ≡ closed a n → SpeaksAt (Closes n) a c
at_closed a c n is = subst (SpeaksAt (Closes n) a) (sym is) (at-closed a n)

-- a piece that nobody takes

ignored-line : (setup : Setup) (t n : ℕ) (mine : ℕ → Bool) (piece : List ℕ) (es : List Happening) (l : Line) → can l.session ≡ false → (l.number ≡ n → fed piece l.session ≡ l.session)
    → IsMine setup t mine (Comes n piece ∷ es) l → IsMine setup t mine es l
ignored-line setup t n mine piece es l c same k = by (eqb n l.number) refl
  where
    heard : greeted_so_far setup l.session ≡ l.session
    heard = heard-still setup l.session c

    by : (x : Bool) → eqb n l.number ≡ x → IsMine setup t mine es l
    by true e =
        let is : n ≡ l.number = eqb_same n l.number e in
        let fed-it : destiny setup l.number (greeted_so_far setup (fed piece (greeted_so_far setup l.session))) es ≡ destiny setup l.number (greeted_so_far setup l.session) es =
        ap (λ s. destiny setup l.number (greeted_so_far setup s) es) (ap (fed piece) heard ∙ same (sym is)) in
        subst (Fits t (mine l.number)) (ap (λ (x : Bool). cond x (destiny setup l.number (greeted_so_far setup (fed piece (greeted_so_far setup l.session))) es) (destiny setup l.number (greeted_so_far setup l.session) es)) e ∙ fed-it) k
    by false e = subst (Fits t (mine l.number)) (ap (λ (x : Bool). cond x (destiny setup l.number (greeted_so_far setup (fed piece (greeted_so_far setup l.session))) es) (destiny setup l.number (greeted_so_far setup l.session) es)) e) k

ignored-lines : (setup : Setup) (t n : ℕ) (mine : ℕ → Bool) (piece : List ℕ) (es : List Happening) (ls : List Line) → AllByRecursion (λ l. can l.session ≡ false) ls
    → AllByRecursion (λ l. l.number ≡ n → fed piece l.session ≡ l.session) ls → AllByRecursion (IsMine setup t mine (Comes n piece ∷ es)) ls → AllByRecursion (IsMine setup t mine es) ls
ignored-lines setup t n mine piece es [] c same k = tt
ignored-lines setup t n mine piece es (l ∷ ls) c same k = (ignored-line setup t n mine piece es l c.0 same.0 k.0, ignored-lines setup t n mine piece es ls c.1 same.1 k.1)

ignored-fed : (n : ℕ) (piece : List ℕ) (a : BrokerState) → IsSound a → IsUntaken n piece a → AllByRecursion (λ l. l.number ≡ n → fed piece l.session ≡ l.session) a.lines
ignored-fed n piece a sound untaken = all-map (λ l. find_line l.number a.lines ≡ Some l.session) (λ l. l.number ≡ n → fed piece l.session ≡ l.session) (λ l at is. by l at is untaken) a.lines (found 0 a.last a.lines sound.rising)
  where
    by : (l : Line) → find_line l.number a.lines ≡ Some l.session → l.number ≡ n → IsUntaken n piece a → fed piece l.session ≡ l.session
    by l at is (inl none) = ap (λ p. fed p l.session) none ∙ fed-nothing l.session
    by l at is (inr deaf) = fed-shut piece l.session (sym (ap is_deaf at) ∙ (ap (λ k. is_deaf (find_line k a.lines)) is ∙ deaf))

pub at_untaken : (n : ℕ) (piece : List ℕ) (a : BrokerState) → IsSound a → first_able a.lines ≡ None → IsUntaken n piece a → SpeaksAt (Comes n piece) a a
at_untaken n piece a sound settled untaken t mine es run k = record {
  stays = record { now = ignored-lines a.setup t n mine piece es a.lines (all-still a.lines settled) (ignored-fed n piece a sound untaken) k.now; later = k.later };
  own = λ ours. record {
    begun = own_of t mine a;
    begins = inl (record { untaken = seen ours untaken; same = refl });
    goes = goes-none t (own_of t mine a) (own_of t mine a) refl;
  };
  apart = λ theirs. refl;
}
  where
    seen : mine n ≡ true → IsUntaken n piece a → (piece ≡ []) ⊎ (is_deaf (find_line n (those mine a.lines)) ≡ true)
    seen ours (inl none) = inl none
    seen ours (inr deaf) = inr (ap is_deaf (find-those mine n a.lines ours) ∙ deaf)

-- a piece that came on a connection

module _ (b : BrokerState) (i : ℕ) (l m : Line) (piece : List ℕ) (sound : IsSound b) (settled : first_able b.lines ≡ None) (at : IsAt b.lines i l) (number : m.number ≡ l.number) where
  piece-apart : (t : ℕ) (mine : ℕ → Bool) (es : List Happening) → IsMine b.setup t mine (Comes l.number piece ∷ es) l → mine l.number ≡ false
      → own_of t mine (put_with b i m (left_fed piece b.clock l.number l.session b.tenants)) ≡ own_of t mine b
  piece-apart t mine es own theirs = own-passed b i l m (left_fed piece b.clock l.number l.session b.tenants) t mine sound at number theirs
      (kept-unfed b.setup t b.clock mine (Comes l.number piece ∷ es) b.tenants piece l own theirs) (refusals-fed piece b.clock l.number l.session b.tenants t)

  piece-own : (t : ℕ) (mine : ℕ → Bool) (es : List Happening) → IsMine b.setup t mine (Comes l.number piece ∷ es) l → mine l.number ≡ true
      → own_of t mine (put_with b i m (left_fed piece b.clock l.number l.session b.tenants))
      ≡ with_change l.number m.session (kept_fed piece b.clock l.number (Some l.session) (kept_of_tenant b t)) (refusals_of b t) (own_of t mine b)
  piece-own t mine es own ours =
      own-put b i l m (left_fed piece b.clock l.number l.session b.tenants) t mine sound at number
      ∙ (ap (λ k. with_change l.number m.session k (hosted.refusals_of (left_fed piece b.clock l.number l.session b.tenants) t) (own_of t mine b)) (kept-fed b.setup t b.clock mine (Comes l.number piece ∷ es) b.tenants piece l own ours)
      ∙ ap (λ c. with_change l.number m.session (kept_fed piece b.clock l.number (Some l.session) (kept_of_tenant b t)) c (own_of t mine b)) (refusals-fed piece b.clock l.number l.session b.tenants t))

  -- it stands behind the unread bytes, or shut the connection
  pub at_piece : m.session ≡ fed piece l.session → SpeaksAt (Comes l.number piece) b (put_with b i m (left_fed piece b.clock l.number l.session b.tenants))
  at_piece is t mine es run k =
      let us = left_fed piece b.clock l.number l.session b.tenants in
      let c = put_with b i m us in
      let own = all-at (IsMine b.setup t mine (Comes l.number piece ∷ es)) b.lines i l at k.now in
      record {
        stays = record {
          now = comes-set b.setup t 0 b.last mine piece es b.lines i l m sound.rising at number
              (comes-fed b.setup t mine piece es l m (all-at (λ x. can x.session ≡ false) b.lines i l at (all-still b.lines settled)) number is) k.now;
          later = k.later;
        };
        own = λ ours. record {
          begun = own_of t mine c;
          begins = inr (inl (
              ap (λ ls. let o : Own = record { view = record (view_of t mine b) { kept = hosted.kept_of us t; lines = ls }; refusals = hosted.refusals_of us t } in o)
              (ap (those mine) (set-on 0 b.last (fed piece) b.lines i l m sound.rising at number is) ∙ those-each mine (on l.number (fed piece)) b.lines)
              ∙ (ap (λ x. let o : Own = record { view = record (view_of t mine b) { kept = x; lines = each_line (on l.number (fed piece)) (those mine b.lines) }; refusals = hosted.refusals_of us t } in o)
              (kept-fed b.setup t b.clock mine (Comes l.number piece ∷ es) b.tenants piece l own ours ∙ ap (λ s. kept_fed piece b.clock l.number s (kept_of_tenant b t)) (sym (own-found b i l t mine sound at ours)))
              ∙ ap (λ x. record (brought l.number piece (own_of t mine b)) { refusals = x }) (refusals-fed piece b.clock l.number l.session b.tenants t))
              ));
          goes = goes-none t (own_of t mine c) (own_of t mine c) refl;
        };
        apart = λ theirs. piece-apart t mine es own theirs;
      }

  -- no memory was had for it, and then that was counted
  pub at_refused_piece : (c : BrokerState) (st : Stage) → m.session ≡ shut_down causes.Memory l.session → st ≡ without_wait l.session.stage
      → IsCountedAt l.number st (put_with b i m (left_fed piece b.clock l.number l.session b.tenants)) c → SpeaksAt (Comes l.number piece) b c
  at_refused_piece c st is stage counted t mine es run k =
      let us = left_fed piece b.clock l.number l.session b.tenants in
      let p = put_with b i m us in
      let own = all-at (IsMine b.setup t mine (Comes l.number piece ∷ es)) b.lines i l at k.now in
      let bound : (u : ℕ) → whose st ≡ Some u → whose l.session.stage ≡ Some u = λ u e. whose-without l.session.stage u (sym (ap whose stage) ∙ e) in
      let left : Mine t mine es p = record {
        now = comes-set b.setup t 0 b.last mine piece es b.lines i l m sound.rising at number (shut-mine t mine es l.session.stage refl) k.now;
        later = k.later;
      } in
      let other : mine l.number ≡ false → own_of t mine c ≡ own_of t mine b =
      λ theirs. counted-other l.number t mine st p c counted (λ u e. other-whose b.setup t mine (Comes l.number piece ∷ es) l own theirs u (bound u e)) ∙ piece-apart t mine es own theirs in
      record {
        stays = mine-counted l.number t mine es st p c counted left;
        own = λ ours. record {
          begun = own_of t mine c;
          begins = inr (inr (record {
            session = l.session;
            there = own-found b i l t mine sound at ours;
            is = counted-own l.number t mine st p c counted (λ u e. own-whose b.setup t mine (Comes l.number piece ∷ es) l own ours u (bound u e))
                ∙ (ap (counted_at l.number st) (piece-own t mine es own ours ∙ ap (λ s. with_change l.number s (kept_fed piece b.clock l.number (Some l.session) (kept_of_tenant b t)) (refusals_of b t) (own_of t mine b)) is)
                ∙ (ap (λ s. counted_at l.number s (with_change l.number (shut_down causes.Memory l.session) (kept_fed piece b.clock l.number (Some l.session) (kept_of_tenant b t)) (refusals_of b t) (own_of t mine b))) stage
                ∙ counted-waiting l.number l.session.stage (with_change l.number (shut_down causes.Memory l.session) (kept_fed piece b.clock l.number (Some l.session) (kept_of_tenant b t)) (refusals_of b t) (own_of t mine b))));
          }));
          goes = goes-none t (own_of t mine c) (own_of t mine c) refl;
        };
        apart = other;
      }
    where
      whose-without : (s : Stage) (u : ℕ) → whose (without_wait s) ≡ Some u → whose s ≡ Some u
      whose-without (Greets h) u e = e
      whose-without (BoundTo v w) u e = e

      shut-mine : (t : ℕ) (mine : ℕ → Bool) (es : List Happening) (s : Stage) → l.session.stage ≡ s → IsMine b.setup t mine (Comes l.number piece ∷ es) l → IsMine b.setup t mine es m
      shut-mine t mine es (Greets h) e own = mine-mute b.setup t mine es m l.session h e is
      shut-mine t mine es (BoundTo u w) e own =
          let p : IsBound u l.session = record { wait = w; is = e } in
          let q : IsBound u m.session = record { wait = None; is = ap (λ (x : Session). x.stage) is ∙ ap without_wait e } in
          comes-bound b.setup t u mine piece es l m p q number own

-- a moment

pub true_moment : (H : Type 0) → H → (a b : BrokerState) → b ≡ record a { tenants = b.tenants } → HavePassed a.clock H a.tenants b.tenants → IsTrueMoment a b
true_moment H honest a b is passed = record {
  is = is;
  passed = record {
    names = passed.names;
    grows = passed.grows;
    kept = λ ours. passed.kept honest;
    partly = λ ours. passed.partly honest;
    waits = λ ours. passed.waits honest;
  };
}

-- the tenants' own parts of it, and then looks and turns
pub moment_then : (now : ℕ) (a b c : BrokerState) → PassesAt now a b → SpeaksIn Everybody b c → SpeaksAt (Moment now) a c
moment_then now a b c p q t mine es run k =
    let begun : Mine t mine es b = subst (Mine t mine es) (sym p.is) (record { now = k.now; later = k.later }) in
    let then = q.goes t mine es begun in
    let passed : MayPass now (own_of t mine a) (own_of t mine b) = record { is = ap (view_of t mine) p.is; passed = p.passed.partly tt t; exact = p.passed.kept tt t } in
    record {
      stays = then.stays;
      own = λ ours. record { begun = own_of t mine b; begins = passed; goes = then.goes };
      apart = λ theirs. let never : true ≡ false = theirs in absurd (cc);
    }
