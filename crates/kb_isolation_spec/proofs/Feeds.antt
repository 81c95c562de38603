-- A piece that comes on a connection.
use Rattle.std.proofs.Common.{◌≡◌, ◌≢◌, ◌<◌, ◌≤◌, ◌++◌, ◌∷◌, [], ℕ, zero, suc, List, length, set, eqb, Bool, true, false, Option, Some, None, refl, sym, ◌∙◌, ap, subst, arith, append-nil, inl}
use Rattle.std.specs.Prelude.{cond, nat_lt}
use Rattle.std.specs.List.{AllByRecursion}
use Rattle.std.proofs.lemmas.Bool.Decides.{nat_tests}
use Rattle.std.proofs.lemmas.List.{set-get_or, length-map}
use Rattle.kb_tenant_state.specs.Counts.{IsCalm}
use Rattle.kb_tenant_api.specs.Hosted as hosted
use Rattle.kb_tenant_api.specs.Hosted.{TenantState}
use Rattle.kb_tenant_api.specs.Turns.{IsTurn}
use Rattle.kb_tenant.specs.Replies.{Silent}
use Rattle.kb_isolation_spec.specs.declared.shut.Shut.TheVariants as causes
use Rattle.kb_isolation_spec.specs.Tenant.{Wait, ready}
use Rattle.kb_isolation_spec.specs.Session.{Greeting, has_member, Stage, Greets, BoundTo, Session, fed, room, overruns, shut_down, without_wait, can}
use Rattle.kb_isolation_spec.specs.Greeting.{Setup}
use Rattle.kb_isolation_spec.specs.Machine.{Happening, Comes, Line, View, each_line, on, those, find_line, first_able, kept_fed, turns, stepped}
use Rattle.kb_isolation_spec.specs.Owners.{OwnsLines, Fits, whose, greeted_so_far, destiny}
use Rattle.kb_isolation_spec.specs.Calls.{left_by}
use Rattle.kb_isolation_spec.specs.Broker.{BrokerState, IsUnready, AnyWait, kept_of_tenant, IsReady, IsSound, IsStep, IsUntaken, Rising, Mine, view_of}
use Rattle.kb_isolation_spec.specs.Turned.{Scope, Of, IsStill, AreStill, Turned, IsFed, IsGoing}
use Rattle.kb_tenant_api.specs.Hosted.{Kept}
use Rattle.kb_isolation_spec.proofs.Laws.{none-those, turns-none, those-each}
use Rattle.kb_isolation_spec.proofs.Leaving.{find-those, left_fed, names-fed, refusals-fed, ready-fed, kept-fed, kept-unfed}
use Rattle.kb_isolation_spec.proofs.Owners.{IsBound, IsMine, heard-still, fate-bound, mine-bound, bound-same, those-on_other, stage-fed, stage-shut}
use Rattle.kb_isolation_spec.proofs.Ranges.{range-same}
use Rattle.kb_isolation_spec.proofs.Sets.{IsAt, all-at, all-map, all-those, all-still, rising-above, set-on, find-at, find-none, find-set_other, tail-at, no-at, each-on_none}
use Rattle.kb_isolation_spec.specs.Stranded.{NoneStranded}
use Rattle.kb_isolation_spec.proofs.Stranded.{stranded-fed, stranded-idle}
use Rattle.kb_isolation_spec.proofs.Parts.{count, each-tenant, calm-left, calm-right, grows-same, calm-first, calm-then}
use Rattle.kb_isolation_spec.proofs.Turns.{shut-unready, changed-quiet, changed-unready, changed, changed-going, changed-still, called-going, going-then, counted-then, counted-same, counted-tenant, counted-unbound, scope-tenant, tenant-later}
use Rattle.kb_isolation_spec.proofs.Steps.{settled-turns, with_lines}

-- 1. What a piece is to those that it does not come on

comes-above : (setup : Setup) (t low last n : ℕ) (mine : ℕ → Bool) (piece : List ℕ) (es : List Happening) (ls : List Line) → Rising low last ls → n ≤ low → AllByRecursion (IsMine setup t mine (Comes n piece ∷ es)) ls → AllByRecursion (IsMine setup t mine es) ls
comes-above setup t low last n mine piece es [] r h o = tt
comes-above setup t low last n mine piece es (l ∷ ls) r h o =
    let ne : eqb n l.number ≡ false = (let lt = r.0 in grind (arith, nat_tests)) in
    (subst (Fits t (mine l.number)) (ap (λ (b : Bool). cond b (destiny setup l.number (greeted_so_far setup (fed piece (greeted_so_far setup l.session))) es) (destiny setup l.number (greeted_so_far setup l.session) es)) ne) o.0, comes-above setup t l.number last n mine piece es ls r.1 (let lt = r.0 in omega arith) o.1)

pub comes-set : (setup : Setup) (t low last : ℕ) (mine : ℕ → Bool) (piece : List ℕ) (es : List Happening) (ls : List Line) (i : ℕ) (l m : Line) → Rising low last ls → IsAt ls i l → m.number ≡ l.number →
    (IsMine setup t mine (Comes l.number piece ∷ es) l → IsMine setup t mine es m) → AllByRecursion (IsMine setup t mine (Comes l.number piece ∷ es)) ls → AllByRecursion (IsMine setup t mine es) (set ls i m)
comes-set setup t low last mine piece es [] i l m r a e f o = no-at i l a
comes-set setup t low last mine piece es (k ∷ ls) zero l m r a e f o =
    let n : l.number ≡ k.number = ap (λ (x : Line). x.number) a.here in
    (f (subst (IsMine setup t mine (Comes l.number piece ∷ es)) (sym a.here) o.0), comes-above setup t k.number last l.number mine piece es ls r.1 (omega (arith, n)) o.1)
comes-set setup t low last mine piece es (k ∷ ls) (suc i) l m r a e f o =
    let lt : k.number < l.number = rising-above k.number last ls i l r.1 (tail-at k ls i l a) in
    let ne : eqb l.number k.number ≡ false = grind (arith, nat_tests) in
    (subst (Fits t (mine k.number)) (ap (λ (b : Bool). cond b (destiny setup k.number (greeted_so_far setup (fed piece (greeted_so_far setup k.session))) es) (destiny setup k.number (greeted_so_far setup k.session) es)) ne) o.0, comes-set setup t k.number last mine piece es ls i l m r.1 (tail-at k ls i l a) e f o.1)

pub comes-none : (setup : Setup) (t n : ℕ) (mine : ℕ → Bool) (piece : List ℕ) (es : List Happening) (ls : List Line) → AllByRecursion (λ l. l.number ≢ n) ls → AllByRecursion (IsMine setup t mine (Comes n piece ∷ es)) ls → AllByRecursion (IsMine setup t mine es) ls
comes-none setup t n mine piece es [] h o = tt
comes-none setup t n mine piece es (l ∷ ls) h o =
    let no = h.0 in
    let ne : eqb n l.number ≡ false = grind (arith, nat_tests) in
    (subst (Fits t (mine l.number)) (ap (λ (b : Bool). cond b (destiny setup l.number (greeted_so_far setup (fed piece (greeted_so_far setup l.session))) es) (destiny setup l.number (greeted_so_far setup l.session) es)) ne) o.0, comes-none setup t n mine piece es ls h.1 o.1)

-- the connection that the piece came on, if it was kept
pub comes-fed : (setup : Setup) (t : ℕ) (mine : ℕ → Bool) (piece : List ℕ) (es : List Happening) (l m : Line) → can l.session ≡ false → m.number ≡ l.number → m.session ≡ fed piece l.session → IsMine setup t mine (Comes l.number piece ∷ es) l → IsMine setup t mine es m
comes-fed setup t mine piece es l m c n e h =
    let same : eqb l.number l.number ≡ true = grind (arith, nat_tests) in
    let still : greeted_so_far setup l.session ≡ l.session = heard-still setup l.session c in
    let g : Fits t (mine l.number) (destiny setup l.number (greeted_so_far setup (fed piece (greeted_so_far setup l.session))) es) = subst (Fits t (mine l.number)) (ap (λ (b : Bool). cond b (destiny setup l.number (greeted_so_far setup (fed piece (greeted_so_far setup l.session))) es) (destiny setup l.number (greeted_so_far setup l.session) es)) same) h in
    let k : Fits t (mine l.number) (destiny setup l.number (greeted_so_far setup m.session) es) = subst (λ x. Fits t (mine l.number) (destiny setup l.number (greeted_so_far setup x) es)) (ap (fed piece) still ∙ sym e) g in
    subst (λ x. Fits t (mine x) (destiny setup x (greeted_so_far setup m.session) es)) (sym n) k

-- a bound connection, whatever it is left as
pub comes-bound : (setup : Setup) (t u : ℕ) (mine : ℕ → Bool) (piece : List ℕ) (es : List Happening) (l m : Line) → IsBound u l.session → IsBound u m.session → m.number ≡ l.number → IsMine setup t mine (Comes l.number piece ∷ es) l → IsMine setup t mine es m
comes-bound setup t u mine piece es l m p q n h =
    let g : Fits t (mine l.number) (Some u) = subst (Fits t (mine l.number)) (fate-bound setup l.number l.session (Comes l.number piece ∷ es) u p) h in
    let k : Fits t (mine l.number) (destiny setup m.number (greeted_so_far setup m.session) es) = subst (Fits t (mine l.number)) (sym (fate-bound setup m.number m.session es u q)) g in
    subst (λ y. Fits t (mine y) (destiny setup m.number (greeted_so_far setup m.session) es)) (sym n) k

whose-same : (a b : Stage) → without_wait b ≡ without_wait a → whose b ≡ whose a
whose-same (Greets g) (Greets h) e = refl
whose-same (Greets g) (BoundTo v w) e = cc
whose-same (BoundTo v w) (Greets h) e = cc
whose-same (BoundTo v w) (BoundTo x y) e = let g : x ≡ v = cc in ap Some g

-- 2. A piece that is taken

-- between two events nobody can take a turn
pub still-settled : (scope : Scope) (b : BrokerState) → first_able b.lines ≡ None → AreStill scope b
still-settled scope b h = all-map (λ l. can l.session ≡ false) (IsStill scope b) (λ l c able. let no : false ≡ true = sym c ∙ able in absurd (cc)) b.lines (all-still b.lines h)

-- but the connection that was given the piece
fed-still : (b : BrokerState) (i : ℕ) (l m : Line) (ps : List TenantState) (x : ℕ) → first_able b.lines ≡ None → m.number ≡ l.number → IsGoing b (changed b i m ps x) → AreStill (Of l.number) (changed b i m ps x)
fed-still b i l m ps x none n g = changed-still (Of l.number) b i m ps x g (still-settled (Of l.number) b none) (λ c. inl n)

view-fed : (w : View) (mine : ℕ → Bool) (n : ℕ) (piece : List ℕ) (ls : List Line) (kept : Kept) (yes : Bool) → mine n ≡ yes → w.lines ≡ those mine ls → first_able ls ≡ None → (yes ≡ true → kept ≡ kept_fed piece w.clock n (find_line n w.lines) w.kept) → (yes ≡ false → kept ≡ w.kept)
    → turns (record w { kept = kept; lines = those mine (each_line (on n (fed piece)) ls) }) ≡ stepped yes (Comes n piece) w
view-fed w mine n piece ls kept true m f none own other =
    ap (λ k. turns (record w { kept = k; lines = those mine (each_line (on n (fed piece)) ls) })) (own refl)
    ∙ ap (λ x. turns (record w { kept = kept_fed piece w.clock n (find_line n w.lines) w.kept; lines = x })) (those-each mine (on n (fed piece)) ls ∙ ap (each_line (on n (fed piece))) (sym f))
view-fed w mine n piece ls kept false m f none own other =
    ap (λ k. turns (record w { kept = k; lines = those mine (each_line (on n (fed piece)) ls) })) (other refl)
    ∙ (ap (λ x. turns (with_lines w x)) (those-on_other mine n (fed piece) ls m ∙ sym f) ∙ turns-none w (ap first_able f ∙ none-those mine ls none))

unready-fed : (P : ℕ → Wait → Type 0) (b : BrokerState) (n : ℕ) (piece : List ℕ) (s : Session) → IsUnready P b n s.stage → IsUnready P b n (fed piece s).stage
unfolding fed
unready-fed P b n piece s u = by s.shut (nat_lt (room s) (length piece))
  where
    by : (x y : Bool) → IsUnready P b n (let r : Session = cond x s (cond y (shut_down causes.Overrun s) (record s { unread = s.unread ++ piece })) in r).stage
    by true y = u
    by false true = shut-unready P b n s
    by false false = u

length-fed : (piece : List ℕ) (clock n : ℕ) (s : Session) (ts : List TenantState) → length (left_fed piece clock n s ts) ≡ length ts
length-fed piece clock n s ts =
    sym (length-map (left_fed piece clock n s ts) (λ (x : TenantState). x.name)) ∙ (ap length (names-fed piece clock n s ts) ∙ length-map ts (λ (x : TenantState). x.name))

-- The piece was taken, or it was longer than the room and the connection is shut. Where a member waited on it that waits no longer, its
-- tenant keeps something else.
pub fed-kept : (b : BrokerState) (i : ℕ) (l m : Line) (piece : List ℕ) (ts : List TenantState) → IsSound b → first_able b.lines ≡ None → IsAt b.lines i l → m.number ≡ l.number → m.session ≡ fed piece l.session → ts ≡ left_fed piece b.clock l.number l.session b.tenants
    → IsFed l.number piece b (changed b i m ts b.unbound_refusals)
fed-kept b i l m piece ts s settled at n e is = subst (λ xs. IsFed l.number piece b (changed b i m xs b.unbound_refusals)) (sym is) (here b i l m piece s settled at n e)
  where
    here : (b : BrokerState) (i : ℕ) (l m : Line) (piece : List ℕ) → IsSound b → first_able b.lines ≡ None → IsAt b.lines i l → m.number ≡ l.number → m.session ≡ fed piece l.session → IsFed l.number piece b (changed b i m (left_fed piece b.clock l.number l.session b.tenants) b.unbound_refusals)
    here b i l m piece s settled at n e =
        let ts = left_fed piece b.clock l.number l.session b.tenants in
        let counts = refusals-fed piece b.clock l.number l.session b.tenants in
        let same : without_wait m.session.stage ≡ without_wait l.session.stage = ap (λ (x : Session). without_wait x.stage) e ∙ stage-fed piece l.session in
        let owner : whose m.session.stage ≡ whose l.session.stage = whose-same l.session.stage m.session.stage same in
        let still = all-at (λ x. can x.session ≡ false) b.lines i l at (all-still b.lines settled) in
        let lines : set b.lines i m ≡ each_line (on l.number (fed piece)) b.lines = set-on 0 b.last (fed piece) b.lines i l m s.rising at n e in
        let going = changed-going b i l m ts b.unbound_refusals s at n (length-fed piece b.clock l.number l.session b.tenants) (range-same (length b.tenants) l.session.stage m.session.stage same (all-at _ b.lines i l at s.in_range))
        (record { setup = refl; names = names-fed piece b.clock l.number l.session b.tenants; own = λ t. (let c = counts t in omega (arith, c)); unbound = omega arith }) (λ t f. owner ∙ f) in
        record {
          going = going;
          still = fed-still b i l m ts b.unbound_refusals settled n going;
          counted = counted-same (Of l.number) b (changed b i m ts b.unbound_refusals) counts refl;
          unready = λ u. changed-quiet AnyWait b i m ts b.unbound_refusals (λ t k w silent. ready-fed piece b.clock l.number l.session b.tenants t b.clock k w ∙ silent) u
              (subst (λ (x : Session). IsUnready AnyWait b m.number x.stage) (sym e) (unready-fed AnyWait b m.number piece l.session (subst (λ k. IsUnready AnyWait b k l.session.stage) (sym n) (all-at (λ x. IsUnready AnyWait b x.number x.session.stage) b.lines i l at u))));
          held = λ k. stranded-fed b i l m piece b.unbound_refusals s at n e k;
          others = λ k ne. find-set_other k b.lines i l m at n ne;
          mine = λ t mine es k calm. record { now = comes-set b.setup t 0 b.last mine piece es b.lines i l m s.rising at n (comes-fed b.setup t mine piece es l m still n e) k.now; later = k.later };
          view = λ t mine es k calm.
              let own = all-at (IsMine b.setup t mine (Comes l.number piece ∷ es)) b.lines i l at k.now in
              ap (λ x. turns (record (view_of t mine b) { kept = hosted.kept_of ts t; lines = those mine x })) lines
              ∙ view-fed (view_of t mine b) mine l.number piece b.lines (hosted.kept_of ts t) (mine l.number) refl refl settled
              (λ yes. kept-fed b.setup t b.clock mine (Comes l.number piece ∷ es) b.tenants piece l own yes
              ∙ ap (λ o. kept_fed piece b.clock l.number o (kept_of_tenant b t)) (sym (find-those mine l.number b.lines yes ∙ find-at 0 b.last b.lines i l s.rising at)))
              (λ no. kept-unfed b.setup t b.clock mine (Comes l.number piece ∷ es) b.tenants piece l own no);
        }

-- a greeting connection's piece could not be kept
pub fed-refused : (b : BrokerState) (i : ℕ) (l m : Line) (piece : List ℕ) (h : Greeting) (x : ℕ) → IsSound b → first_able b.lines ≡ None → IsAt b.lines i l → l.session.stage ≡ Greets h → m.number ≡ l.number → m.session ≡ shut_down causes.Memory l.session → b.unbound_refusals ≤ x → (IsCalm b.unbound_refusals x → ⊥) →
    IsFed l.number piece b (changed b i m b.tenants x)
fed-refused b i l m piece h x s settled at g n e up rises =
    let same : without_wait m.session.stage ≡ without_wait l.session.stage = ap (λ (x : Session). without_wait x.stage) e ∙ stage-shut l.session in
    let none : whose l.session.stage ≡ None = ap whose g in
    let going = changed-going b i l m b.tenants x s at n refl (range-same (length b.tenants) l.session.stage m.session.stage same (all-at _ b.lines i l at s.in_range))
    (record { setup = refl; names = refl; own = λ t. omega arith; unbound = up }) (λ t f. let k : None ≡ Some t = sym none ∙ f in absurd (cc)) in
    record {
      going = going;
      still = fed-still b i l m b.tenants x settled n going;
      counted = counted-unbound (Of l.number) b i l m x s at (inl refl) none;
      unready = λ u. changed-unready AnyWait b i m b.tenants x (λ t. refl) u (subst (λ (y : Session). IsUnready AnyWait b m.number y.stage) (sym e) (shut-unready AnyWait b m.number l.session));
      held = λ k. stranded-idle b i l m x s at n (ap has_member g) k;
      others = λ k ne. find-set_other k b.lines i l m at n ne;
      mine = λ t mine es k calm. absurd (rises calm);
      view = λ t mine es k calm. absurd (rises calm.unbound);
    }

view-hidden : (w : View) (mine : ℕ → Bool) (n : ℕ) (f : Session → Session) (piece : List ℕ) (ls : List Line) → mine n ≡ false → w.lines ≡ those mine ls → first_able ls ≡ None → turns (with_lines w (those mine (each_line (on n f) ls))) ≡ stepped (mine n) (Comes n piece) w
view-hidden w mine n f piece ls m e none =
    ap (λ x. turns (with_lines w x)) (those-on_other mine n f ls m ∙ sym e) ∙ (turns-none w (ap first_able e ∙ none-those mine ls none) ∙ sym (ap (λ y. stepped y (Comes n piece) w) m))

-- a bound connection's piece could not be kept: a refusal is counted for its tenant, whatever it keeps then, as long as nothing becomes ready
pub fed-loud : (b : BrokerState) (i u : ℕ) (l m : Line) (piece : List ℕ) (w : Option Wait) (H : Type 0) (ts : List TenantState) → IsSound b → first_able b.lines ≡ None → IsAt b.lines i l → l.session.stage ≡ BoundTo u w → m.number ≡ l.number → m.session ≡ shut_down causes.Memory l.session →
    IsTurn u H b.tenants ts → H → ((t k : ℕ) (w : Wait) → ready (kept_of_tenant b t) b.clock k w ≡ Silent → ready (hosted.kept_of ts t) b.clock k w ≡ Silent) → (IsCalm (count b.tenants u) (count ts u) → ⊥) → (NoneStranded b → NoneStranded (changed b i m ts b.unbound_refusals)) → IsFed l.number piece b (changed b i m ts b.unbound_refusals)
fed-loud b i u l m piece w H ts s settled at g n e turn honest quiet loud held =
    let p : IsBound u l.session = record { wait = w; is = g } in
    let same : without_wait m.session.stage ≡ without_wait l.session.stage = ap (λ (x : Session). without_wait x.stage) e ∙ stage-shut l.session in
    let q : IsBound u m.session = bound-same u l.session m.session p same in
    let new = changed b i m ts b.unbound_refusals in
    let lines : set b.lines i m ≡ each_line (on l.number (λ z. m.session)) b.lines = set-on 0 b.last (λ z. m.session) b.lines i l m s.rising at n refl in
    let going = called-going b i u l m H ts s at p n same turn in
    record {
      going = going;
      still = fed-still b i l m ts b.unbound_refusals settled n going;
      counted = counted-tenant (Of l.number) b new u (tenant-later (Of l.number) b new u going (scope-tenant (Of l.number) b i u l s at (inl refl) (ap whose g))) (λ t ne. turn.counts t ne) refl;
      unready = λ k. changed-quiet AnyWait b i m ts b.unbound_refusals quiet k (subst (λ (y : Session). IsUnready AnyWait b m.number y.stage) (sym e) (shut-unready AnyWait b m.number l.session));
      held = held;
      others = λ k ne. find-set_other k b.lines i l m at n ne;
      mine = λ t mine es k calm. record { now = comes-set b.setup t 0 b.last mine piece es b.lines i l m s.rising at n (comes-bound b.setup t u mine piece es l m p q n) k.now; later = k.later };
      view = λ t mine es k calm. each-tenant (λ v. Mine v mine (Comes l.number piece ∷ es) b → IsCalm (count b.tenants v) (count ts v) → turns (view_of v mine new) ≡ stepped (mine l.number) (Comes l.number piece) (view_of v mine b)) u t (eqb u t) refl
          (λ k' c'. absurd (loud c'))
          (λ ne k' c'.
          let is' : mine l.number ≡ eqb u t = mine-bound b.setup t mine (Comes l.number piece ∷ es) l u p (all-at (IsMine b.setup t mine (Comes l.number piece ∷ es)) b.lines i l at k'.now) in
          let no : mine l.number ≡ false = is' ∙ grind (arith, nat_tests) in
          ap (λ z. turns (record (view_of t mine b) { kept = hosted.kept_of ts t; lines = those mine z })) lines
          ∙ (ap (λ z. turns (record (view_of t mine b) { kept = z; lines = those mine (each_line (on l.number (λ z. m.session)) b.lines) })) (turn.others honest t ne)
          ∙ view-hidden (view_of t mine b) mine l.number (λ z. m.session) piece b.lines no refl settled))
          k calm.own;
    }

-- or its tenant keeps what it kept
pub fed-bound : (b : BrokerState) (i u : ℕ) (l m : Line) (piece : List ℕ) (w : Option Wait) (H : Type 0) (ts : List TenantState) → IsSound b → first_able b.lines ≡ None → IsAt b.lines i l → l.session.stage ≡ BoundTo u w → m.number ≡ l.number → m.session ≡ shut_down causes.Memory l.session →
    IsTurn u H b.tenants ts → H → ((t : ℕ) → hosted.kept_of ts t ≡ kept_of_tenant b t) → (IsCalm (count b.tenants u) (count ts u) → ⊥) → (NoneStranded b → NoneStranded (changed b i m ts b.unbound_refusals)) → IsFed l.number piece b (changed b i m ts b.unbound_refusals)
fed-bound b i u l m piece w H ts s settled at g n e turn honest stays loud held =
    fed-loud b i u l m piece w H ts s settled at g n e turn honest (λ t k x silent. ap (λ kept. ready kept b.clock k x) (stays t) ∙ silent) loud held

-- 3. The end of the event

-- a piece that was taken, and then turns until none is left
pub step-comes : (n : ℕ) (piece : List ℕ) (a b c : BrokerState) → IsFed n piece a b → Turned (Of n) b c → first_able c.lines ≡ None → (IsUntaken n piece a → ⊥) → IsStep (Comes n piece) a c
step-comes n piece a b c f t none taken =
    let g = f.going.grows in
    let h = t.going.grows in
    let w = going-then a b c f.going t.going in
    let counts = counted-then (Of n) a b c f.going t.going f.counted t.counted in
    record {
      last = let e = w.last in omega (arith, e);
      grows = w.grows;
      counted = record { own = counts.0; unbound = counts.1; none = λ u. absurd (taken u) };
      mine = λ u mine es m calm. t.mine u mine es
          (f.mine u mine es m (calm-left a.unbound_refusals b.unbound_refusals c.unbound_refusals g.unbound h.unbound calm))
          (calm-right a.unbound_refusals b.unbound_refusals c.unbound_refusals g.unbound h.unbound calm);
      view = λ u mine es m calm.
          let left = calm-first u a b c g h calm in
          sym (settled-turns u mine c none) ∙ (t.view u mine es (f.mine u mine es m left.unbound) (calm-then u a b c g h calm) ∙ f.view u mine es m left);
    }

-- 4. A piece that nobody takes

-- on a number that is not open nothing changes
pub step-not_open : (b : BrokerState) (n : ℕ) (piece : List ℕ) → IsReady b → AllByRecursion (λ l. l.number ≢ n) b.lines → IsStep (Comes n piece) b b
step-not_open b n piece r none = record {
  last = omega arith;
  grows = grows-same b;
  counted = record { own = λ t ne. refl; unbound = λ t e. refl; none = λ u. record { own = λ t. refl; unbound = refl } };
  mine = λ t mine es m q. record { now = comes-none b.setup t n mine piece es b.lines none m.now; later = m.later };
  view = λ t mine es m q. by t mine (mine n);
}
  where
    by : (t : ℕ) (mine : ℕ → Bool) (yes : Bool) → view_of t mine b ≡ stepped yes (Comes n piece) (view_of t mine b)
    by t mine true =
        let v = view_of t mine b in
        let gone = all-those _ mine b.lines none in
        sym (ap (λ o. turns (record v { kept = kept_fed piece b.clock n o v.kept; lines = each_line (on n (fed piece)) (those mine b.lines) })) (find-none n (those mine b.lines) gone)
        ∙ (ap (λ x. turns (with_lines v x)) (each-on_none n (fed piece) (those mine b.lines) gone) ∙ settled-turns t mine b r.settled))
    by t mine false = refl

pub fed-nothing : (s : Session) → fed [] s ≡ s
unfolding fed
fed-nothing s = by s s.shut refl
  where
    by : (s : Session) (b : Bool) → s.shut ≡ b → cond s.shut s (cond (nat_lt (room s) 0) (shut_down causes.Overrun s) (record s { unread = s.unread ++ [] })) ≡ s
    by s true e = grind (arith, nat_tests, e)
    by s false e = let f = append-nil s.unread in let no : nat_lt (room s) 0 ≡ false = grind (arith, nat_tests) in rw (e, no) (ap (λ u. record s { unread = u; shut = false }) f)

pub fed-shut : (piece : List ℕ) (s : Session) → s.shut ≡ true → fed piece s ≡ s
unfolding fed
fed-shut piece s e = grind (arith, e)

-- a piece that leaves the connection as it was
pub step-same : (b : BrokerState) (i : ℕ) (l : Line) (piece : List ℕ) → IsReady b → IsAt b.lines i l → fed piece l.session ≡ l.session → overruns piece l.session ≡ false → IsStep (Comes l.number piece) b b
step-same b i l piece r at e fits =
    let f = fed-kept b i l l piece b.tenants r.sound r.settled at refl (sym e) (sym (ap (λ (x : Bool). cond x (left_by b.clock l.number l.session.stage b.tenants) b.tenants) fits)) in
    let same : set b.lines i l ≡ b.lines = ap (set b.lines i) at.here ∙ set-get_or b.lines i l in
    record {
      last = omega arith;
      grows = grows-same b;
      counted = record { own = λ t ne. refl; unbound = λ t g. refl; none = λ u. record { own = λ t. refl; unbound = refl } };
      mine = λ t mine es m q. subst (OwnsLines b.setup t mine b.last es) same (f.mine t mine es m q);
      view = λ t mine es m q. sym (settled-turns t mine b r.settled) ∙ (ap (λ x. turns (with_lines (view_of t mine b) (those mine x))) (sym same) ∙ f.view t mine es m (record { own = q.own; unbound = q.unbound }));
    }

pub step-nothing : (b : BrokerState) (i : ℕ) (l : Line) → IsReady b → IsAt b.lines i l → IsStep (Comes l.number []) b b
step-nothing b i l r at = step-same b i l [] r at (fed-nothing l.session) (grind (arith, nat_tests))

pub step-shut : (b : BrokerState) (i : ℕ) (l : Line) (piece : List ℕ) → IsReady b → IsAt b.lines i l → l.session.shut ≡ true → IsStep (Comes l.number piece) b b
step-shut b i l piece r at e = step-same b i l piece r at (fed-shut piece l.session e) (grind (arith, e))
