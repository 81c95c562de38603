-- What a broker says in a run is what the machines of its tenants say.
use Rattle.std.proofs.Common.{◌≡◌, ℕ, zero, suc, ◌&&◌, Bool, true, false, not, cond, eqb, List, [], ◌∷◌, ◌++◌, length, map, refl, sym, ap, subst, ◌∙◌, arith, lit<, Some, append_assoc, append-nil}
use Rattle.std.specs.List.{AllByRecursion}
use Rattle.std.proofs.lemmas.Bool.Decides.{nat_tests}
use Rattle.kb_isolation_spec.specs.Machine.{Happening, Line, Sent, View, those, those_sent, stepped}
use Rattle.kb_isolation_spec.specs.Owners.{concerns}
use Rattle.kb_isolation_spec.specs.Machine.{find_line}
use Rattle.kb_tenant_state.specs.Counts.{IsCalm}
use Rattle.kb_tenant_api.specs.Hosted as hosted
use Rattle.kb_tenant_api.specs.Hosted.{TenantState}
use Rattle.kb_tenant_api.specs.Turns.{all_calm}
use Rattle.kb_isolation_spec.specs.Broker.{BrokerState, IsSound, IsCalmFor, Mine, Rising, view_of, refusals_of, owned_by, only}
use Rattle.kb_isolation_spec.specs.Calls.{is_calm, without_output, shut_in}
use Rattle.kb_isolation_spec.specs.Told.{said, quieted, tell, RisesAbove, Tells}
use Rattle.kb_isolation_spec.proofs.Laws.{those-each}
use Rattle.kb_isolation_spec.proofs.Owned.{owned-mine, unowned-mine}
use Rattle.kb_broker.specs.Script.{step_text, script_text}
use Rattle.kb_broker.specs.ScriptRun.{Happens, hushed}
use Rattle.kb_broker.proofs.ScriptHush.{mine-hushed}

-- 1. A run: what was said at each event, and all of it was taken

abbrev pub Runs : BrokerState → List Happening → List (List Sent) → BrokerState → Type 0
Runs b [] [] c = c ≡ b
Runs b [] (s ∷ ss) c = ⊥
Runs b (e ∷ es) [] c = ⊥
Runs b (e ∷ es) (s ∷ ss) c = (new : BrokerState) × Happens e b new × (s ≡ said b.lines new.lines) × Runs (hushed new) es ss c

-- one event more
pub runs-more : (e : Happening) (a b new : BrokerState) (es : List Happening) (steps : List (List Sent)) → Runs a es steps b → Happens e b new → Runs a (es ++ e ∷ []) (steps ++ said b.lines new.lines ∷ []) (hushed new)
runs-more e a b new [] [] r h = (new, subst (λ x. Happens e x new) r h, ap (λ (x : BrokerState). said x.lines new.lines) r, refl)
runs-more e a b new [] (s ∷ ss) r h = absurd r
runs-more e a b new (f ∷ es) [] r h = absurd r
runs-more e a b new (f ∷ es) (s ∷ ss) r h = (r.0, r.1, r.2, runs-more e (hushed r.0) b new es ss r.3 h)

pub text-more : (steps : List (List Sent)) (step : List Sent) → script_text (steps ++ step ∷ []) ≡ script_text steps ++ step_text step
text-more [] step = append-nil (step_text step)
text-more (s ∷ ss) step = ap (λ x. step_text s ++ x) (text-more ss step) ∙ sym (append_assoc (step_text s) (script_text ss) (step_text step))

-- 2. Nothing was refused

both_true : (a b : Bool) → (a && b) ≡ true → (a ≡ true) × (b ≡ true)
both_true true true e = (refl, refl)
both_true true false e = cc
both_true false b e = cc

calm-at : (ps : List TenantState) (t : ℕ) → all_calm ps ≡ true → hosted.refusals_of ps t ≡ 0
calm-at [] t e = refl
calm-at (p ∷ ps) zero e = let both = both_true (eqb p.refusals 0) (all_calm ps) e in let first = both.0 in grind (arith, nat_tests, first)
calm-at (p ∷ ps) (suc t) e = calm-at ps t (both_true (eqb p.refusals 0) (all_calm ps) e).1

calm-own : (b : BrokerState) (t : ℕ) → is_calm b ≡ true → refusals_of b t ≡ 0
calm-own b t e = calm-at b.tenants t (both_true (eqb b.unbound_refusals 0) (all_calm b.tenants) e).1

calm-unbound : (b : BrokerState) → is_calm b ≡ true → b.unbound_refusals ≡ 0
calm-unbound b e = let first = (both_true (eqb b.unbound_refusals 0) (all_calm b.tenants) e).0 in grind (arith, nat_tests, first)

calm_zeros : (x y : ℕ) → x ≡ 0 → y ≡ 0 → IsCalm x y
calm_zeros x y e f = record { same = f ∙ sym e; below = rw e (lit< tt) }

calm-for : (t : ℕ) (a b : BrokerState) → is_calm a ≡ true → is_calm b ≡ true → IsCalmFor t a b
calm-for t a b p q = record {
  own = calm_zeros (refusals_of a t) (refusals_of b t) (calm-own a t p) (calm-own b t q);
  unbound = calm_zeros a.unbound_refusals b.unbound_refusals (calm-unbound a p) (calm-unbound b q);
}

-- 3. What is said to some connections

find-those : (mine : ℕ → Bool) (k : ℕ) (ls : List Line) → mine k ≡ true → find_line k (those mine ls) ≡ find_line k ls
find-those mine k [] m = refl
find-those mine k (l ∷ ls) m = by (mine l.number) refl (eqb l.number k) refl (find-those mine k ls m)
  where
    by : (a : Bool) → mine l.number ≡ a → (b : Bool) → eqb l.number k ≡ b → find_line k (those mine ls) ≡ find_line k ls
        → find_line k (cond a (l ∷ those mine ls) (those mine ls)) ≡ cond b (Some l.session) (find_line k ls)
    by true e true f rest = rw f refl
    by true e false f rest = rw f rest
    by false e true f rest = let is : l.number ≡ k = grind (arith, nat_tests) in cc (sym e ∙ ap mine is ∙ m)
    by false e false f rest = rest

those-said : (mine : ℕ → Bool) (old ls : List Line) → those_sent mine (said old ls) ≡ said (those mine old) (those mine ls)
those-said mine old [] = refl
those-said mine old (l ∷ ls) = by (mine l.number) refl (those-said mine old ls)
  where
    by : (a : Bool) → mine l.number ≡ a → those_sent mine (said old ls) ≡ said (those mine old) (those mine ls) → cond a (record { number = l.number; bytes = l.session.output; shut = l.session.shut && not (shut_in (find_line l.number old)); why = l.session.why } ∷ those_sent mine (said old ls)) (those_sent mine (said old ls))
        ≡ said (those mine old) (cond a (l ∷ those mine ls) (those mine ls))
    by true e rest = rw (find-those mine l.number old e) (ap (λ x. record { number = l.number; bytes = l.session.output; shut = l.session.shut && not (shut_in (find_line l.number old)); why = l.session.why } ∷ x) rest)
    by false e rest = rest

view-hushed : (t : ℕ) (mine : ℕ → Bool) (b : BrokerState) → view_of t mine (hushed b) ≡ quieted (view_of t mine b)
view-hushed t mine b = ap (λ x. record (view_of t mine b) { lines = x }) (those-each mine (λ k s. without_output s) b.lines)

-- 4. Whole runs

tells : (t : ℕ) (mine : ℕ → Bool) (b c : BrokerState) (es : List Happening) (steps : List (List Sent)) → Runs b es steps c → is_calm b ≡ true → Mine t mine es b
    → map (those_sent mine) steps ≡ tell mine es (view_of t mine b)
tells t mine b c [] [] r calm m = refl
tells t mine b c [] (s ∷ ss) r calm m = absurd r
tells t mine b c (e ∷ es) [] r calm m = absurd r
tells t mine b c (e ∷ es) (s ∷ ss) r calm m =
    let new = r.0 in
    let happens = r.1 in
    let quiet = calm-for t b new calm happens.calm in
    let view : view_of t mine new ≡ stepped (concerns mine e) e (view_of t mine b) = happens.step.view t mine es m quiet in
    let owns : Mine t mine es new = happens.step.mine t mine es m quiet.unbound in
    let head : those_sent mine s ≡ said (view_of t mine b).lines (stepped (concerns mine e) e (view_of t mine b)).lines =
    ap (those_sent mine) r.2 ∙ those-said mine b.lines new.lines ∙ ap (λ (w : View). said (view_of t mine b).lines w.lines) view in
    let tail : map (those_sent mine) ss ≡ tell mine es (quieted (stepped (concerns mine e) e (view_of t mine b))) =
    tells t mine (hushed new) c es ss r.3 happens.calm (mine-hushed t mine es new owns) ∙ ap (tell mine es) (view-hushed t mine new ∙ ap quieted view) in
    ap (λ x. x ∷ map (those_sent mine) ss) head ∙ ap (λ x. said (view_of t mine b).lines (stepped (concerns mine e) e (view_of t mine b)).lines ∷ x) tail

-- at each event the connections come by rising number
rises-said : (low last : ℕ) (old ls : List Line) → Rising low last ls → RisesAbove low (said old ls)
rises-said low last old [] r = tt
rises-said low last old (l ∷ ls) r = (r.0, rises-said l.number last old ls r.1)

rises-runs : (b c : BrokerState) (es : List Happening) (steps : List (List Sent)) → Runs b es steps c → AllByRecursion (λ step. RisesAbove 0 step) steps
rises-runs b c [] [] r = tt
rises-runs b c [] (s ∷ ss) r = absurd r
rises-runs b c (e ∷ es) [] r = absurd r
rises-runs b c (e ∷ es) (s ∷ ss) r = (subst (RisesAbove 0) (sym r.2) (rises-said 0 r.0.last b.lines r.0.lines r.1.ready.sound.rising), rises-runs (hushed r.0) c es ss r.3)

-- to each tenant, and to each connection without owner, the broker said what their machine says
pub runs-tell : (b c : BrokerState) (es : List Happening) (steps : List (List Sent)) → Runs b es steps c → is_calm b ≡ true → IsSound b → Tells b es steps
runs-tell b c es steps r calm sound = record {
  owned = λ t. tells t (owned_by t es b) b c es steps r calm (owned-mine t es b sound.rising);
  unowned = λ n none. tells (length b.tenants) (only n) b c es steps r calm (unowned-mine n es b sound none);
  in_order = rises-runs b c es steps r;
}
