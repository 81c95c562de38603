-- What the public laws say, where no lemma beside has it yet.
use Rattle.std.proofs.Common.{◌≡◌, ◌∙◌, ◌≤◌, ℕ, ℤ, zero, suc, List, ◌++◌, length, Bool, true, false, cond, nat_lt, Option, Some, None, Result, Err, refl, sym, ap, arith}
use Rattle.std.proofs.lemmas.Bool.Decides.{nat_tests}
use Rattle.std.proofs.lemmas.List.{length-append}
use Rattle.kb_api_group.specs.Frames.{Whole}
use Rattle.kb_isolation_spec.specs.declared.shut.Shut.TheVariants as causes
use Rattle.kb_isolation_spec.specs.declared.head.Head.{Head}
use Rattle.kb_isolation_spec.specs.declared.login.Known.{Known}
use Rattle.kb_isolation_spec.specs.declared.login.Login.TheVariants as logins
use Rattle.kb_isolation_spec.specs.Session.{Stage, Bare, Greets, BoundTo, Session, unread_limit, room, without_wait, shut_down, fed, has_member, overruns, in_front}
use Rattle.kb_isolation_spec.specs.Requests.{Another, Authenticate}
use Rattle.kb_coordinator.specs.Calls as groups
use Rattle.kb_tenant_api.specs.Hosted.{Kept, left}
use Rattle.kb_isolation_spec.specs.Greeting.{Setup, greeted, greeted_by, greeted_at, logged_in, bare_login, failed, failed_reply, login}
use Rattle.kb_isolation_spec.specs.Machine.{View, Closes, Line, find_line, first_able, turn, turns, again, work, after_turn, kept_without, kept_closed, kept_fed, step}
use Rattle.kb_isolation_spec.specs.Owners.{whose}
use Rattle.kb_isolation_spec.proofs.Laws.{login-replied, work-turn, again-none}
use Rattle.kb_isolation_spec.proofs.Owners.{stage-served}

fed_by : (shut over : Bool) (piece : List ℕ) (s : Session) → s.shut ≡ shut → nat_lt (room s) (length piece) ≡ over → length s.unread ≤ unread_limit s.limit → length (cond shut s (cond over (shut_down causes.Overrun s) (record s { unread = s.unread ++ piece }))).unread ≤ unread_limit s.limit
fed_by true over piece s e o h = h
fed_by false true piece s e o h = omega arith
fed_by false false piece s e o h = let fits : length piece ≤ room s = grind (arith, nat_tests, o) in let long = length-append s.unread piece in omega (arith, h, fits, long)

pub fed-limit : (piece : List ℕ) (s : Session) → length s.unread ≤ unread_limit s.limit → length (fed piece s).unread ≤ unread_limit s.limit
unfolding fed
fed-limit piece s h = fed_by s.shut (nat_lt (room s) (length piece)) piece s refl refl h

pub fed-shut : (piece : List ℕ) (s : Session) → s.shut ≡ true → fed piece s ≡ s
unfolding fed
fed-shut piece s e = ap (λ (b : Bool). cond b s (cond (nat_lt (room s) (length piece)) (shut_down causes.Overrun s) (record s { unread = s.unread ++ piece }))) e

pub another-shuts : (setup : Setup) (h : Bool) (head : Head) (key version : ℤ) (body : List ℕ) (s : Session) → greeted_by setup h head (Another key version body) s ≡ shut_down (causes.NotLoggedIn head.api_key head.api_version) s
unfolding greeted_by
another-shuts setup h head key version body s = refl

pub denied-shuts : (setup : Setup) (head : Head) (message name : List ℕ) (s : Session) → login setup.users message ≡ Err name → let after : Session = greeted_by setup true head (Authenticate message) s in (after.shut ≡ true) × (after.login ≡ logins.Failed name)
unfolding greeted_by
denied-shuts setup head message name s e =
    let is = ap (λ (o : Result Known (List ℕ)). logged_in o head s) e in
    (ap (λ (x : Session). x.shut) is, ap (λ (x : Session). x.login) is ∙ login-replied head failed_reply (failed name s))

pub bare-shuts : (setup : Setup) (frame rest name : List ℕ) (s : Session) → in_front s ≡ Whole frame rest → login setup.users frame ≡ Err name → greeted setup Bare s ≡ shut_down causes.Denied (failed name s)
unfolding greeted
bare-shuts setup frame rest name s at e = ap (greeted_at setup Bare s) at ∙ ap (λ (o : Result Known (List ℕ)). bare_login o (record s { unread = rest })) e

whose-without_wait : (st : Stage) → whose (without_wait st) ≡ whose st
whose-without_wait (Greets h) = refl
whose-without_wait (BoundTo t w) = refl

pub whose-served : (setup : Setup) (kept : Kept) (clock n tenant : ℕ) (s : Session) → whose s.stage ≡ Some tenant → whose (after_turn setup kept clock n s).stage ≡ Some tenant
whose-served setup kept clock n tenant s e = sym (whose-without_wait (after_turn setup kept clock n s).stage) ∙ ap whose (stage-served setup kept clock n s) ∙ whose-without_wait s.stage ∙ e

settled_by : (n : ℕ) (w : View) (o : Option Line) → first_able w.lines ≡ o → work w.lines ≤ n → first_able (again turn n w).lines ≡ None
settled_by n w None h p = ap (λ (v : View). first_able v.lines) (again-none n w h) ∙ h
settled_by zero w (Some l) h p = absurd (omega (arith, work-turn w l h))
settled_by (suc n) w (Some l) h p = let lt = work-turn w l h in settled_by n (turn w) (first_able (turn w).lines) refl (omega (arith, lt, p))

-- so many turns as there are unread bytes, or more
pub again-settled : (n : ℕ) (w : View) → work w.lines ≤ n → first_able (again turn n w).lines ≡ None
again-settled n w enough = settled_by n w (first_able w.lines) refl enough

pub turns-settled : (w : View) → first_able (turns w).lines ≡ None
unfolding turns
turns-settled w = settled_by (work w.lines) w (first_able w.lines) refl (omega arith)

-- a connection is gone, on which a member waited or not
gone-groups : (clock n : ℕ) (stage : Stage) (kept : Kept) → has_member stage ≡ true → (kept_without clock n stage kept).groups ≡ groups.left clock n kept.groups
unfolding left
gone-groups clock n stage kept waits = ap (λ (b : Bool). let k : Kept = cond b (left clock n kept) kept in k.groups) waits

pub closed-groups : (n : ℕ) (s : Session) (w : View) → find_line n w.lines ≡ Some s → has_member s.stage ≡ true → (step (Closes n) w).kept.groups ≡ groups.left w.clock n w.kept.groups
closed-groups n s w found waits = ap (λ o. (kept_closed w.clock n o w.kept).groups) found ∙ gone-groups w.clock n s.stage w.kept waits

pub closed-others : (n : ℕ) (s : Session) (w : View) → find_line n w.lines ≡ Some s → has_member s.stage ≡ false → (step (Closes n) w).kept ≡ w.kept
closed-others n s w found none = ap (λ o. kept_closed w.clock n o w.kept) found ∙ ap (λ (b : Bool). cond b (left w.clock n w.kept) w.kept) none

pub overrun-groups : (n : ℕ) (piece : List ℕ) (s : Session) (w : View) → find_line n w.lines ≡ Some s → has_member s.stage ≡ true → overruns piece s ≡ true
    → (fed piece s ≡ shut_down causes.Overrun s) × ((kept_fed piece w.clock n (find_line n w.lines) w.kept).groups ≡ groups.left w.clock n w.kept.groups)
unfolding fed
overrun-groups n piece s w found waits over =
    let open_still : s.shut ≡ false = grind (arith, over) in
    let long : nat_lt (room s) (length piece) ≡ true = grind (arith, over) in (
      ap (λ (b : Bool). cond b s (cond (nat_lt (room s) (length piece)) (shut_down causes.Overrun s) (record s { unread = s.unread ++ piece }))) open_still
          ∙ ap (λ (b : Bool). cond b (shut_down causes.Overrun s) (record s { unread = s.unread ++ piece })) long,
      ap (λ o. (kept_fed piece w.clock n o w.kept).groups) found
          ∙ (ap (λ (b : Bool). let k : Kept = cond b (kept_without w.clock n s.stage w.kept) w.kept in k.groups) over
          ∙ gone-groups w.clock n s.stage w.kept waits),
    )
