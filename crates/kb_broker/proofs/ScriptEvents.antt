-- Each event of a script on a broker.
use Rattle.std.proofs.Common.{◌≡◌, ◌==◌, ℕ, zero, suc, ◌<◌, ◌&&◌, Bool, true, not, List, [], ◌∷◌, ◌++◌, refl, sym, ap, subst, ◌∙◌, Option, Some, None, Result, Ok, Err, OnOk, OnErr, IfErr, cond}
use Rattle.std.specs.Io.KnownBytes.{Appends}
use Rattle.std.proofs.KnownBytes.{Appends-nil}
use Rattle.kb_tenant_api.specs.Hosted.{Kept, TenantState, kept_of, left}
use Rattle.kb_tenant_api.specs.Turns.{with_kept, all_calm}
use Rattle.kb_isolation_spec.specs.Session.{Session}
use Rattle.kb_isolation_spec.specs.Machine.{Happening, Opens, Comes, Closes, Moment}
use Rattle.kb_isolation_spec.specs.Broker.{BrokerState, IsReady, IsStep}
use Rattle.kb_isolation_spec.specs.Machine.{find_line}
use Rattle.kb_isolation_spec.specs.Calls.{opened, closed, left_in, output_taken, is_calm, is_shut, output_of}
use Rattle.kb_isolation_spec.specs.Turned.{SameOthers}
use Rattle.kb_isolation_spec.proofs.Steps.{sound-opened, settled-opened, unready-opened, step-opened, sound-closed, settled-closed, unready-closed, step-closed}
use Rattle.kb_broker.specs.declared.script.ScriptFault.{ScriptFault}
use Rattle.kb_broker.specs.declared.script.ScriptFault.TheVariants as faults
use Rattle.kb_broker.specs.Places.{numbers}
use Rattle.kb_broker.specs.Script.{Told, Event, Plays, Stops, here, is_in_place, course_of, sent_text, step_text}
use Rattle.kb_broker.specs.ScriptRun.{IsQuiet, hushed, Happens, HappensSilently, IsSpoken, IsUnwritten, IsLinePlayed, IsBroken, words, shut_marks, said_since}
use Rattle.kb_broker.proofs.Left.{left-cases}
use Rattle.kb_broker.proofs.ScriptWords.{silent-opened, silent-closed, silent-same, quiet-opened, quiet-closed, quiet-same, said-one, taken-hushed, hushed-quiet, open-opened, open-closed, open-stays}
use Rattle.kb_broker.proofs.ScriptSaid.{words-since}

pub opens-silently : (b new : BrokerState) (n : ℕ) → IsReady b → IsQuiet b → is_calm b ≡ true → b.last < n → new ≡ opened b n → HappensSilently (Opens n) b new
opens-silently b new n ready quiet calm above is =
    subst (λ x. HappensSilently (Opens n) b x) (sym is) (record {
      happens = record { step = step-opened b n above; ready = record { sound = sound-opened b n ready.sound above; settled = settled-opened b n ready.settled; unready = unready-opened b n ready.unready }; calm = calm; stands = record { open_now = λ k. open-opened b n k; last = refl } };
      quiet = quiet-opened b n quiet;
      silent = silent-opened b n ready.sound.rising quiet;
    })

-- nothing is counted
calm-with : (t : ℕ) (k : Kept) (ts : List TenantState) → all_calm (with_kept t k ts) ≡ all_calm ts
unfolding with_kept
calm-with t k [] = refl
calm-with zero k (x ∷ xs) = refl
calm-with (suc t) k (x ∷ xs) = ap (λ c. x.refusals == 0 && c) (calm-with t k xs)

calm-left : (clock n : ℕ) (o : Option Session) (ts : List TenantState) → all_calm (left_in clock n o ts) ≡ all_calm ts
calm-left clock n None ts = refl
calm-left clock n (Some s) ts = left-cases (λ us. all_calm us ≡ all_calm ts) clock n s.stage ts refl (λ t. calm-with t (left clock n (kept_of ts t)) ts)

calm-closed : (b : BrokerState) (n : ℕ) → is_calm b ≡ true → is_calm (closed b n) ≡ true
calm-closed b n calm = ap (λ c. b.unbound_refusals == 0 && c) (calm-left b.clock n (find_line n b.lines) b.tenants) ∙ calm

pub closes-silently : (b new : BrokerState) (n : ℕ) → IsReady b → IsQuiet b → is_calm b ≡ true → new ≡ closed b n → HappensSilently (Closes n) b new
closes-silently b new n ready quiet calm is =
    subst (λ x. HappensSilently (Closes n) b x) (sym is) (record {
      happens = record { step = step-closed b n; ready = record { sound = sound-closed b n ready.sound; settled = settled-closed b n ready.settled; unready = unready-closed b n ready.unready }; calm = calm-closed b n calm; stands = record { open_now = λ k. open-closed b n k; last = refl } };
      quiet = quiet-closed b n quiet;
      silent = silent-closed b n ready.sound.rising quiet;
    })

-- a piece came, or a moment passed
pub comes : (b new : BrokerState) (n : ℕ) (piece : List ℕ) → IsStep (Comes n piece) b new → IsReady new → is_calm new ≡ true → new.last ≡ b.last → numbers new ≡ numbers b → Happens (Comes n piece) b new
comes b new n piece step ready calm last same = record { step = step; ready = ready; calm = calm; stands = record { open_now = λ k. open-stays k b new same; last = sym last } }

pub passes : (b new : BrokerState) (now : ℕ) → IsStep (Moment now) b new → IsReady new → is_calm new ≡ true → new.last ≡ b.last → numbers new ≡ numbers b → Happens (Moment now) b new
passes b new now step ready calm last same = record { step = step; ready = ready; calm = calm; stands = record { open_now = λ k. open-stays k b new same; last = sym last } }

-- where no connection has changed, nothing is said
pub silently : (e : Happening) (b new : BrokerState) → Happens e b new → IsQuiet b → ((k : ℕ) → find_line k new.lines ≡ find_line k b.lines) → HappensSilently e b new
silently e b new happens quiet same = record {
  happens = happens;
  quiet = quiet-same b new happens.ready.sound.rising quiet same;
  silent = silent-same b new happens.ready.sound.rising quiet same;
}

-- the text that was made of a connection is what the broker said
pub text-is : (b new : BrokerState) (n : ℕ) (text output : List ℕ) (shut : Bool) → IsReady new → IsQuiet b → SameOthers n b new → text ≡ sent_text n output shut → output ≡ output_of n new → shut ≡ (is_shut n new && not (is_shut n b)) → text ≡ words b new
text-is b new n text output shut ready quiet others is got closed = is ∙ ap (λ o. sent_text n o shut) got ∙ ap (sent_text n (output_of n new)) closed ∙ sym (said-one n b new ready.sound.rising quiet others)

pub final-is : (b new final : BrokerState) (n : ℕ) → IsReady new → IsQuiet b → SameOthers n b new → final ≡ output_taken new n → final ≡ hushed new
final-is b new final n ready quiet others is = is ∙ taken-hushed n b new ready.sound.rising quiet others

-- a silent event, as one that was written
pub spoken-silently : (e : Happening) (b new : BrokerState) (w : Option (List ℕ)) → HappensSilently e b new → IsSpoken e b new w w
spoken-silently e b new w h = (new, h.happens, hushed-quiet new h.quiet, subst (Appends w w) (sym h.silent) (Appends-nil w))

-- an event whose words were written, or not
pub spoken : {A E : Type 0} (r : Result A E) (e : Happening) (b new final : BrokerState) (marks : List Bool) (from to : Option (List ℕ)) → IsReady b → Happens e b new → numbers new ≡ numbers b → marks ≡ shut_marks b.lines
    → OnOk r (final ≡ hushed new) → OnOk r (Appends from to (step_text (said_since marks new.lines))) → OnOk r (IsSpoken e b final from to)
spoken (Ok x) e b new final marks from to ready happens same is state wrote = (new, happens, state, subst (Appends from to) (words-since b new marks ready.sound.rising same is) wrote)
spoken (Err x) e b new final marks from to ready happens same is state wrote = tt

broken-off : (fault : ScriptFault) (e : Happening) (b new : BrokerState) (marks : List Bool) (from to : Option (List ℕ)) → IsReady b → Happens e b new → numbers new ≡ numbers b → marks ≡ shut_marks b.lines
    → IsUnwritten fault (step_text (said_since marks new.lines)) from to → IsBroken (Plays e) fault b from to
broken-off (faults.BadLine k) e b new marks from to ready happens same is h = absurd h
broken-off faults.TooLong e b new marks from to ready happens same is h = absurd h
broken-off faults.Read e b new marks from to ready happens same is h = absurd h
broken-off faults.Write e b new marks from to ready happens same is h = (e, refl, (new, happens, h.0, h.1, sym (words-since b new marks ready.sound.rising same is) ∙ h.2, h.3))
broken-off faults.Memory e b new marks from to ready happens same is h = h

pub unspoken : {A : Type 0} (r : Result A ScriptFault) (e : Happening) (b new : BrokerState) (marks : List Bool) (from to : Option (List ℕ)) → IsReady b → Happens e b new → numbers new ≡ numbers b → marks ≡ shut_marks b.lines
    → IfErr r (λ fault. IsUnwritten fault (step_text (said_since marks new.lines)) from to) → IfErr r (λ fault. IsBroken (Plays e) fault b from to)
unspoken (Ok x) e b new marks from to ready happens same is h = tt
unspoken (Err fault) e b new marks from to ready happens same is h = broken-off fault e b new marks from to ready happens same is h

-- a line, by what it says
course-plays : (number : ℕ) (b : BrokerState) (t : Told) (e : Happening) → t ≡ Event e → is_in_place (here b) e ≡ true → course_of number (here b) t ≡ Plays e
course-plays number b t e is placed = ap (course_of number (here b)) is ∙ ap (λ a. cond a (Plays e) (Stops (faults.BadLine number))) placed

pub on-any : {A E : Type 0} (r : Result A E) (P : Type 0) → P → OnOk r P
on-any (Ok x) P h = h
on-any (Err e) P h = tt

pub on-ok : {A E : Type 0} (r : Result A E) (P Q : Type 0) → (P → Q) → OnOk r P → OnOk r Q
on-ok (Ok x) P Q f h = f h
on-ok (Err e) P Q f h = tt

pub if-err : {A E : Type 0} (r : Result A E) (P Q : E → Type 0) → ((e : E) → P e → Q e) → IfErr r P → IfErr r Q
if-err (Ok x) P Q f h = tt
if-err (Err e) P Q f h = f e h

pub if-err-both : {A E : Type 0} (r : Result A E) (P Q : E → Type 0) {S : Type 0} → ((e : E) → P e → S → Q e) → IfErr r P → OnErr r S → IfErr r Q
if-err-both (Ok x) P Q f h s = tt
if-err-both (Err e) P Q f h s = f e h s

pub done-silently : {A E : Type 0} (r : Result A E) (number : ℕ) (b new : BrokerState) (t : Told) (e : Happening) (w : Option (List ℕ)) → t ≡ Event e → is_in_place (here b) e ≡ true → OnOk r (HappensSilently e b new)
    → OnOk r (IsLinePlayed (course_of number (here b) t) b new w w)
done-silently r number b new t e w is placed h =
    on-ok r (HappensSilently e b new) (IsLinePlayed (course_of number (here b) t) b new w w)
    (λ s. subst (λ k. IsLinePlayed k b new w w) (sym (course-plays number b t e is placed)) (spoken-silently e b new w s)) h

-- the writer failed
pub cut-off : {A : Type 0} (r : Result A ScriptFault) (e : Happening) (b new : BrokerState) (text : List ℕ) (from to : Option (List ℕ)) → Happens e b new → text ≡ words b new → IfErr r (λ fault. fault ≡ faults.Write)
    → OnErr r ((front : List ℕ) × (rest : List ℕ) × (text ≡ front ++ rest) × Appends from to front) → IfErr r (λ fault. IsBroken (Plays e) fault b from to)
cut-off (Ok x) e b new text from to h is fault front = tt
cut-off (Err f) e b new text from to h is fault front =
    subst (λ x. IsBroken (Plays e) x b from to) (sym fault) (e, refl, (new, h, front.0, front.1, sym is ∙ front.2, front.3))
