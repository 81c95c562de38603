-- A session that goes to and fro.
use Rattle.std.proofs.Common.{◌≡◌, ◌∙◌, ◌++◌, ℕ, List, [], ◌∷◌, ℤ, Option, Some, None, Result, Ok, Err, refl, sym, ap, subst, append_assoc, append-nil}
use Rattle.std.specs.Prelude.{IfErr, IfOk, IsErrAnd}
use Rattle.std.specs.List.{concat}
use Rattle.std.specs.Io.KnownBytes.{Appends, Consumes}
use Rattle.std.proofs.KnownBytes.{Appends-nil, Appends-trans, Consumes-nil, Consumes-trans}
use Rattle.kb_admin.specs.declared.fault.AdminFault.{AdminFault}
use Rattle.kb_admin.specs.declared.fault.AdminFault.TheVariants as admin
use Rattle.kb_admin.specs.declared.session.Heard.{Heard}
use Rattle.kb_admin.specs.declared.session.Heard.TheVariants as hears
use Rattle.kb_admin.specs.Session.{Session, asked_text, moved, Comes}
use Rattle.kb_topic_command.specs.declared.fault.TopicFault.{TopicFault}
use Rattle.kb_topic_command.specs.declared.fault.TopicFault.TheVariants as faults
use Rattle.kb_topic_command.specs.Exchange.{heard_from, session_after, next_text, after_all, sent_after, IsPending, ArePending, Answers, Receives, Waits, Steps, BlamesBroker}
use Rattle.kb_topic_command.specs.Faults.{of_admin}
use Rattle.kb_topic_command.specs.Meaning.{meaning}
use Rattle.kb_topic_command.specs.Telling.{ExplainsCode, Explains, IsAnswered, TellsFault}

-- ---- one more piece

after_more : (ps : List (List ℕ)) (p : List ℕ) (s : Session) → after_all (ps ++ p ∷ []) s ≡ session_after p (after_all ps s)
after_more [] p s = refl
after_more (q ∷ ps) p s = after_more ps p (session_after q s)

sent_more : (ps : List (List ℕ)) (p : List ℕ) (s : Session)
    → sent_after (ps ++ p ∷ []) s ≡ sent_after ps s ++ next_text (heard_from p (after_all ps s)) (session_after p (after_all ps s))
sent_more [] p s = append-nil (next_text (heard_from p s) (session_after p s))
sent_more (q ∷ ps) p s =
    let here = next_text (heard_from q s) (session_after q s) in
    let t = session_after q s in
    ap (λ x. here ++ x) (sent_more ps p t)
    ∙ sym (append_assoc here (sent_after ps t) (next_text (heard_from p (after_all ps t)) (session_after p (after_all ps t))))

came_more : (ps : List (List ℕ)) (p : List ℕ) → concat (ps ++ p ∷ []) ≡ concat ps ++ p
came_more [] p = append-nil p
came_more (q ∷ ps) p = ap (λ x. q ++ x) (came_more ps p) ∙ sym (append_assoc q (concat ps) p)

came_all : (ps qs : List (List ℕ)) → concat (ps ++ qs) ≡ concat ps ++ concat qs
came_all [] qs = refl
came_all (p ∷ ps) qs = ap (λ x. p ++ x) (came_all ps qs) ∙ sym (append_assoc p (concat ps) (concat qs))

pending_all : (ps qs : List (List ℕ)) (s : Session) → ArePending ps s → ArePending qs (after_all ps s) → ArePending (ps ++ qs) s
pending_all [] qs s a b = b
pending_all (p ∷ ps) qs s a b = (a.0, pending_all ps qs (session_after p s) a.1 b)

-- ---- on its way

-- It took some pieces, none of which ends it, and sent each request that they call for.
pub record Goes (old : Session) (from to before behind : Option (List ℕ)) (s : Session) : Type 0 where
  pub pieces : List (List ℕ)
  pub came : Consumes from to (concat pieces)
  pub on : ArePending pieces old
  pub sent : Appends before behind (asked_text old.stage old ++ sent_after pieces old)
  pub now : s ≡ after_all pieces old

pub goes_first : (s : Session) (from before behind : Option (List ℕ)) → Appends before behind (asked_text s.stage s) → Goes s from from before behind s
goes_first s from before behind sent = record {
  pieces = [];
  came = Consumes-nil from;
  on = tt;
  sent = subst (λ x. Appends before behind x) (sym (append-nil (asked_text s.stage s))) sent;
  now = refl;
}

-- a piece comes, and a text is sent that it calls for
goes_sent : (old s new : Session) (answer : Result Heard AdminFault) (from to on before behind beyond : Option (List ℕ)) (text : List ℕ)
    → Goes old from to before behind s → Receives s answer to on new → IsPending answer → text ≡ next_text answer new → Appends behind beyond text
    → Goes old from on before beyond new
goes_sent old s new answer from to on before behind beyond text g h pending is sent =
    let first = asked_text old.stage old in
    let last = after_all g.pieces old in
    let behind_it : new ≡ session_after h.piece last = h.behind ∙ ap (session_after h.piece) g.now in
    let same : heard_from h.piece last ≡ answer = ap (heard_from h.piece) (sym g.now) ∙ h.answered in
    let called : text ≡ next_text (heard_from h.piece last) (session_after h.piece last) =
    is ∙ ap (λ a. next_text a new) (sym same) ∙ ap (next_text (heard_from h.piece last)) behind_it in
    let all : (first ++ sent_after g.pieces old) ++ text ≡ first ++ sent_after (g.pieces ++ h.piece ∷ []) old =
    append_assoc first (sent_after g.pieces old) text
    ∙ ap (λ x. first ++ (sent_after g.pieces old ++ x)) called
    ∙ ap (λ x. first ++ x) (sym (sent_more g.pieces h.piece old)) in
    record {
      pieces = g.pieces ++ h.piece ∷ [];
      came = subst (λ x. Consumes from on x) (sym (came_more g.pieces h.piece))
          (Consumes-trans from to on (concat g.pieces) h.piece g.came h.came);
      on = pending_all g.pieces (h.piece ∷ []) old g.on (subst IsPending (sym same) pending, tt);
      sent = subst (λ x. Appends before beyond x) all
          (Appends-trans before behind beyond (first ++ sent_after g.pieces old) text g.sent sent);
      now = behind_it ∙ sym (after_more g.pieces h.piece old);
    }

-- one turn
pub goes_turn : (old s new : Session) (from to on before behind beyond : Option (List ℕ))
    → Goes old from to before behind s → Steps s to on behind beyond new → Goes old from on before beyond new
goes_turn old s new from to on before behind beyond g h =
    goes_sent old s new h.answer from to on before behind beyond (next_text h.answer new) g h.hears h.on refl h.sent

-- less than a reply came
pub steps_more : (s new : Session) (from to before : Option (List ℕ)) → Receives s (Ok hears.More) from to new → Steps s from to before before new
steps_more s new from to before h = record { answer = Ok hears.More; on = tt; hears = h; sent = Appends-nil before }

-- a reply came, and the next request was sent
pub steps_next : (s new : Session) (from to before behind : Option (List ℕ)) → Receives s (Ok hears.Next) from to new
    → Appends before behind (asked_text new.stage new) → Steps s from to before behind new
steps_next s new from to before behind h sent = record { answer = Ok hears.Next; on = tt; hears = h; sent = sent }

-- the last piece came
pub answers_last : (old s new : Session) (answer : Result Heard AdminFault) (from to on before behind beyond : Option (List ℕ))
    → Goes old from to before behind s → Receives s answer to on new → beyond ≡ behind → Answers old answer from on before beyond
answers_last old s new answer from to on before behind beyond g h same = record {
  pieces = g.pieces;
  last = h.piece;
  came = Consumes-trans from to on (concat g.pieces) h.piece g.came h.came;
  on = g.on;
  sent = subst (λ x. Appends before x (asked_text old.stage old ++ sent_after g.pieces old)) (sym same) g.sent;
  answered = ap (heard_from h.piece) (sym g.now) ∙ h.answered;
}

-- ---- no answer

-- nothing comes
pub waits_first : (s : Session) (from to : Option (List ℕ)) → Consumes from to [] → Waits s from to
waits_first s from to came = record { pieces = []; came = came; on = tt }

-- a piece comes that calls for another request
pub waits_next : (s new : Session) (from to : Option (List ℕ)) → Receives s (Ok hears.Next) from to new → Waits s from to
waits_next s new from to h = record {
  pieces = h.piece ∷ [];
  came = subst (λ x. Consumes from to x) (sym (append-nil h.piece)) h.came;
  on = (subst IsPending (sym h.answered) tt, tt);
}

-- some pieces came, and then no answer
pub waits_goes : (old s : Session) (from to on before behind : Option (List ℕ)) → Goes old from to before behind s → Waits s to on → Waits old from on
waits_goes old s from to on before behind g w = record {
  pieces = g.pieces ++ w.pieces;
  came = subst (λ x. Consumes from on x) (sym (came_all g.pieces w.pieces)) (Consumes-trans from to on (concat g.pieces) (concat w.pieces) g.came w.came);
  on = pending_all g.pieces w.pieces old g.on (subst (ArePending w.pieces) g.now w.on);
}

pub waits_out : (old s : Session) (from to before behind : Option (List ℕ)) → Goes old from to before behind s → Waits old from to
waits_out old s from to before behind g = record { pieces = g.pieces; came = g.came; on = g.on }

-- ---- a piece

moves : (s new : Session) (p : List ℕ) (r : Result Heard AdminFault) → heard_from p s ≡ r → new ≡ moved r (s.unread ++ p) s → new ≡ session_after p s
moves s new p r is m = m ∙ ap (λ a. moved a (s.unread ++ p) s) (sym is)

pub hears_ok : (s new : Session) (p : List ℕ) (h : Heard) (from to : Option (List ℕ))
    → heard_from p s ≡ Ok h → new ≡ moved (Ok h) (s.unread ++ p) s → Consumes from to p → Receives s (Ok h) from to new
hears_ok s new p h from to is m came = record { piece = p; came = came; answered = is; behind = moves s new p (Ok h) is m }

blames_it : (s new : Session) (p : List ℕ) (f : AdminFault) (from to : Option (List ℕ)) (Waiting : Type 0)
    → Comes (heard_from p s) (Err f) → new ≡ moved (Err f) (s.unread ++ p) s → Consumes from to p
    → BlamesBroker (λ fault. Receives s (Err fault) from to new) Waiting (of_admin f)
blames_it s new p (admin.Refused code) from to Waiting is m came =
    record { piece = p; came = came; answered = is; behind = moves s new p (Err (admin.Refused code)) is m }
blames_it s new p admin.Protocol from to Waiting is m came =
    record { piece = p; came = came; answered = is; behind = moves s new p (Err admin.Protocol) is m }
blames_it s new p admin.Memory from to Waiting is m came = tt

-- ---- faults

-- what holds of a fault may be weakened
pub blames_weaker : (P Q : AdminFault → Type 0) (A B : Type 0) (fault : TopicFault) → ((f : AdminFault) → P f → Q f) → (A → B)
    → BlamesBroker P A fault → BlamesBroker Q B fault
blames_weaker P Q A B (faults.Admin (admin.Refused code) None) w v b = w (admin.Refused code) b
blames_weaker P Q A B (faults.Admin admin.Protocol None) w v b = w admin.Protocol b
blames_weaker P Q A B (faults.Admin admin.Memory None) w v b = absurd b
blames_weaker P Q A B (faults.Admin f (Some meaning)) w v b = absurd b
blames_weaker P Q A B faults.Memory w v b = tt
blames_weaker P Q A B faults.Silent w v b = v b
blames_weaker P Q A B (faults.Words text) w v b = absurd b
blames_weaker P Q A B (faults.Connect address) w v b = absurd b
blames_weaker P Q A B faults.Write w v b = absurd b

-- the same of an error that `?` hands on
pub fails_weaker : {T : Type 0} (P Q : AdminFault → Type 0) (A B : Type 0) (e : TopicFault) (r : Result T TopicFault) → IsErrAnd r (λ x. x ≡ e)
    → ((f : AdminFault) → P f → Q f) → (A → B) → BlamesBroker P A e → IfErr r (BlamesBroker Q B)
fails_weaker P Q A B e (Ok x) is w v b = absurd is
fails_weaker P Q A B e (Err x) is w v b = subst (BlamesBroker Q B) (sym is) (blames_weaker P Q A B e w v b)

-- an error is no answer
pub not_ok : {T E : Type 0} (P : T → Type 0) (Q : E → Type 0) (r : Result T E) → IsErrAnd r Q → IfOk r P
not_ok P Q (Ok x) bad = absurd bad
not_ok P Q (Err e) bad = tt

-- no memory, and no bytes
pub fails_memory : {T : Type 0} (P : AdminFault → Type 0) (A : Type 0) (r : Result T TopicFault) → IsErrAnd r (λ x. x ≡ faults.Memory)
    → IfErr r (BlamesBroker P A)
fails_memory P A (Ok x) is = absurd is
fails_memory P A (Err x) is = subst (BlamesBroker P A) (sym is) tt

pub fails_silent : {T : Type 0} (P : AdminFault → Type 0) (A : Type 0) (e : TopicFault) (r : Result T TopicFault) → e ≡ faults.Silent → A
    → IsErrAnd r (λ x. x ≡ e) → IfErr r (BlamesBroker P A)
fails_silent P A e (Ok x) silent a is = absurd is
fails_silent P A e (Err x) silent a is = subst (BlamesBroker P A) (sym (is ∙ silent)) a

-- what a piece came to
pub fails_heard : {T : Type 0} (s new : Session) (p : List ℕ) (f : AdminFault) (r : Result T TopicFault) (from to : Option (List ℕ)) (A : Type 0)
    → IsErrAnd r (λ x. x ≡ of_admin f) → Comes (heard_from p s) (Err f) → new ≡ moved (Err f) (s.unread ++ p) s → Consumes from to p
    → IfErr r (BlamesBroker (λ it. Receives s (Err it) from to new) A)
fails_heard s new p f (Ok x) from to A is comes m came = absurd is
fails_heard s new p f (Err x) from to A is comes m came =
    subst (BlamesBroker (λ it. Receives s (Err it) from to new) A) (sym is) (blames_it s new p f from to A comes m came)

-- a refusal and what its code says
tells_code : (s : Session) (code : ℤ) (from to before behind : Option (List ℕ)) (new : TopicFault)
    → Answers s (Err (admin.Refused code)) from to before behind → ExplainsCode s.task code new → TellsFault s from to before behind new
tells_code s code from to before behind (faults.Admin (admin.Refused same) None) a e =
    subst (λ c. Answers s (Err (admin.Refused c)) from to before behind) (sym e) a
tells_code s code from to before behind (faults.Admin (admin.Refused same) (Some text)) a e =
    (subst (λ c. Answers s (Err (admin.Refused c)) from to before behind) (sym e.0) a, e.1 ∙ ap (meaning s.task) (sym e.0))
tells_code s code from to before behind (faults.Admin admin.Protocol text) a e = absurd e
tells_code s code from to before behind (faults.Admin admin.Memory text) a e = absurd e
tells_code s code from to before behind (faults.Words text) a e = absurd e
tells_code s code from to before behind faults.Memory a e = absurd e
tells_code s code from to before behind (faults.Connect address) a e = absurd e
tells_code s code from to before behind faults.Silent a e = absurd e
tells_code s code from to before behind faults.Write a e = absurd e

-- what is told of a session's fault
pub tells_explained : (s : Session) (from to before behind : Option (List ℕ)) (fault new : TopicFault)
    → BlamesBroker (λ f. Answers s (Err f) from to before behind) (Waits s from to) fault → Explains s.task fault new → TellsFault s from to before behind new
tells_explained s from to before behind (faults.Admin (admin.Refused code) None) new b e = tells_code s code from to before behind new b e
tells_explained s from to before behind (faults.Admin (admin.Refused code) (Some text)) new b e = absurd b
tells_explained s from to before behind (faults.Admin admin.Protocol None) new b e = subst (TellsFault s from to before behind) (sym e) b
tells_explained s from to before behind (faults.Admin admin.Protocol (Some text)) new b e = absurd b
tells_explained s from to before behind (faults.Admin admin.Memory None) new b e = absurd b
tells_explained s from to before behind (faults.Admin admin.Memory (Some text)) new b e = absurd b
tells_explained s from to before behind (faults.Words text) new b e = absurd b
tells_explained s from to before behind faults.Memory new b e = subst (TellsFault s from to before behind) (sym e) tt
tells_explained s from to before behind (faults.Connect address) new b e = absurd b
tells_explained s from to before behind faults.Silent new b e = subst (TellsFault s from to before behind) (sym e) b
tells_explained s from to before behind faults.Write new b e = absurd b

-- no memory for a text, and no room for it
pub tells_memory : {T : Type 0} (s : Session) (from to before behind : Option (List ℕ)) (r : Result T TopicFault)
    → IsErrAnd r (λ x. x ≡ faults.Memory) → IfErr r (TellsFault s from to before behind)
tells_memory s from to before behind (Ok x) is = absurd is
tells_memory s from to before behind (Err x) is = subst (TellsFault s from to before behind) (sym is) tt

pub tells_write : {T : Type 0} (s : Session) (from to before behind : Option (List ℕ)) (r : Result T TopicFault)
    → IsAnswered s from to before behind → IfErr r (λ x. x ≡ faults.Write) → IfErr r (TellsFault s from to before behind)
tells_write s from to before behind (Ok x) answered is = tt
tells_write s from to before behind (Err x) answered is = subst (TellsFault s from to before behind) (sym is) answered
