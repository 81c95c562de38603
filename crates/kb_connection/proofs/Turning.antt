-- The turn of a connection, by what stands in front of its unread bytes.
use Rattle.std.proofs.Common.{◌≡◌, ℕ, List, refl, sym, ap, ◌∙◌, Result, Ok, Err, OnOk, IfOk}
use Rattle.std.specs.declared.alloc.AllocError.{AllocError}
use Rattle.kb_api_group.specs.Frames.{Front, Whole, Partial, TooSmall, TooLarge}
use Rattle.kb_api_group.specs.FrameStream.{answer, behind}
use Rattle.kb_api_group.specs.declared.frames.Next.TheVariants as answers
use Rattle.kb_isolation_spec.specs.declared.shut.Shut.TheVariants as causes
use Rattle.kb_isolation_spec.specs.declared.head.Head.{Head}
use Rattle.kb_isolation_spec.specs.Requests.{request}
use Rattle.kb_isolation_spec.specs.Session.{Greeting, Session, in_front, shut_down}
use Rattle.kb_tenant_api.specs.Hosted.{Kept}
use Rattle.kb_isolation_spec.specs.Greeting.{Setup, for_tenant, greeted, greeted_at, greeted_frame}
use Rattle.kb_isolation_spec.specs.Machine.{Line, after_turn, served_at, served_by}
use Rattle.kb_connection.specs.declared.reaction.Reaction.{Reaction}
use Rattle.kb_connection.specs.View.{with_session, without_front}
use Rattle.kb_connection.specs.Reactions.{reacted, IfReacts}

-- 1. Less than a whole frame: nothing happens

greeted_more : (setup : Setup) (greeting : Greeting) (s : Session) (f : Front) → answers.More ≡ answer f → s ≡ greeted_at setup greeting s f
greeted_more setup greeting s (Whole frame rest) e = cc
greeted_more setup greeting s Partial e = refl
greeted_more setup greeting s TooSmall e = cc
greeted_more setup greeting s TooLarge e = cc

served_more : (setup : Setup) (kept : Kept) (clock n : ℕ) (s : Session) (f : Front) → answers.More ≡ answer f → s ≡ served_at setup kept clock n s f
served_more setup kept clock n s (Whole frame rest) e = cc
served_more setup kept clock n s Partial e = refl
served_more setup kept clock n s TooSmall e = cc
served_more setup kept clock n s TooLarge e = cc

pub greet_more : (setup : Setup) (greeting : Greeting) (l : Line) (f : Front) → f ≡ in_front l.session → answers.More ≡ answer f → l ≡ with_session l (greeted setup greeting l.session)
unfolding greeted
greet_more setup greeting l f same e = ap (with_session l) (greeted_more setup greeting l.session (in_front l.session) (e ∙ ap answer same))

pub serve_more : (setup : Setup) (kept : Kept) (clock n : ℕ) (l : Line) (f : Front) → f ≡ in_front l.session → answers.More ≡ answer f → l ≡ with_session l (after_turn setup kept clock n l.session)
unfolding after_turn
serve_more setup kept clock n l f same e = ap (with_session l) (served_more setup kept clock n l.session (in_front l.session) (e ∙ ap answer same))

-- 2. A bad size: the connection is shut

greeted_short : (setup : Setup) (greeting : Greeting) (s : Session) (f : Front) → answers.TooSmall ≡ answer f → shut_down causes.TooShort s ≡ greeted_at setup greeting s f
greeted_short setup greeting s (Whole frame rest) e = cc
greeted_short setup greeting s Partial e = cc
greeted_short setup greeting s TooSmall e = refl
greeted_short setup greeting s TooLarge e = cc

served_short : (setup : Setup) (kept : Kept) (clock n : ℕ) (s : Session) (f : Front) → answers.TooSmall ≡ answer f → shut_down causes.TooShort s ≡ served_at setup kept clock n s f
served_short setup kept clock n s (Whole frame rest) e = cc
served_short setup kept clock n s Partial e = cc
served_short setup kept clock n s TooSmall e = refl
served_short setup kept clock n s TooLarge e = cc

pub greet_short : (setup : Setup) (greeting : Greeting) (l new : Line) (f : Front) → f ≡ in_front l.session → answers.TooSmall ≡ answer f → new ≡ with_session l (shut_down causes.TooShort l.session) → new ≡ with_session l (greeted setup greeting l.session)
unfolding greeted
greet_short setup greeting l new f same e is = is ∙ ap (with_session l) (greeted_short setup greeting l.session (in_front l.session) (e ∙ ap answer same))

pub serve_short : (setup : Setup) (kept : Kept) (clock n : ℕ) (l new : Line) (f : Front) → f ≡ in_front l.session → answers.TooSmall ≡ answer f → new ≡ with_session l (shut_down causes.TooShort l.session) → new ≡ with_session l (after_turn setup kept clock n l.session)
unfolding after_turn
serve_short setup kept clock n l new f same e is = is ∙ ap (with_session l) (served_short setup kept clock n l.session (in_front l.session) (e ∙ ap answer same))

greeted_long : (setup : Setup) (greeting : Greeting) (s : Session) (f : Front) → answers.TooLarge ≡ answer f → shut_down causes.TooLong s ≡ greeted_at setup greeting s f
greeted_long setup greeting s (Whole frame rest) e = cc
greeted_long setup greeting s Partial e = cc
greeted_long setup greeting s TooSmall e = cc
greeted_long setup greeting s TooLarge e = refl

served_long : (setup : Setup) (kept : Kept) (clock n : ℕ) (s : Session) (f : Front) → answers.TooLarge ≡ answer f → shut_down causes.TooLong s ≡ served_at setup kept clock n s f
served_long setup kept clock n s (Whole frame rest) e = cc
served_long setup kept clock n s Partial e = cc
served_long setup kept clock n s TooSmall e = cc
served_long setup kept clock n s TooLarge e = refl

pub greet_long : (setup : Setup) (greeting : Greeting) (l new : Line) (f : Front) → f ≡ in_front l.session → answers.TooLarge ≡ answer f → new ≡ with_session l (shut_down causes.TooLong l.session) → new ≡ with_session l (greeted setup greeting l.session)
unfolding greeted
greet_long setup greeting l new f same e is = is ∙ ap (with_session l) (greeted_long setup greeting l.session (in_front l.session) (e ∙ ap answer same))

pub serve_long : (setup : Setup) (kept : Kept) (clock n : ℕ) (l new : Line) (f : Front) → f ≡ in_front l.session → answers.TooLarge ≡ answer f → new ≡ with_session l (shut_down causes.TooLong l.session) → new ≡ with_session l (after_turn setup kept clock n l.session)
unfolding after_turn
serve_long setup kept clock n l new f same e is = is ∙ ap (with_session l) (served_long setup kept clock n l.session (in_front l.session) (e ∙ ap answer same))

-- 3. A whole frame is taken: its request is served, or it is PLAIN's message

greeted_whole : (setup : Setup) (greeting : Greeting) (s : Session) (frame : List ℕ) (f : Front) → answers.Frame frame ≡ answer f → greeted_frame setup greeting frame (record s { unread = behind f s.unread }) ≡ greeted_at setup greeting s f
greeted_whole setup greeting s frame (Whole front rest) e = let same : frame ≡ front = cc in ap (λ x. greeted_frame setup greeting x (record s { unread = rest })) same
greeted_whole setup greeting s frame Partial e = cc
greeted_whole setup greeting s frame TooSmall e = cc
greeted_whole setup greeting s frame TooLarge e = cc

served_whole : (setup : Setup) (kept : Kept) (clock n : ℕ) (s : Session) (frame : List ℕ) (f : Front) → answers.Frame frame ≡ answer f → served_by setup kept clock n (request setup.versions frame).head (request setup.versions frame).asked (record s { unread = behind f s.unread }) ≡ served_at setup kept clock n s f
served_whole setup kept clock n s frame (Whole front rest) e = let same : frame ≡ front = cc in ap (λ x. served_by setup kept clock n (request setup.versions x).head (request setup.versions x).asked (record s { unread = rest })) same
served_whole setup kept clock n s frame Partial e = cc
served_whole setup kept clock n s frame TooSmall e = cc
served_whole setup kept clock n s frame TooLarge e = cc

-- what a worked out reaction comes to
reacts : {E : Type 0} (setup : Setup) (l new : Line) (result : Result (Unit {0}) E) (reaction : Result (Head × Reaction) AllocError) (g : Session → Session) (s : Session) → IfOk reaction (λ done. (s : Session) → reacted setup done.1 done.0 s ≡ g s) → g (without_front l.session) ≡ s → OnOk result (IfReacts reaction (λ head what. new ≡ with_session l (reacted setup what head (without_front l.session)))) → OnOk result (new ≡ with_session l s)
reacts setup l new (Ok u) (Ok done) g s is e h = h ∙ ap (with_session l) (is (without_front l.session) ∙ e)
reacts setup l new (Ok u) (Err fault) g s is e h = absurd h
reacts setup l new (Err fault) reaction g s is e h = tt

pub greet_frame : {E : Type 0} (setup : Setup) (greeting : Greeting) (l new : Line) (result : Result (Unit {0}) E) (reaction : Result (Head × Reaction) AllocError) (f : Front) (frame bytes : List ℕ) → f ≡ in_front l.session → answers.Frame frame ≡ answer f → bytes ≡ frame → IfOk reaction (λ done. (s : Session) → reacted setup done.1 done.0 s ≡ greeted_frame setup greeting bytes s) → OnOk result (IfReacts reaction (λ head what. new ≡ with_session l (reacted setup what head (without_front l.session)))) → OnOk result (new ≡ with_session l (greeted setup greeting l.session))
unfolding greeted
greet_frame setup greeting l new result reaction f frame bytes same e read is h =
    let stands : answers.Frame bytes ≡ answer (in_front l.session) = ap answers.Frame read ∙ e ∙ ap answer same in
    reacts setup l new result reaction (greeted_frame setup greeting bytes) (greeted_at setup greeting l.session (in_front l.session)) is (greeted_whole setup greeting l.session bytes (in_front l.session) stands) h

pub serve_frame : {E : Type 0} (setup : Setup) (tenant : ℕ) (kept : Kept) (clock n : ℕ) (l new : Line) (result : Result (Unit {0}) E) (reaction : Result (Head × Reaction) AllocError) (f : Front) (frame bytes : List ℕ) → f ≡ in_front l.session → answers.Frame frame ≡ answer f → bytes ≡ frame → IfOk reaction (λ done. (tenant : ℕ) (kept : Kept) (clock n : ℕ) (s : Session) → reacted setup done.1 done.0 s ≡ served_by (for_tenant setup tenant) kept clock n (request setup.versions bytes).head (request setup.versions bytes).asked s) → OnOk result (IfReacts reaction (λ head what. new ≡ with_session l (reacted setup what head (without_front l.session)))) → OnOk result (new ≡ with_session l (after_turn (for_tenant setup tenant) kept clock n l.session))
unfolding after_turn
serve_frame setup tenant kept clock n l new result reaction f frame bytes same e read is h =
    let stands : answers.Frame bytes ≡ answer (in_front l.session) = ap answers.Frame read ∙ e ∙ ap answer same in
    reacts setup l new result reaction (served_by (for_tenant setup tenant) kept clock n (request setup.versions bytes).head (request setup.versions bytes).asked) (served_at (for_tenant setup tenant) kept clock n l.session (in_front l.session)) (for_this reaction is) (served_whole (for_tenant setup tenant) kept clock n l.session bytes (in_front l.session) stands) h
  where
    for_this : (r : Result (Head × Reaction) AllocError) → IfOk r (λ done. (tenant : ℕ) (kept : Kept) (clock n : ℕ) (s : Session) → reacted setup done.1 done.0 s ≡ served_by (for_tenant setup tenant) kept clock n (request setup.versions bytes).head (request setup.versions bytes).asked s) → IfOk r (λ done. (s : Session) → reacted setup done.1 done.0 s ≡ served_by (for_tenant setup tenant) kept clock n (request setup.versions bytes).head (request setup.versions bytes).asked s)
    for_this (Ok done) each = each tenant kept clock n
    for_this (Err fault) each = tt
