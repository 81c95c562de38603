-- Each event but the receiver's own leaves what holds.
use Rattle.std.proofs.Common.{◌≡◌, ℕ, zero, suc, Bool, true, false, cond, List, [], ◌∷◌, ◌++◌, take, drop, Option, Some, None, refl, sym, ap, subst, ◌∙◌, append_assoc, inl, inr}
use Rattle.std.proofs.lemmas.List.{append-nil, take-append-drop}
use Rattle.kb_api_group.specs.Frames.{Whole, Partial}
use Rattle.kb_api_group.specs.ClientFrames.{front}
use Rattle.kb_client.specs.declared.fault.ClientFault.{ClientFault}
use Rattle.kb_client.specs.declared.stage.ProducerId.{ProducerId}
use Rattle.kb_client.specs.declared.stage.Stage.{Stage}
use Rattle.kb_client.specs.declared.stage.Stage.TheVariants as stages
use Rattle.kb_client.specs.Stages.{fault_of}
use Rattle.kb_client.specs.Sent.{Line, Target}
use Rattle.kb_client.specs.Producer.{Producer, heard, IsRequest, IsProduce, with_line, connected, restarted, fed, fed_by, read_at, unasked, is_due, has_request}
use Rattle.kb_client.specs.Requests.{plain_message}
use Rattle.kb_client_spec.specs.Receiver.{Receiver, Stored, Login, Greets, knows}
use Rattle.kb_client_spec.specs.Sending.{Delivery, arrived, cut}
use Rattle.kb_client_spec.proofs.Texts.{front_nothing, front_part}
use Rattle.kb_client_spec.proofs.Invariant.{Counts, IsStored, Ready, IsAnswered, IsSettled, HearsAs, Phase, Holds, request_going}

-- ---- lists

abbrev none : List ℕ
none = []

take_nothing : (n : ℕ) → take n none ≡ none
take_nothing zero = refl
take_nothing (suc n) = refl

drop_nothing : (n : ℕ) → drop n none ≡ none
drop_nothing zero = refl
drop_nothing (suc n) = refl

taken_nothing : (n : ℕ) (bytes : List ℕ) → bytes ≡ [] → take n bytes ≡ []
taken_nothing n bytes e = ap (λ b. take n b) e ∙ take_nothing n

dropped_nothing : (n : ℕ) (bytes : List ℕ) → bytes ≡ [] → drop n bytes ≡ []
dropped_nothing n bytes e = ap (λ b. drop n b) e ∙ drop_nothing n

both_nothing : (a b : List ℕ) → a ≡ [] → b ≡ [] → a ++ b ≡ []
both_nothing a b e f = ap (λ x. x ++ b) e ∙ f

-- ---- a line is handed in

more_stored : (id : ProducerId) (done lines : List Line) (line : Line) (stored : List Stored) → IsStored id done lines stored → IsStored id done (lines ++ line ∷ []) stored
more_stored id done lines line stored (inl e) = inl e
more_stored id done lines line stored (inr h) = inr (h.0, h.1 ++ line ∷ [], ap (λ ls. ls ++ line ∷ []) h.2, h.3)

more_counts : (producer : Option ProducerId) (acknowledged : ℕ) (lines handed : List Line) (stored : List Stored) (line : Line) → Counts producer acknowledged lines handed stored → Counts producer acknowledged (lines ++ line ∷ []) (handed ++ line ∷ []) stored
more_counts producer acknowledged lines handed stored line c = record {
  done = c.done;
  id = c.id;
  split = ap (λ h. h ++ line ∷ []) c.split ∙ append_assoc c.done lines (line ∷ []);
  count = c.count;
  owner = c.owner;
  some = more_stored c.id c.done lines line stored c.some;
}

more_produce : (id : ProducerId) (lines : List Line) (p : Producer) (line : Line) (text : List ℕ) → IsProduce id lines p text → IsProduce id (lines ++ line ∷ []) (with_line line p) text
more_produce id [] p line text h = absurd h
more_produce id (l ∷ ls) p line text h = h

more_request : (stage : Stage) (p : Producer) (line : Line) (text : List ℕ) → IsRequest stage p text → IsRequest stage (with_line line p) text
more_request stages.Closed p line text h = h
more_request stages.Handshake p line text h = h
more_request stages.Authenticate p line text h = h
more_request (stages.Create n) p line text h = h
more_request stages.Identify p line text h = h
more_request (stages.Produce id) p line text h = more_produce id p.lines p line text h
more_request (stages.Ended ending) p line text h = h

more_hears : (frame : List ℕ) (p q : Producer) (line : Line) → HearsAs frame p q → HearsAs frame (with_line line p) (with_line line q)
more_hears frame p q line h u more = ap (λ ls. heard frame (record p { unread = u; lines = ls })) (append_assoc p.lines (line ∷ []) more) ∙ h u (line ∷ more) ∙ ap (λ ls. record q { lines = ls }) (sym (append_assoc q.lines (line ∷ []) more))

more_settled : (known : Bool) (target : Target) (q : Producer) (handed : List Line) (r : Receiver) (line : Line) → IsSettled known target q handed r → IsSettled known target (with_line line q) (handed ++ line ∷ []) r
more_settled known target q handed r line s = record {
  idle = s.idle;
  unread = s.unread;
  same = s.same;
  typed = s.typed;
  ready = s.ready;
  counts = more_counts q.producer q.acknowledged q.lines handed r.stored line s.counts;
}

more_phase : (known : Bool) (p : Producer) (handed : List Line) (r : Receiver) (to back : List ℕ) (line : Line) → Phase known p handed r to back → Phase known (with_line line p) (handed ++ line ∷ []) r to back
more_phase known p handed r to back line (inl h) = inl (record { idle = h.0.idle; unread = h.0.unread; read = h.0.read; none_to = h.0.none_to; none_back = h.0.none_back }, h.1)
more_phase known p handed r to back line (inr (inl h)) = inr (inl (record {
  asked = h.asked;
  unread = h.unread;
  request = more_request p.stage p line (r.unread ++ to) h.request;
  none_back = h.none_back;
  ready = h.ready;
}))
more_phase known p handed r to back line (inr (inr h)) = inr (inr (record {
  asked = h.asked;
  going = h.going;
  read = h.read;
  none_to = h.none_to;
  frame = h.frame;
  whole = h.whole;
  next = with_line line h.next;
  hears = more_hears h.frame p h.next line h.hears;
  settled = more_settled known p.target h.next handed r line h.settled;
}))

pub holds-handed : (known : Bool) (w : Delivery) (line : Line) → Holds known w → Holds known (record w { core = with_line line w.core; handed = w.handed ++ line ∷ [] })
holds-handed known w line h = record {
  login = h.login;
  typed = h.typed;
  counts = more_counts w.core.producer w.core.acknowledged w.core.lines w.handed w.receiver.stored line h.counts;
  phase = more_phase known w.core w.handed w.receiver w.requests w.answers line h.phase;
}

-- ---- a request is sent

asked_produce : (id : ProducerId) (lines : List Line) (p : Producer) (text : List ℕ) → IsProduce id lines p text → IsProduce id lines (record p { asked = true }) text
asked_produce id [] p text h = absurd h
asked_produce id (l ∷ ls) p text h = h

asked_request : (stage : Stage) (p : Producer) (text : List ℕ) → IsRequest stage p text → IsRequest stage (record p { asked = true }) text
asked_request stages.Closed p text h = h
asked_request stages.Handshake p text h = h
asked_request stages.Authenticate p text h = h
asked_request (stages.Create n) p text h = h
asked_request stages.Identify p text h = h
asked_request (stages.Produce id) p text h = asked_produce id p.lines p text h
asked_request (stages.Ended ending) p text h = h

not_due : (p : Producer) → p.asked ≡ true → is_due p ≡ true → ⊥
not_due p asked due = let no : false ≡ true = sym (ap (λ b. cond b false (has_request p.stage p.lines)) asked) ∙ due in absurd cc

sent_phase : (known : Bool) (p : Producer) (handed : List Line) (r : Receiver) (to back text : List ℕ) → is_due p ≡ true → IsRequest p.stage p text → Phase known p handed r to back → Phase known (record p { asked = true }) handed r (to ++ text) back
sent_phase known p handed r to back text due is (inl h) = inr (inl (record {
  asked = refl;
  unread = h.0.unread;
  request = subst (λ t. IsRequest p.stage (record p { asked = true }) t) (sym (ap (λ x. x ++ (to ++ text)) h.0.read ∙ ap (λ x. x ++ text) h.0.none_to)) (asked_request p.stage p text is);
  none_back = h.0.none_back;
  ready = h.1;
}))
sent_phase known p handed r to back text due is (inr (inl h)) = absurd (not_due p h.asked due)
sent_phase known p handed r to back text due is (inr (inr h)) = absurd (not_due p h.asked due)

pub holds-sent : (known : Bool) (w : Delivery) (text : List ℕ) → is_due w.core ≡ true → IsRequest w.core.stage w.core text → Holds known w → Holds known (record w { core = record w.core { asked = true }; requests = w.requests ++ text })
holds-sent known w text due is h = record {
  login = h.login;
  typed = h.typed;
  counts = h.counts;
  phase = sent_phase known w.core w.handed w.receiver w.requests w.answers text due is h.phase;
}

-- ---- bytes come to the receiver

arrived_phase : (known : Bool) (n : ℕ) (p : Producer) (handed : List Line) (r : Receiver) (to back : List ℕ) → Phase known p handed r to back → Phase known p handed (arrived n r to) (drop n to) back
arrived_phase known n p handed r to back (inl h) = inl (
  record {
    idle = h.0.idle;
    unread = h.0.unread;
    read = both_nothing r.unread (take n to) h.0.read (taken_nothing n to h.0.none_to);
    none_to = dropped_nothing n to h.0.none_to;
    none_back = h.0.none_back;
  },
  h.1,
)
arrived_phase known n p handed r to back (inr (inl h)) = inr (inl (record {
  asked = h.asked;
  unread = h.unread;
  request = subst (λ t. IsRequest p.stage p t) (sym (append_assoc r.unread (take n to) (drop n to) ∙ ap (λ x. r.unread ++ x) (take-append-drop n to))) h.request;
  none_back = h.none_back;
  ready = h.ready;
}))
arrived_phase known n p handed r to back (inr (inr h)) = inr (inr (record {
  asked = h.asked;
  going = h.going;
  read = both_nothing r.unread (take n to) h.read (taken_nothing n to h.none_to);
  none_to = dropped_nothing n to h.none_to;
  frame = h.frame;
  whole = h.whole;
  next = h.next;
  hears = h.hears;
  settled = record { idle = h.settled.idle; unread = h.settled.unread; same = h.settled.same; typed = h.settled.typed; ready = h.settled.ready; counts = h.settled.counts };
}))

pub holds-arrived : (known : Bool) (n : ℕ) (w : Delivery) → Holds known w → Holds known (record w { requests = drop n w.requests; receiver = arrived n w.receiver w.requests })
holds-arrived known n w h = record {
  login = h.login;
  typed = h.typed;
  counts = h.counts;
  phase = arrived_phase known n w.core w.handed w.receiver w.requests w.answers h.phase;
}

-- ---- bytes come to the producer

quiet_by : (f : Option ClientFault) (p : Producer) → p.asked ≡ false → fed_by f [] p ≡ p
quiet_by (Some fault) p e = refl
quiet_by None p e = rw e refl

fed_quiet : (p : Producer) → p.asked ≡ false → fed [] p ≡ p
unfolding fed
fed_quiet p e = quiet_by (fault_of p.stage) p e

asked_by : {b : Bool} (p q : Producer) → b ≡ true → cond b p q ≡ p
asked_by p q e = rw e refl

fed_asked : (p : Producer) (piece : List ℕ) → fault_of p.stage ≡ None → p.asked ≡ true → fed piece p ≡ read_at (front (p.unread ++ piece)) (record p { unread = p.unread ++ piece })
unfolding fed
fed_asked p piece going asked = ap (λ f. fed_by f piece p) going ∙ asked_by (read_at (front (p.unread ++ piece)) (record p { unread = p.unread ++ piece })) (unasked piece p) asked

fed_part : (p : Producer) (piece : List ℕ) → fault_of p.stage ≡ None → p.asked ≡ true → front (p.unread ++ piece) ≡ Partial → fed piece p ≡ record p { unread = p.unread ++ piece }
fed_part p piece going asked part = fed_asked p piece going asked ∙ ap (λ f. read_at f (record p { unread = p.unread ++ piece })) part

fed_whole : (p : Producer) (piece frame : List ℕ) → fault_of p.stage ≡ None → p.asked ≡ true → front (p.unread ++ piece) ≡ Whole frame [] → fed piece p ≡ heard frame (record p { unread = p.unread ++ piece })
fed_whole p piece frame going asked whole = fed_asked p piece going asked ∙ ap (λ f. read_at f (record p { unread = p.unread ++ piece })) whole

abbrev returned : ℕ → Delivery → Delivery
returned n w = record w { core = fed (take n w.answers) w.core; answers = drop n w.answers }

-- where nothing is under way, nothing comes
returned_nothing : (n : ℕ) (w : Delivery) → fed (take n w.answers) w.core ≡ w.core → w.answers ≡ [] → returned n w ≡ w
returned_nothing n w same e = ap (λ c. record w { core = c; answers = drop n w.answers }) same ∙ ap (λ a. record w { answers = a }) (dropped_nothing n w.answers e ∙ sym e)

hears_now : (frame u : List ℕ) (p q : Producer) → HearsAs frame p q → heard frame (record p { unread = u }) ≡ q
hears_now frame u p q h = ap (λ ls. heard frame (record p { unread = u; lines = ls })) (sym (append-nil p.lines)) ∙ h u [] ∙ ap (λ ls. record q { lines = ls }) (append-nil q.lines)

settles : (known : Bool) (n : ℕ) (w : Delivery) → Holds known w → (a : IsAnswered known w.core w.handed w.receiver w.requests w.answers) → drop n w.answers ≡ [] → Holds known (record w { core = a.next; answers = drop n w.answers })
settles known n w h a rest = record {
  login = ap (λ t. knows w.receiver.users (plain_message t)) a.settled.same ∙ h.login;
  typed = a.settled.typed;
  counts = a.settled.counts;
  phase = inl (record { idle = a.settled.idle; unread = a.settled.unread; read = a.read; none_to = a.none_to; none_back = rest }, a.settled.ready);
}

returned_all : (known : Bool) (n : ℕ) (w : Delivery) → Holds known w → IsAnswered known w.core w.handed w.receiver w.requests w.answers → drop n w.answers ≡ [] → Holds known (returned n w)
returned_all known n w h a rest =
    let piece : List ℕ = take n w.answers in
    let all : piece ≡ w.answers = sym (append-nil piece) ∙ ap (λ d. piece ++ d) (sym rest) ∙ take-append-drop n w.answers in
    let whole : front (w.core.unread ++ piece) ≡ Whole a.frame [] = ap (λ b. front (w.core.unread ++ b)) all ∙ a.whole in
    let is : fed piece w.core ≡ a.next = fed_whole w.core piece a.frame a.going a.asked whole ∙ hears_now a.frame (w.core.unread ++ piece) w.core a.next a.hears in
    let settled : Holds known (record w { core = a.next; answers = drop n w.answers }) = settles known n w h a rest in
    subst (λ c. Holds known (record w { core = c; answers = drop n w.answers })) (sym is) settled

abbrev some : ℕ → List ℕ → List ℕ
some b rest = b ∷ rest

not_nothing : (b : ℕ) (rest : List ℕ) → some b rest ≡ none → ⊥
not_nothing b rest e = absurd cc

returned_part : (known : Bool) (n : ℕ) (w : Delivery) (b : ℕ) (rest : List ℕ) → Holds known w → IsAnswered known w.core w.handed w.receiver w.requests w.answers → drop n w.answers ≡ b ∷ rest → Holds known (returned n w)
returned_part known n w b rest h a left =
    let piece : List ℕ = take n w.answers in
    let joined : (w.core.unread ++ piece) ++ drop n w.answers ≡ w.core.unread ++ w.answers = append_assoc w.core.unread piece (drop n w.answers) ∙ ap (λ x. w.core.unread ++ x) (take-append-drop n w.answers) in
    let whole : front ((w.core.unread ++ piece) ++ drop n w.answers) ≡ Whole a.frame [] = ap front joined ∙ a.whole in
    let part : front (w.core.unread ++ piece) ≡ Partial = front_part (w.core.unread ++ piece) (drop n w.answers) a.frame whole (λ e. not_nothing b rest (sym left ∙ e)) in
    let is : fed piece w.core ≡ record w.core { unread = w.core.unread ++ piece } = fed_part w.core piece a.going a.asked part in
    subst (λ c. Holds known (record w { core = c; answers = drop n w.answers })) (sym is) (record {
      login = h.login;
      typed = h.typed;
      counts = h.counts;
      phase = inr (inr (record {
        asked = a.asked;
        going = a.going;
        read = a.read;
        none_to = a.none_to;
        frame = a.frame;
        whole = whole;
        next = a.next;
        hears = a.hears;
        settled = a.settled;
      }));
    })

returned_by : (known : Bool) (n : ℕ) (w : Delivery) (rest : List ℕ) → Holds known w → IsAnswered known w.core w.handed w.receiver w.requests w.answers → drop n w.answers ≡ rest → Holds known (returned n w)
returned_by known n w [] h a left = returned_all known n w h a left
returned_by known n w (b ∷ rest) h a left = returned_part known n w b rest h a left

returned_in : (known : Bool) (n : ℕ) (w : Delivery) → Holds known w → Phase known w.core w.handed w.receiver w.requests w.answers → Holds known (returned n w)
returned_in known n w h (inl q) =
    let same : fed (take n w.answers) w.core ≡ w.core = ap (λ b. fed b w.core) (taken_nothing n w.answers q.0.none_back) ∙ fed_quiet w.core q.0.idle in
    subst (Holds known) (sym (returned_nothing n w same q.0.none_back)) h
returned_in known n w h (inr (inl a)) =
    let piece : take n w.answers ≡ [] = taken_nothing n w.answers a.none_back in
    let going : fault_of w.core.stage ≡ None = request_going w.core.stage w.core (w.receiver.unread ++ w.requests) a.request in
    let few : front (w.core.unread ++ take n w.answers) ≡ Partial = ap front (both_nothing w.core.unread (take n w.answers) a.unread piece) ∙ front_nothing in
    let same : fed (take n w.answers) w.core ≡ w.core = fed_part w.core (take n w.answers) going a.asked few ∙ ap (λ u. record w.core { unread = u }) (ap (λ x. w.core.unread ++ x) piece ∙ append-nil w.core.unread) in
    subst (Holds known) (sym (returned_nothing n w same a.none_back)) h
returned_in known n w h (inr (inr a)) = returned_by known n w (drop n w.answers) h a refl

pub holds-returned : (known : Bool) (n : ℕ) (w : Delivery) → Holds known w → Holds known (record w { core = fed (take n w.answers) w.core; answers = drop n w.answers })
holds-returned known n w h = returned_in known n w h h.phase

-- ---- another connection begins

restart_ready : (known : Bool) (stage : Stage) (producer : Option ProducerId) (login : Login) → Ready known stage producer login → Ready known (restarted stage) producer Greets
restart_ready known stages.Closed producer login h = refl
restart_ready known stages.Handshake producer login h = refl
restart_ready known stages.Authenticate producer login h = refl
restart_ready known (stages.Create n) producer login h = refl
restart_ready known stages.Identify producer login h = refl
restart_ready known (stages.Produce id) producer login h = refl
restart_ready known (stages.Ended ending) producer login h = h

restart_going : (known : Bool) (stage : Stage) (producer : Option ProducerId) → fault_of stage ≡ None → Ready known (restarted stage) producer Greets
restart_going known stages.Closed producer h = refl
restart_going known stages.Handshake producer h = refl
restart_going known stages.Authenticate producer h = refl
restart_going known (stages.Create n) producer h = refl
restart_going known stages.Identify producer h = refl
restart_going known (stages.Produce id) producer h = refl
restart_going known (stages.Ended ending) producer h = absurd cc

restart : (known : Bool) (p : Producer) (handed : List Line) (r : Receiver) (to back : List ℕ) → Phase known p handed r to back → Ready known (restarted p.stage) p.producer Greets
restart known p handed r to back (inl h) = restart_ready known p.stage p.producer r.login h.1
restart known p handed r to back (inr (inl h)) = restart_ready known p.stage p.producer r.login h.ready
restart known p handed r to back (inr (inr h)) = restart_going known p.stage p.producer h.going

pub holds-connected : (known : Bool) (w : Delivery) → Holds known w → Holds known (record w { core = connected w.core; requests = []; answers = []; receiver = cut w.receiver })
holds-connected known w h = record {
  login = h.login;
  typed = h.typed;
  counts = h.counts;
  phase = inl (record { idle = refl; unread = refl; read = refl; none_to = refl; none_back = refl }, restart known w.core w.handed w.receiver w.requests w.answers h.phase);
}
