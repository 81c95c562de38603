-- What holds of a consumer, what keeps its partition, and what is under way between them, whatever happened.
use Rattle.std.proofs.Common.{◌≡◌, ℕ, zero, suc, ◌+◌, ◌≤◌, ◌<◌, Bool, true, false, cond, List, [], ◌∷◌, ◌++◌, length, take, drop, Option, Some, None, Result, Ok, Err, codes, refl, sym, ap, subst, ◌∙◌, append_assoc, arith, inl, inr, lit<}
use Rattle.std.specs.Prelude.{ℤ, pos, negsuc, FitsSigned, ◌⊎◌, ◌&&◌, ◌||◌, ◌≤ℤ◌, int_lt}
use Rattle.std.proofs.lemmas.Int.{ints}
use Rattle.std.proofs.lemmas.Slice.Eq.{bytes_eq-Decides}
use Rattle.std.specs.Ordering.{int_eq}
use Rattle.std.specs.Int.{w16, w32, w64}
use Rattle.std.specs.Str.{bytes_eq}
use Rattle.std.proofs.lemmas.List.{append-nil, take-append-drop}
use Rattle.kb_wire.specs.Codec.{int32}
use Rattle.kb_wire.specs.ErrorCode.{code_of}
use Rattle.kb_wire.specs.declared.api_key.TheConstants.{FETCH, SASL_HANDSHAKE, SASL_AUTHENTICATE}
use Rattle.kb_wire.specs.declared.error_code.ErrorCode.TheVariants.{SaslAuthenticationFailed, OffsetOutOfRange}
use Rattle.kb_api_group.specs.Frames.{Whole, Partial}
use Rattle.kb_api_group.specs.ClientFrames.{front}
use Rattle.kb_api_group.specs.Layouts.{request_header}
use Rattle.kb_api_group.specs.declared.plain.PlainLogin.{PlainLogin}
use Rattle.kb_api_data.specs.declared.fetch_v5.FetchPartitionReplyV5.{FetchPartitionReplyV5}
use Rattle.kb_client.specs.declared.fault.ClientFault.{ClientFault}
use Rattle.kb_client.specs.declared.fault.ClientFault.TheVariants as faults
use Rattle.kb_client.specs.declared.stage.Ending.TheVariants as endings
use Rattle.kb_client.specs.declared.fetching.Fetching.{Fetching}
use Rattle.kb_client.specs.declared.fetching.Fetching.TheVariants as stages
use Rattle.kb_client.specs.Sent.{Target}
use Rattle.kb_client.specs.Requests.{plain_message, handshake_text, authenticate_text}
use Rattle.kb_client.specs.Replies.{body_for}
use Rattle.kb_client.specs.Fetched.{fetch_text, arrival_of}
use Rattle.kb_client.specs.Lines.{Found, found_in}
use Rattle.kb_client.specs.Consumer as consumers
use Rattle.kb_client.specs.Consumer.{Consumer, fault_at, entered, restarted, connected, heard, heard_by, correlation, with_records, with_found, wanting, at_end, without_text, IsRequest, IsOutput, is_due, has_request, fed, fed_by, read_at, unasked, Inputs, OutputsText}
use Rattle.kb_client_spec.specs.Receiver as receivers
use Rattle.kb_client_spec.specs.Receiver.{Receiver, Login, Greets, Shaken, LoggedIn, Shut, Asked, Handshake, Authenticate, Request, request, outcome, replies, handshake_reply, authenticate_reply, knows, logs_in, shakes}
use Rattle.kb_client_spec.specs.Sending.{arrived, cut, if_given, if_come, reply_text}
use Rattle.kb_client_spec.specs.Partition.{IsLog, Log, end_of_log, batch_bytes, batches_given}
use Rattle.kb_client_spec.specs.Fetching.{Fetch, fetch_of, fetch_in, fitting, records_given, is_out_of_range, refused_partition, accepted, partition_answer, reply_body}
use Rattle.kb_client_spec.specs.Consuming.{Reading, Event, Appends, Trims, Deletes, Sends, Arrives, Serves, Refuses, Returns, Takes, Reconnects, answers_of, refused_with, with_fetch_answered, with_outcome, served_by, served_at, Steps, Runs, AreCalm, IsTyped, IsGiven, new_reading}
use Rattle.kb_client_spec.proofs.Texts.{int_apart, int_same, header, header_read, request_read, front_request, front_reply, front_nothing, front_part}
use Rattle.kb_client_spec.proofs.Asking.{handshake_body, handshake_short, handshake_asked, authenticate_body, authenticate_short, authenticate_asked}
use Rattle.kb_client_spec.proofs.Hearing.{body_read, handshake_heard, handshake_reply_len, authenticate_heard, authenticate_reply_len}
use Rattle.kb_client_spec.proofs.Fetches.{fetch_body, ask, fetch_short, fetch_asked, fetch_at, partition_value, replied_heard, replied_len}
use Rattle.kb_client_spec.proofs.Finding.{at_or_below, end_grows, fitting_small}
use Rattle.kb_client_spec.proofs.Giving as giving
use Rattle.kb_client_spec.proofs.Giving.{holds-grown, holds-connected, holds-entered, holds-taken, holds-replied, holds-refused, holds-same, holds-come, holds-begun, is_given}

-- the consumer, with a reply's batches as a value
abbrev under : Option (List (List ℕ)) → Reading → giving.World
under reply w = record { core = w.core; taken = w.taken; reply = reply; start = w.origin; batches = w.batches; met = w.met }

-- ---- how far the two are

Ready : Fetching → Login → Type 0
Ready stages.Closed login = Unit {0}
Ready stages.Handshake login = login ≡ Greets
Ready stages.Authenticate login = login ≡ Shaken
Ready stages.Fetch login = login ≡ LoggedIn
Ready stages.Finished login = Unit {0}
Ready (stages.Ended ending) login = Unit {0}

record IsQuiet (w : Reading) : Type 0 where
  idle : w.core.asked ≡ false
  unread : w.core.unread ≡ []
  read : w.greeter.unread ≡ []
  none_to : w.requests ≡ []
  none_back : w.answers ≡ []
  ready : Ready w.core.stage w.greeter.login

record IsAsking (w : Reading) : Type 0 where
  asked : w.core.asked ≡ true
  unread : w.core.unread ≡ []
  request : IsRequest w.core.stage w.core (w.greeter.unread ++ w.requests)
  none_back : w.answers ≡ []
  ready : Ready w.core.stage w.greeter.login

-- what a reply makes of a consumer at its stage
abbrev LoginAs : List ℕ → Fetching → Fetching → Type 0
LoginAs frame stage next = (c : Consumer) → c.stage ≡ stage → heard frame c ≡ entered next c

abbrev FetchAs : List ℕ → List (List ℕ) → Type 0
FetchAs frame read = (c : Consumer) → c.stage ≡ stages.Fetch → heard frame c ≡ with_records (batch_bytes read) c

record IsLoginReply (calm : Bool) (stage : Fetching) (login : Login) (frame : List ℕ) : Type 0 where
  next : Fetching
  goes : next ≡ stages.Finished → ⊥
  hears : LoginAs frame stage next
  ready : Ready next login
  sound : calm ≡ true → fault_at next ≡ None

abbrev IsReply : Bool → Option (List (List ℕ)) → Fetching → Login → List ℕ → Type 0
IsReply calm None stage login frame = IsLoginReply calm stage login frame
IsReply calm (Some read) stage login frame = (stage ≡ stages.Fetch) × (login ≡ LoggedIn) × FetchAs frame read

record IsAnswered (calm : Bool) (reply : Option (List (List ℕ))) (w : Reading) : Type 0 where
  asked : w.core.asked ≡ true
  going : fault_at w.core.stage ≡ None
  read : w.greeter.unread ≡ []
  none_to : w.requests ≡ []
  frame : List ℕ
  whole : front (w.core.unread ++ w.answers) ≡ Whole frame []
  comes : IsReply calm reply w.core.stage w.greeter.login frame

abbrev Phase : Bool → Option (List (List ℕ)) → Reading → Type 0
Phase calm reply w = ((reply ≡ None) × IsQuiet w) ⊎ (((reply ≡ None) × IsAsking w) ⊎ IsAnswered calm reply w)

-- where nothing is deleted and nothing refused: the user is known, the partition is there, the offset is in it, and no fault stands
record Sound (w : Reading) : Type 0 where
  there : w.there ≡ true
  topic : w.topic ≡ w.core.target.topic
  index : w.index ≡ w.core.target.partition
  low : w.start ≤ℤ w.core.found.offset
  high : w.core.found.offset ≤ℤ end_of_log w.origin w.batches
  known : knows w.greeter.users (plain_message w.core.target) ≡ true
  going : fault_at w.core.stage ≡ None

record Holds (calm : Bool) (offset : ℤ) (wanted : Option ℕ) (follow : Bool) (w : Reading) : Type 0 where
  typed : IsTyped w.core.target
  fits : FitsSigned w64 w.core.found.offset
  reply : Option (List (List ℕ))
  holds : giving.Holds offset wanted follow (under reply w)
  phase : Phase calm reply w
  sound : calm ≡ true → Sound w

-- ---- lists

abbrev no_bytes : List ℕ
no_bytes = []

take_nothing : (n : ℕ) → take n no_bytes ≡ no_bytes
take_nothing zero = refl
take_nothing (suc n) = refl

drop_nothing : (n : ℕ) → drop n no_bytes ≡ no_bytes
drop_nothing zero = refl
drop_nothing (suc n) = refl

taken_nothing : (n : ℕ) (bytes : List ℕ) → bytes ≡ [] → take n bytes ≡ []
taken_nothing n bytes e = ap (λ b. take n b) e ∙ take_nothing n

dropped_nothing : (n : ℕ) (bytes : List ℕ) → bytes ≡ [] → drop n bytes ≡ []
dropped_nothing n bytes e = ap (λ b. drop n b) e ∙ drop_nothing n

both_nothing : (a b : List ℕ) → a ≡ [] → b ≡ [] → a ++ b ≡ []
both_nothing a b e f = ap (λ x. x ++ b) e ∙ f

abbrev bytes : ℕ → List ℕ → List ℕ
bytes b rest = b ∷ rest

not_nothing : (b : ℕ) (rest : List ℕ) → bytes b rest ≡ no_bytes → ⊥
not_nothing b rest e = absurd cc

-- ---- the partition changes

abbrev changed : List (List ℕ) → ℤ → Bool → Reading → Reading
changed batches start there w = record w { batches = batches; start = start; there = there }

changed_phase : (calm : Bool) (reply : Option (List (List ℕ))) (batches : List (List ℕ)) (start : ℤ) (there : Bool) (w : Reading) → Phase calm reply w → Phase calm reply (changed batches start there w)
changed_phase calm reply batches start there w (inl h) = inl (h.0, record { idle = h.1.idle; unread = h.1.unread; read = h.1.read; none_to = h.1.none_to; none_back = h.1.none_back; ready = h.1.ready })
changed_phase calm reply batches start there w (inr (inl h)) = inr (inl (h.0, record { asked = h.1.asked; unread = h.1.unread; request = h.1.request; none_back = h.1.none_back; ready = h.1.ready }))
changed_phase calm reply batches start there w (inr (inr h)) = inr (inr (record { asked = h.asked; going = h.going; read = h.read; none_to = h.none_to; frame = h.frame; whole = h.whole; comes = h.comes }))

keeps-grown : (calm : Bool) (offset : ℤ) (wanted : Option ℕ) (follow : Bool) (b : List ℕ) (w : Reading) → IsLog w.origin (w.batches ++ b ∷ []) → Holds calm offset wanted follow w → Holds calm offset wanted follow (record w { batches = w.batches ++ b ∷ [] })
keeps-grown calm offset wanted follow b w log h = record { typed = h.typed; fits = h.fits; reply = h.reply; holds = holds-grown offset wanted follow b (under h.reply w) log h.holds; phase = changed_phase calm h.reply (w.batches ++ b ∷ []) w.start w.there w h.phase; sound = λ c. record { there = (h.sound c).there; topic = (h.sound c).topic; index = (h.sound c).index; low = (h.sound c).low; high = at_or_below w.core.found.offset (end_of_log w.origin w.batches) (end_of_log w.origin (w.batches ++ b ∷ [])) (h.sound c).high (end_grows w.origin w.batches (b ∷ []) log); known = (h.sound c).known; going = (h.sound c).going } }

-- what is deleted is in no reply any more; what is added behind it was there before
keeps-less : (calm : Bool) (offset : ℤ) (wanted : Option ℕ) (follow : Bool) (start : ℤ) (there : Bool) (w : Reading) → (calm ≡ true → ⊥) → Holds calm offset wanted follow w → Holds calm offset wanted follow (record w { start = start; there = there })
keeps-less calm offset wanted follow start there w not h = record { typed = h.typed; fits = h.fits; reply = h.reply; holds = h.holds; phase = changed_phase calm h.reply w.batches start there w h.phase; sound = λ c. absurd (not c) }

-- ---- lines are taken

taken_request : (stage : Fetching) (c : Consumer) (text : List ℕ) → IsRequest stage c text → IsRequest stage (without_text c) text
taken_request stages.Closed c text h = h
taken_request stages.Handshake c text h = h
taken_request stages.Authenticate c text h = h
taken_request stages.Fetch c text h = h
taken_request stages.Finished c text h = h
taken_request (stages.Ended ending) c text h = h

abbrev took : Reading → Reading
took w = record w { core = without_text w.core; taken = w.taken ++ w.core.found.text }

took_phase : (calm : Bool) (reply : Option (List (List ℕ))) (w : Reading) → Phase calm reply w → Phase calm reply (took w)
took_phase calm reply w (inl h) = inl (h.0, record { idle = h.1.idle; unread = h.1.unread; read = h.1.read; none_to = h.1.none_to; none_back = h.1.none_back; ready = h.1.ready })
took_phase calm reply w (inr (inl h)) = inr (inl (h.0, record { asked = h.1.asked; unread = h.1.unread; request = taken_request w.core.stage w.core (w.greeter.unread ++ w.requests) h.1.request; none_back = h.1.none_back; ready = h.1.ready }))
took_phase calm reply w (inr (inr h)) = inr (inr (record { asked = h.asked; going = h.going; read = h.read; none_to = h.none_to; frame = h.frame; whole = h.whole; comes = h.comes }))

keeps-taken : (calm : Bool) (offset : ℤ) (wanted : Option ℕ) (follow : Bool) (w : Reading) → Holds calm offset wanted follow w → Holds calm offset wanted follow (took w)
keeps-taken calm offset wanted follow w h = record { typed = h.typed; fits = h.fits; reply = h.reply; holds = holds-taken offset wanted follow (under h.reply w) h.holds; phase = took_phase calm h.reply w h.phase; sound = λ c. record { there = (h.sound c).there; topic = (h.sound c).topic; index = (h.sound c).index; low = (h.sound c).low; high = (h.sound c).high; known = (h.sound c).known; going = (h.sound c).going } }

-- ---- another connection begins

restart_ready : (stage : Fetching) → Ready (restarted stage) Greets
unfolding Ready
restart_ready stages.Closed = refl
restart_ready stages.Handshake = refl
restart_ready stages.Authenticate = refl
restart_ready stages.Fetch = refl
restart_ready stages.Finished = tt
restart_ready (stages.Ended ending) = tt

restarted_going : (stage : Fetching) → fault_at stage ≡ None → fault_at (restarted stage) ≡ None
restarted_going stages.Closed h = refl
restarted_going stages.Handshake h = refl
restarted_going stages.Authenticate h = refl
restarted_going stages.Fetch h = refl
restarted_going stages.Finished h = refl
restarted_going (stages.Ended ending) h = h

keeps-connected : (calm : Bool) (offset : ℤ) (wanted : Option ℕ) (follow : Bool) (w : Reading) → Holds calm offset wanted follow w → Holds calm offset wanted follow (record w { core = connected w.core; requests = []; answers = []; greeter = cut w.greeter })
keeps-connected calm offset wanted follow w h = record {
  typed = h.typed;
  fits = h.fits;
  reply = None;
  holds = holds-connected offset wanted follow (under h.reply w) h.holds;
  phase = inl (refl, record { idle = refl; unread = refl; read = refl; none_to = refl; none_back = refl; ready = restart_ready w.core.stage });
  sound = λ c. record { there = (h.sound c).there; topic = (h.sound c).topic; index = (h.sound c).index; low = (h.sound c).low; high = (h.sound c).high; known = (h.sound c).known; going = restarted_going w.core.stage (h.sound c).going };
}

-- ---- a request is sent

asked_request : (stage : Fetching) (c : Consumer) (text : List ℕ) → IsRequest stage c text → IsRequest stage (record c { asked = true }) text
asked_request stages.Closed c text h = h
asked_request stages.Handshake c text h = h
asked_request stages.Authenticate c text h = h
asked_request stages.Fetch c text h = h
asked_request stages.Finished c text h = h
asked_request (stages.Ended ending) c text h = h

not_due : (c : Consumer) → c.asked ≡ true → is_due c ≡ true → ⊥
not_due c asked due = let no : false ≡ true = sym (ap (λ b. cond b false (has_request c.stage)) asked) ∙ due in absurd cc

abbrev sent : List ℕ → Reading → Reading
sent text w = record w { core = record w.core { asked = true }; requests = w.requests ++ text }

sent_phase : (calm : Bool) (reply : Option (List (List ℕ))) (w : Reading) (text : List ℕ) → is_due w.core ≡ true → IsRequest w.core.stage w.core text → Phase calm reply w → Phase calm reply (sent text w)
sent_phase calm reply w text due is (inl h) = inr (inl (
  h.0,
  record {
    asked = refl;
    unread = h.1.unread;
    request = subst (λ t. IsRequest w.core.stage (record w.core { asked = true }) t) (sym (ap (λ x. x ++ (w.requests ++ text)) h.1.read ∙ ap (λ x. x ++ text) h.1.none_to)) (asked_request w.core.stage w.core text is);
    none_back = h.1.none_back;
    ready = h.1.ready;
  },
))
sent_phase calm reply w text due is (inr (inl h)) = absurd (not_due w.core h.1.asked due)
sent_phase calm reply w text due is (inr (inr h)) = absurd (not_due w.core h.asked due)

keeps-sent : (calm : Bool) (offset : ℤ) (wanted : Option ℕ) (follow : Bool) (w : Reading) (text : List ℕ) → is_due w.core ≡ true → IsRequest w.core.stage w.core text → Holds calm offset wanted follow w → Holds calm offset wanted follow (sent text w)
keeps-sent calm offset wanted follow w text due is h = record { typed = h.typed; fits = h.fits; reply = h.reply; holds = holds-same offset wanted follow true w.core.unread (under h.reply w) h.holds; phase = sent_phase calm h.reply w text due is h.phase; sound = λ c. record { there = (h.sound c).there; topic = (h.sound c).topic; index = (h.sound c).index; low = (h.sound c).low; high = (h.sound c).high; known = (h.sound c).known; going = (h.sound c).going } }

-- ---- bytes come to the broker

abbrev moved : ℕ → Reading → Reading
moved n w = record w { requests = drop n w.requests; greeter = arrived n w.greeter w.requests }

moved_phase : (calm : Bool) (reply : Option (List (List ℕ))) (n : ℕ) (w : Reading) → Phase calm reply w → Phase calm reply (moved n w)
moved_phase calm reply n w (inl h) = inl (h.0, record { idle = h.1.idle; unread = h.1.unread; read = both_nothing w.greeter.unread (take n w.requests) h.1.read (taken_nothing n w.requests h.1.none_to); none_to = dropped_nothing n w.requests h.1.none_to; none_back = h.1.none_back; ready = h.1.ready })
moved_phase calm reply n w (inr (inl h)) = inr (inl (
  h.0,
  record {
    asked = h.1.asked;
    unread = h.1.unread;
    request = subst (λ t. IsRequest w.core.stage w.core t) (sym (append_assoc w.greeter.unread (take n w.requests) (drop n w.requests) ∙ ap (λ x. w.greeter.unread ++ x) (take-append-drop n w.requests))) h.1.request;
    none_back = h.1.none_back;
    ready = h.1.ready;
  },
))
moved_phase calm reply n w (inr (inr h)) = inr (inr (record { asked = h.asked; going = h.going; read = both_nothing w.greeter.unread (take n w.requests) h.read (taken_nothing n w.requests h.none_to); none_to = dropped_nothing n w.requests h.none_to; frame = h.frame; whole = h.whole; comes = h.comes }))

keeps-moved : (calm : Bool) (offset : ℤ) (wanted : Option ℕ) (follow : Bool) (n : ℕ) (w : Reading) → Holds calm offset wanted follow w → Holds calm offset wanted follow (moved n w)
keeps-moved calm offset wanted follow n w h = record { typed = h.typed; fits = h.fits; reply = h.reply; holds = h.holds; phase = moved_phase calm h.reply n w h.phase; sound = λ c. record { there = (h.sound c).there; topic = (h.sound c).topic; index = (h.sound c).index; low = (h.sound c).low; high = (h.sound c).high; known = (h.sound c).known; going = (h.sound c).going } }

-- ---- bytes come to the consumer

quiet_by : (f : Option ClientFault) (c : Consumer) → c.asked ≡ false → fed_by f [] c ≡ c
quiet_by (Some fault) c e = refl
quiet_by None c e = rw e refl

fed_quiet : (c : Consumer) → c.asked ≡ false → fed [] c ≡ c
unfolding fed
fed_quiet c e = quiet_by (fault_at c.stage) c e

asked_by : {b : Bool} (p q : Consumer) → b ≡ true → cond b p q ≡ p
asked_by p q e = rw e refl

fed_asked : (c : Consumer) (piece : List ℕ) → fault_at c.stage ≡ None → c.asked ≡ true → fed piece c ≡ read_at (arrival_of (front (c.unread ++ piece))) (c.unread ++ piece) c
unfolding fed
fed_asked c piece going asked = ap (λ f. fed_by f piece c) going ∙ asked_by (read_at (arrival_of (front (c.unread ++ piece))) (c.unread ++ piece) c) (unasked piece c) asked

fed_part : (c : Consumer) (piece : List ℕ) → fault_at c.stage ≡ None → c.asked ≡ true → front (c.unread ++ piece) ≡ Partial → fed piece c ≡ record c { unread = c.unread ++ piece }
fed_part c piece going asked part = fed_asked c piece going asked ∙ ap (λ f. read_at (arrival_of f) (c.unread ++ piece) c) part

fed_whole : (c : Consumer) (piece frame : List ℕ) → fault_at c.stage ≡ None → c.asked ≡ true → front (c.unread ++ piece) ≡ Whole frame [] → fed piece c ≡ heard frame (record c { unread = [] })
fed_whole c piece frame going asked whole = fed_asked c piece going asked ∙ ap (λ f. read_at (arrival_of f) (c.unread ++ piece) c) whole

abbrev returned : ℕ → Reading → Reading
returned n w = record w { core = fed (take n w.answers) w.core; answers = drop n w.answers }

returned_nothing : (n : ℕ) (w : Reading) → fed (take n w.answers) w.core ≡ w.core → w.answers ≡ [] → returned n w ≡ w
returned_nothing n w same e = ap (λ c. record w { core = c; answers = drop n w.answers }) same ∙ ap (λ a. record w { answers = a }) (dropped_nothing n w.answers e ∙ sym e)

request_going : (stage : Fetching) (c : Consumer) (text : List ℕ) → IsRequest stage c text → fault_at stage ≡ None
request_going stages.Closed c text h = absurd h
request_going stages.Handshake c text h = refl
request_going stages.Authenticate c text h = refl
request_going stages.Fetch c text h = refl
request_going stages.Finished c text h = absurd h
request_going (stages.Ended ending) c text h = absurd h

-- what was given is as after any reply
record IsGone (s : List ℕ) (c : Consumer) : Type 0 where
  idle : (with_records s c).asked ≡ false
  unread : (with_records s c).unread ≡ []
  same : (with_records s c).target ≡ c.target
  ready : Ready (with_records s c).stage LoggedIn

end_ready : (follow : Bool) → Ready (at_end follow) LoggedIn
unfolding Ready
end_ready true = refl
end_ready false = tt

more_ready : (w : Option ℕ) → Ready (wanting w stages.Fetch) LoggedIn
unfolding Ready
more_ready None = refl
more_ready (Some zero) = tt
more_ready (Some (suc n)) = refl

record IsFoundBy (o : Option Found) (c : Consumer) : Type 0 where
  idle : (with_found o c).asked ≡ false
  unread : (with_found o c).unread ≡ []
  same : (with_found o c).target ≡ c.target
  ready : Ready (with_found o c).stage LoggedIn

found_by : (o : Option Found) (c : Consumer) → IsFoundBy o c
unfolding Ready
found_by None c = record { idle = refl; unread = refl; same = refl; ready = tt }
found_by (Some f) c = record { idle = refl; unread = refl; same = refl; ready = more_ready f.wanted }

gone : (s : List ℕ) (c : Consumer) → IsGone s c
gone [] c = record { idle = refl; unread = refl; same = refl; ready = end_ready c.follow }
gone (b ∷ s) c = let f = found_by (found_in (b ∷ s) c.found) c in record { idle = f.idle; unread = f.unread; same = f.same; ready = f.ready }

abbrev hushed : Reading → Consumer
hushed w = record w.core { unread = [] }

returned_all : (calm : Bool) (offset : ℤ) (wanted : Option ℕ) (follow : Bool) (n : ℕ) (w : Reading) (reply : Option (List (List ℕ))) → IsTyped w.core.target → FitsSigned w64 w.core.found.offset → giving.Holds offset wanted follow (under reply w) → (calm ≡ true → Sound w) → (a : IsAnswered calm reply w) → IsReply calm reply w.core.stage w.greeter.login a.frame → drop n w.answers ≡ [] → Holds calm offset wanted follow (record w { core = heard a.frame (hushed w); answers = drop n w.answers })
returned_all calm offset wanted follow n w None typed fits h sound a x rest =
    subst (λ c. Holds calm offset wanted follow (record w { core = c; answers = drop n w.answers })) (sym (x.hears (hushed w) refl)) (record {
      typed = typed;
      fits = fits;
      reply = None;
      holds = holds-entered offset wanted follow x.next (under None w) x.goes h;
      phase = inl (refl, record { idle = refl; unread = refl; read = a.read; none_to = a.none_to; none_back = rest; ready = x.ready });
      sound = λ c. record { there = (sound c).there; topic = (sound c).topic; index = (sound c).index; low = (sound c).low; high = (sound c).high; known = (sound c).known; going = x.sound c };
    })
returned_all calm offset wanted follow n w (Some read) typed fits h sound a x rest =
    let hush : giving.Holds offset wanted follow (under (Some read) (record w { core = hushed w })) = holds-same offset wanted follow w.core.asked [] (under (Some read) w) h in
    let g = gone (batch_bytes read) (hushed w) in
    subst (λ c. Holds calm offset wanted follow (record w { core = c; answers = drop n w.answers })) (sym (x.2 (hushed w) x.0)) (record {
      typed = subst IsTyped (sym g.same) typed;
      fits = giving.come_fits offset wanted follow (under (Some read) (record w { core = hushed w })) read hush hush.reply fits;
      reply = None;
      holds = holds-come offset wanted follow (under (Some read) (record w { core = hushed w })) (Some read) hush hush.reply;
      phase = inl (refl, record { idle = g.idle; unread = g.unread; read = a.read; none_to = a.none_to; none_back = rest; ready = subst (Ready (with_records (batch_bytes read) (hushed w)).stage) (sym x.1) g.ready });
      sound = λ c. record {
        there = (sound c).there;
        topic = (sound c).topic ∙ ap (λ (t : Target). t.topic) (sym g.same);
        index = (sound c).index ∙ ap (λ (t : Target). t.partition) (sym g.same);
        low = at_or_below w.start w.core.found.offset (with_records (batch_bytes read) (hushed w)).found.offset (sound c).low (giving.come_rises offset wanted follow (under (Some read) (record w { core = hushed w })) read hush hush.reply);
        high = giving.come_ends offset wanted follow (under (Some read) (record w { core = hushed w })) read hush hush.reply (sound c).high;
        known = subst (λ (t : Target). knows w.greeter.users (plain_message t) ≡ true) (sym g.same) (sound c).known;
        going = giving.come_going offset wanted follow (under (Some read) (record w { core = hushed w })) read hush hush.reply;
      };
    })

returned_full : (calm : Bool) (offset : ℤ) (wanted : Option ℕ) (follow : Bool) (n : ℕ) (w : Reading) (h : Holds calm offset wanted follow w) → IsAnswered calm h.reply w → drop n w.answers ≡ [] → Holds calm offset wanted follow (returned n w)
returned_full calm offset wanted follow n w h a rest =
    let piece : List ℕ = take n w.answers in
    let all : piece ≡ w.answers = sym (append-nil piece) ∙ ap (λ d. piece ++ d) (sym rest) ∙ take-append-drop n w.answers in
    let whole : front (w.core.unread ++ piece) ≡ Whole a.frame [] = ap (λ b. front (w.core.unread ++ b)) all ∙ a.whole in
    subst (λ c. Holds calm offset wanted follow (record w { core = c; answers = drop n w.answers })) (sym (fed_whole w.core piece a.frame a.going a.asked whole)) (returned_all calm offset wanted follow n w h.reply h.typed h.fits h.holds h.sound a a.comes rest)

returned_part : (calm : Bool) (offset : ℤ) (wanted : Option ℕ) (follow : Bool) (n : ℕ) (w : Reading) (b : ℕ) (rest : List ℕ) (h : Holds calm offset wanted follow w) → IsAnswered calm h.reply w → drop n w.answers ≡ b ∷ rest → Holds calm offset wanted follow (returned n w)
returned_part calm offset wanted follow n w b rest h a left =
    let piece : List ℕ = take n w.answers in
    let joined : (w.core.unread ++ piece) ++ drop n w.answers ≡ w.core.unread ++ w.answers = append_assoc w.core.unread piece (drop n w.answers) ∙ ap (λ x. w.core.unread ++ x) (take-append-drop n w.answers) in
    let whole : front ((w.core.unread ++ piece) ++ drop n w.answers) ≡ Whole a.frame [] = ap front joined ∙ a.whole in
    let part : front (w.core.unread ++ piece) ≡ Partial = front_part (w.core.unread ++ piece) (drop n w.answers) a.frame whole (λ e. not_nothing b rest (sym left ∙ e)) in
    subst (λ c. Holds calm offset wanted follow (record w { core = c; answers = drop n w.answers })) (sym (fed_part w.core piece a.going a.asked part)) (record {
      typed = h.typed;
      fits = h.fits;
      reply = h.reply;
      holds = holds-same offset wanted follow w.core.asked (w.core.unread ++ piece) (under h.reply w) h.holds;
      phase = inr (inr (record { asked = a.asked; going = a.going; read = a.read; none_to = a.none_to; frame = a.frame; whole = whole; comes = a.comes }));
      sound = λ c. record { there = (h.sound c).there; topic = (h.sound c).topic; index = (h.sound c).index; low = (h.sound c).low; high = (h.sound c).high; known = (h.sound c).known; going = (h.sound c).going };
    })

returned_by : (calm : Bool) (offset : ℤ) (wanted : Option ℕ) (follow : Bool) (n : ℕ) (w : Reading) (rest : List ℕ) (h : Holds calm offset wanted follow w) → IsAnswered calm h.reply w → drop n w.answers ≡ rest → Holds calm offset wanted follow (returned n w)
returned_by calm offset wanted follow n w [] h a left = returned_full calm offset wanted follow n w h a left
returned_by calm offset wanted follow n w (b ∷ rest) h a left = returned_part calm offset wanted follow n w b rest h a left

returned_in : (calm : Bool) (offset : ℤ) (wanted : Option ℕ) (follow : Bool) (n : ℕ) (w : Reading) (h : Holds calm offset wanted follow w) → Phase calm h.reply w → Holds calm offset wanted follow (returned n w)
returned_in calm offset wanted follow n w h (inl q) =
    let same : fed (take n w.answers) w.core ≡ w.core = ap (λ b. fed b w.core) (taken_nothing n w.answers q.1.none_back) ∙ fed_quiet w.core q.1.idle in
    subst (Holds calm offset wanted follow) (sym (returned_nothing n w same q.1.none_back)) h
returned_in calm offset wanted follow n w h (inr (inl a)) =
    let piece : take n w.answers ≡ [] = taken_nothing n w.answers a.1.none_back in
    let going : fault_at w.core.stage ≡ None = request_going w.core.stage w.core (w.greeter.unread ++ w.requests) a.1.request in
    let few : front (w.core.unread ++ take n w.answers) ≡ Partial = ap front (both_nothing w.core.unread (take n w.answers) a.1.unread piece) ∙ front_nothing in
    let same : fed (take n w.answers) w.core ≡ w.core = fed_part w.core (take n w.answers) going a.1.asked few ∙ ap (λ u. record w.core { unread = u }) (ap (λ x. w.core.unread ++ x) piece ∙ append-nil w.core.unread) in
    subst (Holds calm offset wanted follow) (sym (returned_nothing n w same a.1.none_back)) h
returned_in calm offset wanted follow n w h (inr (inr a)) = returned_by calm offset wanted follow n w (drop n w.answers) h a refl

keeps-returned : (calm : Bool) (offset : ℤ) (wanted : Option ℕ) (follow : Bool) (n : ℕ) (w : Reading) → Holds calm offset wanted follow w → Holds calm offset wanted follow (returned n w)
keeps-returned calm offset wanted follow n w h = returned_in calm offset wanted follow n w h h.phase

-- ---- a request is served

abbrev asks : ℤ → Asked → Request
asks id asked = record { correlation_id = id; asked = asked }

abbrev bare : Receiver → Receiver
bare r = record r { unread = [] }

hears_at : (stage : Fetching) (c : Consumer) (id : ℤ) (body : List ℕ) → c.stage ≡ stage → correlation stage ≡ id → FitsSigned w32 id → heard (int32.written id ++ body) c ≡ heard_by stage (Ok body) c
unfolding heard
hears_at stage c id body is same fits = ap (λ s. heard_by s (body_for (correlation s) (int32.written id ++ body)) c) is ∙ ap (λ i. heard_by stage (body_for i (int32.written id ++ body)) c) same ∙ ap (λ r. heard_by stage r c) (body_read id body fits)

-- a request of the login is answered
record Greeted (calm : Bool) (w : Reading) (text : List ℕ) : Type 0 where
  m : List ℕ
  whole : front text ≡ Whole m []
  other : fetch_of m ≡ None
  id : ℤ
  asked : Asked
  reads : request m ≡ asks id asked
  body : List ℕ
  after : Receiver
  comes : outcome asked (bare w.greeter) ≡ replies body after
  least : 4 ≤ length body
  most : length body ≤ 2000000
  read : after.unread ≡ []
  same : after.users ≡ w.greeter.users
  gives : IsLoginReply calm w.core.stage after.login (int32.written id ++ body)

other_key : (key version id : ℤ) (body : List ℕ) → FitsSigned w16 key → FitsSigned w16 version → FitsSigned w32 id → fetch_in (Ok (header key version id, body)) ≡ None → fetch_of (request_header.written (header key version id) ++ body) ≡ None
unfolding fetch_of
other_key key version id body k v i e = ap fetch_in (header_read key version id body k v i) ∙ e

plain_same : bytes_eq (codes "PLAIN") (codes "PLAIN") ≡ true
unfolding lib.Utf8.encode
plain_same = refl

not_authenticate : stages.Authenticate ≡ stages.Finished → ⊥
not_authenticate e = cc

not_fetch : stages.Fetch ≡ stages.Finished → ⊥
not_fetch e = cc

not_denied : stages.Ended endings.Denied ≡ stages.Finished → ⊥
not_denied e = cc

no_false : false ≡ true → ⊥
no_false e = absurd cc

no_true : true ≡ false → ⊥
no_true e = absurd cc

greeted_handshake : (calm : Bool) (w : Reading) (text : List ℕ) → w.core.stage ≡ stages.Handshake → text ≡ handshake_text (pos 1) → w.greeter.login ≡ Greets → Greeted calm w text
unfolding handshake_body header Ready
greeted_handshake calm w text at is ready = record {
  m = request_header.written (header SASL_HANDSHAKE (pos 1) (pos 1)) ++ handshake_body;
  whole = ap front is ∙ front_request SASL_HANDSHAKE (pos 1) (pos 1) handshake_body handshake_short;
  other = other_key SASL_HANDSHAKE (pos 1) (pos 1) handshake_body (record { sfits = lit< tt }) (record { sfits = lit< tt }) (record { sfits = lit< tt }) refl;
  id = pos 1;
  asked = Handshake (codes "PLAIN");
  reads = request_read SASL_HANDSHAKE (pos 1) (pos 1) handshake_body (record { sfits = lit< tt }) (record { sfits = lit< tt }) (record { sfits = lit< tt }) ∙ ap (λ a. asks (pos 1) a) handshake_asked;
  body = handshake_reply (pos 0);
  after = record w.greeter { unread = []; login = Shaken };
  comes = ap (λ l. receivers.shaken l (codes "PLAIN") (bare w.greeter)) ready ∙ ap (λ b. shakes b (bare w.greeter)) plain_same;
  least = omega (arith, handshake_reply_len);
  most = omega (arith, handshake_reply_len);
  read = refl;
  same = refl;
  gives = record {
    next = stages.Authenticate;
    goes = not_authenticate;
    hears = λ c same. hears_at stages.Handshake c (pos 1) (handshake_reply (pos 0)) (same ∙ at) refl (record { sfits = lit< tt }) ∙ ap (λ x. entered (consumers.handshaken x) c) handshake_heard;
    ready = refl;
    sound = λ c. refl;
  };
}

greeted_login : (calm known : Bool) (w : Reading) (text : List ℕ) → w.core.stage ≡ stages.Authenticate → text ≡ authenticate_text (pos 2) w.core.target → w.greeter.login ≡ Shaken → knows w.greeter.users (plain_message w.core.target) ≡ known → IsTyped w.core.target → (calm ≡ true → known ≡ true) → Greeted calm w text
unfolding authenticate_body header Ready
greeted_login calm true w text at is ready login typed right = record {
  m = request_header.written (header SASL_AUTHENTICATE (pos 0) (pos 2)) ++ authenticate_body w.core.target;
  whole = ap front is ∙ front_request SASL_AUTHENTICATE (pos 0) (pos 2) (authenticate_body w.core.target) (authenticate_short w.core.target typed.short);
  other = other_key SASL_AUTHENTICATE (pos 0) (pos 2) (authenticate_body w.core.target) (record { sfits = lit< tt }) (record { sfits = lit< tt }) (record { sfits = lit< tt }) refl;
  id = pos 2;
  asked = Authenticate (plain_message w.core.target);
  reads = request_read SASL_AUTHENTICATE (pos 0) (pos 2) (authenticate_body w.core.target) (record { sfits = lit< tt }) (record { sfits = lit< tt }) (record { sfits = lit< tt }) ∙ ap (λ a. asks (pos 2) a) (authenticate_asked w.core.target typed.short);
  body = authenticate_reply (pos 0);
  after = record w.greeter { unread = []; login = LoggedIn };
  comes = ap (λ l. receivers.authenticated l (plain_message w.core.target) (bare w.greeter)) ready ∙ ap (λ b. logs_in b (bare w.greeter)) login;
  least = omega (arith, authenticate_reply_len (pos 0));
  most = omega (arith, authenticate_reply_len (pos 0));
  read = refl;
  same = refl;
  gives = record {
    next = stages.Fetch;
    goes = not_fetch;
    hears = λ c same. hears_at stages.Authenticate c (pos 2) (authenticate_reply (pos 0)) (same ∙ at) refl (record { sfits = lit< tt }) ∙ ap (λ x. entered (consumers.logged_in x) c) (authenticate_heard (pos 0) (record { sfits = lit< tt }));
    ready = refl;
    sound = λ c. refl;
  };
}
greeted_login calm false w text at is ready login typed right = record {
  m = request_header.written (header SASL_AUTHENTICATE (pos 0) (pos 2)) ++ authenticate_body w.core.target;
  whole = ap front is ∙ front_request SASL_AUTHENTICATE (pos 0) (pos 2) (authenticate_body w.core.target) (authenticate_short w.core.target typed.short);
  other = other_key SASL_AUTHENTICATE (pos 0) (pos 2) (authenticate_body w.core.target) (record { sfits = lit< tt }) (record { sfits = lit< tt }) (record { sfits = lit< tt }) refl;
  id = pos 2;
  asked = Authenticate (plain_message w.core.target);
  reads = request_read SASL_AUTHENTICATE (pos 0) (pos 2) (authenticate_body w.core.target) (record { sfits = lit< tt }) (record { sfits = lit< tt }) (record { sfits = lit< tt }) ∙ ap (λ a. asks (pos 2) a) (authenticate_asked w.core.target typed.short);
  body = authenticate_reply (code_of SaslAuthenticationFailed);
  after = record w.greeter { unread = []; login = Shut };
  comes = ap (λ l. receivers.authenticated l (plain_message w.core.target) (bare w.greeter)) ready ∙ ap (λ b. logs_in b (bare w.greeter)) login;
  least = omega (arith, authenticate_reply_len (code_of SaslAuthenticationFailed));
  most = omega (arith, authenticate_reply_len (code_of SaslAuthenticationFailed));
  read = refl;
  same = refl;
  gives = record {
    next = stages.Ended endings.Denied;
    goes = not_denied;
    hears = λ c same. hears_at stages.Authenticate c (pos 2) (authenticate_reply (code_of SaslAuthenticationFailed)) (same ∙ at) refl (record { sfits = lit< tt }) ∙ ap (λ x. entered (consumers.logged_in x) c) (authenticate_heard (code_of SaslAuthenticationFailed) (record { sfits = lit< tt }));
    ready = tt;
    sound = λ c. absurd (no_false (right c));
  };
}

unread_is : (w : Reading) → w.requests ≡ [] → w.greeter.unread ≡ w.greeter.unread ++ w.requests
unread_is w e = sym (append-nil w.greeter.unread) ∙ ap (λ t. w.greeter.unread ++ t) (sym e)

replied_front : (w : Reading) (id : ℤ) (body : List ℕ) → w.core.unread ≡ [] → w.answers ≡ [] → 4 ≤ length body → length body ≤ 2000000 → front (w.core.unread ++ (w.answers ++ reply_text id (Some body))) ≡ Whole (int32.written id ++ body) []
replied_front w id body unread back least most = ap front (ap (λ u. u ++ (w.answers ++ reply_text id (Some body))) unread ∙ ap (λ b. b ++ reply_text id (Some body)) back) ∙ front_reply id body least most

abbrev Answers : Type 0
Answers = Fetch → FetchPartitionReplyV5

part_served : (calm : Bool) (offset : ℤ) (wanted : Option ℕ) (follow : Bool) (g : Answers) (w : Reading) (m : List ℕ) (b : ℕ) (to : List ℕ) → Holds calm offset wanted follow w → front (w.greeter.unread ++ w.requests) ≡ Whole m [] → w.requests ≡ b ∷ to → Holds calm offset wanted follow (served_at g (front w.greeter.unread) w)
part_served calm offset wanted follow g w m b to h whole left =
    let part : front w.greeter.unread ≡ Partial = front_part w.greeter.unread w.requests m whole (λ e. not_nothing b to (sym left ∙ e)) in
    subst (Holds calm offset wanted follow) (sym (ap (λ f. served_at g f w) part)) h

greeted_served : (calm : Bool) (offset : ℤ) (wanted : Option ℕ) (follow : Bool) (answers : Answers) (w : Reading) (h : Holds calm offset wanted follow w) → h.reply ≡ None → IsAsking w → Greeted calm w (w.greeter.unread ++ w.requests) → (to : List ℕ) → w.requests ≡ to → Holds calm offset wanted follow (served_at answers (front w.greeter.unread) w)
greeted_served calm offset wanted follow answers w h none a g (b ∷ to) left = part_served calm offset wanted follow answers w g.m b to h g.whole left
greeted_served calm offset wanted follow answers w h none a g [] left =
    let whole : front w.greeter.unread ≡ Whole g.m [] = ap front (unread_is w left) ∙ g.whole in
    let is : served_at answers (front w.greeter.unread) w ≡ record w { greeter = g.after; answers = w.answers ++ reply_text g.id (Some g.body) } =
    ap (λ f. served_at answers f w) whole ∙ ap (λ o. served_by o answers g.m (bare w.greeter) w) g.other ∙ ap (λ q. with_outcome q.correlation_id (outcome q.asked (bare w.greeter)) w) g.reads ∙ ap (λ o. with_outcome g.id o w) g.comes in
    subst (Holds calm offset wanted follow) (sym is) (record {
      typed = h.typed;
      fits = h.fits;
      reply = None;
      holds = subst (λ r. giving.Holds offset wanted follow (under r w)) none h.holds;
      phase = inr (inr (record {
        asked = a.asked;
        going = request_going w.core.stage w.core (w.greeter.unread ++ w.requests) a.request;
        read = g.read;
        none_to = left;
        frame = int32.written g.id ++ g.body;
        whole = replied_front w g.id g.body a.unread a.none_back g.least g.most;
        comes = g.gives;
      }));
      sound = λ c. record { there = (h.sound c).there; topic = (h.sound c).topic; index = (h.sound c).index; low = (h.sound c).low; high = (h.sound c).high; known = subst (λ us. knows us (plain_message w.core.target) ≡ true) (sym g.same) (h.sound c).known; going = (h.sound c).going };
    })

abbrev offset_of : Reading → ℤ
offset_of w = w.core.found.offset

abbrev frame_of : Reading → List ℕ
frame_of w = request_header.written (header FETCH (pos 5) (pos 3)) ++ fetch_body w.core.target (offset_of w) w.core.follow

abbrev fetch_now : Reading → Fetch
fetch_now w = fetch_at w.core.target (offset_of w)

abbrev log_now : Reading → Log
log_now w = record { start = w.start; end = end_of_log w.origin w.batches; batches = w.batches }

abbrev read_of : ℕ → Reading → List (List ℕ)
read_of n w = batches_given (fitting n (offset_of w) w.batches) (offset_of w) w.batches

fetch_whole : (w : Reading) (text : List ℕ) → text ≡ fetch_text (pos 3) w.core.target (offset_of w) w.core.follow → IsTyped w.core.target → front text ≡ Whole (frame_of w) []
unfolding fetch_body ask
fetch_whole w text is typed = ap front is ∙ front_request FETCH (pos 5) (pos 3) (fetch_body w.core.target (offset_of w) w.core.follow) (fetch_short w.core.target (offset_of w) w.core.follow typed.short.topic)

fetch_found : (w : Reading) → IsTyped w.core.target → FitsSigned w64 (offset_of w) → fetch_of (frame_of w) ≡ Some (fetch_at w.core.target (offset_of w))
unfolding fetch_of header
fetch_found w typed fits = ap fetch_in (header_read FETCH (pos 5) (pos 3) (fetch_body w.core.target (offset_of w) w.core.follow) (record { sfits = lit< tt }) (record { sfits = lit< tt }) (record { sfits = lit< tt })) ∙ fetch_asked w.core.target (offset_of w) w.core.follow typed.short.topic typed.topic typed.partition fits

fetch_id : (w : Reading) → (request (frame_of w)).correlation_id ≡ pos 3
fetch_id w = ap (λ q. q.correlation_id) (request_read FETCH (pos 5) (pos 3) (fetch_body w.core.target (offset_of w) w.core.follow) (record { sfits = lit< tt }) (record { sfits = lit< tt }) (record { sfits = lit< tt }))

-- what a fetch is answered: an error code, or batches
abbrev IsRefused : Bool → ℤ → FetchPartitionReplyV5 → Type 0
IsRefused calm index p = (code : ℤ) × FitsSigned w16 code × (code ≡ pos 0 → ⊥) × (calm ≡ true → ⊥) × (p ≡ refused_partition index code)

abbrev IsAccepted : Reading → FetchPartitionReplyV5 → Type 0
IsAccepted w p = (n : ℕ) × (p ≡ accepted w.core.target.partition (log_now w) (batch_bytes (read_of n w)))

abbrev IsEither : Bool → Reading → FetchPartitionReplyV5 → Type 0
IsEither calm w p = IsRefused calm w.core.target.partition p ⊎ IsAccepted w p

some_code : (n : ℕ) → 0 < n → pos n ≡ pos 0 → ⊥
some_code n up e = absurd (grind (arith, up, e))

ranged : (calm out : Bool) (n : ℕ) (w : Reading) → (calm ≡ true → out ≡ false) → IsEither calm w (cond out (refused_partition w.core.target.partition (code_of OffsetOutOfRange)) (accepted w.core.target.partition (log_now w) (records_given n (offset_of w) w.batches)))
ranged calm true n w in_range = inl (pos 1, record { sfits = lit< tt }, some_code 1 (omega arith), (λ c. no_true (in_range c)), refl)
ranged calm false n w in_range = inr (n, refl)

kept_or_not : (calm there : Bool) (n : ℕ) (w : Reading) → (calm ≡ true → there ≡ true) → (calm ≡ true → is_out_of_range (log_now w) (offset_of w) ≡ false) → IsEither calm w (partition_answer n (fetch_now w) (cond there (Some (log_now w)) None))
kept_or_not calm true n w is_there in_range = ranged calm (is_out_of_range (log_now w) (offset_of w)) n w in_range
kept_or_not calm false n w is_there in_range = inl (pos 3, record { sfits = lit< tt }, some_code 3 (omega arith), (λ c. no_false (is_there c)), refl)

sound_there : (w : Reading) → Sound w → (w.there && bytes_eq w.core.target.topic w.topic && int_eq w.core.target.partition w.index) ≡ true
sound_there w s =
    ap (λ t. t && bytes_eq w.core.target.topic w.topic && int_eq w.core.target.partition w.index) s.there
    ∙ ap (λ x. bytes_eq w.core.target.topic x && int_eq w.core.target.partition w.index) s.topic
    ∙ ap (λ t. t && int_eq w.core.target.partition w.index) ((bytes_eq-Decides w.core.target.topic w.core.target.topic).1 refl)
    ∙ ap (λ z. int_eq w.core.target.partition z) s.index ∙ int_same w.core.target.partition

within : (start end offset : ℤ) → start ≤ℤ offset → offset ≤ℤ end → (int_lt offset start || int_lt end offset) ≡ false
within start end offset low high = both (int_lt offset start) (int_lt end offset) refl refl
  where
    both : (p q : Bool) → int_lt offset start ≡ p → int_lt end offset ≡ q → (p || q) ≡ false
    both false false x y = refl
    both true q x y = absurd (omega (arith, ints))
    both false true x y = absurd (omega (arith, ints))

answered : (calm : Bool) (n : ℕ) (w : Reading) → (calm ≡ true → Sound w) → IsEither calm w (answers_of n w (fetch_now w))
answered calm n w sound =
    kept_or_not calm (w.there && bytes_eq w.core.target.topic w.topic && int_eq w.core.target.partition w.index) n w
    (λ c. sound_there w (sound c)) (λ c. within w.start (end_of_log w.origin w.batches) (offset_of w) (sound c).low (sound c).high)

refusal : (calm : Bool) (code : ℤ) (w : Reading) → FitsSigned w16 code → (code ≡ pos 0 → ⊥) → (calm ≡ true → ⊥) → IsEither calm w (refused_with code (fetch_now w))
refusal calm code w fits other not = inl (code, fits, other, not, refl)

-- the whole reply to a fetch of one that is logged in
fetch_replied : (g : Answers) (w : Reading) → w.greeter.unread ++ w.requests ≡ fetch_text (pos 3) w.core.target (offset_of w) w.core.follow → w.greeter.login ≡ LoggedIn → w.requests ≡ [] → IsTyped w.core.target → FitsSigned w64 (offset_of w) → served_at g (front w.greeter.unread) w ≡ record w { greeter = bare w.greeter; answers = w.answers ++ reply_text (pos 3) (Some (reply_body (fetch_now w) (g (fetch_now w)))); met = length w.batches }
fetch_replied g w text ready left typed fits =
    let whole : front w.greeter.unread ≡ Whole (frame_of w) [] = ap front (unread_is w left) ∙ fetch_whole w (w.greeter.unread ++ w.requests) text typed in
    ap (λ f. served_at g f w) whole ∙ ap (λ o. served_by o g (frame_of w) (bare w.greeter) w) (fetch_found w typed fits) ∙ ap (λ i. with_fetch_answered w.greeter.login g i (fetch_now w) (bare w.greeter) w) (fetch_id w) ∙ ap (λ l. with_fetch_answered l g (pos 3) (fetch_now w) (bare w.greeter) w) ready

accepted_hears : (n : ℕ) (w : Reading) → IsTyped w.core.target → length (batch_bytes (read_of n w)) ≤ 1048588 → FetchAs (int32.written (pos 3) ++ reply_body (fetch_now w) (accepted w.core.target.partition (log_now w) (batch_bytes (read_of n w)))) (read_of n w)
unfolding partition_value
accepted_hears n w typed small c at = hears_at stages.Fetch c (pos 3) (reply_body (fetch_now w) (accepted w.core.target.partition (log_now w) (batch_bytes (read_of n w)))) at refl (record { sfits = lit< tt }) ∙ ap (λ x. consumers.after_fetch x c) (replied_heard (fetch_now w) (pos 0) (log_now w).end (log_now w).start (batch_bytes (read_of n w)) typed.short.topic typed.topic typed.partition (record { sfits = lit< tt }) small)

accepted_served : (calm : Bool) (offset : ℤ) (wanted : Option ℕ) (follow : Bool) (n : ℕ) (w v : Reading) (p : FetchPartitionReplyV5) (h : Holds calm offset wanted follow w) → h.reply ≡ None → IsAsking w → w.core.stage ≡ stages.Fetch → w.greeter.login ≡ LoggedIn → w.requests ≡ [] → v ≡ record w { greeter = bare w.greeter; answers = w.answers ++ reply_text (pos 3) (Some (reply_body (fetch_now w) p)); met = length w.batches } → p ≡ accepted w.core.target.partition (log_now w) (batch_bytes (read_of n w)) → Holds calm offset wanted follow v
accepted_served calm offset wanted follow n w v p h none a at ready left is told =
    let small : length (batch_bytes (read_of n w)) ≤ 1048588 = fitting_small n (offset_of w) w.origin w.batches h.holds.log in
    let body : List ℕ = reply_body (fetch_now w) (accepted w.core.target.partition (log_now w) (batch_bytes (read_of n w))) in
    let len : length body ≡ 52 + length w.core.target.topic + length (batch_bytes (read_of n w)) = replied_len (fetch_now w) (pos 0) (log_now w).end (log_now w).start (batch_bytes (read_of n w)) in
    subst (Holds calm offset wanted follow) (sym (is ∙ ap (λ q. record w { greeter = bare w.greeter; answers = w.answers ++ reply_text (pos 3) (Some (reply_body (fetch_now w) q)); met = length w.batches }) told)) (record {
      typed = h.typed;
      fits = h.fits;
      reply = Some (read_of n w);
      holds = holds-replied offset wanted follow (fitting n (offset_of w) w.batches) (under None w) at (subst (λ r. giving.Holds offset wanted follow (under r w)) none h.holds);
      phase = inr (inr (record {
        asked = a.asked;
        going = request_going w.core.stage w.core (w.greeter.unread ++ w.requests) a.request;
        read = refl;
        none_to = left;
        frame = int32.written (pos 3) ++ body;
        whole = replied_front w (pos 3) body a.unread a.none_back (omega (arith, len)) (omega (arith, len, small, h.typed.short.topic));
        comes = (at, ready, accepted_hears n w h.typed small);
      }));
      sound = λ c. record { there = (h.sound c).there; topic = (h.sound c).topic; index = (h.sound c).index; low = (h.sound c).low; high = (h.sound c).high; known = (h.sound c).known; going = (h.sound c).going };
    })

not_ended : (code : ℤ) → stages.Ended (endings.Code code) ≡ stages.Finished → ⊥
not_ended code e = cc

refused_hears : (code : ℤ) (w : Reading) → w.core.stage ≡ stages.Fetch → IsTyped w.core.target → FitsSigned w16 code → (code ≡ pos 0 → ⊥) → LoginAs (int32.written (pos 3) ++ reply_body (fetch_now w) (refused_partition w.core.target.partition code)) w.core.stage (stages.Ended (endings.Code code))
unfolding partition_value
refused_hears code w at typed fits other c same =
    hears_at stages.Fetch c (pos 3) (reply_body (fetch_now w) (refused_partition w.core.target.partition code)) (same ∙ at) refl (record { sfits = lit< tt })
    ∙ ap (λ x. consumers.after_fetch x c) (replied_heard (fetch_now w) code (negsuc 0) (negsuc 0) [] typed.short.topic typed.topic typed.partition fits (omega arith))
    ∙ ap (λ b. cond b (with_records [] c) (entered (stages.Ended (endings.Code code)) c)) (int_apart code (pos 0) other)

refused_served : (calm : Bool) (offset : ℤ) (wanted : Option ℕ) (follow : Bool) (code : ℤ) (w v : Reading) (p : FetchPartitionReplyV5) (h : Holds calm offset wanted follow w) → h.reply ≡ None → IsAsking w → w.core.stage ≡ stages.Fetch → w.requests ≡ [] → v ≡ record w { greeter = bare w.greeter; answers = w.answers ++ reply_text (pos 3) (Some (reply_body (fetch_now w) p)); met = length w.batches } → FitsSigned w16 code → (code ≡ pos 0 → ⊥) → (calm ≡ true → ⊥) → p ≡ refused_partition w.core.target.partition code → Holds calm offset wanted follow v
unfolding Ready
refused_served calm offset wanted follow code w v p h none a at left is fits other not told =
    let body : List ℕ = reply_body (fetch_now w) (refused_partition w.core.target.partition code) in
    let len : length body ≡ 52 + length w.core.target.topic + 0 = replied_len (fetch_now w) code (negsuc 0) (negsuc 0) [] in
    subst (Holds calm offset wanted follow) (sym (is ∙ ap (λ q. record w { greeter = bare w.greeter; answers = w.answers ++ reply_text (pos 3) (Some (reply_body (fetch_now w) q)); met = length w.batches }) told)) (record {
      typed = h.typed;
      fits = h.fits;
      reply = None;
      holds = holds-refused offset wanted follow (under None w) at (subst (λ r. giving.Holds offset wanted follow (under r w)) none h.holds);
      phase = inr (inr (record {
        asked = a.asked;
        going = request_going w.core.stage w.core (w.greeter.unread ++ w.requests) a.request;
        read = refl;
        none_to = left;
        frame = int32.written (pos 3) ++ body;
        whole = replied_front w (pos 3) body a.unread a.none_back (omega (arith, len)) (omega (arith, len, h.typed.short.topic));
        comes = record { next = stages.Ended (endings.Code code); goes = not_ended code; hears = refused_hears code w at h.typed fits other; ready = tt; sound = λ c. absurd (not c) };
      }));
      sound = λ c. absurd (not c);
    })

either_served : (calm : Bool) (offset : ℤ) (wanted : Option ℕ) (follow : Bool) (w v : Reading) (p : FetchPartitionReplyV5) (h : Holds calm offset wanted follow w) → h.reply ≡ None → IsAsking w → w.core.stage ≡ stages.Fetch → w.greeter.login ≡ LoggedIn → w.requests ≡ [] → v ≡ record w { greeter = bare w.greeter; answers = w.answers ++ reply_text (pos 3) (Some (reply_body (fetch_now w) p)); met = length w.batches } → IsEither calm w p → Holds calm offset wanted follow v
either_served calm offset wanted follow w v p h none a at ready left is (inl r) = refused_served calm offset wanted follow r.0 w v p h none a at left is r.1 r.2 r.3 r.4
either_served calm offset wanted follow w v p h none a at ready left is (inr g) = accepted_served calm offset wanted follow g.0 w v p h none a at ready left is g.1

fetch_served : (calm : Bool) (offset : ℤ) (wanted : Option ℕ) (follow : Bool) (g : Answers) (w : Reading) (h : Holds calm offset wanted follow w) → h.reply ≡ None → IsAsking w → w.core.stage ≡ stages.Fetch → w.greeter.unread ++ w.requests ≡ fetch_text (pos 3) w.core.target (offset_of w) w.core.follow → w.greeter.login ≡ LoggedIn → IsEither calm w (g (fetch_now w)) → (to : List ℕ) → w.requests ≡ to → Holds calm offset wanted follow (served_at g (front w.greeter.unread) w)
fetch_served calm offset wanted follow g w h none a at text ready told (b ∷ to) left = part_served calm offset wanted follow g w (frame_of w) b to h (fetch_whole w (w.greeter.unread ++ w.requests) text h.typed) left
fetch_served calm offset wanted follow g w h none a at text ready told [] left = either_served calm offset wanted follow w (served_at g (front w.greeter.unread) w) (g (fetch_now w)) h none a at ready left (fetch_replied g w text ready left h.typed h.fits) told

served_stage : (calm : Bool) (offset : ℤ) (wanted : Option ℕ) (follow : Bool) (g : Answers) (w : Reading) (stage : Fetching) (h : Holds calm offset wanted follow w) → IsEither calm w (g (fetch_now w)) → h.reply ≡ None → IsAsking w → w.core.stage ≡ stage → IsRequest stage w.core (w.greeter.unread ++ w.requests) → Ready stage w.greeter.login → Holds calm offset wanted follow (served_at g (front w.greeter.unread) w)
unfolding Ready
served_stage calm offset wanted follow g w stages.Closed h told none a at is ready = absurd is
served_stage calm offset wanted follow g w stages.Handshake h told none a at is ready = greeted_served calm offset wanted follow g w h none a (greeted_handshake calm w (w.greeter.unread ++ w.requests) at is ready) w.requests refl
served_stage calm offset wanted follow g w stages.Authenticate h told none a at is ready = greeted_served calm offset wanted follow g w h none a (greeted_login calm (knows w.greeter.users (plain_message w.core.target)) w (w.greeter.unread ++ w.requests) at is ready refl h.typed (λ c. (h.sound c).known)) w.requests refl
served_stage calm offset wanted follow g w stages.Fetch h told none a at is ready = fetch_served calm offset wanted follow g w h none a at is ready told w.requests refl
served_stage calm offset wanted follow g w stages.Finished h told none a at is ready = absurd is
served_stage calm offset wanted follow g w (stages.Ended ending) h told none a at is ready = absurd is

served_nothing : (calm : Bool) (offset : ℤ) (wanted : Option ℕ) (follow : Bool) (g : Answers) (w : Reading) → Holds calm offset wanted follow w → w.greeter.unread ≡ [] → Holds calm offset wanted follow (served_at g (front w.greeter.unread) w)
served_nothing calm offset wanted follow g w h e = subst (Holds calm offset wanted follow) (sym (ap (λ f. served_at g f w) (ap front e ∙ front_nothing))) h

served_in : (calm : Bool) (offset : ℤ) (wanted : Option ℕ) (follow : Bool) (g : Answers) (w : Reading) (h : Holds calm offset wanted follow w) → IsEither calm w (g (fetch_now w)) → Phase calm h.reply w → Holds calm offset wanted follow (served_at g (front w.greeter.unread) w)
served_in calm offset wanted follow g w h told (inl q) = served_nothing calm offset wanted follow g w h q.1.read
served_in calm offset wanted follow g w h told (inr (inl a)) = served_stage calm offset wanted follow g w w.core.stage h told a.0 a.1 refl a.1.request a.1.ready
served_in calm offset wanted follow g w h told (inr (inr a)) = served_nothing calm offset wanted follow g w h a.read

-- ---- whole runs

sent_by : (calm : Bool) (offset : ℤ) (wanted : Option ℕ) (follow : Bool) (old new : Reading) (text : List ℕ) (due : Bool) → is_due old.core ≡ due → IsOutput due old.core text new.core → new ≡ record old { core = new.core; requests = old.requests ++ text } → Holds calm offset wanted follow old → Holds calm offset wanted follow new
sent_by calm offset wanted follow old new text true due o e h = subst (Holds calm offset wanted follow) (sym (e ∙ ap (λ c. record old { core = c; requests = old.requests ++ text }) o.1)) (keeps-sent calm offset wanted follow old text due o.0 h)
sent_by calm offset wanted follow old new text false due o e h = subst (Holds calm offset wanted follow) (sym (e ∙ ap (λ c. record old { core = c; requests = old.requests ++ text }) o.1 ∙ ap (λ t. record old { requests = old.requests ++ t }) o.0 ∙ ap (λ q. record old { requests = q }) (append-nil old.requests))) h

not_sent : (calm : Bool) (offset : ℤ) (wanted : Option ℕ) (follow : Bool) (old new : Reading) → new.core ≡ old.core → new ≡ record old { core = new.core; requests = old.requests ++ [] } → Holds calm offset wanted follow old → Holds calm offset wanted follow new
not_sent calm offset wanted follow old new same e h = subst (Holds calm offset wanted follow) (sym (e ∙ ap (λ c. record old { core = c; requests = old.requests ++ [] }) same ∙ ap (λ q. record old { requests = q }) (append-nil old.requests))) h

after_output : (calm : Bool) (offset : ℤ) (wanted : Option ℕ) (follow : Bool) (old new : Reading) (result : Result (List ℕ) ClientFault) → OutputsText (λ text. text) old.core result new.core → new ≡ record old { core = new.core; requests = old.requests ++ if_given result } → Holds calm offset wanted follow old → Holds calm offset wanted follow new
after_output calm offset wanted follow old new (Ok text) t e h = sent_by calm offset wanted follow old new text (is_due old.core) refl t.1 e h
after_output calm offset wanted follow old new (Err faults.Memory) t e h = not_sent calm offset wanted follow old new t.2 e h
after_output calm offset wanted follow old new (Err faults.Denied) t e h = not_sent calm offset wanted follow old new t.1 e h
after_output calm offset wanted follow old new (Err (faults.Code code)) t e h = not_sent calm offset wanted follow old new t.1 e h
after_output calm offset wanted follow old new (Err faults.Protocol) t e h = not_sent calm offset wanted follow old new t.1 e h
after_output calm offset wanted follow old new (Err faults.LineTooLong) t e h = absurd t

came : (calm : Bool) (offset : ℤ) (wanted : Option ℕ) (follow : Bool) (old new : Reading) (n : ℕ) → new.core ≡ fed (take n old.answers) old.core → new ≡ record old { core = new.core; answers = drop n old.answers } → Holds calm offset wanted follow old → Holds calm offset wanted follow new
came calm offset wanted follow old new n is e h = subst (Holds calm offset wanted follow) (sym (e ∙ ap (λ c. record old { core = c; answers = drop n old.answers }) is)) (keeps-returned calm offset wanted follow n old h)

after_input : (calm : Bool) (offset : ℤ) (wanted : Option ℕ) (follow : Bool) (old new : Reading) (n : ℕ) (result : Result (Unit {0}) ClientFault) → Inputs old.core (take n old.answers) result new.core → new ≡ record old { core = new.core; answers = if_come result n old.answers } → Holds calm offset wanted follow old → Holds calm offset wanted follow new
after_input calm offset wanted follow old new n (Ok u) t e h = came calm offset wanted follow old new n t.0 e h
after_input calm offset wanted follow old new n (Err faults.Memory) t e h = subst (Holds calm offset wanted follow) (sym (e ∙ ap (λ c. record old { core = c }) t.0)) h
after_input calm offset wanted follow old new n (Err faults.Denied) t e h = came calm offset wanted follow old new n t.0 e h
after_input calm offset wanted follow old new n (Err (faults.Code code)) t e h = came calm offset wanted follow old new n t.0 e h
after_input calm offset wanted follow old new n (Err faults.Protocol) t e h = came calm offset wanted follow old new n t.0 e h
after_input calm offset wanted follow old new n (Err faults.LineTooLong) t e h = absurd t

after : (calm : Bool) (offset : ℤ) (wanted : Option ℕ) (follow : Bool) (e : Event) (old new : Reading) → (calm ≡ true → AreCalm (e ∷ [])) → Steps e old new → Holds calm offset wanted follow old → Holds calm offset wanted follow new
after calm offset wanted follow (Appends b) old new allowed s h = subst (Holds calm offset wanted follow) (sym s.1) (keeps-grown calm offset wanted follow b old s.0 h)
after calm offset wanted follow (Trims start) old new allowed s h = subst (Holds calm offset wanted follow) (sym s.2) (keeps-less calm offset wanted follow start old.there old allowed h)
after calm offset wanted follow Deletes old new allowed s h = subst (Holds calm offset wanted follow) (sym s) (keeps-less calm offset wanted follow old.start false old allowed h)
after calm offset wanted follow (Sends result) old new allowed s h = after_output calm offset wanted follow old new result s.0 s.1 h
after calm offset wanted follow (Arrives n) old new allowed s h = subst (Holds calm offset wanted follow) (sym s) (keeps-moved calm offset wanted follow n old h)
after calm offset wanted follow (Serves n) old new allowed s h = subst (Holds calm offset wanted follow) (sym s) (served_in calm offset wanted follow (λ f. answers_of n old f) old h (answered calm n old h.sound) h.phase)
after calm offset wanted follow (Refuses code) old new allowed s h = subst (Holds calm offset wanted follow) (sym s.2) (served_in calm offset wanted follow (λ f. refused_with code f) old h (refusal calm code old s.0 s.1 allowed) h.phase)
after calm offset wanted follow (Returns n result) old new allowed s h = after_input calm offset wanted follow old new n result s.0 s.1 h
after calm offset wanted follow Takes old new allowed s h = subst (Holds calm offset wanted follow) (sym s) (keeps-taken calm offset wanted follow old h)
after calm offset wanted follow Reconnects old new allowed s h = subst (Holds calm offset wanted follow) (sym s) (keeps-connected calm offset wanted follow old h)

one_calm : (e : Event) (es : List Event) → AreCalm (e ∷ es) → AreCalm (e ∷ []) × AreCalm es
one_calm (Appends b) es c = (tt, c)
one_calm (Trims start) es c = absurd c
one_calm Deletes es c = absurd c
one_calm (Sends result) es c = (tt, c)
one_calm (Arrives n) es c = (tt, c)
one_calm (Serves n) es c = (tt, c)
one_calm (Refuses code) es c = absurd c
one_calm (Returns n result) es c = (tt, c)
one_calm Takes es c = (tt, c)
one_calm Reconnects es c = (tt, c)

after_all : (calm : Bool) (offset : ℤ) (wanted : Option ℕ) (follow : Bool) (es : List Event) (first last : Reading) → (calm ≡ true → AreCalm es) → Runs es first last → Holds calm offset wanted follow first → Holds calm offset wanted follow last
after_all calm offset wanted follow [] first last allowed r h = subst (Holds calm offset wanted follow) (sym r) h
after_all calm offset wanted follow (e ∷ es) first last allowed r h =
    after_all calm offset wanted follow es r.0 last (λ c. (one_calm e es (allowed c)).1) r.2
    (after calm offset wanted follow e first r.0 (λ c. (one_calm e es (allowed c)).0) r.1 h)

first_ready : (wanted : Option ℕ) → Ready (wanting wanted stages.Closed) Greets
unfolding Ready
first_ready None = tt
first_ready (Some zero) = tt
first_ready (Some (suc n)) = tt

first_going : (wanted : Option ℕ) → fault_at (wanting wanted stages.Closed) ≡ None
first_going None = refl
first_going (Some zero) = refl
first_going (Some (suc n)) = refl

keeps-begun : (calm : Bool) (target : Target) (offset : ℤ) (wanted : Option ℕ) (follow : Bool) (users : List PlainLogin) (there : Bool) (origin start : ℤ) (batches : List (List ℕ)) → IsTyped target → FitsSigned w64 offset → IsLog origin batches → (calm ≡ true → Sound (new_reading target offset wanted follow users there origin start batches)) → Holds calm offset wanted follow (new_reading target offset wanted follow users there origin start batches)
keeps-begun calm target offset wanted follow users there origin start batches typed fits log sound = record {
  typed = typed;
  fits = fits;
  reply = None;
  holds = holds-begun target offset wanted follow origin batches log;
  phase = inl (refl, record { idle = refl; unread = refl; read = refl; none_to = refl; none_back = refl; ready = first_ready wanted });
  sound = sound;
}

given_in : (offset : ℤ) (wanted : Option ℕ) (follow : Bool) (reply : Option (List (List ℕ))) (w : Reading) → giving.IsGivenBy offset wanted follow (under reply w) → IsGiven offset wanted follow w
given_in offset wanted follow reply w g = record { records = g.records; others = g.others; in_order = g.in_order; lines = g.lines; within = g.within; finished = g.finished }

pub lines_read : (target : Target) (offset : ℤ) (wanted : Option ℕ) (follow : Bool) (users : List PlainLogin) (there : Bool) (origin start : ℤ) (batches : List (List ℕ)) (es : List Event) (last : Reading) → IsTyped target → FitsSigned w64 offset → IsLog origin batches → Runs es (new_reading target offset wanted follow users there origin start batches) last → IsGiven offset wanted follow last
lines_read target offset wanted follow users there origin start batches es last typed fits log r =
    let first = keeps-begun false target offset wanted follow users there origin start batches typed fits log (λ c. absurd (no_false c)) in
    let h = after_all false offset wanted follow es (new_reading target offset wanted follow users there origin start batches) last (λ c. absurd (no_false c)) r first in
    given_in offset wanted follow h.reply last (is_given offset wanted follow (under h.reply last) h.holds)

pub no_fault_read : (target : Target) (offset : ℤ) (wanted : Option ℕ) (follow : Bool) (users : List PlainLogin) (origin start : ℤ) (batches : List (List ℕ)) (es : List Event) (last : Reading) → IsTyped target → FitsSigned w64 offset → IsLog origin batches → start ≤ℤ offset → offset ≤ℤ end_of_log origin batches → knows users (plain_message target) ≡ true → AreCalm es → Runs es (new_reading target offset wanted follow users true origin start batches) last → fault_at last.core.stage ≡ None
no_fault_read target offset wanted follow users origin start batches es last typed fits log low high known calm r =
    let first = keeps-begun true target offset wanted follow users true origin start batches typed fits log (λ c. record { there = refl; topic = refl; index = refl; low = low; high = high; known = known; going = first_going wanted }) in
    let h = after_all true offset wanted follow es (new_reading target offset wanted follow users true origin start batches) last (λ c. calm) r first in
    (h.sound refl).going
