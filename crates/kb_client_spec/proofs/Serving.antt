-- What the receiver makes of a request leaves what holds.
use Rattle.std.proofs.Common.{◌≡◌, ℕ, suc, ◌+◌, ◌-◌, ◌%◌, ◌^◌, ◌≤◌, Bool, true, false, List, [], ◌∷◌, ◌++◌, length, map, Option, Some, None, Ok, codes, refl, sym, ap, subst, ◌∙◌, append_assoc, arith, inl, inr, lit<}
use Rattle.std.specs.Prelude.{ℤ, pos, FitsSigned, if◌then◌else◌}
use Rattle.std.specs.Int.{w16, w32}
use Rattle.std.specs.Str.{bytes_eq}
use Rattle.std.proofs.lemmas.Bool.{lt-ltb}
use Rattle.std.proofs.lemmas.List.{append-nil, map-append, length-append}
use Rattle.kb_wire.specs.Codec.{int32}
use Rattle.kb_wire.specs.ErrorCode.{code_of}
use Rattle.kb_wire.specs.declared.api_key.TheConstants.{PRODUCE, SASL_HANDSHAKE, CREATE_TOPICS, INIT_PRODUCER_ID, SASL_AUTHENTICATE}
use Rattle.kb_wire.specs.declared.error_code.ErrorCode.TheVariants.{SaslAuthenticationFailed, TopicAlreadyExists}
use Rattle.kb_api_group.specs.Frames.{Whole, Partial}
use Rattle.kb_api_group.specs.ClientFrames.{front}
use Rattle.kb_api_group.specs.Layouts.{request_header}
use Rattle.kb_batch.specs.BatchLaws.{is_accepted, batch_small}
use Rattle.kb_batch.specs.Header.{base_sequence_of}
use Rattle.kb_batch.specs.Scan.{views_of}
use Rattle.kb_client.specs.declared.stage.ProducerId.{ProducerId}
use Rattle.kb_client.specs.declared.stage.Ending.TheVariants as endings
use Rattle.kb_client.specs.declared.stage.Stage.{Stage}
use Rattle.kb_client.specs.declared.stage.Stage.TheVariants as stages
use Rattle.kb_client.specs.Sent.{Line, Target}
use Rattle.kb_client.specs.Requests.{plain_message, handshake_text, authenticate_text, create_text, identify_text, produce_text, produce_topics, IsBatchOf}
use Rattle.kb_client.specs.Replies.{body_for}
use Rattle.kb_client.specs.Producer as producers
use Rattle.kb_client.specs.Producer.{Producer, heard, heard_by, correlation, sequence, entered, ended, after_login, IsRequest, IsProduce}
use Rattle.kb_client_spec.specs.Receiver as receivers
use Rattle.kb_client_spec.specs.Receiver.{Receiver, Stored, Login, Greets, Shaken, LoggedIn, Shut, Asked, Handshake, Authenticate, Create, Identify, Produce, Request, request, ReceiverOutcome, outcome, replies, handshake_reply, authenticate_reply, create_reply, identify_reply, stored_reply, ProducedBatch, part_of, value_in, value_of, producer_of, is_by, count_by, Verdict, Next, Repeated, OutOfOrder, verdict, last_by, stores, stores_batch, stores_part, knows, shakes, logs_in, logged_in_only, creates}
use Rattle.kb_client_spec.specs.Sending.{Delivery, IsTyped, served_at, with_outcome, reply_text}
use Rattle.kb_client_spec.proofs.Texts.{int_same, int_apart, header, request_read, front_request, front_reply, front_nothing, front_part}
use Rattle.kb_client_spec.proofs.Asking.{topic_of, handshake_body, handshake_short, handshake_asked, authenticate_body, authenticate_short, authenticate_asked, create_body, create_short, create_asked, identify_body, identify_short, identify_asked, produce_ask, produce_body, produce_short, produce_asked}
use Rattle.kb_client_spec.proofs.Hearing.{body_read, handshake_heard, handshake_reply_len, authenticate_heard, authenticate_reply_len, create_heard, create_reply_len, given_id, identify_heard, identify_reply_len, stored_heard, stored_reply_len}
use Rattle.kb_client_spec.proofs.Invariant.{stored_by, IsStored, IsOwner, Counts, Ready, IsAsking, IsSettled, HearsAs, Phase, Holds, request_going}

abbrev asks : ℤ → Asked → Request
asks id asked = record { correlation_id = id; asked = asked }

-- the connection without the request
abbrev bare : Receiver → Receiver
bare r = record r { unread = [] }

-- a request is read and answered, and the reply brings the producer on
record Reacts (known : Bool) (p : Producer) (handed : List Line) (r : Receiver) (text : List ℕ) : Type 0 where
  m : List ℕ
  whole : front text ≡ Whole m []
  id : ℤ
  asked : Asked
  reads : request m ≡ asks id asked
  body : List ℕ
  after : Receiver
  comes : outcome asked (bare r) ≡ replies body after
  least : 4 ≤ length body
  most : length body ≤ 2000000
  read : after.unread ≡ []
  users : after.users ≡ r.users
  next : Producer
  hears : HearsAs (int32.written id ++ body) p next
  settled : IsSettled known p.target next handed after
  counts : Counts p.producer p.acknowledged p.lines handed after.stored

hears_at : (stage : Stage) (p : Producer) (id : ℤ) (body : List ℕ) → p.stage ≡ stage → correlation stage p ≡ id → FitsSigned w32 id → heard (int32.written id ++ body) p ≡ heard_by stage (Ok body) p
unfolding heard
hears_at stage p id body is same fits = ap (λ s. heard_by s (body_for (correlation s p) (int32.written id ++ body)) p) is ∙ ap (λ i. heard_by stage (body_for i (int32.written id ++ body)) p) same ∙ ap (λ r. heard_by stage r p) (body_read id body fits)

-- ---- SaslHandshake

plain_same : bytes_eq (codes "PLAIN") (codes "PLAIN") ≡ true
unfolding lib.Utf8.encode
plain_same = refl

reacts_handshake : (known : Bool) (p : Producer) (handed : List Line) (r : Receiver) (text : List ℕ) → p.stage ≡ stages.Handshake → text ≡ handshake_text (pos 1) → r.login ≡ Greets → IsTyped p.target p.create → Counts p.producer p.acknowledged p.lines handed r.stored → Reacts known p handed r text
unfolding handshake_body header
reacts_handshake known p handed r text at is ready typed counts = record {
  m = request_header.written (header SASL_HANDSHAKE (pos 1) (pos 1)) ++ handshake_body;
  whole = ap front is ∙ front_request SASL_HANDSHAKE (pos 1) (pos 1) handshake_body handshake_short;
  id = pos 1;
  asked = Handshake (codes "PLAIN");
  reads = request_read SASL_HANDSHAKE (pos 1) (pos 1) handshake_body (record { sfits = lit< tt }) (record { sfits = lit< tt }) (record { sfits = lit< tt }) ∙ ap (λ a. asks (pos 1) a) handshake_asked;
  body = handshake_reply (pos 0);
  after = record r { unread = []; login = Shaken };
  comes = ap (λ l. receivers.shaken l (codes "PLAIN") (bare r)) ready ∙ ap (λ b. shakes b (bare r)) plain_same;
  least = omega (arith, handshake_reply_len);
  most = omega (arith, handshake_reply_len);
  read = refl;
  users = refl;
  next = entered stages.Authenticate p;
  hears = λ u more. hears_at stages.Handshake (record p { unread = u; lines = p.lines ++ more }) (pos 1) (handshake_reply (pos 0)) at refl (record { sfits = lit< tt }) ∙ ap (λ c. producers.handshaken c (record p { unread = u; lines = p.lines ++ more })) handshake_heard;
  settled = record { idle = refl; unread = refl; same = refl; typed = typed; ready = refl; counts = counts };
  counts = counts;
}

-- ---- SaslAuthenticate

after_ready : (known : Bool) (create : Option ℤ) (producer : Option ProducerId) → ((n : ℤ) → create ≡ Some n → FitsSigned w32 n) → Ready known (after_login create producer) producer LoggedIn
after_ready known (Some n) producer fits = (refl, fits n refl)
after_ready known None None fits = (refl, refl)
after_ready known None (Some id) fits = (refl, refl)

login_of : (known : Bool) (p : Producer) (r : Receiver) → r.login ≡ Shaken → knows r.users (plain_message p.target) ≡ known → outcome (Authenticate (plain_message p.target)) (bare r) ≡ logs_in known (bare r)
login_of known p r ready is = ap (λ l. receivers.authenticated l (plain_message p.target) (bare r)) ready ∙ ap (λ b. logs_in b (bare r)) is

reacts_authenticate : (known : Bool) (p : Producer) (handed : List Line) (r : Receiver) (text : List ℕ) → p.stage ≡ stages.Authenticate → text ≡ authenticate_text (pos 2) p.target → r.login ≡ Shaken → knows r.users (plain_message p.target) ≡ known → IsTyped p.target p.create → Counts p.producer p.acknowledged p.lines handed r.stored → Reacts known p handed r text
unfolding authenticate_body header
reacts_authenticate true p handed r text at is ready login typed counts = record {
  m = request_header.written (header SASL_AUTHENTICATE (pos 0) (pos 2)) ++ authenticate_body p.target;
  whole = ap front is ∙ front_request SASL_AUTHENTICATE (pos 0) (pos 2) (authenticate_body p.target) (authenticate_short p.target typed.short);
  id = pos 2;
  asked = Authenticate (plain_message p.target);
  reads = request_read SASL_AUTHENTICATE (pos 0) (pos 2) (authenticate_body p.target) (record { sfits = lit< tt }) (record { sfits = lit< tt }) (record { sfits = lit< tt }) ∙ ap (λ a. asks (pos 2) a) (authenticate_asked p.target typed.short);
  body = authenticate_reply (pos 0);
  after = record r { unread = []; login = LoggedIn };
  comes = login_of true p r ready login;
  least = omega (arith, authenticate_reply_len (pos 0));
  most = omega (arith, authenticate_reply_len (pos 0));
  read = refl;
  users = refl;
  next = entered (after_login p.create p.producer) p;
  hears = λ u more. hears_at stages.Authenticate (record p { unread = u; lines = p.lines ++ more }) (pos 2) (authenticate_reply (pos 0)) at refl (record { sfits = lit< tt }) ∙ ap (λ c. producers.logged_in c (record p { unread = u; lines = p.lines ++ more })) (authenticate_heard (pos 0) (record { sfits = lit< tt }));
  settled = record { idle = refl; unread = refl; same = refl; typed = typed; ready = after_ready true p.create p.producer typed.partitions; counts = counts };
  counts = counts;
}
reacts_authenticate false p handed r text at is ready login typed counts = record {
  m = request_header.written (header SASL_AUTHENTICATE (pos 0) (pos 2)) ++ authenticate_body p.target;
  whole = ap front is ∙ front_request SASL_AUTHENTICATE (pos 0) (pos 2) (authenticate_body p.target) (authenticate_short p.target typed.short);
  id = pos 2;
  asked = Authenticate (plain_message p.target);
  reads = request_read SASL_AUTHENTICATE (pos 0) (pos 2) (authenticate_body p.target) (record { sfits = lit< tt }) (record { sfits = lit< tt }) (record { sfits = lit< tt }) ∙ ap (λ a. asks (pos 2) a) (authenticate_asked p.target typed.short);
  body = authenticate_reply (code_of SaslAuthenticationFailed);
  after = record r { unread = []; login = Shut };
  comes = login_of false p r ready login;
  least = omega (arith, authenticate_reply_len (code_of SaslAuthenticationFailed));
  most = omega (arith, authenticate_reply_len (code_of SaslAuthenticationFailed));
  read = refl;
  users = refl;
  next = ended endings.Denied p;
  hears = λ u more. hears_at stages.Authenticate (record p { unread = u; lines = p.lines ++ more }) (pos 2) (authenticate_reply (code_of SaslAuthenticationFailed)) at refl (record { sfits = lit< tt }) ∙ ap (λ c. producers.logged_in c (record p { unread = u; lines = p.lines ++ more })) (authenticate_heard (code_of SaslAuthenticationFailed) (record { sfits = lit< tt }));
  settled = record { idle = refl; unread = refl; same = refl; typed = typed; ready = (refl, refl); counts = counts };
  counts = counts;
}

-- ---- CreateTopics

abbrev code_by : Bool → ℤ
code_by b = if b then code_of TopicAlreadyExists else pos 0

code_fits : (b : Bool) → FitsSigned w16 (code_by b)
code_fits true = record { sfits = lit< tt }
code_fits false = record { sfits = lit< tt }

created_by : (b : Bool) (p : Producer) → producers.after_create (Ok (code_by b)) p ≡ entered (after_login None p.producer) (record p { create = None })
created_by true p = refl
created_by false p = refl

not_some : (n : ℤ) (create : Option ℤ) → create ≡ None → create ≡ Some n → FitsSigned w32 n
not_some n create e f = let no : ◌≡◌ {A = Option ℤ} None (Some n) = sym e ∙ f in absurd cc

reacts_create : (known : Bool) (n : ℤ) (p : Producer) (handed : List Line) (r : Receiver) (text : List ℕ) → p.stage ≡ stages.Create n → text ≡ create_text (pos 3) p.target n → r.login ≡ LoggedIn → FitsSigned w32 n → IsTyped p.target p.create → Counts p.producer p.acknowledged p.lines handed r.stored → Reacts known p handed r text
unfolding create_body topic_of header
reacts_create known n p handed r text at is ready fits typed counts = record {
  m = request_header.written (header CREATE_TOPICS (pos 0) (pos 3)) ++ create_body p.target.topic n;
  whole = ap front is ∙ front_request CREATE_TOPICS (pos 0) (pos 3) (create_body p.target.topic n) (create_short p.target.topic n typed.short.topic);
  id = pos 3;
  asked = Create (topic_of p.target.topic n ∷ []);
  reads = request_read CREATE_TOPICS (pos 0) (pos 3) (create_body p.target.topic n) (record { sfits = lit< tt }) (record { sfits = lit< tt }) (record { sfits = lit< tt }) ∙ ap (λ a. asks (pos 3) a) (create_asked p.target.topic n typed.short.topic typed.topic fits);
  body = create_reply (code_by r.created) (topic_of p.target.topic n ∷ []);
  after = record r { unread = []; created = true };
  comes = ap (λ l. logged_in_only l (creates (topic_of p.target.topic n ∷ []) (bare r)) (bare r)) ready;
  least = omega (arith, create_reply_len p.target.topic n (code_by r.created));
  most = omega (arith, create_reply_len p.target.topic n (code_by r.created), typed.short.topic);
  read = refl;
  users = refl;
  next = entered (after_login None p.producer) (record p { create = None });
  hears = λ u more. hears_at (stages.Create n) (record p { unread = u; lines = p.lines ++ more }) (pos 3) (create_reply (code_by r.created) (topic_of p.target.topic n ∷ [])) at refl (record { sfits = lit< tt }) ∙ ap (λ c. producers.after_create c (record p { unread = u; lines = p.lines ++ more })) (create_heard p.target.topic n (code_by r.created) typed.short.topic typed.topic (code_fits r.created)) ∙ created_by r.created (record p { unread = u; lines = p.lines ++ more });
  settled = record {
    idle = refl;
    unread = refl;
    same = refl;
    typed = record { short = typed.short; topic = typed.topic; partition = typed.partition; partitions = λ k e. not_some k None refl e };
    ready = subst (λ l. Ready known (after_login None p.producer) p.producer l) (sym ready) (after_ready known None p.producer (λ k e. not_some k None refl e));
    counts = counts;
  };
  counts = counts;
}

-- ---- InitProducerId

one_of_both : (id : ProducerId) (producer : Option ProducerId) (P : Type 0) → producer ≡ Some id → producer ≡ None → P
one_of_both id producer P e f = let no : ◌≡◌ {A = Option ProducerId} (Some id) None = sym e ∙ f in absurd cc

identified_counts : (producer : Option ProducerId) (acknowledged : ℕ) (lines handed : List Line) (stored : List Stored) (id : ProducerId) → producer ≡ None → (c : Counts producer acknowledged lines handed stored) → IsOwner c.id producer c.done stored → Counts (Some id) acknowledged lines handed stored
identified_counts producer acknowledged lines handed stored id missing c (inl e) = one_of_both c.id producer (Counts (Some id) acknowledged lines handed stored) e missing
identified_counts producer acknowledged lines handed stored id missing c (inr e) = record {
  done = c.done;
  id = id;
  split = c.split;
  count = c.count;
  owner = inl refl;
  some = inl (e.2 ∙ sym (ap (λ d. map (stored_by id) d) e.1));
}

reacts_identify : (known : Bool) (p : Producer) (handed : List Line) (r : Receiver) (text : List ℕ) → p.stage ≡ stages.Identify → text ≡ identify_text (pos 4) → r.login ≡ LoggedIn → p.producer ≡ None → IsTyped p.target p.create → Counts p.producer p.acknowledged p.lines handed r.stored → Reacts known p handed r text
unfolding identify_body header
reacts_identify known p handed r text at is ready missing typed counts = record {
  m = request_header.written (header INIT_PRODUCER_ID (pos 0) (pos 4)) ++ identify_body;
  whole = ap front is ∙ front_request INIT_PRODUCER_ID (pos 0) (pos 4) identify_body identify_short;
  id = pos 4;
  asked = Identify;
  reads = request_read INIT_PRODUCER_ID (pos 0) (pos 4) identify_body (record { sfits = lit< tt }) (record { sfits = lit< tt }) (record { sfits = lit< tt }) ∙ ap (λ a. asks (pos 4) a) identify_asked;
  body = identify_reply (pos r.next_id);
  after = record r { unread = []; next_id = suc r.next_id };
  comes = ap (λ l. logged_in_only l (receivers.identifies (bare r)) (bare r)) ready;
  least = omega (arith, identify_reply_len (pos r.next_id));
  most = omega (arith, identify_reply_len (pos r.next_id));
  read = refl;
  users = refl;
  next = entered (stages.Produce (given_id (pos r.next_id))) (record p { producer = Some (given_id (pos r.next_id)) });
  hears = λ u more. hears_at stages.Identify (record p { unread = u; lines = p.lines ++ more }) (pos 4) (identify_reply (pos r.next_id)) at refl (record { sfits = lit< tt }) ∙ ap (λ c. producers.identified c (record p { unread = u; lines = p.lines ++ more })) (identify_heard (pos r.next_id));
  settled = record {
    idle = refl;
    unread = refl;
    same = refl;
    typed = typed;
    ready = (ready, refl);
    counts = identified_counts p.producer p.acknowledged p.lines handed r.stored (given_id (pos r.next_id)) missing counts counts.owner;
  };
  counts = counts;
}

-- ---- Produce

count_all : (id : ProducerId) (lines : List Line) → count_by id (map (stored_by id) lines) ≡ length lines
unfolding count_by
count_all id [] = refl
count_all id (line ∷ lines) = rw (int_same id.id, int_same id.epoch) (ap suc (count_all id lines))

verdict_next : (n : ℕ) → verdict n (pos (n % 2 ^ 31)) ≡ Next
unfolding verdict
verdict_next n = rw (int_same (pos (n % 2 ^ 31))) refl

pos_apart : (a b : ℕ) → (a ≡ b → ⊥) → pos a ≡ pos b → ⊥
pos_apart a b apart e = apart cc

mod_apart : (n : ℕ) → n % 2 ^ 31 ≡ (n + 1) % 2 ^ 31 → ⊥
mod_apart n e = omega (arith, e)

one_less : (n : ℕ) → n + 1 - 1 ≡ n
one_less n = omega arith

verdict_repeated : (n : ℕ) → verdict (n + 1) (pos (n % 2 ^ 31)) ≡ Repeated
unfolding verdict
verdict_repeated n = rw (int_apart (pos (n % 2 ^ 31)) (pos ((n + 1) % 2 ^ 31)) (pos_apart (n % 2 ^ 31) ((n + 1) % 2 ^ 31) (mod_apart n)), one_less n, int_same (pos (n % 2 ^ 31)), lt-ltb 0 (n + 1) (omega arith)) refl

value_is : (id : ProducerId) (number : ℤ) (line : Line) (batch : List ℕ) → IsBatchOf id number line batch → value_of batch ≡ Some line.value
unfolding value_of
value_is id number line batch built = ap (λ f. value_in f (views_of batch)) (is_accepted batch built.batch) ∙ ap (λ vs. value_in None vs) built.records

abbrev made_of : ℤ → ℤ → ProducerId
made_of id epoch = record { id = id; epoch = epoch }

producer_is : (id : ProducerId) (number : ℤ) (line : Line) (batch : List ℕ) → IsBatchOf id number line batch → producer_of batch ≡ id
producer_is id number line batch built = ap (λ i. made_of i (producer_of batch).epoch) built.producer_id ∙ ap (λ e. made_of id.id e) built.producer_epoch

-- the receiver has the line once, and answers with 0
record StoresLine (id : ProducerId) (done : List Line) (line : Line) (part : ProducedBatch) (r : Receiver) : Type 0 where
  offset : ℤ
  after : Receiver
  comes : stores_part (Some part) (bare r) ≡ replies (stored_reply part (pos 0) offset) after
  stored : after.stored ≡ map (stored_by id) (done ++ line ∷ [])
  login : after.login ≡ r.login
  users : after.users ≡ r.users
  read : after.unread ≡ []

comes_to : (id : ProducerId) (n : ℕ) (line : Line) (part : ProducedBatch) (r : Receiver) (v : Verdict) → IsBatchOf id (pos (n % 2 ^ 31)) line part.batch → verdict (count_by id r.stored) (pos (n % 2 ^ 31)) ≡ v → stores_part (Some part) (bare r) ≡ stores v part id line.value (bare r)
comes_to id n line part r v built is =
    ap (λ o. stores_batch o part (producer_of part.batch) (bare r)) (value_is id (pos (n % 2 ^ 31)) line part.batch built)
    ∙ ap (λ i. stores (verdict (count_by i r.stored) (base_sequence_of part.batch)) part i line.value (bare r)) (producer_is id (pos (n % 2 ^ 31)) line part.batch built)
    ∙ ap (λ s. stores (verdict (count_by id r.stored) s) part id line.value (bare r)) built.base_sequence
    ∙ ap (λ w. stores w part id line.value (bare r)) is

one_line : (a b : Line) (x y : List Line) → a ∷ x ≡ b ∷ y → a ≡ b
one_line a b x y e = cc

stores_line : (id : ProducerId) (n : ℕ) (done lines rest : List Line) (line : Line) (part : ProducedBatch) (r : Receiver) → n ≡ length done → lines ≡ line ∷ rest → IsBatchOf id (pos (n % 2 ^ 31)) line part.batch → IsStored id done lines r.stored → StoresLine id done line part r
stores_line id n done lines rest line part r count is built (inl e) =
    let counted : count_by id r.stored ≡ n = ap (count_by id) e ∙ count_all id done ∙ sym count in
    record {
      offset = pos (length r.stored);
      after = record r { unread = []; stored = r.stored ++ stored_by id line ∷ [] };
      comes = comes_to id n line part r Next built (ap (λ k. verdict k (pos (n % 2 ^ 31))) counted ∙ verdict_next n);
      stored = ap (λ s. s ++ stored_by id line ∷ []) e ∙ sym (map-append (stored_by id) done (line ∷ []));
      login = refl;
      users = refl;
      read = refl;
    }
stores_line id n done lines rest line part r count is built (inr h) =
    let same : h.0 ≡ line = one_line h.0 line h.1 rest (sym h.2 ∙ is) in
    let e : r.stored ≡ map (stored_by id) (done ++ line ∷ []) = h.3 ∙ ap (λ l. map (stored_by id) (done ++ l ∷ [])) same in
    let more : length (done ++ line ∷ []) ≡ n + 1 = omega (arith, length-append done (line ∷ []), count) in
    let counted : count_by id r.stored ≡ n + 1 = ap (count_by id) e ∙ count_all id (done ++ line ∷ []) ∙ more in
    record {
      offset = pos (last_by id 0 0 r.stored);
      after = bare r;
      comes = comes_to id n line part r Repeated built (ap (λ k. verdict k (pos (n % 2 ^ 31))) counted ∙ verdict_repeated n);
      stored = e;
      login = refl;
      users = refl;
      read = refl;
    }

some_is : (a b : ProducerId) → ◌≡◌ {A = Option ProducerId} (Some a) (Some b) → a ≡ b
some_is a b e = cc

owned : (id owner : ProducerId) (producer : Option ProducerId) (done lines : List Line) (stored : List Stored) → producer ≡ Some id → IsOwner owner producer done stored → IsStored owner done lines stored → IsStored id done lines stored
owned id owner producer done lines stored has (inl e) h = subst (λ i. IsStored i done lines stored) (some_is owner id (sym e ∙ has)) h
owned id owner producer done lines stored has (inr e) h = one_of_both id producer (IsStored id done lines stored) has e.0

sequence_fits : (n : ℕ) → FitsSigned w32 (pos (n % 2 ^ 31))
sequence_fits n = record { sfits = omega arith }

abbrev part_at : Target → List ℕ → ProducedBatch
part_at t batch = record { topic = t.topic; index = t.partition; batch = batch }

reacts_produce : (known : Bool) (id : ProducerId) (lines rest : List Line) (line : Line) (batch : List ℕ) (p : Producer) (handed : List Line) (r : Receiver) (text : List ℕ) → p.stage ≡ stages.Produce id → p.lines ≡ line ∷ rest → IsBatchOf id (sequence p) line batch → text ≡ produce_text (sequence p) p.target batch → r.login ≡ LoggedIn → p.producer ≡ Some id → IsTyped p.target p.create → (c : Counts p.producer p.acknowledged p.lines handed r.stored) → StoresLine id c.done line (part_at p.target batch) r → Reacts known p handed r text
unfolding produce_body produce_ask header
reacts_produce known id lines rest line batch p handed r text at first built is ready has typed c s =
    let small : length batch ≤ 1048588 = batch_small batch built.batch in
    record {
      m = request_header.written (header PRODUCE (pos 3) (sequence p)) ++ produce_body p.target batch;
      whole = ap front is ∙ front_request PRODUCE (pos 3) (sequence p) (produce_body p.target batch) (produce_short p.target batch typed.short.topic small);
      id = sequence p;
      asked = Produce (produce_topics p.target batch);
      reads = request_read PRODUCE (pos 3) (sequence p) (produce_body p.target batch) (record { sfits = lit< tt }) (record { sfits = lit< tt }) (sequence_fits p.acknowledged) ∙ ap (λ a. asks (sequence p) a) (produce_asked p.target batch typed.short.topic small typed.topic typed.partition);
      body = stored_reply (part_at p.target batch) (pos 0) s.offset;
      after = s.after;
      comes = ap (λ l. logged_in_only l (stores_part (Some (part_at p.target batch)) (bare r)) (bare r)) ready ∙ s.comes;
      least = omega (arith, stored_reply_len (part_at p.target batch) s.offset);
      most = omega (arith, stored_reply_len (part_at p.target batch) s.offset, typed.short.topic);
      read = s.read;
      users = s.users;
      next = entered (stages.Produce id) (record p { lines = rest; acknowledged = p.acknowledged + 1 });
      hears = λ u more. hears_at (stages.Produce id) (record p { unread = u; lines = p.lines ++ more }) (sequence p) (stored_reply (part_at p.target batch) (pos 0) s.offset) at refl (sequence_fits p.acknowledged) ∙ ap (λ q. producers.stored id q (record p { unread = u; lines = p.lines ++ more })) (stored_heard (part_at p.target batch) s.offset typed.short.topic typed.topic typed.partition) ∙ ap (λ ls. producers.acknowledged id (ls ++ more) (record p { unread = u; lines = p.lines ++ more })) first;
      settled = record {
        idle = refl;
        unread = refl;
        same = refl;
        typed = typed;
        ready = (s.login ∙ ready, has);
        counts = record {
          done = c.done ++ line ∷ [];
          id = id;
          split = c.split ∙ ap (λ ls. c.done ++ ls) first ∙ sym (append_assoc c.done (line ∷ []) rest);
          count = omega (arith, c.count, length-append c.done (line ∷ []));
          owner = inl has;
          some = inl s.stored;
        };
      };
      counts = record { done = c.done; id = id; split = c.split; count = c.count; owner = inl has; some = inr (line, rest, first, s.stored) };
    }

reacts_line : (known : Bool) (id : ProducerId) (lines : List Line) (p : Producer) (handed : List Line) (r : Receiver) (text : List ℕ) → p.stage ≡ stages.Produce id → p.lines ≡ lines → IsProduce id lines p text → r.login ≡ LoggedIn → p.producer ≡ Some id → IsTyped p.target p.create → Counts p.producer p.acknowledged p.lines handed r.stored → Reacts known p handed r text
reacts_line known id [] p handed r text at first h ready has typed c = absurd h
reacts_line known id (line ∷ rest) p handed r text at first h ready has typed c =
    reacts_produce known id p.lines rest line h.0 p handed r text at first h.1 h.2 ready has typed c
    (stores_line id p.acknowledged c.done p.lines rest line (part_at p.target h.0) r c.count first h.1 (owned id c.id p.producer c.done p.lines r.stored has c.owner c.some))

-- ---- any request

reacts : (known : Bool) (stage : Stage) (p : Producer) (handed : List Line) (r : Receiver) (text : List ℕ) → p.stage ≡ stage → IsRequest stage p text → Ready known stage p.producer r.login → knows r.users (plain_message p.target) ≡ known → IsTyped p.target p.create → Counts p.producer p.acknowledged p.lines handed r.stored → Reacts known p handed r text
reacts known stages.Closed p handed r text at h ready login typed c = absurd h
reacts known stages.Handshake p handed r text at h ready login typed c = reacts_handshake known p handed r text at h ready typed c
reacts known stages.Authenticate p handed r text at h ready login typed c = reacts_authenticate known p handed r text at h ready login typed c
reacts known (stages.Create n) p handed r text at h ready login typed c = reacts_create known n p handed r text at h ready.0 ready.1 typed c
reacts known stages.Identify p handed r text at h ready login typed c = reacts_identify known p handed r text at h ready.0 ready.1 typed c
reacts known (stages.Produce id) p handed r text at h ready login typed c = reacts_line known id p.lines p handed r text at refl h ready.0 ready.1 typed c
reacts known (stages.Ended ending) p handed r text at h ready login typed c = absurd h

-- ---- the step

served_whole : (w : Delivery) (m : List ℕ) (id : ℤ) (asked : Asked) (body : List ℕ) (after : Receiver) → front w.receiver.unread ≡ Whole m [] → request m ≡ asks id asked → outcome asked (bare w.receiver) ≡ replies body after → served_at (front w.receiver.unread) w ≡ record w { receiver = after; answers = w.answers ++ reply_text id (Some body) }
served_whole w m id asked body after whole reads comes = ap (λ f. served_at f w) whole ∙ ap (λ q. with_outcome q.correlation_id (outcome q.asked (bare w.receiver)) w) reads ∙ ap (λ o. with_outcome id o w) comes

answered : (known : Bool) (w : Delivery) → Holds known w → (a : IsAsking known w.core w.receiver w.requests w.answers) → w.requests ≡ [] → Reacts known w.core w.handed w.receiver (w.receiver.unread ++ w.requests) → Holds known (served_at (front w.receiver.unread) w)
answered known w h a none x =
    let all : w.receiver.unread ≡ w.receiver.unread ++ w.requests = sym (append-nil w.receiver.unread) ∙ ap (λ t. w.receiver.unread ++ t) (sym none) in
    let is : served_at (front w.receiver.unread) w ≡ record w { receiver = x.after; answers = w.answers ++ reply_text x.id (Some x.body) } = served_whole w x.m x.id x.asked x.body x.after (ap front all ∙ x.whole) x.reads x.comes in
    let reply : w.core.unread ++ (w.answers ++ reply_text x.id (Some x.body)) ≡ reply_text x.id (Some x.body) = ap (λ u. u ++ (w.answers ++ reply_text x.id (Some x.body))) a.unread ∙ ap (λ b. b ++ reply_text x.id (Some x.body)) a.none_back in
    subst (Holds known) (sym is) (record {
      login = ap (λ us. knows us (plain_message w.core.target)) x.users ∙ h.login;
      typed = h.typed;
      counts = x.counts;
      phase = inr (inr (record {
        asked = a.asked;
        going = request_going w.core.stage w.core (w.receiver.unread ++ w.requests) a.request;
        read = x.read;
        none_to = none;
        frame = int32.written x.id ++ x.body;
        whole = ap front reply ∙ front_reply x.id x.body x.least x.most;
        next = x.next;
        hears = x.hears;
        settled = x.settled;
      }));
    })

abbrev bytes : ℕ → List ℕ → List ℕ
bytes b rest = b ∷ rest

not_nothing : (b : ℕ) (rest : List ℕ) → bytes b rest ≡ [] → ⊥
not_nothing b rest e = absurd cc

served_by : (known : Bool) (w : Delivery) (to : List ℕ) → Holds known w → (a : IsAsking known w.core w.receiver w.requests w.answers) → w.requests ≡ to → Reacts known w.core w.handed w.receiver (w.receiver.unread ++ w.requests) → Holds known (served_at (front w.receiver.unread) w)
served_by known w [] h a left x = answered known w h a left x
served_by known w (b ∷ to) h a left x =
    let part : front w.receiver.unread ≡ Partial = front_part w.receiver.unread w.requests x.m x.whole (λ e. not_nothing b to (sym left ∙ e)) in
    subst (Holds known) (sym (ap (λ f. served_at f w) part)) h

served_nothing : (known : Bool) (w : Delivery) → Holds known w → w.receiver.unread ≡ [] → Holds known (served_at (front w.receiver.unread) w)
served_nothing known w h e = subst (Holds known) (sym (ap (λ f. served_at f w) (ap front e ∙ front_nothing))) h

served_in : (known : Bool) (w : Delivery) → Holds known w → Phase known w.core w.handed w.receiver w.requests w.answers → Holds known (served_at (front w.receiver.unread) w)
served_in known w h (inl q) = served_nothing known w h q.0.read
served_in known w h (inr (inl a)) = served_by known w w.requests h a refl (reacts known w.core.stage w.core w.handed w.receiver (w.receiver.unread ++ w.requests) refl a.request a.ready h.login h.typed h.counts)
served_in known w h (inr (inr a)) = served_nothing known w h a.read

pub holds-served : (known : Bool) (w : Delivery) → Holds known w → Holds known (served_at (front w.receiver.unread) w)
holds-served known w h = served_in known w h h.phase
