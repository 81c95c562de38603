-- What is promised of whole runs.
use Rattle.std.proofs.Common.{◌≡◌, ℕ, ◌+◌, Bool, true, false, List, [], ◌∷◌, ◌++◌, length, map, take, drop, Option, Some, None, Result, Ok, Err, refl, sym, ap, subst, ◌∙◌, append_assoc, arith, inl, inr}
use Rattle.std.specs.Prelude.{ℤ, pos}
use Rattle.std.proofs.lemmas.List.{append-nil, map-append, length-append, length-map, take_at}
use Rattle.kb_api_group.specs.declared.plain.PlainLogin.{PlainLogin}
use Rattle.kb_client.specs.declared.fault.ClientFault.{ClientFault}
use Rattle.kb_client.specs.declared.fault.ClientFault.TheVariants as faults
use Rattle.kb_client.specs.declared.stage.ProducerId.{ProducerId}
use Rattle.kb_client.specs.declared.stage.Stage.{Stage}
use Rattle.kb_client.specs.declared.stage.Stage.TheVariants as stages
use Rattle.kb_client.specs.Stages.{fault_of}
use Rattle.kb_client.specs.Sent.{Line, Target}
use Rattle.kb_client.specs.Requests.{plain_message}
use Rattle.kb_client.specs.Producer.{Producer, fed, is_due, is_idle, IsOutput, TakesLine, Inputs, OutputsText}
use Rattle.kb_client_spec.specs.Receiver.{Stored, knows}
use Rattle.kb_client_spec.specs.Sending.{Delivery, Event, Hands, Sends, Arrives, Serves, Returns, Reconnects, Steps, Runs, IsTyped, IsDelivered, IsTaken, OnlyMemoryFails, HasNoFault, new_delivery, values, if_taken, if_given, if_come}
use Rattle.kb_client_spec.proofs.Invariant.{stored_by, IsStored, Counts, Holds, holds_going}
use Rattle.kb_client_spec.proofs.Steps.{holds-handed, holds-sent, holds-arrived, holds-returned, holds-connected}
use Rattle.kb_client_spec.proofs.Serving.{holds-served}

-- ---- each event leaves what holds

after_line : (known : Bool) (old new : Delivery) (line : Line) (result : Result (Unit {0}) ClientFault) → TakesLine old.core line result new.core → new ≡ record old { core = new.core; handed = if_taken result line old.handed } → Holds known old → Holds known new
after_line known old new line (Ok u) t e h = subst (Holds known) (sym (e ∙ ap (λ c. record old { core = c; handed = old.handed ++ line ∷ [] }) t.2)) (holds-handed known old line h)
after_line known old new line (Err faults.LineTooLong) t e h = subst (Holds known) (sym (e ∙ ap (λ c. record old { core = c }) t.2)) h
after_line known old new line (Err faults.Memory) t e h = subst (Holds known) (sym (e ∙ ap (λ c. record old { core = c }) t.2)) h
after_line known old new line (Err faults.Denied) t e h = subst (Holds known) (sym (e ∙ ap (λ c. record old { core = c }) t.1)) h
after_line known old new line (Err (faults.Code code)) t e h = subst (Holds known) (sym (e ∙ ap (λ c. record old { core = c }) t.1)) h
after_line known old new line (Err faults.Protocol) t e h = subst (Holds known) (sym (e ∙ ap (λ c. record old { core = c }) t.1)) h

sent_by : (known : Bool) (old new : Delivery) (text : List ℕ) (due : Bool) → is_due old.core ≡ due → IsOutput due old.core text new.core → new ≡ record old { core = new.core; requests = old.requests ++ text } → Holds known old → Holds known new
sent_by known old new text true due o e h = subst (Holds known) (sym (e ∙ ap (λ c. record old { core = c; requests = old.requests ++ text }) o.1)) (holds-sent known old text due o.0 h)
sent_by known old new text false due o e h = subst (Holds known) (sym (e ∙ ap (λ c. record old { core = c; requests = old.requests ++ text }) o.1 ∙ ap (λ t. record old { requests = old.requests ++ t }) o.0 ∙ ap (λ q. record old { requests = q }) (append-nil old.requests))) h

not_sent : (known : Bool) (old new : Delivery) → new.core ≡ old.core → new ≡ record old { core = new.core; requests = old.requests ++ [] } → Holds known old → Holds known new
not_sent known old new same e h = subst (Holds known) (sym (e ∙ ap (λ c. record old { core = c; requests = old.requests ++ [] }) same ∙ ap (λ q. record old { requests = q }) (append-nil old.requests))) h

after_output : (known : Bool) (old new : Delivery) (result : Result (List ℕ) ClientFault) → OutputsText (λ text. text) old.core result new.core → new ≡ record old { core = new.core; requests = old.requests ++ if_given result } → Holds known old → Holds known new
after_output known old new (Ok text) t e h = sent_by known old new text (is_due old.core) refl t.1 e h
after_output known old new (Err faults.Memory) t e h = not_sent known old new t.2 e h
after_output known old new (Err faults.Denied) t e h = not_sent known old new t.1 e h
after_output known old new (Err (faults.Code code)) t e h = not_sent known old new t.1 e h
after_output known old new (Err faults.Protocol) t e h = not_sent known old new t.1 e h
after_output known old new (Err faults.LineTooLong) t e h = absurd t

come : (known : Bool) (old new : Delivery) (n : ℕ) → new.core ≡ fed (take n old.answers) old.core → new ≡ record old { core = new.core; answers = drop n old.answers } → Holds known old → Holds known new
come known old new n is e h = subst (Holds known) (sym (e ∙ ap (λ c. record old { core = c; answers = drop n old.answers }) is)) (holds-returned known n old h)

after_input : (known : Bool) (old new : Delivery) (n : ℕ) (result : Result (Unit {0}) ClientFault) → Inputs old.core (take n old.answers) result new.core → new ≡ record old { core = new.core; answers = if_come result n old.answers } → Holds known old → Holds known new
after_input known old new n (Ok u) t e h = come known old new n t.0 e h
after_input known old new n (Err faults.Memory) t e h = subst (Holds known) (sym (e ∙ ap (λ c. record old { core = c }) t.0)) h
after_input known old new n (Err faults.Denied) t e h = come known old new n t.0 e h
after_input known old new n (Err (faults.Code code)) t e h = come known old new n t.0 e h
after_input known old new n (Err faults.Protocol) t e h = come known old new n t.0 e h
after_input known old new n (Err faults.LineTooLong) t e h = absurd t

after : (known : Bool) (e : Event) (old new : Delivery) → Steps e old new → Holds known old → Holds known new
after known (Hands line result) old new s h = after_line known old new line result s.0 s.1 h
after known (Sends result) old new s h = after_output known old new result s.0 s.1 h
after known (Arrives n) old new s h = subst (Holds known) (sym s) (holds-arrived known n old h)
after known Serves old new s h = subst (Holds known) (sym s) (holds-served known old h)
after known (Returns n result) old new s h = after_input known old new n result s.0 s.1 h
after known Reconnects old new s h = subst (Holds known) (sym s) (holds-connected known old h)

after_all : (known : Bool) (es : List Event) (first last : Delivery) → Runs es first last → Holds known first → Holds known last
after_all known [] first last r h = subst (Holds known) (sym r) h
after_all known (e ∷ es) first last r h = after_all known es r.0 last r.2 (after known e first r.0 r.1 h)

holds-begun : (known : Bool) (target : Target) (create : Option ℤ) (users : List PlainLogin) (created : Bool) (next_id : ℕ) → IsTyped target create → knows users (plain_message target) ≡ known → Holds known (new_delivery target create users created next_id)
holds-begun known target create users created next_id typed is = record {
  login = is;
  typed = typed;
  counts = record { done = []; id = record { id = pos 0; epoch = pos 0 }; split = refl; count = refl; owner = inr (refl, refl, refl); some = inl refl };
  phase = inl (record { idle = refl; unread = refl; read = refl; none_to = refl; none_back = refl }, tt);
}

-- ---- the values

values_by : (id : ProducerId) (lines : List Line) → map (λ (s : Stored). s.value) (map (stored_by id) lines) ≡ map (λ (l : Line). l.value) lines
values_by id [] = refl
values_by id (line ∷ lines) = ap (λ vs. line.value ∷ vs) (values_by id lines)

-- some values that are those of the first lines
first_of_lines : (some rest handed : List Line) (vs : List (List ℕ)) → handed ≡ some ++ rest → vs ≡ map (λ (l : Line). l.value) some → vs ≡ take (length vs) (map (λ (l : Line). l.value) handed)
first_of_lines some rest handed vs e is =
    let all : map (λ (l : Line). l.value) handed ≡ map (λ (l : Line). l.value) some ++ map (λ (l : Line). l.value) rest = ap (map (λ (l : Line). l.value)) e ∙ map-append (λ (l : Line). l.value) some rest in
    let front : take (length vs) (map (λ (l : Line). l.value) some ++ map (λ (l : Line). l.value) rest) ≡ map (λ (l : Line). l.value) some = take_at (map (λ (l : Line). l.value) some) (map (λ (l : Line). l.value) rest) (length vs) (ap length (sym is)) in
    is ∙ sym (ap (take (length vs)) all ∙ front)

idle_lines : (stage : Stage) (lines : List Line) → is_idle stage lines ≡ true → lines ≡ []
idle_lines stages.Closed lines e = absurd cc
idle_lines stages.Handshake lines e = absurd cc
idle_lines stages.Authenticate lines e = absurd cc
idle_lines (stages.Create n) lines e = absurd cc
idle_lines stages.Identify lines e = absurd cc
idle_lines (stages.Produce id) [] e = refl
idle_lines (stages.Produce id) (line ∷ lines) e = absurd cc
idle_lines (stages.Ended ending) lines e = absurd cc

no_more : (line : Line) (rest lines : List Line) (P : Type 0) → lines ≡ line ∷ rest → lines ≡ [] → P
no_more line rest lines P e f = let no : ◌≡◌ {A = List Line} (line ∷ rest) [] = sym e ∙ f in absurd cc

delivered_by : (w : Delivery) (c : Counts w.core.producer w.core.acknowledged w.core.lines w.handed w.receiver.stored) → IsStored c.id c.done w.core.lines w.receiver.stored → IsDelivered w
delivered_by w c (inl e) =
    let are : values w ≡ map (λ (l : Line). l.value) c.done = ap (map (λ (s : Stored). s.value)) e ∙ values_by c.id c.done in
    let len : length (values w) ≡ length c.done = ap length are ∙ length-map c.done (λ (l : Line). l.value) in
    record {
      in_order = first_of_lines c.done w.core.lines w.handed (values w) c.split are;
      acknowledged = omega (arith, len, c.count);
      one_more = omega (arith, len, c.count);
      idle = λ i.
          let all : w.handed ≡ c.done = c.split ∙ ap (λ ls. c.done ++ ls) (idle_lines w.core.stage w.core.lines i) ∙ append-nil c.done in
          (are ∙ ap (map (λ (l : Line). l.value)) (sym all), c.count ∙ ap length (sym all));
    }
delivered_by w c (inr h) =
    let some : List Line = c.done ++ h.0 ∷ [] in
    let are : values w ≡ map (λ (l : Line). l.value) some = ap (map (λ (s : Stored). s.value)) h.3 ∙ values_by c.id some in
    let len : length (values w) ≡ length c.done + 1 = ap length are ∙ length-map some (λ (l : Line). l.value) ∙ length-append c.done (h.0 ∷ []) in
    let split : w.handed ≡ some ++ h.1 = c.split ∙ ap (λ ls. c.done ++ ls) h.2 ∙ sym (append_assoc c.done (h.0 ∷ []) h.1) in
    record {
      in_order = first_of_lines some h.1 w.handed (values w) split are;
      acknowledged = omega (arith, len, c.count);
      one_more = omega (arith, len, c.count);
      idle = λ i. no_more h.0 h.1 w.core.lines _ h.2 (idle_lines w.core.stage w.core.lines i);
    }

pub delivered : (target : Target) (create : Option ℤ) (users : List PlainLogin) (created : Bool) (next_id : ℕ) (es : List Event) (last : Delivery) → IsTyped target create → Runs es (new_delivery target create users created next_id) last → IsDelivered last
delivered target create users created next_id es last typed r =
    let h = after_all (knows users (plain_message target)) es (new_delivery target create users created next_id) last r (holds-begun (knows users (plain_message target)) target create users created next_id typed refl) in
    delivered_by last h.counts h.counts.some

-- ---- faults

clash : (f : Option ClientFault) (fault : ClientFault) → f ≡ None → f ≡ Some fault → ⊥
clash f fault none some = let no : ◌≡◌ {A = Option ClientFault} None (Some fault) = sym none ∙ some in absurd cc

taken_line : (old new : Producer) (line : Line) (result : Result (Unit {0}) ClientFault) → fault_of old.stage ≡ None → TakesLine old line result new → IsTaken line result
taken_line old new line (Ok u) going t = tt
taken_line old new line (Err faults.LineTooLong) going t = t.1
taken_line old new line (Err faults.Memory) going t = tt
taken_line old new line (Err faults.Denied) going t = clash (fault_of old.stage) faults.Denied going t.0
taken_line old new line (Err (faults.Code code)) going t = clash (fault_of old.stage) (faults.Code code) going t.0
taken_line old new line (Err faults.Protocol) going t = clash (fault_of old.stage) faults.Protocol going t.0

done_output : (old new : Producer) (result : Result (List ℕ) ClientFault) → fault_of old.stage ≡ None → OutputsText (λ text. text) old result new → OnlyMemoryFails result
done_output old new (Ok text) going t = tt
done_output old new (Err faults.Memory) going t = tt
done_output old new (Err faults.Denied) going t = clash (fault_of old.stage) faults.Denied going t.0
done_output old new (Err (faults.Code code)) going t = clash (fault_of old.stage) (faults.Code code) going t.0
done_output old new (Err faults.Protocol) going t = clash (fault_of old.stage) faults.Protocol going t.0
done_output old new (Err faults.LineTooLong) going t = t

done_input : (old new : Producer) (piece : List ℕ) (result : Result (Unit {0}) ClientFault) → fault_of new.stage ≡ None → Inputs old piece result new → OnlyMemoryFails result
done_input old new piece (Ok u) going t = tt
done_input old new piece (Err faults.Memory) going t = tt
done_input old new piece (Err faults.Denied) going t = clash (fault_of new.stage) faults.Denied going t.1
done_input old new piece (Err (faults.Code code)) going t = clash (fault_of new.stage) (faults.Code code) going t.1
done_input old new piece (Err faults.Protocol) going t = clash (fault_of new.stage) faults.Protocol going t.1
done_input old new piece (Err faults.LineTooLong) going t = t

no_fault_in : (es : List Event) (first last : Delivery) → Runs es first last → Holds true first → HasNoFault es
no_fault_in [] first last r h = tt
no_fault_in (Hands line result ∷ es) first last r h = (taken_line first.core r.0.core line result (holds_going first h) r.1.0, no_fault_in es r.0 last r.2 (after true (Hands line result) first r.0 r.1 h))
no_fault_in (Sends result ∷ es) first last r h = (done_output first.core r.0.core result (holds_going first h) r.1.0, no_fault_in es r.0 last r.2 (after true (Sends result) first r.0 r.1 h))
no_fault_in (Arrives n ∷ es) first last r h = no_fault_in es r.0 last r.2 (after true (Arrives n) first r.0 r.1 h)
no_fault_in (Serves ∷ es) first last r h = no_fault_in es r.0 last r.2 (after true Serves first r.0 r.1 h)
no_fault_in (Returns n result ∷ es) first last r h =
    let next : Holds true r.0 = after true (Returns n result) first r.0 r.1 h in
    (done_input first.core r.0.core (take n first.answers) result (holds_going r.0 next) r.1.0, no_fault_in es r.0 last r.2 next)
no_fault_in (Reconnects ∷ es) first last r h = no_fault_in es r.0 last r.2 (after true Reconnects first r.0 r.1 h)

pub no_fault : (target : Target) (create : Option ℤ) (users : List PlainLogin) (created : Bool) (next_id : ℕ) (es : List Event) (last : Delivery) → IsTyped target create → knows users (plain_message target) ≡ true → Runs es (new_delivery target create users created next_id) last → HasNoFault es
no_fault target create users created next_id es last typed is r = no_fault_in es (new_delivery target create users created next_id) last r (holds-begun true target create users created next_id typed is)
