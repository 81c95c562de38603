-- What holds of a consumer and its partition, whatever happened.
use Rattle.std.proofs.Common.{◌≡◌, ℕ, zero, suc, ◌-◌, Bool, true, false, List, [], ◌∷◌, ◌++◌, length, take, drop, Option, Some, None, refl, sym, ap, subst, ◌∙◌, append_assoc, arith, inl, inr}
use Rattle.std.specs.Int.{w64}
use Rattle.std.specs.Prelude.{FitsSigned, ℤ, ◌≤ℤ◌, ◌⊎◌}
use Rattle.std.proofs.lemmas.Int.{ints}
use Rattle.std.specs.List.{flat_map}
use Rattle.std.proofs.lemmas.List.{append-nil, length-append, length-take, take_at, take_all, take-append-drop}
use Rattle.std.proofs.lemmas.List.Concat.{flat_map-append}
use Rattle.kb_batch.specs.declared.record.RecordView.{RecordView}
use Rattle.kb_client.specs.declared.fetching.Fetching.{Fetching}
use Rattle.kb_client.specs.declared.fetching.Fetching.TheVariants as stages
use Rattle.kb_client.specs.Sent.{Target}
use Rattle.kb_client.specs.Lines.{found_in, less, at_most, records_from, line_text}
use Rattle.kb_client.specs.Consumer.{Consumer, fault_at, new_consumer, connected, restarted, entered, with_records, with_found, wanting, at_end, without_text}
use Rattle.kb_client_spec.specs.Partition.{IsLog, end_of_log, records_of_log, batch_bytes, batches_given}
use Rattle.kb_client_spec.specs.Consuming.{IsWithin, IsFull}
use Rattle.kb_client_spec.proofs.Finding.{at_or_below, end_grows, Finds, finds_answered, found_answered, answered_some, nothing_held, less_more, found_text, no_lines, none_less}

-- a consumer and its partition, with the batches as a value that a reply holds which is under way
pub record World : Type 0 where
  pub core : Consumer
  pub taken : List ℕ
  pub reply : Option (List (List ℕ))
  pub start : ℤ
  pub batches : List (List ℕ)
  pub met : ℕ

-- the reply comes
abbrev pub come : Option (List (List ℕ)) → World → World
come None w = w
come (Some batches) w = record w { core = with_records (batch_bytes batches) w.core; reply = None }

pub record IsGivenBy (offset : ℤ) (wanted : Option ℕ) (follow : Bool) (w : World) : Type 0 where
  pub records : List RecordView
  pub others : List RecordView
  pub in_order : records_of_log offset w.batches ≡ records ++ others
  pub lines : w.taken ++ w.core.found.text ≡ flat_map line_text records
  pub within : IsWithin wanted (length records)
  pub finished : w.core.stage ≡ stages.Finished → IsFull wanted (length records) ⊎ ((follow ≡ false) × (records ≡ records_of_log offset (take w.met w.batches)))

-- an end was met: of the batches that were there then, each record was found
pub record IsEnd (offset : ℤ) (records : List RecordView) (w : World) : Type 0 where
  pub old : List (List ℕ)
  pub more : List (List ℕ)
  pub is : w.batches ≡ old ++ more
  pub met : w.met ≡ length old
  pub all : records_of_log offset old ≡ records
  pub stays : w.core.follow ≡ false

-- a reply holds batches that were there when it was made
pub record IsReply (offset : ℤ) (records : List RecordView) (w : World) (r : List (List ℕ)) : Type 0 where
  pub n : ℕ
  pub old : List (List ℕ)
  pub more : List (List ℕ)
  pub is : w.batches ≡ old ++ more
  pub there : w.met ≡ length old
  pub log : IsLog w.start old
  pub batches : r ≡ batches_given n w.core.found.offset old
  pub split : records_of_log offset old ≡ records ++ records_of_log w.core.found.offset old

abbrev pub MayReply : ℤ → List RecordView → World → Option (List (List ℕ)) → Type 0
MayReply offset records w None = Unit {0}
MayReply offset records w (Some r) = IsReply offset records w r

pub record Holds (offset : ℤ) (wanted : Option ℕ) (follow : Bool) (w : World) : Type 0 where
  pub log : IsLog w.start w.batches
  pub records : List RecordView
  pub split : records_of_log offset w.batches ≡ records ++ records_of_log w.core.found.offset w.batches
  pub text : w.taken ++ w.core.found.text ≡ flat_map line_text (at_most wanted records)
  pub left : w.core.found.wanted ≡ less wanted (length records)
  pub later : (between more : List (List ℕ)) → IsLog w.start (w.batches ++ (between ++ more)) → records_of_log offset more ≡ records_of_log w.core.found.offset more
  pub reply : MayReply offset records w w.reply
  pub follows : w.core.follow ≡ follow
  pub finished : w.core.stage ≡ stages.Finished → (less wanted (length records) ≡ Some 0) ⊎ IsEnd offset records w

-- ---- a batch is added

pub log_joined : (a b : List (List ℕ)) (off : ℤ) → records_of_log off (a ++ b) ≡ records_of_log off a ++ records_of_log off b
log_joined a b off = flat_map-append (λ batch. records_from off batch) a b

abbrev grown : List ℕ → World → World
grown b w = record w { batches = w.batches ++ b ∷ [] }

grown_end : (offset : ℤ) (records : List RecordView) (b : List ℕ) (w : World) → IsEnd offset records w → IsEnd offset records (grown b w)
grown_end offset records b w e = record { old = e.old; more = e.more ++ b ∷ []; is = ap (λ bs. bs ++ b ∷ []) e.is ∙ append_assoc e.old e.more (b ∷ []); met = e.met; all = e.all; stays = e.stays }

grown_reply : (offset : ℤ) (records : List RecordView) (b : List ℕ) (w : World) (reply : Option (List (List ℕ))) → MayReply offset records w reply → MayReply offset records (grown b w) reply
grown_reply offset records b w None h = tt
grown_reply offset records b w (Some r) h = record { n = h.n; old = h.old; more = h.more ++ b ∷ []; is = ap (λ bs. bs ++ b ∷ []) h.is ∙ append_assoc h.old h.more (b ∷ []); there = h.there; log = h.log; batches = h.batches; split = h.split }

grown_finished : (offset : ℤ) (wanted : Option ℕ) (records : List RecordView) (b : List ℕ) (w : World) → ((less wanted (length records) ≡ Some 0) ⊎ IsEnd offset records w) → ((less wanted (length records) ≡ Some 0) ⊎ IsEnd offset records (grown b w))
grown_finished offset wanted records b w (inl e) = inl e
grown_finished offset wanted records b w (inr e) = inr (grown_end offset records b w e)

pub holds-grown : (offset : ℤ) (wanted : Option ℕ) (follow : Bool) (b : List ℕ) (w : World) → IsLog w.start (w.batches ++ b ∷ []) → Holds offset wanted follow w → Holds offset wanted follow (grown b w)
holds-grown offset wanted follow b w log h = record {
  log = log;
  records = h.records;
  split = log_joined w.batches (b ∷ []) offset ∙ ap (λ x. x ++ records_of_log offset (b ∷ [])) h.split ∙ append_assoc h.records (records_of_log w.core.found.offset w.batches) (records_of_log offset (b ∷ [])) ∙ ap (λ x. h.records ++ (records_of_log w.core.found.offset w.batches ++ x)) (h.later [] (b ∷ []) log) ∙ ap (λ x. h.records ++ x) (sym (log_joined w.batches (b ∷ []) w.core.found.offset));
  text = h.text;
  left = h.left;
  later = λ between more whole. h.later (b ∷ between) more (subst (λ bs. IsLog w.start bs) (append_assoc w.batches (b ∷ []) (between ++ more)) whole);
  reply = grown_reply offset h.records b w w.reply h.reply;
  follows = h.follows;
  finished = λ s. grown_finished offset wanted h.records b w (h.finished s);
}

-- ---- the consumer goes on without a reply

-- the same but for the stage, and with no more than the reply that was under way
moved_end : (offset : ℤ) (records : List RecordView) (w v : World) → v.batches ≡ w.batches → v.met ≡ w.met → v.core.follow ≡ w.core.follow → IsEnd offset records w → IsEnd offset records v
moved_end offset records w v same met follow e = record { old = e.old; more = e.more; is = same ∙ e.is; met = met ∙ e.met; all = e.all; stays = follow ∙ e.stays }

restarted_finished : (stage : Fetching) → restarted stage ≡ stages.Finished → stage ≡ stages.Finished
restarted_finished stages.Closed e = absurd cc
restarted_finished stages.Handshake e = absurd cc
restarted_finished stages.Authenticate e = absurd cc
restarted_finished stages.Fetch e = absurd cc
restarted_finished stages.Finished e = refl
restarted_finished (stages.Ended ending) e = absurd cc

either : (offset : ℤ) (wanted : Option ℕ) (records : List RecordView) (w v : World) → v.batches ≡ w.batches → v.met ≡ w.met → v.core.follow ≡ w.core.follow → ((less wanted (length records) ≡ Some 0) ⊎ IsEnd offset records w) → ((less wanted (length records) ≡ Some 0) ⊎ IsEnd offset records v)
either offset wanted records w v same met follow (inl e) = inl e
either offset wanted records w v same met follow (inr e) = inr (moved_end offset records w v same met follow e)

pub holds-connected : (offset : ℤ) (wanted : Option ℕ) (follow : Bool) (w : World) → Holds offset wanted follow w → Holds offset wanted follow (record w { core = connected w.core; reply = None })
holds-connected offset wanted follow w h = record {
  log = h.log;
  records = h.records;
  split = h.split;
  text = h.text;
  left = h.left;
  later = h.later;
  reply = tt;
  follows = h.follows;
  finished = λ s. either offset wanted h.records w (record w { core = connected w.core; reply = None }) refl refl refl (h.finished (restarted_finished w.core.stage s));
}

entered_reply : (offset : ℤ) (records : List RecordView) (stage : Fetching) (w : World) (reply : Option (List (List ℕ))) → MayReply offset records w reply → MayReply offset records (record w { core = entered stage w.core }) reply
entered_reply offset records stage w None h = tt
entered_reply offset records stage w (Some r) h = record { n = h.n; old = h.old; more = h.more; is = h.is; there = h.there; log = h.log; batches = h.batches; split = h.split }

pub holds-entered : (offset : ℤ) (wanted : Option ℕ) (follow : Bool) (stage : Fetching) (w : World) → (stage ≡ stages.Finished → ⊥) → Holds offset wanted follow w → Holds offset wanted follow (record w { core = entered stage w.core })
holds-entered offset wanted follow stage w other h = record {
  log = h.log;
  records = h.records;
  split = h.split;
  text = h.text;
  left = h.left;
  later = h.later;
  reply = entered_reply offset h.records stage w w.reply h.reply;
  follows = h.follows;
  finished = λ s. absurd (other s);
}

-- ---- lines are taken

taken_reply : (offset : ℤ) (records : List RecordView) (w : World) (reply : Option (List (List ℕ))) → MayReply offset records w reply → MayReply offset records (record w { core = without_text w.core; taken = w.taken ++ w.core.found.text }) reply
taken_reply offset records w None h = tt
taken_reply offset records w (Some r) h = record { n = h.n; old = h.old; more = h.more; is = h.is; there = h.there; log = h.log; batches = h.batches; split = h.split }

pub holds-taken : (offset : ℤ) (wanted : Option ℕ) (follow : Bool) (w : World) → Holds offset wanted follow w → Holds offset wanted follow (record w { core = without_text w.core; taken = w.taken ++ w.core.found.text })
holds-taken offset wanted follow w h = record {
  log = h.log;
  records = h.records;
  split = h.split;
  text = append-nil (w.taken ++ w.core.found.text) ∙ h.text;
  left = h.left;
  later = h.later;
  reply = taken_reply offset h.records w w.reply h.reply;
  follows = h.follows;
  finished = λ s. either offset wanted h.records w (record w { core = without_text w.core; taken = w.taken ++ w.core.found.text }) refl refl refl (h.finished s);
}

-- ---- a reply is made

fetches : (stage : Fetching) (P : Type 0) → stage ≡ stages.Fetch → stage ≡ stages.Finished → P
fetches stage P e f = let no : stages.Fetch ≡ stages.Finished = sym e ∙ f in absurd cc

pub holds-replied : (offset : ℤ) (wanted : Option ℕ) (follow : Bool) (n : ℕ) (w : World) → w.core.stage ≡ stages.Fetch → Holds offset wanted follow w → Holds offset wanted follow (record w { reply = Some (batches_given n w.core.found.offset w.batches); met = length w.batches })
holds-replied offset wanted follow n w at h = record {
  log = h.log;
  records = h.records;
  split = h.split;
  text = h.text;
  left = h.left;
  later = h.later;
  reply = record { n = n; old = w.batches; more = []; is = sym (append-nil w.batches); there = refl; log = h.log; batches = refl; split = h.split };
  follows = h.follows;
  finished = λ s. fetches w.core.stage _ at s;
}

-- a refusal is made: no batch is in it
pub holds-refused : (offset : ℤ) (wanted : Option ℕ) (follow : Bool) (w : World) → w.core.stage ≡ stages.Fetch → Holds offset wanted follow w → Holds offset wanted follow (record w { reply = None; met = length w.batches })
holds-refused offset wanted follow w at h = record {
  log = h.log;
  records = h.records;
  split = h.split;
  text = h.text;
  left = h.left;
  later = h.later;
  reply = tt;
  follows = h.follows;
  finished = λ s. fetches w.core.stage _ at s;
}

-- ---- a reply comes

abbrev came : Consumer → World → World
came c w = record w { core = c; reply = None }

-- no batch is in it
at_end_finished : (follow : Bool) → at_end follow ≡ stages.Finished → follow ≡ false
at_end_finished true e = absurd cc
at_end_finished false e = refl

came_end : (offset : ℤ) (wanted : Option ℕ) (follow : Bool) (w : World) (r : List (List ℕ)) → (h : Holds offset wanted follow w) → (x : IsReply offset h.records w r) → r ≡ [] → Holds offset wanted follow (came (entered (at_end w.core.follow) w.core) w)
came_end offset wanted follow w r h x none =
    let left : records_of_log w.core.found.offset x.old ≡ [] = nothing_held x.n w.core.found.offset x.old (sym x.batches ∙ none) in
    let all : records_of_log offset x.old ≡ h.records = x.split ∙ ap (λ rs. h.records ++ rs) left ∙ append-nil h.records in
    record {
      log = h.log;
      records = h.records;
      split = h.split;
      text = h.text;
      left = h.left;
      later = h.later;
      reply = tt;
      follows = h.follows;
      finished = λ s. inr (record { old = x.old; more = x.more; is = x.is; met = x.there; all = all; stays = at_end_finished w.core.follow s });
    }

wanting_finished : (w : Option ℕ) → wanting w stages.Fetch ≡ stages.Finished → w ≡ Some 0
wanting_finished None e = absurd cc
wanting_finished (Some zero) e = refl
wanting_finished (Some (suc n)) e = absurd cc

-- batches are in it
came_found : (offset : ℤ) (wanted : Option ℕ) (follow : Bool) (w : World) (r : List (List ℕ)) → (h : Holds offset wanted follow w) → (x : IsReply offset h.records w r) → (f : Finds w.core.found x.old (batches_given x.n w.core.found.offset x.old)) → Holds offset wanted follow (came (with_found (Some f.after) w.core) w)
came_found offset wanted follow w r h x f =
    let off = w.core.found.offset in
    let same : IsLog w.start (x.old ++ ([] ++ x.more)) = subst (λ bs. IsLog w.start bs) x.is h.log in
    let now : records_of_log off w.batches ≡ f.records ++ records_of_log f.after.offset w.batches =
    ap (records_of_log off) x.is ∙ log_joined x.old x.more off ∙ ap (λ rs. rs ++ records_of_log off x.more) f.split ∙ append_assoc f.records (records_of_log f.after.offset x.old) (records_of_log off x.more)
    ∙ ap (λ rs. f.records ++ (records_of_log f.after.offset x.old ++ rs)) (f.later w.start [] x.more same) ∙ ap (λ rs. f.records ++ rs) (sym (ap (records_of_log f.after.offset) x.is ∙ log_joined x.old x.more f.after.offset)) in
    let less_now : f.after.wanted ≡ less wanted (length (h.records ++ f.records)) = f.wanted ∙ ap (λ k. less k (length f.records)) h.left ∙ less_more wanted (length h.records) (length f.records) ∙ ap (λ n. less wanted n) (sym (length-append h.records f.records)) in
    record {
      log = h.log;
      records = h.records ++ f.records;
      split = h.split ∙ ap (λ rs. h.records ++ rs) now ∙ sym (append_assoc h.records f.records (records_of_log f.after.offset w.batches));
      text = ap (λ t. w.taken ++ t) f.text ∙ sym (append_assoc w.taken w.core.found.text (flat_map line_text (at_most w.core.found.wanted f.records))) ∙ ap (λ t. t ++ flat_map line_text (at_most w.core.found.wanted f.records)) h.text ∙ ap (λ k. flat_map line_text (at_most wanted h.records) ++ flat_map line_text (at_most k f.records)) h.left ∙ found_text wanted h.records f.records [];
      left = less_now;
      later = λ between more whole. h.later between more whole ∙ f.later w.start (x.more ++ between) more (subst (λ bs. IsLog w.start bs) (ap (λ bs. bs ++ (between ++ more)) x.is ∙ append_assoc x.old x.more (between ++ more) ∙ ap (λ bs. x.old ++ bs) (sym (append_assoc x.more between more))) whole);
      reply = tt;
      follows = h.follows;
      finished = λ s. inl (sym less_now ∙ wanting_finished f.after.wanted s);
    }

given_some : (s : List ℕ) (c : Consumer) → (s ≡ [] → ⊥) → with_records s c ≡ with_found (found_in s c.found) c
given_some [] c some = absurd (some refl)
given_some (b ∷ s) c some = refl

given_is : (offset : ℤ) (wanted : Option ℕ) (follow : Bool) (w : World) (r : List (List ℕ)) (h : Holds offset wanted follow w) (x : IsReply offset h.records w r) (b : List ℕ) (read : List (List ℕ)) → r ≡ b ∷ read → with_records (batch_bytes r) w.core ≡ with_found (Some (finds_answered x.n w.core.found w.start x.old x.log).after) w.core
given_is offset wanted follow w r h x b read e =
    let f = finds_answered x.n w.core.found w.start x.old x.log in
    let some : batch_bytes (batches_given x.n w.core.found.offset x.old) ≡ [] → ⊥ = answered_some x.n w.core.found.offset w.start x.old b read x.log (sym x.batches ∙ e) in
    ap (λ bs. with_records (batch_bytes bs) w.core) x.batches ∙ given_some (batch_bytes (batches_given x.n w.core.found.offset x.old)) w.core some ∙ ap (λ o. with_found o w.core) (found_answered x.n w.core.found w.start x.old x.log ∙ f.reads)

came_by : (offset : ℤ) (wanted : Option ℕ) (follow : Bool) (w : World) (r : List (List ℕ)) (h : Holds offset wanted follow w) (x : IsReply offset h.records w r) (read : List (List ℕ)) → r ≡ read → Holds offset wanted follow (came (with_records (batch_bytes r) w.core) w)
came_by offset wanted follow w r h x [] e = subst (λ bs. Holds offset wanted follow (came (with_records (batch_bytes bs) w.core) w)) (sym e) (came_end offset wanted follow w r h x e)
came_by offset wanted follow w r h x (b ∷ read) e =
    let f = finds_answered x.n w.core.found w.start x.old x.log in
    subst (λ c. Holds offset wanted follow (came c w)) (sym (given_is offset wanted follow w r h x b read e)) (came_found offset wanted follow w r h x f)

fits_by : (offset : ℤ) (wanted : Option ℕ) (follow : Bool) (w : World) (r : List (List ℕ)) (h : Holds offset wanted follow w) (x : IsReply offset h.records w r) → FitsSigned w64 w.core.found.offset → (read : List (List ℕ)) → r ≡ read → FitsSigned w64 (with_records (batch_bytes r) w.core).found.offset
fits_by offset wanted follow w r h x fit [] e = subst (λ bs. FitsSigned w64 (with_records (batch_bytes bs) w.core).found.offset) (sym e) fit
fits_by offset wanted follow w r h x fit (b ∷ read) e =
    let f = finds_answered x.n w.core.found w.start x.old x.log in
    subst (λ (c : Consumer). FitsSigned w64 c.found.offset) (sym (given_is offset wanted follow w r h x b read e)) (f.fits fit)

pub holds-come : (offset : ℤ) (wanted : Option ℕ) (follow : Bool) (w : World) (reply : Option (List (List ℕ))) (h : Holds offset wanted follow w) → MayReply offset h.records w reply → Holds offset wanted follow (come reply w)
holds-come offset wanted follow w None h x = h
holds-come offset wanted follow w (Some r) h x = came_by offset wanted follow w r h x r refl

-- the offset stays an INT64
pub come_fits : (offset : ℤ) (wanted : Option ℕ) (follow : Bool) (w : World) (r : List (List ℕ)) (h : Holds offset wanted follow w) → IsReply offset h.records w r → FitsSigned w64 w.core.found.offset → FitsSigned w64 (with_records (batch_bytes r) w.core).found.offset
come_fits offset wanted follow w r h x fit = fits_by offset wanted follow w r h x fit r refl

-- no fault stands then
end_going : (follow : Bool) → fault_at (at_end follow) ≡ None
end_going true = refl
end_going false = refl

more_going : (w : Option ℕ) → fault_at (wanting w stages.Fetch) ≡ None
more_going None = refl
more_going (Some zero) = refl
more_going (Some (suc n)) = refl

going_by : (offset : ℤ) (wanted : Option ℕ) (follow : Bool) (w : World) (r : List (List ℕ)) (h : Holds offset wanted follow w) (x : IsReply offset h.records w r) (read : List (List ℕ)) → r ≡ read → fault_at (with_records (batch_bytes r) w.core).stage ≡ None
going_by offset wanted follow w r h x [] e = subst (λ (bs : List (List ℕ)). fault_at (with_records (batch_bytes bs) w.core).stage ≡ None) (sym e) (end_going w.core.follow)
going_by offset wanted follow w r h x (b ∷ read) e =
    let f = finds_answered x.n w.core.found w.start x.old x.log in
    subst (λ (c : Consumer). fault_at c.stage ≡ None) (sym (given_is offset wanted follow w r h x b read e)) (more_going f.after.wanted)

pub come_going : (offset : ℤ) (wanted : Option ℕ) (follow : Bool) (w : World) (r : List (List ℕ)) (h : Holds offset wanted follow w) → IsReply offset h.records w r → fault_at (with_records (batch_bytes r) w.core).stage ≡ None
come_going offset wanted follow w r h x = going_by offset wanted follow w r h x r refl

-- the offset rises, and stays within the log
rises_by : (offset : ℤ) (wanted : Option ℕ) (follow : Bool) (w : World) (r : List (List ℕ)) (h : Holds offset wanted follow w) (x : IsReply offset h.records w r) (read : List (List ℕ)) → r ≡ read → w.core.found.offset ≤ℤ (with_records (batch_bytes r) w.core).found.offset
rises_by offset wanted follow w r h x [] e = subst (λ (bs : List (List ℕ)). w.core.found.offset ≤ℤ (with_records (batch_bytes bs) w.core).found.offset) (sym e) (omega (arith, ints))
rises_by offset wanted follow w r h x (b ∷ read) e =
    let f = finds_answered x.n w.core.found w.start x.old x.log in
    subst (λ (c : Consumer). w.core.found.offset ≤ℤ c.found.offset) (sym (given_is offset wanted follow w r h x b read e)) f.rises

pub come_rises : (offset : ℤ) (wanted : Option ℕ) (follow : Bool) (w : World) (r : List (List ℕ)) (h : Holds offset wanted follow w) → IsReply offset h.records w r → w.core.found.offset ≤ℤ (with_records (batch_bytes r) w.core).found.offset
come_rises offset wanted follow w r h x = rises_by offset wanted follow w r h x r refl

old_end : (start : ℤ) (bs old more : List (List ℕ)) → bs ≡ old ++ more → IsLog start bs → end_of_log start old ≤ℤ end_of_log start bs
old_end start bs old more is log = subst (λ (xs : List (List ℕ)). end_of_log start old ≤ℤ end_of_log start xs) (sym is) (end_grows start old more (subst (IsLog start) is log))

within_either : (after offset end old : ℤ) → offset ≤ℤ end → old ≤ℤ end → (after ≤ℤ offset) ⊎ (after ≤ℤ old) → after ≤ℤ end
within_either after offset end old le lo (inl h) = at_or_below after offset end h le
within_either after offset end old le lo (inr h) = at_or_below after old end h lo

ends_by : (offset : ℤ) (wanted : Option ℕ) (follow : Bool) (w : World) (r : List (List ℕ)) (h : Holds offset wanted follow w) (x : IsReply offset h.records w r) → w.core.found.offset ≤ℤ end_of_log w.start w.batches → (read : List (List ℕ)) → r ≡ read → (with_records (batch_bytes r) w.core).found.offset ≤ℤ end_of_log w.start w.batches
ends_by offset wanted follow w r h x le [] e = subst (λ (bs : List (List ℕ)). (with_records (batch_bytes bs) w.core).found.offset ≤ℤ end_of_log w.start w.batches) (sym e) le
ends_by offset wanted follow w r h x le (b ∷ read) e =
    let f = finds_answered x.n w.core.found w.start x.old x.log in
    subst (λ (c : Consumer). c.found.offset ≤ℤ end_of_log w.start w.batches) (sym (given_is offset wanted follow w r h x b read e))
    (within_either f.after.offset w.core.found.offset (end_of_log w.start w.batches) (end_of_log w.start x.old) le (old_end w.start w.batches x.old x.more x.is h.log) (f.ends w.start x.log))

pub come_ends : (offset : ℤ) (wanted : Option ℕ) (follow : Bool) (w : World) (r : List (List ℕ)) (h : Holds offset wanted follow w) → IsReply offset h.records w r → w.core.found.offset ≤ℤ end_of_log w.start w.batches → (with_records (batch_bytes r) w.core).found.offset ≤ℤ end_of_log w.start w.batches
come_ends offset wanted follow w r h x le = ends_by offset wanted follow w r h x le r refl

-- what changes nothing that was found
same_reply : (offset : ℤ) (records : List RecordView) (a : Bool) (u : List ℕ) (w : World) (reply : Option (List (List ℕ))) → MayReply offset records w reply → MayReply offset records (record w { core = record w.core { asked = a; unread = u } }) reply
same_reply offset records a u w None h = tt
same_reply offset records a u w (Some r) h = record { n = h.n; old = h.old; more = h.more; is = h.is; there = h.there; log = h.log; batches = h.batches; split = h.split }

pub holds-same : (offset : ℤ) (wanted : Option ℕ) (follow : Bool) (a : Bool) (u : List ℕ) (w : World) → Holds offset wanted follow w → Holds offset wanted follow (record w { core = record w.core { asked = a; unread = u } })
holds-same offset wanted follow a u w h = record {
  log = h.log;
  records = h.records;
  split = h.split;
  text = h.text;
  left = h.left;
  later = h.later;
  reply = same_reply offset h.records a u w w.reply h.reply;
  follows = h.follows;
  finished = λ s. either offset wanted h.records w (record w { core = record w.core { asked = a; unread = u } }) refl refl refl (h.finished s);
}

-- ---- where it begins

closed_finished : (w : Option ℕ) → wanting w stages.Closed ≡ stages.Finished → w ≡ Some 0
closed_finished None e = absurd cc
closed_finished (Some zero) e = refl
closed_finished (Some (suc n)) e = absurd cc

pub holds-begun : (target : Target) (offset : ℤ) (wanted : Option ℕ) (follow : Bool) (start : ℤ) (batches : List (List ℕ)) → IsLog start batches → Holds offset wanted follow (record { core = new_consumer target offset wanted follow; taken = []; reply = None; start = start; batches = batches; met = 0 })
holds-begun target offset wanted follow start batches log = record {
  log = log;
  records = [];
  split = refl;
  text = sym (no_lines wanted);
  left = none_less wanted;
  later = λ between more whole. refl;
  reply = tt;
  follows = refl;
  finished = λ s. inl (sym (none_less wanted) ∙ closed_finished wanted s);
}

-- ---- what is promised

within : (wanted : Option ℕ) (rs : List RecordView) → IsWithin wanted (length (at_most wanted rs))
within None rs = tt
within (Some n) rs = omega (arith, length-take n rs)

full : (wanted : Option ℕ) (rs : List RecordView) → less wanted (length rs) ≡ Some 0 → IsFull wanted (length (at_most wanted rs))
full None rs e = cc
full (Some n) rs e = let none : n - length rs ≡ 0 = cc in omega (arith, length-take n rs, none)

rest_of : (wanted : Option ℕ) (rs : List RecordView) → (others : List RecordView) × (rs ≡ at_most wanted rs ++ others)
rest_of None rs = ([], sym (append-nil rs))
rest_of (Some n) rs = (drop n rs, sym (take-append-drop n rs))

-- a list that is no longer than is wanted is given whole
enough : (wanted : Option ℕ) (rs : List RecordView) → (less wanted (length rs) ≡ Some 0) ⊎ (at_most wanted rs ≡ rs)
enough None rs = inr refl
enough (Some n) rs = by (n - length rs) refl
  where
    by : (k : ℕ) → n - length rs ≡ k → (less (Some n) (length rs) ≡ Some 0) ⊎ (at_most (Some n) rs ≡ rs)
    by zero e = inl (ap (λ k. Some k) e)
    by (suc k) e = inr (take_all n rs (omega (arith, e)))

met_all : (offset : ℤ) (wanted : Option ℕ) (follow : Bool) (w : World) (rs : List RecordView) → w.core.follow ≡ follow → IsEnd offset rs w → ((less wanted (length rs) ≡ Some 0) ⊎ (at_most wanted rs ≡ rs)) → IsFull wanted (length (at_most wanted rs)) ⊎ ((follow ≡ false) × (at_most wanted rs ≡ records_of_log offset (take w.met w.batches)))
met_all offset wanted follow w rs same e (inl f) = inl (full wanted rs f)
met_all offset wanted follow w rs same e (inr f) =
    let there : take w.met w.batches ≡ e.old = ap (λ bs. take w.met bs) e.is ∙ take_at e.old e.more w.met (sym e.met) in
    inr (sym same ∙ e.stays, f ∙ sym e.all ∙ ap (records_of_log offset) (sym there))

finished_by : (offset : ℤ) (wanted : Option ℕ) (follow : Bool) (w : World) (rs : List RecordView) → w.core.follow ≡ follow → ((less wanted (length rs) ≡ Some 0) ⊎ IsEnd offset rs w) → IsFull wanted (length (at_most wanted rs)) ⊎ ((follow ≡ false) × (at_most wanted rs ≡ records_of_log offset (take w.met w.batches)))
finished_by offset wanted follow w rs same (inl e) = inl (full wanted rs e)
finished_by offset wanted follow w rs same (inr e) = met_all offset wanted follow w rs same e (enough wanted rs)

pub is_given : (offset : ℤ) (wanted : Option ℕ) (follow : Bool) (w : World) → Holds offset wanted follow w → IsGivenBy offset wanted follow w
is_given offset wanted follow w h =
    let rest = rest_of wanted h.records in
    record {
      records = at_most wanted h.records;
      others = rest.0 ++ records_of_log w.core.found.offset w.batches;
      in_order = h.split ∙ ap (λ rs. rs ++ records_of_log w.core.found.offset w.batches) rest.1 ∙ append_assoc (at_most wanted h.records) rest.0 (records_of_log w.core.found.offset w.batches);
      lines = h.text;
      within = within wanted h.records;
      finished = λ s. finished_by offset wanted follow w h.records h.follows (h.finished s);
    }
