-- What a socket carries goes on.
use Rattle.std.proofs.Common.{◌≡◌, List, length, take, ◌+◌, ◌-◌, ◌==◌, ◌≢◌, arith, [], ◌∷◌, ◌++◌, Option, ℕ, Result, Ok, Err, OnErr, OnOk, Bool, true, false, ◌||◌, Some, drop, sym, refl, subst, ap, ◌∙◌, append_assoc, append-nil, ⊎_elim, inl, inr, ◌⊎◌}
use Rattle.std.proofs.lemmas.Grind.{flat_map-append}
use Rattle.std.proofs.lemmas.List.{take-append-drop, drop-drop}
use Rattle.std.proofs.lemmas.Bool.Decides.{nat_tests}
use Rattle.std.specs.Result.{is_err}
use Rattle.std.specs.List.{flat_map}
use Rattle.std.specs.Io.KnownBytes.{Appends, Consumes}
use Rattle.kb_store.specs.Disk.{Disk}
use Rattle.kb_isolation_spec.specs.Machine.{Closes, Comes}
use Rattle.kb_isolation_spec.specs.Calls.{output_of, output_taken}
use Rattle.kb_broker.specs.Hosts.{OnStore}
use Rattle.kb_node.specs.declared.socket.Socket.{Socket}
use Rattle.kb_node.specs.Traffic.{Along, AreAbout, Deed, IsDone, Event, Happens, IsUsed, Read, Take, Write, connection_of, handed_by, is_telling, is_write, read_by, taken_by, written_by}
use Rattle.kb_node.specs.Carries.{Carries, CarriesWith, GoesOn, HandsOn, TellsWith, unhanded_of, unwritten_of}
use Rattle.kb_node.proofs.Traffic.{all_knowing, along_then, all_then}

-- what went on is in front of what went on since
pub goes_on : (all gone left more on rest : List ℕ) (holds : Type 0) → all ≡ gone ++ left → GoesOn (left ++ more) on holds rest
    → GoesOn (all ++ more) (gone ++ on) holds rest
goes_on all gone left more on rest holds is h =
    (h.0, ap (λ x. x ++ more) is ∙ append_assoc gone left more ∙ ap (λ x. gone ++ x) h.1 ∙ sym (append_assoc gone on h.0), h.2)

pub either : (b : Bool) → (b ≡ true) ⊎ (b ≡ false)
either true = inl refl
either false = inr refl

or_left : (a b : Bool) → (a || b) ≡ false → a ≡ false
or_left true b h = h
or_left false b h = refl

pub or_right : (a b : Bool) → b ≡ true → (a || b) ≡ true
or_right true b h = refl
or_right false b h = h

both_false : (a b : Bool) → a ≡ false → b ≡ false → (a || b) ≡ false
both_false a b p q = cc

pub or_mid : (a b e : Bool) → ((a || b) || e) ≡ false → b ≡ false
or_mid true b e h = absurd (let no : true ≡ false = h in cc)
or_mid false true e h = absurd (let no : true ≡ false = h in cc)
or_mid false false e h = refl

-- what is not lost before is not lost after, where that is the same
no_loss : {P : Type 0} (a b : Bool) → b ≡ a → a ≡ false → b ≡ true → P
no_loss a b same was is = absurd (let no : true ≡ false = sym is ∙ same ∙ was in cc)

-- one of two that was not so before is so now, and with it the third
pub or_gone : (a b c : Bool) → a ≡ false → (a || b) ≡ true → (c || b) ≡ true
or_gone a b true was is = refl
or_gone true b false was is = absurd (let no : true ≡ false = was in cc)
or_gone false b false was is = is

pub zero_of : (n : ℕ) → (n == 0) ≡ true → n ≡ 0
zero_of n h = grind (arith, nat_tests)

pub none_in : (xs : List ℕ) → (length xs == 0) ≡ true → xs ≡ []
none_in [] h = refl
none_in (x ∷ xs) h = absurd (let no : length (x ∷ xs) ≡ 0 = zero_of (length (x ∷ xs)) h in omega (arith, no))

pub some_in : (xs : List ℕ) (n : ℕ) → length xs ≡ n → (length xs == 0) ≡ false → n ≢ 0
some_in xs n is some none = let no : true ≡ false = subst (λ k. (k == 0) ≡ false) (is ∙ none) some in cc

-- the front of what is left, and the rest
pub cut : (h n h' : ℕ) (xs : List ℕ) → h' ≡ h + n → drop h xs ≡ take n (drop (h' - n) xs) ++ drop h' xs
cut h n h' xs is =
    let back : h' - n ≡ h = omega (arith, is) in
    subst (λ k. drop h xs ≡ take n (drop k xs) ++ drop h' xs) (sym back)
    (sym (take-append-drop n (drop h xs)) ∙ ap (λ r. take n (drop h xs) ++ r) (drop-drop n h xs ∙ ap (λ k. drop k xs) (sym is)))

-- what holds of an answer that is no error
pub on_ok : {A E : Type 0} {P : Type 0} (r : Result A E) → OnOk r P → is_err r ≡ false → P
on_ok (Ok x) h is = h
on_ok (Err e) h is = absurd (let no : true ≡ false = is in cc)

pub on_err : {A E : Type 0} {P : Type 0} (r : Result A E) → OnErr r P → is_err r ≡ true → P
on_err (Err e) h is = h
on_err (Ok x) h is = absurd (let no : false ≡ true = is in cc)

module _ {S T : Type 0} (disk : S → Disk) (contents remaining : T → Option (List ℕ)) where
  -- a piece was read, and it was handed on or kept
  pub reads : (old mid new : Socket T) (from to : OnStore S) (piece : List ℕ) → Consumes (remaining old.stream) (remaining mid.stream) piece
      → HandsOn disk mid new piece from to → mid.connection ≡ old.connection → new.stream ≡ mid.stream → unwritten_of new ≡ unwritten_of old
      → unhanded_of mid ≡ unhanded_of old → old.is_over ≡ false → old.is_lost ≡ false → mid.is_lost ≡ old.is_lost
      → Carries disk contents remaining old new from to
  reads old mid new from to piece came on same stream out in_ there whole lost = record {
    deeds = on.deeds;
    uses = Read piece ∷ [];
    about = subst (λ n. AreAbout n on.deeds) same on.about;
    done = on.done;
    used = (mid.stream, came, stream);
    writes = (unwritten_of old, ap (λ x. unwritten_of old ++ x) on.none_taken ∙ append-nil (unwritten_of old), λ _. sym out);
    hands_on = (on.hands_on.0, ap (λ x. unhanded_of old ++ x) (append-nil piece) ∙ ap (λ x. x ++ piece) (sym in_) ∙ on.hands_on.1, on.hands_on.2);
    over = λ is. absurd (let no : true ≡ false = sym is ∙ there in cc);
    lost = λ is. absurd (let no : true ≡ false = sym is ∙ whole in cc);
    gone = λ was is. on.gone (lost ∙ was) is;
  }

  -- a piece that is kept
  pub keeps : (old new : Socket T) (from : OnStore S) (piece handed rest : List ℕ) → piece ≡ handed ++ rest → handed ≡ []
      → ((new.is_lost || new.is_ended) ≡ false → unhanded_of new ≡ unhanded_of old ++ rest)
      → (old.is_lost ≡ false → new.is_lost ≡ true → new.is_over ≡ true) → HandsOn disk old new piece from from
  keeps old new from piece handed rest is none kept gone = record {
    deeds = [];
    about = tt;
    done = refl;
    none_taken = refl;
    hands_on = (unhanded_of old ++ rest, ap (λ x. unhanded_of old ++ x) (is ∙ ap (λ x. x ++ rest) none), λ there. sym (kept there));
    gone = gone;
  }

  -- a piece whose front is handed on, and the rest kept
  pub hands_front : (old new : Socket T) (from to : OnStore S) (piece handed rest : List ℕ) → piece ≡ handed ++ rest → unhanded_of old ≡ []
      → ((new.is_lost || new.is_ended) ≡ false → unhanded_of new ≡ unhanded_of old ++ rest)
      → (old.is_lost ≡ false → new.is_lost ≡ true → new.is_over ≡ true) → Happens disk (Comes old.connection handed) from to
      → HandsOn disk old new piece from to
  hands_front old new from to piece handed rest is none kept gone came = record {
    deeds = Event (Comes old.connection handed) ∷ [];
    about = (refl, tt);
    done = (to, came, refl);
    none_taken = refl;
    hands_on = (rest, ap (λ x. x ++ piece) none ∙ is ∙ ap (λ x. x ++ rest) (sym (append-nil handed)), λ there. sym (kept there ∙ ap (λ x. x ++ rest) none));
    gone = gone;
  }

-- a socket whose connection stays open
pub record StaysOpen {S T : Type 0} (disk : S → Disk) (known : Deed → S → Type 0) (contents remaining : T → Option (List ℕ))
    (old new : Socket T) (from to : OnStore S) : Type 0 where
  pub carries : CarriesWith disk known contents remaining old new from to
  pub connection : new.connection ≡ old.connection
  pub ended : new.is_ended ≡ false

-- a socket that told, and whose connection stays open
pub record StaysTelling {S T : Type 0} (disk : S → Disk) (known : Deed → S → Type 0) (contents remaining : T → Option (List ℕ))
    (old new : Socket T) (from to : OnStore S) : Type 0 where
  pub tells : TellsWith disk known contents remaining old new from to
  pub connection : new.connection ≡ old.connection
  pub ended : new.is_ended ≡ false

module _ {S T : Type 0} {known : Deed → S → Type 0} (disk : S → Disk) (contents remaining : T → Option (List ℕ)) where
  -- nothing of it is done
  pub stays : (old new : Socket T) (from to : OnStore S) → to ≡ from → new.stream ≡ old.stream → unwritten_of new ≡ unwritten_of old → unhanded_of new ≡ unhanded_of old
      → (old.is_over ≡ true → new.is_over ≡ true) → new.is_lost ≡ old.is_lost → CarriesWith disk known contents remaining old new from to
  stays old new from to host stream out in_ over lost = record {
    deeds = [];
    uses = [];
    about = tt;
    done = host;
    used = stream;
    writes = (unwritten_of old, append-nil (unwritten_of old), λ _. sym out);
    hands_on = (unhanded_of old, append-nil (unhanded_of old), λ _. sym in_);
    over = λ is. (over is, refl, refl);
    lost = λ is. (lost ∙ is, refl, refl);
    gone = no_loss old.is_lost new.is_lost lost;
  }

  then_hands_on : (old mid new : Socket T) (from at to : OnStore S) (one : CarriesWith disk known contents remaining old mid from at) (two : CarriesWith disk known contents remaining mid new at to)
      → mid.is_ended ≡ false
      → GoesOn (unhanded_of old ++ (flat_map read_by one.uses ++ flat_map read_by two.uses)) (flat_map handed_by one.deeds ++ flat_map handed_by two.deeds) ((new.is_lost || new.is_ended) ≡ false) (unhanded_of new)
  then_hands_on old mid new from at to one two unended = ⊎_elim
      (λ gone. (
        one.hands_on.0,
        ap (λ x. unhanded_of old ++ (flat_map read_by one.uses ++ x)) ((two.lost gone).1) ∙ ap (λ x. unhanded_of old ++ x) (append-nil (flat_map read_by one.uses)) ∙ one.hands_on.1
            ∙ ap (λ x. x ++ one.hands_on.0) (sym (append-nil (flat_map handed_by one.deeds))) ∙ ap (λ x. (flat_map handed_by one.deeds ++ x) ++ one.hands_on.0) (sym ((two.lost gone).2)),
        λ still. absurd (let off : new.is_lost ≡ false = or_left new.is_lost new.is_ended still in let on : new.is_lost ≡ true = (two.lost gone).0 in let no : true ≡ false = sym on ∙ off in cc),
      ))
      (λ there. subst (λ x. GoesOn x (flat_map handed_by one.deeds ++ flat_map handed_by two.deeds) ((new.is_lost || new.is_ended) ≡ false) (unhanded_of new))
      (append_assoc (unhanded_of old) (flat_map read_by one.uses) (flat_map read_by two.uses))
      (goes_on (unhanded_of old ++ flat_map read_by one.uses) (flat_map handed_by one.deeds) (unhanded_of mid) (flat_map read_by two.uses) (flat_map handed_by two.deeds) (unhanded_of new) ((new.is_lost || new.is_ended) ≡ false)
      (one.hands_on.1 ∙ ap (λ x. flat_map handed_by one.deeds ++ x) (one.hands_on.2 (both_false mid.is_lost mid.is_ended there unended))) two.hands_on))
      (either mid.is_lost)

  then_writes : (old mid new : Socket T) (from at to : OnStore S) (one : CarriesWith disk known contents remaining old mid from at) (two : CarriesWith disk known contents remaining mid new at to)
      → mid.is_ended ≡ false
      → GoesOn (unwritten_of old ++ (flat_map taken_by one.deeds ++ flat_map taken_by two.deeds)) (flat_map written_by one.uses ++ flat_map written_by two.uses) (new.is_ended ≡ false) (unwritten_of new)
  then_writes old mid new from at to one two unended =
      subst (λ x. GoesOn x (flat_map written_by one.uses ++ flat_map written_by two.uses) (new.is_ended ≡ false) (unwritten_of new))
      (append_assoc (unwritten_of old) (flat_map taken_by one.deeds) (flat_map taken_by two.deeds))
      (goes_on (unwritten_of old ++ flat_map taken_by one.deeds) (flat_map written_by one.uses) (unwritten_of mid) (flat_map taken_by two.deeds) (flat_map written_by two.uses) (unwritten_of new) (new.is_ended ≡ false)
      (one.writes.1 ∙ ap (λ x. flat_map written_by one.uses ++ x) (one.writes.2 unended)) two.writes)

  -- one after another
  pub carries_then : (old mid new : Socket T) (from at to : OnStore S) → CarriesWith disk known contents remaining old mid from at → CarriesWith disk known contents remaining mid new at to
      → mid.connection ≡ old.connection → mid.is_ended ≡ false → CarriesWith disk known contents remaining old new from to
  carries_then old mid new from at to one two same unended = record {
    deeds = one.deeds ++ two.deeds;
    uses = one.uses ++ two.uses;
    about = all_then (λ d. connection_of d ≡ Some old.connection) one.deeds two.deeds one.about (subst (λ n. AreAbout n two.deeds) same two.about);
    done = along_then (IsDone disk known) one.deeds two.deeds from at to one.done two.done;
    used = along_then (IsUsed contents remaining) one.uses two.uses old.stream mid.stream new.stream one.used two.used;
    writes = subst (λ x. GoesOn (unwritten_of old ++ x) (flat_map written_by (one.uses ++ two.uses)) (new.is_ended ≡ false) (unwritten_of new)) (sym (flat_map-append taken_by one.deeds two.deeds))
        (subst (λ x. GoesOn (unwritten_of old ++ (flat_map taken_by one.deeds ++ flat_map taken_by two.deeds)) x (new.is_ended ≡ false) (unwritten_of new)) (sym (flat_map-append written_by one.uses two.uses)) (then_writes old mid new from at to one two unended));
    hands_on = subst (λ x. GoesOn (unhanded_of old ++ x) (flat_map handed_by (one.deeds ++ two.deeds)) ((new.is_lost || new.is_ended) ≡ false) (unhanded_of new)) (sym (flat_map-append read_by one.uses two.uses))
        (subst (λ x. GoesOn (unhanded_of old ++ (flat_map read_by one.uses ++ flat_map read_by two.uses)) x ((new.is_lost || new.is_ended) ≡ false) (unhanded_of new)) (sym (flat_map-append handed_by one.deeds two.deeds)) (then_hands_on old mid new from at to one two unended));
    over = λ is. let first = one.over is in let second = two.over first.0 in (
      second.0,
      flat_map-append read_by one.uses two.uses ∙ ap (λ x. x ++ flat_map read_by two.uses) first.1 ∙ second.1,
      flat_map-append handed_by one.deeds two.deeds ∙ ap (λ x. x ++ flat_map handed_by two.deeds) first.2 ∙ second.2,
    );
    lost = λ is. let first = one.lost is in let second = two.lost first.0 in (
      second.0,
      flat_map-append read_by one.uses two.uses ∙ ap (λ x. x ++ flat_map read_by two.uses) first.1 ∙ second.1,
      flat_map-append handed_by one.deeds two.deeds ∙ ap (λ x. x ++ flat_map handed_by two.deeds) first.2 ∙ second.2,
    );
    gone = λ was is. ⊎_elim (λ before. (two.over (one.gone was before)).0) (λ there. two.gone there is) (either mid.is_lost);
  }

  -- the output was taken, where all was written
  pub takes : (old new : Socket T) (from to : OnStore S) → known (Take old.connection (output_of old.connection from.state)) to.store
      → to ≡ record from { state = output_taken from.state old.connection } → new.stream ≡ old.stream
      → unwritten_of old ≡ [] → unwritten_of new ≡ output_of old.connection from.state → unhanded_of new ≡ unhanded_of old
      → (old.is_over ≡ true → new.is_over ≡ true) → new.is_lost ≡ old.is_lost → CarriesWith disk known contents remaining old new from to
  takes old new from to lasts host stream none out in_ over lost = record {
    deeds = Take old.connection (output_of old.connection from.state) ∷ [];
    uses = [];
    about = (refl, tt);
    done = (to, (host, refl, lasts), refl);
    used = stream;
    writes = (output_of old.connection from.state, ap (λ x. x ++ (output_of old.connection from.state ++ [])) none ∙ append-nil (output_of old.connection from.state), λ _. sym out);
    hands_on = (unhanded_of old, append-nil (unhanded_of old), λ _. sym in_);
    over = λ is. (over is, refl, refl);
    lost = λ is. (lost ∙ is, refl, refl);
    gone = no_loss old.is_lost new.is_lost lost;
  }

  -- some of the output was written
  pub writes : (old new : Socket T) (from to : OnStore S) (put : List ℕ) → to ≡ from → Appends (contents old.stream) (contents new.stream) put
      → unwritten_of old ≡ put ++ unwritten_of new → unhanded_of new ≡ unhanded_of old
      → (old.is_over ≡ true → new.is_over ≡ true) → new.is_lost ≡ old.is_lost → CarriesWith disk known contents remaining old new from to
  writes old new from to put host stream out in_ over lost = record {
    deeds = [];
    uses = Write put ∷ [];
    about = tt;
    done = host;
    used = (new.stream, stream, refl);
    writes = (unwritten_of new, append-nil (unwritten_of old) ∙ out ∙ ap (λ x. x ++ unwritten_of new) (sym (append-nil put)), λ _. refl);
    hands_on = (unhanded_of old, append-nil (unhanded_of old), λ _. sym in_);
    over = λ is. (over is, refl, refl);
    lost = λ is. (lost ∙ is, refl, refl);
    gone = no_loss old.is_lost new.is_lost lost;
  }

  -- the connection was closed: what is left is lost
  pub closes : (old new : Socket T) (from to : OnStore S) → Happens disk (Closes old.connection) from to → new.stream ≡ old.stream
      → new.is_ended ≡ true → (old.is_over ≡ true → new.is_over ≡ true) → new.is_lost ≡ old.is_lost → CarriesWith disk known contents remaining old new from to
  closes old new from to closed stream ended over lost = record {
    deeds = Event (Closes old.connection) ∷ [];
    uses = [];
    about = (refl, tt);
    done = (to, closed, refl);
    used = stream;
    writes = (unwritten_of old, append-nil (unwritten_of old), λ still. absurd (let no : true ≡ false = sym ended ∙ still in cc));
    hands_on = (unhanded_of old, append-nil (unhanded_of old), λ still. absurd (let no : true ≡ false = sym (or_right new.is_lost new.is_ended ended) ∙ still in cc));
    over = λ is. (over is, refl, refl);
    lost = λ is. (lost ∙ is, refl, refl);
    gone = no_loss old.is_lost new.is_lost lost;
  }

  -- what was kept was handed on
  pub hands : (old new : Socket T) (from to : OnStore S) (piece : List ℕ) → Happens disk (Comes old.connection piece) from to → new.stream ≡ old.stream
      → unwritten_of new ≡ unwritten_of old → unhanded_of old ≡ piece ++ unhanded_of new → old.is_over ≡ false → old.is_lost ≡ false
      → new.is_lost ≡ old.is_lost → CarriesWith disk known contents remaining old new from to
  hands old new from to piece came stream out in_ there whole lost = record {
    deeds = Event (Comes old.connection piece) ∷ [];
    uses = [];
    about = (refl, tt);
    done = (to, came, refl);
    used = stream;
    writes = (unwritten_of old, append-nil (unwritten_of old), λ _. sym out);
    hands_on = (unhanded_of new, append-nil (unhanded_of old) ∙ in_ ∙ ap (λ x. x ++ unhanded_of new) (sym (append-nil piece)), λ _. refl);
    over = λ is. absurd (let no : true ≡ false = sym is ∙ there in cc);
    lost = λ is. absurd (let no : true ≡ false = sym is ∙ whole in cc);
    gone = no_loss old.is_lost new.is_lost lost;
  }

  pub open_then : (old mid new : Socket T) (from at to : OnStore S) → StaysOpen disk known contents remaining old mid from at → CarriesWith disk known contents remaining mid new at to
      → CarriesWith disk known contents remaining old new from to
  open_then old mid new from at to one two = carries_then old mid new from at to one.carries two one.connection one.ended

  pub open_open : (old mid new : Socket T) (from at to : OnStore S) → StaysOpen disk known contents remaining old mid from at → StaysOpen disk known contents remaining mid new at to → StaysOpen disk known contents remaining old new from to
  open_open old mid new from at to one two = record {
    carries = open_then old mid new from at to one two.carries;
    connection = two.connection ∙ one.connection;
    ended = two.ended;
  }

  pub open_at : (old new new' : Socket T) (from to to' : OnStore S) → new' ≡ new → to' ≡ to → StaysOpen disk known contents remaining old new from to → StaysOpen disk known contents remaining old new' from to'
  open_at old new new' from to to' s h is = subst (λ x. StaysOpen disk known contents remaining old x from to') (sym s) (subst (λ x. StaysOpen disk known contents remaining old new from x) (sym h) is)

  pub stays_open : (old : Socket T) (from : OnStore S) → old.is_ended ≡ false → StaysOpen disk known contents remaining old old from from
  stays_open old from ended = record { carries = stays old old from from refl refl refl refl (λ is. is) refl; connection = refl; ended = ended }

  -- a socket that was asked, and then looked at for its tenant
  pub seated : (old mid new : Socket T) (from to : OnStore S) → CarriesWith disk known contents remaining old mid from to → mid.connection ≡ old.connection → mid.is_ended ≡ false
      → new ≡ record mid { is_bound = new.is_bound; tenant = new.tenant; is_over = new.is_over } → (mid.is_over ≡ true → new.is_over ≡ true) → StaysOpen disk known contents remaining old new from to
  seated old mid new from to one same unended is over = record {
    carries = carries_then old mid new from to to one (stays mid new to to refl (ap (λ s. s.stream) is) (ap (λ s. drop s.written s.output.items) is)
        (ap (λ s. drop s.input.handed s.input.bytes.items) is) over (ap (λ s. s.is_lost) is)) same unended;
    connection = ap (λ s. s.connection) is ∙ same;
    ended = ap (λ s. s.is_ended) is ∙ unended;
  }

  -- it was noted on a socket that it has logged in, and that a login failed
  pub noted : (old mid new : Socket T) (from : OnStore S) → old.is_ended ≡ false → mid ≡ record old { is_known = mid.is_known }
      → new ≡ record mid { is_denied = new.is_denied } → StaysOpen disk known contents remaining old new from from
  noted old mid new from unended one two = record {
    carries = stays old new from from refl (ap (λ s. s.stream) two ∙ ap (λ s. s.stream) one)
        (ap (λ s. drop s.written s.output.items) two ∙ ap (λ s. drop s.written s.output.items) one)
        (ap (λ s. drop s.input.handed s.input.bytes.items) two ∙ ap (λ s. drop s.input.handed s.input.bytes.items) one)
        (λ over. ap (λ s. s.is_over) two ∙ ap (λ s. s.is_over) one ∙ over) (ap (λ s. s.is_lost) two ∙ ap (λ s. s.is_lost) one);
    connection = ap (λ s. s.connection) two ∙ ap (λ s. s.connection) one;
    ended = ap (λ s. s.is_ended) two ∙ ap (λ s. s.is_ended) one ∙ unended;
  }

  -- The same where nothing was asked.

  -- one after another
  pub tells_then : (old mid new : Socket T) (from at to : OnStore S) → TellsWith disk known contents remaining old mid from at
      → TellsWith disk known contents remaining mid new at to → mid.connection ≡ old.connection → mid.is_ended ≡ false
      → TellsWith disk known contents remaining old new from to
  unfolding carries_then
  tells_then old mid new from at to one two same unended = record {
    carries = carries_then old mid new from at to one.carries two.carries same unended;
    told = record {
      deeds = all_then (λ d. is_telling d ≡ true) one.carries.deeds two.carries.deeds one.told.deeds two.told.deeds;
      uses = all_then (λ u. is_write u ≡ true) one.carries.uses two.carries.uses one.told.uses two.told.uses;
      store = two.told.store ∙ one.told.store;
    };
  }

  -- nothing was done
  pub still_told : (old new : Socket T) (from : OnStore S) → new.stream ≡ old.stream → unwritten_of new ≡ unwritten_of old
      → unhanded_of new ≡ unhanded_of old → (old.is_over ≡ true → new.is_over ≡ true) → new.is_lost ≡ old.is_lost
      → TellsWith disk known contents remaining old new from from
  unfolding stays
  still_told old new from stream out in_ over lost = record {
    carries = stays old new from from refl stream out in_ over lost;
    told = record { deeds = tt; uses = tt; store = refl };
  }

  -- the output was taken, where all was written
  pub takes_told : (old new : Socket T) (from to : OnStore S) → known (Take old.connection (output_of old.connection from.state)) to.store
      → to ≡ record from { state = output_taken from.state old.connection } → new.stream ≡ old.stream → unwritten_of old ≡ [] → unwritten_of new ≡ output_of old.connection from.state
      → unhanded_of new ≡ unhanded_of old → (old.is_over ≡ true → new.is_over ≡ true) → new.is_lost ≡ old.is_lost
      → TellsWith disk known contents remaining old new from to
  unfolding takes
  takes_told old new from to lasts host stream none out in_ over lost = record {
    carries = takes old new from to lasts host stream none out in_ over lost;
    told = record { deeds = (refl, tt); uses = tt; store = ap (λ (b : OnStore S). b.store) host };
  }

  -- some of the output was written
  pub writes_told : (old new : Socket T) (from : OnStore S) (put : List ℕ) → Appends (contents old.stream) (contents new.stream) put
      → unwritten_of old ≡ put ++ unwritten_of new → unhanded_of new ≡ unhanded_of old
      → (old.is_over ≡ true → new.is_over ≡ true) → new.is_lost ≡ old.is_lost
      → TellsWith disk known contents remaining old new from from
  unfolding writes
  writes_told old new from put stream out in_ over lost = record {
    carries = writes old new from from put refl stream out in_ over lost;
    told = record { deeds = tt; uses = (refl, tt); store = refl };
  }

  -- the connection was closed
  pub closes_told : (old new : Socket T) (from to : OnStore S) → Happens disk (Closes old.connection) from to → to.store ≡ from.store
      → new.stream ≡ old.stream → new.is_ended ≡ true → (old.is_over ≡ true → new.is_over ≡ true) → new.is_lost ≡ old.is_lost
      → TellsWith disk known contents remaining old new from to
  unfolding closes
  closes_told old new from to closed store stream ended over lost = record {
    carries = closes old new from to closed stream ended over lost;
    told = record { deeds = (refl, tt); uses = tt; store = store };
  }

  -- before that the peer was taken to be gone
  pub gone_told : (old mid new : Socket T) (from to : OnStore S) → mid.connection ≡ old.connection → mid.stream ≡ old.stream
      → unwritten_of mid ≡ unwritten_of old → unhanded_of mid ≡ unhanded_of old → mid.is_over ≡ true → mid.is_lost ≡ old.is_lost
      → TellsWith disk known contents remaining mid new from to → TellsWith disk known contents remaining old new from to
  gone_told old mid new from to number stream out in_ over lost h = let c = h.carries in record {
    carries = record {
      deeds = c.deeds;
      uses = c.uses;
      about = subst (λ n. AreAbout n c.deeds) number c.about;
      done = c.done;
      used = subst (λ s. Along (IsUsed contents remaining) c.uses s new.stream) stream c.used;
      writes = subst (λ xs. GoesOn (xs ++ flat_map taken_by c.deeds) (flat_map written_by c.uses) (new.is_ended ≡ false) (unwritten_of new)) out c.writes;
      hands_on = subst (λ xs. GoesOn (xs ++ flat_map read_by c.uses) (flat_map handed_by c.deeds) ((new.is_lost || new.is_ended) ≡ false) (unhanded_of new)) in_ c.hands_on;
      over = λ _. c.over over;
      lost = λ is. c.lost (lost ∙ is);
      gone = λ was is. c.gone (lost ∙ was) is;
    };
    told = record { deeds = h.told.deeds; uses = h.told.uses; store = h.told.store };
  }

  pub telling_on : (old mid new : Socket T) (from at to : OnStore S) → StaysTelling disk known contents remaining old mid from at → TellsWith disk known contents remaining mid new at to
      → TellsWith disk known contents remaining old new from to
  telling_on old mid new from at to one two = tells_then old mid new from at to one.tells two one.connection one.ended

  pub telling_at : (old new new' : Socket T) (from to to' : OnStore S) → new' ≡ new → to' ≡ to → StaysTelling disk known contents remaining old new from to
      → StaysTelling disk known contents remaining old new' from to'
  telling_at old new new' from to to' s h is = subst (λ x. StaysTelling disk known contents remaining old x from to') (sym s) (subst (λ x. StaysTelling disk known contents remaining old new from x) (sym h) is)

  pub stays_telling : (old : Socket T) (from : OnStore S) → old.is_ended ≡ false → StaysTelling disk known contents remaining old old from from
  stays_telling old from ended = record { tells = still_told old old from refl refl refl (λ is. is) refl; connection = refl; ended = ended }

  -- it was noted on it that it has logged in, and that a login failed
  pub noted_telling : (old mid new : Socket T) (from : OnStore S) → old.is_ended ≡ false → mid ≡ record old { is_known = mid.is_known }
      → new ≡ record mid { is_denied = new.is_denied } → StaysTelling disk known contents remaining old new from from
  unfolding noted stays
  noted_telling old mid new from unended one two = let h = noted old mid new from unended one two in record {
    tells = record { carries = h.carries; told = record { deeds = tt; uses = tt; store = refl } };
    connection = h.connection;
    ended = h.ended;
  }

-- What is known of the store may be less.
module _ {S T : Type 0} (disk : S → Disk) (known less : Deed → S → Type 0) (contents remaining : T → Option (List ℕ))
    (weaker : (d : Deed) (s : S) → known d s → less d s) where
  pub carries_knowing : (old new : Socket T) (from to : OnStore S) → CarriesWith disk known contents remaining old new from to
      → CarriesWith disk less contents remaining old new from to
  carries_knowing old new from to c = record {
    deeds = c.deeds;
    uses = c.uses;
    about = c.about;
    done = all_knowing disk known less weaker c.deeds from to c.done;
    used = c.used;
    writes = c.writes;
    hands_on = c.hands_on;
    over = c.over;
    lost = c.lost;
    gone = c.gone;
  }

  pub tells_knowing : (old new : Socket T) (from to : OnStore S) → TellsWith disk known contents remaining old new from to
      → TellsWith disk less contents remaining old new from to
  unfolding carries_knowing
  tells_knowing old new from to h = record {
    carries = carries_knowing old new from to h.carries;
    told = record { deeds = h.told.deeds; uses = h.told.uses; store = h.told.store };
  }
