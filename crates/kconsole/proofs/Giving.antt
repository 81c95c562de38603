-- What a consumer gives, one thing after another.
use Rattle.std.proofs.Common.{◌≡◌, ◌++◌, ℕ, length, Bool, true, false, List, [], ◌∷◌, Option, Some, None, Result, Ok, Err, refl, sym, ap, subst, ◌∙◌, append_assoc}
use Rattle.std.proofs.lemmas.List.{append-nil}
use Rattle.std.specs.Prelude.{pos, if◌then◌else◌, option_and_then, unwrap_or}
use Rattle.std.specs.List.{flat_map}
use Rattle.std.specs.Ordering.{int_eq}
use Rattle.std.specs.Io.KnownBytes.{Appends}
use Rattle.std.proofs.KnownBytes.{Appends-nil, Appends-trans}
use Rattle.kb_wire.specs.declared.fault.WireFault.{WireFault}
use Rattle.kb_api_group.specs.ClientFrames.{front}
use Rattle.kb_api_data.specs.declared.fetch_v5.FetchPartitionReplyV5.{FetchPartitionReplyV5}
use Rattle.kb_client.specs.declared.fault.ClientFault.{ClientFault}
use Rattle.kb_client.specs.declared.stage.Ending.TheVariants as endings
use Rattle.kb_client.specs.declared.fetching.Fetching.{Fetching}
use Rattle.kb_client.specs.declared.fetching.Fetching.TheVariants as stages
use Rattle.kb_client.specs.declared.arrival.Arrival.{Arrival}
use Rattle.kb_client.specs.declared.arrival.Arrival.TheVariants as arrivals
use Rattle.kb_client.specs.Replies.{body_for}
use Rattle.kb_client.specs.Fetched.{arrival_of, fetched_partition}
use Rattle.kb_client.specs.Lines.{Found, at_most, whole_batches, is_ahead, line_text, records_from, with_batch, with_batches}
use Rattle.kb_client.specs.Consumer.{Consumer, connected, entered, fault_at, fed, fed_by, after_fetch, with_records, heard, heard_by, read_at, unasked, with_found, without_text, correlation, is_due, IsOutput, Inputs}
use Rattle.kconsole.specs.Printing.{ConsumerEvent, Connects, Asks, Comes, Takes, asked_if, after_consumer_event, last, FindsAt, Finds, behind, Gives, Prints}

-- ---- batches one behind another

if_some : (b : Bool) (x y z : Option Found) (g : Found) → (x ≡ Some g → y ≡ z) → (if b then x else None) ≡ Some g → (if b then y else None) ≡ z
if_some true x y z g step e = step e
if_some false x y z g step e = absurd cc

batches_more : (ds bs : List (List ℕ)) (f g : Found) → with_batches ds f ≡ Some g → with_batches (ds ++ bs) f ≡ with_batches bs g
batches_more [] bs f g e =
    let same : f ≡ g = cc in
    ap (with_batches bs) same
batches_more (d ∷ ds) bs f g e =
    if_some (is_ahead f.offset d) (with_batches ds (with_batch d f)) (with_batches (ds ++ bs) (with_batch d f)) (with_batches bs g) g
    (λ h. batches_more ds bs (with_batch d f) g h) e

-- what is found does not depend on the text in front
batch_behind : (b : List ℕ) (t : List ℕ) (f : Found) → with_batch b (behind t f) ≡ behind t (with_batch b f)
batch_behind b t f =
    ap (λ (x : List ℕ). record (with_batch b f) { text = x }) (append_assoc t f.text (flat_map line_text (at_most f.wanted (records_from f.offset b))))

batches_behind : (bs : List (List ℕ)) (t : List ℕ) (f g : Found) → with_batches bs f ≡ Some g → with_batches bs (behind t f) ≡ Some (behind t g)
batches_behind [] t f g e =
    let same : f ≡ g = cc in
    ap (λ (x : Found). Some (behind t x)) same
batches_behind (b ∷ bs) t f g e =
    if_some (is_ahead f.offset b) (with_batches bs (with_batch b f)) (with_batches bs (with_batch b (behind t f))) (Some (behind t g)) g
    (λ h. ap (with_batches bs) (batch_behind b t f) ∙ batches_behind bs t (with_batch b f) g h) e

-- ---- a piece comes

-- some batches make the second of the first
abbrev Came : Found → Found → Type 0
Came f g = (batches : List (List ℕ)) × (with_batches batches f ≡ Some g)

none_came : (f : Found) → Came f f
none_came f = ([], refl)

came_if : (b : Bool) (f : Found) (x y : Consumer) → Came f x.found → Came f y.found → Came f (if b then x else y).found
came_if true f x y p q = p
came_if false f x y p q = q

came_found : (o : Option Found) (c : Consumer) (batches : List (List ℕ)) → with_batches batches c.found ≡ o → Came c.found (with_found o c).found
came_found None c batches e = none_came c.found
came_found (Some g) c batches e = (batches, e)

came_walk : (o : Option (List (List ℕ))) (c : Consumer) → Came c.found (with_found (option_and_then (λ batches. with_batches batches c.found) o) c).found
came_walk None c = none_came c.found
came_walk (Some batches) c = came_found (with_batches batches c.found) c batches refl

came_given : (records : List ℕ) (c : Consumer) → Came c.found (with_records records c).found
came_given [] c = none_came c.found
came_given (b ∷ records) c = came_walk (whole_batches (length (b ∷ records)) (b ∷ records)) c

came_fetched : (r : Result FetchPartitionReplyV5 WireFault) (c : Consumer) → Came c.found (after_fetch r c).found
came_fetched (Err fault) c = none_came c.found
came_fetched (Ok reply) c =
    came_if (int_eq reply.error_code (pos 0)) c.found (with_records (unwrap_or reply.records []) c) (entered (stages.Ended (endings.Code reply.error_code)) c)
    (came_given (unwrap_or reply.records []) c) (none_came c.found)

came_heard : (stage : Fetching) (r : Result (List ℕ) WireFault) (c : Consumer) → Came c.found (heard_by stage r c).found
came_heard stages.Closed (Err fault) c = none_came c.found
came_heard stages.Handshake (Err fault) c = none_came c.found
came_heard stages.Authenticate (Err fault) c = none_came c.found
came_heard stages.Fetch (Err fault) c = none_came c.found
came_heard stages.Finished (Err fault) c = none_came c.found
came_heard (stages.Ended ending) (Err fault) c = none_came c.found
came_heard stages.Closed (Ok body) c = none_came c.found
came_heard stages.Handshake (Ok body) c = none_came c.found
came_heard stages.Authenticate (Ok body) c = none_came c.found
came_heard stages.Fetch (Ok body) c = came_fetched (fetched_partition body) c
came_heard stages.Finished (Ok body) c = none_came c.found
came_heard (stages.Ended ending) (Ok body) c = none_came c.found

came_read : (a : Arrival) (bytes : List ℕ) (c : Consumer) → Came c.found (read_at a bytes c).found
unfolding heard
came_read (arrivals.Reply frame) bytes c =
    let d : Consumer = record c { unread = [] } in
    came_heard d.stage (body_for (correlation d.stage) frame) d
came_read arrivals.Part bytes c = none_came c.found
came_read arrivals.Fault bytes c = none_came c.found

came_unasked : (piece : List ℕ) (c : Consumer) → Came c.found (unasked piece c).found
came_unasked [] c = none_came c.found
came_unasked (b ∷ piece) c = none_came c.found

came_by : (o : Option ClientFault) (piece : List ℕ) (c : Consumer) → Came c.found (fed_by o piece c).found
came_by (Some fault) piece c = none_came c.found
came_by None piece c =
    came_if c.asked c.found (read_at (arrival_of (front (c.unread ++ piece))) (c.unread ++ piece) c) (unasked piece c)
    (came_read (arrival_of (front (c.unread ++ piece))) (c.unread ++ piece) c) (came_unasked piece c)

came_fed : (piece : List ℕ) (c : Consumer) → Came c.found (fed piece c).found
unfolding fed
came_fed piece c = came_by (fault_at c.stage) piece c

-- ---- one thing after another

last_more : (es fs : List ConsumerEvent) (c : Consumer) → last (es ++ fs) c ≡ last fs (last es c)
last_more [] fs c = refl
last_more (e ∷ es) fs c = last_more es fs (after_consumer_event e c)

finds_more : (es fs : List ConsumerEvent) (c : Consumer) (ds bs : List (List ℕ)) → Finds es c ds → Finds fs (last es c) bs → Finds (es ++ fs) c (ds ++ bs)
finds_more [] fs c ds bs none h = subst (λ xs. Finds fs c (xs ++ bs)) (sym none) h
finds_more (e ∷ es) fs c ds bs g h =
    (g.0, g.1 ++ bs, ap (λ xs. xs ++ bs) g.2 ∙ append_assoc g.0 g.1 bs, g.3, finds_more es fs (after_consumer_event e c) g.1 bs g.4 h)

pub gives_nothing : (c : Consumer) → Gives c [] c
gives_nothing c = record { events = []; batches = []; went = refl; came = refl; lines = refl }

gives_one : (e : ConsumerEvent) (c d : Consumer) (t : List ℕ) (bs : List (List ℕ)) → d ≡ after_consumer_event e c → FindsAt e c bs → with_batches bs c.found ≡ Some (behind t d.found) → Gives c t d
gives_one e c d t bs is here lines =
    record { events = e ∷ []; batches = bs; went = is; came = (bs, [], sym (append-nil bs), here, refl); lines = lines }

pub gives_connected : (c d : Consumer) → d ≡ connected c → Gives c [] d
gives_connected c d is = gives_one Connects c d [] [] is refl (ap (λ (x : Consumer). Some (behind [] x.found)) (sym is))

asked_is : (b : Bool) (c d : Consumer) (text : List ℕ) → IsOutput b c text d → d ≡ asked_if b c
asked_is true c d text h = h.1
asked_is false c d text h = h.1

asked_found : (b : Bool) (c : Consumer) → c.found ≡ (asked_if b c).found
asked_found true c = refl
asked_found false c = refl

pub gives_asked : (c d : Consumer) (text : List ℕ) → IsOutput (is_due c) c text d → Gives c [] d
gives_asked c d text h =
    let is = asked_is (is_due c) c d text h in
    gives_one Asks c d [] [] is refl (ap (λ (f : Found). Some (behind [] f)) (asked_found (is_due c) c) ∙ ap (λ (x : Consumer). Some (behind [] x.found)) (sym is))

pub gives_fed : (c d : Consumer) (piece : List ℕ) → d ≡ fed piece c → Gives c [] d
gives_fed c d piece is =
    let h = came_fed piece c in
    gives_one (Comes piece) c d [] h.0 is h.1 (h.1 ∙ ap (λ (x : Consumer). Some (behind [] x.found)) (sym is))

pub gives_taken : (c d : Consumer) → d ≡ without_text c → Gives c c.found.text d
gives_taken c d is =
    gives_one Takes c d c.found.text [] is refl
    (ap (λ (t : List ℕ). Some (record c.found { text = t })) (sym (append-nil c.found.text)) ∙ ap (λ (x : Consumer). Some (behind c.found.text x.found)) (sym is))

pub gives_both : (a b c : Consumer) (t u : List ℕ) → Gives a t b → Gives b u c → Gives a (t ++ u) c
gives_both a b c t u g h = record {
  events = g.events ++ h.events;
  batches = g.batches ++ h.batches;
  went = h.went ∙ ap (last h.events) g.went ∙ sym (last_more g.events h.events a);
  came = finds_more g.events h.events a g.batches h.batches g.came (subst (λ x. Finds h.events x h.batches) g.went h.came);
  lines = batches_more g.batches h.batches a.found (behind t b.found) g.lines
      ∙ batches_behind h.batches t b.found (behind u c.found) h.lines
      ∙ ap (λ (x : List ℕ). Some (record c.found { text = x })) (sym (append_assoc t u c.found.text));
}

-- ---- printed

pub prints_nothing : (a b : Consumer) (w : Option (List ℕ)) → Gives a [] b → Prints a w w b
prints_nothing a b w g = record { text = []; given = g; printed = Appends-nil w }

pub prints_both : (a b c : Consumer) (w v u : Option (List ℕ)) → Prints a w v b → Prints b v u c → Prints a w u c
prints_both a b c w v u p q =
    record { text = p.text ++ q.text; given = gives_both a b c p.text q.text p.given q.given; printed = Appends-trans w v u p.text q.text p.printed q.printed }

-- a piece was taken
pub gives_input : (c d : Consumer) (piece : List ℕ) (r : Result (Unit {0}) ClientFault) (u : Unit {0}) → Inputs c piece r d → r ≡ Ok u → Gives c [] d
gives_input c d piece r u h is =
    let taken : Inputs c piece (Ok u) d = subst (λ x. Inputs c piece x d) is h in
    gives_fed c d piece taken.0

-- the lines that were found then were printed
pub prints_taken : (a b c : Consumer) (w v : Option (List ℕ)) → Gives a [] b → Appends w v b.found.text → c ≡ without_text b → Prints a w v c
prints_taken a b c w v g printed is =
    record { text = b.found.text; given = gives_both a b c [] b.found.text g (gives_taken b c is); printed = printed }
