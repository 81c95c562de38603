-- A request of a version with the starts of logs fits, and is in range, without them too.
use Rattle.std.proofs.Common.{◌≡◌, ◌∙◌, ◌<◌, ◌^◌, ap, sym, refl, [], subst, arith, cond, int_lt, ℕ, ℤ, pos, negsuc, Bool, true, false, List, Option, Some, None, Ok, Err, FitsSigned, w32}
use Rattle.std.specs.Prelude.{Result, map, if◌then◌else◌}
use Rattle.std.proofs.lemmas.List.Elements.{All-from_recursion}
use Rattle.std.proofs.lemmas.Int.{ints}
use Rattle.std.proofs.lemmas.List.{length-map}
use Rattle.kb_wire.specs.Codec.{Codec, array, count, counted, int, items, sized, string, whole, ◌>>=◌}
use Rattle.kb_wire.specs.Fits.{array_fits}
use Rattle.kb_wire.specs.Laws.{IsLawful, array_lawful, bind_ok, guard_passed, string_lawful}
use Rattle.kb_wire.specs.declared.fault.WireFault.{WireFault}
use Rattle.kb_wire.specs.declared.fault.WireFault.TheVariants.{Bad}
use Rattle.kb_api_data.specs.Lawful.{fetch_request_lawful, fetch_request_v5_lawful, fetch_topic_v5_lawful}
use Rattle.kb_api_data.specs.Layouts.{fetch_partition, fetch_partition_v5, fetch_request, fetch_request_v5, fetch_topic, fetch_topic_v5}
use Rattle.kb_api_data.specs.declared.fetch.FetchRequest.{FetchRequest}
use Rattle.kb_api_data.specs.declared.fetch_v5.FetchPartitionV5.{FetchPartitionV5}
use Rattle.kb_api_data.specs.declared.fetch_v5.FetchTopicV5.{FetchTopicV5}
use Rattle.kb_api_data.specs.declared.fetch_v5.FetchRequestV5.{FetchRequestV5}
use Rattle.kb_api_data.specs.Both.{both, both_lawful}
use Rattle.kb_api_data.specs.FetchSession.{fetch_partition_v9, fetch_partition_v9_lawful, fetch_request_v7, fetch_request_v7_lawful}
use Rattle.kb_api_data.specs.declared.both.Both.{Both}
use Rattle.kb_api_data.specs.declared.fetch.FetchTopic.{FetchTopic}
use Rattle.kb_api_data.specs.declared.fetch_v7.FetchPartitionV9.{FetchPartitionV9}
use Rattle.kb_api_data.specs.declared.fetch_v7.FetchRequestV7.{FetchRequestV7}
use Rattle.kb_tenant.specs.declared.fetch.version.Asked.{Asked}
use Rattle.kb_tenant.specs.Fetch.{asked_as, asked_fetch, asks, at_once, bounded, has_epochs, has_session, has_starts, in_session, is_full, lesser}
use Rattle.kb_tenant.specs.Fetch.{plain, plain_partition, plain_partition_v9, plain_topic, plain_topic_v9}
use Rattle.kb_tenant.specs.FetchWait.{FetchWait, AsksWithin}
use Rattle.kb_tenant.proofs.Mapped.{all-map}

partition_fits : (p : FetchPartitionV5) → fetch_partition_v5.Fits p → fetch_partition.Fits (plain_partition p)
unfolding fetch_partition fetch_partition_v5 int
partition_fits p fits = (tt, (tt, tt))

partition_in_range : (p : FetchPartitionV5) → fetch_partition_v5.InRange p → fetch_partition.InRange (plain_partition p)
unfolding fetch_partition fetch_partition_v5 int
partition_in_range p range = (range.0, (range.1.0, range.1.1.1))

topic_fits : (t : FetchTopicV5) → fetch_topic_v5.Fits t → fetch_topic.Fits (plain_topic t)
unfolding fetch_topic fetch_topic_v5 sized items
topic_fits t fits = (
  fits.0,
  (
    subst (count w32).Fits (sym (length-map t.partitions plain_partition)) fits.1.0,
    all-map plain_partition fetch_partition_v5.Fits fetch_partition.Fits partition_fits t.partitions fits.1.1,
  ),
)

topic_in_range : (t : FetchTopicV5) → fetch_topic_v5.InRange t → fetch_topic.InRange (plain_topic t)
unfolding fetch_topic fetch_topic_v5 sized items
topic_in_range t range = (
  range.0,
  (
    subst (count w32).InRange (sym (length-map t.partitions plain_partition)) range.1.0,
    all-map plain_partition fetch_partition_v5.InRange fetch_partition.InRange partition_in_range t.partitions range.1.1,
  ),
)

pub plain_fits : (r : FetchRequestV5) → fetch_request_v5.Fits r → fetch_request.Fits (plain r)
unfolding fetch_request fetch_request_v5 int sized items
plain_fits r fits =
    let topics = fits.1.1.1.1.1 in (
      tt,
      (
        tt,
        (
          tt,
          (
            tt,
            (
              tt,
              (
                subst (count w32).Fits (sym (length-map r.topics plain_topic)) topics.0,
                all-map plain_topic fetch_topic_v5.Fits fetch_topic.Fits topic_fits r.topics topics.1,
              ),
            ),
          ),
        ),
      ),
    )

plain_in_range : (r : FetchRequestV5) → fetch_request_v5.InRange r → fetch_request.InRange (plain r)
unfolding fetch_request fetch_request_v5 int sized items
plain_in_range r range =
    let topics = range.1.1.1.1.1 in (
      range.0,
      (
        range.1.0,
        (
          range.1.1.0,
          (
            range.1.1.1.0,
            (
              range.1.1.1.1.0,
              (
                subst (count w32).InRange (sym (length-map r.topics plain_topic)) topics.0,
                all-map plain_topic fetch_topic_v5.InRange fetch_topic.InRange topic_in_range r.topics topics.1,
              ),
            ),
          ),
        ),
      ),
    )

-- ---- versions with a session

partition_v9_fits : (p : FetchPartitionV9) → fetch_partition_v9.Fits p → fetch_partition.Fits (plain_partition_v9 p)
unfolding fetch_partition fetch_partition_v9 int
partition_v9_fits p fits = (tt, (tt, tt))

partition_v9_in_range : (p : FetchPartitionV9) → fetch_partition_v9.InRange p → fetch_partition.InRange (plain_partition_v9 p)
unfolding fetch_partition fetch_partition_v9 int
partition_v9_in_range p range = (range.0, (range.1.1.0, range.1.1.1.1))

topic_v9_fits : (t : Both (List ℕ) (List FetchPartitionV9)) → (both string (array fetch_partition_v9)).Fits t → fetch_topic.Fits (plain_topic_v9 t)
unfolding fetch_topic both sized items
topic_v9_fits t fits = (
  fits.0,
  (
    subst (count w32).Fits (sym (length-map t.second plain_partition_v9)) fits.1.0,
    all-map plain_partition_v9 fetch_partition_v9.Fits fetch_partition.Fits partition_v9_fits t.second fits.1.1,
  ),
)

topic_v9_in_range : (t : Both (List ℕ) (List FetchPartitionV9)) → (both string (array fetch_partition_v9)).InRange t → fetch_topic.InRange (plain_topic_v9 t)
unfolding fetch_topic both sized items
topic_v9_in_range t range = (
  range.0,
  (
    subst (count w32).InRange (sym (length-map t.second plain_partition_v9)) range.1.0,
    all-map plain_partition_v9 fetch_partition_v9.InRange fetch_partition.InRange partition_v9_in_range t.second range.1.1,
  ),
)

-- its topics fit, and are in range
topics_fit : {T : Type 0} (c : Codec T) (f : T → FetchTopic) → ((t : T) → c.Fits t → fetch_topic.Fits (f t)) → (ts : List T) → (array c).Fits ts → (array fetch_topic).Fits (map f ts)
unfolding sized items
topics_fit c f each ts fits = (subst (count w32).Fits (sym (length-map ts f)) fits.0, all-map f c.Fits fetch_topic.Fits each ts fits.1)

topics_in_range : {T : Type 0} (c : Codec T) (f : T → FetchTopic) → ((t : T) → c.InRange t → fetch_topic.InRange (f t)) → (ts : List T) → (array c).InRange ts → (array fetch_topic).InRange (map f ts)
unfolding sized items
topics_in_range c f each ts range = (subst (count w32).InRange (sym (length-map ts f)) range.0, all-map f c.InRange fetch_topic.InRange each ts range.1)

none_fit : (array fetch_topic).Fits []
none_fit = array_fits fetch_topic [] (omega arith) (All-from_recursion fetch_topic.Fits [] tt)

none_in_range : (array fetch_topic).InRange []
unfolding sized counted items
none_in_range = (tt, All-from_recursion fetch_topic.InRange [] tt)

v7_topics_fit : {T : Type 0} (c : Codec T) (r : FetchRequestV7 T) → (fetch_request_v7 c).Fits r → (array c).Fits r.topics
unfolding fetch_request_v7
v7_topics_fit c r fits = fits.1.1.1.1.1.1.1.0

v7_topics_in_range : {T : Type 0} (c : Codec T) (r : FetchRequestV7 T) → (fetch_request_v7 c).InRange r → (array c).InRange r.topics
unfolding fetch_request_v7
v7_topics_in_range c r range = range.1.1.1.1.1.1.1.0

asks_fits : {T : Type 0} (r : FetchRequestV7 T) (code : ℤ) (ts : List FetchTopic) → (array fetch_topic).Fits ts → fetch_request.Fits (asks r code ts).request
unfolding fetch_request int
asks_fits r code ts fits = (tt, (tt, (tt, (tt, (tt, fits)))))

asks_in_range : {T : Type 0} (c : Codec T) (r : FetchRequestV7 T) (code : ℤ) (ts : List FetchTopic) → (fetch_request_v7 c).InRange r → (array fetch_topic).InRange ts → fetch_request.InRange (asks r code ts).request
unfolding fetch_request fetch_request_v7
asks_in_range c r code ts range all = (range.0, (range.1.0, (range.1.1.0, (range.1.1.1.0, (range.1.1.1.1.0, all)))))

in_session_fits : {T : Type 0} (c : Codec T) (f : T → FetchTopic) → ((t : T) → c.Fits t → fetch_topic.Fits (f t)) → (r : FetchRequestV7 T) → (fetch_request_v7 c).Fits r → fetch_request.Fits (in_session f r).request
in_session_fits c f each r fits = by (is_full r.session_epoch)
  where
    by : (full : Bool) → fetch_request.Fits (if full then asks r (pos 0) (map f r.topics) else asks r (pos 70) []).request
    by true = asks_fits r (pos 0) (map f r.topics) (topics_fit c f each r.topics (v7_topics_fit c r fits))
    by false = asks_fits r (pos 70) [] none_fit

in_session_in_range : {T : Type 0} (c : Codec T) (f : T → FetchTopic) → ((t : T) → c.InRange t → fetch_topic.InRange (f t)) → (r : FetchRequestV7 T) → (fetch_request_v7 c).InRange r → fetch_request.InRange (in_session f r).request
in_session_in_range c f each r range = by (is_full r.session_epoch)
  where
    by : (full : Bool) → fetch_request.InRange (if full then asks r (pos 0) (map f r.topics) else asks r (pos 70) []).request
    by true = asks_in_range c r (pos 0) (map f r.topics) range (topics_in_range c f each r.topics (v7_topics_in_range c r range))
    by false = asks_in_range c r (pos 70) [] range none_in_range

-- ---- what was read

-- what was read fits, and is in range
whole_so : {A : Type 0} (c : Codec A) → IsLawful c → (body : List ℕ) (r : A) → whole c body ≡ Ok r → c.Fits r × c.InRange r
whole_so {A} c lawful body r e =
    let got = bind_ok (c.read body) _ r e in
    let front = got.0 in
    let same : front.0 ≡ r = (guard_passed _ Bad front.0 r got.2).1 in
    let spelled = lawful.found body front.0 front.1 got.1 in
    subst (λ (x : A). c.Fits x × c.InRange x) same (lawful.fits spelled.0 front.0 spelled.2, lawful.in_range spelled.0 front.0 spelled.2)

-- the fetch of a body that is read so
asked_so : {A : Type 0} (c : Codec A) (f : A → Asked) → ((x : A) → c.Fits x × c.InRange x → fetch_request.Fits (f x).request × fetch_request.InRange (f x).request) → (o : Result A WireFault) (r : FetchRequest)
    → ((x : A) → o ≡ Ok x → c.Fits x × c.InRange x) → ((o >>= (λ q. Ok (f q))) >>= (λ a. Ok a.request)) ≡ Ok r → fetch_request.Fits r × fetch_request.InRange r
asked_so c f each (Err fault) r so e = absurd cc
asked_so c f each (Ok x) r so e =
    let same : (f x).request ≡ r = cc in
    subst (λ (y : FetchRequest). fetch_request.Fits y × fetch_request.InRange y) same (each x (so x refl))

pub read_so : (version : ℤ) (body : List ℕ) (r : FetchRequest) → asked_fetch version body ≡ Ok r → fetch_request.Fits r × fetch_request.InRange r
read_so version body r e = by (has_epochs version) (has_session version) (has_starts version) e
  where
    by : (epochs session starts : Bool)
        → ((if epochs then whole (fetch_request_v7 (both string (array fetch_partition_v9))) body >>= (λ q. Ok (in_session plain_topic_v9 q))
        else if session then whole (fetch_request_v7 fetch_topic_v5) body >>= (λ q. Ok (in_session plain_topic q))
        else if starts then whole fetch_request_v5 body >>= (λ q. Ok (at_once (plain q)))
        else whole fetch_request body >>= (λ q. Ok (at_once q))) >>= (λ a. Ok a.request)) ≡ Ok r → fetch_request.Fits r × fetch_request.InRange r
    by true session starts e =
        let c = fetch_request_v7 (both string (array fetch_partition_v9)) in
        asked_so c (in_session plain_topic_v9)
        (λ x is. (in_session_fits (both string (array fetch_partition_v9)) plain_topic_v9 topic_v9_fits x is.0, in_session_in_range (both string (array fetch_partition_v9)) plain_topic_v9 topic_v9_in_range x is.1))
        (whole c body) r (whole_so c (fetch_request_v7_lawful (both_lawful string_lawful (array_lawful _ fetch_partition_v9_lawful))) body) e
    by false true starts e =
        let c = fetch_request_v7 fetch_topic_v5 in
        asked_so c (in_session plain_topic) (λ x is. (in_session_fits fetch_topic_v5 plain_topic topic_fits x is.0, in_session_in_range fetch_topic_v5 plain_topic topic_in_range x is.1))
        (whole c body) r (whole_so c (fetch_request_v7_lawful fetch_topic_v5_lawful) body) e
    by false false true e = asked_so fetch_request_v5 (λ q. at_once (plain q)) (λ x is. (plain_fits x is.0, plain_in_range x is.1)) (whole fetch_request_v5 body) r (whole_so fetch_request_v5 fetch_request_v5_lawful body) e
    by false false false e = asked_so fetch_request at_once (λ x is. is) (whole fetch_request body) r (whole_so fetch_request fetch_request_lawful body) e

pub epochs_read : (version : ℤ) (body : List ℕ) (epochs : Bool) (q : FetchRequestV7 (Both (List ℕ) (List FetchPartitionV9))) (a : Asked) → epochs ≡ has_epochs version → epochs ≡ true
    → whole (fetch_request_v7 (both string (array fetch_partition_v9))) body ≡ Ok q → a ≡ in_session plain_topic_v9 q → asked_as version body ≡ Ok a
epochs_read version body epochs q a is so read made =
    ap (λ (e : Bool). if e then whole (fetch_request_v7 (both string (array fetch_partition_v9))) body >>= (λ q. Ok (in_session plain_topic_v9 q))
    else if has_session version then whole (fetch_request_v7 fetch_topic_v5) body >>= (λ q. Ok (in_session plain_topic q))
    else if has_starts version then whole fetch_request_v5 body >>= (λ q. Ok (at_once (plain q)))
    else whole fetch_request body >>= (λ q. Ok (at_once q))) (sym is ∙ so)
    ∙ ap (λ o. o >>= (λ q. Ok (in_session plain_topic_v9 q))) read ∙ ap Ok (sym made)

pub session_read : (version : ℤ) (body : List ℕ) (epochs session : Bool) (q : FetchRequestV7 FetchTopicV5) (a : Asked) → epochs ≡ has_epochs version → epochs ≡ false → session ≡ has_session version → session ≡ true
    → whole (fetch_request_v7 fetch_topic_v5) body ≡ Ok q → a ≡ in_session plain_topic q → asked_as version body ≡ Ok a
session_read version body epochs session q a is without has so read made =
    ap (λ (e : Bool). if e then whole (fetch_request_v7 (both string (array fetch_partition_v9))) body >>= (λ q. Ok (in_session plain_topic_v9 q))
    else if has_session version then whole (fetch_request_v7 fetch_topic_v5) body >>= (λ q. Ok (in_session plain_topic q))
    else if has_starts version then whole fetch_request_v5 body >>= (λ q. Ok (at_once (plain q)))
    else whole fetch_request body >>= (λ q. Ok (at_once q))) (sym is ∙ without)
    ∙ ap (λ (s : Bool). if s then whole (fetch_request_v7 fetch_topic_v5) body >>= (λ q. Ok (in_session plain_topic q))
    else if has_starts version then whole fetch_request_v5 body >>= (λ q. Ok (at_once (plain q)))
    else whole fetch_request body >>= (λ q. Ok (at_once q))) (sym has ∙ so)
    ∙ ap (λ o. o >>= (λ q. Ok (in_session plain_topic q))) read ∙ ap Ok (sym made)

pub starts_fit : (body : List ℕ) (q : FetchRequestV5) (r : FetchRequest) (a : Asked) → whole fetch_request_v5 body ≡ Ok q → r ≡ plain q → a ≡ at_once r → fetch_request.Fits a.request
starts_fit body q r a read is made =
    subst (λ (x : Asked). fetch_request.Fits x.request) (sym made)
    (subst fetch_request.Fits (sym is) (plain_fits q (whole_so fetch_request_v5 fetch_request_v5_lawful body q read).0))

pub read_fits : (version : ℤ) (body : List ℕ) (a : Asked) → asked_as version body ≡ Ok a → fetch_request.Fits a.request
read_fits version body a e = (read_so version body a.request (ap (λ o. o >>= (λ a. Ok a.request)) e)).0

-- ---- what is asked within a limit

lesser_in_range : (n : ℤ) (limit : Option ℕ) → FitsSigned w32 n → FitsSigned w32 (lesser n limit)
lesser_in_range n None range = range
lesser_in_range (negsuc m) (Some limit) range = range
lesser_in_range (pos m) (Some limit) range = by (int_lt (pos limit) (pos m)) refl
  where
    small : m < 2 ^ 31
    small = range.sfits

    by : (t : Bool) → int_lt (pos limit) (pos m) ≡ t → FitsSigned w32 (cond t (pos limit) (pos m))
    by true e = record { sfits = omega (arith, ints, small) }
    by false e = range

pub bounded_fits : (limit : Option ℕ) (r : FetchRequest) → fetch_request.Fits r → fetch_request.Fits (bounded limit r)
unfolding fetch_request int sized items
bounded_fits limit r fits = fits

bounded_in_range : (limit : Option ℕ) (r : FetchRequest) → fetch_request.InRange r → fetch_request.InRange (bounded limit r)
unfolding fetch_request int
bounded_in_range limit r range = (range.0, (range.1.0, (range.1.1.0, (lesser_in_range r.max_bytes limit range.1.1.1.0, range.1.1.1.1))))

-- a request that was read fits, and is in range, within a limit too
pub bounded_so : (limit : Option ℕ) (version : ℤ) (body : List ℕ) (r : FetchRequest) → asked_fetch version body ≡ Ok r → fetch_request.Fits (bounded limit r) × fetch_request.InRange (bounded limit r)
bounded_so limit version body r e = let is = read_so version body r e in (bounded_fits limit r is.0, bounded_in_range limit r is.1)

-- what a fetch that waits is kept with fits
pub asked_fits : (fetch : FetchWait) (r : FetchRequest) → AsksWithin fetch r → fetch_request.Fits r
asked_fits fetch r is = subst fetch_request.Fits (sym is.1.1) (bounded_so fetch.limit fetch.version fetch.body is.0 is.1.0).0
