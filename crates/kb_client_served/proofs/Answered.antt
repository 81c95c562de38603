-- What a broker answers to a consumer's fetch.
use Rattle.std.proofs.Common.{◌≡◌, ◌≤◌, ◌||◌, ◌∙◌, ℕ, Bool, true, false, cond, List, Option, Some, None, Ok, Err, min, refl, sym, ap, arith}
use Rattle.std.specs.Prelude.{ℤ, pos, negsuc, int_lt, option_map, FitsSigned, if◌then◌else◌}
use Rattle.std.specs.Int.{w64}
use Rattle.std.specs.Option.{option_and_then}
use Rattle.std.proofs.lemmas.Int.{ints}
use Rattle.kb_wire.specs.Codec.{whole, ◌>>=◌}
use Rattle.kb_wire.specs.ErrorCode.{code_of}
use Rattle.kb_wire.specs.declared.api_key.TheConstants.{FETCH}
use Rattle.kb_wire.specs.declared.error_code.ErrorCode.TheVariants.{OffsetOutOfRange}
use Rattle.kb_wire.specs.declared.fault.WireFault.TheVariants as faults
use Rattle.kb_batch.specs.Batch.{natural}
use Rattle.kb_log.specs.Log as log
use Rattle.kb_api_data.specs.Layouts.{fetch_request_v5}
use Rattle.kb_api_data.specs.FetchRecords.{answer_with_v5}
use Rattle.kb_api_data.specs.declared.fetch.FetchPartition.{FetchPartition}
use Rattle.kb_api_data.specs.declared.fetch.FetchRequest.{FetchRequest}
use Rattle.kb_api_data.specs.declared.fetch_v5.FetchReplyV5.{FetchReplyV5}
use Rattle.kb_api_data.specs.declared.fetch_v5.FetchRequestV5.{FetchRequestV5}
use Rattle.kb_topics.specs.Known.{named}
use Rattle.kb_tenant_state.specs.Calls.{fetched_from}
use Rattle.kb_tenant_state.specs.Logs.{LogState}
use Rattle.kb_tenant_state.specs.World.{World, log_in, place_in}
use Rattle.kb_tenant_state.specs.declared.fault.PartitionFault.TheVariants as ranges
use Rattle.kb_tenant_state.specs.declared.topic_partition.TopicPartition.{TopicPartition}
use Rattle.kb_tenant.specs.Entries.{fetch_entries, within as within_limit}
use Rattle.kb_tenant.specs.Fetch.{Limits, answered_at, answered_by, asked_code, asked_fetch, at_once, begun, bounded, deadline_of, fetch_answer, fetched, fetched_as, fetched_in, front_of, is_ready, limit_of, plain}
use Rattle.kb_tenant.specs.Limits.{is_past}
use Rattle.kb_tenant.specs.Replies.{Replies, Silent}
use Rattle.kb_tenant.specs.Serve.{plainly_served, looked, looked_at, of_fetch, if_read, fetch_reaction}
use Rattle.kb_tenant.specs.declared.node.Node.{Node}
use Rattle.kb_client.specs.Sent.{Target}
use Rattle.kb_client.specs.Fetched.{fetch_request}
use Rattle.kb_client_spec.specs.Consuming.{IsTyped}
use Rattle.kb_client_spec.specs.Partition.{Log}
use Rattle.kb_client_spec.specs.Fetching.{Fetch, accepted, partition_answer, is_out_of_range, records_given, refused_partition, reply_body, reply_of}
use Rattle.kb_client_spec.proofs.Fetches.{fetch_read}
use Rattle.kb_client_served.specs.Served.{HasWholeLogs, IsAnswered, IsWhole, body_by, fetch_by, served_log, partition_in}
use Rattle.kb_client_served.proofs.Held.{given}

-- ---- one partition

either_false : (a b : Bool) → (a || b) ≡ false → a ≡ false
either_false true b e = absurd cc
either_false false b e = refl

at_start : (s n : ℕ) → int_lt (pos n) (pos s) ≡ false → s ≤ n
at_start s n e = omega (arith, ints)

-- what is left of a reply's limits when its first partition is served
abbrev first_limits : ℕ → Limits
first_limits left = record { left = left; first = true }

-- an entry of a consumer's request
abbrev entry_of : Fetch → FetchPartition
entry_of f = record { partition = f.index; fetch_offset = f.offset; partition_max_bytes = pos 1048576 }

most : (left : ℕ) → min 1048576 left ≤ 1048576
most left = omega arith

module _ (left : ℕ) (f : Fetch) where
  abbrev g : Limits
  g = first_limits left

  abbrev e : FetchPartition
  e = entry_of f

  by_offset : (l : LogState) → IsWhole l → (offset : ℤ) (out : Bool) → (int_lt offset (pos l.start) || int_lt (pos l.end) offset) ≡ out
      → (n : ℕ) × ((answered_by g f.index (Some (pos l.start, pos l.end)) (if out then Err ranges.Range else Ok (log.fetched (natural offset) (limit_of g e) true l.batches))).1
      ≡ cond out (refused_partition f.index (code_of OffsetOutOfRange)) (accepted f.index (served_log l) (records_given n offset l.batches)))
  by_offset l is offset true is_out = (0, refl)
  by_offset l is (pos n) false in_range =
      let r = given n (limit_of g e) l is (at_start l.start n (either_false (int_lt (pos n) (pos l.start)) (int_lt (pos l.end) (pos n)) in_range)) (most left) in
      (r.0, ap (λ records. answer_with_v5 (front_of f.index (pos l.start, pos l.end)) records) r.1)
  by_offset l is (negsuc n) false in_range = absurd cc

  by_log : (w : World) (place : TopicPartition) → HasWholeLogs w → (o : Option LogState) → log_in w place ≡ o
      → (n : ℕ) × ((answered_by g f.index (option_map (λ (l : LogState). (pos l.start, pos l.end)) o) (fetched_from f.offset (limit_of g e) true o)).1 ≡ partition_answer n f (option_map served_log o))
  by_log w place all None at = (0, refl)
  by_log w place all (Some l) at = by_offset l (all place l at) f.offset (is_out_of_range (served_log l) f.offset) refl

  by_place : (w : World) → HasWholeLogs w → (o : Option TopicPartition) → (n : ℕ) × ((answered_at w g e o).1 ≡ partition_answer n f (option_map served_log (option_and_then (log_in w) o)))
  by_place w all None = (0, refl)
  by_place w all (Some place) = by_log w place all (log_in w place) refl

-- ---- a reply

reply_is : (w : World) (limit : Option ℕ) (target : Target) (offset : ℤ) (follow : Bool) → HasWholeLogs w
    → (n : ℕ) × ((fetched w (bounded limit (plain (fetch_request target offset follow)))).1 ≡ reply_of (fetch_by target offset) (partition_answer n (fetch_by target offset) (partition_in w target.topic target.partition)))
reply_is w limit target offset follow all =
    let f = fetch_by target offset in
    let a = by_place (begun (bounded limit (plain (fetch_request target offset follow)))).left f w all (place_in (named target.topic w.known.topics) target.partition) in
    (a.0, ap (λ p. reply_of f p) a.1)

-- a fetch that has an answer has that one
answer_is : (w : World) (clock : ℕ) (r : FetchRequest) (deadline : ℕ) (reply : FetchReplyV5) → fetch_answer w clock r deadline ≡ Some reply → reply ≡ (fetched w r).1
answer_is w clock r deadline reply e = by (is_ready clock r (fetched w r).1 deadline) refl
  where
    same : {x y : FetchReplyV5} → Some x ≡ Some y → x ≡ y
    same h = cc

    none : {P : Type 0} {x : FetchReplyV5} → None ≡ Some x → P
    none h = absurd (cc)

    by : (t : Bool) → is_ready clock r (fetched w r).1 deadline ≡ t → reply ≡ (fetched w r).1
    by true ready = sym (same (sym (ap (λ t. if t then Some (fetched w r).1 else None) ready) ∙ e))
    by false ready = none (sym (ap (λ t. if t then Some (fetched w r).1 else None) ready) ∙ e)

body_is : (code : ℤ) (w : World) (clock : ℕ) (limit : Option ℕ) (target : Target) (offset : ℤ) (follow : Bool) (deadline : ℕ) (reply : FetchReplyV5) (body : List ℕ) → HasWholeLogs w
    → fetch_answer w clock (bounded limit (plain (fetch_request target offset follow))) deadline ≡ Some reply → body ≡ fetched_as (pos 5) code reply → IsAnswered w (fetch_by target offset) body
body_is code w clock limit target offset follow deadline reply body all e is =
    let a = reply_is w limit target offset follow all in
    let told : reply ≡ (fetched w (bounded limit (plain (fetch_request target offset follow)))).1 = answer_is w clock (bounded limit (plain (fetch_request target offset follow))) deadline reply e in
    (a.0, is ∙ ap (λ (r : FetchReplyV5). fetched_as (pos 5) code r) (told ∙ a.1))

-- ---- at once, and after a wait

asked : (body : List ℕ) (q : FetchRequestV5) → whole fetch_request_v5 body ≡ Ok q → asked_fetch (pos 5) body ≡ Ok (plain q)
asked body q read = ap (λ r. (r >>= (λ (v : FetchRequestV5). Ok (at_once (plain v)))) >>= (λ a. Ok a.request)) read

asked_by : (target : Target) (offset : ℤ) (follow : Bool) → IsTyped target → FitsSigned w64 offset → asked_fetch (pos 5) (body_by target offset follow) ≡ Ok (plain (fetch_request target offset follow))
asked_by target offset follow typed fits = asked (body_by target offset follow) (fetch_request target offset follow) (fetch_read target offset follow typed.short.topic typed.topic typed.partition fits)

replied_is : {x y : List ℕ} → Replies x ≡ Replies y → x ≡ y
replied_is h = cc

reaction_is : (asks : List ℕ) (kept : Option ℕ) (w : World) (clock : ℕ) (limit : Option ℕ) (target : Target) (offset : ℤ) (follow : Bool) (body : List ℕ) (reply : Option FetchReplyV5) → HasWholeLogs w
    → fetch_answer w clock (bounded limit (plain (fetch_request target offset follow))) (deadline_of clock (bounded limit (plain (fetch_request target offset follow)))) ≡ reply
    → fetch_reaction (pos 5) asks kept w clock (bounded limit (plain (fetch_request target offset follow))) reply ≡ Replies body → IsAnswered w (fetch_by target offset) body
reaction_is asks kept w clock limit target offset follow body None all e is = absurd (cc)
reaction_is asks kept w clock limit target offset follow body (Some reply) all e is =
    body_is (asked_code (pos 5) asks) w clock limit target offset follow (deadline_of clock (bounded limit (plain (fetch_request target offset follow)))) reply body all e (sym (replied_is is))

pub served_so : (node : Node) (w : World) (clock n : ℕ) (target : Target) (offset : ℤ) (follow : Bool) (body : List ℕ) → HasWholeLogs w → IsTyped target → FitsSigned w64 offset
    → (plainly_served node w clock n FETCH (pos 5) (body_by target offset follow)).reaction ≡ Replies body → IsAnswered w (fetch_by target offset) body
unfolding plainly_served
served_so node w clock n target offset follow body all typed fits replies =
    let r = plain (fetch_request target offset follow) in
    let asks = body_by target offset follow in
    by r asks (is_past node.limits.request_entries (fetch_entries r)) refl (sym (ap (λ x. (if_read w (within_limit node.limits.request_entries fetch_entries x) (of_fetch (pos 5) asks node.limits.fetch_bytes w clock)).reaction) (asked_by target offset follow typed fits)) ∙ replies)
  where
    by : (r : FetchRequest) (asks : List ℕ) (b : Bool) → r ≡ plain (fetch_request target offset follow) → (if_read w (if b then Err faults.Bad else Ok r) (of_fetch (pos 5) asks node.limits.fetch_bytes w clock)).reaction ≡ Replies body → IsAnswered w (fetch_by target offset) body
    by r asks true same is = absurd cc
    by r asks false same is =
        let q = bounded node.limits.fetch_bytes (plain (fetch_request target offset follow)) in
        let moved : (of_fetch (pos 5) asks node.limits.fetch_bytes w clock (plain (fetch_request target offset follow))).reaction ≡ Replies body =
        sym (ap (λ (x : FetchRequest). (of_fetch (pos 5) asks node.limits.fetch_bytes w clock x).reaction) same) ∙ is in
        reaction_is asks node.limits.fetch_bytes w clock node.limits.fetch_bytes target offset follow body (fetch_answer w clock q (deadline_of clock q)) all refl moved

look_is : (w : World) (clock deadline : ℕ) (limit : Option ℕ) (target : Target) (offset : ℤ) (follow : Bool) (body : List ℕ) (reply : Option FetchReplyV5) → HasWholeLogs w
    → fetch_answer w clock (bounded limit (plain (fetch_request target offset follow))) deadline ≡ reply
    → (elim reply [ Some reply ↦ Replies (fetched_in (pos 5) reply) | None ↦ Silent ]) ≡ Replies body → IsAnswered w (fetch_by target offset) body
look_is w clock deadline limit target offset follow body None all e is = absurd (cc)
look_is w clock deadline limit target offset follow body (Some reply) all e is = body_is (pos 0) w clock limit target offset follow deadline reply body all e (sym (replied_is is))

pub looked_so : (w : World) (clock deadline : ℕ) (limit : Option ℕ) (target : Target) (offset : ℤ) (follow : Bool) (body : List ℕ) → HasWholeLogs w → IsTyped target → FitsSigned w64 offset
    → looked w clock deadline (pos 5) limit (body_by target offset follow) ≡ Replies body → IsAnswered w (fetch_by target offset) body
unfolding looked
looked_so w clock deadline limit target offset follow body all typed fits replies =
    let q = bounded limit (plain (fetch_request target offset follow)) in
    look_is w clock deadline limit target offset follow body (fetch_answer w clock q deadline) all refl
    (sym (ap (looked_at w clock deadline (pos 5) limit) (asked_by target offset follow typed fits)) ∙ replies)

-- ---- by what there is

pub unknown : (w : World) (f : Fetch) (body : List ℕ) → IsAnswered w f body → partition_in w f.topic f.index ≡ None → body ≡ reply_body f (refused_partition f.index (pos 3))
unknown w f body a none = a.1 ∙ ap (λ (l : Option Log). reply_body f (partition_answer a.0 f l)) none

there : (w : World) (f : Fetch) (body : List ℕ) (l : Log) (out : Bool) (a : IsAnswered w f body) → partition_in w f.topic f.index ≡ Some l → is_out_of_range l f.offset ≡ out
    → body ≡ reply_body f (cond out (refused_partition f.index (code_of OffsetOutOfRange)) (accepted f.index l (records_given a.0 f.offset l.batches)))
there w f body l out a at is =
    a.1 ∙ ap (λ (o : Option Log). reply_body f (partition_answer a.0 f o)) at
    ∙ ap (λ t. reply_body f (cond t (refused_partition f.index (code_of OffsetOutOfRange)) (accepted f.index l (records_given a.0 f.offset l.batches)))) is

pub out_of_range : (w : World) (f : Fetch) (body : List ℕ) (l : Log) → IsAnswered w f body → partition_in w f.topic f.index ≡ Some l → is_out_of_range l f.offset ≡ true → body ≡ reply_body f (refused_partition f.index (pos 1))
out_of_range w f body l a at is = there w f body l true a at is

pub in_range : (w : World) (f : Fetch) (body : List ℕ) (l : Log) → IsAnswered w f body → partition_in w f.topic f.index ≡ Some l → is_out_of_range l f.offset ≡ false
    → (n : ℕ) × (body ≡ reply_body f (accepted f.index l (records_given n f.offset l.batches)))
in_range w f body l a at is = (a.0, there w f body l false a at is)
