use Rattle.std.proofs.Common.{rules, [], ◌≡◌, ◌∙◌, ◌++◌, ℤ, Bool, Ok, ap, sym, refl, subst, of_z, to_z, w16}
use Rattle.kb_wire.specs.Codec.{◌>>=◌}
use Rattle.kb_tenant_state.specs.Parts.{scene, world_of}
use Rattle.kb_tenant.specs.Entries.{fetch_entries, within}
use Rattle.kb_tenant.specs.Fetch as fetch
use Rattle.kb_tenant.specs.Fetch.{asked_as, asked_fetch, bounded, deadline_of, asked_code, code_read, fetch_answer, has_starts, session_front}
use Rattle.kb_tenant.specs.FetchWait.{FetchWait}
use Rattle.kb_tenant.specs.Replies.{begun}
use Rattle.kb_tenant.specs.Serve.{if_read, of_fetch, IsServed}
use Rattle.kb_tenant.specs.Told.{HasFailed, IsFetchMade, IsFetchReplied, IsLeftWaiting}
use Rattle.kb_tenant.specs.declared.answer.Answer.TheVariants as answers
use Rattle.kb_tenant.specs.declared.fetch.waiting.Fetching.TheVariants as fetching
use Rattle.kb_tenant.proofs.Fetched.{fetch_replied}
use Rattle.kb_tenant.proofs.Keys.{replied, waits}
use Rattle.kb_tenant.proofs.dispatch.serve_a_fetch.Goals as goal

pub new-requires : goal.new-requires
new-requires g c = (c.in_ok-read.read.request, (ap (λ o. o >>= (λ a. Ok a.request)) c.in_ok-read.ensures.spelled, c.bound.ensures.exact))

pub returns-in-Reply-clause-meets : goal.returns-in-Reply-clause-meets
returns-in-Reply-clause-meets g c = λ honest agree calm.
    let w = world_of g.L.PartitionLog.log c.args.parts.now (g.S.Store.disk c.args.shelf.now.store).files in
    let after = world_of g.L.PartitionLog.log c.serve_fetch.new.parts (g.S.Store.disk c.serve_fetch.new.shelf.store).files in
    let clock = c.args.clock in
    let read = c.in_ok-read.read.request in
    let limit = c.args.limits.fetch_bytes in
    let id = c.args.request.now.correlation_id in
    let version = c.args.request.now.api_version in
    let starts : Bool = c.has_starts-has_starts.result in
    let same : starts ≡ has_starts version = search rules in
    let from : c.in_ok-sink.sink.bytes ≡ begun id ++ session_front version c.in_ok-read.read.code = search rules in
    let kept : to_z w16 (of_z w16 version) ≡ version = search rules in
    let spells : within c.args.limits.request_entries fetch_entries (asked_fetch version c.args.request.now.body.now) ≡ Ok read =
    subst (λ v. within c.args.limits.request_entries fetch_entries (asked_fetch v c.args.request.now.body.now) ≡ Ok read) kept c.in_ok-read.ensures.exact in
    let spelled : asked_as version c.args.request.now.body.now ≡ Ok c.in_ok-read.read =
    subst (λ v. asked_as v c.args.request.now.body.now ≡ Ok c.in_ok-read.read) kept c.in_ok-read.ensures.spelled in
    let code = c.in_ok-read.read.code in
    let told : asked_code version c.args.request.now.body.now ≡ code = ap code_read spelled in
    subst (λ r. IsServed id (if_read w r (of_fetch version c.args.request.now.body.now limit w clock)) after [] (Ok c.finish.result)) (sym spells) (
      c.serve_fetch.ensures.same honest agree,
      refl,
      replied id version code c.args.request.now.body.now limit starts w clock (bounded limit read) (fetch_answer w clock (bounded limit read) (deadline_of clock (bounded limit read))) c.in_ok-sink.sink.bytes c.serve_fetch.new.sink.bytes c.finish.result same told from
          (subst (λ f. fetch.IsServed starts w clock (bounded limit read) (fetch_answer w clock (bounded limit read) (deadline_of clock (bounded limit read))) c.in_ok-sink.sink.bytes f c.serve_fetch.new.sink.bytes) c.in-Reply.is
          (subst (λ q. fetch.IsServed starts w clock q (fetch_answer w clock q (deadline_of clock q)) c.in_ok-sink.sink.bytes c.in_ok-serve_fetch.field-0 c.serve_fetch.new.sink.bytes) c.bound.ensures.exact (c.in_ok-serve_fetch.ensures.meets honest agree calm)))
          c.finish.ensures,
    )

pub returns-in_ok-new-in-Wait-clause-meets : goal.returns-in_ok-new-in-Wait-clause-meets
returns-in_ok-new-in-Wait-clause-meets g c = λ honest agree calm.
    let w = world_of g.L.PartitionLog.log c.args.parts.now (g.S.Store.disk c.args.shelf.now.store).files in
    let after = world_of g.L.PartitionLog.log c.serve_fetch.new.parts (g.S.Store.disk c.serve_fetch.new.shelf.store).files in
    let clock = c.args.clock in
    let read = c.in_ok-read.read.request in
    let limit = c.args.limits.fetch_bytes in
    let id = c.args.request.now.correlation_id in
    let version = c.args.request.now.api_version in
    let starts : Bool = c.has_starts-has_starts.result in
    let same : starts ≡ has_starts version = search rules in
    let kept : to_z w16 (of_z w16 version) ≡ version = search rules in
    let spells : within c.args.limits.request_entries fetch_entries (asked_fetch version c.args.request.now.body.now) ≡ Ok read =
    subst (λ v. within c.args.limits.request_entries fetch_entries (asked_fetch v c.args.request.now.body.now) ≡ Ok read) kept c.in_ok-read.ensures.exact in
    let spelled : asked_as version c.args.request.now.body.now ≡ Ok c.in_ok-read.read =
    subst (λ v. asked_as v c.args.request.now.body.now ≡ Ok c.in_ok-read.read) kept c.in_ok-read.ensures.spelled in
    let code = c.in_ok-read.read.code in
    let told : asked_code version c.args.request.now.body.now ≡ code = ap code_read spelled in
    let made : FetchWait = c.in_ok-new-in-Wait.field-0 in
    let is : made ≡ record { version = version; body = c.args.request.now.body.now; limit = limit } =
    subst (λ (v : ℤ). made ≡ record { version = v; body = c.args.request.now.body.now; limit = limit }) kept c.in_ok-new-in-Wait.ensures in
    subst (λ r. IsServed id (if_read w r (of_fetch version c.args.request.now.body.now limit w clock)) after [] (Ok (answers.Wait c.in-Wait.deadline made c.in-Wait.keys))) (sym spells) (
      c.serve_fetch.ensures.same honest agree,
      refl,
      waits id version c.args.request.now.body.now limit starts w clock (bounded limit read) (fetch_answer w clock (bounded limit read) (deadline_of clock (bounded limit read))) c.in_ok-sink.sink.bytes c.serve_fetch.new.sink.bytes c.in-Wait.deadline made c.in-Wait.keys is
          (subst (λ f. fetch.IsServed starts w clock (bounded limit read) (fetch_answer w clock (bounded limit read) (deadline_of clock (bounded limit read))) c.in_ok-sink.sink.bytes f c.serve_fetch.new.sink.bytes) c.in-Wait.is
          (subst (λ q. fetch.IsServed starts w clock q (fetch_answer w clock q (deadline_of clock q)) c.in_ok-sink.sink.bytes c.in_ok-serve_fetch.field-0 c.serve_fetch.new.sink.bytes) c.bound.ensures.exact (c.in_ok-serve_fetch.ensures.meets honest agree calm))),
    )

pub returns-in-Reply-clause-fetched : goal.returns-in-Reply-clause-fetched
returns-in-Reply-clause-fetched g c = λ honest agree q is.
    let log = g.L.PartitionLog.log in
    let disk = g.S.Store.disk in
    let a = scene log disk c.args.parts.now c.args.shelf.now in
    let b = scene log disk c.serve_fetch.new.parts c.serve_fetch.new.shelf in
    let request = c.args.request.now in
    let read = c.in_ok-read.read.request in
    let limit = c.args.limits.fetch_bytes in
    let whole : FetchWait = record { version = request.api_version; body = request.body.now; limit = limit } in
    let starts : Bool = c.has_starts-has_starts.result in
    let same : starts ≡ has_starts request.api_version = search rules in
    let from : c.in_ok-sink.sink.bytes ≡ begun request.correlation_id ++ session_front request.api_version c.in_ok-read.read.code = search rules in
    let kept : to_z w16 (of_z w16 request.api_version) ≡ request.api_version = search rules in
    let exact : asked_as request.api_version request.body.now ≡ Ok c.in_ok-read.read =
    subst (λ v. asked_as v request.body.now ≡ Ok c.in_ok-read.read) kept c.in_ok-read.ensures.spelled in
    let spells : asked_fetch request.api_version request.body.now ≡ Ok read = ap (λ o. o >>= (λ a. Ok a.request)) exact in
    let both : Ok read ≡ Ok q = sym spells ∙ is in
    let as_read : read ≡ q = cc in
    let asked = c.bound.new.self in
    let one : asked ≡ bounded limit q = c.bound.ensures.exact ∙ ap (bounded limit) as_read in
    let made : IsFetchMade (HasFailed a b) starts a.state.world c.args.clock asked c.in_ok-sink.sink.bytes fetching.Reply c.serve_fetch.new.sink.bytes =
    subst (λ f. IsFetchMade (HasFailed a b) starts a.state.world c.args.clock asked c.in_ok-sink.sink.bytes f c.serve_fetch.new.sink.bytes) c.in-Reply.is
    (c.in_ok-serve_fetch.ensures.told honest agree) in
    let code = c.in_ok-read.read.code in
    subst (λ z. IsFetchReplied (HasFailed a b) request.correlation_id request.api_version z whole a.state.world c.args.clock (bounded limit q) c.finish.result) (sym (ap code_read exact))
    (fetch_replied (HasFailed a b) request.correlation_id request.api_version code whole starts a.state.world c.args.clock asked (bounded limit q) c.in_ok-sink.sink.bytes
    c.serve_fetch.new.sink.bytes c.finish.result same from one made c.finish.ensures)

pub returns-in_ok-new-in-Wait-clause-fetched : goal.returns-in_ok-new-in-Wait-clause-fetched
returns-in_ok-new-in-Wait-clause-fetched g c = λ honest agree q is.
    let log = g.L.PartitionLog.log in
    let disk = g.S.Store.disk in
    let a = scene log disk c.args.parts.now c.args.shelf.now in
    let b = scene log disk c.serve_fetch.new.parts c.serve_fetch.new.shelf in
    let request = c.args.request.now in
    let read = c.in_ok-read.read.request in
    let limit = c.args.limits.fetch_bytes in
    let starts : Bool = c.has_starts-has_starts.result in
    let same : starts ≡ has_starts request.api_version = search rules in
    let kept : to_z w16 (of_z w16 request.api_version) ≡ request.api_version = search rules in
    let exact : asked_as request.api_version request.body.now ≡ Ok c.in_ok-read.read =
    subst (λ v. asked_as v request.body.now ≡ Ok c.in_ok-read.read) kept c.in_ok-read.ensures.spelled in
    let spells : asked_fetch request.api_version request.body.now ≡ Ok read = ap (λ o. o >>= (λ a. Ok a.request)) exact in
    let both : Ok read ≡ Ok q = sym spells ∙ is in
    let as_read : read ≡ q = cc in
    let asked = c.bound.new.self in
    let one : asked ≡ bounded limit q = c.bound.ensures.exact ∙ ap (bounded limit) as_read in
    let wait = c.in-Wait in
    let whole : FetchWait = record { version = request.api_version; body = request.body.now; limit = limit } in
    let made : FetchWait = c.in_ok-new-in-Wait.field-0 in
    let is_whole : made ≡ whole =
    subst (λ (v : ℤ). made ≡ record { version = v; body = request.body.now; limit = limit }) kept c.in_ok-new-in-Wait.ensures in (
      is_whole,
      subst (λ r. IsLeftWaiting (HasFailed a b) a.state.world c.args.clock r wait.deadline wait.keys.items) one
          (subst (λ f. IsFetchMade (HasFailed a b) starts a.state.world c.args.clock asked c.in_ok-sink.sink.bytes f c.serve_fetch.new.sink.bytes) wait.is
          (c.in_ok-serve_fetch.ensures.told honest agree)),
    )
