use Rattle.std.proofs.Common.{rules, ◌≡◌, ◌∙◌, ◌++◌, pos, Bool, Ok, ap, sym, subst}
use Rattle.kb_tenant_state.specs.Parts.{scene, world_of}
use Rattle.kb_tenant.specs.Fetch.{bounded, fetch_answer, has_starts, look_written, session_front}
use Rattle.kb_tenant.specs.Replies.{begun, IsAnswer}
use Rattle.kb_tenant.specs.Serve.{looked, looked_at}
use Rattle.kb_tenant.specs.Told.{HasFailed, IsUnready}
use Rattle.kb_tenant.proofs.Fetched.{look_replied, look_unready}
use Rattle.kb_tenant.specs.declared.answer.Answer.TheVariants as answers
use Rattle.kb_tenant.proofs.Keys.{waiting, woken}
use Rattle.kb_tenant.proofs.dispatch.look_at.Goals as goal

pub returns-then-branch-clause-meets : goal.returns-then-branch-clause-meets
unfolding looked
returns-then-branch-clause-meets g c = λ honest agree calm.
    let w = world_of g.L.PartitionLog.log c.args.parts.now (g.S.Store.disk c.args.shelf.now.store).files in
    let fetch = c.args.wait.now.fetch.now in
    let asks = c.asked-asked.ensures.asked in
    let id = c.args.wait.now.correlation_id in
    let deadline = c.args.wait.now.deadline in
    let starts : Bool = c.has_starts-has_starts.result in
    let same : starts ≡ has_starts fetch.version = search rules in
    let from : c.in_ok-sink.sink.bytes ≡ begun id ++ session_front fetch.version (pos 0) = search rules in
    let looks : (c.in_ok-look.field-0, c.look.new.sink.bytes) ≡ look_written starts c.in_ok-sink.sink.bytes (fetch_answer w c.args.clock (bounded fetch.limit asks.0) deadline) =
    subst (λ q. (c.in_ok-look.field-0, c.look.new.sink.bytes) ≡ look_written starts c.in_ok-sink.sink.bytes (fetch_answer w c.args.clock q deadline)) asks.1.1
    (c.in_ok-look.ensures.meets honest agree calm) in (
      c.look.ensures.same honest agree,
      subst (λ r. IsAnswer id (looked_at w c.args.clock deadline fetch.version fetch.limit r) c.finish.result) (sym asks.1.0)
          (woken id fetch.version starts (fetch_answer w c.args.clock (bounded fetch.limit asks.0) deadline) c.in_ok-sink.sink.bytes c.look.new.sink.bytes c.in_ok-look.field-0 c.finish.result same from c.if-branch.true looks c.finish.ensures),
    )

pub returns-clause-meets : goal.returns-clause-meets
unfolding looked
returns-clause-meets g c = λ honest agree calm.
    let w = world_of g.L.PartitionLog.log c.args.parts.now (g.S.Store.disk c.args.shelf.now.store).files in
    let fetch = c.args.wait.now.fetch.now in
    let asks = c.asked-asked.ensures.asked in
    let id = c.args.wait.now.correlation_id in
    let deadline = c.args.wait.now.deadline in
    let starts : Bool = c.has_starts-has_starts.result in
    let looks : (c.in_ok-look.field-0, c.look.new.sink.bytes) ≡ look_written starts c.in_ok-sink.sink.bytes (fetch_answer w c.args.clock (bounded fetch.limit asks.0) deadline) =
    subst (λ q. (c.in_ok-look.field-0, c.look.new.sink.bytes) ≡ look_written starts c.in_ok-sink.sink.bytes (fetch_answer w c.args.clock q deadline)) asks.1.1
    (c.in_ok-look.ensures.meets honest agree calm) in (
      c.look.ensures.same honest agree,
      subst (λ r. IsAnswer id (looked_at w c.args.clock deadline fetch.version fetch.limit r) answers.NoReply) (sym asks.1.0)
          (waiting id fetch.version starts (fetch_answer w c.args.clock (bounded fetch.limit asks.0) deadline) c.in_ok-sink.sink.bytes c.look.new.sink.bytes c.in_ok-look.field-0 c.if-branch.false looks),
    )

pub returns-then-branch-clause-told : goal.returns-then-branch-clause-told
returns-then-branch-clause-told g c = λ honest agree q is.
    let log = g.L.PartitionLog.log in
    let disk = g.S.Store.disk in
    let a = scene log disk c.args.parts.now c.args.shelf.now in
    let b = scene log disk c.look.new.parts c.look.new.shelf in
    let wait = c.args.wait.now in
    let fetch = c.args.wait.now.fetch.now in
    let asks = c.asked-asked.ensures.asked in
    let asked = c.asked-asked.result.now in
    let starts : Bool = c.has_starts-has_starts.result in
    let same : starts ≡ has_starts fetch.version = search rules in
    let from : c.in_ok-sink.sink.bytes ≡ begun wait.correlation_id ++ session_front fetch.version (pos 0) = search rules in
    let both : Ok asks.0 ≡ Ok q = sym asks.1.0 ∙ is in
    let as_read : asks.0 ≡ q = cc in
    let one : asked ≡ bounded fetch.limit q = asks.1.1 ∙ ap (bounded fetch.limit) as_read in
    look_replied (HasFailed a b) (IsUnready (HasFailed a b) a.state.world c.args.clock wait.deadline (bounded fetch.limit q)) wait.correlation_id fetch.version (pos 0)
    starts a.state.world c.args.clock wait.deadline asked (bounded fetch.limit q) c.in_ok-sink.sink.bytes c.look.new.sink.bytes c.in_ok-look.field-0 c.finish.result same from c.if-branch.true one (c.in_ok-look.ensures.told honest agree)
    c.finish.ensures

pub returns-clause-told : goal.returns-clause-told
returns-clause-told g c = λ honest agree q is.
    let log = g.L.PartitionLog.log in
    let disk = g.S.Store.disk in
    let a = scene log disk c.args.parts.now c.args.shelf.now in
    let b = scene log disk c.look.new.parts c.look.new.shelf in
    let wait = c.args.wait.now in
    let fetch = c.args.wait.now.fetch.now in
    let asks = c.asked-asked.ensures.asked in
    let asked = c.asked-asked.result.now in
    let both : Ok asks.0 ≡ Ok q = sym asks.1.0 ∙ is in
    let as_read : asks.0 ≡ q = cc in
    let one : asked ≡ bounded fetch.limit q = asks.1.1 ∙ ap (bounded fetch.limit) as_read in
    look_unready (HasFailed a b) a.state.world c.args.clock wait.deadline asked (bounded fetch.limit q) c.in_ok-look.field-0 _ c.if-branch.false one
    (c.in_ok-look.ensures.told honest agree)
