use Rattle.kb_tenant.specs.Fetch.{fetch_answer}
use Rattle.kb_tenant_state.specs.Parts.{scene, world_of}
use Rattle.kb_tenant.specs.Told.{HasFailed}
use Rattle.kb_tenant.proofs.Fetched.{made_reply, made_wait}
use Rattle.kb_tenant.proofs.Waiting.{reply_served, wait_served}
use Rattle.kb_tenant.proofs.fetch.waiting.serve_fetch.Goals as goal

pub returns-then-branch-clause-meets : goal.returns-then-branch-clause-meets
returns-then-branch-clause-meets g c = λ honest agrees calm.
    let files = (g.S.Store.disk c.args.shelf.now.store).files in
    let w = world_of g.L.PartitionLog.log c.args.parts.now files in
    reply_served c.args.has_starts w c.args.clock c.args.request.now c.deadline-deadline.result (fetch_answer w c.args.clock c.args.request.now) c.args.sink.now.bytes c.look.new.sink.bytes c.in_ok-look.field-0 c.if-branch.true c.deadline-deadline.ensures (c.in_ok-look.ensures.meets honest agrees calm)

pub returns-clause-meets : goal.returns-clause-meets
returns-clause-meets g c = λ honest agrees calm.
    let files = (g.S.Store.disk c.args.shelf.now.store).files in
    let later = (g.S.Store.disk c.look.new.shelf.store).files in
    let w = world_of g.L.PartitionLog.log c.args.parts.now files in
    wait_served c.args.has_starts w (world_of g.L.PartitionLog.log c.look.new.parts later) c.args.clock c.args.request.now c.deadline-deadline.result (fetch_answer w c.args.clock c.args.request.now) c.args.sink.now.bytes c.look.new.sink.bytes c.in_ok-look.field-0 c.in_ok-places.field-0
    c.if-branch.false c.deadline-deadline.ensures (c.in_ok-look.ensures.meets honest agrees calm) (c.in_ok-places.ensures later) (c.look.ensures.same honest agrees)

pub returns-then-branch-clause-told : goal.returns-then-branch-clause-told
returns-then-branch-clause-told g c = λ honest agree.
    let log = g.L.PartitionLog.log in
    let disk = g.S.Store.disk in
    let a = scene log disk c.args.parts.now c.args.shelf.now in
    let b = scene log disk c.look.new.parts c.look.new.shelf in
    made_reply (HasFailed a b) c.args.has_starts a.state.world c.args.clock c.args.request.now c.deadline-deadline.result c.args.sink.now.bytes
    c.look.new.sink.bytes c.in_ok-look.field-0 c.if-branch.true c.deadline-deadline.ensures
    (c.in_ok-look.ensures.told honest agree)

pub returns-clause-told : goal.returns-clause-told
returns-clause-told g c = λ honest agree.
    let log = g.L.PartitionLog.log in
    let disk = g.S.Store.disk in
    let a = scene log disk c.args.parts.now c.args.shelf.now in
    let b = scene log disk c.look.new.parts c.look.new.shelf in
    made_wait (HasFailed a b) a.state.world b.state.world c.args.clock c.args.request.now c.deadline-deadline.result c.in_ok-places.field-0.items
    c.in_ok-look.field-0 _ c.if-branch.false c.deadline-deadline.ensures (c.in_ok-places.ensures b.disk.files)
    (c.look.ensures.same honest agree) (c.in_ok-look.ensures.told honest agree)
