use Rattle.std.proofs.Common.{◌≡◌, false, refl, true}
use Rattle.kb_tenant_state.specs.Parts.{scene, world_of}
use Rattle.kb_tenant_state.specs.Steps.{step_same}
use Rattle.kb_tenant.specs.Told.{HasFailed}
use Rattle.kb_tenant.proofs.Fetched.{fetched_ready}
use Rattle.kb_tenant.proofs.Missing.{unanswered_looked, unanswered_told}
use Rattle.kb_tenant.proofs.Ready.{looked_done, looked_not}
use Rattle.kb_tenant.proofs.fetch.waiting.look.Goals as goal

pub returns-then-surely_waits-clause-step : goal.returns-then-surely_waits-clause-step
returns-then-surely_waits-clause-step g c =
    step_same (scene g.L.PartitionLog.log g.S.Store.disk c.args.parts.now c.args.shelf.now) c.requires.sound

pub returns-then-surely_waits-clause-meets : goal.returns-then-surely_waits-clause-meets
returns-then-surely_waits-clause-meets g c = λ honest agrees calm.
    let a = scene g.L.PartitionLog.log g.S.Store.disk c.args.parts.now c.args.shelf.now in
    unanswered_looked c.args.has_starts a.state.world c.args.clock c.args.request.now c.args.deadline c.args.sink.now.bytes
    (c.surely_waits.ensures a.disk.files agrees c.if-surely_waits.true)

pub returns-then-surely_waits-clause-told : goal.returns-then-surely_waits-clause-told
returns-then-surely_waits-clause-told g c = λ honest agree.
    let a = scene g.L.PartitionLog.log g.S.Store.disk c.args.parts.now c.args.shelf.now in
    unanswered_told (HasFailed a a) c.args.has_starts a.state.world c.args.clock c.args.request.now c.args.deadline c.args.sink.now.bytes
    (c.surely_waits.ensures a.disk.files agree c.if-surely_waits.true)

pub returns-then-is_ready-clause-meets : goal.returns-then-is_ready-clause-meets
returns-then-is_ready-clause-meets g c = λ honest agrees calm.
    let w = world_of g.L.PartitionLog.log c.args.parts.now (g.S.Store.disk c.args.shelf.now.store).files in
    looked_done c.args.has_starts w c.args.clock c.args.request.now c.in_ok-given.given c.args.deadline c.is_ready.result c.args.sink.now.bytes c.fetch_now.new.sink.bytes
    c.is_ready.ensures c.if-is_ready.true (c.in_ok-given.ensures.meets honest agrees calm)

pub returns-clause-meets : goal.returns-clause-meets
returns-clause-meets g c = λ honest agrees calm.
    let w = world_of g.L.PartitionLog.log c.args.parts.now (g.S.Store.disk c.args.shelf.now.store).files in
    looked_not c.args.has_starts w c.args.clock c.args.request.now c.in_ok-given.given c.args.deadline c.is_ready.result c.args.sink.now.bytes c.fetch_now.new.sink.bytes c.truncate.new.self.bytes c.len-before.result
    c.is_ready.ensures c.if-is_ready.false (c.in_ok-given.ensures.meets honest agrees calm) c.len-before.ensures c.truncate.ensures.bytes

pub returns-then-is_ready-clause-told : goal.returns-then-is_ready-clause-told
returns-then-is_ready-clause-told g c = λ honest agree.
    let log = g.L.PartitionLog.log in
    let disk = g.S.Store.disk in
    let a = scene log disk c.args.parts.now c.args.shelf.now in
    let b = scene log disk c.fetch_now.new.parts c.fetch_now.new.shelf in
    let bytes = c.fetch_now.new.sink.bytes in
    fetched_ready (HasFailed a b) c.args.has_starts a.state.world c.args.clock c.args.request.now c.in_ok-given.given
    c.args.deadline c.is_ready.result true c.args.sink.now.bytes bytes bytes
    c.is_ready.ensures c.if-is_ready.true (λ ready. refl)
    (c.in_ok-given.ensures.told honest agree)

pub returns-clause-told : goal.returns-clause-told
returns-clause-told g c = λ honest agree.
    let log = g.L.PartitionLog.log in
    let disk = g.S.Store.disk in
    let a = scene log disk c.args.parts.now c.args.shelf.now in
    let b = scene log disk c.fetch_now.new.parts c.fetch_now.new.shelf in
    fetched_ready (HasFailed a b) c.args.has_starts a.state.world c.args.clock c.args.request.now c.in_ok-given.given
    c.args.deadline c.is_ready.result false c.args.sink.now.bytes c.fetch_now.new.sink.bytes c.truncate.new.self.bytes
    c.is_ready.ensures c.if-is_ready.false
    (λ ready. let no : false ≡ true = ready in absurd cc)
    (c.in_ok-given.ensures.told honest agree)
