use Rattle.std.proofs.Common.{refl, arith}
use Rattle.std.proofs.lemmas.Result.{err_from_is_err_and}
use Rattle.kb_tenant_state.specs.Ids.{IsSkippedInPart}
use Rattle.kb_tenant_state.specs.Parts.{scene}
use Rattle.kb_tenant_state.specs.Steps.{step_then}
use Rattle.kb_tenant_state.proofs.SkippedIds.{all_after, fixed_next, left_after, loud_part, next_after, none_after, part_after}
use Rattle.kb_tenant_state.proofs.parts.Parts.skip_ids.Goals as goal

pub loop-init : goal.loop-init
loop-init g c = record {
  after = none_after (scene g.L.PartitionLog.log g.S.Store.disk c.args.self.now c.args.shelf.now) c.requires;
  fixed = refl;
  most = omega arith;
}

pub give_out-requires : goal.give_out-requires
give_out-requires g c = c.loop.invariant.after.step.frame.sound

pub loop-preserved : goal.loop-preserved
loop-preserved g c =
    let log = g.L.PartitionLog.log in
    let disk = g.S.Store.disk in
    let e = c.in_ok-give_out.ensures in
    record {
      after = next_after (scene log disk c.args.self.now c.args.shelf.now) (scene log disk c.loop.self c.loop.shelf) (scene log disk c.give_out.new.self c.give_out.new.shelf) c.loop.counter _
          c.loop.invariant.after e.step e.told.counted e.given e.told.met;
      fixed = fixed_next c.args.self.now c.loop.self c.give_out.new.self c.loop.invariant.fixed e.fixed;
      most = omega (arith, c.loop-test.true);
    }

pub returns-in_err-give_out-clause-step : goal.returns-in_err-give_out-clause-step
returns-in_err-give_out-clause-step g c =
    let log = g.L.PartitionLog.log in
    let disk = g.S.Store.disk in
    step_then (scene log disk c.args.self.now c.args.shelf.now) (scene log disk c.loop.self c.loop.shelf) (scene log disk c.give_out.new.self c.give_out.new.shelf)
    c.loop.invariant.after.step c.in_err-give_out.ensures.step

pub returns-in_err-give_out-clause-fixed : goal.returns-in_err-give_out-clause-fixed
returns-in_err-give_out-clause-fixed g c = fixed_next c.args.self.now c.loop.self c.give_out.new.self c.loop.invariant.fixed c.in_err-give_out.ensures.fixed

in_part : goal.returns-in_err-give_out-clause-told
in_part g c =
    let log = g.L.PartitionLog.log in
    let disk = g.S.Store.disk in
    let before = c.args.shelf.now in
    let a = scene log disk c.args.self.now before in
    let b = scene log disk c.loop.self c.loop.shelf in
    let e = c.in_err-give_out.ensures in
    let after = c.loop.invariant.after in
    let p = err_from_is_err_and c.from_residual.result c.from_residual.ensures.1 in
    rw (p.1, p.2) (part_after a b (scene log disk c.give_out.new.self c.give_out.new.shelf) c.loop.counter c.lost_ids-lost.result c.in_err-give_out.field-0.0 after c.loop-test.true
    (λ agree. c.lost_ids-lost.ensures.lost (disk before.store).table before.next (disk before.store).files c.requires agree)
    e.step e.kept (e.left (left_after a b c.loop.counter after (c.lost_ids-lost.ensures.left c.loop.counter c.loop-test.true))))

pub returns-in_err-give_out-clause-told : goal.returns-in_err-give_out-clause-told
returns-in_err-give_out-clause-told g c = in_part g c

pub returns-in_err-give_out-clause-meets : goal.returns-in_err-give_out-clause-meets
returns-in_err-give_out-clause-meets g c =
    let log = g.L.PartitionLog.log in
    let disk = g.S.Store.disk in
    let a = scene log disk c.args.self.now c.args.shelf.now in
    let d = scene log disk c.give_out.new.self c.give_out.new.shelf in
    let p = err_from_is_err_and c.from_residual.result c.from_residual.ensures.1 in
    let part : IsSkippedInPart a d p.0 = rw p.1 at (in_part g c) in
    loud_part a d _ p.0 part

pub returns-clause-step : goal.returns-clause-step
returns-clause-step g c = c.loop.invariant.after.step

pub returns-clause-fixed : goal.returns-clause-fixed
returns-clause-fixed g c = c.loop.invariant.fixed

pub returns-clause-told : goal.returns-clause-told
returns-clause-told g c =
    let log = g.L.PartitionLog.log in
    let disk = g.S.Store.disk in
    let before = c.args.shelf.now in
    all_after (scene log disk c.args.self.now before) (scene log disk c.loop.self c.loop.shelf) c.loop.counter c.loop.invariant.after
    (λ agree. let all = c.lost_ids-lost.ensures.lost (disk before.store).table before.next (disk before.store).files c.requires agree in
    omega (arith, all, c.loop-test.false, c.loop.invariant.most))

pub returns-clause-meets : goal.returns-clause-meets
returns-clause-meets g c = λ honest agree calm. ((returns-clause-told g c).met honest agree, refl)
