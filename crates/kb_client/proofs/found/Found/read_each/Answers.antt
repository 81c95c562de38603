use Rattle.std.proofs.Common.{◌≡◌, ◌<◌, ◌-◌, ◌+◌, ℕ, suc, length, refl, sym, ◌∙◌, inl, inr, arith}
use Rattle.kb_client.proofs.Walks.{walk_ends, walk_stopped, walk_step, front_kept}
use Rattle.kb_client.proofs.found.Found.read_each.Goals as goal

pub returns-in-None-clause-read : goal.returns-in-None-clause-read
returns-in-None-clause-read c = walk_ends _ _ _ _ _ _ c.is_end.ensures (inr (sym c.in-None.ensures.front)) c.loop-done.invariant.told

pub returns-then-not-is_ahead-clause-read : goal.returns-then-not-is_ahead-clause-read
returns-then-not-is_ahead-clause-read c =
    let some : 0 < length c.args.records.now - c.loop-done.done = omega (arith, c.loop-done-test.true) in
    sym c.loop-done.invariant.told ∙ walk_stopped _ _ _ _ some (sym c.in-Some.ensures.front) (sym c.is_ahead.ensures ∙ c.if-not-is_ahead.true)

pub loop-done-preserved : goal.loop-done-preserved
loop-done-preserved c =
    let more : length c.args.records.now - c.loop-done.done ≡ suc (length c.args.records.now - (c.loop-done.done + 1)) = omega (arith, c.loop-done-test.true) in
    record {
      told = walk_step _ _ _ _ _ _ _ _ _ _ c.past-rest.ensures c.size.ensures.size c.in-Some.ensures.front (sym c.is_ahead.ensures ∙ c.if-not-is_ahead.false) c.in_ok-add.ensures.ok more c.loop-done.invariant.told;
      behind = front_kept _ _ _ c.loop-done.invariant.behind c.in_ok-add.ensures.behind;
    }

pub returns-clause-read : goal.returns-clause-read
returns-clause-read c =
    let none : length c.args.records.now - c.loop-done.done ≡ 0 = omega (arith, c.loop-done-test.false) in
    walk_ends _ _ _ _ _ _ c.is_end-2.ensures (inl none) c.loop-done.invariant.told
