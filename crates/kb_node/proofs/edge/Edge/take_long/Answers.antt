use Rattle.std.proofs.Common.{◌≡◌, ◌+◌, ◌-◌, ◌++◌, ◌∷◌, ◌∙◌, [], Some, None, vec_len, ap, refl, sym, arith}
use Rattle.kb_shares.specs.Turns.{after_next, next}
use Rattle.kb_node.specs.Numbers.{socket_of}
use Rattle.kb_node.specs.Waiting.{begun_by, behind, long_ones, long_turns, room_behind}
use Rattle.kb_node.proofs.Waiting.{longer, one_more_turn, ones_done, ones_end, ones_left, ones_step, pushed, turns_done, turns_end, turns_step}
use Rattle.kb_node.proofs.edge.Edge.take_long.Goals as goal

pub loop-init : goal.loop-init
loop-init g c = record {
  some = omega arith;
  rest = (refl, refl);
  lanes = refl;
  turns = omega arith;
  ones = λ room. (omega arith, omega arith, refl);
}

pub loop-preserved : goal.loop-preserved
loop-preserved g c =
    let i = c.loop.counter in let b = c.loop.self in let s = c.args.self.now.sockets.items in let n = c.in-Some.number in
    let r = c.loop.room in let lane = b.lanes.long in
    let left : c.saturating_sub-room.result ≡ room_behind r (next lane) s = c.saturating_sub-room.ensures
    ∙ ap (λ k. r - k) (c.begun_on.ensures b.seated.in_order ∙ ap (λ v. begun_by (socket_of n v.items)) c.loop.invariant.rest.1)
    ∙ ap (λ o. room_behind r o s) c.in-Some.ensures.next in
    record {
      some = omega (arith, c.if-room-eq0.false);
      rest = c.loop.invariant.rest;
      lanes = one_more_turn i c.args.self.now.lanes b.lanes _ c.loop.invariant.lanes c.in-Some.ensures.others;
      turns = turns_step s 8 i _ r _ lane c.loop-test.true c.loop.invariant.some left c.loop.invariant.turns
          ∙ ap (λ l. (i + 1) + long_turns (8 - (i + 1)) c.saturating_sub-room.result l.long s) (sym c.in-Some.ensures.others);
      ones = λ room.
          let was = c.loop.invariant.ones room in
          let ok = c.push.ensures.succeeds (omega (arith, room, was.0, was.1, c.loop-test.true)) in (
            omega (arith, was.0, longer c.push.result _ _ ok c.push.ensures.len),
            omega (arith, was.1, c.push.ensures.capacity),
            ones_step s 8 i r _ n lane _ _ c.loop-test.true c.loop.invariant.some (sym c.in-Some.ensures.next) left was.2
                ∙ ap (λ xs. xs ++ long_ones (8 - (i + 1)) c.saturating_sub-room.result (after_next lane) s) (sym (pushed c.push.result _ _ n ok c.push.ensures.items))
                ∙ ap (λ l. c.push.new.self.items ++ long_ones (8 - (i + 1)) c.saturating_sub-room.result l.long s) (sym c.in-Some.ensures.others),
          );
    }

pub returns-in_default-clause-lanes : goal.returns-in_default-clause-lanes
returns-in_default-clause-lanes g c =
    let first = c.args.self.now.lanes in let b = c.loop.self in let s = c.args.self.now.sockets.items in let i = c.loop.counter in
    let nobody = ap (λ o. room_behind c.loop.room o s) c.in_default.ensures.next in
    let all = turns_end s 8 (i + 1) _ 0 (after_next b.lanes.long) refl
    (turns_step s 8 i _ c.loop.room 0 b.lanes.long c.loop-test.true c.loop.invariant.some nobody c.loop.invariant.turns) in
    one_more_turn i first b.lanes _ c.loop.invariant.lanes c.in_default.ensures.others ∙ ap (λ k. record first { long = behind k first.long }) (sym all)

pub returns-then-room-eq0-clause-lanes : goal.returns-then-room-eq0-clause-lanes
returns-then-room-eq0-clause-lanes g c =
    let first = c.args.self.now.lanes in let b = c.loop.self in let s = c.args.self.now.sockets.items in let i = c.loop.counter in
    let n = c.in-Some.number in let r = c.loop.room in let lane = b.lanes.long in
    let left : c.saturating_sub-room.result ≡ room_behind r (next lane) s = c.saturating_sub-room.ensures
    ∙ ap (λ k. r - k) (c.begun_on.ensures b.seated.in_order ∙ ap (λ v. begun_by (socket_of n v.items)) c.loop.invariant.rest.1)
    ∙ ap (λ o. room_behind r o s) c.in-Some.ensures.next in
    let all = turns_end s 8 (i + 1) _ _ (after_next lane) c.if-room-eq0.true
    (turns_step s 8 i _ r _ lane c.loop-test.true c.loop.invariant.some left c.loop.invariant.turns) in
    one_more_turn i first b.lanes _ c.loop.invariant.lanes c.in-Some.ensures.others ∙ ap (λ k. record first { long = behind k first.long }) (sym all)

pub returns-after-loop-clause-lanes : goal.returns-after-loop-clause-lanes
returns-after-loop-clause-lanes g c =
    let first = c.args.self.now.lanes in
    c.loop.invariant.lanes ∙ ap (λ k. record first { long = behind k first.long })
    (sym (turns_done c.args.self.now.sockets.items 8 c.loop.counter _ c.loop.room c.loop.self.lanes.long (omega (arith, c.loop-test.false)) c.loop.invariant.turns))

pub returns-in_default-clause-taken : goal.returns-in_default-clause-taken
returns-in_default-clause-taken g c = λ room.
    sym (ones_left c.args.self.now.sockets.items 8 c.loop.counter c.loop.room c.loop.self.lanes.long _ _ c.loop-test.true c.loop.invariant.some
    (sym c.in_default.ensures.next) (c.loop.invariant.ones room).2)

pub returns-then-room-eq0-clause-taken : goal.returns-then-room-eq0-clause-taken
returns-then-room-eq0-clause-taken g c = λ room.
    let b = c.loop.self in let s = c.args.self.now.sockets.items in let i = c.loop.counter in
    let n = c.in-Some.number in let r = c.loop.room in let lane = b.lanes.long in
    let left : c.saturating_sub-room.result ≡ room_behind r (next lane) s = c.saturating_sub-room.ensures
    ∙ ap (λ k. r - k) (c.begun_on.ensures b.seated.in_order ∙ ap (λ v. begun_by (socket_of n v.items)) c.loop.invariant.rest.1)
    ∙ ap (λ o. room_behind r o s) c.in-Some.ensures.next in
    let was = c.loop.invariant.ones room in
    let ok = c.push.ensures.succeeds (omega (arith, room, was.0, was.1, c.loop-test.true)) in
    pushed c.push.result _ _ n ok c.push.ensures.items
    ∙ sym (ones_end s 8 (i + 1) _ (after_next lane) _ _ c.if-room-eq0.true
    (ones_step s 8 i r _ n lane _ _ c.loop-test.true c.loop.invariant.some (sym c.in-Some.ensures.next) left was.2))

pub returns-after-loop-clause-taken : goal.returns-after-loop-clause-taken
returns-after-loop-clause-taken g c = λ room.
    sym (ones_done c.args.self.now.sockets.items 8 c.loop.counter c.loop.room c.loop.self.lanes.long _ _ (omega (arith, c.loop-test.false))
    (c.loop.invariant.ones room).2)
