use Rattle.std.proofs.Common.{◌≡◌, sym, ap, ◌∙◌, Some, cond, false, length, refl}
use Rattle.std.specs.Prelude.{is_some}
use Rattle.kb_waits.specs.Waiters.{set_has}
use Rattle.kb_waits.proofs.Keys.{same_key-itself}
use Rattle.kb_waits.proofs.Queues.{tied}
use Rattle.kb_waits.proofs.Waiting.{has-take, has-drop, has-absent, no_member, Sets, set_at, Sets_at}
use Rattle.kb_waits.proofs.waiters.Waiters.remove.Goals as goal

pub returns-in_default : goal.returns-in_default
returns-in_default c = λ k n.
    ap (λ (m : Sets). set_has n (set_at m k)) c.get_mut.follows.holds-at-none
    ∙ has-absent c.args.self.now.sets c.args.key.now c.args.connection (λ x. ap (set_has x) (sym c.in_default.ensures.value)) k n

pub returns-else-is_empty : goal.returns-else-is_empty
returns-else-is_empty c =
    let puts : Sets_at c.args.key.now (Some c.remove.new.self) c.args.self.now.sets (c.get_mut.follows.lender c.remove.new.self) = ((c.get_mut.follows.holds c.remove.new.self).3 (ap is_some (sym c.in-Some.ensures.value))).0 in
    has-take c.args.self.now.sets (c.get_mut.follows.lender c.remove.new.self) c.args.key.now c.args.connection c.remove.new.self puts
    (λ n. c.remove.ensures.updates.0 n ∙ ap (λ o. cond (tied c.args.connection n) false (set_has n o)) c.in-Some.ensures.value)

pub returns-then-is_empty : goal.returns-then-is_empty
returns-then-is_empty c = λ k n.
    let puts : Sets_at c.args.key.now (Some c.remove.new.self) c.args.self.now.sets (c.get_mut.follows.lender c.remove.new.self) = ((c.get_mut.follows.holds c.remove.new.self).3 (ap is_some (sym c.in-Some.ensures.value))).0 in
    let none : length c.remove.new.self.keys ≡ 0 = c.if-is_empty.ensures.0 refl in
    let at : set_at (c.get_mut.follows.lender c.remove.new.self) c.args.key.now ≡ Some c.remove.new.self = puts c.args.key.now ∙ ap (λ b. cond b (Some c.remove.new.self) (set_at c.args.self.now.sets c.args.key.now)) (same_key-itself c.args.key.now) in
    has-drop (c.get_mut.follows.lender c.remove.new.self) c.remove-then-is_empty.new.self c.args.key.now c.remove-then-is_empty.ensures.updates.0 (λ x. ap (set_has x) at ∙ no_member c.remove.new.self none x) k n
    ∙ has-take c.args.self.now.sets (c.get_mut.follows.lender c.remove.new.self) c.args.key.now c.args.connection c.remove.new.self puts
    (λ n. c.remove.ensures.updates.0 n ∙ ap (λ o. cond (tied c.args.connection n) false (set_has n o)) c.in-Some.ensures.value) k n
