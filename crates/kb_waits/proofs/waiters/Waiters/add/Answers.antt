use Rattle.std.proofs.Common.{sym, ap, ◌∙◌, Some, cond, true, length}
use Rattle.std.specs.Prelude.{is_some}
use Rattle.std.specs.List.{list_any}
use Rattle.kb_waits.specs.Waiters.{same_key, set_has}
use Rattle.kb_waits.proofs.Queues.{tied}
use Rattle.kb_waits.proofs.Waiting.{has-put, has-same, no_member, set_at, Sets_at, on_err}
use Rattle.kb_waits.proofs.waiters.Waiters.add.Goals as goal

pub returns-in_err-insert-clause-refused : goal.returns-in_err-insert-clause-refused
returns-in_err-insert-clause-refused c =
    let puts : Sets_at c.args.key.now (Some c.insert.new.self) c.args.self.now.sets (c.get_mut.follows.lender c.insert.new.self) = ((c.get_mut.follows.holds c.insert.new.self).3 (ap is_some (sym c.in-Some.ensures.value))).0 in
    on_err _ (has-same c.args.self.now.sets (c.get_mut.follows.lender c.insert.new.self) c.args.key.now c.args.connection c.insert.new.self puts
    (λ n. ap (list_any (tied n)) c.in_err-insert.ensures.err ∙ ap (set_has n) c.in-Some.ensures.value))

pub returns-in-Some-clause-added : goal.returns-in-Some-clause-added
returns-in-Some-clause-added c =
    let puts : Sets_at c.args.key.now (Some c.insert.new.self) c.args.self.now.sets (c.get_mut.follows.lender c.insert.new.self) = ((c.get_mut.follows.holds c.insert.new.self).3 (ap is_some (sym c.in-Some.ensures.value))).0 in
    has-put c.args.self.now.sets (c.get_mut.follows.lender c.insert.new.self) c.args.key.now c.args.connection c.insert.new.self puts
    (λ n. c.in_ok-insert.ensures.updates.0 n ∙ ap (λ o. cond (tied c.args.connection n) true (set_has n o)) c.in-Some.ensures.value)

pub returns-clause-added : goal.returns-clause-added
returns-clause-added c =
    let puts : Sets_at c.args.key.now (Some c.insert-2.new.self) c.args.self.now.sets c.insert-3.new.self = λ q.
    c.in_ok-insert-3.ensures.updates.0 q
    ∙ ap (λ a. cond (same_key a q) (Some c.insert-2.new.self) (set_at c.get_mut.follows.lender-at-none q)) c.in_ok-clone.ensures.cases
    ∙ ap (λ m. cond (same_key c.args.key.now q) (Some c.insert-2.new.self) (set_at m q)) c.get_mut.follows.holds-at-none in
    has-put c.args.self.now.sets c.insert-3.new.self c.args.key.now c.args.connection c.insert-2.new.self puts
    (λ n. c.in_ok-insert-2.ensures.updates.0 n ∙ ap (cond (tied c.args.connection n) true) (no_member c.new-set.result (ap length c.new-set.ensures.empty) n ∙ ap (set_has n) c.in_default.ensures.value))
