use Rattle.std.proofs.Common.{◌≡◌, ◌+◌, None, not, true, cond, sym, ap, ◌∙◌, subst, arith}
use Rattle.std.specs.Prelude.{◌&&◌, ◌||◌}
use Rattle.std.specs.BTreeSet.{btree_set_len}
use Rattle.std.specs.FinMap as fin
use Rattle.kb_waits.specs.Waiters.{has, is_one_of}
use Rattle.kb_waits.specs.Waits.{IsIndexed}
use Rattle.kb_waits.specs.declared.entry.Entry.{Entry}
use Rattle.kb_waits.proofs.Indexed.{IsIndexed-put, IsIndexed-same, has-undone, dated-undone, dated-put, longer-put}
use Rattle.kb_waits.proofs.Queues.{get-insert_other}
use Rattle.kb_waits.proofs.waits.Waits.park.Goals as goal

pub invariant_of-self-in-Ok-insert : goal.invariant_of-self-in-Ok-insert
invariant_of-self-in-Ok-insert c =
    let free : fin.get c.self.inside.entries c.args.connection ≡ None = ap (λ q. fin.get q c.args.connection) c.self.view_is ∙ c.requires in
    subst (λ q. IsIndexed q c.insert.new.self c.add_all.new.self) (sym c.in-Ok-insert.ensures.inserted)
    (IsIndexed-put c.self.inside.entries c.self.inside.deadlines c.insert.new.self c.self.inside.waiters c.add_all.new.self c.args.connection (record { deadline = c.args.deadline; keys = c.args.keys.items })
    c.self.invariant free c.in-Ok.ensures.updates.0
    (longer-put c.self.inside.entries c.self.inside.deadlines c.insert.new.self c.self.inside.waiters c.args.connection c.args.deadline c.in-Ok.field-0 c.self.invariant free c.in-Ok.ensures.added c.in-Ok.ensures.len)
    (λ k n. c.in_ok-add_all.ensures.added k n ∙ ap (λ keys. is_one_of keys c.args.connection k n || has c.self.inside.waiters k n) c.deref.ensures.value))

pub returns-in-Ok-insert-clause-others : goal.returns-in-Ok-insert-clause-others
returns-in-Ok-insert-clause-others c = λ n h.
    ap (λ q. fin.get q n) c.in-Ok-insert.ensures.inserted
    ∙ get-insert_other c.self.inside.entries c.args.connection n (record { deadline = c.args.deadline; keys = c.args.keys.items }) h
    ∙ ap (λ q. fin.get q n) c.self.view_is

pub invariant_of-self-in-Err-insert : goal.invariant_of-self-in-Err-insert
invariant_of-self-in-Err-insert c =
    let free : fin.get c.self.inside.entries c.args.connection ≡ None = ap (λ q. fin.get q c.args.connection) c.self.view_is ∙ c.requires in
    let longer : btree_set_len c.insert.new.self ≡ btree_set_len c.self.inside.deadlines + 1 = longer-put c.self.inside.entries c.self.inside.deadlines c.insert.new.self c.self.inside.waiters c.args.connection c.args.deadline c.in-Ok.field-0 c.self.invariant free c.in-Ok.ensures.added c.in-Ok.ensures.len in
    let had : c.remove.result ≡ true = c.remove.ensures.test ∙ dated-put c.self.inside.deadlines c.insert.new.self c.args.connection c.args.deadline c.in-Ok.ensures.updates.0 in
    let shorter : btree_set_len c.remove.new.self + 1 ≡ btree_set_len c.insert.new.self = ap (λ b. btree_set_len c.remove.new.self + cond b 1 0) (sym had) ∙ c.remove.ensures.len in
    let given : c.deref-in-Err-insert.result.now ≡ c.args.keys.items = c.deref-in-Err-insert.ensures.value ∙ ap (λ (e : Entry). e.keys.items) c.in-Err-insert.ensures.given_back in
    subst (λ q. IsIndexed q c.remove.new.self c.remove_all-in-Err-insert.new.self) (sym c.in-Err-insert.ensures.refused)
    (IsIndexed-same c.self.inside.entries c.self.inside.deadlines c.remove.new.self c.self.inside.waiters c.remove_all-in-Err-insert.new.self c.self.invariant
    (dated-undone c.self.inside.entries c.self.inside.deadlines c.insert.new.self c.remove.new.self c.self.inside.waiters c.args.connection c.args.deadline c.self.invariant free c.in-Ok.ensures.updates.0 c.remove.ensures.updates.0)
    (omega (arith, longer, shorter))
    (has-undone c.self.inside.entries c.self.inside.deadlines c.self.inside.waiters c.add_all.new.self c.remove_all-in-Err-insert.new.self c.args.connection c.args.keys.items c.self.invariant free
    (λ k n. c.in_ok-add_all.ensures.added k n ∙ ap (λ keys. is_one_of keys c.args.connection k n || has c.self.inside.waiters k n) c.deref.ensures.value)
    (λ k n. c.remove_all-in-Err-insert.ensures k n ∙ ap (λ keys. not (is_one_of keys c.args.connection k n) && has c.add_all.new.self k n) given)))
