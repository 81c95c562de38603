use Rattle.std.proofs.Common.{◌≡◌, [], ◌++◌, length, sym, ap, ◌∙◌, subst, refl, arith}
use Rattle.std.specs.FinMap as map
use Rattle.std.specs.Map.{keys_of}
use Rattle.std.specs.Ordering.{nat_cmp}
use Rattle.std.proofs.lemmas.List.{append-nil}
use Rattle.std.proofs.lemmas.Map.Keys.{IsDistinct-from_sorted}
use Rattle.kb_waits.specs.Entries.{wait_at}
use Rattle.kb_waits.specs.Queue.{AreParked, IsAny}
use Rattle.kb_waits.proofs.Answered.{AreParked-all}
use Rattle.kb_waits.proofs.Queues.{len-queue_by}
use Rattle.kb_waits.proofs.entries.Entries.push_numbers.Goals as goal

pub loop-connection-init : goal.loop-connection-init
loop-connection-init c =
    let slots = c.self.inside.slots.entries in
    let gives = c.into_iter-connection-iterator.ensures.into_iter_gives in
    let many : length slots ≡ map.len c.args.self.now = sym (len-queue_by (wait_at c.self.inside.slab) slots (IsDistinct-from_sorted nat_cmp _ gives.5)) ∙ ap map.len c.self.view_is in
    let none : length c.args.out.now.items ≡ 0 = ap length c.requires.empty in
    let all : length c.into_iter-connection-iterator.result ≡ length slots = ap length gives.0 in
    record { pushed = refl; room = omega (arith, many, none, all, c.requires.room); capacity = refl }

pub returns-clause-pushed : goal.returns-clause-pushed
returns-clause-pushed c =
    let slots = c.self.inside.slots.entries in
    let gives = c.into_iter-connection-iterator.ensures.into_iter_gives in
    let none_left : c.loop-connection.connection-iterator ≡ [] = c.in-None.ensures.steps.0 in
    let all : keys_of slots ≡ c.loop-connection.out.items =
    sym (ap keys_of gives.0)
    ∙ sym (ap (λ xs. xs ++ keys_of c.into_iter-connection-iterator.result) c.requires.empty)
    ∙ sym c.loop-connection.invariant.pushed
    ∙ ap (λ ps. c.loop-connection.out.items ++ keys_of ps) none_left
    ∙ append-nil c.loop-connection.out.items in
    subst (λ xs. AreParked c.args.self.now IsAny xs) all
    (subst (λ q. AreParked q IsAny (keys_of slots)) c.self.view_is (AreParked-all c.self.inside.slab slots gives.5))
