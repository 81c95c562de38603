use Rattle.std.proofs.Common.{◌≡◌, ℕ, ◌+◌, ◌<◌, List, [], ◌++◌, length, take, get_or, sym, ap, ◌∙◌}
use Rattle.std.specs.Prelude.{◌||◌}
use Rattle.std.specs.List.{list_any}
use Rattle.std.proofs.lemmas.List.{append-nil}
use Rattle.std.proofs.lemmas.List.Folds.{list_any-append, list_any_more}
use Rattle.kb_waits.specs.Waiters.{has, set_has, AreWaiting}
use Rattle.kb_waits.specs.declared.key.WaitKey.{WaitKey}
use Rattle.kb_waits.specs.declared.waiters.Waiters.{Waiters}
use Rattle.kb_waits.proofs.Queues.{tied}
use Rattle.kb_waits.proofs.gather.collect.Goals as goal
use Rattle.kb_waits.proofs.gather.collect.Goals.{in-Some+in_ok-reserve, in_default}

-- one more key, and those who wait for it
more : (w : Waiters) (keys : List WaitKey) (i : ℕ) (key : WaitKey) (found ys after : List ℕ) → i < length keys → key ≡ get_or keys i key → AreWaiting w (take i keys) found → ((n : ℕ) → list_any (tied n) ys ≡ has w key n) → after ≡ found ++ ys → AreWaiting w (take (i + 1) keys) after
more w keys i key found ys after l at so one is = λ n.
    ap (list_any (tied n)) is
    ∙ list_any-append (tied n) found ys
    ∙ ap (λ b. b || list_any (tied n) ys) (so n)
    ∙ ap (λ b. list_any (λ k. has w k n) (take i keys) || b) (one n ∙ ap (λ k. has w k n) at)
    ∙ sym (list_any_more (λ k. has w k n) keys i key l)

pub loop-key-preserved : goal.loop-key-preserved
loop-key-preserved c = elim c.match-get.branch [
  | in-Some+in_ok-reserve w ↦
      more c.args.waiters.now c.args.keys.now c.loop-key.key-index c.key-item.result c.loop-key.found.items w.in-Some.set.now.keys c.match-get.found.items c.loop-key-test.true c.key-item.is c.loop-key.invariant
      (λ n. ap (set_has n) w.in-Some.ensures.value)
      (ap (λ v. v.items) w.found-is ∙ w.push_all.ensures.pushed ∙ ap (λ xs. xs ++ w.in-Some.set.now.keys) w.reserve.ensures.items)
  | in_default w ↦
      more c.args.waiters.now c.args.keys.now c.loop-key.key-index c.key-item.result c.loop-key.found.items [] c.match-get.found.items c.loop-key-test.true c.key-item.is c.loop-key.invariant
      (λ n. ap (set_has n) w.in_default.ensures.value)
      (ap (λ v. v.items) w.found-is ∙ sym (append-nil c.loop-key.found.items))
]
