use Rattle.std.proofs.Common.{sym, ap, ◌∙◌}
use Rattle.std.specs.BTreeMap.{is_at}
use Rattle.std.specs.FinMap as fin
use Rattle.std.specs.List.{list_any}
use Rattle.std.specs.Ordering.{nat_cmp}
use Rattle.kb_waits.specs.Due.{by_deadline}
use Rattle.kb_waits.specs.Queue.{Wait}
use Rattle.kb_waits.specs.Waits.{passes, ends_at, is_under}
use Rattle.kb_waits.proofs.waits.Waits.new.Goals as goal

pub invariant_of-result : goal.invariant_of-result
invariant_of-result c = record {
  dated = λ d n. ap (list_any (is_at (by_deadline (d, n)))) c.new-2.ensures.empty ∙ sym (ap (λ q. passes (ends_at d) (fin.get q n)) c.new.ensures ∙ ap (passes (ends_at d)) (fin.get-empty nat_cmp n));
  counted = c.new-2.ensures.len ∙ sym (ap fin.len c.new.ensures ∙ fin.len-empty nat_cmp Wait);
  keyed = λ k n. c.new-3.ensures k n ∙ sym (ap (λ q. passes (is_under k) (fin.get q n)) c.new.ensures ∙ ap (passes (is_under k)) (fin.get-empty nat_cmp n));
}
