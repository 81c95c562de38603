use Rattle.std.proofs.Common.{◌∷◌, subst, map, IsPermutation, heap_items, ℕ}
use Rattle.std.specs.Bool.{OnTrue}
use Rattle.std.specs.declared.cmp.Reverse.{Reverse}
use Rattle.kb_broker.specs.Able.{Numbers}
use Rattle.kb_broker.proofs.Least.{one-more}
use Rattle.kb_broker.proofs.able.Able.put.Goals as goal

pub returns-then-len-capacity-clause-put : goal.returns-then-len-capacity-clause-put
returns-then-len-capacity-clause-put c =
    subst (λ (a : Numbers). OnTrue c.is_ok.result (IsPermutation (c.args.number ∷ a.items) (map (λ (r : Reverse ℕ). r.0) (heap_items c.push.new.self)))) c.self.view_is
    (one-more c.push.result c.is_ok.result (record { 0 = c.args.number }) (heap_items c.self.inside.numbers) (heap_items c.push.new.self) c.is_ok.ensures.value c.push.ensures.permutation)
