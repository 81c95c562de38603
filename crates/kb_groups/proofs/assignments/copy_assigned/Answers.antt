use Rattle.std.proofs.Common.{◌≡◌, ◌∙◌, sym, bytes_eq, IfOk, List, ℕ, subst}
use Rattle.kb_groups.proofs.Steps.{assigned_stop, assigned_go, assigned_end}
use Rattle.kb_groups.proofs.assignments.copy_assigned.Goals as goal

pub returns-then-eq : goal.returns-then-eq
returns-then-eq c =
    let same = c.if-eq.ensures ∙ (λ k. bytes_eq ((c.as_bytes.ensures.value ∙ c.as_str.ensures) k) ((c.as_slice.ensures ∙ c.in_ok-id.ensures) k)) in
    let e = assigned_stop c.args.number c.loop-entry.entry-index c.args.assignments.now c.entry-item.result _ c.loop-entry.invariant c.loop-entry-test.true c.entry-item.is (sym same) in
    subst (λ (x : List ℕ). IfOk c.copy_of.result (λ b. b ≡ x)) (c.as_slice-then-eq.ensures ∙ e) c.copy_of.ensures

pub loop-entry-preserved : goal.loop-entry-preserved
loop-entry-preserved c =
    let differ = c.if-eq.ensures ∙ (λ k. bytes_eq ((c.as_bytes.ensures.value ∙ c.as_str.ensures) k) ((c.as_slice.ensures ∙ c.in_ok-id.ensures) k)) in
    assigned_go c.args.number c.loop-entry.entry-index c.args.assignments.now c.entry-item.result _ c.loop-entry.invariant c.loop-entry-test.true c.entry-item.is (sym differ)

pub returns : goal.returns
returns c = c.new.ensures ∙ assigned_end c.args.number c.loop-entry.entry-index c.args.assignments.now _ c.loop-entry.invariant c.loop-entry-test.false
