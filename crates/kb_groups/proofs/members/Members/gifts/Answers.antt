use Rattle.std.proofs.Common.{◌++◌, ◌∷◌, [], arith, sym, ◌∙◌, ap, true≢false}
use Rattle.kb_groups.specs.Calls.{assigned}
use Rattle.kb_groups.proofs.Steps.{map_go, map_end}
use Rattle.kb_groups.proofs.members.Members.gifts.Goals as goal
use Rattle.kb_groups.proofs.members.Members.gifts.Goals.{in-Some+in_ok-gift+in_ok-from_bytes+in_ok-push, in_default}

pub loop-i-preserved : goal.loop-i-preserved
loop-i-preserved c = elim c.match-get_index.branch [
  | in-Some+in_ok-gift+in_ok-from_bytes+in_ok-push w ↦ map_go (λ e. assigned c.args.assignments.now e.0) c.loop-i.i c.self.inside.map.entries _ c.loop-i.gifts.items c.match-get_index.gifts.items _ c.loop-i.invariant (sym w.in-Some.ensures.entry) (ap (λ v. v.items) w.gifts-is ∙ w.in_ok-push.ensures.items ∙ (λ k. c.loop-i.gifts.items ++ (w.in_ok-from_bytes.ensures ∙ w.in_ok-gift.ensures) k ∷ []))
  | in_default w ↦ absurd (true≢false (sym (w.in_default.ensures.found.1 (omega (arith, c.loop-i-test.true, c.len-i-end.ensures.len)))))
]

pub returns : goal.returns
returns c = rw (← c.self.view_is) (map_end (λ e. assigned c.args.assignments.now e.0) c.loop-i.i c.self.inside.map.entries c.loop-i.gifts.items _ c.loop-i.invariant (omega (arith, c.loop-i-test.false, c.len-i-end.ensures.len)))
