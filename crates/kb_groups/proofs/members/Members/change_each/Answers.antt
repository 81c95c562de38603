use Rattle.std.proofs.Common.{◌≡◌, sym, ◌∙◌, arith, refl, length}
use Rattle.kb_groups.proofs.Each.{front, front_step, front_end, length-set}
use Rattle.kb_groups.proofs.members.Members.change_each.Goals as goal

pub loop-i-init : goal.loop-i-init
unfolding front
loop-i-init g c = (refl, sym c.len-i-end.ensures.len)

pub loop-i-preserved : goal.loop-i-preserved
loop-i-preserved g c =
    let at = c.pair_mut-member.ensures.value in
    (rw c.apply.ensures (front_step _ _ _ _ _ _ c.loop-i.invariant.0 at), length-set _ _ _ ∙ c.loop-i.invariant.1)

pub returns : goal.returns
returns g c =
    let e : c.loop-i.i ≡ length c.self.inside.map.entries = omega (arith, c.loop-i-test.false, c.loop-i.auto.i-end, c.len-i-end.ensures.len) in
    rw (← c.self.view_is) (front_end _ _ _ _ c.loop-i.invariant.0 e)
