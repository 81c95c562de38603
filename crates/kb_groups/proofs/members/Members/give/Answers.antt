use Rattle.std.proofs.Common.{◌≡◌, ◌<◌, ◌≢◌, ℕ, List, refl, sym, ap, ◌∙◌, arith, length, map, get_or-set_other}
use Rattle.kb_groups.specs.Members.{each}
use Rattle.kb_groups.specs.Calls.{assigned, given, handed}
use Rattle.kb_groups.proofs.Each.{front, front_step, front_end, length-set, gift_is}
use Rattle.kb_groups.proofs.members.Members.give.Goals as goal

pub loop-i-init : goal.loop-i-init
unfolding front
loop-i-init c =
    let same : length c.self.inside.map.entries ≡ length c.args.self.now = ap length c.self.view_is in
    (sym c.len-i-end.ensures.len, c.requires ∙ sym same ∙ sym c.len-i-end.ensures.len, λ as_ h. (refl, λ k le. refl))

pub loop-i-preserved : goal.loop-i-preserved
loop-i-preserved c = (
  length-set _ _ _ ∙ c.loop-i.invariant.0,
  c.loop-i.invariant.1,
  λ as_ h.
      let inv = c.loop-i.invariant.2 as_ h in
      let at = c.pair_mut-member.ensures.value in
      let within : c.loop-i.i < length c.loop-i.gifts.items = omega arith in
      let gift = gift_is (given c.args.clock as_ c.args.leader) (λ e. assigned as_ e.0) c.loop-i.i c.self.inside.map.entries c.loop-i.self-inside.map.entries c.args.gifts.items c.loop-i.gifts.items c.pair_mut-member.result.0.now c.pair_mut-member.result.1.now c.index_mut.result.now h inv.0 at (inv.1 c.loop-i.i (omega arith)) within c.index_mut.ensures.value in
      let handed_is = c.hand.ensures ∙ ap (λ (x : List ℕ). handed c.args.clock c.args.leader c.pair_mut-member.result.0.now x c.pair_mut-member.result.1.now) gift in
      (rw handed_is (front_step (given c.args.clock as_ c.args.leader) _ _ _ _ _ inv.0 at), λ k le. let ne : k ≢ c.loop-i.i = omega arith in rw get_or-set_other (inv.1 k (omega arith))),
)

pub returns : goal.returns
returns c = λ as_ h.
    let e : c.loop-i.i ≡ length c.self.inside.map.entries = omega (arith, c.loop-i-test.false, c.loop-i.auto.i-end, c.len-i-end.ensures.len) in
    let inv = c.loop-i.invariant.2 as_ (h ∙ ap (map (λ e. assigned as_ e.0)) (sym c.self.view_is)) in
    front_end (given c.args.clock as_ c.args.leader) c.loop-i.i c.self.inside.map.entries _ inv.0 e ∙ ap (each (given c.args.clock as_ c.args.leader)) c.self.view_is
