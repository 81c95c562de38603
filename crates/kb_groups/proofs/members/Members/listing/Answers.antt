use Rattle.std.proofs.Common.{arith, sym, ◌∙◌, ap, ◌++◌, ◌∷◌, [], true≢false}
use Rattle.kb_groups.proofs.Steps.{listing_go, listing_end}
use Rattle.kb_groups.proofs.members.Members.listing.Goals as goal
use Rattle.kb_groups.proofs.members.Members.listing.Goals.{in-Some+in_ok-metadata+in_ok-push, in_default}

pub loop-i-preserved : goal.loop-i-preserved
loop-i-preserved c = elim c.match-get_index.branch [
  | in-Some+in_ok-metadata+in_ok-push w ↦ listing_go c.loop-i.i c.self.inside.map.entries _ w.in-Some.member.now c.args.protocol.now c.loop-i.items.items c.match-get_index.items.items _ c.loop-i.invariant w.in-Some.ensures.entry (ap (λ v. v.items) w.items-is ∙ w.in_ok-push.ensures.items ∙ (λ j. c.loop-i.items.items ++ record { member = w.in-Some.number.now; metadata = w.in_ok-metadata.ensures j } ∷ []))
  | in_default w ↦ absurd (true≢false (sym (w.in_default.ensures.found.1 (omega (arith, c.loop-i-test.true, c.len-i-end.ensures.len)))))
]

pub returns : goal.returns
returns c = rw (← c.self.view_is) (listing_end c.loop-i.i c.self.inside.map.entries c.args.protocol.now c.loop-i.items.items _ c.loop-i.invariant (omega (arith, c.loop-i-test.false, c.len-i-end.ensures.len)))
