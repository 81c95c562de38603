use Rattle.std.proofs.Common.{arith, ap, ◌∙◌, ◌≡◌, ◌≤◌, max, w32, to_z, of_z}
use Rattle.std.proofs.lemmas.Int.{to_z-of_z}
use Rattle.kb_groups.specs.Bytes.{group_bytes, sync_within}
use Rattle.kb_groups.specs.Calls.{sync}
use Rattle.kb_groups.specs.Sizes.{counted}
use Rattle.kb_groups.proofs.Sizes.{within_step}
use Rattle.kb_groups.proofs.group.Group.sync_within.Goals as goal
use Rattle.kb_groups.proofs.group.Group.sync_within.Goals.{else-bytes-most-via-then-bytes-most+else-bytes-self, else-bytes-most-via-else-bytes-most}

pub returns-clause-answer : goal.returns-clause-answer
returns-clause-answer c =
    let less : c.bytes-bytes.result ≤ max c.args.most c.self.inside.bytes = elim c.else-bytes-most.branch [
      | else-bytes-most-via-then-bytes-most+else-bytes-self w ↦ omega (arith, w.if-bytes-self.false)
      | else-bytes-most-via-else-bytes-most w ↦ omega (arith, w.if-bytes-most.false)
    ] in
    let here = c.self.invariant.2 ∙ ap (λ g. counted (group_bytes g)) c.self.view_is in
    let step = within_step c.args.most c.args.clock c.args.connection c.args.number _ c.args.generation c.args.assignments.now c.in_ok-next.next c.args.self.now c.sync.new.self c.bytes-bytes.result c.self.inside.bytes (c.in_ok-next.ensures ∙ c.self.view_is) (to_z-of_z w32 c.args.generation c.ranges.generation) c.in_ok-answer.ensures.group c.bytes-bytes.ensures here
    (omega (arith, c.requires.most)) (omega (arith, c.requires.there)) less in
    c.in_ok-answer.ensures.answer ∙ ap (λ s. s.0) step

pub returns-clause-released : goal.returns-clause-released
returns-clause-released c =
    let less : c.bytes-bytes.result ≤ max c.args.most c.self.inside.bytes = elim c.else-bytes-most.branch [
      | else-bytes-most-via-then-bytes-most+else-bytes-self w ↦ omega (arith, w.if-bytes-self.false)
      | else-bytes-most-via-else-bytes-most w ↦ omega (arith, w.if-bytes-most.false)
    ] in
    let here = c.self.invariant.2 ∙ ap (λ g. counted (group_bytes g)) c.self.view_is in
    let step = within_step c.args.most c.args.clock c.args.connection c.args.number _ c.args.generation c.args.assignments.now c.in_ok-next.next c.args.self.now c.sync.new.self c.bytes-bytes.result c.self.inside.bytes (c.in_ok-next.ensures ∙ c.self.view_is) (to_z-of_z w32 c.args.generation c.ranges.generation) c.in_ok-answer.ensures.group c.bytes-bytes.ensures here
    (omega (arith, c.requires.most)) (omega (arith, c.requires.there)) less in
    c.in_ok-answer.ensures.released ∙ ap (λ s. s.1.released) step

pub returns-clause-group : goal.returns-clause-group
returns-clause-group c =
    let less : c.bytes-bytes.result ≤ max c.args.most c.self.inside.bytes = elim c.else-bytes-most.branch [
      | else-bytes-most-via-then-bytes-most+else-bytes-self w ↦ omega (arith, w.if-bytes-self.false)
      | else-bytes-most-via-else-bytes-most w ↦ omega (arith, w.if-bytes-most.false)
    ] in
    let here = c.self.invariant.2 ∙ ap (λ g. counted (group_bytes g)) c.self.view_is in
    let step = within_step c.args.most c.args.clock c.args.connection c.args.number _ c.args.generation c.args.assignments.now c.in_ok-next.next c.args.self.now c.sync.new.self c.bytes-bytes.result c.self.inside.bytes (c.in_ok-next.ensures ∙ c.self.view_is) (to_z-of_z w32 c.args.generation c.ranges.generation) c.in_ok-answer.ensures.group c.bytes-bytes.ensures here
    (omega (arith, c.requires.most)) (omega (arith, c.requires.there)) less in
    c.in_ok-answer.ensures.group ∙ ap (λ s. s.1.group) step
