use Rattle.std.proofs.Common.{◌≡◌, ◌∙◌, ap, if◌then◌else◌, Bool}
use Rattle.kb_groups.specs.declared.state.State.{State}
use Rattle.kb_groups.specs.Members.{put}
use Rattle.kb_groups.specs.Calls.{entered}
use Rattle.kb_groups.specs.Rebalance.{Step, opened, opened_unless}
use Rattle.kb_groups.proofs.Settled.{entry_group}
use Rattle.kb_groups.proofs.state.State.accept.Goals as goal
use Rattle.kb_groups.proofs.state.State.accept.Goals.{then-not-is_joining, else-not-is_joining}

pub returns-clause-group : goal.returns-clause-group
returns-clause-group c =
    let s : Step = entered c.args.clock c.args.request.now c.args.self.now in
    let typed = c.in_ok-protocol_type.ensures ∙ c.as_bytes.ensures.value ∙ c.as_str.ensures in
    let members = c.in_ok-replaced.ensures.members ∙ (λ k. put (c.number-number.ensures k) (c.in_ok-member.ensures k) c.args.self.now.members) in
    let g : State = record c.args.self.now { protocol_type = c.in_ok-protocol_type.protocol_type; members = c.put.new.self } in
    let enters : g ≡ s.group = λ k. record c.args.self.now { protocol_type = typed k; members = members k } in
    let x : c.if-not-is_joining.self ≡ (opened_unless c.args.clock c.args.self.now.phase s).group = elim c.if-not-is_joining.branch [
      | then-not-is_joining w ↦ w.self-is ∙ w.open_joining.ensures s.released ∙ ap (λ (y : State). (opened c.args.clock (record { group = y; released = s.released })).group) enters ∙ ap (λ (b : Bool). (if b then s else opened c.args.clock s).group) w.if-not-is_joining.ensures
      | else-not-is_joining w ↦ w.self-is ∙ enters ∙ ap (λ (b : Bool). (if b then s else opened c.args.clock s).group) w.if-not-is_joining.ensures
    ] in
    entry_group c.args.clock s c.args.self.now.phase _ _ c.settle.ensures x
