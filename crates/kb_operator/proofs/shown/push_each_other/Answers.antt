use Rattle.std.proofs.Common.{◌≡◌, ◌∙◌, ◌++◌, ap}
use Rattle.kb_settings.specs.Limits.{standard_data, standard_groups}
use Rattle.kb_settings.specs.declared.tenant_limits.ConnectionLimits.{ConnectionLimits}
use Rattle.kb_operator.specs.Shown.{numbers_part, others_part}
use Rattle.kb_operator.proofs.Pushed.{piece, whole_line_ok}
use Rattle.kb_operator.proofs.shown.push_each_other.Goals as goal

pub returns : goal.returns
returns c =
    let t = c.args.text.now.items in
    let a = c.push_others_part.new.text.items in
    let b = c.push_numbers.new.text.items in
    let n = c.numbers_of_others.result in
    let most : ConnectionLimits = record { most = c.args.settings.now.connections; reserved = 0 } in
    let numbers = numbers_part most standard_groups standard_data in
    let each : b ≡ a ++ numbers = c.in_ok-push_numbers.ensures
    ∙ ap (λ k. a ++ numbers_part k n.groups n.data) c.numbers_of_others.ensures.standard.0
    ∙ ap (λ k. a ++ numbers_part most k n.data) c.numbers_of_others.ensures.standard.1
    ∙ ap (λ k. a ++ numbers_part most standard_groups k) c.numbers_of_others.ensures.standard.2 in
    whole_line_ok c.push_line.result t b c.push_line.new.text.items (others_part c.args.count ++ numbers)
    (piece t a b (others_part c.args.count) numbers c.in_ok-push_others_part.ensures each) c.push_line.ensures
