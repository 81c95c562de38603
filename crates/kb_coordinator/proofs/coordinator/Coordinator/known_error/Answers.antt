use Rattle.std.proofs.Common.{◌≡◌, ◌<◌, ◌∙◌, ap, sym, subst, Some, slice_get, length}
use Rattle.std.proofs.lemmas.Option.{same_Some}
use Rattle.kb_groups.specs.Bytes.{group_bytes, is_past, joined_bytes}
use Rattle.kb_groups.specs.Calls as one
use Rattle.kb_coordinator.specs.declared.groups.Entry.{Entry}
use Rattle.kb_coordinator.specs.Groups.{Groups}
use Rattle.kb_coordinator.specs.Calls.{left_for, unless_refused}
use Rattle.kb_coordinator.proofs.Lists.{at_index}
use Rattle.kb_coordinator.proofs.Kept.{one_fits}
use Rattle.kb_coordinator.proofs.coordinator.Coordinator.known_error.Goals as goal

pub is_past_with-is_past-requires-clause-there : goal.is_past_with-is_past-requires-clause-there
is_past_with-is_past-requires-clause-there c =
    let es = c.self.inside.groups.items in
    let below : c.args.place < length es = subst (λ (gs : Groups). c.args.place < length gs.groups) (sym c.self.view_is) c.requires in
    one_fits c.self.inside.limits es c.args.place c.index.result.now c.self.inside.bytes c.self.invariant.3 (at_index es c.args.place c.index.result.now below c.index.ensures)

pub returns : goal.returns
returns c e at =
    let es = c.self.inside.groups.items in
    let below : c.args.place < length es = subst (λ (gs : Groups). c.args.place < length gs.groups) (sym c.self.view_is) c.requires in
    let there : slice_get es c.args.place ≡ Some c.index.result.now = at_index es c.args.place c.index.result.now below c.index.ensures in
    let same : c.index.result.now ≡ e = same_Some _ _ (sym there ∙ ap (λ (gs : Groups). slice_get gs.groups c.args.place) c.self.view_is ∙ at) in
    let left = c.room.ensures.value e at in
    let code = c.join_code-code.ensures ∙ ap (λ (y : Entry). one.join_code c.args.request.now y.group) same in
    let past = c.is_past_with-is_past.ensures ∙ (λ k. is_past (left k) (group_bytes (same k).group) (joined_bytes c.args.request.now (same k).group)) in
    c.error_unless.ensures ∙ (λ k. unless_refused (code k) (left_for (c.lacks_number.ensures k) (past k)))
