use Rattle.std.proofs.Common.{◌∙◌, ◌-◌, ◌++◌, sym, ap, arith, subst}
use Rattle.std.specs.List.{flat_map}
use Rattle.std.proofs.lemmas.List.{append-nil}
use Rattle.std.proofs.lemmas.List.Elements.{All-set}
use Rattle.kb_coordinator.specs.Groups.{AreInOrder}
use Rattle.kb_coordinator.proofs.Order.{tick_in_order}
use Rattle.kb_coordinator.proofs.Places.{last_reply, more_ordered, no_releases}
use Rattle.kb_coordinator.proofs.Ticking.{quiet_entry}
use Rattle.kb_coordinator.proofs.moment.tick_one.Goals as goal

pub returns-then-clock-quiet_until-clause-entry : goal.returns-then-clock-quiet_until-clause-entry
returns-then-clock-quiet_until-clause-entry c =
    sym (quiet_entry c.args.clock c.args.entry.now (omega (arith, c.if-clock-quiet_until.true, c.quiet_until.ensures))).0

pub returns-then-clock-quiet_until-clause-released : goal.returns-then-clock-quiet_until-clause-released
returns-then-clock-quiet_until-clause-released c =
    let said = flat_map (λ v. v.items) c.args.released.now.items in
    sym (ap (λ l. said ++ l) (quiet_entry c.args.clock c.args.entry.now (omega (arith, c.if-clock-quiet_until.true, c.quiet_until.ensures))).1 ∙ append-nil said)

pub returns-clause-released : goal.returns-clause-released
returns-clause-released c =
    last_reply (λ v. v.items) c.push.new.self.items c.args.released.now.items c.new.result c.in_ok-replies.replies (c.len-last.result - 1) c.in_ok-push.ensures.items (omega (arith, c.len-last.ensures, c.push.new.self.ok))
    ∙ ap (λ l. flat_map (λ v. v.items) c.args.released.now.items ++ l) c.in_ok-replies.ensures.released

pub returns-in_err-replies-clause-order : goal.returns-in_err-replies-clause-order
returns-in_err-replies-clause-order c =
    more_ordered (λ v. AreInOrder v.items) c.push.new.self.items c.args.released.now.items c.new.result c.in_ok-push.ensures.items c.requires.order (no_releases _ c.new.ensures.items)

pub returns-clause-order : goal.returns-clause-order
returns-clause-order c =
    All-set (λ v. AreInOrder v.items) c.push.new.self.items (c.len-last.result - 1) c.in_ok-replies.replies
    (subst AreInOrder (sym c.in_ok-replies.ensures.released) (tick_in_order c.args.clock c.args.entry.now.group))
    (more_ordered (λ v. AreInOrder v.items) c.push.new.self.items c.args.released.now.items c.new.result c.in_ok-push.ensures.items c.requires.order (no_releases _ c.new.ensures.items))
