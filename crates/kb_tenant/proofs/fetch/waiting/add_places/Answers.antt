use Rattle.std.proofs.Common.{ap, ◌∙◌}
use Rattle.kb_tenant.proofs.Fetching.{get_or_any}
use Rattle.kb_tenant.proofs.Waiting.{place_added, none_added}
use Rattle.kb_tenant.proofs.fetch.waiting.add_places.Goals as goal
use Rattle.kb_tenant.proofs.fetch.waiting.add_places.Goals.{in-Some+in_ok-push, in_default}

pub loop-entry-preserved : goal.loop-entry-preserved
loop-entry-preserved c =
    let i = c.loop-entry.entry-index in
    let lt = c.loop-entry-test.true in
    elim c.match-place_of.branch [
      | in-Some+in_ok-push w ↦ ap (λ v. v.items) w.places-is ∙ place_added c.args.topic c.args.entries.now i _ w.in-Some.place c.args.places.now.items c.loop-entry.places.items w.push.new.self.items lt (get_or_any c.args.entries.now i _ _ lt) w.in-Some.ensures c.loop-entry.invariant w.in_ok-push.ensures.items
      | in_default w ↦ ap (λ v. v.items) w.places-is ∙ none_added c.args.topic c.args.entries.now i _ c.args.places.now.items c.loop-entry.places.items lt (get_or_any c.args.entries.now i _ _ lt) w.in_default.ensures c.loop-entry.invariant
    ]
