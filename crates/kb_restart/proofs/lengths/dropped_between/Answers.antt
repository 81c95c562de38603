use Rattle.std.proofs.Common.{◌≡◌, ◌∙◌, ◌++◌, [], Vec, Global, sym, ap}
use Rattle.std.proofs.lemmas.List.{append-nil}
use Rattle.std.specs.List.{cons_option}
use Rattle.kb_restart.specs.Lengths.{drop_of}
use Rattle.kb_restart.specs.declared.lengths.Dropped.{Dropped}
use Rattle.kb_restart.proofs.Drops.{next_told, next_before, next_after}
use Rattle.kb_restart.proofs.lengths.dropped_between.Goals as goal
use Rattle.kb_restart.proofs.lengths.dropped_between.Goals.{in-Some+in_ok-push, in_default}

pub loop-file-preserved : goal.loop-file-preserved
loop-file-preserved c =
    let rest = c.loop-file.rest.now in
    let more : c.match-drop_of.found.items ≡ c.loop-file.found.items ++ cons_option c.drop_of.result [] = elim c.match-drop_of.branch [
      | in-Some+in_ok-push w ↦ ap (λ (v : Vec Dropped Global). v.items) w.found-is ∙ w.in_ok-push.ensures.items ∙ ap (λ o. c.loop-file.found.items ++ cons_option o []) (sym w.in-Some.is)
      | in_default w ↦ ap (λ (v : Vec Dropped Global). v.items) w.found-is ∙ sym (append-nil c.loop-file.found.items) ∙ ap (λ o. c.loop-file.found.items ++ cons_option o []) (sym w.in_default.is)
    ] in
    record {
      told = next_told c.args.before.now rest c.from_file-rest.result.now c.loop-file.file-index _ c.loop-file-test.true c.loop-file.invariant.before c.loop-file.invariant.after c.from_file-rest.ensures c.loop-file.found.items c.match-drop_of.found.items _ c.drop_of.result (c.drop_of.ensures ∙ ap (drop_of _) c.length_at.ensures) more c.loop-file.invariant.told;
      before = next_before c.args.before.now rest c.from_file-rest.result.now c.loop-file.file-index _ c.loop-file-test.true c.loop-file.invariant.before c.loop-file.invariant.after c.from_file-rest.ensures;
      after = next_after c.args.before.now rest c.from_file-rest.result.now c.loop-file.file-index _ c.loop-file-test.true c.loop-file.invariant.before c.loop-file.invariant.after c.from_file-rest.ensures;
    }
