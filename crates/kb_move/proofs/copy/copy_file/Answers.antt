use Rattle.std.proofs.Common.{◌≡◌, ◌≤◌, ◌∙◌, [], length, take, drop, length-take, ap, arith, rules}
use Rattle.std.specs.Prelude.{unwrap_or}
use Rattle.std.specs.FinMap.{get}
use Rattle.kb_store.specs.Disk.{Files, bytes_of}
use Rattle.kb_move.proofs.Copies.{kept_then}
use Rattle.kb_move.proofs.Disks.{alone_then, appended_alone, appended_some_alone, appended_there, created_alone, created_there, may_create_alone, read_part, written_more}
use Rattle.kb_move.proofs.copy.copy_file.Goals as goal

pub returns-in_err-create-clause-others : goal.returns-in_err-create-clause-others
returns-in_err-create-clause-others g c = may_create_alone c.args.number _ _ c.in_err-create.ensures.refused

pub returns-in_err-len-clause-others : goal.returns-in_err-len-clause-others
returns-in_err-len-clause-others g c = created_alone c.args.number _ _ c.in_ok-create.ensures.created

pub loop-at-init : goal.loop-at-init
loop-at-init g c =
    let made = c.in_ok-create.ensures.created in
    record {
      kept = c.len.ensures.unchanged;
      there = created_there c.args.number _ _ made;
      alone = created_alone c.args.number _ _ made;
      whole = search rules;
      within = search rules;
      room = search rules;
      some = search rules;
      copied = λ h k. made.files k;
    }

pub returns-in_err-append-clause-others : goal.returns-in_err-append-clause-others
returns-in_err-append-clause-others g c =
    alone_then c.args.number _ _ _ c.loop-at.invariant.alone (appended_some_alone c.args.number _ _ _ c.in_err-append.ensures.refused)

pub loop-at-preserved : goal.loop-at-preserved
loop-at-preserved g c =
    let i = c.loop-at.invariant in
    let read = c.in_ok-read_at.ensures in
    let more = c.in_ok-append.ensures.appended in
    let had = g.F.Store.disk c.args.from.now in
    let mid = g.F.Store.disk c.loop-at.from in
    let old = g.T.Store.disk c.args.to.now in
    let now = g.T.Store.disk c.loop-at.to in
    let new = g.T.Store.disk c.append.new.self in
    let n = c.args.number in
    let at = c.loop-at.at in
    let count = c.min-count.result in
    let buffer = c.loop-at.buffer in
    let s = bytes_of had c.args.file in
    let nb = c.read_at.new.buffer in
    let fits : count ≤ length buffer = search rules in
    let asked : length (take count buffer) ≡ count = length-take count buffer ∙ omega (arith, fits) in
    let got : length nb ≡ count = search rules in
    record {
      kept = kept_then had mid _ i.kept read.unchanged;
      there = appended_there n _ now new more;
      alone = alone_then n old now new i.alone (appended_alone n _ now new more);
      whole = i.whole;
      within = search rules;
      room = search rules;
      some = search rules;
      copied = λ h k.
          let before = read.unchanged.honest h in
          let is : nb ≡ take (length (take count buffer)) (drop at s) = read.bytes h ∙ ap (λ (f : Files). take (length (take count buffer)) (drop at (unwrap_or (get f c.args.file) []))) (i.kept.files before) in
          written_more old now new n at count s _ (i.copied before (more.honest k)) (read_part s nb (drop count buffer) at count (length (take count buffer)) asked got is) (more.files k);
    }
