use Rattle.std.proofs.Common.{◌∙◌, ℕ, List, map, get_or, sym, ap, subst, arith}
use Rattle.std.specs.Prelude.{IsPermutation}
use Rattle.std.proofs.lemmas.List.{take_all, take_more, get_or_default}
use Rattle.std.proofs.lemmas.List.Sorted.{IsPermutation-push_more}
use Rattle.kb_segment.specs.Header.{header_in}
use Rattle.kb_segment_log.specs.SegmentLog.{bytes_at}
use Rattle.kb_opening.specs.Owners.{owner_by}
use Rattle.kb_opening.specs.Directory.{all_files}
use Rattle.kb_opening.proofs.Owned.{AreOwned, owned_more, directory_of}
use Rattle.kb_opening.proofs.directory.Directory.read.Goals as goal

pub loop-file-preserved : goal.loop-file-preserved
loop-file-preserved g c =
    let i = c.loop-file.invariant in
    let had = g.S.Store.disk c.args.shelf.now.store in
    let e = c.in_ok-header.ensures in
    let k = e.unchanged in
    let names = map (λ name. name.now) c.args.names.now in
    let files = c.args.files.now in
    let at = c.loop-file.file-index in
    let file = get_or files at 0 in
    let old = c.loop-file.directory in
    let new = c.add.new.self in
    let lt = c.loop-file-test.true in
    let adds = c.in_ok-add.ensures in
    record {
      table = k.table ∙ i.table;
      honest = λ h. i.honest (k.honest h);
      files = λ h. k.files h ∙ i.files (k.honest h);
      later = omega (arith, e.cause.later, i.later);
      next = e.next ∙ i.next;
      all = subst (λ (ns : List ℕ). IsPermutation ns (all_files new)) (sym (take_more files at 0 lt)) (IsPermutation-push_more _ (all_files old) (all_files new) file i.all adds.all);
      owned = λ h.
          owned_more had.files names files at file old new (owner_by names c.in_ok-header.header) lt (get_or_default files at 0 file lt) (i.owned (k.honest h))
          (ap (owner_by names) (e.header h ∙ ap (λ fs. header_in (bytes_at fs file)) (i.files (k.honest h)))) adds;
    }

pub returns-clause-what : goal.returns-clause-what
returns-clause-what g c = λ h.
    let had = g.S.Store.disk c.args.shelf.now.store in
    let names = map (λ name. name.now) c.args.names.now in
    let files = c.args.files.now in
    let d = c.loop-file.directory in
    directory_of had.files names files d c.requires.rise
    (subst (λ (ns : List ℕ). AreOwned had.files names ns d) (take_all c.loop-file.file-index files c.loop-file-test.false) (c.loop-file.invariant.owned h))
