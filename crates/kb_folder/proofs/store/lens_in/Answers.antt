use Rattle.std.proofs.Common.{◌≡◌, ◌∙◌, ◌<◌, length, ap, sym, subst, refl, rules, arith, ◌+◌, []}
use Rattle.std.specs.Prelude.{unwrap_or}
use Rattle.std.specs.List.{slice_index_or}
use Rattle.std.specs.FinMap.{get}
use Rattle.std.specs.Prelude.{IsSome}
use Rattle.kb_store.specs.Disk.{Table, Files}
use Rattle.kb_folder.specs.Store.{table_of}
use Rattle.kb_folder.proofs.Listing.{Lists, lists_none, lists_next, is_there, of_length}
use Rattle.kb_folder.proofs.Lens.{table_put, empty_table}
use Rattle.kb_store.specs.Loss.{Same}
use Rattle.kb_store.specs.LossLaws.{stays_goes}
use Rattle.kb_folder.proofs.Goes.{goes_same}
use Rattle.kb_folder.proofs.store.lens_in.Goals as goal

pub len-requires : goal.len-requires
len-requires g c = λ h.
    let i = c.loop-number.invariant in
    let n = slice_index_or c.args.numbers.now c.loop-number.number-index 0 in
    subst (λ (files : Files). IsSome (get files n)) (sym (i.files h)) (is_there c.args.numbers.now (g.F.Folder.contents c.args.folder.now).files c.loop-number.number-index (c.requires (i.honest h)) (omega (arith, c.loop-number-test.true)))

pub loop-number-init : goal.loop-number-init
loop-number-init g c = record {
  honest = λ h. h;
  files = λ h. refl;
  lists = λ h. lists_none c.args.numbers.now (g.F.Folder.contents c.args.folder.now).files (table_of c.new-lens.result.entries) (empty_table c.new-lens.result.entries c.new-lens.ensures.empty);
  same = stays_goes Same (λ x. refl) (g.F.Folder.loss c.args.folder.now);
}

pub loop-number-preserved : goal.loop-number-preserved
loop-number-preserved g c =
    let i = c.loop-number.invariant in
    let t = c.in_ok-len.ensures.unchanged in
    let had = g.F.Folder.contents c.args.folder.now in
    let numbers = c.args.numbers.now in
    let n = slice_index_or numbers c.loop-number.number-index 0 in
    let len = c.in_ok-len.len in
    let small : len < 18446744073709551616 = search rules in
    let table = table_put had had c.loop-number.lens.entries c.insert.new.self.entries n len len c.in_ok-insert.ensures.updates.0 small refl in
    record {
      honest = λ h. i.honest (t.honest h);
      files = λ h. t.files h ∙ i.files (t.honest h);
      lists = λ h.
          let before = t.honest h in
          let is : len ≡ length (unwrap_or (get had.files n) []) = c.in_ok-len.ensures.len h ∙ ap (λ (files : Files). length (unwrap_or (get files n) [])) (i.files before) in
          subst (λ (x : Table). Lists numbers (c.loop-number.number-index + 1) had.files x) (sym table) (lists_next numbers c.loop-number.number-index len had.files (table_of c.loop-number.lens.entries) (i.lists before) (of_length (get had.files n) len (is_there numbers had.files c.loop-number.number-index (c.requires (i.honest before)) (omega (arith, c.loop-number-test.true))) is));
      same = goes_same (g.F.Folder.loss c.args.folder.now) (g.F.Folder.loss c.loop-number.folder) (g.F.Folder.loss c.len.new.self) i.same c.len.ensures.loss;
    }

pub returns-in_err-len-clause-loss : goal.returns-in_err-len-clause-loss
returns-in_err-len-clause-loss g c = goes_same (g.F.Folder.loss c.args.folder.now) (g.F.Folder.loss c.loop-number.folder) (g.F.Folder.loss c.len.new.self) c.loop-number.invariant.same c.len.ensures.loss

pub returns-in_err-insert-clause-loss : goal.returns-in_err-insert-clause-loss
returns-in_err-insert-clause-loss g c = goes_same (g.F.Folder.loss c.args.folder.now) (g.F.Folder.loss c.loop-number.folder) (g.F.Folder.loss c.len.new.self) c.loop-number.invariant.same c.len.ensures.loss

pub returns-clause-loss : goal.returns-clause-loss
returns-clause-loss g c = c.loop-number.invariant.same
