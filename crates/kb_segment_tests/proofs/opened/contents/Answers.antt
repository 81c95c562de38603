use Rattle.std.proofs.Common.{sym, subst}
use Rattle.std.specs.Prelude.{IsSome}
use Rattle.std.specs.FinMap.{get}
use Rattle.std.proofs.lemmas.List.Elements.{All-rest, All-same, All-weaker}
use Rattle.kb_store.specs.Disk.{IsThere}
use Rattle.kb_segment_tests.proofs.Reopened.{all_listed}
use Rattle.kb_segment_tests.proofs.opened.contents.Goals as goal

pub loop-file-init : goal.loop-file-init
loop-file-init g c =
    let old = g.S.Store.disk c.args.store.now in
    let new = g.S.Store.disk c.list.new.self in
    let e = c.in_ok-files.ensures in
    All-same (λ n. IsThere new n) c.as_slice-rest.result.now c.in_ok-files.files.items c.as_slice-rest.ensures.value
    (all_listed old new c.in_ok-files.files.items e.numbers e.unchanged)

pub loop-file-preserved : goal.loop-file-preserved
loop-file-preserved g c =
    let old = g.S.Store.disk c.loop-file.store in
    let new = g.S.Store.disk c.read_file.new.store in
    let file = c.in-Some.file.now in
    let behind = c.in-Some.behind.now in
    All-weaker (λ n. IsThere old n) (λ n. IsThere new n) (λ n was. subst (λ t. IsSome (get t n)) (sym c.in_ok-bytes.ensures.unchanged.table) was) behind
    (All-rest (λ n. IsThere old n) file behind c.loop-file.rest.now c.in-Some.ensures.cases.0 c.loop-file.invariant)
