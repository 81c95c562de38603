use Rattle.std.proofs.Common.{◌∙◌, ℕ, Bor, List, map, length, sym, ap, subst, refl, arith}
use Rattle.std.specs.List.{zip, slice_get, Contains}
use Rattle.std.proofs.lemmas.Iterator.{YieldsList-from_slice, YieldsList-from_zip}
use Rattle.std.proofs.lemmas.Iterator.Adapters.{YieldsList-from_vec}
use Rattle.std.proofs.lemmas.Iterator.Consumers.{YieldsList-at, YieldsList-end, YieldsList-so_far, YieldsList-turn}
use Rattle.std.proofs.lemmas.Option.{slice_get_read}
use Rattle.std.proofs.lemmas.Simd.{map-map}
use Rattle.kb_log.specs.Shelf.{Shelved}
use Rattle.kb_segment_log.specs.SegmentLog.{segment_log}
use Rattle.kb_segment_log.specs.declared.log.SegmentLog.{SegmentLog}
use Rattle.kb_tenant_state.specs.Parts.{Agrees, IsSound}
use Rattle.kb_tenant_state.specs.declared.parts.Parts.{Parts}
use Rattle.kb_tenants.specs.Tenants.{restored_tenant, AreSettled, IsLeftAlone}
use Rattle.kb_restart.proofs.Hosting.{zip_second, front_second, zip_shown}
use Rattle.kb_restart.proofs.Seated.{own_name, all_seated}
use Rattle.kb_restart.proofs.opening.host.Goals as goal

pub restore-requires-clause-sound : goal.restore-requires-clause-sound
restore-requires-clause-sound g c =
    let names = c.args.names.now in
    let parts = c.args.parts.items in
    let p = c.in-Some.parts in
    let second = c.zip-name-items.ensures.second in
    let road = YieldsList-at c.into_iter-name-iterator.ensures.into_iter_gives
    (YieldsList-from_zip (YieldsList-at c.zip-name-items.ensures.first (YieldsList-from_slice names c.iter.ensures.rest)) (YieldsList-from_vec parts second.0 (second.1 ∙ c.args.parts.ok.0))) in
    let turn = YieldsList-turn road c.loop-name.yielded c.loop-name.name-iterator c.loop-name.yielded_by c.next.result c.next.new.self (c.in-Some.name, p) c.in-Some.is c.next.ensures.steps in
    let here = zip_second names parts (length c.loop-name.yielded) _ (slice_get_read (zip names parts) (length (zip names parts)) (length c.loop-name.yielded) _ refl turn.0 turn.1) in
    subst (λ (s : Shelved g.row.S.Denot). IsSound segment_log p (g.S.Store.disk s.store).table s.next) (sym c.loop-name.invariant.shelf) (c.requires.sound.each (length c.loop-name.yielded) p here)

pub restore-requires-clause-apart : goal.restore-requires-clause-apart
restore-requires-clause-apart g c = λ t q at file own mine.
    let names = c.args.names.now in
    let parts = c.args.parts.items in
    let p = c.in-Some.parts in
    let xs = c.loop-name.yielded in
    let second = c.zip-name-items.ensures.second in
    let road = YieldsList-at c.into_iter-name-iterator.ensures.into_iter_gives
    (YieldsList-from_zip (YieldsList-at c.zip-name-items.ensures.first (YieldsList-from_slice names c.iter.ensures.rest)) (YieldsList-from_vec parts second.0 (second.1 ∙ c.args.parts.ok.0))) in
    let turn = YieldsList-turn road xs c.loop-name.name-iterator c.loop-name.yielded_by c.next.result c.next.new.self (c.in-Some.name, p) c.in-Some.is c.next.ensures.steps in
    let here = zip_second names parts (length xs) _ (slice_get_read (zip names parts) (length (zip names parts)) (length xs) _ refl turn.0 turn.1) in
    let so_far = YieldsList-so_far road xs c.loop-name.name-iterator c.loop-name.yielded_by in
    let front = c.loop-name.invariant.parts ∙ sym (map-map (λ (e : Bor (List ℕ) × Parts SegmentLog). e.1) (λ e. (e.0.now, e.1)) xs) ∙ ap (map (λ (e : Bor (List ℕ) × Parts SegmentLog). e.1)) so_far in
    let there = front_second names parts (length xs) t q (ap (λ ps. slice_get ps t) (sym front) ∙ at) in
    c.requires.sound.apart t (length xs) q p there.1 here (λ e. let lt = there.0 in omega (arith, lt, e)) file own mine

pub restore-requires-clause-agrees : goal.restore-requires-clause-agrees
restore-requires-clause-agrees g c = λ honest.
    let names = c.args.names.now in
    let parts = c.args.parts.items in
    let p = c.in-Some.parts in
    let second = c.zip-name-items.ensures.second in
    let road = YieldsList-at c.into_iter-name-iterator.ensures.into_iter_gives
    (YieldsList-from_zip (YieldsList-at c.zip-name-items.ensures.first (YieldsList-from_slice names c.iter.ensures.rest)) (YieldsList-from_vec parts second.0 (second.1 ∙ c.args.parts.ok.0))) in
    let turn = YieldsList-turn road c.loop-name.yielded c.loop-name.name-iterator c.loop-name.yielded_by c.next.result c.next.new.self (c.in-Some.name, p) c.in-Some.is c.next.ensures.steps in
    let here = zip_second names parts (length c.loop-name.yielded) _ (slice_get_read (zip names parts) (length (zip names parts)) (length c.loop-name.yielded) _ refl turn.0 turn.1) in
    let same = c.loop-name.invariant.shelf in
    subst (λ (s : Shelved g.row.S.Denot). Agrees segment_log p (g.S.Store.disk s.store).files) (sym same)
    (c.requires.agree (subst (λ (s : Shelved g.row.S.Denot). (g.S.Store.disk s.store).honest) same honest) (length c.loop-name.yielded) p here)

pub returns-clause-hosted : goal.returns-clause-hosted
returns-clause-hosted g c =
    let names = c.args.names.now in
    let parts = c.args.parts.items in
    let files = (g.S.Store.disk c.args.shelf.store).files in
    let xs = c.loop-name.yielded in
    let second = c.zip-name-items.ensures.second in
    let road = YieldsList-at c.into_iter-name-iterator.ensures.into_iter_gives
    (YieldsList-from_zip (YieldsList-at c.zip-name-items.ensures.first (YieldsList-from_slice names c.iter.ensures.rest)) (YieldsList-from_vec parts second.0 (second.1 ∙ c.args.parts.ok.0))) in
    let end = YieldsList-end road xs c.loop-name.name-iterator c.loop-name.yielded_by c.next.result c.next.new.self c.in-None.is c.next.ensures.steps in
    c.leave_alone.ensures.hosted ∙ c.loop-name.invariant.hosted
    ∙ sym (map-map (λ (e : Bor (List ℕ) × Parts SegmentLog). restored_tenant segment_log files e.0.now e.1) (λ e. (e.0.now, e.1)) xs)
    ∙ ap (map (λ (e : Bor (List ℕ) × Parts SegmentLog). restored_tenant segment_log files e.0.now e.1)) end.0
    ∙ zip_shown (λ (name : Bor (List ℕ)). name.now) (restored_tenant segment_log files) names parts

pub restore-requires-clause-named : goal.restore-requires-clause-named
restore-requires-clause-named g c =
    let names = c.args.names.now in
    let parts = c.args.parts.items in
    let p = c.in-Some.parts in
    let second = c.zip-name-items.ensures.second in
    let road = YieldsList-at c.into_iter-name-iterator.ensures.into_iter_gives
    (YieldsList-from_zip (YieldsList-at c.zip-name-items.ensures.first (YieldsList-from_slice names c.iter.ensures.rest)) (YieldsList-from_vec parts second.0 (second.1 ∙ c.args.parts.ok.0))) in
    let turn = YieldsList-turn road c.loop-name.yielded c.loop-name.name-iterator c.loop-name.yielded_by c.next.result c.next.new.self (c.in-Some.name, p) c.in-Some.is c.next.ensures.steps in
    own_name names parts c.requires.names (length c.loop-name.yielded) _ (slice_get_read (zip names parts) (length (zip names parts)) (length c.loop-name.yielded) _ refl turn.0 turn.1)

pub leave_alone-requires-clause-apart : goal.leave_alone-requires-clause-apart
leave_alone-requires-clause-apart g c file has =
    let names = c.args.names.now in
    let parts = c.args.parts.items in
    let xs = c.loop-name.yielded in
    let second = c.zip-name-items.ensures.second in
    let road = YieldsList-at c.into_iter-name-iterator.ensures.into_iter_gives
    (YieldsList-from_zip (YieldsList-at c.zip-name-items.ensures.first (YieldsList-from_slice names c.iter.ensures.rest)) (YieldsList-from_vec parts second.0 (second.1 ∙ c.args.parts.ok.0))) in
    let end = YieldsList-end road xs c.loop-name.name-iterator c.loop-name.yielded_by c.next.result c.next.new.self c.in-None.is c.next.ensures.steps in
    let seated = c.loop-name.invariant.parts ∙ all_seated names parts c.requires.names xs end.0 in
    subst (λ (ps : List (Parts SegmentLog)). IsLeftAlone segment_log ps c.loop-name.tenants.shelf.next file) (sym seated)
    (subst (λ (s : Shelved g.row.S.Denot). IsLeftAlone segment_log parts s.next file) (sym c.loop-name.invariant.shelf) (c.requires.alone file (subst (λ (ns : List ℕ). Contains ns file) (c.in-Ok.ensures.items_if_clones_equal (λ x y e. e)) has)))

pub leave_alone-requires-clause-settled : goal.leave_alone-requires-clause-settled
leave_alone-requires-clause-settled g c =
    let names = c.args.names.now in
    let parts = c.args.parts.items in
    let xs = c.loop-name.yielded in
    let second = c.zip-name-items.ensures.second in
    let road = YieldsList-at c.into_iter-name-iterator.ensures.into_iter_gives
    (YieldsList-from_zip (YieldsList-at c.zip-name-items.ensures.first (YieldsList-from_slice names c.iter.ensures.rest)) (YieldsList-from_vec parts second.0 (second.1 ∙ c.args.parts.ok.0))) in
    let end = YieldsList-end road xs c.loop-name.name-iterator c.loop-name.yielded_by c.next.result c.next.new.self c.in-None.is c.next.ensures.steps in
    let seated = c.loop-name.invariant.parts ∙ all_seated names parts c.requires.names xs end.0 in
    subst (λ (ps : List (Parts SegmentLog)). AreSettled segment_log ps c.in-Ok.left.items (g.S.Store.disk c.loop-name.tenants.shelf.store)) (sym seated)
    (subst (λ (s : Shelved g.row.S.Denot). AreSettled segment_log parts c.in-Ok.left.items (g.S.Store.disk s.store)) (sym c.loop-name.invariant.shelf)
    (subst (λ (ns : List ℕ). AreSettled segment_log parts ns (g.S.Store.disk c.args.shelf.store)) (sym (c.in-Ok.ensures.items_if_clones_equal (λ x y e. e))) c.requires.settled))
