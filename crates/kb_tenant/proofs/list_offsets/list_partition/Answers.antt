use mir.Val.{to_z, of_z}
use Rattle.std.proofs.Common.{◌∙◌, ap, inl, sym, pos, w16, w32, w64}
use Rattle.std.specs.Prelude.{is_some}
use Rattle.std.proofs.lemmas.Int.{to_z-of_z}
use Rattle.kb_tenant_state.specs.Logs.{LogState}
use Rattle.kb_tenant.specs.ListOffsets.{offset_refused, edge_answered}
use Rattle.kb_tenant_state.specs.Parts.{scene, world_of}
use Rattle.kb_tenant_state.specs.Steps.{step_same}
use Rattle.kb_tenant_state.specs.World.{World, log_in, place_in}
use Rattle.kb_tenant.proofs.Offsets.{at_place, listed_none, listed_end, listed_start, listed_wrong}
use Rattle.kb_tenant.proofs.list_offsets.list_partition.Goals as goal

pub returns-then-is_none-clause-meets : goal.returns-then-is_none-clause-meets
returns-then-is_none-clause-meets g c honest agree calm =
    let files = (g.S.Store.disk c.args.shelf.now.store).files in
    let w : World = world_of g.L.PartitionLog.log c.args.parts.now files in
    let place = c.in-Some.place in
    let p = c.args.partition in
    let t = c.args.timestamp in
    let p_is = to_z-of_z w32 p c.ranges.partition in
    let t_is = to_z-of_z w64 t c.ranges.timestamp in
    let there = at_place w c.args.topic p t place (c.in-Some.ensures ∙ ap (place_in c.args.topic) p_is) in
    c.refused-then-is_none.ensures ∙ ap (λ x. offset_refused x (to_z w16 (of_z w16 c.code-then-is_none.result))) p_is ∙ ap (λ x. offset_refused p (to_z w16 (of_z w16 x))) c.code-then-is_none.ensures ∙ listed_none p t (λ (l : LogState). pos l.start) (log_in w place) (ap is_some (sym (c.start.ensures files)) ∙ c.if-is_none.ensures) ∙ there

pub returns-then-timestamp-ltminus2-clause-meets : goal.returns-then-timestamp-ltminus2-clause-meets
returns-then-timestamp-ltminus2-clause-meets g c honest agree calm =
    let files = (g.S.Store.disk c.args.shelf.now.store).files in
    let w : World = world_of g.L.PartitionLog.log c.args.parts.now files in
    let place = c.in-Some.place in
    let p = c.args.partition in
    let t = c.args.timestamp in
    let p_is = to_z-of_z w32 p c.ranges.partition in
    let t_is = to_z-of_z w64 t c.ranges.timestamp in
    let there = at_place w c.args.topic p t place (c.in-Some.ensures ∙ ap (place_in c.args.topic) p_is) in
    c.refused-then-timestamp-ltminus2.ensures ∙ ap (λ x. offset_refused x (to_z w16 (of_z w16 c.code-then-timestamp-ltminus2.result))) p_is ∙ ap (λ x. offset_refused p (to_z w16 (of_z w16 x))) c.code-then-timestamp-ltminus2.ensures ∙ listed_wrong p t (λ (l : LogState). pos l.start) (log_in w place) (ap is_some (sym (c.start.ensures files)) ∙ c.if-is_none.ensures) (rw t_is at c.if-timestamp-ltminus2.true) ∙ there

pub returns-then-timestamp-eqminus1-clause-step : goal.returns-then-timestamp-eqminus1-clause-step
returns-then-timestamp-eqminus1-clause-step g c = step_same (scene g.L.PartitionLog.log g.S.Store.disk c.args.parts.now c.args.shelf.now) c.requires.sound

pub returns-then-timestamp-eqminus1-clause-meets : goal.returns-then-timestamp-eqminus1-clause-meets
returns-then-timestamp-eqminus1-clause-meets g c honest agree calm =
    let files = (g.S.Store.disk c.args.shelf.now.store).files in
    let w : World = world_of g.L.PartitionLog.log c.args.parts.now files in
    let place = c.in-Some.place in
    let p = c.args.partition in
    let t = c.args.timestamp in
    let p_is = to_z-of_z w32 p c.ranges.partition in
    let t_is = to_z-of_z w64 t c.ranges.timestamp in
    let there = at_place w c.args.topic p t place (c.in-Some.ensures ∙ ap (place_in c.args.topic) p_is) in
    c.answered_edge.ensures ∙ ap (λ x. edge_answered x c.end.result) p_is ∙ ap (edge_answered p) (c.end.ensures files) ∙ listed_end p t (log_in w place) (sym t_is ∙ ap (to_z w64) c.if-timestamp-eqminus1.true) ∙ there

pub returns-then-timestamp-eqminus2-clause-step : goal.returns-then-timestamp-eqminus2-clause-step
returns-then-timestamp-eqminus2-clause-step g c = step_same (scene g.L.PartitionLog.log g.S.Store.disk c.args.parts.now c.args.shelf.now) c.requires.sound

pub returns-then-timestamp-eqminus2-clause-meets : goal.returns-then-timestamp-eqminus2-clause-meets
returns-then-timestamp-eqminus2-clause-meets g c honest agree calm =
    let files = (g.S.Store.disk c.args.shelf.now.store).files in
    let w : World = world_of g.L.PartitionLog.log c.args.parts.now files in
    let place = c.in-Some.place in
    let p = c.args.partition in
    let t = c.args.timestamp in
    let p_is = to_z-of_z w32 p c.ranges.partition in
    let t_is = to_z-of_z w64 t c.ranges.timestamp in
    let there = at_place w c.args.topic p t place (c.in-Some.ensures ∙ ap (place_in c.args.topic) p_is) in
    c.answered_edge-then-timestamp-eqminus2.ensures ∙ ap (λ x. edge_answered x c.start-then-timestamp-eqminus2.result) p_is ∙ ap (edge_answered p) (c.start-then-timestamp-eqminus2.ensures files) ∙ listed_start p t (log_in w place) (sym t_is ∙ ap (to_z w64) c.if-timestamp-eqminus2.true) ∙ there

pub returns-then-is_none-clause-told : goal.returns-then-is_none-clause-told
returns-then-is_none-clause-told g c honest agree =
    let files = (g.S.Store.disk c.args.shelf.now.store).files in
    let w : World = world_of g.L.PartitionLog.log c.args.parts.now files in
    let place = c.in-Some.place in
    let p = c.args.partition in
    let t = c.args.timestamp in
    let p_is = to_z-of_z w32 p c.ranges.partition in
    let t_is = to_z-of_z w64 t c.ranges.timestamp in
    let there = at_place w c.args.topic p t place (c.in-Some.ensures ∙ ap (place_in c.args.topic) p_is) in
    inl (c.refused-then-is_none.ensures ∙ ap (λ x. offset_refused x (to_z w16 (of_z w16 c.code-then-is_none.result))) p_is ∙ ap (λ x. offset_refused p (to_z w16 (of_z w16 x))) c.code-then-is_none.ensures ∙ listed_none p t (λ (l : LogState). pos l.start) (log_in w place) (ap is_some (sym (c.start.ensures files)) ∙ c.if-is_none.ensures) ∙ there)

pub returns-then-timestamp-ltminus2-clause-told : goal.returns-then-timestamp-ltminus2-clause-told
returns-then-timestamp-ltminus2-clause-told g c honest agree =
    let files = (g.S.Store.disk c.args.shelf.now.store).files in
    let w : World = world_of g.L.PartitionLog.log c.args.parts.now files in
    let place = c.in-Some.place in
    let p = c.args.partition in
    let t = c.args.timestamp in
    let p_is = to_z-of_z w32 p c.ranges.partition in
    let t_is = to_z-of_z w64 t c.ranges.timestamp in
    let there = at_place w c.args.topic p t place (c.in-Some.ensures ∙ ap (place_in c.args.topic) p_is) in
    inl (c.refused-then-timestamp-ltminus2.ensures ∙ ap (λ x. offset_refused x (to_z w16 (of_z w16 c.code-then-timestamp-ltminus2.result))) p_is ∙ ap (λ x. offset_refused p (to_z w16 (of_z w16 x))) c.code-then-timestamp-ltminus2.ensures ∙ listed_wrong p t (λ (l : LogState). pos l.start) (log_in w place) (ap is_some (sym (c.start.ensures files)) ∙ c.if-is_none.ensures) (rw t_is at c.if-timestamp-ltminus2.true) ∙ there)

pub returns-then-timestamp-eqminus1-clause-told : goal.returns-then-timestamp-eqminus1-clause-told
returns-then-timestamp-eqminus1-clause-told g c honest agree =
    let files = (g.S.Store.disk c.args.shelf.now.store).files in
    let w : World = world_of g.L.PartitionLog.log c.args.parts.now files in
    let place = c.in-Some.place in
    let p = c.args.partition in
    let t = c.args.timestamp in
    let p_is = to_z-of_z w32 p c.ranges.partition in
    let t_is = to_z-of_z w64 t c.ranges.timestamp in
    let there = at_place w c.args.topic p t place (c.in-Some.ensures ∙ ap (place_in c.args.topic) p_is) in
    inl (c.answered_edge.ensures ∙ ap (λ x. edge_answered x c.end.result) p_is ∙ ap (edge_answered p) (c.end.ensures files) ∙ listed_end p t (log_in w place) (sym t_is ∙ ap (to_z w64) c.if-timestamp-eqminus1.true) ∙ there)

pub returns-then-timestamp-eqminus2-clause-told : goal.returns-then-timestamp-eqminus2-clause-told
returns-then-timestamp-eqminus2-clause-told g c honest agree =
    let files = (g.S.Store.disk c.args.shelf.now.store).files in
    let w : World = world_of g.L.PartitionLog.log c.args.parts.now files in
    let place = c.in-Some.place in
    let p = c.args.partition in
    let t = c.args.timestamp in
    let p_is = to_z-of_z w32 p c.ranges.partition in
    let t_is = to_z-of_z w64 t c.ranges.timestamp in
    let there = at_place w c.args.topic p t place (c.in-Some.ensures ∙ ap (place_in c.args.topic) p_is) in
    inl (c.answered_edge-then-timestamp-eqminus2.ensures ∙ ap (λ x. edge_answered x c.start-then-timestamp-eqminus2.result) p_is ∙ ap (edge_answered p) (c.start-then-timestamp-eqminus2.ensures files) ∙ listed_start p t (log_in w place) (sym t_is ∙ ap (to_z w64) c.if-timestamp-eqminus2.true) ∙ there)
