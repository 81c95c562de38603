use Rattle.std.proofs.Common.{◌≡◌, ◌∙◌, ℤ, length, arith, ap, inl, of_z, refl, rules, to_z, w16, w32, SFits}
use Rattle.std.proofs.lemmas.Int.{to_z-of_z}
use Rattle.std.specs.Prelude.{is_some}
use Rattle.kb_topics.specs.Known.{named}
use Rattle.kb_tenant.specs.CreateTopics.{is_too_much, made}
use Rattle.kb_tenant.specs.declared.create_topics.room.Room.{Room}
use Rattle.kb_tenant.specs.Settings.{settings_in}
use Rattle.kb_tenant_state.specs.Parts.{scene, world_of}
use Rattle.kb_tenant_state.specs.Told.{IsCreationWant}
use Rattle.kb_tenant_state.specs.World.{World}
use Rattle.kb_tenant.proofs.Checking.{made_past_all}
use Rattle.kb_tenant.proofs.Committing.{acknowledged}
use Rattle.kb_tenant.proofs.Creating.{made_full, made_refused, made_unset, made_set}
use Rattle.kb_tenant.proofs.Wanted.{made_told}
use Rattle.kb_tenant.proofs.create_topics.create_topic.Goals as goal

pub returns-in-Some-clause-meets : goal.returns-in-Some-clause-meets
returns-in-Some-clause-meets g c =
    let files = (g.S.Store.disk c.args.shelf.now.store).files in
    let w : World = world_of g.L.PartitionLog.log c.args.parts.now files in
    let t = c.args.topic.now in
    let there = c.is_some-exists.ensures ∙ ap is_some (c.topic_named.ensures files) ∙ ap (λ n. is_some (named n w.known.topics)) c.as_str-name.ensures in
    λ honest agrees calm. made_refused c.args.limits w t c.args.repeated c.is_some-exists.result c.in-Some.error _ there (c.in-Some.ensures) (to_z-of_z w16 c.code.result (record { sfits = c.code.type_inv }) ∙ c.code.ensures)

pub returns-in_default-settings_in-clause-meets : goal.returns-in_default-settings_in-clause-meets
returns-in_default-settings_in-clause-meets g c =
    let files = (g.S.Store.disk c.args.shelf.now.store).files in
    let w : World = world_of g.L.PartitionLog.log c.args.parts.now files in
    let t = c.args.topic.now in
    let there = c.is_some-exists.ensures ∙ ap is_some (c.topic_named.ensures files) ∙ ap (λ n. is_some (named n w.known.topics)) c.as_str-name.ensures in
    λ honest agrees calm. made_unset c.args.limits w t c.args.repeated c.is_some-exists.result _ there (c.in_default.ensures) (c.in_default-settings_in.ensures ∙ ap settings_in c.as_slice.ensures) (to_z-of_z w16 c.code-in_default-settings_in.result (record { sfits = c.code-in_default-settings_in.type_inv }) ∙ c.code-in_default-settings_in.ensures)

pub returns-then-is_too_small-clause-meets : goal.returns-then-is_too_small-clause-meets
returns-then-is_too_small-clause-meets g c =
    let files = (g.S.Store.disk c.args.shelf.now.store).files in
    let w : World = world_of g.L.PartitionLog.log c.args.parts.now files in
    let t = c.args.topic.now in
    let there = c.is_some-exists.ensures ∙ ap is_some (c.topic_named.ensures files) ∙ ap (λ n. is_some (named n w.known.topics)) c.as_str-name.ensures in
    let range : SFits w32 t.num_partitions = search rules in
    λ honest agrees calm. made_full c.args.limits w t c.args.repeated c.is_some-exists.result (to_z w32 (of_z w32 t.num_partitions)) c.in-Some-settings_in.config c.is_too_small.result _ there c.in_default.ensures (c.in-Some-settings_in.ensures ∙ ap settings_in c.as_slice.ensures)
    (to_z-of_z w32 t.num_partitions range) (c.is_too_small.ensures ∙ ap (λ (r : Room). is_too_much c.args.limits r (to_z w32 (of_z w32 t.num_partitions))) (c.of-room.ensures files)) c.if-is_too_small.true
    (to_z-of_z w16 c.code-then-is_too_small.result (record { sfits = c.code-then-is_too_small.type_inv }) ∙ c.code-then-is_too_small.ensures)

pub returns-then-is_too_small-clause-told : goal.returns-then-is_too_small-clause-told
returns-then-is_too_small-clause-told g c =
    let files = (g.S.Store.disk c.args.shelf.now.store).files in
    let w : World = world_of g.L.PartitionLog.log c.args.parts.now files in
    let t = c.args.topic.now in
    let there = c.is_some-exists.ensures ∙ ap is_some (c.topic_named.ensures files) ∙ ap (λ n. is_some (named n w.known.topics)) c.as_str-name.ensures in
    let range : SFits w32 t.num_partitions = search rules in
    inl (record {
      counted = refl;
      met = λ honest agree. made_full c.args.limits w t c.args.repeated c.is_some-exists.result (to_z w32 (of_z w32 t.num_partitions)) c.in-Some-settings_in.config c.is_too_small.result _ there c.in_default.ensures (c.in-Some-settings_in.ensures ∙ ap settings_in c.as_slice.ensures)
          (to_z-of_z w32 t.num_partitions range) (c.is_too_small.ensures ∙ ap (λ (r : Room). is_too_much c.args.limits r (to_z w32 (of_z w32 t.num_partitions))) (c.of-room.ensures files)) c.if-is_too_small.true
          (to_z-of_z w16 c.code-then-is_too_small.result (record { sfits = c.code-then-is_too_small.type_inv }) ∙ c.code-then-is_too_small.ensures);
    })

pub returns-then-room-ge1000-clause-meets : goal.returns-then-room-ge1000-clause-meets
returns-then-room-ge1000-clause-meets g c =
    let files = (g.S.Store.disk c.args.shelf.now.store).files in
    let w : World = world_of g.L.PartitionLog.log c.args.parts.now files in
    let t = c.args.topic.now in
    let there = c.is_some-exists.ensures ∙ ap is_some (c.topic_named.ensures files) ∙ ap (λ n. is_some (named n w.known.topics)) c.as_str-name.ensures in
    let range : SFits w32 t.num_partitions = search rules in
    λ honest agrees calm. made_past_all c.args.limits w t c.args.repeated c.is_some-exists.result (to_z w32 (of_z w32 t.num_partitions)) c.in-Some-settings_in.config c.is_too_small.result _ there c.in_default.ensures (c.in-Some-settings_in.ensures ∙ ap settings_in c.as_slice.ensures)
    (to_z-of_z w32 t.num_partitions range) (c.is_too_small.ensures ∙ ap (λ (r : Room). is_too_much c.args.limits r (to_z w32 (of_z w32 t.num_partitions))) (c.of-room.ensures files)) c.if-is_too_small.false
    (let topics : c.of-room.result.topics ≡ length w.known.topics = ap (λ (r : Room). r.topics) (c.of-room.ensures files) in omega (arith, topics, c.if-room-ge1000.true)) (to_z-of_z w16 c.code_in.result (record { sfits = c.code_in.type_inv }) ∙ c.code_in.ensures)

pub returns-then-room-ge1000-clause-told : goal.returns-then-room-ge1000-clause-told
returns-then-room-ge1000-clause-told g c =
    let files = (g.S.Store.disk c.args.shelf.now.store).files in
    let w : World = world_of g.L.PartitionLog.log c.args.parts.now files in
    let t = c.args.topic.now in
    let there = c.is_some-exists.ensures ∙ ap is_some (c.topic_named.ensures files) ∙ ap (λ n. is_some (named n w.known.topics)) c.as_str-name.ensures in
    let range : SFits w32 t.num_partitions = search rules in
    inl (record {
      counted = refl;
      met = λ honest agree. made_past_all c.args.limits w t c.args.repeated c.is_some-exists.result (to_z w32 (of_z w32 t.num_partitions)) c.in-Some-settings_in.config c.is_too_small.result _ there c.in_default.ensures (c.in-Some-settings_in.ensures ∙ ap settings_in c.as_slice.ensures)
          (to_z-of_z w32 t.num_partitions range) (c.is_too_small.ensures ∙ ap (λ (r : Room). is_too_much c.args.limits r (to_z w32 (of_z w32 t.num_partitions))) (c.of-room.ensures files)) c.if-is_too_small.false
          (let topics : c.of-room.result.topics ≡ length w.known.topics = ap (λ (r : Room). r.topics) (c.of-room.ensures files) in omega (arith, topics, c.if-room-ge1000.true)) (to_z-of_z w16 c.code_in.result (record { sfits = c.code_in.type_inv }) ∙ c.code_in.ensures);
    })

pub returns-clause-meets : goal.returns-clause-meets
returns-clause-meets g c =
    let files = (g.S.Store.disk c.args.shelf.now.store).files in
    let w : World = world_of g.L.PartitionLog.log c.args.parts.now files in
    let v : World = world_of g.L.PartitionLog.log c.create.new.self (g.S.Store.disk c.create.new.shelf.store).files in
    let t = c.args.topic.now in
    let there = c.is_some-exists.ensures ∙ ap is_some (c.topic_named.ensures files) ∙ ap (λ n. is_some (named n w.known.topics)) c.as_str-name.ensures in
    let range : SFits w32 t.num_partitions = search rules in
    λ honest agrees calm. made_set c.args.limits w v t c.args.repeated c.is_some-exists.result c.as_str-name.result.now _ c.in-Some-settings_in.config c.is_too_small.result c.create.result _ there c.in_default.ensures (c.in-Some-settings_in.ensures ∙ ap settings_in c.as_slice.ensures)
    c.as_str-name.ensures (to_z-of_z w32 t.num_partitions range) (c.is_too_small.ensures ∙ ap (λ (r : Room). is_too_much c.args.limits r (to_z w32 (of_z w32 t.num_partitions))) (c.of-room.ensures files)) c.if-is_too_small.false (c.create.ensures.meets honest agrees calm) (to_z-of_z w16 c.code_in-2.result (record { sfits = c.code_in-2.type_inv }) ∙ c.code_in-2.ensures)

pub returns-in-Some-clause-told : goal.returns-in-Some-clause-told
returns-in-Some-clause-told g c =
    let files = (g.S.Store.disk c.args.shelf.now.store).files in
    let w : World = world_of g.L.PartitionLog.log c.args.parts.now files in
    let t = c.args.topic.now in
    let there = c.is_some-exists.ensures ∙ ap is_some (c.topic_named.ensures files) ∙ ap (λ n. is_some (named n w.known.topics)) c.as_str-name.ensures in
    inl (record { counted = refl; met = λ honest agree. made_refused c.args.limits w t c.args.repeated c.is_some-exists.result c.in-Some.error _ there (c.in-Some.ensures) (to_z-of_z w16 c.code.result (record { sfits = c.code.type_inv }) ∙ c.code.ensures) })

pub returns-in-Some-clause-acknowledged : goal.returns-in-Some-clause-acknowledged
returns-in-Some-clause-acknowledged g c =
    let log = g.L.PartitionLog.log in
    let a = scene log g.S.Store.disk c.args.parts.now c.args.shelf.now in
    let code : ℤ = to_z w16 (of_z w16 c.code.result) in
    acknowledged a a ((a.state.world, code) ≡ made c.args.limits c.args.repeated a.state.world c.args.topic.now) (IsCreationWant a a) code (returns-in-Some-clause-told g c)

pub returns-in_default-settings_in-clause-told : goal.returns-in_default-settings_in-clause-told
returns-in_default-settings_in-clause-told g c =
    let files = (g.S.Store.disk c.args.shelf.now.store).files in
    let w : World = world_of g.L.PartitionLog.log c.args.parts.now files in
    let t = c.args.topic.now in
    let there = c.is_some-exists.ensures ∙ ap is_some (c.topic_named.ensures files) ∙ ap (λ n. is_some (named n w.known.topics)) c.as_str-name.ensures in
    inl (record { counted = refl; met = λ honest agree. made_unset c.args.limits w t c.args.repeated c.is_some-exists.result _ there (c.in_default.ensures) (c.in_default-settings_in.ensures ∙ ap settings_in c.as_slice.ensures) (to_z-of_z w16 c.code-in_default-settings_in.result (record { sfits = c.code-in_default-settings_in.type_inv }) ∙ c.code-in_default-settings_in.ensures) })

pub returns-in_default-settings_in-clause-acknowledged : goal.returns-in_default-settings_in-clause-acknowledged
returns-in_default-settings_in-clause-acknowledged g c =
    let log = g.L.PartitionLog.log in
    let a = scene log g.S.Store.disk c.args.parts.now c.args.shelf.now in
    let code : ℤ = to_z w16 (of_z w16 c.code-in_default-settings_in.result) in
    acknowledged a a ((a.state.world, code) ≡ made c.args.limits c.args.repeated a.state.world c.args.topic.now) (IsCreationWant a a) code (returns-in_default-settings_in-clause-told g c)

pub returns-clause-told : goal.returns-clause-told
returns-clause-told g c =
    let log = g.L.PartitionLog.log in
    let disk = g.S.Store.disk in
    let files = (g.S.Store.disk c.args.shelf.now.store).files in
    let w : World = world_of g.L.PartitionLog.log c.args.parts.now files in
    let t = c.args.topic.now in
    let there = c.is_some-exists.ensures ∙ ap is_some (c.topic_named.ensures files) ∙ ap (λ n. is_some (named n w.known.topics)) c.as_str-name.ensures in
    let range : SFits w32 t.num_partitions = search rules in
    made_told c.args.limits (scene log disk c.args.parts.now c.args.shelf.now) (scene log disk c.create.new.self c.create.new.shelf) t c.args.repeated c.is_some-exists.result c.as_str-name.result.now _ c.in-Some-settings_in.config c.is_too_small.result c.create.result _
    there c.in_default.ensures (c.in-Some-settings_in.ensures ∙ ap settings_in c.as_slice.ensures) c.as_str-name.ensures (to_z-of_z w32 t.num_partitions range)
    (c.is_too_small.ensures ∙ ap (λ (r : Room). is_too_much c.args.limits r (to_z w32 (of_z w32 t.num_partitions))) (c.of-room.ensures files)) c.if-is_too_small.false
    (to_z-of_z w16 c.code_in-2.result (record { sfits = c.code_in-2.type_inv }) ∙ c.code_in-2.ensures) c.create.ensures.told

pub returns-clause-acknowledged : goal.returns-clause-acknowledged
returns-clause-acknowledged g c =
    let log = g.L.PartitionLog.log in
    let disk = g.S.Store.disk in
    let a = scene log disk c.args.parts.now c.args.shelf.now in
    let b = scene log disk c.create.new.self c.create.new.shelf in
    let code : ℤ = to_z w16 (of_z w16 c.code_in-2.result) in
    acknowledged a b ((b.state.world, code) ≡ made c.args.limits c.args.repeated a.state.world c.args.topic.now) (IsCreationWant a b) code (returns-clause-told g c)
