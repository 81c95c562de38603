use mir.Val.{to_z, of_z}
use Rattle.std.proofs.Common.{◌∙◌, sym, ap, subst, w16}
use Rattle.std.specs.Prelude.{Some, None}
use Rattle.std.proofs.lemmas.Int.{to_z-of_z}
use Rattle.std.proofs.lemmas.Result.{on_ok_weaker}
use Rattle.kb_wire.specs.Codec.{array, string}
use Rattle.kb_api_data.specs.Layouts.{metadata_request}
use Rattle.kb_tenant.specs.Metadata.{metadata_of, topics_asked, topics_until, IsMetadataUntil}
use Rattle.kb_tenant_state.specs.Parts.{world_of}
use Rattle.kb_tenant.proofs.Described.{metadata_until, metadata_until_all}
use Rattle.kb_tenant.proofs.Fitting.{array_of_nullable}
use Rattle.kb_tenant.proofs.metadata.metadata.Goals as goal

pub put_all_asked-requires : goal.put_all_asked-requires
unfolding metadata_request
put_all_asked-requires g c = subst (array string).Fits (sym c.as_slice.ensures) (array_of_nullable string c.args.request.now.topics c.in-Some.names c.in-Some.is c.requires.fits)

pub returns-in-None-clause-exact : goal.returns-in-None-clause-exact
returns-in-None-clause-exact g c files = on_ok_weaker c.put_all.result (λ told.
    let w = world_of g.L.PartitionLog.log c.args.parts.now files in
    let node = c.args.node.now in
    let r = c.args.request.now in
    let z = to_z w16 (of_z w16 c.args.version) in
    let old = c.args.sink.now.bytes in
    let new = c.put_all.new.sink.bytes in
    let ts = topics_asked w.known.topics None in
    subst (λ v. IsMetadataUntil c.args.most v (metadata_of w node r) old new) (to_z-of_z w16 c.args.version c.ranges.version)
    (metadata_until c.args.most w node z r None old c.put_node.new.sink.bytes new c.in-None.is (c.in_ok-put_node.ensures ts) told)) (c.put_all.ensures files)

pub returns-in-None-clause-whole : goal.returns-in-None-clause-whole
returns-in-None-clause-whole g c files =
    let w = world_of g.L.PartitionLog.log c.args.parts.now files in
    on_ok_weaker c.put_all.result (λ until. metadata_until_all c.args.most c.args.version (metadata_of w c.args.node.now c.args.request.now) c.args.sink.now.bytes c.put_all.new.sink.bytes until)
    (returns-in-None-clause-exact g c files)

pub returns-in-Some-clause-exact : goal.returns-in-Some-clause-exact
returns-in-Some-clause-exact g c files = on_ok_weaker c.put_all_asked.result (λ told.
    let w = world_of g.L.PartitionLog.log c.args.parts.now files in
    let node = c.args.node.now in
    let r = c.args.request.now in
    let z = to_z w16 (of_z w16 c.args.version) in
    let old = c.args.sink.now.bytes in
    let new = c.put_all_asked.new.sink.bytes in
    let names = c.in-Some.names in
    let ts = topics_asked w.known.topics (Some names) in
    subst (λ v. IsMetadataUntil c.args.most v (metadata_of w node r) old new) (to_z-of_z w16 c.args.version c.ranges.version)
    (metadata_until c.args.most w node z r (Some names) old c.put_node.new.sink.bytes new c.in-Some.is (c.in_ok-put_node.ensures ts)
    (told ∙ ap (λ ns. topics_until c.args.most z c.put_node.new.sink.bytes (topics_asked w.known.topics (Some ns))) c.as_slice.ensures))) (c.put_all_asked.ensures files)

pub returns-in-Some-clause-whole : goal.returns-in-Some-clause-whole
returns-in-Some-clause-whole g c files =
    let w = world_of g.L.PartitionLog.log c.args.parts.now files in
    on_ok_weaker c.put_all_asked.result (λ until. metadata_until_all c.args.most c.args.version (metadata_of w c.args.node.now c.args.request.now) c.args.sink.now.bytes c.put_all_asked.new.sink.bytes until)
    (returns-in-Some-clause-exact g c files)
