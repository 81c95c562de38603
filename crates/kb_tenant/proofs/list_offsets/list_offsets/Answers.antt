use Rattle.std.proofs.Common.{◌∙◌, ◌<◌, ◌≤◌, ap, subst, ◌++◌, map, get_or, length}
use Rattle.std.specs.List.{flat_map}
use Rattle.kb_api_data.specs.Layouts.{list_offsets_request, list_offsets_topic}
use Rattle.kb_tenant_state.specs.Scene.{Scene}
use Rattle.kb_tenant.specs.ListOffsets.{listed_topic, topic_reply}
use Rattle.kb_tenant_state.specs.Parts.{Seen, scene}
use Rattle.kb_tenant_state.specs.Steps.{step_then}
use Rattle.kb_tenant.specs.Told.{HasFailed, IsListingTopicTold}
use Rattle.kb_tenant.proofs.Fitting.{count_fits, item_fits}
use Rattle.kb_tenant.proofs.Listing.{all_listing, listed_next, listed_over, listing_topic_so}
use Rattle.kb_tenant.proofs.Offsets.{all_listed}
use Rattle.kb_tenant.proofs.Serving.{stays_then, told_next, told_over}
use Rattle.kb_tenant.proofs.list_offsets.list_offsets.Goals as goal

pub put_count-requires : goal.put_count-requires
unfolding list_offsets_request
put_count-requires g c = count_fits list_offsets_topic c.args.request.now.topics c.len.result c.requires.fits.1 c.len.ensures

pub list_topic-requires-clause-fits : goal.list_topic-requires-clause-fits
unfolding list_offsets_request
list_topic-requires-clause-fits g c =
    let i = c.loop-topic.topic-index in
    item_fits list_offsets_topic c.args.request.now.topics i c.topic-item.result c.requires.fits.1 (subst (λ ts. i < length ts) c.as_slice-topic-items.ensures c.loop-topic-test.true) (c.topic-item.is ∙ ap (λ ts. get_or ts i c.topic-item.result) c.as_slice-topic-items.ensures)

pub returns-in_err-list_topic-clause-step : goal.returns-in_err-list_topic-clause-step
returns-in_err-list_topic-clause-step g c =
    let log = g.L.PartitionLog.log in
    let disk = g.S.Store.disk in
    let a : Scene Seen = scene log disk c.args.parts.now c.args.shelf.now in
    let b : Scene Seen = scene log disk c.loop-topic.parts c.loop-topic.shelf in
    let d : Scene Seen = scene log disk c.list_topic.new.parts c.list_topic.new.shelf in
    step_then a b d c.loop-topic.invariant.step c.list_topic.ensures.step

pub loop-topic-preserved : goal.loop-topic-preserved
loop-topic-preserved g c =
    let log = g.L.PartitionLog.log in
    let disk = g.S.Store.disk in
    let a : Scene Seen = scene log disk c.args.parts.now c.args.shelf.now in
    let b : Scene Seen = scene log disk c.loop-topic.parts c.loop-topic.shelf in
    let d : Scene Seen = scene log disk c.list_topic.new.parts c.list_topic.new.shelf in
    let i = c.loop-topic.topic-index in
    let topics = c.args.request.now.topics in
    let write = (topic_reply c.args.has_epochs).written in
    record {
      step = step_then a b d c.loop-topic.invariant.step c.list_topic.ensures.step;
      same = stays_then a b d c.loop-topic.invariant.step c.list_topic.ensures.step c.loop-topic.invariant.same c.list_topic.ensures.same;
      told = told_next write listed_topic a b d c.loop-topic.sink.bytes c.list_topic.new.sink.bytes (c.put_count.new.self.bytes ++ flat_map write (map (listed_topic a.state.world) topics)) topics i c.topic-item.result c.loop-topic.invariant.step c.list_topic.ensures.step c.loop-topic.invariant.same
          (subst (λ ts. i < length ts) c.as_slice-topic-items.ensures c.loop-topic-test.true) (c.topic-item.is ∙ ap (λ ts. get_or ts i c.topic-item.result) c.as_slice-topic-items.ensures) c.loop-topic.invariant.told c.in_ok-list_topic.ensures.meets;
      answers = listed_next write IsListingTopicTold listing_topic_so a b d c.put_count.new.self.bytes c.loop-topic.sink.bytes c.list_topic.new.sink.bytes
          topics i c.topic-item.result (subst (λ ts. i < length ts) c.as_slice-topic-items.ensures c.loop-topic-test.true)
          (c.topic-item.is ∙ ap (λ ts. get_or ts i c.topic-item.result) c.as_slice-topic-items.ensures) c.loop-topic.invariant.step
          c.list_topic.ensures.step c.loop-topic.invariant.same c.loop-topic.invariant.answers c.in_ok-list_topic.ensures.told;
    }

pub returns-clause-meets : goal.returns-clause-meets
returns-clause-meets g c honest agree calm =
    let log = g.L.PartitionLog.log in
    let disk = g.S.Store.disk in
    let a : Scene Seen = scene log disk c.args.parts.now c.args.shelf.now in
    let b : Scene Seen = scene log disk c.loop-topic.parts c.loop-topic.shelf in
    let topics = c.args.request.now.topics in
    let write = (topic_reply c.args.has_epochs).written in
    all_listed c.args.has_epochs a.state.world c.args.request.now c.len.result c.args.sink.now.bytes c.put_count.new.self.bytes c.loop-topic.sink.bytes c.len.ensures c.in_ok-put_count.ensures.ok
    (told_over write listed_topic a b c.loop-topic.sink.bytes (c.put_count.new.self.bytes ++ flat_map write (map (listed_topic a.state.world) topics)) topics c.loop-topic.topic-index (subst (λ ts. length ts ≤ c.loop-topic.topic-index) c.as_slice-topic-items.ensures c.loop-topic-test.false) c.loop-topic.invariant.told honest agree calm)

pub returns-clause-told : goal.returns-clause-told
returns-clause-told g c = λ honest agree.
    let log = g.L.PartitionLog.log in
    let disk = g.S.Store.disk in
    let a : Scene Seen = scene log disk c.args.parts.now c.args.shelf.now in
    let b : Scene Seen = scene log disk c.loop-topic.parts c.loop-topic.shelf in
    let request = c.args.request.now in
    let so = c.loop-topic.invariant.answers honest agree in
    all_listing c.args.has_epochs (HasFailed a b) a.state.world request c.len.result c.args.sink.now.bytes c.put_count.new.self.bytes c.loop-topic.sink.bytes
    c.len.ensures c.in_ok-put_count.ensures.ok (
      so.0,
      (
        so.1.0,
        listed_over (IsListingTopicTold (HasFailed a b) a.state.world) request.topics so.0 c.loop-topic.topic-index
            (subst (λ ts. length ts ≤ c.loop-topic.topic-index) c.as_slice-topic-items.ensures c.loop-topic-test.false) so.1.1,
      ),
    )
