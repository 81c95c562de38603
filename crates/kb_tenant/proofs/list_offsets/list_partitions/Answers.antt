use Rattle.std.proofs.Common.{◌∙◌, ap, ◌++◌, map}
use Rattle.std.specs.List.{flat_map}
use Rattle.kb_tenant_state.specs.Scene.{Scene}
use Rattle.kb_tenant.specs.ListOffsets.{listed, partition_reply}
use Rattle.kb_tenant_state.specs.Parts.{Seen, scene}
use Rattle.kb_tenant_state.specs.Steps.{step_then}
use Rattle.kb_tenant.specs.Told.{HasFailed, IsListingTold}
use Rattle.kb_tenant.proofs.Listing.{listed_next, listed_over, listing_so}
use Rattle.kb_tenant.proofs.Serving.{stays_then, told_next, get_or_any}
use Rattle.kb_tenant.proofs.list_offsets.list_partitions.Goals as goal

pub returns-in_err-put_reply-clause-step : goal.returns-in_err-put_reply-clause-step
returns-in_err-put_reply-clause-step g c =
    let log = g.L.PartitionLog.log in
    let disk = g.S.Store.disk in
    let a : Scene Seen = scene log disk c.args.parts.now c.args.shelf.now in
    let b : Scene Seen = scene log disk c.loop-entry.parts c.loop-entry.shelf in
    let d : Scene Seen = scene log disk c.list_entry-reply.new.parts c.list_entry-reply.new.shelf in
    step_then a b d c.loop-entry.invariant.step c.list_entry-reply.ensures.step

pub loop-entry-preserved : goal.loop-entry-preserved
loop-entry-preserved g c =
    let log = g.L.PartitionLog.log in
    let disk = g.S.Store.disk in
    let a : Scene Seen = scene log disk c.args.parts.now c.args.shelf.now in
    let b : Scene Seen = scene log disk c.loop-entry.parts c.loop-entry.shelf in
    let d : Scene Seen = scene log disk c.list_entry-reply.new.parts c.list_entry-reply.new.shelf in
    let i = c.loop-entry.entry-index in
    let entries = c.args.entries.now in
    let write = (partition_reply c.args.has_epochs).written in
    record {
      step = step_then a b d c.loop-entry.invariant.step c.list_entry-reply.ensures.step;
      same = stays_then a b d c.loop-entry.invariant.step c.list_entry-reply.ensures.step c.loop-entry.invariant.same c.list_entry-reply.ensures.same;
      told = told_next write (λ w. listed w c.args.topic) a b d c.loop-entry.sink.bytes c.put_reply.new.sink.bytes (c.args.sink.now.bytes ++ flat_map write (map (listed a.state.world c.args.topic) entries)) entries i _ c.loop-entry.invariant.step c.list_entry-reply.ensures.step c.loop-entry.invariant.same c.loop-entry-test.true (get_or_any entries i _ _ c.loop-entry-test.true) c.loop-entry.invariant.told
          (λ honest agree calm. c.in_ok-put_reply.ensures ∙ ap (λ x. c.loop-entry.sink.bytes ++ write x) (c.list_entry-reply.ensures.meets honest agree calm));
      answers = listed_next write (λ P w. IsListingTold P w c.args.topic) (listing_so c.args.topic) a b d c.args.sink.now.bytes c.loop-entry.sink.bytes
          c.put_reply.new.sink.bytes entries i _ c.loop-entry-test.true (get_or_any entries i _ _ c.loop-entry-test.true) c.loop-entry.invariant.step
          c.list_entry-reply.ensures.step c.loop-entry.invariant.same c.loop-entry.invariant.answers
          (λ honest agree. (c.list_entry-reply.result, (c.in_ok-put_reply.ensures, c.list_entry-reply.ensures.told honest agree)));
    }

pub returns-clause-told : goal.returns-clause-told
returns-clause-told g c = λ honest agree.
    let log = g.L.PartitionLog.log in
    let disk = g.S.Store.disk in
    let a : Scene Seen = scene log disk c.args.parts.now c.args.shelf.now in
    let b : Scene Seen = scene log disk c.loop-entry.parts c.loop-entry.shelf in
    let so = c.loop-entry.invariant.answers honest agree in (
      so.0,
      (
        so.1.0,
        listed_over (IsListingTold (HasFailed a b) a.state.world c.args.topic) c.args.entries.now so.0 c.loop-entry.entry-index
            c.loop-entry-test.false so.1.1,
      ),
    )
