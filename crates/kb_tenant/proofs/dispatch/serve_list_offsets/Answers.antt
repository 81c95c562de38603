use Rattle.std.proofs.Common.{rules, ◌≡◌, ◌∙◌, ◌++◌, [], Ok, ap, of_z, refl, subst, sym, to_z}
use Rattle.std.specs.Int.{w16, w32}
use Rattle.kb_tenant.specs.Entries.{list_offsets_entries, within}
use Rattle.kb_tenant.specs.ListOffsets.{asked_listing, has_epochs, list_offsets, listing_in, listing_reply}
use Rattle.kb_tenant.specs.Replies.{begun}
use Rattle.kb_tenant.specs.Serve.{if_read, of_list_offsets, IsServed}
use Rattle.kb_tenant.specs.Told.{HasFailed, IsReplied, TellsListing}
use Rattle.kb_tenant_state.specs.Parts.{scene, world_of}
use Rattle.kb_tenant.proofs.Acknowledging.{replied_by}
use Rattle.kb_tenant.proofs.dispatch.serve_list_offsets.Goals as goal

pub returns-clause-meets : goal.returns-clause-meets
returns-clause-meets g c = λ honest agree calm.
    let w = world_of g.L.PartitionLog.log c.args.parts.now (g.S.Store.disk c.args.shelf.now.store).files in
    let v = world_of g.L.PartitionLog.log c.list_offsets.new.parts (g.S.Store.disk c.list_offsets.new.shelf.store).files in
    let request = c.args.request.now in
    let version = request.api_version in
    let asked = c.in_ok-asked.asked in
    let body = listing_in version (list_offsets w asked) in
    let epochs : c.has_epochs.result ≡ has_epochs version = search rules in
    let id : to_z w32 (of_z w32 request.correlation_id) ≡ request.correlation_id = search rules in
    let same : to_z w16 (of_z w16 version) ≡ version = search rules in
    let read : within c.args.limit list_offsets_entries (asked_listing version request.body.now) ≡ Ok asked =
    ap (λ x. within c.args.limit list_offsets_entries (asked_listing x request.body.now)) (sym same) ∙ c.in_ok-asked.ensures.exact in
    subst (λ r. IsServed request.correlation_id (if_read w r (of_list_offsets version w)) v [] (Ok c.finish.result)) (sym read) (
      c.in_ok-list_offsets.ensures.same honest agree,
      refl,
      c.finish.ensures request.correlation_id body
          (c.in_ok-list_offsets.ensures.meets honest agree calm ∙ ap (λ b. c.in_ok-sink.sink.bytes ++ (listing_reply b).written (list_offsets w asked)) epochs
          ∙ ap (λ s. s ++ body) (c.in_ok-sink.ensures ∙ ap begun id)),
    )

pub returns-clause-listed : goal.returns-clause-listed
returns-clause-listed g c = λ honest agree q read.
    let log = g.L.PartitionLog.log in
    let disk = g.S.Store.disk in
    let a = scene log disk c.args.parts.now c.args.shelf.now in
    let failed = HasFailed a (scene log disk c.list_offsets.new.parts c.list_offsets.new.shelf) in
    let w = a.state.world in
    let request = c.args.request.now in
    let version = request.api_version in
    let asked = c.in_ok-asked.asked in
    let id : to_z w32 (of_z w32 request.correlation_id) ≡ request.correlation_id = search rules in
    let same : to_z w16 (of_z w16 version) ≡ version = search rules in
    let both : Ok asked ≡ Ok q = sym (ap (λ x. asked_listing x request.body.now) (sym same) ∙ c.in_ok-asked.ensures.spelled) ∙ read in
    let one : asked ≡ q = cc in
    let epochs : c.has_epochs.result ≡ has_epochs version = search rules in
    let told = c.in_ok-list_offsets.ensures.told honest agree in
    subst (λ x. IsReplied request.correlation_id (TellsListing failed version w x) c.finish.result) one
    (replied_by request.correlation_id (TellsListing failed version w asked)
    c.in_ok-sink.sink.bytes c.list_offsets.new.sink.bytes (listing_in version told.0) c.finish.result
    (c.in_ok-sink.ensures ∙ ap begun id) (told.1.0 ∙ ap (λ b. c.in_ok-sink.sink.bytes ++ (listing_reply b).written told.0) epochs) (told.0, (refl, told.1.1)) c.finish.ensures)
