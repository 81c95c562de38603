use Rattle.std.proofs.Common.{rules, ◌≡◌, ◌∙◌, ◌++◌, [], Bool, Ok, sym, ap, refl, subst}
use Rattle.kb_tenant_state.specs.Parts.{world_of}
use Rattle.kb_tenant.specs.Entries.{offset_fetch_entries, within}
use Rattle.kb_tenant.specs.OffsetFetch.{asked_as, asked_offsets, fetched_all, has_code, has_epochs, offsets_as, offsets_in}
use Rattle.kb_tenant.specs.Replies.{begun, AreUntil}
use Rattle.kb_tenant.specs.Serve.{if_read, of_offset_fetch, IsServed}
use Rattle.kb_tenant.proofs.group_offsets.serve_offset_fetch.Goals as goal

pub returns : goal.returns
returns g c = λ files.
    let w = world_of g.L.PartitionLog.log c.args.parts.now files in
    let id = c.args.request.now.correlation_id in
    let version = c.args.request.now.api_version in
    let limits = c.args.limits in
    let asked = c.in_ok-asked.asked in
    let reply = fetched_all w asked in
    let body = offsets_in version reply in
    let made = c.offset_fetch.new.sink.bytes in
    let has : Bool = c.has_code-has_code.result in
    let same : has ≡ has_code version = search rules in
    let epochs : Bool = c.has_epochs-has_epochs.result in
    let as_told : epochs ≡ has_epochs version = search rules in
    let from : c.in_ok-sink.sink.bytes ≡ begun id = search rules in
    let read : within limits.request_entries offset_fetch_entries (asked_offsets version c.args.request.now.body.now) ≡ Ok asked = ap (λ b. within limits.request_entries offset_fetch_entries (asked_as b c.args.request.now.body.now)) (sym same) ∙ c.in_ok-asked.ensures.exact in
    let all : c.in_ok-sink.sink.bytes ++ offsets_as has epochs reply ≡ begun id ++ body =
    ap (λ s. s ++ offsets_as has epochs reply) from ∙ ap (λ b. begun id ++ offsets_as b epochs reply) same ∙ ap (λ b. begun id ++ offsets_as (has_code version) b reply) as_told in
    subst (λ r. IsServed id (if_read w r (of_offset_fetch limits.reply_bytes version w)) w [] (Ok c.finish_within.result)) (sym read) (
      refl,
      refl,
      c.finish_within.ensures id body
          (subst (λ m. AreUntil m (begun id ++ body) made) c.most_bytes-most.ensures (subst (λ x. AreUntil c.most_bytes-most.result x made) all (c.in_ok-offset_fetch.ensures.whole files))),
    )
