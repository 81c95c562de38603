use Rattle.std.proofs.Common.{◌∙◌, ap, subst, sym}
use Rattle.std.specs.Prelude.{ℕ, List, Option, Some}
use Rattle.std.proofs.lemmas.Result.{on_ok_weaker}
use Rattle.kb_wire.specs.Codec.{array}
use Rattle.kb_api_group.specs.Layouts.{offset_fetch_topic}
use Rattle.kb_api_group.specs.declared.offset_fetch.OffsetFetchTopic.{OffsetFetchTopic}
use Rattle.kb_tenant_state.specs.Parts.{world_of}
use Rattle.kb_tenant.specs.OffsetFetch.{topic_reply, topics_fetched}
use Rattle.kb_tenant.specs.Replies.{array_until}
use Rattle.kb_tenant.proofs.Fitting.{array_of_nullable}
use Rattle.kb_tenant.proofs.offset_fetch.put_topics.Goals as goal

pub put_asked-requires : goal.put_asked-requires
put_asked-requires g c = subst (array offset_fetch_topic).Fits (sym c.as_slice.ensures) (array_of_nullable offset_fetch_topic c.args.topics.now c.in-Some.topics c.in-Some.is c.requires)

pub returns-in-None : goal.returns-in-None
returns-in-None g c files = on_ok_weaker c.put_all.result (λ told.
    let w = world_of g.L.PartitionLog.log c.args.parts.now files in
    told ∙ ap (λ o. array_until c.args.most (topic_reply c.args.has_epochs) c.args.sink.now.bytes (topics_fetched w c.args.group.now o)) (sym c.in-None.is)) (c.put_all.ensures files)

pub returns-in-Some : goal.returns-in-Some
returns-in-Some g c files = on_ok_weaker c.put_asked.result (λ told.
    let w = world_of g.L.PartitionLog.log c.args.parts.now files in
    let write : Option (List OffsetFetchTopic) → List ℕ = λ o. array_until c.args.most (topic_reply c.args.has_epochs) c.args.sink.now.bytes (topics_fetched w c.args.group.now o) in
    told ∙ ap (λ ts. write (Some ts)) c.as_slice.ensures ∙ ap write (sym c.in-Some.is)) (c.put_asked.ensures files)
