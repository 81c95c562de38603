use Rattle.std.proofs.Common.{◌∙◌, ◌++◌, ap, refl}
use Rattle.std.proofs.lemmas.Result.{on_ok_weaker}
use Rattle.kb_api_group.specs.Layouts.{offset_fetch_request_v2}
use Rattle.kb_tenant_state.specs.Parts.{world_of}
use Rattle.kb_tenant.specs.OffsetFetch.{code_in, fetched_all, offsets_as, offsets_until, topic_reply, topics_fetched}
use Rattle.kb_tenant.specs.Replies.{array_until}
use Rattle.kb_tenant.proofs.OffsetsKept.{offsets_until_all}
use Rattle.kb_tenant.proofs.Until.{are_until}
use Rattle.kb_tenant.proofs.offset_fetch.offset_fetch.Goals as goal

pub put_topics-requires : goal.put_topics-requires
unfolding offset_fetch_request_v2
put_topics-requires g c = c.requires.1

pub returns-clause-exact : goal.returns-clause-exact
returns-clause-exact g c files = on_ok_weaker c.put_code.result (λ told.
    let w = world_of g.L.PartitionLog.log c.args.parts.now files in
    let q = c.args.request.now in
    let old = c.args.sink.now.bytes in
    told ∙ ap (λ s. s ++ code_in c.args.has_code)
    (c.in_ok-put_topics.ensures files ∙ ap (λ g. array_until c.args.most (topic_reply c.args.has_epochs) old (topics_fetched w g q.topics)) c.as_str-group.ensures)) c.put_code.ensures

pub returns-clause-whole : goal.returns-clause-whole
returns-clause-whole g c files = on_ok_weaker c.put_code.result (λ made.
    let w = world_of g.L.PartitionLog.log c.args.parts.now files in
    let reply = fetched_all w c.args.request.now in
    let old = c.args.sink.now.bytes in
    let all = old ++ offsets_as c.args.has_code c.args.has_epochs reply in
    are_until c.args.most all all (offsets_until c.args.most c.args.has_code c.args.has_epochs reply old) c.put_code.new.sink.bytes refl made
    (offsets_until_all c.args.most c.args.has_code c.args.has_epochs reply old)) (returns-clause-exact g c files)
