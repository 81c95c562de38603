use Rattle.std.proofs.Common.{ap, length, sym, subst, w32}
use Rattle.std.specs.Prelude.{All}
use Rattle.kb_wire.specs.Codec.{count}
use Rattle.kb_api_data.specs.Layouts.{fetch_topic}
use Rattle.kb_tenant_state.specs.Parts.{scene, world_of}
use Rattle.kb_tenant.specs.Told.{HasFailed}
use Rattle.kb_tenant.proofs.Fetched.{all_fetched}
use Rattle.kb_tenant.proofs.Fetching.{reply_told, request_count_fits, request_topics_fit}
use Rattle.kb_tenant.proofs.fetch.now.fetch_now.Goals as goal

pub put_count-requires : goal.put_count-requires
put_count-requires g c = subst (λ n. (count w32).Fits n) (sym (ap length c.topics-topics.ensures)) (request_count_fits c.args.request.now c.requires.fits)

pub put_topics-requires-clause-fits : goal.put_topics-requires-clause-fits
put_topics-requires-clause-fits g c = subst (λ ts. All fetch_topic.Fits ts) (sym c.topics-topics.ensures) (request_topics_fit c.args.request.now c.requires.fits)

pub returns-clause-meets : goal.returns-clause-meets
returns-clause-meets g c = λ honest agrees calm.
    let files = (g.S.Store.disk c.args.shelf.now.store).files in
    reply_told c.args.has_starts (world_of g.L.PartitionLog.log c.args.parts.now files) c.args.request.now c.begun-given.result c.put_topics.new.given (length c.topics-topics.result.now) c.topics-topics.result.now
    c.args.sink.now.bytes c.put_i32.new.self.bytes c.put_count.new.self.bytes c.put_topics.new.sink.bytes c.begun-given.ensures (ap length c.topics-topics.ensures) c.topics-topics.ensures
    c.in_ok-put_i32.ensures.ok c.in_ok-put_count.ensures.ok (c.in_ok-put_topics.ensures.meets honest agrees calm)

pub returns-clause-told : goal.returns-clause-told
returns-clause-told g c = λ honest agree.
    let log = g.L.PartitionLog.log in
    let disk = g.S.Store.disk in
    let a = scene log disk c.args.parts.now c.args.shelf.now in
    let b = scene log disk c.put_topics.new.parts c.put_topics.new.shelf in
    all_fetched (HasFailed a b) c.args.has_starts a.state.world c.args.request.now c.begun-given.result c.put_topics.new.given (length c.topics-topics.result.now)
    c.topics-topics.result.now c.args.sink.now.bytes c.put_i32.new.self.bytes c.put_count.new.self.bytes c.put_topics.new.sink.bytes
    c.begun-given.ensures (ap length c.topics-topics.ensures) c.topics-topics.ensures c.in_ok-put_i32.ensures.ok c.in_ok-put_count.ensures.ok
    (c.in_ok-put_topics.ensures.told honest agree)
