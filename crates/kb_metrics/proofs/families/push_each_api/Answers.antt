use Rattle.kb_metrics.specs.Families.{api_text, with_place}
use Rattle.kb_metrics.proofs.Steps.{range_more}
use Rattle.kb_metrics.proofs.families.push_each_api.Goals as goal

pub loop-key-preserved : goal.loop-key-preserved
loop-key-preserved c =
    range_more (api_text c.args.front.now) (with_place c.args.requests.now) c.args.out.now.items c.loop-key.out.items
    c.push_api.new.out.items c.loop-key.key c.loop-key.invariant c.in_ok-push_api.ensures
