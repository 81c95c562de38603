use Rattle.kb_metrics.specs.Markup.{point_text, sample_at}
use Rattle.kb_metrics.proofs.Steps.{range_more}
use Rattle.kb_metrics.proofs.markup.push_points_by.Goals as goal

pub loop-place-preserved : goal.loop-place-preserved
loop-place-preserved c =
    range_more (point_text c.args.step) (sample_at c.args.samples.now) c.args.out.now.items c.loop-place.out.items c.push_point.new.out.items
    c.loop-place.place c.loop-place.invariant c.in_ok-push_point.ensures
