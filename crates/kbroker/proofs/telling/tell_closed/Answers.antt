use Rattle.std.proofs.Common.{◌≤◌, ◌<◌, ◌∙◌, ap, arith, length, refl, subst}
use Rattle.kb_node.specs.Traffic.{Along}
use Rattle.kb_node.specs.declared.closed.Closed.{Closed}
use Rattle.kb_node.proofs.Traffic.{along_all, along_found}
use Rattle.kb_operator.specs.Bucket.{with_more}
use Rattle.kb_operator.specs.declared.journal.Journal.{Journal}
use Rattle.kbroker.specs.Telling.{TellsShutOne}
use Rattle.kbroker.proofs.telling.tell_closed.Goals as goal

pub loop-closed-preserved : goal.loop-closed-preserved
loop-closed-preserved g c =
    let before = c.loop-closed in
    let connections = c.first-connections.result.now in
    let within : before.closed-index < length connections = omega arith in
    let Tells : Closed → Journal g.row.T.Denot → Journal g.row.T.Denot → Type 0 = TellsShutOne g.T.LineLog.logged c.args.now c.args.second c.args.request_bytes in
    along_found Tells connections connections before.closed-index _ c.args.journal.now before.journal c.tell_shut.new.journal refl within
    before.invariant c.tell_shut.ensures

pub returns : goal.returns
returns g c =
    let connections = c.first-connections.result.now in
    let told = c.loop-closed.journal in
    let Tells : Closed → Journal g.row.T.Denot → Journal g.row.T.Denot → Type 0 = TellsShutOne g.T.LineLog.logged c.args.now c.args.second c.args.request_bytes in
    let all : length connections ≤ c.loop-closed.closed-index = omega arith in (
      told,
      subst (λ cs. Along Tells cs c.args.journal.now told) c.first-connections.ensures
          (along_all Tells connections c.loop-closed.closed-index c.args.journal.now told all c.loop-closed.invariant),
      c.count_shut.ensures ∙ ap (λ n. record told { shut = with_more n told.shut }) c.more.ensures,
    )
