use Rattle.std.proofs.Common.{◌≤◌, ◌<◌, ◌∙◌, ap, arith, length, refl, subst}
use Rattle.kb_node.specs.Traffic.{Along}
use Rattle.kb_node.specs.declared.news.LoginAttempt.{LoginAttempt}
use Rattle.kb_operator.specs.Logins.{with_more_logins}
use Rattle.kb_operator.specs.declared.journal.Journal.{Journal}
use Rattle.kb_node.proofs.Traffic.{along_all, along_found}
use Rattle.kbroker.specs.Telling.{TellsUser}
use Rattle.kbroker.proofs.telling.tell_logins.Goals as goal

pub loop-attempt-preserved : goal.loop-attempt-preserved
loop-attempt-preserved g c =
    let before = c.loop-attempt in
    let attempts = c.first-attempts.result.now in
    let item = c.attempt-item.result in
    let within : before.attempt-index < length attempts = omega arith in
    let Tells : LoginAttempt → Journal g.row.T.Denot → Journal g.row.T.Denot → Type 0 =
    λ a from to. TellsUser g.T.LineLog.logged c.args.now c.args.second a.address a.login from to in
    along_found Tells attempts attempts before.attempt-index item c.args.journal.now before.journal c.tell_right.new.journal refl within
    before.invariant (subst (λ a. Tells a before.journal c.tell_right.new.journal) c.attempt-item.is c.tell_right.ensures)

pub returns : goal.returns
returns g c =
    let attempts = c.first-attempts.result.now in
    let told = c.loop-attempt.journal in
    let Tells : LoginAttempt → Journal g.row.T.Denot → Journal g.row.T.Denot → Type 0 =
    λ a from to. TellsUser g.T.LineLog.logged c.args.now c.args.second a.address a.login from to in
    let all : length attempts ≤ c.loop-attempt.attempt-index = omega arith in (
      told,
      subst (λ told_of. Along Tells told_of c.args.journal.now told) c.first-attempts.ensures
          (along_all Tells attempts c.loop-attempt.attempt-index c.args.journal.now told all c.loop-attempt.invariant),
      c.count_logins.ensures ∙ ap (λ n. with_more_logins n told) c.more.ensures,
    )
