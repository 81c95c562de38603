use Rattle.std.proofs.Common.{rules, ◌≡◌, ◌∙◌, [], ap}
use Rattle.kb_tenant.specs.declared.answer.Answer.TheVariants as answers
use Rattle.kb_tenant_api.specs.declared.answer.Answer.TheVariants as any
use Rattle.kb_isolation_spec.specs.Tenant.{Records, Group}
use Rattle.kb_isolation_spec.specs.Machine.{Line}
use Rattle.kb_connection.proofs.Answering.{IsNoWait, gives, gives_group, gives_records, less_parked, parked_is, puts_given, puts_group, puts_records, same_limit, same_limit_parked, stage_kept, stage_parked}
use Rattle.kb_connection.proofs.connection.Connection.answer.Goals as goal

pub returns-in-Plain-clause-ok : goal.returns-in-Plain-clause-ok
returns-in-Plain-clause-ok c = λ setup key version head body reaction asks h.
    let no_wait : IsNoWait c.in-Plain.answer = search rules in
    gives setup c.give.result c.args.self.now c.skip.new.self c.give.new.self key version head c.head_in_front-head.result body reaction c.args.answer c.in-Plain.answer c.in-Plain.is no_wait c.skip.ensures c.head_in_front-head.ensures c.give.ensures.ok asks h

pub returns-in-Plain-clause-answered : goal.returns-in-Plain-clause-answered
returns-in-Plain-clause-answered c = λ setup key version head body asks.
    let no_wait : IsNoWait c.in-Plain.answer = search rules in
    puts_given setup c.give.result c.args.self.now c.skip.new.self c.give.new.self key version head c.head_in_front-head.result body c.args.answer c.in-Plain.answer c.in-Plain.is no_wait c.skip.ensures c.head_in_front-head.ensures c.give.ensures.ok asks

pub returns-in-Plain-clause-stage : goal.returns-in-Plain-clause-stage
returns-in-Plain-clause-stage c = stage_kept c.give.result c.args.self.now c.skip.new.self c.give.new.self c.head_in_front-head.result c.in-Plain.answer c.skip.ensures c.give.ensures.ok c.give.ensures.err

pub returns-in-Plain-clause-limit : goal.returns-in-Plain-clause-limit
returns-in-Plain-clause-limit c = same_limit c.give.result c.args.self.now c.skip.new.self c.give.new.self c.head_in_front-head.result c.in-Plain.answer (ap (λ (x : Line). x.session.limit) c.skip.ensures) c.give.ensures.ok c.give.ensures.err

pub returns-in-Rebalance-clause-ok : goal.returns-in-Rebalance-clause-ok
returns-in-Rebalance-clause-ok c = λ setup key version head body reaction asks h.
    gives_group c.args.self.now c.park.new.self head reaction c.args.answer c.in-Rebalance.is
    (parked_is setup c.args.self.now c.park.new.self key version head body Group c.park.ensures.parked c.park.ensures.unshut asks) h

pub returns-in-Rebalance-clause-answered : goal.returns-in-Rebalance-clause-answered
returns-in-Rebalance-clause-answered c = λ setup key version head body asks.
    puts_group c.args.self.now c.park.new.self head c.args.answer c.in-Rebalance.is
    (parked_is setup c.args.self.now c.park.new.self key version head body Group c.park.ensures.parked c.park.ensures.unshut asks)

pub returns-in-Rebalance-clause-number : goal.returns-in-Rebalance-clause-number
returns-in-Rebalance-clause-number c = ap (λ (x : Line). x.number) (c.park.ensures.parked [])

pub returns-in-Rebalance-clause-stage : goal.returns-in-Rebalance-clause-stage
returns-in-Rebalance-clause-stage c = stage_parked c.args.self.now c.park.new.self _ Group (c.park.ensures.parked [])

pub returns-in-Rebalance-clause-limit : goal.returns-in-Rebalance-clause-limit
returns-in-Rebalance-clause-limit c = same_limit_parked c.args.self.now c.park.new.self _ Group (c.park.ensures.parked [])

pub returns-in-Rebalance-clause-shrinks : goal.returns-in-Rebalance-clause-shrinks
returns-in-Rebalance-clause-shrinks c = λ versions asks. less_parked versions c.args.self.now c.park.new.self _ Group (c.park.ensures.parked versions) asks

pub returns-in-Plain-Wait-clause-ok : goal.returns-in-Plain-Wait-clause-ok
returns-in-Plain-Wait-clause-ok c = λ setup key version head body reaction asks h.
    let w = c.in-Plain-Wait in
    let is : c.args.answer ≡ any.Plain (answers.Wait w.deadline w.fetch w.field-0-2) = w.is ∙ ap any.Plain w.field-0-is in
    gives_records c.args.self.now c.park-in-Plain-Wait.new.self head reaction w.deadline w.fetch w.field-0-2 c.args.answer is
    (parked_is setup c.args.self.now c.park-in-Plain-Wait.new.self key version head body (Records w.fetch.version w.fetch.body w.deadline w.fetch.limit) c.park-in-Plain-Wait.ensures.parked c.park-in-Plain-Wait.ensures.unshut asks) h

pub returns-in-Plain-Wait-clause-answered : goal.returns-in-Plain-Wait-clause-answered
returns-in-Plain-Wait-clause-answered c = λ setup key version head body asks.
    let w = c.in-Plain-Wait in
    let is : c.args.answer ≡ any.Plain (answers.Wait w.deadline w.fetch w.field-0-2) = w.is ∙ ap any.Plain w.field-0-is in
    puts_records c.args.self.now c.park-in-Plain-Wait.new.self head w.deadline w.fetch w.field-0-2 c.args.answer is
    (parked_is setup c.args.self.now c.park-in-Plain-Wait.new.self key version head body (Records w.fetch.version w.fetch.body w.deadline w.fetch.limit) c.park-in-Plain-Wait.ensures.parked c.park-in-Plain-Wait.ensures.unshut asks)

pub returns-in-Plain-Wait-clause-number : goal.returns-in-Plain-Wait-clause-number
returns-in-Plain-Wait-clause-number c = ap (λ (x : Line). x.number) (c.park-in-Plain-Wait.ensures.parked [])

pub returns-in-Plain-Wait-clause-stage : goal.returns-in-Plain-Wait-clause-stage
returns-in-Plain-Wait-clause-stage c = stage_parked c.args.self.now c.park-in-Plain-Wait.new.self _ _ (c.park-in-Plain-Wait.ensures.parked [])

pub returns-in-Plain-Wait-clause-limit : goal.returns-in-Plain-Wait-clause-limit
returns-in-Plain-Wait-clause-limit c = same_limit_parked c.args.self.now c.park-in-Plain-Wait.new.self _ _ (c.park-in-Plain-Wait.ensures.parked [])

pub returns-in-Plain-Wait-clause-shrinks : goal.returns-in-Plain-Wait-clause-shrinks
returns-in-Plain-Wait-clause-shrinks c = λ versions asks. less_parked versions c.args.self.now c.park-in-Plain-Wait.new.self _ _ (c.park-in-Plain-Wait.ensures.parked versions) asks
