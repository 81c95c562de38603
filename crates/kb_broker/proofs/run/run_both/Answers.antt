use Rattle.std.specs.Prelude.{map}
use Rattle.kb_isolation_spec.proofs.Isolation.{sent-alike}
use Rattle.kb_broker.specs.Runs.{happenings, sent_of}
use Rattle.kb_broker.proofs.Alone.{written-alone}
use Rattle.kb_broker.proofs.run.run_both.Goals as goal

pub returns : goal.returns
returns g c = record {
  alike = λ h k t q. sent-alike t (happenings c.args.events.now) (happenings c.args.others.now) c.args.first.now.state c.run.new.self.state c.args.second.now.state c.run-2.new.self.state
      (map sent_of c.in_ok-got.got.items) (map sent_of c.in_ok-others_got.others_got.items) (c.in_ok-got.ensures.headline h) (c.in_ok-others_got.ensures.headline k) q;
  alone = λ h k t own fewer first second. written-alone t (happenings c.args.events.now) (happenings c.args.others.now) c.args.first.now.state c.run.new.self.state c.args.second.now.state c.run-2.new.self.state
      c.in_ok-got.got.items c.in_ok-others_got.others_got.items fewer (c.in_ok-got.ensures.headline h) (c.in_ok-others_got.ensures.headline k) c.in_ok-others_got.ensures.connections own first second;
}
