use Rattle.kb_broker.specs.Opening.{tenants_of}
use Rattle.kb_broker.specs.Runs.{happenings}
use Rattle.kb_restart.proofs.FromFiles.{reopened_from, runs_from}
use Rattle.kb_restart.proofs.both.run_from_files.Goals as goal

pub run-requires : goal.run-requires
run-requires g c = runs_from c.args.listing c.args.settings.now c.in-Ok.opened.broker.state (happenings c.args.events.now) c.in-Ok.ensures.fixed c.requires

pub returns-in-Ok-run : goal.returns-in-Ok-run
returns-in-Ok-run g c = record {
  ran = λ h.
      let was = c.in-Ok-run.ensures.later.honest h in
      let opened = c.in-Ok.opened in
      let d = g.S.Store.disk c.args.store in
      record {
        start = opened.broker.state;
        starts = record {
          fixed = c.in-Ok.ensures.fixed;
          found = reopened_from d (g.met.S.Store.lawful c.args.store) ((c.in-Ok.ensures.others was).honest was) (tenants_of c.args.settings.now.users.items) opened.broker.state.tenants (c.in-Ok.ensures.state was);
        };
        calm = c.in-Ok.ensures.calm;
        isolated = c.in-Ok-run.ensures.headline h;
        connections = c.in-Ok-run.ensures.connections;
      };
}
