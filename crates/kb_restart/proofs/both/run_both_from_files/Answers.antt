use Rattle.kb_broker.specs.Runs.{happenings}
use Rattle.kb_restart.proofs.FromFiles.{both_alone}
use Rattle.kb_restart.proofs.both.run_both_from_files.Goals as goal

pub returns : goal.returns
returns g c = record {
  alone = λ h k t name at same own first second.
      let disk = g.S.Store.disk in
      both_alone c.args.listing c.args.settings.now t name (disk c.args.stores.0).files (disk c.args.stores.1).files (happenings c.args.events.now) (happenings c.args.others.now)
      c.in_ok-first.first.broker.state c.in_ok-second.second.broker.state c.in_ok-first.first.written.items c.in_ok-second.second.written.items at same
      (c.in_ok-first.ensures.ran h) (c.in_ok-second.ensures.ran k) own first second;
}
