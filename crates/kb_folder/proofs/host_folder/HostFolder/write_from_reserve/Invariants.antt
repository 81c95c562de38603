use Rattle.std.proofs.Common.{◌≡◌}
use Rattle.std.specs.Prelude.{is_some}
use Rattle.kb_folder.specs.Lasting.{IsMinded}
use Rattle.kb_folder.specs.Told.{calls_of}
use Rattle.kb_folder.proofs.host_folder.HostFolder.write_from_reserve.Given as goal

-- nothing was taken yet
abbrev pub invariant-loop-power : goal.invariant-loop-power
invariant-loop-power g l = record {
  same : calls_of l.self-inside.history ≡ l.fn.self.history;
  minds : is_some l.self-inside.host.changed ≡ l.fn.self.syncs;
  minded : IsMinded l.self-inside.host.changed (calls_of l.self-inside.history);
}
