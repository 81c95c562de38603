use Rattle.std.proofs.Common.{arith}
use Rattle.std.proofs.lemmas.Result.{on_ok_weaker}
use Rattle.kb_api_group.specs.Layouts.{described_member}
use Rattle.kb_coordinator.proofs.Told.{none_written}
use Rattle.kb_coordinator.proofs.Written.{small_count}
use Rattle.kb_coordinator.proofs.describe.put_no_members.Goals as goal

pub put_count-requires : goal.put_count-requires
put_count-requires c = small_count 0 (omega arith)

pub returns : goal.returns
returns c = on_ok_weaker c.put_count.result (λ wrote. none_written described_member c.args.sink.now.bytes c.put_count.new.self.bytes wrote) c.put_count.ensures.ok
