use Rattle.std.proofs.Common.{◌∙◌, ◌++◌, [], ap, pos}
use Rattle.std.proofs.lemmas.Result.{on_ok_weaker}
use Rattle.kb_api_group.specs.Layouts.{described_group}
use Rattle.kb_coordinator.proofs.describe.put_dead.Goals as goal

pub returns : goal.returns
returns c = on_ok_weaker c.put_no_members.result (λ wrote.
    wrote ∙ c.in_ok-put_front.ensures []
    ∙ (λ k. c.args.sink.now.bytes ++ described_group.written (record { error_code = pos 0; group_id = c.args.id.now; group_state = c.as_bytes.ensures.value k; protocol_type = []; protocol_data = []; members = [] }))) c.put_no_members.ensures
