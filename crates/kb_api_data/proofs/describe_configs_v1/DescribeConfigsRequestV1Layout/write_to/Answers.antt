use Rattle.kb_wire.specs.Sunk.{adds_both, adds_stop}
use Rattle.kb_api_data.specs.Layouts.{describe_configs_request_v1}
use Rattle.kb_api_data.proofs.describe_configs_v1.DescribeConfigsRequestV1Layout.write_to.Goals as goal

pub returns-in_err-write_to : goal.returns-in_err-write_to
unfolding describe_configs_request_v1
returns-in_err-write_to c = adds_stop _ c.in_err-write_to.ensures c.from_residual.ensures.0

pub returns : goal.returns
unfolding describe_configs_request_v1
returns c = adds_both c.in_ok-write_to.ensures c.write_to-2.ensures
