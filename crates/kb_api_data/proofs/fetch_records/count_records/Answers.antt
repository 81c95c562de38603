use Rattle.std.proofs.Common.{◌∙◌, arith}
use Rattle.std.proofs.lemmas.Grind.{common_steps}
use Rattle.kb_api_data.proofs.Counting.{counted, counted_v5}
use Rattle.kb_api_data.proofs.fetch_records.count_records.Goals as goal

pub returns-clause-placed : goal.returns-clause-placed
returns-clause-placed c = grind (arith, common_steps)

pub returns-clause-whole : goal.returns-clause-whole
returns-clause-whole c = λ before records front is at. returns-clause-placed c ∙ counted c.args.bytes.now before records front c.args.start is at

pub returns-clause-whole_v5 : goal.returns-clause-whole_v5
returns-clause-whole_v5 c = λ before records front is at. returns-clause-placed c ∙ counted_v5 c.args.bytes.now before records front c.args.start is at
