use Rattle.std.proofs.Common.{◌∙◌, arith}
use Rattle.std.proofs.lemmas.Grind.{common_steps}
use Rattle.kb_tenant.proofs.Framing.{is_framed}
use Rattle.kb_tenant.proofs.answer.set_size.Goals as goal

pub returns-clause-placed : goal.returns-clause-placed
returns-clause-placed c = grind (arith, common_steps)

pub returns-clause-whole : goal.returns-clause-whole
returns-clause-whole c = λ id body is. returns-clause-placed c ∙ is_framed id body c.args.bytes.now is
