use Rattle.std.proofs.Common.{◌∙◌}
use Rattle.kb_api_group.proofs.Logins.{is_found, plain-only}
use Rattle.kb_api_group.proofs.plain.read_plain.Goals as goal

pub returns-clause-found : goal.returns-clause-found
returns-clause-found c = is_found c.args.message.now c.read_parts.result c.read_parts.ensures

pub returns-clause-only : goal.returns-clause-only
returns-clause-only c = λ login h. c.read_parts.ensures ∙ plain-only c.args.message.now login h
