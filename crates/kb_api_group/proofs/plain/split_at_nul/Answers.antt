use Rattle.std.proofs.Common.{sym, ◌∙◌}
use Rattle.kb_api_group.proofs.Nuls.{at_nul-found, at_nul-none}
use Rattle.kb_api_group.proofs.plain.split_at_nul.Goals as goal

pub returns-in-None : goal.returns-in-None
returns-in-None c = sym (at_nul-none c.args.bytes.now (sym c.in-None.is ∙ c.first_nul.ensures))

pub returns-in-Some : goal.returns-in-Some
returns-in-Some c = sym (at_nul-found c.args.bytes.now c.in-Some.i (sym c.in-Some.is ∙ c.first_nul.ensures))
