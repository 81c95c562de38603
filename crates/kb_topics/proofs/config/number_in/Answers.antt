use Rattle.std.proofs.Common.{◌∙◌}
use Rattle.kb_topics.proofs.Numerals.{number_parsed}
use Rattle.kb_topics.proofs.config.number_in.Goals as goal

pub returns : goal.returns
returns c = c.ok.ensures.value ∙ number_parsed c.args.text.now c.parse.result c.parse.ensures.value.0 c.requires.digits c.requires.some
