use Rattle.kb_operator.specs.Texts.{damage_words}
use Rattle.kb_operator.proofs.texts.damage_words.Goals as goal

pub returns : goal.returns
unfolding damage_words
returns c = c.format.ensures.ok
