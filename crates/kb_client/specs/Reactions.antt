-- What a reply calls for, and what each such thing makes of a producer.
use Rattle.std.specs.Prelude.{None, Some}
use Rattle.kb_client.specs.declared.reaction.Reaction.{Reaction}
use Rattle.kb_client.specs.declared.reaction.Reaction.TheVariants as reactions
use Rattle.kb_client.specs.declared.stage.Stage.TheVariants as stages
use Rattle.kb_client.specs.Producer.{Producer, entered, ended, acknowledged}

abbrev pub reacted : Reaction → Producer → Producer
reacted (reactions.Ends ending) p = ended ending p
reacted (reactions.Enters stage) p = entered stage p
reacted (reactions.Created stage) p = entered stage (record p { create = None })
reacted (reactions.Identified producer) p = entered (stages.Produce producer) (record p { producer = Some producer })
reacted (reactions.Stored producer) p = acknowledged producer p.lines p
