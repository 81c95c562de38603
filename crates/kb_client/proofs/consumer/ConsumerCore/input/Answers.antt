use Rattle.kb_client.proofs.Consuming.{input_stands}
use Rattle.kb_client.proofs.consumer.ConsumerCore.input.Goals as goal

pub returns-in-Some : goal.returns-in-Some
returns-in-Some c = input_stands _ _ _ _ _ c.self.view_is c.fault.ensures c.in-Some.is
