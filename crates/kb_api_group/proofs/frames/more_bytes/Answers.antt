use Rattle.kb_api_group.proofs.Streams.{more_bytes}
use Rattle.kb_api_group.proofs.frames.more_bytes.Goals as goal

pub returns : goal.returns
returns c = more_bytes
