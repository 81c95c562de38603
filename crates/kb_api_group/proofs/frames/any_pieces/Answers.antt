use Rattle.kb_api_group.proofs.Streams.{run_splits, same_frames}
use Rattle.kb_api_group.proofs.frames.any_pieces.Goals as goal

pub returns-clause-split : goal.returns-clause-split
returns-clause-split c = run_splits

pub returns-clause-same : goal.returns-clause-same
returns-clause-same c = same_frames
