use Rattle.kb_api_group.proofs.Fronts.{is_whole}
use Rattle.kb_api_group.proofs.frames.whole_frame.Goals as goal

pub returns-clause-size : goal.returns-clause-size
returns-clause-size c = λ limit bytes frame rest e. let w = is_whole limit bytes frame rest e in w.size

pub returns-clause-len : goal.returns-clause-len
returns-clause-len c = λ limit bytes frame rest e. let w = is_whole limit bytes frame rest e in w.len
