use Rattle.kb_survey.proofs.CutShort.{checked_whole, told_whole}
use Rattle.kb_survey.proofs.promises.a_whole_batch_is_not_cut_short.Goals as goal

pub returns-clause-told : goal.returns-clause-told
returns-clause-told c = told_whole

pub returns-clause-checked : goal.returns-clause-checked
returns-clause-checked c = checked_whole
