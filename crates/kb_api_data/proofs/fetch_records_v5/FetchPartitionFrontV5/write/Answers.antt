use Rattle.std.proofs.Common.{refl, rules}
use Rattle.std.proofs.lemmas.Result.{on_ok_weaker}
use Rattle.kb_api_data.proofs.Answers.{less, within}
use Rattle.kb_api_data.proofs.AnswersV5.{answer_fits, answer_len, answer_spelled, empty_len}
use Rattle.kb_api_data.proofs.fetch_records_v5.FetchPartitionFrontV5.write.Goals as goal

pub write-requires : goal.write-requires
write-requires c κs = ((refl, tt), answer_fits _ _ _ _ _ c.new.result c.new.ensures)

pub returns-clause-succeeds : goal.returns-clause-succeeds
returns-clause-succeeds c = λ room. c.write.ensures.succeeds (within _ _ _ (answer_len _ _ _ _ _ c.new.result c.new.ensures) room)

pub returns-clause-spelled : goal.returns-clause-spelled
returns-clause-spelled c =
    let f = c.args.self.now in
    λ records small. answer_spelled f.partition f.error_code f.high_watermark f.last_stable_offset f.log_start_offset records (search rules) (search rules) (search rules) (search rules) (search rules) small

pub returns-clause-size : goal.returns-clause-size
returns-clause-size c =
    let f = c.args.self.now in
    empty_len f.partition f.error_code f.high_watermark f.last_stable_offset f.log_start_offset

pub returns-clause-room : goal.returns-clause-room
returns-clause-room c =
    let len = answer_len _ _ _ _ _ c.new.result c.new.ensures in
    on_ok_weaker c.write.result (λ h. less _ _ _ _ len h) c.write.ensures.room
