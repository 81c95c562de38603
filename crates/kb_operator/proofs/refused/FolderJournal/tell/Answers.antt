use Rattle.std.proofs.Common.{inl}
use Rattle.kb_operator.proofs.ToldRefusal.{told_refusal}
use Rattle.kb_operator.proofs.refused.FolderJournal.tell.Goals as goal

pub returns-in-Some-clause-told : goal.returns-in-Some-clause-told
returns-in-Some-clause-told g c =
    inl (told_refusal g.T.LineLog.logged c.now.result c.args.moment c.args.self.now c.in-Some.refusal.call c.in-Some.refusal.file
    c.refusal_text.result c.args.lines.now c.tell.new.self c.refusal_text.ensures c.tell.ensures)
