use Rattle.std.proofs.Common.{◌≡◌, ◌++◌, ℕ, List, append_assoc, codes, decimal, subst, sym}
use Rattle.std.specs.Prelude.{IfOk, string_bytes}
use Rattle.kb_operator.proofs.journal.lost_ids_text.Goals as goal

-- the words of the line, one behind the other
words : (tenant lost : List ℕ)
    → codes "producer ids that the catalog of tenant " ++ (tenant ++ (codes " had lost: " ++ lost))
    ≡ codes "producer ids that the catalog of tenant " ++ tenant ++ codes " had lost: " ++ lost
words tenant lost = sym (simp append_assoc)

pub returns : goal.returns
returns c =
    subst (λ text. IfOk c.format.result (λ line. string_bytes line ≡ text)) (words c.args.tenant.now (decimal c.args.lost)) c.format.ensures.ok
