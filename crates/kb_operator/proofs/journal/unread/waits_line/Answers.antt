use Rattle.std.proofs.Common.{◌≡◌, ◌++◌, ℕ, List, append_assoc, codes, decimal, subst, sym}
use Rattle.std.specs.Prelude.{IfOk, string_bytes}
use Rattle.kb_operator.proofs.journal.unread.waits_line.Goals as goal

-- the words of the line, one behind the other
words : (name bytes : List ℕ)
    → codes "tenant " ++ (name ++ (codes " waits for its readers: " ++ (bytes ++ codes " bytes of replies are not read")))
    ≡ codes "tenant " ++ name ++ codes " waits for its readers: " ++ bytes ++ codes " bytes of replies are not read"
words name bytes = sym (simp append_assoc)

pub returns : goal.returns
returns c =
    subst (λ text. IfOk c.format.result (λ line. string_bytes line ≡ text)) (words c.args.name.now (decimal c.args.bytes)) c.format.ensures.ok
