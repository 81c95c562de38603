use Rattle.std.proofs.Common.{◌≡◌, ◌++◌, ℕ, List, append_assoc, codes, decimal, subst, sym}
use Rattle.std.specs.Prelude.{IfOk, string_bytes}
use Rattle.kb_operator.proofs.journal.turned_away_text.Goals as goal

-- the words of the line, one behind the other
words : (count most : List ℕ)
    → codes "connections closed at once: " ++ (count ++ (codes ", since " ++ (most ++ codes " are open")))
    ≡ codes "connections closed at once: " ++ count ++ codes ", since " ++ most ++ codes " are open"
words count most = sym (simp append_assoc)

pub returns : goal.returns
returns c =
    subst (λ text. IfOk c.format.result (λ line. string_bytes line ≡ text)) (words (decimal c.args.count) (decimal c.args.most)) c.format.ensures.ok
