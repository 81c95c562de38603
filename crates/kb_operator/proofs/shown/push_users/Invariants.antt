use Rattle.std.proofs.Common.{◌≡◌, ◌++◌, drop, map}
use Rattle.kb_settings.specs.Values.{account_of}
use Rattle.kb_operator.specs.Report.{lines_text}
use Rattle.kb_operator.specs.Shown.{user_line}
use Rattle.kb_operator.proofs.shown.push_users.Given as goal

-- the lines so far, and those that are left
abbrev pub invariant-loop-user : goal.invariant-loop-user
invariant-loop-user l =
    l.text.items ++ lines_text (map (λ u. user_line (account_of u)) (drop l.user-index l.users))
    ≡ l.initial.text.items ++ lines_text (map (λ u. user_line (account_of u)) l.users)
