use Rattle.std.proofs.Common.{◌<◌, ℕ, List, arith, length}
use Rattle.kb_settings.specs.Values.{account_of}
use Rattle.kb_settings.specs.declared.settings.User.{User}
use Rattle.kb_operator.specs.Shown.{user_line}
use Rattle.kb_operator.proofs.Pushed.{lines_left}
use Rattle.kb_operator.proofs.shown.push_users.Goals as goal

pub loop-user-preserved : goal.loop-user-preserved
loop-user-preserved c =
    let before = c.loop-user in
    let users = c.args.users.now in
    let i = before.user-index in
    let item = c.user-item.result in
    let within : i < length users = omega arith in
    let line : User → List ℕ = λ u. user_line (account_of u) in
    lines_left line users i item before.text.items c.push_user.new.text.items _ within c.user-item.is c.in_ok-push_user.ensures before.invariant
