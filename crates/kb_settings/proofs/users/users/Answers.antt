use Rattle.std.proofs.Common.{◌≡◌, true, map, rules}
use Rattle.kb_settings.specs.Values.{account_of}
use Rattle.kb_settings.specs.Document.{are_users}
use Rattle.kb_settings.proofs.Entries.{users-fit}
use Rattle.kb_settings.proofs.users.users.Goals as goal

pub returns-then-branch-clause-names : goal.returns-then-branch-clause-names
returns-then-branch-clause-names c =
    let right : are_users (map account_of c.in-Some.users.items) ≡ true = search (rules, c.if-branch.true, c.in_ok-are_users.ensures, c.deref-2.ensures.value) in
    (users-fit c.in-Some.users.items right).2

pub returns-then-branch-clause-tenants : goal.returns-then-branch-clause-tenants
returns-then-branch-clause-tenants c =
    let right : are_users (map account_of c.in-Some.users.items) ≡ true = search (rules, c.if-branch.true, c.in_ok-are_users.ensures, c.deref-2.ensures.value) in
    (users-fit c.in-Some.users.items right).3
