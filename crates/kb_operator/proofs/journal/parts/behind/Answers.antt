use Rattle.std.proofs.Common.{◌∙◌, ◌≤◌, ◌-◌, [], ap, arith, drop, length, sym, take}
use Rattle.std.proofs.lemmas.List.{drop_all, length-drop, take_all}
use Rattle.kb_operator.proofs.journal.parts.behind.Goals as goal

pub returns-then-tenants-gt-TENANTS : goal.returns-then-tenants-gt-TENANTS
returns-then-tenants-gt-TENANTS g c =
    let tenants = c.args.tenants.now in
    let most : length (drop 30 tenants) ≤ length tenants - 30 = omega (arith, length-drop 30 tenants) in
    take_all (length tenants - 30) (drop 30 tenants) most

pub returns-else-tenants-gt-TENANTS : goal.returns-else-tenants-gt-TENANTS
returns-else-tenants-gt-TENANTS g c =
    let tenants = c.args.tenants.now in
    let few : length tenants ≤ 30 = omega arith in
    ap (take (length tenants - length tenants)) (drop_all (length tenants) tenants (omega arith))
    ∙ take_all (length tenants - length tenants) [] (omega arith) ∙ sym (drop_all 30 tenants few)
