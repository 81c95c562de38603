use Rattle.std.proofs.Common.{◌≤◌, arith, length, sym}
use Rattle.std.proofs.lemmas.List.{length-take-le, take_all}
use Rattle.kb_operator.proofs.journal.parts.first_of.Goals as goal

pub slice_bounds-result-end : goal.slice_bounds-result-end
slice_bounds-result-end g c =
    let more : 30 ≤ length c.args.tenants.now = omega arith in sym (length-take-le 30 c.args.tenants.now more)

pub returns-else-tenants-gt-TENANTS : goal.returns-else-tenants-gt-TENANTS
returns-else-tenants-gt-TENANTS g c =
    let few : length c.args.tenants.now ≤ 30 = omega arith in sym (take_all 30 c.args.tenants.now few)
