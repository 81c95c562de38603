use Rattle.std.proofs.Common.{◌≡◌, ◌∙◌, Some, sym, ap, subst, true, false}
use Rattle.std.specs.FinMap as map
use Rattle.kb_survey.specs.Changes.{removes}
use Rattle.kb_survey.specs.Postponed.{Postponing, disk_with}
use Rattle.kb_survey.proofs.Keys.{left_none, left_some}
use Rattle.kb_survey.proofs.postponed.Postponed.left.Goals as goal

pub returns-then-removes : goal.returns-then-removes
returns-then-removes g c = λ has.
    let cs = c.self.inside.put_off.items in
    let d = g.S.Store.disk c.self.inside.store in
    let gone : removes cs c.args.file ≡ true = sym c.removes.ensures ∙ c.if-removes.true in
    left_none cs d.table c.args.file c.self.invariant gone ∙ ap (λ v. map.get (disk_with g.S.Store.disk v).table c.args.file) c.self.view_is

pub returns : goal.returns
returns g c = λ has.
    let cs = c.self.inside.put_off.items in
    let d = g.S.Store.disk c.self.inside.store in
    let stays : removes cs c.args.file ≡ false = sym c.removes.ensures ∙ c.if-removes.false in
    let had = subst (λ (v : Postponing g.row.S.Denot). map.get (g.S.Store.disk v.store).table c.args.file ≡ Some c.args.len) (sym c.self.view_is) has in
    ap Some c.length_after.ensures ∙ left_some cs d.table c.args.file c.args.len c.self.invariant stays had
    ∙ ap (λ v. map.get (disk_with g.S.Store.disk v).table c.args.file) c.self.view_is
