use Rattle.std.proofs.Common.{◌<◌, ◌∷◌, [], ℕ, List, arith, length, map, subst, take}
use Rattle.kb_start.specs.declared.losses.Loss.{Loss}
use Rattle.kb_operator.specs.Logged.{TellsBare}
use Rattle.kb_operator.specs.Texts.{loss_line}
use Rattle.kb_operator.proofs.Logged.{bare_both, bare_one}
use Rattle.kb_operator.proofs.Visited.{map_next}
use Rattle.kb_operator.proofs.start.tell_each.Goals as goal

pub loop-loss-preserved : goal.loop-loss-preserved
loop-loss-preserved g c =
    let before = c.loop-loss in
    let losses = c.args.losses.now in
    let i = before.loss-index in
    let item = c.loss-item.result in
    let within : i < length losses = omega arith in
    let line : Loss → List ℕ = loss_line c.args.path.now in
    let old = g.T.LineLog.logged c.args.lines.now in
    let mid = g.T.LineLog.logged before.lines in
    let new = g.T.LineLog.logged c.tell_bare.new.self in
    subst (λ ts. TellsBare ts old new) (map_next line losses i item within c.loss-item.is)
    (bare_both (map line (take i losses)) (line item ∷ []) old mid new before.invariant
    (bare_one (line item) c.loss_text.result mid new c.loss_text.ensures c.tell_bare.ensures))
