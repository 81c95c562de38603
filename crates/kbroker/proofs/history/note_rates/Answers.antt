use Rattle.std.proofs.Common.{◌∙◌, ◌<◌, ◌≤◌, length, arith}
use Rattle.kbroker.proofs.Noted.{at_all, one_more}
use Rattle.kbroker.proofs.history.note_rates.Goals as goal

pub loop-place-preserved : goal.loop-place-preserved
loop-place-preserved g c =
    let lt : c.loop-place.place < length c.args.rates.now = omega (arith, c.loop-place-test.true) in
    one_more c.args.second c.args.edge.now.traffic.items c.args.rates.now c.loop-place.rates c.note_at.new.rates c.loop-place.place _ lt
    c.loop-place.invariant c.traffic_of.ensures c.note_at.ensures

pub returns : goal.returns
returns g c =
    let all : length c.args.rates.now ≤ c.loop-place.place = omega (arith, c.loop-place-test.false) in
    c.loop-place.invariant ∙ at_all c.args.second c.args.edge.now.traffic.items c.args.rates.now c.loop-place.place all
