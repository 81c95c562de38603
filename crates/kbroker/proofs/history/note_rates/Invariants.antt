use Rattle.std.proofs.Common.{◌≡◌, take}
use Rattle.kbroker.specs.Server.{noted_each}
use Rattle.kbroker.proofs.history.note_rates.Given as goal

-- what came and went at the places so far is noted
abbrev pub invariant-loop-place : goal.invariant-loop-place
invariant-loop-place g l = l.rates ≡ noted_each l.second (take l.place l.edge.traffic.items) l.fn.rates
