use Rattle.std.proofs.Common.{◌≡◌, ◌++◌, take}
use Rattle.kb_broker.specs.Parked.{keys_of}
use Rattle.kb_broker.proofs.parking.push_keys.Given as goal

abbrev pub invariant-loop-place : goal.invariant-loop-place
invariant-loop-place l = l.keys.items ≡ l.fn.keys.items ++ keys_of l.tenant (take l.place-index l.places)
