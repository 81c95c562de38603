use Rattle.std.proofs.Common.{◌≡◌, is_some, false, arith}
use Rattle.std.proofs.lemmas.Grind.{common_steps}
use Rattle.kb_groups.specs.Index.{place_of}
use Rattle.kb_groups.proofs.Index.{noted_inserted}
use Rattle.kb_groups.proofs.listed.note_place.Goals as goal

pub returns-in_ok-insert : goal.returns-in_ok-insert
returns-in_ok-insert c =
    let new : is_some (place_of c.args.places.now c.args.name.now) ≡ false = grind (arith, common_steps) in
    noted_inserted c.in_ok-from_slice.field-0.items c.args.name.now c.args.places.now c.insert.new.self c.args.place c.in_ok-insert.ensures.updates c.in_ok-from_slice.ensures.items new
