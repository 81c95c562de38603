use Rattle.std.proofs.Common.{◌≡◌, ◌≤◌, ◌<◌, ◌^◌, length, drop, true}
use Rattle.std.specs.List.{list_all}
use Rattle.kb_folder.specs.Names.{is_digit, spelled_from}
use Rattle.kb_folder.proofs.name.digits_of.Given as goal

-- behind the rest the digits so far spell the number
abbrev pub invariant-loop-place : goal.invariant-loop-place
invariant-loop-place l = record {
  len : length l.digits ≡ 20;
  place : l.place ≤ 20;
  digits : list_all is_digit (drop l.place l.digits) ≡ true;
  number : spelled_from l.rest (drop l.place l.digits) ≡ l.number;
  below : l.rest < 10 ^ l.place;
}

abbrev pub decreases-loop-place : goal.decreases-loop-place
decreases-loop-place l = l.place
