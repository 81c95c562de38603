use Rattle.std.proofs.Common.{◌≡◌, drop}
use Rattle.std.specs.List.{list_all}
use Rattle.kb_folder.specs.Names.{is_digit, spelled_from}
use Rattle.kb_folder.proofs.name.number_of.Given as goal

-- behind the number so far the bytes left spell what all do
abbrev pub invariant-loop-digit : goal.invariant-loop-digit
invariant-loop-digit l = record {
  digits : list_all is_digit (drop l.digit-index l.digits) ≡ list_all is_digit l.digits;
  number : spelled_from l.number (drop l.digit-index l.digits) ≡ spelled_from 0 l.digits;
}
