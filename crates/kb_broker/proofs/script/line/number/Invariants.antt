-- What is left of the digits decides.
use Rattle.std.proofs.Common.{◌≡◌, drop, ◌<◌, ◌^◌, length}
use Rattle.std.specs.Str.{all_ascii_digits}
use Rattle.std.specs.Str.Parse.{digits_value, digits_value_after}
use Rattle.kb_broker.proofs.script.line.number.Given as goal

abbrev pub invariant-loop-c : goal.invariant-loop-c
invariant-loop-c l = record {
  fits : l.value < 2 ^ 64;
  some : 0 < length l.text;
  digits : all_ascii_digits (drop l.c-index l.text) ≡ all_ascii_digits l.text;
  value : digits_value_after 10 l.value (drop l.c-index l.text) ≡ digits_value 10 l.text;
}
