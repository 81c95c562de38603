-- What a call that gives a producer id out makes of the catalog.
use Rattle.std.proofs.Common.{◌≡◌, ◌<◌, ◌-◌, ◌^◌, ℕ, pos, nat_le, Bool, true, false, Some, None, refl, arith, to_z, of_z}
use Rattle.std.proofs.lemmas.Bool.Decides.{nat_tests}
use Rattle.std.proofs.lemmas.Int.{to_z-of_z}
use Rattle.std.specs.Prelude.{if◌then◌else◌, ◌&&◌}
use Rattle.std.specs.Int.{w64}
use Rattle.std.specs.Ordering.{int_eq}
use Rattle.kb_topics.specs.Commands.{issue_command}
use Rattle.kb_topics.specs.Known.{Known, with_id, is_left, step}
use Rattle.kb_topics.specs.Refusals.{issue_refusal}
use Rattle.kb_topics.specs.declared.fault.CatalogFault.TheVariants as faults

made : (t : Bool) (old new : Known) → (if t then Some (with_id old) else None) ≡ Some new → new ≡ with_id old
made true old new e = let is : Some (with_id old) ≡ Some new = e in cc
made false old new e = absurd cc

pub issued : (old new : Known) → step old (issue_command old) ≡ Some new → new ≡ with_id old
issued old new e = made (int_eq (pos old.issues) (pos old.issues) && is_left old.issues) old new e

few : (n : ℕ) (t : Bool) → nat_le (2 ^ 63 - 1) n ≡ t → (if t then Some faults.UsedUp else None) ≡ None → n < 2 ^ 63
few n true e none = absurd cc
few n false e none = grind (arith, nat_tests)

-- the id is a number of its type
pub issued_id : (k : Known) → issue_refusal k ≡ None → to_z w64 (of_z w64 (pos k.issues)) ≡ pos k.issues
issued_id k none = to_z-of_z w64 (pos k.issues) (record { sfits = few k.issues (nat_le (2 ^ 63 - 1) k.issues) refl none })
