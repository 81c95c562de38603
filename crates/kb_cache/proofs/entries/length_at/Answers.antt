use Rattle.std.proofs.Common.{◌≡◌, ◌∙◌, length, Some, None, ap, sym}
use Rattle.std.specs.Prelude.{option_copied}
use Rattle.std.specs.Map.{lookup}
use Rattle.kb_cache.specs.Kept.{same_place}
use Rattle.kb_cache.proofs.Seen.{found_some, found_none}
use Rattle.kb_cache.proofs.entries.length_at.Goals as goal

pub returns-in-Some : goal.returns-in-Some
returns-in-Some c =
    let es = c.args.entries.now.entries in
    let is : lookup (same_place (c.args.file, c.args.at)) es ≡ Some c.in-Some.bytes.now = sym c.peek.ensures ∙ ap option_copied c.in-Some.is in
    c.len.ensures ∙ c.in-Some.bytes.now.ok.0 ∙ sym (ap length (found_some es c.args.file c.args.at c.in-Some.bytes.now is))

pub returns-in-None : goal.returns-in-None
returns-in-None c =
    let es = c.args.entries.now.entries in
    let is : lookup (same_place (c.args.file, c.args.at)) es ≡ None = sym c.peek.ensures ∙ ap option_copied c.in-None.is in
    sym (ap length (found_none es c.args.file c.args.at is))
