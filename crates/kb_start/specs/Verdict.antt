-- Whether a start goes on.
use Rattle.std.specs.Prelude.{◌&&◌, nat_lt, not, length, Option, Some, None, if◌then◌else◌}
use Rattle.kb_start.specs.declared.losses.Surveyed.{Surveyed}
use Rattle.kb_start.specs.declared.verdict.Consent.{Consent}
use Rattle.kb_start.specs.declared.verdict.Cause.{Cause}
use Rattle.kb_start.specs.declared.verdict.Cause.TheVariants.{Damage, Strays}

-- A start is refused exactly where whole batches would be lost, or files are in the way, and nobody agreed to that.
abbrev pub why_refused : Consent → Surveyed → Option Cause
why_refused consent survey =
    if nat_lt 0 (length survey.losses.items) && not consent.drop_damaged then Some Damage
    else (if nat_lt 0 survey.strays.unfit && not consent.accept_strays then Some Strays else None)
