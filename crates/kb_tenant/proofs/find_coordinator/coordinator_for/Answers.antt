use Rattle.std.proofs.Common.{◌∙◌, ◌<◌, ◌^◌, arith, length, subst, sym}
use Rattle.kb_wire.specs.Codec.{int, string}
use Rattle.kb_wire.specs.Fits.{string_fits}
use Rattle.kb_api_group.specs.Layouts.{find_coordinator_reply}
use Rattle.kb_tenant.proofs.find_coordinator.coordinator_for.Goals as goal

pub returns-then-is_group-clause-fits : goal.returns-then-is_group-clause-fits
unfolding find_coordinator_reply int
returns-then-is_group-clause-fits c = (tt, (tt, (subst string.Fits (sym (c.new.ensures ∙ c.as_str.ensures)) c.requires, tt)))

pub returns-clause-fits : goal.returns-clause-fits
unfolding find_coordinator_reply int
returns-clause-fits c =
    (tt, (tt, (string_fits c.new-2.result (subst (λ n. length n < 2 ^ 15) (sym c.new-2.ensures) (omega arith)), tt)))
