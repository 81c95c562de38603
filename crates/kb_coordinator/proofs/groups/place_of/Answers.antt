use Rattle.std.proofs.Common.{◌∙◌, ◌-◌, ◌<◌, arith, bytes_eq, length, sym}
use Rattle.std.proofs.lemmas.Bool.Decides.{nat_tests}
use Rattle.kb_coordinator.proofs.Lists.{above_most, at_index}
use Rattle.kb_coordinator.proofs.Search.{place_missed, place_nowhere, place_there}
use Rattle.kb_coordinator.proofs.groups.place_of.Goals as goal

pub returns-then-above-eq0 : goal.returns-then-above-eq0
returns-then-above-eq0 c = place_nowhere c.args.id.now c.args.groups.now c.first_above-above.result c.requires c.first_above-above.ensures (omega (arith, c.if-above-eq0.true))

pub returns-in_err-entry : goal.returns-in_err-entry
returns-in_err-entry c =
    let below : c.first_above-above.result - 1 < length c.args.groups.now = omega (arith, c.first_above-above.ensures, above_most c.args.id.now c.args.groups.now, c.if-above-eq0.false) in
    let past = c.in_err-entry.ensures.lookup.0 in
    absurd (grind (arith, nat_tests, past, below))

pub returns-then-eq : goal.returns-then-eq
returns-then-eq c =
    let n = c.first_above-above.result in
    let es = c.args.groups.now in
    let e = c.in_ok-entry.entry.now in
    place_there c.args.id.now es n (n - 1) e c.requires c.first_above-above.ensures (omega (arith, c.if-above-eq0.false))
    (at_index es (n - 1) e (omega (arith, c.first_above-above.ensures, above_most c.args.id.now es, c.if-above-eq0.false)) c.in_ok-entry.ensures.lookup.1)
    (sym (c.if-eq.ensures ∙ (λ k. bytes_eq (c.as_slice.ensures k) c.args.id.now)))

pub returns-else-eq : goal.returns-else-eq
returns-else-eq c =
    let n = c.first_above-above.result in
    let es = c.args.groups.now in
    let e = c.in_ok-entry.entry.now in
    place_missed c.args.id.now es n (n - 1) e c.requires c.first_above-above.ensures (omega (arith, c.if-above-eq0.false))
    (at_index es (n - 1) e (omega (arith, c.first_above-above.ensures, above_most c.args.id.now es, c.if-above-eq0.false)) c.in_ok-entry.ensures.lookup.1)
    (sym (c.if-eq.ensures ∙ (λ k. bytes_eq (c.as_slice.ensures k) c.args.id.now)))
