use Rattle.std.proofs.Common.{◌≡◌, arith, decimal, sym, ap, ◌∙◌, drop, bytes_eq, true≢false}
use Rattle.std.proofs.lemmas.Fmt.{parse-decimal}
use Rattle.std.proofs.lemmas.Cmp.{nat_list_eq_equiv}
use Rattle.kb_groups.proofs.ids.member_number.Goals as goal
use Rattle.kb_groups.proofs.ids.member_number.Goals.{else-number-gt0-via-then-number-gt0+else-is_spelling, else-number-gt0-via-else-number-gt0}

pub returns-in_default-clause-stranger : goal.returns-in_default-clause-stranger
returns-in_default-clause-stranger c = λ n above fits e. c.in_default.ensures (decimal n) e

pub returns-in_default-parse-clause-stranger : goal.returns-in_default-parse-clause-stranger
returns-in_default-parse-clause-stranger c = λ n above fits e.
    c.in_default-parse.not-Ok n (parse-decimal 64 n c.in-Some.digits.now c.parse.result fits fits (ap (drop 2) (sym c.in-Some.ensures ∙ e)) c.parse.ensures.value.0)

pub returns-else-number-gt0-clause-stranger : goal.returns-else-number-gt0-clause-stranger
returns-else-number-gt0-clause-stranger c = λ n above fits e.
    let spelled = ap (drop 2) (sym c.in-Some.ensures ∙ e) in
    let read = sym c.in-Ok.is ∙ parse-decimal 64 n c.in-Some.digits.now c.parse.result fits fits spelled c.parse.ensures.value.0 in
    let same : c.in-Ok.number ≡ n = cc in
    elim c.else-number-gt0.branch [
      | else-number-gt0-via-then-number-gt0+else-is_spelling w ↦ absurd (true≢false (sym (nat_list_eq_equiv.refl (decimal n)) ∙ sym (w.if-is_spelling.ensures ∙ (λ k. bytes_eq (decimal (same k)) (spelled k)))))
      | else-number-gt0-via-else-number-gt0 w ↦ absurd (omega (arith, same, above, w.if-number-gt0.false))
    ]
