use Rattle.std.proofs.Common.{◌≡◌, ◌≢◌, ◌++◌, All, length, drop, sym, ap, subst, ◌∙◌, rules, arith, true, Ok, Err, ◌-◌, IfErr, OnErr, IfSome}
use Rattle.std.proofs.lemmas.List.Elements.{All-append}
use Rattle.std.specs.Io.KnownBytes.{Consumes}
use Rattle.std.specs.Io.BufRead.{take_through}
use Rattle.std.proofs.KnownBytes.{starts_with_rest, Consumes-trans}
use Rattle.std.proofs.BufReadLemmas.{Consumes_through}
use Rattle.std.proofs.Output.{if_some_weaken}
use Rattle.kb_broker.specs.Script.{fault_within, IsLengthFault}
use Rattle.kb_broker.specs.ScriptRun.{IsCut}
use Rattle.kb_broker.proofs.ScriptReading.{sized, bad-line, line-fault, cut-more}
use Rattle.kb_broker.proofs.script.reading.next_line.Goals as goal

pub returns-in_err-append_some-clause-fault : goal.returns-in_err-append_some-clause-fault
returns-in_err-append_some-clause-fault g c =
    let i = c.loop.invariant in
    let found = line-fault _ _ c.loop.line.items c.args.number c.args.room (c.min-limit.result - c.len.result) c.in_err-append_some.field-0.0 i.taken i.none (omega arith) (omega arith) (omega arith) c.in_err-append_some.ensures.fault in
    let was : c.from_residual.result ≡ Err c.in_err-append_some.field-0.0 = search rules in
    subst (λ r. IfErr r (λ fault. IfSome (g.R.Read.remaining c.args.reader.now) (λ xs. IsLengthFault (fault_within c.args.number c.args.room (take_through 10 xs)) fault))) (sym was) found

pub returns-in_err-append_some-clause-stopped : goal.returns-in_err-append_some-clause-stopped
returns-in_err-append_some-clause-stopped g c =
    let i = c.loop.invariant in
    let step = c.append_some.ensures in
    let found = cut-more _ _ _ _ _ i.taken i.none step.bytes (step.no_byte_unless_done (search rules)) in
    let was : c.from_residual.result ≡ Err c.in_err-append_some.field-0.0 = search rules in
    subst (λ r. OnErr r (IsCut (g.R.Read.remaining c.args.reader.now) (g.R.Read.remaining c.append_some.new.reader))) (sym was) found

pub returns-then-branch-clause-text : goal.returns-then-branch-clause-text
returns-then-branch-clause-text g c =
    let step = c.append_some.ensures in
    let done : c.append_some.result ≡ Ok true = search rules in
    let read = Consumes_through 10 _ _ _ _ _ c.loop.invariant.taken c.loop.invariant.none step.bytes step.stops (step.done_at_byte_or_end done) (step.end done) in
    let whole = starts_with_rest _ _ step.appends in
    let known = g.R.Read.remaining c.args.reader.now in
    let new = c.append_some.new.line.items in
    let parts = c.loop.line.items ++ drop (length c.loop.line.items) new in
    if_some_weaken known (λ xs. parts ≡ take_through 10 xs) (λ xs. new ≡ take_through 10 xs) (λ xs e. whole ∙ e) read.0

pub returns-then-branch-clause-rest : goal.returns-then-branch-clause-rest
returns-then-branch-clause-rest g c =
    let step = c.append_some.ensures in
    let done : c.append_some.result ≡ Ok true = search rules in
    (Consumes_through 10 _ _ _ _ _ c.loop.invariant.taken c.loop.invariant.none step.bytes step.stops (step.done_at_byte_or_end done) (step.end done)).1

pub returns-then-branch-clause-sized : goal.returns-then-branch-clause-sized
returns-then-branch-clause-sized g c =
    let step = c.append_some.ensures in
    let done : c.append_some.result ≡ Ok true = search rules in
    let whole = starts_with_rest _ _ step.appends in
    let size = ap length whole in
    let is = sized c.args.number c.args.room c.loop.line.items (drop (length c.loop.line.items) c.append_some.new.line.items) (omega arith) (omega (arith, step.within, size)) (omega (arith, step.within, size)) (step.done_at_byte_or_end done) in
    ap (fault_within c.args.number c.args.room) whole ∙ is

pub returns-then-limit-gt-LINE_BYTES-clause-fault : goal.returns-then-limit-gt-LINE_BYTES-clause-fault
returns-then-limit-gt-LINE_BYTES-clause-fault g c =
    let step = c.append_some.ensures in
    let whole = starts_with_rest _ _ step.appends in
    let none = subst (All (λ x. x ≢ 10)) (sym whole) (All-append (λ x. x ≢ 10) _ _ c.loop.invariant.none (step.no_byte_unless_done (search rules))) in
    let taken = subst (Consumes _ _) (sym whole) (Consumes-trans _ _ _ _ _ c.loop.invariant.taken step.bytes) in
    bad-line _ _ c.append_some.new.line.items c.args.number c.args.room taken none (omega (arith, step.within)) (omega (arith, step.within))

pub returns-then-limit-gt-LINE_BYTES-clause-stopped : goal.returns-then-limit-gt-LINE_BYTES-clause-stopped
returns-then-limit-gt-LINE_BYTES-clause-stopped g c =
    let i = c.loop.invariant in
    let step = c.append_some.ensures in
    cut-more _ _ _ _ _ i.taken i.none step.bytes (step.no_byte_unless_done (search rules))

pub loop-preserved : goal.loop-preserved
loop-preserved g c =
    let step = c.append_some.ensures in
    let whole = starts_with_rest _ _ step.appends in record {
      in_line = omega (arith, step.within);
      in_room = omega (arith, step.within);
      none = subst (All (λ x. x ≢ 10)) (sym whole) (All-append (λ x. x ≢ 10) _ _ c.loop.invariant.none (step.no_byte_unless_done (search rules)));
      taken = subst (Consumes _ _) (sym whole) (Consumes-trans _ _ _ _ _ c.loop.invariant.taken step.bytes);
    }
