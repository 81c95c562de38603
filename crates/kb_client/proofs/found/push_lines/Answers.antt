use Rattle.std.proofs.Common.{◌≡◌, ◌++◌, take, drop, subst, arith}
use Rattle.std.specs.List.{flat_map}
use Rattle.kb_client.specs.Lines.{line_text}
use Rattle.kb_client.proofs.Walks.{line_added, front_kept}
use Rattle.kb_client.proofs.found.push_lines.Goals as goal

pub loop-record-preserved-in-Continue-1 : goal.loop-record-preserved-in-Continue-1
loop-record-preserved-in-Continue-1 c =
    let all = c.args.text.now.items ++ flat_map line_text (take c.args.given (drop c.args.skipped c.args.records)) in
    record {
      told = line_added c.loop-record.text.items c.push_line.new.text.items all c.in-Some.record c.next.new.self c.loop-record.skipped c.loop-record.given (λ some. omega (arith, some, c.if-skipped-gt0.false)) c.if-given-gt0.true c.in_ok-push_line.ensures.ok (subst (λ left. c.loop-record.text.items ++ flat_map line_text (take c.loop-record.given (drop c.loop-record.skipped left)) ≡ all) c.in-Some.ensures.steps c.loop-record.invariant.told);
      behind = front_kept _ _ _ c.loop-record.invariant.behind c.in_ok-push_line.ensures.behind;
    }
