use Rattle.std.proofs.Common.{◌≡◌, ◌+◌, ◌-◌, ◌<◌, ◌≤◌, [], length, rules, sym, subst, arith, Err, IfErr, IfSome}
use Rattle.std.proofs.lemmas.List.{nil_from_length}
use Rattle.std.specs.Io.BufRead.{take_through, strip_last}
use Rattle.kb_broker.specs.Hosts.{is_honest}
use Rattle.kb_broker.specs.Script.{here, script, told, course_of}
use Rattle.kb_broker.specs.ScriptRun.{IsLinePlayed, IsBroken, IsEnded, IsStopped}
use Rattle.kb_broker.proofs.ScriptEvents.{if-err, if-err-both}
use Rattle.kb_broker.proofs.ScriptPlay.{Played, played-start, played-more, played-end, played-fault, played-past, played-broken, played-cut, played-stopped, fits-room, rest-done, on-both}
use Rattle.kb_broker.proofs.script.run_script_on.Goals as goal

pub loop-index-init : goal.loop-index-init
loop-index-init g c = record {
  honest = λ h. h;
  ready = c.requires.ready;
  quiet = c.requires.quiet;
  calm = c.requires.calm;
  played = λ _. played-start c.args.broker.now.state (g.R.Read.remaining c.args.reader.now) (g.W.Write.contents c.args.writer.now);
}

pub returns-in_err-next_line-clause-err : goal.returns-in_err-next_line-clause-err
returns-in_err-next_line-clause-err g c honest =
    let held = honest in
    let start = c.loop-index.invariant.honest held in
    let found = played-fault c.args.broker.now.state c.loop-index.broker.state (g.R.Read.remaining c.args.reader.now) (g.R.Read.remaining c.loop-index.reader) (g.W.Write.contents c.args.writer.now) (g.W.Write.contents c.loop-index.writer)
    (c.loop-index.index + 1) c.loop-index.room c.in_err-next_line.field-0.0 (c.requires.calm start) (c.requires.ready start).sound (omega arith) (c.loop-index.invariant.played held) c.in_err-next_line.ensures.fault in
    let was : c.from_residual.result ≡ Err c.in_err-next_line.field-0.0 = search rules in
    subst (λ r. IfErr r (λ fault. IfSome (g.R.Read.remaining c.args.reader.now) (λ text. IsEnded c.args.broker.now.state (script c.args.broker.now.state text) fault (g.W.Write.contents c.args.writer.now) (g.W.Write.contents c.loop-index.writer)))) (sym was) found

pub returns-then-is_empty-clause-ok : goal.returns-then-is_empty-clause-ok
returns-then-is_empty-clause-ok g c honest =
    let held = honest in
    let start = c.loop-index.invariant.honest held in
    let zero : length c.next_line.new.line.items ≡ 0 = search rules in
    let empty : c.next_line.new.line.items ≡ [] = nil_from_length _ zero in
    played-end c.args.broker.now.state c.loop-index.broker.state (g.R.Read.remaining c.args.reader.now) (g.R.Read.remaining c.loop-index.reader) (g.W.Write.contents c.args.writer.now) (g.W.Write.contents c.loop-index.writer)
    (c.loop-index.index + 1) c.loop-index.room (c.requires.calm start) (c.requires.ready start).sound (c.loop-index.invariant.played held)
    (subst (λ x. IfSome (g.R.Read.remaining c.loop-index.reader) (λ ys. x ≡ take_through 10 ys)) empty c.in_ok-next_line.ensures.text)

pub returns-in_err-play_line-clause-err : goal.returns-in_err-play_line-clause-err
returns-in_err-play_line-clause-err g c honest =
    let held = c.play_line.ensures.honest honest in
    let start = c.loop-index.invariant.honest held in
    let some : 0 < length c.next_line.new.line.items = search rules in
    let broken = subst (λ l. IsBroken (course_of (c.loop-index.index + 1) (here c.loop-index.broker.state) (told (strip_last 10 l))) c.in_err-play_line.field-0.0 c.loop-index.broker.state (g.W.Write.contents c.loop-index.writer) (g.W.Write.contents c.play_line.new.writer)) c.deref.ensures.value (c.in_err-play_line.ensures.err honest) in
    let found = played-broken c.args.broker.now.state c.loop-index.broker.state c.next_line.new.line.items (g.R.Read.remaining c.args.reader.now) (g.R.Read.remaining c.loop-index.reader) (g.W.Write.contents c.args.writer.now) (g.W.Write.contents c.loop-index.writer) (g.W.Write.contents c.play_line.new.writer)
    (c.loop-index.index + 1) c.loop-index.room c.in_err-play_line.field-0.0 (c.requires.calm start) (c.requires.ready start).sound (omega arith) c.in_ok-next_line.ensures.sized some (c.loop-index.invariant.played held) c.in_ok-next_line.ensures.text broken in
    let was : c.from_residual-in_err-play_line.result ≡ Err c.in_err-play_line.field-0.0 = search rules in
    subst (λ r. IfErr r (λ fault. IfSome (g.R.Read.remaining c.args.reader.now) (λ text. IsEnded c.args.broker.now.state (script c.args.broker.now.state text) fault (g.W.Write.contents c.args.writer.now) (g.W.Write.contents c.play_line.new.writer)))) (sym was) found

pub loop-index-preserved : goal.loop-index-preserved
loop-index-preserved g c =
    let some : 0 < length c.next_line.new.line.items = search rules in
    let held = c.play_line.ensures.honest in
    let v = c.loop-index.invariant in
    let done = λ (h : is_honest g.S.Store.disk c.play_line.new.broker). subst (λ l. IsLinePlayed (course_of (c.loop-index.index + 1) (here c.loop-index.broker.state) (told (strip_last 10 l))) c.loop-index.broker.state c.play_line.new.broker.state (g.W.Write.contents c.loop-index.writer) (g.W.Write.contents c.play_line.new.writer)) c.deref.ensures.value (c.in_ok-play_line.ensures.ok h) in
    let rest = λ (h : is_honest g.S.Store.disk c.play_line.new.broker). rest-done (course_of (c.loop-index.index + 1) (here c.loop-index.broker.state) (told (strip_last 10 c.next_line.new.line.items))) c.loop-index.broker.state c.play_line.new.broker.state (g.W.Write.contents c.loop-index.writer) (g.W.Write.contents c.play_line.new.writer)
    (record { ready = v.ready (held h); quiet = v.quiet (held h); calm = v.calm (held h) }) (done h) in
    let more = λ (h : is_honest g.S.Store.disk c.play_line.new.broker). played-more c.args.broker.now.state c.loop-index.broker.state c.play_line.new.broker.state c.next_line.new.line.items (g.R.Read.remaining c.args.reader.now) (g.R.Read.remaining c.loop-index.reader) (g.R.Read.remaining c.next_line.new.reader) (g.W.Write.contents c.args.writer.now) (g.W.Write.contents c.loop-index.writer) (g.W.Write.contents c.play_line.new.writer)
    (c.loop-index.index + 1) c.loop-index.room (omega arith) c.in_ok-next_line.ensures.sized some (v.played (held h)) c.in_ok-next_line.ensures.text c.in_ok-next_line.ensures.rest (done h) in
    let size : length c.next_line.new.line.items ≡ c.len-room.result = search rules in
    record {
      honest = λ h. v.honest (held h);
      ready = λ h. (rest h).ready;
      quiet = λ h. (rest h).quiet;
      calm = λ h. (rest h).calm;
      played = λ h. subst (λ n. IfSome (g.R.Read.remaining c.args.reader.now) (λ xs. Played c.args.broker.now.state c.play_line.new.broker.state xs (g.R.Read.remaining c.next_line.new.reader) (g.W.Write.contents c.args.writer.now) (g.W.Write.contents c.play_line.new.writer) (c.loop-index.index + 1 + 1) (c.loop-index.room - n))) size (more h);
    }

pub returns-clause-ok : goal.returns-clause-ok
returns-clause-ok g c honest =
    let held = honest in
    let start = c.loop-index.invariant.honest held in
    on-both c.next_line-2.result _ _ _
    (λ text sized.
    let none : length c.next_line-2.new.line.items ≤ 0 = fits-room _ 0 c.next_line-2.new.line.items sized in
    let empty : c.next_line-2.new.line.items ≡ [] = nil_from_length _ (omega (arith, none)) in
    played-end c.args.broker.now.state c.loop-index.broker.state (g.R.Read.remaining c.args.reader.now) (g.R.Read.remaining c.loop-index.reader) (g.W.Write.contents c.args.writer.now) (g.W.Write.contents c.loop-index.writer)
    (c.loop-index.index + 1) c.loop-index.room (c.requires.calm start) (c.requires.ready start).sound (c.loop-index.invariant.played held)
    (subst (λ x. IfSome (g.R.Read.remaining c.loop-index.reader) (λ ys. x ≡ take_through 10 ys)) empty text))
    c.next_line-2.ensures.text c.next_line-2.ensures.sized

pub returns-clause-err : goal.returns-clause-err
returns-clause-err g c honest =
    let held = honest in
    let start = c.loop-index.invariant.honest held in
    let last : c.loop-index.index ≡ 1000000 = omega arith in
    let played = subst (λ n. IfSome (g.R.Read.remaining c.args.reader.now) (λ xs. Played c.args.broker.now.state c.loop-index.broker.state xs (g.R.Read.remaining c.loop-index.reader) (g.W.Write.contents c.args.writer.now) (g.W.Write.contents c.loop-index.writer) (n + 1) c.loop-index.room)) last (c.loop-index.invariant.played held) in
    if-err c.next_line-2.result _ _
    (λ fault f. played-past c.args.broker.now.state c.loop-index.broker.state (g.R.Read.remaining c.args.reader.now) (g.R.Read.remaining c.loop-index.reader) (g.W.Write.contents c.args.writer.now) (g.W.Write.contents c.loop-index.writer)
    1000001 c.loop-index.room fault (c.requires.calm start) (c.requires.ready start).sound (omega arith) played f)
    c.next_line-2.ensures.fault

-- which lines were played

pub returns-in_err-next_line-clause-stopped : goal.returns-in_err-next_line-clause-stopped
returns-in_err-next_line-clause-stopped g c honest =
    let start = c.loop-index.invariant.honest honest in
    let found = played-cut c.args.broker.now.state c.loop-index.broker.state (g.R.Read.remaining c.args.reader.now) (g.R.Read.remaining c.loop-index.reader) (g.R.Read.remaining c.next_line.new.reader) (g.W.Write.contents c.args.writer.now) (g.W.Write.contents c.loop-index.writer)
    (c.loop-index.index + 1) c.loop-index.room c.loop-index.room c.in_err-next_line.field-0.0 (c.requires.calm start) (c.requires.ready start).sound (c.loop-index.invariant.played honest) c.in_err-next_line.ensures.fault c.in_err-next_line.ensures.stopped in
    let was : c.from_residual.result ≡ Err c.in_err-next_line.field-0.0 = search rules in
    subst (λ r. IfErr r (λ fault. IfSome (g.R.Read.remaining c.args.reader.now) (λ text. IsStopped c.args.broker.now.state text (g.R.Read.remaining c.next_line.new.reader) fault (g.W.Write.contents c.args.writer.now) (g.W.Write.contents c.loop-index.writer)))) (sym was) found

pub returns-in_err-play_line-clause-stopped : goal.returns-in_err-play_line-clause-stopped
returns-in_err-play_line-clause-stopped g c honest =
    let held = c.play_line.ensures.honest honest in
    let start = c.loop-index.invariant.honest held in
    let some : 0 < length c.next_line.new.line.items = search rules in
    let broken = subst (λ l. IsBroken (course_of (c.loop-index.index + 1) (here c.loop-index.broker.state) (told (strip_last 10 l))) c.in_err-play_line.field-0.0 c.loop-index.broker.state (g.W.Write.contents c.loop-index.writer) (g.W.Write.contents c.play_line.new.writer)) c.deref.ensures.value (c.in_err-play_line.ensures.err honest) in
    let found = played-stopped c.args.broker.now.state c.loop-index.broker.state c.next_line.new.line.items (g.R.Read.remaining c.args.reader.now) (g.R.Read.remaining c.loop-index.reader) (g.R.Read.remaining c.next_line.new.reader) (g.W.Write.contents c.args.writer.now) (g.W.Write.contents c.loop-index.writer) (g.W.Write.contents c.play_line.new.writer)
    (c.loop-index.index + 1) c.loop-index.room c.in_err-play_line.field-0.0 (c.requires.calm start) (c.requires.ready start).sound (omega arith) c.in_ok-next_line.ensures.sized some (c.loop-index.invariant.played held) c.in_ok-next_line.ensures.text c.in_ok-next_line.ensures.rest broken in
    let was : c.from_residual-in_err-play_line.result ≡ Err c.in_err-play_line.field-0.0 = search rules in
    subst (λ r. IfErr r (λ fault. IfSome (g.R.Read.remaining c.args.reader.now) (λ text. IsStopped c.args.broker.now.state text (g.R.Read.remaining c.next_line.new.reader) fault (g.W.Write.contents c.args.writer.now) (g.W.Write.contents c.play_line.new.writer)))) (sym was) found

pub returns-clause-stopped : goal.returns-clause-stopped
returns-clause-stopped g c honest =
    let start = c.loop-index.invariant.honest honest in
    let last : c.loop-index.index ≡ 1000000 = omega arith in
    let played = subst (λ n. IfSome (g.R.Read.remaining c.args.reader.now) (λ xs. Played c.args.broker.now.state c.loop-index.broker.state xs (g.R.Read.remaining c.loop-index.reader) (g.W.Write.contents c.args.writer.now) (g.W.Write.contents c.loop-index.writer) (n + 1) c.loop-index.room)) last (c.loop-index.invariant.played honest) in
    if-err-both c.next_line-2.result _ _
    (λ fault f cut. played-cut c.args.broker.now.state c.loop-index.broker.state (g.R.Read.remaining c.args.reader.now) (g.R.Read.remaining c.loop-index.reader) (g.R.Read.remaining c.next_line-2.new.reader) (g.W.Write.contents c.args.writer.now) (g.W.Write.contents c.loop-index.writer)
    1000001 c.loop-index.room 0 fault (c.requires.calm start) (c.requires.ready start).sound played f cut)
    c.next_line-2.ensures.fault c.next_line-2.ensures.stopped
