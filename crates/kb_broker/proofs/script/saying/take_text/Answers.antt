use Rattle.std.proofs.Common.{◌≡◌, ◌+◌, ◌++◌, ◌&&◌, ◌<◌, not, false, length, take, get_or, refl, sym, ◌∙◌, ap, arith, rules, add-one, append-nil}
use Rattle.kb_isolation_spec.specs.Machine.{Sent, sent}
use Rattle.kb_connection.specs.View.{speaks}
use Rattle.kb_broker.specs.Script.{sent_text, step_text}
use Rattle.kb_broker.specs.ScriptRun.{said_since}
use Rattle.kb_broker.proofs.RunDrain.{drained-at, drained-more, drained-sent, drained-silent, taken-silent}
use Rattle.kb_broker.proofs.Heard.{silent-output}
use Rattle.kb_broker.proofs.Honest.{state-is, store-is}
use Rattle.kb_broker.proofs.ScriptSaid.{since-more, got-text, silent-text}
use Rattle.kb_broker.proofs.script.saying.take_text.Goals as goal
use Rattle.kb_broker.proofs.script.saying.take_text.Goals.{then-is_shut, else-is_shut}

pub loop-i-preserved : goal.loop-i-preserved
loop-i-preserved g c =
    let old = c.args.broker.now.state in
    let b = c.loop-i.broker.state in
    let i = c.loop-i.i in
    let v = c.loop-i.invariant in
    let marks = c.args.were_shut.now in
    let rising = c.requires.ready.sound.rising in
    let l = c.index-connections-i.result in
    let w : Sent = record { number = c.number-number.result; bytes = c.take_output-output.result.items; shut = c.is_shut.result; why = l.session.why } in
    let lt : i < length old.lines = (let h = v.end in let t = c.loop-i-test.true in omega arith) in
    let a = drained-at b old i l c.connections.result.now lt v.state c.connections.ensures.lines c.index-connections-i.is in
    let got : w ≡ sent l = drained-sent b old i l w rising a v.state c.number-number.ensures c.take_output-output.ensures.output c.is_shut.ensures refl in
    let marked : c.if-is_shut.is_shut ≡ (c.is_shut.result && not (get_or marks i false)) = elim c.if-is_shut.branch [ then-is_shut w ↦ search rules | else-is_shut w ↦ search rules ] in
    let spelled : c.in_ok-answer.answer.items ≡ sent_text w.number w.bytes (c.is_shut.result && not (get_or marks i false)) = search rules in
    let before = step_text (said_since (take i marks) (take i old.lines)) in
    let more : before ++ sent_text w.number w.bytes (c.is_shut.result && not (get_or marks i false)) ≡ step_text (said_since (take (i + 1) marks) (take (i + 1) old.lines)) =
    ap (λ t. before ++ t) (got-text w l (get_or marks i false) got) ∙ rw add-one (sym (since-more i marks old.lines l a (omega (arith, lt, c.requires.places)))) in
    record {
      store = store-is _ _ c.take_output-output.ensures.state ∙ v.store;
      end = v.end;
      state = state-is _ _ c.take_output-output.ensures.state ∙ rw add-one (drained-more b old i c.number-number.result l rising a c.number-number.ensures v.state);
      text = c.in_ok-extend_from_slice.ensures.items ∙ (ap (λ t. t ++ c.deref-in-loop-i.result.now) v.text ∙ (ap (λ t. before ++ t) (c.deref-in-loop-i.ensures.value ∙ spelled) ∙ more));
    }

pub loop-i-preserved-then-not-speaks : goal.loop-i-preserved-then-not-speaks
loop-i-preserved-then-not-speaks g c =
    let old = c.args.broker.now.state in
    let b = c.loop-i.broker.state in
    let i = c.loop-i.i in
    let v = c.loop-i.invariant in
    let marks = c.args.were_shut.now in
    let rising = c.requires.ready.sound.rising in
    let l = c.index-connections-i.result in
    let lt : i < length old.lines = (let h = v.end in let t = c.loop-i-test.true in omega arith) in
    let a = drained-at b old i l c.connections.result.now lt v.state c.connections.ensures.lines c.index-connections-i.is in
    let silent : speaks l.session ≡ false = sym c.speaks.ensures ∙ c.if-not-speaks.true in
    let unsaid = drained-silent b old i l.number l rising a refl v.state (silent-output l.session silent) in
    record {
      store = v.store;
      end = v.end;
      state = sym (taken-silent b l.number c.connections.ensures.ready.sound.rising unsaid) ∙ rw add-one (drained-more b old i l.number l rising a refl v.state);
      text = v.text ∙ sym (rw add-one (since-more i marks old.lines l a (omega (arith, lt, c.requires.places))) ∙ ap (λ t. step_text (said_since (take i marks) (take i old.lines)) ++ t) (silent-text l (get_or marks i false) silent) ∙ append-nil _);
    }
