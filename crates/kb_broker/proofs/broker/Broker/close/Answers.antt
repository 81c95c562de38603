use Rattle.std.proofs.Common.{◌++◌, refl, sym, ◌∙◌, ap}
use Rattle.std.specs.Prelude.{map}
use Rattle.std.proofs.lemmas.List.{map_push, append-nil}
use Rattle.kb_broker.specs.Runs.{sent_of}
use Rattle.kb_broker.specs.declared.run.Written.{Written}
use Rattle.kb_broker.proofs.RunEvents.{closes-open, closes-closed}
use Rattle.kb_broker.proofs.broker.Broker.close.Goals as goal

pub returns-then-open-clause-written : goal.returns-then-open-clause-written
returns-then-open-clause-written g c =
    let w : Written = record { conn = c.args.conn; bytes = c.disconnect-bytes.result; shut = c.shut-shut.result; why = c.why-why.result } in
    let ws = c.args.written.now.items in
    ap (map sent_of) c.push_reserved.ensures.items
    ∙ (map_push sent_of ws w
    ∙ ap (λ ss. map sent_of ws ++ ss) (closes-open c.args.conn c.args.self.now.state (sent_of w) c.requires.ready.sound (sym c.is_open-open.ensures ∙ c.if-open.true) refl c.disconnect-bytes.ensures.output c.shut-shut.ensures c.why-why.ensures))

pub returns-else-open-clause-written : goal.returns-else-open-clause-written
returns-else-open-clause-written g c =
    let ss = map sent_of c.args.written.now.items in
    sym (ap (λ x. ss ++ x) (closes-closed c.args.conn c.args.self.now.state c.requires.ready.sound (sym c.is_open-open.ensures ∙ c.if-open.false)) ∙ append-nil ss)
