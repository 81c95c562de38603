use Rattle.std.proofs.Common.{◌≡◌, ◌+◌, ◌++◌, ◌∷◌, [], ◌<◌, length, take, sym, ◌∙◌, ap, arith, add-one, append_assoc}
use Rattle.std.specs.Prelude.{map}
use Rattle.std.proofs.lemmas.List.{map_push, take_more}
use Rattle.kb_isolation_spec.specs.Machine.{sent}
use Rattle.kb_broker.specs.Runs.{sent_of}
use Rattle.kb_broker.specs.declared.run.Written.{Written}
use Rattle.kb_isolation_spec.specs.Calls.{output_taken}
use Rattle.kb_broker.proofs.RunDrain.{drained_to, drained-at, drained-more, drained-sent}
use Rattle.kb_isolation_spec.specs.Broker.{BrokerState}
use Rattle.kb_broker.proofs.Honest.{state-is, store-is, strays-is}
use Rattle.kb_broker.proofs.InFiles.{in-files-same}
use Rattle.kb_broker.proofs.RunEvents.{then-state}
use Rattle.kb_broker.proofs.broker.Broker.drain.Goals as goal

pub loop-i-preserved : goal.loop-i-preserved
loop-i-preserved g c =
    let old = c.args.self.now.state in
    let b = c.loop-i.self.state in
    let i = c.loop-i.i in
    let v = c.loop-i.invariant in
    let state = state-is _ _ v.state in
    let rising = c.requires.ready.sound.rising in
    let l = c.index-connections-i.result in
    let w : Written = record { conn = c.number-conn.result; bytes = c.take_output-bytes.result; shut = c.is_shut-shut.result; why = c.why-why.result } in
    let lt : i < length old.lines = (let h = v.end in let t = c.loop-i-test.true in omega arith) in
    let a = drained-at b old i l c.connections.result.now lt state c.connections.ensures.lines c.index-connections-i.is in
    let got = drained-sent b old i l (sent_of w) rising a state c.number-conn.ensures c.take_output-bytes.ensures.output c.is_shut-shut.ensures c.why-why.ensures.is in
    let first = map sent_of c.args.written.now.items in
    let before = map sent (take i old.lines) in
    let more : before ++ sent l ∷ [] ≡ map sent (take (i + 1) old.lines) =
    sym (ap (map sent) (take_more old.lines i l lt) ∙ (ap (λ k. map sent (take i old.lines ++ k ∷ [])) (sym a.here) ∙ map_push sent (take i old.lines) l)) in
    record {
      end = v.end;
      state = then-state c.args.self.now c.loop-i.self c.take_output-bytes.new.self (drained_to i old) (drained_to (i + 1) old) (output_taken b c.number-conn.result) v.state c.take_output-bytes.ensures.state
          (rw add-one (drained-more b old i c.number-conn.result l rising a c.number-conn.ensures state));
      written = ap (map sent_of) c.push_reserved.ensures.items
          ∙ (map_push sent_of c.loop-i.written.items w
          ∙ (ap (λ ss. ss ++ sent_of w ∷ []) v.written
          ∙ (ap (λ s. (first ++ before) ++ s ∷ []) got
          ∙ (append_assoc first before (sent l ∷ [])
          ∙ ap (λ ss. first ++ ss) more))));
      len = omega (arith, v.len, c.push_reserved.ensures.len);
      capacity = c.push_reserved.ensures.capacity ∙ v.capacity;
    }

pub returns-clause-in_files : goal.returns-clause-in_files
returns-clause-in_files g c =
    let log = g.L.PartitionLog.log in
    let disk = g.S.Store.disk in
    let v = c.loop-i.invariant in
    in-files-same log disk c.args.self.now c.loop-i.self (store-is _ _ v.state) (strays-is _ _ v.state) (ap (λ (x : BrokerState). x.tenants) (state-is _ _ v.state)) c.connections-i-end.ensures.in_files
