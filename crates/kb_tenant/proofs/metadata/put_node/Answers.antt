use Rattle.std.proofs.Common.{rules, ◌≡◌, ◌++◌, sym, subst}
use Rattle.std.specs.Prelude.{pos, false, ◌⊎◌}
use Rattle.std.specs.Ordering.{int_eq}
use Rattle.std.proofs.lemmas.Result.{on_ok_weaker}
use Rattle.kb_tenant.specs.Metadata.{metadata_in, topics_in}
use Rattle.kb_tenant.proofs.Described.{front_v0, front_v1, front_v2, front_later, reply_with}
use Rattle.kb_tenant.proofs.metadata.put_node.Goals as goal

pub returns-in-0 : goal.returns-in-0
returns-in-0 c = λ topics. on_ok_weaker c.put_broker_v0.result (λ wrote.
    let version : c.args.version ≡ pos 0 = search rules in
    subst (λ v. c.put_broker_v0.new.sink.bytes ++ topics_in v topics ≡ c.args.sink.now.bytes ++ metadata_in v (reply_with c.args.node.now topics)) (sym version)
    (front_v0 c.args.node.now topics c.args.sink.now.bytes c.put_broker_v0.new.sink.bytes wrote)) c.put_broker_v0.ensures

pub returns-in-2 : goal.returns-in-2
returns-in-2 c = λ topics. on_ok_weaker c.put_cluster.result (λ wrote.
    let version : c.args.version ≡ pos 2 = search rules in
    subst (λ v. c.put_cluster.new.sink.bytes ++ topics_in v topics ≡ c.args.sink.now.bytes ++ metadata_in v (reply_with c.args.node.now topics)) (sym version)
    (front_v2 c.args.node.now topics c.args.sink.now.bytes c.put_cluster.new.sink.bytes wrote)) c.put_cluster.ensures

pub returns-in_ok-put_i32-in-3 : goal.returns-in_ok-put_i32-in-3
returns-in_ok-put_i32-in-3 c = λ topics. on_ok_weaker c.put_cluster-in-3.result (λ wrote.
    let version : (c.args.version ≡ pos 3) ⊎ ((c.args.version ≡ pos 4) ⊎ ((c.args.version ≡ pos 5) ⊎ (c.args.version ≡ pos 7))) = search rules in
    front_later c.args.node.now topics c.args.version c.args.sink.now.bytes c.put_i32-in-3.new.self.bytes c.put_cluster-in-3.new.sink.bytes version c.in_ok-put_i32-in-3.ensures.ok wrote) c.put_cluster-in-3.ensures

pub returns-in_ok-put_broker-in_default : goal.returns-in_ok-put_broker-in_default
returns-in_ok-put_broker-in_default c = λ topics. on_ok_weaker c.put_i32.result (λ wrote.
    let not0 : int_eq c.args.version (pos 0) ≡ false = search rules in
    let not2 : int_eq c.args.version (pos 2) ≡ false = search rules in
    let not3 : int_eq c.args.version (pos 3) ≡ false = search rules in
    let not4 : int_eq c.args.version (pos 4) ≡ false = search rules in
    let not5 : int_eq c.args.version (pos 5) ≡ false = search rules in
    let not7 : int_eq c.args.version (pos 7) ≡ false = search rules in
    front_v1 c.args.node.now topics c.args.version c.args.sink.now.bytes c.put_broker.new.sink.bytes c.put_i32.new.self.bytes not0 not2 not3 not4 not5 not7 c.in_ok-put_broker-in_default.ensures wrote) c.put_i32.ensures.ok
