use Rattle.std.proofs.Common.{◌≡◌, ◌∙◌, ℕ, List, sym, ap}
use Rattle.std.specs.Prelude.{is_some}
use Rattle.std.specs.BTreeMap.{get_by}
use Rattle.std.specs.Cmp.Lexicographic.{slice_cmp}
use Rattle.std.specs.Ordering.{nat_cmp}
use Rattle.std.proofs.lemmas.Map.Text.{btree_map_updates_str}
use Rattle.kb_tenant.proofs.Repeats.{seen_more, again_more, first_more}
use Rattle.kb_tenant.proofs.repeated.Repeated.among.Goals as goal
use Rattle.kb_tenant.proofs.repeated.Repeated.among.Goals.{then-is_some+in_ok-insert-2, else-is_some}

pub loop-topic-preserved : goal.loop-topic-preserved
loop-topic-preserved c =
    let i = c.loop-topic.topic-index in
    let before = λ (q : List ℕ). get_by (λ k. slice_cmp nat_cmp q k.now) c.loop-topic.seen in
    let seen = λ (q : List ℕ). get_by (λ k. slice_cmp nat_cmp q k.now) c.insert.new.self in
    let old = λ (q : List ℕ). get_by (λ k. slice_cmp nat_cmp q k.now) c.loop-topic.names in
    let names = λ (q : List ℕ). get_by (λ k. slice_cmp nat_cmp q k.now) c.if-is_some.names in
    let name = c.as_str-name.result.now in
    let v = c.loop-topic.invariant in
    let was : c.is_some.result ≡ is_some (before name) = c.is_some.ensures ∙ ap is_some c.in_ok-insert.ensures.old in
    record {
      seen = seen_more before seen c.args.topics.now i c.topic-item.result name tt c.loop-topic-test.true c.topic-item.is c.as_str-name.ensures v.seen
          (btree_map_updates_str name c.loop-topic.seen c.insert.new.self _ c.in_ok-insert.ensures.updates);
      again = elim c.if-is_some.branch [
        | then-is_some+in_ok-insert-2 w ↦ again_more before old names c.args.topics.now i c.topic-item.result name tt c.loop-topic-test.true c.topic-item.is c.as_str-name.ensures
            (sym was ∙ w.if-is_some.true) v.seen v.again
            (λ q. ap (λ m. get_by (λ k. slice_cmp nat_cmp q k.now) m) w.names-is ∙ btree_map_updates_str name c.loop-topic.names w.insert-then-is_some.new.self _ w.in_ok-insert-2.ensures.updates q)
        | else-is_some w ↦ λ q. ap (λ m. is_some (get_by (λ k. slice_cmp nat_cmp q k.now) m)) w.names-is
            ∙ first_more before old c.args.topics.now i c.topic-item.result name c.loop-topic-test.true c.topic-item.is c.as_str-name.ensures (sym was ∙ w.if-is_some.false) v.seen v.again q
      ];
    }
