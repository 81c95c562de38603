use Rattle.std.proofs.Common.{◌≡◌, ◌∙◌, ◌++◌, ◌∷◌, ℕ, List, map, string_bytes, sym, ap}
use Rattle.std.proofs.lemmas.Map.Lookups.{map_keys}
use Rattle.kb_topics.specs.Known.{CommittedOffset}
use Rattle.kb_metrics.specs.Gauges.{groups_at}
use Rattle.kb_metrics.proofs.Groups.{one_more}
use Rattle.kb_metrics.proofs.lag.push_groups.Goals as goal

pub loop-group-preserved : goal.loop-group-preserved
loop-group-preserved c =
    let name = c.as_str.result.now in
    let rest = map (λ (c : List ℕ × CommittedOffset). c.0) (map_keys string_bytes c.loop-group.group-iterator) in
    let more = map (λ (c : List ℕ × CommittedOffset). c.0) (map_keys string_bytes c.next.new.self) in
    let first : rest ≡ name ∷ more =
    ap (λ es. map (λ (c : List ℕ × CommittedOffset). c.0) (map_keys string_bytes es)) c.in-Some.ensures.steps
    ∙ ap (λ n. n ∷ more) (sym c.as_str.ensures.value) in
    record {
      next = tt;
      finite = tt;
      all = one_more (map (λ g. g.now) c.loop-group.groups.items) (map (λ g. g.now) c.push_group.new.groups.items) rest more
          (map (λ g. g.now) c.args.groups.now.items ++ groups_at c.args.partition.now) name c.loop-group.invariant.all first
          c.in_ok-push_group.ensures;
    }
