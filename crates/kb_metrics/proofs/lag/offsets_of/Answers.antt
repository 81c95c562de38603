use Rattle.std.proofs.Common.{rules, FitsSigned, w64, ◌≡◌, ◌∙◌, ◌++◌, ◌∷◌, [], ℕ, List, length, map, string_bytes, true, sym, ap, arith}
use Rattle.std.proofs.lemmas.Int.{to_z-of_z}
use Rattle.std.proofs.lemmas.Map.Lookups.{map_keys}
use Rattle.kb_metrics.specs.Slots.{is_at}
use Rattle.kb_metrics.proofs.Commits.{are_offsets, one_more}
use Rattle.kb_metrics.proofs.lag.offsets_of.Goals as goal

pub loop-group-preserved : goal.loop-group-preserved
loop-group-preserved c =
    let groups = map (λ g. g.now) c.args.groups.now in
    let name = c.as_str.result.now in
    let rest = map_keys string_bytes c.loop-group.group-iterator in
    let more = map_keys string_bytes c.next.new.self in
    let committed = c.in-Some.committed.now in
    let first : rest ≡ (name, committed) ∷ more =
    ap (map_keys string_bytes) c.in-Some.ensures.steps ∙ ap (λ (n : List ℕ). (n, committed) ∷ more) (sym c.as_str.ensures.value) in
    let yes : c.is_at.result ≡ true = grind (arith, c.if-not-is_at.false) in
    let long : length c.loop-group.offsets.items ≡ c.len-in-loop-group.result = sym (c.len-in-loop-group.ensures ∙ c.loop-group.offsets.ok.0) in
    let at : is_at groups (length c.loop-group.offsets.items) name ≡ true =
    ap (λ i. is_at groups i name) long ∙ sym c.is_at.ensures ∙ yes in
    let fits : FitsSigned w64 c.offset.result = search rules in
    record {
      next = tt;
      finite = tt;
      walked = one_more groups c.args.partition.now.commits rest more c.loop-group.offsets.items c.push.new.self.items name committed
          c.loop-group.invariant.walked first at
          (c.in_ok-push.ensures.items ∙ ap (λ o. c.loop-group.offsets.items ++ o ∷ []) (to_z-of_z w64 c.offset.result fits ∙ c.offset.ensures));
    }

pub returns : goal.returns
returns c =
    are_offsets (map (λ g. g.now) c.args.groups.now) c.args.partition.now c.loop-group.offsets.items
    (map_keys string_bytes c.loop-group.group-iterator) c.requires c.loop-group.invariant.walked
