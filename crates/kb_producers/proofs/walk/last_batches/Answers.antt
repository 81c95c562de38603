use Rattle.std.proofs.Common.{◌≡◌, ◌∙◌, ◌<◌, ◌-◌, ◌++◌, ◌∷◌, [], suc, length, map, take, reverse, sym, ap, arith}
use Rattle.std.proofs.lemmas.List.{length-map, length-take}
use Rattle.kb_producers.specs.Recent.{recent_of}
use Rattle.kb_producers.specs.Table.{kept_from, newest_place}
use Rattle.kb_producers.specs.Verdict.{batches_of, newest_of}
use Rattle.kb_producers.proofs.Places.{place_le, place_within, batches_within, place_led, place_next, turn_on}
use Rattle.kb_producers.proofs.walk.last_batches.Goals as goal

pub loop-turn-init : goal.loop-turn-init
loop-turn-init c =
    let id = c.args.batch.producer_id in
    let kept = map kept_from c.args.links.now.items in
    record {
      in_list = omega (arith, c.requires.newest, place_le id kept, length-map c.args.links.now.items kept_from);
      len = c.none-recent.ensures.len;
      place = ap (λ n. newest_place id (take n kept)) c.requires.newest ∙ place_within id kept ∙ sym c.requires.newest;
      batches = ap (λ r. r ++ take 5 (reverse (batches_of id (take c.args.newest kept)))) c.none-recent.ensures.none
          ∙ ap (λ xs. take 5 (reverse xs)) (ap (λ n. batches_of id (take n kept)) c.requires.newest ∙ batches_within id kept);
    }

pub loop-turn-preserved : goal.loop-turn-preserved
loop-turn-preserved c =
    let links = c.args.links.now.items in
    let id = c.args.batch.producer_id in
    let kept = map kept_from links in
    let before = c.loop-turn.invariant in
    let at = c.loop-turn.place in
    let m = at - 1 in
    let one : at ≡ suc m = omega arith in
    let lt : m < length links = omega (arith, before.in_list) in
    let l = c.index.result.now in
    let place : newest_place id (take (suc m) kept) ≡ suc m = ap (λ n. newest_place id (take n kept)) (sym one) ∙ before.place ∙ one in
    let leads : c.saturating_sub-place.result ≡ newest_place id (take m kept) = c.saturating_sub-place.ensures ∙ ap (λ n. n - l.before) one ∙ place_led links id m l lt c.index.ensures c.requires.linked place in
    record {
      in_list = omega (arith, leads, place_le id (take m kept), length-take m kept, length-map links kept_from);
      len = omega (arith, c.with_older-recent.ensures.len, before.len);
      place = place_next id kept m (kept_from l) (omega (arith, lt, length-map links kept_from)) c.saturating_sub-place.result leads;
      batches = turn_on links id m l lt c.index.ensures c.loop-turn._turn c.saturating_sub-place.result (recent_of c.loop-turn.recent) (recent_of c.with_older-recent.result) (newest_of id kept)
          (omega arith) place leads (c.with_older-recent.ensures.added ∙ ap (λ k. recent_of c.loop-turn.recent ++ k ∷ []) c.kept.ensures)
          (ap (λ n. recent_of c.loop-turn.recent ++ take (5 - c.loop-turn._turn) (reverse (batches_of id (take n kept)))) (sym one) ∙ before.batches);
    }
