use Rattle.std.proofs.Common.{◌≡◌, ◌≤◌, ◌-◌, ◌++◌, length, map, take, reverse}
use Rattle.kb_producers.specs.Recent.{recent_of}
use Rattle.kb_producers.specs.Table.{kept_from, newest_place}
use Rattle.kb_producers.specs.Verdict.{batches_of, newest_of}
use Rattle.kb_producers.proofs.walk.last_batches.Given as goal

-- the batches so far, and those that the links from the place on lead to, are the last five
abbrev pub invariant-loop-turn : goal.invariant-loop-turn
invariant-loop-turn l =
    let id = l.fn.batch.producer_id in
    let kept = map kept_from l.links.items in
    record {
      in_list : l.place ≤ length l.links.items;
      len : l.recent.len ≡ l._turn;
      place : newest_place id (take l.place kept) ≡ l.place;
      batches : recent_of l.recent ++ take (5 - l._turn) (reverse (batches_of id (take l.place kept))) ≡ newest_of id kept;
    }
