use Rattle.std.proofs.Common.{◌∙◌, ◌+◌, ◌-◌, ap, refl, arith}
use Rattle.std.proofs.lemmas.List.{length-map}
use Rattle.kb_cache.specs.Kept.{seen, turned}
use Rattle.kb_cache.proofs.Seen.{seen_one, walk_begins, walk_step, walk_ends}
use Rattle.kb_cache.proofs.entries.drop_behind.Goals as goal

pub loop-init : goal.loop-init
loop-init c =
    let es = c.args.entries.now.entries in
    record {
      counted = c.requires.counted;
      walked = walk_begins c.args.file c.args.len (c.len-count.result - 0) (seen es) (omega (arith, c.len-count.ensures.len, length-map es seen_one));
      cap = refl;
    }

pub turn-requires : goal.turn-requires
turn-requires c = record { counted = c.loop.invariant.counted }

pub loop-preserved : goal.loop-preserved
loop-preserved c =
    let es = c.args.entries.now.entries in
    record {
      counted = c.turn.ensures.counted;
      walked = c.turn.ensures.entries ∙ ap (turned c.args.file c.args.len) c.loop.invariant.walked
          ∙ walk_step c.args.file c.args.len (c.len-count.result - c.loop.counter) (c.len-count.result - (c.loop.counter + 1)) (seen es)
          (omega (arith, c.loop-test.true)) (omega (arith, c.len-count.ensures.len, length-map es seen_one));
      cap = c.turn.ensures.cap ∙ c.loop.invariant.cap;
    }

pub returns-clause-counted : goal.returns-clause-counted
returns-clause-counted c = c.loop.invariant.counted

pub returns-clause-entries : goal.returns-clause-entries
returns-clause-entries c =
    c.loop.invariant.walked
    ∙ walk_ends c.args.file c.args.len (c.len-count.result - c.loop.counter) (seen c.args.entries.now.entries) (omega (arith, c.loop-test.false))

pub returns-clause-cap : goal.returns-clause-cap
returns-clause-cap c = c.loop.invariant.cap
