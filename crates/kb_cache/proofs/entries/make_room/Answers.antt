use Rattle.std.proofs.Common.{◌∙◌, ◌<◌, ◌⊎◌, ◌-◌, inl, inr, length, ap, sym, arith}
use Rattle.std.proofs.lemmas.List.{length-map}
use Rattle.kb_cache.specs.Kept.{latest, seen, total}
use Rattle.kb_cache.proofs.Seen.{latest_all, latest_less, seen_one}
use Rattle.kb_cache.proofs.entries.make_room.Goals as goal
use Rattle.kb_cache.proofs.entries.make_room.Goals.{then-len-get, else-len-get+then-bytes-most_bytes}

pub loop-entries-preserved : goal.loop-entries-preserved
loop-entries-preserved c =
    let es = c.loop-entries.entries.entries in
    let n = c.args.entries.now.cap - 1 in
    let room = c.args.most_bytes - c.args.size in
    let over : (n < length (seen es)) ⊎ (room < total (seen es)) = elim c.if-len-get.branch [
      | then-len-get w ↦ inl (omega (arith, length-map es seen_one, c.len.ensures.len, c.len.ensures.valid.2, c.len.ensures.valid.1, c.cap.ensures, c.get.ensures.value, c.loop-entries.invariant.cap))
      | else-len-get+then-bytes-most_bytes w ↦ inr (omega (arith, c.loop-entries.invariant.counted))
    ] in
    record {
      counted = c.drop_last.ensures.counted;
      latest = ap (latest n room) c.drop_last.ensures.entries ∙ latest_less n room (seen es) over ∙ c.loop-entries.invariant.latest;
      cap = c.drop_last.ensures.cap ∙ c.loop-entries.invariant.cap;
    }

pub returns-clause-entries : goal.returns-clause-entries
returns-clause-entries c =
    let es = c.loop-entries.entries.entries in
    let few = length-map es seen_one in
    sym (latest_all (c.args.entries.now.cap - 1) (c.args.most_bytes - c.args.size) (seen es)
    (omega (arith, few, c.len.ensures.len, c.if-len-get.false, c.cap.ensures, c.get.ensures.value, c.loop-entries.invariant.cap))
    (omega (arith, c.loop-entries.invariant.counted)))
    ∙ c.loop-entries.invariant.latest
