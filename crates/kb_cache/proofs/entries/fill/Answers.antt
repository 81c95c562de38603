use Rattle.std.proofs.Common.{◌≡◌, ◌∙◌, ◌<◌, ◌+◌, ◌-◌, ◌++◌, length, take, drop, ap, sym, subst, arith, append_assoc, length-drop, length-take}
use borrow.Rule.Slice.PartMut.{put_mid, post_of}
use Rattle.kb_cache.specs.Kept.{cached_at, seen}
use Rattle.kb_cache.proofs.Filling.{Filling, filling_more, stopped_entries, stopped_short}
use Rattle.kb_cache.proofs.entries.fill.Goals as goal

pub returns-then-n-eq0-clause-entries : goal.returns-then-n-eq0-clause-entries
returns-then-n-eq0-clause-entries c =
    let size = length c.args.buffer.now in
    let done = c.loop-done.done in
    let part = take (length c.loop-done.buffer - done) (drop done c.loop-done.buffer) in
    let es = seen c.loop-done.entries.entries in
    let here = cached_at es c.args.file (c.args.at + done) in
    let long : length part ≡ size - done = omega (arith, length-take (length c.loop-done.buffer - done) (drop done c.loop-done.buffer), length-drop done c.loop-done.buffer, c.loop-done.auto.buffer) in
    stopped_entries (seen c.args.entries.now.entries) c.args.file c.args.at size es (seen c.copy_front-n.new.entries.entries) done c.loop-done.buffer (take (length part) here)
    c.loop-done.invariant.filling (omega (arith, c.loop-done-test.true, c.loop-done.auto.buffer)) (ap (λ k. take k here) long) c.copy_front-n.ensures.entries
    (sym c.copy_front-n.ensures.count ∙ c.if-n-eq0.true)

pub returns-then-n-eq0-clause-whole : goal.returns-then-n-eq0-clause-whole
returns-then-n-eq0-clause-whole c =
    let size = length c.args.buffer.now in
    let done = c.loop-done.done in
    let part = take (length c.loop-done.buffer - done) (drop done c.loop-done.buffer) in
    let es = seen c.loop-done.entries.entries in
    let here = cached_at es c.args.file (c.args.at + done) in
    let long : length part ≡ size - done = omega (arith, length-take (length c.loop-done.buffer - done) (drop done c.loop-done.buffer), length-drop done c.loop-done.buffer, c.loop-done.auto.buffer) in
    stopped_short (seen c.args.entries.now.entries) c.args.file c.args.at size es (seen c.copy_front-n.new.entries.entries) done c.loop-done.buffer (take (length part) here)
    c.loop-done.invariant.filling (omega (arith, c.loop-done-test.true, c.loop-done.auto.buffer)) (ap (λ k. take k here) long) c.copy_front-n.ensures.entries
    (sym c.copy_front-n.ensures.count ∙ c.if-n-eq0.true) (omega (arith, c.loop-done-test.true))

pub loop-done-preserved : goal.loop-done-preserved
loop-done-preserved c =
    let size = length c.args.buffer.now in
    let done = c.loop-done.done in
    let part = take (length c.loop-done.buffer - done) (drop done c.loop-done.buffer) in
    let es = seen c.loop-done.entries.entries in
    let here = cached_at es c.args.file (c.args.at + done) in
    let b = take (length part) here in
    let n = c.copy_front-n.result in
    let buffer = put_mid done (length c.loop-done.buffer - done) c.loop-done.buffer c.copy_front-n.new.buffer in
    let behind = post_of done (length c.loop-done.buffer - done) c.loop-done.buffer in
    let long : length part ≡ size - done = omega (arith, length-take (length c.loop-done.buffer - done) (drop done c.loop-done.buffer), length-drop done c.loop-done.buffer, c.loop-done.auto.buffer) in
    let count : n ≡ length b = c.copy_front-n.ensures.count in
    let some : 0 < length b = omega (arith, count, c.if-n-eq0.false) in
    record {
      filling = subst (λ k. Filling (seen c.args.entries.now.entries) c.args.file c.args.at size (seen c.copy_front-n.new.entries.entries) (done + k) buffer) (sym count)
          (filling_more (seen c.args.entries.now.entries) c.args.file c.args.at size es (seen c.copy_front-n.new.entries.entries) done c.loop-done.buffer b
          c.loop-done.invariant.filling (omega (arith, c.loop-done-test.true, c.loop-done.auto.buffer)) (ap (λ k. take k here) long) c.copy_front-n.ensures.entries
          buffer (drop n part ++ behind) some (omega (arith, c.loop-done-test.true))
          (ap (λ x. take done c.loop-done.buffer ++ (x ++ behind)) c.copy_front-n.ensures.copied ∙ ap (λ x. take done c.loop-done.buffer ++ x) (append_assoc b (drop n part) behind)));
      cap = c.copy_front-n.ensures.cap ∙ c.loop-done.invariant.cap;
    }
