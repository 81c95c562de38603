use Rattle.kb_segment_tests.proofs.cached.fetched_times.Goals as goal

pub loop-turn-init : goal.loop-turn-init
loop-turn-init g c = c.create-log.ensures.new.sound (g.S.Store.disk c.args.shelf.now.store).table c.args.shelf.now.next
