use Rattle.std.proofs.Common.{take}
use Rattle.kb_store.specs.Disk.{Appends, AppendsSome}
use Rattle.kb_cache.specs.Cached.{entries_in}
use Rattle.kb_cache.proofs.Right.{grown_right, on_either}
use Rattle.kb_cache.proofs.cached.CachedStore.append_past.Goals as goal

pub invariant_of-self : goal.invariant_of-self
invariant_of-self g c =
    let d = g.S.Store.disk c.self.inside.store in
    let f = g.S.Store.disk c.append.new.self in
    let es = entries_in c.self.inside.entries in
    let lawful = g.met.S.Store.lawful c.self.inside.store in
    record {
      counted = c.self.invariant.counted;
      cap = c.self.invariant.cap;
      within = c.self.invariant.within;
      right = on_either c.append.result (Appends d c.args.file c.args.bytes.now f) (AppendsSome d c.args.file c.args.bytes.now f)
          c.append.ensures.appended c.append.ensures.refused
          (λ b. grown_right d f c.args.file c.args.bytes.now es lawful b c.self.invariant.right)
          (λ some. grown_right d f c.args.file (take some.0 c.args.bytes.now) es lawful some.2 c.self.invariant.right);
    }
