use Rattle.std.proofs.Common.{sym, subst}
use Rattle.kb_store.specs.Disk.{Cuts, Keeps}
use Rattle.kb_cache.specs.Kept.{AreWithin}
use Rattle.kb_cache.specs.Cached.{AreRight, entries_in}
use Rattle.kb_cache.proofs.Right.{cut_right, fewer_right, kept_right, on_either}
use Rattle.kb_cache.proofs.Sums.{within_cut}
use Rattle.kb_cache.proofs.cached.CachedStoreStore.cut.Goals as goal

pub invariant_of-self : goal.invariant_of-self
invariant_of-self g c =
    let d = g.S.Store.disk c.self.inside.store in
    let e = g.S.Store.disk c.cut.new.self in
    let es = entries_in c.self.inside.entries in
    let limits = c.self.inside.limits in
    record {
      counted = c.drop_from.ensures.counted;
      cap = c.drop_from.ensures.cap limits.most_entries c.self.invariant.cap;
      within = subst (λ x. AreWithin limits.most_entries limits.most_bytes x) (sym c.drop_from.ensures.entries)
          (within_cut limits.most_entries limits.most_bytes c.args.file c.args.len es c.self.invariant.within);
      right = subst (λ x. AreRight e x) (sym c.drop_from.ensures.entries)
          (on_either c.cut.result (Cuts d c.args.file c.args.len e) (Keeps d e) c.cut.ensures.cut c.cut.ensures.refused
          (λ b. cut_right d e c.args.file c.args.len es b c.self.invariant.right)
          (λ k. kept_right d e _ k (fewer_right d c.args.file c.args.len es c.self.invariant.right)));
    }
