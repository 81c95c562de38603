use Rattle.std.proofs.Common.{◌≡◌, ◌∙◌, true, false, sym, ap, subst}
use Rattle.std.specs.List.{filter}
use Rattle.kb_store.specs.Disk.{IsThere, Removes}
use Rattle.kb_store.specs.LossLaws.{same_dropped}
use Rattle.kb_durable.specs.Durable.{disk_left, disk_of, stays_torn}
use Rattle.kb_durable.specs.Waiting.{AreThere}
use Rattle.kb_durable.proofs.Left.{there_push}
use Rattle.kb_durable.proofs.Seen.{removed_seen}
use Rattle.kb_durable.proofs.durable.DurableStoreStore.remove.Goals as goal

pub returns-in_err-push_back-clause-loss : goal.returns-in_err-push_back-clause-loss
returns-in_err-push_back-clause-loss g c =
    same_dropped g.S.Store.loss c.args.file c.args.self.now.store c.self.inside.store (ap (λ v. v.store) c.self.view_is)

pub invariant_of-self-2 : goal.invariant_of-self-2
invariant_of-self-2 g c =
    let s = c.self.inside in
    let t = (g.S.Store.disk s.store).table in
    let there = subst (λ v. IsThere (disk_of g.S.Store.disk v) c.args.file) (sym c.self.view_is) c.requires in
    record {
      there = subst (λ l. AreThere l t) (sym c.in_ok-push_back.ensures.items) (there_push s.waiting.items c.args.file t c.self.invariant.there there);
      synced = c.self.invariant.synced;
      whole = λ no'. c.mend.ensures ∙ ap (filter (stays_torn c.args.file 0)) (c.self.invariant.whole no');
      never = λ never. absurd (let e : true ≡ false = sym c.if-not-self.false ∙ never in cc);
    }

pub returns-clause-removed : goal.returns-clause-removed
returns-clause-removed g c =
    let s = c.self.inside in
    let d = g.S.Store.disk s.store in
    subst (λ v. Removes (disk_of g.S.Store.disk v) c.args.file (disk_left c.push_back.new.self.items s.refused d)) c.self.view_is
    (removed_seen s.waiting.items c.push_back.new.self.items s.refused d c.args.file c.in_ok-push_back.ensures.items)

pub returns-clause-loss : goal.returns-clause-loss
returns-clause-loss g c =
    same_dropped g.S.Store.loss c.args.file c.args.self.now.store c.self.inside.store (ap (λ v. v.store) c.self.view_is)
