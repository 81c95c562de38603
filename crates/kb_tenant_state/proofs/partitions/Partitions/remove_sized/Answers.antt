use Rattle.std.proofs.Common.{◌∙◌, Ok, subst, sym}
use Rattle.std.specs.Prelude.{IfSome, IsSome}
use Rattle.kb_tenant_state.specs.Gone.{Went}
use Rattle.kb_tenant_state.specs.Logs.{without_logs}
use Rattle.kb_tenant_state.specs.Partitions.{OwnedBy, scene}
use Rattle.kb_tenant_state.specs.Scene.{WhereHonest}
use Rattle.kb_tenant_state.specs.Stored.{bytes_in_all}
use Rattle.kb_tenant_state.proofs.Gone.{known_calm, looked_frame, looked_given, looked_logs, looked_removed, looked_settles, on_calm}
use Rattle.kb_tenant_state.proofs.Sized.{look_frame, no_look}
use Rattle.kb_tenant_state.proofs.partitions.Partitions.remove_sized.Goals as goal

pub remove-removed-requires : goal.remove-removed-requires
remove-removed-requires g c =
    let disk = g.S.Store.disk in
    let before = c.args.shelf.now in
    let after = c.topic_size-before.new.shelf in
    (look_frame g.L.PartitionLog.log c.args.self.now.topics.entries (disk before.store) before.next (disk after.store) after.next c.requires c.topic_size-before.ensures.looks).sound

pub returns-clause-frame : goal.returns-clause-frame
returns-clause-frame g c =
    let disk = g.S.Store.disk in
    let s0 = c.args.shelf.now in
    let s1 = c.topic_size-before.new.shelf in
    let s2 = c.remove-removed.new.shelf in
    looked_frame g.L.PartitionLog.log c.args.self.now.topics.entries c.remove-removed.new.self.topics.entries (disk s0.store) (disk s1.store) (disk s2.store) (disk s2.store) s0.next s1.next s2.next s2.next
    c.requires c.topic_size-before.ensures.looks c.remove-removed.ensures.frame (no_look (disk s2.store) s2.next)

pub returns-clause-settled : goal.returns-clause-settled
returns-clause-settled g c = λ calm.
    let disk = g.S.Store.disk in
    let s0 = c.args.shelf.now in
    let s1 = c.topic_size-before.new.shelf in
    let s2 = c.remove-removed.new.shelf in
    looked_settles g.L.PartitionLog.log c.args.self.now.topics.entries c.remove-removed.new.self.topics.entries (disk s0.store) (disk s1.store) (disk s2.store) (disk s2.store) s0.next s1.next s2.next s2.next
    c.requires c.topic_size-before.ensures.looks c.remove-removed.ensures.frame (no_look (disk s2.store) s2.next)
    (on_calm c.topic_size-before.result c.remove-removed.result (Ok 0) c.remove-removed.ensures.settled (sym c.gone_by.ensures.refused ∙ calm))

pub returns-clause-removed : goal.returns-clause-removed
returns-clause-removed g c =
    let disk = g.S.Store.disk in
    let s0 = c.args.shelf.now in
    let s1 = c.topic_size-before.new.shelf in
    let s2 = c.remove-removed.new.shelf in
    looked_logs g.L.PartitionLog.log c.args.self.now.topics.entries c.remove-removed.new.self.topics.entries (disk s0.store) (disk s1.store) (disk s2.store) (disk s2.store) s0.next s1.next s2.next s2.next
    c.requires c.topic_size-before.ensures.looks c.remove-removed.ensures.frame (no_look (disk s2.store) s2.next)
    (without_logs c.args.instance) c.remove-removed.ensures.removed

pub returns-clause-lost : goal.returns-clause-lost
returns-clause-lost g c =
    let disk = g.S.Store.disk in
    let log = g.L.PartitionLog.log in
    let s0 = c.args.shelf.now in
    let s1 = c.topic_size-before.new.shelf in
    let s2 = c.remove-removed.new.shelf in
    let a = scene log disk c.args.self.now s0 in
    let b = scene log disk c.remove-removed.new.self s2 in
    subst (λ o. IfSome o (λ n. WhereHonest a b (Went (bytes_in_all a.state) (bytes_in_all b.state) n))) (sym c.gone_by.ensures.bytes)
    (looked_removed log c.args.self.now.topics.entries c.remove-removed.new.self.topics.entries (disk s0.store) (disk s1.store) (disk s2.store) (disk s2.store) s0.next s1.next s2.next s2.next
    c.requires c.topic_size-before.ensures.looks c.remove-removed.ensures.frame (no_look (disk s2.store) s2.next)
    c.args.instance (returns-clause-removed g c) c.topic_size-before.result c.topic_size-before.ensures.size)

pub returns-clause-known : goal.returns-clause-known
returns-clause-known g c = λ calm.
    subst (λ o. IsSome o) (sym c.gone_by.ensures.bytes) (known_calm c.topic_size-before.result c.remove-removed.result (Ok 0) (sym c.gone_by.ensures.refused ∙ calm))

pub returns-clause-writes : goal.returns-clause-writes
returns-clause-writes g c =
    let disk = g.S.Store.disk in
    let s0 = c.args.shelf.now in
    let s1 = c.topic_size-before.new.shelf in
    let s2 = c.remove-removed.new.shelf in
    looked_given g.L.PartitionLog.log c.args.self.now.topics.entries c.remove-removed.new.self.topics.entries (disk s0.store) (disk s1.store) (disk s2.store) (disk s2.store) s0.next s1.next s2.next s2.next
    c.requires c.topic_size-before.ensures.looks c.remove-removed.ensures.frame (no_look (disk s2.store) s2.next)
    (OwnedBy g.L.PartitionLog.log c.args.instance c.args.self.now.topics.entries) c.remove-removed.ensures.writes
