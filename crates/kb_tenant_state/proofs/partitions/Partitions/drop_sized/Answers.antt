use Rattle.std.proofs.Common.{◌≡◌, ◌∙◌, ℕ, rules, subst, sym, to_z, of_z}
use Rattle.std.specs.Int.{w64}
use Rattle.std.specs.Prelude.{IfSome, IsSome}
use Rattle.kb_batch.specs.Batch.{natural}
use Rattle.kb_log.specs.OnShelf.{no_file}
use Rattle.kb_tenant_state.specs.Gone.{Went}
use Rattle.kb_tenant_state.specs.Logs.{Logs, log_at, without_below}
use Rattle.kb_tenant_state.specs.PartitionCalls.{IsInRange}
use Rattle.kb_tenant_state.specs.Partitions.{AreStarted, Restarts, scene}
use Rattle.kb_tenant_state.specs.Scene.{WhereHonest}
use Rattle.kb_tenant_state.specs.Stored.{bytes_in_all}
use Rattle.kb_tenant_state.proofs.Gone.{known_calm, looked_dropped, looked_frame, looked_given, looked_logs, looked_settles, looked_where, on_calm}
use Rattle.kb_tenant_state.proofs.Retained.{in_range_by}
use Rattle.kb_tenant_state.proofs.Sized.{look_frame}
use Rattle.kb_tenant_state.proofs.partitions.Partitions.drop_sized.Goals as goal

pub drop_to-dropped-requires-clause-sound : goal.drop_to-dropped-requires-clause-sound
drop_to-dropped-requires-clause-sound g c =
    let disk = g.S.Store.disk in
    let before = c.args.shelf.now in
    let after = c.size_at-before.new.shelf in
    (look_frame g.L.PartitionLog.log c.args.self.now.topics.entries (disk before.store) before.next (disk after.store) after.next c.requires.sound c.size_at-before.ensures.looks).sound

pub drop_to-dropped-requires-clause-in_range : goal.drop_to-dropped-requires-clause-in_range
drop_to-dropped-requires-clause-in_range g c =
    let disk = g.S.Store.disk in
    let start : to_z w64 (of_z w64 c.args.start) ≡ c.args.start = search rules in
    let mid = scene g.L.PartitionLog.log disk c.args.self.now c.size_at-before.new.shelf in
    subst (λ z. IfSome (log_at c.args.instance c.args.number mid.state) (λ l. IsInRange l z)) (sym start)
    (in_range_by g.L.PartitionLog.log c.args.self.now.topics.entries c.args.instance c.args.number c.args.start (disk c.args.shelf.now.store).files (disk c.size_at-before.new.shelf.store).files c.requires.in_range)

pub size_at-after-requires : goal.size_at-after-requires
size_at-after-requires g c = c.drop_to-dropped.ensures.frame.sound

pub returns-clause-frame : goal.returns-clause-frame
returns-clause-frame g c =
    let disk = g.S.Store.disk in
    let s0 = c.args.shelf.now in
    let s1 = c.size_at-before.new.shelf in
    let s2 = c.drop_to-dropped.new.shelf in
    let s3 = c.size_at-after.new.shelf in
    looked_frame g.L.PartitionLog.log c.args.self.now.topics.entries c.drop_to-dropped.new.self.topics.entries (disk s0.store) (disk s1.store) (disk s2.store) (disk s3.store) s0.next s1.next s2.next s3.next
    c.requires.sound c.size_at-before.ensures.looks c.drop_to-dropped.ensures.frame c.size_at-after.ensures.looks

pub returns-clause-settled : goal.returns-clause-settled
returns-clause-settled g c = λ calm.
    let disk = g.S.Store.disk in
    let s0 = c.args.shelf.now in
    let s1 = c.size_at-before.new.shelf in
    let s2 = c.drop_to-dropped.new.shelf in
    let s3 = c.size_at-after.new.shelf in
    looked_settles g.L.PartitionLog.log c.args.self.now.topics.entries c.drop_to-dropped.new.self.topics.entries (disk s0.store) (disk s1.store) (disk s2.store) (disk s3.store) s0.next s1.next s2.next s3.next
    c.requires.sound c.size_at-before.ensures.looks c.drop_to-dropped.ensures.frame c.size_at-after.ensures.looks
    (on_calm c.size_at-before.result c.drop_to-dropped.result c.size_at-after.result c.drop_to-dropped.ensures.settled (sym c.gone_by.ensures.refused ∙ calm))

pub returns-clause-started : goal.returns-clause-started
returns-clause-started g c =
    let disk = g.S.Store.disk in
    let s0 = c.args.shelf.now in
    let s1 = c.size_at-before.new.shelf in
    let s2 = c.drop_to-dropped.new.shelf in
    let s3 = c.size_at-after.new.shelf in
    let log = g.L.PartitionLog.log in
    let es = c.args.self.now.topics.entries in
    let es' = c.drop_to-dropped.new.self.topics.entries in
    let start : to_z w64 (of_z w64 c.args.start) ≡ c.args.start = search rules in
    subst (λ z. WhereHonest (scene log disk c.args.self.now s0) (scene log disk c.drop_to-dropped.new.self s3) ((old new : ℕ → ℕ → ℕ) → Restarts old c.args.instance c.args.number (natural z) new → AreStarted log old es → AreStarted log new es')) start
    (looked_where log es es' (disk s0.store) (disk s1.store) (disk s2.store) (disk s3.store) s0.next s1.next s2.next s3.next
    c.requires.sound c.size_at-before.ensures.looks c.drop_to-dropped.ensures.frame c.size_at-after.ensures.looks
    ((old new : ℕ → ℕ → ℕ) → Restarts old c.args.instance c.args.number (natural (to_z w64 (of_z w64 c.args.start))) new → AreStarted log old es → AreStarted log new es') c.drop_to-dropped.ensures.started)

pub returns-clause-dropped : goal.returns-clause-dropped
returns-clause-dropped g c =
    let disk = g.S.Store.disk in
    let s0 = c.args.shelf.now in
    let s1 = c.size_at-before.new.shelf in
    let s2 = c.drop_to-dropped.new.shelf in
    let s3 = c.size_at-after.new.shelf in
    let log = g.L.PartitionLog.log in
    let a = scene log disk c.args.self.now s0 in
    let b = scene log disk c.drop_to-dropped.new.self s3 in
    let start : to_z w64 (of_z w64 c.args.start) ≡ c.args.start = search rules in
    subst (λ z. WhereHonest a b (b.state ≡ without_below c.args.instance c.args.number z (log_at c.args.instance c.args.number a.state) a.state)) start
    (looked_logs log c.args.self.now.topics.entries c.drop_to-dropped.new.self.topics.entries (disk s0.store) (disk s1.store) (disk s2.store) (disk s3.store) s0.next s1.next s2.next s3.next
    c.requires.sound c.size_at-before.ensures.looks c.drop_to-dropped.ensures.frame c.size_at-after.ensures.looks
    (λ (ls : Logs). without_below c.args.instance c.args.number (to_z w64 (of_z w64 c.args.start)) (log_at c.args.instance c.args.number ls) ls) c.drop_to-dropped.ensures.dropped)

pub returns-clause-lost : goal.returns-clause-lost
returns-clause-lost g c =
    let disk = g.S.Store.disk in
    let log = g.L.PartitionLog.log in
    let s0 = c.args.shelf.now in
    let s1 = c.size_at-before.new.shelf in
    let s2 = c.drop_to-dropped.new.shelf in
    let s3 = c.size_at-after.new.shelf in
    let a = scene log disk c.args.self.now s0 in
    let b = scene log disk c.drop_to-dropped.new.self s3 in
    subst (λ o. IfSome o (λ n. WhereHonest a b (Went (bytes_in_all a.state) (bytes_in_all b.state) n))) (sym c.gone_by.ensures.bytes)
    (looked_dropped log c.args.self.now.topics.entries c.drop_to-dropped.new.self.topics.entries (disk s0.store) (disk s1.store) (disk s2.store) (disk s3.store) s0.next s1.next s2.next s3.next
    c.requires.sound c.size_at-before.ensures.looks c.drop_to-dropped.ensures.frame c.size_at-after.ensures.looks
    c.args.instance c.args.number c.args.start (returns-clause-dropped g c) c.size_at-before.result c.size_at-after.result c.size_at-before.ensures.size c.size_at-after.ensures.size)

pub returns-clause-known : goal.returns-clause-known
returns-clause-known g c = λ calm.
    subst (λ o. IsSome o) (sym c.gone_by.ensures.bytes) (known_calm c.size_at-before.result c.drop_to-dropped.result c.size_at-after.result (sym c.gone_by.ensures.refused ∙ calm))

pub returns-clause-writes : goal.returns-clause-writes
returns-clause-writes g c =
    let disk = g.S.Store.disk in
    let s0 = c.args.shelf.now in
    let s1 = c.size_at-before.new.shelf in
    let s2 = c.drop_to-dropped.new.shelf in
    let s3 = c.size_at-after.new.shelf in
    looked_given g.L.PartitionLog.log c.args.self.now.topics.entries c.drop_to-dropped.new.self.topics.entries (disk s0.store) (disk s1.store) (disk s2.store) (disk s3.store) s0.next s1.next s2.next s3.next
    c.requires.sound c.size_at-before.ensures.looks c.drop_to-dropped.ensures.frame c.size_at-after.ensures.looks no_file c.drop_to-dropped.ensures.writes
