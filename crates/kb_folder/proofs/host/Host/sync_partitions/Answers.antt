use Rattle.std.proofs.Common.{◌≡◌, subst, rules}
use Rattle.kb_folder.specs.Lasting.{Syncs}
use Rattle.kb_folder.specs.Told.{calls_of}
use Rattle.kb_folder.proofs.Synced.{notes_same, syncs_noted, syncs_on}
use Rattle.kb_folder.proofs.host.Host.sync_partitions.Goals.{then-not-is_catalogs+in_ok-sync_file, else-not-is_catalogs}
use Rattle.kb_folder.proofs.host.Host.sync_partitions.Goals as goal

pub loop-init : goal.loop-init
loop-init g c = syncs_noted c.args.self.now.changed c.args.self.now.changed (calls_of c.args.history.now) (notes_same (λ _. ⊥) c.args.self.now.changed)

pub returns-in_err-sync_file : goal.returns-in_err-sync_file
returns-in_err-sync_file g c =
    let was = c.args.self.now.changed in
    let looked = c.is_catalogs.new.self.changed in
    let h = calls_of c.args.history.now in
    let i = calls_of c.loop.history in
    syncs_on was looked c.sync_file.new.self.changed h i (calls_of c.sync_file.new.history)
    (syncs_on was c.loop.self.changed looked h i i c.loop.invariant (syncs_noted c.loop.self.changed looked i c.is_catalogs.ensures)) c.sync_file.ensures

pub loop-preserved : goal.loop-preserved
loop-preserved g c =
    let was = c.args.self.now.changed in
    let looked = c.is_catalogs.new.self.changed in
    let h = calls_of c.args.history.now in
    let i = calls_of c.loop.history in
    let now = c.if-not-is_catalogs in
    let before = syncs_on was c.loop.self.changed looked h i i c.loop.invariant (syncs_noted c.loop.self.changed looked i c.is_catalogs.ensures) in
    elim now.branch [
      | then-not-is_catalogs+in_ok-sync_file w ↦
          let changed : w.sync_file.new.self.changed ≡ now.self.changed = search rules in
          let history : calls_of w.sync_file.new.history ≡ calls_of now.history = search rules in
          subst (λ x. Syncs was h x (calls_of now.history)) changed
          (subst (λ x. Syncs was h w.sync_file.new.self.changed x) history
          (syncs_on was looked w.sync_file.new.self.changed h i (calls_of w.sync_file.new.history) before w.sync_file.ensures))
      | else-not-is_catalogs w ↦
          let changed : looked ≡ now.self.changed = search rules in
          let history : i ≡ calls_of now.history = search rules in
          subst (λ x. Syncs was h x (calls_of now.history)) changed (subst (λ x. Syncs was h looked x) history before)
    ]
