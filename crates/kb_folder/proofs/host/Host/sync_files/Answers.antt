use Rattle.std.proofs.Common.{◌≡◌, subst, rules}
use Rattle.kb_folder.specs.Lasting.{Syncs}
use Rattle.kb_folder.specs.Told.{calls_of}
use Rattle.kb_folder.proofs.Synced.{notes_same, syncs_noted, syncs_on}
use Rattle.kb_folder.proofs.host.Host.sync_files.Goals.{in-Some+in_ok-sync_file, in_default}
use Rattle.kb_folder.proofs.host.Host.sync_files.Goals as goal

pub loop-init : goal.loop-init
loop-init g c = syncs_noted c.args.self.now.changed c.args.self.now.changed (calls_of c.args.history.now) (notes_same (λ _. ⊥) c.args.self.now.changed)

pub returns-in_err-sync_file : goal.returns-in_err-sync_file
returns-in_err-sync_file g c =
    syncs_on c.args.self.now.changed c.loop.self.changed c.sync_file.new.self.changed (calls_of c.args.history.now) (calls_of c.loop.history) (calls_of c.sync_file.new.history) c.loop.invariant c.sync_file.ensures

pub loop-preserved : goal.loop-preserved
loop-preserved g c =
    let was = c.args.self.now.changed in
    let h = calls_of c.args.history.now in
    let now = c.match-first_changed in
    elim now.branch [
      | in-Some+in_ok-sync_file w ↦
          let changed : w.sync_file.new.self.changed ≡ now.self.changed = search rules in
          let history : calls_of w.sync_file.new.history ≡ calls_of now.history = search rules in
          subst (λ x. Syncs was h x (calls_of now.history)) changed
          (subst (λ x. Syncs was h w.sync_file.new.self.changed x) history
          (syncs_on was c.loop.self.changed w.sync_file.new.self.changed h (calls_of c.loop.history) (calls_of w.sync_file.new.history) c.loop.invariant w.sync_file.ensures))
      | in_default w ↦
          let changed : c.loop.self.changed ≡ now.self.changed = search rules in
          let history : calls_of c.loop.history ≡ calls_of now.history = search rules in
          subst (λ x. Syncs was h x (calls_of now.history)) changed (subst (λ x. Syncs was h c.loop.self.changed x) history c.loop.invariant)
    ]
