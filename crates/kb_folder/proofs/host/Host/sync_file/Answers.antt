use Rattle.std.proofs.Common.{◌≡◌, sym, subst}
use Rattle.kb_folder.specs.Lasting.{Syncs}
use Rattle.kb_folder.specs.Told.{calls_of}
use Rattle.kb_folder.proofs.Synced.{notes_after, notes_weaker, syncs_noted, syncs_synced}
use Rattle.kb_folder.proofs.host.Host.sync_file.Goals as goal

pub returns-in-Err : goal.returns-in-Err
returns-in-Err g c =
    let was = c.args.self.now.changed in
    let now = c.not_synced.new.self.changed in
    let h = calls_of c.args.history.now in
    subst (λ x. Syncs was h now x) (sym c.in-Err.ensures.refused)
    (syncs_noted was now h (notes_after (λ _. ⊥) was c.sync_bytes.new.self.changed now c.sync_bytes.ensures.on c.not_synced.ensures))

pub returns : goal.returns
returns g c =
    let was = c.args.self.now.changed in
    let opened = c.sync_bytes.new.self.changed in
    let now = c.forget.new.self.changed in
    let h = calls_of c.args.history.now in
    let file = c.args.file in
    subst (λ x. Syncs was h now x) (sym c.in_default.ensures.synced)
    (syncs_synced was now h file (notes_after (λ gone. gone ≡ file) was opened now (notes_weaker (λ gone. gone ≡ file) was opened c.sync_bytes.ensures.on) c.forget.ensures))
