use Rattle.std.proofs.Common.{◌≡◌, refl, subst, rules}
use Rattle.kb_store.specs.Loss.{Goes, Same}
use Rattle.kb_folder.specs.History.{measured}
use Rattle.kb_folder.specs.Lasting.{folder_loss}
use Rattle.kb_folder.proofs.Synced.{goes_or}
use Rattle.kb_folder.proofs.Goes.{goes_same}
use Rattle.kb_folder.proofs.host_folder.HostFolderFolder.len.Goals.{in-Err+then-eq, in_default}
use Rattle.kb_folder.proofs.host_folder.HostFolderFolder.len.Goals as goal

pub returns-clause-loss : goal.returns-clause-loss
returns-clause-loss g c =
    let had = c.args.self.now in
    let first = c.length-len.new.self in
    let now = c.match-len.self in
    let file = c.args.file in
    let one = goes_or c.length-len.result Same (λ x. refl) had.history first.history (λ n. measured file n) c.length-len.ensures.measured c.length-len.ensures.refused (λ x before found e. e) in
    elim c.match-len.branch [
      | in-Err+then-eq w ↦
          let last = w.length_of_folder-len.new.self in
          let history : last.history ≡ now.history = search rules in
          let two = goes_or w.length_of_folder-len.result Same (λ x. refl) first.history last.history (λ n. measured file n) w.length_of_folder-len.ensures.measured w.length_of_folder-len.ensures.refused (λ x before found e. e) in
          subst (λ x. Goes Same (folder_loss had.history) (folder_loss x)) history (goes_same (folder_loss had.history) (folder_loss first.history) (folder_loss last.history) one two)
      | in_default w ↦
          let history : first.history ≡ now.history = search rules in
          subst (λ x. Goes Same (folder_loss had.history) (folder_loss x)) history one
    ]
