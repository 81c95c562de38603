use Rattle.kb_folder.specs.Told.{calls_of}
use Rattle.kb_folder.proofs.Synced.{notes_same, syncs_noted, syncs_on}
use Rattle.kb_folder.proofs.host.Host.sync_changed.Goals as goal

pub returns-in_err-can_sync-clause-syncs : goal.returns-in_err-can_sync-clause-syncs
returns-in_err-can_sync-clause-syncs g c =
    syncs_noted c.args.self.now.changed c.args.self.now.changed (calls_of c.args.history.now) (notes_same (λ _. ⊥) c.args.self.now.changed)

pub returns-in_err-sync_files-clause-syncs : goal.returns-in_err-sync_files-clause-syncs
returns-in_err-sync_files-clause-syncs g c =
    syncs_on c.args.self.now.changed c.sync_partitions.new.self.changed c.sync_files.new.self.changed (calls_of c.args.history.now) (calls_of c.sync_partitions.new.history) (calls_of c.sync_files.new.history)
    c.sync_partitions.ensures c.sync_files.ensures

pub returns-in_err-sync_names-clause-syncs : goal.returns-in_err-sync_names-clause-syncs
returns-in_err-sync_names-clause-syncs g c =
    let files =
    syncs_on c.args.self.now.changed c.sync_partitions.new.self.changed c.sync_files.new.self.changed (calls_of c.args.history.now) (calls_of c.sync_partitions.new.history) (calls_of c.sync_files.new.history)
    c.sync_partitions.ensures c.sync_files.ensures
    in
    syncs_on c.args.self.now.changed c.sync_files.new.self.changed c.sync_names.new.self.changed (calls_of c.args.history.now) (calls_of c.sync_files.new.history) (calls_of c.sync_names.new.history) files c.sync_names.ensures

pub returns-clause-syncs : goal.returns-clause-syncs
returns-clause-syncs g c =
    let files =
    syncs_on c.args.self.now.changed c.sync_partitions.new.self.changed c.sync_files.new.self.changed (calls_of c.args.history.now) (calls_of c.sync_partitions.new.history) (calls_of c.sync_files.new.history)
    c.sync_partitions.ensures c.sync_files.ensures
    in
    syncs_on c.args.self.now.changed c.sync_files.new.self.changed c.sync_names.new.self.changed (calls_of c.args.history.now) (calls_of c.sync_files.new.history) (calls_of c.sync_names.new.history) files c.sync_names.ensures
