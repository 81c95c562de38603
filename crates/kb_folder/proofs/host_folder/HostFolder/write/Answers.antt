use Rattle.std.proofs.Common.{◌≡◌, subst, rules}
use Rattle.kb_folder.specs.Folder.{Has}
use Rattle.kb_folder.specs.Told.{calls_of, contents_of}
use Rattle.kb_folder.proofs.Synced.{minded_on, minded_as, minded_written}
use Rattle.kb_folder.proofs.host_folder.HostFolder.write.Goals as goal

pub invariant_of-self-in-Err : goal.invariant_of-self-in-Err
invariant_of-self-in-Err g c =
    let noted = c.open_to_change.new.self.changed in
    let now = c.front.new.self.changed in
    let h = calls_of c.self.inside.history in
    minded_as now h (calls_of c.write_at.new.history) c.in-Err.ensures.refused
    (minded_on noted now h c.front.ensures (minded_on c.self.inside.host.changed noted h c.open_to_change.ensures.on c.self.invariant))

pub invariant_of-self-in-Ok-1 : goal.invariant_of-self-in-Ok-1
invariant_of-self-in-Ok-1 g c =
    let noted = c.open_to_change.new.self.changed in
    let h = calls_of c.self.inside.history in
    let view : c.args.self.now.history ≡ h = search rules in
    minded_written noted h (calls_of c.write_at.new.history) c.args.file c.in_ok-opened.field-0.now.number c.in_ok-opened.ensures
    (subst (λ x. Has (contents_of x) c.args.file) view c.requires) c.in_ok-open_to_change.ensures.noted
    (minded_on c.self.inside.host.changed noted h c.open_to_change.ensures.on c.self.invariant) c.write_at.result c.args.at c.args.bytes.now c.write_at.ensures.wrote c.write_at.ensures.refused
