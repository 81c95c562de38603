use Rattle.std.proofs.Common.{◌≡◌, subst, rules}
use Rattle.kb_folder.specs.Folder.{Has}
use Rattle.kb_folder.specs.Told.{calls_of, contents_of}
use Rattle.kb_folder.proofs.Synced.{minded_on, minded_cut}
use Rattle.kb_folder.proofs.host_folder.HostFolder.resize.Goals as goal

pub invariant_of-self-2 : goal.invariant_of-self-2
invariant_of-self-2 g c =
    let noted = c.open_to_change.new.self.changed in
    let h = calls_of c.self.inside.history in
    let view : c.args.self.now.history ≡ h = search rules in
    minded_cut noted h (calls_of c.resize.new.self) c.args.file c.in_ok-opened.field-0.now.number c.in_ok-opened.ensures
    (subst (λ x. Has (contents_of x) c.args.file) view c.requires) c.in_ok-open_to_change.ensures.noted
    (minded_on c.self.inside.host.changed noted h c.open_to_change.ensures.on c.self.invariant) c.resize.result c.args.len c.resize.ensures.resized c.resize.ensures.refused
