use Rattle.std.proofs.Common.{◌≡◌, subst, rules}
use Rattle.kb_folder.specs.Lasting.{Looks}
use Rattle.kb_folder.specs.Told.{calls_of}
use Rattle.kb_folder.proofs.Synced.{looks_none, minded_on, minded_looked}
use Rattle.kb_folder.proofs.host_folder.HostFolder.read.Goals as goal

pub returns-in_err-open_one-clause-looks : goal.returns-in_err-open_one-clause-looks
returns-in_err-open_one-clause-looks g c =
    let view : c.args.self.now.history ≡ calls_of c.self.inside.history = search rules in
    subst (Looks c.args.self.now.history) view (looks_none c.args.self.now.history)

pub returns-in_err-opened-clause-looks : goal.returns-in_err-opened-clause-looks
returns-in_err-opened-clause-looks g c =
    let view : c.args.self.now.history ≡ calls_of c.self.inside.history = search rules in
    subst (Looks c.args.self.now.history) view (looks_none c.args.self.now.history)

pub invariant_of-self-2 : goal.invariant_of-self-2
invariant_of-self-2 g c =
    let now = c.open_one.new.self.changed in
    let h = calls_of c.self.inside.history in
    minded_looked now h (calls_of c.read_whole.new.history) c.read_whole.ensures.looks c.read_whole.ensures.unchanged.honest
    (minded_on c.self.inside.host.changed now h c.open_one.ensures c.self.invariant)
