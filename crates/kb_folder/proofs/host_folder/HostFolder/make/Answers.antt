use Rattle.std.proofs.Common.{◌≡◌, ◌∙◌, ap}
use Rattle.kb_folder.specs.History.{made}
use Rattle.kb_folder.specs.Told.{calls_of, with}
use Rattle.kb_folder.proofs.Synced.{minded_on, minded_as, minded_made}
use Rattle.kb_folder.proofs.host_folder.HostFolder.make.Goals as goal

pub invariant_of-self-2 : goal.invariant_of-self-2
invariant_of-self-2 g c =
    let noted = c.make.new.self.changed in
    let now = c.keep_open.new.self.changed in
    let h = calls_of c.self.inside.history in
    let file = c.args.file in
    let told : calls_of c.made.new.self ≡ with h (made file) = c.made.ensures ∙ ap (λ k. with h (made k)) c.in_ok-opened.ensures.made in
    let minded = minded_on c.self.inside.host.changed noted h c.make.ensures.on c.self.invariant in
    minded_as now (with h (made file)) (calls_of c.made.new.self) told
    (minded_on noted now (with h (made file)) c.keep_open.ensures (minded_made noted h file minded c.in_ok-opened.ensures.noted.0 c.in_ok-opened.ensures.noted.1))
