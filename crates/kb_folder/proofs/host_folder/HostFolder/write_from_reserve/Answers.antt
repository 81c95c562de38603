use Rattle.std.proofs.Common.{◌∙◌, sym, subst}
use Rattle.kb_folder.specs.Folder.{Has}
use Rattle.kb_folder.specs.Told.{calls_of, contents_of}
use Rattle.kb_folder.proofs.Synced.{minded_on, minded_as, minded_written}
use Rattle.kb_folder.proofs.host_folder.HostFolder.write_from_reserve.Goals as goal

pub invariant_of-self-in_err-give_up : goal.invariant_of-self-in_err-give_up
invariant_of-self-in_err-give_up g c =
    minded_on c.loop-power.self-inside.host.changed c.give_up.new.self.changed (calls_of c.loop-power.self-inside.history) c.give_up.ensures c.loop-power.invariant.minded

pub invariant_of-self-in_err-open_to_change : goal.invariant_of-self-in_err-open_to_change
invariant_of-self-in_err-open_to_change g c =
    let h = calls_of c.loop-power.self-inside.history in
    let given = c.give_up.new.self.changed in
    minded_on given c.open_to_change.new.self.changed h c.open_to_change.ensures.on (minded_on c.loop-power.self-inside.host.changed given h c.give_up.ensures c.loop-power.invariant.minded)

pub invariant_of-self-in_err-opened : goal.invariant_of-self-in_err-opened
invariant_of-self-in_err-opened g c =
    let h = calls_of c.loop-power.self-inside.history in
    let given = c.give_up.new.self.changed in
    minded_on given c.open_to_change.new.self.changed h c.open_to_change.ensures.on (minded_on c.loop-power.self-inside.host.changed given h c.give_up.ensures c.loop-power.invariant.minded)

pub invariant_of-self-in_default : goal.invariant_of-self-in_default
invariant_of-self-in_default g c =
    let h = calls_of c.loop-power.self-inside.history in
    let given = c.give_up.new.self.changed in
    let noted = c.open_to_change.new.self.changed in
    minded_written noted h (calls_of c.write_at.new.history) c.args.file c.in_ok-opened.field-0.now.number c.in_ok-opened.ensures
    (subst (λ x. Has (contents_of x) c.args.file) (sym c.loop-power.invariant.same) c.requires.there) c.in_ok-open_to_change.ensures.noted
    (minded_on given noted h c.open_to_change.ensures.on (minded_on c.loop-power.self-inside.host.changed given h c.give_up.ensures c.loop-power.invariant.minded))
    c.write_at.result c.args.at c.args.bytes.now c.write_at.ensures.wrote c.write_at.ensures.refused

pub loop-power-preserved : goal.loop-power-preserved
loop-power-preserved g c =
    let h = calls_of c.loop-power.self-inside.history in
    let given = c.give_up.new.self.changed in
    let noted = c.open_to_change.new.self.changed in
    let i = c.loop-power.invariant in
    record {
      same = c.in-Err.ensures.refused ∙ i.same;
      minds = c.open_to_change.ensures.on.minds ∙ c.give_up.ensures.minds ∙ i.minds;
      minded = minded_as noted h (calls_of c.write_at.new.history) c.in-Err.ensures.refused
          (minded_on given noted h c.open_to_change.ensures.on (minded_on c.loop-power.self-inside.host.changed given h c.give_up.ensures i.minded));
    }
