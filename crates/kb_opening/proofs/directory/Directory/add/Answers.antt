use Rattle.std.proofs.Common.{sym, subst, append-nil, None, Option}
use Rattle.kb_opening.specs.Directory.{Assigns}
use Rattle.kb_opening.specs.declared.owner.Owner.{Owner}
use Rattle.kb_opening.proofs.Entries.{strayed}
use Rattle.kb_opening.proofs.directory.Directory.add.Goals as goal

pub returns-in_ok-push-in-None : goal.returns-in_ok-push-in-None
returns-in_ok-push-in-None c =
    let d = c.args.self.now in
    let adds : Assigns None c.args.file d (record { alloc = d.alloc; owned = d.owned; strays = c.push.new.self }) = record {
      files = λ o. sym (append-nil _);
      strays = c.in_ok-push-in-None.ensures.items;
      all = strayed c.args.file d.owned.entries d.strays.items _ c.in_ok-push-in-None.ensures.items;
    } in
    subst (λ (o : Option Owner). Assigns o c.args.file d (record { alloc = d.alloc; owned = d.owned; strays = c.push.new.self })) c.in-None.ensures adds
