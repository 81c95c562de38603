use Rattle.std.proofs.Common.{◌∙◌, ◌++◌, ap}
use Rattle.kb_start.specs.Survey.{known_of, stray_losses, used_by}
use Rattle.kb_start.proofs.Lost.{same_stray_losses, same_unfit}
use Rattle.kb_start.proofs.losses.add_some.Goals as goal

pub returns-clause-strays : goal.returns-clause-strays
returns-clause-strays g c = λ honest.
    let disk = g.S.Store.disk in
    let opened = c.args.opened.now in
    let known = known_of opened in
    let nexts = opened.next_instances.now in
    let old = disk c.args.store.now in
    let seen = disk c.catalogs_in_use.new.store in
    let same = c.catalogs_in_use.ensures.unchanged in
    let before = c.add_strays.ensures.unchanged.honest honest in
    let had = c.args.survey.now.losses.items in
    record {
      losses = c.in_ok-add_strays.ensures.losses honest
          ∙ ap (λ u. had ++ stray_losses known u seen nexts opened.strays.now) (c.deref.ensures.value ∙ c.in_ok-used.ensures.catalogs before)
          ∙ ap (λ ls. had ++ ls) (same_stray_losses known (used_by opened old) nexts old seen opened.strays.now same.table (same.files before));
      unfit = c.in_ok-add_strays.ensures.unfit honest
          ∙ same_unfit known.names nexts old seen c.args.survey.now.strays.unfit opened.strays.now same.table (same.files before);
    }
