use Rattle.std.proofs.Common.{◌≡◌, ◌∙◌, [], drop, sym, ap, if◌then◌else◌}
use Rattle.kb_store.specs.Disk.{bytes_of}
use Rattle.kb_batch.specs.Batch.{natural}
use Rattle.kb_survey.specs.Ending.{behind_run, is_damaged}
use Rattle.kb_survey.specs.Listed.{is_in}
use Rattle.kb_start.specs.Damaged.{lost_end}
use Rattle.kb_start.proofs.damaged.is_end_damaged.Goals as goal

pub returns-in_ok-bytes-in-None-clause-damaged : goal.returns-in_ok-bytes-in-None-clause-damaged
returns-in_ok-bytes-in-None-clause-damaged g c = λ honest.
    let d = g.S.Store.disk c.args.store.now in
    let file = c.args.file.now.file in
    let h = c.args.header.now in
    c.is_damaged-in-None.ensures
    ∙ ap is_damaged c.behind_run.ensures
    ∙ ap (λ base. is_damaged (behind_run base c.deref-in-None.result.now)) c.base_of.ensures
    ∙ ap (λ s. is_damaged (behind_run (natural h.base) s))
    (c.deref-in-None.ensures.value ∙ c.in_ok-bytes-in-None.ensures.bytes honest
    ∙ ap (λ n. drop n (if is_in c.args.listed.now file then bytes_of d file else [])) c.size.ensures
    ∙ ap (λ ks. drop h.size (if is_in ks file then bytes_of d file else [])) c.requires)
    ∙ ap (λ o. is_damaged (lost_end d file o h)) (sym c.in-None.is)
