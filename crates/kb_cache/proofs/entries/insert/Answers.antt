use Rattle.std.proofs.Common.{◌≡◌, ◌∙◌, ◌∷◌, length, ap, arith}
use Rattle.kb_cache.specs.Kept.{seen, total}
use Rattle.kb_cache.proofs.Seen.{put_absent}
use Rattle.kb_cache.proofs.entries.insert.Goals as goal

pub returns-in-Ok-put-clause-counted : goal.returns-in-Ok-put-clause-counted
returns-in-Ok-put-clause-counted c =
    let put : seen c.put.new.self.entries ≡ ((c.args.file, c.args.at), c.in-Ok.copy.items) ∷ seen c.args.entries.now.entries =
    ap (λ x. seen x.entries) c.in-Ok-put.ensures.entries ∙ ap seen (put_absent c.args.entries.now (c.args.file, c.args.at) c.in-Ok.copy c.requires.absent c.requires.one_more) in
    omega (arith, ap total put, ap length c.in-Ok.ensures.items, c.requires.counted)

pub returns-in-Ok-put-clause-put : goal.returns-in-Ok-put-clause-put
returns-in-Ok-put-clause-put c = λ _.
    ap (λ x. seen x.entries) c.in-Ok-put.ensures.entries
    ∙ ap seen (put_absent c.args.entries.now (c.args.file, c.args.at) c.in-Ok.copy c.requires.absent c.requires.one_more)
    ∙ ap (λ b. ((c.args.file, c.args.at), b) ∷ seen c.args.entries.now.entries) c.in-Ok.ensures.items
