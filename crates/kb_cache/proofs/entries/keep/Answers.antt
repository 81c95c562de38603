use Rattle.std.proofs.Common.{◌∙◌, ◌-◌, length, ap, sym, refl}
use Rattle.std.specs.Map.{lookup}
use Rattle.kb_cache.specs.Kept.{seen, same_place, total}
use Rattle.kb_cache.proofs.Seen.{total_used, used_seen, lookup_latest}
use Rattle.kb_cache.proofs.entries.keep.Goals as goal

pub returns-then-length_at-data-clause-counted : goal.returns-then-length_at-data-clause-counted
returns-then-length_at-data-clause-counted c =
    let es = c.args.entries.now.entries in
    c.requires.counted ∙ sym (ap (λ x. total (seen x.entries)) c.promote.ensures.entries
    ∙ ap total (sym (used_seen (same_place (c.args.file, c.args.at)) es)) ∙ total_used (same_place (c.args.file, c.args.at)) (seen es))

pub insert-requires-clause-absent : goal.insert-requires-clause-absent
insert-requires-clause-absent c =
    let p = same_place (c.args.file, c.args.at) in
    ap (lookup p) c.make_room.ensures.entries
    ∙ lookup_latest p (c.forget.new.entries.cap - 1) (c.args.most_bytes - length c.args.data.now) (seen c.forget.new.entries.entries) c.forget.ensures.absent

pub returns-then-length_at-data-clause-there : goal.returns-then-length_at-data-clause-there
returns-then-length_at-data-clause-there c = λ _.
    (refl, ap (λ x. seen x.entries) c.promote.ensures.entries ∙ sym (used_seen (same_place (c.args.file, c.args.at)) c.args.entries.now.entries))
