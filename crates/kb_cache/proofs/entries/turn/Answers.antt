use Rattle.std.proofs.Common.{◌≡◌, ◌∙◌, Some, ap, sym, true, false, not, ◌&&◌, ◌+◌, nat_lt}
use Rattle.std.specs.Prelude.{nat_eq}
use Rattle.std.specs.Prelude.{option_map}
use Rattle.std.specs.Map.Iter.{deref_pair}
use Rattle.lru.specs.LruCache.{last_entry}
use Rattle.kb_cache.specs.Kept.{seen, total, same_place, stays}
use Rattle.kb_cache.proofs.Seen.{seen_front, turned_stays, turned_goes, total_used, used_seen}
use Rattle.kb_cache.proofs.entries.turn.Goals as goal

pub returns-then-stays-clause-counted : goal.returns-then-stays-clause-counted
returns-then-stays-clause-counted c =
    let es = c.args.entries.now.entries in
    c.requires.counted ∙ sym (ap (λ x. total (seen x.entries)) c.promote.ensures.entries
    ∙ ap total (sym (used_seen (same_place c.in-Some.place.now) es)) ∙ total_used (same_place c.in-Some.place.now) (seen es))

pub returns-then-stays-clause-entries : goal.returns-then-stays-clause-entries
returns-then-stays-clause-entries c =
    let es = c.args.entries.now.entries in
    let is : last_entry es ≡ Some (c.in-Some.place.now, c.in-Some.data.now) = sym c.peek_lru.ensures ∙ ap (option_map deref_pair) c.in-Some.is in
    let s : stays c.args.file c.args.len (c.in-Some.place.now, c.in-Some.data.now.items) ≡ true =
    ap (λ n. not (nat_eq c.in-Some.place.now.0 c.args.file && nat_lt c.args.len (c.in-Some.place.now.1 + n))) (sym (c.len-2.ensures ∙ c.in-Some.data.now.ok.0))
    ∙ sym c.stays.ensures ∙ c.if-stays.true in
    ap (λ x. seen x.entries) c.promote.ensures.entries ∙ turned_stays es (c.in-Some.place.now, c.in-Some.data.now) is c.args.file c.args.len c.len.ensures.valid.0 s

pub returns-else-stays-clause-entries : goal.returns-else-stays-clause-entries
returns-else-stays-clause-entries c =
    let es = c.args.entries.now.entries in
    let is : last_entry es ≡ Some (c.in-Some.place.now, c.in-Some.data.now) = sym c.peek_lru.ensures ∙ ap (option_map deref_pair) c.in-Some.is in
    let s : stays c.args.file c.args.len (c.in-Some.place.now, c.in-Some.data.now.items) ≡ false =
    ap (λ n. not (nat_eq c.in-Some.place.now.0 c.args.file && nat_lt c.args.len (c.in-Some.place.now.1 + n))) (sym (c.len-2.ensures ∙ c.in-Some.data.now.ok.0))
    ∙ sym c.stays.ensures ∙ c.if-stays.false in
    c.drop_last.ensures.entries ∙ sym (seen_front es) ∙ turned_goes es (c.in-Some.place.now, c.in-Some.data.now) is c.args.file c.args.len s
