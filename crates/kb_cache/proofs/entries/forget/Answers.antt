use Rattle.std.proofs.Common.{◌≡◌, ◌∙◌, length, Some, None, ap, sym, arith}
use Rattle.std.specs.Map.{lookup}
use Rattle.kb_cache.specs.Kept.{cached_at, seen, total, same_place}
use Rattle.kb_cache.proofs.Seen.{remove_seen, total_without, found_some, found_none, lookup_without, distinct_seen}
use Rattle.kb_cache.proofs.entries.forget.Goals as goal

pub overflow_sub-bytes : goal.overflow_sub-bytes
overflow_sub-bytes c =
    let es = c.args.entries.now.entries in
    let is : lookup (same_place (c.args.file, c.args.at)) es ≡ Some c.in-Some.dropped = sym c.pop.ensures.value ∙ c.in-Some.is in
    let all = total_without es c.args.file c.args.at in
    let size : c.len-in-Some.result ≡ length (cached_at (seen es) c.args.file c.args.at) = c.len-in-Some.ensures ∙ c.in-Some.dropped.ok.0 ∙ sym (ap length (found_some es c.args.file c.args.at c.in-Some.dropped is)) in
    omega (arith, all, size, c.requires.counted)

pub returns-in-Some-clause-counted : goal.returns-in-Some-clause-counted
returns-in-Some-clause-counted c =
    let es = c.args.entries.now.entries in
    let is : lookup (same_place (c.args.file, c.args.at)) es ≡ Some c.in-Some.dropped = sym c.pop.ensures.value ∙ c.in-Some.is in
    let all = total_without es c.args.file c.args.at in
    let size : c.len-in-Some.result ≡ length (cached_at (seen es) c.args.file c.args.at) = c.len-in-Some.ensures ∙ c.in-Some.dropped.ok.0 ∙ sym (ap length (found_some es c.args.file c.args.at c.in-Some.dropped is)) in
    omega (arith, all, size, c.requires.counted, ap (λ x. total (seen x.entries)) c.pop.ensures.entries)

pub returns-in-Some-clause-entries : goal.returns-in-Some-clause-entries
returns-in-Some-clause-entries c = ap (λ x. seen x.entries) c.pop.ensures.entries ∙ sym (remove_seen (same_place (c.args.file, c.args.at)) c.args.entries.now.entries)

pub returns-in_default-clause-counted : goal.returns-in_default-clause-counted
returns-in_default-clause-counted c =
    let es = c.args.entries.now.entries in
    let is : lookup (same_place (c.args.file, c.args.at)) es ≡ None = sym c.pop.ensures.value ∙ c.in_default.is in
    let all = total_without es c.args.file c.args.at in
    let size : length (cached_at (seen es) c.args.file c.args.at) ≡ 0 = ap length (found_none es c.args.file c.args.at is) in
    omega (arith, all, size, c.requires.counted, ap (λ x. total (seen x.entries)) c.pop.ensures.entries)

pub returns-in_default-clause-entries : goal.returns-in_default-clause-entries
returns-in_default-clause-entries c = ap (λ x. seen x.entries) c.pop.ensures.entries ∙ sym (remove_seen (same_place (c.args.file, c.args.at)) c.args.entries.now.entries)

pub returns-in-Some-clause-absent : goal.returns-in-Some-clause-absent
returns-in-Some-clause-absent c =
    let es = c.args.entries.now.entries in
    ap (λ x. lookup (same_place (c.args.file, c.args.at)) (seen x.entries)) c.pop.ensures.entries
    ∙ ap (lookup (same_place (c.args.file, c.args.at))) (sym (remove_seen (same_place (c.args.file, c.args.at)) es))
    ∙ lookup_without (seen es) c.args.file c.args.at (distinct_seen es c.len.ensures.valid.0)

pub returns-in_default-clause-absent : goal.returns-in_default-clause-absent
returns-in_default-clause-absent c =
    let es = c.args.entries.now.entries in
    ap (λ x. lookup (same_place (c.args.file, c.args.at)) (seen x.entries)) c.pop.ensures.entries
    ∙ ap (lookup (same_place (c.args.file, c.args.at))) (sym (remove_seen (same_place (c.args.file, c.args.at)) es))
    ∙ lookup_without (seen es) c.args.file c.args.at (distinct_seen es c.len.ensures.valid.0)
