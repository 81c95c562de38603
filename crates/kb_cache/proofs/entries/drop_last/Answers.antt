use Rattle.std.proofs.Common.{◌≡◌, ◌∙◌, Some, None, ap, sym, arith, length}
use Rattle.lru.specs.LruCache.{last_entry}
use Rattle.kb_cache.specs.Kept.{seen, total}
use Rattle.kb_cache.proofs.Seen.{seen_front, total_front, total_none}
use Rattle.kb_cache.proofs.entries.drop_last.Goals as goal

pub overflow_sub-bytes : goal.overflow_sub-bytes
overflow_sub-bytes c =
    let is : last_entry c.args.entries.now.entries ≡ Some (c.in-Some.field-0-0, c.in-Some.dropped) = sym c.pop_lru.ensures.value ∙ c.in-Some.is in
    let front = total_front c.args.entries.now.entries (c.in-Some.field-0-0, c.in-Some.dropped) is in
    let size : c.len.result ≡ length c.in-Some.dropped.items = c.len.ensures ∙ c.in-Some.dropped.ok.0 in
    omega (arith, front, size, c.requires.counted)

pub returns-in-Some-clause-counted : goal.returns-in-Some-clause-counted
returns-in-Some-clause-counted c =
    let is : last_entry c.args.entries.now.entries ≡ Some (c.in-Some.field-0-0, c.in-Some.dropped) = sym c.pop_lru.ensures.value ∙ c.in-Some.is in
    let front = total_front c.args.entries.now.entries (c.in-Some.field-0-0, c.in-Some.dropped) is in
    let size : c.len.result ≡ length c.in-Some.dropped.items = c.len.ensures ∙ c.in-Some.dropped.ok.0 in
    omega (arith, front, size, c.requires.counted, ap (λ x. total (seen x.entries)) c.pop_lru.ensures.entries)

pub returns-in-Some-clause-entries : goal.returns-in-Some-clause-entries
returns-in-Some-clause-entries c = ap (λ x. seen x.entries) c.pop_lru.ensures.entries ∙ seen_front c.args.entries.now.entries

pub returns-in_default-clause-counted : goal.returns-in_default-clause-counted
returns-in_default-clause-counted c =
    let is : last_entry c.args.entries.now.entries ≡ None = sym c.pop_lru.ensures.value ∙ c.in_default.is in
    c.requires.counted ∙ sym (ap (λ x. total (seen x.entries)) c.pop_lru.ensures.entries ∙ total_none c.args.entries.now.entries is)

pub returns-in_default-clause-entries : goal.returns-in_default-clause-entries
returns-in_default-clause-entries c = ap (λ x. seen x.entries) c.pop_lru.ensures.entries ∙ seen_front c.args.entries.now.entries
