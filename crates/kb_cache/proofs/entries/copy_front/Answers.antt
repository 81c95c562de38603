use Rattle.std.proofs.Common.{◌≡◌, ◌∙◌, ◌++◌, length, take, drop, min, Some, None, ap, sym, arith, length-take}
use Rattle.std.specs.Prelude.{option_copied}
use Rattle.std.specs.Map.{lookup}
use Rattle.std.proofs.lemmas.List.{take_min}
use Rattle.kb_cache.specs.Kept.{same_place, cached_at, seen}
use Rattle.kb_cache.proofs.Seen.{found_none, found_some, used_seen, take_nil}
use Rattle.kb_cache.proofs.entries.copy_front.Goals as goal

pub returns-in_default-clause-count : goal.returns-in_default-clause-count
returns-in_default-clause-count c =
    let none : lookup (same_place (c.args.file, c.args.at)) c.args.entries.now.entries ≡ None = sym c.get.ensures.value ∙ ap option_copied c.in_default.is in
    sym (ap (λ b. length (take (length c.args.buffer.now) b)) (found_none c.args.entries.now.entries c.args.file c.args.at none)
    ∙ ap length (take_nil (length c.args.buffer.now)))

pub returns-in_default-clause-copied : goal.returns-in_default-clause-copied
returns-in_default-clause-copied c =
    let none : lookup (same_place (c.args.file, c.args.at)) c.args.entries.now.entries ≡ None = sym c.get.ensures.value ∙ ap option_copied c.in_default.is in
    sym (ap (λ b. take (length c.args.buffer.now) b ++ c.args.buffer.now) (found_none c.args.entries.now.entries c.args.file c.args.at none)
    ∙ ap (λ b. b ++ c.args.buffer.now) (take_nil (length c.args.buffer.now)))

pub returns-in_default-clause-entries : goal.returns-in_default-clause-entries
returns-in_default-clause-entries c = ap (λ x. seen x.entries) c.get.follows.holds-at-none ∙ sym (used_seen (same_place (c.args.file, c.args.at)) c.args.entries.now.entries)

pub returns-clause-count : goal.returns-clause-count
returns-clause-count c =
    let some : lookup (same_place (c.args.file, c.args.at)) c.args.entries.now.entries ≡ Some c.in-Some.bytes.now = sym c.get.ensures.value ∙ ap option_copied c.in-Some.is in
    let same = ap length (found_some c.args.entries.now.entries c.args.file c.args.at c.in-Some.bytes.now some) in
    omega (arith, same, c.min-n.ensures, c.len.ensures, length-take (length c.args.buffer.now) (cached_at (seen c.args.entries.now.entries) c.args.file c.args.at))

pub returns-clause-copied : goal.returns-clause-copied
returns-clause-copied c =
    let size = length c.args.buffer.now in
    let n = c.min-n.result in
    let items = c.in-Some.bytes.now.items in
    let some : lookup (same_place (c.args.file, c.args.at)) c.args.entries.now.entries ≡ Some c.in-Some.bytes.now = sym c.get.ensures.value ∙ ap option_copied c.in-Some.is in
    let same : cached_at (seen c.args.entries.now.entries) c.args.file c.args.at ≡ items = found_some c.args.entries.now.entries c.args.file c.args.at c.in-Some.bytes.now some in
    let least : n ≡ min size (length items) = omega (arith, c.min-n.ensures, c.len.ensures) in
    ap (λ b. b ++ drop n c.args.buffer.now)
    (c.copy_from_slice.ensures.after ∙ ap (take n) c.deref.ensures.value ∙ ap (λ k. take k items) least ∙ take_min size items ∙ sym (ap (take size) same))

pub returns-clause-entries : goal.returns-clause-entries
returns-clause-entries c = ap (λ x. seen x.entries) c.get.follows.holds-at-none ∙ sym (used_seen (same_place (c.args.file, c.args.at)) c.args.entries.now.entries)
