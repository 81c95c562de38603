use Rattle.std.proofs.Common.{◌∙◌, ◌+◌, ◌≤◌, take, drop, length, ap, sym, subst, refl}
use Rattle.kb_store.specs.Disk.{IsThere, len_of, bytes_of}
use Rattle.kb_store.specs.LossLaws.{same_read}
use Rattle.kb_cache.specs.Kept.{is_kept, total}
use Rattle.kb_cache.specs.Cached.{entries_in}
use Rattle.kb_cache.proofs.Right.{kept_told, kept_read, one_read, read_right, tidy_kept, tidy_read}
use Rattle.kb_cache.proofs.Sums.{total_reads}
use Rattle.kb_cache.proofs.cached.CachedStore.read_keeping.Goals as goal

pub invariant_of-self : goal.invariant_of-self
invariant_of-self g c =
    let d = g.S.Store.disk c.self.inside.store in
    let limits = c.self.inside.limits in
    let n = length c.args.buffer.now in
    tidy_read d c.self.inside.entries c.self.inside.bytes limits.most_entries limits.most_bytes c.self.invariant d c.fill_from.new.cache n c.args.file c.args.at n
    (record { table = refl; honest = λ h. h; files = λ h. refl }) c.fill_from.ensures.entries (c.fill_from.ensures.cap limits.most_entries c.self.invariant.cap)

pub returns-then-fill_from-clause-bytes : goal.returns-then-fill_from-clause-bytes
returns-then-fill_from-clause-bytes g c = λ h.
    let d = g.S.Store.disk c.self.inside.store in
    let n = length c.args.buffer.now in
    c.fill_from.ensures.bytes c.if-fill_from.true
    ∙ read_right d (entries_in c.self.inside.entries) c.args.file c.args.at n h c.self.invariant.right (sym c.fill_from.ensures.whole ∙ c.if-fill_from.true)
    ∙ ap (λ v. take n (drop c.args.at (bytes_of (g.S.Store.disk v.store) c.args.file))) c.self.view_is

pub returns-then-fill_from-clause-kept : goal.returns-then-fill_from-clause-kept
returns-then-fill_from-clause-kept g c = λ _.
    let n = length c.args.buffer.now in
    ap (λ x. is_kept x c.args.file c.args.at n) c.fill_from.ensures.entries
    ∙ kept_read (entries_in c.self.inside.entries) c.args.file c.args.at n (sym c.fill_from.ensures.whole ∙ c.if-fill_from.true)

pub returns-then-fill_from-clause-loss : goal.returns-then-fill_from-clause-loss
returns-then-fill_from-clause-loss g c = same_read g.S.Store.loss c.args.self.now.store c.self.inside.store (ap (λ v. v.store) c.self.view_is)

pub invariant_of-self-in_err-read_at : goal.invariant_of-self-in_err-read_at
invariant_of-self-in_err-read_at g c =
    let d = g.S.Store.disk c.self.inside.store in
    let limits = c.self.inside.limits in
    let n = length c.args.buffer.now in
    tidy_read d c.self.inside.entries c.self.inside.bytes limits.most_entries limits.most_bytes c.self.invariant (g.S.Store.disk c.read_at.new.self) c.fill_from.new.cache n c.args.file c.args.at n
    c.in_err-read_at.ensures.unchanged c.fill_from.ensures.entries (c.fill_from.ensures.cap limits.most_entries c.self.invariant.cap)

pub invariant_of-self-then-buffer-gt-LARGEST_READ : goal.invariant_of-self-then-buffer-gt-LARGEST_READ
invariant_of-self-then-buffer-gt-LARGEST_READ g c =
    let d = g.S.Store.disk c.self.inside.store in
    let limits = c.self.inside.limits in
    let n = length c.args.buffer.now in
    tidy_read d c.self.inside.entries c.self.inside.bytes limits.most_entries limits.most_bytes c.self.invariant (g.S.Store.disk c.read_at.new.self) c.fill_from.new.cache n c.args.file c.args.at n
    c.in_ok-read_at.ensures.unchanged c.fill_from.ensures.entries (c.fill_from.ensures.cap limits.most_entries c.self.invariant.cap)

pub keep_in-requires-clause-counted : goal.keep_in-requires-clause-counted
keep_in-requires-clause-counted g c =
    let n = length c.args.buffer.now in
    c.self.invariant.counted ∙ sym (ap total c.fill_from.ensures.entries ∙ total_reads n (entries_in c.self.inside.entries) c.args.file c.args.at n)

pub keep_in-requires-clause-cap : goal.keep_in-requires-clause-cap
keep_in-requires-clause-cap g c = c.fill_from.ensures.cap c.self.inside.limits.most_entries c.self.invariant.cap

pub invariant_of-self-2 : goal.invariant_of-self-2
invariant_of-self-2 g c =
    let d = g.S.Store.disk c.self.inside.store in
    let e = g.S.Store.disk c.read_at.new.self in
    let limits = c.self.inside.limits in
    let n = length c.args.buffer.now in
    let file = c.args.file in
    let at = c.args.at in
    let read = tidy_read d c.self.inside.entries c.self.inside.bytes limits.most_entries limits.most_bytes c.self.invariant e c.fill_from.new.cache n file at n
    c.in_ok-read_at.ensures.unchanged c.fill_from.ensures.entries (c.fill_from.ensures.cap limits.most_entries c.self.invariant.cap) in
    let there = subst (λ v. IsThere (g.S.Store.disk v.store) file) (sym c.self.view_is) c.requires.there in
    let within = subst (λ v. at + n ≤ len_of (g.S.Store.disk v.store) file) (sym c.self.view_is) c.requires.within in
    tidy_kept e c.fill_from.new.cache c.self.inside.bytes limits.most_entries limits.most_bytes read c.keep_in.new.cache c.keep_in.new.bytes file at c.read_at.new.buffer
    c.keep_in.result c.keep_in.ensures.counted c.keep_in.ensures.entries c.keep_in.ensures.cap
    (one_read d e file at n c.read_at.new.buffer c.in_ok-read_at.ensures.unchanged there within (c.read_at.auto.buffer ∙ c.fill_from.auto.buffer)
    (λ h. c.in_ok-read_at.ensures.bytes h ∙ ap (λ m. take m (drop at (bytes_of d file))) c.fill_from.auto.buffer))

pub returns-clause-kept : goal.returns-clause-kept
returns-clause-kept g c = λ kept.
    let limits = c.self.inside.limits in
    kept_told limits.most_entries limits.most_bytes (entries_in c.fill_from.new.cache) (entries_in c.keep_in.new.cache) c.args.file c.args.at c.args.at
    (length c.args.buffer.now) c.read_at.new.buffer c.keep_in.result c.keep_in.ensures.entries kept (c.keep_in.ensures.fit kept) refl
    (sym (c.read_at.auto.buffer ∙ c.fill_from.auto.buffer))
