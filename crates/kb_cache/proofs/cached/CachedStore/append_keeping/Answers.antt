use Rattle.std.proofs.Common.{◌∙◌, take, length, refl, ap, sym, subst}
use Rattle.kb_store.specs.Disk.{len_of}
use Rattle.kb_store.specs.Loss.{Goes, Tears}
use Rattle.kb_cache.specs.Cached.{Caching, IsTidy, entries_in}
use Rattle.kb_cache.proofs.Goes.{looked_torn}
use Rattle.kb_cache.proofs.Right.{grown_right, kept_told, kept_right, one_added, tidy_kept}
use Rattle.kb_cache.proofs.cached.CachedStore.append_keeping.Goals as goal

pub invariant_of-self : goal.invariant_of-self
invariant_of-self g c =
    let d = g.S.Store.disk c.self.inside.store in
    let e = g.S.Store.disk c.len-end.new.self in
    let f = g.S.Store.disk c.append.new.self in
    let es = entries_in c.self.inside.entries in
    let some = c.in_err-append.ensures.refused in
    record {
      counted = c.self.invariant.counted;
      cap = c.self.invariant.cap;
      within = c.self.invariant.within;
      right = grown_right e f c.args.file (take some.0 c.args.bytes.now) es (g.met.S.Store.lawful c.len-end.new.self) some.2 (kept_right d e es c.len-end.ensures.unchanged c.self.invariant.right);
    }

pub invariant_of-self-in_default : goal.invariant_of-self-in_default
invariant_of-self-in_default g c =
    let d = g.S.Store.disk c.self.inside.store in
    let e = g.S.Store.disk c.len-end.new.self in
    let f = g.S.Store.disk c.append.new.self in
    let es = entries_in c.self.inside.entries in
    record {
      counted = c.self.invariant.counted;
      cap = c.self.invariant.cap;
      within = c.self.invariant.within;
      right = grown_right e f c.args.file c.args.bytes.now es (g.met.S.Store.lawful c.len-end.new.self) c.in_ok-append.ensures.appended (kept_right d e es c.len-end.ensures.unchanged c.self.invariant.right);
    }

pub invariant_of-self-2 : goal.invariant_of-self-2
invariant_of-self-2 g c =
    let d = g.S.Store.disk c.self.inside.store in
    let e = g.S.Store.disk c.len-end.new.self in
    let f = g.S.Store.disk c.append.new.self in
    let es = entries_in c.self.inside.entries in
    let limits = c.self.inside.limits in
    let lawful = g.met.S.Store.lawful c.len-end.new.self in
    let grown : IsTidy f c.self.inside.entries c.self.inside.bytes limits.most_entries limits.most_bytes = record {
      counted = c.self.invariant.counted;
      cap = c.self.invariant.cap;
      within = c.self.invariant.within;
      right = grown_right e f c.args.file c.args.bytes.now es lawful c.in_ok-append.ensures.appended (kept_right d e es c.len-end.ensures.unchanged c.self.invariant.right);
    } in
    tidy_kept f c.self.inside.entries c.self.inside.bytes limits.most_entries limits.most_bytes grown c.keep_in.new.cache c.keep_in.new.bytes c.args.file c.in-Ok.at c.args.bytes.now
    c.keep_in.result c.keep_in.ensures.counted c.keep_in.ensures.entries c.keep_in.ensures.cap
    (λ some. one_added d e f c.args.file c.in-Ok.at c.args.bytes.now c.len-end.ensures.unchanged lawful c.in_ok-append.ensures.appended c.in-Ok.ensures.len some)

pub returns-clause-kept : goal.returns-clause-kept
returns-clause-kept g c = λ kept.
    let limits = c.self.inside.limits in
    kept_told limits.most_entries limits.most_bytes (entries_in c.self.inside.entries) (entries_in c.keep_in.new.cache) c.args.file c.in-Ok.at
    (len_of (g.S.Store.disk c.args.self.now.store) c.args.file) (length c.args.bytes.now) c.args.bytes.now c.keep_in.result c.keep_in.ensures.entries kept (c.keep_in.ensures.fit kept)
    (ap (λ v. len_of (g.S.Store.disk v.store) c.args.file) (sym c.self.view_is) ∙ sym c.in-Ok.ensures.len) refl

pub returns-in_err-append-clause-loss : goal.returns-in_err-append-clause-loss
returns-in_err-append-clause-loss g c =
    let s = c.self.inside.store in
    subst (λ (v : Caching g.row.S.Denot). Goes (Tears c.args.file (len_of (g.S.Store.disk v.store) c.args.file)) (g.S.Store.loss v.store) (g.S.Store.loss c.append.new.self)) c.self.view_is
    (looked_torn (g.S.Store.disk s) (g.S.Store.disk c.len-end.new.self) (g.S.Store.loss s) (g.S.Store.loss c.len-end.new.self) (g.S.Store.loss c.append.new.self) c.args.file
    c.len-end.ensures.unchanged c.len-end.ensures.loss c.in_err-append.ensures.loss)

pub returns-in_default-clause-loss : goal.returns-in_default-clause-loss
returns-in_default-clause-loss g c =
    let s = c.self.inside.store in
    subst (λ (v : Caching g.row.S.Denot). Goes (Tears c.args.file (len_of (g.S.Store.disk v.store) c.args.file)) (g.S.Store.loss v.store) (g.S.Store.loss c.append.new.self)) c.self.view_is
    (looked_torn (g.S.Store.disk s) (g.S.Store.disk c.len-end.new.self) (g.S.Store.loss s) (g.S.Store.loss c.len-end.new.self) (g.S.Store.loss c.append.new.self) c.args.file
    c.len-end.ensures.unchanged c.len-end.ensures.loss c.in_ok-append.ensures.loss)

pub returns-clause-loss : goal.returns-clause-loss
returns-clause-loss g c =
    let s = c.self.inside.store in
    subst (λ (v : Caching g.row.S.Denot). Goes (Tears c.args.file (len_of (g.S.Store.disk v.store) c.args.file)) (g.S.Store.loss v.store) (g.S.Store.loss c.append.new.self)) c.self.view_is
    (looked_torn (g.S.Store.disk s) (g.S.Store.disk c.len-end.new.self) (g.S.Store.loss s) (g.S.Store.loss c.len-end.new.self) (g.S.Store.loss c.append.new.self) c.args.file
    c.len-end.ensures.unchanged c.len-end.ensures.loss c.in_ok-append.ensures.loss)
