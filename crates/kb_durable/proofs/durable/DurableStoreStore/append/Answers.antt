use Rattle.std.proofs.Common.{◌≡◌, ◌≢◌, ◌∙◌, true, take, refl, sym, ap, subst, IsSome}
use Rattle.std.specs.Prelude.{unwrap_or}
use Rattle.std.specs.FinMap.{get}
use Rattle.kb_store.proofs.Disks.{is_there_grown}
use Rattle.kb_store.specs.Disk.{Appends, AppendsSome, IsThere, len_of}
use Rattle.kb_store.specs.Loss.{Goes, Tears}
use Rattle.kb_store.specs.LossLaws.{same_torn, stays_goes, torn_not}
use Rattle.kb_durable.specs.Durable.{disk_left, disk_of}
use Rattle.kb_durable.specs.Lawful.{disk_lawful}
use Rattle.kb_durable.proofs.Left.{there_same}
use Rattle.kb_durable.proofs.Lost.{same_then, then_same}
use Rattle.kb_durable.proofs.Seen.{appends_after, appends_none, kept_changed, kept_same, left_kept, len_inside, len_noted, more_seen, some_between, some_seen, there_inside, there_more, told}
use Rattle.kb_durable.proofs.durable.DurableStoreStore.append.Goals as goal

pub returns-in_err-reserve-clause-refused : goal.returns-in_err-reserve-clause-refused
returns-in_err-reserve-clause-refused g c =
    let s = c.self.inside in
    let ks = s.waiting.items in
    let r = s.refused in
    let file = c.args.file in
    let bytes = c.args.bytes.now in
    let d = g.S.Store.disk s.store in
    let there = subst (λ v. IsThere (disk_of g.S.Store.disk v) file) (sym c.self.view_is) c.requires in
    told c.from_residual.result (subst (λ v. AppendsSome (disk_of g.S.Store.disk v) file bytes (disk_left ks r d)) c.self.view_is
    (appends_none (disk_left ks r d) (disk_left ks r d) file bytes there (disk_lawful ks r d (g.met.S.Store.lawful s.store)) (kept_same (disk_left ks r d))))

pub returns-in_err-reserve-clause-inside_err : goal.returns-in_err-reserve-clause-inside_err
returns-in_err-reserve-clause-inside_err g c =
    let s = c.self.inside in
    let file = c.args.file in
    let bytes = c.args.bytes.now in
    let d = g.S.Store.disk s.store in
    let there = there_inside s.waiting.items s.refused d file (subst (λ v. IsThere (disk_of g.S.Store.disk v) file) (sym c.self.view_is) c.requires) in
    told c.from_residual.result (subst (λ v. AppendsSome (g.S.Store.disk v.store) file bytes d) c.self.view_is
    (appends_none d d file bytes there (g.met.S.Store.lawful s.store) (kept_same d)))

pub returns-in_err-reserve-clause-loss : goal.returns-in_err-reserve-clause-loss
returns-in_err-reserve-clause-loss g c =
    same_torn g.S.Store.loss c.args.file (len_of (disk_of g.S.Store.disk c.args.self.now) c.args.file) c.args.self.now.store c.self.inside.store
    (ap (λ v. v.store) c.self.view_is)

pub len-requires : goal.len-requires
len-requires g c =
    let s = c.self.inside in
    there_inside s.waiting.items s.refused (g.S.Store.disk s.store) c.args.file
    (subst (λ v. IsThere (disk_of g.S.Store.disk v) c.args.file) (sym c.self.view_is) c.requires)

pub returns-in_err-len-clause-refused : goal.returns-in_err-len-clause-refused
returns-in_err-len-clause-refused g c =
    let s = c.self.inside in
    let ks = s.waiting.items in
    let r = s.refused in
    let file = c.args.file in
    let bytes = c.args.bytes.now in
    let d = g.S.Store.disk s.store in
    let e = g.S.Store.disk c.len.new.self in
    let there = subst (λ v. IsThere (disk_of g.S.Store.disk v) file) (sym c.self.view_is) c.requires in
    told c.from_residual-in_err-len.result (subst (λ v. AppendsSome (disk_of g.S.Store.disk v) file bytes (disk_left ks r e)) c.self.view_is
    (appends_none (disk_left ks r d) (disk_left ks r e) file bytes there (disk_lawful ks r d (g.met.S.Store.lawful s.store)) (left_kept ks r r d e c.in_err-len.ensures.unchanged)))

pub returns-in_err-len-clause-inside_err : goal.returns-in_err-len-clause-inside_err
returns-in_err-len-clause-inside_err g c =
    let s = c.self.inside in
    let file = c.args.file in
    let bytes = c.args.bytes.now in
    let d = g.S.Store.disk s.store in
    let e = g.S.Store.disk c.len.new.self in
    let there = there_inside s.waiting.items s.refused d file (subst (λ v. IsThere (disk_of g.S.Store.disk v) file) (sym c.self.view_is) c.requires) in
    told c.from_residual-in_err-len.result (subst (λ v. AppendsSome (g.S.Store.disk v.store) file bytes e) c.self.view_is
    (appends_none d e file bytes there (g.met.S.Store.lawful s.store) c.in_err-len.ensures.unchanged))

pub returns-in_err-len-clause-loss : goal.returns-in_err-len-clause-loss
returns-in_err-len-clause-loss g c =
    let file = c.args.file in
    let keep = len_of (disk_of g.S.Store.disk c.args.self.now) file in
    let l = g.S.Store.loss c.self.inside.store in
    let m = g.S.Store.loss c.len.new.self in
    subst (λ v. Goes (Tears file keep) (g.S.Store.loss v.store) m) c.self.view_is
    (same_then (Tears file keep) l m m (torn_not file keep) c.in_err-len.ensures.loss (stays_goes (Tears file keep) (torn_not file keep) m))

pub append-requires-2 : goal.append-requires-2
append-requires-2 g c =
    let s = c.self.inside in
    let there = there_inside s.waiting.items s.refused (g.S.Store.disk s.store) c.args.file
    (subst (λ v. IsThere (disk_of g.S.Store.disk v) c.args.file) (sym c.self.view_is) c.requires) in
    subst (λ t. IsSome (get t c.args.file)) (sym c.in_ok-len.ensures.unchanged.table) there

pub invariant_of-self-in_default : goal.invariant_of-self-in_default
invariant_of-self-in_default g c =
    let s = c.self.inside in
    let ks = s.waiting.items in
    let r = s.refused in
    let file = c.args.file in
    let bytes = c.args.bytes.now in
    let d = g.S.Store.disk s.store in
    let e = g.S.Store.disk c.len.new.self in
    let f = g.S.Store.disk c.append-2.new.self in
    kept_changed f (g.S.Store.loss c.append-2.new.self) s.syncs true ks c.reserve.new.self.items
    (there_more ks e f file bytes c.in_default.ensures.appended (there_same ks d.table e.table c.in_ok-len.ensures.unchanged.table c.self.invariant.there))
    refl (λ never. ((c.self.invariant.never never).0, refl))

pub returns-in_default-clause-appended : goal.returns-in_default-clause-appended
returns-in_default-clause-appended g c =
    let s = c.self.inside in
    let ks = s.waiting.items in
    let r = s.refused in
    let file = c.args.file in
    let bytes = c.args.bytes.now in
    let d = g.S.Store.disk s.store in
    let e = g.S.Store.disk c.len.new.self in
    let f = g.S.Store.disk c.append-2.new.self in
    let there = subst (λ v. IsThere (disk_of g.S.Store.disk v) file) (sym c.self.view_is) c.requires in
    subst (λ v. Appends (disk_of g.S.Store.disk v) file bytes (disk_left ks r f)) c.self.view_is
    (more_seen ks r r d f file there bytes (appends_after d e f file bytes c.in_ok-len.ensures.unchanged c.in_default.ensures.appended))

pub returns-in_default-clause-loss : goal.returns-in_default-clause-loss
returns-in_default-clause-loss g c =
    let s = c.self.inside in
    let ks = s.waiting.items in
    let r = s.refused in
    let file = c.args.file in
    let bytes = c.args.bytes.now in
    let d = g.S.Store.disk s.store in
    let e = g.S.Store.disk c.len.new.self in
    let there = subst (λ v. IsThere (disk_of g.S.Store.disk v) file) (sym c.self.view_is) c.requires in
    let keep = len_of (disk_of g.S.Store.disk c.args.self.now) file in
    let is : len_of e file ≡ keep = ap (λ t. unwrap_or (get t file) 0) c.in_ok-len.ensures.unchanged.table ∙ sym (len_inside ks r d file there)
    ∙ ap (λ v. len_of (disk_of g.S.Store.disk v) file) c.self.view_is in
    let l = g.S.Store.loss s.store in
    let m = g.S.Store.loss c.len.new.self in
    let n = g.S.Store.loss c.append-2.new.self in
    let torn = subst (λ v. Goes (Tears file keep) (g.S.Store.loss v.store) n) c.self.view_is
    (same_then (Tears file keep) l m n (torn_not file keep) c.in_ok-len.ensures.loss (subst (λ k. Goes (Tears file k) m n) is c.in_default.ensures.loss)) in
    torn

pub note-requires-clause-there : goal.note-requires-clause-there
note-requires-clause-there g c =
    is_there_grown (g.S.Store.disk c.len.new.self) (g.S.Store.disk c.append-2.new.self) c.args.file c.args.bytes.now c.in-Err.ensures.refused

pub invariant_of-self-2 : goal.invariant_of-self-2
invariant_of-self-2 g c =
    let s = c.self.inside in
    let ks = s.waiting.items in
    let r = s.refused in
    let file = c.args.file in
    let bytes = c.args.bytes.now in
    let d = g.S.Store.disk s.store in
    let e = g.S.Store.disk c.len.new.self in
    let f = g.S.Store.disk c.append-2.new.self in
    let h = g.S.Store.disk c.note.new.store in
    let some = c.in-Err.ensures.refused in
    kept_changed h (g.S.Store.loss c.note.new.store) s.syncs true ks c.note.new.torn.items
    (there_same ks f.table h.table c.note.ensures.unchanged.table (there_more ks e f file (take some.0 bytes) some.2
    (there_same ks d.table e.table c.in_ok-len.ensures.unchanged.table c.self.invariant.there)))
    refl (λ never. ((c.self.invariant.never never).0, refl))

pub returns-clause-refused : goal.returns-clause-refused
returns-clause-refused g c =
    let s = c.self.inside in
    let ks = s.waiting.items in
    let r = s.refused in
    let file = c.args.file in
    let bytes = c.args.bytes.now in
    let d = g.S.Store.disk s.store in
    let e = g.S.Store.disk c.len.new.self in
    let f = g.S.Store.disk c.append-2.new.self in
    let h = g.S.Store.disk c.note.new.store in
    let there = subst (λ v. IsThere (disk_of g.S.Store.disk v) file) (sym c.self.view_is) c.requires in
    subst (λ v. AppendsSome (disk_of g.S.Store.disk v) file bytes (disk_left ks r h)) c.self.view_is
    (some_seen ks r r d h file there bytes (some_between d e f h file bytes c.in_ok-len.ensures.unchanged c.in-Err.ensures.refused c.note.ensures.unchanged))

pub returns-clause-loss : goal.returns-clause-loss
returns-clause-loss g c =
    let s = c.self.inside in
    let ks = s.waiting.items in
    let r = s.refused in
    let file = c.args.file in
    let bytes = c.args.bytes.now in
    let d = g.S.Store.disk s.store in
    let e = g.S.Store.disk c.len.new.self in
    let there = subst (λ v. IsThere (disk_of g.S.Store.disk v) file) (sym c.self.view_is) c.requires in
    let keep = len_of (disk_of g.S.Store.disk c.args.self.now) file in
    let is : len_of e file ≡ keep = ap (λ t. unwrap_or (get t file) 0) c.in_ok-len.ensures.unchanged.table ∙ sym (len_inside ks r d file there)
    ∙ ap (λ v. len_of (disk_of g.S.Store.disk v) file) c.self.view_is in
    let l = g.S.Store.loss s.store in
    let m = g.S.Store.loss c.len.new.self in
    let n = g.S.Store.loss c.append-2.new.self in
    let torn = subst (λ v. Goes (Tears file keep) (g.S.Store.loss v.store) n) c.self.view_is
    (same_then (Tears file keep) l m n (torn_not file keep) c.in_ok-len.ensures.loss (subst (λ k. Goes (Tears file k) m n) is c.in-Err.ensures.loss)) in
    then_same (Tears file keep) (g.S.Store.loss c.args.self.now.store) n (g.S.Store.loss c.note.new.store) torn c.note.ensures.loss

pub returns-clause-torn : goal.returns-clause-torn
returns-clause-torn g c =
    let s = c.self.inside in
    let ks = s.waiting.items in
    let r = s.refused in
    let file = c.args.file in
    let bytes = c.args.bytes.now in
    let d = g.S.Store.disk s.store in
    let h = g.S.Store.disk c.note.new.store in
    let there = subst (λ v. IsThere (disk_of g.S.Store.disk v) file) (sym c.self.view_is) c.requires in
    λ syncs ne.
    let longer = len_noted ks r r d h file c.in_ok-len.len there c.in_ok-len.ensures.len
    (subst (λ n. len_of (disk_left ks r h) file ≢ n) (ap (λ v. len_of (disk_of g.S.Store.disk v) file) (sym c.self.view_is)) ne) in
    c.note.ensures.noted (λ same. longer (ap (λ t. unwrap_or (get t file) 0) c.note.ensures.unchanged.table ∙ same))
