use Rattle.std.proofs.Common.{◌≡◌, ◌∙◌, ◌<◌, ◌^◌, ℕ, Err, List, length, map, string_bytes, refl, sym, ap, subst, arith}
use Rattle.std.specs.List.{All, Contains}
use Rattle.std.proofs.lemmas.Result.{err_from_is_err_and}
use Rattle.kb_segment_log.specs.SegmentLog.{segment_log, Clears}
use Rattle.kb_topics.specs.Catalog.{known}
use Rattle.kb_tenant_state.specs.Parts.{Owns}
use Rattle.kb_segment_log.specs.declared.log.SegmentLog.{SegmentLog}
use Rattle.kb_tenant_state.specs.declared.parts.Parts.{Parts}
use Rattle.kb_opening.specs.Tenant.{owners_in, generation_of, AreNumberedBelow, AreOwnNamed, IsOfTenant, IsTaken, IsTenantOf, TakesTenant}
use Rattle.kb_opening.specs.Directory.{all_files, files_at}
use Rattle.kb_opening.specs.declared.owner.Owner.{Owner}
use Rattle.kb_restart.proofs.Restored.{none_restored, next_clears, next_own, next_restored, one_more, names_more, all_more, passed_on}
use Rattle.kb_restart.specs.Restart.{names_in, AreOwnedNamed}
use Rattle.kb_opening.proofs.Openings.{clears_wider}
use Rattle.kb_opening.proofs.Taken.{listed_later, raised_twice}
use Rattle.kb_opening.specs.Opened.{IsInUse, TenantLosesNothing}
use Rattle.kb_segment_log.proofs.Comes.{headers_then}
use Rattle.kb_restart.proofs.Same.{none_changed, tenants_lost}
use Rattle.std.proofs.lemmas.List.Elements.{All-nil}
use Rattle.kb_restart.proofs.opening.open_tenants.Goals as goal

pub returns-in_err-parts-clause-others : goal.returns-in_err-parts-clause-others
returns-in_err-parts-clause-others g c =
    let i = c.loop-tenant.invariant in
    let ps = c.loop-tenant.tenants.items in
    let has = c.loop-tenant.directory in
    let first = g.S.Store.disk c.args.shelf.now.store in
    let mid = g.S.Store.disk c.loop-tenant.shelf.store in
    let now = g.S.Store.disk c.open_tenant.new.shelf.store in
    let count = i.count in
    clears_wider first now (λ file f. let lt = f.first in record { tenant = f.tenant; first = omega (arith, lt, count); has = f.has })
    (next_clears first c.args.directory.now ps mid c.loop-tenant.shelf.next has c.requires.once i.restored now (subst (λ n. Clears (IsOfTenant has n) mid now) (sym count) c.in_err-parts.ensures.others))

pub returns-in_err-parts-clause-cause : goal.returns-in_err-parts-clause-cause
returns-in_err-parts-clause-cause g c =
    let i = c.loop-tenant.invariant in
    let first = g.S.Store.disk c.args.shelf.now.store in
    let mid = g.S.Store.disk c.loop-tenant.shelf.store in
    let now = g.S.Store.disk c.open_tenant.new.shelf.store in
    let e = c.in_err-parts.ensures in
    let p = err_from_is_err_and c.from_residual-in_err-parts.result c.from_residual-in_err-parts.ensures.1 in
    let next = c.loop-tenant.shelf.next in
    let first_next = c.args.shelf.now.next in
    let room = i.next.room in
    let had = c.args.directory.now in
    let has = c.loop-tenant.directory in
    let all = AreOwnedNamed (map (λ name. name.now) c.args.names.now) c.args.segment_bytes first.files had in
    passed_on first mid now first_next next all _ c.from_residual-in_err-parts.result c.in_err-parts.field-0.0 e.cause (p.1 ∙ ap Err p.2) (λ fits. omega (arith, room, fits)) i.later
    (λ h own. next_own first had c.loop-tenant.tenants.items mid next has c.requires.once i.restored c.args.names.now c.args.segment_bytes c.loop-tenant.tenant _ i.count (omega arith) (e.others.honest h) own)

pub returns-in_err-push-clause-others : goal.returns-in_err-push-clause-others
returns-in_err-push-clause-others g c =
    let i = c.loop-tenant.invariant in
    let ps = c.loop-tenant.tenants.items in
    let has = c.loop-tenant.directory in
    let first = g.S.Store.disk c.args.shelf.now.store in
    let mid = g.S.Store.disk c.loop-tenant.shelf.store in
    let now = g.S.Store.disk c.open_tenant.new.shelf.store in
    let count = i.count in
    clears_wider first now (λ file f. let lt = f.first in record { tenant = f.tenant; first = omega (arith, lt, count); has = f.has })
    (next_clears first c.args.directory.now ps mid c.loop-tenant.shelf.next has c.requires.once i.restored now (subst (λ n. Clears (IsOfTenant has n) mid now) (sym count) c.in_ok-parts.ensures.others))

pub loop-tenant-preserved : goal.loop-tenant-preserved
loop-tenant-preserved g c =
    let i = c.loop-tenant.invariant in
    let ps = c.loop-tenant.tenants.items in
    let has = c.loop-tenant.directory in
    let left = c.open_tenant.new.directory in
    let first = g.S.Store.disk c.args.shelf.now.store in
    let mid = g.S.Store.disk c.loop-tenant.shelf.store in
    let now = g.S.Store.disk c.open_tenant.new.shelf.store in
    let p = c.in_ok-parts.parts in
    let e = c.in_ok-parts.ensures in
    let count = sym i.count in
    let before = i.later in
    let more = e.cause.later in
    let grown = c.in_ok-push.ensures.items in
    record {
      next = raised_twice c.args.shelf.now.next c.loop-tenant.shelf.next c.open_tenant.new.shelf.next i.next e.next.raised;
      later = omega (arith, before, more);
      count = one_more ps c.push.new.self.items p c.loop-tenant.tenant grown i.count;
      names = names_more c.args.names.now c.loop-tenant.tenant _ ps c.push.new.self.items p (omega arith) i.names grown e.name;
      sizes = all_more (λ (x : Parts SegmentLog). x.segment_bytes ≡ c.args.segment_bytes) ps c.push.new.self.items p i.sizes grown e.size;
      restored = next_restored first c.args.directory.now ps mid c.loop-tenant.shelf.next has c.requires.once i.restored p now c.open_tenant.new.shelf.next left
          e.next.raised.later (subst (λ n. AreNumberedBelow has n c.open_tenant.new.shelf.next) count e.next.above) e.sound
          (λ file own. subst (λ n. IsOfTenant has n file) count (e.owned file own))
          (λ h own. subst (λ n. IsTenantOf mid.files (owners_in has n) p now.files) count
          (e.opened h (subst (λ ns. AreOwnNamed ns c.args.segment_bytes c.loop-tenant.tenant mid.files has) e.name
          (subst (λ n. AreOwnNamed (string_bytes p.tenant) n c.loop-tenant.tenant mid.files has) e.size
          (subst (λ n. AreOwnNamed (string_bytes p.tenant) p.segment_bytes n mid.files has) (sym count) own)))))
          (λ h own. subst (λ n. IsInUse mid.files (owners_in has n) (generation_of p) (known p.catalog)) count
          (e.in_use h (subst (λ ns. AreOwnNamed ns c.args.segment_bytes c.loop-tenant.tenant mid.files has) e.name
          (subst (λ n. AreOwnNamed (string_bytes p.tenant) n c.loop-tenant.tenant mid.files has) e.size
          (subst (λ n. AreOwnNamed (string_bytes p.tenant) p.segment_bytes n mid.files has) (sym count) own)))))
          e.refusals
          (subst (λ n. TakesTenant n (generation_of p) (known p.catalog) has left) count e.taken)
          e.directory e.stay
          (subst (λ n. (o : Owner) → IsTaken n (generation_of p) (known p.catalog) o → (file : ℕ) → Contains (files_at o has) file → Contains (all_files left) file → ⊥) count e.gone)
          (subst (λ n. Clears (IsOfTenant has n) mid now) count e.others)
          e.exact e.accounted e.apart
          c.push.new.self.items grown;
      headers = λ h own. headers_then first mid now (i.headers (e.others.honest h) own) (e.headers h (next_own first c.args.directory.now ps mid c.loop-tenant.shelf.next has c.requires.once i.restored c.args.names.now c.args.segment_bytes c.loop-tenant.tenant _ i.count (omega arith) (e.others.honest h) own));
      lost = λ h own. tenants_lost first c.args.directory.now ps mid c.loop-tenant.shelf.next has (listed_later c.args.directory.now first c.args.shelf.now.next c.loop-tenant.shelf.next c.requires i.next.later) i.restored now (subst (λ n. Clears (IsOfTenant has n) mid now) count e.others) (i.lost (e.others.honest h) own)
          (subst (λ n. TenantLosesNothing (owners_in has n) mid now) count (e.lost_nothing h (next_own first c.args.directory.now ps mid c.loop-tenant.shelf.next has c.requires.once i.restored c.args.names.now c.args.segment_bytes c.loop-tenant.tenant _ i.count (omega arith) (e.others.honest h) own))) h;
    }

pub returns-in_err-parts-clause-headers : goal.returns-in_err-parts-clause-headers
returns-in_err-parts-clause-headers g c = λ h own.
    let i = c.loop-tenant.invariant in
    let ps = c.loop-tenant.tenants.items in
    let has = c.loop-tenant.directory in
    let first = g.S.Store.disk c.args.shelf.now.store in
    let mid = g.S.Store.disk c.loop-tenant.shelf.store in
    let now = g.S.Store.disk c.open_tenant.new.shelf.store in
    let count = sym i.count in
    let e = c.in_err-parts.ensures in
    headers_then first mid now (i.headers (e.others.honest h) own) (e.headers h (next_own first c.args.directory.now ps mid c.loop-tenant.shelf.next has c.requires.once i.restored c.args.names.now c.args.segment_bytes c.loop-tenant.tenant _ i.count (omega arith) (e.others.honest h) own))

pub returns-in_err-parts-clause-lost_nothing : goal.returns-in_err-parts-clause-lost_nothing
returns-in_err-parts-clause-lost_nothing g c = λ h own.
    let i = c.loop-tenant.invariant in
    let ps = c.loop-tenant.tenants.items in
    let has = c.loop-tenant.directory in
    let first = g.S.Store.disk c.args.shelf.now.store in
    let mid = g.S.Store.disk c.loop-tenant.shelf.store in
    let now = g.S.Store.disk c.open_tenant.new.shelf.store in
    let count = sym i.count in
    let e = c.in_err-parts.ensures in
    tenants_lost first c.args.directory.now ps mid c.loop-tenant.shelf.next has (listed_later c.args.directory.now first c.args.shelf.now.next c.loop-tenant.shelf.next c.requires i.next.later) i.restored now (subst (λ n. Clears (IsOfTenant has n) mid now) count e.others) (i.lost (e.others.honest h) own)
    (subst (λ n. TenantLosesNothing (owners_in has n) mid now) count (e.lost_nothing h (next_own first c.args.directory.now ps mid c.loop-tenant.shelf.next has c.requires.once i.restored c.args.names.now c.args.segment_bytes c.loop-tenant.tenant _ i.count (omega arith) (e.others.honest h) own))) h

pub returns-in_err-push-clause-headers : goal.returns-in_err-push-clause-headers
returns-in_err-push-clause-headers g c = λ h own.
    let i = c.loop-tenant.invariant in
    let ps = c.loop-tenant.tenants.items in
    let has = c.loop-tenant.directory in
    let first = g.S.Store.disk c.args.shelf.now.store in
    let mid = g.S.Store.disk c.loop-tenant.shelf.store in
    let now = g.S.Store.disk c.open_tenant.new.shelf.store in
    let count = sym i.count in
    let e = c.in_ok-parts.ensures in
    headers_then first mid now (i.headers (e.others.honest h) own) (e.headers h (next_own first c.args.directory.now ps mid c.loop-tenant.shelf.next has c.requires.once i.restored c.args.names.now c.args.segment_bytes c.loop-tenant.tenant _ i.count (omega arith) (e.others.honest h) own))

pub returns-in_err-push-clause-lost_nothing : goal.returns-in_err-push-clause-lost_nothing
returns-in_err-push-clause-lost_nothing g c = λ h own.
    let i = c.loop-tenant.invariant in
    let ps = c.loop-tenant.tenants.items in
    let has = c.loop-tenant.directory in
    let first = g.S.Store.disk c.args.shelf.now.store in
    let mid = g.S.Store.disk c.loop-tenant.shelf.store in
    let now = g.S.Store.disk c.open_tenant.new.shelf.store in
    let count = sym i.count in
    let e = c.in_ok-parts.ensures in
    tenants_lost first c.args.directory.now ps mid c.loop-tenant.shelf.next has (listed_later c.args.directory.now first c.args.shelf.now.next c.loop-tenant.shelf.next c.requires i.next.later) i.restored now (subst (λ n. Clears (IsOfTenant has n) mid now) count e.others) (i.lost (e.others.honest h) own)
    (subst (λ n. TenantLosesNothing (owners_in has n) mid now) count (e.lost_nothing h (next_own first c.args.directory.now ps mid c.loop-tenant.shelf.next has c.requires.once i.restored c.args.names.now c.args.segment_bytes c.loop-tenant.tenant _ i.count (omega arith) (e.others.honest h) own))) h

pub returns-in_err-tenants-clause-lost_nothing : goal.returns-in_err-tenants-clause-lost_nothing
returns-in_err-tenants-clause-lost_nothing g c = λ h own. none_changed c.args.directory.now (g.S.Store.disk c.args.shelf.now.store) c.args.shelf.now.next c.requires

pub returns-in_err-tenants-clause-headers : goal.returns-in_err-tenants-clause-headers
returns-in_err-tenants-clause-headers g c = λ h own file there. (there, refl)

pub loop-tenant-init : goal.loop-tenant-init
loop-tenant-init g c = record {
  next = record { later = omega arith; room = omega arith };
  later = omega arith;
  count = ap length c.in_ok-tenants.ensures.items;
  names = ap names_in c.in_ok-tenants.ensures.items;
  sizes = subst (All (λ (p : Parts SegmentLog). p.segment_bytes ≡ c.args.segment_bytes)) (sym c.in_ok-tenants.ensures.items) (All-nil (λ (p : Parts SegmentLog). p.segment_bytes ≡ c.args.segment_bytes));
  restored = none_restored (g.S.Store.disk c.args.shelf.now.store) c.args.directory.now c.args.shelf.now.next _ c.in_ok-tenants.ensures.items c.requires;
  headers = λ h own file there. (there, refl);
  lost = λ h own. none_changed c.args.directory.now (g.S.Store.disk c.args.shelf.now.store) c.args.shelf.now.next c.requires;
}

-- ---- the next number

pub returns-in_err-parts-clause-next : goal.returns-in_err-parts-clause-next
returns-in_err-parts-clause-next g c = raised_twice c.args.shelf.now.next c.loop-tenant.shelf.next c.open_tenant.new.shelf.next c.loop-tenant.invariant.next c.in_err-parts.ensures.next.raised

pub returns-in_err-push-clause-next : goal.returns-in_err-push-clause-next
returns-in_err-push-clause-next g c = raised_twice c.args.shelf.now.next c.loop-tenant.shelf.next c.open_tenant.new.shelf.next c.loop-tenant.invariant.next c.in_ok-parts.ensures.next.raised

pub returns-in_err-tenants-clause-next : goal.returns-in_err-tenants-clause-next
returns-in_err-tenants-clause-next g c = record { later = omega arith; room = omega arith }
