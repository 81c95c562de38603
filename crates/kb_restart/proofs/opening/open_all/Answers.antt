use Rattle.std.proofs.Common.{◌∙◌, ℕ, Err, List, length, map, sym, ap, subst, arith}
use Rattle.std.proofs.lemmas.Result.{err_from_is_err_and}
use Rattle.std.proofs.lemmas.List.{length-map}
use Rattle.std.proofs.lemmas.List.Sorted.{Contains-permutation, IsPermutation-sym}
use Rattle.kb_store.specs.Disk.{Files}
use Rattle.kb_opening.specs.Directory.{all_files}
use Rattle.kb_opening.specs.Tenant.{RaisesNext}
use Rattle.kb_restart.proofs.Read.{same_owners, listed, read_listed, cleared, are_sound, none_refused, are_in_use, are_opened, left_all}
use Rattle.kb_opening.proofs.Openings.{missed_since}
use Rattle.kb_restart.specs.Restart.{owners_of, AreOwnedNamed}
use Rattle.kb_segment_log.proofs.Comes.{kept_headers, headers_then}
use Rattle.kb_segment_log.proofs.Opened.{distinct_moved}
use Rattle.kb_opening.specs.Opened.{Owners, TenantLosesNothing}
use Rattle.kb_restart.proofs.Same.{tenant_kept, named_still}
use Rattle.kb_restart.proofs.Headed.{all_headed}
use Rattle.kb_restart.proofs.Strays.{only_left}
use Rattle.kb_restart.proofs.Accounted.{all_alone, all_settled}
use Rattle.kb_restart.proofs.opening.open_all.Goals as goal

pub open_tenants-requires : goal.open_tenants-requires
open_tenants-requires g c =
    let first = g.S.Store.disk c.args.shelf.now.store in
    let e = c.in_ok-directory.ensures in
    let q = c.requires in
    read_listed first c.args.files.now c.args.shelf.now.next q.there q.given_out q.once c.in_ok-directory.directory e.all (g.S.Store.disk c.read.new.shelf.store) c.read.new.shelf.next e.unchanged e.next

pub returns-in_err-parts-clause-others : goal.returns-in_err-parts-clause-others
returns-in_err-parts-clause-others g c =
    let first = g.S.Store.disk c.args.shelf.now.store in
    let mid = g.S.Store.disk c.read.new.shelf.store in
    let now = g.S.Store.disk c.open_tenants.new.shelf.store in
    let files = c.args.files.now in
    let names = map (λ name. name.now) c.args.names.now in
    let next = c.args.shelf.now.next in
    let d = c.in_ok-directory.directory in
    let e = c.in_ok-directory.ensures in
    let q = c.requires in
    λ h. cleared first files next q.there q.given_out q.once d e.all names (e.what (c.in_err-parts.ensures.others.honest h)) mid now (length c.args.names.now) e.unchanged (sym (length-map c.args.names.now (λ name. name.now))) c.in_err-parts.ensures.others

pub returns-in_err-parts-clause-cause : goal.returns-in_err-parts-clause-cause
returns-in_err-parts-clause-cause g c =
    let first = g.S.Store.disk c.args.shelf.now.store in
    let mid = g.S.Store.disk c.read.new.shelf.store in
    let now = g.S.Store.disk c.open_tenants.new.shelf.store in
    let files = c.args.files.now in
    let names = map (λ name. name.now) c.args.names.now in
    let next = c.args.shelf.now.next in
    let d = c.in_ok-directory.directory in
    let e = c.in_ok-directory.ensures in
    let q = c.requires in
    let p = err_from_is_err_and c.from_residual-in_err-parts.result c.from_residual-in_err-parts.ensures.1 in
    let f = c.in_err-parts.ensures in
    missed_since first mid now next c.read.new.shelf.next (Unit {0}) (AreOwnedNamed names c.args.segment_bytes mid.files d) c.from_residual-in_err-parts.result c.in_err-parts.field-0.0 (p.1 ∙ ap Err p.2) e.next e.cause.later
    (λ h u. subst (λ (fs : Files). AreOwnedNamed names c.args.segment_bytes fs d) (sym (e.unchanged.files (f.others.honest h))) (all_headed first.files names files d (e.what (f.others.honest h)) c.args.segment_bytes)) f.cause

pub returns-in_err-strays-clause-others : goal.returns-in_err-strays-clause-others
returns-in_err-strays-clause-others g c =
    let first = g.S.Store.disk c.args.shelf.now.store in
    let mid = g.S.Store.disk c.read.new.shelf.store in
    let now = g.S.Store.disk c.open_tenants.new.shelf.store in
    let files = c.args.files.now in
    let names = map (λ name. name.now) c.args.names.now in
    let next = c.args.shelf.now.next in
    let d = c.in_ok-directory.directory in
    let e = c.in_ok-directory.ensures in
    let q = c.requires in
    λ h. cleared first files next q.there q.given_out q.once d e.all names (e.what (c.in_ok-parts.ensures.others.honest h)) mid now (length c.args.names.now) e.unchanged (sym (length-map c.args.names.now (λ name. name.now))) c.in_ok-parts.ensures.others

pub returns-clause-sound : goal.returns-clause-sound
returns-clause-sound g c =
    let first = g.S.Store.disk c.args.shelf.now.store in
    let mid = g.S.Store.disk c.read.new.shelf.store in
    let now = g.S.Store.disk c.open_tenants.new.shelf.store in
    let files = c.args.files.now in
    let names = map (λ name. name.now) c.args.names.now in
    let next = c.args.shelf.now.next in
    let d = c.in_ok-directory.directory in
    let e = c.in_ok-directory.ensures in
    let q = c.requires in
    are_sound first files next q.there q.given_out q.once d e.all mid c.in_ok-parts.parts.items now c.open_tenants.new.shelf.next c.open_tenants.new.directory e.unchanged c.in_ok-parts.ensures.restored

pub returns-clause-opened : goal.returns-clause-opened
returns-clause-opened g c =
    let first = g.S.Store.disk c.args.shelf.now.store in
    let mid = g.S.Store.disk c.read.new.shelf.store in
    let now = g.S.Store.disk c.open_tenants.new.shelf.store in
    let files = c.args.files.now in
    let names = map (λ name. name.now) c.args.names.now in
    let next = c.args.shelf.now.next in
    let d = c.in_ok-directory.directory in
    let e = c.in_ok-directory.ensures in
    let q = c.requires in
    λ h. are_opened first files next q.there q.given_out q.once d e.all mid c.in_ok-parts.parts.items now c.open_tenants.new.shelf.next c.open_tenants.new.directory e.unchanged c.in_ok-parts.ensures.restored names h (e.what (c.in_ok-parts.ensures.others.honest h)) c.in_ok-parts.ensures.names
    (all_headed first.files names files d (e.what (c.in_ok-parts.ensures.others.honest h)))

pub returns-clause-refusals : goal.returns-clause-refusals
returns-clause-refusals g c =
    let first = g.S.Store.disk c.args.shelf.now.store in
    let mid = g.S.Store.disk c.read.new.shelf.store in
    let now = g.S.Store.disk c.open_tenants.new.shelf.store in
    let files = c.args.files.now in
    let names = map (λ name. name.now) c.args.names.now in
    let next = c.args.shelf.now.next in
    let d = c.in_ok-directory.directory in
    let e = c.in_ok-directory.ensures in
    let q = c.requires in
    none_refused first files next q.there q.given_out q.once d e.all mid c.in_ok-parts.parts.items now c.open_tenants.new.shelf.next c.open_tenants.new.directory e.unchanged c.in_ok-parts.ensures.restored

pub returns-clause-strays : goal.returns-clause-strays
returns-clause-strays g c =
    let first = g.S.Store.disk c.args.shelf.now.store in
    let mid = g.S.Store.disk c.read.new.shelf.store in
    let now = g.S.Store.disk c.open_tenants.new.shelf.store in
    let files = c.args.files.now in
    let names = map (λ name. name.now) c.args.names.now in
    let next = c.args.shelf.now.next in
    let d = c.in_ok-directory.directory in
    let e = c.in_ok-directory.ensures in
    let q = c.requires in
    λ h file is.
    let dir = e.what (c.in_ok-parts.ensures.others.honest h) in
    only_left first.files names files d dir mid now c.open_tenants.new.shelf.next c.in_ok-parts.parts.items c.open_tenants.new.directory
    (c.in_ok-parts.ensures.count ∙ sym (length-map c.args.names.now (λ name. name.now))) c.in_ok-parts.ensures.restored
    (listed first files next q.there q.given_out q.once d e.all names dir)
    (are_in_use first files next q.there q.given_out q.once d e.all mid c.in_ok-parts.parts.items now c.open_tenants.new.shelf.next c.open_tenants.new.directory e.unchanged c.in_ok-parts.ensures.restored names h (e.what (c.in_ok-parts.ensures.others.honest h)) c.in_ok-parts.ensures.names (all_headed first.files names files d dir)) file
    (Contains-permutation c.in_ok-strays.strays.items (all_files c.open_tenants.new.directory) file (IsPermutation-sym (all_files c.open_tenants.new.directory) c.in_ok-strays.strays.items c.in_ok-strays.ensures.these) is)

pub returns-clause-all_strays : goal.returns-clause-all_strays
returns-clause-all_strays g c =
    let first = g.S.Store.disk c.args.shelf.now.store in
    let mid = g.S.Store.disk c.read.new.shelf.store in
    let now = g.S.Store.disk c.open_tenants.new.shelf.store in
    let files = c.args.files.now in
    let names = map (λ name. name.now) c.args.names.now in
    let next = c.args.shelf.now.next in
    let d = c.in_ok-directory.directory in
    let e = c.in_ok-directory.ensures in
    let q = c.requires in
    λ h file none. Contains-permutation (all_files c.open_tenants.new.directory) c.in_ok-strays.strays.items file c.in_ok-strays.ensures.these
    (left_all first files next q.there q.given_out q.once d e.all mid c.in_ok-parts.parts.items now c.open_tenants.new.shelf.next c.open_tenants.new.directory e.unchanged c.in_ok-parts.ensures.restored names h (e.what (c.in_ok-parts.ensures.others.honest h)) c.in_ok-parts.ensures.names
    (all_headed first.files names files d (e.what (c.in_ok-parts.ensures.others.honest h))) file none)

pub returns-clause-once : goal.returns-clause-once
returns-clause-once g c = distinct_moved (all_files c.open_tenants.new.directory) c.in_ok-strays.strays.items c.in_ok-strays.ensures.these c.in_ok-parts.ensures.restored.listed.once

pub returns-clause-others : goal.returns-clause-others
returns-clause-others g c =
    let first = g.S.Store.disk c.args.shelf.now.store in
    let mid = g.S.Store.disk c.read.new.shelf.store in
    let now = g.S.Store.disk c.open_tenants.new.shelf.store in
    let files = c.args.files.now in
    let names = map (λ name. name.now) c.args.names.now in
    let next = c.args.shelf.now.next in
    let d = c.in_ok-directory.directory in
    let e = c.in_ok-directory.ensures in
    let q = c.requires in
    λ h. cleared first files next q.there q.given_out q.once d e.all names (e.what (c.in_ok-parts.ensures.others.honest h)) mid now (length c.args.names.now) e.unchanged (sym (length-map c.args.names.now (λ name. name.now))) c.in_ok-parts.ensures.others

pub returns-clause-alone : goal.returns-clause-alone
returns-clause-alone g c =
    let first = g.S.Store.disk c.args.shelf.now.store in
    let mid = g.S.Store.disk c.read.new.shelf.store in
    let now = g.S.Store.disk c.open_tenants.new.shelf.store in
    let e = c.in_ok-directory.ensures in
    all_alone first mid now c.open_tenants.new.shelf.next c.args.files.now c.in_ok-strays.strays.items c.in_ok-directory.directory c.open_tenants.new.directory c.in_ok-parts.parts.items e.unchanged c.requires.there e.all
    c.in_ok-parts.ensures.restored c.in_ok-strays.ensures.these

pub returns-clause-settled : goal.returns-clause-settled
returns-clause-settled g c all =
    let first = g.S.Store.disk c.args.shelf.now.store in
    let mid = g.S.Store.disk c.read.new.shelf.store in
    let now = g.S.Store.disk c.open_tenants.new.shelf.store in
    let e = c.in_ok-directory.ensures in
    all_settled first mid now c.open_tenants.new.shelf.next c.args.files.now c.in_ok-strays.strays.items c.in_ok-directory.directory c.open_tenants.new.directory c.in_ok-parts.parts.items e.unchanged c.requires.there e.all
    c.in_ok-parts.ensures.restored c.in_ok-strays.ensures.these all

pub returns-in_err-parts-clause-headers : goal.returns-in_err-parts-clause-headers
returns-in_err-parts-clause-headers g c = λ h.
    let first = g.S.Store.disk c.args.shelf.now.store in
    let mid = g.S.Store.disk c.read.new.shelf.store in
    let now = g.S.Store.disk c.open_tenants.new.shelf.store in
    let files = c.args.files.now in
    let names = map (λ name. name.now) c.args.names.now in
    let d = c.in_ok-directory.directory in
    let e = c.in_ok-directory.ensures in
    let f = c.in_err-parts.ensures in
    let q = c.requires in
    let before = f.others.honest h in
    let dir = e.what before in
    let headed = subst (λ (fs : Files). AreOwnedNamed names c.args.segment_bytes fs d) (sym (e.unchanged.files before)) (all_headed first.files names files d dir c.args.segment_bytes) in
    headers_then first mid now (kept_headers first mid e.unchanged before) (f.headers h headed)

pub returns-in_err-parts-clause-lost_nothing : goal.returns-in_err-parts-clause-lost_nothing
returns-in_err-parts-clause-lost_nothing g c = λ h t name at.
    let first = g.S.Store.disk c.args.shelf.now.store in
    let mid = g.S.Store.disk c.read.new.shelf.store in
    let now = g.S.Store.disk c.open_tenants.new.shelf.store in
    let files = c.args.files.now in
    let names = map (λ name. name.now) c.args.names.now in
    let d = c.in_ok-directory.directory in
    let e = c.in_ok-directory.ensures in
    let f = c.in_err-parts.ensures in
    let q = c.requires in
    let before = f.others.honest h in
    let dir = e.what before in
    let headed = subst (λ (fs : Files). AreOwnedNamed names c.args.segment_bytes fs d) (sym (e.unchanged.files before)) (all_headed first.files names files d dir c.args.segment_bytes) in
    tenant_kept (owners_of first.files files name) first mid now e.unchanged before (subst (λ (of : Owners). TenantLosesNothing of mid now) (same_owners first files c.args.shelf.now.next q.there q.given_out q.once d e.all names dir t name at) (f.lost_nothing h headed t))

pub returns-in_err-strays-clause-headers : goal.returns-in_err-strays-clause-headers
returns-in_err-strays-clause-headers g c = λ h.
    let first = g.S.Store.disk c.args.shelf.now.store in
    let mid = g.S.Store.disk c.read.new.shelf.store in
    let now = g.S.Store.disk c.open_tenants.new.shelf.store in
    let files = c.args.files.now in
    let names = map (λ name. name.now) c.args.names.now in
    let d = c.in_ok-directory.directory in
    let e = c.in_ok-directory.ensures in
    let f = c.in_ok-parts.ensures in
    let q = c.requires in
    let before = f.others.honest h in
    let dir = e.what before in
    let headed = subst (λ (fs : Files). AreOwnedNamed names c.args.segment_bytes fs d) (sym (e.unchanged.files before)) (all_headed first.files names files d dir c.args.segment_bytes) in
    headers_then first mid now (kept_headers first mid e.unchanged before) (f.headers h headed)

pub returns-in_err-strays-clause-lost_nothing : goal.returns-in_err-strays-clause-lost_nothing
returns-in_err-strays-clause-lost_nothing g c = λ h t name at.
    let first = g.S.Store.disk c.args.shelf.now.store in
    let mid = g.S.Store.disk c.read.new.shelf.store in
    let now = g.S.Store.disk c.open_tenants.new.shelf.store in
    let files = c.args.files.now in
    let names = map (λ name. name.now) c.args.names.now in
    let d = c.in_ok-directory.directory in
    let e = c.in_ok-directory.ensures in
    let f = c.in_ok-parts.ensures in
    let q = c.requires in
    let before = f.others.honest h in
    let dir = e.what before in
    let headed = subst (λ (fs : Files). AreOwnedNamed names c.args.segment_bytes fs d) (sym (e.unchanged.files before)) (all_headed first.files names files d dir c.args.segment_bytes) in
    tenant_kept (owners_of first.files files name) first mid now e.unchanged before (subst (λ (of : Owners). TenantLosesNothing of mid now) (same_owners first files c.args.shelf.now.next q.there q.given_out q.once d e.all names dir t name at) (f.lost_nothing h headed t))

pub returns-clause-headers : goal.returns-clause-headers
returns-clause-headers g c = λ h.
    let first = g.S.Store.disk c.args.shelf.now.store in
    let mid = g.S.Store.disk c.read.new.shelf.store in
    let now = g.S.Store.disk c.open_tenants.new.shelf.store in
    let files = c.args.files.now in
    let names = map (λ name. name.now) c.args.names.now in
    let d = c.in_ok-directory.directory in
    let e = c.in_ok-directory.ensures in
    let f = c.in_ok-parts.ensures in
    let q = c.requires in
    let before = f.others.honest h in
    let dir = e.what before in
    let headed = subst (λ (fs : Files). AreOwnedNamed names c.args.segment_bytes fs d) (sym (e.unchanged.files before)) (all_headed first.files names files d dir c.args.segment_bytes) in
    headers_then first mid now (kept_headers first mid e.unchanged before) (f.headers h headed)

pub returns-clause-lost_nothing : goal.returns-clause-lost_nothing
returns-clause-lost_nothing g c = λ h t name at.
    let first = g.S.Store.disk c.args.shelf.now.store in
    let mid = g.S.Store.disk c.read.new.shelf.store in
    let now = g.S.Store.disk c.open_tenants.new.shelf.store in
    let files = c.args.files.now in
    let names = map (λ name. name.now) c.args.names.now in
    let d = c.in_ok-directory.directory in
    let e = c.in_ok-directory.ensures in
    let f = c.in_ok-parts.ensures in
    let q = c.requires in
    let before = f.others.honest h in
    let dir = e.what before in
    let headed = subst (λ (fs : Files). AreOwnedNamed names c.args.segment_bytes fs d) (sym (e.unchanged.files before)) (all_headed first.files names files d dir c.args.segment_bytes) in
    tenant_kept (owners_of first.files files name) first mid now e.unchanged before (subst (λ (of : Owners). TenantLosesNothing of mid now) (same_owners first files c.args.shelf.now.next q.there q.given_out q.once d e.all names dir t name at) (f.lost_nothing h headed t))

pub returns-in_err-directory-clause-headers : goal.returns-in_err-directory-clause-headers
returns-in_err-directory-clause-headers g c = λ h. kept_headers (g.S.Store.disk c.args.shelf.now.store) (g.S.Store.disk c.read.new.shelf.store) c.in_err-directory.ensures.unchanged h

pub returns-in_err-directory-clause-lost_nothing : goal.returns-in_err-directory-clause-lost_nothing
returns-in_err-directory-clause-lost_nothing g c = λ h t name at.
    let first = g.S.Store.disk c.args.shelf.now.store in
    named_still c.args.files.now (map (λ name. name.now) c.args.names.now) first (g.S.Store.disk c.read.new.shelf.store) c.requires.there c.in_err-directory.ensures.unchanged h t name at

pub returns-in_err-next_instances-clause-others : goal.returns-in_err-next_instances-clause-others
returns-in_err-next_instances-clause-others g c =
    let first = g.S.Store.disk c.args.shelf.now.store in
    let mid = g.S.Store.disk c.read.new.shelf.store in
    let now = g.S.Store.disk c.open_tenants.new.shelf.store in
    let files = c.args.files.now in
    let names = map (λ name. name.now) c.args.names.now in
    let next = c.args.shelf.now.next in
    let d = c.in_ok-directory.directory in
    let e = c.in_ok-directory.ensures in
    let q = c.requires in
    λ h. cleared first files next q.there q.given_out q.once d e.all names (e.what (c.in_ok-parts.ensures.others.honest h)) mid now (length c.args.names.now) e.unchanged (sym (length-map c.args.names.now (λ name. name.now))) c.in_ok-parts.ensures.others

pub returns-in_err-next_instances-clause-headers : goal.returns-in_err-next_instances-clause-headers
returns-in_err-next_instances-clause-headers g c = λ h.
    let first = g.S.Store.disk c.args.shelf.now.store in
    let mid = g.S.Store.disk c.read.new.shelf.store in
    let now = g.S.Store.disk c.open_tenants.new.shelf.store in
    let files = c.args.files.now in
    let names = map (λ name. name.now) c.args.names.now in
    let d = c.in_ok-directory.directory in
    let e = c.in_ok-directory.ensures in
    let f = c.in_ok-parts.ensures in
    let q = c.requires in
    let before = f.others.honest h in
    let dir = e.what before in
    let headed = subst (λ (fs : Files). AreOwnedNamed names c.args.segment_bytes fs d) (sym (e.unchanged.files before)) (all_headed first.files names files d dir c.args.segment_bytes) in
    headers_then first mid now (kept_headers first mid e.unchanged before) (f.headers h headed)

pub returns-in_err-next_instances-clause-lost_nothing : goal.returns-in_err-next_instances-clause-lost_nothing
returns-in_err-next_instances-clause-lost_nothing g c = λ h t name at.
    let first = g.S.Store.disk c.args.shelf.now.store in
    let mid = g.S.Store.disk c.read.new.shelf.store in
    let now = g.S.Store.disk c.open_tenants.new.shelf.store in
    let files = c.args.files.now in
    let names = map (λ name. name.now) c.args.names.now in
    let d = c.in_ok-directory.directory in
    let e = c.in_ok-directory.ensures in
    let f = c.in_ok-parts.ensures in
    let q = c.requires in
    let before = f.others.honest h in
    let dir = e.what before in
    let headed = subst (λ (fs : Files). AreOwnedNamed names c.args.segment_bytes fs d) (sym (e.unchanged.files before)) (all_headed first.files names files d dir c.args.segment_bytes) in
    tenant_kept (owners_of first.files files name) first mid now e.unchanged before (subst (λ (of : Owners). TenantLosesNothing of mid now) (same_owners first files c.args.shelf.now.next q.there q.given_out q.once d e.all names dir t name at) (f.lost_nothing h headed t))

-- ---- the next number

pub returns-clause-next : goal.returns-clause-next
returns-clause-next g c = subst (λ m. RaisesNext m c.open_tenants.new.shelf.next) c.in_ok-directory.ensures.next c.in_ok-parts.ensures.next

pub returns-in_err-next_instances-clause-next : goal.returns-in_err-next_instances-clause-next
returns-in_err-next_instances-clause-next g c = subst (λ m. RaisesNext m c.open_tenants.new.shelf.next) c.in_ok-directory.ensures.next c.in_ok-parts.ensures.next

pub returns-in_err-strays-clause-next : goal.returns-in_err-strays-clause-next
returns-in_err-strays-clause-next g c = subst (λ m. RaisesNext m c.open_tenants.new.shelf.next) c.in_ok-directory.ensures.next c.in_ok-parts.ensures.next

pub returns-in_err-parts-clause-next : goal.returns-in_err-parts-clause-next
returns-in_err-parts-clause-next g c = subst (λ m. RaisesNext m c.open_tenants.new.shelf.next) c.in_ok-directory.ensures.next c.in_err-parts.ensures.next

pub returns-in_err-directory-clause-next : goal.returns-in_err-directory-clause-next
returns-in_err-directory-clause-next g c =
    let same = c.in_err-directory.ensures.next in
    record { later = omega (arith, same); room = omega (arith, same) }
