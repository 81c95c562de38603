use Rattle.std.proofs.Common.{◌≡◌, ◌∙◌, ℕ, Bor, Err, Some, IfErr, List, length, map, sym, ap, subst, arith}
use Rattle.std.specs.Ordering.{nat_cmp}
use Rattle.std.specs.Cmp.Lexicographic.{slice_cmp}
use Rattle.std.specs.FinMap.{keys}
use Rattle.std.specs.List.{Contains, zip}
use Rattle.std.specs.List.Sorted.{IsStrictlySortedBy}
use Rattle.std.proofs.lemmas.List.{length-map}
use Rattle.std.proofs.lemmas.Result.{err_from_is_err_and}
use Rattle.kb_settings.proofs.NamesInOrder.{rises-in_order}
use Rattle.kb_segment_log.specs.SegmentLog.{segment_log, Clears}
use Rattle.kb_segment_log.specs.declared.log.SegmentLog.{SegmentLog}
use Rattle.kb_topics.specs.Catalog.{known}
use Rattle.kb_topics.specs.Known.{Known}
use Rattle.kb_tenant_state.specs.declared.parts.Parts.{Parts}
use Rattle.kb_coordinator.specs.Groups.{Groups}
use Rattle.kb_tenant_api.specs.Hosted.{TenantState, names_of}
use Rattle.kb_isolation_spec.specs.Broker.{BrokerState}
use Rattle.kb_tenants.specs.Members.{HaveNoGroup}
use Rattle.kb_broker.specs.Opening.{tenant_of, tenants_of, HaveNoGroups}
use Rattle.kb_broker.specs.declared.opening.OpenRefused.{OpenRefused}
use Rattle.kb_restart.specs.Counts.{counts_of}
use Rattle.kb_restart.specs.Restart.{BlamesShelf, ComeToTheSame, IsOfLog, have_nothing_refused, tenants_restored}
use Rattle.kb_tenants.specs.Tenants.{AreSettled}
use Rattle.kb_restart.proofs.Accounted.{there_listed}
use Rattle.kb_restart.proofs.Same.{same_since, same_kept}
use Rattle.kb_restart.proofs.Blamed.{shelf_blamed}
use Rattle.kb_restart.proofs.Counted.{knowns_restored}
use Rattle.kb_restart.proofs.Listed.{all_shelved, all_given_out, listed_apart}
use Rattle.kb_restart.proofs.Reopened.{agree_all, names_restored, none_counted, keeps_then, cleared_since, only_reopened, reopened_since, strays_since, left_since}
use Rattle.kb_restart.proofs.Seated.{no_groups}
use Rattle.kb_restart.proofs.opening.open_broker.Goals as goal

pub open_all-requires-clause-there : goal.open_all-requires-clause-there
open_all-requires-clause-there g c =
    let d0 = g.S.Store.disk c.args.store in
    let d1 = g.S.Store.disk c.list.new.self in
    let d2 = g.S.Store.disk c.in-Ok-new.shelf.store in
    let k1 = c.in-Ok-list.ensures.unchanged in
    let k2 = c.in-Ok-new.ensures.unchanged in
    let numbers = c.deref-3.result.now in
    let same = c.deref-3.ensures.value ∙ c.in-Ok-list.ensures.numbers in
    all_shelved d0 d1 d2 numbers same k1 k2

pub open_all-requires-clause-given_out : goal.open_all-requires-clause-given_out
open_all-requires-clause-given_out g c =
    let d0 = g.S.Store.disk c.args.store in
    let d1 = g.S.Store.disk c.list.new.self in
    let d2 = g.S.Store.disk c.in-Ok-new.shelf.store in
    let k1 = c.in-Ok-list.ensures.unchanged in
    let k2 = c.in-Ok-new.ensures.unchanged in
    let numbers = c.deref-3.result.now in
    let same = c.deref-3.ensures.value ∙ c.in-Ok-list.ensures.numbers in
    all_given_out d0 d1 d2 numbers c.in-Ok-new.shelf.next same k1 k2 c.in-Ok-new.ensures.next

pub open_all-requires-clause-once : goal.open_all-requires-clause-once
open_all-requires-clause-once g c =
    let d0 = g.S.Store.disk c.args.store in
    let numbers = c.deref-3.result.now in
    let same = c.deref-3.ensures.value ∙ c.in-Ok-list.ensures.numbers in
    listed_apart d0 numbers same

pub open_all-requires-clause-rise : goal.open_all-requires-clause-rise
open_all-requires-clause-rise g c =
    let own = c.in-Ok.ensures ∙ ap tenants_of c.deref.ensures.value in
    let named = ap (map (λ (name : Bor (List ℕ)). name.now)) c.deref-2.ensures.value ∙ own in
    subst (λ (ns : List (List ℕ)). IsStrictlySortedBy (slice_cmp nat_cmp) ns) (sym named) (rises-in_order (map tenant_of c.args.settings.now.users.items))

pub host-requires-clause-agree : goal.host-requires-clause-agree
host-requires-clause-agree g c =
    let d2 = g.S.Store.disk c.in-Ok-new.shelf.store in
    let d3 = g.S.Store.disk c.open_all.new.shelf.store in
    let numbers = c.deref-3.result.now in
    let names = map (λ (name : Bor (List ℕ)). name.now) c.deref-2.result.now in
    let ps = c.in-Ok-open_all.parts.items in
    let e = c.in-Ok-open_all.ensures in
    let many = e.count ∙ sym (length-map c.deref-2.result.now (λ (name : Bor (List ℕ)). name.now)) in
    λ h. agree_all d3.files names ps many d2.files numbers (e.opened h)

pub returns-in_err-tenants-in-Ok-open_all-clause-others_err : goal.returns-in_err-tenants-in-Ok-open_all-clause-others_err
returns-in_err-tenants-in-Ok-open_all-clause-others_err g c =
    let d0 = g.S.Store.disk c.args.store in
    let d1 = g.S.Store.disk c.list.new.self in
    let d2 = g.S.Store.disk c.in-Ok-new.shelf.store in
    let d3 = g.S.Store.disk c.open_all.new.shelf.store in
    let k1 = c.in-Ok-list.ensures.unchanged in
    let k2 = c.in-Ok-new.ensures.unchanged in
    let numbers = c.deref-3.result.now in
    let same = c.deref-3.ensures.value ∙ c.in-Ok-list.ensures.numbers in
    let names = map (λ (name : Bor (List ℕ)). name.now) c.deref-2.result.now in
    let whole = tenants_of c.args.settings.now.users.items in
    let own = c.in-Ok.ensures ∙ ap tenants_of c.deref.ensures.value in
    let named = ap (map (λ (name : Bor (List ℕ)). name.now)) c.deref-2.ensures.value ∙ own in
    let e = c.in-Ok-open_all.ensures in
    let kept = keeps_then d0 d1 d2 k1 k2 in
    let cleared = cleared_since d0 d2 d3 kept numbers same names whole named e.others in
    let p = err_from_is_err_and c.from_residual.result c.from_residual.ensures.1 in
    let store = ap (λ r. r.store) c.in_err-tenants-in-Ok-open_all.ensures.refused in
    subst (λ r. IfErr r (λ (refused : OpenRefused g.row.S.Denot). (g.S.Store.disk refused.store).honest → Clears (IsOfLog d0.files (keys d0.table) whole) d0 (g.S.Store.disk refused.store))) (sym (p.1 ∙ ap Err p.2))
    (subst (λ (s : g.row.S.Denot). (g.S.Store.disk s).honest → Clears (IsOfLog d0.files (keys d0.table) whole) d0 (g.S.Store.disk s)) (sym store) cleared)

pub over-requires-clause-names : goal.over-requires-clause-names
over-requires-clause-names g c =
    let d3 = g.S.Store.disk c.open_all.new.shelf.store in
    let names = map (λ (name : Bor (List ℕ)). name.now) c.deref-2.result.now in
    let whole = tenants_of c.args.settings.now.users.items in
    let own = c.in-Ok.ensures ∙ ap tenants_of c.deref.ensures.value in
    let named = ap (map (λ (name : Bor (List ℕ)). name.now)) c.deref-2.ensures.value ∙ own in
    let last = map (λ (name : Bor (List ℕ)). name.now) c.deref-in-Ok-open_all-3.result.now in
    let ps = c.in-Ok-open_all.parts.items in
    let e = c.in-Ok-open_all.ensures in
    let many = e.count ∙ sym (length-map c.deref-2.result.now (λ (name : Bor (List ℕ)). name.now)) in
    let again = ap (map (λ (name : Bor (List ℕ)). name.now)) c.deref-in-Ok-open_all-3.ensures.value ∙ sym (ap (map (λ (name : Bor (List ℕ)). name.now)) c.deref-2.ensures.value) in
    ap names_of (c.in_ok-tenants-in-Ok-open_all.ensures.hosted ∙ ap (λ ns. tenants_restored d3.files ns ps) again) ∙ names_restored d3.files names ps many ∙ named

pub returns-in_err-broker-in-Ok-open_all-clause-others_err : goal.returns-in_err-broker-in-Ok-open_all-clause-others_err
returns-in_err-broker-in-Ok-open_all-clause-others_err g c =
    let d0 = g.S.Store.disk c.args.store in
    let d1 = g.S.Store.disk c.list.new.self in
    let d2 = g.S.Store.disk c.in-Ok-new.shelf.store in
    let d3 = g.S.Store.disk c.open_all.new.shelf.store in
    let k1 = c.in-Ok-list.ensures.unchanged in
    let k2 = c.in-Ok-new.ensures.unchanged in
    let numbers = c.deref-3.result.now in
    let same = c.deref-3.ensures.value ∙ c.in-Ok-list.ensures.numbers in
    let names = map (λ (name : Bor (List ℕ)). name.now) c.deref-2.result.now in
    let whole = tenants_of c.args.settings.now.users.items in
    let own = c.in-Ok.ensures ∙ ap tenants_of c.deref.ensures.value in
    let named = ap (map (λ (name : Bor (List ℕ)). name.now)) c.deref-2.ensures.value ∙ own in
    let e = c.in-Ok-open_all.ensures in
    let kept = keeps_then d0 d1 d2 k1 k2 in
    let cleared = cleared_since d0 d2 d3 kept numbers same names whole named e.others in
    let p = err_from_is_err_and c.from_residual-in_err-broker-in-Ok-open_all.result c.from_residual-in_err-broker-in-Ok-open_all.ensures.1 in
    let store = ap (λ r. r.store) c.in_err-broker-in-Ok-open_all.ensures.refused ∙ ap (λ s. s.store) c.in_ok-tenants-in-Ok-open_all.ensures.shelf in
    subst (λ r. IfErr r (λ (refused : OpenRefused g.row.S.Denot). (g.S.Store.disk refused.store).honest → Clears (IsOfLog d0.files (keys d0.table) whole) d0 (g.S.Store.disk refused.store))) (sym (p.1 ∙ ap Err p.2))
    (subst (λ (s : g.row.S.Denot). (g.S.Store.disk s).honest → Clears (IsOfLog d0.files (keys d0.table) whole) d0 (g.S.Store.disk s)) (sym store) cleared)

pub returns-in-Ok-open_all-clause-calm : goal.returns-in-Ok-open_all-clause-calm
returns-in-Ok-open_all-clause-calm g c =
    let d3 = g.S.Store.disk c.open_all.new.shelf.store in
    let names = map (λ (name : Bor (List ℕ)). name.now) c.deref-2.result.now in
    let ps = c.in-Ok-open_all.parts.items in
    let e = c.in-Ok-open_all.ensures in
    let again = ap (map (λ (name : Bor (List ℕ)). name.now)) c.deref-in-Ok-open_all-3.ensures.value ∙ sym (ap (map (λ (name : Bor (List ℕ)). name.now)) c.deref-2.ensures.value) in
    let hosts = ap (λ s. s.tenants) c.in_ok-broker-in-Ok-open_all.ensures.state ∙ c.in_ok-tenants-in-Ok-open_all.ensures.hosted ∙ ap (λ ns. tenants_restored d3.files ns ps) again in
    subst (λ (xs : List TenantState). have_nothing_refused xs) (sym hosts) (none_counted d3.files names ps e.refusals)

pub returns-in-Ok-open_all-clause-state : goal.returns-in-Ok-open_all-clause-state
returns-in-Ok-open_all-clause-state g c =
    let d0 = g.S.Store.disk c.args.store in
    let d1 = g.S.Store.disk c.list.new.self in
    let d2 = g.S.Store.disk c.in-Ok-new.shelf.store in
    let d3 = g.S.Store.disk c.open_all.new.shelf.store in
    let k1 = c.in-Ok-list.ensures.unchanged in
    let k2 = c.in-Ok-new.ensures.unchanged in
    let numbers = c.deref-3.result.now in
    let same = c.deref-3.ensures.value ∙ c.in-Ok-list.ensures.numbers in
    let names = map (λ (name : Bor (List ℕ)). name.now) c.deref-2.result.now in
    let whole = tenants_of c.args.settings.now.users.items in
    let own = c.in-Ok.ensures ∙ ap tenants_of c.deref.ensures.value in
    let named = ap (map (λ (name : Bor (List ℕ)). name.now)) c.deref-2.ensures.value ∙ own in
    let ps = c.in-Ok-open_all.parts.items in
    let e = c.in-Ok-open_all.ensures in
    let many = e.count ∙ sym (length-map c.deref-2.result.now (λ (name : Bor (List ℕ)). name.now)) in
    let kept = keeps_then d0 d1 d2 k1 k2 in
    let again = ap (map (λ (name : Bor (List ℕ)). name.now)) c.deref-in-Ok-open_all-3.ensures.value ∙ sym (ap (map (λ (name : Bor (List ℕ)). name.now)) c.deref-2.ensures.value) in
    let hosts = ap (λ s. s.tenants) c.in_ok-broker-in-Ok-open_all.ensures.state ∙ c.in_ok-tenants-in-Ok-open_all.ensures.hosted ∙ ap (λ ns. tenants_restored d3.files ns ps) again in
    let back = c.in_ok-broker-in-Ok-open_all.ensures.store ∙ ap (λ s. s.store) c.in_ok-tenants-in-Ok-open_all.ensures.shelf in
    let ts = c.in_ok-broker-in-Ok-open_all.broker.state.tenants in
    λ h.
    let now = subst (λ (s : g.row.S.Denot). (g.S.Store.disk s).honest) back h in
    reopened_since d0 d2 d3 kept numbers same names whole named ps many ts hosts ((e.others now).honest now) (e.opened now)

pub returns-in-Ok-open_all-clause-only : goal.returns-in-Ok-open_all-clause-only
returns-in-Ok-open_all-clause-only g c =
    let d0 = g.S.Store.disk c.args.store in
    let d1 = g.S.Store.disk c.list.new.self in
    let d2 = g.S.Store.disk c.in-Ok-new.shelf.store in
    let d3 = g.S.Store.disk c.open_all.new.shelf.store in
    let k1 = c.in-Ok-list.ensures.unchanged in
    let k2 = c.in-Ok-new.ensures.unchanged in
    let numbers = c.deref-3.result.now in
    let same = c.deref-3.ensures.value ∙ c.in-Ok-list.ensures.numbers in
    let names = map (λ (name : Bor (List ℕ)). name.now) c.deref-2.result.now in
    let whole = tenants_of c.args.settings.now.users.items in
    let own = c.in-Ok.ensures ∙ ap tenants_of c.deref.ensures.value in
    let named = ap (map (λ (name : Bor (List ℕ)). name.now)) c.deref-2.ensures.value ∙ own in
    let ps = c.in-Ok-open_all.parts.items in
    let e = c.in-Ok-open_all.ensures in
    let many = e.count ∙ sym (length-map c.deref-2.result.now (λ (name : Bor (List ℕ)). name.now)) in
    let kept = keeps_then d0 d1 d2 k1 k2 in
    let again = ap (map (λ (name : Bor (List ℕ)). name.now)) c.deref-in-Ok-open_all-3.ensures.value ∙ sym (ap (map (λ (name : Bor (List ℕ)). name.now)) c.deref-2.ensures.value) in
    let hosts = ap (λ s. s.tenants) c.in_ok-broker-in-Ok-open_all.ensures.state ∙ c.in_ok-tenants-in-Ok-open_all.ensures.hosted ∙ ap (λ ns. tenants_restored d3.files ns ps) again in
    let back = c.in_ok-broker-in-Ok-open_all.ensures.store ∙ ap (λ s. s.store) c.in_ok-tenants-in-Ok-open_all.ensures.shelf in
    let ts = c.in_ok-broker-in-Ok-open_all.broker.state.tenants in
    λ h.
    let now = subst (λ (s : g.row.S.Denot). (g.S.Store.disk s).honest) back h in
    only_reopened d0.files (keys d0.table) whole ts
    (reopened_since d0 d2 d3 kept numbers same names whole named ps many ts hosts ((e.others now).honest now) (e.opened now))

pub returns-in-Ok-open_all-clause-strays : goal.returns-in-Ok-open_all-clause-strays
returns-in-Ok-open_all-clause-strays g c =
    let d0 = g.S.Store.disk c.args.store in
    let d1 = g.S.Store.disk c.list.new.self in
    let d2 = g.S.Store.disk c.in-Ok-new.shelf.store in
    let d3 = g.S.Store.disk c.open_all.new.shelf.store in
    let k1 = c.in-Ok-list.ensures.unchanged in
    let k2 = c.in-Ok-new.ensures.unchanged in
    let numbers = c.deref-3.result.now in
    let same = c.deref-3.ensures.value ∙ c.in-Ok-list.ensures.numbers in
    let names = map (λ (name : Bor (List ℕ)). name.now) c.deref-2.result.now in
    let whole = tenants_of c.args.settings.now.users.items in
    let own = c.in-Ok.ensures ∙ ap tenants_of c.deref.ensures.value in
    let named = ap (map (λ (name : Bor (List ℕ)). name.now)) c.deref-2.ensures.value ∙ own in
    let ps = c.in-Ok-open_all.parts.items in
    let e = c.in-Ok-open_all.ensures in
    let many = e.count ∙ sym (length-map c.deref-2.result.now (λ (name : Bor (List ℕ)). name.now)) in
    let kept = keeps_then d0 d1 d2 k1 k2 in
    let again = ap (map (λ (name : Bor (List ℕ)). name.now)) c.deref-in-Ok-open_all-3.ensures.value ∙ sym (ap (map (λ (name : Bor (List ℕ)). name.now)) c.deref-2.ensures.value) in
    let hosts = ap (λ s. s.tenants) c.in_ok-broker-in-Ok-open_all.ensures.state ∙ c.in_ok-tenants-in-Ok-open_all.ensures.hosted ∙ ap (λ ns. tenants_restored d3.files ns ps) again in
    let back = c.in_ok-broker-in-Ok-open_all.ensures.store ∙ ap (λ s. s.store) c.in_ok-tenants-in-Ok-open_all.ensures.shelf in
    let ts = c.in_ok-broker-in-Ok-open_all.broker.state.tenants in
    λ h file is.
    let now = subst (λ (s : g.row.S.Denot). (g.S.Store.disk s).honest) back h in
    strays_since d0 d2 d3 kept numbers same names whole named ps many ts hosts ((e.others now).honest now) file (e.strays now file is)

pub returns-in-Ok-open_all-clause-all_strays : goal.returns-in-Ok-open_all-clause-all_strays
returns-in-Ok-open_all-clause-all_strays g c =
    let d0 = g.S.Store.disk c.args.store in
    let d1 = g.S.Store.disk c.list.new.self in
    let d2 = g.S.Store.disk c.in-Ok-new.shelf.store in
    let d3 = g.S.Store.disk c.open_all.new.shelf.store in
    let k1 = c.in-Ok-list.ensures.unchanged in
    let k2 = c.in-Ok-new.ensures.unchanged in
    let numbers = c.deref-3.result.now in
    let same = c.deref-3.ensures.value ∙ c.in-Ok-list.ensures.numbers in
    let names = map (λ (name : Bor (List ℕ)). name.now) c.deref-2.result.now in
    let whole = tenants_of c.args.settings.now.users.items in
    let own = c.in-Ok.ensures ∙ ap tenants_of c.deref.ensures.value in
    let named = ap (map (λ (name : Bor (List ℕ)). name.now)) c.deref-2.ensures.value ∙ own in
    let ps = c.in-Ok-open_all.parts.items in
    let e = c.in-Ok-open_all.ensures in
    let many = e.count ∙ sym (length-map c.deref-2.result.now (λ (name : Bor (List ℕ)). name.now)) in
    let kept = keeps_then d0 d1 d2 k1 k2 in
    let again = ap (map (λ (name : Bor (List ℕ)). name.now)) c.deref-in-Ok-open_all-3.ensures.value ∙ sym (ap (map (λ (name : Bor (List ℕ)). name.now)) c.deref-2.ensures.value) in
    let hosts = ap (λ s. s.tenants) c.in_ok-broker-in-Ok-open_all.ensures.state ∙ c.in_ok-tenants-in-Ok-open_all.ensures.hosted ∙ ap (λ ns. tenants_restored d3.files ns ps) again in
    let back = c.in_ok-broker-in-Ok-open_all.ensures.store ∙ ap (λ s. s.store) c.in_ok-tenants-in-Ok-open_all.ensures.shelf in
    let ts = c.in_ok-broker-in-Ok-open_all.broker.state.tenants in
    λ h file is.
    let now = subst (λ (s : g.row.S.Denot). (g.S.Store.disk s).honest) back h in
    e.all_strays now file (left_since d0 d2 d3 kept numbers same names whole named ps many ts hosts ((e.others now).honest now) file is)

pub returns-clause-cause : goal.returns-clause-cause
returns-clause-cause g c =
    let d0 = g.S.Store.disk c.args.store in
    let d1 = g.S.Store.disk c.list.new.self in
    let d2 = g.S.Store.disk c.in-Ok-new.shelf.store in
    let d3 = g.S.Store.disk c.open_all.new.shelf.store in
    let fault = c.in-Err-open_all.fault in
    let listed = c.in-Ok-list.ensures.cause.later in
    let shelved = c.in-Ok-new.ensures.later in
    let blamed = shelf_blamed d0 d1 d2 d3 c.in-Ok-new.shelf.next fault c.in-Ok-list.ensures.unchanged (omega (arith, listed, shelved)) c.in-Ok-new.ensures.next c.in-Err-open_all.ensures.cause in
    subst (λ (s : g.row.S.Denot). BlamesShelf d0 c.fault_of.result (g.S.Store.disk s)) (sym c.into_store.ensures) (subst (λ f. BlamesShelf d0 f d3) (sym c.fault_of.ensures) blamed)

pub host-requires-clause-settled : goal.host-requires-clause-settled
host-requires-clause-settled g c =
    let d0 = g.S.Store.disk c.args.store in
    let d1 = g.S.Store.disk c.list.new.self in
    let d2 = g.S.Store.disk c.in-Ok-new.shelf.store in
    let d3 = g.S.Store.disk c.open_all.new.shelf.store in
    let numbers = c.deref-3.result.now in
    let same = c.deref-3.ensures.value ∙ c.in-Ok-list.ensures.numbers in
    subst (λ (ns : List ℕ). AreSettled segment_log c.in-Ok-open_all.parts.items ns d3) (sym c.deref-in-Ok-open_all-4.ensures.value)
    (c.in-Ok-open_all.ensures.settled (there_listed d0 d1 d2 numbers same c.in-Ok-list.ensures.unchanged c.in-Ok-new.ensures.unchanged))

pub host-requires-clause-names : goal.host-requires-clause-names
host-requires-clause-names g c =
    let again = ap (map (λ (name : Bor (List ℕ)). name.now)) c.deref-in-Ok-open_all-3.ensures.value ∙ sym (ap (map (λ (name : Bor (List ℕ)). name.now)) c.deref-2.ensures.value) in
    c.in-Ok-open_all.ensures.names ∙ sym again

pub host-requires-clause-alone : goal.host-requires-clause-alone
host-requires-clause-alone g c file has =
    c.in-Ok-open_all.ensures.alone file (subst (λ (ns : List ℕ). Contains ns file) c.deref-in-Ok-open_all-4.ensures.value has)

pub returns-in-Ok-open_all-clause-known_strays : goal.returns-in-Ok-open_all-clause-known_strays
returns-in-Ok-open_all-clause-known_strays g c =
    c.in_ok-broker-in-Ok-open_all.ensures.strays ∙ c.in_ok-tenants-in-Ok-open_all.ensures.strays ∙ ap (λ (ns : List ℕ). Some ns) c.deref-in-Ok-open_all-4.ensures.value

pub returns-in-Ok-open_all-clause-held : goal.returns-in-Ok-open_all-clause-held
returns-in-Ok-open_all-clause-held g c =
    let d3 = g.S.Store.disk c.open_all.new.shelf.store in
    let last = map (λ (name : Bor (List ℕ)). name.now) c.deref-in-Ok-open_all-3.result.now in
    c.in_ok-broker-in-Ok-open_all.ensures.held
    (subst (λ (xs : List TenantState). HaveNoGroups xs) (sym c.in_ok-tenants-in-Ok-open_all.ensures.hosted) (no_groups d3.files (zip last c.in-Ok-open_all.parts.items)))

pub returns-in-Ok-open_all-clause-no_groups : goal.returns-in-Ok-open_all-clause-no_groups
returns-in-Ok-open_all-clause-no_groups g c =
    let d3 = g.S.Store.disk c.open_all.new.shelf.store in
    let last = map (λ (name : Bor (List ℕ)). name.now) c.deref-in-Ok-open_all-3.result.now in
    subst (λ (xs : List TenantState). HaveNoGroup xs)
    (sym (ap (λ (s : BrokerState). s.tenants) c.in_ok-broker-in-Ok-open_all.ensures.state ∙ c.in_ok-tenants-in-Ok-open_all.ensures.hosted))
    (λ t. ap (λ (gs : Groups). gs.groups) (no_groups d3.files (zip last c.in-Ok-open_all.parts.items) t))

pub returns-in_err-tenants-in-Ok-open_all-clause-lost_nothing_err : goal.returns-in_err-tenants-in-Ok-open_all-clause-lost_nothing_err
returns-in_err-tenants-in-Ok-open_all-clause-lost_nothing_err g c =
    let d0 = g.S.Store.disk c.args.store in
    let d1 = g.S.Store.disk c.list.new.self in
    let d2 = g.S.Store.disk c.in-Ok-new.shelf.store in
    let d3 = g.S.Store.disk c.open_all.new.shelf.store in
    let k1 = c.in-Ok-list.ensures.unchanged in
    let k2 = c.in-Ok-new.ensures.unchanged in
    let numbers = c.deref-3.result.now in
    let same = c.deref-3.ensures.value ∙ c.in-Ok-list.ensures.numbers in
    let names = map (λ (name : Bor (List ℕ)). name.now) c.deref-2.result.now in
    let whole = tenants_of c.args.settings.now.users.items in
    let own = c.in-Ok.ensures ∙ ap tenants_of c.deref.ensures.value in
    let named = ap (map (λ (name : Bor (List ℕ)). name.now)) c.deref-2.ensures.value ∙ own in
    let e = c.in-Ok-open_all.ensures in
    let kept = keeps_then d0 d1 d2 k1 k2 in
    let again = same_since d0 d2 d3 kept numbers same names whole named (λ h. (e.others h).honest h) e.headers e.lost_nothing in
    let p = err_from_is_err_and c.from_residual.result c.from_residual.ensures.1 in
    let store = ap (λ r. r.store) c.in_err-tenants-in-Ok-open_all.ensures.refused in
    subst (λ r. IfErr r (λ (refused : OpenRefused g.row.S.Denot). ComeToTheSame whole d0 (g.S.Store.disk refused.store))) (sym (p.1 ∙ ap Err p.2))
    (subst (λ (s : g.row.S.Denot). ComeToTheSame whole d0 (g.S.Store.disk s)) (sym store) again)

pub returns-in_err-broker-in-Ok-open_all-clause-lost_nothing_err : goal.returns-in_err-broker-in-Ok-open_all-clause-lost_nothing_err
returns-in_err-broker-in-Ok-open_all-clause-lost_nothing_err g c =
    let d0 = g.S.Store.disk c.args.store in
    let d1 = g.S.Store.disk c.list.new.self in
    let d2 = g.S.Store.disk c.in-Ok-new.shelf.store in
    let d3 = g.S.Store.disk c.open_all.new.shelf.store in
    let k1 = c.in-Ok-list.ensures.unchanged in
    let k2 = c.in-Ok-new.ensures.unchanged in
    let numbers = c.deref-3.result.now in
    let same = c.deref-3.ensures.value ∙ c.in-Ok-list.ensures.numbers in
    let names = map (λ (name : Bor (List ℕ)). name.now) c.deref-2.result.now in
    let whole = tenants_of c.args.settings.now.users.items in
    let own = c.in-Ok.ensures ∙ ap tenants_of c.deref.ensures.value in
    let named = ap (map (λ (name : Bor (List ℕ)). name.now)) c.deref-2.ensures.value ∙ own in
    let e = c.in-Ok-open_all.ensures in
    let kept = keeps_then d0 d1 d2 k1 k2 in
    let again = same_since d0 d2 d3 kept numbers same names whole named (λ h. (e.others h).honest h) e.headers e.lost_nothing in
    let p = err_from_is_err_and c.from_residual-in_err-broker-in-Ok-open_all.result c.from_residual-in_err-broker-in-Ok-open_all.ensures.1 in
    let store = ap (λ r. r.store) c.in_err-broker-in-Ok-open_all.ensures.refused ∙ ap (λ s. s.store) c.in_ok-tenants-in-Ok-open_all.ensures.shelf in
    subst (λ r. IfErr r (λ (refused : OpenRefused g.row.S.Denot). ComeToTheSame whole d0 (g.S.Store.disk refused.store))) (sym (p.1 ∙ ap Err p.2))
    (subst (λ (s : g.row.S.Denot). ComeToTheSame whole d0 (g.S.Store.disk s)) (sym store) again)

pub returns-in-Ok-open_all-clause-lost_nothing : goal.returns-in-Ok-open_all-clause-lost_nothing
returns-in-Ok-open_all-clause-lost_nothing g c =
    let d0 = g.S.Store.disk c.args.store in
    let d1 = g.S.Store.disk c.list.new.self in
    let d2 = g.S.Store.disk c.in-Ok-new.shelf.store in
    let d3 = g.S.Store.disk c.open_all.new.shelf.store in
    let k1 = c.in-Ok-list.ensures.unchanged in
    let k2 = c.in-Ok-new.ensures.unchanged in
    let numbers = c.deref-3.result.now in
    let same = c.deref-3.ensures.value ∙ c.in-Ok-list.ensures.numbers in
    let names = map (λ (name : Bor (List ℕ)). name.now) c.deref-2.result.now in
    let whole = tenants_of c.args.settings.now.users.items in
    let own = c.in-Ok.ensures ∙ ap tenants_of c.deref.ensures.value in
    let named = ap (map (λ (name : Bor (List ℕ)). name.now)) c.deref-2.ensures.value ∙ own in
    let e = c.in-Ok-open_all.ensures in
    let kept = keeps_then d0 d1 d2 k1 k2 in
    let again = same_since d0 d2 d3 kept numbers same names whole named (λ h. (e.others h).honest h) e.headers e.lost_nothing in
    let back = c.in_ok-broker-in-Ok-open_all.ensures.store ∙ ap (λ s. s.store) c.in_ok-tenants-in-Ok-open_all.ensures.shelf in
    subst (λ (s : g.row.S.Denot). ComeToTheSame whole d0 (g.S.Store.disk s)) (sym back) again

pub returns-clause-lost_nothing_err : goal.returns-clause-lost_nothing_err
returns-clause-lost_nothing_err g c =
    let d0 = g.S.Store.disk c.args.store in
    let d1 = g.S.Store.disk c.list.new.self in
    let d2 = g.S.Store.disk c.in-Ok-new.shelf.store in
    let d3 = g.S.Store.disk c.open_all.new.shelf.store in
    let k1 = c.in-Ok-list.ensures.unchanged in
    let k2 = c.in-Ok-new.ensures.unchanged in
    let numbers = c.deref-3.result.now in
    let same = c.deref-3.ensures.value ∙ c.in-Ok-list.ensures.numbers in
    let names = map (λ (name : Bor (List ℕ)). name.now) c.deref-2.result.now in
    let whole = tenants_of c.args.settings.now.users.items in
    let own = c.in-Ok.ensures ∙ ap tenants_of c.deref.ensures.value in
    let named = ap (map (λ (name : Bor (List ℕ)). name.now)) c.deref-2.ensures.value ∙ own in
    let e = c.in-Err-open_all.ensures in
    let kept = keeps_then d0 d1 d2 k1 k2 in
    let again = same_since d0 d2 d3 kept numbers same names whole named (λ h. (e.others h).honest h) e.headers e.lost_nothing in
    subst (λ (s : g.row.S.Denot). ComeToTheSame whole d0 (g.S.Store.disk s)) (sym c.into_store.ensures) again

pub returns-in-Ok-open_all-clause-others : goal.returns-in-Ok-open_all-clause-others
returns-in-Ok-open_all-clause-others g c =
    let d0 = g.S.Store.disk c.args.store in
    let d1 = g.S.Store.disk c.list.new.self in
    let d2 = g.S.Store.disk c.in-Ok-new.shelf.store in
    let d3 = g.S.Store.disk c.open_all.new.shelf.store in
    let numbers = c.deref-3.result.now in
    let same = c.deref-3.ensures.value ∙ c.in-Ok-list.ensures.numbers in
    let names = map (λ (name : Bor (List ℕ)). name.now) c.deref-2.result.now in
    let whole = tenants_of c.args.settings.now.users.items in
    let own = c.in-Ok.ensures ∙ ap tenants_of c.deref.ensures.value in
    let named = ap (map (λ (name : Bor (List ℕ)). name.now)) c.deref-2.ensures.value ∙ own in
    let kept = keeps_then d0 d1 d2 c.in-Ok-list.ensures.unchanged c.in-Ok-new.ensures.unchanged in
    let back = c.in_ok-broker-in-Ok-open_all.ensures.store ∙ ap (λ s. s.store) c.in_ok-tenants-in-Ok-open_all.ensures.shelf in
    subst (λ (s : g.row.S.Denot). (g.S.Store.disk s).honest → Clears (IsOfLog d0.files (keys d0.table) whole) d0 (g.S.Store.disk s)) (sym back)
    (cleared_since d0 d2 d3 kept numbers same names whole named c.in-Ok-open_all.ensures.others)

pub returns-in-Ok-open_all-clause-counts : goal.returns-in-Ok-open_all-clause-counts
returns-in-Ok-open_all-clause-counts g c =
    let ps = c.in-Ok-open_all.parts.items in
    let shown = λ (name : Bor (List ℕ)). name.now in
    let had = λ (p : Parts SegmentLog). known p.catalog in
    let has = λ (x : TenantState). x.kept.world.known in
    let last = map shown c.deref-in-Ok-open_all-3.result.now in
    let again = ap (map shown) c.deref-in-Ok-open_all-3.ensures.value ∙ sym (ap (map shown) c.deref-2.ensures.value) in
    let many : length ps ≡ length last = c.in-Ok-open_all.ensures.count ∙ sym (length-map c.deref-2.result.now shown) ∙ sym (ap length again) in
    let hosts = ap (λ s. s.tenants) c.in_ok-broker-in-Ok-open_all.ensures.state ∙ c.in_ok-tenants-in-Ok-open_all.ensures.hosted in
    let files = (g.S.Store.disk c.open_all.new.shelf.store).files in
    let strays = c.deref-in-Ok-open_all-2.result.now in
    c.of-counts.ensures
    ∙ ap (λ (qs : List (Parts SegmentLog)). counts_of (map had qs) strays) c.deref-in-Ok-open_all.ensures.value
    ∙ ap (λ (ks : List Known). counts_of ks strays) (knowns_restored files last ps many ∙ sym (ap (map has) hosts))
    ∙ ap (counts_of (map has c.in_ok-broker-in-Ok-open_all.broker.state.tenants)) c.deref-in-Ok-open_all-2.ensures.value

pub returns-in-Ok-open_all-clause-next_instances : goal.returns-in-Ok-open_all-clause-next_instances
returns-in-Ok-open_all-clause-next_instances g c =
    let ps = c.in-Ok-open_all.parts.items in
    let shown = λ (name : Bor (List ℕ)). name.now in
    let has = λ (x : TenantState). x.kept.world.known in
    let last = map shown c.deref-in-Ok-open_all-3.result.now in
    let again = ap (map shown) c.deref-in-Ok-open_all-3.ensures.value ∙ sym (ap (map shown) c.deref-2.ensures.value) in
    let many : length ps ≡ length last = c.in-Ok-open_all.ensures.count ∙ sym (length-map c.deref-2.result.now shown) ∙ sym (ap length again) in
    let hosts = ap (λ s. s.tenants) c.in_ok-broker-in-Ok-open_all.ensures.state ∙ c.in_ok-tenants-in-Ok-open_all.ensures.hosted in
    let files = (g.S.Store.disk c.open_all.new.shelf.store).files in
    c.in-Ok-open_all.ensures.next_instances
    ∙ ap (map (λ (k : Known). k.creates)) (knowns_restored files last ps many ∙ sym (ap (map has) hosts))
