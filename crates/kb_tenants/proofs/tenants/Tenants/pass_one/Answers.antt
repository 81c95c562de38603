use Rattle.std.proofs.Common.{◌≡◌, ◌<◌, ◌∙◌, ◌++◌, inr, ap, subst, sym, arith}
use Rattle.std.specs.Prelude.{Contains}
use Rattle.std.proofs.lemmas.List.Elements.{Contains-append_left}
use Rattle.kb_tenant_api.specs.Hosted.{Kept, kept_of, passed, refusals_of}
use Rattle.kb_tenant_api.specs.Turns.{PassesPartly}
use Rattle.kb_tenants.specs.Tenants.{answered_connections, hosted, shelf_is_honest}
use Rattle.kb_log.specs.Shelf.{Shelved}
use Rattle.kb_tenants.specs.Counts.{counts_of}
use Rattle.kb_tenants.proofs.Causes.{counted_then}
use Rattle.kb_tenants.proofs.Alone.{alone_since, alone_still, honest_before}
use Rattle.kb_tenants.proofs.Answered.{not_so, quiet_listed, quiet_same, quiet_turn}
use Rattle.kb_tenants.proofs.Passed.{disturbed_both, length_named, loud_both, met_both, met_still, partly_both, turn_both, turn_where}
use Rattle.kb_tenants.proofs.tenants.Tenants.pass_one.Goals as goal

pub list_answered-requires-clause-tenant : goal.list_answered-requires-clause-tenant
list_answered-requires-clause-tenant g c =
    let seen = hosted g.L.PartitionLog.log g.S.Store.disk in
    let names = c.retain_one.ensures.turn.names ∙ c.pass_groups-regrouped.ensures.turn.names in
    subst (λ n. c.args.tenant < n) (sym (length_named (seen c.args.self.now) (seen c.retain_one.new.self) names)) c.requires.tenant

pub returns-then-retain_one-clause-meets : goal.returns-then-retain_one-clause-meets
returns-then-retain_one-clause-meets g c =
    let disk = g.S.Store.disk in
    let mid = c.pass_groups-regrouped.new.self in
    let new = c.retain_one.new.self in
    let seen = hosted g.L.PartitionLog.log disk in
    met_both c.args.clock c.args.tenant (shelf_is_honest disk mid) (shelf_is_honest disk new) (seen c.args.self.now) (seen mid) (seen new) c.retain_one.ensures.honest
    c.pass_groups-regrouped.ensures.turn c.retain_one.ensures.turn c.retain_one.result c.pass_groups-regrouped.ensures.meets c.retain_one.ensures.meets

pub returns-then-not-regrouped-clause-meets : goal.returns-then-not-regrouped-clause-meets
returns-then-not-regrouped-clause-meets g c =
    let disk = g.S.Store.disk in
    let mid = c.pass_groups-regrouped.new.self in
    let new = c.retain_one.new.self in
    let seen = hosted g.L.PartitionLog.log disk in
    met_both c.args.clock c.args.tenant (shelf_is_honest disk mid) (shelf_is_honest disk new) (seen c.args.self.now) (seen mid) (seen new) c.retain_one.ensures.honest
    c.pass_groups-regrouped.ensures.turn c.retain_one.ensures.turn c.retain_one.result c.pass_groups-regrouped.ensures.meets c.retain_one.ensures.meets

pub returns-then-retain_one-clause-partly : goal.returns-then-retain_one-clause-partly
returns-then-retain_one-clause-partly g c = λ honest.
    let t = c.args.tenant in
    let seen = hosted g.L.PartitionLog.log g.S.Store.disk in
    let old = seen c.args.self.now in
    let mid = seen c.pass_groups-regrouped.new.self in
    let new = seen c.retain_one.new.self in
    partly_both c.args.clock (refusals_of old t) (refusals_of mid t) (refusals_of new t) (refusals_of new t) (kept_of old t) (kept_of mid t) (kept_of new t)
    c.pass_groups-regrouped.ensures.partly c.pass_groups-regrouped.ensures.topics (c.retain_one.ensures.partly.1 honest) c.retain_one.ensures.partly.0 (omega arith)

pub returns-then-not-regrouped-clause-partly : goal.returns-then-not-regrouped-clause-partly
returns-then-not-regrouped-clause-partly g c = λ honest.
    let t = c.args.tenant in
    let seen = hosted g.L.PartitionLog.log g.S.Store.disk in
    let old = seen c.args.self.now in
    let mid = seen c.pass_groups-regrouped.new.self in
    let new = seen c.retain_one.new.self in
    partly_both c.args.clock (refusals_of old t) (refusals_of mid t) (refusals_of new t) (refusals_of new t) (kept_of old t) (kept_of mid t) (kept_of new t)
    c.pass_groups-regrouped.ensures.partly c.pass_groups-regrouped.ensures.topics (c.retain_one.ensures.partly.1 honest) c.retain_one.ensures.partly.0 (omega arith)

pub returns-then-not-regrouped-clause-quiet : goal.returns-then-not-regrouped-clause-quiet
returns-then-not-regrouped-clause-quiet g c = λ none honest t.
    let seen = hosted g.L.PartitionLog.log g.S.Store.disk in
    quiet_same c.args.answered.now.items (kept_of (seen c.args.self.now) t) (kept_of (seen c.retain_one.new.self) t)
    (c.retain_one.ensures.stays c.if-retain_one.false honest t
    ∙ c.pass_groups-regrouped.ensures.stays (not_so c.pass_groups-regrouped.result none) (c.retain_one.ensures.honest honest) t)

pub returns-then-retain_one-clause-left_alone : goal.returns-then-retain_one-clause-left_alone
returns-then-retain_one-clause-left_alone g c =
    alone_since g.S.Store.disk c.args.self.now c.pass_groups-regrouped.new.self c.retain_one.new.self c.pass_groups-regrouped.ensures.strays c.pass_groups-regrouped.ensures.shelf c.retain_one.ensures.left_alone

pub returns-then-not-regrouped-clause-left_alone : goal.returns-then-not-regrouped-clause-left_alone
returns-then-not-regrouped-clause-left_alone g c =
    alone_since g.S.Store.disk c.args.self.now c.pass_groups-regrouped.new.self c.retain_one.new.self c.pass_groups-regrouped.ensures.strays c.pass_groups-regrouped.ensures.shelf c.retain_one.ensures.left_alone

pub returns-then-retain_one-clause-unsure : goal.returns-then-retain_one-clause-unsure
returns-then-retain_one-clause-unsure g c = λ no honest.
    let disk = g.S.Store.disk in
    let t = c.args.tenant in
    let old = c.args.self.now in
    let mid = c.pass_groups-regrouped.new.self in
    let ret = c.retain_one.new.self in
    let seen = hosted g.L.PartitionLog.log disk in
    disturbed_both c.args.clock t (shelf_is_honest disk mid) (shelf_is_honest disk ret) (seen old) (seen mid) (seen ret) c.retain_one.ensures.honest c.pass_groups-regrouped.ensures.turn c.retain_one.ensures.turn
    c.retain_one.result c.if-retain_one.true c.retain_one.ensures.meets c.pass_groups-regrouped.ensures.topics honest

-- ---- whom the groups answered is listed

pub returns-else-not-regrouped-clause-turn : goal.returns-else-not-regrouped-clause-turn
returns-else-not-regrouped-clause-turn g c =
    let disk = g.S.Store.disk in
    let t = c.args.tenant in
    let old = c.args.self.now in
    let mid = c.pass_groups-regrouped.new.self in
    let ret = c.retain_one.new.self in
    let new = c.list_answered.new.self in
    let seen = hosted g.L.PartitionLog.log disk in
    let before = honest_before disk old ret new c.list_answered.ensures.shelf in
    let both = turn_both c.args.clock t (shelf_is_honest disk mid) (shelf_is_honest disk ret) (seen old) (seen mid) (seen ret) c.retain_one.ensures.honest c.pass_groups-regrouped.ensures.turn c.retain_one.ensures.turn in
    let last = turn_where t (shelf_is_honest disk new) (seen ret) (seen new) c.list_answered.ensures.turn in
    turn_both c.args.clock t (shelf_is_honest disk ret) (shelf_is_honest disk new) (seen old) (seen ret) (seen new) before both last

pub returns-else-not-regrouped-clause-meets : goal.returns-else-not-regrouped-clause-meets
returns-else-not-regrouped-clause-meets g c =
    let disk = g.S.Store.disk in
    let t = c.args.tenant in
    let old = c.args.self.now in
    let mid = c.pass_groups-regrouped.new.self in
    let ret = c.retain_one.new.self in
    let new = c.list_answered.new.self in
    let seen = hosted g.L.PartitionLog.log disk in
    let before = honest_before disk old ret new c.list_answered.ensures.shelf in
    let both = turn_both c.args.clock t (shelf_is_honest disk mid) (shelf_is_honest disk ret) (seen old) (seen mid) (seen ret) c.retain_one.ensures.honest c.pass_groups-regrouped.ensures.turn c.retain_one.ensures.turn in
    let last = turn_where t (shelf_is_honest disk new) (seen ret) (seen new) c.list_answered.ensures.turn in
    met_still c.args.clock t (shelf_is_honest disk ret) (shelf_is_honest disk new) (seen old) (seen ret) (seen new) before both last (λ k l. l ≡ passed c.args.clock k)
    (met_both c.args.clock t (shelf_is_honest disk mid) (shelf_is_honest disk ret) (seen old) (seen mid) (seen ret) c.retain_one.ensures.honest c.pass_groups-regrouped.ensures.turn c.retain_one.ensures.turn
    c.retain_one.result c.pass_groups-regrouped.ensures.meets c.retain_one.ensures.meets) c.list_answered.ensures.stays

pub returns-else-not-regrouped-clause-left_alone : goal.returns-else-not-regrouped-clause-left_alone
returns-else-not-regrouped-clause-left_alone g c =
    let old = c.args.self.now in
    let ret = c.retain_one.new.self in
    alone_still g.S.Store.disk old ret c.list_answered.new.self c.list_answered.ensures.shelf
    (alone_since g.S.Store.disk old c.pass_groups-regrouped.new.self ret c.pass_groups-regrouped.ensures.strays c.pass_groups-regrouped.ensures.shelf c.retain_one.ensures.left_alone)

pub returns-else-not-regrouped-clause-honest : goal.returns-else-not-regrouped-clause-honest
returns-else-not-regrouped-clause-honest g c = λ honest.
    let disk = g.S.Store.disk in
    let t = c.args.tenant in
    let old = c.args.self.now in
    let mid = c.pass_groups-regrouped.new.self in
    let ret = c.retain_one.new.self in
    let new = c.list_answered.new.self in
    let seen = hosted g.L.PartitionLog.log disk in
    honest_before disk old old mid c.pass_groups-regrouped.ensures.shelf (c.retain_one.ensures.honest (honest_before disk old ret new c.list_answered.ensures.shelf honest))

pub returns-then-retain_one-clause-accounted : goal.returns-then-retain_one-clause-accounted
returns-then-retain_one-clause-accounted g c =
    let disk = g.S.Store.disk in
    let t = c.args.tenant in
    let old = c.args.self.now in
    let mid = c.pass_groups-regrouped.new.self in
    let ret = c.retain_one.new.self in
    let seen = hosted g.L.PartitionLog.log disk in
    let same = ap (λ (s : Shelved g.row.S.Denot). (disk s.store).failures) c.pass_groups-regrouped.ensures.shelf in
    counted_then t (seen old) (seen mid) (seen ret) (disk old.shelf.store).failures (disk mid.shelf.store).failures (disk ret.shelf.store).failures
    (counts_of old) (counts_of mid) (counts_of ret) (omega (arith, same)) c.retain_one.ensures.failures c.retain_one.ensures.turn.grows
    c.pass_groups-regrouped.ensures.accounted c.retain_one.ensures.accounted

pub returns-then-not-regrouped-clause-accounted : goal.returns-then-not-regrouped-clause-accounted
returns-then-not-regrouped-clause-accounted g c =
    let disk = g.S.Store.disk in
    let t = c.args.tenant in
    let old = c.args.self.now in
    let mid = c.pass_groups-regrouped.new.self in
    let ret = c.retain_one.new.self in
    let seen = hosted g.L.PartitionLog.log disk in
    let same = ap (λ (s : Shelved g.row.S.Denot). (disk s.store).failures) c.pass_groups-regrouped.ensures.shelf in
    counted_then t (seen old) (seen mid) (seen ret) (disk old.shelf.store).failures (disk mid.shelf.store).failures (disk ret.shelf.store).failures
    (counts_of old) (counts_of mid) (counts_of ret) (omega (arith, same)) c.retain_one.ensures.failures c.retain_one.ensures.turn.grows
    c.pass_groups-regrouped.ensures.accounted c.retain_one.ensures.accounted

pub returns-else-not-regrouped-clause-accounted : goal.returns-else-not-regrouped-clause-accounted
returns-else-not-regrouped-clause-accounted g c =
    let disk = g.S.Store.disk in
    let t = c.args.tenant in
    let old = c.args.self.now in
    let mid = c.pass_groups-regrouped.new.self in
    let ret = c.retain_one.new.self in
    let new = c.list_answered.new.self in
    let seen = hosted g.L.PartitionLog.log disk in
    let same = ap (λ (s : Shelved g.row.S.Denot). (disk s.store).failures) c.pass_groups-regrouped.ensures.shelf in
    let still = ap (λ (s : Shelved g.row.S.Denot). (disk s.store).failures) c.list_answered.ensures.shelf in
    let more = c.retain_one.ensures.failures in
    counted_then t (seen old) (seen ret) (seen new) (disk old.shelf.store).failures (disk ret.shelf.store).failures (disk new.shelf.store).failures
    (counts_of old) (counts_of ret) (counts_of new) (omega (arith, same, more)) (omega (arith, still)) c.list_answered.ensures.turn.grows
    (counted_then t (seen old) (seen mid) (seen ret) (disk old.shelf.store).failures (disk mid.shelf.store).failures (disk ret.shelf.store).failures
    (counts_of old) (counts_of mid) (counts_of ret) (omega (arith, same)) more c.retain_one.ensures.turn.grows
    c.pass_groups-regrouped.ensures.accounted c.retain_one.ensures.accounted) c.list_answered.ensures.accounted

pub returns-else-not-regrouped-clause-quiet : goal.returns-else-not-regrouped-clause-quiet
returns-else-not-regrouped-clause-quiet g c = λ known honest.
    let disk = g.S.Store.disk in
    let t = c.args.tenant in
    let old = c.args.self.now in
    let mid = c.pass_groups-regrouped.new.self in
    let ret = c.retain_one.new.self in
    let new = c.list_answered.new.self in
    let seen = hosted g.L.PartitionLog.log disk in
    let before = honest_before disk old ret new c.list_answered.ensures.shelf in
    let both = turn_both c.args.clock t (shelf_is_honest disk mid) (shelf_is_honest disk ret) (seen old) (seen mid) (seen ret) c.retain_one.ensures.honest c.pass_groups-regrouped.ensures.turn c.retain_one.ensures.turn in
    let last = turn_where t (shelf_is_honest disk new) (seen ret) (seen new) c.list_answered.ensures.turn in
    let ks = c.args.answered.now.items in
    let ns = c.list_answered.new.numbers.items in
    let same = c.list_answered.ensures.stays t ∙ c.retain_one.ensures.stays c.if-retain_one.false (before honest) t in
    let listed : ns ≡ ks ++ answered_connections (kept_of (seen new) t).groups = c.list_answered.ensures.listed known ∙ sym (ap (λ (k : Kept). ks ++ answered_connections k.groups) (c.list_answered.ensures.stays t)) in
    quiet_turn (shelf_is_honest disk new) honest t ns (seen old) (seen new) (turn_both c.args.clock t (shelf_is_honest disk ret) (shelf_is_honest disk new) (seen old) (seen ret) (seen new) before both last)
    (quiet_listed ks ns (kept_of (seen old) t) (kept_of (seen new) t) (ap (λ (k : Kept). k.world) same ∙ c.pass_groups-regrouped.ensures.topics) listed)

pub returns-else-not-regrouped-clause-longer : goal.returns-else-not-regrouped-clause-longer
returns-else-not-regrouped-clause-longer g c = λ known n there.
    let seen = hosted g.L.PartitionLog.log g.S.Store.disk in
    let ks = c.args.answered.now.items in
    let told = answered_connections (kept_of (seen c.retain_one.new.self) c.args.tenant).groups in
    subst (λ xs. Contains xs n) (sym (c.list_answered.ensures.listed known)) (Contains-append_left ks told n there)

pub returns-else-not-regrouped-clause-unsure : goal.returns-else-not-regrouped-clause-unsure
returns-else-not-regrouped-clause-unsure g c = λ no honest.
    let disk = g.S.Store.disk in
    let t = c.args.tenant in
    let old = c.args.self.now in
    let mid = c.pass_groups-regrouped.new.self in
    let ret = c.retain_one.new.self in
    let new = c.list_answered.new.self in
    let seen = hosted g.L.PartitionLog.log disk in
    let before = honest_before disk old ret new c.list_answered.ensures.shelf in
    let both = turn_both c.args.clock t (shelf_is_honest disk mid) (shelf_is_honest disk ret) (seen old) (seen mid) (seen ret) c.retain_one.ensures.honest c.pass_groups-regrouped.ensures.turn c.retain_one.ensures.turn in
    let last = turn_where t (shelf_is_honest disk new) (seen ret) (seen new) c.list_answered.ensures.turn in
    inr (loud_both c.args.clock t (shelf_is_honest disk ret) (shelf_is_honest disk new) (seen old) (seen ret) (seen new) before both last (c.list_answered.ensures.counted no))

pub returns-else-not-regrouped-clause-partly : goal.returns-else-not-regrouped-clause-partly
returns-else-not-regrouped-clause-partly g c = λ honest.
    let disk = g.S.Store.disk in
    let t = c.args.tenant in
    let old = c.args.self.now in
    let mid = c.pass_groups-regrouped.new.self in
    let ret = c.retain_one.new.self in
    let new = c.list_answered.new.self in
    let seen = hosted g.L.PartitionLog.log disk in
    let before = honest_before disk old ret new c.list_answered.ensures.shelf honest in
    subst (PassesPartly c.args.clock (refusals_of (seen old) t) (refusals_of (seen new) t) (kept_of (seen old) t)) (sym (c.list_answered.ensures.stays t))
    (partly_both c.args.clock (refusals_of (seen old) t) (refusals_of (seen mid) t) (refusals_of (seen ret) t) (refusals_of (seen new) t)
    (kept_of (seen old) t) (kept_of (seen mid) t) (kept_of (seen ret) t)
    c.pass_groups-regrouped.ensures.partly c.pass_groups-regrouped.ensures.topics (c.retain_one.ensures.partly.1 before) c.retain_one.ensures.partly.0
    (c.list_answered.ensures.turn.grows t))
