use Rattle.std.proofs.Common.{[], ◌∙◌, ap, sym, append-nil, map, subst, arith}
use Rattle.std.proofs.lemmas.List.{drop_all}
use Rattle.std.specs.FinMap.{keys}
use Rattle.kb_start.specs.Starts.{AreRecorded}
use Rattle.kb_survey.proofs.Changes.{kept_twice}
use Rattle.kb_start.proofs.Recorded.{recorded_among}
use Rattle.kb_start.proofs.starts.starts_among.Goals as goal

pub loop-tenant-preserved : goal.loop-tenant-preserved
loop-tenant-preserved g c =
    let disk = g.S.Store.disk in
    let i = c.loop-tenant.invariant in
    let same = c.starts_of.ensures.unchanged in
    record {
      listed = i.listed ∙ ap keys (sym same.table);
      unchanged = kept_twice (disk c.args.store.now) (disk c.loop-tenant.store) (disk c.starts_of.new.store) i.unchanged same;
      later = omega (arith, i.later, c.starts_of.ensures.cause.later);
      told = λ honest found.
          let before = same.honest honest in
          recorded_among (disk c.args.store.now) (disk c.loop-tenant.store) (λ name. name.now) (λ of. of.items) c.args.listed.now c.args.catalogs.now
          c.args.tenants.now c.loop-tenant.tenant-index _ c.loop-tenant.starts.items c.push.new.self.items c.in_ok-starts_of.field-0
          i.listed found c.loop-tenant-test.true i.unchanged.table (i.unchanged.files before)
          (c.in_ok-starts_of.ensures.starts honest) c.in_ok-push.ensures.items (i.told before found);
    }

pub returns-clause-starts : goal.returns-clause-starts
returns-clause-starts g c = λ honest found.
    let d = g.S.Store.disk c.args.store.now in
    let names = map (λ name. name.now) c.args.tenants.now in
    let starts = map (λ of. of.items) c.loop-tenant.starts.items in
    subst (AreRecorded d names) (append-nil starts)
    (c.loop-tenant.invariant.told honest found [] (rw (drop_all c.loop-tenant.tenant-index c.args.tenants.now (omega (arith, c.loop-tenant-test.false))) (tt {0})))
