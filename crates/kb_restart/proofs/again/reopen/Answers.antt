use Rattle.std.proofs.Common.{◌≡◌, ◌∙◌, ◌<◌, Some, length, sym, ap, subst}
use Rattle.std.specs.Prelude.{map, slice_get, IfOk}
use Rattle.std.specs.FinMap.{keys}
use Rattle.std.proofs.lemmas.List.{length-map}
use Rattle.std.proofs.lemmas.Option.{slice_get_within}
use Rattle.kb_segment_log.specs.SegmentLog.{Clears}
use Rattle.kb_tenant_api.specs.Hosted.{TenantState, names_of}
use Rattle.kb_settings.proofs.NamesInOrder.{rises-in_order}
use Rattle.kb_broker.specs.Opening.{tenant_of, tenants_of}
use Rattle.kb_restart.specs.Again.{AreApart}
use Rattle.kb_restart.specs.Restart.{AreOnly, IsOfLog}
use Rattle.kb_restart.proofs.Found.{apart_of, is_found, ok_both}
use Rattle.kb_restart.proofs.again.reopen.Goals as goal

pub returns : goal.returns
returns g c =
    let disk = g.S.Store.disk in
    let old = c.args.broker.state.tenants in
    let d = disk c.args.broker.store in
    let names = tenants_of c.args.settings.now.users.items in
    let store = c.into_store.ensures.store in
    record {
      same = ok_both c.open_broker.result
          (λ opened only others honest strays is named t name at left.
          let was = (others honest).honest honest in
          let apart : AreApart (names_of old) = subst AreApart (sym named) (apart_of names (rises-in_order (map tenant_of c.args.settings.now.users.items))) in
          let here : slice_get names t ≡ Some name = ap (λ ns. slice_get ns t) (sym named) ∙ at in
          let within : t < length old = subst (λ n. t < n) (length-map old (λ (x : TenantState). x.name)) (slice_get_within (names_of old) t name at) in
          let kept = c.into_store.ensures.in_files was strays is t within in
          only honest t name here _ _ (is_found d (g.met.S.Store.lawful c.args.broker.store) was strays old t kept apart name at left).opened)
          (subst (λ s. IfOk c.open_broker.result (λ opened. (disk opened.broker.store).honest → AreOnly (disk s).files (keys (disk s).table) names opened.broker.state.tenants)) store c.open_broker.ensures.only)
          (subst (λ s. IfOk c.open_broker.result (λ opened. (disk opened.broker.store).honest → Clears (IsOfLog (disk s).files (keys (disk s).table) names) (disk s) (disk opened.broker.store))) store c.open_broker.ensures.others);
    }
