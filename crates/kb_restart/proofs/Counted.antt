-- The tenants that a broker opens with have what their parts have.
use Rattle.std.proofs.Common.{◌≡◌, ℕ, List, [], ◌∷◌, refl, ap, arith, map, length}
use Rattle.std.specs.FinMap.{empty}
use Rattle.std.specs.Ordering.{nat_cmp}
use Rattle.kb_store.specs.Disk.{Files}
use Rattle.kb_segment_log.specs.declared.log.SegmentLog.{SegmentLog}
use Rattle.kb_topics.specs.Catalog.{known}
use Rattle.kb_topics.specs.Known.{Known}
use Rattle.kb_tenant_state.specs.declared.parts.Parts.{Parts}
use Rattle.kb_tenant_api.specs.Hosted.{TenantState}
use Rattle.kb_restart.specs.Restart.{tenants_restored}

-- what parts have does not depend on the files: it is asked where there are none
pub no_files : Files
no_files = empty {R = nat_cmp}

pub knowns_restored : (files : Files) (names : List (List ℕ)) (ps : List (Parts SegmentLog)) → length ps ≡ length names
    → map (λ (p : Parts SegmentLog). known p.catalog) ps ≡ map (λ (x : TenantState). x.kept.world.known) (tenants_restored files names ps)
knowns_restored files [] [] many = refl
knowns_restored files [] (p ∷ ps) many = absurd (omega (arith, many))
knowns_restored files (name ∷ names) [] many = absurd (omega (arith, many))
knowns_restored files (name ∷ names) (p ∷ ps) many =
    ap (λ (ks : List Known). known p.catalog ∷ ks) (knowns_restored files names ps (omega (arith, many)))
