-- A renewal of a tenant's catalog, behind the tenants' own parts of a moment.
use Rattle.std.proofs.Common.{◌≡◌, ◌∙◌, ℕ, List, Option, Some, None, sym, subst, arith}
use Rattle.std.specs.Prelude.{IfSome}
use Rattle.std.specs.declared.alloc.Global.{Global}
use Rattle.std.specs.declared.vec.Vec.{Vec}
use Rattle.kb_tenant_state.specs.Steps.{calm_then}
use Rattle.kb_tenant_api.specs.Hosted.{TenantState, kept_of, refusals_of}
use Rattle.kb_tenant_api.specs.Turns.{HavePassed, IsTurn, PassesPartly}
use Rattle.kb_tenant_api.specs.Waiters.{AreTicked}
use Rattle.kb_tenants.specs.Tenants.{AreQuietBut, IsQuietBut}
use Rattle.kb_broker.specs.Places.{LeavesQuietBut}

module _ (H G : Type 0) (clock place : ℕ) (ts us vs : List TenantState) (back : G → H) (passed : HavePassed clock H ts us) (turn : IsTurn place G us vs)
    (stays : G → (t : ℕ) → kept_of vs t ≡ kept_of us t) where
  pub passed-renewed : HavePassed clock G ts vs
  passed-renewed = record {
    names = turn.names ∙ passed.names;
    grows = λ u. (let first = passed.grows u in let then = turn.grows u in omega (arith, first, then));
    kept = λ honest u calm. stays honest u
        ∙ passed.kept (back honest) u (calm_then (refusals_of ts u) (refusals_of us u) (refusals_of vs u) (passed.grows u) (turn.grows u) calm).0;
    partly = λ honest u.
        let part = passed.partly (back honest) u in
        subst (PassesPartly clock (refusals_of ts u) (refusals_of vs u) (kept_of ts u)) (sym (stays honest u)) (record {
          of_groups = part.of_groups;
          of_topics = part.of_topics;
          groups = part.groups;
          topics = part.topics;
          counted = (let first = part.counted in let then = turn.grows u in omega (arith, first, then));
        });
    waits = λ honest u. subst (λ k. AreTicked (kept_of ts u).groups k.groups) (sym (stays honest u)) (passed.waits (back honest) u);
  }

  pub leaves-renewed : (answered : Option (Vec ℕ Global)) → IfSome answered (λ ns. H → AreQuietBut ns.items ts us) → G → LeavesQuietBut answered ts vs
  leaves-renewed None quiet honest = tt
  leaves-renewed (Some ns) quiet honest = λ t. subst (λ k. IsQuietBut ns.items (kept_of ts t) k) (sym (stays honest t)) (quiet (back honest) t)
