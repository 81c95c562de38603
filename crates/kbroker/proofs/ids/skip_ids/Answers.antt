use Rattle.std.proofs.Common.{◌≡◌, ◌∙◌, ◌⊎◌, ◌<◌, ◌+◌, ⊎_elim, ℕ, sym, subst, arith}
use Rattle.kb_isolation_spec.specs.Broker.{kept_of_tenant}
use Rattle.kb_tenant_state.specs.Ids.{GivesFresh}
use Rattle.kbroker.proofs.ids.skip_ids.Goals as goal

-- a place before the next one is before this one, or is this one
before_or_here : (t place : ℕ) → t < place + 1 → (t < place) ⊎ (t ≡ place)
before_or_here t place lt = grind (arith, lt)

pub loop-place-preserved : goal.loop-place-preserved
loop-place-preserved g c =
    let before = c.loop-place.invariant in
    let now = c.in_ok-skip_ids_of.ensures in
    let place = c.loop-place.place in
    let new = c.skip_ids_of.new.broker in
    record {
      alone = now.alone;
      count = now.count ∙ before.count;
      fresh = λ honest t lt. ⊎_elim
          (λ (earlier : t < place). subst (λ k. GivesFresh k.world) (sym (now.others honest t (λ same. omega (arith, earlier, same)))) (before.fresh (now.honest honest) t earlier))
          (λ (here : t ≡ place). subst (λ n. GivesFresh (kept_of_tenant new.state n).world) (sym here) (now.fresh honest))
          (before_or_here t place lt);
    }

pub returns-clause-fresh : goal.returns-clause-fresh
returns-clause-fresh g c = λ honest t lt.
    c.loop-place.invariant.fresh honest t (omega (arith, lt, c.loop-place.invariant.count, c.loop-place-test.false, c.tenants_len-place-end.ensures))
