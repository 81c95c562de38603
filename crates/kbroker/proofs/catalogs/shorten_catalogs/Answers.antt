use Rattle.std.proofs.Common.{◌≡◌, ◌≤◌, ◌<◌, ◌-◌, ◌+◌, ◌∙◌, ◌⊎◌, ⊎_elim, inl, inr, ℕ, zero, suc, ap, get_or, refl, sym, subst, arith}
use Rattle.kb_tenant_state.specs.Counts.{IsCalm}
use Rattle.kb_tenant_state.specs.Steps.{calm_then}
use Rattle.kb_tenants.specs.Renewal.{IsCountedOnce, snapshot_of}
use Rattle.kb_isolation_spec.specs.Broker.{BrokerState, kept_of_tenant, refusals_of}
use Rattle.kb_broker.specs.Shortened.{IsShort}
use Rattle.kbroker.proofs.catalogs.shorten_catalogs.Goals as goal

-- a place is another one, or this one
other_or_here : (t place : ℕ) → (t ≡ place → ⊥) ⊎ (t ≡ place)
other_or_here zero zero = inr refl
other_or_here zero (suc place) = inl (λ same. omega (arith, same))
other_or_here (suc t) zero = inl (λ same. omega (arith, same))
other_or_here (suc t) (suc place) = ⊎_elim (λ (ne : t ≡ place → ⊥). inl (λ same. ne (omega (arith, same)))) (λ (here : t ≡ place). inr (ap suc here)) (other_or_here t place)

pub loop-place-init : goal.loop-place-init
loop-place-init g c = record {
  alone = c.requires;
  count = refl;
  honest = λ honest. honest;
  stays = λ honest t. refl;
  short = λ honest t lt calm. absurd (omega (arith, lt));
  either = λ honest t. inl refl;
  grows = λ t. omega arith;
  failures = omega arith;
  counted = λ t. (0, omega arith, inl (omega arith));
  untouched = λ t le. refl;
}

pub loop-place-preserved : goal.loop-place-preserved
loop-place-preserved g c =
    let disk = g.S.Store.disk in
    let before = c.loop-place.invariant in
    let now = c.shorten_catalog.ensures in
    let done = now.shortened in
    let place = c.loop-place.place in
    let first = c.args.broker.now in
    let mid = c.loop-place.broker in
    let new = c.shorten_catalog.new.self in
    let more = now.later.failures in
    let risen = before.failures in
    record {
      alone = ap (λ (b : BrokerState). b.lines) now.others ∙ before.alone;
      count = now.count ∙ before.count;
      honest = λ honest. before.honest (now.later.honest honest);
      stays = λ honest t. now.stays honest t ∙ before.stays (now.later.honest honest) t;
      short = λ honest t lt calm.
          let calms = calm_then (refusals_of first.state t) (refusals_of mid.state t) (refusals_of new.state t) (before.grows t) (now.later.counts t) calm in
          subst (λ k. get_or new.commands t 0 ≤ snapshot_of k) (sym (now.stays honest t))
          (⊎_elim
          (λ (ne : t ≡ place → ⊥). subst (λ n. n ≤ snapshot_of (kept_of_tenant mid.state t)) (sym (done.others t ne)) (before.short (now.later.honest honest) t (omega (arith, lt, ne)) calms.0))
          (λ (here : t ≡ place). subst (λ n. get_or new.commands n 0 ≤ snapshot_of (kept_of_tenant mid.state n)) (sym here)
          (done.shorter (subst (λ n. IsCalm (refusals_of mid.state n) (refusals_of new.state n)) here calms.1)))
          (other_or_here t place));
      either = λ honest t.
          let was = before.either (now.later.honest honest) t in
          let kept = ap snapshot_of (before.stays (now.later.honest honest) t) in
          ⊎_elim
          (λ (ne : t ≡ place → ⊥). ⊎_elim (λ e. inl (done.others t ne ∙ e)) (λ e. inr (done.others t ne ∙ e)) was)
          (λ (here : t ≡ place). ⊎_elim
          (λ e. ⊎_elim (λ f. inl (e ∙ f)) (λ f. inr (e ∙ f)) was)
          (λ e. inr (e ∙ kept))
          (subst (λ n. (get_or new.commands n 0 ≡ get_or mid.commands n 0) ⊎ (get_or new.commands n 0 ≡ snapshot_of (kept_of_tenant mid.state n))) (sym here) done.either))
          (other_or_here t place);
      grows = λ t. (let a = before.grows t in let b = now.later.counts t in omega (arith, a, b));
      failures = omega (arith, risen, more);
      counted = λ t. ⊎_elim
          (λ (ne : t ≡ place → ⊥).
          let was = before.counted t in
          let few = was.1 in
          (was.0, omega (arith, few, risen, more), subst (IsCountedOnce was.0 (refusals_of first.state t)) (sym (now.turn.counts t ne)) was.2))
          (λ (here : t ≡ place).
          let refused = (disk new.store).failures - (disk mid.store).failures in (
            refused,
            omega (arith, risen, more),
            subst (λ n. IsCountedOnce refused n (refusals_of new.state t)) (before.untouched t (omega (arith, here)))
                (subst (λ n. IsCountedOnce refused (refusals_of mid.state n) (refusals_of new.state n)) (sym here) done.counted),
          ))
          (other_or_here t place);
      untouched = λ t le. now.turn.counts t (λ here. omega (arith, le, here)) ∙ before.untouched t (omega (arith, le));
    }

pub returns-clause-shortened : goal.returns-clause-shortened
returns-clause-shortened g c =
    let end = c.loop-place.invariant in
    record {
      count = end.count;
      honest = end.honest;
      stays = end.stays;
      short = λ honest t lt calm. end.short honest t (omega (arith, lt, end.count, c.loop-place-test.false, c.tenants_len-place-end.ensures)) calm;
      either = end.either;
      grows = end.grows;
      counted = end.counted;
    }
