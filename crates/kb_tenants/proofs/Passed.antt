-- A moment of the tenants in turn.
use Rattle.std.proofs.Common.{◌≡◌, ◌∙◌, ◌⊎◌, ⊎_elim, inl, inr, ◌≤◌, ◌<◌, ◌+◌, ℕ, Bool, true, List, length, sym, ap, refl, subst, arith}
use Rattle.std.proofs.lemmas.List.{length-map}
use Rattle.kb_tenant_state.specs.Calls.{retain_all}
use Rattle.kb_tenant_state.specs.Counts.{END, IsCalm, counted_by}
use Rattle.kb_tenant_state.specs.Steps.{calm_then}
use Rattle.kb_tenant_api.specs.Hosted.{Kept, TenantState, kept_of, refusals_of, names_of, passed}
use Rattle.kb_tenant_api.specs.Turns.{HavePassed, IsTurn, IsMet, PassGroups, PassTopics, PassesPartly}
use Rattle.kb_tenant_api.proofs.Moments.{passes_all}
use Rattle.kb_tenant_api.proofs.WaitersServed.{passed_told}
use Rattle.kb_tenant.proofs.LogMoves.{same_or_not}
use Rattle.kb_tenants.specs.Tenants.{IsDisturbed, drops, regrouped, retained}
use Rattle.kb_tenants.proofs.Idle.{below_or_not, past_passed}

-- ---- a call and then another

-- nothing was done
pub turn_same : (t : ℕ) (H : Type 0) (ps : List TenantState) → IsTurn t H ps ps
turn_same t H ps = record { names = refl; grows = λ u. omega arith; counts = λ u ne. refl; others = λ honest u ne. refl }

-- what holds of any store holds of an honest one
pub turn_where : (t : ℕ) (H : Type 0) (ps qs : List TenantState) → IsTurn t (Unit {0}) ps qs → IsTurn t H ps qs
turn_where t H ps qs turn = record { names = turn.names; grows = turn.grows; counts = turn.counts; others = λ honest. turn.others tt }

-- a count shows a refusal, or none
calm_or_not : (m n : ℕ) → IsCalm m n ⊎ (IsCalm m n → ⊥)
calm_or_not m n = ⊎_elim
    (λ same. ⊎_elim
    (λ below. inl (record { same = same; below = below }))
    (λ ended. inr (λ calm. let below = calm.below in omega (arith, below, ended)))
    (below_or_not m END))
    (λ ne. inr (λ calm. ne calm.same))
    (same_or_not n m)

-- ---- a moment of one tenant: its groups', and then retention

module _ (clock t : ℕ) (H G : Type 0) (ps qs rs : List TenantState) (before : G → H) (first : IsTurn t H ps qs) (second : IsTurn t G qs rs) where
  -- two calls for one tenant in turn are one
  pub turn_both : IsTurn t G ps rs
  turn_both = record {
    names = second.names ∙ first.names;
    grows = λ u. omega (arith, first.grows u, second.grows u);
    counts = λ u ne. second.counts u ne ∙ first.counts u ne;
    others = λ honest u ne. second.others honest u ne ∙ first.others (before honest) u ne;
  }

  -- and what both meet is the moment
  pub met_both : (dropped : Bool) → IsMet t H ps qs (λ k l. l ≡ regrouped clock k) → IsMet t G qs rs (λ k l. (l ≡ retained clock k) × (dropped ≡ drops clock k)) → IsMet t G ps rs (λ k l. l ≡ passed clock k)
  unfolding passed retained
  met_both dropped groups topics honest calm =
      let calms = calm_then (refusals_of ps t) (refusals_of qs t) (refusals_of rs t) (first.grows t) (second.grows t) calm in
      (topics honest calms.1).0 ∙ ap (retained clock) (groups (before honest) calms.0)

  -- batches were dropped, or a refusal was counted
  pub disturbed_both : (dropped : Bool) → dropped ≡ true → IsMet t G qs rs (λ k l. (l ≡ retained clock k) × (dropped ≡ drops clock k))
      → (kept_of qs t).world ≡ (kept_of ps t).world → G → IsDisturbed clock t ps rs
  disturbed_both dropped so topics same honest = ⊎_elim
      (λ calm.
      let calms = calm_then (refusals_of ps t) (refusals_of qs t) (refusals_of rs t) (first.grows t) (second.grows t) calm in
      let seen : drops clock (kept_of qs t) ≡ drops clock (kept_of ps t) = ap (λ w. (retain_all clock w).1) same in
      inl (sym seen ∙ sym (topics honest calms.1).1 ∙ so))
      (λ loud. inr loud)
      (calm_or_not (refusals_of ps t) (refusals_of rs t))

  -- a refusal in the second call is one of both
  pub loud_both : (IsCalm (refusals_of qs t) (refusals_of rs t) → ⊥) → IsCalm (refusals_of ps t) (refusals_of rs t) → ⊥
  loud_both loud calm = loud (calm_then (refusals_of ps t) (refusals_of qs t) (refusals_of rs t) (first.grows t) (second.grows t) calm).1

  -- where the second leaves what is kept, what the first met is met
  pub met_still : (P : Kept → Kept → Type 0) → IsMet t H ps qs P → ((u : ℕ) → kept_of rs u ≡ kept_of qs u) → IsMet t G ps rs P
  met_still P met stays honest calm =
      let calms = calm_then (refusals_of ps t) (refusals_of qs t) (refusals_of rs t) (first.grows t) (second.grows t) calm in
      subst (λ (k : Kept). P (kept_of ps t) k) (sym (stays t)) (met (before honest) calms.0)

-- the groups had their part, and then the topics
pub partly_both : (clock before between after last : ℕ) (k l m : Kept)
    → (refused : ℕ) × PassGroups clock refused k.groups l.groups × (between ≡ counted_by refused before) → l.world ≡ k.world
    → (refused : ℕ) × PassTopics clock refused l.world m.world × (counted_by refused between ≤ after) → m.groups ≡ l.groups
    → after ≤ last → PassesPartly clock before last k m
partly_both clock before between after last k l m (i, groups, counted) world (j, topics, more) stays le = record {
  of_groups = i;
  of_topics = j;
  groups = subst (PassGroups clock i k.groups) (sym stays) groups;
  topics = subst (λ w. PassTopics clock j w m.world) world topics;
  counted = omega (arith, counted, more, le);
}

-- ---- a moment of all of them

-- Of the tenants before a place each keeps what a moment leaves, or, where something was refused to it, some of that; the others are as
-- they were.
pub record HavePassedTo (clock i : ℕ) (honest : Type 0) (old new : List TenantState) : Type 0 where
  pub names : names_of new ≡ names_of old
  pub grows : (u : ℕ) → refusals_of old u ≤ refusals_of new u
  pub kept : honest → (u : ℕ) → u < i → IsCalm (refusals_of old u) (refusals_of new u) → kept_of new u ≡ passed clock (kept_of old u)
  pub counts : (u : ℕ) → i ≤ u → refusals_of new u ≡ refusals_of old u
  pub rest : honest → (u : ℕ) → i ≤ u → kept_of new u ≡ kept_of old u
  pub partly : honest → (u : ℕ) → u < i → PassesPartly clock (refusals_of old u) (refusals_of new u) (kept_of old u) (kept_of new u)

-- as many tenants as names
pub length_named : (ps qs : List TenantState) → names_of qs ≡ names_of ps → length qs ≡ length ps
length_named ps qs names = sym (length-map qs (λ (x : TenantState). x.name)) ∙ (ap length names ∙ length-map ps (λ (x : TenantState). x.name))

-- no tenant's turn was yet
pub passed_none : (clock : ℕ) (H : Type 0) (ps : List TenantState) → HavePassedTo clock 0 H ps ps
passed_none clock H ps = record {
  names = refl;
  grows = λ u. omega arith;
  kept = λ honest u lt calm. absurd (omega (arith, lt));
  counts = λ u le. refl;
  rest = λ honest u le. refl;
  partly = λ honest u lt. absurd (omega (arith, lt));
}

-- one tenant's turn
module _ (clock i : ℕ) (H G : Type 0) (ps qs rs : List TenantState) (before : G → H) (done : HavePassedTo clock i H ps qs) (turn : IsTurn i G qs rs)
    (met : IsMet i G qs rs (λ k l. l ≡ passed clock k))
    (partly : G → PassesPartly clock (refusals_of qs i) (refusals_of rs i) (kept_of qs i) (kept_of rs i)) where
  next_kept : G → (u : ℕ) → u < i + 1 → IsCalm (refusals_of ps u) (refusals_of rs u) → kept_of rs u ≡ passed clock (kept_of ps u)
  next_kept honest u lt calm = ⊎_elim
      (λ (same : u ≡ i).
      let seen : IsCalm (refusals_of qs i) (refusals_of rs i) =
      subst (λ n. IsCalm n (refusals_of rs i)) (sym (done.counts i (omega arith))) (subst (λ v. IsCalm (refusals_of ps v) (refusals_of rs v)) same calm) in
      subst (λ v. kept_of rs v ≡ passed clock (kept_of ps v)) (sym same) (met honest seen ∙ ap (passed clock) (done.rest (before honest) i (omega arith))))
      (λ (ne : u ≡ i → ⊥).
      turn.others honest u ne ∙ done.kept (before honest) u (omega (arith, lt, ne)) (subst (λ n. IsCalm (refusals_of ps u) n) (turn.counts u ne) calm))
      (same_or_not u i)

  -- what each keeps, and its count
  abbrev Partly : ℕ → Type 0
  Partly u = PassesPartly clock (refusals_of ps u) (refusals_of rs u) (kept_of ps u) (kept_of rs u)

  next_partly : G → (u : ℕ) → u < i + 1 → Partly u
  next_partly honest u lt = ⊎_elim
      (λ (same : u ≡ i). subst Partly (sym same)
      (subst (λ k. PassesPartly clock (refusals_of ps i) (refusals_of rs i) k (kept_of rs i)) (done.rest (before honest) i (omega arith))
      (subst (λ n. PassesPartly clock n (refusals_of rs i) (kept_of qs i) (kept_of rs i)) (done.counts i (omega arith)) (partly honest))))
      (λ (ne : u ≡ i → ⊥).
      subst (PassesPartly clock (refusals_of ps u) (refusals_of rs u) (kept_of ps u)) (sym (turn.others honest u ne))
      (subst (λ n. PassesPartly clock (refusals_of ps u) n (kept_of ps u) (kept_of qs u)) (sym (turn.counts u ne))
      (done.partly (before honest) u (omega (arith, lt, ne)))))
      (same_or_not u i)

  pub passed_next : HavePassedTo clock (i + 1) G ps rs
  passed_next = record {
    names = turn.names ∙ done.names;
    grows = λ u. omega (arith, done.grows u, turn.grows u);
    kept = next_kept;
    counts = λ u le. turn.counts u (λ same. omega (arith, le, same)) ∙ done.counts u (omega (arith, le));
    rest = λ honest u le. turn.others honest u (λ same. omega (arith, le, same)) ∙ done.rest (before honest) u (omega (arith, le));
    partly = next_partly;
  }

  -- what disturbed a tenant before disturbs it still
  pub still_disturbed : (u : ℕ) → u < i → IsDisturbed clock u ps qs → IsDisturbed clock u ps rs
  still_disturbed u lt disturbed = ⊎_elim
      (λ dropped. inl dropped)
      (λ loud. inr (subst (λ n. IsCalm (refusals_of ps u) n → ⊥) (sym (turn.counts u (λ same. omega (arith, lt, same)))) loud))
      disturbed

  -- what disturbs this one
  pub disturbed_now : H → IsDisturbed clock i qs rs → IsDisturbed clock i ps rs
  disturbed_now honest disturbed = ⊎_elim
      (λ dropped. inl (sym (ap (drops clock) (done.rest honest i (omega arith))) ∙ dropped))
      (λ loud. inr (subst (λ n. IsCalm n (refusals_of rs i) → ⊥) (done.counts i (omega arith)) loud))
      disturbed

-- behind the last tenant
module _ (clock i : ℕ) (H : Type 0) (ps qs : List TenantState) (le : length ps ≤ i) (done : HavePassedTo clock i H ps qs) where
  -- where there is none
  over : H → (u : ℕ) → i ≤ u → kept_of qs u ≡ passed clock (kept_of ps u)
  over honest u above = done.rest honest u above ∙ sym (past_passed ps u clock (omega (arith, le, above)))

  all_partly : H → (u : ℕ) → PassesPartly clock (refusals_of ps u) (refusals_of qs u) (kept_of ps u) (kept_of qs u)
  all_partly honest u = ⊎_elim
      (λ lt. done.partly honest u lt)
      (λ above. passes_all clock (refusals_of ps u) (refusals_of qs u) (kept_of ps u) (kept_of qs u) (done.grows u) (over honest u above))
      (below_or_not u i)

  pub passed_over : HavePassed clock H ps qs
  passed_over = record {
    names = done.names;
    grows = done.grows;
    kept = λ honest u calm. ⊎_elim (λ lt. done.kept honest u lt calm) (over honest u) (below_or_not u i);
    partly = all_partly;
    waits = λ honest u. let all = all_partly honest u in passed_told clock all.of_groups (kept_of ps u).groups (kept_of qs u).groups all.groups;
  }

-- where nothing was due for any, all stays
pub passed_idle : (clock : ℕ) (H : Type 0) (ps : List TenantState) → (H → (u : ℕ) → passed clock (kept_of ps u) ≡ kept_of ps u)
    → HavePassed clock H ps ps
passed_idle clock H ps idle = record {
  names = refl;
  grows = λ u. omega arith;
  kept = λ honest u calm. sym (idle honest u);
  partly = λ honest u. passes_all clock (refusals_of ps u) (refusals_of ps u) (kept_of ps u) (kept_of ps u) (omega arith) (sym (idle honest u));
  waits = λ honest u k. (omega arith, omega arith);
}
