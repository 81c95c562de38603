-- A turn of a tenant, after which a refusal may have been counted for it.
use Rattle.std.proofs.Common.{◌≡◌, ◌≤◌, ◌<◌, ◌∙◌, ℕ, List, [], length, Option, Some, None, true, refl, sym, ap, subst, arith, unwrap_or}
use Rattle.std.specs.Prelude.{◌⊎◌}
use Rattle.kb_store.specs.Disk.{Disk}
use Rattle.kb_log.specs.OnShelf.{Log}
use Rattle.kb_log.specs.Shelf.{Shelved}
use Rattle.kb_waits.specs.Queue as queue
use Rattle.kb_waits.specs.Queue.{Queue}
use Rattle.kb_tenant_state.specs.Steps.{calm_then}
use Rattle.kb_tenant_api.specs.Hosted.{Kept, TenantState, kept_of, refusals_of}
use Rattle.kb_tenant_api.specs.Turns.{IsMet, IsTurn}
use Rattle.kb_tenant_api.specs.Waiters.{AreServed, members_on}
use Rattle.kb_tenant.specs.Replies.{Silent}
use Rattle.kb_over_limit.specs.declared.over.OverLimit.{OverLimit}
use Rattle.kb_tenants.specs.Counts.{IsCountedBy, IsCountedFor, all_counts, counts_of}
use Rattle.kb_tenants.specs.Tenants.{AreLeftAlone, numbers_in}
use Rattle.kb_tenants.proofs.Passed.{length_named}
use Rattle.kb_tenants.proofs.Shares.{shares_called}
use Rattle.kb_tenants.specs.declared.tenants.Tenants.{Tenants}
use Rattle.kb_isolation_spec.specs.Tenant.{Wait, asked, ready}
use Rattle.kb_isolation_spec.specs.Session.{Stage, Greets, BoundTo, Session}
use Rattle.kb_isolation_spec.specs.Greeting.{Setup}
use Rattle.kb_isolation_spec.specs.Stranded.{IsMembersAt, members_of}
use Rattle.kb_broker.specs.Hosts.{AreLater, IsLaterWith, tenants_in}
use Rattle.kb_broker.specs.Parked.{IsAskedOn, IsKeyedAt, IsKnownOrCounted, IsLeftBy, keys_for}
use Rattle.kb_broker.specs.Places.{IsMemberTurnAt, IsWaitTurnAt}
use Rattle.kb_broker.specs.declared.serving.Concerned.{Concerned}
use Rattle.kb_broker.specs.declared.serving.Concerned.TheVariants as concerned
use Rattle.kb_broker.proofs.Honest.{later-by, later-counted}

-- nothing was counted
pub turn-none : (t : ℕ) (ts : List TenantState) → IsTurn t (Unit {0}) ts ts
turn-none t ts = record { names = refl; grows = λ u. omega arith; counts = λ u ne. refl; others = λ honest u ne. refl }

module _ (t : ℕ) (ts us vs : List TenantState) (loss : IsTurn t (Unit {0}) us vs) (stays : (u : ℕ) → kept_of vs u ≡ kept_of us u) where
  pub turn-counted : (H G : Type 0) → (G → H) → IsTurn t H ts us → IsTurn t G ts vs
  turn-counted H G back turn = record {
    names = loss.names ∙ turn.names;
    grows = λ u. (let a = turn.grows u in let b = loss.grows u in omega (arith, a, b));
    counts = λ u ne. loss.counts u ne ∙ turn.counts u ne;
    others = λ honest u ne. stays u ∙ turn.others (back honest) u ne;
  }

  pub keyed-counted : (n : ℕ) (st : Stage) (o : Option queue.Wait) → IsKeyedAt us n st o → IsKeyedAt vs n st o
  keyed-counted n (Greets h) o k = tt
  keyed-counted n (BoundTo u None) o k = tt
  keyed-counted n (BoundTo u (Some w)) o k = λ calm silent.
      k (let up = loss.grows u in omega (arith, up, calm)) (subst (λ x. ready x 0 n w ≡ Silent) (stays u) silent) ∙ ap (λ x. Some (keys_for u (asked x w))) (sym (stays u))

  pub asked-counted : IsAskedOn t ts us → IsAskedOn t ts vs
  asked-counted a = λ calm n w before after.
      ap (λ k. asked k w) (stays t) ∙ a (let up = loss.grows t in omega (arith, up, calm)) n w before (subst (λ x. ready x 0 n w ≡ Silent) (stays t) after)

  pub met-counted : (H G : Type 0) (P : Kept → Kept → Type 0) → (G → H) → refusals_of ts t ≤ refusals_of us t → IsMet t H ts us P → IsMet t G ts vs P
  met-counted H G P back up met = λ honest calm.
      let both = calm_then (refusals_of ts t) (refusals_of us t) (refusals_of vs t) up (loss.grows t) calm in
      subst (P (kept_of ts t)) (sym (stays t)) (met (back honest) both.0)

  pub waits-counted : (n : ℕ) (st : Stage) → IsWaitTurnAt n st ts us → IsWaitTurnAt n st ts vs
  waits-counted n (Greets h) w = tt
  waits-counted n (BoundTo u x) w = subst (λ (k : Kept). AreServed n true (kept_of ts u).groups k.groups ⊎ (k.groups ≡ (kept_of ts u).groups)) (sym (stays u)) w

  pub member-counted : (n : ℕ) (st r : Stage) → IsMemberTurnAt n st ts us r → IsMemberTurnAt n st ts vs r
  member-counted n (Greets h) r m = tt
  member-counted n (BoundTo u x) r m = subst (λ (k : Kept). IsMembersAt u r ⊎ (members_on n k.groups ≤ members_of ts u n)) (sym (stays u)) m

  pub left-counted : (c : Concerned) (setup : Setup) (clock : ℕ) (st : Stage) (n : ℕ) (q : Queue) (s r : Session) → IsKnownOrCounted c t us vs → IsLeftBy c setup clock st n q ts us s r → IsLeftBy c setup clock st n q ts vs s r
  left-counted concerned.Nobody setup clock st n q s r same left = subst (λ xs. IsLeftBy concerned.Nobody setup clock st n q ts xs s r) (sym same) left
  left-counted (concerned.These u ns) setup clock st n q s r same left = subst (λ xs. IsLeftBy (concerned.These u ns) setup clock st n q ts xs s r) (sym same) left
  left-counted (concerned.All u) setup clock st n q s r loud left = tt

-- a call for one tenant
pub later-called : {L S : Type 0} {told : OverLimit → OverLimit} (log : L → Log) (disk : S → Disk) (a b : Tenants L S) (t : ℕ) (H : Type 0) → t < length (tenants_in log disk a) → ((disk b.shelf.store).honest → (disk a.shelf.store).honest)
    → (disk a.shelf.store).failures ≤ (disk b.shelf.store).failures → IsTurn t H (tenants_in log disk a) (tenants_in log disk b)
    → IsCountedBy told t (tenants_in log disk a) (tenants_in log disk b) (disk a.shelf.store).failures (disk b.shelf.store).failures (counts_of a) (counts_of b)
    → b.strays ≡ a.strays
    → AreLeftAlone (unwrap_or (numbers_in a.strays) []) (disk a.shelf.store) (disk b.shelf.store) → AreLater log disk a b
later-called log disk a b t H lt honest more turn counted strays alone = record {
  honest = honest;
  failures = more;
  many = length_named (tenants_in log disk a) (tenants_in log disk b) turn.names;
  counts = turn.grows;
  accounted = shares_called log disk a b t lt more turn.grows counted;
  strays_are = ap numbers_in strays;
  left_alone = alone;
}

-- in which nothing was asked of the store
pub later-told : {L S : Type 0} (log : L → Log) (disk : S → Disk) (a b : Tenants L S) (t : ℕ) (H : Type 0) → t < length (tenants_in log disk a) → IsTurn t H (tenants_in log disk a) (tenants_in log disk b)
    → IsCountedFor log disk t a b → b.strays ≡ a.strays → b.shelf ≡ a.shelf → AreLater log disk a b
later-told {L} {S} log disk a b t H lt turn counted strays shelf =
    let failures = ap (λ (x : Shelved S). (disk x.store).failures) shelf in
    later-called log disk a b t H lt (λ honest. subst (λ (x : Shelved S). (disk x.store).honest) shelf honest) (omega (arith, failures)) turn counted strays
    (subst (λ (x : Shelved S). AreLeftAlone (unwrap_or (numbers_in a.strays) []) (disk a.shelf.store) (disk x.store)) (sym shelf) (λ honest file c. refl))

-- on the same shelf
pub later-loss : {L S : Type 0} (log : L → Log) (disk : S → Disk) (a b c : Tenants L S) (t : ℕ) → AreLater log disk a b → IsTurn t (Unit {0}) (tenants_in log disk b) (tenants_in log disk c) → c.shelf ≡ b.shelf → c.strays ≡ b.strays
    → all_counts c ≡ all_counts b → AreLater log disk a c
later-loss log disk a b c t first loss shelf strays shares =
    later-by (disk a.shelf.store) (disk b.shelf.store) (disk c.shelf.store) (numbers_in a.strays) (numbers_in b.strays) (numbers_in c.strays) (tenants_in log disk a) (tenants_in log disk b) (tenants_in log disk c)
    (all_counts a) (all_counts b) (all_counts c) first
    (subst (λ files. IsLaterWith (disk b.shelf.store) (disk c.shelf.store) (numbers_in b.strays) (numbers_in files) (tenants_in log disk b) (tenants_in log disk c) (all_counts b) (all_counts c)) (sym strays)
    (subst (λ x. IsLaterWith (disk b.shelf.store) (disk x.store) (numbers_in b.strays) (numbers_in b.strays) (tenants_in log disk b) (tenants_in log disk c) (all_counts b) (all_counts c)) (sym shelf)
    (subst (IsLaterWith (disk b.shelf.store) (disk b.shelf.store) (numbers_in b.strays) (numbers_in b.strays) (tenants_in log disk b) (tenants_in log disk c) (all_counts b)) (sym shares)
    (later-counted (disk b.shelf.store) (numbers_in b.strays) (tenants_in log disk b) (tenants_in log disk c) (all_counts b) loss.names loss.grows))))
