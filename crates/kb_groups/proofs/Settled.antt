-- How the answers of a rebalance are made before the group changes.
use Rattle.std.proofs.Common.{◌≡◌, ℕ, ◌+◌, List, [], ◌∷◌, Option, Some, None, refl, sym, ap, ◌∙◌, Bool, true, false, ◌&&◌, if◌then◌else◌, true≢false}
use Rattle.kb_groups.specs.declared.member.Member.{Member}
use Rattle.kb_groups.specs.declared.member.Waiter.{Waiter}
use Rattle.kb_groups.specs.declared.member.Asked.TheVariants.{FirstJoin, Rejoin, Sync}
use Rattle.kb_groups.specs.declared.reply.Release.{Release}
use Rattle.kb_groups.specs.declared.state.State.{State}
use Rattle.kb_groups.specs.declared.state.Phase.{Phase}
use Rattle.kb_groups.specs.declared.state.Phase.TheVariants.{Joining}
use Rattle.kb_groups.specs.Members.{Roster, each}
use Rattle.kb_groups.specs.Answers.{is_sync, is_join, waits_sync, waits_join, answers, sync_refused}
use Rattle.kb_groups.specs.Rebalance.{Step, longest, freed, sync_freed, opened, opened_unless, is_joining, all_join, ended_by, ended, looked_at, next_leader}

-- A request is a sync or a join.
sync_no_join : (w : Option Waiter) → waits_sync w ≡ true → waits_join w ≡ false
sync_no_join None = λ h. refl
sync_no_join (Some w) = elim w.asked as (λ a. is_sync a ≡ true → is_join a ≡ false) [ FirstJoin ↦ λ h. absurd (true≢false (sym h)) | Rejoin ↦ λ h. absurd (true≢false (sym h)) | Sync ↦ λ h. refl ]

join_no_sync : (w : Option Waiter) → waits_join w ≡ true → waits_sync w ≡ false
join_no_sync None = λ h. refl
join_no_sync (Some w) = elim w.asked as (λ a. is_join a ≡ true → is_sync a ≡ false) [ FirstJoin ↦ λ h. refl | Rejoin ↦ λ h. refl | Sync ↦ λ h. absurd (true≢false (sym h)) ]

-- A waiting sync goes, so nobody joins by it.
waits_join_freed : (clock : ℕ) (m : Member) → waits_join (sync_freed clock m).waiter ≡ waits_join m.waiter
waits_join_freed clock m = by (waits_sync m.waiter) refl
  where
    by : (b : Bool) → waits_sync m.waiter ≡ b → waits_join (sync_freed clock m).waiter ≡ waits_join m.waiter
    by true e = rw e (sym (sync_no_join m.waiter e))
    by false e = rw e refl

pub all_join_freed : (clock : ℕ) (ms : Roster) → all_join (each (λ n m. sync_freed clock m) ms) ≡ all_join ms
unfolding all_join each
all_join_freed clock [] = refl
all_join_freed clock (e ∷ ms) = λ j. waits_join_freed clock e.1 j && all_join_freed clock ms j

both : (a b : Bool) → (a && b) ≡ true → (a ≡ true) × (b ≡ true)
both true b h = (refl, h)
both false b h = absurd (true≢false (sym h))

-- Where all join, no sync is freed.
pub each_freed : (clock : ℕ) (ms : Roster) → all_join ms ≡ true → each (λ n m. sync_freed clock m) ms ≡ ms
unfolding all_join each
each_freed clock [] h = refl
each_freed clock (e ∷ ms) h =
    let two = both (waits_join e.1.waiter) (all_join ms) h in
    (λ j. (e.0, if join_no_sync e.1.waiter two.0 j then freed clock e.1 else e.1) ∷ each_freed clock ms two.1 j)

-- The answers at the end of Joining do not read the phase.
ended_phase : (clock : ℕ) (o : Option ℕ) (g : State) (p : Phase) (out : List Release) → (ended_by clock o (record { group = g; released = out })).released ≡ (ended_by clock o (record { group = record g { phase = p }; released = out })).released
ended_phase clock None g p out = refl
ended_phase clock (Some l) g p out = refl

looked_released : (clock : ℕ) (g : State) (mid last : List Release) → last ≡ (if all_join g.members then (ended clock (record { group = g; released = mid })).released else mid) → last ≡ (looked_at clock (record { group = g; released = mid })).released
looked_released clock g mid last =
    elim (all_join g.members) as (λ b. last ≡ (if b then (ended clock (record { group = g; released = mid })).released else mid) → last ≡ (if b then ended clock (record { group = g; released = mid }) else record { group = g; released = mid }).released) [ true ↦ λ h. h | false ↦ λ h. h ]

-- Joining opens, and is looked at.
opened_released : (clock : ℕ) (g : State) (out mid last : List Release) → mid ≡ answers sync_refused g.members out → last ≡ (if all_join g.members then (ended clock (record { group = g; released = mid })).released else mid) → last ≡ (looked_at clock (opened clock (record { group = g; released = out }))).released
opened_released clock g out mid last e h =
    looked_released clock _ _ last (by (all_join g.members) refl (h ∙ ap (λ x. if all_join g.members then (ended clock (record { group = g; released = x })).released else x) e))
  where
    after : Roster → State
    after ms = record g { phase = Joining (clock + longest g.members); members = ms }

    refused : List Release
    refused = answers sync_refused g.members out

    by : (b : Bool) → all_join g.members ≡ b → last ≡ (if all_join g.members then (ended clock (record { group = g; released = refused })).released else refused) → last ≡ (if all_join (each (λ n m. sync_freed clock m) g.members) then (ended clock (record { group = after (each (λ n m. sync_freed clock m) g.members); released = refused })).released else refused)
    by true q k =
        let same = each_freed clock g.members q in
        k ∙ ap (λ b. if b then (ended clock (record { group = g; released = refused })).released else refused) q
        ∙ ended_phase clock (next_leader g.leader g.members) g (Joining (clock + longest g.members)) refused
        ∙ sym (ap (λ ms. (ended clock (record { group = after ms; released = refused })).released) same)
        ∙ ap (λ b. if b then (ended clock (record { group = after (each (λ n m. sync_freed clock m) g.members); released = refused })).released else refused) (sym (all_join_freed clock g.members ∙ q))
    by false q k =
        k ∙ ap (λ b. if b then (ended clock (record { group = g; released = refused })).released else refused) q
        ∙ ap (λ b. if b then (ended clock (record { group = after (each (λ n m. sync_freed clock m) g.members); released = refused })).released else refused) (sym (all_join_freed clock g.members ∙ q))

-- Once a member has entered: waiting syncs are refused where Joining opens, and joins are answered where all wait.
pub entry_released : (clock : ℕ) (g : State) (out mid last : List Release) → mid ≡ (if is_joining g.phase then out else answers sync_refused g.members out) → last ≡ (if all_join g.members then (ended clock (record { group = g; released = mid })).released else mid) → last ≡ (looked_at clock (opened_unless clock g.phase (record { group = g; released = out }))).released
entry_released clock g out mid last =
    elim (is_joining g.phase) as (λ j. mid ≡ (if j then out else answers sync_refused g.members out) → last ≡ (if all_join g.members then (ended clock (record { group = g; released = mid })).released else mid) → last ≡ (looked_at clock (if j then record { group = g; released = out } else opened clock (record { group = g; released = out }))).released) [
      | true ↦ λ e h. looked_released clock g out last (h ∙ ap (λ x. if all_join g.members then (ended clock (record { group = g; released = x })).released else x) e)
      | false ↦ λ e h. opened_released clock g out mid last e h
    ]

-- The same for the group itself, which does not read the answers.
pub entry_group : (clock : ℕ) (s : Step) (phase : Phase) (x last : State) → ((r : List Release) → last ≡ (looked_at clock (record { group = x; released = r })).group) → x ≡ (opened_unless clock phase s).group → last ≡ (looked_at clock (opened_unless clock phase s)).group
entry_group clock s phase x last h e =
    h (opened_unless clock phase s).released ∙ ap (λ y. (looked_at clock (record { group = y; released = (opened_unless clock phase s).released })).group) e
