-- How the parts of a tenant go from one moment to the next.
use Rattle.std.specs.Prelude.{◌≡◌, ◌≤◌, ◌<◌, ℕ, List, [], Option, unwrap_or}
use Rattle.std.proofs.Common.{◌∙◌, sym, refl, subst, ap, inl, inr, ⊎_elim, arith}
use Rattle.kb_store.specs.Disk.{Disk, bytes_of}
use Rattle.kb_log.specs.OnShelf.{Spares}
use Rattle.kb_tenant_state.specs.Scene.{Scene, Frame, LeavesOwn, Settles}
use Rattle.kb_tenant_state.specs.Parts.{Seen}
use Rattle.kb_tenant_state.specs.Counts.{END, IsCalm}

-- What each call keeps, also where it is refused: whose the parts are, and the generation of the meta log; the files of all others are as
-- they were; and the counts of refusals, of recorded commands and of topics that were made only rise.
-- Where nothing was refused each file is accounted for; and nothing but batches is in the files, and each log's memory tells what
-- retention asks of its first batch, if it was so before.
-- Also where it is refused no file is left to nobody, but one without a byte, one of a log that the tenant has no more, and those that were
-- nobody's before and are as they were.
pub record IsStep (a b : Scene Seen) : Type 0 where
  pub frame : Frame a b
  pub named : b.state.tenant ≡ a.state.tenant
  pub grows : a.state.refusals ≤ b.state.refusals
  pub commands : a.state.commands ≤ b.state.commands
  pub creates : a.state.world.known.creates ≤ b.state.world.known.creates
  pub generation : b.state.generation ≡ a.state.generation
  pub settles : IsCalm a.state.refusals b.state.refusals → Settles a b
  pub wrote : (file : ℕ) (bytes : List ℕ) → a.wrote file bytes → b.wrote file bytes
  pub leaves : b.disk.honest → a.agrees → LeavesOwn a b

-- what holds where nothing was refused and the store is honest
abbrev pub Meets : Scene Seen → Scene Seen → Type 0 → Type 0
Meets a b P = b.disk.honest → a.agrees → IsCalm a.state.refusals b.state.refusals → P

-- ---- laws

-- files of others that two calls leave as they were
pub spares_then : (o p q : ℕ → Type 0) (d e f : Disk) (k l m : ℕ) → Spares o p d e k l → Spares p q e f l m → Spares o q d f k m
spares_then o p q d e f k l m x y = record {
  later = omega (arith, x.later, y.later);
  honest = λ h. x.honest (y.honest h);
  owned = λ file own. ⊎_elim (λ mid. x.owned file mid) (λ le. inr (omega (arith, le, x.later))) (y.owned file own);
  lengths = λ file lt not. y.lengths file (omega (arith, lt, x.later)) (λ own.
      ⊎_elim (λ old. not old) (λ le. omega (arith, le, lt)) (x.owned file own)) ∙ x.lengths file lt not;
  contents = λ honest file lt not. y.contents honest file (omega (arith, lt, x.later)) (λ own.
      ⊎_elim (λ old. not old) (λ le. omega (arith, le, lt)) (x.owned file own)) ∙ x.contents (y.honest honest) file lt not;
}

-- nothing was done
pub step_same : (a : Scene Seen) → a.sound → IsStep a a
step_same a sound = record {
  frame = record {
    sound = sound;
    others = record {
      later = omega arith;
      honest = λ h. h;
      owned = λ file o. inl o;
      lengths = λ file lt not. refl;
      contents = λ honest file lt not. refl;
    };
    failures = omega arith;
    agrees = λ honest agree. agree;
  };
  named = refl;
  grows = omega arith;
  commands = omega arith;
  creates = omega arith;
  generation = refl;
  settles = λ calm. record { accounts = λ file there not. (there, not); exact = λ exact. exact; timed = λ timed. timed; writes = λ honest file there not some. (there, refl) };
  wrote = λ file bytes had. had;
  leaves = λ honest agree file there not some other. (there, refl, not);
}

-- where nothing was refused in two steps, nothing was in either
pub calm_then : (a b c : ℕ) → a ≤ b → b ≤ c → IsCalm a c → IsCalm a b × IsCalm b c
calm_then a b c p q calm =
    let here : b ≡ a = omega (arith, p, q, calm.same) in
    (record { same = here; below = calm.below }, record { same = calm.same ∙ sym here; below = subst (λ n. n < END) (sym here) calm.below })

-- what settles in one step and then in another
pub settles_then : (a b c : Scene Seen) → (c.disk.honest → b.disk.honest) → Settles a b → Settles b c → Settles a c
settles_then a b c before p q = record {
  accounts = λ file there not. let mid = q.accounts file there not in p.accounts file mid.0 mid.1;
  exact = λ exact. q.exact (p.exact exact);
  timed = λ timed. q.timed (p.timed timed);
  writes = λ honest file there not some.
      let mid = q.writes honest file there not some in
      let same : bytes_of c.disk file ≡ bytes_of b.disk file = ap (λ (o : Option (List ℕ)). unwrap_or o []) mid.1 in
      let was = p.writes (before honest) file mid.0 (q.accounts file there not).1 (λ none. some (same ∙ none)) in
      (was.0, mid.1 ∙ was.1);
}

-- what two calls leave, where bytes that were written before the second still were
pub leaves_then : (a b c : Scene Seen) → ((file : ℕ) (bytes : List ℕ) → b.wrote file bytes → c.wrote file bytes) → LeavesOwn a b → LeavesOwn b c
    → LeavesOwn a c
leaves_then a b c wrote p q file there not some other =
    let mid = q file there not some other in
    let same : bytes_of c.disk file ≡ bytes_of b.disk file = ap (λ (o : Option (List ℕ)). unwrap_or o []) mid.1 in
    let was = p file mid.0 mid.2 (λ none. some (same ∙ none))
    (λ had. other (subst (c.wrote file) (sym same) (wrote file (bytes_of b.disk file) had))) in
    (was.0, mid.1 ∙ was.1, was.2)

-- one step and then another
pub step_then : (a b c : Scene Seen) → IsStep a b → IsStep b c → IsStep a c
step_then a b c p q = record {
  frame = record {
    sound = q.frame.sound;
    others = spares_then a.owns b.owns c.owns a.disk b.disk c.disk a.next b.next c.next p.frame.others q.frame.others;
    failures = omega (arith, p.frame.failures, q.frame.failures);
    agrees = λ honest agree. q.frame.agrees honest (p.frame.agrees (q.frame.others.honest honest) agree);
  };
  named = q.named ∙ p.named;
  grows = omega (arith, p.grows, q.grows);
  commands = omega (arith, p.commands, q.commands);
  creates = omega (arith, p.creates, q.creates);
  generation = q.generation ∙ p.generation;
  settles = λ calm. let calms = calm_then a.state.refusals b.state.refusals c.state.refusals p.grows q.grows calm in
      settles_then a b c q.frame.others.honest (p.settles calms.0) (q.settles calms.1);
  wrote = λ file bytes had. q.wrote file bytes (p.wrote file bytes had);
  leaves = λ honest agree. let before = q.frame.others.honest honest in
      leaves_then a b c q.wrote (p.leaves before agree) (q.leaves honest (p.frame.agrees before agree));
}

-- what each of two steps meets
pub meets_then : (a b c : Scene Seen) (P Q : Type 0) → IsStep a b → IsStep b c → Meets a b P → Meets b c Q → Meets a c (P × Q)
meets_then a b c P Q p q first second honest agree calm =
    let calms = calm_then a.state.refusals b.state.refusals c.state.refusals p.grows q.grows calm in
    let before = q.frame.others.honest honest in
    (first before agree calms.0, second honest (p.frame.agrees before agree) calms.1)

-- what follows from what is met
pub meets_so : (a b : Scene Seen) (P Q : Type 0) → (P → Q) → Meets a b P → Meets a b Q
meets_so a b P Q f met honest agree calm = f (met honest agree calm)
