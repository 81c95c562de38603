-- How the parts of a tenant go from one moment to the next, by a call for it or by a renewal of its catalog.
use Rattle.std.proofs.Common.{◌≡◌, ◌∙◌, ◌⊎◌, ⊎_elim, inl, inr, ◌≤◌, ◌<◌, ℕ, pos, max, List, [], Option, Some, ap, subst, sym, arith}
use Rattle.std.specs.Prelude.{unwrap_or}
use Rattle.std.specs.FinMap.{get}
use Rattle.kb_store.specs.Disk.{Disk, Files, IsThere, bytes_of}
use Rattle.kb_log.specs.OnShelf.{Log}
use Rattle.kb_topics.specs.Catalog.{catalog_identity}
use Rattle.kb_topics.specs.Known.{Known}
use Rattle.kb_snapshot.specs.Renewal.{IsUnfinished}
use Rattle.kb_tenant_state.specs.Scene.{Scene, Frame, LeavesOwn, Settles}
use Rattle.kb_tenant_state.specs.Parts as parts
use Rattle.kb_tenant_state.specs.Parts.{Seen, raised}
use Rattle.kb_tenant_state.specs.Counts.{IsCalm}
use Rattle.kb_tenant_state.specs.Steps.{IsStep, Meets, calm_then, leaves_then, settles_then, spares_then, step_same}
use Rattle.kb_tenant_state.specs.declared.parts.Parts.{Parts}
use Rattle.kb_tenant_state.proofs.Lifted.{raised_step}

-- Of what a change leaves to nobody some are files of one log, with the bytes that it had: of a generation of the catalog that is not whole,
-- was begun in it, and is above the one in use.
pub record LeavesBegun {L : Type 0} (log : L → Log) (a b : Scene Seen) : Type 0 where
  pub generation : ℕ
  pub known : Known
  pub size : ℕ
  pub of : L
  pub files : Files
  pub unfinished : IsUnfinished log known (catalog_identity a.state.tenant (pos generation) size) of files
  pub new : max 1 a.next ≤ generation
  pub begun : generation < max 1 b.next
  pub above : b.state.generation < generation
  pub left : (file : ℕ) → IsThere b.disk file → (b.owns file → ⊥) → (bytes_of b.disk file ≡ [] → ⊥) → (b.wrote file (bytes_of b.disk file) → ⊥)
      → ((log of).owns file × (get files file ≡ Some (bytes_of b.disk file)) → ⊥)
      → IsThere a.disk file × (get b.disk.files file ≡ get a.disk.files file) × (a.owns file → ⊥)

-- What each of them keeps, also where it is refused: whose the parts are; the files of all others are as they were; the count of
-- refusals only rises; the generation of the meta log stays, or begins with it; and a file that is left to nobody has no byte, or bytes of
-- theirs, or is of an unfinished generation. Where nothing was refused it settles.
pub record IsChange {L : Type 0} (log : L → Log) (a b : Scene Seen) : Type 0 where
  pub frame : Frame a b
  pub named : b.state.tenant ≡ a.state.tenant
  pub grows : a.state.refusals ≤ b.state.refusals
  pub begun : (b.state.generation ≡ a.state.generation) ⊎ (max 1 a.next ≤ b.state.generation)
  pub settles : IsCalm a.state.refusals b.state.refusals → Settles a b
  pub wrote : (file : ℕ) (bytes : List ℕ) → a.wrote file bytes → b.wrote file bytes
  pub leaves : b.disk.honest → a.agrees → LeavesOwn a b ⊎ LeavesBegun log a b

-- a call
pub called : {L : Type 0} {log : L → Log} {a b : Scene Seen} → IsStep a b → IsChange log a b
called step = record {
  frame = step.frame;
  named = step.named;
  grows = step.grows;
  begun = inl step.generation;
  settles = step.settles;
  wrote = step.wrote;
  leaves = λ honest agree. inl (step.leaves honest agree);
}

-- what is left is left still behind a call
unfinished_then : {L : Type 0} (log : L → Log) (a b c : Scene Seen) → b.disk.honest → b.agrees → c.disk.honest → LeavesBegun log a b → IsStep b c → LeavesBegun log a c
unfinished_then log a b c before agree honest u q = record {
  generation = u.generation;
  known = u.known;
  size = u.size;
  of = u.of;
  files = u.files;
  unfinished = u.unfinished;
  new = u.new;
  begun = omega (arith, u.begun, q.frame.others.later);
  above = omega (arith, u.above, q.generation);
  left = λ file there not some other part.
      let mid = q.leaves honest agree file there not some other in
      let same : bytes_of c.disk file ≡ bytes_of b.disk file = ap (λ (o : Option (List ℕ)). unwrap_or o []) mid.1 in
      let was = u.left file mid.0 mid.2 (λ none. some (same ∙ none))
      (λ had. other (subst (c.wrote file) (sym same) (q.wrote file (bytes_of b.disk file) had)))
      (λ (mine : (log u.of).owns file × (get u.files file ≡ Some (bytes_of b.disk file))). part (mine.0, mine.1 ∙ ap Some (sym same))) in
      (was.0, mid.1 ∙ was.1, was.2);
}

-- one of them and then a call
pub change_then : {L : Type 0} (log : L → Log) (a b c : Scene Seen) → IsChange log a b → IsStep b c → IsChange log a c
change_then log a b c p q = record {
  frame = record {
    sound = q.frame.sound;
    others = spares_then a.owns b.owns c.owns a.disk b.disk c.disk a.next b.next c.next p.frame.others q.frame.others;
    failures = omega (arith, p.frame.failures, q.frame.failures);
    agrees = λ honest agree. q.frame.agrees honest (p.frame.agrees (q.frame.others.honest honest) agree);
  };
  named = q.named ∙ p.named;
  grows = omega (arith, p.grows, q.grows);
  begun = ⊎_elim
      (λ (stays : b.state.generation ≡ a.state.generation). inl (q.generation ∙ stays))
      (λ (new : max 1 a.next ≤ b.state.generation). inr (omega (arith, new, q.generation)))
      p.begun;
  settles = λ calm. let calms = calm_then a.state.refusals b.state.refusals c.state.refusals p.grows q.grows calm in
      settles_then a b c q.frame.others.honest (p.settles calms.0) (q.settles calms.1);
  wrote = λ file bytes had. q.wrote file bytes (p.wrote file bytes had);
  leaves = λ honest agree.
      let before = q.frame.others.honest honest in
      let mid = p.frame.agrees before agree in
      ⊎_elim
      (λ (own : LeavesOwn a b). inl (leaves_then a b c q.wrote own (q.leaves honest mid)))
      (λ (u : LeavesBegun log a b). inr (unfinished_then log a b c before mid honest u q))
      (p.leaves before agree);
}

module _ {L : Type 0} (log : L → Log) (a : Scene Seen) (p : Parts L) (n : ℕ) (d : Disk) (next : ℕ) (change : IsChange log a (parts.scene_on log p d next)) where
  -- the count is raised behind it
  pub raised_change : IsChange log a (parts.scene_on log (raised p n) d next)
  raised_change =
      let b = parts.scene_on log p d next in
      change_then log a b (parts.scene_on log (raised p n) d next) change (raised_step log b p n d next (step_same b change.frame.sound))

  -- what was met is met also then
  pub raised_met : (P : Type 0) → Meets a (parts.scene_on log p d next) P → Meets a (parts.scene_on log (raised p n) d next) P
  raised_met P meets honest agree calm = meets honest agree (calm_then a.state.refusals p.refusals (raised p n).refusals change.grows (omega arith) calm).0
