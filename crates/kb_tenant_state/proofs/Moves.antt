-- A call before its refusal is counted, and what it leaves where it was refused nothing.
use Rattle.std.proofs.Common.{◌≡◌, ◌∙◌, ◌≤◌, ℕ, List, refl, arith}
use Rattle.kb_tenant_state.specs.Scene.{Scene, Frame, LeavesOwn, Settles}
use Rattle.kb_tenant_state.specs.Parts.{Seen}
use Rattle.kb_tenant_state.specs.Steps.{IsStep, leaves_then, spares_then}
use Rattle.kb_tenant_state.specs.Counts.{IsCalm}

-- What holds before a refusal is counted: whose the parts are, and the generation of the meta log; the files of all others are as they
-- were; and the counts of refusals, of recorded commands and of topics that were made have not fallen. What is left to nobody is as a step
-- leaves it.
pub record IsMove (a b : Scene Seen) : Type 0 where
  pub frame : Frame a b
  pub named : b.state.tenant ≡ a.state.tenant
  pub grows : a.state.refusals ≤ b.state.refusals
  pub commands : a.state.commands ≤ b.state.commands
  pub creates : a.state.world.known.creates ≤ b.state.world.known.creates
  pub generation : b.state.generation ≡ a.state.generation
  pub wrote : (file : ℕ) (bytes : List ℕ) → a.wrote file bytes → b.wrote file bytes
  pub leaves : b.disk.honest → a.agrees → LeavesOwn a b

pub as_move : (a b : Scene Seen) → IsStep a b → IsMove a b
as_move a b step = record { frame = step.frame; named = step.named; grows = step.grows; commands = step.commands; creates = step.creates; generation = step.generation; wrote = step.wrote; leaves = step.leaves }

-- a call that settles where it was refused nothing
pub as_step : (a b : Scene Seen) → IsMove a b → (IsCalm a.state.refusals b.state.refusals → Settles a b) → IsStep a b
as_step a b move settles = record {
  frame = move.frame;
  named = move.named;
  grows = move.grows;
  commands = move.commands;
  creates = move.creates;
  generation = move.generation;
  settles = settles;
  wrote = move.wrote;
  leaves = move.leaves;
}

-- one call and then another
pub move_then : (a b c : Scene Seen) → IsMove a b → IsMove b c → IsMove a c
move_then a b c p q = record {
  frame = record {
    sound = q.frame.sound;
    others = spares_then a.owns b.owns c.owns a.disk b.disk c.disk a.next b.next c.next p.frame.others q.frame.others;
    failures = omega (arith, p.frame.failures, q.frame.failures);
    agrees = λ honest agree. q.frame.agrees honest (p.frame.agrees (q.frame.others.honest honest) agree);
  };
  named = q.named ∙ p.named;
  grows = omega (arith, p.grows, q.grows);
  commands = omega (arith, p.commands, q.commands);
  creates = omega (arith, p.creates, q.creates);
  generation = q.generation ∙ p.generation;
  wrote = λ file bytes had. q.wrote file bytes (p.wrote file bytes had);
  leaves = λ honest agree. let before = q.frame.others.honest honest in
      leaves_then a b c q.wrote (p.leaves before agree) (q.leaves honest (p.frame.agrees before agree));
}

-- nothing was done
pub still_settles : (a : Scene Seen) → Settles a a
still_settles a = record { accounts = λ file there not. (there, not); exact = λ exact. exact; timed = λ timed. timed; writes = λ honest file there not some. (there, refl) }
