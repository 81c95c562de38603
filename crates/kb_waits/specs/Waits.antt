-- How the queue is kept.
use Rattle.std.specs.Prelude.{◌≡◌, ℕ, ◌==◌, Bool, false, List, Option, Some, None}
use Rattle.std.specs.BTreeSet.{BTreeSet, btree_set_len, contains}
use Rattle.std.specs.FinMap.{get, len}
use Rattle.std.specs.List.{list_any}
use Rattle.kb_waits.specs.Due.{by_deadline}
use Rattle.kb_waits.specs.Queue.{Queue, Wait}
use Rattle.kb_waits.specs.Waiters.{has, same_key}
use Rattle.kb_waits.specs.declared.key.WaitKey.{WaitKey}
use Rattle.kb_waits.specs.declared.waiters.Waiters.{Waiters}

-- whether there is a wait, and it passes the test
abbrev pub passes : (Wait → Bool) → Option Wait → Bool
passes test None = false
passes test (Some w) = test w

-- whether a wait has this deadline, or this key
abbrev pub ends_at : ℕ → Wait → Bool
ends_at deadline w = w.deadline == deadline

abbrev pub is_under : WaitKey → Wait → Bool
is_under k w = list_any (λ a. same_key a k) w.keys

-- whether a wait has one of these keys at least
abbrev pub is_under_any : List WaitKey → Wait → Bool
is_under_any ks w = list_any (λ k. is_under k w) ks

-- the deadlines and the waiters are those of the queue
pub record IsIndexed (queue : Queue) (deadlines : BTreeSet (ℕ × ℕ)) (waiters : Waiters) : Type 0 where
  pub dated : (d n : ℕ) → contains by_deadline deadlines (d, n) ≡ passes (ends_at d) (get queue n)
  pub counted : btree_set_len deadlines ≡ len queue
  pub keyed : (k : WaitKey) (n : ℕ) → has waiters k n ≡ passes (is_under k) (get queue n)
