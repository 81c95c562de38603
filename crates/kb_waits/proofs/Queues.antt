-- Queues, seen at each connection.
use Rattle.std.proofs.Common.{◌≡◌, ◌≢◌, ℕ, ◌+◌, Bool, true, false, cond, List, [], ◌∷◌, length, Option, None, Some, refl, ap, ◌∙◌, arith}
use Rattle.std.specs.Prelude.{map, is_some}
use Rattle.std.specs.Bool.{OnFalse}
use Rattle.std.specs.Option.{option_map}
use Rattle.std.specs.List.{list_any, IsDistinct, AllByRecursion}
use Rattle.std.specs.Ordering.{nat_cmp, eq_by_cmp, is_eq}
use Rattle.std.specs.Cmp.{nat_cmp_total, unsigned_ties, unsigned_tied, eq_by_cmp_equiv, tied_itself}
use Rattle.std.specs.FinMap as fin
use Rattle.std.specs.Map.{keys_of}
use Rattle.std.proofs.lemmas.Bool.{ne_eqb, eqb-true, false≢true}
use Rattle.std.proofs.lemmas.Map.Keys.{IsDistinct-head, IsDistinct-tail}
use Rattle.std.proofs.lemmas.Map.Made.{is_some-lookup}
use Rattle.kb_waits.specs.Queue.{Queue, Wait}
use Rattle.kb_waits.specs.Entries.{queue_by, beside}

-- whether two connections are the same
abbrev pub tied : ℕ → ℕ → Bool
tied = eq_by_cmp nat_cmp

pub tied_same : (n k : ℕ) → tied n k ≡ true → n ≡ k
tied_same n k h = eqb-true n k (unsigned_ties n k ∙ h)

pub tied-other : (n k : ℕ) → n ≢ k → tied n k ≡ false
tied-other n k h = unsigned_tied n k ∙ ne_eqb n k h

pub tied-itself : (n : ℕ) → tied n n ≡ true
tied-itself n = ap is_eq (tied_itself nat_cmp_total n)

pub tied-back : (n k : ℕ) → tied n k ≡ tied k n
tied-back n k = (eq_by_cmp_equiv nat_cmp_total).symm n k

-- queues that answer alike are the same
pub same_queue : (q r : Queue) → ((n : ℕ) → fin.get q n ≡ fin.get r n) → q ≡ r
same_queue q r h = fin.same_map nat_cmp_total fin.nat_cmp-IsAntisymmetric q r h

pub get-insert_other : (q : Queue) (k n : ℕ) (w : Wait) → n ≢ k → fin.get (fin.insert q k w) n ≡ fin.get q n
get-insert_other q k n w h = fin.get-insert nat_cmp_total q k w n ∙ ap (λ b. cond b (Some w) (fin.get q n)) (tied-other n k h)

pub get-remove_other : (q : Queue) (k n : ℕ) → n ≢ k → fin.get (fin.remove q k) n ≡ fin.get q n
get-remove_other q k n h = fin.get-remove nat_cmp_total q k n ∙ ap (λ b. cond b None (fin.get q n)) (tied-other n k h)

pub get-remove_same : (q : Queue) (k : ℕ) → fin.get (fin.remove q k) k ≡ None
get-remove_same q k = fin.get-remove nat_cmp_total q k k ∙ ap (λ b. cond b None (fin.get q k)) (tied-itself k)

module _ {X : Type 0} (read : X → Wait) where
  step : (b : Bool) (x : X) (r : Option Wait) (s : Option X) → r ≡ option_map read s → cond b (Some (read x)) r ≡ option_map read (cond b (Some x) s)
  step true x r s h = refl
  step false x r s h = h

  find-beside : (n : ℕ) (ps : List (ℕ × X)) → fin.find nat_cmp n (map (λ (p : ℕ × X). (p.0, read p.1)) ps) ≡ option_map read (beside n ps)
  find-beside n [] = refl
  find-beside n (p ∷ ps) = step (tied n p.0) p.1 _ _ (find-beside n ps)

  -- the queue has the wait that is read from what stands beside the connection
  pub get-queue_by : (ps : List (ℕ × X)) (n : ℕ) → fin.get (queue_by read ps) n ≡ option_map read (beside n ps)
  get-queue_by ps n = fin.get-from_entries nat_cmp_total _ n ∙ find-beside n ps

  still_some : (o : Option X) → is_some (option_map read o) ≡ is_some o
  still_some None = refl
  still_some (Some x) = refl

  -- the queue has a connection exactly if the list does
  pub contains-queue_by : (ps : List (ℕ × X)) (n : ℕ) → fin.contains_key (queue_by read ps) n ≡ is_some (beside n ps)
  contains-queue_by ps n = ap is_some (get-queue_by ps n) ∙ still_some (beside n ps)

  none_any : (x : ℕ) (xs : List ℕ) → AllByRecursion (λ y. tied x y ≡ false) xs → list_any (tied x) xs ≡ false
  none_any x [] h = refl
  none_any x (y ∷ ys) h = rw (h.0) (none_any x ys h.1)

  -- and as many, where no connection stands twice
  pub len-queue_by : (ps : List (ℕ × X)) → IsDistinct tied (keys_of ps) → fin.len (queue_by read ps) ≡ length ps
  len-queue_by [] h = fin.len-empty nat_cmp Wait
  len-queue_by (p ∷ ps) h =
      let rest = len-queue_by ps (IsDistinct-tail _ _ _ h) in
      let fresh : fin.contains_key (queue_by read ps) p.0 ≡ false = contains-queue_by ps p.0 ∙ is_some-lookup (tied p.0) ps ∙ none_any p.0 (keys_of ps) (IsDistinct-head _ _ _ h) in
      fin.len-insert nat_cmp_total (queue_by read ps) p.0 (read p.1) ∙ ap (λ b. cond b (fin.len (queue_by read ps)) (fin.len (queue_by read ps) + 1)) fresh ∙ omega arith

-- a test that says that a connection is not there
pub free_from : (b : Bool) (o : Option Wait) → b ≡ is_some o → OnFalse b (o ≡ None)
free_from true o e = tt
free_from false None e = refl
free_from false (Some w) e = absurd (false≢true e)
