-- The entries in their slots, after a change.
use Rattle.std.proofs.Common.{◌≡◌, ◌≢◌, ℕ, Bool, true, false, cond, List, Option, None, Some, refl, sym, ap, ◌∙◌, subst}
use Rattle.std.specs.Prelude.{is_some, IsSome}
use Rattle.std.specs.Option.{option_map}
use Rattle.std.specs.Cmp.{nat_cmp_total}
use Rattle.std.specs.FinMap as fin
use Rattle.std.proofs.lemmas.Bool.{false≢true}
use Rattle.slab.specs.Slab.{Slab, get, Updates}
use Rattle.kb_waits.specs.Queue.{Queue}
use Rattle.kb_waits.specs.Entry.{wait_of}
use Rattle.kb_waits.specs.Entries.{beside, wait_or, wait_at, queue_at, HasSlots}
use Rattle.kb_waits.specs.declared.entry.Entry.{Entry}
use Rattle.kb_waits.proofs.Queues.{tied, tied_same, tied-back, tied-itself, same_queue, get-queue_by}

-- a filled slot is not a vacant one
vacant_apart : (s : Slab Entry) (i slot : ℕ) → IsSome (get s i) → get s slot ≡ None → i ≢ slot
vacant_apart s i slot f v e = false≢true (ap is_some (sym (ap (get s) e ∙ v)) ∙ f)

-- the list ps' is ps, but has x beside k
abbrev pub Puts : ℕ → Option ℕ → List (ℕ × ℕ) → List (ℕ × ℕ) → Type 0
Puts k x ps ps' = (q : ℕ) → beside q ps' ≡ cond (tied k q) x (beside q ps)

module _ (s s' : Slab Entry) (ps ps' : List (ℕ × ℕ)) (k slot : ℕ) (h : HasSlots s ps) where
  put_one : (e : Entry) (u : Updates s s' slot (Some e)) (v : get s slot ≡ None) (n : ℕ) (b : Bool) (o : Option ℕ) → beside n ps ≡ o → option_map (wait_at s') (cond b (Some slot) o) ≡ cond b (Some (wait_of e)) (option_map (wait_at s) o)
  put_one e u v n true o is = ap (λ x. Some (wait_or x)) u.changed
  put_one e u v n false None is = refl
  put_one e u v n false (Some i) is = ap (λ x. Some (wait_or x)) (u.others i (vacant_apart s i slot (h.filled n i is) v))

  -- the queue after an insert
  pub queue_at-put : (e : Entry) → Puts k (Some slot) ps ps' → Updates s s' slot (Some e) → get s slot ≡ None → queue_at s' ps' ≡ fin.insert (queue_at s ps) k (wait_of e)
  queue_at-put e puts u v = same_queue _ _ (λ n.
      get-queue_by (wait_at s') ps' n
      ∙ ap (option_map (wait_at s')) (puts n)
      ∙ put_one e u v n (tied k n) (beside n ps) refl
      ∙ (λ i. cond (tied-back k n i) (Some (wait_of e)) (sym (get-queue_by (wait_at s) ps n) i))
      ∙ sym (fin.get-insert nat_cmp_total (queue_at s ps) k (wait_of e) n))

  put_filled : (e : Entry) (u : Updates s s' slot (Some e)) (v : get s slot ≡ None) (n i : ℕ) (b : Bool) (o : Option ℕ) → beside n ps ≡ o → cond b (Some slot) o ≡ Some i → IsSome (get s' i)
  put_filled e u v n i true o is so = let at : slot ≡ i = cc in subst (λ j. IsSome (get s' j)) at (ap is_some u.changed)
  put_filled e u v n i false None is so = absurd (false≢true (ap is_some so))
  put_filled e u v n i false (Some j) is so =
      let at : j ≡ i = cc in
      subst (λ j. IsSome (get s' j)) at (ap is_some (u.others j (vacant_apart s j slot (h.filled n j is) v)) ∙ h.filled n j is)

  put_apart : (v : get s slot ≡ None) (n m i : ℕ) (a b : Bool) → tied k n ≡ a → tied k m ≡ b → cond a (Some slot) (beside n ps) ≡ Some i → cond b (Some slot) (beside m ps) ≡ Some i → n ≡ m
  put_apart v n m i true true p q x y = sym (tied_same k n p) ∙ tied_same k m q
  put_apart v n m i true false p q x y = let at : i ≡ slot = cc in absurd (vacant_apart s i slot (h.filled m i y) v at)
  put_apart v n m i false true p q x y = let at : i ≡ slot = cc in absurd (vacant_apart s i slot (h.filled n i x) v at)
  put_apart v n m i false false p q x y = h.apart n m i x y

  pub HasSlots-put : (e : Entry) → Puts k (Some slot) ps ps' → Updates s s' slot (Some e) → get s slot ≡ None → HasSlots s' ps'
  HasSlots-put e puts u v = record {
    filled = λ n i x. put_filled e u v n i (tied k n) (beside n ps) refl (sym (puts n) ∙ x);
    apart = λ n m i x y. put_apart v n m i (tied k n) (tied k m) refl refl (sym (puts n) ∙ x) (sym (puts m) ∙ y);
  }

  others_apart : beside k ps ≡ Some slot → (n i : ℕ) → tied k n ≡ false → beside n ps ≡ Some i → i ≢ slot
  others_apart at n i b is e = false≢true (sym b ∙ ap (tied k) (h.apart n k slot (is ∙ ap Some e) at) ∙ tied-itself k)

  take_one : (u : Updates s s' slot None) (at : beside k ps ≡ Some slot) (n : ℕ) (b : Bool) (o : Option ℕ) → tied k n ≡ b → beside n ps ≡ o → option_map (wait_at s') (cond b None o) ≡ cond b None (option_map (wait_at s) o)
  take_one u at n true o t is = refl
  take_one u at n false None t is = refl
  take_one u at n false (Some i) t is = ap (λ x. Some (wait_or x)) (u.others i (others_apart at n i t is))

  -- the queue after a removal
  pub queue_at-take : Puts k None ps ps' → Updates s s' slot None → beside k ps ≡ Some slot → queue_at s' ps' ≡ fin.remove (queue_at s ps) k
  queue_at-take takes u at = same_queue _ _ (λ n.
      get-queue_by (wait_at s') ps' n
      ∙ ap (option_map (wait_at s')) (takes n)
      ∙ take_one u at n (tied k n) (beside n ps) refl refl
      ∙ (λ i. cond (tied-back k n i) None (sym (get-queue_by (wait_at s) ps n) i))
      ∙ sym (fin.get-remove nat_cmp_total (queue_at s ps) k n))

  left_there : (n i : ℕ) (b : Bool) → tied k n ≡ b → cond b None (beside n ps) ≡ Some i → (tied k n ≡ false) × (beside n ps ≡ Some i)
  left_there n i true t so = absurd (false≢true (ap is_some so))
  left_there n i false t so = (t, so)

  pub HasSlots-take : Puts k None ps ps' → Updates s s' slot None → beside k ps ≡ Some slot → HasSlots s' ps'
  HasSlots-take takes u at = record {
    filled = λ n i x. let l = left_there n i (tied k n) refl (sym (takes n) ∙ x) in ap is_some (u.others i (others_apart at n i l.0 l.1)) ∙ h.filled n i l.1;
    apart = λ n m i x y. let l = left_there n i (tied k n) refl (sym (takes n) ∙ x) in let r = left_there m i (tied k m) refl (sym (takes m) ∙ y) in h.apart n m i l.1 r.1;
  }

  found : (o : Option Entry) → IsSome o → option_map wait_of o ≡ Some (wait_or o)
  found None f = absurd (false≢true f)
  found (Some e) f = refl

  -- what stands in the slot is the wait of the connection
  pub entry_there : beside k ps ≡ Some slot → option_map wait_of (get s slot) ≡ fin.get (queue_at s ps) k
  entry_there at = found (get s slot) (h.filled k slot at) ∙ ap (option_map (wait_at s)) (sym at) ∙ sym (get-queue_by (wait_at s) ps k)

-- to remove what is not there changes nothing
pub remove-none : (q : Queue) (k : ℕ) → fin.get q k ≡ None → q ≡ fin.remove q k
remove-none q k none = same_queue _ _ (λ n. one n (tied n k) refl ∙ sym (fin.get-remove nat_cmp_total q k n))
  where
    one : (n : ℕ) (b : Bool) → tied n k ≡ b → fin.get q n ≡ cond (tied n k) None (fin.get q n)
    one n true t = ap (fin.get q) (tied_same n k t) ∙ none ∙ ap (λ b. cond b None (fin.get q n)) (sym t)
    one n false t = ap (λ b. cond b None (fin.get q n)) (sym t)

-- a slab with another capacity has the same entries
pub HasSlots-same : (s s' : Slab Entry) (ps : List (ℕ × ℕ)) → s' ≡ record s { capacity = s'.capacity } → HasSlots s ps → HasSlots s' ps
HasSlots-same s s' ps e h = record { filled = λ n i x. ap (λ t. is_some (get t i)) e ∙ h.filled n i x; apart = h.apart }

pub queue_at-same : (s s' : Slab Entry) (ps : List (ℕ × ℕ)) → s' ≡ record s { capacity = s'.capacity } → queue_at s' ps ≡ queue_at s ps
queue_at-same s s' ps e = ap (λ t. queue_at t ps) e
