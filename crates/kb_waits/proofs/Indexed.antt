-- The deadlines and the waiters of a queue, after a change.
use Rattle.std.proofs.Common.{◌≡◌, ℕ, ◌+◌, ◌-◌, Bool, true, false, cond, not, List, Option, None, Some, refl, sym, ap, ◌∙◌, arith}
use Rattle.std.specs.Prelude.{◌&&◌, ◌||◌, is_some}
use Rattle.std.specs.BTreeMap.{is_at}
use Rattle.std.specs.BTreeSet.{BTreeSet, btree_set_len, contains}
use Rattle.std.specs.Cmp.{nat_cmp_total, unsigned_tied, unsigned_ties, tied_then}
use Rattle.std.specs.FinMap as fin
use Rattle.std.specs.List.{list_any}
use Rattle.std.specs.Ordering.{nat_cmp}
use Rattle.kb_waits.specs.Due.{by_deadline}
use Rattle.kb_waits.specs.Queue.{Queue, Wait}
use Rattle.kb_waits.specs.Waiters.{has, is_one_of, same_key}
use Rattle.kb_waits.specs.Waits.{passes, ends_at, is_under, IsIndexed}
use Rattle.kb_waits.specs.declared.key.WaitKey.{WaitKey}
use Rattle.kb_waits.specs.declared.waiters.Waiters.{Waiters}
use Rattle.kb_waits.proofs.Queues.{tied, tied_same, tied-back, tied-itself}
use Rattle.kb_waits.proofs.Waiting.{and_false}

-- the set has a pair
abbrev pub dated_at : BTreeSet (ℕ × ℕ) → ℕ → ℕ → Bool
dated_at set d n = contains by_deadline set (d, n)

-- two pairs tie
pub at_pair : (d c e n : ℕ) → is_at (by_deadline (d, c)) (e, n) ≡ (tied d e && tied c n)
at_pair d c e n = sym (tied_then (nat_cmp d e) (nat_cmp c n))

-- a connection that is not parked waits for no key, and has no deadline
pub has-none : (q : Queue) (d : BTreeSet (ℕ × ℕ)) (w : Waiters) (c : ℕ) → IsIndexed q d w → fin.get q c ≡ None → (k : WaitKey) → has w k c ≡ false
has-none q d w c i none k = i.keyed k c ∙ ap (passes (is_under k)) none

dated-none : (q : Queue) (d : BTreeSet (ℕ × ℕ)) (w : Waiters) (c e n : ℕ) → IsIndexed q d w → fin.get q c ≡ None → tied c n ≡ true → dated_at d e n ≡ false
dated-none q d w c e n i none t = i.dated e n ∙ ap (λ x. passes (ends_at e) (fin.get q x)) (sym (tied_same c n t)) ∙ ap (passes (ends_at e)) none

-- the same deadlines and waiters in other sets
pub IsIndexed-same : (q : Queue) (d d' : BTreeSet (ℕ × ℕ)) (w w' : Waiters) → IsIndexed q d w → ((e n : ℕ) → dated_at d' e n ≡ dated_at d e n) → btree_set_len d' ≡ btree_set_len d → ((k : WaitKey) (n : ℕ) → has w' k n ≡ has w k n) → IsIndexed q d' w'
IsIndexed-same q d d' w w' i same count keys = record {
  dated = λ e n. same e n ∙ i.dated e n;
  counted = count ∙ i.counted;
  keyed = λ k n. keys k n ∙ i.keyed k n;
}

-- whether the set d' is d, but answers `there` at the pair
abbrev pub Dates : ℕ → ℕ → Bool → BTreeSet (ℕ × ℕ) → BTreeSet (ℕ × ℕ) → Type 0
Dates deadline c there d d' = (p : ℕ × ℕ) → contains by_deadline d' p ≡ cond (is_at (by_deadline (deadline, c)) p) there (contains by_deadline d p)

put_one : (t x : Bool) → x ≡ false → cond (t && true) true x ≡ t
put_one true x none = refl
put_one false x none = none

put_date : (w : Wait) (e : ℕ) (b : Bool) (o : Option Wait) (x : Bool) → x ≡ passes (ends_at e) o → (b ≡ true → x ≡ false) → cond (tied w.deadline e && b) true x ≡ passes (ends_at e) (cond b (Some w) o)
put_date w e true o x is fresh = put_one (tied w.deadline e) x (fresh refl) ∙ unsigned_tied w.deadline e
put_date w e false o x is fresh = ap (λ b. cond b true x) (and_false (tied w.deadline e)) ∙ is

key_one : (a x : Bool) → x ≡ false → (a && true || x) ≡ a
key_one true x none = refl
key_one false x none = none

put_key : (k : WaitKey) (w : Wait) (b : Bool) (o : Option Wait) (x : Bool) → x ≡ passes (is_under k) o → (b ≡ true → x ≡ false) → (is_under k w && b || x) ≡ passes (is_under k) (cond b (Some w) o)
put_key k w true o x is fresh = key_one (is_under k w) x (fresh refl)
put_key k w false o x is fresh = ap (λ b. b || x) (and_false (is_under k w)) ∙ is

-- a wait is parked
pub IsIndexed-put : (q : Queue) (d d' : BTreeSet (ℕ × ℕ)) (w w' : Waiters) (c : ℕ) (wait : Wait) → IsIndexed q d w → fin.get q c ≡ None
    → Dates wait.deadline c true d d' → btree_set_len d' ≡ btree_set_len d + 1
    → ((k : WaitKey) (n : ℕ) → has w' k n ≡ (is_one_of wait.keys c k n || has w k n))
    → IsIndexed (fin.insert q c wait) d' w'
IsIndexed-put q d d' w w' c wait i none dates count keys = record {
  dated = λ e n.
      dates (e, n)
      ∙ ap (λ b. cond b true (dated_at d e n)) (at_pair wait.deadline c e n)
      ∙ put_date wait e (tied c n) (fin.get q n) (dated_at d e n) (i.dated e n) (λ t. dated-none q d w c e n i none t)
      ∙ ap (λ b. passes (ends_at e) (cond b (Some wait) (fin.get q n))) (tied-back c n)
      ∙ ap (passes (ends_at e)) (sym (fin.get-insert nat_cmp_total q c wait n));
  counted =
      let fresh : fin.contains_key q c ≡ false = ap is_some none in
      let more : fin.len (fin.insert q c wait) ≡ fin.len q + 1 = fin.len-insert nat_cmp_total q c wait ∙ ap (λ b. cond b (fin.len q) (fin.len q + 1)) fresh in
      count ∙ ap (λ x. x + 1) i.counted ∙ sym more;
  keyed = λ k n.
      keys k n
      ∙ put_key k wait (tied c n) (fin.get q n) (has w k n) (i.keyed k n) (λ t. ap (has w k) (sym (tied_same c n t)) ∙ has-none q d w c i none k)
      ∙ ap (λ b. passes (is_under k) (cond b (Some wait) (fin.get q n))) (tied-back c n)
      ∙ ap (passes (is_under k)) (sym (fin.get-insert nat_cmp_total q c wait n));
}

date_two : (t x : Bool) → x ≡ t → cond (t && true) false x ≡ false
date_two true x is = refl
date_two false x is = is

take_date : (w : Wait) (e : ℕ) (b : Bool) (o : Option Wait) (x : Bool) → x ≡ passes (ends_at e) o → (b ≡ true → o ≡ Some w) → cond (tied w.deadline e && b) false x ≡ passes (ends_at e) (cond b None o)
take_date w e true o x is there = date_two (tied w.deadline e) x (is ∙ ap (passes (ends_at e)) (there refl) ∙ unsigned_ties w.deadline e)
take_date w e false o x is there = ap (λ b. cond b false x) (and_false (tied w.deadline e)) ∙ is

key_two : (a x : Bool) → x ≡ a → (not (a && true) && x) ≡ false
key_two true x is = refl
key_two false x is = is

take_key : (k : WaitKey) (w : Wait) (b : Bool) (o : Option Wait) (x : Bool) → x ≡ passes (is_under k) o → (b ≡ true → o ≡ Some w) → (not (is_under k w && b) && x) ≡ passes (is_under k) (cond b None o)
take_key k w true o x is there = key_two (is_under k w) x (is ∙ ap (passes (is_under k)) (there refl))
take_key k w false o x is there = ap (λ b. not b && x) (and_false (is_under k w)) ∙ is

-- a wait is forgotten
pub IsIndexed-take : (q : Queue) (d d' : BTreeSet (ℕ × ℕ)) (w w' : Waiters) (c : ℕ) (wait : Wait) → IsIndexed q d w → fin.get q c ≡ Some wait
    → Dates wait.deadline c false d d' → btree_set_len d' + 1 ≡ btree_set_len d
    → ((k : WaitKey) (n : ℕ) → has w' k n ≡ (not (is_one_of wait.keys c k n) && has w k n))
    → IsIndexed (fin.remove q c) d' w'
IsIndexed-take q d d' w w' c wait i there dates count keys = record {
  dated = λ e n.
      dates (e, n)
      ∙ ap (λ b. cond b false (dated_at d e n)) (at_pair wait.deadline c e n)
      ∙ take_date wait e (tied c n) (fin.get q n) (dated_at d e n) (i.dated e n) (λ t. ap (fin.get q) (sym (tied_same c n t)) ∙ there)
      ∙ ap (λ b. passes (ends_at e) (cond b None (fin.get q n))) (tied-back c n)
      ∙ ap (passes (ends_at e)) (sym (fin.get-remove nat_cmp_total q c n));
  counted =
      let had : fin.contains_key q c ≡ true = ap is_some there in
      let less : fin.len (fin.remove q c) ≡ fin.len q - 1 = fin.len-remove nat_cmp_total q c ∙ ap (λ b. cond b (fin.len q - 1) (fin.len q)) had in
      omega (arith, i.counted, less, count);
  keyed = λ k n.
      keys k n
      ∙ take_key k wait (tied c n) (fin.get q n) (has w k n) (i.keyed k n) (λ t. ap (fin.get q) (sym (tied_same c n t)) ∙ there)
      ∙ ap (λ b. passes (is_under k) (cond b None (fin.get q n))) (tied-back c n)
      ∙ ap (passes (is_under k)) (sym (fin.get-remove nat_cmp_total q c n));
}

undone_date : (t b : Bool) (x : Bool) → (b ≡ true → x ≡ false) → cond (t && b) false (cond (t && b) true x) ≡ x
undone_date true true x fresh = sym (fresh refl)
undone_date true false x fresh = refl
undone_date false b x fresh = refl

undone_key : (a b x : Bool) → (b ≡ true → x ≡ false) → (not (a && b) && (a && b || x)) ≡ x
undone_key true true x fresh = sym (fresh refl)
undone_key true false x fresh = refl
undone_key false b x fresh = refl

-- what was parked is taken out again
pub has-undone : (q : Queue) (d : BTreeSet (ℕ × ℕ)) (w w' w'' : Waiters) (c : ℕ) (keys : List WaitKey) → IsIndexed q d w → fin.get q c ≡ None
    → ((k : WaitKey) (n : ℕ) → has w' k n ≡ (is_one_of keys c k n || has w k n))
    → ((k : WaitKey) (n : ℕ) → has w'' k n ≡ (not (is_one_of keys c k n) && has w' k n))
    → (k : WaitKey) (n : ℕ) → has w'' k n ≡ has w k n
has-undone q d w w' w'' c keys i none puts takes k n =
    takes k n ∙ ap (λ x. not (is_one_of keys c k n) && x) (puts k n)
    ∙ undone_key (list_any (λ a. same_key a k) keys) (tied c n) (has w k n) (λ t. ap (has w k) (sym (tied_same c n t)) ∙ has-none q d w c i none k)

pub dated-undone : (q : Queue) (d d' d'' : BTreeSet (ℕ × ℕ)) (w : Waiters) (c deadline : ℕ) → IsIndexed q d w → fin.get q c ≡ None
    → Dates deadline c true d d' → Dates deadline c false d' d'' → (e n : ℕ) → dated_at d'' e n ≡ dated_at d e n
dated-undone q d d' d'' w c deadline i none puts takes e n =
    takes (e, n)
    ∙ ap (λ x. cond (is_at (by_deadline (deadline, c)) (e, n)) false x) (puts (e, n))
    ∙ ap (λ b. cond b false (cond b true (dated_at d e n))) (at_pair deadline c e n)
    ∙ undone_date (tied deadline e) (tied c n) (dated_at d e n) (λ t. dated-none q d w c e n i none t)

-- a pair that was put is there
pub dated-put : (d d' : BTreeSet (ℕ × ℕ)) (c deadline : ℕ) → Dates deadline c true d d' → dated_at d' deadline c ≡ true
dated-put d d' c deadline puts =
    puts (deadline, c) ∙ ap (λ b. cond b true (dated_at d deadline c)) (at_pair deadline c deadline c ∙ ap (λ b. b && tied c c) (tied-itself deadline) ∙ tied-itself c)

-- the deadline of a parked connection is there
pub dated-there : (q : Queue) (d : BTreeSet (ℕ × ℕ)) (w : Waiters) (c : ℕ) (wait : Wait) → IsIndexed q d w → fin.get q c ≡ Some wait → dated_at d wait.deadline c ≡ true
dated-there q d w c wait i there = i.dated wait.deadline c ∙ ap (passes (ends_at wait.deadline)) there ∙ sym (unsigned_tied wait.deadline wait.deadline) ∙ tied-itself wait.deadline

-- a new pair makes the set longer by one
pub longer-put : (q : Queue) (d d' : BTreeSet (ℕ × ℕ)) (w : Waiters) (c deadline : ℕ) (added : Bool) → IsIndexed q d w → fin.get q c ≡ None → added ≡ not (contains by_deadline d (deadline, c)) → btree_set_len d' ≡ btree_set_len d + cond added 1 0 → btree_set_len d' ≡ btree_set_len d + 1
longer-put q d d' w c deadline added i none is count =
    count ∙ ap (λ b. btree_set_len d + cond b 1 0) (is ∙ ap not (i.dated deadline c ∙ ap (passes (ends_at deadline)) none))
