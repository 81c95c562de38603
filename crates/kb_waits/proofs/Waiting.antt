-- Who waits for a key, after a change.
use Rattle.std.proofs.Common.{◌≡◌, ℕ, ◌+◌, ◌<◌, get_or, take, drop, Bool, true, false, cond, not, List, [], ◌∷◌, length, Option, None, Some, Result, Ok, Err, refl, sym, ap, ◌∙◌, arith}
use Rattle.std.specs.Prelude.{◌&&◌, ◌||◌, OnErr}
use Rattle.std.specs.BTreeMap as tree
use Rattle.std.specs.BTreeSet as sorted
use Rattle.std.specs.List.{list_any}
use Rattle.std.specs.Ordering.{nat_cmp}
use Rattle.std.proofs.lemmas.Bool.{false≢true}
use Rattle.std.proofs.lemmas.List.{take-append-drop}
use Rattle.std.proofs.lemmas.List.Folds.{list_any_more, list_any-append}
use Rattle.kb_waits.specs.Waiters.{same_key, set_has, is_one, is_one_of}
use Rattle.kb_waits.specs.contracts.key.WaitKeyOrd.TheImpl as key_ord
use Rattle.kb_waits.specs.declared.key.WaitKey.{WaitKey}
use Rattle.kb_waits.proofs.Keys.{same_key-decides}
use Rattle.kb_waits.proofs.Queues.{tied}

-- a set for each key
abbrev pub Sets : Type 0
Sets = tree.BTreeMap WaitKey (sorted.BTreeSet ℕ)

abbrev pub set_at : Sets → WaitKey → Option (sorted.BTreeSet ℕ)
set_at m k = tree.get (key_ord.ghosts).cmp m k

-- the map m' is m, but has o at the key
abbrev pub Sets_at : WaitKey → Option (sorted.BTreeSet ℕ) → Sets → Sets → Type 0
Sets_at key o m m' = (q : WaitKey) → set_at m' q ≡ cond (same_key key q) o (set_at m q)

pub and_false : (b : Bool) → (b && false) ≡ false
and_false true = refl
and_false false = refl

or : (b c : Bool) → cond b true c ≡ (b || c)
or true c = refl
or false c = refl

and : (b c : Bool) → cond b false c ≡ (not b && c)
and true c = refl
and false c = refl

module _ (m m' : Sets) (key : WaitKey) (connection : ℕ) (set : sorted.BTreeSet ℕ) (puts : Sets_at key (Some set) m m') where
  put_one : (k : WaitKey) (n : ℕ) (b : Bool) → same_key key k ≡ b → (sorted.contains nat_cmp set n ≡ cond (tied connection n) true (set_has n (set_at m key))) → set_has n (cond b (Some set) (set_at m k)) ≡ (b && tied connection n || set_has n (set_at m k))
  put_one k n true t c = c ∙ ap (λ q. cond (tied connection n) true (set_has n (set_at m q))) ((same_key-decides key k).0 t) ∙ or (tied connection n) _
  put_one k n false t c = refl

  -- the connection joins those at the key
  pub has-put : ((n : ℕ) → sorted.contains nat_cmp set n ≡ cond (tied connection n) true (set_has n (set_at m key))) → (k : WaitKey) (n : ℕ) → set_has n (set_at m' k) ≡ (is_one key connection k n || set_has n (set_at m k))
  has-put c k n = ap (set_has n) (puts k) ∙ put_one k n (same_key key k) refl (c n)

  same_one : (k : WaitKey) (n : ℕ) (b : Bool) → same_key key k ≡ b → (sorted.contains nat_cmp set n ≡ set_has n (set_at m key)) → set_has n (cond b (Some set) (set_at m k)) ≡ set_has n (set_at m k)
  same_one k n true t c = c ∙ ap (λ q. set_has n (set_at m q)) ((same_key-decides key k).0 t)
  same_one k n false t c = refl

  -- those at the key stay
  pub has-same : ((n : ℕ) → sorted.contains nat_cmp set n ≡ set_has n (set_at m key)) → (k : WaitKey) (n : ℕ) → set_has n (set_at m' k) ≡ set_has n (set_at m k)
  has-same c k n = ap (set_has n) (puts k) ∙ same_one k n (same_key key k) refl (c n)

  take_one : (k : WaitKey) (n : ℕ) (b : Bool) → same_key key k ≡ b → (sorted.contains nat_cmp set n ≡ cond (tied connection n) false (set_has n (set_at m key))) → set_has n (cond b (Some set) (set_at m k)) ≡ (not (b && tied connection n) && set_has n (set_at m k))
  take_one k n true t c = c ∙ ap (λ q. cond (tied connection n) false (set_has n (set_at m q))) ((same_key-decides key k).0 t) ∙ and (tied connection n) _
  take_one k n false t c = refl

  -- the connection leaves those at the key
  pub has-take : ((n : ℕ) → sorted.contains nat_cmp set n ≡ cond (tied connection n) false (set_has n (set_at m key))) → (k : WaitKey) (n : ℕ) → set_has n (set_at m' k) ≡ (not (is_one key connection k n) && set_has n (set_at m k))
  has-take c k n = ap (set_has n) (puts k) ∙ take_one k n (same_key key k) refl (c n)

drop_one : (k : WaitKey) (n : ℕ) (key : WaitKey) (m : Sets) (b : Bool) → same_key key k ≡ b → set_has n (set_at m key) ≡ false → set_has n (cond b None (set_at m k)) ≡ set_has n (set_at m k)
drop_one k n key m true t c = sym c ∙ ap (λ q. set_has n (set_at m q)) ((same_key-decides key k).0 t)
drop_one k n key m false t c = refl

-- a key for which nobody waits may be dropped
pub has-drop : (m m' : Sets) (key : WaitKey) → Sets_at key None m m' → ((n : ℕ) → set_has n (set_at m key) ≡ false) → (k : WaitKey) (n : ℕ) → set_has n (set_at m' k) ≡ set_has n (set_at m k)
has-drop m m' key drops c k n = ap (set_has n) (drops k) ∙ drop_one k n key m (same_key key k) refl (c n)

absent_one : (k : WaitKey) (n connection : ℕ) (key : WaitKey) (m : Sets) (b : Bool) → same_key key k ≡ b → set_has n (set_at m key) ≡ false → set_has n (set_at m k) ≡ (not (b && tied connection n) && set_has n (set_at m k))
absent_one k n connection key m true t c =
    let none : set_has n (set_at m k) ≡ false = ap (λ q. set_has n (set_at m q)) (sym ((same_key-decides key k).0 t)) ∙ c in
    none ∙ sym (ap (λ b. not (tied connection n) && b) none ∙ and_false (not (tied connection n)))
absent_one k n connection key m false t c = refl

-- nobody leaves where nobody waits
pub has-absent : (m : Sets) (key : WaitKey) (connection : ℕ) → ((n : ℕ) → set_has n (set_at m key) ≡ false) → (k : WaitKey) (n : ℕ) → set_has n (set_at m k) ≡ (not (is_one key connection k n) && set_has n (set_at m k))
has-absent m key connection c k n = absent_one k n connection key m (same_key key k) refl (c n)

-- a set of no keys has none
pub no_member : (set : sorted.BTreeSet ℕ) → length set.keys ≡ 0 → (n : ℕ) → sorted.contains nat_cmp set n ≡ false
no_member set e n = none set.keys e
  where
    none : (ks : List ℕ) → length ks ≡ 0 → list_any (tied n) ks ≡ false
    none [] h = refl
    none (k ∷ ks) h = absurd (omega arith)

pub on_err : {T E : Type 0} {P : Type 0} (r : Result T E) → P → OnErr r P
on_err (Ok x) p = tt
on_err (Err e) p = p

one_of-more : (keys : List WaitKey) (i : ℕ) (key : WaitKey) (c : ℕ) (k : WaitKey) (n : ℕ) → i < length keys → key ≡ get_or keys i key → is_one_of (take (i + 1) keys) c k n ≡ ((list_any (λ a. same_key a k) (take i keys) || same_key key k) && tied c n)
one_of-more keys i key c k n l is =
    ap (λ b. b && tied c n) (list_any_more (λ a. same_key a k) keys i key l ∙ ap (λ a. list_any (λ x. same_key x k) (take i keys) || same_key a k) (sym is))

add_bits : (a m t h : Bool) → (a && t || (m && t || h)) ≡ ((m || a) && t || h)
add_bits true true true h = refl
add_bits true true false h = refl
add_bits true false true h = refl
add_bits true false false h = refl
add_bits false true true h = refl
add_bits false true false h = refl
add_bits false false t h = refl

-- one more key for which the connection waits
pub has_all-more : (keys : List WaitKey) (i : ℕ) (key : WaitKey) (c : ℕ) (k : WaitKey) (n : ℕ) (h : Bool) → i < length keys → key ≡ get_or keys i key → (is_one key c k n || (is_one_of (take i keys) c k n || h)) ≡ (is_one_of (take (i + 1) keys) c k n || h)
has_all-more keys i key c k n h l is = add_bits (same_key key k) (list_any (λ a. same_key a k) (take i keys)) (tied c n) h ∙ ap (λ b. b || h) (sym (one_of-more keys i key c k n l is))

take_bits : (a m t h : Bool) → (not (a && t) && (not (m && t) && h)) ≡ (not ((m || a) && t) && h)
take_bits true true true h = refl
take_bits true true false h = refl
take_bits true false true h = refl
take_bits true false false h = refl
take_bits false true true h = refl
take_bits false true false h = refl
take_bits false false t h = refl

-- one more key for which it waits no longer
pub has_none-more : (keys : List WaitKey) (i : ℕ) (key : WaitKey) (c : ℕ) (k : WaitKey) (n : ℕ) (h : Bool) → i < length keys → key ≡ get_or keys i key → (not (is_one key c k n) && (not (is_one_of (take i keys) c k n) && h)) ≡ (not (is_one_of (take (i + 1) keys) c k n) && h)
has_none-more keys i key c k n h l is = take_bits (same_key key k) (list_any (λ a. same_key a k) (take i keys)) (tied c n) h ∙ ap (λ b. not b && h) (sym (one_of-more keys i key c k n l is))

undo_bits : (all some t h : Bool) → (some ≡ true → all ≡ true) → (t ≡ true → h ≡ false) → (not (all && t) && (some && t || h)) ≡ h
undo_bits true true true h more fresh = sym (fresh refl)
undo_bits true false true h more fresh = sym (fresh refl)
undo_bits false true true h more fresh = absurd (false≢true (more refl))
undo_bits false false true h more fresh = refl
undo_bits true true false h more fresh = refl
undo_bits true false false h more fresh = refl
undo_bits false true false h more fresh = refl
undo_bits false false false h more fresh = refl

any-front : (p : WaitKey → Bool) (i : ℕ) (keys : List WaitKey) → list_any p (take i keys) ≡ true → list_any p keys ≡ true
any-front p i keys h = sym (ap (list_any p) (take-append-drop i keys)) ∙ list_any-append p (take i keys) (drop i keys) ∙ ap (λ b. b || list_any p (drop i keys)) h

-- some keys were added, and all are taken away again
pub has_all-undone : (keys : List WaitKey) (i : ℕ) (c : ℕ) (k : WaitKey) (n : ℕ) (h : Bool) → (tied c n ≡ true → h ≡ false) → (not (is_one_of keys c k n) && (is_one_of (take i keys) c k n || h)) ≡ h
has_all-undone keys i c k n h fresh = undo_bits (list_any (λ a. same_key a k) keys) (list_any (λ a. same_key a k) (take i keys)) (tied c n) h (any-front (λ a. same_key a k) i keys) fresh
