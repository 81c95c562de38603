-- Lists and runs that go on.
use Rattle.std.proofs.Common.{◌≡◌, ◌∙◌, ◌<◌, ◌≤◌, ◌+◌, ◌++◌, ◌∷◌, [], ℕ, Bool, true, false, cond, List, max, nat_le, sym, ap, subst, refl, arith, append_assoc}
use Rattle.std.proofs.lemmas.Bool.Decides.{nat_tests}
use Rattle.std.proofs.lemmas.List.{append-nil}
use Rattle.kb_batch.specs.Batch.{count_of}
use Rattle.kb_batch.specs.BatchLaws.{batch_counted}
use Rattle.kb_log.specs.Log.{IsRun, next_of, starting}
use Rattle.kb_segment_log.specs.SegmentLaws.{run_ordered, next_is}
use Rattle.kb_loss.specs.Fronts.{IsFrontOf}

-- ---- fronts

pub front_itself : {A : Type 0} (xs : List A) → IsFrontOf xs xs
front_itself xs = record { rest = []; split = sym (append-nil xs) }

pub front_none : {A : Type 0} (xs ys : List A) → xs ≡ [] → IsFrontOf xs ys
front_none xs ys e = record { rest = ys; split = ap (λ zs. zs ++ ys) (sym e) }

pub front_then : {A : Type 0} (xs ys zs : List A) → IsFrontOf xs ys → IsFrontOf ys zs → IsFrontOf xs zs
front_then xs ys zs p q = record { rest = p.rest ++ q.rest; split = q.split ∙ ap (λ t. t ++ q.rest) p.split ∙ append_assoc xs p.rest q.rest }

pub front_cons : {A : Type 0} (x : A) (xs ys : List A) → IsFrontOf xs ys → IsFrontOf (x ∷ xs) (x ∷ ys)
front_cons x xs ys p = record { rest = p.rest; split = ap (λ t. x ∷ t) p.split }

pub front_behind : {A : Type 0} (ws xs ys : List A) → IsFrontOf xs ys → IsFrontOf (ws ++ xs) (ws ++ ys)
front_behind [] xs ys p = p
front_behind (w ∷ ws) xs ys p = front_cons w (ws ++ xs) (ws ++ ys) (front_behind ws xs ys p)

pub fronts_equal : {A : Type 0} (xs ys : List A) → IsFrontOf xs ys → IsFrontOf ys xs → xs ≡ ys
fronts_equal [] [] p q = refl
fronts_equal [] (y ∷ ys) p q = let wrong = q.split in absurd cc
fronts_equal (x ∷ xs) [] p q = let wrong = p.split in absurd cc
fronts_equal (x ∷ xs) (y ∷ ys) p q =
    let ps = p.split in
    let qs = q.split in
    let head : x ≡ y = cc in
    let one : ys ≡ xs ++ p.rest = cc in
    let two : xs ≡ ys ++ q.rest = cc in
    ap (λ z. z ∷ xs) head ∙ ap (λ z. y ∷ z) (fronts_equal xs ys (record { rest = p.rest; split = one }) (record { rest = q.rest; split = two }))

-- ---- runs

-- what is left of a run behind a front
pub run_left : (at m e : ℕ) (xs ys : List (List ℕ)) → IsRun at xs m → IsRun at (xs ++ ys) e → IsRun m ys e
run_left at m e [] ys r q = subst (λ (a : ℕ). IsRun a ys e) r q
run_left at m e (x ∷ xs) ys r q = run_left (at + count_of x) m e xs ys r.2 q.2

-- a run that ends where it begins, or below, has no batch
pub run_none : (at end : ℕ) (bs : List (List ℕ)) → IsRun at bs end → end ≤ at → bs ≡ []
run_none at end [] r l = refl
run_none at end (b ∷ bs) r l = absurd (omega (arith, l, batch_counted b r.0, run_ordered (at + count_of b) bs end r.2))

pub run_end : (at : ℕ) (bs : List (List ℕ)) (e f : ℕ) → IsRun at bs e → IsRun at bs f → e ≡ f
run_end at [] e f r q = sym r ∙ q
run_end at (b ∷ bs) e f r q = run_end (at + count_of b) bs e f r.2 q.2

-- a run that goes on ends no earlier
pub front_ordered : (at m e : ℕ) (xs ys : List (List ℕ)) → IsRun at xs m → IsRun at ys e → IsFrontOf xs ys → m ≤ e
front_ordered at m e xs ys r q f = run_ordered m f.rest e (run_left at m e xs f.rest r (subst (λ (zs : List (List ℕ)). IsRun at zs e) f.split q))

-- ---- from a start on

le_is : (a b : ℕ) → a ≤ b → nat_le a b ≡ true
le_is a b l = grind (arith, nat_tests, l)

pub le_not : (a b : ℕ) → b < a → nat_le a b ≡ false
le_not a b l = grind (arith, nat_tests, l)

pub is_le : (a b : ℕ) → nat_le a b ≡ true → a ≤ b
is_le a b e = grind (arith, nat_tests, e)

pub not_le : (a b : ℕ) → nat_le a b ≡ false → b < a
not_le a b e = grind (arith, nat_tests, e)

module _ (b : List ℕ) (bs : List (List ℕ)) where
  passed : (t : ℕ) → next_of b ≤ t → starting t (b ∷ bs) ≡ starting t bs
  passed t l = ap (λ c. cond c (starting t bs) (b ∷ bs)) (le_is (next_of b) t l)

  stopped : (t : ℕ) → t < next_of b → starting t (b ∷ bs) ≡ b ∷ bs
  stopped t l = ap (λ c. cond c (starting t bs) (b ∷ bs)) (le_not (next_of b) t l)

pub starting_front : (t : ℕ) (bs cs : List (List ℕ)) → IsFrontOf bs cs → IsFrontOf (starting t bs) (starting t cs)
starting_front t [] cs f = front_none [] (starting t cs) refl
starting_front t (b ∷ bs) cs f = subst (λ (zs : List (List ℕ)). IsFrontOf (starting t (b ∷ bs)) (starting t zs)) (sym f.split)
    (each (nat_le (next_of b) t) (starting_front t bs (bs ++ f.rest) (record { rest = f.rest; split = refl })))
  where
    each : (c : Bool) → IsFrontOf (starting t bs) (starting t (bs ++ f.rest)) → IsFrontOf (cond c (starting t bs) (b ∷ bs)) (cond c (starting t (bs ++ f.rest)) (b ∷ (bs ++ f.rest)))
    each true g = g
    each false g = record { rest = f.rest; split = refl }

pub starting_twice : (a b : ℕ) (xs : List (List ℕ)) → starting a (starting b xs) ≡ starting (max a b) xs
starting_twice a b [] = refl
starting_twice a b (x ∷ xs) = each (nat_le (next_of x) b) refl (starting_twice a b xs)
  where
    whole : (c : Bool) → nat_le (next_of x) a ≡ c → nat_le (next_of x) b ≡ false → starting a (x ∷ xs) ≡ starting (max a b) (x ∷ xs)
    whole true e wrong = ap (λ t. starting t (x ∷ xs)) (omega (arith, is_le (next_of x) a e, not_le (next_of x) b wrong))
    whole false e wrong = stopped x xs a (not_le (next_of x) a e) ∙ sym (stopped x xs (max a b) (omega (arith, not_le (next_of x) a e, not_le (next_of x) b wrong)))

    each : (c : Bool) → nat_le (next_of x) b ≡ c → starting a (starting b xs) ≡ starting (max a b) xs → starting a (cond c (starting b xs) (x ∷ xs)) ≡ starting (max a b) (x ∷ xs)
    each true e rest = rest ∙ sym (passed x xs (max a b) (omega (arith, is_le (next_of x) b e)))
    each false e rest = whole (nat_le (next_of x) a) refl e

-- batches that end at a start or below it do not count
pub starting_behind : (t at mid : ℕ) (xs ys : List (List ℕ)) → IsRun at xs mid → mid ≤ t → starting t (xs ++ ys) ≡ starting t ys
starting_behind t at mid [] ys r l = refl
starting_behind t at mid (x ∷ xs) ys r l =
    passed x (xs ++ ys) t (omega (arith, l, next_is at x r.1, run_ordered (at + count_of x) xs mid r.2)) ∙ starting_behind t (at + count_of x) mid xs ys r.2 l
