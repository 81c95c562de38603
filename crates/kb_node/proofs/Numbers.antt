-- What is found by its number where the numbers rise, and that those of an edge's sockets do.
use Rattle.std.proofs.Common.{◌≡◌, ◌≢◌, ◌<◌, ◌≤◌, ℕ, zero, suc, List, [], ◌∷◌, ◌++◌, map, length, Option, Some, None, Result, Ok, Err, slice_get, slice_index_or, slice_set, nat_eq, Bool, true, false, cond, not, ⊎_elim, refl, sym, ◌∙◌, ap, subst, arith}
use Rattle.std.specs.List.{find, filter, remove}
use Rattle.std.specs.Result.{result_ok}
use Rattle.std.specs.List.Sorted.{IsSearchInRange, IsBinarySearchResult, IsNonDecreasingBy}
use Rattle.std.specs.Ordering.{nat_cmp, ordering_index}
use Rattle.std.proofs.lemmas.Bool.Decides.{eqb_tells, nat_tests}
use Rattle.std.proofs.lemmas.Cmp.{ranked}
use Rattle.kb_store.specs.Disk.{Disk}
use Rattle.kb_node.specs.declared.socket.Socket.{Socket}
use Rattle.kb_node.specs.Commits.{Host}
use Rattle.kb_node.specs.Cores.{Core, Seen, core, cores, seen}
use Rattle.kb_node.specs.Moves.{Carry, GoesWith, IsMoved, IsTurn, Leave, LeaveAt, Move, Open, Settle}
use Rattle.kb_node.specs.Traffic.{Along, Deed}
use Rattle.kb_node.specs.Numbers.{IsInOrder, Rise, socket_of}
use Rattle.kb_node.specs.Waiting.{socket_at}

-- 1. In order

pub rises_by : (low last : ℕ) (ns : List ℕ) → Rise low last ns → low ≤ last
rises_by low last [] r = r
rises_by low last (n ∷ ns) r = omega (arith, r.0, rises_by n last ns r.1)

some_is : {X : Type 0} (x y : X) → Some x ≡ Some y → x ≡ y
some_is x y is = cc

module _ {X : Type 0} (number : X → ℕ) where
  above : (low last : ℕ) (xs : List X) (i : ℕ) (d : X) → Rise low last (map number xs) → i < length xs → low < number (slice_index_or xs i d)
  above low last [] i d r lt = absurd (omega (arith, lt))
  above low last (x ∷ xs) zero d r lt = r.0
  above low last (x ∷ xs) (suc i) d r lt = let h = above (number x) last xs i d r.1 (omega (arith, lt)) in omega (arith, h, r.0)

  before : (low last : ℕ) (xs : List X) (i j : ℕ) (d : X) → Rise low last (map number xs) → i < j → j < length xs
      → number (slice_index_or xs i d) < number (slice_index_or xs j d)
  before low last [] i j d r lt within = absurd (omega (arith, within))
  before low last (x ∷ xs) i zero d r lt within = absurd (omega (arith, lt))
  before low last (x ∷ xs) zero (suc j) d r lt within = above (number x) last xs j d r.1 (omega (arith, within))
  before low last (x ∷ xs) (suc i) (suc j) d r lt within = before (number x) last xs i j d r.1 (omega (arith, lt)) (omega (arith, within))

  numbers_rise : (low last : ℕ) (xs : List X) (i j : ℕ) (d : X) → Rise low last (map number xs) → i ≤ j → j < length xs
      → number (slice_index_or xs i d) ≤ number (slice_index_or xs j d)
  numbers_rise low last xs i j d r le within =
      let less = λ (h : i < j). before low last xs i j d r h within in
      let same = λ (h : i ≡ j). ap (λ k. number (slice_index_or xs k d)) h in
      grind (arith, less, same)

  comparisons_rise : (n low last : ℕ) (xs : List X) → Rise low last (map number xs)
      → IsNonDecreasingBy (λ x. ordering_index (nat_cmp (number x) n)) xs
  comparisons_rise n low last xs r i j d le within = let h = numbers_rise low last xs i j d r le within in grind (arith, nat_tests)

  -- 2. What is found

  pub is_it : (n : ℕ) (x : X) (xs : List X) → number x ≡ n → find (λ y. nat_eq (number y) n) (x ∷ xs) ≡ Some x
  is_it n x xs is = grind (arith, nat_tests)

  pub is_not : (n : ℕ) (x : X) (xs : List X) → number x ≢ n → find (λ y. nat_eq (number y) n) (x ∷ xs) ≡ find (λ y. nat_eq (number y) n) xs
  is_not n x xs is = grind (arith, nat_tests)

  found : (n low last : ℕ) (xs : List X) (i : ℕ) (d : X) → Rise low last (map number xs) → i < length xs
      → number (slice_index_or xs i d) ≡ n → slice_get xs i ≡ find (λ x. nat_eq (number x) n) xs
  found n low last [] i d r lt is = absurd (omega (arith, lt))
  found n low last (x ∷ xs) zero d r lt is = sym (is_it n x xs is)
  found n low last (x ∷ xs) (suc i) d r lt is =
      let h = above (number x) last xs i d r.1 (omega (arith, lt)) in
      found n (number x) last xs i d r.1 (omega (arith, lt)) is
      ∙ sym (is_not n x xs (λ e. absurd (omega (arith, h, e, is))))

  none : (n : ℕ) (xs : List X) → ((i : ℕ) (d : X) → i < length xs → number (slice_index_or xs i d) ≢ n)
      → find (λ x. nat_eq (number x) n) xs ≡ None
  none n [] others = refl
  none n (x ∷ xs) others = is_not n x xs (others 0 x (omega arith)) ∙ none n xs (λ i d lt. others (suc i) d (omega (arith, lt)))

  abbrev pub at_result : Option ℕ → List X → Option X
  at_result None xs = None
  at_result (Some i) xs = slice_get xs i

  -- a binary search by number finds the one of that number
  pub searched : (n low last : ℕ) (xs : List X) (r : Result ℕ ℕ) → Rise low last (map number xs) → IsSearchInRange r (length xs)
      → IsBinarySearchResult (λ x. nat_cmp (number x) n) xs r → at_result (result_ok r) xs ≡ find (λ x. nat_eq (number x) n) xs
  searched n low last [] (Ok i) r within is = absurd (omega (arith, within))
  searched n low last (x ∷ xs) (Ok i) r within is =
      found n low last (x ∷ xs) i x r within (ranked (number (slice_index_or (x ∷ xs) i x)) n _ (sym (is x)))
  searched n low last xs (Err i) r within is =
      let parts = is (comparisons_rise n low last xs r) in
      sym (none n xs (λ j d lt e.
      let below = λ (h : j < i). ranked (number (slice_index_or xs j d)) n _ (sym (parts.0 j d (omega arith) h)) in
      let behind = λ (h : i ≤ j). ranked (number (slice_index_or xs j d)) n _ (sym (parts.1 j d h lt)) in
      grind (arith, e, below, behind)))

  -- 3. They rise on

  pub rise_set : (low last : ℕ) (xs : List X) (i : ℕ) (x y : X) → Rise low last (map number xs) → slice_get xs i ≡ Some x → number y ≡ number x
      → Rise low last (map number (slice_set xs i y))
  rise_set low last [] i x y r at same = r
  rise_set low last (z ∷ xs) zero x y r at same =
      subst (λ k. (low < k) × Rise k last (map number xs)) (sym (same ∙ ap number (sym (some_is z x at)))) r
  rise_set low last (z ∷ xs) (suc i) x y r at same = (r.0, rise_set (number z) last xs i x y r.1 at same)

  lower : (low least last : ℕ) (ns : List ℕ) → low ≤ least → Rise least last ns → Rise low last ns
  lower low least last [] le r = omega (arith, le, r)
  lower low least last (n ∷ ns) le r = (omega (arith, le, r.0), r.1)

  pub rise_remove : (low last : ℕ) (xs : List X) (i : ℕ) → Rise low last (map number xs) → Rise low last (map number (remove xs i))
  rise_remove low last [] zero r = r
  rise_remove low last [] (suc i) r = r
  rise_remove low last (x ∷ xs) zero r = lower low (number x) last (map number xs) (omega (arith, r.0)) r.1
  rise_remove low last (x ∷ xs) (suc i) r = (r.0, rise_remove (number x) last xs i r.1)

  kept : (low last : ℕ) (b : Bool) (x : X) (ys : List X) → low < number x → Rise (number x) last (map number ys)
      → Rise low last (map number (cond b (x ∷ ys) ys))
  kept low last true x ys lt r = (lt, r)
  kept low last false x ys lt r = lower low (number x) last (map number ys) (omega (arith, lt)) r

  pub rise_filter : (low last : ℕ) (xs : List X) (test : X → Bool) → Rise low last (map number xs) → Rise low last (map number (filter test xs))
  rise_filter low last [] test r = r
  rise_filter low last (x ∷ xs) test r = kept low last (test x) x (filter test xs) r.0 (rise_filter (number x) last xs test r.1)

  pub rise_append : (low last : ℕ) (xs : List X) (x : X) → Rise low last (map number xs) → last < number x
      → Rise low (number x) (map number (xs ++ x ∷ []))
  rise_append low last [] x r lt = (omega (arith, r, lt), omega arith)
  rise_append low last (y ∷ xs) x r lt = (r.0, rise_append (number y) last xs x r.1 lt)

  -- 4. What is found after a change

  is_above : (low last : ℕ) (xs : List X) (p : ℕ) (s : X) → Rise low last (map number xs) → slice_get xs p ≡ Some s → low < number s
  is_above low last [] p s r at = absurd (let no : None ≡ Some s = at in cc)
  is_above low last (x ∷ xs) zero s r at = subst (λ y. low < number y) (some_is x s at) r.0
  is_above low last (x ∷ xs) (suc p) s r at = let h = is_above (number x) last xs p s r.1 at in omega (arith, h, r.0)

  -- the one at a place is found by its number
  pub find_here : (low last : ℕ) (xs : List X) (p : ℕ) (s : X) → Rise low last (map number xs) → slice_get xs p ≡ Some s
      → find (λ x. nat_eq (number x) (number s)) xs ≡ Some s
  find_here low last [] p s r at = absurd (let no : None ≡ Some s = at in cc)
  find_here low last (x ∷ xs) zero s r at = is_it (number s) x xs (ap number (some_is x s at)) ∙ at
  find_here low last (x ∷ xs) (suc p) s r at =
      let h = is_above (number x) last xs p s r.1 at in
      is_not (number s) x xs (λ e. absurd (omega (arith, h, e))) ∙ find_here (number x) last xs p s r.1 at

  -- and what is found has that number
  pub find_is : (n : ℕ) (xs : List X) (s : X) → find (λ x. nat_eq (number x) n) xs ≡ Some s → number s ≡ n
  find_is n [] s at = absurd (let no : None ≡ Some s = at in cc)
  find_is n (x ∷ xs) s at = ⊎_elim
      (λ same. ap number (sym (some_is x s (sym (is_it n x xs same.1) ∙ at))) ∙ same.1)
      (λ other. find_is n xs s (sym (is_not n x xs other.1) ∙ at))
      (eqb_tells (number x) n)

  pub none_below : (low last n : ℕ) (xs : List X) → Rise low last (map number xs) → n ≤ low → find (λ x. nat_eq (number x) n) xs ≡ None
  none_below low last n [] r le = refl
  none_below low last n (x ∷ xs) r le = is_not n x xs (λ e. absurd (omega (arith, e, r.0, le)))
      ∙ none_below (number x) last n xs r.1 (omega (arith, r.0, le))

  -- nobody has a number above the last
  pub none_above : (low last n : ℕ) (xs : List X) → Rise low last (map number xs) → last < n → find (λ x. nat_eq (number x) n) xs ≡ None
  none_above low last n [] r lt = refl
  none_above low last n (x ∷ xs) r lt =
      let h = rises_by (number x) last (map number xs) r.1 in
      is_not n x xs (λ e. absurd (omega (arith, e, h, lt))) ∙ none_above (number x) last n xs r.1 lt

  pub get_set : (xs : List X) (p : ℕ) (s t : X) → slice_get xs p ≡ Some s → slice_get (slice_set xs p t) p ≡ Some t
  get_set [] p s t at = absurd (let no : None ≡ Some s = at in cc)
  get_set (x ∷ xs) zero s t at = refl
  get_set (x ∷ xs) (suc p) s t at = get_set xs p s t at

  pub set_here : (low last : ℕ) (xs : List X) (p : ℕ) (s t : X) → Rise low last (map number xs) → slice_get xs p ≡ Some s → number t ≡ number s
      → find (λ x. nat_eq (number x) (number s)) (slice_set xs p t) ≡ Some t
  set_here low last xs p s t r at same = subst (λ n. find (λ x. nat_eq (number x) n) (slice_set xs p t) ≡ Some t) same
      (find_here low last (slice_set xs p t) p t (rise_set low last xs p s t r at same) (get_set xs p s t at))

  pub set_other : (n : ℕ) (xs : List X) (p : ℕ) (s t : X) → slice_get xs p ≡ Some s → number t ≡ number s → n ≢ number s
      → find (λ x. nat_eq (number x) n) (slice_set xs p t) ≡ find (λ x. nat_eq (number x) n) xs
  set_other n [] p s t at same ne = refl
  set_other n (x ∷ xs) zero s t at same ne = is_not n t xs (λ e. ne (sym e ∙ same))
      ∙ sym (is_not n x xs (λ e. ne (sym e ∙ ap number (some_is x s at))))
  set_other n (x ∷ xs) (suc p) s t at same ne = ap (λ o. cond (nat_eq (number x) n) (Some x) o) (set_other n xs p s t at same ne)

  pub remove_here : (low last : ℕ) (xs : List X) (p : ℕ) (s : X) → Rise low last (map number xs) → slice_get xs p ≡ Some s
      → find (λ x. nat_eq (number x) (number s)) (remove xs p) ≡ None
  remove_here low last [] p s r at = absurd (let no : None ≡ Some s = at in cc)
  remove_here low last (x ∷ xs) zero s r at =
      let is = ap number (some_is x s at) in none_below (number x) last (number s) xs r.1 (omega (arith, is))
  remove_here low last (x ∷ xs) (suc p) s r at =
      let h = is_above (number x) last xs p s r.1 at in
      is_not (number s) x (remove xs p) (λ e. absurd (omega (arith, h, e))) ∙ remove_here (number x) last xs p s r.1 at

  pub remove_other : (n : ℕ) (xs : List X) (p : ℕ) (s : X) → slice_get xs p ≡ Some s → n ≢ number s
      → find (λ x. nat_eq (number x) n) (remove xs p) ≡ find (λ x. nat_eq (number x) n) xs
  remove_other n [] p s at ne = absurd (let no : None ≡ Some s = at in cc)
  remove_other n (x ∷ xs) zero s at ne = sym (is_not n x xs (λ e. ne (sym e ∙ ap number (some_is x s at))))
  remove_other n (x ∷ xs) (suc p) s at ne = ap (λ o. cond (nat_eq (number x) n) (Some x) o) (remove_other n xs p s at ne)

  pub behind_here : (low last : ℕ) (xs : List X) (x : X) → Rise low last (map number xs) → last < number x
      → find (λ y. nat_eq (number y) (number x)) (xs ++ x ∷ []) ≡ Some x
  behind_here low last [] x r lt = is_it (number x) x [] refl
  behind_here low last (y ∷ xs) x r lt =
      let h = rises_by (number y) last (map number xs) r.1 in
      is_not (number x) y (xs ++ x ∷ []) (λ e. absurd (omega (arith, e, h, lt))) ∙ behind_here (number y) last xs x r.1 lt

  pub behind_other : (n : ℕ) (xs : List X) (x : X) → n ≢ number x
      → find (λ y. nat_eq (number y) n) (xs ++ x ∷ []) ≡ find (λ y. nat_eq (number y) n) xs
  behind_other n [] x ne = is_not n x [] (λ e. ne (sym e))
  behind_other n (y ∷ xs) x ne = ap (λ o. cond (nat_eq (number y) n) (Some y) o) (behind_other n xs x ne)

  -- one is left out, or not, that counts for nothing where it is
  module _ {Y : Type 0} (f : Option X → Y) (n : ℕ) where
    one_left : (b e : Bool) (x : X) (xs ys : List X) → nat_eq (number x) n ≡ e → (b ≡ false → f (Some x) ≡ f None)
        → (e ≡ true → find (λ x. nat_eq (number x) n) ys ≡ None)
        → f (find (λ x. nat_eq (number x) n) ys) ≡ f (find (λ x. nat_eq (number x) n) xs)
        → f (find (λ x. nat_eq (number x) n) (cond b (x ∷ ys) ys)) ≡ f (find (λ x. nat_eq (number x) n) (x ∷ xs))
    one_left true true x xs ys is none gone rest = ap (λ c. f (cond c (Some x) (find (λ x. nat_eq (number x) n) ys))) is
        ∙ sym (ap (λ c. f (cond c (Some x) (find (λ x. nat_eq (number x) n) xs))) is)
    one_left true false x xs ys is none gone rest = ap (λ c. f (cond c (Some x) (find (λ x. nat_eq (number x) n) ys))) is ∙ rest
        ∙ sym (ap (λ c. f (cond c (Some x) (find (λ x. nat_eq (number x) n) xs))) is)
    one_left false true x xs ys is none gone rest = ap f (gone refl) ∙ sym (none refl)
        ∙ sym (ap (λ c. f (cond c (Some x) (find (λ x. nat_eq (number x) n) xs))) is)
    one_left false false x xs ys is none gone rest = rest ∙ sym (ap (λ c. f (cond c (Some x) (find (λ x. nat_eq (number x) n) xs))) is)

    pub left_out : (low last : ℕ) (xs : List X) (test : X → Bool) → ((x : X) → test x ≡ false → f (Some x) ≡ f None)
        → Rise low last (map number xs) → f (find (λ x. nat_eq (number x) n) (filter test xs)) ≡ f (find (λ x. nat_eq (number x) n) xs)
    left_out low last [] test none r = refl
    left_out low last (x ∷ xs) test none r = one_left (test x) (nat_eq (number x) n) x xs (filter test xs) refl (none x)
        (λ e. none_below (number x) last n (filter test xs) (rise_filter (number x) last xs test r.1)
        (let is : number x ≡ n = grind (arith, nat_tests, e) in omega (arith, is)))
        (left_out (number x) last xs test none r.1)

pub rise_up : (low last more : ℕ) (ns : List ℕ) → last ≤ more → Rise low last ns → Rise low more ns
rise_up low last more [] le r = omega (arith, le, r)
rise_up low last more (n ∷ ns) le r = (r.0, rise_up n last more ns le r.1)

-- 5. Sockets

pub numbers_of : {T : Type 0} (xs : List (Socket T)) → map (λ c. c.connection) (cores xs) ≡ map (λ s. s.connection) xs
numbers_of [] = refl
numbers_of (x ∷ xs) = ap (λ ns. x.connection ∷ ns) (numbers_of xs)

in_them : {T : Type 0} (tried : ℕ) (ls : List (Socket T)) (n : ℕ) (r : Result ℕ ℕ) → Rise 0 tried (map (λ s. s.connection) ls)
    → IsSearchInRange r (length ls) → IsBinarySearchResult (λ (s : Socket T). nat_cmp s.connection n) ls r
    → socket_at (result_ok r) ls ≡ socket_of n ls
in_them tried ls n (Ok i) rises within is = searched (λ s. s.connection) n 0 tried ls (Ok i) rises within is
in_them tried ls n (Err i) rises within is = searched (λ s. s.connection) n 0 tried ls (Err i) rises within is

pub searched_place : {S T : Type 0} (h : Host S) (xs ls : List (Socket T)) (n : ℕ) (r : Result ℕ ℕ) (o : Option ℕ) → ls ≡ xs → o ≡ result_ok r
    → IsInOrder (seen h xs) → IsSearchInRange r (length ls) → IsBinarySearchResult (λ (s : Socket T). nat_cmp s.connection n) ls r
    → socket_at o xs ≡ socket_of n xs
searched_place {S} {T} h xs ls n r o same is rises within found =
    let ordered : Rise 0 h.tried (map (λ s. s.connection) xs) = subst (λ ns. Rise 0 h.tried ns) (numbers_of xs) rises in
    subst (λ ys. socket_at o ys ≡ socket_of n ys) same
    (subst (λ p. socket_at p ls ≡ socket_of n ls) (sym is)
    (in_them h.tried ls n r (subst (λ (ys : List (Socket T)). Rise 0 h.tried (map (λ s. s.connection) ys)) (sym same) ordered) within found))

-- 6. Turns

pub moved : {S T : Type 0} (x : Seen S T) (tried : ℕ) (cs : List (Core T)) → x.host.tried ≡ tried → x.sockets ≡ cs
    → Rise 0 tried (map (λ c. c.connection) cs) → IsInOrder x
moved {S} {T} x tried cs is same r = subst (λ k. Rise 0 k (map (λ c. c.connection) x.sockets)) (sym is)
    (subst (λ (ds : List (Core T)). Rise 0 tried (map (λ c. c.connection) ds)) (sym same) r)

module _ {S T : Type 0} (disk : S → Disk) (known : Deed → S → Type 0) (contents remaining : T → Option (List ℕ)) where
  pub move_keeps : (m : Move) (from to : Seen S T) → IsMoved disk known contents remaining m from to → IsInOrder from → IsInOrder to
  move_keeps (Open n) from to h r = ⊎_elim
      (λ none. moved to n from.sockets h.tried none.sockets (rise_up 0 from.host.tried n (map (λ c. c.connection) from.sockets) (omega (arith, h.rises)) r))
      (λ kept. moved to n _ h.tried kept.1.joined.behind (rise_append (λ c. c.connection) 0 from.host.tried from.sockets _ r h.rises))
      h.sockets
  move_keeps (Carry n) from to h r = moved to from.host.tried (slice_set from.sockets h.place (core h.new)) h.tried h.after
      (rise_set (λ c. c.connection) 0 from.host.tried from.sockets h.place (core h.old) (core h.new) r h.before (h.same ∙ sym h.number))
  move_keeps Leave from to h r = moved to from.host.tried _ (ap (λ x. x.tried) h.0) h.1
      (rise_filter (λ c. c.connection) 0 from.host.tried from.sockets (λ c. not c.is_ended) r)
  move_keeps (LeaveAt p) from to h r = moved to from.host.tried (remove from.sockets p) (ap (λ x. x.tried) h.0) h.2
      (rise_remove (λ c. c.connection) 0 from.host.tried from.sockets p r)
  move_keeps Settle from to h r = moved to from.host.tried from.sockets h.tried h.sockets r

  moves_keep : (ms : List Move) (from to : Seen S T) → Along (IsMoved disk known contents remaining) ms from to → IsInOrder from → IsInOrder to
  moves_keep [] from to h r = subst (λ (x : Seen S T). IsInOrder x) (sym h) r
  moves_keep (m ∷ ms) from to h r = moves_keep ms h.0 to h.2 (move_keeps m from h.0 h.1 r)

pub goes_keep : {S T : Type 0} {disk : S → Disk} {known : Deed → S → Type 0} {contents remaining : T → Option (List ℕ)} (from to : Seen S T)
    → GoesWith disk known contents remaining from to → IsInOrder from → IsInOrder to
goes_keep {S} {T} {disk} {known} {contents} {remaining} from to h r = moves_keep disk known contents remaining h.moves from to h.done r

pub turn_keeps : {S T : Type 0} {disk : S → Disk} {known : Deed → S → Type 0} {contents remaining : T → Option (List ℕ)} (now : ℕ) (from to : Seen S T)
    → IsTurn disk known contents remaining now from to → IsInOrder from → IsInOrder to
turn_keeps now from to h r = goes_keep h.begun to h.goes (moved h.begun from.host.tried from.sockets h.tried h.sockets r)

pub nobody_in_order : {S T : Type 0} (x : Seen S T) → x.sockets ≡ [] → IsInOrder x
nobody_in_order {S} {T} x is =
    subst (λ (cs : List (Core T)). Rise 0 x.host.tried (map (λ c. c.connection) cs)) (sym is) (omega arith)
