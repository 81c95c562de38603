-- Whether a connection is one of those that have something to tell.
use Rattle.std.proofs.Common.{◌≡◌, ◌≢◌, ◌<◌, ◌≤◌, ◌==◌, ◌||◌, not, Option, ℕ, zero, suc, List, [], ◌∷◌, length, get_or, Result, Ok, Err, is_ok, Bool, true, false, cond, eqb, ltb, Some, refl, sym, ◌∙◌, ap, subst, arith}
use Rattle.std.proofs.lemmas.Bool.Decides.{nat_tests}
use Rattle.std.proofs.lemmas.List.Sorted.{searched}
use Rattle.std.specs.List.Sorted.{IsBinarySearchResult}
use Rattle.std.specs.Ordering.{nat_cmp}
use Rattle.kb_isolation_spec.specs.Broker.{BrokerState, Rising}
use Rattle.kb_isolation_spec.specs.Calls.{output_in, shut_in}
use Rattle.kb_isolation_spec.specs.Machine.{Line, find_line}
use Rattle.kb_isolation_spec.specs.Session.{Session}
use Rattle.kb_broker.specs.Speakers.{Ascends, speakers}
use Rattle.kb_broker.proofs.Heard.{speakers-rise}
use Rattle.kb_node.specs.Sockets.{speaks_of}

abbrev speaks_in : Option Session → Bool
speaks_in o = not (length (output_in o) == 0) || shut_in o

abbrev speaks : Session → Bool
speaks s = not (length s.output == 0) || s.shut

get_above : (low : ℕ) (ns : List ℕ) (i : ℕ) → Ascends low ns → i < length ns → low < get_or ns i 0
get_above low [] i a lt = absurd (omega (arith, lt))
get_above low (n ∷ ns) zero a lt = a.0
get_above low (n ∷ ns) (suc i) a lt = let h = get_above n ns i a.1 (omega (arith, lt)) in let g = a.0 in omega (arith, g, h)

get_rises : (low : ℕ) (ns : List ℕ) → Ascends low ns → (i j : ℕ) → i ≤ j → j < length ns → get_or ns i 0 ≤ get_or ns j 0
get_rises low [] a i j le lt = absurd (omega (arith, lt))
get_rises low (n ∷ ns) a zero zero le lt = omega arith
get_rises low (n ∷ ns) a zero (suc j) le lt = let h = get_above n ns j a.1 (omega (arith, lt)) in omega (arith, h)
get_rises low (n ∷ ns) a (suc i) zero le lt = absurd (omega (arith, le))
get_rises low (n ∷ ns) a (suc i) (suc j) le lt = get_rises n ns a.1 i j (omega (arith, le)) (omega (arith, lt))

found_here : (n : ℕ) (l : Line) (ls : List Line) → l.number ≡ n → speaks_in (find_line n (l ∷ ls)) ≡ speaks l.session
found_here n l ls e = by (eqb l.number n) (grind (arith, nat_tests, e))
  where
    by : (b : Bool) → b ≡ true → speaks_in (cond b (Some l.session) (find_line n ls)) ≡ speaks l.session
    by true h = refl
    by false h = absurd (let no : false ≡ true = h in cc)

found_later : (n : ℕ) (l : Line) (ls : List Line) → l.number ≢ n → speaks_in (find_line n (l ∷ ls)) ≡ speaks_in (find_line n ls)
found_later n l ls ne = by (eqb l.number n) (grind (arith, nat_tests, ne))
  where
    by : (b : Bool) → b ≡ false → speaks_in (cond b (Some l.session) (find_line n ls)) ≡ speaks_in (find_line n ls)
    by false h = refl
    by true h = absurd (let no : true ≡ false = h in cc)

-- one that is among them has something to tell
there : (n low last : ℕ) (ls : List Line) (i : ℕ) → Rising low last ls → i < length (speakers ls) → get_or (speakers ls) i 0 ≡ n
    → (low < n) × (speaks_in (find_line n ls) ≡ true)
there n low last [] i r lt e = absurd (omega (arith, lt))
there n low last (l ∷ ls) i r lt e = by (speaks l.session) refl i lt e (λ j within is. there n l.number last ls j r.1 within is)
  where
    Later : Type 0
    Later = (j : ℕ) → j < length (speakers ls) → get_or (speakers ls) j 0 ≡ n → (l.number < n) × (speaks_in (find_line n ls) ≡ true)

    later : Later → (j : ℕ) → j < length (speakers ls) → get_or (speakers ls) j 0 ≡ n → (low < n) × (speaks_in (find_line n (l ∷ ls)) ≡ true)
    later next j within is =
        let h = next j within is in let up = h.0 in let first = r.0 in
        (omega (arith, up, first), found_later n l ls (λ same. omega (arith, up, same)) ∙ h.1)

    by : (b : Bool) → speaks l.session ≡ b → (j : ℕ) → j < length (cond b (l.number ∷ speakers ls) (speakers ls))
        → get_or (cond b (l.number ∷ speakers ls) (speakers ls)) j 0 ≡ n → Later
        → (low < n) × (speaks_in (find_line n (l ∷ ls)) ≡ true)
    by true told zero within is next = let first = r.0 in (omega (arith, first, is), found_here n l ls is ∙ told)
    by true told (suc j) within is next = later next j (omega (arith, within)) is
    by false told j within is next = later next j within is

-- one that is not has nothing to tell
nowhere : (n : ℕ) (ls : List Line) → ((i : ℕ) → i < length (speakers ls) → get_or (speakers ls) i 0 ≢ n) → speaks_in (find_line n ls) ≡ false
nowhere n [] none = refl
nowhere n (l ∷ ls) none = by (speaks l.session) refl (eqb l.number n) refl none (nowhere n ls)
  where
    by : (b : Bool) → speaks l.session ≡ b → (e : Bool) → eqb l.number n ≡ e
        → ((i : ℕ) → i < length (cond b (l.number ∷ speakers ls) (speakers ls)) → get_or (cond b (l.number ∷ speakers ls) (speakers ls)) i 0 ≢ n)
        → (((i : ℕ) → i < length (speakers ls) → get_or (speakers ls) i 0 ≢ n) → speaks_in (find_line n ls) ≡ false)
        → speaks_in (cond e (Some l.session) (find_line n ls)) ≡ false
    by true told true is out later = absurd (out 0 (omega arith) (grind (arith, nat_tests, is)))
    by false told true is out later = told
    by true told false is out later = later (λ i lt. out (suc i) (omega (arith, lt)))
    by false told false is out later = later out

pub speaks_found : (n : ℕ) (b : BrokerState) (xs : List ℕ) (r : Result ℕ ℕ) → xs ≡ speakers b.lines → Rising 0 b.last b.lines
    → IsBinarySearchResult (λ y. nat_cmp y n) xs r → is_ok r ≡ speaks_of n b
speaks_found n b xs r same rises is = subst
    (λ ys. IsBinarySearchResult (λ y. nat_cmp y n) ys r → is_ok r ≡ speaks_of n b) (sym same) (λ at. by r at) is
  where
    up : (i j : ℕ) → i ≤ j → j < length (speakers b.lines) → get_or (speakers b.lines) i 0 ≤ get_or (speakers b.lines) j 0
    up = get_rises 0 (speakers b.lines) (speakers-rise 0 b.last b.lines rises)

    none : (i : ℕ) → ((k : ℕ) → k < i → get_or (speakers b.lines) k 0 < n)
        → ((k : ℕ) → i ≤ k → k < length (speakers b.lines) → n < get_or (speakers b.lines) k 0)
        → (k : ℕ) → k < length (speakers b.lines) → get_or (speakers b.lines) k 0 ≢ n
    none i below above k lt e = side (ltb k i) refl
      where
        side : (f : Bool) → ltb k i ≡ f → ⊥
        side true is = let low = below k (grind (arith, nat_tests, is)) in omega (arith, low, e)
        side false is = let high = above k (grind (arith, nat_tests, is)) lt in omega (arith, high, e)

    by : (s : Result ℕ ℕ) → IsBinarySearchResult (λ y. nat_cmp y n) (speakers b.lines) s → is_ok s ≡ speaks_of n b
    by (Ok i) at = let h = searched (speakers b.lines) n (Ok i) at up in sym (there n 0 b.last b.lines i rises h.0 h.1).1
    by (Err i) at = let h = searched (speakers b.lines) n (Err i) at up in sym (nowhere n b.lines (none i h.1 h.2))
