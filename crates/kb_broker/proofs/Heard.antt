-- Which connections have something to tell, after one of them has changed.
use Rattle.std.proofs.Common.{◌≡◌, ◌++◌, ◌<◌, ◌≤◌, Equal, ℕ, suc, List, [], ◌∷◌, length, get_or, set, Result, Ok, Err, is_ok, Bool, true, false, cond, length-set, length-append, zero, refl, sym, ◌∙◌, ap, subst, arith}
use Rattle.std.specs.List.{remove, insert}
use Rattle.std.specs.List.Sorted.{IsBinarySearchResult, IsNonDecreasingBy}
use Rattle.std.specs.Ordering.{nat_cmp, ordering_index}
use Rattle.std.specs.Prelude.{◌==◌, ◌||◌, not, IsOk}
use Rattle.std.specs.Vec.{vec_capacity}
use Rattle.std.specs.declared.alloc.Global.{Global}
use Rattle.std.specs.declared.vec.Vec.{Vec}
use Rattle.std.proofs.lemmas.Bool.Decides.{nat_tests}
use Rattle.std.proofs.lemmas.Cmp.{ranked}
use Rattle.kb_isolation_spec.specs.Session.{Session}
use Rattle.kb_isolation_spec.specs.Machine.{Line}
use Rattle.kb_isolation_spec.specs.Broker.{Rising}
use Rattle.kb_isolation_spec.proofs.Sets.{IsAt, no-at, tail-at, rising-above}
use Rattle.kb_connection.specs.View.{speaks}
use Rattle.kb_broker.specs.Speakers.{speakers, with_number, Ascends, IsRoomy, IsHeard}

-- 1. The list of them

pub length-speakers : (ls : List Line) → length (speakers ls) ≤ length ls
length-speakers [] = omega arith
length-speakers (l ∷ ls) = by (speaks l.session) refl (length-speakers ls)
  where
    by : (b : Bool) → speaks l.session ≡ b → length (speakers ls) ≤ length ls → length (cond b (l.number ∷ speakers ls) (speakers ls)) ≤ suc (length ls)
    by true e h = omega (arith, h)
    by false e h = omega (arith, h)

ascends-below : (low n : ℕ) (ns : List ℕ) → low ≤ n → Ascends n ns → Ascends low ns
ascends-below low n [] le a = tt
ascends-below low n (m ∷ ms) le a = ((let h = a.0 in omega (arith, h, le)), a.1)

pub speakers-rise : (low last : ℕ) (ls : List Line) → Rising low last ls → Ascends low (speakers ls)
speakers-rise low last [] r = tt
speakers-rise low last (l ∷ ls) r = by (speaks l.session) (speakers-rise l.number last ls r.1)
  where
    by : (b : Bool) → Ascends l.number (speakers ls) → Ascends low (cond b (l.number ∷ speakers ls) (speakers ls))
    by true a = (r.0, a)
    by false a = ascends-below low l.number (speakers ls) (let h = r.0 in omega (arith, h)) a

-- a number that is not above any
in-front : (n low : ℕ) (b : Bool) (ns : List ℕ) → n ≤ low → Ascends low ns → with_number n b ns ≡ cond b (n ∷ ns) ns
in-front n low b [] le a = refl
in-front n low true (m ∷ ms) le a = let h = a.0 in grind (arith, nat_tests, h, le)
in-front n low false (m ∷ ms) le a = let h = a.0 in grind (arith, nat_tests, h, le)

-- the connection at a place is another, of the same number
pub speakers-set : (low last : ℕ) (ls : List Line) (i : ℕ) (l m : Line) → Rising low last ls → IsAt ls i l → m.number ≡ l.number → speakers (set ls i m) ≡ with_number l.number (speaks m.session) (speakers ls)
speakers-set low last [] i l m r at e = no-at i l at
speakers-set low last (k ∷ ls) zero l m r at e =
    let here : l.number ≡ k.number = ap (λ (x : Line). x.number) at.here in
    let front = in-front k.number k.number (speaks m.session) (speakers ls) (omega arith) (speakers-rise k.number last ls r.1) in
    by (speaks k.session) (speaks m.session) here front
  where
    by : (b c : Bool) → l.number ≡ k.number → with_number k.number c (speakers ls) ≡ cond c (k.number ∷ speakers ls) (speakers ls)
        → cond c (m.number ∷ speakers ls) (speakers ls) ≡ with_number l.number c (cond b (k.number ∷ speakers ls) (speakers ls))
    by true true here front = grind (arith, nat_tests, here, e)
    by true false here front = grind (arith, nat_tests, here, e)
    by false true here front = ap (λ n. n ∷ speakers ls) (e ∙ here) ∙ (sym front ∙ ap (λ n. with_number n true (speakers ls)) (sym here))
    by false false here front = sym front ∙ ap (λ n. with_number n false (speakers ls)) (sym here)
speakers-set low last (k ∷ ls) (suc i) l m r at e =
    let lt : k.number < l.number = rising-above k.number last ls i l r.1 (tail-at k ls i l at) in
    by (speaks k.session) lt (speakers-set k.number last ls i l m r.1 (tail-at k ls i l at) e)
  where
    by : (b : Bool) → k.number < l.number → speakers (set ls i m) ≡ with_number l.number (speaks m.session) (speakers ls)
        → cond b (k.number ∷ speakers (set ls i m)) (speakers (set ls i m)) ≡ with_number l.number (speaks m.session) (cond b (k.number ∷ speakers ls) (speakers ls))
    by true lt h = grind (arith, nat_tests, lt, h)
    by false lt h = h

-- the connection at a place goes
pub speakers-removed : (low last : ℕ) (ls : List Line) (i : ℕ) (l : Line) → Rising low last ls → IsAt ls i l → speakers (remove ls i) ≡ with_number l.number false (speakers ls)
speakers-removed low last [] i l r at = no-at i l at
speakers-removed low last (k ∷ ls) zero l r at =
    let here : l.number ≡ k.number = ap (λ (x : Line). x.number) at.here in
    let front = in-front k.number k.number false (speakers ls) (omega arith) (speakers-rise k.number last ls r.1) in
    by (speaks k.session) here front
  where
    by : (b : Bool) → l.number ≡ k.number → with_number k.number false (speakers ls) ≡ speakers ls → speakers ls ≡ with_number l.number false (cond b (k.number ∷ speakers ls) (speakers ls))
    by true here front = grind (arith, nat_tests, here)
    by false here front = sym front ∙ ap (λ n. with_number n false (speakers ls)) (sym here)
speakers-removed low last (k ∷ ls) (suc i) l r at =
    let lt : k.number < l.number = rising-above k.number last ls i l r.1 (tail-at k ls i l at) in
    by (speaks k.session) lt (speakers-removed k.number last ls i l r.1 (tail-at k ls i l at))
  where
    by : (b : Bool) → k.number < l.number → speakers (remove ls i) ≡ with_number l.number false (speakers ls)
        → cond b (k.number ∷ speakers (remove ls i)) (speakers (remove ls i)) ≡ with_number l.number false (cond b (k.number ∷ speakers ls) (speakers ls))
    by true lt h = grind (arith, nat_tests, lt, h)
    by false lt h = h

-- a silent one comes behind the others
pub speakers-added : (ls : List Line) (l : Line) → speaks l.session ≡ false → speakers (ls ++ l ∷ []) ≡ speakers ls
speakers-added [] l e = ap (λ b. cond b (l.number ∷ []) []) e
speakers-added (k ∷ ls) l e = ap (λ ns. cond (speaks k.session) (k.number ∷ ns) ns) (speakers-added ls l e)

-- 2. Where the list is searched

get-above : (low : ℕ) (ns : List ℕ) (i d : ℕ) → Ascends low ns → i < length ns → low < get_or ns i d
get-above low [] i d a lt = absurd (omega (arith, lt))
get-above low (n ∷ ns) zero d a lt = a.0
get-above low (n ∷ ns) (suc i) d a lt = let h = get-above n ns i d a.1 (omega (arith, lt)) in let g = a.0 in omega (arith, g, h)

get-rises : (low : ℕ) (ns : List ℕ) (i j d : ℕ) → Ascends low ns → i ≤ j → j < length ns → get_or ns i d ≤ get_or ns j d
get-rises low [] i j d a le lt = absurd (omega (arith, lt))
get-rises low (n ∷ ns) zero zero d a le lt = omega arith
get-rises low (n ∷ ns) zero (suc j) d a le lt = let h = get-above n ns j d a.1 (omega (arith, lt)) in omega (arith, h)
get-rises low (n ∷ ns) (suc i) zero d a le lt = absurd (omega (arith, le))
get-rises low (n ∷ ns) (suc i) (suc j) d a le lt = get-rises n ns i j d a.1 (omega (arith, le)) (omega (arith, lt))

ranks-rise : (n low : ℕ) (ns : List ℕ) → Ascends low ns → IsNonDecreasingBy (λ m. ordering_index (nat_cmp m n)) ns
ranks-rise n low ns a i j d le lt = let h = get-rises low ns i j d a le lt in grind (arith, nat_tests, h)

-- it stands at a place
there : (n low : ℕ) (ns : List ℕ) (i : ℕ) → Ascends low ns → i < length ns → get_or ns i n ≡ n → (with_number n true ns ≡ ns) × (with_number n false ns ≡ remove ns i)
there n low [] i a lt e = absurd (omega (arith, lt))
there n low (m ∷ ms) zero a lt e = (grind (arith, nat_tests, e), grind (arith, nat_tests, e))
there n low (m ∷ ms) (suc i) a lt e =
    let above = get-above m ms i n a.1 (omega (arith, lt)) in
    let h = there n m ms i a.1 (omega (arith, lt)) e in
    let first = h.0 in
    let second = h.1 in
    (grind (arith, nat_tests, above, e, first), grind (arith, nat_tests, above, e, second))

-- it stands nowhere
pub record IsNew (n : ℕ) (ns : List ℕ) (i : ℕ) : Type 0 where
  pub with : with_number n true ns ≡ insert ns i n
  pub without : with_number n false ns ≡ ns
  pub longer : length (with_number n true ns) ≡ suc (length ns)

nowhere : (n : ℕ) (ns : List ℕ) (i : ℕ) → i ≤ length ns → ((j : ℕ) → j < i → get_or ns j n < n) → ((j : ℕ) → i ≤ j → j < length ns → n < get_or ns j n) → IsNew n ns i
nowhere n [] zero le below above = record { with = refl; without = refl; longer = refl }
nowhere n [] (suc i) le below above = absurd (omega (arith, le))
nowhere n (m ∷ ms) zero le below above = let h = above 0 (omega arith) (omega arith) in record { with = grind (arith, nat_tests, h); without = grind (arith, nat_tests, h); longer = grind (arith, nat_tests, h) }
nowhere n (m ∷ ms) (suc i) le below above =
    let first = below 0 (omega arith) in
    let h = nowhere n ms i (omega (arith, le)) (λ j lt. below (suc j) (omega (arith, lt))) (λ j ge lt. above (suc j) (omega (arith, ge)) (omega (arith, lt))) in
    let one = h.with in
    let two = h.without in
    let three = h.longer in
    record { with = grind (arith, nat_tests, first, one); without = grind (arith, nat_tests, first, two); longer = grind (arith, nat_tests, first, three) }

-- what a binary search finds in it
pub searched-there : (n : ℕ) (ns xs : List ℕ) (i : ℕ) → xs ≡ ns → Ascends 0 ns → i < length xs → ((d : ℕ) → nat_cmp (get_or xs i d) n ≡ Equal) → (with_number n true ns ≡ ns) × (with_number n false ns ≡ remove ns i)
searched-there n ns xs i e a within is = subst (λ ys. (with_number n true ys ≡ ys) × (with_number n false ys ≡ remove ys i)) e (there n 0 xs i (subst (Ascends 0) (sym e) a) within (ranked (get_or xs i n) n _ (sym (is n))))

pub searched-nowhere : (n : ℕ) (ns xs : List ℕ) (i : ℕ) → xs ≡ ns → Ascends 0 ns → i ≤ length xs → IsBinarySearchResult (λ m. nat_cmp m n) xs (Err i) → IsNew n ns i
searched-nowhere n ns xs i e a within is =
    let parts = is (ranks-rise n 0 xs (subst (Ascends 0) (sym e) a)) in
    subst (λ ys. IsNew n ys i) e
    (nowhere n xs i within (λ j lt. ranked (get_or xs j n) n _ (sym (parts.0 j n (omega (arith, lt, within)) lt))) (λ j ge lt. ranked (get_or xs j n) n _ (sym (parts.1 j n ge lt))))

-- and where it is put in there is room for it
pub put-in : {E : Type 0} (n : ℕ) (ns ks : List ℕ) (i len room : ℕ) (r : Result (Unit {0}) E) → IsNew n ns i → len ≡ length ns → length (with_number n true ns) ≤ room → (len < room → IsOk r) → ks ≡ cond (is_ok r) (insert ns i n) ns → ks ≡ with_number n true ns
put-in {E} n ns ks i len room r new same fits done is = let longer = new.longer in by r (done (omega (arith, longer, same, fits))) is
  where
    by : (r : Result (Unit {0}) E) → IsOk r → ks ≡ cond (is_ok r) (insert ns i n) ns → ks ≡ with_number n true ns
    by (Ok x) ok f = f ∙ sym new.with
    by (Err x) ok f = absurd (cc)

-- 3. The broker's list

-- one that has nothing to tell has no output
pub silent-output : (s : Session) → speaks s ≡ false → s.output ≡ []
silent-output s e = by s.output s.shut e
  where
    by : (o : List ℕ) (b : Bool) → (not (length o == 0) || b) ≡ false → o ≡ []
    by [] b e = refl
    by (x ∷ xs) b e = grind (arith, nat_tests, e)

-- ... and is not shut
pub silent-shut : (s : Session) → speaks s ≡ false → s.shut ≡ false
silent-shut s e = by (not (length s.output == 0)) s.shut e
  where
    by : (a b : Bool) → (a || b) ≡ false → b ≡ false
    by false b h = h
    by true b h = absurd (cc)

-- there is room for the connection at a place
pub roomy : (low last : ℕ) (ls : List Line) (i : ℕ) (l m : Line) (ns : Vec ℕ Global) (n : ℕ) (b : Bool) → IsHeard ns ls → Rising low last ls → IsAt ls i l → m.number ≡ l.number → n ≡ l.number → b ≡ speaks m.session → IsRoomy n b ns
roomy low last ls i l m ns n b h r at same number is =
    let list : with_number n b ns.items ≡ speakers (set ls i m) =
    ap (λ k. with_number k b ns.items) number ∙ (ap (λ c. with_number l.number c ns.items) is ∙ (ap (with_number l.number (speaks m.session)) h.numbers ∙ sym (speakers-set low last ls i l m r at same))) in
    let short = length-speakers (set ls i m) in
    let count = ap length list in
    let all = length-set ls i m in
    let room = h.room in
    record {
      rises = subst (Ascends 0) (sym h.numbers) (ascends-below 0 low (speakers ls) (omega arith) (speakers-rise low last ls r));
      room = omega (arith, count, short, all, room);
    }

pub heard-set : (low last : ℕ) (ls : List Line) (i : ℕ) (l m : Line) (ns ks : Vec ℕ Global) (n : ℕ) (b : Bool) → IsHeard ns ls → Rising low last ls → IsAt ls i l → m.number ≡ l.number → n ≡ l.number → b ≡ speaks m.session
    → ks.items ≡ with_number n b ns.items → vec_capacity ns ≤ vec_capacity ks → IsHeard ks (set ls i m)
heard-set low last ls i l m ns ks n b h r at same number is new grown = record {
  numbers = new ∙ (ap (λ k. with_number k b ns.items) number ∙ (ap (λ c. with_number l.number c ns.items) is ∙ (ap (with_number l.number (speaks m.session)) h.numbers ∙ sym (speakers-set low last ls i l m r at same))));
  room = (let all = length-set ls i m in let room = h.room in omega (arith, all, room, grown));
}

length-removed : (ls : List Line) (i : ℕ) (l : Line) → IsAt ls i l → length (remove ls i) ≤ length ls
length-removed [] i l at = no-at i l at
length-removed (k ∷ ls) zero l at = omega arith
length-removed (k ∷ ls) (suc i) l at = let h = length-removed ls i l (tail-at k ls i l at) in omega (arith, h)

pub roomy-removed : (low last : ℕ) (ls : List Line) (i : ℕ) (l : Line) (ns : Vec ℕ Global) (n : ℕ) → IsHeard ns ls → Rising low last ls → IsAt ls i l → n ≡ l.number → IsRoomy n false ns
roomy-removed low last ls i l ns n h r at number =
    let list : with_number n false ns.items ≡ speakers (remove ls i) = ap (λ k. with_number k false ns.items) number ∙ (ap (with_number l.number false) h.numbers ∙ sym (speakers-removed low last ls i l r at)) in
    let short = length-speakers (remove ls i) in
    let count = ap length list in
    let all = length-removed ls i l at in
    let room = h.room in
    record {
      rises = subst (Ascends 0) (sym h.numbers) (ascends-below 0 low (speakers ls) (omega arith) (speakers-rise low last ls r));
      room = omega (arith, count, short, all, room);
    }

pub heard-removed : (low last : ℕ) (ls : List Line) (i : ℕ) (l : Line) (ns ks : Vec ℕ Global) (n : ℕ) → IsHeard ns ls → Rising low last ls → IsAt ls i l → n ≡ l.number
    → ks.items ≡ with_number n false ns.items → vec_capacity ns ≤ vec_capacity ks → IsHeard ks (remove ls i)
heard-removed low last ls i l ns ks n h r at number new grown = record {
  numbers = new ∙ (ap (λ k. with_number k false ns.items) number ∙ (ap (with_number l.number false) h.numbers ∙ sym (speakers-removed low last ls i l r at)));
  room = (let all = length-removed ls i l at in let room = h.room in omega (arith, all, room, grown));
}

-- nobody is there
pub heard-none : (ls : List Line) (ns : Vec ℕ Global) → ls ≡ [] → ns.items ≡ [] → IsHeard ns ls
heard-none ls ns e f = record { numbers = f ∙ ap speakers (sym e); room = (let none = ap length e in omega (arith, none)) }

-- a silent one comes behind the others
pub heard-added : (ls ms : List Line) (l : Line) (ns : Vec ℕ Global) → IsHeard ns ls → speaks l.session ≡ false → ms ≡ ls ++ l ∷ [] → suc (length ls) ≤ vec_capacity ns → IsHeard ns ms
heard-added ls ms l ns h silent is room = record {
  numbers = h.numbers ∙ (sym (speakers-added ls l silent) ∙ ap speakers (sym is));
  room = (let long = length-append ls (l ∷ []) in let e = ap length is in omega (arith, e, long, room));
}
