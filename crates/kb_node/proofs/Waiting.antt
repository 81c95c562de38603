-- The least of some moments, one after another, and turns, one after another.
use Rattle.std.proofs.Common.{◌≡◌, ◌<◌, ◌≤◌, ◌+◌, ◌-◌, ◌++◌, ◌∙◌, if◌then◌else◌, ℕ, List, [], ◌∷◌, zero, suc, min, map, drop, length, nat_eq, slice_index_or, Bool, false, Option, None, Some, Result, IsOk, is_ok, add-one, append_assoc, append-nil, ap, refl, subst, sym, arith}
use Rattle.std.specs.Option.{option_to_list}
use Rattle.std.proofs.lemmas.Bool.Decides.{nat_tests}
use Rattle.kb_shares.specs.Turns.{Lines, after_next, next}
use Rattle.kb_node.specs.declared.lanes.Lanes.{Lanes}
use Rattle.kb_node.specs.declared.socket.Socket.{Socket}
use Rattle.kb_node.specs.Waiting.{behind, least, long_ones, long_turns, room_behind}

least_behind : (f : ℕ → ℕ) (xs : List ℕ) (i a : ℕ) → i < length xs
    → least (min a (f (slice_index_or xs i 0))) (map f (drop (suc i) xs)) ≡ least a (map f (drop i xs))
least_behind f [] i a lt = absurd (omega (arith, lt))
least_behind f (x ∷ xs) zero a lt = refl
least_behind f (x ∷ xs) (suc i) a lt = least_behind f xs i a (omega (arith, lt))

pub least_step : (f : ℕ → ℕ) (xs : List ℕ) (i a : ℕ) → i < length xs
    → least (min a (f (slice_index_or xs i 0))) (map f (drop (i + 1) xs)) ≡ least a (map f (drop i xs))
least_step f xs i a lt =
    subst (λ j. least (min a (f (slice_index_or xs i 0))) (map f (drop j xs)) ≡ least a (map f (drop i xs))) (sym (add-one i)) (least_behind f xs i a lt)

nobody_behind : (n : ℕ) → behind n [] ≡ []
nobody_behind zero = refl
nobody_behind (suc n) = nobody_behind n

-- where nobody is in line the lane stays, however many turns there are
pub behind_nobody : (n : ℕ) (lane : Lines) → length lane ≡ 0 → behind n lane ≡ lane
behind_nobody n [] none = nobody_behind n
behind_nobody n (l ∷ lane) none = absurd (omega (arith, none))

-- one turn, and then those that are left
pub behind_next : (n i : ℕ) (lane : Lines) → i < n → behind (n - (i + 1)) (after_next lane) ≡ behind (n - i) lane
behind_next n i lane lt = ap (λ k. behind k lane) (let it : suc (n - (i + 1)) ≡ n - i = omega (arith, lt) in it)

behind_one_more : (n : ℕ) (lane : Lines) → after_next (behind n lane) ≡ behind (suc n) lane
behind_one_more zero lane = refl
behind_one_more (suc n) lane = behind_one_more n (after_next lane)

-- one more turn of the long lane
pub one_more_turn : (i : ℕ) (first at next : Lanes) → at ≡ record first { long = behind i first.long } → next ≡ record at { long = after_next at.long }
    → next ≡ record first { long = behind (i + 1) first.long }
one_more_turn i first at next was now =
    let step : Lanes → Lanes = λ l. record l { long = after_next l.long } in
    let turned : Lines → Lanes = λ lane. record first { long = lane } in
    let it : suc i ≡ i + 1 = omega arith in
    now ∙ ap step was ∙ ap turned (behind_one_more i first.long ∙ ap (λ k. behind k first.long) it)

-- what is left where nobody is in line, or no turn is left
pub behind_left : (n i : ℕ) (lane all : Lines) → behind (n - i) lane ≡ all → length lane ≡ 0 → lane ≡ all
behind_left n i lane all is none = sym (behind_nobody (n - i) lane none) ∙ is

pub behind_done : (n i : ℕ) (lane all : Lines) → behind (n - i) lane ≡ all → n ≤ i → lane ≡ all
behind_done n i lane all is le = ap (λ k. behind k lane) (let it : 0 ≡ n - i = omega (arith, le) in it) ∙ is

-- 2. Turns of the long lane, while there is room

module _ {T : Type 0} (sockets : List (Socket T)) where
  there_is : (room : ℕ) → 0 < room → nat_eq room 0 ≡ false
  there_is room lt = grind (arith, nat_tests, lt)

  pub none_within : (most : ℕ) (lane : Lines) → long_turns most 0 lane sockets ≡ 0
  none_within zero lane = refl
  none_within (suc most) lane = refl

  pub nobody_within : (most : ℕ) (lane : Lines) → long_ones most 0 lane sockets ≡ []
  nobody_within zero lane = refl
  nobody_within (suc most) lane = refl

  turn_within : (most room : ℕ) (lane : Lines) → 0 < room
      → long_turns (suc most) room lane sockets ≡ suc (long_turns most (room_behind room (next lane) sockets) (after_next lane) sockets)
  turn_within most room lane lt =
      ap (λ b. if b then 0 else suc (long_turns most (room_behind room (next lane) sockets) (after_next lane) sockets)) (there_is room lt)

  one_within : (most room : ℕ) (lane : Lines) → 0 < room → long_ones (suc most) room lane sockets
      ≡ option_to_list (next lane) ++ long_ones most (room_behind room (next lane) sockets) (after_next lane) sockets
  one_within most room lane lt = ap (λ b. if b then [] else option_to_list (next lane)
      ++ long_ones most (room_behind room (next lane) sockets) (after_next lane) sockets) (there_is room lt)

  -- one more turn, of all that there are
  pub turns_step : (most i all room left : ℕ) (lane : Lines) → i < most → 0 < room → left ≡ room_behind room (next lane) sockets
      → all ≡ i + long_turns (most - i) room lane sockets → all ≡ (i + 1) + long_turns (most - (i + 1)) left (after_next lane) sockets
  turns_step most i all room left lane lt some is before =
      let it : most - i ≡ suc (most - (i + 1)) = omega (arith, lt) in
      let more = ap (λ k. long_turns k room lane sockets) it ∙ turn_within (most - (i + 1)) room lane some
      ∙ ap (λ r. suc (long_turns (most - (i + 1)) r (after_next lane) sockets)) (sym is) in
      omega (arith, before, more)

  pub turns_end : (most i all left : ℕ) (lane : Lines) → left ≡ 0 → all ≡ i + long_turns (most - i) left lane sockets → all ≡ i
  turns_end most i all left lane none before =
      let rest = ap (λ r. long_turns (most - i) r lane sockets) none ∙ none_within (most - i) lane in omega (arith, before, rest)

  pub turns_done : (most i all left : ℕ) (lane : Lines) → most ≤ i → all ≡ i + long_turns (most - i) left lane sockets → all ≡ i
  turns_done most i all left lane le before =
      let it : most - i ≡ 0 = omega (arith, le) in
      let rest = ap (λ k. long_turns k left lane sockets) it in omega (arith, before, rest)

  -- and those whose turns they are
  pub ones_step : (most i room left n : ℕ) (lane : Lines) (front all : List ℕ) → i < most → 0 < room → next lane ≡ Some n
      → left ≡ room_behind room (next lane) sockets → all ≡ front ++ long_ones (most - i) room lane sockets
      → all ≡ (front ++ n ∷ []) ++ long_ones (most - (i + 1)) left (after_next lane) sockets
  ones_step most i room left n lane front all lt some who is before =
      let it : most - i ≡ suc (most - (i + 1)) = omega (arith, lt) in
      let rest = long_ones (most - (i + 1)) left (after_next lane) sockets in
      before ∙ ap (λ xs. front ++ xs) (ap (λ k. long_ones k room lane sockets) it ∙ one_within (most - (i + 1)) room lane some
      ∙ ap (λ r. option_to_list (next lane) ++ long_ones (most - (i + 1)) r (after_next lane) sockets) (sym is)
      ∙ ap (λ o. option_to_list o ++ rest) who) ∙ sym (append_assoc front (n ∷ []) rest)

  -- nobody has the turn
  pub ones_left : (most i room : ℕ) (lane : Lines) (front all : List ℕ) → i < most → 0 < room → next lane ≡ None
      → all ≡ front ++ long_ones (most - i) room lane sockets → all ≡ front
  ones_left most i room lane front all lt some who before =
      let it : most - i ≡ suc (most - (i + 1)) = omega (arith, lt) in
      before ∙ ap (λ xs. front ++ xs) (ap (λ k. long_ones k room lane sockets) it ∙ one_within (most - (i + 1)) room lane some
      ∙ ap (λ o. option_to_list o ++ long_ones (most - (i + 1)) (room_behind room o sockets) (after_next lane) sockets) who
      ∙ nobody_within (most - (i + 1)) (after_next lane)) ∙ append-nil front

  pub ones_end : (most i left : ℕ) (lane : Lines) (front all : List ℕ) → left ≡ 0 → all ≡ front ++ long_ones (most - i) left lane sockets
      → all ≡ front
  ones_end most i left lane front all none before = before
      ∙ ap (λ xs. front ++ xs) (ap (λ r. long_ones (most - i) r lane sockets) none ∙ nobody_within (most - i) lane) ∙ append-nil front

  pub ones_done : (most i left : ℕ) (lane : Lines) (front all : List ℕ) → most ≤ i → all ≡ front ++ long_ones (most - i) left lane sockets
      → all ≡ front
  ones_done most i left lane front all le before =
      let it : most - i ≡ 0 = omega (arith, le) in
      before ∙ ap (λ xs. front ++ xs) (ap (λ k. long_ones k left lane sockets) it) ∙ append-nil front

-- a list has one more, where there was room for it
pub pushed : {A E : Type 0} (r : Result A E) (xs old : List ℕ) (n : ℕ) → IsOk r → xs ≡ (if is_ok r then old ++ n ∷ [] else old)
    → xs ≡ old ++ n ∷ []
pushed r xs old n is items = items ∙ ap (λ b. if b then old ++ n ∷ [] else old) is

pub longer : {A E : Type 0} (r : Result A E) (len old : ℕ) → IsOk r → len ≡ (if is_ok r then old + 1 else old) → len ≡ old + 1
longer r len old is it = it ∙ ap (λ b. if b then old + 1 else old) is
