-- How a line is taken: where it ends, and when it is too long.
use Rattle.std.proofs.Common.{◌≡◌, ◌≢◌, ℕ, ◌+◌, ◌-◌, ◌<◌, ◌≤◌, ◌==◌, ◌&&◌, min, Bool, true, false, cond, nat_lt, nat_le, List, [], ◌∷◌, ◌++◌, All, length, take, get_or, refl, ap, ◌∙◌, arith, Option, Some, None, IfSome, append-nil, length-append, length-take}
use Rattle.std.proofs.lemmas.Grind.{common_steps}
use Rattle.std.proofs.lemmas.List.Elements.{All-append}
use Rattle.std.proofs.lemmas.List.Sums.{fails_before_first}
use Rattle.std.specs.List.{position_or_len}
use Rattle.std.specs.Io.BufRead.{take_through, strip_last, ends_with_byte}
use Rattle.std.specs.Io.KnownBytes.{Consumes}
use Rattle.std.proofs.KnownBytes.{Consumes-trans}
use Rattle.std.proofs.BufReadLemmas.{take_through-append, take_through-nil}
use Rattle.kb_broker.specs.declared.script.ScriptFault.{ScriptFault}
use Rattle.kb_broker.specs.declared.script.ScriptFault.TheVariants as faults
use Rattle.kb_broker.specs.Script.{LONGEST_LINE, fault_within, IsLengthFault, IsNoRoom}
use Rattle.kb_broker.specs.ScriptRun.{IsCut}

abbrev NoFeed : List ℕ → Type 0
NoFeed xs = All (λ x. x ≢ 10) xs

pub none-before : (xs : List ℕ) (n : ℕ) → n ≤ position_or_len (λ c. c == 10) xs → NoFeed (take n xs)
none-before xs n le k d lt e =
    let fails : (get_or xs k d == 10) ≡ false = fails_before_first (λ c. c == 10) xs k d (omega (arith, length-take n xs)) in
    let is : get_or xs k d ≡ 10 = grind (arith, common_steps) in
    grind (arith, common_steps)

strip_by : (b : Bool) (xs : List ℕ) → length xs ≤ length (cond b (take (length xs - 1) xs) xs) + 1
strip_by true xs = omega (arith, length-take (length xs - 1) xs)
strip_by false xs = omega arith

strip-most : (xs : List ℕ) → length xs ≤ length (strip_last 10 xs) + 1
strip-most xs = strip_by (ends_with_byte 10 xs) xs

strip_le_by : (b : Bool) (xs : List ℕ) → length (cond b (take (length xs - 1) xs) xs) ≤ length xs
strip_le_by true xs = omega (arith, length-take (length xs - 1) xs)
strip_le_by false xs = omega arith

strip-le : (xs : List ℕ) → length (strip_last 10 xs) ≤ length xs
strip-le xs = strip_le_by (ends_with_byte 10 xs) xs

no-end : (xs : List ℕ) → NoFeed xs → ends_with_byte 10 xs ≡ false
no-end [] none = refl
no-end (x ∷ xs) none =
    let last : get_or (x ∷ xs) (length (x ∷ xs) - 1) 0 ≢ 10 = none (length (x ∷ xs) - 1) 0 (omega arith) in
    grind (arith, common_steps)

strip-none : (xs : List ℕ) → NoFeed xs → strip_last 10 xs ≡ xs
strip-none xs none = rw (no-end xs none) refl

strip-longer : (p t : List ℕ) → NoFeed p → length p ≤ length (strip_last 10 (p ++ t))
strip-longer p [] none = rw (append-nil p, strip-none p none) (omega arith)
strip-longer p (x ∷ xs) none = omega (arith, strip-most (p ++ x ∷ xs), length-append p (x ∷ xs))

fault_by : (number room : ℕ) (line : List ℕ) (a b d : Bool) → nat_lt LONGEST_LINE (length (strip_last 10 line)) ≡ a → nat_le (LONGEST_LINE + 1) room ≡ b → nat_le (length line) room ≡ d
    → fault_within number room line ≡ cond (a && b) (Some (faults.BadLine number)) (cond d None (Some faults.TooLong))
fault_by number room line a b d p q r = rw (p, q, r) refl

lt-true : (a b : ℕ) → a < b → nat_lt a b ≡ true
lt-true a b h = grind (arith, common_steps)

lt-false : (a b : ℕ) → b ≤ a → nat_lt a b ≡ false
lt-false a b h = grind (arith, common_steps)

le-true : (a b : ℕ) → a ≤ b → nat_le a b ≡ true
le-true a b h = grind (arith, common_steps)

le-false : (a b : ℕ) → b < a → nat_le a b ≡ false
le-false a b h = grind (arith, common_steps)

and_false : (a : Bool) → a && false ≡ false
and_false true = refl
and_false false = refl

-- a line whose first byte past the longest line is still taken
pub over-line : (number room : ℕ) (done ys : List ℕ) → NoFeed done → length done ≡ LONGEST_LINE + 1 → LONGEST_LINE < room → fault_within number room (take_through 10 (done ++ ys)) ≡ Some (faults.BadLine number)
over-line number room done ys none full lt =
    let line : List ℕ = take_through 10 (done ++ ys) in
    let is : line ≡ done ++ take_through 10 ys = take_through-append 10 done ys none in
    let long : length done ≤ length (strip_last 10 line) = rw is (strip-longer done (take_through 10 ys) none) in
    fault_by number room line true true (nat_le (length line) room) (lt-true _ _ (omega arith)) (le-true _ _ (omega arith)) refl

-- a line that needs a byte more than is taken
pub over-room : (number room : ℕ) (done ys : List ℕ) → NoFeed done → room ≤ LONGEST_LINE → room ≤ length done → ys ≢ [] → fault_within number room (take_through 10 (done ++ ys)) ≡ Some faults.TooLong
over-room number room done ys none short full some =
    let line : List ℕ = take_through 10 (done ++ ys) in
    let is : line ≡ done ++ take_through 10 ys = take_through-append 10 done ys none in
    let more : length line ≡ length done + length (take_through 10 ys) = ap length is ∙ length-append done (take_through 10 ys) in
    let left : length (take_through 10 ys) ≢ 0 = λ e. some (take_through-nil 10 ys e) in
    let a : Bool = nat_lt LONGEST_LINE (length (strip_last 10 line)) in
    fault_by number room line a false false refl (le-false _ _ (omega arith)) (le-false _ _ (omega arith)) ∙ ap (λ b. cond b (Some (faults.BadLine number)) (Some faults.TooLong)) (and_false a)

-- a line that was taken
pub in-length : (number room : ℕ) (line : List ℕ) → length (strip_last 10 line) ≤ LONGEST_LINE → length line ≤ room → fault_within number room line ≡ None
in-length number room line short fits = fault_by number room line false (nat_le (LONGEST_LINE + 1) room) true (lt-false _ _ short) refl (le-true _ _ fits)

ends : (xs : List ℕ) → 0 < length xs → get_or xs (length xs - 1) 0 ≡ 10 → ends_with_byte 10 xs ≡ true
ends xs some e = grind (arith, common_steps)

strip-ended : (xs : List ℕ) → 0 < length xs → get_or xs (length xs - 1) 0 ≡ 10 → length (strip_last 10 xs) + 1 ≡ length xs
strip-ended xs some e = rw (ends xs some e) (omega (arith, length-take (length xs - 1) xs))

last-part : (old : List ℕ) (x : ℕ) (xs : List ℕ) → get_or (old ++ x ∷ xs) (length (old ++ x ∷ xs) - 1) 0 ≡ get_or (x ∷ xs) (length (x ∷ xs) - 1) 0
last-part old x xs = grind (arith, common_steps)

pub sized : (number room : ℕ) (old part : List ℕ) → length old ≤ LONGEST_LINE → length (old ++ part) ≤ LONGEST_LINE + 1 → length (old ++ part) ≤ room → (0 < length part → get_or part (length part - 1) 0 ≡ 10)
    → fault_within number room (old ++ part) ≡ None
sized number room old [] short limit fits end = in-length number room (old ++ []) (omega (arith, strip-le (old ++ []), ap length (append-nil old))) fits
sized number room old (x ∷ xs) short limit fits end =
    let line : List ℕ = old ++ x ∷ xs in
    let some : 0 < length line = omega (arith, length-append old (x ∷ xs)) in
    let last : get_or line (length line - 1) 0 ≡ 10 = last-part old x xs ∙ end (omega arith) in
    in-length number room line (omega (arith, strip-ended line some last)) fits

pub bad-line : (a b : Option (List ℕ)) (done : List ℕ) (number room : ℕ) → Consumes a b done → NoFeed done → length done ≡ LONGEST_LINE + 1 → LONGEST_LINE < room
    → IfSome a (λ xs. fault_within number room (take_through 10 xs) ≡ Some (faults.BadLine number))
bad-line None b done number room taken none full lt = tt
bad-line (Some xs) None done number room taken none full lt = absurd taken
bad-line (Some xs) (Some ys) done number room taken none full lt = rw taken (over-line number room done ys none full lt)

fault-at : (xs ys done : List ℕ) (number room left : ℕ) (fault : ScriptFault) → xs ≡ done ++ ys → NoFeed done → length done ≤ LONGEST_LINE → length done ≤ room → left ≡ min room (LONGEST_LINE + 1) - length done
    → IsNoRoom left ys fault → IsLengthFault (fault_within number room (take_through 10 xs)) fault
fault-at xs ys done number room left (faults.BadLine k) taken none short fits is says = absurd says
fault-at xs ys done number room left faults.TooLong taken none short fits is says = rw taken (over-room number room done ys none (omega (arith, says.0)) (omega (arith, says.0)) says.1)
fault-at xs ys done number room left faults.Read taken none short fits is says = tt
fault-at xs ys done number room left faults.Write taken none short fits is says = absurd says
fault-at xs ys done number room left faults.Memory taken none short fits is says = tt

pub line-fault : (a b : Option (List ℕ)) (done : List ℕ) (number room left : ℕ) (fault : ScriptFault) → Consumes a b done → NoFeed done → length done ≤ LONGEST_LINE → length done ≤ room → left ≡ min room (LONGEST_LINE + 1) - length done
    → IfSome b (λ ys. IsNoRoom left ys fault) → IfSome a (λ xs. IsLengthFault (fault_within number room (take_through 10 xs)) fault)
line-fault None b done number room left fault taken none short fits is says = tt
line-fault (Some xs) None done number room left fault taken none short fits is says = absurd taken
line-fault (Some xs) (Some ys) done number room left fault taken none short fits is says = fault-at xs ys done number room left fault taken none short fits is says

-- what was taken of a line that was not taken to its end
pub cut-more : (a b c : Option (List ℕ)) (old part : List ℕ) → Consumes a b old → NoFeed old → Consumes b c part → NoFeed part → IsCut a c
cut-more a b c old part taken none more rest = (old ++ part, All-append (λ x. x ≢ 10) old part none rest, Consumes-trans a b c old part taken more)
