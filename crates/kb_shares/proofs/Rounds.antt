-- After how many turns a holder is next.
use Rattle.std.proofs.Common.{◌≡◌, ◌+◌, ◌++◌, ◌==◌, ℕ, Bool, true, false, arith, List, [], ◌∷◌, zero, suc, refl, ap, subst, ◌∙◌, map, length, slice_get, drop, nat_lt, if◌then◌else◌, Some}
use Rattle.std.proofs.lemmas.List.{map-append}
use Rattle.kb_shares.specs.Turns.{Lines, Step, Join, Next, holders_of, has_line, enqueued, after_next, after_steps, turns_in}
use Rattle.kb_shares.proofs.Lines.{line, longer}

get_on : (xs ys : List ℕ) (i h : ℕ) → slice_get xs i ≡ Some h → slice_get (xs ++ ys) i ≡ Some h
get_on [] ys i h is = grind (arith, is)
get_on (x ∷ xs) ys zero h is = is
get_on (x ∷ xs) ys (suc i) h is = get_on xs ys i h is

-- a member that joins a line changes no holder
whose_longer : (h m : ℕ) (lines : Lines) → holders_of (map (longer h m) lines) ≡ holders_of lines
whose_longer h m [] = refl
whose_longer h m (l ∷ lines) = one (l.0 == h) (whose_longer h m lines)
  where
    one : (b : Bool) → holders_of (map (longer h m) lines) ≡ holders_of lines
        → (if b then line l.0 (l.1 ++ m ∷ []) else l).0 ∷ holders_of (map (longer h m) lines) ≡ holders_of (l ∷ lines)
    one true rest = ap (λ (ks : List ℕ). l.0 ∷ ks) rest
    one false rest = ap (λ (ks : List ℕ). l.0 ∷ ks) rest

after_join : (h m : ℕ) (lines : Lines) (i g : ℕ) → slice_get (holders_of lines) i ≡ Some g → slice_get (holders_of (enqueued h m lines)) i ≡ Some g
after_join h m lines i g is = one (has_line h lines)
  where
    one : (b : Bool) → slice_get (holders_of (if b then map (longer h m) lines else lines ++ line h (m ∷ []) ∷ [])) i ≡ Some g
    one true = ap (λ (ks : List ℕ). slice_get ks i) (whose_longer h m lines) ∙ is
    one false = ap (λ (ks : List ℕ). slice_get ks i) (map-append (λ (l : ℕ × List ℕ). l.0) lines (line h (m ∷ []) ∷ [])) ∙ get_on (holders_of lines) (h ∷ []) i g is

after_turn : (lines : Lines) (i g : ℕ) → slice_get (holders_of lines) (suc i) ≡ Some g → slice_get (holders_of (after_next lines)) i ≡ Some g
after_turn [] i g is = grind (arith, is)
after_turn (l ∷ lines) i g is =
    let rest : Lines = if nat_lt 1 (length l.1) then line l.0 (drop 1 l.1) ∷ [] else [] in
    ap (λ (ks : List ℕ). slice_get ks i) (map-append (λ (x : ℕ × List ℕ). x.0) lines rest) ∙ get_on (holders_of lines) (holders_of rest) i g is

pub not_passed : (steps : List Step) (lines : Lines) (k h : ℕ) → slice_get (holders_of lines) (turns_in steps + k) ≡ Some h → slice_get (holders_of (after_steps steps lines)) k ≡ Some h
not_passed [] lines k h is = subst (λ (i : ℕ). slice_get (holders_of lines) i ≡ Some h) (omega arith) is
not_passed (Join g m ∷ steps) lines k h is = not_passed steps (enqueued g m lines) k h (after_join g m lines (turns_in steps + k) h is)
not_passed (Next ∷ steps) lines k h is =
    not_passed steps (after_next lines) k h (after_turn lines (turns_in steps + k) h (subst (λ (i : ℕ). slice_get (holders_of lines) i ≡ Some h) (omega arith) is))

pub last_behind : (l : ℕ × List ℕ) (lines : Lines) → nat_lt 1 (length l.1) ≡ true → holders_of (after_next (l ∷ lines)) ≡ holders_of lines ++ l.0 ∷ []
last_behind l lines more =
    ap (λ (b : Bool). holders_of (lines ++ (if b then line l.0 (drop 1 l.1) ∷ [] else []))) more
    ∙ map-append (λ (x : ℕ × List ℕ). x.0) lines (line l.0 (drop 1 l.1) ∷ [])
