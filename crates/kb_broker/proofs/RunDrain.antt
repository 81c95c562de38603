-- Taking the output of one connection after another.
use Rattle.std.proofs.Common.{◌≡◌, ◌≢◌, ℕ, zero, suc, ◌<◌, ◌≤◌, List, [], ◌∷◌, ◌++◌, length, take, drop, get_or, eqb, Bool, true, false, cond, Some, refl, sym, ◌∙◌, ap, arith}
use Rattle.std.specs.List.{AllByRecursion}
use Rattle.std.proofs.lemmas.Bool.Decides.{nat_tests}
use Rattle.kb_isolation_spec.specs.Machine.{Line, Sent, sent, each_line, on}
use Rattle.kb_isolation_spec.specs.Machine.{find_line}
use Rattle.kb_isolation_spec.specs.Broker.{BrokerState, Rising}
use Rattle.kb_isolation_spec.specs.Calls.{without_output, output_taken, output_of, output_in}
use Rattle.kb_isolation_spec.specs.Told.{quieted_lines}
use Rattle.kb_broker.proofs.RunEvents.{same_sent}
use Rattle.kb_isolation_spec.proofs.Sets.{IsAt, tail-at, no-at, rising-above, each-on_none}
use Rattle.kb_isolation_spec.proofs.Parts.{eqb_same}

-- the first of them are quiet
abbrev pub quieted_to : ℕ → List Line → List Line
quieted_to i ls = quieted_lines (take i ls) ++ drop i ls

-- the next is as it was
pub quieted-at : (i : ℕ) (ls : List Line) (d : Line) → get_or (quieted_to i ls) i d ≡ get_or ls i d
quieted-at zero [] d = refl
quieted-at (suc i) [] d = refl
quieted-at zero (l ∷ ls) d = refl
quieted-at (suc i) (l ∷ ls) d = quieted-at i ls d

pub quieted-find : (low last i : ℕ) (ls : List Line) (l : Line) → Rising low last ls → IsAt ls i l → find_line l.number (quieted_to i ls) ≡ Some l.session
quieted-find low last i [] l r a = no-at i l a
quieted-find low last zero (k ∷ ls) l r a = let e = a.here in grind (arith, nat_tests, e)
quieted-find low last (suc i) (k ∷ ls) l r a =
    let lt : k.number < l.number = rising-above k.number last ls i l r.1 (tail-at k ls i l a) in
    let ne : eqb k.number l.number ≡ false = grind (arith, nat_tests) in
    let rest = quieted-find k.number last i ls l r.1 (tail-at k ls i l a) in
    rw ne rest

others-above : (low last n : ℕ) (ls : List Line) → Rising low last ls → n ≤ low → AllByRecursion (λ l. l.number ≢ n) ls
others-above low last n [] r h = tt
others-above low last n (l ∷ ls) r h = let lt = r.0 in (omega arith, others-above l.number last n ls r.1 (omega arith))

-- and its output is taken next
pub quieted-more : (low last i : ℕ) (ls : List Line) (l : Line) → Rising low last ls → IsAt ls i l → each_line (on l.number without_output) (quieted_to i ls) ≡ quieted_to (suc i) ls
quieted-more low last i [] l r a = no-at i l a
quieted-more low last zero (k ∷ ls) l r a =
    let n : l.number ≡ k.number = ap (λ (x : Line). x.number) a.here in
    let same : eqb k.number l.number ≡ true = grind (arith, nat_tests) in
    let rest = each-on_none l.number without_output ls (others-above k.number last l.number ls r.1 (omega (arith, n))) in
    rw (same, rest) refl
quieted-more low last (suc i) (k ∷ ls) l r a =
    let lt : k.number < l.number = rising-above k.number last ls i l r.1 (tail-at k ls i l a) in
    let ne : eqb k.number l.number ≡ false = grind (arith, nat_tests) in
    let rest = quieted-more k.number last i ls l r.1 (tail-at k ls i l a) in
    rw (ne, rest) refl

-- the broker after the first of them
abbrev pub drained_to : ℕ → BrokerState → BrokerState
drained_to i b = record b { lines = quieted_to i b.lines }

pub drained-more : (b old : BrokerState) (i n : ℕ) (l : Line) → Rising 0 old.last old.lines → IsAt old.lines i l → n ≡ l.number → b ≡ drained_to i old → output_taken b n ≡ drained_to (suc i) old
drained-more b old i n l r a e f = ap (λ x. output_taken x n) f ∙ (ap (output_taken (drained_to i old)) e ∙ ap (λ ls. let x : BrokerState = record old { lines = ls } in x) (quieted-more 0 old.last i old.lines l r a))

pub drained-at : (b old : BrokerState) (i : ℕ) (l : Line) (ls : List Line) → i < length old.lines → b ≡ drained_to i old → ls ≡ b.lines → l ≡ get_or ls i l → IsAt old.lines i l
drained-at b old i l ls lt f e h = record { within = lt; here = h ∙ (ap (λ x. get_or x i l) (e ∙ ap (λ (x : BrokerState). x.lines) f) ∙ quieted-at i old.lines l) }

pub drained-sent : (b old : BrokerState) (i : ℕ) (l : Line) (w : Sent) → Rising 0 old.last old.lines → IsAt old.lines i l → b ≡ drained_to i old → w.number ≡ l.number → w.bytes ≡ output_of w.number b → w.shut ≡ l.session.shut → w.why ≡ l.session.why → w ≡ sent l
drained-sent b old i l w r a f n o s y =
    same_sent w (sent l) n (o ∙ (ap (λ x. output_of w.number x) f ∙ (ap (λ k. output_of k (drained_to i old)) n ∙ ap output_in (quieted-find 0 old.last i old.lines l r a)))) s y

-- one that has no output is as it was
pub drained-silent : (b old : BrokerState) (i n : ℕ) (l : Line) → Rising 0 old.last old.lines → IsAt old.lines i l → n ≡ l.number → b ≡ drained_to i old → l.session.output ≡ [] → output_of n b ≡ []
drained-silent b old i n l r a e f none = ap (λ x. output_of n x) f ∙ (ap (λ k. output_of k (drained_to i old)) e ∙ (ap output_in (quieted-find 0 old.last i old.lines l r a) ∙ none))

each-silent : (low last n : ℕ) (ls : List Line) → Rising low last ls → output_in (find_line n ls) ≡ [] → each_line (on n without_output) ls ≡ ls
each-silent low last n [] r e = refl
each-silent low last n (l ∷ ls) r e = by (eqb l.number n) refl (each-silent l.number last n ls r.1) e
  where
    by : (b : Bool) → eqb l.number n ≡ b → (output_in (find_line n ls) ≡ [] → each_line (on n without_output) ls ≡ ls) → output_in (cond b (Some l.session) (find_line n ls)) ≡ []
        → (let m : Line = record { number = l.number; session = cond b (without_output l.session) l.session } in m) ∷ each_line (on n without_output) ls ≡ l ∷ ls
    by true same rest none =
        let same_tail = each-on_none n without_output ls (others-above l.number last n ls r.1 (let is = eqb_same l.number n same in omega (arith, is))) in
        ap (λ o. (let m : Line = record { number = l.number; session = record l.session { output = o } } in m) ∷ each_line (on n without_output) ls) (sym none) ∙ ap (λ ks. l ∷ ks) same_tail
    by false other rest none = ap (λ ks. l ∷ ks) (rest none)

pub taken-silent : (b : BrokerState) (n : ℕ) → Rising 0 b.last b.lines → output_of n b ≡ [] → output_taken b n ≡ b
taken-silent b n r none = ap (λ ls. record b { lines = ls }) (each-silent 0 b.last n b.lines r none)
