-- What a history says of each tenant, and of the connections' numbers.
use Rattle.std.proofs.Common.{◌≡◌, ℕ, suc, ◌+◌, ◌<◌, ◌≤◌, List, [], ◌∷◌, ◌++◌, length, eqb, Bool, not, refl, sym, ◌∙◌, ap, subst, inl, inr, arith, append_assoc, length-append, drop, get_or, drop-cons}
use Rattle.std.specs.Prelude.{map, cond, count_by}
use Rattle.std.specs.List.{filter}
use Rattle.std.specs.List.Sorted.{IsPermutation}
use Rattle.std.proofs.lemmas.List.{map-append, append-nil, length-map}
use Rattle.std.proofs.lemmas.List.Sums.{sum_by-cons}
use Rattle.std.proofs.lemmas.Simd.{map-map}
use Rattle.std.proofs.lemmas.List.Sorted.{IsPermutation-refl, IsPermutation-trans, IsPermutation-middle, IsPermutation-map, IsPermutation-append_left, IsPermutation-append_right, IsPermutation-filter_both, length_permutation}
use Rattle.kb_isolation_spec.specs.Session.{new_session}
use Rattle.kb_isolation_spec.specs.Machine.{Happening, Opens, Comes, Closes, Moment, Line, Sent, sent, leaving, those_sent, run}
use Rattle.kb_isolation_spec.specs.Owners.{purge}
use Rattle.kb_tenant_state.specs.Counts.{IsCalm}
use Rattle.kb_isolation_spec.specs.Broker.{BrokerState, IsCalmFor, Grows, Mine, Rising, IsEventRun, view_of}
use Rattle.kb_isolation_spec.proofs.Runs.{run-step, those_sent-append, those_sent-map}
use Rattle.kb_isolation_spec.proofs.Parts.{grows-then, calm-first, calm-then}
use Rattle.kb_broker.specs.declared.run.Event.{Event}
use Rattle.kb_broker.specs.declared.run.Event.TheVariants as events
use Rattle.kb_store.specs.Disk.{Disk}
use Rattle.kb_broker.specs.Hosts.{OnStore, is_honest}
use Rattle.kb_broker.specs.Runs.{happening_of, happenings, is_opening, numbers_of_lines, opening, connections_of, Leads, emptied, IsPassed, PassesEvents}
use Rattle.kb_broker.proofs.Once.{once-loud}
use Rattle.kb_broker.proofs.RunOrder.{AreRising, numbered}

-- 1. What a tenant's connections got

grows-emptied : (b : BrokerState) → Grows b (emptied b)
grows-emptied b = record { setup = refl; names = refl; own = λ t. omega arith; unbound = omega arith }

pub grows-passes : (honest : Type 0) (es : List Happening) (old new : BrokerState) (got : List Sent) → honest → PassesEvents honest es old new got → Grows old new
grows-passes honest [] old new got h p = subst (Grows old) (sym p.0) (grows-emptied old)
grows-passes honest (e ∷ es) old new got h p = grows-then old p.0 new (p.3.step h).grows (grows-passes honest es p.0 new p.2 h p.4)

-- where nothing is refused, what ends is what closes
pub ended-leaving : (e : Happening) (old new : BrokerState) (ended : List Sent) → Leads e old new ended → IsCalm old.unbound_refusals new.unbound_refusals → ended ≡ leaving e old.lines
ended-leaving (Opens n) old new ended h q =
    elim h [ inl k ↦ k.1 | inr k ↦ absurd (once-loud old.unbound_refusals new.unbound_refusals k.0.once q) ]
ended-leaving (Comes n piece) old new ended h q = h.1
ended-leaving (Closes n) old new ended h q = h.1
ended-leaving (Moment now) old new ended h q = h.1

pub run-passes : (honest : Type 0) (t : ℕ) (mine : ℕ → Bool) (es : List Happening) (old new : BrokerState) (got : List Sent) → honest → PassesEvents honest es old new got → Mine t mine es old → IsCalmFor t old new → those_sent mine got ≡ run (purge mine es) (view_of t mine old)
run-passes honest t mine [] old new got h p m q = ap (those_sent mine) p.1 ∙ those_sent-map mine old.lines
run-passes honest t mine (e ∷ es) old new got h p m q =
    let next = p.0 in
    let step = p.3.step h in
    let grows = grows-passes honest es next new p.2 h p.4 in
    let left = calm-first t old next new step.grows grows q in
    let right = calm-then t old next new step.grows grows q in
    let later = run-passes honest t mine es next new p.2 h p.4 (step.mine t mine es m left.unbound) right in
    ap (those_sent mine) p.5
    ∙ (those_sent-append mine p.1 p.2
    ∙ (ap (λ ss. those_sent mine ss ++ those_sent mine p.2) (ended-leaving e old next p.1 p.3.leads left.unbound)
    ∙ (ap (λ ss. those_sent mine (leaving e old.lines) ++ ss) later
    ∙ run-step mine e es (view_of t mine old) (view_of t mine next) old.lines refl (step.view t mine es m left))))

-- 2. Each connection ends once

same-permutation : {X : Type 0} (xs ys : List X) → xs ≡ ys → IsPermutation xs ys
same-permutation xs ys e = subst (IsPermutation xs) e (IsPermutation-refl xs)

numbered-sent : (ls : List Line) → numbered (map sent ls) ≡ numbers_of_lines ls
numbered-sent ls = map-map (λ (s : Sent). s.number) sent ls

-- the connections before an event and in it are those that it ends, and those after it
pub numbers-leads : (e : Happening) (es : List Happening) (old new : BrokerState) (ended : List Sent) → Leads e old new ended → IsPermutation (connections_of (e ∷ es) old) (numbered ended ++ connections_of es new)
numbers-leads (Opens n) es old new ended h = elim h [
  | inl k ↦ same-permutation (numbers_of_lines old.lines ++ n ∷ opening es) (numbered ended ++ connections_of es new) (
      sym (append_assoc (numbers_of_lines old.lines) (n ∷ []) (opening es))
      ∙ (ap (λ xs. xs ++ opening es) (sym (map-append (λ (l : Line). l.number) old.lines (record { number = n; session = new_session old.setup.request_bytes } ∷ [])))
      ∙ (ap (connections_of es) (sym k.0) ∙ ap (λ ss. numbered ss ++ connections_of es new) (sym k.1))))
  | inr k ↦ subst (IsPermutation (numbers_of_lines old.lines ++ n ∷ opening es)) (
      ap (λ ls. n ∷ (numbers_of_lines ls ++ opening es)) (sym (ap (λ (b : BrokerState). b.lines) k.0.is))
      ∙ ap (λ ss. numbered ss ++ connections_of es new) (sym k.1)) (IsPermutation-middle (numbers_of_lines old.lines) n (opening es))
]
numbers-leads (Comes n piece) es old new ended h = same-permutation (connections_of es old) (numbered ended ++ connections_of es new) (
    ap (λ xs. xs ++ opening es) (sym h.0) ∙ ap (λ ss. numbered ss ++ connections_of es new) (sym h.1))
numbers-leads (Closes n) es old new ended h =
    let p : Line → Bool = λ l. eqb l.number n in
    let q : Line → Bool = λ l. not (eqb l.number n) in
    let all : numbers_of_lines (filter p old.lines ++ filter q old.lines) ≡ numbered (map sent (filter p old.lines)) ++ numbers_of_lines (filter q old.lines) =
    map-append (λ (l : Line). l.number) (filter p old.lines) (filter q old.lines) ∙ ap (λ xs. xs ++ numbers_of_lines (filter q old.lines)) (sym (numbered-sent (filter p old.lines))) in
    let here = IsPermutation-map (λ (l : Line). l.number) old.lines (filter p old.lines ++ filter q old.lines) (IsPermutation-filter_both p q (λ l. refl) old.lines) in
    subst (IsPermutation (connections_of es old)) (
    ap (λ xs. xs ++ opening es) all
    ∙ (append_assoc (numbered (map sent (filter p old.lines))) (numbers_of_lines (filter q old.lines)) (opening es)
    ∙ (ap (λ b. numbered (map sent (filter p old.lines)) ++ connections_of es b) (sym h.0)
    ∙ ap (λ ss. numbered ss ++ connections_of es new) (sym h.1))))
    (IsPermutation-append_left (opening es) (numbers_of_lines old.lines) (numbers_of_lines (filter p old.lines ++ filter q old.lines)) here)
numbers-leads (Moment now) es old new ended h = same-permutation (connections_of es old) (numbered ended ++ connections_of es new) (
    ap (λ xs. xs ++ opening es) (sym h.0) ∙ ap (λ ss. numbered ss ++ connections_of es new) (sym h.1))

pub numbers-passes : (honest : Type 0) (es : List Happening) (old new : BrokerState) (got : List Sent) → PassesEvents honest es old new got → IsPermutation (connections_of es old) (numbered got)
numbers-passes honest [] old new got p = same-permutation (numbers_of_lines old.lines ++ []) (numbered got) (append-nil (numbers_of_lines old.lines) ∙ (sym (numbered-sent old.lines) ∙ ap numbered (sym p.1)))
numbers-passes honest (e ∷ es) old new got p =
    let next = p.0 in
    IsPermutation-trans (connections_of (e ∷ es) old) (numbered p.1 ++ connections_of es next) (numbered got) (numbers-leads e es old next p.1 p.3.leads)
    (subst (IsPermutation (numbered p.1 ++ connections_of es next)) (sym (ap numbered p.5 ∙ map-append (λ (s : Sent). s.number) p.1 p.2))
    (IsPermutation-append_right (numbered p.1) (connections_of es next) (numbered p.2) (numbers-passes honest es next new p.2 p.4)))

-- their numbers rise

rising-opening : (low last : ℕ) (es : List Happening) → low ≤ last → IsEventRun last es → AreRising low (opening es)
rising-opening low last [] h r = tt
rising-opening low last (Opens n ∷ es) h r = (let lt = r.0 in omega arith, rising-opening n n es (omega arith) r.1)
rising-opening low last (Comes n piece ∷ es) h r = rising-opening low last es h r
rising-opening low last (Closes n ∷ es) h r = rising-opening low last es h r
rising-opening low last (Moment now ∷ es) h r = rising-opening low last es h r.1

rising-lines : (low last : ℕ) (ls : List Line) (es : List Happening) → Rising low last ls → IsEventRun last es → AreRising low (numbers_of_lines ls ++ opening es)
rising-lines low last [] es r run = rising-opening low last es r run
rising-lines low last (l ∷ ls) es r run = (r.0, rising-lines l.number last ls es r.1 run)

pub rising-connections : (es : List Happening) (b : BrokerState) → Rising 0 b.last b.lines → IsEventRun b.last es → AreRising 0 (connections_of es b)
rising-connections es b r run = rising-lines 0 b.last b.lines es r run

-- 3. How many there are

counted : (e : Event) (es : List Event) → count_by is_opening (e ∷ es) ≡ cond (is_opening e) 1 0 + count_by is_opening es
counted e es = sum_by-cons (λ x. cond (is_opening x) 1 0) e es

length-opening : (es : List Event) → length (opening (happenings es)) ≡ count_by is_opening es
length-opening [] = refl
length-opening (events.Open n ∷ es) = let rest = length-opening es in let more = counted (events.Open n) es in omega arith
length-opening (events.In n piece ∷ es) = let rest = length-opening es in let more = counted (events.In n piece) es in omega arith
length-opening (events.Close n ∷ es) = let rest = length-opening es in let more = counted (events.Close n) es in omega arith
length-opening (events.At now ∷ es) = let rest = length-opening es in let more = counted (events.At now) es in omega arith

pub length-connections : (es : List Event) (b : BrokerState) → length (connections_of (happenings es) b) ≡ length b.lines + count_by is_opening es
length-connections es b = length-append (numbers_of_lines b.lines) (opening (happenings es)) ∙ (ap (λ n. n + length (opening (happenings es))) (length-map b.lines (λ (l : Line). l.number)) ∙ ap (λ n. length b.lines + n) (length-opening es))

opening-first : (e : Happening) (es : List Happening) → length (opening (e ∷ [])) ≤ length (opening (e ∷ es))
opening-first (Opens n) es = omega arith
opening-first (Comes n piece) es = omega arith
opening-first (Closes n) es = omega arith
opening-first (Moment now) es = omega arith

pub connections-first : (e : Happening) (es : List Happening) (b : BrokerState) → length (connections_of (e ∷ []) b) ≤ length (connections_of (e ∷ es) b)
connections-first e es b = omega (arith, length-append (numbers_of_lines b.lines) (opening (e ∷ [])), length-append (numbers_of_lines b.lines) (opening (e ∷ es)), opening-first e es)

pub room-leads : (e : Happening) (es : List Happening) (old new : BrokerState) (ended : List Sent) → Leads e old new ended → length ended + length (connections_of es new) ≡ length (connections_of (e ∷ es) old)
room-leads e es old new ended h =
    let p = length_permutation (connections_of (e ∷ es) old) (numbered ended ++ connections_of es new) (numbers-leads e es old new ended h) in
    omega (arith, p, length-append (numbered ended) (connections_of es new), length-map ended (λ (s : Sent). s.number))

-- 4. A history as it goes on

-- with what ended so far, a history of the events that are left is one of all, whatever the store has been at its end
abbrev pub Continues : {S : Type 0} → (S → Disk) → List Happening → List Happening → OnStore S → OnStore S → List Sent → Type 0
Continues {S = S} disk all left first now ended =
    (last : S) → ((disk last).honest → is_honest disk now) → (new : BrokerState) (got : List Sent)
    → PassesEvents (disk last).honest left now.state new got → PassesEvents (disk last).honest all first.state new (ended ++ got)

pub passed-weaker : (honest later : Type 0) (e : Happening) (old new : BrokerState) (ended : List Sent) → (later → honest) → IsPassed honest e old new ended → IsPassed later e old new ended
passed-weaker honest later e old new ended h p = record { step = λ k. p.step (h k); spoken = λ k. p.spoken (h k); ready = λ k. p.ready (h k); leads = p.leads }

pub continues-next : {S : Type 0} (disk : S → Disk) (all left : List Happening) (e : Happening) (first now next : OnStore S) (before ended after : List Sent)
    → (is_honest disk next → is_honest disk now) → after ≡ before ++ ended → IsPassed (is_honest disk next) e now.state next.state ended
    → Continues disk all (e ∷ left) first now before → Continues disk all left first next after
continues-next disk all left e first now next before ended after later is passed c = λ last honest new got p.
    let truthful = (disk last).honest in
    let here : PassesEvents truthful (e ∷ left) now.state new (ended ++ got) = (next.state, ended, got, passed-weaker (is_honest disk next) truthful e now.state next.state ended honest passed, p, refl) in
    subst (PassesEvents truthful all first.state new) (sym (ap (λ ss. ss ++ got) is ∙ append_assoc before ended got)) (c last (λ h. later (honest h)) new (ended ++ got) here)

-- the events that are left, by the next of them
pub happenings-next : (all : List Event) (i : ℕ) (e : Event) → i < length all → e ≡ get_or all i e → happenings (drop i all) ≡ happening_of e ∷ happenings (drop (suc i) all)
happenings-next all i e lt h = ap happenings (drop-cons all i e lt) ∙ ap (λ x. happening_of x ∷ happenings (drop (suc i) all)) (sym h)
