-- In a run of deeds each connection of a tenant gets what the machine of that tenant alone writes to it.
use Rattle.std.proofs.Common.{◌≡◌, ◌≢◌, ◌<◌, ◌≤◌, ◌⊎◌, inl, inr, ℕ, Bool, true, false, cond, eqb, nat_lt, not, List, [], ◌∷◌, ◌++◌, map, length, refl, sym, ap, ◌∙◌, subst, Option, Some, None, arith, append_assoc, append-nil}
use Rattle.std.specs.List.{AllByRecursion}
use Rattle.std.proofs.lemmas.Bool.Decides.{nat_tests}
use Rattle.kb_store.specs.Disk.{Disk}
use Rattle.kb_isolation_spec.specs.Session.{Session, new_session}
use Rattle.kb_isolation_spec.specs.Greeting.{Setup}
use Rattle.kb_isolation_spec.specs.Machine.{Happening, Opens, Comes, Closes, Moment, Line, Sent, View, each_line, find_line, leaving, on, run, sent, stepped, those, those_sent}
use Rattle.kb_isolation_spec.specs.Owners.{Pairwise, concerns, greeted_so_far, destiny, purge}
use Rattle.kb_isolation_spec.specs.Broker.{AnyWait, BrokerState, Grows, IsCalmFor, IsEventRun, IsReady, IsStep, Mine, Rising, last_after, only, owned_by, view_of}
use Rattle.kb_isolation_spec.specs.Calls.{closed, is_open, open_in, opened, other_than, output_in, output_of, output_taken, without_output}
use Rattle.kb_isolation_spec.proofs.Laws.{none-those, those-each}
use Rattle.kb_isolation_spec.proofs.Leaving.{find-those}
use Rattle.kb_isolation_spec.proofs.Owned.{calm-nobody, found, not-found, owned-mine, run-after, run-lower, unowned-mine}
use Rattle.kb_isolation_spec.proofs.Owners.{SameFate, owns-fates, those-on_other}
use Rattle.kb_isolation_spec.proofs.Parts.{calm-first, calm-then, grows-same, grows-then}
use Rattle.kb_isolation_spec.proofs.Runs.{run-step, those_sent-append}
use Rattle.kb_isolation_spec.proofs.Wakes.{unready-view}
use Rattle.kb_broker.specs.Hosts.{OnStore, is_honest}
use Rattle.kb_broker.specs.Runs.{Leads, numbers_of_lines}
use Rattle.kb_broker.specs.Truth.{ActsOn, IsSettled, Own, own_of}
use Rattle.kb_node.specs.Traffic.{Along, AreDone, Commit, Deed, Event, Fail, IsDone, Take, events_of}
use Rattle.kb_node.specs.Got.{AreIsolated, GoAlone, HasGot, MayDo, is_own, own_deeds, taken_of}
use Rattle.kb_node.proofs.PutBack.{IsNew, all_back, back-destiny, back-heard, back-stepped, put_back, view_back}

-- 1. What deeds are on an honest store

abbrev IsMade : Deed → BrokerState → BrokerState → Type 0
IsMade (Event e) x y = IsStep e x y × ((ended : List Sent) × Leads e x y ended)
IsMade (Take n bytes) x y = (y ≡ output_taken x n) × (bytes ≡ output_of n x)
IsMade Commit x y = y ≡ x
IsMade Fail x y = y ≡ x

honest_one : {S : Type 0} (disk : S → Disk) (known : Deed → S → Type 0) (d : Deed) (a b : OnStore S) → IsDone disk known d a b → is_honest disk b → is_honest disk a
honest_one disk known (Event e) a b h honest = h.honest honest
honest_one disk known (Take n bytes) a b h honest = subst (λ s. (disk s).honest) (ap (λ x. x.store) h.0) honest
honest_one disk known Commit a b h honest = h.0.honest honest
honest_one disk known Fail a b h honest = h.0.honest honest

honest_all : {S : Type 0} (disk : S → Disk) (known : Deed → S → Type 0) (ds : List Deed) (a b : OnStore S) → AreDone disk known ds a b → is_honest disk b → is_honest disk a
honest_all disk known [] a b h honest = subst (is_honest disk) h honest
honest_all disk known (d ∷ ds) a b h honest = honest_one disk known d a h.0 h.1 (honest_all disk known ds h.0 b h.2 honest)

made_one : {S : Type 0} (disk : S → Disk) (known : Deed → S → Type 0) (d : Deed) (a b : OnStore S) → IsDone disk known d a b → is_honest disk b → IsMade d a.state b.state
made_one disk known (Event e) a b h honest = (h.step honest, h.leads)
made_one disk known (Take n bytes) a b h honest = (ap (λ x. x.state) h.0, h.1)
made_one disk known Commit a b h honest = h.0.state honest
made_one disk known Fail a b h honest = h.0.state honest

made_all : {S : Type 0} (disk : S → Disk) (known : Deed → S → Type 0) (ds : List Deed) (a b : OnStore S) → AreDone disk known ds a b → is_honest disk b → Along IsMade ds a.state b.state
made_all disk known [] a b h honest = ap (λ x. x.state) h
made_all disk known (d ∷ ds) a b h honest =
    (h.0.state, made_one disk known d a h.0 h.1 (honest_all disk known ds h.0 b h.2 honest), made_all disk known ds h.0 b h.2 honest)

grows_taken : (x : BrokerState) (k : ℕ) → Grows x (output_taken x k)
grows_taken x k = record { setup = refl; names = refl; own = λ t. omega arith; unbound = omega arith }

grows_one : (d : Deed) (x y : BrokerState) → IsMade d x y → Grows x y
grows_one (Event e) x y h = h.0.grows
grows_one (Take k bytes) x y h = subst (Grows x) (sym h.0) (grows_taken x k)
grows_one Commit x y h = subst (Grows x) (sym h) (grows-same x)
grows_one Fail x y h = subst (Grows x) (sym h) (grows-same x)

grows_all : (ds : List Deed) (x y : BrokerState) → Along IsMade ds x y → Grows x y
grows_all [] x y h = subst (Grows x) (sym h) (grows-same x)
grows_all (d ∷ ds) x y h = grows-then x h.0 y (grows_one d x h.0 h.1) (grows_all ds h.0 y h.2)

-- 2. Which connections are open

none_open : (o : Option Session) → open_in o ≡ false → o ≡ None
none_open None h = refl
none_open (Some s) h = absurd (let no : true ≡ false = h in cc)

rises_higher : (low last up : ℕ) (ls : List Line) → last ≤ up → Rising low last ls → Rising low up ls
rises_higher low last up [] h r = let le : low ≤ last = r in omega (arith, h, le)
rises_higher low last up (l ∷ ls) h r = (r.0, rises_higher l.number last up ls h r.1)

rises_lower : (low up last : ℕ) (ls : List Line) → low ≤ up → Rising up last ls → Rising low last ls
rises_lower low up last [] h r = let le : up ≤ last = r in omega (arith, h, le)
rises_lower low up last (l ∷ ls) h r = (let lt = r.0 in omega (arith, h, lt), r.1)

rises_numbers : (low last : ℕ) (ls ms : List Line) → numbers_of_lines ms ≡ numbers_of_lines ls → Rising low last ls → Rising low last ms
rises_numbers low last [] [] e r = r
rises_numbers low last [] (m ∷ ms) e r = absurd (let no : m.number ∷ numbers_of_lines ms ≡ [] = e in cc)
rises_numbers low last (l ∷ ls) [] e r = absurd (let no : [] ≡ l.number ∷ numbers_of_lines ls = e in cc)
rises_numbers low last (l ∷ ls) (m ∷ ms) e r =
    let both : m.number ∷ numbers_of_lines ms ≡ l.number ∷ numbers_of_lines ls = e in
    let same : m.number ≡ l.number = cc in
    let rest : numbers_of_lines ms ≡ numbers_of_lines ls = cc in
    subst (λ n. (low < n) × Rising n last ms) (sym same) (r.0, rises_numbers l.number last ls ms rest r.1)

rises_opened : (low last n : ℕ) (s : Session) (ls : List Line) → last < n → Rising low last ls → Rising low n (ls ++ record { number = n; session = s } ∷ [])
rises_opened low last n s [] h r = let le : low ≤ last = r in (omega (arith, h, le), omega arith)
rises_opened low last n s (l ∷ ls) h r = (r.0, rises_opened l.number last n s ls h r.1)

rises_closed : (k low last : ℕ) (ls : List Line) → Rising low last ls → Rising low last (those (other_than k) ls)
rises_closed k low last [] r = r
rises_closed k low last (l ∷ ls) r = by (eqb l.number k) (rises_closed k l.number last ls r.1)
  where
    by : (b : Bool) → Rising l.number last (those (other_than k) ls) → Rising low last (cond (not b) (l ∷ those (other_than k) ls) (those (other_than k) ls))
    by true rest = rises_lower low l.number last (those (other_than k) ls) (let lt = r.0 in omega (arith, lt)) rest
    by false rest = (r.0, rest)

-- one that is found is not above the last
found_within : (low last n : ℕ) (ls : List Line) (s : Session) → Rising low last ls → find_line n ls ≡ Some s → n ≤ last
found_within low last n ls s r e = by (nat_lt last n) refl
  where
    by : (b : Bool) → nat_lt last n ≡ b → n ≤ last
    by true t =
        let lt : last < n = grind (arith, nat_tests) in
        let none = not-found low last n ls r lt in
        absurd (let no : None ≡ Some s = sym none ∙ e in cc)
    by false t = grind (arith, nat_tests)

open_numbers : (n : ℕ) (ls ms : List Line) → numbers_of_lines ms ≡ numbers_of_lines ls → open_in (find_line n ms) ≡ open_in (find_line n ls)
open_numbers n [] [] e = refl
open_numbers n [] (m ∷ ms) e = absurd (let no : m.number ∷ numbers_of_lines ms ≡ [] = e in cc)
open_numbers n (l ∷ ls) [] e = absurd (let no : [] ≡ l.number ∷ numbers_of_lines ls = e in cc)
open_numbers n (l ∷ ls) (m ∷ ms) e =
    let both : m.number ∷ numbers_of_lines ms ≡ l.number ∷ numbers_of_lines ls = e in
    let same : m.number ≡ l.number = cc in
    let rest : numbers_of_lines ms ≡ numbers_of_lines ls = cc in
    ap (λ k. open_in (cond (eqb k n) (Some m.session) (find_line n ms))) same ∙ by (eqb l.number n) (open_numbers n ls ms rest)
  where
    by : (b : Bool) → open_in (find_line n ms) ≡ open_in (find_line n ls)
        → open_in (cond b (Some m.session) (find_line n ms)) ≡ open_in (cond b (Some l.session) (find_line n ls))
    by true h = refl
    by false h = h

open_taken : (n k : ℕ) (ls : List Line) → open_in (find_line n (each_line (on k without_output) ls)) ≡ open_in (find_line n ls)
open_taken n k [] = refl
open_taken n k (l ∷ ls) = by (eqb l.number n) (open_taken n k ls)
  where
    by : (b : Bool) → open_in (find_line n (each_line (on k without_output) ls)) ≡ open_in (find_line n ls)
        → open_in (cond b (Some (on k without_output l.number l.session)) (find_line n (each_line (on k without_output) ls)))
        ≡ open_in (cond b (Some l.session) (find_line n ls))
    by true h = refl
    by false h = h

-- with one more behind them
open_before : (n k : ℕ) (s : Session) (ls : List Line) → open_in (find_line n (ls ++ record { number = k; session = s } ∷ [])) ≡ false → open_in (find_line n ls) ≡ false
open_before n k s [] h = refl
open_before n k s (l ∷ ls) h = by (eqb l.number n) (open_before n k s ls) h
  where
    by : (b : Bool) → (open_in (find_line n (ls ++ record { number = k; session = s } ∷ [])) ≡ false → open_in (find_line n ls) ≡ false)
        → open_in (cond b (Some l.session) (find_line n (ls ++ record { number = k; session = s } ∷ []))) ≡ false
        → open_in (cond b (Some l.session) (find_line n ls)) ≡ false
    by true rest h = h
    by false rest h = rest h

open_behind : (n k : ℕ) (s : Session) (ls : List Line) → eqb k n ≡ false → open_in (find_line n ls) ≡ false → open_in (find_line n (ls ++ record { number = k; session = s } ∷ [])) ≡ false
open_behind n k s [] e h = rw e refl
open_behind n k s (l ∷ ls) e h = by (eqb l.number n) (open_behind n k s ls e) h
  where
    by : (b : Bool) → (open_in (find_line n ls) ≡ false → open_in (find_line n (ls ++ record { number = k; session = s } ∷ [])) ≡ false)
        → open_in (cond b (Some l.session) (find_line n ls)) ≡ false
        → open_in (cond b (Some l.session) (find_line n (ls ++ record { number = k; session = s } ∷ []))) ≡ false
    by true rest h = h
    by false rest h = rest h

-- without one of them
closed_gone : (k : ℕ) (ls : List Line) → find_line k (those (other_than k) ls) ≡ None
closed_gone k [] = refl
closed_gone k (l ∷ ls) = by (eqb l.number k) refl (closed_gone k ls)
  where
    by : (b : Bool) → eqb l.number k ≡ b → find_line k (those (other_than k) ls) ≡ None
        → find_line k (cond (not b) (l ∷ those (other_than k) ls) (those (other_than k) ls)) ≡ None
    by true e rest = rest
    by false e rest = rw e rest

closed_other : (n k : ℕ) (ls : List Line) → eqb n k ≡ false → find_line n (those (other_than k) ls) ≡ find_line n ls
closed_other n k [] ne = refl
closed_other n k (l ∷ ls) ne = by (eqb l.number k) refl (closed_other n k ls ne)
  where
    by : (b : Bool) → eqb l.number k ≡ b → find_line n (those (other_than k) ls) ≡ find_line n ls
        → find_line n (cond (not b) (l ∷ those (other_than k) ls) (those (other_than k) ls)) ≡ find_line n (l ∷ ls)
    by true e rest =
        let other : eqb l.number n ≡ false = grind (arith, nat_tests) in
        let last : find_line n ls ≡ find_line n (l ∷ ls) = rw other refl in
        rest ∙ last
    by false e rest = ap (λ o. cond (eqb l.number n) (Some l.session) o) rest

-- 3. What was taken

abbrev and_more : ℕ → List ℕ → (ℕ → List ℕ) → ℕ → List ℕ
and_more k bytes before j = cond (eqb j k) (before j ++ bytes) (before j)

abbrev cleared : ℕ → (ℕ → List ℕ) → ℕ → List ℕ
cleared k before j = cond (eqb j k) [] (before j)

-- where the output of a connection is taken, and then put back in front, the lines are as before
back_taken : (k : ℕ) (bytes : List ℕ) (before : ℕ → List ℕ) (mine : ℕ → Bool) (all ls : List Line) → bytes ≡ output_in (find_line k all)
    → AllByRecursion (λ l. find_line l.number all ≡ Some l.session) ls
    → all_back (and_more k bytes before) (those mine (each_line (on k without_output) ls)) ≡ all_back before (those mine ls)
back_taken k bytes before mine all [] b f = refl
back_taken k bytes before mine all (l ∷ ls) b f = by (mine l.number) (back_taken k bytes before mine all ls b f.1)
  where
    same : (c : Bool) → eqb l.number k ≡ c → put_back (cond c (before l.number ++ bytes) (before l.number)) (cond c (without_output l.session) l.session)
        ≡ put_back (before l.number) l.session
    same true e =
        let here : l.number ≡ k = grind (arith, nat_tests) in
        let is : bytes ≡ l.session.output = b ∙ ap (λ n. output_in (find_line n all)) (sym here) ∙ ap output_in f.0 in
        ap (λ x. let s : Session = record l.session { output = x } in s) (append-nil (before l.number ++ bytes) ∙ ap (λ x. before l.number ++ x) is)
    same false e = refl

    by : (m : Bool) → all_back (and_more k bytes before) (those mine (each_line (on k without_output) ls)) ≡ all_back before (those mine ls)
        → all_back (and_more k bytes before) (cond m (record { number = l.number; session = on k without_output l.number l.session } ∷ those mine (each_line (on k without_output) ls)) (those mine (each_line (on k without_output) ls)))
        ≡ all_back before (cond m (l ∷ those mine ls) (those mine ls))
    by true rest = ap (λ s. let x : Line = record { number = l.number; session = s } in x ∷ all_back (and_more k bytes before) (those mine (each_line (on k without_output) ls))) (same (eqb l.number k) refl)
        ∙ ap (λ xs. let x : Line = record { number = l.number; session = put_back (before l.number) l.session } in x ∷ xs) rest
    by false rest = rest

-- without a connection that closed it matters not what was taken of it
back_cleared : (k : ℕ) (before : ℕ → List ℕ) (mine : ℕ → Bool) (ls : List Line)
    → all_back before (those mine (those (other_than k) ls)) ≡ all_back (cleared k before) (those mine (those (other_than k) ls))
back_cleared k before mine [] = refl
back_cleared k before mine (l ∷ ls) = by (eqb l.number k) refl (back_cleared k before mine ls)
  where
    rest_of : List Line
    rest_of = those mine (those (other_than k) ls)

    within : (m : Bool) → eqb l.number k ≡ false → all_back before rest_of ≡ all_back (cleared k before) rest_of
        → all_back before (cond m (l ∷ rest_of) rest_of) ≡ all_back (cleared k before) (cond m (l ∷ rest_of) rest_of)
    within true e rest = ap (λ p. let x : Line = record { number = l.number; session = put_back p l.session } in x ∷ all_back before rest_of) (ap (λ b. cond b [] (before l.number)) (sym e))
        ∙ ap (λ xs. let x : Line = record { number = l.number; session = put_back (cleared k before l.number) l.session } in x ∷ xs) rest
    within false e rest = rest

    by : (b : Bool) → eqb l.number k ≡ b → all_back before rest_of ≡ all_back (cleared k before) rest_of
        → all_back before (those mine (cond (not b) (l ∷ those (other_than k) ls) (those (other_than k) ls)))
        ≡ all_back (cleared k before) (those mine (cond (not b) (l ∷ those (other_than k) ls) (those (other_than k) ls)))
    by true e rest = rest
    by false e rest = within (mine l.number) e rest

-- whose connections they are stays
fate_taken : (setup : Setup) (k : ℕ) (l : Line) → SameFate setup l (record { number = l.number; session = on k without_output l.number l.session })
fate_taken setup k l = by (eqb l.number k)
  where
    whole : put_back l.session.output (without_output l.session) ≡ l.session
    whole = ap (λ x. let s : Session = record l.session { output = x } in s) (append-nil l.session.output)

    by : (b : Bool) → SameFate setup l (record { number = l.number; session = cond b (without_output l.session) l.session })
    by true = record {
      number = refl;
      fate = λ es. sym (back-destiny l.session.output setup l.number (greeted_so_far setup (without_output l.session)) es)
          ∙ ap (λ s. destiny setup l.number s es) (sym (back-heard l.session.output setup (without_output l.session)) ∙ ap (greeted_so_far setup) whole);
    }
    by false = record { number = refl; fate = λ es. refl }

fates_taken : (setup : Setup) (k : ℕ) (ls : List Line) → Pairwise (SameFate setup) ls (each_line (on k without_output) ls)
fates_taken setup k [] = tt
fates_taken setup k (l ∷ ls) = (fate_taken setup k l, fates_taken setup k ls)

mine_taken : (t k : ℕ) (mine : ℕ → Bool) (es : List Happening) (x : BrokerState) → Mine t mine es x → Mine t mine es (output_taken x k)
mine_taken t k mine es x m = owns-fates x.setup t mine x.last es x.lines (each_line (on k without_output) x.lines) (fates_taken x.setup k x.lines) m

rises_taken : (k low last : ℕ) (ls : List Line) → Rising low last ls → Rising low last (each_line (on k without_output) ls)
rises_taken k low last [] r = r
rises_taken k low last (l ∷ ls) r = (r.0, rises_taken k l.number last ls r.1)

-- 4. What is sent to a connection

-- what was taken of it, and its output
abbrev got_at : (ℕ → List ℕ) → ℕ → Option Session → List Sent
got_at before n None = []
got_at before n (Some s) = record { number = n; bytes = before n ++ s.output; shut = s.shut; why = s.why } ∷ []

-- none of the others has that number
none_above : (n low last : ℕ) (before : ℕ → List ℕ) (mine : ℕ → Bool) (ls : List Line) → n ≤ low → Rising low last ls
    → those_sent (only n) (map sent (all_back before (those mine ls))) ≡ []
none_above n low last before mine [] h r = refl
none_above n low last before mine (l ∷ ls) h r =
    let lt = r.0 in
    let rest = none_above n l.number last before mine ls (omega (arith, h, lt)) r.1 in
    let other : eqb l.number n ≡ false = grind (arith, nat_tests) in
    by (mine l.number) other rest
  where
    by : (m : Bool) → eqb l.number n ≡ false → those_sent (only n) (map sent (all_back before (those mine ls))) ≡ []
        → those_sent (only n) (map sent (all_back before (cond m (l ∷ those mine ls) (those mine ls)))) ≡ []
    by true e rest = rw e rest
    by false e rest = rest

at_end : (n low last : ℕ) (before : ℕ → List ℕ) (mine : ℕ → Bool) (ls : List Line) → mine n ≡ true → Rising low last ls
    → those_sent (only n) (map sent (all_back before (those mine ls))) ≡ got_at before n (find_line n ls)
at_end n low last before mine [] own r = refl
at_end n low last before mine (l ∷ ls) own r = by (eqb l.number n) refl (at_end n l.number last before mine ls own r.1)
  where
    passed : (m : Bool) → eqb l.number n ≡ false → those_sent (only n) (map sent (all_back before (those mine ls))) ≡ got_at before n (find_line n ls)
        → those_sent (only n) (map sent (all_back before (cond m (l ∷ those mine ls) (those mine ls)))) ≡ got_at before n (find_line n ls)
    passed true e rest = rw e rest
    passed false e rest = rest

    by : (b : Bool) → eqb l.number n ≡ b → those_sent (only n) (map sent (all_back before (those mine ls))) ≡ got_at before n (find_line n ls)
        → those_sent (only n) (map sent (all_back before (those mine (l ∷ ls)))) ≡ got_at before n (cond b (Some l.session) (find_line n ls))
    by true e rest =
        let same : l.number ≡ n = grind (arith, nat_tests) in
        let its : mine l.number ≡ true = ap mine same ∙ own in
        let none = none_above n l.number last before mine ls (omega (arith, same)) r.1 in
        rw (its, e, none) (ap (λ k. let s : Sent = record { number = k; bytes = before k ++ l.session.output; shut = l.session.shut; why = l.session.why } in s ∷ []) same)
    by false e rest = passed (mine l.number) e rest

-- a connection that closes
leaving_other : (n k : ℕ) (before : ℕ → List ℕ) (mine : ℕ → Bool) (ls : List Line) → eqb n k ≡ false
    → those_sent (only n) (those_sent mine (map sent (those (λ j. eqb j k) (all_back before ls)))) ≡ []
leaving_other n k before mine [] ne = refl
leaving_other n k before mine (l ∷ ls) ne = by (eqb l.number k) refl (leaving_other n k before mine ls ne)
  where
    rest_of : List Sent
    rest_of = those_sent mine (map sent (those (λ j. eqb j k) (all_back before ls)))

    passed : (m : Bool) (s : Sent) → eqb s.number n ≡ false → those_sent (only n) rest_of ≡ [] → those_sent (only n) (cond m (s ∷ rest_of) rest_of) ≡ []
    passed true s e rest = rw e rest
    passed false s e rest = rest

    by : (b : Bool) → eqb l.number k ≡ b → those_sent (only n) rest_of ≡ []
        → those_sent (only n) (those_sent mine (map sent (cond b (record { number = l.number; session = put_back (before l.number) l.session } ∷ those (λ j. eqb j k) (all_back before ls)) (those (λ j. eqb j k) (all_back before ls))))) ≡ []
    by true e rest = let other : eqb l.number n ≡ false = grind (arith, nat_tests) in
        passed (mine l.number) (sent (record { number = l.number; session = put_back (before l.number) l.session })) other rest
    by false e rest = rest

leaving_above : (n low last : ℕ) (before : ℕ → List ℕ) (ls : List Line) → n ≤ low → Rising low last ls → those (λ j. eqb j n) (all_back before ls) ≡ []
leaving_above n low last before [] h r = refl
leaving_above n low last before (l ∷ ls) h r =
    let lt = r.0 in
    let rest = leaving_above n l.number last before ls (omega (arith, h, lt)) r.1 in
    let other : eqb l.number n ≡ false = grind (arith, nat_tests) in
    rw other rest

leaving_own : (n low last : ℕ) (before : ℕ → List ℕ) (mine : ℕ → Bool) (ls : List Line) → mine n ≡ true → Rising low last ls
    → those_sent (only n) (those_sent mine (map sent (those (λ j. eqb j n) (all_back before ls)))) ≡ got_at before n (find_line n ls)
leaving_own n low last before mine [] own r = refl
leaving_own n low last before mine (l ∷ ls) own r = by (eqb l.number n) refl (leaving_own n l.number last before mine ls own r.1)
  where
    by : (b : Bool) → eqb l.number n ≡ b
        → those_sent (only n) (those_sent mine (map sent (those (λ j. eqb j n) (all_back before ls)))) ≡ got_at before n (find_line n ls)
        → those_sent (only n) (those_sent mine (map sent (those (λ j. eqb j n) (all_back before (l ∷ ls))))) ≡ got_at before n (cond b (Some l.session) (find_line n ls))
    by true e rest =
        let same : l.number ≡ n = grind (arith, nat_tests) in
        let its : mine l.number ≡ true = ap mine same ∙ own in
        let none = leaving_above n l.number last before ls (omega (arith, same)) r.1 in
        rw (e, none, its, e) (ap (λ k. let s : Sent = record { number = k; bytes = before k ++ l.session.output; shut = l.session.shut; why = l.session.why } in s ∷ []) same)
    by false e rest = rw e rest

-- 5. A run of deeds

-- What is sent to a connection from here on, of which that was taken before and that is taken still. One that is gone is sent nothing.
record IsToldOn (n tried : ℕ) (bytes more : List ℕ) (x to : BrokerState) (all : List Sent) : Type 0 where
  pub gone : n ≤ tried → is_open n x ≡ false → (all ≡ []) × (more ≡ []) × (is_open n to ≡ false)
  pub got : HasGot n (bytes ++ more) (find_line n to.lines) all

module _ (t n : ℕ) (mine : ℕ → Bool) (own : mine n ≡ true) where
  -- what the machine writes to it
  abbrev sent_on : List Happening → (ℕ → List ℕ) → BrokerState → List Sent
  sent_on es before x = those_sent (only n) (run (purge mine es) (view_back before (view_of t mine x)))

  abbrev NoneBefore : (ℕ → List ℕ) → BrokerState → Type 0
  NoneBefore before x = (j : ℕ) → is_open j x ≡ false → before j ≡ []

  got_end : (tried : ℕ) (before : ℕ → List ℕ) (x : BrokerState) → Rising 0 tried x.lines → NoneBefore before x
      → IsToldOn n tried (before n) [] x x (sent_on [] before x)
  got_end tried before x r none =
      let ends = at_end n 0 tried before mine x.lines own r in record {
        gone = λ le closed. (ends ∙ ap (got_at before n) (none_open (find_line n x.lines) closed), refl, closed);
        got = subst (λ g. HasGot n (before n ++ []) (find_line n x.lines) g) (sym ends) (by (find_line n x.lines) refl);
      }
    where
      by : (o : Option Session) → find_line n x.lines ≡ o → HasGot n (before n ++ []) o (got_at before n o)
      by None e = inl (append-nil (before n) ∙ none n (ap open_in e), refl)
      by (Some s) e = ap (λ bs. let g : Sent = record { number = n; bytes = bs ++ s.output; shut = s.shut; why = s.why } in g ∷ []) (sym (append-nil (before n)))

  -- an event, at which it does not close
  go_on : (tried up : ℕ) (bytes again more : List ℕ) (x y to : BrokerState) (got later : List Sent) → IsToldOn n up again more y to later → got ≡ later
      → again ≡ bytes → (n ≤ tried → is_open n x ≡ false → (n ≤ up) × (is_open n y ≡ false)) → IsToldOn n tried bytes more x to got
  go_on tried up bytes again more x y to got later rest same bs still = record {
    gone = λ le closed. let s = still le closed in let r = rest.gone s.0 s.1 in (same ∙ r.0, r.1, r.2);
    got = subst (λ g. HasGot n (bytes ++ more) (find_line n to.lines) g) (sym same) (subst (λ b. HasGot n (b ++ more) (find_line n to.lines) later) bs rest.got);
  }

  -- what the machine writes at an event, and then
  sent_then : (e : Happening) (es : List Happening) (before : ℕ → List ℕ) (x y : BrokerState) → IsNew before e
      → view_of t mine y ≡ stepped (concerns mine e) e (view_of t mine x)
      → sent_on (e ∷ es) before x ≡ those_sent (only n) (those_sent mine (leaving e (all_back before x.lines))) ++ sent_on es before y
  sent_then e es before x y new step =
      let lines = all_back before x.lines in
      let w = view_back before (view_of t mine x) in
      let next = view_back before (view_of t mine y) in
      let goes : next ≡ stepped (concerns mine e) e w = ap (view_back before) step ∙ sym (back-stepped before (concerns mine e) e (view_of t mine x) new) in
      ap (those_sent (only n)) (sym (run-step mine e es w next lines (sym (those-each mine (λ k s. put_back (before k) s) x.lines)) goes))
      ∙ those_sent-append (only n) (those_sent mine (leaving e lines)) (run (purge mine es) next)

  got_closed : (k tried : ℕ) (before : ℕ → List ℕ) (more : List ℕ) (x y to : BrokerState) (got later : List Sent) → Rising 0 tried x.lines → NoneBefore before x
      → y.lines ≡ those (other_than k) x.lines → IsToldOn n tried (cleared k before n) more y to later
      → got ≡ those_sent (only n) (those_sent mine (leaving (Closes k) (all_back before x.lines))) ++ later
      → IsToldOn n tried (before n) more x to got
  got_closed k tried before more x y to got later r none lines rest is = by (eqb n k) refl
    where
      after : (b : Bool) → eqb n k ≡ b → is_open n x ≡ false → is_open n y ≡ false
      after true e closed = let same : n ≡ k = grind (arith, nat_tests) in
          ap (λ ls. open_in (find_line n ls)) lines ∙ ap (λ j. open_in (find_line j (those (other_than k) x.lines))) same ∙ ap open_in (closed_gone k x.lines)
      after false e closed = ap (λ ls. open_in (find_line n ls)) lines ∙ ap open_in (closed_other n k x.lines e) ∙ closed

      went : (s : Session) → find_line n x.lines ≡ Some s → n ≡ k → got ≡ got_at before n (Some s) ++ later → IsToldOn n tried (before n) more x to got
      went s e same all =
          let le = found_within 0 tried n x.lines s r e in
          let shut : is_open n y ≡ false = ap (λ ls. open_in (find_line n ls)) lines ∙ ap (λ j. open_in (find_line j (those (other_than k) x.lines))) same ∙ ap open_in (closed_gone k x.lines) in
          let no = rest.gone le shut in
          let only_one : got ≡ got_at before n (Some s) = all ∙ ap (λ g. got_at before n (Some s) ++ g) no.0 in
          record {
            gone = λ le closed. absurd (let yes : is_open n x ≡ true = ap open_in e in let wrong : true ≡ false = sym yes ∙ closed in cc);
            got = subst (λ o. HasGot n (before n ++ more) o got) (sym (none_open (find_line n to.lines) no.2)) (inr (
              record { number = n; bytes = before n ++ s.output; shut = s.shut; why = s.why },
              s.output,
              only_one,
              refl,
              ap (λ bs. bs ++ s.output) (sym (append-nil (before n)) ∙ ap (λ m. before n ++ m) (sym no.1)),
            ));
          }

      here : (o : Option Session) → find_line n x.lines ≡ o → n ≡ k → eqb n k ≡ true → got ≡ got_at before n o ++ later → IsToldOn n tried (before n) more x to got
      here (Some s) e same b all = went s e same all
      here None e same b all = go_on tried tried (before n) (cleared k before n) more x y to got later rest all
          (ap (λ c. cond c [] (before n)) b ∙ sym (none n (ap open_in e))) (λ le closed. (le, after true b closed))

      by : (b : Bool) → eqb n k ≡ b → IsToldOn n tried (before n) more x to got
      by true e =
          let same : n ≡ k = grind (arith, nat_tests) in
          here (find_line n x.lines) refl same e
          (is ∙ ap (λ j. those_sent (only n) (those_sent mine (map sent (those (λ i. eqb i j) (all_back before x.lines)))) ++ later) (sym same)
          ∙ ap (λ g. g ++ later) (leaving_own n 0 tried before mine x.lines own r))
      by false e = go_on tried tried (before n) (cleared k before n) more x y to got later rest (is ∙ ap (λ g. g ++ later) (leaving_other n k before mine x.lines e))
          (ap (λ c. cond c [] (before n)) e) (λ le closed. (le, after false e closed))

  got_taken : (k tried : ℕ) (bytes : List ℕ) (before : ℕ → List ℕ) (more : List ℕ) (x to : BrokerState) (got later : List Sent) → bytes ≡ output_of k x
      → IsToldOn n tried (and_more k bytes before n) more (output_taken x k) to later → got ≡ later
      → IsToldOn n tried (before n) (cond (eqb n k) (bytes ++ more) more) x to got
  got_taken k tried bytes before more x to got later is rest same = record {
    gone = λ le closed. let r = rest.gone le (open_taken n k x.lines ∙ closed) in (same ∙ r.0, empty (eqb n k) refl closed r.1, r.2);
    got = subst (λ g. HasGot n (before n ++ cond (eqb n k) (bytes ++ more) more) (find_line n to.lines) g) (sym same)
        (subst (λ b. HasGot n b (find_line n to.lines) later) (by (eqb n k)) rest.got);
  }
    where
      by : (b : Bool) → cond b (before n ++ bytes) (before n) ++ more ≡ before n ++ cond b (bytes ++ more) more
      by true = append_assoc (before n) bytes more
      by false = refl

      empty : (b : Bool) → eqb n k ≡ b → is_open n x ≡ false → more ≡ [] → cond b (bytes ++ more) more ≡ []
      empty true e closed none =
          let at : n ≡ k = grind (arith, nat_tests) in
          let nothing : bytes ≡ [] = is ∙ ap (λ j. output_of j x) (sym at) ∙ ap output_in (none_open (find_line n x.lines) closed) in
          ap (λ b. b ++ more) nothing ∙ none
      empty false e closed none = none

  told_on : (ds : List Deed) (tried : ℕ) (before : ℕ → List ℕ) (x to : BrokerState) → Along IsMade ds x to → IsEventRun tried (events_of ds) → Rising 0 tried x.lines
      → NoneBefore before x → Mine t mine (events_of ds) x → IsCalmFor t x to
      → IsToldOn n tried (before n) (taken_of n ds) x to (sent_on (events_of ds) before x)
  told_on [] tried before x to h in_order rises none m calm =
      subst (λ y. IsToldOn n tried (before n) [] x y (sent_on [] before x)) (sym h) (got_end tried before x rises none)
  told_on (Commit ∷ ds) tried before x to h in_order rises none m calm =
      told_on ds tried before x to (subst (λ y. Along IsMade ds y to) h.1 h.2) in_order rises none m calm
  told_on (Fail ∷ ds) tried before x to h in_order rises none m calm =
      told_on ds tried before x to (subst (λ y. Along IsMade ds y to) h.1 h.2) in_order rises none m calm
  told_on (Take k bytes ∷ ds) tried before x to h in_order rises none m calm =
      let after = and_more k bytes before in
      let rest = told_on ds tried after (output_taken x k) to (subst (λ y. Along IsMade ds y to) h.1.0 h.2) in_order (rises_taken k 0 tried x.lines rises)
      (λ j closed. clear j (eqb j k) refl (sym (open_taken j k x.lines) ∙ closed)) (mine_taken t k mine (events_of ds) x m)
      (record { own = calm.own; unbound = calm.unbound }) in
      let same : view_back after (view_of t mine (output_taken x k)) ≡ view_back before (view_of t mine x) =
      ap (λ ls. let w : View = record (view_of t mine x) { lines = ls } in w) (back_taken k bytes before mine x.lines x.lines h.1.1 (found 0 tried x.lines rises)) in
      got_taken k tried bytes before (taken_of n ds) x to (sent_on (events_of ds) before x) (sent_on (events_of ds) after (output_taken x k)) h.1.1 rest
      (ap (λ w. those_sent (only n) (run (purge mine (events_of ds)) w)) (sym same))
    where
      clear : (j : ℕ) (b : Bool) → eqb j k ≡ b → is_open j x ≡ false → cond b (before j ++ bytes) (before j) ≡ []
      clear j true e closed =
          let at : j ≡ k = grind (arith, nat_tests) in
          let nothing : bytes ≡ [] = h.1.1 ∙ ap (λ i. output_of i x) (sym at) ∙ ap output_in (none_open (find_line j x.lines) closed) in
          ap (λ b. before j ++ b) nothing ∙ append-nil (before j) ∙ none j closed
      clear j false e closed = none j closed
  told_on (Event (Opens k) ∷ ds) tried before x to h in_order rises none m calm =
      let es = events_of ds in
      let y = h.0 in
      let grows = grows_all ds y to h.2 in
      let step = h.1.0 in
      let left = calm-first t x y to step.grows grows calm in
      let right = calm-then t x y to step.grows grows calm in
      let new : before k ≡ [] = none k (ap open_in (not-found 0 tried k x.lines rises in_order.0)) in
      let rest = told_on ds k before y to h.2 in_order.1 (risen h.1.1.1) (λ j closed. none j (was j closed h.1.1.1)) (step.mine t mine es m left.unbound) right in
      go_on tried k (before n) (before n) (taken_of n ds) x y to (sent_on (Opens k ∷ es) before x) (sent_on es before y) rest
      (sent_then (Opens k) es before x y new (step.view t mine es m left)) refl
      (λ le closed. (let lt = in_order.0 in omega (arith, le, lt), stays le closed h.1.1.1))
    where
      risen : Leads (Opens k) x h.0 h.1.1.0 → Rising 0 k h.0.lines
      risen leads = elim leads [
        | inl o ↦ subst (λ (y : BrokerState). Rising 0 k y.lines) (sym o.0) (rises_opened 0 tried k (new_session x.setup.request_bytes) x.lines in_order.0 rises)
        | inr o ↦ subst (λ (y : BrokerState). Rising 0 k y.lines) (sym o.0.is) (rises_higher 0 tried k x.lines (let lt = in_order.0 in omega (arith, lt)) rises)
      ]

      was : (j : ℕ) → is_open j h.0 ≡ false → Leads (Opens k) x h.0 h.1.1.0 → is_open j x ≡ false
      was j closed leads = elim leads [
        | inl o ↦ open_before j k (new_session x.setup.request_bytes) x.lines (subst (λ (y : BrokerState). is_open j y ≡ false) o.0 closed)
        | inr o ↦ subst (λ (y : BrokerState). is_open j y ≡ false) o.0.is closed
      ]

      stays : n ≤ tried → is_open n x ≡ false → Leads (Opens k) x h.0 h.1.1.0 → is_open n h.0 ≡ false
      stays le closed leads = elim leads [
        | inl o ↦ subst (λ (y : BrokerState). is_open n y ≡ false) (sym o.0)
            (open_behind n k (new_session x.setup.request_bytes) x.lines (let lt = in_order.0 in grind (arith, nat_tests, le, lt)) closed)
        | inr o ↦ subst (λ (y : BrokerState). is_open n y ≡ false) (sym o.0.is) closed
      ]
  told_on (Event (Comes k piece) ∷ ds) tried before x to h in_order rises none m calm =
      let es = events_of ds in
      let y = h.0 in
      let grows = grows_all ds y to h.2 in
      let step = h.1.0 in
      let left = calm-first t x y to step.grows grows calm in
      let right = calm-then t x y to step.grows grows calm in
      let numbers = h.1.1.1.0 in
      let rest = told_on ds tried before y to h.2 in_order (rises_numbers 0 tried x.lines y.lines numbers rises)
      (λ j closed. none j (sym (open_numbers j x.lines y.lines numbers) ∙ closed)) (step.mine t mine es m left.unbound) right in
      go_on tried tried (before n) (before n) (taken_of n ds) x y to (sent_on (Comes k piece ∷ es) before x) (sent_on es before y) rest
      (sent_then (Comes k piece) es before x y tt (step.view t mine es m left)) refl
      (λ le closed. (le, open_numbers n x.lines y.lines numbers ∙ closed))
  told_on (Event (Moment now) ∷ ds) tried before x to h in_order rises none m calm =
      let es = events_of ds in
      let y = h.0 in
      let grows = grows_all ds y to h.2 in
      let step = h.1.0 in
      let left = calm-first t x y to step.grows grows calm in
      let right = calm-then t x y to step.grows grows calm in
      let numbers = h.1.1.1.0 in
      let rest = told_on ds tried before y to h.2 in_order.1 (rises_numbers 0 tried x.lines y.lines numbers rises)
      (λ j closed. none j (sym (open_numbers j x.lines y.lines numbers) ∙ closed)) (step.mine t mine es m left.unbound) right in
      go_on tried tried (before n) (before n) (taken_of n ds) x y to (sent_on (Moment now ∷ es) before x) (sent_on es before y) rest
      (sent_then (Moment now) es before x y tt (step.view t mine es m left)) refl
      (λ le closed. (le, open_numbers n x.lines y.lines numbers ∙ closed))
  told_on (Event (Closes k) ∷ ds) tried before x to h in_order rises none m calm =
      let es = events_of ds in
      let y = h.0 in
      let grows = grows_all ds y to h.2 in
      let step = h.1.0 in
      let left = calm-first t x y to step.grows grows calm in
      let right = calm-then t x y to step.grows grows calm in
      let lines : y.lines ≡ those (other_than k) x.lines = ap (λ (z : BrokerState). z.lines) h.1.1.1.0 in
      let after = cleared k before in
      let rest = told_on ds tried after y to h.2 in_order (subst (Rising 0 tried) (sym lines) (rises_closed k 0 tried x.lines rises))
      (λ j closed. clear j (eqb j k) refl (ap (λ ls. open_in (find_line j ls)) (sym lines) ∙ closed)) (step.mine t mine es m left.unbound) right in
      let same : view_back before (view_of t mine y) ≡ view_back after (view_of t mine y) =
      ap (λ ls. let w : View = record (view_of t mine y) { lines = ls } in w)
      (ap (λ ls. all_back before (those mine ls)) lines ∙ back_cleared k before mine x.lines ∙ ap (λ ls. all_back after (those mine ls)) (sym lines)) in
      got_closed k tried before (taken_of n ds) x y to (sent_on (Closes k ∷ es) before x) (sent_on es after y) rises none lines rest
      (sent_then (Closes k) es before x y tt (step.view t mine es m left)
      ∙ ap (λ w. those_sent (only n) (those_sent mine (leaving (Closes k) (all_back before x.lines))) ++ those_sent (only n) (run (purge mine es) w)) same)
    where
      clear : (j : ℕ) (b : Bool) → eqb j k ≡ b → open_in (find_line j (those (other_than k) x.lines)) ≡ false → cond b [] (before j) ≡ []
      clear j true e closed = refl
      clear j false e closed = none j (ap open_in (sym (closed_other j k x.lines e)) ∙ closed)

-- 6. Whatever was refused

own_ready : (t : ℕ) (mine : ℕ → Bool) (es : List Happening) (b : BrokerState) → IsReady b → Mine t mine es b → IsSettled (own_of t mine b)
own_ready t mine es b ready m = record { turns = none-those mine b.lines ready.settled; waits = unready-view AnyWait b t mine es ready.unready (λ w. tt) m }

-- what is taken of the tenant's own connection, and of another's
own_taken : (t n : ℕ) (mine : ℕ → Bool) (x : BrokerState)
    → own_of t mine (output_taken x n) ≡ (let o = own_of t mine x in record o { view = record o.view { lines = each_line (on n without_output) o.view.lines } })
own_taken t n mine x = ap (λ ls. let o : Own = record (own_of t mine x) { view = record (view_of t mine x) { lines = ls } } in o) (those-each mine (on n without_output) x.lines)

others_taken : (t n : ℕ) (mine : ℕ → Bool) (x : BrokerState) → mine n ≡ false → own_of t mine (output_taken x n) ≡ own_of t mine x
others_taken t n mine x other = ap (λ ls. let o : Own = record (own_of t mine x) { view = record (view_of t mine x) { lines = ls } } in o) (those-on_other mine n without_output x.lines other)

module _ {S : Type 0} (disk : S → Disk) (known : Deed → S → Type 0) (t : ℕ) (mine : ℕ → Bool) where
  -- a deed that is not the tenant's leaves what it has
  other_first : (d : Deed) (ds : List Deed) (a next b : BrokerState) → is_own mine d ≡ false → own_of t mine next ≡ own_of t mine a → GoAlone t mine ds next b → GoAlone t mine (d ∷ ds) a b
  other_first d ds a next b other same rest =
      subst (λ (x : Bool). Along (MayDo t) (cond x (d ∷ own_deeds mine ds) (own_deeds mine ds)) (own_of t mine a) (own_of t mine b)) (sym other)
      (subst (λ o. Along (MayDo t) (own_deeds mine ds) o (own_of t mine b)) same rest)

  own_first : (d : Deed) (ds : List Deed) (a next b : BrokerState) → is_own mine d ≡ true → MayDo t d (own_of t mine a) (own_of t mine next) → GoAlone t mine ds next b → GoAlone t mine (d ∷ ds) a b
  own_first d ds a next b ours does rest =
      subst (λ (x : Bool). Along (MayDo t) (cond x (d ∷ own_deeds mine ds) (own_deeds mine ds)) (own_of t mine a) (own_of t mine b)) (sym ours) (own_of t mine next, does, rest)

  happens : (x : Bool) (e : Happening) → concerns mine e ≡ x → (ds : List Deed) (a next b : BrokerState) → ActsOn t mine e (events_of ds) a next → IsSettled (own_of t mine next)
      → GoAlone t mine ds next b → GoAlone t mine (Event e ∷ ds) a b
  happens true e ours ds a next b acts settled rest = own_first (Event e) ds a next b ours (acts.own ours, settled) rest
  happens false e other ds a next b acts settled rest = other_first (Event e) ds a next b other (acts.apart other) rest

  takes : (x : Bool) (n : ℕ) → mine n ≡ x → (bytes : List ℕ) (ds : List Deed) (a next b : BrokerState) → next ≡ output_taken a n → bytes ≡ output_of n a
      → GoAlone t mine ds next b → GoAlone t mine (Take n bytes ∷ ds) a b
  takes true n ours bytes ds a next b is taken rest =
      own_first (Take n bytes) ds a next b ours (taken ∙ ap output_in (sym (find-those mine n a.lines ours)), ap (own_of t mine) is ∙ own_taken t n mine a) rest
  takes false n other bytes ds a next b is taken rest = other_first (Take n bytes) ds a next b other (ap (own_of t mine) is ∙ others_taken t n mine a other) rest

  go_alone : (ds : List Deed) (a b : OnStore S) → AreDone disk known ds a b → is_honest disk b → IsEventRun a.state.last (events_of ds) → Mine t mine (events_of ds) a.state
      → GoAlone t mine ds a.state b.state
  go_alone [] a b done honest run m = ap (λ x. own_of t mine x.state) done
  go_alone (Event e ∷ ds) a b done honest run m =
      let told = honest_all disk known ds done.0 b done.2 honest in
      let acts = done.1.spoken told t mine (events_of ds) run m in
      let settled = own_ready t mine (events_of ds) done.0.state (done.1.ready told) acts.stays in
      let rest = go_alone ds done.0 b done.2 honest (run-after done.0.state.last a.state.last e (events_of ds) (done.1.step told).last run) acts.stays in
      happens (concerns mine e) e refl ds a.state done.0.state b.state acts settled rest
  go_alone (Take n bytes ∷ ds) a b done honest run m =
      let is : done.0.state ≡ output_taken a.state n = ap (λ x. x.state) done.1.0 in
      let rest = go_alone ds done.0 b done.2 honest (subst (λ (x : BrokerState). IsEventRun x.last (events_of ds)) (sym is) run) (subst (Mine t mine (events_of ds)) (sym is) (mine_taken t n mine (events_of ds) a.state m)) in
      takes (mine n) n refl bytes ds a.state done.0.state b.state is done.1.1 rest
  -- a commit changes nothing of what the broker has
  go_alone (Commit ∷ ds) a b done honest run m =
      let is = done.1.0.state (honest_all disk known ds done.0 b done.2 honest) in
      subst (λ x. GoAlone t mine ds x b.state) is
      (go_alone ds done.0 b done.2 honest (subst (λ (x : BrokerState). IsEventRun x.last (events_of ds)) (sym is) run) (subst (Mine t mine (events_of ds)) (sym is) m))
  go_alone (Fail ∷ ds) a b done honest run m =
      let is = done.1.0.state (honest_all disk known ds done.0 b done.2 honest) in
      subst (λ x. GoAlone t mine ds x b.state) is
      (go_alone ds done.0 b done.2 honest (subst (λ (x : BrokerState). IsEventRun x.last (events_of ds)) (sym is) run) (subst (Mine t mine (events_of ds)) (sym is) m))

-- 7. From the beginning

none_back : (ls : List Line) → all_back (λ n. []) ls ≡ ls
none_back [] = refl
none_back (l ∷ ls) = ap (λ ms. l ∷ ms) (none_back ls)

pub isolated : {S : Type 0} (disk : S → Disk) (known : Deed → S → Type 0) (tried : ℕ) (deeds : List Deed) (a b : OnStore S)
    → AreDone disk known deeds a b → IsEventRun tried (events_of deeds)
    → Rising 0 a.state.last a.state.lines → a.state.last ≤ tried → is_honest disk b → AreIsolated deeds a.state b.state
isolated disk known tried deeds a b done in_order rises le honest = record {
  owned = λ t calm n own. got t n (owned_by t (events_of deeds) a.state) own (owned-mine t (events_of deeds) a.state rises) calm;
  unowned = λ sound n none calm. got (length a.state.tenants) n (only n) (its n) (unowned-mine n (events_of deeds) a.state sound none)
      (calm-nobody a.state b.state (grows_all deeds a.state b.state made) calm);
  own = λ t. go_alone disk known t (owned_by t (events_of deeds) a.state) deeds a b done honest events (owned-mine t (events_of deeds) a.state rises);
  stranger = λ sound n none. go_alone disk known (length a.state.tenants) (only n) deeds a b done honest events (unowned-mine n (events_of deeds) a.state sound none);
}
  where
    made : Along IsMade deeds a.state b.state
    made = made_all disk known deeds a b done honest

    events : IsEventRun a.state.last (events_of deeds)
    events = run-lower a.state.last tried (events_of deeds) le in_order

    its : (n : ℕ) → only n n ≡ true
    its n = grind (arith, nat_tests)

    got : (t n : ℕ) (mine : ℕ → Bool) → mine n ≡ true → Mine t mine (events_of deeds) a.state → IsCalmFor t a.state b.state
        → HasGot n (taken_of n deeds) (find_line n b.state.lines) (those_sent (only n) (run (purge mine (events_of deeds)) (view_of t mine a.state)))
    got t n mine own m calm =
        subst (λ ls. HasGot n (taken_of n deeds) (find_line n b.state.lines) (those_sent (only n) (run (purge mine (events_of deeds)) (let w : View = record (view_of t mine a.state) { lines = ls } in w))))
        (none_back (those mine a.state.lines))
        (told_on t n mine own deeds tried (λ j. []) a.state b.state made in_order (rises_higher 0 a.state.last tried a.state.lines le rises) (λ j closed. refl) m calm).got
