-- Each connection is carried by one socket, however often an edge is turned.
use Rattle.std.proofs.Common.{◌≡◌, ◌≢◌, ◌≤◌, ◌<◌, ◌⊎◌, ◌==◌, ◌||◌, if◌then◌else◌, ℕ, zero, suc, List, [], ◌∷◌, ◌++◌, map, nat_eq, Bool, true, false, not, cond, Option, Some, None, IfSome, slice_get, slice_set, inl, inr, ⊎_elim, ap, refl, sym, subst, ◌∙◌, append_assoc, append-nil, arith}
use Rattle.std.specs.List.{AllByRecursion, filter, find, flat_map, remove}
use Rattle.std.proofs.lemmas.Grind.{flat_map-append}
use Rattle.std.proofs.lemmas.Bool.Decides.{eqb_tells, nat_tests}
use Rattle.kb_store.specs.Disk.{Disk}
use Rattle.kb_isolation_spec.specs.Machine.{Closes, Comes, Happening, Moment, Opens}
use Rattle.kb_isolation_spec.specs.Broker.{IsEventRun}
use Rattle.kb_broker.specs.Hosts.{OnStore}
use Rattle.kb_node.specs.declared.socket.Socket.{Socket}
use Rattle.kb_node.specs.Traffic.{Along, AreAbout, Commit, Deed, Event, Fail, IsUsed, Take, connection_in, connection_of, events_of, handed_by, piece_in, read_by, taken_by, tried_after, written_by}
use Rattle.kb_node.specs.Carries.{CarriesWith, GoesOn, unhanded_of, unwritten_of}
use Rattle.kb_node.specs.Commits.{Host}
use Rattle.kb_node.specs.Cores.{Core, Seen, core, open_ones}
use Rattle.kb_node.specs.Got.{taken_of}
use Rattle.kb_node.specs.Moves.{Carry, IsMoved, IsTurn, Leave, LeaveAt, Move, Open, Settle}
use Rattle.kb_node.specs.Numbers.{IsInOrder, Rise}
use Rattle.kb_node.specs.Streams.{AreCarried, BeginsWith, EndsWith, IsCarried, IsCarriedIn, IsUncarried, came_in, core_of, handed_of, is_broken_in, is_closed_in, unhanded_in, unwritten_in}
use Rattle.kb_node.proofs.Carries.{either, goes_on, or_right}
use Rattle.kb_node.proofs.Goes.{SettledAs, of_move, of_moves, of_settled, run_begins, run_of, run_on, run_through}
use Rattle.kb_node.proofs.Numbers.{behind_here, behind_other, find_here, is_it, is_not, move_keeps, moved, none_above, none_below, remove_here, remove_other, rise_filter, rises_by, set_here, set_other, turn_keeps}
use Rattle.kb_node.proofs.Traffic.{along_then}

-- 1. What was taken and handed on

some_is : {X : Type 0} (x y : X) → Some x ≡ Some y → x ≡ y
some_is x y is = cc

picked : (n k : ℕ) (xs ys : List ℕ) → n ≡ k → (if n == k then xs else ys) ≡ xs
picked n k xs ys is = grind (arith, nat_tests)

skipped : (n k : ℕ) (xs ys : List ℕ) → n ≢ k → (if n == k then xs else ys) ≡ ys
skipped n k xs ys is = grind (arith, nat_tests)

taken_then : (n : ℕ) (ds es : List Deed) → taken_of n (ds ++ es) ≡ taken_of n ds ++ taken_of n es
taken_then n [] es = refl
taken_then n (Event e ∷ ds) es = taken_then n ds es
taken_then n (Take k bytes ∷ ds) es = by (n == k) (taken_then n ds es)
  where
    by : (b : Bool) → taken_of n (ds ++ es) ≡ taken_of n ds ++ taken_of n es
        → (if b then bytes ++ taken_of n (ds ++ es) else taken_of n (ds ++ es)) ≡ (if b then bytes ++ taken_of n ds else taken_of n ds) ++ taken_of n es
    by true h = ap (λ x. bytes ++ x) h ∙ sym (append_assoc bytes (taken_of n ds) (taken_of n es))
    by false h = h
taken_then n (Commit ∷ ds) es = taken_then n ds es
taken_then n (Fail ∷ ds) es = taken_then n ds es

handed_then : (n : ℕ) (ds es : List Deed) → handed_of n (ds ++ es) ≡ handed_of n ds ++ handed_of n es
handed_then n [] es = refl
handed_then n (Event e ∷ ds) es = ap (λ x. came_in n e ++ x) (handed_then n ds es) ∙ sym (append_assoc (came_in n e) (handed_of n ds) (handed_of n es))
handed_then n (Take k bytes ∷ ds) es = handed_then n ds es
handed_then n (Commit ∷ ds) es = handed_then n ds es
handed_then n (Fail ∷ ds) es = handed_then n ds es

-- of deeds about a connection that is all that was, and of those about another it is nothing

taken_about : (n : ℕ) (ds : List Deed) → AreAbout n ds → taken_of n ds ≡ flat_map taken_by ds
taken_about n [] all = refl
taken_about n (Event e ∷ ds) all = taken_about n ds all.1
taken_about n (Take k bytes ∷ ds) all = picked n k (bytes ++ taken_of n ds) (taken_of n ds) (sym (some_is k n all.0)) ∙ ap (λ x. bytes ++ x) (taken_about n ds all.1)
taken_about n (Commit ∷ ds) all = absurd (let no : None ≡ Some n = all.0 in cc)
taken_about n (Fail ∷ ds) all = absurd (let no : None ≡ Some n = all.0 in cc)

came_about : (n : ℕ) (e : Happening) → connection_in e ≡ Some n → came_in n e ≡ piece_in e
came_about n (Opens k) is = refl
came_about n (Comes k piece) is = picked n k piece [] (sym (some_is k n is))
came_about n (Closes k) is = refl
came_about n (Moment now) is = refl

handed_about : (n : ℕ) (ds : List Deed) → AreAbout n ds → handed_of n ds ≡ flat_map handed_by ds
handed_about n [] all = refl
handed_about n (Event e ∷ ds) all = ap (λ x. x ++ handed_of n ds) (came_about n e all.0) ∙ ap (λ x. piece_in e ++ x) (handed_about n ds all.1)
handed_about n (Take k bytes ∷ ds) all = handed_about n ds all.1
handed_about n (Commit ∷ ds) all = absurd (let no : None ≡ Some n = all.0 in cc)
handed_about n (Fail ∷ ds) all = absurd (let no : None ≡ Some n = all.0 in cc)

taken_other : (n k : ℕ) (ds : List Deed) → n ≢ k → AreAbout k ds → taken_of n ds ≡ []
taken_other n k [] ne all = refl
taken_other n k (Event e ∷ ds) ne all = taken_other n k ds ne all.1
taken_other n k (Take j bytes ∷ ds) ne all =
    skipped n j (bytes ++ taken_of n ds) (taken_of n ds) (λ e. ne (e ∙ some_is j k all.0)) ∙ taken_other n k ds ne all.1
taken_other n k (Commit ∷ ds) ne all = absurd (let no : None ≡ Some k = all.0 in cc)
taken_other n k (Fail ∷ ds) ne all = absurd (let no : None ≡ Some k = all.0 in cc)

came_other : (n k : ℕ) (e : Happening) → n ≢ k → connection_in e ≡ Some k → came_in n e ≡ []
came_other n k (Opens j) ne is = refl
came_other n k (Comes j piece) ne is = skipped n j piece [] (λ e. ne (e ∙ some_is j k is))
came_other n k (Closes j) ne is = refl
came_other n k (Moment now) ne is = refl

handed_other : (n k : ℕ) (ds : List Deed) → n ≢ k → AreAbout k ds → handed_of n ds ≡ []
handed_other n k [] ne all = refl
handed_other n k (Event e ∷ ds) ne all = ap (λ x. x ++ handed_of n ds) (came_other n k e ne all.0) ∙ handed_other n k ds ne all.1
handed_other n k (Take j bytes ∷ ds) ne all = handed_other n k ds ne all.1
handed_other n k (Commit ∷ ds) ne all = absurd (let no : None ≡ Some k = all.0 in cc)
handed_other n k (Fail ∷ ds) ne all = absurd (let no : None ≡ Some k = all.0 in cc)

-- 2. One after another

or_first : (a b : Bool) → a ≡ true → (a || b) ≡ true
or_first true b h = refl
or_first false b h = absurd (let no : false ≡ true = h in cc)

or_cases : (a b : Bool) → (a || b) ≡ true → (a ≡ true) ⊎ (b ≡ true)
or_cases true b h = inl refl
or_cases false b h = inr h

if_some : {X : Type 0} {P Q : X → Type 0} (o : Option X) → ((x : X) → P x → Q x) → IfSome o P → IfSome o Q
if_some None f h = h
if_some (Some x) f h = f x h

-- what went on before and what goes on then, or nothing does
goes_then : (all more gone on mid rest : List ℕ) (held holds : Type 0) → GoesOn all gone held mid → GoesOn (mid ++ more) on holds rest
    → held ⊎ ((more ≡ []) × (on ≡ []) × (holds → ⊥)) → GoesOn (all ++ more) (gone ++ on) holds rest
goes_then all more gone on mid rest held holds one two which = ⊎_elim
    (λ there. goes_on all gone mid more on rest holds (one.1 ∙ ap (λ x. gone ++ x) (one.2 there)) two)
    (λ none. (
      one.0,
      ap (λ x. all ++ x) none.0 ∙ append-nil all ∙ one.1 ∙ ap (λ x. x ++ one.0) (sym (append-nil gone)) ∙ ap (λ x. (gone ++ x) ++ one.0) (sym none.1),
      λ holds. absurd (none.2 holds),
    ))
    which

broken_closed : {T : Type 0} (o : Option (Core T)) → is_closed_in o ≡ true → is_broken_in o ≡ true
broken_closed None is = refl
broken_closed (Some c) is = or_right c.is_lost c.is_ended is

module _ {T : Type 0} (contents remaining : T → Option (List ℕ)) (n : ℕ) where
  -- behind an end, and what was lost, nothing is read or handed on
  behind_broken : (ds : List Deed) (a b : ℕ) (c : Core T) (p : Option (Core T)) (two : IsCarried contents remaining n ds a b (Some c) p)
      → (c.is_lost || c.is_ended) ≡ true → (is_broken_in p ≡ true) × (flat_map read_by two.uses ≡ []) × (handed_of n ds ≡ [])
  behind_broken ds a b c p two is = ⊎_elim
      (λ lost. two.lost lost)
      (λ ended. let h = two.ended ended in (broken_closed p h.0, ap (λ x. flat_map read_by x) h.1, h.3))
      (or_cases c.is_lost c.is_ended is)

  writes_then : (ds es : List Deed) (a b k : ℕ) (o : Option (Core T)) (c : Core T) (p : Option (Core T))
      (one : IsCarried contents remaining n ds a b o (Some c)) (two : IsCarried contents remaining n es b k (Some c) p)
      → GoesOn (unwritten_in o ++ taken_of n (ds ++ es)) (flat_map written_by (one.uses ++ two.uses)) (is_closed_in p ≡ false) (unwritten_in p)
  writes_then ds es a b k o c p one two =
      subst (λ x. GoesOn (unwritten_in o ++ x) (flat_map written_by (one.uses ++ two.uses)) (is_closed_in p ≡ false) (unwritten_in p)) (sym (taken_then n ds es))
      (subst (λ x. GoesOn (unwritten_in o ++ (taken_of n ds ++ taken_of n es)) x (is_closed_in p ≡ false) (unwritten_in p)) (sym (flat_map-append written_by one.uses two.uses))
      (subst (λ x. GoesOn x (flat_map written_by one.uses ++ flat_map written_by two.uses) (is_closed_in p ≡ false) (unwritten_in p)) (append_assoc (unwritten_in o) (taken_of n ds) (taken_of n es))
      (goes_then (unwritten_in o ++ taken_of n ds) (taken_of n es) (flat_map written_by one.uses) (flat_map written_by two.uses) c.unwritten (unwritten_in p)
      (c.is_ended ≡ false) (is_closed_in p ≡ false) one.writes two.writes
      (⊎_elim
      (λ ended. let h = two.ended ended in inr (h.2, ap (λ x. flat_map written_by x) h.1, λ unended. let no : true ≡ false = sym h.0 ∙ unended in cc))
      (λ unended. inl unended)
      (either c.is_ended)))))

  hands_then : (ds es : List Deed) (a b k : ℕ) (o : Option (Core T)) (c : Core T) (p : Option (Core T))
      (one : IsCarried contents remaining n ds a b o (Some c)) (two : IsCarried contents remaining n es b k (Some c) p)
      → GoesOn (unhanded_in o ++ flat_map read_by (one.uses ++ two.uses)) (handed_of n (ds ++ es)) (is_broken_in p ≡ false) (unhanded_in p)
  hands_then ds es a b k o c p one two =
      subst (λ x. GoesOn (unhanded_in o ++ flat_map read_by (one.uses ++ two.uses)) x (is_broken_in p ≡ false) (unhanded_in p)) (sym (handed_then n ds es))
      (subst (λ x. GoesOn (unhanded_in o ++ x) (handed_of n ds ++ handed_of n es) (is_broken_in p ≡ false) (unhanded_in p)) (sym (flat_map-append read_by one.uses two.uses))
      (subst (λ x. GoesOn x (handed_of n ds ++ handed_of n es) (is_broken_in p ≡ false) (unhanded_in p)) (append_assoc (unhanded_in o) (flat_map read_by one.uses) (flat_map read_by two.uses))
      (goes_then (unhanded_in o ++ flat_map read_by one.uses) (flat_map read_by two.uses) (handed_of n ds) (handed_of n es) c.unhanded (unhanded_in p)
      ((c.is_lost || c.is_ended) ≡ false) (is_broken_in p ≡ false) one.hands_on two.hands_on
      (⊎_elim
      (λ broken. let h = behind_broken es b k c p two broken in inr (h.1, h.2, λ whole. let no : true ≡ false = sym h.0 ∙ whole in cc))
      (λ whole. inl whole)
      (either (c.is_lost || c.is_ended))))))

  carried_then : (ds es : List Deed) (a b k : ℕ) (o m p : Option (Core T)) → IsCarried contents remaining n ds a b o m
      → IsCarried contents remaining n es b k m p → IsCarried contents remaining n (ds ++ es) a k o p
  carried_then ds es a b k o None p one two = absurd (omega (arith, one.ends, two.begins))
  carried_then ds es a b k o (Some c) p one two = record {
    first = one.first;
    last = two.last;
    uses = one.uses ++ two.uses;
    begins = one.begins;
    ends = two.ends;
    used = along_then (IsUsed contents remaining) one.uses two.uses one.first one.last two.last one.used
        (subst (λ s. Along (IsUsed contents remaining) two.uses s two.last) (sym two.begins ∙ one.ends) two.used);
    writes = writes_then ds es a b k o c p one two;
    hands_on = hands_then ds es a b k o c p one two;
    ended = if_some o (λ d was is. let h = was is in let i = two.ended h.0 in (
      i.0,
      ap (λ x. x ++ two.uses) h.1 ∙ i.1,
      taken_then n ds es ∙ ap (λ x. x ++ taken_of n es) h.2 ∙ i.2,
      handed_then n ds es ∙ ap (λ x. x ++ handed_of n es) h.3 ∙ i.3,
    )) one.ended;
    lost = if_some o (λ d was is. let h = was is in let i = behind_broken es b k c p two h.0 in (
      i.0,
      flat_map-append read_by one.uses two.uses ∙ ap (λ x. x ++ flat_map read_by two.uses) h.1 ∙ i.1,
      handed_then n ds es ∙ ap (λ x. x ++ handed_of n es) h.2 ∙ i.2,
    )) one.lost;
  }

  -- where no socket carried it before
  from_nobody : (ds es : List Deed) (a b k : ℕ) (p : Option (Core T)) → taken_of n ds ≡ [] → handed_of n ds ≡ [] → a ≤ b
      → IsCarried contents remaining n es b k None p → IsCarried contents remaining n (ds ++ es) a k None p
  from_nobody ds es a b k p taken handed le two = record {
    first = two.first;
    last = two.last;
    uses = two.uses;
    begins = omega (arith, le, two.begins);
    ends = two.ends;
    used = two.used;
    writes = subst (λ x. GoesOn x (flat_map written_by two.uses) (is_closed_in p ≡ false) (unwritten_in p))
        (sym (taken_then n ds es ∙ ap (λ x. x ++ taken_of n es) taken)) two.writes;
    hands_on = subst (λ x. GoesOn (flat_map read_by two.uses) x (is_broken_in p ≡ false) (unhanded_in p))
        (sym (handed_then n ds es ∙ ap (λ x. x ++ handed_of n es) handed)) two.hands_on;
    ended = tt;
    lost = tt;
  }

  -- and where none carries it any more
  to_nobody : (ds es : List Deed) (a b k : ℕ) (o : Option (Core T)) → taken_of n es ≡ [] → handed_of n es ≡ [] → b ≤ k
      → IsCarried contents remaining n ds a b o None → IsCarried contents remaining n (ds ++ es) a k o None
  to_nobody ds es a b k o taken handed le one =
      let all : taken_of n (ds ++ es) ≡ taken_of n ds = taken_then n ds es ∙ ap (λ x. taken_of n ds ++ x) taken ∙ append-nil (taken_of n ds) in
      let came : handed_of n (ds ++ es) ≡ handed_of n ds = handed_then n ds es ∙ ap (λ x. handed_of n ds ++ x) handed ∙ append-nil (handed_of n ds) in
      record {
        first = one.first;
        last = one.last;
        uses = one.uses;
        begins = one.begins;
        ends = omega (arith, le, one.ends);
        used = one.used;
        writes = subst (λ x. GoesOn (unwritten_in o ++ x) (flat_map written_by one.uses) (true ≡ false) []) (sym all) one.writes;
        hands_on = subst (λ x. GoesOn (unhanded_in o ++ flat_map read_by one.uses) x (true ≡ false) []) (sym came) one.hands_on;
        ended = if_some o (λ d was is. let h = was is in (h.0, h.1, all ∙ h.2, came ∙ h.3)) one.ended;
        lost = if_some o (λ d was is. let h = was is in (h.0, h.1, came ∙ h.2)) one.lost;
      }

  -- carried by one socket, or by none
  abbrev Either : List Deed → ℕ → ℕ → Option (Core T) → Option (Core T) → Type 0
  Either ds a b o p = IsCarried contents remaining n ds a b o p ⊎ IsUncarried n ds o p

  either_then : (ds es : List Deed) (a b k : ℕ) (o m p : Option (Core T)) → a ≤ b → b ≤ k → Either ds a b o m → Either es b k m p
      → Either (ds ++ es) a k o p
  either_then ds es a b k o m p low high one two = ⊎_elim
      (λ c. ⊎_elim
      (λ d. inl (carried_then ds es a b k o m p c d))
      (λ none. inl (subst (λ x. IsCarried contents remaining n (ds ++ es) a k o x) (sym none.after)
      (to_nobody ds es a b k o none.taken none.handed high (subst (λ x. IsCarried contents remaining n ds a b o x) none.before c))))
      two)
      (λ none. ⊎_elim
      (λ d. inl (subst (λ x. IsCarried contents remaining n (ds ++ es) a k x p) (sym none.before)
      (from_nobody ds es a b k p none.taken none.handed low (subst (λ x. IsCarried contents remaining n es b k x p) none.after d))))
      (λ still. inr (record {
        before = none.before;
        after = still.after;
        taken = taken_then n ds es ∙ ap (λ x. x ++ taken_of n es) none.taken ∙ still.taken;
        handed = handed_then n ds es ∙ ap (λ x. x ++ handed_of n es) none.handed ∙ still.handed;
      }))
      two)
      one

  -- 3. What becomes of one in a move

  -- it stays as it is
  stays : (ds : List Deed) (a b : ℕ) (o : Option (Core T)) → taken_of n ds ≡ [] → handed_of n ds ≡ [] → Either ds a b o o
  stays ds a b None taken handed = inr (record { before = refl; after = refl; taken = taken; handed = handed })
  stays ds a b (Some c) taken handed = inl (record {
    first = c.stream;
    last = c.stream;
    uses = [];
    begins = refl;
    ends = refl;
    used = refl;
    writes = (c.unwritten, ap (λ x. c.unwritten ++ x) taken ∙ append-nil c.unwritten, λ _. refl);
    hands_on = (c.unhanded, append-nil c.unhanded ∙ ap (λ x. x ++ c.unhanded) (sym handed), λ _. refl);
    ended = λ is. (is, refl, taken, handed);
    lost = λ is. (or_first c.is_lost c.is_ended is, refl, handed);
  })

  stays_at : (ds : List Deed) (a b : ℕ) (o p : Option (Core T)) → p ≡ o → taken_of n ds ≡ [] → handed_of n ds ≡ [] → Either ds a b o p
  stays_at ds a b o p is taken handed = subst (λ x. Either ds a b o x) (sym is) (stays ds a b o taken handed)

  -- its socket joins the others
  joins : (ds : List Deed) (a b : ℕ) (stream : T) → a < n → taken_of n ds ≡ [] → handed_of n ds ≡ []
      → IsCarried contents remaining n ds a b None
      (Some (record { connection = n; stream = stream; unwritten = []; unhanded = []; is_lost = false; is_ended = false }))
  joins ds a b stream new taken handed = record {
    first = stream;
    last = stream;
    uses = [];
    begins = new;
    ends = refl;
    used = refl;
    writes = ([], taken, λ _. refl);
    hands_on = ([], sym (append-nil (handed_of n ds) ∙ handed), λ _. refl);
    ended = tt;
    lost = tt;
  }

  -- it leaves the others, where it is closed
  leaves : (a b : ℕ) (c : Core T) → c.is_ended ≡ true → n ≤ b → IsCarried contents remaining n [] a b (Some c) None
  leaves a b c ended old = record {
    first = c.stream;
    last = c.stream;
    uses = [];
    begins = refl;
    ends = old;
    used = refl;
    writes = (c.unwritten, append-nil c.unwritten, λ unended. absurd (let no : true ≡ false = unended in cc));
    hands_on = (c.unhanded, append-nil c.unhanded, λ whole. absurd (let no : true ≡ false = whole in cc));
    ended = λ is. (refl, refl, refl, refl);
    lost = λ is. (refl, refl, refl);
  }

-- it carries
carries_on : {S T : Type 0} {disk : S → Disk} {known : Deed → S → Type 0} {contents remaining : T → Option (List ℕ)} {from to : OnStore S} (s t : Socket T) (a : ℕ) → s.is_ended ≡ false
    → (c : CarriesWith disk known contents remaining s t from to) → IsCarried contents remaining s.connection c.deeds a a (Some (core s)) (Some (core t))
carries_on s t a unended c =
    let handed = handed_about s.connection c.deeds c.about in
    record {
      first = s.stream;
      last = t.stream;
      uses = c.uses;
      begins = refl;
      ends = refl;
      used = c.used;
      writes = subst (λ x. GoesOn (unwritten_of s ++ x) (flat_map written_by c.uses) (t.is_ended ≡ false) (unwritten_of t))
          (sym (taken_about s.connection c.deeds c.about)) c.writes;
      hands_on = subst (λ x. GoesOn (unhanded_of s ++ flat_map read_by c.uses) x ((t.is_lost || t.is_ended) ≡ false) (unhanded_of t)) (sym handed) c.hands_on;
      ended = λ is. absurd (let no : true ≡ false = sym is ∙ unended in cc);
      lost = λ is. let h = c.lost is in (or_first t.is_lost t.is_ended h.0, h.1, handed ∙ h.2);
    }

-- 4. Which socket is found after a move

removed_none : {X : Type 0} (xs : List X) (p : ℕ) → slice_get xs p ≡ None → remove xs p ≡ xs
removed_none [] zero is = refl
removed_none [] (suc p) is = refl
removed_none (x ∷ xs) zero is = absurd (let no : Some x ≡ None = is in cc)
removed_none (x ∷ xs) (suc p) is = ap (λ ys. x ∷ ys) (removed_none xs p is)

module _ {T : Type 0} where
  found_within : (low last n : ℕ) (xs : List (Core T)) (c : Core T) → Rise low last (map (λ c. c.connection) xs) → core_of n xs ≡ Some c → n ≤ last
  found_within low last n [] c r at = absurd (let no : None ≡ Some c = at in cc)
  found_within low last n (x ∷ xs) c r at = ⊎_elim
      (λ same. let h = rises_by x.connection last (map (λ c. c.connection) xs) r.1 in omega (arith, h, same.1))
      (λ other. found_within x.connection last n xs c r.1 (sym (is_not (λ (c : Core T). c.connection) n x xs other.1) ∙ at))
      (eqb_tells x.connection n)

  -- one of another number is left out, or not
  passed : (n : ℕ) (b : Bool) (x : Core T) (xs : List (Core T)) → x.connection ≢ n → core_of n (cond b (x ∷ xs) xs) ≡ core_of n xs
  passed n true x xs ne = is_not (λ (c : Core T). c.connection) n x xs ne
  passed n false x xs ne = refl

  -- a socket is found as before, or it was closed and has left
  abbrev StaysOrLeft : ℕ → List (Core T) → List (Core T) → Type 0
  StaysOrLeft n xs ys = (core_of n ys ≡ core_of n xs) ⊎ ((c : Core T) × (core_of n xs ≡ Some c) × (c.is_ended ≡ true) × (core_of n ys ≡ None))

  left_open : (low last n : ℕ) (xs : List (Core T)) → Rise low last (map (λ c. c.connection) xs) → StaysOrLeft n xs (open_ones xs)
  left_open low last n [] r = inl refl
  left_open low last n (x ∷ xs) r =
      let ys = open_ones xs in
      ⊎_elim
      (λ same. ⊎_elim
      (λ ended. inr (
        x,
        is_it (λ (c : Core T). c.connection) n x xs same.1,
        ended,
        ap (λ e. core_of n (cond (not e) (x ∷ ys) ys)) ended
            ∙ none_below (λ (c : Core T). c.connection) x.connection last n ys
            (rise_filter (λ (c : Core T). c.connection) x.connection last xs (λ c. not c.is_ended) r.1) (let is = same.1 in omega (arith, is)),
      ))
      (λ unended. inl (ap (λ e. core_of n (cond (not e) (x ∷ ys) ys)) unended
      ∙ is_it (λ (c : Core T). c.connection) n x ys same.1 ∙ sym (is_it (λ (c : Core T). c.connection) n x xs same.1)))
      (either x.is_ended))
      (λ other. let out = passed n (not x.is_ended) x ys other.1 in let in_ = is_not (λ (c : Core T). c.connection) n x xs other.1 in
      ⊎_elim (λ stays. inl (out ∙ stays ∙ sym in_)) (λ left. inr (left.0, in_ ∙ left.1, left.2, out ∙ left.3)) (left_open x.connection last n xs r.1))
      (eqb_tells x.connection n)

-- 5. Moves, one after another

module _ {S T : Type 0} (disk : S → Disk) (known : Deed → S → Type 0) (contents remaining : T → Option (List ℕ)) where
  -- where it was found and where it is found
  at_both : (n : ℕ) (ds : List Deed) (a b : ℕ) (o o' p p' : Option (Core T)) → o' ≡ o → p' ≡ p → IsCarried contents remaining n ds a b o p
      → IsCarried contents remaining n ds a b o' p'
  at_both n ds a b o o' p p' before after h = subst (λ x. IsCarried contents remaining n ds a b x p') (sym before)
      (subst (λ x. IsCarried contents remaining n ds a b o x) (sym after) h)

  stays_in : (n : ℕ) (ds : List Deed) (from to : Seen S T) → core_of n to.sockets ≡ core_of n from.sockets → taken_of n ds ≡ [] → handed_of n ds ≡ []
      → IsCarriedIn contents remaining n ds from to
  stays_in n ds from to is taken handed =
      stays_at contents remaining n ds from.host.tried to.host.tried (core_of n from.sockets) (core_of n to.sockets) is taken handed

  joined_in : (k n : ℕ) (stream : T) (from to : Seen S T) → from.host.tried < k
      → to.sockets ≡ from.sockets ++ record { connection = k; stream = stream; unwritten = []; unhanded = []; is_lost = false; is_ended = false } ∷ []
      → IsInOrder from → IsCarriedIn contents remaining n (Event (Opens k) ∷ []) from to
  joined_in k n stream from to rises behind r =
      let new : Core T = record { connection = k; stream = stream; unwritten = []; unhanded = []; is_lost = false; is_ended = false } in
      ⊎_elim
      (λ same. subst (λ i. IsCarriedIn contents remaining i (Event (Opens k) ∷ []) from to) (sym same.1)
      (inl (at_both k (Event (Opens k) ∷ []) from.host.tried to.host.tried None (core_of k from.sockets) (Some new) (core_of k to.sockets)
      (none_above (λ (c : Core T). c.connection) 0 from.host.tried k from.sockets r rises)
      (ap (λ xs. core_of k xs) behind ∙ behind_here (λ (c : Core T). c.connection) 0 from.host.tried from.sockets new r rises)
      (joins contents remaining k (Event (Opens k) ∷ []) from.host.tried to.host.tried stream rises refl refl))))
      (λ other. stays_in n (Event (Opens k) ∷ []) from to
      (ap (λ xs. core_of n xs) behind ∙ behind_other (λ (c : Core T). c.connection) n from.sockets new other.1) refl refl)
      (eqb_tells n k)

  left_in : (n : ℕ) (from to : Seen S T) → to.host ≡ from.host → IsInOrder from → StaysOrLeft n from.sockets to.sockets
      → IsCarriedIn contents remaining n [] from to
  left_in n from to same r = λ which. ⊎_elim
      (λ stays. stays_in n [] from to stays refl refl)
      (λ left. let within = found_within 0 from.host.tried n from.sockets left.0 r left.1 in let tried = ap (λ (x : Host S). x.tried) same in
      inl (at_both n [] from.host.tried to.host.tried (Some left.0) (core_of n from.sockets) None (core_of n to.sockets) left.1 left.3
      (leaves contents remaining n from.host.tried to.host.tried left.0 left.2 (omega (arith, within, tried)))))
      which

  removed_at : (n p : ℕ) (xs ys : List (Core T)) (tried : ℕ) (o : Option (Core T)) → slice_get xs p ≡ o → IfSome o (λ c. c.is_ended ≡ true)
      → ys ≡ remove xs p → Rise 0 tried (map (λ c. c.connection) xs) → StaysOrLeft n xs ys
  removed_at n p xs ys tried None at ended is r = inl (ap (λ zs. core_of n zs) (is ∙ removed_none xs p at))
  removed_at n p xs ys tried (Some c) at ended is r = ⊎_elim
      (λ same. subst (λ i. StaysOrLeft i xs ys) (sym same.1) (inr (
        c,
        find_here (λ (c : Core T). c.connection) 0 tried xs p c r at,
        ended,
        ap (λ zs. core_of c.connection zs) is ∙ remove_here (λ (c : Core T). c.connection) 0 tried xs p c r at,
      )))
      (λ other. inl (ap (λ zs. core_of n zs) is ∙ remove_other (λ (c : Core T). c.connection) n xs p c at other.1))
      (eqb_tells n c.connection)

  -- a commit, or one that was refused, is about no connection
  settled_in : (n : ℕ) (from to : Seen S T) (tried : to.host.tried ≡ from.host.tried) (answer : SettledAs disk known from.host to.host)
      → core_of n to.sockets ≡ core_of n from.sockets
      → IsCarriedIn contents remaining n (of_settled disk known contents remaining from to tried answer).deeds from to
  unfolding of_settled
  settled_in n from to tried (inl done) same = stays_in n (Commit ∷ []) from to same refl refl
  settled_in n from to tried (inr done) same = stays_in n (Fail ∷ []) from to same refl refl

  one_move : (m : Move) (from to : Seen S T) (h : IsMoved disk known contents remaining m from to) → IsInOrder from → (n : ℕ)
      → IsCarriedIn contents remaining n (of_move disk known contents remaining m from to h).deeds from to
  unfolding of_move
  one_move (Open k) from to h r n = ⊎_elim
      (λ none. stays_in n (Event (Opens k) ∷ []) from to (ap (λ xs. core_of n xs) none.sockets) refl refl)
      (λ kept. joined_in k n kept.0 from to h.rises kept.1.joined.behind r)
      h.sockets
  one_move (Carry k) from to h r n =
      let s = h.old in let t = h.new in let c = h.carries in
      ⊎_elim
      (λ same. subst (λ i. IsCarriedIn contents remaining i c.deeds from to) (sym same.1)
      (inl (at_both s.connection c.deeds from.host.tried to.host.tried (Some (core s)) (core_of s.connection from.sockets) (Some (core t)) (core_of s.connection to.sockets)
      (find_here (λ (c : Core T). c.connection) 0 from.host.tried from.sockets h.place (core s) r h.before)
      (ap (λ xs. core_of s.connection xs) h.after
      ∙ set_here (λ (c : Core T). c.connection) 0 from.host.tried from.sockets h.place (core s) (core t) r h.before (h.same ∙ sym h.number))
      (subst (λ b. IsCarried contents remaining s.connection c.deeds from.host.tried b (Some (core s)) (Some (core t))) (sym h.tried)
      (carries_on s t from.host.tried h.not_ended c)))))
      (λ other. stays_in n c.deeds from to
      (ap (λ xs. core_of n xs) h.after ∙ set_other (λ (c : Core T). c.connection) n from.sockets h.place (core s) (core t) h.before (h.same ∙ sym h.number) other.1)
      (taken_other n s.connection c.deeds other.1 c.about) (handed_other n s.connection c.deeds other.1 c.about))
      (eqb_tells n s.connection)
  one_move Leave from to h r n = left_in n from to h.0 r (subst (λ ys. StaysOrLeft n from.sockets ys) (sym h.1) (left_open 0 from.host.tried n from.sockets r))
  one_move (LeaveAt p) from to h r n =
      left_in n from to h.0 r (removed_at n p from.sockets to.sockets from.host.tried (slice_get from.sockets p) refl h.1 h.2 r)
  one_move Settle from to h r n = settled_in n from to h.tried h.answer (ap (λ xs. core_of n xs) h.sockets)

  tries_rise : (m : Move) (from to : Seen S T) → IsMoved disk known contents remaining m from to → from.host.tried ≤ to.host.tried
  tries_rise (Open n) from to h = omega (arith, h.rises, h.tried)
  tries_rise (Carry n) from to h = omega (arith, h.tried)
  tries_rise Leave from to h = let is = ap (λ (x : Host S). x.tried) h.0 in omega (arith, is)
  tries_rise (LeaveAt p) from to h = let is = ap (λ (x : Host S). x.tried) h.0 in omega (arith, is)
  tries_rise Settle from to h = omega (arith, h.tried)

  all_rise : (ms : List Move) (from to : Seen S T) → Along (IsMoved disk known contents remaining) ms from to → from.host.tried ≤ to.host.tried
  all_rise [] from to h = let is = ap (λ (x : Seen S T). x.host.tried) h in omega (arith, is)
  all_rise (m ∷ ms) from to h = let one = tries_rise m from h.0 h.1 in let rest = all_rise ms h.0 to h.2 in omega (arith, one, rest)

  all_moves : (ms : List Move) (from to : Seen S T) (h : Along (IsMoved disk known contents remaining) ms from to) → IsInOrder from → (n : ℕ)
      → IsCarriedIn contents remaining n (of_moves disk known contents remaining ms from to h).deeds from to
  unfolding of_moves
  all_moves [] from to h r n = stays_in n [] from to (ap (λ (x : Seen S T). core_of n x.sockets) h) refl refl
  all_moves (m ∷ ms) from to h r n =
      either_then contents remaining n (of_move disk known contents remaining m from h.0 h.1).deeds (of_moves disk known contents remaining ms h.0 to h.2).deeds
      from.host.tried h.0.host.tried to.host.tried (core_of n from.sockets) (core_of n h.0.sockets) (core_of n to.sockets)
      (tries_rise m from h.0 h.1) (all_rise ms h.0 to h.2) (one_move m from h.0 h.1 r n)
      (all_moves ms h.0 to h.2 (move_keeps disk known contents remaining m from h.0 h.1 r) n)

-- 6. Turns

rises_after : (t : ℕ) (es : List Happening) → IsEventRun t es → t ≤ tried_after t es
rises_after t [] h = omega arith
rises_after t (Opens n ∷ es) h = let rest = rises_after n es h.1 in omega (arith, h.0, rest)
rises_after t (Comes n piece ∷ es) h = rises_after t es h
rises_after t (Closes n ∷ es) h = rises_after t es h
rises_after t (Moment now ∷ es) h = rises_after t es h.1

module _ {S T : Type 0} {disk : S → Disk} {known : Deed → S → Type 0} {contents remaining : T → Option (List ℕ)} where
  turn_rises : (now : ℕ) (from to : Seen S T) → IsTurn disk known contents remaining now from to → from.host.tried ≤ to.host.tried
  turn_rises now from to turn =
      let rest = all_rise disk known contents remaining turn.goes.moves turn.begun to turn.goes.done in omega (arith, rest, turn.tried)

  in_turn : (now : ℕ) (from to : Seen S T) (turn : IsTurn disk known contents remaining now from to) → IsInOrder from → (n : ℕ)
      → IsCarriedIn contents remaining n (Event (Moment now) ∷ (run_of turn).deeds) from to
  unfolding run_of
  in_turn now from to turn r n =
      either_then contents remaining n (Event (Moment now) ∷ []) (of_moves disk known contents remaining turn.goes.moves turn.begun to turn.goes.done).deeds
      from.host.tried turn.begun.host.tried to.host.tried (core_of n from.sockets) (core_of n turn.begun.sockets) (core_of n to.sockets)
      (omega (arith, turn.tried)) (all_rise disk known contents remaining turn.goes.moves turn.begun to turn.goes.done)
      (stays_in disk known contents remaining n (Event (Moment now) ∷ []) from turn.begun (ap (λ xs. core_of n xs) turn.sockets) refl refl)
      (all_moves disk known contents remaining turn.goes.moves turn.begun to turn.goes.done
      (moved turn.begun from.host.tried from.sockets turn.tried turn.sockets r) n)

  pub carried_none : (x : Seen S T) → IsInOrder x → AreCarried disk known contents remaining [] x x
  unfolding run_begins run_through
  carried_none x r = record {
    run = run_begins disk known x.host;
    in_order = r;
    each = λ n. stays_in disk known contents remaining n [] x x refl refl refl;
  }

  pub carried_on : (nows : List ℕ) (now : ℕ) (from at to : Seen S T) → AreCarried disk known contents remaining nows from at
      → IsTurn disk known contents remaining now at to → AreCarried disk known contents remaining (nows ++ now ∷ []) from to
  unfolding run_on
  carried_on nows now from at to before turn = record {
    run = run_on disk known nows now from.host at.host to.host before.run (run_of turn);
    in_order = turn_keeps now at to turn before.in_order;
    each = λ n. either_then contents remaining n before.run.deeds (Event (Moment now) ∷ (run_of turn).deeds)
        from.host.tried at.host.tried to.host.tried (core_of n from.sockets) (core_of n at.sockets) (core_of n to.sockets)
        (let rises = rises_after from.host.tried (events_of before.run.deeds) before.run.is_run in omega (arith, rises, before.run.tried))
        (turn_rises now at to turn) (before.each n) (in_turn now at to turn before.in_order n);
  }

  go_on : (before nows : List ℕ) (from at to : Seen S T) → AreCarried disk known contents remaining before from at
      → Along (IsTurn disk known contents remaining) nows at to → AreCarried disk known contents remaining (before ++ nows) from to
  go_on before [] from at to one turns = subst (λ ms. AreCarried disk known contents remaining ms from to) (sym (append-nil before))
      (subst (λ (x : Seen S T). AreCarried disk known contents remaining before from x) (sym turns) one)
  go_on before (now ∷ nows) from at to one turns =
      subst (λ ms. AreCarried disk known contents remaining ms from to) (append_assoc before (now ∷ []) nows)
      (go_on (before ++ now ∷ []) nows from turns.0 to (carried_on before now from at turns.0 one turns.1) turns.2)

  pub carried : (nows : List ℕ) (from to : Seen S T) → Along (IsTurn disk known contents remaining) nows from to → IsInOrder from
      → AreCarried disk known contents remaining nows from to
  carried nows from to turns r = go_on [] nows from from to (carried_none from r) turns
