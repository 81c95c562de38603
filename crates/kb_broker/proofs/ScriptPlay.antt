-- A script, a line at a time.
use Rattle.std.proofs.Common.{◌≡◌, ◌≢◌, ℕ, ◌+◌, ◌-◌, ◌<◌, ◌≤◌, ◌==◌, ◌&&◌, ◌||◌, Bool, true, false, not, cond, nat_lt, nat_le, List, [], ◌∷◌, ◌++◌, All, length, refl, sym, ap, subst, ◌∙◌, arith, Option, Some, None, IfSome, Result, Ok, Err, OnOk, append_assoc, append-nil, length-append}
use Rattle.std.proofs.lemmas.Grind.{common_steps}
use Rattle.std.proofs.lemmas.List.Folds.{concat-append}
use Rattle.std.specs.List.{concat}
use Rattle.std.specs.Io.BufRead.{take_through, drop_through, strip_last, DropsThrough}
use Rattle.std.specs.Io.KnownBytes.{Appends, Consumes}
use Rattle.std.proofs.KnownBytes.{Appends-nil, Appends-trans}
use Rattle.std.proofs.BufReadLemmas.{take_through-append, take_through-nil}
use Rattle.kb_isolation_spec.specs.Machine.{Happening, Opens, Comes, Closes, Moment, Sent}
use Rattle.kb_isolation_spec.specs.Broker.{BrokerState, IsSound, IsReady}
use Rattle.kb_isolation_spec.specs.Calls.{is_calm}
use Rattle.kb_isolation_spec.specs.Told.{said}
use Rattle.kb_broker.specs.declared.script.ScriptFault.{ScriptFault}
use Rattle.kb_broker.specs.declared.script.ScriptFault.TheVariants as faults
use Rattle.kb_broker.specs.Script.{MOST_LINES, MOST_BYTES, LONGEST_LINE, Place, Told, Event, Nothing, Wrong, Course, Plays, Passes, Stops, Script, here, told, is_in_place, after_event, after_course, may_add_line, fault_where, fault_within, IsLengthFault, course_of, course_by, course, onto, pieces, and_then, read_from, said_by, script, script_text}
use Rattle.kb_broker.specs.ScriptRun.{IsQuiet, hushed, IsPlaceIn, IsCutOff, IsLinePlayed, IsBroken, AreStepsWritten, IsWrittenInPart, IsPlayed, IsEnded, IsCut, AreTaken, ArePlayed, HavePlayed, IsStopped, words}
use Rattle.kb_broker.proofs.ScriptWords.{at-hushed, ready-hushed, quiet-hushed}
use Rattle.kb_broker.proofs.ScriptReading.{in-length}
use Rattle.kb_broker.proofs.ScriptTells.{Runs, runs-more, text-more, runs-tell}

-- 1. Lines of a text

pub pieces-first : (x : ℕ) (xs : List ℕ) → pieces (x ∷ xs) ≡ take_through 10 (x ∷ xs) ∷ pieces (drop_through 10 (x ∷ xs))
pieces-first x [] = by (x == 10)
  where
    by : (b : Bool) → cond b ((x ∷ []) ∷ []) ((x ∷ []) ∷ []) ≡ cond b (x ∷ []) (x ∷ []) ∷ pieces (cond b [] [])
    by true = refl
    by false = refl
pieces-first x (y ∷ ys) = by (x == 10) (pieces-first y ys)
  where
    by : (b : Bool) → pieces (y ∷ ys) ≡ take_through 10 (y ∷ ys) ∷ pieces (drop_through 10 (y ∷ ys)) → cond b ((x ∷ []) ∷ pieces (y ∷ ys)) (onto x (pieces (y ∷ ys))) ≡ cond b (x ∷ []) (x ∷ take_through 10 (y ∷ ys)) ∷ pieces (cond b (y ∷ ys) (drop_through 10 (y ∷ ys)))
    by true rest = refl
    by false rest = ap (onto x) rest

-- what is left is its first line and what stands behind it
through-all : (ys : List ℕ) → ys ≡ take_through 10 ys ++ drop_through 10 ys
through-all [] = refl
through-all (x ∷ xs) = by (x == 10) (through-all xs)
  where
    by : (b : Bool) → xs ≡ take_through 10 xs ++ drop_through 10 xs → x ∷ xs ≡ cond b (x ∷ []) (x ∷ take_through 10 xs) ++ cond b xs (drop_through 10 xs)
    by true rest = refl
    by false rest = ap (λ l. x ∷ l) rest

next-line : (line ys : List ℕ) → line ≡ take_through 10 ys → 0 < length line → pieces ys ≡ line ∷ pieces (drop_through 10 ys)
next-line line [] is some = absurd (omega (arith, ap length is))
next-line line (x ∷ xs) is some = pieces-first x xs ∙ ap (λ l. l ∷ pieces (drop_through 10 (x ∷ xs))) (sym is)

-- 2. One line

read-next : (before : List (List ℕ)) (p : Place) (line : List ℕ) (rest : List (List ℕ)) → read_from before p (line ∷ rest) ≡ and_then (course before p line) (read_from (before ++ line ∷ []) (after_course (course before p line) p) rest)
unfolding read_from
read-next before p line rest = refl

read-none : (before : List (List ℕ)) (p : Place) → read_from before p [] ≡ record { events = []; fault = None }
unfolding read_from
read-none before p = refl

-- so many bytes are left behind those lines
abbrev HasLeft : List (List ℕ) → ℕ → Type 0
HasLeft before room = (bytes : ℕ) → 0 < bytes → may_add_line before bytes ≡ nat_le bytes room

le-shift : (start bytes room most : ℕ) → start + room ≡ most → nat_le (start + bytes) most ≡ nat_le bytes room
le-shift start bytes room most e = by (nat_le (start + bytes) most) refl (nat_le bytes room) refl
  where
    by : (a : Bool) → nat_le (start + bytes) most ≡ a → (b : Bool) → nat_le bytes room ≡ b → a ≡ b
    by true f true g = refl
    by false f false g = refl
    by true f false g = absurd (grind (arith, common_steps))
    by false f true g = absurd (grind (arith, common_steps))

left-within : (before : List (List ℕ)) (line room : ℕ) → length before + 1 ≡ line → length (concat before) + room ≡ MOST_BYTES → line ≤ MOST_LINES → HasLeft before room
left-within before line room e f within bytes some =
    let t : nat_lt (length before) MOST_LINES ≡ true = grind (arith, common_steps) in
    ap (λ a. a && nat_le (length (concat before) + bytes) MOST_BYTES) t ∙ le-shift (length (concat before)) bytes room MOST_BYTES f

left-past : (before : List (List ℕ)) (line : ℕ) → length before + 1 ≡ line → MOST_LINES < line → HasLeft before 0
left-past before line e past bytes some =
    let t : nat_lt (length before) MOST_LINES ≡ false = grind (arith, common_steps) in
    let none : nat_le bytes 0 ≡ false = grind (arith, common_steps) in
    ap (λ a. a && nat_le (length (concat before) + bytes) MOST_BYTES) t ∙ sym none

fault-same : (number : ℕ) (f g : ℕ → Bool) (line : List ℕ) → f (LONGEST_LINE + 1) ≡ g (LONGEST_LINE + 1) → f (length line) ≡ g (length line) → fault_where number f line ≡ fault_where number g line
fault-same number f g line e h =
    ap (λ a. cond (nat_lt LONGEST_LINE (length (strip_last 10 line)) && a) (Some (faults.BadLine number)) (cond (f (length line)) None (Some faults.TooLong))) e
    ∙ ap (λ a. cond (nat_lt LONGEST_LINE (length (strip_last 10 line)) && g (LONGEST_LINE + 1)) (Some (faults.BadLine number)) (cond a None (Some faults.TooLong))) h

course-fault : (before : List (List ℕ)) (p : Place) (line : List ℕ) (number room : ℕ) (found : Option ScriptFault) → length before + 1 ≡ number → HasLeft before room → 0 < length line → fault_within number room line ≡ found
    → course before p line ≡ course_by number p line found
unfolding course
course-fault before p line number room found e left some is =
    ap (λ n. course_by n p line (fault_where n (may_add_line before) line)) e
    ∙ ap (course_by number p line) (fault-same number (may_add_line before) (λ bytes. nat_le bytes room) line (left (LONGEST_LINE + 1) (omega arith)) (left (length line) some) ∙ is)

in-place-same : (p q : Place) (e : Happening) → ((k : ℕ) → p.open_now k ≡ q.open_now k) → p.last ≡ q.last → is_in_place p e ≡ is_in_place q e
in-place-same p q (Opens n) o l = ap (λ x. nat_lt x n) l
in-place-same p q (Comes n piece) o l = o n
in-place-same p q (Closes n) o l = o n
in-place-same p q (Moment now) o l = refl

course-same : (p : Place) (b : BrokerState) (number : ℕ) (t : Told) → IsPlaceIn p b → course_of number p t ≡ course_of number (here b) t
course-same p b number Nothing a = refl
course-same p b number Wrong a = refl
course-same p b number (Event f) a = ap (λ x. cond x (Plays f) (Stops (faults.BadLine number))) (in-place-same p (here b) f a.open_now a.last)

at-event : (p : Place) (b new : BrokerState) (e : Happening) → IsPlaceIn p b → IsPlaceIn (after_event e (here b)) new → IsPlaceIn (after_event e p) new
at-event p b new (Opens n) a h = record { open_now = λ k. ap (λ x. k == n || x) (a.open_now k) ∙ h.open_now k; last = h.last }
at-event p b new (Comes n piece) a h = record { open_now = λ k. a.open_now k ∙ h.open_now k; last = a.last ∙ h.last }
at-event p b new (Closes n) a h = record { open_now = λ k. ap (λ x. not (k == n) && x) (a.open_now k) ∙ h.open_now k; last = a.last ∙ h.last }
at-event p b new (Moment now) a h = record { open_now = λ k. a.open_now k ∙ h.open_now k; last = a.last ∙ h.last }

-- a line that stops a script does so under its number
stops-number : (number k : ℕ) (p : Place) (t : Told) → course_of number p t ≡ Stops (faults.BadLine k) → k ≡ number
stops-number number k p Nothing e = cc
stops-number number k p Wrong e = cc
stops-number number k p (Event f) e = by (is_in_place p f) e
  where
    by : (b : Bool) → cond b (Plays f) (Stops (faults.BadLine number)) ≡ Stops (faults.BadLine k) → k ≡ number
    by true e = cc
    by false e = cc

bad-number : (number k : ℕ) (f : ℕ → Bool) (line : List ℕ) → fault_where number f line ≡ Some (faults.BadLine k) → k ≡ number
bad-number number k f line e = by (nat_lt LONGEST_LINE (length (strip_last 10 line)) && f (LONGEST_LINE + 1)) (f (length line)) e
  where
    by : (a d : Bool) → cond a (Some (faults.BadLine number)) (cond d None (Some faults.TooLong)) ≡ Some (faults.BadLine k) → k ≡ number
    by true d e = cc
    by false true e = cc
    by false false e = cc

-- 3. As far as a script was played

-- from one broker, reader and writer to another: the lines that were taken have been played
pub record Played (a b : BrokerState) (xs : List ℕ) (to from_writer to_writer : Option (List ℕ)) (line room : ℕ) : Type 0 where
  pub before : List (List ℕ)
  pub place : Place
  pub ys : List ℕ
  pub es : List Happening
  pub steps : List (List Sent)
  pub left : to ≡ Some ys
  pub lines : pieces xs ≡ before ++ pieces ys
  pub at_line : length before + 1 ≡ line
  pub at_room : length (concat before) + room ≡ MOST_BYTES
  pub stands : IsPlaceIn place b
  pub runs : Runs a es steps b
  pub wrote : Appends from_writer to_writer (script_text steps)
  pub is : (rest : List (List ℕ)) → said_by a (before ++ rest) ≡ record { events = es ++ (read_from before place rest).events; fault = (read_from before place rest).fault }

pub played-start : (a : BrokerState) (known w : Option (List ℕ)) → IfSome known (λ xs. Played a a xs known w w 1 1073741824)
played-start a None w = tt
played-start a (Some xs) w = record {
  before = [];
  place = here a;
  ys = xs;
  es = [];
  steps = [];
  left = refl;
  lines = refl;
  at_line = refl;
  at_room = refl;
  stands = record { open_now = λ k. refl; last = refl };
  runs = refl;
  wrote = Appends-nil w;
  is = λ rest. refl;
}

-- what was played is written
written : (a b : BrokerState) (es : List Happening) (steps : List (List Sent)) (from to : Option (List ℕ)) → is_calm a ≡ true → IsSound a → Runs a es steps b → Appends from to (script_text steps) → AreStepsWritten a es from to
written a b es steps from to calm sound runs wrote = (steps, runs-tell a b es steps runs calm sound, wrote)

-- the events of a text are those that were played and those of what is left
script-is : (a b : BrokerState) (xs : List ℕ) (to w0 w : Option (List ℕ)) (line room : ℕ) → (h : Played a b xs to w0 w line room)
    → script a xs ≡ record { events = h.es ++ (read_from h.before h.place (pieces h.ys)).events; fault = (read_from h.before h.place (pieces h.ys)).fault }
script-is a b xs to w0 w line room h = ap (said_by a) h.lines ∙ h.is (pieces h.ys)

-- those of the lines that were taken are those that were played
said-is : (a b : BrokerState) (xs : List ℕ) (to w0 w : Option (List ℕ)) (line room : ℕ) → (h : Played a b xs to w0 w line room) → said_by a h.before ≡ record { events = h.es; fault = None }
said-is a b xs to w0 w line room h =
    ap (said_by a) (sym (append-nil h.before)) ∙ h.is [] ∙ ap (λ (s : Script). record { events = h.es ++ s.events; fault = s.fault }) (read-none h.before h.place)
    ∙ ap (λ es. record { events = es; fault = None }) (append-nil h.es)

lines-played : (a b : BrokerState) (xs : List ℕ) (to w0 w w2 : Option (List ℕ)) (line room : ℕ) → is_calm a ≡ true → IsSound a → (h : Played a b xs to w0 w line room) → Appends w0 w2 (script_text h.steps) → ArePlayed a h.before w0 w2
lines-played a b xs to w0 w w2 line room calm sound h wrote =
    let is : said_by a h.before ≡ record { events = h.es; fault = None } = said-is a b xs to w0 w line room h in (
      ap (λ (x : Script). x.fault) is,
      subst (λ es. AreStepsWritten a es w0 w2) (sym (ap (λ (x : Script). x.events) is)) (written a b h.es h.steps w0 w2 calm sound h.runs wrote),
    )

same_events : (s : Script) (es : List Happening) (t : Script) → s ≡ record { events = es ++ t.events; fault = t.fault } → t.events ≡ [] → es ≡ s.events
same_events s es t e none = sym (ap (λ (x : Script). x.events) e ∙ ap (λ x. es ++ x) none ∙ append-nil es)

-- no line is left
pub played-end : (a b : BrokerState) (from to w0 w : Option (List ℕ)) (line room : ℕ) → is_calm a ≡ true → IsSound a → IfSome from (λ xs. Played a b xs to w0 w line room) → IfSome to (λ ys. [] ≡ take_through 10 ys)
    → IfSome from (λ xs. IsPlayed a (script a xs) w0 w)
played-end a b None to w0 w line room calm sound h none = tt
played-end a b (Some xs) to w0 w line room calm sound h none =
    let empty : [] ≡ take_through 10 h.ys = subst (λ o. IfSome o (λ ys. [] ≡ take_through 10 ys)) h.left none in
    let ended : h.ys ≡ [] = take_through-nil 10 h.ys (sym (ap length empty)) in
    let all : pieces xs ≡ h.before = h.lines ∙ ap (λ ys. h.before ++ pieces ys) ended ∙ append-nil h.before in
    subst (λ ls. ArePlayed a ls w0 w) (sym all) (lines-played a b xs to w0 w w line room calm sound h h.wrote)

-- the next line ends the script
played-stop : (a b : BrokerState) (xs : List ℕ) (to w0 w : Option (List ℕ)) (line room : ℕ) (fault : ScriptFault) → is_calm a ≡ true → IsSound a → (h : Played a b xs to w0 w line room)
    → read_from h.before h.place (pieces h.ys) ≡ record { events = []; fault = Some fault } → ((script a xs).fault ≡ Some fault) × AreStepsWritten a (script a xs).events w0 w
played-stop a b xs to w0 w line room fault calm sound h left =
    let is = script-is a b xs to w0 w line room h in
    let same : h.es ≡ (script a xs).events = same_events (script a xs) h.es (read_from h.before h.place (pieces h.ys)) is (ap (λ (x : Script). x.events) left) in (
      ap (λ (x : Script). x.fault) is ∙ ap (λ (x : Script). x.fault) left,
      subst (λ es. AreStepsWritten a es w0 w) same (written a b h.es h.steps w0 w calm sound h.runs h.wrote),
    )

no-fault : (number room : ℕ) (fault : ScriptFault) → fault_within number room [] ≡ Some fault → ⊥
no-fault number room fault e = let none = in-length number room [] (omega arith) (omega arith) in cc (sym none ∙ e)

some-through : (ys : List ℕ) (number room : ℕ) (fault : ScriptFault) → fault_within number room (take_through 10 ys) ≡ Some fault → 0 < length (take_through 10 ys)
some-through [] number room fault g = absurd (no-fault number room fault g)
some-through (x ∷ xs) number room fault g = some (x == 10)
  where
    some : (b : Bool) → 0 < length (cond b (x ∷ []) (x ∷ take_through 10 xs))
    some true = omega arith
    some false = omega arith

stops-here : (before : List (List ℕ)) (p : Place) (ys : List ℕ) (line room : ℕ) (fault : ScriptFault) → length before + 1 ≡ line → HasLeft before room → fault_within line room (take_through 10 ys) ≡ Some fault
    → read_from before p (pieces ys) ≡ record { events = []; fault = Some fault }
stops-here before p ys line room fault e left g =
    let text : List ℕ = take_through 10 ys in
    let some : 0 < length text = some-through ys line room fault g in
    ap (read_from before p) (next-line text ys refl some) ∙ read-next before p text (pieces (drop_through 10 ys))
    ∙ ap (λ c. and_then c (read_from (before ++ text ∷ []) (after_course c p) (pieces (drop_through 10 ys)))) (course-fault before p text line room (Some fault) e left some g)

fault-line : (a b : BrokerState) (xs : List ℕ) (to w0 w : Option (List ℕ)) (line room left : ℕ) (fault : ScriptFault) → is_calm a ≡ true → IsSound a → (h : Played a b xs to w0 w line room) → HasLeft h.before left
    → IsLengthFault (fault_within line left (take_through 10 h.ys)) fault → IsEnded a (script a xs) fault w0 w
fault-line a b xs to w0 w line room left (faults.BadLine k) calm sound h e f = played-stop a b xs to w0 w line room (faults.BadLine k) calm sound h (stops-here h.before h.place h.ys line left (faults.BadLine k) h.at_line e f)
fault-line a b xs to w0 w line room left faults.TooLong calm sound h e f = played-stop a b xs to w0 w line room faults.TooLong calm sound h (stops-here h.before h.place h.ys line left faults.TooLong h.at_line e f)
fault-line a b xs to w0 w line room left faults.Read calm sound h e f =
    (h.es, (read_from h.before h.place (pieces h.ys)).events, ap (λ (x : Script). x.events) (script-is a b xs to w0 w line room h), written a b h.es h.steps w0 w calm sound h.runs h.wrote)
fault-line a b xs to w0 w line room left faults.Write calm sound h e f = absurd f
fault-line a b xs to w0 w line room left faults.Memory calm sound h e f =
    (h.es, (read_from h.before h.place (pieces h.ys)).events, ap (λ (x : Script). x.events) (script-is a b xs to w0 w line room h), written a b h.es h.steps w0 w calm sound h.runs h.wrote)

-- the next line was not taken
pub played-fault : (a b : BrokerState) (from to w0 w : Option (List ℕ)) (line room : ℕ) (fault : ScriptFault) → is_calm a ≡ true → IsSound a → line ≤ 1000000 → IfSome from (λ xs. Played a b xs to w0 w line room)
    → IfSome to (λ ys. IsLengthFault (fault_within line room (take_through 10 ys)) fault) → IfSome from (λ xs. IsEnded a (script a xs) fault w0 w)
played-fault a b None to w0 w line room fault calm sound within h f = tt
played-fault a b (Some xs) to w0 w line room fault calm sound within h f =
    fault-line a b xs to w0 w line room room fault calm sound h (left-within h.before line room h.at_line h.at_room within) (subst (λ o. IfSome o (λ ys. IsLengthFault (fault_within line room (take_through 10 ys)) fault)) h.left f)

pub played-past : (a b : BrokerState) (from to w0 w : Option (List ℕ)) (line room : ℕ) (fault : ScriptFault) → is_calm a ≡ true → IsSound a → 1000000 < line → IfSome from (λ xs. Played a b xs to w0 w line room)
    → IfSome to (λ ys. IsLengthFault (fault_within line 0 (take_through 10 ys)) fault) → IfSome from (λ xs. IsEnded a (script a xs) fault w0 w)
played-past a b None to w0 w line room fault calm sound past h f = tt
played-past a b (Some xs) to w0 w line room fault calm sound past h f =
    fault-line a b xs to w0 w line room 0 fault calm sound h (left-past h.before line h.at_line past) (subst (λ o. IfSome o (λ ys. IsLengthFault (fault_within line 0 (take_through 10 ys)) fault)) h.left f)

-- and of it a front was taken
cut-taken : (a b : BrokerState) (xs front : List ℕ) (then_to w0 w : Option (List ℕ)) (line room : ℕ) (ys : List ℕ) → (h : Played a b xs (Some ys) w0 w line room) → All (λ x. x ≢ 10) front → Consumes (Some ys) then_to front → AreTaken xs then_to h.before front
cut-taken a b xs front None w0 w line room ys h none taken = absurd taken
cut-taken a b xs front (Some zs) w0 w line room ys h none taken =
    let same : h.ys ≡ front ++ zs = sym (some-is h.left) ∙ taken in
    record { behind = zs; left_is = refl; lines_are = h.lines ∙ ap (λ l. h.before ++ pieces l) same; within = (take_through 10 zs, take_through-append 10 front zs none) }
  where
    some-is : {p q : List ℕ} → Some p ≡ Some q → p ≡ q
    some-is e = cc

cut-played : (a b : BrokerState) (xs front : List ℕ) (to w0 w : Option (List ℕ)) (line room left : ℕ) (fault : ScriptFault) → is_calm a ≡ true → IsSound a → (h : Played a b xs to w0 w line room) → All (λ x. x ≢ 10) front
    → IsLengthFault (fault_within line left (take_through 10 h.ys)) fault → HavePlayed fault a h.before front w0 w
cut-played a b xs front to w0 w line room left (faults.BadLine k) calm sound h none f = (bad-number line k (λ bytes. nat_le bytes left) (take_through 10 h.ys) f ∙ sym h.at_line, lines-played a b xs to w0 w w line room calm sound h h.wrote)
cut-played a b xs front to w0 w line room left faults.TooLong calm sound h none f = lines-played a b xs to w0 w w line room calm sound h h.wrote
cut-played a b xs front to w0 w line room left faults.Read calm sound h none f = (none, lines-played a b xs to w0 w w line room calm sound h h.wrote)
cut-played a b xs front to w0 w line room left faults.Write calm sound h none f = absurd f
cut-played a b xs front to w0 w line room left faults.Memory calm sound h none f = lines-played a b xs to w0 w w line room calm sound h h.wrote

pub played-cut : (a b : BrokerState) (from to then_to w0 w : Option (List ℕ)) (line room left : ℕ) (fault : ScriptFault) → is_calm a ≡ true → IsSound a → IfSome from (λ xs. Played a b xs to w0 w line room)
    → IfSome to (λ ys. IsLengthFault (fault_within line left (take_through 10 ys)) fault) → IsCut to then_to → IfSome from (λ xs. IsStopped a xs then_to fault w0 w)
played-cut a b None to then_to w0 w line room left fault calm sound h f cut = tt
played-cut a b (Some xs) None then_to w0 w line room left fault calm sound h f cut = absurd (none-some h.left)
  where
    none-some : {p : List ℕ} → None ≡ Some p → ⊥
    none-some e = cc
played-cut a b (Some xs) (Some ys) then_to w0 w line room left fault calm sound h f cut = (
  h.before,
  cut.0,
  cut-taken a b xs cut.0 then_to w0 w line room ys h cut.1 cut.2,
  cut-played a b xs cut.0 (Some ys) w0 w line room left fault calm sound h cut.1 (subst (λ o. IfSome o (λ zs. IsLengthFault (fault_within line left (take_through 10 zs)) fault)) h.left f),
)

-- 4. A line that was taken

-- the place, the line, and what it comes to
next-course : (a b : BrokerState) (xs text : List ℕ) (to w0 w : Option (List ℕ)) (line room : ℕ) → (h : Played a b xs to w0 w line room) → line ≤ 1000000 → fault_within line room text ≡ None → 0 < length text
    → course h.before h.place text ≡ course_of line (here b) (told (strip_last 10 text))
next-course a b xs text to w0 w line room h within sized some =
    course-fault h.before h.place text line room None h.at_line (left-within h.before line room h.at_line h.at_room within) some sized ∙ course-same h.place b line (told (strip_last 10 text)) h.stands

next-read : (a b : BrokerState) (xs text : List ℕ) (to w0 w : Option (List ℕ)) (line room : ℕ) (k : Course) → (h : Played a b xs to w0 w line room) → line ≤ 1000000 → fault_within line room text ≡ None → 0 < length text
    → course_of line (here b) (told (strip_last 10 text)) ≡ k → (rest : List (List ℕ))
    → read_from h.before h.place (text ∷ rest) ≡ and_then k (read_from (h.before ++ text ∷ []) (after_course k h.place) rest)
next-read a b xs text to w0 w line room k h within sized some e rest =
    read-next h.before h.place text rest ∙ ap (λ c. and_then c (read_from (h.before ++ text ∷ []) (after_course c h.place) rest)) (next-course a b xs text to w0 w line room h within sized some ∙ e)

-- a line that was taken fits the room
pub fits-room : (number room : ℕ) (line : List ℕ) → fault_within number room line ≡ None → length line ≤ room
fits-room number room line e = by (nat_lt LONGEST_LINE (length (strip_last 10 line)) && nat_le (LONGEST_LINE + 1) room) (nat_le (length line) room) refl e
  where
    by : (a d : Bool) → nat_le (length line) room ≡ d → cond a (Some (faults.BadLine number)) (cond d None (Some faults.TooLong)) ≡ None → length line ≤ room
    by true d f g = cc
    by false false f g = cc
    by false true f g = grind (arith, common_steps)

-- what is left then
more-lines : (a b : BrokerState) (xs text : List ℕ) (to w0 w : Option (List ℕ)) (line room : ℕ) → (h : Played a b xs to w0 w line room) → 0 < length text → text ≡ take_through 10 h.ys → pieces xs ≡ (h.before ++ text ∷ []) ++ pieces (drop_through 10 h.ys)
more-lines a b xs text to w0 w line room h some is = h.lines ∙ ap (λ l. h.before ++ l) (next-line text h.ys is some) ∙ sym (append_assoc h.before (text ∷ []) (pieces (drop_through 10 h.ys)))

more-line : (before : List (List ℕ)) (text : List ℕ) (line : ℕ) → length before + 1 ≡ line → length (before ++ text ∷ []) + 1 ≡ line + 1
more-line before text line e = omega (arith, e, length-append before (text ∷ []))

more-room : (before : List (List ℕ)) (text : List ℕ) (room most : ℕ) → length (concat before) + room ≡ most → length text ≤ room → length (concat (before ++ text ∷ [])) + (room - length text) ≡ most
more-room before text room most e fits =
    let size : length (concat (before ++ text ∷ [])) ≡ length (concat before) + length text =
    ap length (concat-append before (text ∷ []) ∙ ap (λ l. concat before ++ l) (append-nil text)) ∙ length-append (concat before) text in
    omega (arith, e, fits, size)

-- one line more
more-at : (a b c : BrokerState) (xs text : List ℕ) (to then_to w0 w1 w2 : Option (List ℕ)) (line room : ℕ) (k : Course) → (h : Played a b xs to w0 w1 line room) → line ≤ 1000000 → fault_within line room text ≡ None → 0 < length text
    → text ≡ take_through 10 h.ys → then_to ≡ Some (drop_through 10 h.ys) → course_of line (here b) (told (strip_last 10 text)) ≡ k → IsLinePlayed k b c w1 w2 → Played a c xs then_to w0 w2 (line + 1) (room - length text)
more-at a b c xs text to then_to w0 w1 w2 line room (Plays e) h within sized some is left k done =
    let new : BrokerState = done.0 in
    let next : List (List ℕ) = h.before ++ text ∷ [] in
    let place : Place = after_event e h.place in
    let all : List (List Sent) = h.steps ++ said b.lines new.lines ∷ [] in
    record {
      before = next;
      place = place;
      ys = drop_through 10 h.ys;
      es = h.es ++ e ∷ [];
      steps = all;
      left = left;
      lines = more-lines a b xs text to w0 w1 line room h some is;
      at_line = more-line h.before text line h.at_line;
      at_room = more-room h.before text room MOST_BYTES h.at_room (fits-room line room text sized);
      stands = subst (IsPlaceIn place) (sym done.2) (at-hushed place new (at-event h.place b new e h.stands done.1.stands));
      runs = subst (Runs a (h.es ++ e ∷ []) all) (sym done.2) (runs-more e a b new h.es h.steps h.runs done.1);
      wrote = subst (Appends w0 w2) (sym (text-more h.steps (said b.lines new.lines))) (Appends-trans w0 w1 w2 (script_text h.steps) (words b new) h.wrote done.3);
      is = λ rest. (
          ap (said_by a) (append_assoc h.before (text ∷ []) rest) ∙ h.is (text ∷ rest)
          ∙ ap (λ (s : Script). record { events = h.es ++ s.events; fault = s.fault }) (next-read a b xs text to w0 w1 line room (Plays e) h within sized some k rest)
          ∙ ap (λ x. record { events = x; fault = (read_from next place rest).fault }) (sym (append_assoc h.es (e ∷ []) (read_from next place rest).events))
          );
    }
more-at a b c xs text to then_to w0 w1 w2 line room Passes h within sized some is left k done = record {
  before = h.before ++ text ∷ [];
  place = h.place;
  ys = drop_through 10 h.ys;
  es = h.es;
  steps = h.steps;
  left = left;
  lines = more-lines a b xs text to w0 w1 line room h some is;
  at_line = more-line h.before text line h.at_line;
  at_room = more-room h.before text room MOST_BYTES h.at_room (fits-room line room text sized);
  stands = subst (IsPlaceIn h.place) (sym done.0) h.stands;
  runs = subst (Runs a h.es h.steps) (sym done.0) h.runs;
  wrote = subst (Appends w0 w2) (append-nil (script_text h.steps)) (Appends-trans w0 w1 w2 (script_text h.steps) [] h.wrote done.1);
  is = λ rest. (
      ap (said_by a) (append_assoc h.before (text ∷ []) rest) ∙ h.is (text ∷ rest)
      ∙ ap (λ (s : Script). record { events = h.es ++ s.events; fault = s.fault }) (next-read a b xs text to w0 w1 line room Passes h within sized some k rest)
      );
}
more-at a b c xs text to then_to w0 w1 w2 line room (Stops fault) h within sized some is left k done = absurd done

pub played-more : (a b c : BrokerState) (text : List ℕ) (from to then_to w0 w1 w2 : Option (List ℕ)) (line room : ℕ) → line ≤ 1000000 → fault_within line room text ≡ None → 0 < length text
    → IfSome from (λ xs. Played a b xs to w0 w1 line room) → IfSome to (λ ys. text ≡ take_through 10 ys) → DropsThrough to then_to 10 → IsLinePlayed (course_of line (here b) (told (strip_last 10 text))) b c w1 w2
    → IfSome from (λ xs. Played a c xs then_to w0 w2 (line + 1) (room - length text))
played-more a b c text None to then_to w0 w1 w2 line room within sized some h is drops done = tt
played-more a b c text (Some xs) to then_to w0 w1 w2 line room within sized some h is drops done =
    more-at a b c xs text to then_to w0 w1 w2 line room (course_of line (here b) (told (strip_last 10 text))) h within sized some
    (subst (λ o. IfSome o (λ ys. text ≡ take_through 10 ys)) h.left is) (subst (λ o. DropsThrough o then_to 10) h.left drops) refl done

-- nothing was written behind those lines
nothing-more : (w0 w1 w2 : Option (List ℕ)) (text : List ℕ) → Appends w0 w1 text → Appends w1 w2 [] → Appends w0 w2 text
nothing-more w0 w1 w2 text before none = subst (Appends w0 w2) (append-nil text) (Appends-trans w0 w1 w2 text [] before none)

-- the events through a line at which the writer failed
cut-events : (a b : BrokerState) (xs text : List ℕ) (to w0 w1 w2 : Option (List ℕ)) (line room : ℕ) (e : Happening) → is_calm a ≡ true → IsSound a → (h : Played a b xs to w0 w1 line room) → IsCutOff e b w1 w2 → IsWrittenInPart a (h.es ++ e ∷ []) w0 w2
cut-events a b xs text to w0 w1 w2 line room e calm sound h cut =
    let new : BrokerState = cut.0 in
    let all : List (List Sent) = h.steps ++ said b.lines new.lines ∷ [] in
    let runs : Runs a (h.es ++ e ∷ []) all (hushed new) = runs-more e a b new h.es h.steps h.runs cut.1 in
    (h.steps, said b.lines new.lines, runs-tell a (hushed new) (h.es ++ e ∷ []) all runs calm sound, cut.2, cut.3, cut.4, Appends-trans w0 w1 w2 (script_text h.steps) cut.2 h.wrote cut.5)

-- the line ended the script
broken-at : (a b : BrokerState) (xs text : List ℕ) (to w0 w1 w2 : Option (List ℕ)) (line room : ℕ) (fault : ScriptFault) → is_calm a ≡ true → IsSound a → (h : Played a b xs to w0 w1 line room) → line ≤ 1000000 → fault_within line room text ≡ None → 0 < length text
    → text ≡ take_through 10 h.ys → IsBroken (course_of line (here b) (told (strip_last 10 text))) fault b w1 w2 → IsEnded a (script a xs) fault w0 w2
broken-at a b xs text to w0 w1 w2 line room (faults.BadLine j) calm sound h within sized some is broken =
    let read : read_from h.before h.place (pieces h.ys) ≡ record { events = []; fault = Some (faults.BadLine j) } =
    ap (read_from h.before h.place) (next-line text h.ys is some) ∙ next-read a b xs text to w0 w1 line room (Stops (faults.BadLine j)) h within sized some broken.0 (pieces (drop_through 10 h.ys)) in
    let whole = script-is a b xs to w0 w1 line room h in
    let same : h.es ≡ (script a xs).events = same_events (script a xs) h.es (read_from h.before h.place (pieces h.ys)) whole (ap (λ (x : Script). x.events) read) in (
      ap (λ (x : Script). x.fault) whole ∙ ap (λ (x : Script). x.fault) read,
      subst (λ es. AreStepsWritten a es w0 w2) same (written a b h.es h.steps w0 w2 calm sound h.runs (nothing-more w0 w1 w2 (script_text h.steps) h.wrote broken.1)),
    )
broken-at a b xs text to w0 w1 w2 line room faults.TooLong calm sound h within sized some is broken = absurd broken
broken-at a b xs text to w0 w1 w2 line room faults.Read calm sound h within sized some is broken = absurd broken
broken-at a b xs text to w0 w1 w2 line room faults.Write calm sound h within sized some is broken =
    let e : Happening = broken.0 in
    let rest : Script = read_from (h.before ++ text ∷ []) (after_event e h.place) (pieces (drop_through 10 h.ys)) in
    let read : read_from h.before h.place (pieces h.ys) ≡ record { events = e ∷ rest.events; fault = rest.fault } =
    ap (read_from h.before h.place) (next-line text h.ys is some) ∙ next-read a b xs text to w0 w1 line room (Plays e) h within sized some broken.1 (pieces (drop_through 10 h.ys)) in (
      h.es ++ e ∷ [],
      rest.events,
      ap (λ (x : Script). x.events) (script-is a b xs to w0 w1 line room h) ∙ ap (λ (x : Script). h.es ++ x.events) read ∙ sym (append_assoc h.es (e ∷ []) rest.events),
      cut-events a b xs text to w0 w1 w2 line room e calm sound h broken.2,
    )
broken-at a b xs text to w0 w1 w2 line room faults.Memory calm sound h within sized some is broken = (
  h.es,
  (read_from h.before h.place (pieces h.ys)).events,
  ap (λ (x : Script). x.events) (script-is a b xs to w0 w1 line room h),
  written a b h.es h.steps w0 w2 calm sound h.runs (nothing-more w0 w1 w2 (script_text h.steps) h.wrote broken),
)

pub played-broken : (a b : BrokerState) (text : List ℕ) (from to w0 w1 w2 : Option (List ℕ)) (line room : ℕ) (fault : ScriptFault) → is_calm a ≡ true → IsSound a → line ≤ 1000000 → fault_within line room text ≡ None → 0 < length text
    → IfSome from (λ xs. Played a b xs to w0 w1 line room) → IfSome to (λ ys. text ≡ take_through 10 ys) → IsBroken (course_of line (here b) (told (strip_last 10 text))) fault b w1 w2 → IfSome from (λ xs. IsEnded a (script a xs) fault w0 w2)
played-broken a b text None to w0 w1 w2 line room fault calm sound within sized some h is broken = tt
played-broken a b text (Some xs) to w0 w1 w2 line room fault calm sound within sized some h is broken =
    broken-at a b xs text to w0 w1 w2 line room fault calm sound h within sized some (subst (λ o. IfSome o (λ ys. text ≡ take_through 10 ys)) h.left is) broken

-- the lines before it were played, and where the writer failed that one too
whole-taken : (a b : BrokerState) (xs text : List ℕ) (to then_to w0 w : Option (List ℕ)) (line room : ℕ) → (h : Played a b xs to w0 w line room) → text ≡ take_through 10 h.ys → then_to ≡ Some (drop_through 10 h.ys) → AreTaken xs then_to h.before text
whole-taken a b xs text to then_to w0 w line room h is left =
    let split : h.ys ≡ text ++ drop_through 10 h.ys = through-all h.ys ∙ ap (λ t. t ++ drop_through 10 h.ys) (sym is) in
    record { behind = drop_through 10 h.ys; left_is = left; lines_are = h.lines ∙ ap (λ l. h.before ++ pieces l) split; within = ([], ap (take_through 10) (sym split) ∙ sym is ∙ sym (append-nil text)) }

stopped-at : (a b : BrokerState) (xs text : List ℕ) (to then_to w0 w1 w2 : Option (List ℕ)) (line room : ℕ) (fault : ScriptFault) → is_calm a ≡ true → IsSound a → (h : Played a b xs to w0 w1 line room) → line ≤ 1000000 → fault_within line room text ≡ None → 0 < length text
    → text ≡ take_through 10 h.ys → then_to ≡ Some (drop_through 10 h.ys) → IsBroken (course_of line (here b) (told (strip_last 10 text))) fault b w1 w2 → IsStopped a xs then_to fault w0 w2
stopped-at a b xs text to then_to w0 w1 w2 line room (faults.BadLine j) calm sound h within sized some is left broken = (
  h.before,
  text,
  whole-taken a b xs text to then_to w0 w1 line room h is left,
  (stops-number line j (here b) (told (strip_last 10 text)) broken.0 ∙ sym h.at_line, lines-played a b xs to w0 w1 w2 line room calm sound h (nothing-more w0 w1 w2 (script_text h.steps) h.wrote broken.1)),
)
stopped-at a b xs text to then_to w0 w1 w2 line room faults.TooLong calm sound h within sized some is left broken = absurd broken
stopped-at a b xs text to then_to w0 w1 w2 line room faults.Read calm sound h within sized some is left broken = absurd broken
stopped-at a b xs text to then_to w0 w1 w2 line room faults.Write calm sound h within sized some is left broken =
    let e : Happening = broken.0 in
    let lines : List (List ℕ) = h.before ++ text ∷ [] in
    let whole : said_by a lines ≡ record { events = h.es ++ e ∷ []; fault = None } =
    h.is (text ∷ []) ∙ ap (λ (s : Script). record { events = h.es ++ s.events; fault = s.fault }) (next-read a b xs text to w0 w1 line room (Plays e) h within sized some broken.1 [])
    ∙ ap (λ (s : Script). record { events = h.es ++ e ∷ s.events; fault = s.fault }) (read-none lines (after_event e h.place)) in (
      lines,
      [],
      record { behind = drop_through 10 h.ys; left_is = left; lines_are = more-lines a b xs text to w0 w1 line room h some is; within = (take_through 10 (drop_through 10 h.ys), refl) },
      (refl, (ap (λ (x : Script). x.fault) whole, subst (λ es. IsWrittenInPart a es w0 w2) (sym (ap (λ (x : Script). x.events) whole)) (cut-events a b xs text to w0 w1 w2 line room e calm sound h broken.2))),
    )
stopped-at a b xs text to then_to w0 w1 w2 line room faults.Memory calm sound h within sized some is left broken = (
  h.before,
  text,
  whole-taken a b xs text to then_to w0 w1 line room h is left,
  lines-played a b xs to w0 w1 w2 line room calm sound h (nothing-more w0 w1 w2 (script_text h.steps) h.wrote broken),
)

pub played-stopped : (a b : BrokerState) (text : List ℕ) (from to then_to w0 w1 w2 : Option (List ℕ)) (line room : ℕ) (fault : ScriptFault) → is_calm a ≡ true → IsSound a → line ≤ 1000000 → fault_within line room text ≡ None → 0 < length text
    → IfSome from (λ xs. Played a b xs to w0 w1 line room) → IfSome to (λ ys. text ≡ take_through 10 ys) → DropsThrough to then_to 10 → IsBroken (course_of line (here b) (told (strip_last 10 text))) fault b w1 w2
    → IfSome from (λ xs. IsStopped a xs then_to fault w0 w2)
played-stopped a b text None to then_to w0 w1 w2 line room fault calm sound within sized some h is drops broken = tt
played-stopped a b text (Some xs) to then_to w0 w1 w2 line room fault calm sound within sized some h is drops broken =
    stopped-at a b xs text to then_to w0 w1 w2 line room fault calm sound h within sized some
    (subst (λ o. IfSome o (λ ys. text ≡ take_through 10 ys)) h.left is) (subst (λ o. DropsThrough o then_to 10) h.left drops) broken

-- nothing was read or written
pub stopped-first : (a : BrokerState) (from w : Option (List ℕ)) → IfSome from (λ xs. IsStopped a xs from faults.Memory w w)
stopped-first a None w = tt
stopped-first a (Some xs) w =
    let none : said_by a [] ≡ record { events = []; fault = None } = read-none [] (here a) in
    let nothing : AreStepsWritten a [] w w = ([], record { owned = λ t. refl; unowned = λ n free. refl; in_order = tt }, Appends-nil w) in (
      [],
      [],
      record { behind = xs; left_is = refl; lines_are = refl; within = (take_through 10 xs, refl) },
      (ap (λ (x : Script). x.fault) none, subst (λ es. AreStepsWritten a es w w) (sym (ap (λ (x : Script). x.events) none)) nothing),
    )

-- the broker is at rest behind a line
pub record AtRest (b : BrokerState) : Type 0 where
  pub ready : IsReady b
  pub quiet : IsQuiet b
  pub calm : is_calm b ≡ true

pub rest-done : (k : Course) (b c : BrokerState) (from to : Option (List ℕ)) → AtRest b → IsLinePlayed k b c from to → AtRest c
rest-done (Plays e) b c from to r done = subst AtRest (sym done.2) (record { ready = ready-hushed done.0 done.1.ready; quiet = quiet-hushed done.0; calm = done.1.calm })
rest-done Passes b c from to r done = subst AtRest (sym done.0) r
rest-done (Stops fault) b c from to r done = absurd done

pub on-both : {A E : Type 0} (r : Result A E) (P Q S : Type 0) → (P → Q → S) → OnOk r P → OnOk r Q → OnOk r S
on-both (Ok x) P Q S f p q = f p q
on-both (Err e) P Q S f p q = tt
