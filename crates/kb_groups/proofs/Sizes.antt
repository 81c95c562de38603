-- How many bytes a group keeps, as it changes.
use Rattle.std.proofs.Common.{◌≡◌, ◌∙◌, ℕ, ℤ, ◌+◌, ◌-◌, ◌≤◌, ◌<◌, ◌&&◌, min, max, Bool, true, false, true≢false, nat_lt, List, [], ◌∷◌, length, Option, Some, None, slice_get, get_or, drop, map, filter, nat_eq, is_some, if◌then◌else◌, refl, sym, ap, arith}
use Rattle.kb_groups.specs.declared.member.Member.{Member}
use Rattle.kb_groups.specs.declared.state.State.{State}
use Rattle.kb_groups.specs.declared.state.Phase.{Phase}
use Rattle.kb_groups.specs.declared.state.Phase.TheVariants.{Empty, Joining, Syncing, Stable}
use Rattle.kb_groups.specs.declared.protocol.Protocol.{Protocol}
use Rattle.kb_groups.specs.declared.borrowed.Join.{Join}
use Rattle.kb_groups.specs.declared.borrowed.JoinProtocol.{JoinProtocol}
use Rattle.kb_groups.specs.declared.borrowed.SyncAssignment.{SyncAssignment}
use Rattle.kb_groups.specs.declared.reply.SyncAnswer.{SyncAnswer}
use Rattle.std.proofs.lemmas.Bool.Decides.{nat_tests}
use Rattle.kb_groups.specs.Bytes.{brought_bytes, group_bytes, had_bytes, is_past, joined_bytes, member_bytes, replaced_bytes, roster_bytes, sync_if, sync_within}
use Rattle.kb_groups.specs.Sizes.{counted, protocol_bytes}
use Rattle.kb_groups.specs.Members.{Roster, changed, each, keeping, member, put, without, has_none}
use Rattle.kb_groups.specs.Answers.{waits_on, waits_sync, waits_join}
use Rattle.kb_groups.specs.Rebalance.{Step, all_join, completed, ended, ended_by, freed, is_joining, looked_at, next_leader, opened, opened_unless, sync_freed}
use Rattle.kb_groups.specs.Calls.{after_heartbeat, after_left, after_may_commit, dropped, entered, fresh, fresh_at, gone, heartbeat, hung_up, is_fine, join, join_code, joined, joining, kept, leave, left, may_commit, number_of, started, starts, sync, touched, unmoved}
use Rattle.kb_groups.specs.Moments.{at_deadline, closed, expired, expired_one, expires, is_due, only_joining, tick}
use Rattle.kb_groups.proofs.Steps.{at_index, drop_end, drop_next}

-- ## Counts

pub counted_first : (a b : ℕ) → counted (counted a + b) ≡ counted (a + b)
counted_first a b = omega arith

pub counted_second : (a b : ℕ) → counted (a + counted b) ≡ counted (a + b)
counted_second a b = omega arith

-- A count below 2^63 is exact.
pub exact : (n m : ℕ) → n ≡ counted m → m ≤ 9223372036854775807 → n ≡ m
exact n m is h = omega (arith, is, h)

-- ## The loops

pub offers_go : (i : ℕ) (os : List JoinProtocol) (o : JoinProtocol) (was a next all : ℕ) → counted (was + protocol_bytes (map kept (drop i os))) ≡ counted all → i < length os → o ≡ get_or os i o → a ≡ counted (was + length o.name) → next ≡ counted (a + length o.metadata)
    → counted (next + protocol_bytes (map kept (drop (i + 1) os))) ≡ counted all
unfolding protocol_bytes
offers_go i os o was a next all inv h e is_a is =
    let rest : ℕ = protocol_bytes (map kept (drop (i + 1) os)) in
    let s : protocol_bytes (map kept (drop i os)) ≡ length o.name + length o.metadata + rest = ap (λ l. protocol_bytes (map kept l)) (drop_next i os o (at_index os i o h e)) in
    let apart : a + length o.metadata + rest ≡ a + (length o.metadata + rest) = omega arith in
    let all_of : was + length o.name + (length o.metadata + rest) ≡ was + protocol_bytes (map kept (drop i os)) = omega (arith, s) in
    ap (λ x. counted (x + rest)) is ∙ counted_first (a + length o.metadata) rest ∙ ap counted apart
    ∙ ap (λ x. counted (x + (length o.metadata + rest))) is_a ∙ counted_first (was + length o.name) (length o.metadata + rest) ∙ ap counted all_of ∙ inv

pub offers_end : (i : ℕ) (os : List JoinProtocol) (was all : ℕ) → counted (was + protocol_bytes (map kept (drop i os))) ≡ counted all → length os ≤ i → was < 18446744073709551616 → was ≡ counted all
unfolding protocol_bytes
offers_end i os was all inv h fits =
    let s : protocol_bytes (map kept (drop i os)) ≡ 0 = ap (λ l. protocol_bytes (map kept l)) (drop_end i os h) in
    let here : was ≡ counted (was + protocol_bytes (map kept (drop i os))) = omega (arith, s, fits) in
    here ∙ inv

pub roster_go : (i : ℕ) (es : Roster) (n : ℕ) (m : Member) (was here next all : ℕ) → counted (was + roster_bytes (drop i es)) ≡ counted all → Some (n, m) ≡ slice_get es i → here ≡ counted (member_bytes n m) → next ≡ counted (was + here) → counted (next + roster_bytes (drop (i + 1) es)) ≡ counted all
unfolding roster_bytes
roster_go i es n m was here next all inv at is_here is =
    let rest : ℕ = roster_bytes (drop (i + 1) es) in
    let s : roster_bytes (drop i es) ≡ member_bytes n m + rest = ap roster_bytes (drop_next i es (n, m) (sym at)) in
    let apart : was + member_bytes n m + rest ≡ was + roster_bytes (drop i es) = omega (arith, s) in
    ap (λ x. counted (x + rest)) (is ∙ ap (λ x. counted (was + x)) is_here ∙ counted_second was (member_bytes n m)) ∙ counted_first (was + member_bytes n m) rest ∙ ap counted apart ∙ inv

pub roster_end : (i : ℕ) (es : Roster) (was all : ℕ) → counted (was + roster_bytes (drop i es)) ≡ counted all → length es ≤ i → was < 18446744073709551616 → was ≡ counted all
unfolding roster_bytes
roster_end i es was all inv h fits =
    let s : roster_bytes (drop i es) ≡ 0 = ap roster_bytes (drop_end i es h) in
    let here : was ≡ counted (was + roster_bytes (drop i es)) = omega (arith, s, fits) in
    here ∙ inv

-- ## Changes that keep all bytes

each_bytes : (f : ℕ → Member → Member) (ms : Roster) → ((n : ℕ) (m : Member) → member_bytes n (f n m) ≡ member_bytes n m) → roster_bytes (each f ms) ≡ roster_bytes ms
unfolding roster_bytes each
each_bytes f [] same = refl
each_bytes f (e ∷ ms) same = omega (arith, same e.0 e.1, each_bytes f ms same)

changed_bytes : (n : ℕ) (f : Member → Member) (ms : Roster) → ((k : ℕ) (m : Member) → member_bytes k (f m) ≡ member_bytes k m) → roster_bytes (changed n f ms) ≡ roster_bytes ms
unfolding roster_bytes changed
changed_bytes n f [] same = refl
changed_bytes n f (e ∷ ms) same = by (nat_eq n e.0) (changed_bytes n f ms same)
  where
    by : (b : Bool) → roster_bytes (changed n f ms) ≡ roster_bytes ms → roster_bytes (if b then (e.0, f e.1) ∷ ms else e ∷ changed n f ms) ≡ member_bytes e.0 e.1 + roster_bytes ms
    by true h = omega (arith, same e.0 e.1)
    by false h = omega (arith, h)

cond_bytes : (b : Bool) (n : ℕ) (x m : Member) → member_bytes n x ≡ member_bytes n m → member_bytes n (if b then x else m) ≡ member_bytes n m
cond_bytes true n x m h = h
cond_bytes false n x m h = refl

touched_bytes : (b : Bool) (clock n : ℕ) (g : State) → group_bytes (touched b clock n g) ≡ group_bytes g
touched_bytes true clock n g = ap (λ k. length g.protocol_type + k) (changed_bytes n (started clock) g.members (λ k m. refl))
touched_bytes false clock n g = refl

pub bytes_after : (b : Bool) (clock n : ℕ) (g new : State) (bytes : ℕ) → new ≡ touched b clock n g → bytes ≡ counted (group_bytes g) → bytes ≡ counted (group_bytes new)
bytes_after b clock n g new bytes e h = rw e (h ∙ ap counted (sym (touched_bytes b clock n g)))

pub dropped_bytes : (clock connection : ℕ) (g : State) → group_bytes (dropped clock connection g) ≡ group_bytes g
dropped_bytes clock connection g =
    ap (λ k. length g.protocol_type + k) (each_bytes (λ n m. hung_up clock connection m) g.members (λ n m. cond_bytes (waits_on connection m.waiter) n (freed clock m) m refl))

pub none_bytes : (generation : ℤ) (g : State) → g ≡ fresh_at generation → 0 ≡ counted (group_bytes g)
unfolding roster_bytes
none_bytes generation g is = ap (λ (s : State). counted (group_bytes s)) (sym is)

opened_bytes : (clock : ℕ) (s : Step) → group_bytes (opened clock s).group ≡ group_bytes s.group
opened_bytes clock s =
    ap (λ k. length s.group.protocol_type + k) (each_bytes (λ n m. sync_freed clock m) s.group.members (λ n m. cond_bytes (waits_sync m.waiter) n (freed clock m) m refl))

ended_bytes : (clock : ℕ) (s : Step) → group_bytes (ended clock s).group ≡ group_bytes s.group
ended_bytes clock s = by (next_leader s.group.leader s.group.members)
  where
    by : (o : Option ℕ) → group_bytes (ended_by clock o s).group ≡ group_bytes s.group
    by None = refl
    by (Some leader) = ap (λ k. length s.group.protocol_type + k) (each_bytes (λ n m. freed clock m) s.group.members (λ n m. refl))

looked_bytes : (clock : ℕ) (s : Step) → group_bytes (looked_at clock s).group ≡ group_bytes s.group
looked_bytes clock s = by (all_join s.group.members)
  where
    by : (b : Bool) → group_bytes (if b then ended clock s else s).group ≡ group_bytes s.group
    by true = ended_bytes clock s
    by false = refl

opened_unless_bytes : (clock : ℕ) (p : Phase) (s : Step) → group_bytes (opened_unless clock p s).group ≡ group_bytes s.group
opened_unless_bytes clock p s = by (is_joining p)
  where
    by : (b : Bool) → group_bytes (if b then s else opened clock s).group ≡ group_bytes s.group
    by true = refl
    by false = opened_bytes clock s

-- ## A join

put_bytes : (n : ℕ) (m : Member) (ms : Roster) → roster_bytes (put n m ms) + had_bytes n (member ms n) ≡ roster_bytes ms + member_bytes n m
unfolding roster_bytes put
put_bytes n m [] = omega arith
put_bytes n m (e ∷ ms) = by (nat_eq n e.0) refl (put_bytes n m ms)
  where
    by : (b : Bool) → nat_eq n e.0 ≡ b → roster_bytes (put n m ms) + had_bytes n (member ms n) ≡ roster_bytes ms + member_bytes n m
        → roster_bytes (if b then (e.0, m) ∷ ms else e ∷ put n m ms) + had_bytes n (if b then Some e.1 else member ms n) ≡ member_bytes e.0 e.1 + roster_bytes ms + member_bytes n m
    by true q h =
        let same : n ≡ e.0 = grind (arith, nat_tests, q) in
        rw same (omega arith)
    by false q h = omega (arith, h)

had_within : (n : ℕ) (ms : Roster) → had_bytes n (member ms n) ≤ roster_bytes ms
unfolding roster_bytes
had_within n [] = omega arith
had_within n (e ∷ ms) = by (nat_eq n e.0) refl (had_within n ms)
  where
    by : (b : Bool) → nat_eq n e.0 ≡ b → had_bytes n (member ms n) ≤ roster_bytes ms → had_bytes n (if b then Some e.1 else member ms n) ≤ member_bytes e.0 e.1 + roster_bytes ms
    by true q h =
        let same : n ≡ e.0 = grind (arith, nat_tests, q) in
        rw same (omega arith)
    by false q h = omega (arith, h)

pub replaced_within : (j : Join) (g : State) → replaced_bytes j g ≤ group_bytes g
replaced_within j g = omega (arith, had_within (number_of j) g.members)

joined_into : (clock : ℕ) (j : Join) (g : State) → group_bytes (joined clock j g).group ≡ joined_bytes j g
joined_into clock j g =
    let put : roster_bytes (put (number_of j) (joining clock j) g.members) + had_bytes (number_of j) (member g.members (number_of j)) ≡ roster_bytes g.members + member_bytes (number_of j) (joining clock j) = put_bytes (number_of j) (joining clock j) g.members in
    looked_bytes clock (opened_unless clock g.phase (entered clock j g))
    ∙ opened_unless_bytes clock g.phase (entered clock j g)
    ∙ omega (arith, put, had_within (number_of j) g.members)

pub accepted_bytes : (clock : ℕ) (j : Join) (g : State) → is_fine (join_code j g) ≡ true → group_bytes (join clock j g).group ≡ joined_bytes j g
accepted_bytes clock j g fine = ap (λ b. group_bytes (if b then joined clock j g else unmoved g).group) fine ∙ joined_into clock j g

pub fresh_bytes : (j : Join) → joined_bytes j fresh ≡ brought_bytes j
unfolding roster_bytes
fresh_bytes j = omega arith

-- ## A step that goes past what a group may keep

pub not_past : (most before after : ℕ) → is_past most before after ≡ false → after ≤ max most before
not_past most before after h = by (nat_lt most after) (nat_lt before after) refl refl h
  where
    by : (b c : Bool) → nat_lt most after ≡ b → nat_lt before after ≡ c → (b && c) ≡ false → after ≤ max most before
    by true true p q h = absurd (true≢false h)
    by true false p q h = let le : after ≤ before = grind (arith, q) in omega (arith, le)
    by false c p q h = let le : after ≤ most = grind (arith, p) in omega (arith, le)

-- What a group may keep, or kept already, is not past it, as counts say.
stays : (most before after counts here : ℕ) → counts ≡ counted after → here ≡ counted before → most ≤ 9223372036854775807 → before ≤ 9223372036854775807 → counts ≤ max most here → is_past most before after ≡ false
stays most before after counts here is_counts is_here h k l =
    let there : here ≡ before = exact here before is_here k in
    let le : after ≤ max most before = omega (arith, is_counts, there, h, k, l) in
    by le (nat_lt most after) (nat_lt before after) refl refl
  where
    by : after ≤ max most before → (b c : Bool) → nat_lt most after ≡ b → nat_lt before after ≡ c → (b && c) ≡ false
    by le false c p q = refl
    by le true false p q = refl
    by le true true p q =
        let x : most < after = grind (arith, nat_tests, p) in
        let y : before < after = grind (arith, nat_tests, q) in
        absurd (omega (arith, le, x, y))

pub within_step : (most clock connection n : ℕ) (z generation : ℤ) (as_ : List SyncAssignment) (next now after : State) (counts here : ℕ) → next ≡ now → z ≡ generation → after ≡ (sync clock connection n z as_ next).1.group → counts ≡ counted (group_bytes after) → here ≡ counted (group_bytes now)
    → most ≤ 9223372036854775807 → group_bytes now ≤ 9223372036854775807 → counts ≤ max most here → sync clock connection n z as_ next ≡ sync_within most clock connection n generation as_ now
within_step most clock connection n z generation as_ next now after counts here is is_z is_after is_counts is_here h k l =
    let same : sync clock connection n z as_ next ≡ sync clock connection n generation as_ now = λ j. sync clock connection n (is_z j) as_ (is j) in
    let done : group_bytes after ≡ group_bytes (sync clock connection n generation as_ now).1.group = ap group_bytes is_after ∙ ap (λ s. group_bytes s.1.group) same in
    let past = stays most (group_bytes now) (group_bytes (sync clock connection n generation as_ now).1.group) counts here (is_counts ∙ ap counted done) is_here h k l in
    same ∙ ap (λ b. sync_if b (sync clock connection n generation as_ now) now) (sym past)

pub sync_bytes : (most clock connection n : ℕ) (generation : ℤ) (as_ : List SyncAssignment) (g : State) → group_bytes (sync_within most clock connection n generation as_ g).1.group ≤ max most (group_bytes g)
sync_bytes most clock connection n generation as_ g =
    let step : SyncAnswer × Step = sync clock connection n generation as_ g in
    by step (is_past most (group_bytes g) (group_bytes step.1.group)) refl
  where
    by : (step : SyncAnswer × Step) (b : Bool) → is_past most (group_bytes g) (group_bytes step.1.group) ≡ b → group_bytes (sync_if b step g).1.group ≤ max most (group_bytes g)
    by step true h = omega arith
    by step false h = not_past most (group_bytes g) (group_bytes step.1.group) h

pub heartbeat_bytes : (clock n : ℕ) (generation : ℤ) (g : State) → group_bytes (after_heartbeat clock n generation g) ≡ group_bytes g
heartbeat_bytes clock n generation g = touched_bytes (starts (heartbeat n generation g)) clock n g

pub commit_bytes : (clock n : ℕ) (generation : ℤ) (g : State) → group_bytes (after_may_commit clock n generation g) ≡ group_bytes g
commit_bytes clock n generation g = touched_bytes (is_fine (may_commit n generation g)) clock n g

-- ## Members that are gone

without_bytes : (n : ℕ) (ms : Roster) → roster_bytes (without n ms) ≤ roster_bytes ms
unfolding roster_bytes without
without_bytes n [] = omega arith
without_bytes n (e ∷ ms) = by (nat_eq n e.0) (without_bytes n ms)
  where
    by : (b : Bool) → roster_bytes (without n ms) ≤ roster_bytes ms → roster_bytes (if b then ms else e ∷ without n ms) ≤ member_bytes e.0 e.1 + roster_bytes ms
    by true h = omega arith
    by false h = omega (arith, h)

keeping_bytes : (p : Member → Bool) (ms : Roster) → roster_bytes (keeping p ms) ≤ roster_bytes ms
unfolding roster_bytes
keeping_bytes p [] = omega arith
keeping_bytes p (e ∷ ms) = by (p e.1) (keeping_bytes p ms)
  where
    by : (b : Bool) → roster_bytes (keeping p ms) ≤ roster_bytes ms → roster_bytes (if b then e ∷ keeping p ms else keeping p ms) ≤ member_bytes e.0 e.1 + roster_bytes ms
    by true h = omega (arith, h)
    by false h = omega (arith, h)

after_left_bytes : (clock : ℕ) (p : Phase) (s : Step) → group_bytes (after_left clock p s).group ≡ group_bytes s.group
after_left_bytes clock p s = by (is_joining p) (has_none s.group.members)
  where
    by : (a b : Bool) → group_bytes (if a then looked_at clock s else if b then record s { group = record s.group { phase = Empty } } else opened clock s).group ≡ group_bytes s.group
    by true b = looked_bytes clock s
    by false true = refl
    by false false = opened_bytes clock s

gone_bytes : (clock n : ℕ) (s : Step) → group_bytes (gone clock n s).group ≤ group_bytes s.group
gone_bytes clock n s = omega (arith, after_left_bytes clock s.group.phase (left n s), without_bytes n s.group.members)

pub leave_bytes : (clock n : ℕ) (g : State) → group_bytes (leave clock n g).group ≤ group_bytes g
leave_bytes clock n g = by (is_some (member g.members n))
  where
    by : (b : Bool) → group_bytes (if b then gone clock n (unmoved g) else unmoved g).group ≤ group_bytes g
    by true = gone_bytes clock n (unmoved g)
    by false = omega arith

expired_one_bytes : (clock n : ℕ) (s : Step) → group_bytes (expired_one clock n s).group ≤ group_bytes s.group
expired_one_bytes clock n s = by (expires clock (member s.group.members n))
  where
    by : (b : Bool) → group_bytes (if b then gone clock n s else s).group ≤ group_bytes s.group
    by true = gone_bytes clock n s
    by false = omega arith

expired_bytes : (clock : ℕ) (ns : List ℕ) (s : Step) → group_bytes (expired clock ns s).group ≤ group_bytes s.group
unfolding expired
expired_bytes clock [] s = omega arith
expired_bytes clock (n ∷ ns) s = omega (arith, expired_bytes clock ns (expired_one clock n s), expired_one_bytes clock n s)

deadline_bytes : (clock : ℕ) (s : Step) → group_bytes (at_deadline clock s).group ≤ group_bytes s.group
deadline_bytes clock s = by (is_due clock s.group.phase)
  where
    by : (b : Bool) → group_bytes (if b then closed clock s else s).group ≤ group_bytes s.group
    by true = omega (arith, ended_bytes clock (record s { group = only_joining s.group }), keeping_bytes (λ m. waits_join m.waiter) s.group.members)
    by false = omega arith

pub tick_bytes : (clock : ℕ) (g : State) → group_bytes (tick clock g).group ≤ group_bytes g
tick_bytes clock g =
    let s = expired clock (map (λ e. e.0) g.members) (unmoved g) in
    omega (arith, deadline_bytes clock s, expired_bytes clock (map (λ e. e.0) g.members) (unmoved g))
