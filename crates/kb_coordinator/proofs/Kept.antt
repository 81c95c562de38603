-- What the groups keep, as one of them changes, and at a moment.
use Rattle.std.proofs.Common.{◌≡◌, ◌∙◌, ◌+◌, ◌-◌, ◌<◌, ◌≤◌, ℕ, ℤ, zero, suc, max, Bool, true, false, List, [], ◌∷◌, ◌++◌, length, Some, slice_get, slice_set, take, drop, map, refl, sym, ap, arith, subst, if◌then◌else◌}
use Rattle.std.specs.List.{insert}
use Rattle.std.proofs.lemmas.Bool.Decides.{nat_tests}
use Rattle.std.proofs.lemmas.Option.{same_Some, none-some}
use Rattle.kb_groups.specs.declared.state.State.{State}
use Rattle.kb_groups.specs.declared.borrowed.Join.{Join}
use Rattle.kb_groups.specs.declared.reply.Release.{Release}
use Rattle.kb_groups.specs.Bytes.{brought_bytes, group_bytes, is_past, joined_bytes}
use Rattle.kb_groups.specs.Sizes.{counted}
use Rattle.kb_groups.specs.Moments.{tick}
use Rattle.kb_groups.specs.Calls as one
use Rattle.kb_groups.proofs.Sizes.{accepted_bytes, counted_first, counted_second, dropped_bytes, exact, fresh_bytes, not_past, tick_bytes}
use Rattle.kb_wire.specs.declared.error_code.ErrorCode.{ErrorCode}
use Rattle.kb_coordinator.specs.declared.groups.Entry.{Entry}
use Rattle.kb_coordinator.specs.declared.limits.Limits.{Limits}
use Rattle.kb_coordinator.specs.Groups.{AreWithin, Groups, kept_bytes}
use Rattle.kb_coordinator.specs.Calls.{Ticks, hung_up, is_accepted, known_code, known_past, lacks_number, new_code, new_full, new_past, room, some_ticked, ticked}
use Rattle.kb_coordinator.proofs.Joins.{accepted_room}
use Rattle.kb_coordinator.proofs.Lists.{drop_end, drop_next}
use Rattle.kb_coordinator.proofs.Places.{groups_of, with_group}
use Rattle.kb_coordinator.proofs.Ticking.{ticks_length, written_back}

-- One group changed.
kept_put : (es : List Entry) (i : ℕ) (e n : Entry) → slice_get es i ≡ Some e → n.id ≡ e.id → kept_bytes (slice_set es i n) + group_bytes e.group ≡ kept_bytes es + group_bytes n.group
unfolding kept_bytes
kept_put [] i e n at is = absurd (none-some e at)
kept_put (x ∷ es) zero e n at is =
    let same : x ≡ e = same_Some _ _ at in
    omega (arith, ap length is, ap (λ (y : Entry). length y.id) same, ap (λ (y : Entry). group_bytes y.group) same)
kept_put (x ∷ es) (suc i) e n at is = omega (arith, kept_put es i e n at is)

-- One group is no more than all.
pub one_within : (es : List Entry) (i : ℕ) (e : Entry) → slice_get es i ≡ Some e → group_bytes e.group ≤ kept_bytes es
unfolding kept_bytes
one_within [] i e at = absurd (none-some e at)
one_within (x ∷ es) zero e at = omega (arith, ap (λ (y : Entry). group_bytes y.group) (same_Some _ _ at))
one_within (x ∷ es) (suc i) e at = omega (arith, one_within es i e at)

kept_insert : (es : List Entry) (i : ℕ) (n : Entry) → kept_bytes (insert es i n) ≡ kept_bytes es + (length n.id + group_bytes n.group)
unfolding kept_bytes
kept_insert [] zero n = omega arith
kept_insert [] (suc i) n = omega arith
kept_insert (e ∷ es) zero n = omega arith
kept_insert (e ∷ es) (suc i) n = omega (arith, kept_insert es i n)

pub none_within : (es : List Entry) (limits : Limits) → es ≡ [] → limits.bytes ≤ 9223372036854775807 → AreWithin limits 0 es
unfolding kept_bytes
none_within [] limits none most = (refl, omega arith, most)
none_within (e ∷ es) limits none most = absurd (omega (arith, ap length none))

pub limited_within : (old new : Limits) (bytes : ℕ) (es : List Entry) (gs : Groups) → AreWithin old bytes es → gs.groups ≡ es → gs.groups ≡ [] → new.bytes ≤ 9223372036854775807 → AreWithin new bytes es
unfolding kept_bytes
limited_within old new bytes [] gs (counts, within, most) is none fits = (counts, omega (arith, counts), fits)
limited_within old new bytes (e ∷ es) gs (counts, within, most) is none fits = absurd (omega (arith, ap length is, ap length none))

-- ## A call to the group at a place

-- The group keeps what the limit leaves to it, or no more than before.
pub within_put : (limits : Limits) (es : List Entry) (place : ℕ) (e : Entry) (g : State) (bytes before after : ℕ) → AreWithin limits bytes es → slice_get es place ≡ Some e → before ≡ counted (group_bytes e.group) → after ≡ counted (group_bytes g)
    → group_bytes g ≤ max (limits.bytes - (kept_bytes es - group_bytes e.group)) (group_bytes e.group) → AreWithin limits (bytes - before + after) (slice_set es place (with_group e g))
within_put limits es place e g bytes before after (is, within, most) at is_before is_after less =
    let one = one_within es place e at in
    let put = kept_put es place e (with_group e g) at refl in
    let old : before ≡ group_bytes e.group = exact before (group_bytes e.group) is_before (omega (arith, is, within, most, one)) in
    let fits : group_bytes g + kept_bytes es ≤ limits.bytes + group_bytes e.group = grown (group_bytes g) (kept_bytes es) (group_bytes e.group) limits.bytes less one (omega (arith, is, within)) in
    let new : after ≡ group_bytes g = exact after (group_bytes g) is_after (omega (arith, fits, most, one)) in (
      omega (arith, is, one, put, old, new),
      omega (arith, is, one, old, new, fits),
      most,
    )
  where
    grown : (g es e most : ℕ) → g ≤ max (most - (es - e)) e → e ≤ es → es ≤ most → g + es ≤ most + e
    grown g es e most h k l = omega (arith, h, k, l)

pub put_below : (limits : Limits) (es : List Entry) (place : ℕ) (e : Entry) (bytes before : ℕ) → AreWithin limits bytes es → slice_get es place ≡ Some e → before ≡ counted (group_bytes e.group) → before ≤ bytes
put_below limits es place e bytes before (is, within, most) at is_before =
    let one = one_within es place e at in
    omega (arith, is, one, exact before (group_bytes e.group) is_before (omega (arith, is, within, most, one)))

pub within_less : (limits : Limits) (es : List Entry) (place : ℕ) (e : Entry) (g : State) (bytes before after : ℕ) → AreWithin limits bytes es → slice_get es place ≡ Some e → before ≡ counted (group_bytes e.group) → after ≡ counted (group_bytes g)
    → group_bytes g ≤ group_bytes e.group → AreWithin limits (bytes - before + after) (slice_set es place (with_group e g))
within_less limits es place e g bytes before after w at is_before is_after less = within_put limits es place e g bytes before after w at is_before is_after (omega (arith, less))

pub within_room : (limits : Limits) (es : List Entry) (e : Entry) (g : State) (most : ℕ) (new : State) → most ≡ limits.bytes - (kept_bytes es - group_bytes e.group) → g ≡ new → group_bytes new ≤ max most (group_bytes e.group) → group_bytes g ≤ max (limits.bytes - (kept_bytes es - group_bytes e.group)) (group_bytes e.group)
within_room limits es e g most new is same less =
    subst (λ n. group_bytes g ≤ max n (group_bytes e.group)) is (subst (λ (x : State). group_bytes x ≤ max most (group_bytes e.group)) (sym same) less)

pub one_fits : (limits : Limits) (es : List Entry) (place : ℕ) (e : Entry) (bytes : ℕ) → AreWithin limits bytes es → slice_get es place ≡ Some e → group_bytes e.group < 9223372036854775808
one_fits limits es place e bytes (is, within, most) at = omega (arith, is, within, most, one_within es place e at)

-- What is left to the group at a place.
pub room_is : (es : List Entry) (members : ℕ) (limits : Limits) (old : List Release) (now : Groups) (place : ℕ) (here e : Entry) (bytes count : ℕ) → groups_of es members limits old ≡ now → AreWithin limits bytes es → slice_get es place ≡ Some here
    → count ≡ counted (group_bytes here.group) → slice_get now.groups place ≡ Some e → limits.bytes - (bytes - count) ≡ room now e.group
room_is es members limits old now place here e bytes count view (is, within, most) there is_count at =
    let same : here ≡ e = same_Some _ _ (sym there ∙ ap (λ (gs : Groups). slice_get gs.groups place) view ∙ at) in
    let old_count : count ≡ group_bytes here.group = exact count (group_bytes here.group) is_count (omega (arith, is, within, most, one_within es place here there)) in
    (λ k. limits.bytes - (is k - old_count k)) ∙ ap (λ (y : Entry). limits.bytes - (kept_bytes es - group_bytes y.group)) same ∙ ap (λ gs. room gs e.group) view

pub within_same : (limits : Limits) (es : List Entry) (place : ℕ) (e : Entry) (g : State) (bytes : ℕ) → AreWithin limits bytes es → slice_get es place ≡ Some e → group_bytes g ≡ group_bytes e.group → AreWithin limits bytes (slice_set es place (with_group e g))
within_same limits es place e g bytes (is, within, most) at same =
    (omega (arith, is, kept_put es place e (with_group e g) at refl, same), within, most)

pub within_new : (limits : Limits) (es : List Entry) (place : ℕ) (n : Entry) (bytes more : ℕ) → AreWithin limits bytes es → more ≡ length n.id + group_bytes n.group → more ≤ limits.bytes - kept_bytes es → AreWithin limits (bytes + more) (insert es place n)
within_new limits es place n bytes more (is, within, most) is_more less =
    (omega (arith, is, kept_insert es place n, is_more), omega (arith, is, within, less), most)

-- ## A join that is accepted

pub known_bytes : (clock : ℕ) (j : Join) (e : Entry) (gs : Groups) (error : ErrorCode) → error ≡ known_code j e.group gs → is_accepted error ≡ true → group_bytes (one.join clock j e.group).group ≤ max (room gs e.group) (group_bytes e.group)
known_bytes clock j e gs error is accepted =
    let (fine, full, past) = accepted_room (one.join_code j e.group) (lacks_number j gs) (known_past j e.group gs) (ap is_accepted (sym is) ∙ accepted) in
    subst (λ n. n ≤ max (room gs e.group) (group_bytes e.group)) (sym (accepted_bytes clock j e.group fine)) (not_past (room gs e.group) (group_bytes e.group) (joined_bytes j e.group) past)

pub new_bytes : (clock : ℕ) (j : Join) (id : List ℕ) (gs : Groups) (error : ErrorCode) → error ≡ new_code j id gs → is_accepted error ≡ true → length id + group_bytes (one.join clock j one.fresh).group ≤ gs.limits.bytes - kept_bytes gs.groups
new_bytes clock j id gs error is accepted =
    let (fine, full, past) = accepted_room (one.join_code j one.fresh) (new_full j gs) (new_past j id gs) (ap is_accepted (sym is) ∙ accepted) in
    let same : group_bytes (one.join clock j one.fresh).group ≡ brought_bytes j = accepted_bytes clock j one.fresh fine ∙ fresh_bytes j in
    let most : length id + brought_bytes j ≤ gs.limits.bytes - kept_bytes gs.groups = grind (arith, nat_tests, past) in
    omega (arith, same, most)

-- ## Connections that end, and moments

kept_hung : (clock connection : ℕ) (es : List Entry) → kept_bytes (map (hung_up clock connection) es) ≡ kept_bytes es
unfolding kept_bytes
kept_hung clock connection [] = refl
kept_hung clock connection (e ∷ es) = omega (arith, dropped_bytes clock connection e.group, kept_hung clock connection es)

pub within_left : (clock connection n : ℕ) (limits : Limits) (bytes : ℕ) (es new : List Entry) → new ≡ map (hung_up clock connection) es → length new ≡ length es → n ≡ length es → AreWithin limits bytes es → AreWithin limits bytes (take n (new ++ drop (length new) es))
within_left clock connection n limits bytes es new is same len (counts, within, most) =
    (counts ∙ sym (ap kept_bytes (written_back n new es same len) ∙ ap kept_bytes is ∙ kept_hung clock connection es), within, most)

kept_ticked : (clock : ℕ) (marks : List Bool) (es : List Entry) → kept_bytes (some_ticked clock marks es) ≤ kept_bytes es
unfolding kept_bytes some_ticked
kept_ticked clock [] es = omega arith
kept_ticked clock (b ∷ bs) [] = omega arith
kept_ticked clock (true ∷ bs) (e ∷ es) = omega (arith, tick_bytes clock e.group, kept_ticked clock bs es)
kept_ticked clock (false ∷ bs) (e ∷ es) = omega (arith, kept_ticked clock bs es)

pub within_moment : (clock n : ℕ) (limits : Limits) (bytes next : ℕ) (es new : List Entry) (rs : List Release) (k : ℕ) → Ticks clock es new rs k → n ≡ length es → AreWithin limits bytes es
    → next ≡ counted (kept_bytes (take n (new ++ drop (length new) es))) → AreWithin limits next (take n (new ++ drop (length new) es))
within_moment clock n limits bytes next es new rs k (marks, same, is, released, refused) len (counts, within, most) is_next =
    let l = take n (new ++ drop (length new) es) in
    let back : kept_bytes l ≡ kept_bytes (some_ticked clock marks es) = ap kept_bytes (written_back n new es (ticks_length clock es new rs k (marks, same, is, released, refused)) len) ∙ ap kept_bytes is in
    let less = kept_ticked clock marks es in
    let same : next ≡ kept_bytes l = exact next (kept_bytes l) is_next (omega (arith, counts, within, most, back, less)) in
    (same, omega (arith, counts, within, same, back, less), most)

-- ## The loop over the groups

pub kept_go : (i : ℕ) (es : List Entry) (e : Entry) (was a next all : ℕ) (here len : ℕ) → counted (was + kept_bytes (drop i es)) ≡ counted all → slice_get es i ≡ Some e → here ≡ counted (group_bytes e.group) → len ≡ length e.id → a ≡ counted (was + here) → next ≡ counted (a + len)
    → counted (next + kept_bytes (drop (i + 1) es)) ≡ counted all
unfolding kept_bytes
kept_go i es e was a next all here len inv at is_here is_len is_a is =
    let rest : ℕ = kept_bytes (drop (i + 1) es) in
    let s : kept_bytes (drop i es) ≡ length e.id + group_bytes e.group + rest = ap kept_bytes (drop_next i es e at) in
    let apart : a + len + rest ≡ a + (len + rest) = omega arith in
    let all_of : was + group_bytes e.group + (len + rest) ≡ was + kept_bytes (drop i es) = omega (arith, s, is_len) in
    ap (λ x. counted (x + rest)) is ∙ counted_first (a + len) rest ∙ ap counted apart
    ∙ ap (λ x. counted (x + (len + rest))) (is_a ∙ ap (λ x. counted (was + x)) is_here ∙ counted_second was (group_bytes e.group)) ∙ counted_first (was + group_bytes e.group) (len + rest) ∙ ap counted all_of ∙ inv

pub kept_end : (i : ℕ) (es : List Entry) (was all : ℕ) → counted (was + kept_bytes (drop i es)) ≡ counted all → length es ≤ i → was < 18446744073709551616 → was ≡ counted all
unfolding kept_bytes
kept_end i es was all inv h fits =
    let s : kept_bytes (drop i es) ≡ 0 = ap kept_bytes (drop_end i es h) in
    let here : was ≡ counted (was + kept_bytes (drop i es)) = omega (arith, s, fits) in
    here ∙ inv
