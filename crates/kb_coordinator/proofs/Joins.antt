-- A join reads its protocols, wherever they stand.
use Rattle.std.proofs.Common.{◌≡◌, ◌∙◌, ◌+◌, ◌≤◌, ◌&&◌, ◌||◌, ℕ, Bool, true, false, not, List, [], ◌∷◌, length, refl, sym, ap, arith, if◌then◌else◌, int_lt, pos, nat_le, Option, Some, None, is_none, slice_get, slice_set, true≢false, ◌<◌, zero, suc}
use Rattle.std.proofs.lemmas.Option.{same_Some}
use Rattle.kb_groups.specs.declared.code.Code.{Code}
use Rattle.kb_groups.specs.declared.code.Code.TheVariants.{Fine, IllegalGeneration, RebalanceInProgress, InconsistentGroupProtocol, UnknownMemberId, InvalidSessionTimeout, GroupMaxSizeReached}
use Rattle.kb_groups.specs.declared.state.State.{State}
use Rattle.kb_groups.specs.declared.borrowed.Join.{Join}
use Rattle.kb_groups.specs.Members.{Roster}
use Rattle.kb_groups.specs.Calls.{agrees, is_empty, is_fine, is_stranger, join, join_code, joined, others, unmoved}
use Rattle.kb_groups.specs.Calls as one
use Rattle.kb_groups.specs.declared.reply.Release.{Release}
use Rattle.kb_wire.specs.declared.error_code.ErrorCode.{ErrorCode}
use Rattle.kb_wire.specs.declared.error_code.ErrorCode.TheVariants.{InvalidGroupId}
use Rattle.kb_api_group.specs.declared.join_group.JoinGroupRequest.{JoinGroupRequest}
use Rattle.kb_coordinator.specs.declared.groups.Entry.{Entry}
use Rattle.kb_coordinator.specs.declared.limits.Limits.{Limits}
use Rattle.kb_coordinator.specs.Groups.{Groups, found, place_of, silent, with_new}
use Rattle.kb_coordinator.specs.Requests.{join_of}
use Rattle.kb_coordinator.specs.Calls as of
use Rattle.kb_coordinator.specs.Calls.{after_known, after_new, given_with, is_accepted, joined_by, known_code, known_past, lacks_number, left_for, new_code, new_full, new_past, unless_refused}
use Rattle.kb_coordinator.proofs.Lists.{changed_at, found_at, found_none}
use Rattle.kb_coordinator.proofs.Places.{groups_of, with_group}

-- The join, with its protocols at no place.
abbrev pub placeless : Join → Join
placeless j = record {
  connection = j.connection;
  member = j.member;
  new_member = j.new_member;
  session_timeout = j.session_timeout;
  rebalance_timeout = j.rebalance_timeout;
  protocol_type = j.protocol_type;
  protocols = record { ref_ptr = (0, 0); now = j.protocols.now };
}

agrees_placeless : (j : Join) (ms : Roster) (name : List ℕ) → agrees j ms name ≡ agrees (placeless j) ms name
agrees_placeless j [] name = refl
agrees_placeless j (e ∷ ms) name = refl

abbrev code_by : Join → State → Bool → Code
code_by j g agree =
    if int_lt j.session_timeout (pos 6000) || int_lt (pos 1800000) j.session_timeout then InvalidSessionTimeout
    else if is_empty j.protocols.now || is_empty j.protocol_type then InconsistentGroupProtocol
    else if is_stranger j.member g.members then UnknownMemberId
    else if not agree then InconsistentGroupProtocol
    else if is_none j.member && nat_le 200 (length g.members) then GroupMaxSizeReached
    else Fine

pub code_placeless : (j : Join) (g : State) → join_code j g ≡ join_code (placeless j) g
code_placeless j g = ap (code_by j g) (agrees_placeless j (others j.member g.members) g.protocol_type)

pub join_placeless : (clock : ℕ) (j : Join) (g : State) → join clock j g ≡ join clock (placeless j) g
join_placeless clock j g = ap (λ code. if is_fine code then joined clock j g else unmoved g) (code_placeless j g)

-- ## What is left for a member

-- A join that is accepted is refused by no group, and finds a number, and bytes.
pub accepted_room : (code : Code) (full past : Bool) → is_accepted (unless_refused code (left_for full past)) ≡ true → (is_fine code ≡ true) × (full ≡ false) × (past ≡ false)
accepted_room Fine false false h = (refl, refl, refl)
accepted_room Fine false true h = absurd (true≢false (sym h))
accepted_room Fine true past h = absurd (true≢false (sym h))
accepted_room IllegalGeneration full past h = absurd (true≢false (sym h))
accepted_room InconsistentGroupProtocol full past h = absurd (true≢false (sym h))
accepted_room UnknownMemberId full past h = absurd (true≢false (sym h))
accepted_room InvalidSessionTimeout full past h = absurd (true≢false (sym h))
accepted_room RebalanceInProgress full past h = absurd (true≢false (sym h))
accepted_room GroupMaxSizeReached full past h = absurd (true≢false (sym h))

pub room_given : (j : Join) (gs : Groups) → gs.members ≤ 9223372036854775807 → lacks_number j gs ≡ false → given_with j gs ≤ 9223372036854775807
room_given j gs most lacks = by (is_none j.member) lacks
  where
    by : (b : Bool) → (b && nat_le 9223372036854775807 gs.members) ≡ false → (if b then gs.members + 1 else gs.members) ≤ 9223372036854775807
    by true h = grind (arith, h, most)
    by false h = most

pub or_false : (a b : Bool) → (a || b) ≡ false → b ≡ false
or_false true b h = absurd (true≢false h)
or_false false b h = h

-- ## A join by its group's id

code_found : (clock connection : ℕ) (r : JoinGroupRequest) (gs : Groups) (o : Option State) → is_empty r.group_id ≡ false → found r.group_id gs.groups ≡ o → of.code_by (join_of gs.members connection r) r.group_id gs o ≡ of.join_code connection r gs
code_found clock connection r gs o named is =
    ap (of.code_by (join_of gs.members connection r) r.group_id gs) (sym is)
    ∙ ap (λ b. if b then InvalidGroupId else of.code_by (join_of gs.members connection r) r.group_id gs (found r.group_id gs.groups)) (sym named)

known_placeless : (clock : ℕ) (j : Join) (place : ℕ) (e : Entry) (gs : Groups) → after_known clock j place e gs ≡ after_known clock (placeless j) place e gs
known_placeless clock j place e gs =
    λ k. if is_accepted (unless_refused (code_placeless j e.group k) (left_for (lacks_number j gs) (known_past j e.group gs))) then groups_of (slice_set gs.groups place (with_group e (join_placeless clock j e.group k).group)) (given_with j gs) gs.limits (join_placeless clock j e.group k).released else silent gs

new_placeless : (clock : ℕ) (j : Join) (id : List ℕ) (gs : Groups) → after_new clock j id gs ≡ after_new clock (placeless j) id gs
new_placeless clock j id gs =
    λ k. if is_accepted (unless_refused (code_placeless j one.fresh k) (left_for (new_full j gs) (new_past j id gs))) then groups_of (with_new id (join_placeless clock j one.fresh k).group gs.groups) (given_with j gs) gs.limits (join_placeless clock j one.fresh k).released else silent gs

pub known_answers : (clock connection : ℕ) (r : JoinGroupRequest) (j : Join) (gs : Groups) (place : ℕ) (e : Entry) → is_empty r.group_id ≡ false → placeless j ≡ join_of gs.members connection r → place_of r.group_id gs.groups ≡ Some place → slice_get gs.groups place ≡ Some e → known_code j e.group gs ≡ of.join_code connection r gs
known_answers clock connection r j gs place e named same p at =
    ap (λ code. unless_refused code (left_for (lacks_number j gs) (known_past j e.group gs))) (code_placeless j e.group)
    ∙ ap (λ x. known_code x e.group gs) same
    ∙ code_found clock connection r gs (Some e.group) named (found_at r.group_id gs.groups place e p at)

pub known_leaves : (clock connection : ℕ) (r : JoinGroupRequest) (j : Join) (gs : Groups) (place : ℕ) (e : Entry) → is_empty r.group_id ≡ false → placeless j ≡ join_of gs.members connection r → place_of r.group_id gs.groups ≡ Some place → slice_get gs.groups place ≡ Some e → after_known clock j place e gs ≡ of.after_join clock connection r gs
known_leaves clock connection r j gs place e named same p at =
    let there = found_at r.group_id gs.groups place e p at in
    let full_join : Join = join_of gs.members connection r in
    let codes = code_found clock connection r gs (Some e.group) named there in
    let moved = ap (λ es. groups_of es (given_with full_join gs) gs.limits (one.join clock full_join e.group).released) (sym (changed_at r.group_id (λ g. (one.join clock full_join g).group) gs.groups place e p at)) ∙ ap (joined_by clock full_join r.group_id gs) (sym there) in
    known_placeless clock j place e gs
    ∙ ap (λ x. after_known clock x place e gs) same
    ∙ (λ k. if is_accepted (codes k) then moved k else silent gs)

pub new_answers : (clock connection : ℕ) (r : JoinGroupRequest) (j : Join) (gs : Groups) → is_empty r.group_id ≡ false → placeless j ≡ join_of gs.members connection r → place_of r.group_id gs.groups ≡ None → new_code j r.group_id gs ≡ of.join_code connection r gs
new_answers clock connection r j gs named same p =
    ap (λ code. unless_refused code (left_for (new_full j gs) (new_past j r.group_id gs))) (code_placeless j one.fresh)
    ∙ ap (λ x. new_code x r.group_id gs) same
    ∙ code_found clock connection r gs None named (found_none r.group_id gs.groups p)

pub new_leaves : (clock connection : ℕ) (r : JoinGroupRequest) (j : Join) (gs : Groups) → is_empty r.group_id ≡ false → placeless j ≡ join_of gs.members connection r → place_of r.group_id gs.groups ≡ None → after_new clock j r.group_id gs ≡ of.after_join clock connection r gs
new_leaves clock connection r j gs named same p =
    let there = found_none r.group_id gs.groups p in
    let full_join : Join = join_of gs.members connection r in
    let codes = code_found clock connection r gs None named there in
    new_placeless clock j r.group_id gs
    ∙ ap (λ x. after_new clock x r.group_id gs) same
    ∙ (λ k. if is_accepted (codes k) then joined_by clock full_join r.group_id gs (sym there k) else silent gs)

-- ## A join that is taken

pub known_given : (j : Join) (e : Entry) (error : ErrorCode) (gs : Groups) → gs.members ≤ 9223372036854775807 → error ≡ known_code j e.group gs → is_accepted error ≡ true → given_with j gs ≤ 9223372036854775807
known_given j e error gs most is accepted =
    room_given j gs most (accepted_room (one.join_code j e.group) (lacks_number j gs) (known_past j e.group gs) (ap is_accepted (sym is) ∙ accepted)).1

pub new_given : (j : Join) (id : List ℕ) (error : ErrorCode) (gs : Groups) → gs.members ≤ 9223372036854775807 → error ≡ new_code j id gs → is_accepted error ≡ true → given_with j gs ≤ 9223372036854775807
new_given j id error gs most is accepted =
    room_given j gs most (or_false (nat_le gs.limits.groups (length gs.groups)) (lacks_number j gs) (accepted_room (one.join_code j one.fresh) (new_full j gs) (new_past j id gs) (ap is_accepted (sym is) ∙ accepted)).1)

pub known_taken : (clock : ℕ) (j : Join) (place : ℕ) (e at_place : Entry) (es : List Entry) (members : ℕ) (limits : Limits) (old rs : List Release) (now : Groups) (g : State) (given : ℕ) (error : ErrorCode) → groups_of es members limits old ≡ now
    → slice_get es place ≡ Some at_place → slice_get now.groups place ≡ Some e → error ≡ known_code j at_place.group (groups_of es members limits old) → is_accepted error ≡ true
    → g ≡ (one.join clock j at_place.group).group → rs ≡ (one.join clock j at_place.group).released → given ≡ given_with j (groups_of es members limits old) → groups_of (slice_set es place (with_group at_place g)) given limits rs ≡ after_known clock j place e now
known_taken clock j place e at_place es members limits old rs now g given error view there at is accepted is_g is_rs is_given =
    let same : at_place ≡ e = same_Some _ _ (sym there ∙ ap (λ (gs : Groups). slice_get gs.groups place) view ∙ at) in
    let code : is_accepted (known_code j e.group now) ≡ true = ap is_accepted (sym (is ∙ (λ k. known_code j (same k).group (view k)))) ∙ accepted in
    let left : Groups = groups_of (slice_set now.groups place (with_group e (one.join clock j e.group).group)) (given_with j now) now.limits (one.join clock j e.group).released in
    (λ k. groups_of (slice_set es place (with_group at_place (is_g k))) (is_given k) limits (is_rs k))
    ∙ (λ k. groups_of (slice_set (view k).groups place (with_group (same k) (one.join clock j (same k).group).group)) (given_with j (view k)) (view k).limits (one.join clock j (same k).group).released)
    ∙ ap (λ b. if b then left else silent now) (sym code)

pub there_is : {A : Type 0} (xs : List A) (i : ℕ) → i < length xs → (x : A) × (slice_get xs i ≡ Some x)
there_is [] i h = absurd (omega (arith, h))
there_is (x ∷ xs) zero h = (x, refl)
there_is (x ∷ xs) (suc i) h = there_is xs i (omega (arith, h))
