-- Recursions over lists, entry by entry, as the loops go.
use Rattle.std.proofs.Common.{◌≡◌, ℕ, zero, suc, ◌+◌, ◌<◌, ◌≤◌, min, List, [], ◌∷◌, ◌++◌, length, Some, slice_get, get_or, drop, map, refl, sym, ap, ◌∙◌, Bool, true, false, ◌&&◌, arith, bytes_eq, append_assoc, if◌then◌else◌}
use Rattle.std.proofs.lemmas.List.{append-nil}
use Rattle.kb_groups.specs.declared.borrowed.JoinProtocol.{JoinProtocol}
use Rattle.kb_groups.specs.Calls.{kept, assigned}
use Rattle.kb_groups.specs.MemberId.{member_id}
use Rattle.kb_groups.specs.Moments.{never, session_end, earliest, expired, expired_one}
use Rattle.kb_groups.specs.declared.borrowed.SyncAssignment.{SyncAssignment}
use Rattle.std.proofs.Math.Numerals.{suc-eq-add-one}
use Rattle.std.proofs.lemmas.Option.{same_Some, none-some}
use Rattle.kb_groups.specs.declared.member.Member.{Member}
use Rattle.kb_groups.specs.declared.protocol.Protocol.{Protocol}
use Rattle.kb_groups.specs.declared.reply.Listed.{Listed}
use Rattle.kb_groups.specs.Members.{Roster}
use Rattle.kb_groups.specs.Answers.{waits_join}
use Rattle.kb_groups.specs.Rebalance.{all_join, Step}
use Rattle.kb_groups.specs.Protocols.{metadata, listing}

-- One further, by the loop's next index.
pub drop_next : {A : Type 0} (i : ℕ) (xs : List A) (x : A) → slice_get xs i ≡ Some x → drop i xs ≡ x ∷ drop (i + 1) xs
drop_next {A = A} i xs x h = rw (← suc-eq-add-one i) (by i xs h)
  where
    by : (i : ℕ) (xs : List A) → slice_get xs i ≡ Some x → drop i xs ≡ x ∷ drop (suc i) xs
    by zero [] h = absurd (none-some x h)
    by zero (y ∷ xs) h = ap (λ z. z ∷ xs) (same_Some _ _ h)
    by (suc i) [] h = absurd (none-some x h)
    by (suc i) (y ∷ xs) h = by i xs h

pub drop_end : {A : Type 0} (i : ℕ) (xs : List A) → length xs ≤ i → drop i xs ≡ []
drop_end zero [] h = refl
drop_end (suc i) [] h = refl
drop_end zero (x ∷ xs) h = absurd (omega (arith, h))
drop_end (suc i) (x ∷ xs) h = drop_end i xs (omega (arith, h))

-- A slice's element, by its index.
pub at_index : {A : Type 0} (xs : List A) (i : ℕ) (x : A) → i < length xs → x ≡ get_or xs i x → slice_get xs i ≡ Some x
at_index [] i x h e = absurd (omega (arith, h))
at_index (y ∷ xs) zero x h e = ap Some (sym e)
at_index (y ∷ xs) (suc i) x h e = at_index xs i x (omega (arith, h)) e

-- Whether every member has a waiting join.
pub all_join_stop : (i : ℕ) (es : Roster) (n : ℕ) (m : Member) (all : Bool) → all_join (drop i es) ≡ all → Some (n, m) ≡ slice_get es i → false ≡ waits_join m.waiter → false ≡ all
unfolding all_join
all_join_stop i es n m all inv at differ = ap (λ b. b && all_join (drop (i + 1) es)) differ ∙ sym (ap all_join (drop_next i es (n, m) (sym at))) ∙ inv

pub all_join_go : (i : ℕ) (es : Roster) (n : ℕ) (m : Member) (all : Bool) → all_join (drop i es) ≡ all → Some (n, m) ≡ slice_get es i → true ≡ waits_join m.waiter → all_join (drop (i + 1) es) ≡ all
unfolding all_join
all_join_go i es n m all inv at same = ap (λ b. b && all_join (drop (i + 1) es)) same ∙ sym (ap all_join (drop_next i es (n, m) (sym at))) ∙ inv

pub all_join_end : (i : ℕ) (es : Roster) (all : Bool) → all_join (drop i es) ≡ all → length es ≤ i → true ≡ all
unfolding all_join
all_join_end i es all inv h = sym (ap all_join (drop_end i es h)) ∙ inv

-- Copies of what a join lists.
pub kept_go : (i : ℕ) (os : List JoinProtocol) (o : JoinProtocol) (done next : List Protocol) (all : List Protocol) → done ++ map kept (drop i os) ≡ all → i < length os → o ≡ get_or os i o → next ≡ done ++ kept o ∷ [] → next ++ map kept (drop (i + 1) os) ≡ all
kept_go i os o done next all inv h e n =
    ap (λ l. l ++ map kept (drop (i + 1) os)) n ∙ append_assoc done (kept o ∷ []) (map kept (drop (i + 1) os)) ∙ sym (ap (λ l. done ++ map kept l) (drop_next i os o (at_index os i o h e))) ∙ inv

-- The members as the leader gets them.
pub listing_go : (i : ℕ) (es : Roster) (n : ℕ) (m : Member) (name : List ℕ) (done next all : List Listed) → done ++ listing (drop i es) name ≡ all → Some (n, m) ≡ slice_get es i → next ≡ done ++ record { member = n; metadata = metadata m.protocols name } ∷ [] → next ++ listing (drop (i + 1) es) name ≡ all
unfolding listing
listing_go i es n m name done next all inv at e =
    ap (λ l. l ++ listing (drop (i + 1) es) name) e ∙ append_assoc done (record { member = n; metadata = metadata m.protocols name } ∷ []) (listing (drop (i + 1) es) name) ∙ sym (ap (λ l. done ++ listing l name) (drop_next i es (n, m) (sym at))) ∙ inv

pub listing_end : (i : ℕ) (es : Roster) (name : List ℕ) (done all : List Listed) → done ++ listing (drop i es) name ≡ all → length es ≤ i → done ≡ all
unfolding listing
listing_end i es name done all inv h = sym (ap (λ l. done ++ listing l name) (drop_end i es h) ∙ append-nil done) ∙ inv

-- What was mapped, and what is left.
pub map_go : {A B : Type 0} (f : A → B) (i : ℕ) (xs : List A) (x : A) (done next all : List B) → done ++ map f (drop i xs) ≡ all → slice_get xs i ≡ Some x → next ≡ done ++ f x ∷ [] → next ++ map f (drop (i + 1) xs) ≡ all
map_go f i xs x done next all inv at e =
    ap (λ l. l ++ map f (drop (i + 1) xs)) e ∙ append_assoc done (f x ∷ []) (map f (drop (i + 1) xs)) ∙ sym (ap (λ l. done ++ map f l) (drop_next i xs x at)) ∙ inv

pub map_end : {A B : Type 0} (f : A → B) (i : ℕ) (xs : List A) (done all : List B) → done ++ map f (drop i xs) ≡ all → length xs ≤ i → done ≡ all
map_end f i xs done all inv h = sym (ap (λ l. done ++ map f l) (drop_end i xs h) ∙ append-nil done) ∙ inv

-- A look-up in the assignments.
pub assigned_stop : (n i : ℕ) (xs : List SyncAssignment) (x : SyncAssignment) (all : List ℕ) → assigned (drop i xs) n ≡ all → i < length xs → x ≡ get_or xs i x → bytes_eq x.member_id (member_id n) ≡ true → x.assignment ≡ all
unfolding assigned
assigned_stop n i xs x all inv h e same = ap (λ b. if b then x.assignment else assigned (drop (i + 1) xs) n) (sym same) ∙ sym (ap (λ l. assigned l n) (drop_next i xs x (at_index xs i x h e))) ∙ inv

pub assigned_go : (n i : ℕ) (xs : List SyncAssignment) (x : SyncAssignment) (all : List ℕ) → assigned (drop i xs) n ≡ all → i < length xs → x ≡ get_or xs i x → bytes_eq x.member_id (member_id n) ≡ false → assigned (drop (i + 1) xs) n ≡ all
unfolding assigned
assigned_go n i xs x all inv h e differ = ap (λ b. if b then x.assignment else assigned (drop (i + 1) xs) n) (sym differ) ∙ sym (ap (λ l. assigned l n) (drop_next i xs x (at_index xs i x h e))) ∙ inv

pub assigned_end : (n i : ℕ) (xs : List SyncAssignment) (all : List ℕ) → assigned (drop i xs) n ≡ all → length xs ≤ i → [] ≡ all
unfolding assigned
assigned_end n i xs all inv h = sym (ap (λ l. assigned l n) (drop_end i xs h)) ∙ inv

-- The first end of a session.
pub earliest_go : (i : ℕ) (es : Roster) (n : ℕ) (m : Member) (was next all : ℕ) → min was (earliest (drop i es)) ≡ all → Some (n, m) ≡ slice_get es i → next ≡ min was (session_end m) → min next (earliest (drop (i + 1) es)) ≡ all
unfolding earliest
earliest_go i es n m was next all inv at e =
    let s : earliest (drop i es) ≡ min (session_end m) (earliest (drop (i + 1) es)) = ap earliest (drop_next i es (n, m) (sym at)) in
    omega (arith, s, inv, e)

earliest_most : (es : Roster) → earliest es ≤ never
unfolding earliest
earliest_most [] = omega arith
earliest_most (e ∷ es) = omega (arith, earliest_most es)

pub earliest_start : (es : Roster) → min never (earliest es) ≡ earliest es
earliest_start es = omega (arith, earliest_most es)

pub earliest_end : (i : ℕ) (es : Roster) (r all : ℕ) → min r (earliest (drop i es)) ≡ all → r ≤ never → length es ≤ i → r ≡ all
unfolding earliest
earliest_end i es r all inv most h =
    let e : earliest (drop i es) ≡ never = ap earliest (drop_end i es h) in
    omega (arith, e, inv, most)

-- The members expire, one after the other.
pub expired_go : (clock : ℕ) (i : ℕ) (ns : List ℕ) (n : ℕ) (s next all : Step) → expired clock (drop i ns) s ≡ all → slice_get ns i ≡ Some n → next ≡ expired_one clock n s → expired clock (drop (i + 1) ns) next ≡ all
unfolding expired
expired_go clock i ns n s next all inv at e =
    ap (expired clock (drop (i + 1) ns)) e ∙ sym (ap (λ l. expired clock l s) (drop_next i ns n at)) ∙ inv

pub expired_end : (clock : ℕ) (i : ℕ) (ns : List ℕ) (s all : Step) → expired clock (drop i ns) s ≡ all → length ns ≤ i → s ≡ all
unfolding expired
expired_end clock i ns s all inv h = sym (ap (λ l. expired clock l s) (drop_end i ns h)) ∙ inv
