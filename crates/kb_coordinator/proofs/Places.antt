-- A call to the group at a place, and its replies.
use Rattle.std.proofs.Common.{◌≡◌, ◌∙◌, ◌<◌, ◌≤◌, ℕ, min, List, [], ◌∷◌, ◌++◌, length, Some, None, Result, Ok, Err, append_assoc, ◌-◌, slice_get, slice_set, sym, ap, arith, length-append}
use Rattle.std.specs.List.{All, flat_map, insert}
use Rattle.std.specs.Prelude.{OnErr}
use Rattle.std.proofs.lemmas.List.{append-nil}
use Rattle.std.proofs.lemmas.List.Concat.{flat_map-append}
use Rattle.std.proofs.lemmas.List.Elements.{All-cons, All-nil, All-push, All-same}
use Rattle.kb_coordinator.specs.Groups.{AreInOrder}
use Rattle.kb_groups.specs.declared.reply.Release.{Release}
use Rattle.kb_groups.specs.declared.state.State.{State}
use Rattle.kb_groups.specs.Moments.{next_due}
use Rattle.kb_groups.specs.Rebalance.{Step}
use Rattle.kb_coordinator.specs.declared.groups.Entry.{Entry}
use Rattle.kb_coordinator.specs.declared.limits.Limits.{Limits}
use Rattle.kb_coordinator.specs.Groups.{Groups, changed, earliest, found, place_of, silent}
use Rattle.kb_coordinator.specs.Calls.{by_group, stepped, with_changed}
use Rattle.kb_coordinator.proofs.Lists.{changed_at, changed_none, found_at, found_none}
use Rattle.kb_coordinator.proofs.Steps.{due_insert, due_put, put_back}

-- What holds after an error, if it holds anyway.
pub err_holds : {A E P : Type 0} (r : Result A E) → P → OnErr r P
err_holds (Ok x) p = tt
err_holds (Err e) p = p

abbrev pub groups_of : List Entry → ℕ → Limits → List Release → Groups
groups_of es members limits released = record { groups = es; members = members; released = released; limits = limits }

abbrev pub with_group : Entry → State → Entry
with_group e g = record { id = e.id; group = g }

pub one_reply : {X : Type 0} (f : X → List Release) (items cleared : List X) (x r : X) → items ≡ cleared ++ x ∷ [] → cleared ≡ [] → flat_map f (slice_set items 0 r) ≡ f r
one_reply f items cleared x r e h = ap (λ l. flat_map f (slice_set l 0 r)) (e ∙ ap (λ l. l ++ x ∷ []) h) ∙ append-nil (f r)

pub no_reply : {X : Type 0} (f : X → List Release) (items cleared : List X) (x : X) → items ≡ cleared ++ x ∷ [] → cleared ≡ [] → f x ≡ [] → flat_map f items ≡ []
no_reply f items cleared x e h k = ap (flat_map f) (e ∙ ap (λ l. l ++ x ∷ []) h) ∙ append-nil (f x) ∙ k

pub has_room : {X : Type 0} (items cleared : List X) (x : X) → items ≡ cleared ++ x ∷ [] → 0 < length items
has_room items cleared x e = omega (arith, ap length e ∙ length-append cleared (x ∷ []))

pub no_more : {X : Type 0} (f : X → List Release) (items old : List X) (x : X) → items ≡ old ++ x ∷ [] → f x ≡ [] → flat_map f items ≡ flat_map f old
no_more f items old x e k = ap (flat_map f) e ∙ flat_map-append f old (x ∷ []) ∙ ap (λ l. flat_map f old ++ l) (append-nil (f x) ∙ k) ∙ append-nil (flat_map f old)

pub last_reply : {X : Type 0} (f : X → List Release) (items old : List X) (x r : X) (last : ℕ) → items ≡ old ++ x ∷ [] → last ≡ length items - 1 → flat_map f (slice_set items last r) ≡ flat_map f old ++ f r
last_reply {X = X} f items old x r last e h =
    let last_is : last ≡ length old = omega (arith, h, ap length e ∙ length-append old (x ∷ [])) in
    (λ k. flat_map f (slice_set (e k) (last_is k) r)) ∙ by old
  where
    by : (ys : List X) → flat_map f (slice_set (ys ++ x ∷ []) (length ys) r) ≡ flat_map f ys ++ f r
    by [] = append-nil (f r)
    by (y ∷ ys) = ap (λ l. f y ++ l) (by ys) ∙ sym (append_assoc (f y) (flat_map f ys) (f r))

pub changed_here : (id : List ℕ) (f : State → State) (es : List Entry) (members : ℕ) (limits : Limits) (old rs : List Release) (now : Groups) (place : ℕ) (e : Entry) (g : State) → groups_of es members limits old ≡ now → place_of id es ≡ Some place → slice_get es place ≡ Some e → g ≡ f e.group → rs ≡ [] → groups_of (slice_set es place (with_group e g)) members limits rs ≡ with_changed id f now
changed_here id f es members limits old rs now place e g view p at is none =
    (λ k. groups_of (slice_set es place (with_group e (is k))) members limits (none k)) ∙ ap (λ xs. groups_of xs members limits []) (sym (changed_at id f es place e p at)) ∙ ap (with_changed id f) view

pub changed_nowhere : (id : List ℕ) (f : State → State) (es : List Entry) (members : ℕ) (limits : Limits) (old rs : List Release) (now : Groups) → groups_of es members limits old ≡ now → place_of id es ≡ None → rs ≡ [] → groups_of es members limits rs ≡ with_changed id f now
changed_nowhere id f es members limits old rs now view p none =
    ap (groups_of es members limits) none ∙ ap (λ xs. groups_of xs members limits []) (sym (changed_none id f es p)) ∙ ap (with_changed id f) view

pub stepped_here : (id : List ℕ) (step : State → Step) (es : List Entry) (members : ℕ) (limits : Limits) (old rs : List Release) (now : Groups) (place : ℕ) (e : Entry) (g : State) → groups_of es members limits old ≡ now → place_of id es ≡ Some place → slice_get es place ≡ Some e → g ≡ (step e.group).group → rs ≡ (step e.group).released → groups_of (slice_set es place (with_group e g)) members limits rs ≡ stepped id step now
stepped_here id step es members limits old rs now place e g view p at is answers =
    (λ k. groups_of (slice_set es place (with_group e (is k))) members limits (answers k))
    ∙ ap (λ xs. groups_of xs members limits (step e.group).released) (sym (changed_at id (λ x. (step x).group) es place e p at))
    ∙ ap (λ o. groups_of (changed id (λ x. (step x).group) es) members limits (by_group [] (λ x. (step x).released) o)) (sym (found_at id es place e p at))
    ∙ ap (stepped id step) view

pub stepped_nowhere : (id : List ℕ) (step : State → Step) (es : List Entry) (members : ℕ) (limits : Limits) (old rs : List Release) (now : Groups) → groups_of es members limits old ≡ now → place_of id es ≡ None → rs ≡ [] → groups_of es members limits rs ≡ stepped id step now
stepped_nowhere id step es members limits old rs now view p none =
    ap (groups_of es members limits) none
    ∙ ap (λ xs. groups_of xs members limits []) (sym (changed_none id (λ x. (step x).group) es p))
    ∙ ap (λ o. groups_of (changed id (λ x. (step x).group) es) members limits (by_group [] (λ x. (step x).released) o)) (sym (found_none id es p))
    ∙ ap (stepped id step) view

-- What the group at that place answers.
pub said_here : {A : Type 0} (otherwise : A) (says : State → A) (id : List ℕ) (es : List Entry) (members : ℕ) (limits : Limits) (old : List Release) (now : Groups) (place : ℕ) (e : Entry) (said : A) → groups_of es members limits old ≡ now → place_of id es ≡ Some place → slice_get es place ≡ Some e → said ≡ says e.group → said ≡ by_group otherwise says (found id now.groups)
said_here otherwise says id es members limits old now place e said view p at is =
    is ∙ ap (by_group otherwise says) (sym (found_at id es place e p at)) ∙ ap (λ (gs : Groups). by_group otherwise says (found id gs.groups)) view

pub said_nowhere : {A : Type 0} (otherwise : A) (says : State → A) (id : List ℕ) (es : List Entry) (members : ℕ) (limits : Limits) (old : List Release) (now : Groups) → groups_of es members limits old ≡ now → place_of id es ≡ None → otherwise ≡ by_group otherwise says (found id now.groups)
said_nowhere otherwise says id es members limits old now view p =
    ap (by_group otherwise says) (sym (found_none id es p)) ∙ ap (λ (gs : Groups). by_group otherwise says (found id gs.groups)) view

-- The groups are as they were, and nobody is answered.
pub refused_here : (es : List Entry) (members : ℕ) (limits : Limits) (old rs : List Release) (now : Groups) (place : ℕ) (e : Entry) (g : State) → groups_of es members limits old ≡ now → slice_get es place ≡ Some e → g ≡ e.group → rs ≡ [] → groups_of (slice_set es place (with_group e g)) members limits rs ≡ silent now
refused_here es members limits old rs now place e g view at is none =
    (λ k. groups_of (slice_set es place (with_group e (is k))) members limits (none k)) ∙ ap (λ xs. groups_of xs members limits []) (put_back es place e at) ∙ ap silent view

pub silent_now : (es : List Entry) (members : ℕ) (limits : Limits) (old rs : List Release) (now : Groups) → groups_of es members limits old ≡ now → rs ≡ [] → groups_of es members limits rs ≡ silent now
silent_now es members limits old rs now view none = ap (groups_of es members limits) none ∙ ap silent view

-- The bound of what is due, after a call to the group at a place.
pub quiet_here : (es : List Entry) (place : ℕ) (e : Entry) (g : State) (q p r : ℕ) → q ≤ earliest es → p ≤ next_due g → r ≡ min q p → r ≤ earliest (slice_set es place (with_group e g))
quiet_here es place e g q p r h k is = omega (arith, due_put es place (with_group e g) q p h k, is)

pub quiet_new : (es : List Entry) (place : ℕ) (n : Entry) (q p r : ℕ) → q ≤ earliest es → p ≤ next_due n.group → r ≡ min q p → r ≤ earliest (insert es place n)
quiet_new es place n q p r h k is = omega (arith, due_insert es place n q p h k, is)

-- ## The order of the replies

pub none_ordered : {X : Type 0} (P : X → Type 0) (items : List X) → items ≡ [] → All P items
none_ordered P items none = All-same P items [] none (All-nil P)

pub one_ordered : {X : Type 0} (P : X → Type 0) (items cleared : List X) (x r : X) → items ≡ cleared ++ x ∷ [] → cleared ≡ [] → P r → All P (slice_set items 0 r)
one_ordered P items cleared x r e h p =
    All-same P (slice_set items 0 r) (r ∷ []) (ap (λ l. slice_set l 0 r) (e ∙ ap (λ l. l ++ x ∷ []) h)) (All-cons P r [] p (All-nil P))

pub no_releases : (rs : List Release) → rs ≡ [] → AreInOrder rs
no_releases rs none i j d le lt = absurd (omega (arith, lt, ap length none))

pub more_ordered : {X : Type 0} (P : X → Type 0) (items old : List X) (x : X) → items ≡ old ++ x ∷ [] → All P old → P x → All P items
more_ordered P items old x e all p = All-same P items (old ++ x ∷ []) e (All-push P old x all p)
