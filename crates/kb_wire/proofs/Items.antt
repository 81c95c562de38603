-- Writing items one after the other, as a loop does.
use Rattle.std.proofs.Common.{◌≡◌, ℕ, ◌+◌, ◌<◌, ◌≤◌, List, [], ◌∷◌, ◌++◌, length, get_or, take, Result, Ok, Err, refl, sym, ap, subst, ◌∙◌, length-append, arith}
use Rattle.std.specs.Prelude.{All}
use Rattle.std.specs.List.{flat_map}
use Rattle.std.specs.declared.alloc.AllocError.{AllocError}
use Rattle.std.proofs.lemmas.List.{flat_map_more, take_more, take_all}
use Rattle.std.proofs.lemmas.List.Folds.{length-flat_map-take}
use Rattle.std.proofs.lemmas.List.Elements.{All-more}
use Rattle.kb_wire.specs.Codec.{Codec}
use Rattle.kb_wire.specs.Sunk.{Sunk, Adds, Writes, adds_both, extends_trans}

pub all_more : {A : Type 0} (P : A → Type 0) (list : List A) (i : ℕ) (v : A) → i < length list → v ≡ get_or list i v → All P (take i list) → P v → All P (take (i + 1) list)
all_more P list i v lt is so_far here = All-more P list i v lt so_far (subst P is here)

pub item_is : {A : Type 0} (P : A → Type 0) (list : List A) (i : ℕ) (v : A) → i < length list → v ≡ get_or list i v → All P list → P v
item_is P list i v lt is all = subst P (sym is) (all i v lt)

-- what the first i items add
abbrev pub AddsFirst : {A : Type 0} → Codec A → List A → ℕ → Sunk → Result (Unit {0}) AllocError → Sunk → Type 0
AddsFirst c list i old result new = Adds (flat_map c.written (take i list)) (All c.InRange (take i list)) old result new

one_longer : {A : Type 0} (c : Codec A) (list : List A) (i : ℕ) (v : A) → i < length list → v ≡ get_or list i v → flat_map c.written (take i list) ++ c.written v ≡ flat_map c.written (take (i + 1) list)
one_longer c list i v lt is = flat_map_more c.written [] (take i list) v ∙ ap (λ t. flat_map c.written t) (sym (take_more list i v lt ∙ ap (λ w. take i list ++ w ∷ []) (sym is)))

pub adds_more : {A : Type 0} (c : Codec A) (list : List A) (i : ℕ) (v : A) (s0 s1 s2 : Sunk) → i < length list → v ≡ get_or list i v → AddsFirst c list i s0 (Ok tt) s1 → Writes c s1 v (Ok tt) s2 → AddsFirst c list (i + 1) s0 (Ok tt) s2
adds_more c list i v s0 s1 s2 lt is p q =
    let w = adds_both p q in
    record {
      ok = w.ok ∙ ap (λ t. s0.bytes ++ t) (one_longer c list i v lt is);
      in_range = all_more c.InRange list i v lt is p.in_range q.in_range;
      kept = w.kept;
      succeeds = λ fits. refl;
      room = w.room;
    }

pub adds_failed : {A : Type 0} (c : Codec A) (list : List A) (i : ℕ) (v : A) (s0 s1 s2 : Sunk) (e : AllocError) → i < length list → v ≡ get_or list i v → AddsFirst c list i s0 (Ok tt) s1 → Writes c s1 v (Err e) s2 → Adds (flat_map c.written list) (All c.InRange list) s0 (Err e) s2
adds_failed c list i v s0 s1 s2 e lt is p q =
    let front = flat_map c.written (take i list) in
    let long : length front + length (c.written v) ≤ length (flat_map c.written list) = subst (λ w. length front + length (c.written w) ≤ length (flat_map c.written list)) (sym is) (length-flat_map-take c.written list i v lt) in
    record {
      ok = tt;
      in_range = tt;
      kept = extends_trans s0.bytes s1.bytes s2.bytes p.kept q.kept;
      succeeds = λ fits. q.succeeds (omega (arith, long, p.room, fits, ap length p.ok, length-append s0.bytes front));
      room = omega (arith, p.room, q.room);
    }

pub adds_all : {A : Type 0} (c : Codec A) (list : List A) (i : ℕ) (s0 s1 : Sunk) → length list ≤ i → AddsFirst c list i s0 (Ok tt) s1 → Adds (flat_map c.written list) (All c.InRange list) s0 (Ok tt) s1
adds_all {A} c list i s0 s1 le p = subst (λ (t : List A). Adds (flat_map c.written t) (All c.InRange t) s0 (Ok tt) s1) (take_all i list le) p
