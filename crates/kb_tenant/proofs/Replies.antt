-- An array of a reply, written entry by entry while the entries are served.
use Rattle.std.proofs.Common.{◌≡◌, ◌∙◌, sym, ap, subst, ℕ, List, ◌++◌, ◌+◌, ◌<◌, ◌≤◌, length, drop, get_or, append_assoc}
use Rattle.std.specs.Int.{w32}
use Rattle.std.specs.List.{flat_map}
use Rattle.std.proofs.lemmas.List.Elements.{All-get_or}
use Rattle.kb_wire.specs.Codec.{Codec, count, sized, items, array}
use Rattle.kb_tenant.specs.Turns.{in_turn, written_behind}
use Rattle.kb_tenant.proofs.Turning.{turn_length, turn_next, turn_over}

-- one more entry is served, and its answer is written
pub entry_next : {S E A : Type 0} (c : Codec A) (f : S → E → S × A) (old new : List ℕ) (s t : S) (x : A) (es : List E) (i : ℕ) (e : E) (all : S × List ℕ) → i < length es → e ≡ get_or es i e → new ≡ old ++ c.written x → (t, x) ≡ f s e
    → written_behind c.written old (in_turn f s (drop i es)) ≡ all → written_behind c.written new (in_turn f t (drop (i + 1) es)) ≡ all
entry_next c f old new s t x es i e all lt is more step told =
    ap (λ o. written_behind c.written o (in_turn f t (drop (i + 1) es))) more ∙ turn_next c.written f old s t x es i e lt is step ∙ told

-- behind the count of the entries stand their answers
pub entries_over : {S E A : Type 0} (c : Codec A) (f : S → E → S × A) (start out end : List ℕ) (s t : S) (es : List E) (i : ℕ) → length es ≤ i → out ≡ start ++ (count w32).written (length es)
    → written_behind c.written end (in_turn f t (drop i es)) ≡ written_behind c.written out (in_turn f s es) → (t ≡ (in_turn f s es).0) × (end ≡ start ++ (array c).written (in_turn f s es).1)
unfolding sized items
entries_over {S} {E} {A} c f start out end s t es i le counted told =
    let r = in_turn f s es in
    let head = (count w32).written (length es) in
    let all : (t, end) ≡ (r.0, (start ++ head) ++ flat_map c.written r.1) = sym (turn_over c.written f end t es i le) ∙ told ∙ ap (λ o. written_behind c.written o r) counted in (
      ap (λ (x : S × List ℕ). x.0) all,
      ap (λ (x : S × List ℕ). x.1) all ∙ append_assoc start head (flat_map c.written r.1)
          ∙ ap (λ n. start ++ ((count w32).written n ++ flat_map c.written r.1)) (sym (turn_length f s es)),
    )

-- the count of an array that fits
pub count_fits : {A : Type 0} (c : Codec A) (vs : List A) → (array c).Fits vs → (count w32).Fits (length vs)
unfolding sized items
count_fits c vs fits = fits.0

-- an item of an array that fits
pub item_fits : {A : Type 0} (c : Codec A) (vs : List A) (i : ℕ) (v : A) → i < length vs → v ≡ get_or vs i v → (array c).Fits vs → c.Fits v
unfolding sized items
item_fits c vs i v lt is fits = subst c.Fits (sym is) (All-get_or c.Fits vs i v lt fits.1)
