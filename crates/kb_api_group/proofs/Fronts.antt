-- What stands in front of bytes: computed, and in the words of the protocol.
use Rattle.std.proofs.Common.{◌≡◌, ℕ, ◌+◌, ◌<◌, ◌≤◌, Bool, true, false, cond, ltb, List, ◌++◌, length, take, drop, Result, Ok, Err, refl, sym, ap, subst, ◌∙◌, append_assoc, arith, inl, inr}
use Rattle.std.specs.Prelude.{ℤ, pos, negsuc, ◌<ℤ◌}
use Rattle.std.proofs.lemmas.Bool.{ltb-true, ltb-false, lt-ltb, le-ltb}
use Rattle.std.proofs.lemmas.Int.{ints}
use Rattle.std.proofs.lemmas.List.{take_at, drop_at, take-append-drop, drop-drop, length-take, length-drop, length-append}
use Rattle.kb_wire.specs.declared.fault.WireFault.{WireFault}
use Rattle.kb_wire.specs.Codec.{int, int32, sized, counted, octets}
use Rattle.kb_wire.specs.Laws.{int32_lawful}
use Rattle.kb_api_group.specs.declared.frames.Next.TheVariants as answers
use Rattle.kb_api_group.specs.Frames.{Front, Whole, Partial, TooSmall, TooLarge, front_by, front_read, front}
use Rattle.kb_api_group.specs.FrameStream.{answer, behind, IsSize, IsFrame, HasSize, Fronts}

-- ---- by the size and the bytes behind it

-- what stands there, where the size is n and these bytes are behind it
abbrev Parts : ℕ → ℕ → List ℕ → Front → Type 0
Parts limit n s (Whole frame rest) = IsSize limit n × (length frame ≡ n) × (s ≡ frame ++ rest)
Parts limit n s Partial = IsSize limit n × (length s < n)
Parts limit n s TooSmall = n < 8
Parts limit n s TooLarge = (8 ≤ n) × (limit < n)

tested : (limit : ℕ) (a b c : Bool) (n : ℕ) (s : List ℕ) → ltb n 8 ≡ a → ltb limit n ≡ b → ltb (length s) n ≡ c → Parts limit n s (cond a TooSmall (cond b TooLarge (cond c Partial (Whole (take n s) (drop n s)))))
tested limit true b c n s p q r = ltb-true n 8 p
tested limit false true c n s p q r = (ltb-false n 8 p, ltb-true limit n q)
tested limit false false true n s p q r = ((ltb-false n 8 p, ltb-false limit n q), ltb-true (length s) n r)
tested limit false false false n s p q r =
    let long : n ≤ length s = ltb-false (length s) n r in
    ((ltb-false n 8 p, ltb-false limit n q), omega (arith, length-take n s), sym (take-append-drop n s))

parts : (limit n : ℕ) (s : List ℕ) → Parts limit n s (front_by limit (pos n) s)
parts limit n s = tested limit (ltb n 8) (ltb limit n) (ltb (length s) n) n s refl refl refl

not_small : (limit n : ℕ) → IsSize limit n → ltb n 8 ≡ false
not_small limit n h = le-ltb n 8 h.0

not_large : (limit n : ℕ) → IsSize limit n → ltb limit n ≡ false
not_large limit n h = le-ltb limit n h.1

of_parts : (limit n : ℕ) (s : List ℕ) (f : Front) → Parts limit n s f → front_by limit (pos n) s ≡ f
of_parts limit n s (Whole frame rest) h =
    let long : ltb (length (frame ++ rest)) n ≡ false = le-ltb (length (frame ++ rest)) n (omega (arith, h.1, length-append frame rest)) in
    rw (h.2, not_small limit n h.0, not_large limit n h.0, long, take_at frame rest n h.1, drop_at frame rest n h.1) refl
of_parts limit n s Partial h = rw (not_small limit n h.0, not_large limit n h.0, lt-ltb (length s) n h.1) refl
of_parts limit n s TooSmall h = rw (lt-ltb n 8 h) refl
of_parts limit n s TooLarge h = rw (le-ltb n 8 h.0, lt-ltb limit n h.1) refl

-- ---- by the bytes

has_size : (s : List ℕ) (z : ℤ) (after : List ℕ) → int32.read s ≡ Ok (z, after) → HasSize s z
has_size s z after e = let f = int32_lawful.found s z after e in (f.0, after, f.1, f.2)

behind_size : (s : List ℕ) (z : ℤ) (after : List ℕ) → int32.read s ≡ Ok (z, after) → length s ≡ length after + 4
unfolding int
behind_size s z after e = let f = int32_lawful.found s z after e in omega (arith, ap length f.1, length-append f.0 after, f.2.0)

refused : {A : Type 0} (b : Bool) (d f : WireFault) (x : A) → cond b (Err d) (Ok x) ≡ Err f → b ≡ true
refused true d f x e = refl
refused false d f x e = absurd cc

short : (s : List ℕ) (f : WireFault) → int32.read s ≡ Err f → length s < 4
unfolding int
short s f e = ltb-true _ _ (refused (ltb (length s) 4) _ f _ e)

framed : (limit : ℕ) (s : List ℕ) (n : ℕ) (after frame rest : List ℕ) → int32.read s ≡ Ok (pos n, after) → Parts limit n after (Whole frame rest) → Fronts limit s (Whole frame rest)
unfolding int sized counted octets
framed limit s n after frame rest e h =
    let f = int32_lawful.found s (pos n) after e in
    let size : IsSize limit (length frame) = subst (λ (k : ℕ). IsSize limit k) (sym h.1) h.0 in
    let head : int32.Spells f.0 (pos (length frame)) = subst (λ (k : ℕ). int32.Spells f.0 (pos k)) (sym h.1) f.2 in
    (f.0 ++ frame, record { size = size; spelled = (f.0, frame, refl, head, refl) }, f.1 ∙ ap (λ t. f.0 ++ t) h.2 ∙ sym (append_assoc f.0 frame rest))

by_size : (limit : ℕ) (s : List ℕ) (n : ℕ) (after : List ℕ) → int32.read s ≡ Ok (pos n, after) → (f : Front) → Parts limit n after f → Fronts limit s f
by_size limit s n after e (Whole frame rest) h = framed limit s n after frame rest e h
by_size limit s n after e Partial h = inr (n, h.0, has_size s (pos n) after e, omega (arith, h.1, behind_size s (pos n) after e))
by_size limit s n after e TooSmall h = (pos n, has_size s (pos n) after e, omega (arith, ints))
by_size limit s n after e TooLarge h = (n, has_size s (pos n) after e, h.0, h.1)

by_number : (limit : ℕ) (s : List ℕ) (z : ℤ) (after : List ℕ) → int32.read s ≡ Ok (z, after) → Fronts limit s (front_by limit z after)
by_number limit s (pos n) after e = by_size limit s n after e (front_by limit (pos n) after) (parts limit n after)
by_number limit s (negsuc n) after e = (negsuc n, has_size s (negsuc n) after e, omega (arith, ints))

by_read : (limit : ℕ) (s : List ℕ) (r : Result (ℤ × List ℕ) WireFault) → int32.read s ≡ r → Fronts limit s (front_read limit r)
by_read limit s (Err fault) e = inl (short s fault e)
by_read limit s (Ok x) e = by_number limit s x.0 x.1 e

pub front-found : (limit : ℕ) (s : List ℕ) → Fronts limit s (front limit s)
unfolding front
front-found limit s = by_read limit s (int32.read s) refl

-- ---- and back

read_size : (s : List ℕ) (z : ℤ) (h : HasSize s z) → int32.read s ≡ Ok (z, h.1)
read_size s z h = ap int32.read h.2 ∙ int32_lawful.only h.0 z h.1 h.3

too_short : (limit : ℕ) (s : List ℕ) → length s < 4 → front limit s ≡ Partial
unfolding front int
too_short limit s h = rw (lt-ltb (length s) 4 h) refl

front_sized : (limit : ℕ) (s : List ℕ) (z : ℤ) (after : List ℕ) → int32.read s ≡ Ok (z, after) → front limit s ≡ front_by limit z after
unfolding front
front_sized limit s z after e = rw e refl

small : (limit : ℕ) (z : ℤ) (s : List ℕ) → z <ℤ pos 8 → front_by limit z s ≡ TooSmall
small limit (pos n) s h = of_parts limit n s TooSmall (omega (arith, ints))
small limit (negsuc n) s h = refl

whole : (limit : ℕ) (s frame rest : List ℕ) → Fronts limit s (Whole frame rest) → front limit s ≡ Whole frame rest
unfolding int sized counted octets
whole limit s frame rest h =
    let b = h.1.spelled in
    let is : s ≡ b.0 ++ (b.1 ++ rest) = h.2 ∙ ap (λ t. t ++ rest) b.2 ∙ append_assoc b.0 b.1 rest in
    let size : HasSize s (pos (length frame)) = (b.0, b.1 ++ rest, is, b.3) in
    front_sized limit s (pos (length frame)) (b.1 ++ rest) (read_size s (pos (length frame)) size) ∙ of_parts limit (length frame) (b.1 ++ rest) (Whole frame rest) (h.1.size, refl, ap (λ t. t ++ rest) b.4)

partial : (limit : ℕ) (s : List ℕ) (n : ℕ) → IsSize limit n → (h : HasSize s (pos n)) → length s < n + 4 → front limit s ≡ Partial
partial limit s n size h lt =
    let read = read_size s (pos n) h in
    front_sized limit s (pos n) h.1 read ∙ of_parts limit n h.1 Partial (size, omega (arith, lt, behind_size s (pos n) h.1 read))

pub front-only : (limit : ℕ) (s : List ℕ) (f : Front) → Fronts limit s f → front limit s ≡ f
front-only limit s (Whole frame rest) h = whole limit s frame rest h
front-only limit s Partial (inl few) = too_short limit s few
front-only limit s Partial (inr h) = partial limit s h.0 h.1 h.2 h.3
front-only limit s TooSmall h = front_sized limit s h.0 h.1.1 (read_size s h.0 h.1) ∙ small limit h.0 h.1.1 h.2
front-only limit s TooLarge h = front_sized limit s (pos h.0) h.1.1 (read_size s (pos h.0) h.1) ∙ of_parts limit h.0 h.1.1 TooLarge (h.2, h.3)

-- ---- a whole frame

pub record IsWhole (limit : ℕ) (s frame rest : List ℕ) : Type 0 where
  pub size : IsSize limit (length frame)
  pub len : length s ≡ 4 + length frame + length rest
  pub behind : drop (4 + length frame) s ≡ rest

framed_len : (limit : ℕ) (text frame : List ℕ) → IsFrame limit text frame → length text ≡ 4 + length frame
unfolding int sized counted octets
framed_len limit text frame h = let b = h.spelled in omega (arith, ap length b.2, length-append b.0 b.1, b.3.0, ap length b.4)

parted : (limit : ℕ) (s frame rest : List ℕ) → Fronts limit s (Whole frame rest) → IsWhole limit s frame rest
parted limit s frame rest h =
    let len = framed_len limit h.0 frame h.1 in
    record {
      size = h.1.size;
      len = omega (arith, len, ap length h.2, length-append h.0 rest);
      behind = ap (λ t. drop (4 + length frame) t) h.2 ∙ drop_at h.0 rest (4 + length frame) len;
    }

pub is_whole : (limit : ℕ) (s frame rest : List ℕ) → front limit s ≡ Whole frame rest → IsWhole limit s frame rest
is_whole limit s frame rest e = parted limit s frame rest (subst (λ f. Fronts limit s f) e (front-found limit s))

pub answered : (f : Front) (frame : List ℕ) → answers.Frame frame ≡ answer f → (rest : List ℕ) × (f ≡ Whole frame rest)
answered (Whole frame' rest) frame e = let same : frame' ≡ frame = cc in (rest, ap (λ t. Whole t rest) same)
answered Partial frame e = absurd cc
answered TooSmall frame e = absurd cc
answered TooLarge frame e = absurd cc

pub record IsSkipped (limit : ℕ) (s frame : List ℕ) : Type 0 where
  pub len : 4 + length frame ≤ length s
  pub behind : drop (4 + length frame) s ≡ behind (front limit s) s

pub is_skipped : (limit : ℕ) (s frame : List ℕ) → answers.Frame frame ≡ answer (front limit s) → IsSkipped limit s frame
is_skipped limit s frame e =
    let a = answered (front limit s) frame e in
    let w = is_whole limit s frame a.0 a.1 in
    record { len = omega (arith, w.len); behind = w.behind ∙ ap (λ f. behind f s) (sym a.1) }

-- in a buffer whose unread bytes begin at start
pub skipped-within : (limit : ℕ) (bytes s frame lent : List ℕ) (start : ℕ) → drop start bytes ≡ s → start ≤ length bytes → lent ≡ frame → IsSkipped limit s frame → start + (4 + length lent) ≤ length bytes
skipped-within limit bytes s frame lent start e le same k = omega (arith, k.len, ap length e, length-drop start bytes, ap length same)

pub skipped-behind : (limit : ℕ) (bytes s frame lent : List ℕ) (start : ℕ) → drop start bytes ≡ s → lent ≡ frame → IsSkipped limit s frame → drop (start + (4 + length lent)) bytes ≡ behind (front limit s) s
skipped-behind limit bytes s frame lent start e same k = sym (drop-drop (4 + length lent) start bytes) ∙ ap (λ t. drop (4 + length lent) t) e ∙ ap (λ (t : List ℕ). drop (4 + length t) s) same ∙ k.behind
