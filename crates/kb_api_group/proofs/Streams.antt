-- Whole streams.
use Rattle.std.proofs.Common.{◌≡◌, ℕ, List, [], ◌∷◌, ◌++◌, refl, sym, ap, subst, ◌∙◌, append_assoc}
use Rattle.std.proofs.lemmas.List.{append-nil}
use Rattle.kb_api_group.specs.Frames.{Front, Whole, Partial, TooSmall, TooLarge, front}
use Rattle.kb_api_group.specs.FrameStream.{behind, Fronts, with_more, IsFrame, IsStuck, Splits, Event, Came, Taken, joined, taken, Run}
use Rattle.kb_api_group.proofs.Fronts.{front-found, front-only, answered}

more_of : (limit : ℕ) (s t : List ℕ) (f : Front) → front limit s ≡ f → Fronts limit s f → front limit (s ++ t) ≡ with_more limit f s t
more_of limit s t (Whole frame rest) e h = front-only limit (s ++ t) (Whole frame (rest ++ t)) (h.0, h.1, ap (λ x. x ++ t) h.2 ∙ append_assoc h.0 rest t)
more_of limit s t Partial e h = refl
more_of limit s t TooSmall e h = front-only limit (s ++ t) TooSmall (h.0, (h.1.0, h.1.1 ++ t, ap (λ x. x ++ t) h.1.2 ∙ append_assoc h.1.0 h.1.1 t, h.1.3), h.2)
more_of limit s t TooLarge e h = front-only limit (s ++ t) TooLarge (h.0, (h.1.0, h.1.1 ++ t, ap (λ x. x ++ t) h.1.2 ∙ append_assoc h.1.0 h.1.1 t, h.1.3), h.2, h.3)

pub more_bytes : (limit : ℕ) (s t : List ℕ) → front limit (s ++ t) ≡ with_more limit (front limit s) s t
more_bytes limit s t = more_of limit s t (front limit s) refl (front-found limit s)

-- the frame that a step takes, and what it leaves
record Takes (limit : ℕ) (old frame : List ℕ) : Type 0 where
  text : List ℕ
  framed : IsFrame limit text frame
  is : old ≡ text ++ behind (front limit old) old

takes_of : (limit : ℕ) (old frame rest : List ℕ) (f : Front) → front limit old ≡ f → f ≡ Whole frame rest → Takes limit old frame
takes_of limit old frame rest f e is =
    let whole : front limit old ≡ Whole frame rest = e ∙ is in
    let h = subst (λ g. Fronts limit old g) whole (front-found limit old) in
    record { text = h.0; framed = h.1; is = h.2 ∙ ap (λ g. h.0 ++ behind g old) (sym whole) }

pub run_splits : (limit : ℕ) (old new : List ℕ) (events : List Event) → Run limit old events new → Splits limit (old ++ joined events) (taken events) new
run_splits limit old new [] h = append-nil old ∙ h
run_splits limit old new (Came piece ∷ events) h = subst (λ s. Splits limit s (taken events) new) (append_assoc old piece (joined events)) (run_splits limit (old ++ piece) new events h)
run_splits limit old new (Taken frame ∷ events) h =
    let a = answered (front limit old) frame (sym h.0) in
    let t = takes_of limit old frame a.0 (front limit old) refl a.1 in
    let left = behind (front limit old) old in
    (t.text, left ++ joined events, ap (λ s. s ++ joined events) t.is ∙ append_assoc t.text left (joined events), t.framed, run_splits limit left new events h.1)

whole_front : (limit : ℕ) (s text frame tail : List ℕ) → s ≡ text ++ tail → IsFrame limit text frame → front limit s ≡ Whole frame tail
whole_front limit s text frame tail is h = front-only limit s (Whole frame tail) (text, h, is)

one_whole : (a b s t : List ℕ) → Whole a s ≡ Whole b t → (a ≡ b) × (s ≡ t)
one_whole a b s t e = (cc, cc)

pub one_reading : (limit : ℕ) (stream rest other : List ℕ) (frames others : List (List ℕ)) → Splits limit stream frames rest → Splits limit stream others other → IsStuck limit rest → IsStuck limit other → (frames ≡ others) × (rest ≡ other)
one_reading limit stream rest other [] [] p q r o = (refl, sym p ∙ q)
one_reading limit stream rest other [] (b ∷ bs) p q r o = absurd (r b q.1 (ap (front limit) (sym p) ∙ whole_front limit stream q.0 b q.1 q.2 q.3))
one_reading limit stream rest other (b ∷ bs) [] p q r o = absurd (o b p.1 (ap (front limit) (sym q) ∙ whole_front limit stream p.0 b p.1 p.2 p.3))
one_reading limit stream rest other (b ∷ bs) (c ∷ cs) p q r o =
    let is = one_whole b c p.1 q.1 (sym (whole_front limit stream p.0 b p.1 p.2 p.3) ∙ whole_front limit stream q.0 c q.1 q.2 q.3) in
    let others = one_reading limit p.1 rest other bs cs p.4 (subst (λ t. Splits limit t cs other) (sym is.1) q.4) r o in
    (ap (λ x. x ∷ bs) is.0 ∙ ap (λ xs. c ∷ xs) others.0, others.1)

pub same_frames : (limit : ℕ) (old new other : List ℕ) (events others : List Event) → Run limit old events new → Run limit old others other → joined events ≡ joined others → IsStuck limit new → IsStuck limit other → (taken events ≡ taken others) × (new ≡ other)
same_frames limit old new other events others p q e r o = one_reading limit (old ++ joined events) new other (taken events) (taken others) (run_splits limit old new events p) (subst (λ s. Splits limit (old ++ s) (taken others) other) (sym e) (run_splits limit old other others q)) r o
