-- An answer in its place by connection.
use Rattle.std.proofs.Common.{◌≡◌, ℕ, zero, suc, ◌+◌, ◌<◌, ◌≤◌, List, [], ◌∷◌, length, Option, Some, slice_get, get_or, insert, drop, refl, sym, ap, ◌∙◌, true, false, nat_lt, arith}
use Rattle.std.proofs.Math.Numerals.{suc-eq-add-one}
use Rattle.std.proofs.lemmas.Option.{same_Some, none-some}
use Rattle.kb_groups.specs.declared.reply.Release.{Release}
use Rattle.kb_groups.specs.declared.member.Member.{Member}
use Rattle.kb_groups.specs.declared.member.Asked.{Asked}
use Rattle.kb_groups.specs.declared.reply.Reply.{Reply}
use Rattle.kb_groups.specs.Answers.{place, answers, waiter_answered}
use Rattle.kb_groups.specs.Members.{Roster}

-- The first i are below c.
abbrev pub Below : ℕ → ℕ → List Release → Type 0
Below c zero xs = Unit {0}
Below c (suc i) [] = Unit {0}
Below c (suc i) (x ∷ xs) = (x.connection < c) × Below c i xs

Below-suc : (c i : ℕ) (xs : List Release) (x : Release) → Below c i xs → get_or xs i x ≡ x → x.connection < c → Below c (suc i) xs
Below-suc c zero [] x b g h = tt
Below-suc c zero (y ∷ xs) x b g h = let e : y.connection ≡ x.connection = ap (λ z. z.connection) g in (omega (arith, e, h), tt)
Below-suc c (suc i) [] x b g h = tt
Below-suc c (suc i) (y ∷ xs) x b g h = (b.0, Below-suc c i xs x b.1 g h)

pub Below-more : (c i : ℕ) (xs : List Release) (x : Release) → Below c i xs → get_or xs i x ≡ x → x.connection < c → Below c (i + 1) xs
Below-more c i xs x b g h = rw (← suc-eq-add-one i) (Below-suc c i xs x b g h)

pub insert_end : (r : Release) (i : ℕ) (xs : List Release) → Below r.connection i xs → length xs ≤ i → insert xs i r ≡ place r xs
unfolding place
insert_end r zero [] b h = refl
insert_end r (suc i) [] b h = refl
insert_end r zero (x ∷ xs) b h = absurd (omega (arith, h))
insert_end r (suc i) (x ∷ xs) b h = let e : nat_lt x.connection r.connection ≡ true = grind (arith, b.0) in rw e (ap (λ l. x ∷ l) (insert_end r i xs b.1 (omega (arith, h))))

pub insert_here : (r : Release) (i : ℕ) (xs : List Release) (x : Release) → Below r.connection i xs → get_or xs i x ≡ x → r.connection ≤ x.connection → insert xs i r ≡ place r xs
unfolding place
insert_here r zero [] x b g h = refl
insert_here r (suc i) [] x b g h = refl
insert_here r zero (y ∷ xs) x b g h = let e : y.connection ≡ x.connection = ap (λ z. z.connection) g in let f : nat_lt y.connection r.connection ≡ false = grind (arith, e, h) in rw f refl
insert_here r (suc i) (y ∷ xs) x b g h = let e : nat_lt y.connection r.connection ≡ true = grind (arith, b.0) in rw e (ap (λ l. y ∷ l) (insert_here r i xs x b.1 g h))

-- One member further.
answers_suc : (f : ℕ → Member → Asked → Option Reply) (i : ℕ) (es : Roster) (n : ℕ) (m : Member) (out : List Release) → slice_get es i ≡ Some (n, m) → answers f (drop i es) out ≡ answers f (drop (suc i) es) (waiter_answered m.waiter (f n m) out)
unfolding answers
answers_suc f zero [] n m out h = absurd (none-some (n, m) h)
answers_suc f zero (e ∷ es) n m out h = ap (λ p. answers f es (waiter_answered p.1.waiter (f p.0 p.1) out)) (same_Some _ _ h)
answers_suc f (suc i) [] n m out h = absurd (none-some (n, m) h)
answers_suc f (suc i) (e ∷ es) n m out h = answers_suc f i es n m out h

pub answers_more : (f : ℕ → Member → Asked → Option Reply) (i : ℕ) (es : Roster) (n : ℕ) (m : Member) (out : List Release) → slice_get es i ≡ Some (n, m) → answers f (drop i es) out ≡ answers f (drop (i + 1) es) (waiter_answered m.waiter (f n m) out)
answers_more f i es n m out h = rw (← suc-eq-add-one i) (answers_suc f i es n m out h)

pub answers_end : (f : ℕ → Member → Asked → Option Reply) (i : ℕ) (es : Roster) (out : List Release) → length es ≤ i → answers f (drop i es) out ≡ out
unfolding answers
answers_end f zero [] out h = refl
answers_end f (suc i) [] out h = refl
answers_end f zero (e ∷ es) out h = absurd (omega (arith, h))
answers_end f (suc i) (e ∷ es) out h = answers_end f i es out (omega (arith, h))

-- A step of the loop over the members, whose list so far becomes `next`.
pub answers_step : (f : ℕ → Member → Asked → Option Reply) (i : ℕ) (es : Roster) (n : ℕ) (m : Member) (out next all : List Release) → answers f (drop i es) out ≡ all → Some (n, m) ≡ slice_get es i → next ≡ waiter_answered m.waiter (f n m) out → answers f (drop (i + 1) es) next ≡ all
answers_step f i es n m out next all inv at e = rw e (sym (answers_more f i es n m out (sym at)) ∙ inv)
