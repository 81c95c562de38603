-- Lines, one after another.
use Rattle.std.proofs.Common.{◌≡◌, ◌∙◌, ◌++◌, ◌<◌, ℕ, zero, suc, List, [], ◌∷◌, Option, Some, None, Result, Ok, Err, refl, sym, ap, arith, decimal, append_assoc, append-nil}
use Rattle.std.specs.Prelude.{IfOk, string_bytes}
use Rattle.std.specs.declared.string.String.{String}
use Rattle.kb_operator.specs.Logged.{LogLine, text_in, Grows, IsText, AreLines, TellsBehind, TellsBare, TellsTexts}
use Rattle.kb_operator.specs.Logins.{more_lines}

pub grows_none : (a : Option (List LogLine)) → Grows a a []
grows_none None = tt
grows_none (Some xs) = sym (append-nil xs)

pub grows_both : (a b c : Option (List LogLine)) (xs ys : List LogLine) → Grows a b xs → Grows b c ys → Grows a c (xs ++ ys)
grows_both None b c xs ys p q = tt
grows_both (Some x) None c xs ys p q = absurd p
grows_both (Some x) (Some y) None xs ys p q = absurd q
grows_both (Some x) (Some y) (Some z) xs ys p q = q ∙ ap (λ l. l ++ ys) p ∙ append_assoc x xs ys

lines_both : (now : Option ℕ) (ts us : List (List ℕ)) (xs ys : List LogLine) → AreLines now ts xs → AreLines now us ys → AreLines now (ts ++ us) (xs ++ ys)
lines_both now [] us [] ys p q = q
lines_both now [] us (x ∷ xs) ys p q = absurd p
lines_both now (t ∷ ts) us [] ys p q = absurd p
lines_both now (t ∷ ts) us (x ∷ xs) ys p q = (p.0, p.1, lines_both now ts us xs ys p.2 q)

none_behind : (moment : Option ℕ) (a : Option (List LogLine)) → TellsBehind moment [] a a
none_behind moment a = record { lines = []; are = tt; grown = grows_none a }

both_behind : (moment : Option ℕ) (ts us : List (List ℕ)) (a b c : Option (List LogLine)) → TellsBehind moment ts a b → TellsBehind moment us b c
    → TellsBehind moment (ts ++ us) a c
both_behind moment ts us a b c p q = record {
  lines = p.lines ++ q.lines;
  are = lines_both moment ts us p.lines q.lines p.are q.are;
  grown = grows_both a b c p.lines q.lines p.grown q.grown;
}

-- nothing is told
pub tells_none : (now : ℕ) (a : Option (List LogLine)) → TellsTexts now [] a a
tells_none now a = none_behind (Some now) a

-- the one and then the other
pub tells_both : (now : ℕ) (ts us : List (List ℕ)) (a b c : Option (List LogLine)) → TellsTexts now ts a b → TellsTexts now us b c → TellsTexts now (ts ++ us) a c
tells_both now ts us a b c p q = both_behind (Some now) ts us a b c p q

-- the same without a moment
pub bare_none : (a : Option (List LogLine)) → TellsBare [] a a
bare_none a = none_behind None a

pub bare_both : (ts us : List (List ℕ)) (a b c : Option (List LogLine)) → TellsBare ts a b → TellsBare us b c → TellsBare (ts ++ us) a c
bare_both ts us a b c p q = both_behind None ts us a b c p q

is_text : {A E : Type 0} (r : Result (String A) E) (text : List ℕ) → IfOk r (λ t. string_bytes t ≡ text) → IsText text (text_in r)
is_text (Ok t) text h = h
is_text (Err e) text h = tt

one_behind : {A E : Type 0} (moment : Option ℕ) (text : List ℕ) (r : Result (String A) E) (a b : Option (List LogLine))
    → IfOk r (λ t. string_bytes t ≡ text) → Grows a b (record { moment = moment; text = text_in r } ∷ []) → TellsBehind moment (text ∷ []) a b
one_behind moment text r a b h g =
    record { lines = record { moment = moment; text = text_in r } ∷ []; are = (refl, is_text r text h, tt); grown = g }

-- a text that was made
pub tells_one : {A E : Type 0} (now : ℕ) (text : List ℕ) (r : Result (String A) E) (a b : Option (List LogLine))
    → IfOk r (λ t. string_bytes t ≡ text) → Grows a b (record { moment = Some now; text = text_in r } ∷ []) → TellsTexts now (text ∷ []) a b
tells_one now text r a b h g = one_behind (Some now) text r a b h g

pub bare_one : {A E : Type 0} (text : List ℕ) (r : Result (String A) E) (a b : Option (List LogLine))
    → IfOk r (λ t. string_bytes t ≡ text) → Grows a b (record { moment = None; text = text_in r } ∷ []) → TellsBare (text ∷ []) a b
bare_one text r a b h g = one_behind None text r a b h g

-- how many more there were
pub tells_more : {A E : Type 0} (now n : ℕ) (words : List ℕ) (r : Result (String A) E) (a b : Option (List LogLine)) → 0 < n
    → IfOk r (λ t. string_bytes t ≡ words ++ decimal n) → Grows a b (record { moment = Some now; text = text_in r } ∷ []) → TellsTexts now (more_lines words n) a b
tells_more now zero words r a b l h g = absurd (omega arith)
tells_more now (suc n) words r a b l h g = tells_one now (words ++ decimal (suc n)) r a b h g
