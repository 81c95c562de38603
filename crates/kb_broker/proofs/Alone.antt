-- What a broker writes that a tenant has to itself is all the tenant's.
use Rattle.std.proofs.Common.{◌≡◌, ℕ, List, [], ◌∷◌, ◌++◌, Bool, true, false, cond, refl, sym, ◌∙◌, ap, subst, arith}
use Rattle.std.specs.Prelude.{map}
use Rattle.std.specs.List.{AllByRecursion}
use Rattle.kb_isolation_spec.specs.Machine.{Happening, Opens, Comes, Closes, Moment, Line, Sent, those, those_sent}
use Rattle.kb_isolation_spec.specs.Owners.{purge}
use Rattle.kb_isolation_spec.specs.Broker.{BrokerState, IsCalmFor, IsEventRun, owned_by}
use Rattle.kb_isolation_spec.specs.Isolation.{IsIsolated, own_events, own_sent}
use Rattle.kb_isolation_spec.specs.Alone.{HasToItself}
use Rattle.kb_isolation_spec.proofs.Alone.{sent-alone, owners-alone, unused-alone, run-own}
use Rattle.kb_broker.specs.Runs.{sent_of, numbers_of_lines, opening, connections_of}
use Rattle.kb_broker.specs.declared.run.Written.{Written}

-- 1. Numbers that are the tenant's

abbrev AreOwn : (ℕ → Bool) → List ℕ → Type 0
AreOwn p ns = AllByRecursion (λ n. p n ≡ true) ns

own-numbers : (p : ℕ → Bool) (ls : List Line) → AreOwn p (numbers_of_lines (those p ls))
own-numbers p [] = tt
own-numbers p (l ∷ ls) = by (p l.number) refl (own-numbers p ls)
  where
    by : (b : Bool) → p l.number ≡ b → AreOwn p (numbers_of_lines (those p ls)) → AreOwn p (numbers_of_lines (cond b (l ∷ those p ls) (those p ls)))
    by true h rest = (h, rest)
    by false h rest = rest

own-opening : (p : ℕ → Bool) (es : List Happening) → AreOwn p (opening (purge p es))
own-opening p [] = tt
own-opening p (Opens n ∷ es) = by (p n) refl (own-opening p es)
  where
    by : (b : Bool) → p n ≡ b → AreOwn p (opening (purge p es)) → AreOwn p (opening (cond b (Opens n ∷ purge p es) (purge p es)))
    by true h rest = (h, rest)
    by false h rest = rest
own-opening p (Comes n piece ∷ es) = by (p n) (own-opening p es)
  where
    by : (b : Bool) → AreOwn p (opening (purge p es)) → AreOwn p (opening (cond b (Comes n piece ∷ purge p es) (purge p es)))
    by true rest = rest
    by false rest = rest
own-opening p (Closes n ∷ es) = by (p n) (own-opening p es)
  where
    by : (b : Bool) → AreOwn p (opening (purge p es)) → AreOwn p (opening (cond b (Closes n ∷ purge p es) (purge p es)))
    by true rest = rest
    by false rest = rest
own-opening p (Moment now ∷ es) = own-opening p es

own-both : (p : ℕ → Bool) (ns ms : List ℕ) → AreOwn p ns → AreOwn p ms → AreOwn p (ns ++ ms)
own-both p [] ms h k = k
own-both p (n ∷ ns) ms h k = (h.0, own-both p ns ms h.1 k)

own-same : (p q : ℕ → Bool) → ((n : ℕ) → q n ≡ p n) → (ns : List ℕ) → AreOwn p ns → AreOwn q ns
own-same p q e [] h = tt
own-same p q e (n ∷ ns) h = (e n ∙ h.0, own-same p q e ns h.1)

all-sent : (p : ℕ → Bool) (ss : List Sent) → AreOwn p (map (λ (s : Sent). s.number) ss) → those_sent p ss ≡ ss
all-sent p [] h = refl
all-sent p (s ∷ ss) h = let here = h.0 in let rest = all-sent p ss h.1 in grind (arith, here, rest)

-- 2. Runs

own-connections : (t : ℕ) (es : List Happening) (shared own : BrokerState) → HasToItself t es shared own → AreOwn (owned_by t es shared) (connections_of (own_events t es shared) own)
own-connections t es shared own h =
    own-both (owned_by t es shared) (numbers_of_lines own.lines) (opening (own_events t es shared))
    (subst (λ ls. AreOwn (owned_by t es shared) (numbers_of_lines ls)) (sym h.lines) (own-numbers (owned_by t es shared) shared.lines))
    (own-opening (owned_by t es shared) es)

-- all that is written to the connections that there are
pub all-alone : (t : ℕ) (es : List Happening) (shared after own own_after : BrokerState) (got own_got : List Sent) → IsIsolated es shared after got → IsIsolated (own_events t es shared) own own_after own_got
    → HasToItself t es shared own → IsCalmFor t shared after → IsCalmFor t own own_after → map (λ (s : Sent). s.number) own_got ≡ connections_of (own_events t es shared) own
    → own_got ≡ own_sent t es shared got
all-alone t es shared after own own_after got own_got p q h first second numbered =
    let mine = owned_by t (own_events t es shared) own in
    let own_numbers : AreOwn mine (map (λ (s : Sent). s.number) own_got) =
    subst (AreOwn mine) (sym numbered) (own-same (owned_by t es shared) mine (λ n. owners-alone t n es shared own h) (connections_of (own_events t es shared) own) (own-connections t es shared own h)) in
    sym (all-sent mine own_got own_numbers) ∙ sent-alone t es shared after own own_after got own_got p q h first second

numbers-written : (ws : List Written) → map (λ (s : Sent). s.number) (map sent_of ws) ≡ map (λ (w : Written). w.conn) ws
numbers-written [] = refl
numbers-written (w ∷ ws) = ap (λ ns. w.conn ∷ ns) (numbers-written ws)

-- so it is of two whole runs
pub written-alone : (t : ℕ) (es fs : List Happening) (shared after own own_after : BrokerState) (got own_got : List Written) → fs ≡ own_events t es shared
    → IsIsolated es shared after (map sent_of got) → IsIsolated fs own own_after (map sent_of own_got) → map (λ (w : Written). w.conn) own_got ≡ connections_of fs own
    → HasToItself t es shared own → IsCalmFor t shared after → IsCalmFor t own own_after
    → map sent_of own_got ≡ own_sent t es shared (map sent_of got)
written-alone t es fs shared after own own_after got own_got e p q numbered h first second =
    all-alone t es shared after own own_after (map sent_of got) (map sent_of own_got) p (subst (λ x. IsIsolated x own own_after (map sent_of own_got)) e q) h first second
    (numbers-written own_got ∙ (numbered ∙ ap (λ x. connections_of x own) e))

-- of brokers that were opened alike
pub opened-alone : (opening : BrokerState) (t : ℕ) (es fs : List Happening) (shared after own own_after : BrokerState) (got own_got : List Written) → shared ≡ opening → own ≡ opening → opening.lines ≡ [] → fs ≡ own_events t es shared
    → IsIsolated es shared after (map sent_of got) → IsIsolated fs own own_after (map sent_of own_got) → map (λ (w : Written). w.conn) own_got ≡ connections_of fs own
    → IsCalmFor t shared after → IsCalmFor t own own_after → map sent_of own_got ≡ own_sent t es shared (map sent_of got)
opened-alone opening t es fs shared after own own_after got own_got a b none e p q numbered first second =
    let both : HasToItself t es shared own = subst (HasToItself t es shared) (a ∙ sym b) (unused-alone t es shared (ap (λ (x : BrokerState). x.lines) a ∙ none)) in
    written-alone t es fs shared after own own_after got own_got e p q numbered both first second

pub run-fewer : (t : ℕ) (es fs : List Happening) (b : BrokerState) → fs ≡ own_events t es b → IsEventRun b.last es → IsEventRun b.last fs
run-fewer t es fs b e r = subst (IsEventRun b.last) (sym e) (run-own t b.last es b r)
