-- The chain of a log's files goes on where its files do.
use Rattle.std.proofs.Common.{◌≡◌, ◌∙◌, ◌<◌, ◌≤◌, ◌+◌, ◌++◌, ◌∷◌, ◌⊎◌, [], ℕ, zero, suc, Bool, true, false, cond, Some, List, length, map, take, nat_lt, sym, ap, subst, refl, inl, inr, ⊎_elim, arith, append_assoc}
use Rattle.std.specs.Prelude.{pos}
use Rattle.std.specs.List.{Contains, concat}
use Rattle.std.proofs.lemmas.Bool.{cases_lt}
use Rattle.std.proofs.lemmas.Bool.Decides.{nat_tests}
use Rattle.std.proofs.lemmas.List.{append-nil, append_cancel_left}
use Rattle.kb_store.specs.Disk.{Files}
use Rattle.kb_batch.specs.Batch.{IsBatch, count_of, front}
use Rattle.kb_batch.specs.BatchLaws.{front-append}
use Rattle.kb_batch.specs.Header.{base_offset_of}
use Rattle.kb_segment.specs.Segment.{EndsAt}
use Rattle.kb_log.specs.Log.{IsRun}
use Rattle.kb_segment_log.specs.SegmentLaws.{run_join, run_ordered}
use Rattle.kb_segment_log.specs.Chain.{Part, base_at, part_at, parts_at, IsLongest, StopsAt, EndsIn, GoesThrough, IsChain}
use Rattle.kb_loss.specs.Fronts.{IsFrontOf}
use Rattle.kb_loss.specs.Chains.{GoesOn, AreFound, first_at}
use Rattle.kb_loss.proofs.Fronts.{front_itself, front_none, front_then, front_cons, front_behind, fronts_equal, run_none, run_end}
use Rattle.kb_loss.proofs.Orders.{Spot, Has, Rising}

-- ---- one file

-- a batch that goes on is not left over
left_over : (at end : ℕ) (x : List ℕ) (b : List ℕ) (bs : List (List ℕ)) (y : List ℕ) → EndsAt at x → x ≡ (b ++ concat bs) ++ y → IsBatch b → base_offset_of b ≡ pos at → at + count_of b ≤ end → end < 9223372036854775808 → ⊥
left_over at end x b bs y ends split batch base l small =
    let found : front x ≡ Some b = ap front (split ∙ append_assoc b (concat bs) y) ∙ front-append b (concat bs ++ y) batch in
    let over : 9223372036854775808 ≤ at + count_of b = ends b found base in
    omega (arith, over, l, small)

-- where bytes go on, their longest run goes on
run_on : (at : ℕ) (old new : List ℕ) (r s : List (List ℕ)) (e f : ℕ) (x y : List ℕ) → IsFrontOf old new → IsLongest at old r e x → IsLongest at new s f y → IsFrontOf r s
run_on at old new [] s e f x y on p q = front_none [] s refl
run_on at old new (b ∷ bs) [] e f x y on p q =
    let whole : y ≡ (b ++ concat bs) ++ (x ++ on.rest) = sym q.split ∙ on.split ∙ ap (λ z. z ++ on.rest) p.split ∙ append_assoc (b ++ concat bs) x on.rest in
    absurd (left_over at e y b bs (x ++ on.rest) (subst (λ (n : ℕ). EndsAt n y) (sym q.links) q.longest) whole p.links.0 p.links.1 (run_ordered (at + count_of b) bs e p.links.2) p.small)
run_on at old new (b ∷ bs) (c ∷ cs) e f x y on p q =
    let one : new ≡ b ++ ((concat bs ++ x) ++ on.rest) = on.split ∙ ap (λ z. z ++ on.rest) (p.split ∙ append_assoc b (concat bs) x) ∙ append_assoc b (concat bs ++ x) on.rest in
    let two : new ≡ c ++ (concat cs ++ y) = q.split ∙ append_assoc c (concat cs) y in
    let found : Some b ≡ Some c = sym (front-append b ((concat bs ++ x) ++ on.rest) p.links.0) ∙ ap front (sym one ∙ two) ∙ front-append c (concat cs ++ y) q.links.0 in
    let same : b ≡ c = cc in
    let moved : (concat bs ++ x) ++ on.rest ≡ concat cs ++ y = append_cancel_left b ((concat bs ++ x) ++ on.rest) (concat cs ++ y) (sym one ∙ two ∙ ap (λ z. z ++ (concat cs ++ y)) (sym same)) in
    let further = run_on (at + count_of b) (concat bs ++ x) (concat cs ++ y) bs cs e f x y
    (record { rest = on.rest; split = sym moved })
    (record { split = refl; links = p.links.2; small = p.small; longest = p.longest })
    (record { split = refl; links = subst (λ (z : List ℕ). IsRun (at + count_of z) cs f) (sym same) q.links.2; small = q.small; longest = q.longest }) in
    subst (λ (z : List ℕ). IsFrontOf (b ∷ bs) (z ∷ cs)) same (front_cons b bs cs further)

-- two longest runs of the same bytes
record OneRun (r s : List (List ℕ)) (e f : ℕ) (x y : List ℕ) : Type 0 where
  run : r ≡ s
  end : e ≡ f
  rest : x ≡ y

one_run : (at : ℕ) (bytes : List ℕ) (r s : List (List ℕ)) (e f : ℕ) (x y : List ℕ) → IsLongest at bytes r e x → IsLongest at bytes s f y → OneRun r s e f x y
one_run at bytes r s e f x y p q =
    let same : r ≡ s = fronts_equal r s (run_on at bytes bytes r s e f x y (front_itself bytes) p q) (run_on at bytes bytes s r f e y x (front_itself bytes) q p) in
    record {
      run = same;
      end = run_end at s e f (subst (λ (z : List (List ℕ)). IsRun at z e) same p.links) q.links;
      rest = append_cancel_left (concat s) x y (ap (λ z. concat z ++ x) (sym same) ∙ sym p.split ∙ q.split);
    }

-- ---- the files that a chain is in

-- one of them has a run, and behind it nothing, unless it is the last
pub record Passes (at : ℕ) (f : Part) (fs : List Part) (next : ℕ → List (List ℕ) → Type 0) (bs : List (List ℕ)) : Type 0 where
  pub base : f.base ≡ at
  pub run : List (List ℕ)
  pub mid : ℕ
  pub behind : List (List ℕ)
  pub left : List ℕ
  pub longest : IsLongest at f.body run mid left
  pub whole : (left ≡ []) ⊎ (fs ≡ [])
  pub split : bs ≡ run ++ behind
  pub further : next mid behind

-- all of them, from one offset to another
abbrev pub Through : ℕ → List Part → List (List ℕ) → ℕ → Type 0
Through at [] bs e = (bs ≡ []) × (at ≡ e)
Through at (f ∷ fs) bs e = Passes at f fs (λ mid behind. Through mid fs behind e) bs

pub through_run : (at : ℕ) (fs : List Part) (bs : List (List ℕ)) (e : ℕ) → Through at fs bs e → IsRun at bs e
through_run at [] bs e t = subst (λ (x : List (List ℕ)). IsRun at x e) (sym t.0) t.1
through_run at (f ∷ fs) bs e t =
    subst (λ (x : List (List ℕ)). IsRun at x e) (sym t.split) (run_join at t.mid e t.run t.behind t.longest.links (through_run t.mid fs t.behind e t.further))

-- where the first of them begins, or else the end
pub first_through : (files : Files) (at : ℕ) (ns : List ℕ) (bs : List (List ℕ)) (e : ℕ) → Through at (map (part_at files) ns) bs e → first_at files e ns ≡ at
first_through files at [] bs e t = sym t.1
first_through files at (n ∷ ns) bs e t = t.base

-- those of a chain
pub through_of : (files : Files) (at : ℕ) (order : List Spot) (bs : List (List ℕ)) (e n : ℕ) → IsChain at (parts_at files order) bs e n → Through at (map (part_at files) (map (λ (p : Spot). p.file) (take n order))) bs e
through_of files at [] bs e zero c = (c.0, c.1)
through_of files at [] bs e (suc n) c = (c.0, c.1)
through_of files at (p ∷ ps) bs e zero c = ⊎_elim
    (λ (a : StopsAt at (part_at files p.file) bs e zero). (a.none, a.ends))
    (λ more. ⊎_elim
    (λ (a : EndsIn at (part_at files p.file) bs e zero). absurd (omega (arith, a.counted)))
    (λ (a : GoesThrough at (part_at files p.file) (λ mid behind others. IsChain mid (parts_at files ps) behind e others) bs zero). absurd (omega (arith, a.counted)))
    more)
    c
through_of files at (p ∷ ps) bs e (suc n) c = ⊎_elim
    (λ (a : StopsAt at (part_at files p.file) bs e (suc n)). absurd (omega (arith, a.counted)))
    (λ more. ⊎_elim
    (λ (a : EndsIn at (part_at files p.file) bs e (suc n)).
    let none : n ≡ 0 = omega (arith, a.counted) in
    let fs : List Part = map (part_at files) (map (λ (q : Spot). q.file) (take n ps)) in
    let nil : fs ≡ [] = ap (λ k. map (part_at files) (map (λ (q : Spot). q.file) (take k ps))) none in
    record {
      base = a.base;
      run = bs;
      mid = e;
      behind = [];
      left = a.rest;
      longest = a.longest;
      whole = inr nil;
      split = sym (append-nil bs);
      further = subst (λ (x : List Part). Through e x [] e) (sym nil) (refl, refl);
    })
    (λ (a : GoesThrough at (part_at files p.file) (λ mid behind others. IsChain mid (parts_at files ps) behind e others) bs (suc n)).
    let same : a.others ≡ n = omega (arith, a.counted) in
    record {
      base = a.base;
      run = a.run;
      mid = a.mid;
      behind = a.behind;
      left = [];
      longest = a.longest;
      whole = inl refl;
      split = a.split;
      further = through_of files a.mid ps a.behind e n (subst (λ (k : ℕ). IsChain a.mid (parts_at files ps) a.behind e k) same a.further);
    })
    more)
    c

-- a chain of some files and others behind them
pub record Parted (at : ℕ) (fs : List Part) (bs : List (List ℕ)) (e : ℕ) : Type 0 where
  pub front : List (List ℕ)
  pub mid : ℕ
  pub behind : List (List ℕ)
  pub split : bs ≡ front ++ behind
  pub run : IsRun at front mid
  pub rest : Through mid fs behind e

pub parted : (at : ℕ) (gone fs : List Part) (bs : List (List ℕ)) (e : ℕ) → Through at (gone ++ fs) bs e → Parted at fs bs e
parted at [] fs bs e t = record { front = []; mid = at; behind = bs; split = refl; run = refl; rest = t }
parted at (g ∷ gone) fs bs e t =
    let more = parted t.mid gone fs t.behind e t.further in
    record {
      front = t.run ++ more.front;
      mid = more.mid;
      behind = more.behind;
      split = t.split ∙ ap (λ z. t.run ++ z) more.split ∙ sym (append_assoc t.run more.front more.behind);
      run = run_join at t.mid more.mid t.run more.front t.longest.links more.run;
      rest = more.rest;
    }

-- ---- those that begin below the end

abbrev pub upto : (ℕ → ℕ) → ℕ → List ℕ → List ℕ
upto base end [] = []
upto base end (n ∷ ns) = cond (nat_lt (base n) end) (n ∷ upto base end ns) []

lt_is : (a b : ℕ) → a < b → nat_lt a b ≡ true
lt_is a b l = grind (arith, nat_tests, l)

is_lt : (a b : ℕ) → nat_lt a b ≡ true → a < b
is_lt a b e = grind (arith, nat_tests, e)

not_lt : (a b : ℕ) → nat_lt a b ≡ false → b ≤ a
not_lt a b e = grind (arith, nat_tests, e)

upto_head : (base : ℕ → ℕ) (end n : ℕ) (ns : List ℕ) → base n < end → upto base end (n ∷ ns) ≡ n ∷ upto base end ns
upto_head base end n ns l = ap (λ t. cond t (n ∷ upto base end ns) []) (lt_is (base n) end l)

pub upto_front : (base : ℕ → ℕ) (end : ℕ) (ns : List ℕ) → IsFrontOf (upto base end ns) ns
upto_front base end [] = front_none [] [] refl
upto_front base end (n ∷ ns) = each (nat_lt (base n) end) (upto_front base end ns)
  where
    each : (t : Bool) → IsFrontOf (upto base end ns) ns → IsFrontOf (cond t (n ∷ upto base end ns) []) (n ∷ ns)
    each true f = front_cons n (upto base end ns) ns f
    each false f = front_none [] (n ∷ ns) refl

pub upto_low : (base : ℕ → ℕ) (end : ℕ) (ns : List ℕ) (m : ℕ) → Has (upto base end ns) m → base m < end
upto_low base end [] m mine = absurd mine
upto_low base end (n ∷ ns) m mine = each (nat_lt (base n) end) refl mine (λ rest. upto_low base end ns m rest)
  where
    each : (t : Bool) → nat_lt (base n) end ≡ t → Has (cond t (n ∷ upto base end ns) []) m → (Has (upto base end ns) m → base m < end) → base m < end
    each true is mine more = ⊎_elim (λ (e : n ≡ m). subst (λ (k : ℕ). base k < end) e (is_lt (base n) end is)) (λ (rest : Has (upto base end ns) m). more rest) mine
    each false is mine more = absurd mine

-- one that is left out is not below
pub upto_most : (base : ℕ → ℕ) (end : ℕ) (ns : List ℕ) → Rising base ns → (m : ℕ) → Has ns m → Has (upto base end ns) m ⊎ (end ≤ base m)
upto_most base end [] r m mine = absurd mine
upto_most base end (n ∷ ns) r m mine = each (nat_lt (base n) end) refl (λ rest. upto_most base end ns r.1 m rest)
  where
    each : (t : Bool) → nat_lt (base n) end ≡ t → (Has ns m → Has (upto base end ns) m ⊎ (end ≤ base m)) → Has (cond t (n ∷ upto base end ns) []) m ⊎ (end ≤ base m)
    each true is more = ⊎_elim
        (λ (e : n ≡ m). inl (inl e))
        (λ (rest : Has ns m). ⊎_elim (λ (low : Has (upto base end ns) m). inl (inr low)) (λ (high : end ≤ base m). inr high) (more rest))
        mine
    each false is more = inr (⊎_elim
        (λ (e : n ≡ m). subst (λ (k : ℕ). end ≤ base k) e (not_lt (base n) end is))
        (λ (rest : Has ns m). let high = not_lt (base n) end is in let after = r.0 m rest in omega (arith, high, after.begins))
        mine)

-- ---- files that begin with others

-- each of these is as it was, but the last may go on
abbrev pub BeginWith : List Part → List Part → Type 0
BeginWith [] new = Unit {0}
BeginWith (f ∷ fs) [] = ⊥
BeginWith (f ∷ []) (g ∷ gs) = GoesOn f g
BeginWith (f ∷ h ∷ fs) (g ∷ gs) = (g ≡ f) × BeginWith (h ∷ fs) gs

on_same : (f g : Part) → g ≡ f → GoesOn f g
on_same f g e = record { base = ap (λ (x : Part). x.base) e; body = subst (λ (x : List ℕ). IsFrontOf f.body x) (sym (ap (λ (x : Part). x.body) e)) (front_itself f.body) }

begin_cons : (f g : Part) (fs gs : List Part) → g ≡ f → BeginWith fs gs → BeginWith (f ∷ fs) (g ∷ gs)
begin_cons f g [] gs e b = on_same f g e
begin_cons f g (h ∷ fs) gs e b = (e, b)

first_on : (f g : Part) (fs gs : List Part) → BeginWith (f ∷ fs) (g ∷ gs) → GoesOn f g
first_on f g [] gs b = b
first_on f g (h ∷ fs) gs b = on_same f g b.0

module _ (files found : Files) (there : List ℕ) (end : ℕ) where
  pub begin_found : (ks rest : List ℕ) → AreFound files found there ks → BeginWith (map (part_at files) (upto (base_at files) end ks)) (map (part_at found) (upto (base_at files) end ks ++ rest))
  begin_found [] rest a = tt
  begin_found (k ∷ []) rest a = each (nat_lt (base_at files k) end)
    where
      each : (t : Bool) → BeginWith (map (part_at files) (cond t (k ∷ []) [])) (map (part_at found) (cond t (k ∷ []) [] ++ rest))
      each true = a.1
      each false = tt
  begin_found (k ∷ l ∷ ks) rest a = each (nat_lt (base_at files k) end) (upto (base_at files) end (l ∷ ks)) (begin_found (l ∷ ks) rest a.2)
    where
      each : (t : Bool) (us : List ℕ) → BeginWith (map (part_at files) us) (map (part_at found) (us ++ rest)) → BeginWith (map (part_at files) (cond t (k ∷ us) [])) (map (part_at found) (cond t (k ∷ us) [] ++ rest))
      each true us more = begin_cons (part_at files k) (part_at found k) (map (part_at files) us) (map (part_at found) (us ++ rest)) a.1 more
      each false us more = tt

pub found_base : (files found : Files) (there : List ℕ) (ks : List ℕ) → AreFound files found there ks → (k : ℕ) → Has ks k → base_at found k ≡ base_at files k
found_base files found there [] a k mine = absurd mine
found_base files found there (n ∷ []) a k mine = ⊎_elim
    (λ (e : n ≡ k). subst (λ (m : ℕ). base_at found m ≡ base_at files m) e a.1.base)
    (λ (wrong : ⊥). absurd wrong)
    mine
found_base files found there (n ∷ m ∷ ns) a k mine = ⊎_elim
    (λ (e : n ≡ k). subst (λ (m : ℕ). base_at found m ≡ base_at files m) e (ap (λ (x : Part). x.base) a.1))
    (λ (rest : Has (m ∷ ns) k). found_base files found there (m ∷ ns) a.2 k rest)
    mine

pub found_there : (files found : Files) (there : List ℕ) (ks : List ℕ) → AreFound files found there ks → (k : ℕ) → Has ks k → Contains there k
found_there files found there [] a k mine = absurd mine
found_there files found there (n ∷ []) a k mine = ⊎_elim (λ (e : n ≡ k). subst (Contains there) e a.0) (λ (wrong : ⊥). absurd wrong) mine
found_there files found there (n ∷ m ∷ ns) a k mine = ⊎_elim
    (λ (e : n ≡ k). subst (Contains there) e a.0)
    (λ (rest : Has (m ∷ ns) k). found_there files found there (m ∷ ns) a.2 k rest)
    mine

-- ---- their chain

none_left : (x : List ℕ) → 0 < length x → x ≡ [] → ⊥
none_left x l e = omega (arith, l, ap length e)

-- a file that goes on has the run that it had in front of all others
file_on : (at : ℕ) (f g : Part) (gs : List Part) (r cs : List (List ℕ)) (e e' m : ℕ) (x : List ℕ) → f.base ≡ at → GoesOn f g → IsLongest at f.body r e x → IsChain at (g ∷ gs) cs e' m → IsFrontOf r cs
file_on at f g gs r cs e e' m x base on p c = ⊎_elim
    (λ (s : StopsAt at g cs e' m). absurd (s.elsewhere (on.base ∙ base)))
    (λ more. ⊎_elim
    (λ (s : EndsIn at g cs e' m). run_on at f.body g.body r cs e e' x s.rest on.body p s.longest)
    (λ (s : GoesThrough at g (λ mid behind others. IsChain mid gs behind e' others) cs m).
    front_then r s.run cs (run_on at f.body g.body r s.run e s.mid x [] on.body p s.longest) (record { rest = s.behind; split = s.split }))
    more)
    c

-- where none of the files begins below the end of their chain it has no batch
pub behind_none : (files : Files) (at : ℕ) (ns : List ℕ) (bs : List (List ℕ)) (e : ℕ) → Through at (map (part_at files) ns) bs e → upto (base_at files) e ns ≡ [] → bs ≡ []
behind_none files at [] bs e t is = t.0
behind_none files at (n ∷ ns) bs e t is = ⊎_elim
    (λ (low : at < e).
    let base : base_at files n ≡ at = t.base in
    let wrong : n ∷ upto (base_at files) e ns ≡ [] = sym (upto_head (base_at files) e n ns (omega (arith, low, base))) ∙ is in
    absurd cc)
    (λ (high : e ≤ at). run_none at e bs (through_run at (map (part_at files) (n ∷ ns)) bs e t) high)
    (cases_lt at e)

-- where files begin with those of a chain that begin below its end, their chain begins with its batches
pub chain_on : (files : Files) (at : ℕ) (ns : List ℕ) (gs : List Part) (bs cs : List (List ℕ)) (e e' m : ℕ) → Through at (map (part_at files) ns) bs e → BeginWith (map (part_at files) (upto (base_at files) e ns)) gs → IsChain at gs cs e' m → IsFrontOf bs cs
chain_on files at [] gs bs cs e e' m t b d = front_none bs cs t.0
chain_on files at (n ∷ ns) gs bs cs e e' m t b d = ⊎_elim
    (λ (low : at < e). let base : base_at files n ≡ at = t.base in
    by (λ hs ds g k begin c. chain_on files t.mid ns hs t.behind ds e g k t.further begin c) (upto (base_at files) e ns) refl gs (subst (λ (z : List ℕ). BeginWith (map (part_at files) z) gs) (upto_head (base_at files) e n ns (omega (arith, low, base))) b) d)
    (λ (high : e ≤ at). front_none bs cs (run_none at e bs (through_run at (map (part_at files) (n ∷ ns)) bs e t) high))
    (cases_lt at e)
  where
    f : Part
    f = part_at files n

    -- another file is behind it, so that it has its run alone
    alone : (u : ℕ) (us : List ℕ) → upto (base_at files) e ns ≡ u ∷ us → t.left ≡ []
    alone u us is = ⊎_elim
        (λ (none : t.left ≡ []). none)
        (λ (wrong : map (part_at files) ns ≡ []). absurd (some ns is wrong))
        t.whole
      where
        some : (ms : List ℕ) → upto (base_at files) e ms ≡ u ∷ us → map (part_at files) ms ≡ [] → ⊥
        some [] is wrong = absurd cc
        some (k ∷ ms) is wrong = absurd cc

    by : ((hs : List Part) (ds : List (List ℕ)) (g k : ℕ) → BeginWith (map (part_at files) (upto (base_at files) e ns)) hs → IsChain t.mid hs ds g k → IsFrontOf t.behind ds)
        → (us : List ℕ) → upto (base_at files) e ns ≡ us → (gs : List Part) → BeginWith (f ∷ map (part_at files) us) gs → IsChain at gs cs e' m → IsFrontOf bs cs
    by more [] is [] b d = absurd b
    by more (u ∷ us) is [] b d = absurd b
    by more [] is (g ∷ gs) b d =
        let here = file_on at f g gs t.run cs t.mid e' m t.left t.base b t.longest d in
        let whole : bs ≡ t.run = t.split ∙ ap (λ z. t.run ++ z) (behind_none files t.mid ns t.behind e t.further is) ∙ append-nil t.run in
        subst (λ (z : List (List ℕ)). IsFrontOf z cs) (sym whole) here
    by more (u ∷ us) is (g ∷ gs) b d =
        let as_it_was : IsChain at (f ∷ gs) cs e' m = subst (λ (z : Part). IsChain at (z ∷ gs) cs e' m) b.0 d in
        let rest : BeginWith (map (part_at files) (upto (base_at files) e ns)) gs = subst (λ (z : List ℕ). BeginWith (map (part_at files) z) gs) (sym is) b.1 in
        let longest : IsLongest at f.body t.run t.mid [] = subst (λ (z : List ℕ). IsLongest at f.body t.run t.mid z) (alone u us is) t.longest in
        ⊎_elim
        (λ (s : StopsAt at f cs e' m). absurd (s.elsewhere t.base))
        (λ left. ⊎_elim
        (λ (s : EndsIn at f cs e' m). absurd (none_left s.rest s.some (one_run at f.body cs t.run e' t.mid s.rest [] s.longest longest).rest))
        (λ (s : GoesThrough at f (λ mid behind others. IsChain mid gs behind e' others) cs m).
        let same = one_run at f.body s.run t.run s.mid t.mid [] [] s.longest longest in
        let further = more gs s.behind e' s.others rest (subst (λ (k : ℕ). IsChain k gs s.behind e' s.others) same.end s.further) in
        let all = front_behind t.run t.behind s.behind further in
        subst (λ (z : List (List ℕ)). IsFrontOf bs z) (sym s.split) (subst (λ (z : List (List ℕ)). IsFrontOf bs (z ++ s.behind)) (sym same.run) (subst (λ (z : List (List ℕ)). IsFrontOf z (t.run ++ s.behind)) (sym t.split) all)))
        left)
        as_it_was
