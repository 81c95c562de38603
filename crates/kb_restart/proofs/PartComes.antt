-- What some of a log's files come to is a part of its list.
use Rattle.std.proofs.Common.{◌≡◌, ◌∙◌, ◌≤◌, ◌+◌, ◌++◌, ◌⊎◌, ◌∷◌, [], ℕ, Option, Some, None, List, length, drop, get_or, map, sym, ap, subst, refl, inl, inr, ⊎_elim, arith, append_assoc, length-drop}
use Rattle.std.specs.Prelude.{option_map, unwrap_or}
use Rattle.std.specs.FinMap.{get}
use Rattle.std.specs.List.{All, AllByRecursion, Contains}
use Rattle.std.proofs.lemmas.List.{append-nil, nil_from_length}
use Rattle.std.proofs.lemmas.List.Elements.{All-contains_itself, All-head, All-tail}
use Rattle.std.proofs.lemmas.List.Sorted.{All-permutation}
use Rattle.kb_store.specs.Disk.{Files, Table}
use Rattle.kb_batch.specs.Batch.{count_of, front}
use Rattle.kb_batch.specs.BatchLaws.{batch_counted, no_room}
use Rattle.kb_segment.specs.Header.{Header, header_in}
use Rattle.kb_segment.specs.Segment.{EndsAt}
use Rattle.kb_segment.specs.declared.segment.Segment.{Segment}
use Rattle.kb_log.specs.Log.{IsRun, starting}
use Rattle.kb_log.specs.OnShelf.{HasLengths}
use Rattle.kb_segment_log.specs.SegmentLog.{all_in, base_in, bytes_at, held_by, segment_log, tail_in, whose, AreFilledInFront, AreLinked, IsFileOf, IsFilled, IsKept, IsLed, IsStored, Resumes}
use Rattle.kb_segment_log.specs.SegmentLaws.{all_run, log_run, run_ordered}
use Rattle.kb_segment_log.specs.Chain.{base_said, behind_header, first_of, part_at, numbers_of, place_at, Chain, EndsIn, GoesThrough, IsChain, IsLongest, IsScanned, Part, StopsAt}
use Rattle.kb_segment_log.specs.declared.log.SegmentLog.{SegmentLog}
use Rattle.kb_segment_log.proofs.Chained.{longest_run}
use Rattle.kb_segment_log.proofs.Comes.{all_weaker}
use Rattle.kb_segment_log.proofs.CutLeft.{headed_led}
use Rattle.kb_segment_log.proofs.Opened.{links_order}
use Rattle.kb_segment_log.proofs.Remaining.{order_numbers, order_said}
use Rattle.kb_segment_log.proofs.Unique.{same_chain}
use Rattle.kb_opening.proofs.Catalogs.{max_zero, starting_all}

-- ---- segments among others

abbrev IsIn : Segment → List Segment → Type 0
IsIn s [] = ⊥
IsIn s (t ∷ ts) = (t ≡ s) ⊎ IsIn s ts

of_all : (P : Segment → Type 0) (ss : List Segment) → AllByRecursion P ss → (s : Segment) → IsIn s ss → P s
of_all P [] all s is = absurd is
of_all P (t ∷ ts) all s is = ⊎_elim (λ (e : t ≡ s). subst P e all.0) (λ (rest : IsIn s ts). of_all P ts all.1 s rest) is

in_file : (ss : List Segment) (file : ℕ) → IsFileOf ss file → (s : Segment) × IsIn s ss × (s.file ≡ file)
in_file [] file mine = absurd mine
in_file (s ∷ ss) file mine = ⊎_elim
    (λ (e : s.file ≡ file). (s, inl refl, e))
    (λ (rest : IsFileOf ss file). let r = in_file ss file rest in (r.0, inr r.1, r.2))
    mine

in_left : (xs ys : List Segment) (s : Segment) → IsIn s xs → IsIn s (xs ++ ys)
in_left [] ys s is = absurd is
in_left (x ∷ xs) ys s is = ⊎_elim (λ (e : x ≡ s). inl e) (λ (rest : IsIn s xs). inr (in_left xs ys s rest)) is

in_right : (xs ys : List Segment) (s : Segment) → IsIn s ys → IsIn s (xs ++ ys)
in_right [] ys s is = is
in_right (x ∷ xs) ys s is = inr (in_right xs ys s is)

in_or : (xs ys : List Segment) (s : Segment) → IsIn s (xs ++ ys) → IsIn s xs ⊎ IsIn s ys
in_or [] ys s is = inr is
in_or (x ∷ xs) ys s is = ⊎_elim
    (λ (e : x ≡ s). inl (inl e))
    (λ (rest : IsIn s (xs ++ ys)). ⊎_elim (λ (a : IsIn s xs). inl (inr a)) (λ (b : IsIn s ys). inr b) (in_or xs ys s rest))
    is

-- ---- segments that lead from one offset to another

record IsWithin (at end : ℕ) (s : Segment) : Type 0 where
  above : at ≤ s.base
  order : s.base ≤ s.end
  below : s.end ≤ end

linked_in : (at : ℕ) (ss : List Segment) (end : ℕ) → AreLinked at ss end → (s : Segment) → IsIn s ss → IsWithin at end s
linked_in at [] end l s is = absurd is
linked_in at (t ∷ ts) end l s is = ⊎_elim
    (λ (e : t ≡ s). subst (IsWithin at end) e (record { above = omega (arith, l.0); order = omega (arith, l.0, l.1); below = links_order t.end ts end l.2 }))
    (λ (rest : IsIn s ts).
    let r = linked_in t.end ts end l.2 s rest in
    record { above = omega (arith, l.1, r.above); order = r.order; below = r.below })
    is

record Splits (at : ℕ) (ss : List Segment) (end : ℕ) (s : Segment) : Type 0 where
  before : List Segment
  behind : List Segment
  split : ss ≡ before ++ s ∷ behind
  first : AreLinked at before s.base
  rest : AreLinked s.end behind end

split_at : (at : ℕ) (ss : List Segment) (end : ℕ) → AreLinked at ss end → (s : Segment) → IsIn s ss → Splits at ss end s
split_at at [] end l s is = absurd is
split_at at (t ∷ ts) end l s is = ⊎_elim
    (λ (e : t ≡ s). subst (Splits at (t ∷ ts) end) e (record { before = []; behind = ts; split = refl; first = sym l.0; rest = l.2 }))
    (λ (rest : IsIn s ts).
    let r = split_at t.end ts end l.2 s rest in
    record { before = t ∷ r.before; behind = r.behind; split = ap (λ xs. t ∷ xs) r.split; first = (l.0, l.1, r.first); rest = r.rest })
    is

linked_join : (at mid end : ℕ) (xs ys : List Segment) → AreLinked at xs mid → AreLinked mid ys end → AreLinked at (xs ++ ys) end
linked_join at mid end [] ys l m = subst (λ n. AreLinked n ys end) (sym l) m
linked_join at mid end (x ∷ xs) ys l m = (l.0, l.1, linked_join x.end mid end xs ys l.2 m)

-- ---- runs

-- a run that ends where it begins has no batch
run_alone : (at : ℕ) (bs : List (List ℕ)) → IsRun at bs at → bs ≡ []
run_alone at [] r = refl
run_alone at (b ∷ bs) r =
    let one = batch_counted b r.0 in
    let le = run_ordered (at + count_of b) bs at r.2 in
    absurd (omega (arith, one, le))

run_end : (at : ℕ) (bs : List (List ℕ)) (e f : ℕ) → IsRun at bs e → IsRun at bs f → e ≡ f
run_end at [] e f r q = sym r ∙ q
run_end at (b ∷ bs) e f r q = run_end (at + count_of b) bs e f r.2 q.2

-- the longest run of a file is its chain, where it stands alone
alone : (at : ℕ) (f : Part) (run : List (List ℕ)) (end : ℕ) (rest : List ℕ) → f.base ≡ at → IsLongest at f.body run end rest → IsChain at (f ∷ []) run end 1
alone at f run end [] base longest =
    inr (inr record { base = base; run = run; mid = end; behind = []; others = 0; longest = longest; split = sym (append-nil run); counted = refl; further = (refl, refl, refl) })
alone at f run end (x ∷ xs) base longest = inr (inl record { base = base; rest = x ∷ xs; some = omega arith; longest = longest; counted = refl })

one_run : (at : ℕ) (f : Part) (bs cs : List (List ℕ)) (e g : ℕ) (x y : List ℕ) → f.base ≡ at → IsLongest at f.body bs e x → IsLongest at f.body cs g y → cs ≡ bs
one_run at f bs cs e g x y base p q = same_chain at (f ∷ []) bs cs e g 1 1 (alone at f bs e x base p) (alone at f cs g y base q)

length_or : (o : Option (List ℕ)) → unwrap_or (option_map length o) 0 ≡ length (unwrap_or o [])
length_or None = refl
length_or (Some x) = refl

-- a file of the log has that run, and nothing goes on behind it
record HasRun (f : Part) (base : ℕ) (run : List (List ℕ)) (end : ℕ) : Type 0 where
  begins : f.base ≡ base
  rest : List ℕ
  longest : IsLongest base f.body run end rest

-- ---- a log

module _ (l : SegmentLog) (table : Table) (files : Files) (next : ℕ) (lengths : HasLengths table files) (sound : (segment_log l).sound table next) (agrees : (segment_log l).agrees files) where
  abbrev ss : List Segment
  ss = l.segments.items

  abbrev at_first : ℕ
  at_first = base_in l.last ss

  linked : AreLinked at_first ss l.last
  linked = sound.ordered.linked

  led : AllByRecursion (IsLed files) ss
  led = headed_led (whose l) files ss agrees.headed

  size_is : (file : ℕ) → unwrap_or (get table file) 0 ≡ length (bytes_at files file)
  size_is file = ap (λ o. unwrap_or o 0) (lengths file) ∙ length_or (get files file)

  -- ---- the run of each file

  filled_ends : (s : Segment) → IsFilled table s → EndsAt s.end (drop s.len (bytes_at files s.file))
  filled_ends s filled =
      let bytes = bytes_at files s.file in
      let size : s.len ≡ length bytes = sym filled ∙ size_is s.file in
      let none : drop s.len bytes ≡ [] = nil_from_length (drop s.len bytes) (omega (arith, length-drop s.len bytes, size)) in
      subst (λ (x : List ℕ). EndsAt s.end x) (sym none) (λ b found at. absurd (none_found b found))
    where
      none_found : (b : List ℕ) → front [] ≡ Some b → ⊥
      none_found b found = let no : None ≡ Some b = sym (no_room [] (omega arith)) ∙ found in absurd cc

  ends_each : (at : ℕ) (xs : List Segment) (end : ℕ) → AreLinked at xs end → AreFilledInFront table xs → EndsAt end (tail_in files xs) → AllByRecursion (λ (s : Segment). EndsAt s.end (drop s.len (bytes_at files s.file))) xs
  ends_each at [] end l front rest = tt
  ends_each at (s ∷ []) end l front rest = (subst (λ n. EndsAt n (drop s.len (bytes_at files s.file))) (sym l.2) rest, tt)
  ends_each at (s ∷ t ∷ xs) end l front rest = (filled_ends s front.0, ends_each s.end (t ∷ xs) end l.2 front.1 rest)

  held_run : (s : Segment) → IsIn s ss → IsRun s.base (held_by files s) s.end
  held_run s is = log_run s.base (held_by files s) s.end (of_all (IsStored files) ss agrees.stored.stored s is).run

  segment_run : (s : Segment) → IsIn s ss → HasRun (part_at files s.file) s.base (held_by files s) s.end
  segment_run s is =
      let bytes = bytes_at files s.file in
      let stored = of_all (IsStored files) ss agrees.stored.stored s is in
      let its = of_all (IsLed files) ss led s is in
      let kept = of_all (IsKept table next) ss sound.kept s is in
      let ends = of_all (λ (t : Segment). EndsAt t.end (drop t.len (bytes_at files t.file))) ss (ends_each at_first ss l.last linked sound.front agrees.recovered.rest) s is in
      let body : behind_header (header_in bytes) bytes ≡ drop s.start bytes = ap (λ o. behind_header o bytes) its.read ∙ ap (λ n. drop n bytes) its.size in
      let scan : IsScanned files s = record { stored = stored; body = body; longest = ends; led = its } in
      let low : s.len ≤ unwrap_or (get table s.file) 0 = kept.sound.within in
      record {
        begins = ap base_said its.read ∙ its.base;
        rest = drop s.len bytes;
        longest = longest_run files s scan kept.sound.header (subst (λ n. s.len ≤ n) (size_is s.file) low) kept.sound.small;
      }

  -- a file whose begin was refused has none
  spare_run : (file : ℕ) → l.spare ≡ Some file → (h : Header) → header_in (bytes_at files file) ≡ Some h → HasRun (part_at files file) l.last [] l.last
  spare_run file is h read =
      let bytes = bytes_at files file in
      let begins = (agrees.recovered.beside file is).next h read in
      record {
        begins = ap base_said read ∙ begins.base;
        rest = drop h.size bytes;
        longest = record { split = ap (λ o. behind_header o bytes) read; links = refl; small = sound.ordered.small; longest = begins.rest };
      }

  all_joined : (xs ys : List Segment) → all_in files (xs ++ ys) ≡ all_in files xs ++ all_in files ys
  all_joined [] ys = refl
  all_joined (x ∷ xs) ys = ap (λ bs. held_by files x ++ bs) (all_joined xs ys) ∙ sym (append_assoc (held_by files x) (all_in files xs) (all_in files ys))

  -- segments that lead nowhere have no batch
  none_between : (at : ℕ) (xs : List Segment) → AreLinked at xs at → ((s : Segment) → IsIn s xs → IsRun s.base (held_by files s) s.end) → all_in files xs ≡ []
  none_between at [] l runs = refl
  none_between at (x ∷ xs) l runs =
      let up = links_order x.end xs at l.2 in
      let same : x.end ≡ at = omega (arith, up, l.1) in
      let run : IsRun at (held_by files x) at = subst (λ n. IsRun at (held_by files x) n) same (subst (λ n. IsRun n (held_by files x) x.end) l.0 (runs x (inl refl))) in
      ap (λ bs. bs ++ all_in files xs) (run_alone at (held_by files x) run) ∙ none_between at xs (subst (λ n. AreLinked n xs at) same l.2) (λ s is. runs s (inr is))

  -- ---- some of the files, as they are later

  -- the file is of a segment, or the one whose begin was refused
  abbrev IsItsFile : ℕ → Type 0
  IsItsFile file = ((s : Segment) × IsIn s ss × (s.file ≡ file)) ⊎ ((l.spare ≡ Some file) × (h : Header) × (header_in (bytes_at files file) ≡ Some h))

  module _ (now : Files) where
    -- it has the bytes that it had, and begins at that offset
    record IsSame (file base : ℕ) : Type 0 where
      its : IsItsFile file
      part : part_at now file ≡ part_at files file
      said : (part_at now file).base ≡ base

    -- at an offset the segments fall into those in front of it and those behind it
    record Stands (at : ℕ) (before behind : List Segment) : Type 0 where
      split : ss ≡ before ++ behind
      first : AreLinked at_first before at
      rest : AreLinked at behind l.last

    -- a file was gone through, and the list goes on behind it
    record Passes (behind : List Segment) (run : List (List ℕ)) (mid : ℕ) : Type 0 where
      front : List Segment
      others : List Segment
      stands : Stands mid front others
      list : all_in files behind ≡ run ++ all_in files others

    module _ (at : ℕ) (before behind : List Segment) (here : Stands at before behind) (run : List (List ℕ)) (mid : ℕ) where
      -- of a file without a batch
      stays : IsRun at run mid → run ≡ [] → Passes behind run mid
      stays links none =
          let same : at ≡ mid = subst (λ bs. IsRun at bs mid) none links in
          record {
            front = before;
            others = behind;
            stands = subst (λ n. Stands n before behind) same here;
            list = ap (λ bs. bs ++ all_in files behind) (sym none);
          }

      -- of the file of a segment
      module _ (s : Segment) (is : IsIn s ss) (at_is : s.base ≡ at) (run_is : run ≡ held_by files s) (mid_is : s.end ≡ mid) (links : IsRun at run mid) where
        in_front : IsIn s before → Passes behind run mid
        in_front in_it =
            let w = linked_in at_first before at here.first s in_it in
            let le : s.end ≤ at = w.below in
            let order : s.base ≤ s.end = w.order in
            let same : mid ≡ at = omega (arith, le, order, at_is, mid_is) in
            stays links (run_alone at run (subst (λ n. IsRun at run n) same links))

        behind_it : IsIn s behind → Passes behind run mid
        behind_it in_it =
            let sp = split_at at behind l.last here.rest s in_it in
            let order : s.base ≤ s.end = (linked_in at behind l.last here.rest s in_it).order in
            let whole : ss ≡ before ++ (sp.before ++ s ∷ sp.behind) = here.split ∙ ap (λ xs. before ++ xs) sp.split in
            let between : all_in files sp.before ≡ [] = none_between at sp.before (subst (λ n. AreLinked at sp.before n) at_is sp.first)
            (λ t it. held_run t (subst (IsIn t) (sym whole) (in_right before (sp.before ++ s ∷ sp.behind) t (in_left sp.before (s ∷ sp.behind) t it)))) in
            let one : AreLinked s.base (s ∷ []) s.end = (refl, order, refl) in
            let stands : Stands s.end (before ++ (sp.before ++ s ∷ [])) sp.behind = record {
              split = whole ∙ ap (λ xs. before ++ xs) (sym (append_assoc sp.before (s ∷ []) sp.behind)) ∙ sym (append_assoc before (sp.before ++ s ∷ []) sp.behind);
              first = linked_join at_first at s.end before (sp.before ++ s ∷ []) here.first (linked_join at s.base s.end sp.before (s ∷ []) sp.first one);
              rest = sp.rest;
            } in
            record {
              front = before ++ (sp.before ++ s ∷ []);
              others = sp.behind;
              stands = subst (λ n. Stands n (before ++ (sp.before ++ s ∷ [])) sp.behind) mid_is stands;
              list = ap (all_in files) sp.split ∙ all_joined sp.before (s ∷ sp.behind) ∙ ap (λ bs. bs ++ all_in files (s ∷ sp.behind)) between ∙ ap (λ bs. bs ++ all_in files sp.behind) (sym run_is);
            }

        by_segment : Passes behind run mid
        by_segment = ⊎_elim
            (λ (a : IsIn s before). in_front a)
            (λ (b : IsIn s behind). behind_it b)
            (in_or before behind s (subst (IsIn s) here.split is))

      -- of any file
      passes : (file : ℕ) → IsItsFile file → (part_at files file).base ≡ at → (rest : List ℕ) → IsLongest at (part_at files file).body run mid rest → Passes behind run mid
      passes file its base rest longest = ⊎_elim
          (λ (x : (s : Segment) × IsIn s ss × (s.file ≡ file)).
          let s = x.0 in
          let has : HasRun (part_at files file) s.base (held_by files s) s.end = subst (λ n. HasRun (part_at files n) s.base (held_by files s) s.end) x.2 (segment_run s x.1) in
          let at_is : s.base ≡ at = sym has.begins ∙ base in
          let there : IsLongest at (part_at files file).body (held_by files s) s.end has.rest = subst (λ n. IsLongest n (part_at files file).body (held_by files s) s.end has.rest) at_is has.longest in
          let run_is : run ≡ held_by files s = one_run at (part_at files file) (held_by files s) run s.end mid has.rest rest base there longest in
          let mid_is : s.end ≡ mid = run_end at (held_by files s) s.end mid there.links (subst (λ bs. IsRun at bs mid) run_is longest.links) in
          by_segment s x.1 at_is run_is mid_is longest.links)
          (λ (x : (l.spare ≡ Some file) × (h : Header) × (header_in (bytes_at files file) ≡ Some h)).
          let has = spare_run file x.0 x.1 x.2 in
          let at_is : l.last ≡ at = sym has.begins ∙ base in
          let there : IsLongest at (part_at files file).body [] l.last has.rest = subst (λ n. IsLongest n (part_at files file).body [] l.last has.rest) at_is has.longest in
          stays longest.links (one_run at (part_at files file) [] run l.last mid has.rest rest base there longest))
          its

    -- the list from an offset on begins with these batches
    abbrev IsFront : List (List ℕ) → List (List ℕ) → Type 0
    IsFront bs list = (more : List (List ℕ)) × (bs ++ more ≡ list)

    module _ {P : Type 0} (file base : P → ℕ) where
      goes : (order : List P) → AllByRecursion (λ p. IsSame (file p) (base p)) order → (at : ℕ) (before behind : List Segment) → Stands at before behind → (bs : List (List ℕ)) (end n : ℕ)
          → IsChain at (map (λ p. part_at now (file p)) order) bs end n → IsFront bs (all_in files behind)
      goes [] same at before behind here bs end n c = (all_in files behind, ap (λ xs. xs ++ all_in files behind) c.0)
      goes (p ∷ ps) same at before behind here bs end n c = ⊎_elim
          (λ (a : StopsAt at (part_at now (file p)) bs end n). (all_in files behind, ap (λ xs. xs ++ all_in files behind) a.none))
          (λ more. ⊎_elim
          (λ (a : EndsIn at (part_at now (file p)) bs end n).
          let t = one bs end a.rest a.base a.longest in
          (all_in files t.others, sym t.list))
          (λ (a : GoesThrough at (part_at now (file p)) (λ mid left others. IsChain mid (map (λ q. part_at now (file q)) ps) left end others) bs n).
          let t = one a.run a.mid [] a.base a.longest in
          let r = goes ps same.1 a.mid t.front t.others t.stands a.behind end a.others a.further in
          (r.0, ap (λ xs. xs ++ r.0) a.split ∙ append_assoc a.run a.behind r.0 ∙ ap (λ xs. a.run ++ xs) r.1 ∙ sym t.list))
          more)
          c
        where
          one : (run : List (List ℕ)) (mid : ℕ) (rest : List ℕ) → (part_at now (file p)).base ≡ at → IsLongest at (part_at now (file p)).body run mid rest → Passes behind run mid
          one run mid rest begins longest =
              passes at before behind here run mid (file p) same.0.its (subst (λ (f : Part). f.base ≡ at) same.0.part begins) rest (subst (λ (f : Part). IsLongest at f.body run mid rest) same.0.part longest)

    -- ---- from the first one on

    record Begins (at : ℕ) : Type 0 where
      before : List Segment
      behind : List Segment
      here : Stands at before behind

    begins : (file : ℕ) → IsItsFile file → Begins (part_at files file).base
    begins file its = ⊎_elim
        (λ (x : (s : Segment) × IsIn s ss × (s.file ≡ file)).
        let s = x.0 in
        let has : HasRun (part_at files file) s.base (held_by files s) s.end = subst (λ n. HasRun (part_at files n) s.base (held_by files s) s.end) x.2 (segment_run s x.1) in
        let sp = split_at at_first ss l.last linked s x.1 in
        let order : s.base ≤ s.end = (linked_in at_first ss l.last linked s x.1).order in
        subst Begins (sym has.begins) (record { before = sp.before; behind = s ∷ sp.behind; here = record { split = sp.split; first = sp.first; rest = (refl, order, sp.rest) } }))
        (λ (x : (l.spare ≡ Some file) × (h : Header) × (header_in (bytes_at files file) ≡ Some h)).
        let has = spare_run file x.0 x.1 x.2 in
        subst Begins (sym has.begins) (record { before = ss; behind = []; here = record { split = sym (append-nil ss); first = linked; rest = refl } }))
        its

    -- a part of a list
    pub record IsPart (bs list : List (List ℕ)) : Type 0 where
      pub before : List (List ℕ)
      pub behind : List (List ℕ)
      pub split : before ++ (bs ++ behind) ≡ list

    of_order : {P : Type 0} (order : List P) (file base : P → ℕ) (first : List P → ℕ) → ((x : P) (xs : List P) → first (x ∷ xs) ≡ base x) → AllByRecursion (λ p. IsSame (file p) (base p)) order → (bs : List (List ℕ)) (end n : ℕ)
        → IsChain (first order) (map (λ p. part_at now (file p)) order) bs end n → IsPart bs (all_in files ss)
    of_order [] file base first begins_at same bs end n c = record { before = []; behind = all_in files ss; split = ap (λ xs. xs ++ all_in files ss) c.0 }
    of_order (p ∷ ps) file base first begins_at same bs end n c =
        let at_is : (part_at files (file p)).base ≡ base p = ap (λ (f : Part). f.base) (sym same.0.part) ∙ same.0.said in
        let b : Begins (base p) = subst Begins at_is (begins (file p) same.0.its) in
        let chain = subst (λ a. IsChain a (map (λ q. part_at now (file q)) (p ∷ ps)) bs end n) (begins_at p ps) c in
        let r = goes file base (p ∷ ps) same (base p) b.before b.behind b.here bs end n chain in
        record {
          before = all_in files b.before;
          behind = r.0;
          split = ap (λ xs. all_in files b.before ++ xs) r.1 ∙ sym (all_joined b.before b.behind) ∙ ap (all_in files) (sym b.here.split);
        }

    -- ---- numbers of files

    -- The log has the file, and it begins with a readable header.
    pub record IsHad (file : ℕ) : Type 0 where
      pub owns : (segment_log l).owns file
      pub had : get files file ≡ Some (bytes_at now file)
      pub header : Header
      pub read : header_in (bytes_at now file) ≡ Some header

    abbrev part_of : List ℕ → Part
    part_of bytes = record { base = base_said (header_in bytes); body = behind_header (header_in bytes) bytes }

    same : (file base : ℕ) → IsHad file → (part_at now file).base ≡ base → IsSame file base
    same file base had said =
        let bytes : bytes_at now file ≡ bytes_at files file = sym (ap (λ o. unwrap_or o []) had.had) in
        record {
          its = ⊎_elim
              (λ (mine : IsFileOf ss file). inl (in_file ss file mine))
              (λ (spare : l.spare ≡ Some file). inr (spare, had.header, ap header_in (sym bytes) ∙ had.read))
              had.owns;
          part = ap part_of bytes;
          said = said;
        }

    same_all : {P : Type 0} (order : List P) (file base : P → ℕ) → All IsHad (map file order) → AllByRecursion (λ p. (part_at now (file p)).base ≡ base p) order → AllByRecursion (λ p. IsSame (file p) (base p)) order
    same_all [] file base had said = tt
    same_all (p ∷ ps) file base had said = (same (file p) (base p) (All-head IsHad (file p) (map file ps) had) said.0, same_all ps file base (All-tail IsHad (file p) (map file ps) had) said.1)

    -- where the log would start at its first batch again
    whole_list : (segment_log l).resumes 0 → starting l.first (all_in files ss) ≡ all_in files ss
    whole_list resumes = by ss resumes (all_run files at_first ss l.last linked agrees.stored.stored)
      where
        by : (xs : List Segment) → Resumes l.first xs 0 → IsRun (base_in l.last xs) (all_in files xs) l.last → starting l.first (all_in files xs) ≡ all_in files xs
        by [] is run = refl
        by (x ∷ xs) is run =
            let first : l.first ≡ x.base = is ∙ max_zero x.base in
            subst (λ n. starting n (all_in files (x ∷ xs)) ≡ all_in files (x ∷ xs)) (sym first) (starting_all x.base (all_in files (x ∷ xs)) l.last run)

    -- The chain of some of its files is a part of the list that the log had.
    pub part_comes : (segment_log l).resumes 0 → (numbers : List ℕ) → ((file : ℕ) → Contains numbers file → IsHad file) → (bs : List (List ℕ)) → Chain now numbers 0 bs → IsPart bs ((segment_log l).batches files)
    part_comes resumes numbers each bs c =
        let all : All IsHad numbers = λ k d lt. each (get_or numbers k d) (All-contains_itself numbers k d lt) in
        let moved : All IsHad (numbers_of c.order) = All-permutation IsHad numbers (numbers_of c.order) (order_numbers now numbers c.order c.ordered) all in
        let said = all_weaker (λ p. place_at now p.file ≡ p) (λ p. (part_at now p.file).base ≡ p.base) (λ p is. ap (λ q. q.base) is) c.order (order_said now numbers c.order c.ordered) in
        let r = of_order c.order (λ p. p.file) (λ p. p.base) (first_of 0) (λ x xs. refl) (same_all c.order (λ p. p.file) (λ p. p.base) moved said) bs c.end c.count c.chain in
        record { before = r.before; behind = r.behind; split = r.split ∙ sym (whole_list resumes) }
