-- The files of a log that is written in order, as a loss leaves them, are found but for what may go.
use Rattle.std.proofs.Common.{◌≡◌, ◌∙◌, ◌≤◌, ◌++◌, ◌∷◌, ◌⊎◌, ℕ, zero, suc, Bool, true, false, cond, List, [], take, Option, Some, None, sym, ap, subst, refl, inl, inr, ⊎_elim}
use Rattle.std.specs.Prelude.{unwrap_or}
use Rattle.std.specs.FinMap.{get}
use Rattle.std.specs.List.{Contains}
use Rattle.std.proofs.lemmas.Bool.{false≢true}
use Rattle.std.proofs.lemmas.List.Elements.{Contains-append_cases}
use Rattle.kb_store.specs.Disk.{Files}
use Rattle.kb_segment.specs.Header.{Header, header_in}
use Rattle.kb_segment_log.specs.SegmentLog.{bytes_at}
use Rattle.kb_segment_log.specs.Chain.{Part, Chain, base_said, behind_header, base_at, part_at, numbers_in}
use Rattle.kb_durable.specs.Lawful.{get_without}
use Rattle.kb_durable.specs.Waiting.{has}
use Rattle.kb_opening.specs.Owners.{passes, says}
use Rattle.kb_loss.specs.Fronts.{IsFrontOf}
use Rattle.kb_loss.specs.Chains.{GoesOn, AreFound, LastsIn}
use Rattle.kb_loss.specs.Since.{Touched, AreLeft, AreOf, IsLast, GoInOrder, IsWritten, untouched}
use Rattle.kb_loss.proofs.Headers.{header_on, part_on, nothing_said, said_header, readable_header}
use Rattle.kb_loss.proofs.Orders.{Has, has_of, contains_of, Once, once_front, once_behind, front_has, has_behind, order_once, has_order, taken_split}

-- ---- lists

last_has : (ns : List ℕ) (n : ℕ) → IsLast ns n → Has ns n
last_has [] n l = absurd l
last_has (m ∷ []) n l = inl l
last_has (m ∷ k ∷ ns) n l = inr (last_has (k ∷ ns) n l)

last_behind : (xs ys : List ℕ) (n : ℕ) → Has ys n → IsLast (xs ++ ys) n → IsLast ys n
last_behind [] ys n mine l = l
last_behind (x ∷ xs) [] n mine l = absurd mine
last_behind (x ∷ []) (y ∷ ys) n mine l = l
last_behind (x ∷ z ∷ xs) (y ∷ ys) n mine l = last_behind (z ∷ xs) (y ∷ ys) n mine l

-- ---- one file

-- of a file that is found: it goes on, or is as it was
record IsFound (files found : Files) (there : List ℕ) (t : Touched) (n : ℕ) : Type 0 where
  listed : Contains there n
  on : GoesOn (part_at files n) (part_at found n)
  same : t.grown n ≡ false → part_at found n ≡ part_at files n

are_found : (files found : Files) (there : List ℕ) (t : Touched) (ks : List ℕ) → Once ks → ((n : ℕ) → Has ks n → IsFound files found there t n) → ((n : ℕ) → Has ks n → t.grown n ≡ true → IsLast ks n) → AreFound files found there ks
are_found files found there t [] once each last = tt
are_found files found there t (n ∷ []) once each last = let it = each n (inl refl) in (it.listed, it.on)
are_found files found there t (n ∷ m ∷ ks) once each last =
    let it = each n (inl refl) in (
      it.listed,
      it.same (not_last (t.grown n) refl),
      are_found files found there t (m ∷ ks) once.1 (λ k mine. each k (inr mine)) (λ k mine grown. last k (inr mine) grown),
    )
  where
    not_last : (b : Bool) → t.grown n ≡ b → t.grown n ≡ false
    not_last true is = absurd (once.0 (last_has (m ∷ ks) n (last n (inl refl) is)))
    not_last false is = is

abbrev part_of : List ℕ → Part
part_of bytes = record { base = base_said (header_in bytes); body = behind_header (header_in bytes) bytes }

-- ---- the files of a log

module _ (files : Files) (ns : List ℕ) (from : ℕ) (bs : List (List ℕ)) (c : Chain files ns from bs) (test : Header → Bool) (t : Touched) (waiting : List ℕ) (start : ℕ) (found : Files) (ms : List ℕ) (w : IsWritten c test t waiting start found) (a : AreOf files test ns) (b : AreOf found test ms) (l : AreLeft files t waiting found) where
  abbrev going : List ℕ
  going = take l.count waiting

  abbrev r : GoInOrder c going start
  r = w.removals l.count

  get_found : (n : ℕ) (o : Bool) → has going n ≡ o → get found n ≡ cond o None (get l.whole n)
  get_found n o is = ap (λ m. get m n) l.is ∙ get_without going l.whole n ∙ ap (λ o. cond o None (get l.whole n)) is

  -- one that is not gone goes on
  goes_on : (n : ℕ) → t.made n ≡ false → has going n ≡ false → (h : Header) → header_in (bytes_at files n) ≡ Some h → IsFrontOf (bytes_at files n) (bytes_at found n)
  goes_on n old stays h e = by (get files n) refl
    where
      by : (o : Option (List ℕ)) → get files n ≡ o → IsFrontOf (bytes_at files n) (bytes_at found n)
      by None is = absurd (nothing_said files (λ x. true) n is (ap (passes (λ x. true)) e))
      by (Some bytes) is =
          let on = l.still.front n bytes old is in
          record { rest = on.0; split = ap (λ o. unwrap_or o []) (get_found n false stays ∙ on.1) ∙ sym (ap (λ o. unwrap_or o [] ++ on.0) is) }

  -- and one that has not grown is as it was
  as_it_was : (n : ℕ) → t.made n ≡ false → t.grown n ≡ false → has going n ≡ false → get found n ≡ get files n
  as_it_was n old whole stays = get_found n false stays ∙ l.still.same n old whole

  in_numbers : (n : ℕ) → Has (numbers_in c) n → Contains ns n
  in_numbers n mine =
      let split = taken_split c.count c.order in
      has_order files ns c.order c.ordered n (subst (λ (xs : List ℕ). Has xs n) (sym split.1) (front_has (numbers_in c) split.0 n mine))

  kept_in : (n : ℕ) → Has r.kept n → Has (numbers_in c) n
  kept_in n mine = subst (λ (xs : List ℕ). Has xs n) (sym r.split) (has_behind r.gone r.kept n mine)

  found_one : (n : ℕ) → Has r.kept n → IsFound files found ms t n
  found_one n mine =
      let listed = in_numbers n (kept_in n mine) in
      let said = a.passes n listed in
      let head = said_header files test n said in
      let old = w.old n listed in
      let stays = r.stay n (contains_of r.kept n mine) in
      let on = goes_on n old stays head.0 head.1 in
      let again = header_on (bytes_at files n) (bytes_at found n) head.0 on head.1 in
      record {
        listed = b.all n (ap (passes test) again ∙ sym (ap (passes test) head.1) ∙ said);
        on = part_on (bytes_at files n) (bytes_at found n) head.0 on head.1;
        same = λ whole. ap (λ o. part_of (unwrap_or o [])) (as_it_was n old whole stays);
      }

  kept_once : Once r.kept
  kept_once =
      let split = taken_split c.count c.order in
      let all : Once (numbers_in c) = once_front (numbers_in c) split.0 (subst Once split.1 (order_once files ns c.order c.ordered a.once)) in
      once_behind r.gone r.kept (subst Once r.split all)

  -- a file with the log's header that was not made since was one of the log's
  was_listed : (n : ℕ) → t.made n ≡ false → says found test n ≡ true → has going n ≡ false → Contains ns n
  was_listed n old said stays = by (t.grown n) refl
    where
      by : (o : Bool) → t.grown n ≡ o → Contains ns n
      by false whole = a.all n (ap (λ o. passes test (header_in (unwrap_or o []))) (sym (as_it_was n old whole stays)) ∙ said)
      by true grown =
          let head = readable_header files n (w.readable n old grown) in
          let again = header_on (bytes_at files n) (bytes_at found n) head.0 (goes_on n old stays head.0 head.1) head.1 in
          a.all n (ap (passes test) head.1 ∙ sym (ap (passes test) again) ∙ said)

  further : (n : ℕ) → Contains ms n → Contains r.kept n ⊎ (c.end ≤ base_at found n)
  further n mine = by (t.made n) refl (has going n) refl
    where
      said : says found test n ≡ true
      said = b.passes n mine

      by : (o : Bool) → t.made n ≡ o → (p : Bool) → has going n ≡ p → Contains r.kept n ⊎ (c.end ≤ base_at found n)
      by true made p gone = inr (w.made n made said)
      by false old true gone = absurd (nothing_said found test n (get_found n true gone) said)
      by false old false stays = ⊎_elim
          (λ (went : Contains r.gone n). absurd (false≢true (sym stays ∙ r.went n went)))
          (λ (kept : Contains r.kept n). inl kept)
          (Contains-append_cases r.gone r.kept n (subst (λ (xs : List ℕ). Contains xs n) r.split (w.all n (was_listed n old said stays))))

  pub left_lasts : LastsIn c start found ms
  left_lasts = record {
    gone = r.gone;
    kept = r.kept;
    split = r.split;
    below = r.below;
    stay = are_found files found ms t r.kept kept_once found_one
        (λ n mine grown. last_behind r.gone r.kept n mine (subst (λ (xs : List ℕ). IsLast xs n) r.split (w.grown n (in_numbers n (kept_in n mine)) grown)));
    further = further;
  }

-- ---- where nothing was changed

none_of : (count : ℕ) (n : ℕ) → has (take count []) n ≡ false
none_of zero n = refl
none_of (suc count) n = refl

pub untouched_written : (files : Files) (ns : List ℕ) (from : ℕ) (bs : List (List ℕ)) (c : Chain files ns from bs) (test : Header → Bool) (start : ℕ) → ((n : ℕ) → Contains ns n → Contains (numbers_in c) n) → IsWritten c test untouched [] start files
untouched_written files ns from bs c test start all = record {
  all = all;
  old = λ n listed. refl;
  grown = λ n listed grown. absurd (false≢true grown);
  made = λ n made said. absurd (false≢true made);
  readable = λ n old grown. absurd (false≢true grown);
  removals = λ count. record {
    gone = [];
    kept = numbers_in c;
    split = refl;
    went = λ n went. absurd (has_of [] n went);
    stay = λ n kept. none_of count n;
    below = inl refl;
  };
}
