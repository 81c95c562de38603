-- What a tenant had at a commit it has after any number of commits, losses and starts.
use Rattle.std.proofs.Common.{◌≡◌, ◌∙◌, ◌<◌, ◌≤◌, ◌+◌, ◌++◌, ◌∷◌, ◌⊎◌, [], ℕ, Bool, true, false, cond, List, Some, max, nat_le, sym, ap, subst, refl, inl, inr, ⊎_elim, arith}
use Rattle.std.specs.Prelude.{pos, slice_get}
use Rattle.std.specs.List.{Contains}
use Rattle.std.specs.Option.{option_and_then}
use Rattle.std.proofs.lemmas.Option.{same_Some}
use Rattle.kb_store.specs.Disk.{Files}
use Rattle.kb_batch.specs.Batch.{natural, count_of}
use Rattle.kb_log.specs.Log.{IsRun, next_of, starting}
use Rattle.kb_topics.specs.declared.command.Command.TheVariants.{Delete}
use Rattle.kb_topics.specs.Known.{Known, PartitionState, TopicState, topic_at, partition_at}
use Rattle.kb_tenant_state.specs.Logs.{LogState, Logs, log_at}
use Rattle.kb_segment_log.specs.SegmentLaws.{next_is}
use Rattle.kb_segment_log.specs.Chain.{parts_at, first_of, ComesTo}
use Rattle.kb_segment_log.proofs.Comes.{chain_run}
use Rattle.kb_opening.specs.Opened.{Owners, IsOpened}
use Rattle.kb_loss.specs.Fronts.{IsFrontOf}
use Rattle.kb_loss.specs.Chains.{HasAll}
use Rattle.kb_loss.specs.Known.{StaysAt, GoesOnTo}
use Rattle.kb_loss.specs.Tenant.{HasLog, HasWhatWas}
use Rattle.kb_loss.specs.Commits.{TenantAt, IsLeftOf, IsOpenedFrom, FollowOn, last_at}
use Rattle.kb_loss.proofs.Fronts.{front_itself, front_then, is_le, not_le, starting_front, starting_twice}
use Rattle.kb_loss.proofs.Known.{commands_first, commands_second, goes_itself, goes_then, later_itself, later_then}
use Rattle.kb_loss.proofs.Tenant.{natural_le, what_was_left}

-- ---- batches that end at a start or below it

none_front : (xs ys : List (List ℕ)) → [] ≡ xs ++ ys → xs ≡ []
none_front [] ys e = refl
none_front (x ∷ xs) ys e = absurd cc

-- the first one that stays ends above the start
head_above : (s : ℕ) (bs : List (List ℕ)) (b : List ℕ) (rest : List (List ℕ)) → starting s bs ≡ b ∷ rest → s < next_of b
head_above s [] b rest e = absurd cc
head_above s (x ∷ xs) b rest e = each (nat_le (next_of x) s) refl e (λ f. head_above s xs b rest f)
  where
    each : (c : Bool) → nat_le (next_of x) s ≡ c → cond c (starting s xs) (x ∷ xs) ≡ b ∷ rest → (starting s xs ≡ b ∷ rest → s < next_of b) → s < next_of b
    each true is f more = more f
    each false is f more = let same : x ≡ b = cc in subst (λ (y : List ℕ). s < next_of y) same (not_le (next_of x) s is)

-- where none stays the first one ends there or below
head_below : (s : ℕ) (b : List ℕ) (rest : List (List ℕ)) → starting s (b ∷ rest) ≡ [] → next_of b ≤ s
head_below s b rest e = each (nat_le (next_of b) s) refl e
  where
    each : (c : Bool) → nat_le (next_of b) s ≡ c → cond c (starting s rest) (b ∷ rest) ≡ [] → next_of b ≤ s
    each true is f = is_le (next_of b) s is
    each false is f = absurd cc

-- and so do all
run_below : (s at end : ℕ) (bs : List (List ℕ)) → IsRun at bs end → starting s bs ≡ [] → (bs ≡ []) ⊎ (end ≤ s)
run_below s at end [] r e = inl refl
run_below s at end (x ∷ xs) r e = inr (⊎_elim
    (λ (none : xs ≡ []).
    let last : at + count_of x ≡ end = subst (λ (ys : List (List ℕ)). IsRun (at + count_of x) ys end) none r.2 in
    omega (arith, last, low, next_is at x r.1))
    (λ (below : end ≤ s). below)
    (run_below s (at + count_of x) end xs r.2 rest))
  where
    low : next_of x ≤ s
    low = head_below s x xs e

    rest : starting s xs ≡ []
    rest = each (nat_le (next_of x) s) e
      where
        each : (c : Bool) → cond c (starting s xs) (x ∷ xs) ≡ [] → starting s xs ≡ []
        each true f = f
        each false f = absurd cc

module _ (files : Files) (ns : List ℕ) (from first last : ℕ) (list : List (List ℕ)) (i : ComesTo files ns from first last list) where
  twice : (s : ℕ) → starting s list ≡ starting (max s first) i.bs
  twice s = ap (starting s) i.batches ∙ starting_twice s first i.bs

  -- a log whose batches all end at a start or below it ends there
  log_below : (s : ℕ) → from ≤ s → starting s list ≡ [] → (list ≡ [] → ⊥) → last ≤ s
  log_below s later none some = by list refl
    where
      by : (xs : List (List ℕ)) → list ≡ xs → last ≤ s
      by [] is = absurd (some is)
      by (b ∷ rest) is =
          let above : first < next_of b = head_above first i.bs b rest (sym i.batches ∙ is) in
          let below : next_of b ≤ s = head_below s b rest (ap (starting s) (sym is) ∙ none) in
          let run : IsRun (first_of from i.chain.order) i.bs i.chain.end = chain_run (first_of from i.chain.order) (parts_at files i.chain.order) i.bs i.chain.end i.chain.count i.chain.chain in
          ⊎_elim
          (λ (nothing : i.bs ≡ []). absurd (some (i.batches ∙ ap (starting first) nothing)))
          (λ (low : i.chain.end ≤ max s first). omega (arith, low, above, below, i.ends, later))
          (run_below (max s first) (first_of from i.chain.order) i.chain.end i.bs run (sym (twice s) ∙ none))

  -- it has all that it has
  log_itself : HasAll from list last list last
  log_itself = record {
    batches = subst (λ (xs : List (List ℕ)). IsFrontOf xs list) (sym (twice from ∙ ap (λ n. starting n i.bs) (omega (arith, i.starts)) ∙ sym i.batches)) (front_itself list);
    ends = λ known. omega arith;
    starts = omega (arith, i.ends);
  }

-- ---- a log, and then

module _ (s t : ℕ) (later : s ≤ t) (old mid new : List (List ℕ)) (a b c : ℕ) (below : starting s old ≡ [] → (old ≡ [] → ⊥) → a ≤ s) (p : HasAll s old a mid b) (q : HasAll t mid b new c) where
  ends_by : (xs ys : List (List ℕ)) → old ≡ xs → mid ≡ ys → (old ≡ [] → a ≤ t) → a ≤ c
  ends_by [] ys is at known = omega (arith, known is, q.starts)
  ends_by (x ∷ xs) [] is at known =
      let none : starting s old ≡ [] = none_front (starting s old) p.batches.rest (sym at ∙ p.batches.split) in
      omega (arith, below none (λ e. let wrong : x ∷ xs ≡ [] = sym is ∙ e in absurd cc), later, q.starts)
  ends_by (x ∷ xs) (y ∷ ys) is at known =
      let one : a ≤ b = p.ends (λ e. let wrong : x ∷ xs ≡ [] = sym is ∙ e in absurd cc) in
      let two : b ≤ c = q.ends (λ e. let wrong : y ∷ ys ≡ [] = sym at ∙ e in absurd cc) in
      omega (arith, one, two)

  log_then : HasAll t old a new c
  log_then = record {
    batches = front_then (starting t old) (starting t mid) new
        (subst (λ (xs : List (List ℕ)). IsFrontOf xs (starting t mid)) (starting_twice t s old ∙ ap (λ n. starting n old) (omega (arith, later))) (starting_front t (starting s old) mid p.batches))
        q.batches;
    ends = ends_by old mid refl refl;
    starts = q.starts;
  }

-- ---- a tenant

module _ (files : Files) (owners : Owners) (k : Known) (logs : Logs) (o : IsOpened files owners k logs) where
  part_is : (n : Known) (i p : ℕ) (t : TopicState) (part : PartitionState) → topic_at i n.topics ≡ Some t → slice_get t.partitions p ≡ Some part → partition_at n (pos i) (pos p) ≡ Some part
  part_is n i p t part at has = ap (option_and_then (λ (x : TopicState). slice_get x.partitions p)) at ∙ has

  pub what_is : HasWhatWas k logs k logs
  what_is = record {
    catalog = goes_itself k;
    partitions = λ i p t was l at part has.
        let here = part_is k i p t was at part in
        let had = o.has.each i p was here in
        let one : had.0 ≡ l = same_Some had.0 l (sym had.1 ∙ has) in
        inr (record {
          part = was;
          later = later_itself (goes_itself k).commands was;
          at = here;
          log = l;
          has = has;
          all = subst (λ (x : LogState). HasAll (natural was.start) x.batches x.end x.batches x.end) one (log_itself files (owners.partition i p) (natural was.start) had.0.start had.0.end had.0.batches had.2);
        });
  }

  module _ (m : Known) (logs_then : Logs) (n : Known) (logs_now : Logs) (p : HasWhatWas k logs m logs_then) (q : HasWhatWas m logs_then n logs_now) where
    abbrev catalog : GoesOnTo k n
    catalog = goes_then k m n p.catalog q.catalog

    abbrev has_then : (i j : ℕ) (was : PartitionState) (l : LogState) → partition_at k (pos i) (pos j) ≡ Some was → log_at i j logs ≡ Some l → (h : HasLog p.catalog.commands m logs_then i j was l) → HasLog q.catalog.commands n logs_now i j h.part h.log → HasLog catalog.commands n logs_now i j was l
    has_then i j was l at has h g =
        let had = o.has.each i j was at in
        let one : had.0 ≡ l = same_Some had.0 l (sym had.1 ∙ has) in
        let s = natural h.part.start in
        let from : natural was.start ≤ s = natural_le was.start h.part.start h.later.start in
        let below : starting s l.batches ≡ [] → (l.batches ≡ [] → ⊥) → l.end ≤ s =
        subst (λ (x : LogState). starting s x.batches ≡ [] → (x.batches ≡ [] → ⊥) → x.end ≤ s) one (log_below files (owners.partition i j) (natural was.start) had.0.start had.0.end had.0.batches had.2 s from) in
        record {
          part = g.part;
          later = later_then p.catalog.commands q.catalog.commands catalog.commands (commands_first k m n p.catalog q.catalog)
              (commands_second k m n p.catalog q.catalog) was h.part g.part h.later g.later;
          at = g.at;
          log = g.log;
          has = g.has;
          all = log_then s (natural g.part.start) (natural_le h.part.start g.part.start g.later.start) l.batches h.log.batches g.log.batches l.end h.log.end g.log.end below h.all g.all;
        }

    pub what_was_then : HasWhatWas k logs n logs_now
    what_was_then = record {
      catalog = catalog;
      partitions = λ i j t was l at part has. ⊎_elim
          (λ (deleted : Contains p.catalog.commands (Delete t.name)). inl (commands_first k m n p.catalog q.catalog (Delete t.name) deleted))
          (λ (s : StaysAt p.catalog.commands i t m). ⊎_elim
          (λ (deleted : Contains p.catalog.commands (Delete t.name)). inl (commands_first k m n p.catalog q.catalog (Delete t.name) deleted))
          (λ (h : HasLog p.catalog.commands m logs_then i j was l). ⊎_elim
          (λ (deleted : Contains q.catalog.commands (Delete s.topic.name)).
          inl (commands_second k m n p.catalog q.catalog (Delete t.name) (subst (λ (x : List ℕ). Contains q.catalog.commands (Delete x)) s.still.name deleted)))
          (λ (g : HasLog q.catalog.commands n logs_now i j h.part h.log). inr (has_then i j was l (part_is k i j t was at part) has h g))
          (q.partitions i j s.topic h.part h.log s.at (sym (ap (option_and_then (λ (x : TopicState). slice_get x.partitions j)) s.at) ∙ h.at) h.has))
          (p.partitions i j t was l at part has))
          (p.catalog.topics i t at);
    }

-- ---- commits

module _ (name : List ℕ) where
  follows : (a b : TenantAt name) → IsLeftOf a b ⊎ IsOpenedFrom a b → HasWhatWas a.known a.logs b.known b.logs
  follows a b it = ⊎_elim
      (λ (l : IsLeftOf a b). what_was_left a.files a.owners a.known a.logs a.opened name l.touched l.waiting b.files l.left b.owners a.named b.named b.known b.logs l.again l.written b.opened)
      (λ (s : IsOpenedFrom a b).
      subst (λ (k : Known). HasWhatWas a.known a.logs k b.logs) (sym s.known)
      (subst (λ (ls : Logs). HasWhatWas a.known a.logs a.known ls) (sym s.logs) (what_is a.files a.owners a.known a.logs a.opened)))
      it

  pub all_follow : (a : TenantAt name) (bs : List (TenantAt name)) → FollowOn a bs → HasWhatWas a.known a.logs (last_at a bs).known (last_at a bs).logs
  all_follow a [] f = what_is a.files a.owners a.known a.logs a.opened
  all_follow a (b ∷ bs) f =
      what_was_then a.files a.owners a.known a.logs a.opened b.known b.logs (last_at b bs).known (last_at b bs).logs (follows a b f.0) (all_follow b bs f.1)
