-- Producer ids that batches have, and what it is to give them out to nobody.
use Rattle.std.proofs.Common.{◌≡◌, ◌∙◌, ◌≤◌, ◌<◌, ◌+◌, ◌-◌, ◌^◌, ◌++◌, ⊎_elim, inl, inr, ℕ, ℤ, pos, Bool, true, false, List, [], ◌∷◌, Option, Some, None, Result, Ok, Err, nat_le, nat_lt, refl, sym, ap, subst, arith}
use Rattle.std.specs.Prelude.{map, max, min, if◌then◌else◌}
use Rattle.std.specs.List.{AllByRecursion, Contains}
use Rattle.std.specs.declared.alloc.Global.{Global}
use Rattle.std.specs.declared.vec.Vec.{Vec}
use Rattle.std.proofs.lemmas.Bool.Decides.{nat_tests}
use Rattle.std.proofs.lemmas.Int.{ints}
use Rattle.std.proofs.lemmas.List.{map-append}
use Rattle.kb_store.specs.Disk.{Files, Table}
use Rattle.kb_log.specs.OnShelf.{Log}
use Rattle.kb_batch.specs.Header.{producer_id_of}
use Rattle.kb_producers.specs.Batches.{kept_all}
use Rattle.kb_producers.specs.Ids.{ids_kept, ids_of, least_above}
use Rattle.kb_producers.specs.IdLaws.{above, greatest_from, least_above-append, least_kept}
use Rattle.kb_topics.specs.Known.{Known, with_id}
use Rattle.kb_topics.specs.Refusals.{issue_refusal}
use Rattle.kb_topics.specs.declared.fault.CatalogFault.{CatalogFault}
use Rattle.kb_topics.specs.declared.fault.CatalogFault.TheVariants as catalog
use Rattle.kb_tenant_state.specs.Calls.{issue, issued_unless}
use Rattle.kb_tenant_state.specs.Counts.{END, IsCalm, counted_once}
use Rattle.kb_tenant_state.specs.Ids.{GivesFresh, IsSkipWant, IsSkippedInPart, batches_in, batches_in_all, ids_in, next_id_among, next_id_among_all, next_id_of, next_unused, skipped, with_issues}
use Rattle.kb_tenant_state.specs.Logs.{LogState}
use Rattle.kb_tenant_state.specs.Partitions.{Entries, log_state, logs_of}
use Rattle.kb_tenant_state.specs.Parts.{Agrees, IsSound, Seen, entries, world_of}
use Rattle.kb_tenant_state.specs.Scene.{Scene, WhereHonest}
use Rattle.kb_tenant_state.specs.Steps.{IsStep, Meets, step_same, step_then}
use Rattle.kb_tenant_state.specs.Told.{IsCatalogWant, IsDone, IsRefused}
use Rattle.kb_tenant_state.specs.World.{World}
use Rattle.kb_tenant_state.specs.declared.parts.Parts.{Parts}
use Rattle.kb_tenant_state.specs.declared.partition.Partition.{Partition}
use Rattle.kb_tenant_state.proofs.Sized.{each_topic}

-- ---- the next id, by what is kept of producers

-- of one topic more
pub next_among : {L : Type 0} (e : ℕ × Vec (Partition L) Global) (es : Entries L) → next_id_among_all (e ∷ es) ≡ max (next_id_among e.1.items) (next_id_among_all es)
next_among {L} e es =
    let here = greatest_from (max 0 (next_id_among e.1.items)) (map (λ (x : ℕ × Vec (Partition L) Global). next_id_among x.1.items) es) in
    omega (arith, here)

-- so it is of those that are left
pub next_step : {L : Type 0} (e : ℕ × Vec (Partition L) Global) (rest behind es : Entries L) (m one new : ℕ) → rest ≡ e ∷ behind → one ≡ next_id_among e.1.items → new ≡ max m one
    → max m (next_id_among_all rest) ≡ next_id_among_all es → max new (next_id_among_all behind) ≡ next_id_among_all es
next_step {L} e rest behind es m one new split is grown so_far =
    let all : next_id_among_all rest ≡ next_id_among_all (e ∷ behind) = ap (λ (ys : Entries L). next_id_among_all ys) split in
    let here = next_among e behind in
    omega (arith, all, here, is, grown, so_far)

module _ {L : Type 0} (log : L → Log) (files : Files) where
  -- what is kept of a partition's producers is told by its log's batches
  abbrev IsToldBy : Partition L → Type 0
  IsToldBy x = x.producers.kept ≡ kept_all ((log x.log).batches files)

  abbrev state : Partition L → LogState
  state x = log_state (log x.log) files

  of_topic : (xs : List (Partition L)) → AllByRecursion IsToldBy xs → next_id_among xs ≡ least_above (ids_of (batches_in (map state xs)))
  of_topic [] told = refl
  of_topic (x ∷ xs) told =
      let here = greatest_from (max 0 (next_id_of x)) (map (λ (y : Partition L). next_id_of y) xs) in
      let first : List (List ℕ) = (log x.log).batches files in
      let behind : List (List ℕ) = batches_in (map state xs) in
      let one : next_id_of x ≡ least_above (ids_of first) = ap (λ ks. least_above (ids_kept ks)) told.0 ∙ least_kept first in
      let rest : next_id_among xs ≡ least_above (ids_of behind) = of_topic xs told.1 in
      let all : least_above (ids_of (first ++ behind)) ≡ max (least_above (ids_of first)) (least_above (ids_of behind)) =
      ap least_above (map-append producer_id_of first behind) ∙ least_above-append (ids_of first) (ids_of behind) in
      omega (arith, here, one, rest, all)

  of_all : (es : Entries L) → AllByRecursion (λ (e : ℕ × Vec (Partition L) Global). AllByRecursion IsToldBy e.1.items) es
      → next_id_among_all es ≡ least_above (ids_of (batches_in_all (logs_of log es files)))
  of_all [] told = refl
  of_all (e ∷ es) told =
      let first : List (List ℕ) = batches_in (map state e.1.items) in
      let behind : List (List ℕ) = batches_in_all (logs_of log es files) in
      let here = next_among e es in
      let one : next_id_among e.1.items ≡ least_above (ids_of first) = of_topic e.1.items told.0 in
      let rest : next_id_among_all es ≡ least_above (ids_of behind) = of_all es told.1 in
      let all : least_above (ids_of (first ++ behind)) ≡ max (least_above (ids_of first)) (least_above (ids_of behind)) =
      ap least_above (map-append producer_id_of first behind) ∙ least_above-append (ids_of first) (ids_of behind) in
      omega (arith, here, one, rest, all)

  -- is the one of the batches that the tenant sees
  pub next_seen : (p : Parts L) (table : Table) (next : ℕ) → IsSound log p table next → Agrees log p files
      → min (next_id_among_all (entries p)) (2 ^ 63 - 1) ≡ next_unused (world_of log p files)
  next_seen p table next sound agrees =
      ap (λ n. min n (2 ^ 63 - 1)) (of_all (entries p) (each_topic log IsToldBy (entries p) sound.logs.ordered agrees.logs.producers))

-- ---- ids that are given out one after another

-- an id is left
pub not_used_up : (k : Known) → k.issues < 2 ^ 63 - 1 → issue_refusal k ≡ None
not_used_up k lt = by (nat_le (2 ^ 63 - 1) k.issues) refl
  where
    by : (t : Bool) → nat_le (2 ^ 63 - 1) k.issues ≡ t → (if t then Some catalog.UsedUp else None) ≡ None
    by true e = absurd (grind (arith, nat_tests, e, lt))
    by false e = refl

-- so many were given out
pub record IsAfter (a b : Scene Seen) (n : ℕ) : Type 0 where
  pub step : IsStep a b
  pub counted : b.state.refusals ≡ a.state.refusals
  pub known : b.state.world.known ≡ record a.state.world.known { issues = a.state.world.known.issues + n }
  pub logs : WhereHonest a b (b.state.world.logs ≡ a.state.world.logs)

pub none_after : (a : Scene Seen) → a.sound → IsAfter a a 0
none_after a sound = record {
  step = step_same a sound;
  counted = refl;
  known = let same : a.state.world.known.issues + 0 ≡ a.state.world.known.issues = omega arith in ap (λ n. (let k : Known = record a.state.world.known { issues = n } in k)) (sym same);
  logs = λ honest agree. refl;
}

same_logs : (w : World) (o : Option CatalogFault) → (issued_unless w o).0.logs ≡ w.logs
same_logs w None = refl
same_logs w (Some f) = refl

-- ... and one more
pub next_after : (a b c : Scene Seen) (n : ℕ) (r : Result ℤ CatalogFault) → IsAfter a b n → IsStep b c → c.state.refusals ≡ b.state.refusals → c.state.world.known ≡ with_id b.state.world.known
    → WhereHonest b c ((c.state.world, r) ≡ issue b.state.world) → IsAfter a c (n + 1)
next_after a b c n r before step counted known met = record {
  step = step_then a b c before.step step;
  counted = counted ∙ before.counted;
  known =
      let k = a.state.world.known in
      let sum : (k.issues + n) + 1 ≡ k.issues + (n + 1) = omega arith in
      known ∙ ap with_id before.known ∙ ap (λ m. (let j : Known = record k { issues = m } in j)) sum;
  logs = λ honest agree.
      let earlier = step.frame.others.honest honest in
      let is = met honest (before.step.frame.agrees earlier agree) in
      ap (λ (x : World × Result ℤ CatalogFault). x.0.logs) is ∙ same_logs b.state.world (issue_refusal b.state.world.known) ∙ before.logs earlier agree;
}

-- the world is as before, but that so many more ids were given out
as_world : (a b : Scene Seen) (n m : ℕ) → IsAfter a b n → a.state.world.known.issues + n ≡ m → b.disk.honest → a.agrees → b.state.world ≡ with_issues m a.state.world
as_world a b n m after sum honest agree =
    let known : b.state.world.known ≡ record a.state.world.known { issues = m } = after.known ∙ ap (λ k. (let j : Known = record a.state.world.known { issues = k } in j)) sum in
    let logs = after.logs honest agree in
    (λ i. record { known = known i; logs = logs i })

-- and one is left
pub left_after : (a b : Scene Seen) (n : ℕ) → IsAfter a b n → a.state.world.known.issues + n < 2 ^ 63 - 1 → issue_refusal b.state.world.known ≡ None
left_after a b n after lt =
    let issues : b.state.world.known.issues ≡ a.state.world.known.issues + n = ap (λ (k : Known). k.issues) after.known in
    not_used_up b.state.world.known (omega (arith, issues, lt))

-- all were
pub all_after : (a b : Scene Seen) (n : ℕ) → IsAfter a b n → (a.agrees → n ≡ next_unused a.state.world - a.state.world.known.issues) → IsDone a b (b.state.world ≡ skipped a.state.world)
all_after a b n after is = record {
  counted = after.counted;
  met = λ honest agree.
      let count = is agree in
      as_world a b n (max a.state.world.known.issues (next_unused a.state.world)) after (omega (arith, count)) honest agree;
}

-- ... or one was refused
refused_want : (a b c : Scene Seen) (f : CatalogFault) → IsStep a b → IsStep b c → IsCatalogWant b c f → IsSkipWant a c f
refused_want a b c catalog.Name p q w = w
refused_want a b c catalog.Exists p q w = w
refused_want a b c catalog.Partitions p q w = w
refused_want a b c catalog.Limit p q w = w
refused_want a b c catalog.TooMany p q w = w
refused_want a b c catalog.Unknown p q w = w
refused_want a b c catalog.Metadata p q w = w
refused_want a b c catalog.Back p q w = w
refused_want a b c catalog.UsedUp p q w = w
refused_want a b c catalog.Full p q w = let more = q.commands in omega (arith, w, more)
refused_want a b c catalog.Store p q w = λ honest agree.
    let fewer = p.frame.failures in
    let later = q.frame.others.later in
    ⊎_elim
    (λ grew. inl (omega (arith, grew, fewer)))
    (λ used. inr (omega (arith, used, later)))
    (w honest (p.frame.agrees (q.frame.others.honest honest) agree))
refused_want a b c catalog.Memory p q w = w

pub part_after : (a b c : Scene Seen) (n count : ℕ) (f : CatalogFault) → IsAfter a b n → n < count → (a.agrees → count ≡ next_unused a.state.world - a.state.world.known.issues)
    → IsStep b c → c.state.world.known ≡ b.state.world.known → IsRefused b c (IsCatalogWant b c f) → IsSkippedInPart a c f
part_after a b c n count f before lt is step known refused =
    let issues : c.state.world.known.issues ≡ a.state.world.known.issues + n = ap (λ (k : Known). k.issues) (known ∙ before.known) in
    record {
      want = refused_want a b c f before.step step refused.want;
      counted = refused.counted ∙ ap counted_once before.counted;
      some = omega (arith, issues);
      short = λ honest agree. let all = is agree in omega (arith, issues, lt, all);
      stays = λ honest agree.
          let earlier = step.frame.others.honest honest in
          refused.stays honest (before.step.frame.agrees earlier agree) ∙ as_world a b n c.state.world.known.issues before (sym issues) earlier agree;
    }

-- a refusal that was counted is seen
pub loud : (m n k : ℕ) → n ≡ counted_once m → n ≤ k → IsCalm m k → ⊥
loud m n k is le calm = by (nat_lt m END) refl
  where
    by : (t : Bool) → nat_lt m END ≡ t → ⊥
    by true e = let more : n ≡ m + 1 = is ∙ ap (λ b. if b then m + 1 else m) e in let same = calm.same in omega (arith, more, le, same)
    by false e = let below = calm.below in grind (arith, nat_tests, e, below)

-- so nothing is to be met
pub loud_part : (a c : Scene Seen) (P : Type 0) (f : CatalogFault) → IsSkippedInPart a c f → Meets a c P
loud_part a c P f part honest agree calm = absurd (loud a.state.refusals c.state.refusals c.state.refusals part.counted (omega arith) calm)

-- ---- what is given out afterwards

least_in_reach : (w : World) (n : ℕ) → n < 2 ^ 63 - 1 → Contains (ids_in w) (pos n) → n < next_unused w
least_in_reach w n lt there = let below = above (ids_in w) (pos n) there in omega (arith, ints, below, lt)

pub skipped_fresh : (w : World) → GivesFresh (skipped w)
skipped_fresh w n le lt there = let reach = least_in_reach w n lt there in omega (arith, reach, le)

clash : (id : ℤ) (f : CatalogFault) (r : Result ℤ CatalogFault) → r ≡ Ok id → r ≡ Err f → ⊥
clash id f r a b = absurd cc

same_answer : (x y : ℤ) (r : Result ℤ CatalogFault) → r ≡ Ok x → r ≡ Ok y → x ≡ y
same_answer x y r a b = cc

module _ (w after : World) (id : ℤ) (fresh : GivesFresh w) where
  pub issued_fresh : (after, Ok id) ≡ issue w → Contains (ids_in w) id → ⊥
  issued_fresh e there = by (nat_le (2 ^ 63 - 1) w.known.issues) refl e
    where
      by : (t : Bool) → nat_le (2 ^ 63 - 1) w.known.issues ≡ t → (after, Ok id) ≡ issued_unless w (if t then Some catalog.UsedUp else None) → ⊥
      by true u e = clash id catalog.UsedUp (Ok id) refl (ap (λ (x : World × Result ℤ CatalogFault). x.1) e)
      by false u e =
          let same : id ≡ pos w.known.issues = same_answer id (pos w.known.issues) (Ok id) refl (ap (λ (x : World × Result ℤ CatalogFault). x.1) e) in
          fresh w.known.issues (omega arith) (grind (arith, nat_tests, u)) (subst (λ z. Contains (ids_in w) z) same there)

  pub issued_later : (after, Ok id) ≡ issue w → GivesFresh after
  issued_later e = by (nat_le (2 ^ 63 - 1) w.known.issues) e
    where
      by : (t : Bool) → (after, Ok id) ≡ issued_unless w (if t then Some catalog.UsedUp else None) → GivesFresh after
      by true e = absurd (clash id catalog.UsedUp (Ok id) refl (ap (λ (x : World × Result ℤ CatalogFault). x.1) e))
      by false e =
          let is : after ≡ record w { known = with_id w.known } = ap (λ (x : World × Result ℤ CatalogFault). x.0) e in
          subst GivesFresh (sym is) (λ n le lt there. fresh n (omega (arith, le)) lt there)

-- ---- the parts

pub fixed_next : {L : Type 0} (p q r : Parts L) → q ≡ record p { catalog = q.catalog; partitions = q.partitions; refusals = q.refusals }
    → r ≡ record q { catalog = r.catalog; partitions = r.partitions; refusals = r.refusals } → r ≡ record p { catalog = r.catalog; partitions = r.partitions; refusals = r.refusals }
fixed_next {L} p q r e f = f ∙ ap (λ (x : Parts L). record x { catalog = r.catalog; partitions = r.partitions; refusals = r.refusals }) e
