-- What is counted for tenants beside their refusals, before a call and after it.
use Rattle.std.proofs.Common.{◌≡◌, ◌∙◌, ◌⊎◌, ⊎_elim, inl, inr, ◌≤◌, ◌<◌, ◌+◌, ◌-◌, ◌++◌, ℕ, List, [], ◌∷◌, zero, suc, Some, length, get_or, slice_set, ap, refl, subst, sym, arith}
use Rattle.std.specs.Prelude.{map, max, min, slice_get}
use Rattle.std.specs.Vec.{with_item}
use Rattle.std.proofs.lemmas.List.{map-set, get_or-set_other}
use Rattle.std.proofs.lemmas.Option.{get_or_from_slice_get}
use Rattle.std.proofs.Math.Seq.{map-set_same}
use Rattle.kb_coordinator.specs.Groups.{Groups}
use Rattle.kb_over_limit.specs.Over.{both}
use Rattle.kb_over_limit.specs.declared.over.OverLimit.{OverLimit}
use Rattle.kb_store.specs.Disk.{Disk}
use Rattle.kb_log.specs.OnShelf.{Log, IsLawfulLog}
use Rattle.kb_log.specs.Shelf.{Shelved}
use Rattle.kb_tenant_state.specs.Parts.{raised, scene}
use Rattle.kb_tenant_state.specs.Counts.{END}
use Rattle.kb_tenant_state.specs.declared.parts.Parts.{Parts}
use Rattle.kb_tenant.proofs.LogMoves.{same_or_not}
use Rattle.kb_tenant_api.specs.Hosted.{TenantState, refusals_of}
use Rattle.kb_tenant_api.specs.Turns.{IsAccounted}
use Rattle.kb_tenants.specs.Counts.{AreCounted, HasEndedAtStore, IsCounted, IsCountedBy, IsCountedFor, IsCountedWith, counts_of, no_counts, risen, all_counts, store_total, with_over, with_store}
use Rattle.kb_tenants.specs.Members.{renumbered}
use Rattle.kb_tenants.specs.Tenants.{AreKept, all_commands, hosted, state_of}
use Rattle.kb_tenants.specs.declared.counts.Counts.{Counts}
use Rattle.kb_tenants.specs.declared.tenants.Tenant.{Tenant}
use Rattle.kb_tenants.specs.declared.tenants.Tenants.{Tenants}
use Rattle.kb_tenants.proofs.Accounted.{accounted_same, accounted_then, below_or_ended}
use Rattle.kb_tenants.proofs.Change.{IsChange}
use Rattle.kb_tenants.proofs.Renewal.{accounted_timed}
use Rattle.kb_tenants.proofs.Hosted.{accounted_called, accounted_counted, accounted_own, after, recorded, refusals_here, stands, step_called, there_after, turn_counted, turn_own}

-- what is counted for the tenant at a place
counts_here : {L : Type 0} (ts : List (Tenant L)) (t : ℕ) (x : Tenant L) → slice_get ts t ≡ Some x
    → get_or (map (λ (z : Tenant L). z.counts) ts) t no_counts ≡ x.counts
counts_here [] t x at = absurd cc
counts_here {L} (y ∷ ts) zero x at = let same : y ≡ x = cc in ap (λ (z : Tenant L). z.counts) same
counts_here (y ∷ ts) (suc t) x at = counts_here ts t x at

module _ {L S : Type 0} (log : L → Log) (disk : S → Disk) (old : Tenants L S) (t : ℕ) (x : Tenant L) (p : Parts L) (gs : Groups) (cs : Counts) (shelf : Shelved S) where
  -- another's counts are as they were
  pub counts_elsewhere : (u : ℕ) → (u ≡ t → ⊥) → counts_of (after old t x p gs cs shelf) u ≡ counts_of old u
  counts_elsewhere u ne =
      ap (λ ks. get_or ks u no_counts) (map-set (λ (z : Tenant L). z.counts) old.tenants.items t (record x { parts = p; groups = gs; counts = cs }))
      ∙ get_or-set_other (map (λ (z : Tenant L). z.counts) old.tenants.items) t u cs no_counts ne

-- nothing is counted
pub counts_stay : {L S : Type 0} (log : L → Log) (disk : S → Disk) (old : Tenants L S) (t : ℕ) (x : Tenant L) (p : Parts L) (gs : Groups) (shelf : Shelved S)
    → t < length (hosted log disk old) → x ≡ get_or old.tenants.items t x → (u : ℕ) → counts_of (after old t x p gs x.counts shelf) u ≡ counts_of old u
counts_stay {L} log disk old t x p gs shelf lt read u =
    ap (λ ks. get_or ks u no_counts) (map-set_same (λ (z : Tenant L). z.counts) old.tenants.items t (record x { parts = p; groups = gs }) x
    (ap (λ (z : Tenant L). z.counts) (sym (get_or_from_slice_get old.tenants.items t x x (stands log disk old t x lt read)))))

-- the groups of one are others
pub stores_stay : {L S : Type 0} (log : L → Log) (disk : S → Disk) (old : Tenants L S) (t : ℕ) (x : Tenant L) (gs : Groups)
    → t < length (hosted log disk old) → x ≡ get_or old.tenants.items t x → all_counts (after old t x x.parts gs x.counts old.shelf) ≡ all_counts old
stores_stay {L} log disk old t x gs lt read =
    map-set_same (λ (z : Tenant L). z.counts) old.tenants.items t (record x { groups = gs }) x
    (ap (λ (z : Tenant L). z.counts) (sym (get_or_from_slice_get old.tenants.items t x x (stands log disk old t x lt read))))

-- ... and no log of a catalog has other commands by that
pub commands_stay : {L S : Type 0} (log : L → Log) (disk : S → Disk) (old : Tenants L S) (t : ℕ) (x : Tenant L) (gs : Groups)
    → t < length (hosted log disk old) → x ≡ get_or old.tenants.items t x → all_commands log (after old t x x.parts gs x.counts old.shelf) ≡ all_commands log old
commands_stay {L} log disk old t x gs lt read =
    map-set_same (recorded log) old.tenants.items t (record x { groups = gs }) x
    (ap (recorded log) (sym (get_or_from_slice_get old.tenants.items t x x (stands log disk old t x lt read))))

pub commands_numbered : {L : Type 0} (log : L → Log) (first : ℕ) (ts : List (Tenant L)) → map (recorded log) (map (renumbered first) ts) ≡ map (recorded log) ts
commands_numbered log first [] = refl
commands_numbered log first (x ∷ ts) = ap (λ ns. recorded log x ∷ ns) (commands_numbered log first ts)

-- the groups of each are numbered from another number
pub stores_numbered : {L : Type 0} (first : ℕ) (ts : List (Tenant L)) → map (λ (z : Tenant L). z.counts) (map (renumbered first) ts) ≡ map (λ (z : Tenant L). z.counts) ts
stores_numbered first [] = refl
stores_numbered first (x ∷ ts) = ap (λ ns. x.counts ∷ ns) (stores_numbered first ts)

-- another number of commands is said for one
pub counts_timed : {L S : Type 0} (log : L → Log) (disk : S → Disk) (ts : Tenants L S) (t : ℕ) (x : Tenant L) (n : ℕ) → x ≡ get_or ts.tenants.items t x → (u : ℕ)
    → get_or (map (λ (z : Tenant L). z.counts) (with_item ts.tenants t (record x { renew_at = n })).items) u no_counts ≡ counts_of ts u
counts_timed {L} log disk ts t x n read u =
    ap (λ cs. get_or cs u no_counts) (map-set_same (λ (z : Tenant L). z.counts) ts.tenants.items t (record x { renew_at = n }) x (ap (λ (z : Tenant L). z.counts) read))

-- a tenant of which nothing is counted was added behind the others
pub counts_pushed : {L : Type 0} (ts : List (Tenant L)) (x : Tenant L) → x.counts ≡ no_counts → (t : ℕ)
    → get_or (map (λ (z : Tenant L). z.counts) (ts ++ x ∷ [])) t no_counts ≡ get_or (map (λ (z : Tenant L). z.counts) ts) t no_counts
counts_pushed [] x none zero = none
counts_pushed [] x none (suc t) = refl
counts_pushed (y ∷ ts) x none zero = refl
counts_pushed (y ∷ ts) x none (suc t) = counts_pushed ts x none t

-- ---- a call, after which what the store refused is counted

module _ {L S : Type 0} (log : L → Log) (disk : S → Disk) (law : (l : L) → IsLawfulLog (log l)) (old : Tenants L S) (t : ℕ) (x : Tenant L)
    (lt : t < length (hosted log disk old)) (read : x ≡ get_or old.tenants.items t x) (kept : AreKept log disk old)
    (mid p : Parts L) (n : ℕ) (gs : Groups) (cs : Counts) (shelf : Shelved S) (counted : p ≡ raised mid n) (step : IsChange log (scene log disk x.parts old.shelf) (scene log disk mid shelf)) where
  pub counted_called : (m : ℕ) → n ≡ min (x.parts.refusals + m) END → (disk shelf.store).failures ≡ (disk old.shelf.store).failures + m → cs ≡ with_store m x.counts
      → IsCountedFor log disk t old (after old t x p gs cs shelf)
  counted_called m count sum noted =
      let new = after old t x p gs cs shelf in
      let first = stands log disk old t x lt read in
      let last = there_after log disk law old t x p gs cs shelf lt read kept (step_called log disk law old t x lt read kept mid p n gs cs shelf counted step) in
      let was = ap (λ (c : Counts). c.by_store) (counts_here old.tenants.items t x first) in
      let is = ap (λ (c : Counts). c.by_store) (counts_here new.tenants.items t (record x { parts = p; groups = gs; counts = cs }) last) in
      let grown = ap (λ (c : Counts). c.by_store) noted in
      let before = refusals_here log (disk old.shelf.store).files old.tenants.items t x first in
      let now = refusals_here log (disk shelf.store).files new.tenants.items t (record x { parts = p; groups = gs; counts = cs }) last in
      let more = ap (λ (v : Parts L). v.refusals) counted in
      record {
        accounted = accounted_called log disk law old t x lt read kept mid p n gs cs shelf counted step m count sum;
        store = omega (arith, sum, was, is, grown);
        among = omega (arith, sum, count, more, before, now);
        over = (let a = ap (λ (c : Counts). c.over) (counts_here old.tenants.items t x first) in
            let b = ap (λ (c : Counts). c.over) (counts_here new.tenants.items t (record x { parts = p; groups = gs; counts = cs }) last) in
            b ∙ ap (λ (c : Counts). c.over) noted ∙ sym a);
        others = counts_elsewhere log disk old t x p gs cs shelf;
      }

  -- ... and its reply told that
  pub counted_served : (m : ℕ) (told : OverLimit) → n ≡ min (x.parts.refusals + m) END → (disk shelf.store).failures ≡ (disk old.shelf.store).failures + m
      → cs ≡ with_over told (with_store m x.counts) → IsCountedWith told log disk t old (after old t x p gs cs shelf)
  counted_served m told count sum noted =
      let new = after old t x p gs cs shelf in
      let first = stands log disk old t x lt read in
      let last = there_after log disk law old t x p gs cs shelf lt read kept (step_called log disk law old t x lt read kept mid p n gs cs shelf counted step) in
      let was = ap (λ (c : Counts). c.by_store) (counts_here old.tenants.items t x first) in
      let is = ap (λ (c : Counts). c.by_store) (counts_here new.tenants.items t (record x { parts = p; groups = gs; counts = cs }) last) in
      let grown = ap (λ (c : Counts). c.by_store) noted in
      let before = refusals_here log (disk old.shelf.store).files old.tenants.items t x first in
      let now = refusals_here log (disk shelf.store).files new.tenants.items t (record x { parts = p; groups = gs; counts = cs }) last in
      let more = ap (λ (v : Parts L). v.refusals) counted in
      record {
        accounted = accounted_called log disk law old t x lt read kept mid p n gs cs shelf counted step m count sum;
        store = omega (arith, sum, was, is, grown);
        among = omega (arith, sum, count, more, before, now);
        over = (let a = ap (λ (c : Counts). both c.over told) (counts_here old.tenants.items t x first) in
            let b = ap (λ (c : Counts). c.over) (counts_here new.tenants.items t (record x { parts = p; groups = gs; counts = cs }) last) in
            b ∙ ap (λ (c : Counts). c.over) noted ∙ sym a);
        others = counts_elsewhere log disk old t x p gs cs shelf;
      }

-- ---- calls for one tenant

-- the store refused nothing, and its share is as it was
pub counted_still : (t : ℕ) (ps qs : List TenantState) (f g : ℕ) (old new : ℕ → Counts) → g ≡ f → IsAccounted ps qs f g → refusals_of ps t ≤ refusals_of qs t
    → ((u : ℕ) → new u ≡ old u) → IsCounted t ps qs f g old new
counted_still t ps qs f g old new same accounted grows stay =
    let is = ap (λ (c : Counts). c.by_store) (stay t) in
    record {
      accounted = accounted;
      store = omega (arith, is, same);
      among = omega (arith, grows, same);
      over = ap (λ (c : Counts). c.over) (stay t);
      others = λ u ne. stay u;
    }

-- nothing was done
pub counted_same : (t : ℕ) (ps : List TenantState) (f : ℕ) (old : ℕ → Counts) → IsCounted t ps ps f f old old
counted_same t ps f old = counted_still t ps ps f f old old refl (accounted_same ps f) (omega arith) (λ u. refl)

-- two calls in turn
pub counted_then : (t : ℕ) (ps qs rs : List TenantState) (f g h : ℕ) (old mid new : ℕ → Counts) → f ≤ g → g ≤ h → ((u : ℕ) → refusals_of qs u ≤ refusals_of rs u)
    → IsCounted t ps qs f g old mid → IsCounted t qs rs g h mid new → IsCounted t ps rs f h old new
counted_then t ps qs rs f g h old mid new some more grows first second =
    let a = first.store in
    let b = second.store in
    let c = first.among in
    let d = second.among in
    record {
      accounted = accounted_then ps qs rs f g h grows first.accounted second.accounted;
      store = omega (arith, some, more, a, b);
      among = omega (arith, some, more, c, d);
      over = second.over ∙ first.over;
      others = λ u ne. second.others u ne ∙ first.others u ne;
    }

-- ---- calls for each of them

-- where no count of the first so many is another, their sum is not
total_same : (n : ℕ) (f g : ℕ → Counts) → ((u : ℕ) → u < n → g u ≡ f u) → store_total n g ≡ store_total n f
total_same zero f g same = refl
total_same (suc n) f g same =
    let rest = total_same n f g (λ u lt. same u (omega (arith, lt))) in
    let last = ap (λ (c : Counts). c.by_store) (same n (omega arith)) in
    omega (arith, rest, last)

-- where one of them has risen, it has by as much
total_risen : (n t d : ℕ) (f g : ℕ → Counts) → t < n → (g t).by_store ≡ (f t).by_store + d → ((u : ℕ) → (u ≡ t → ⊥) → g u ≡ f u) → store_total n g ≡ store_total n f + d
total_risen zero t d f g lt here others = absurd (omega (arith, lt))
total_risen (suc n) t d f g lt here others = ⊎_elim
    (λ (is : n ≡ t).
    let rest = total_same n f g (λ u below. others u (λ same. omega (arith, below, same, is))) in
    let last : (g n).by_store ≡ (f n).by_store + d = subst (λ k. (g k).by_store ≡ (f k).by_store + d) (sym is) here in
    omega (arith, rest, last))
    (λ (ne : n ≡ t → ⊥).
    let rest = total_risen n t d f g (omega (arith, lt, ne)) here others in
    let last = ap (λ (c : Counts). c.by_store) (others n ne) in
    omega (arith, rest, last))
    (same_or_not n t)

-- nobody's turn was yet
pub all_counted_none : (ps : List TenantState) (f : ℕ) (old : ℕ → Counts) → AreCounted ps ps f f old old
all_counted_none ps f old = record { accounted = accounted_same ps f; store = inl refl; among = λ t. omega arith; rise = λ t. omega arith }

-- nothing but what was counted of refusals is another
pub over_stays : (t : ℕ) (ps qs : List TenantState) (f g : ℕ) (old new : ℕ → Counts) → IsCounted t ps qs f g old new → (u : ℕ) → (new u).over ≡ (old u).over
over_stays t ps qs f g old new h u = ⊎_elim
    (λ (here : u ≡ t). subst (λ k. (new k).over ≡ (old k).over) (sym here) h.over)
    (λ (ne : u ≡ t → ⊥). ap (λ (c : Counts). c.over) (h.others u ne))
    (same_or_not u t)

-- one tenant's turn
module _ {told : OverLimit → OverLimit} (t : ℕ) (ps qs rs : List TenantState) (f g h : ℕ) (old mid new : ℕ → Counts) (lt : t < length ps) (some : f ≤ g) (more : g ≤ h)
    (grows : (u : ℕ) → refusals_of qs u ≤ refusals_of rs u) (done : AreCounted ps qs f g old mid) (turn : IsCountedBy told t qs rs g h mid new) where
  at_or_else : (P : ℕ → Type 0) → P t → ((u : ℕ) → (u ≡ t → ⊥) → P u) → (u : ℕ) → P u
  at_or_else P here else u = ⊎_elim (λ (same : u ≡ t). subst P (sym same) here) (λ ne. else u ne) (same_or_not u t)

  rise_once : (u : ℕ) → (mid u).by_store ≤ (new u).by_store
  rise_once = at_or_else (λ u. (mid u).by_store ≤ (new u).by_store)
      (let is = turn.store in omega (arith, is))
      (λ u ne. let is = ap (λ (c : Counts). c.by_store) (turn.others u ne) in omega (arith, is))

  among_both : (u : ℕ) → min (refusals_of ps u + ((new u).by_store - (old u).by_store)) END ≤ refusals_of rs u
  among_both = at_or_else (λ u. min (refusals_of ps u + ((new u).by_store - (old u).by_store)) END ≤ refusals_of rs u)
      (let is = turn.store in let a = turn.among in omega (arith, is, a, done.among t, done.rise t, more))
      (λ u ne. let is = ap (λ (c : Counts). c.by_store) (turn.others u ne) in omega (arith, is, done.among u, grows u))

  total_next : store_total (length ps) mid + f ≡ store_total (length ps) old + g
      → (store_total (length ps) new + f ≡ store_total (length ps) old + h) ⊎ HasEndedAtStore new
  total_next sum =
      let is = turn.store in
      ⊎_elim
      (λ below.
      let all = total_risen (length ps) t (h - g) mid new lt (omega (arith, is, below)) turn.others in
      inl (omega (arith, all, sum, some, more)))
      (λ ended. inr (t, omega (arith, is, ended)))
      (below_or_ended ((mid t).by_store + (h - g)))

  pub all_counted_next : AreCounted ps rs f h old new
  all_counted_next = record {
    accounted = accounted_then ps qs rs f g h grows done.accounted turn.accounted;
    store = ⊎_elim total_next (λ ended. inr (let far = ended.1 in (ended.0, omega (arith, far, rise_once ended.0)))) done.store;
    among = among_both;
    rise = λ u. omega (arith, done.rise u, rise_once u);
  }

-- ---- a moment of groups

module _ {L S : Type 0} (log : L → Log) (disk : S → Disk) (law : (l : L) → IsLawfulLog (log l)) (old : Tenants L S) (t : ℕ) (x : Tenant L) (gs : Groups)
    (lt : t < length (hosted log disk old)) (read : x ≡ get_or old.tenants.items t x) (kept : AreKept log disk old) where
  -- in which memory was refused
  pub counted_counted : (p : Parts L) (n : ℕ) → p ≡ raised x.parts n → IsCountedFor log disk t old (after old t x p gs x.counts old.shelf)
  counted_counted p n counted =
      let new = after old t x p gs x.counts old.shelf in
      counted_still t (hosted log disk old) (hosted log disk new) (disk old.shelf.store).failures (disk old.shelf.store).failures (counts_of old) (counts_of new) refl
      (accounted_counted log disk law old t x gs lt read kept p n counted) ((turn_counted log disk law old t x gs lt read kept p n counted).grows t)
      (counts_stay log disk old t x p gs old.shelf lt read)

  -- in which nothing was due
  pub counted_own : gs ≡ x.groups → IsCountedFor log disk t old (after old t x x.parts gs x.counts old.shelf)
  counted_own same =
      let new = after old t x x.parts gs x.counts old.shelf in
      counted_still t (hosted log disk old) (hosted log disk new) (disk old.shelf.store).failures (disk old.shelf.store).failures (counts_of old) (counts_of new) refl
      (accounted_own log disk law old t x gs lt read kept same) ((turn_own log disk law old t x gs lt read kept same).grows t)
      (counts_stay log disk old t x x.parts gs old.shelf lt read)

-- ---- a look at a catalog

-- nothing more is seen of it
pub counted_timed : {L S : Type 0} (log : L → Log) (disk : S → Disk) (old mid new : Tenants L S) → new.shelf ≡ mid.shelf → hosted log disk new ≡ hosted log disk mid → (t : ℕ)
    → ((u : ℕ) → counts_of new u ≡ counts_of mid u) → IsCountedFor log disk t old mid → IsCountedFor log disk t old new
counted_timed {L} {S} log disk old mid new shelf hosts t stay before =
    let accounted = accounted_timed log disk old mid new shelf hosts (disk old.shelf.store).failures before.accounted in
    let failures = ap (λ (s : Shelved S). (disk s.store).failures) shelf in
    let refusals = ap (λ xs. refusals_of xs t) hosts in
    let is = ap (λ (c : Counts). c.by_store) (stay t) in
    let was = before.store in
    let among = before.among in
    record {
      accounted = accounted;
      store = omega (arith, is, was, failures);
      among = omega (arith, among, failures, refusals);
      over = ap (λ (c : Counts). c.over) (stay t) ∙ before.over;
      others = λ u ne. stay u ∙ before.others u ne;
    }
