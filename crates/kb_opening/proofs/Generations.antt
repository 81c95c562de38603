-- The generations of a catalog: which of them are whole, and the files of those that are removed.
use Rattle.std.proofs.Common.{◌≡◌, ◌≢◌, ◌∙◌, ◌⊎◌, ◌≤◌, ◌<◌, ◌+◌, ◌-◌, ◌^◌, ◌++◌, inl, inr, ⊎_elim, ℕ, zero, suc, List, [], ◌∷◌, Some, None, refl, sym, ap, subst, arith, append_assoc}
use Rattle.std.specs.Prelude.{IsSome, IsPermutation, is_some, unwrap_or, Option, Bool, true, false}
use Rattle.std.specs.FinMap.{get}
use Rattle.std.specs.List.{All, Contains}
use Rattle.std.proofs.lemmas.Bool.{cases_lt, cases_eq, false≢true}
use Rattle.std.proofs.lemmas.Cmp.{ranked}
use Rattle.std.specs.BTreeMap as tree
use Rattle.std.specs.Ordering.{nat_cmp, is_gt, is_lt, ordering_then, MatchOrdering}
use Rattle.std.specs.declared.alloc.Global.{Global}
use Rattle.std.specs.declared.cmp.Ordering.{Ordering}
use Rattle.std.specs.declared.cmp.Ordering.TheVariants.{Less, Equal, Greater}
use Rattle.std.specs.declared.vec.Vec.{Vec}
use Rattle.std.proofs.lemmas.List.Elements.{All-contains, All-contains_itself}
use Rattle.std.proofs.lemmas.List.Sorted.{IsPermutation-refl, IsPermutation-trans, IsPermutation-append_right}
use Rattle.std.proofs.lemmas.Option.{same_Some}
use Rattle.kb_store.specs.Disk.{Disk, Files, IsThere}
use Rattle.kb_segment.specs.Header.{header_in}
use Rattle.kb_log.specs.OnShelf.{OnlyRemoves}
use Rattle.kb_segment_log.specs.SegmentLog.{Clears}
use Rattle.kb_segment_log.specs.Chain.{Chain, KeepsHeaders}
use Rattle.kb_segment_log.specs.Chain as chained
use Rattle.kb_segment_log.proofs.Opened.{Removing}
use Rattle.kb_segment_log.proofs.Unique.{one_chain}
use Rattle.kb_topics.specs.Replay.{IsReady}
use Rattle.kb_topics.specs.declared.command.Command.{Command}
use Rattle.kb_topics.specs.declared.stage.Stage.TheVariants.{Fresh, Left}
use Rattle.kb_topics.specs.Known.{Known}
use Rattle.kb_topics.specs.MetaLog.{SayEach}
use Rattle.kb_topics.specs.Reading.{Reading, in_use, read_all, starting_at}
use Rattle.kb_replay.specs.Shown.{HasRead, IsStopped}
use Rattle.kb_opening.specs.Catalog.{IsGreatest, IsWhole}
use Rattle.kb_opening.specs.Owners.{owner_cmp}
use Rattle.kb_opening.specs.Directory.{all_files, files_at, items_of, HasFiles, NoneBetween, TakesOut}
use Rattle.kb_opening.specs.Opened.{ComesToKnown, EndsWith, IsLongest, NoneAbove}
use Rattle.kb_opening.specs.Tenant.{owners_in, AreListed, IsOfOlder, TakesOlder, TakesSome}
use Rattle.kb_opening.specs.declared.directory.Directory.{Directory}
use Rattle.kb_opening.specs.declared.owner.Owner.{Owner}
use Rattle.kb_opening.specs.declared.owner.Owner.TheVariants.{Catalog}
use Rattle.kb_opening.proofs.Catalogs.{ready_is}
use Rattle.kb_opening.proofs.Entries.{same_files}
use Rattle.kb_opening.proofs.Openings.{clears_then}
use Rattle.kb_opening.proofs.Taken.{all_taken, taken_or_left}
use Rattle.kb_opening.proofs.Taking.{listed_at}
use Rattle.kb_opening.proofs.Unique.{no_shorter, one_reading}
use Rattle.kb_opening.proofs.Whole.{rest_listed}

-- ---- no file, no snapshot

nil_order : {A : Type 0} (order : List A) → IsPermutation [] order → order ≡ []
nil_order [] these = refl
nil_order (p ∷ ps) these = absurd (no_shorter p ps these)

nil_chain : (files : Files) (bs : List (List ℕ)) → Chain files [] 0 bs → bs ≡ []
nil_chain files bs c = (subst (λ order. chained.IsChain (chained.first_of 0 order) (chained.parts_at files order) bs c.end c.count) (nil_order c.order c.ordered.these) c.chain).0

nil_front : (xs ys : List (List ℕ)) → xs ++ ys ≡ [] → xs ≡ []
nil_front [] ys e = refl
nil_front (x ∷ xs) ys e = absurd cc

nil_said : (commands : List Command) → SayEach [] commands → commands ≡ []
nil_said [] said = refl
nil_said (c ∷ cs) said = absurd said

fresh_or_left : (r : Reading) (k : Known) (n : ℕ) → 0 < n → r ≡ starting_at n → r ≡ in_use k → ⊥
fresh_or_left r k zero lt begun is = omega (arith, lt)
fresh_or_left r k (suc n) lt begun is =
    let same : Fresh ≡ Left 0 = ap (λ (q : Reading). q.stage) (sym begun ∙ is) in
    absurd cc

pub nothing_whole : (files : Files) (generation : ℕ) (k : Known) → 0 < generation → ComesToKnown files [] generation k → ⊥
nothing_whole files generation k lt c =
    let none = nil_chain files c.commands c.chain in
    let before = nil_front c.known.before c.known.behind (sym c.known.split ∙ none) in
    let commands = nil_said c.known.fold.commands (subst (λ (ss : List (List ℕ)). SayEach ss c.known.fold.commands) before c.known.fold.said) in
    let read : Some (starting_at generation) ≡ Some (in_use k) = sym (ap (λ (cs : List Command). read_all (starting_at generation) cs) commands) ∙ c.known.fold.read in
    fresh_or_left (in_use k) k generation lt (sym (same_Some (starting_at generation) (in_use k) read)) refl

-- ---- what was shown

pub longest_shown : (generation : ℕ) (bs : List (List ℕ)) (r : Reading) (stopped : Bool) → HasRead generation bs r stopped → IsLongest generation bs r
longest_shown generation bs r stopped h = record { before = h.before; behind = h.behind; split = h.split; fold = h.fold; ends = by stopped h.stops }
  where
    by : (b : Bool) → IsStopped b h.behind r → EndsWith h.behind r
    by false none = subst (λ (xs : List (List ℕ)). EndsWith xs r) (sym none) tt
    by true stops = subst (λ (xs : List (List ℕ)). EndsWith xs r) (sym stops.2) stops.3

-- ---- which is in use

module _ (files : Files) (d : Directory) (t : ℕ) where
  -- no generation above one is whole, of those above a bound by what was seen so far
  abbrev pub NoneOver : ℕ → Type 0
  NoneOver most = (above : ℕ) → most < above → above < 2 ^ 63 → (k : Known) → ComesToKnown files (files_at (Catalog t above) d) above k → ⊥

  pub none_over : (generation most : ℕ) → NoneBetween d t generation most → NoneOver most → NoneAbove files (owners_in d t) generation
  none_over generation most between over above lt small k c = elim (cases_lt most above) [
    | inl more ↦ over above more small k c
    | inr no_more ↦ nothing_whole files above k (omega (arith, lt)) (subst (λ (ns : List ℕ). ComesToKnown files ns above k) (between above lt (omega (arith, no_more))) c)
  ]

  -- above the latest that has files none is
  pub over_latest : (latest : ℕ) → NoneBetween d t latest (2 ^ 63 - 1) → NoneOver latest
  over_latest latest between above lt small k c =
      nothing_whole files above k (omega (arith, lt)) (subst (λ (ns : List ℕ). ComesToKnown files ns above k) (between above lt (omega (arith, small))) c)

  -- one more that is not whole
  pub over_more : (generation most next : ℕ) → next + 1 ≡ generation → NoneBetween d t generation most → NoneOver most
      → ((k : Known) → ComesToKnown files (files_at (Catalog t generation) d) generation k → ⊥) → NoneOver next
  over_more generation most next is between over torn above lt small k c = elim (cases_lt generation above) [
    | inl more ↦ none_over generation most between over above more small k c
    | inr no_more ↦
        let same : above ≡ generation = omega (arith, lt, no_more, is) in
        torn k (subst (λ (g : ℕ). ComesToKnown files (files_at (Catalog t g) d) g k) same c)
  ]

  pub greatest_first : (generation most : ℕ) → generation ≡ 0 → NoneBetween d t generation most → NoneOver most → IsGreatest files (owners_in d t) 0
  greatest_first generation most is between over = record {
    none_above = subst (λ (g : ℕ). NoneAbove files (owners_in d t) g) is (none_over generation most between over);
    whole = λ lt. absurd (omega (arith, lt));
  }

  pub greatest_none : (most : ℕ) → ((g : ℕ) → g ≤ most → files_at (Catalog t g) d ≡ []) → NoneOver most → IsGreatest files (owners_in d t) 0
  greatest_none most none over = greatest_first 0 most refl (λ above lt le. none above le) over

-- ---- removed files

-- a file that is there is as it was
pub only_headers : (had has : Disk) → OnlyRemoves had has → has.honest → KeepsHeaders had has
only_headers had has left h file there =
    (subst (λ o. IsSome o) (left.lengths file there) there, ap (λ (o : Option (List ℕ)). header_in (unwrap_or o [])) (left.contents h file there))

-- all of some are gone
pub all_gone : (all : List ℕ) (had has : Disk) → Removing all [] had has → (file : ℕ) → Contains all file → get has.table file ≡ None
all_gone all had has r file mine = All-contains (λ n. get has.table n ≡ None) r.gone file r.went (subst (λ (ns : List ℕ). Contains ns file) r.split mine)

-- ---- older generations are removed one after another

no_older : (t u g h : ℕ) → Catalog t h ≡ Catalog t g → h ≡ g
no_older t u g h e = cc

-- the generations from one on, below another, were taken out and their files are gone
pub record IsCleared (t generation from : ℕ) (first : Disk) (had : Directory) (now : Disk) (has : Directory) (next : ℕ) : Type 0 where
  pub within : from ≤ generation
  pub listed : AreListed has now next
  pub none : (g : ℕ) → from ≤ g → g < generation → files_at (Catalog t g) has ≡ []
  pub below : (g : ℕ) → g < from → files_at (Catalog t g) has ≡ files_at (Catalog t g) had
  pub others : (o : Owner) → ((g : ℕ) → g < generation → o ≢ Catalog t g) → files_at o has ≡ files_at o had
  pub strays : has.strays.items ≡ had.strays.items
  pub some : TakesSome had has
  pub gone : (g : ℕ) → from ≤ g → g < generation → (file : ℕ) → Contains (files_at (Catalog t g) had) file → get now.table file ≡ None
  pub accounts : (file : ℕ) → Contains (all_files had) file → (get now.table file ≡ None) ⊎ Contains (all_files has) file
  pub cleared : Clears (IsOfOlder had t generation) first now

none_has : (file : ℕ) → Contains [] file → ⊥
none_has file has = let lt = has.1 in absurd (omega (arith, lt))

pub cleared_none : (t generation next : ℕ) (d : Disk) (had : Directory) → AreListed had d next → IsCleared t generation generation d had d had next
cleared_none t generation next d had listed = record {
  within = omega arith;
  listed = listed;
  none = λ g le lt. absurd (omega (arith, le, lt));
  below = λ g lt. refl;
  others = λ o apart. refl;
  strays = refl;
  some = record { taken = []; all = IsPermutation-refl (all_files had) };
  gone = λ g le lt file has. absurd (omega (arith, le, lt));
  accounts = λ file has. inr has;
  cleared = record { honest = λ h. h; lengths = λ file not. refl; contents = λ h file not. refl };
}

-- none is left below
pub cleared_to : (t generation from most next : ℕ) (first now : Disk) (had has : Directory) → from ≤ most + 1 → ((g : ℕ) → g ≤ most → files_at (Catalog t g) has ≡ []) → IsCleared t generation from first had now has next → IsCleared t generation 0 first had now has next
cleared_to t generation from most next first now had has le none c = record {
  within = omega arith;
  listed = c.listed;
  none = λ g low lt. elim (cases_lt g from) [
    | inl below ↦ none g (omega (arith, below, le))
    | inr above ↦ c.none g (omega (arith, above)) lt
  ];
  below = λ g lt. absurd (omega (arith, lt));
  others = c.others;
  strays = c.strays;
  some = c.some;
  gone = λ g low lt file mine. elim (cases_lt g from) [
    | inl below ↦ absurd (none_has file (subst (λ (ns : List ℕ). Contains ns file) (sym (c.below g below) ∙ none g (omega (arith, below, le))) mine))
    | inr above ↦ c.gone g (omega (arith, above)) lt file mine
  ];
  accounts = c.accounts;
  cleared = c.cleared;
}

module _ (t generation from older most next : ℕ) (first mid now : Disk) (had has left : Directory) (files : List ℕ)
    (is : most + 1 ≡ from) (up_to : older ≤ most) (between : NoneBetween has t older most) (takes : TakesOut (Catalog t older) has files left)
    (c : IsCleared t generation from first had mid has next) (others : Clears (Contains files) mid now) where
  mine_first : files ≡ files_at (Catalog t older) had
  mine_first = takes.files ∙ c.below older (omega (arith, is, up_to))

  within_older : older < generation
  within_older = let w = c.within in omega (arith, is, up_to, w)

  of_older : (file : ℕ) → Contains files file → IsOfOlder had t generation file
  of_older file own = record { older = older; below = within_older; has = subst (λ (ns : List ℕ). Contains ns file) mine_first own }

  pub cleared_now : Clears (IsOfOlder had t generation) first now
  cleared_now = clears_then first mid now (λ file own. own) of_older c.cleared others

  other_still : (g : ℕ) → (g ≡ older → ⊥) → files_at (Catalog t g) left ≡ files_at (Catalog t g) has
  other_still g ne = takes.others (Catalog t g) (λ e. ne (no_older t t older g e))

  -- one generation more
  pub cleared_next : ((file : ℕ) → Contains files file → get now.table file ≡ None) → IsCleared t generation older first had now left next
  cleared_next gone = record {
    within = let lt = within_older in omega (arith, lt);
    listed = rest_listed t older next has left files mid now c.listed takes others;
    none = λ g low lt. ⊎_elim
        (λ (same : g ≡ older). ap (λ (h : ℕ). files_at (Catalog t h) left) same ∙ takes.none)
        (λ (ne : g ≡ older → ⊥). other_still g ne ∙ above g ne low lt)
        (cases_eq g older);
    below = λ g lt. other_still g (λ e. omega (arith, lt, e)) ∙ c.below g (omega (arith, lt, is, up_to));
    others = λ o apart. takes.others o (apart older within_older) ∙ c.others o apart;
    strays = takes.strays ∙ c.strays;
    some = record {
      taken = c.some.taken ++ files;
      all = IsPermutation-trans _ _ _ c.some.all
          (IsPermutation-trans _ _ _ (IsPermutation-append_right c.some.taken (all_files has) (files ++ all_files left) takes.all)
          (same_files (c.some.taken ++ (files ++ all_files left)) ((c.some.taken ++ files) ++ all_files left) (sym (append_assoc c.some.taken files (all_files left)))));
    };
    gone = λ g low lt file mine. ⊎_elim
        (λ (same : g ≡ older). gone file (subst (λ (ns : List ℕ). Contains ns file) (ap (λ (h : ℕ). files_at (Catalog t h) had) same ∙ sym mine_first) mine))
        (λ (ne : g ≡ older → ⊥). later g ne low lt file mine)
        (cases_eq g older);
    accounts = λ file stood. ⊎_elim
        (λ (none : get mid.table file ≡ None). inl (still_gone file none))
        (λ here. ⊎_elim
        (λ own. inl (gone file own))
        (λ more. inr more)
        ((taken_or_left (Catalog t older) has left files takes file).0 here))
        (c.accounts file stood);
    cleared = cleared_now;
  }
    where
      -- a file that was gone is still gone
      still_gone : (file : ℕ) → get mid.table file ≡ None → get now.table file ≡ None
      still_gone file was = others.lengths file (λ own. false≢true (sym (ap is_some was) ∙ All-contains (λ n. IsThere mid n) files file (all_taken (λ n. IsThere mid n) (Catalog t older) has left files takes c.listed.there).0 own)) ∙ was

      above : (g : ℕ) → (g ≡ older → ⊥) → older ≤ g → g < generation → files_at (Catalog t g) has ≡ []
      above g ne low lt = elim (cases_lt g from) [
        | inl below ↦ between g (omega (arith, low, ne)) (omega (arith, below, is))
        | inr more ↦ c.none g (omega (arith, more)) lt
      ]

      later : (g : ℕ) → (g ≡ older → ⊥) → older ≤ g → g < generation → (file : ℕ) → Contains (files_at (Catalog t g) had) file → get now.table file ≡ None
      later g ne low lt file mine = elim (cases_lt g from) [
        | inl below ↦ absurd (none_has file (subst (λ (ns : List ℕ). Contains ns file) (sym (c.below g below) ∙ between g (omega (arith, low, ne)) (omega (arith, below, is))) mine))
        | inr more ↦ still_gone file (c.gone g (omega (arith, more)) lt file mine)
      ]

-- all are
pub takes_older : (t generation next : ℕ) (first now : Disk) (had has : Directory) → IsCleared t generation 0 first had now has next → TakesOlder t generation had has
takes_older t generation next first now had has c = record { older = λ g lt. c.none g (omega arith) lt; others = c.others; strays = c.strays }

pub older_gone : (t generation next : ℕ) (first now : Disk) (had has : Directory) → IsCleared t generation 0 first had now has next → (file : ℕ) → IsOfOlder had t generation file → get now.table file ≡ None
older_gone t generation next first now had has c file o = c.gone o.older (omega arith) o.below file o.has

-- ---- whether a generation is whole

-- an owner's files have numbers that were given out
pub owner_given : (d : Directory) (disk : Disk) (next : ℕ) → AreListed d disk next → (o : Owner) → All (λ n. n < next) (files_at o d)
owner_given d disk next listed o = λ k x l. All-contains (λ n. n < next) (all_files d) _ listed.given_out (listed_at o d _ (All-contains_itself (files_at o d) k x l))

-- what was shown behind a mark of a generation is read of that one
longest_marked : (generation h : ℕ) (bs : List (List ℕ)) (r : Reading) (stopped : Bool) → generation ∷ [] ≡ h ∷ [] → HasRead h bs r stopped → IsLongest generation bs r
longest_marked generation h bs r stopped same read =
    subst (λ (n : ℕ). IsLongest n bs r) (let is : h ≡ generation = cc in is) (longest_shown h bs r stopped read)

module _ (files : Files) (numbers : List ℕ) (generation h : ℕ) (bs : List (List ℕ)) (chain : Chain files numbers 0 bs) (r : Reading) (stopped : Bool) (same : generation ∷ [] ≡ h ∷ []) (read : HasRead h bs r stopped) where
  pub read_whole : IsReady r → IsWhole files numbers generation
  read_whole ready = (r.known, record { commands = bs; chain = chain; known = subst (λ (q : Reading). IsLongest generation bs q) (ready_is r ready) (longest_marked generation h bs r stopped same read) })

  pub read_torn : (IsReady r → ⊥) → (k : Known) → ComesToKnown files numbers generation k → ⊥
  read_torn torn k c =
      let one = one_chain files numbers 0 bs c.commands chain c.chain in
      let long = subst (λ (x : List (List ℕ)). IsLongest generation x (in_use k)) one c.known in
      torn (ap (λ (q : Reading). q.stage) (one_reading generation bs (in_use k) r long (longest_marked generation h bs r stopped same read)))

-- ---- the latest generation

rank : (a b : ℕ) → (o : Ordering) → nat_cmp a b ≡ o → MatchOrdering o (a < b) (a ≡ b) (b < a)
rank a b o same = subst (λ (r : Ordering). MatchOrdering r (a < b) (a ≡ b) (b < a)) same (ranked a b (nat_cmp a b) refl)

lt_numbers : (a b : ℕ) → a < b → is_lt (nat_cmp a b) ≡ true
lt_numbers a b lt = by (nat_cmp a b) refl
  where
    by : (o : Ordering) → nat_cmp a b ≡ o → is_lt (nat_cmp a b) ≡ true
    by Less same = ap is_lt same
    by Equal same = let e : a ≡ b = rank a b Equal same in absurd (omega (arith, e, lt))
    by Greater same = let l : b < a = rank a b Greater same in absurd (omega (arith, l, lt))

le_numbers : (a b : ℕ) → a ≤ b → is_gt (nat_cmp a b) ≡ false
le_numbers a b le = by (nat_cmp a b) refl
  where
    by : (o : Ordering) → nat_cmp a b ≡ o → is_gt (nat_cmp a b) ≡ false
    by Less same = ap is_gt same
    by Equal same = ap is_gt same
    by Greater same = let l : b < a = rank a b Greater same in absurd (omega (arith, l, le))

pub le_catalogs : (t g h : ℕ) → g ≤ h → is_gt (owner_cmp (Catalog t g) (Catalog t h)) ≡ false
le_catalogs t g h le = by (nat_cmp t t) refl
  where
    by : (o : Ordering) → nat_cmp t t ≡ o → is_gt (ordering_then (nat_cmp t t) (nat_cmp g h)) ≡ false
    by Less same = let l : t < t = rank t t Less same in absurd (omega (arith, l))
    by Equal same = ap (λ (o : Ordering). is_gt (ordering_then o (nat_cmp g h))) same ∙ le_numbers g h le
    by Greater same = let l : t < t = rank t t Greater same in absurd (omega (arith, l))

lt_catalogs : (u t g h most : ℕ) → is_gt (owner_cmp (Catalog u g) (Catalog t most)) ≡ false → g < h → is_lt (owner_cmp (Catalog u g) (Catalog t h)) ≡ true
lt_catalogs u t g h most upper lt = by (nat_cmp u t) upper
  where
    by : (o : Ordering) → is_gt (ordering_then o (nat_cmp g most)) ≡ false → is_lt (ordering_then o (nat_cmp g h)) ≡ true
    by Less e = refl
    by Equal e = lt_numbers g h lt
    by Greater e = absurd (false≢true (sym e))

-- a catalog between two of a tenant is that tenant's
same_tenant : (t u g most : ℕ) → is_gt (owner_cmp (Catalog t 0) (Catalog u g)) ≡ false → is_gt (owner_cmp (Catalog u g) (Catalog t most)) ≡ false → u ≡ t
same_tenant t u g most lower upper = by (nat_cmp t u) (nat_cmp u t) refl refl lower upper
  where
    by : (o p : Ordering) → nat_cmp t u ≡ o → nat_cmp u t ≡ p → is_gt (ordering_then o (nat_cmp 0 g)) ≡ false → is_gt (ordering_then p (nat_cmp g most)) ≡ false → u ≡ t
    by Greater p here there low up = absurd (false≢true (sym low))
    by o Greater here there low up = absurd (false≢true (sym up))
    by Equal p here there low up = let e : t ≡ u = rank t u Equal here in sym e
    by o Equal here there low up = rank u t Equal there
    by Less Less here there low up =
        let l : t < u = rank t u Less here in
        let m : u < t = rank u t Less there in
        absurd (omega (arith, l, m))

pub latest_there : (d : Directory) (t most u g : ℕ) (key : Owner) → key ≡ Catalog u g → is_gt (owner_cmp (Catalog t 0) key) ≡ false
    → is_gt (owner_cmp key (Catalog t most)) ≡ false → IsSome (tree.get owner_cmp d.owned key) → HasFiles d (Catalog t g)
latest_there d t most u g key is lower upper there =
    let same = same_tenant t u g most
    (subst (λ (k : Owner). is_gt (owner_cmp (Catalog t 0) k) ≡ false) is lower)
    (subst (λ (k : Owner). is_gt (owner_cmp k (Catalog t most)) ≡ false) is upper) in
    subst (λ (v : ℕ). HasFiles d (Catalog v g)) same (subst (λ (k : Owner). HasFiles d k) is there)

-- the last of a range of catalogs is the latest
pub latest_none : (d : Directory) (t most u g : ℕ) (key : Owner) → key ≡ Catalog u g → is_gt (owner_cmp key (Catalog t most)) ≡ false
    → ((q : Owner) → (is_gt (owner_cmp (Catalog t 0) q) ≡ false) × (is_gt (owner_cmp q (Catalog t most)) ≡ false) → IsSome (tree.get owner_cmp d.owned q) → is_lt (owner_cmp key q) ≡ false) → NoneBetween d t g most
latest_none d t most u g key is upper last above lt le = by (tree.get owner_cmp d.owned (Catalog t above)) refl
  where
    by : (o : Option (Vec ℕ Global)) → tree.get owner_cmp d.owned (Catalog t above) ≡ o → files_at (Catalog t above) d ≡ []
    by None e = ap items_of e
    by (Some files) e =
        let less = lt_catalogs u t g above most (subst (λ (k : Owner). is_gt (owner_cmp k (Catalog t most)) ≡ false) is upper) lt in
        let not = subst (λ (k : Owner). is_lt (owner_cmp k (Catalog t above)) ≡ false) is (last (Catalog t above) (le_catalogs t 0 above (omega arith), le_catalogs t above most le) (ap is_some e)) in
        absurd (false≢true (sym not ∙ less))
