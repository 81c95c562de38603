-- What a loss may leave of the files of a commit, call after call.
use Rattle.std.proofs.Common.{◌≡◌, ◌≢◌, ◌∙◌, ◌≤◌, ◌+◌, ◌-◌, ◌++◌, ◌⊎◌, ℕ, Bool, true, false, List, [], length, take, Option, Some, None, Result, Ok, Err, OnOk, OnErr, sym, ap, subst, refl, inl, inr, ⊎_elim, arith, append_assoc}
use Rattle.std.specs.Prelude.{IsSome, unwrap_or}
use Rattle.std.specs.FinMap.{get, insert}
use Rattle.std.proofs.Math.Seq.{take-append-add}
use Rattle.std.proofs.lemmas.Bool.{cases_eq, false≢true}
use Rattle.std.proofs.lemmas.List.{append-nil}
use Rattle.kb_store.specs.Disk.{Disk, Files, len_of, bytes_of, Keeps, Creates, Appends, Cuts, MayCreate, AppendsSome}
use Rattle.kb_store.specs.declared.fault.StoreFault.{StoreFault}
use Rattle.kb_store.specs.Loss.{Loss, IsLawfulLoss, Goes, Only, Same, Makes, Tears, found_of}
use Rattle.kb_store.proofs.Maps.{get_inserted, get_other}
use Rattle.kb_durable.specs.Waiting.{Trims, IsTrimmed}
use Rattle.kb_loss.specs.Since.{HoldsSince, Touched, AreStill, AreLeft, MayChange, StayOrGo, untouched}

-- ---- what holds at each moment

-- what each step of a call keeps holds at each moment since, if it held at each before
pub holds_on : (X : Files → Type 0) (step : Files → Files → Type 0) (t : ℕ) (old new : Loss) → IsLawfulLoss old → t ≤ old.moment → Goes step old new → ((a b : Files) → X a → step a b → X b) → HoldsSince X t old → HoldsSince X t new
holds_on X step t old new timely later goes keeps holds found left = ⊎_elim
    (λ was. holds found was)
    (λ at. keeps at.0 found (holds at.0 (timely.counts_now t at.0 later at.1)) at.2)
    (goes.between t found later left)

-- ---- the files of a commit

module _ (files : Files) (t : Touched) where
  pub still_itself : AreStill files t files
  still_itself = record { same = λ n made grown. refl; front = λ n bytes made at. ([], at ∙ ap Some (sym (append-nil bytes))) }

  -- after a commit that synced all
  pub still_synced : (l : Loss) → IsLawfulLoss l → Only files l → HoldsSince (AreStill files t) l.moment l
  still_synced l timely only found left = subst (AreStill files t) (sym (only found (timely.only_now found left))) still_itself

  -- a file that was made since is no matter
  module _ (x y : Files) (s : AreStill files t x) where
    pub still_same : y ≡ x → AreStill files t y
    still_same e = subst (AreStill files t) (sym e) s

    -- where a call changes one file alone, and that goes on
    pub still_changed : (m : ℕ) → ((n : ℕ) → n ≢ m → get y n ≡ get x n) → (t.made m ≡ true) ⊎ ((t.grown m ≡ true) × ((bytes : List ℕ) → get files m ≡ Some bytes → (rest : List ℕ) × (get y m ≡ Some (bytes ++ rest)))) → AreStill files t y
    still_changed m others may = record {
      same = λ n made grown. others n (λ e. ⊎_elim
          (λ (is : t.made m ≡ true). false≢true (sym made ∙ ap t.made e ∙ is))
          (λ (g : (t.grown m ≡ true) × ((bytes : List ℕ) → get files m ≡ Some bytes → (rest : List ℕ) × (get y m ≡ Some (bytes ++ rest)))). false≢true (sym grown ∙ ap t.grown e ∙ g.0))
          may) ∙ s.same n made grown;
      front = λ n bytes made at. ⊎_elim
          (λ (e : n ≡ m). ⊎_elim
          (λ (is : t.made m ≡ true). absurd (false≢true (sym made ∙ ap t.made e ∙ is)))
          (λ (g : (t.grown m ≡ true) × ((bytes : List ℕ) → get files m ≡ Some bytes → (rest : List ℕ) × (get y m ≡ Some (bytes ++ rest)))).
          let on = g.1 bytes (subst (λ (k : ℕ). get files k ≡ Some bytes) e at) in
          (on.0, ap (get y) e ∙ on.1))
          may)
          (λ (ne : n ≡ m → ⊥). let was = s.front n bytes made at in (was.0, others n ne ∙ was.1))
          (cases_eq n m);
    }

    pub still_made : (m : ℕ) → t.made m ≡ true → Makes m x y → AreStill files t y
    still_made m is makes = still_changed m makes (inl is)

    pub still_torn : (m keep : ℕ) → MayChange files t m keep → Tears m keep x y → AreStill files t y
    still_torn m keep may tears = ⊎_elim
        (λ (is : t.made m ≡ true). still_changed m tears.others (inl is))
        (λ (g : (t.grown m ≡ true) × ((bytes : List ℕ) → get files m ≡ Some bytes → length bytes ≤ keep)). by g (t.made m) refl)
        may
      where
        front : ((bytes : List ℕ) → get files m ≡ Some bytes → length bytes ≤ keep) → t.made m ≡ false → (bytes : List ℕ) → get files m ≡ Some bytes → (rest : List ℕ) × (get y m ≡ Some (bytes ++ rest))
        front fits old bytes at =
            let was = s.front m bytes old at in
            let n = keep - length bytes in
            let k : keep ≡ length bytes + n = omega (arith, fits bytes at) in
            let there : IsSome (get y m) = tears.there (subst (λ o. IsSome o) (sym was.1) refl) in
            let had : found_of x m ≡ bytes ++ was.0 = ap (λ o. unwrap_or o []) was.1 in
            let first : take keep (bytes ++ was.0) ≡ bytes ++ take n was.0 = ap (λ j. take j (bytes ++ was.0)) k ∙ take-append-add bytes was.0 n in (
              take n was.0 ++ tears.tail,
              some_is (get y m) there ∙ ap Some (tears.bytes ∙ ap (λ l. take keep l ++ tears.tail) had ∙ ap (λ l. l ++ tears.tail) first ∙ append_assoc bytes (take n was.0) tears.tail),
            )
          where
            some_is : (o : Option (List ℕ)) → IsSome o → o ≡ Some (unwrap_or o [])
            some_is None some = absurd (false≢true some)
            some_is (Some z) some = refl

        by : (t.grown m ≡ true) × ((bytes : List ℕ) → get files m ≡ Some bytes → length bytes ≤ keep) → (b : Bool) → t.made m ≡ b → AreStill files t y
        by g true is = still_changed m tears.others (inl is)
        by g false is = still_changed m tears.others (inr (g.0, front g.1 is))

  -- ---- of a loss

  pub since_same : (at : ℕ) (old new : Loss) → IsLawfulLoss old → at ≤ old.moment → Goes Same old new → HoldsSince (AreStill files t) at old → HoldsSince (AreStill files t) at new
  since_same at old new timely later goes = holds_on (AreStill files t) Same at old new timely later goes (λ a b s e. still_same a b s e)

  pub since_made : (m at : ℕ) (old new : Loss) → t.made m ≡ true → IsLawfulLoss old → at ≤ old.moment → Goes (Makes m) old new → HoldsSince (AreStill files t) at old → HoldsSince (AreStill files t) at new
  since_made m at old new is timely later goes = holds_on (AreStill files t) (Makes m) at old new timely later goes (λ a b s e. still_made a b s m is e)

  pub since_torn : (m keep at : ℕ) (old new : Loss) → MayChange files t m keep → IsLawfulLoss old → at ≤ old.moment → Goes (Tears m keep) old new → HoldsSince (AreStill files t) at old → HoldsSince (AreStill files t) at new
  since_torn m keep at old new may timely later goes = holds_on (AreStill files t) (Tears m keep) at old new timely later goes (λ a b s e. still_torn a b s m keep may e)

  -- ---- with removals that wait

  pub left_whole : (waiting : List ℕ) (found : Files) → AreStill files t found → AreLeft files t waiting found
  left_whole waiting found s = record { whole = found; still = s; count = 0; is = refl }

  -- of files that are still there
  pub left_further : (mid : Files) (waiting : List ℕ) (found : Files) → AreStill files t mid → AreLeft mid untouched waiting found → AreLeft files t waiting found
  left_further mid waiting found s l = record {
    whole = l.whole;
    still = record {
      same = λ n made grown. l.still.same n refl refl ∙ s.same n made grown;
      front = λ n bytes made at. let was = s.front n bytes made at in (was.0, l.still.same n refl refl ∙ was.1);
    };
    count = l.count;
    is = l.is;
  }

  -- ---- of the disk itself

  others_stay : (x y : Files) (m : ℕ) (bytes : List ℕ) → y ≡ insert x m bytes → (n : ℕ) → n ≢ m → get y n ≡ get x n
  others_stay x y m bytes e n ne = ap (λ z. get z n) e ∙ get_other x m bytes n ne

  here : (x y : Files) (m : ℕ) (bytes : List ℕ) → y ≡ insert x m bytes → get y m ≡ Some bytes
  here x y m bytes e = ap (λ z. get z m) e ∙ get_inserted x m bytes

  pub disk_kept : (d e : Disk) → Keeps d e → e.honest → AreStill files t d.files → AreStill files t e.files
  disk_kept d e kept honest s = still_same d.files e.files s (kept.files honest)

  pub disk_created : (m : ℕ) (d e : Disk) → t.made m ≡ true → Creates d m e → e.honest → AreStill files t d.files → AreStill files t e.files
  disk_created m d e made created honest s = still_changed d.files e.files s m (others_stay d.files e.files m [] (created.files honest)) (inl made)

  pub disk_appended : (m : ℕ) (bytes : List ℕ) (d e : Disk) → MayChange files t m (len_of d m) → Appends d m bytes e → e.honest → AreStill files t d.files → AreStill files t e.files
  disk_appended m bytes d e may appended honest s = still_changed d.files e.files s m (others_stay d.files e.files m (bytes_of d m ++ bytes) (appended.files honest)) (⊎_elim
      (λ (is : t.made m ≡ true). inl is)
      (λ (g : (t.grown m ≡ true) × ((old : List ℕ) → get files m ≡ Some old → length old ≤ len_of d m)). by g (t.made m) refl)
      may)
    where
      by : (t.grown m ≡ true) × ((old : List ℕ) → get files m ≡ Some old → length old ≤ len_of d m) → (b : Bool) → t.made m ≡ b
          → (t.made m ≡ true) ⊎ ((t.grown m ≡ true) × ((old : List ℕ) → get files m ≡ Some old → (rest : List ℕ) × (get e.files m ≡ Some (old ++ rest))))
      by g true is = inl is
      by g false is = inr (
        g.0,
        λ old at.
            let was = s.front m old is at in
            let had : bytes_of d m ≡ old ++ was.0 = ap (λ o. unwrap_or o []) was.1 in
            (was.0 ++ bytes, here d.files e.files m (bytes_of d m ++ bytes) (appended.files honest) ∙ ap (λ l. Some (l ++ bytes)) had ∙ ap Some (append_assoc old was.0 bytes)),
      )

  pub disk_cut : (m len : ℕ) (d e : Disk) → MayChange files t m len → Cuts d m len e → e.honest → AreStill files t d.files → AreStill files t e.files
  disk_cut m len d e may cut honest s = still_changed d.files e.files s m (others_stay d.files e.files m (take len (bytes_of d m)) (cut.files honest)) (⊎_elim
      (λ (is : t.made m ≡ true). inl is)
      (λ (g : (t.grown m ≡ true) × ((old : List ℕ) → get files m ≡ Some old → length old ≤ len)). by g (t.made m) refl)
      may)
    where
      by : (t.grown m ≡ true) × ((old : List ℕ) → get files m ≡ Some old → length old ≤ len) → (b : Bool) → t.made m ≡ b
          → (t.made m ≡ true) ⊎ ((t.grown m ≡ true) × ((old : List ℕ) → get files m ≡ Some old → (rest : List ℕ) × (get e.files m ≡ Some (old ++ rest))))
      by g true is = inl is
      by g false is = inr (
        g.0,
        λ old at.
            let was = s.front m old is at in
            let n = len - length old in
            let k : len ≡ length old + n = omega (arith, g.1 old at) in
            let had : bytes_of d m ≡ old ++ was.0 = ap (λ o. unwrap_or o []) was.1 in
            let first : take len (old ++ was.0) ≡ old ++ take n was.0 = ap (λ j. take j (old ++ was.0)) k ∙ take-append-add old was.0 n in
            (take n was.0, here d.files e.files m (take len (bytes_of d m)) (cut.files honest) ∙ ap (λ l. Some (take len l)) had ∙ ap Some first),
      )

  -- whether it is answered or refused
  pub created_still : {T : Type 0} (m : ℕ) (d e : Disk) (r : Result T StoreFault) → t.made m ≡ true → OnOk r (Creates d m e) → OnErr r (MayCreate d m e) → e.honest → AreStill files t d.files → AreStill files t e.files
  created_still m d e (Ok x) made created refused honest s = disk_created m d e made created honest s
  created_still m d e (Err f) made created refused honest s =
      ⊎_elim (λ (kept : Keeps d e). disk_kept d e kept honest s) (λ (made_it : Creates d m e). disk_created m d e made made_it honest s) refused

  pub appended_still : {T : Type 0} (m : ℕ) (bytes : List ℕ) (d e : Disk) (r : Result T StoreFault) → MayChange files t m (len_of d m) → OnOk r (Appends d m bytes e) → OnErr r (AppendsSome d m bytes e) → e.honest → AreStill files t d.files → AreStill files t e.files
  appended_still m bytes d e (Ok x) may appended refused honest s = disk_appended m bytes d e may appended honest s
  appended_still m bytes d e (Err f) may appended refused honest s = disk_appended m (take refused.0 bytes) d e may refused.2 honest s

  pub cut_still : {T : Type 0} (m len : ℕ) (d e : Disk) (r : Result T StoreFault) → MayChange files t m len → OnOk r (Cuts d m len e) → OnErr r (Keeps d e) → e.honest → AreStill files t d.files → AreStill files t e.files
  cut_still m len d e (Ok x) may cut refused honest s = disk_cut m len d e may cut honest s
  cut_still m len d e (Err f) may cut refused honest s = disk_kept d e refused honest s

-- ---- a sync

-- it does the removals that wait, the first one first
pub since_synced : (files : Files) (t : Touched) (most at : ℕ) (waited waits : List ℕ) (d e : Disk) (old new : Loss) → Trims most waited waits d old e new → e.honest → at ≤ old.moment → HoldsSince (AreStill files t) at old → HoldsSince (StayOrGo files t d.files waited) at new
since_synced files t most at waited waits d e old new trims honest later holds found left = ⊎_elim
    (λ (was : old.left_since at found). inl (holds found was))
    (λ (trimmed : IsTrimmed most waited d.files found). inr (record { whole = d.files; still = still_itself d.files untouched; count = trimmed.0; is = trimmed.2 }))
    (trims.between honest at found later left)
