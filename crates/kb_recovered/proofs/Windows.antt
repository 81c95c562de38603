-- What a loss may have left at each moment since a commit, call after call.
use Rattle.std.proofs.Common.{◌≡◌, ◌≤◌, ◌⊎◌, ◌∷◌, ℕ, true, List, [], take, Result, Ok, Err, OnOk, OnErr, sym, subst, inl, inr, ⊎_elim, arith}
use Rattle.kb_store.specs.Disk.{Disk, Files, Keeps, Creates, MayCreate, Appends, AppendsSome, Cuts, len_of}
use Rattle.kb_store.specs.declared.fault.StoreFault.{StoreFault}
use Rattle.kb_store.specs.Loss.{Loss, IsLawfulLoss, Goes, Only, Same, Makes, Tears}
use Rattle.kb_durable.specs.Waiting.{Trims, IsTrimmed}
use Rattle.kb_loss.specs.Since.{HoldsSince, Touched, AreStill, AreLeft, MayChange}
use Rattle.kb_recovered.specs.Windows.{Window, window, AreLeftOfOne, HoldsThrough}
use Rattle.kb_loss.proofs.Since.{disk_appended, disk_created, disk_cut, disk_kept, holds_on, left_whole, still_itself, still_made, still_same, still_synced, still_torn}

-- what holds since a first moment, or from a later one on
either_on : (X Y : Files → Type 0) (step : Files → Files → Type 0) (first last : ℕ) (old new : Loss) → IsLawfulLoss old → first ≤ last → last ≤ old.moment → Goes step old new → ((a b : Files) → Y a → step a b → Y b)
    → HoldsSince (λ found. X found ⊎ Y found) first old → HoldsSince Y last old → HoldsSince (λ found. X found ⊎ Y found) first new
either_on X Y step first last old new timely order passed goes keeps ever since found left = ⊎_elim
    (λ was. ever found was)
    (λ at. inr (keeps at.0 found (since at.0 (timely.counts_now last at.0 passed at.1)) at.2))
    (goes.between first found (omega (arith, order, passed)) left)

module _ (past : List Window) (files : Files) (t : Touched) (first last : ℕ) (d e : Disk) (old new : Loss) (h : HoldsThrough past files t first last d old) where
  through : (step : Files → Files → Type 0) → IsLawfulLoss old → Goes step old new → ((a b : Files) → AreStill files t a → step a b → AreStill files t b) → (e.honest → AreStill files t e.files) → HoldsThrough past files t first last e new
  through step timely goes keeps now = record {
    ordered = h.ordered;
    passed = let before = h.passed in let on = goes.later in omega (arith, before, on);
    ever = either_on (AreLeftOfOne past) (AreStill files t) step first last old new timely h.ordered h.passed goes keeps h.ever h.since;
    since = holds_on (AreStill files t) step last old new timely h.passed goes keeps h.since;
    now = now;
  }

  pub through_same : IsLawfulLoss old → Goes Same old new → Keeps d e → HoldsThrough past files t first last e new
  through_same timely goes kept = through Same timely goes (λ a b s same. still_same files t a b s same) (λ honest. still_same files t d.files e.files (h.now (kept.honest honest)) (kept.files honest))

  through_made : (m : ℕ) → t.made m ≡ true → IsLawfulLoss old → Goes (Makes m) old new → (e.honest → AreStill files t e.files) → HoldsThrough past files t first last e new
  through_made m is timely goes now = through (Makes m) timely goes (λ a b s makes. still_made files t a b s m is makes) now

  through_torn : (m keep : ℕ) → MayChange files t m keep → IsLawfulLoss old → Goes (Tears m keep) old new → (e.honest → AreStill files t e.files) → HoldsThrough past files t first last e new
  through_torn m keep may timely goes now = through (Tears m keep) timely goes (λ a b s tears. still_torn files t a b s m keep may tears) now

  -- whether it is answered or refused
  kept_now : Keeps d e → e.honest → AreStill files t e.files
  kept_now kept honest = disk_kept files t d e kept honest (h.now (kept.honest honest))

  made_now : (m : ℕ) → t.made m ≡ true → Creates d m e → e.honest → AreStill files t e.files
  made_now m is made honest = disk_created files t m d e is made honest (h.now (made.honest honest))

  pub through_create : {T : Type 0} (m : ℕ) (r : Result T StoreFault) → t.made m ≡ true → IsLawfulLoss old → Goes (Makes m) old new → OnOk r (Creates d m e) → OnErr r (MayCreate d m e) → HoldsThrough past files t first last e new
  through_create m (Ok x) is timely goes made may = through_made m is timely goes (made_now m is made)
  through_create m (Err f) is timely goes made may = through_made m is timely goes (⊎_elim (λ (kept : Keeps d e). kept_now kept) (λ (made_it : Creates d m e). made_now m is made_it) may)

  grown_now : (m : ℕ) (bytes : List ℕ) → MayChange files t m (len_of d m) → Appends d m bytes e → e.honest → AreStill files t e.files
  grown_now m bytes may grown honest = disk_appended files t m bytes d e may grown honest (h.now (grown.honest honest))

  pub through_append : {T : Type 0} (m keep : ℕ) (bytes : List ℕ) (r : Result T StoreFault) → keep ≡ len_of d m → MayChange files t m keep → IsLawfulLoss old → Goes (Tears m keep) old new → OnOk r (Appends d m bytes e) → OnErr r (AppendsSome d m bytes e) → HoldsThrough past files t first last e new
  through_append m keep bytes (Ok x) is may timely goes grown some = through_torn m keep may timely goes (grown_now m bytes (subst (MayChange files t m) is may) grown)
  through_append m keep bytes (Err f) is may timely goes grown some = through_torn m keep may timely goes (grown_now m (take some.0 bytes) (subst (MayChange files t m) is may) some.2)

  cut_now : (m len : ℕ) → MayChange files t m len → Cuts d m len e → e.honest → AreStill files t e.files
  cut_now m len may cut honest = disk_cut files t m len d e may cut honest (h.now (cut.honest honest))

  pub through_cut : {T : Type 0} (m len : ℕ) (r : Result T StoreFault) → MayChange files t m len → IsLawfulLoss old → Goes (Tears m len) old new → OnOk r (Cuts d m len e) → OnErr r (Keeps d e) → HoldsThrough past files t first last e new
  through_cut m len (Ok x) may timely goes cut kept = through_torn m len may timely goes (cut_now m len may cut)
  through_cut m len (Err f) may timely goes cut kept = through_torn m len may timely goes (kept_now kept)

  -- the next sync, whether it is answered or refused
  left_so_far : (waited : List ℕ) (found : Files) → AreLeftOfOne past found ⊎ AreStill files t found → AreLeftOfOne (window files t waited ∷ past) found
  left_so_far waited found it = ⊎_elim
      (λ (earlier : AreLeftOfOne past found). inr earlier)
      (λ (still : AreStill files t found). inl (left_whole files t waited found still))
      it

  trimmed_left : (most : ℕ) (waited : List ℕ) (found : Files) → AreStill files t d.files → IsTrimmed most waited d.files found → AreLeft files t waited found
  trimmed_left most waited found still trimmed = record { whole = d.files; still = still; count = trimmed.0; is = trimmed.2 }

  pub through_sync : (most : ℕ) (waited waits : List ℕ) → Trims most waited waits d old e new → e.honest → HoldsSince (AreLeftOfOne (window files t waited ∷ past)) first new
  through_sync most waited waits trims honest found left = ⊎_elim
      (λ (was : old.left_since first found). left_so_far waited found (h.ever found was))
      (λ (trimmed : IsTrimmed most waited d.files found). inl (trimmed_left most waited found (h.now (trims.disk.honest honest)) trimmed))
      (trims.between honest first found (let order = h.ordered in let before = h.passed in omega (arith, order, before)) left)

  -- and what is there then
  pub left_by_sync : (most : ℕ) (waited waits : List ℕ) → Trims most waited waits d old e new → e.honest → AreLeft files t waited e.files
  left_by_sync most waited waits trims honest = record { whole = d.files; still = h.now (trims.disk.honest honest); count = trims.count; is = trims.disk.files honest }

-- a commit begins
pub through_first : (files : Files) (t : Touched) (d : Disk) (l : Loss) → d.files ≡ files → IsLawfulLoss l → Only files l → HoldsThrough [] files t l.moment l.moment d l
through_first files t d l is timely only = record {
  ordered = omega arith;
  passed = omega arith;
  ever = λ found left. inr (still_synced files t l timely only found left);
  since = still_synced files t l timely only;
  now = λ honest. subst (AreStill files t) (sym is) (still_itself files t);
}

-- or comes behind others
pub through_next : (past : List Window) (files : Files) (t : Touched) (first : ℕ) (d : Disk) (l : Loss) → d.files ≡ files → first ≤ l.moment → IsLawfulLoss l → HoldsSince (AreLeftOfOne past) first l → Only files l → HoldsThrough past files t first l.moment d l
through_next past files t first d l is order timely ever only = record {
  ordered = order;
  passed = omega arith;
  ever = λ found left. inl (ever found left);
  since = still_synced files t l timely only;
  now = λ honest. subst (AreStill files t) (sym is) (still_itself files t);
}

pub holds_left : (past : List Window) (files : Files) (t : Touched) (first last : ℕ) (d : Disk) (l : Loss) → HoldsThrough past files t first last d l → (waiting : List ℕ) (found : Files) → l.left_since first found → AreLeftOfOne (window files t waiting ∷ past) found
holds_left past files t first last d l h waiting found left = left_so_far past files t first last d d l l h waiting found (h.ever found left)
