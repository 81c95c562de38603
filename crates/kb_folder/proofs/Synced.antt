-- What a loss of power may leave after one more answer, and what of it is noted.
use Rattle.std.proofs.Common.{◌≡◌, ◌≢◌, ◌∙◌, ◌≤◌, ℕ, List, [], length, take, Bool, true, false, refl, sym, subst, ap, arith, inl, inr, ⊎_elim, Option, Some, None, IsSome}
use Rattle.std.specs.Prelude.{is_some, Result, Ok, Err, IfOk, OnOk, OnErr}
use Rattle.std.specs.BTreeMap.{is_at}
use Rattle.std.specs.List.{list_any}
use Rattle.std.specs.Ordering.{nat_cmp}
use Rattle.std.specs.FinMap.{get, remove, same_map, nat_cmp-IsAntisymmetric}
use Rattle.std.specs.Cmp.{nat_cmp_total}
use Rattle.std.proofs.lemmas.Bool.{cases_eq}
use Rattle.kb_store.specs.Disk.{Files}
use Rattle.kb_store.specs.Loss.{Goes, Same, Tears, Makes, Drops, AreOthers, Only}
use Rattle.kb_store.specs.LossLaws.{stays_goes}
use Rattle.kb_store.proofs.Maps.{get_inserted, get_other, get_removed, get_kept}
use Rattle.kb_folder.specs.Changed.{AllLasts, NotesOn, NotesBut, HasNoted, HasNotedNames, is_noted, are_names_noted}
use Rattle.kb_folder.specs.Folder.{Contents, Has, IsAsBefore}
use Rattle.kb_folder.specs.History.{Answer, after, listing_answer, measured, read, wrote, resized, made, removed, synced, synced_names, overlaid, sized, of_file}
use Rattle.kb_folder.specs.Lasting.{IsKeptOf, HasNameOf, Loses, folder_loss, Lasts, NamesLast, AllLast, IsMinded, Looks, Syncs}
use Rattle.kb_folder.specs.Told.{Calls, contents_of, with}
use Rattle.kb_folder.specs.declared.changed.Changed.{Changed}
use Rattle.kb_folder.proofs.Goes.{goes_same}

-- ---- one more answer

module _ (h : Calls) (a : Answer) where
  abbrev pub before_it : Files
  before_it = (contents_of h).files

  abbrev pub behind_it : Files
  behind_it = after before_it a.0 a.1

  -- what a loss may leave changes by the call's step
  pub goes_answered : (step : Files → Files → Type 0) → ((before found : Files) → Loses before_it a.0 before found → step before found) → Goes step (folder_loss h) (folder_loss (with h a))
  goes_answered step by = record {
    later = omega arith;
    now = λ found l. (l.0, l.1, by l.0 found l.2);
    between = λ t found le l.
        ⊎_elim
        (λ (now : (folder_loss (with h a)).leaves found). inr (now.0, now.1, by now.0 found now.2))
        (λ (earlier : (t ≤ length h.answers) × (folder_loss h).left_since t found). inl earlier.1)
        l;
    keeps = λ t found le l. inr (le, l);
  }

  -- a look
  module _ (same : (before found : Files) → Loses before_it a.0 before found → found ≡ before) (stay : behind_it ≡ before_it) where
    pub lasts_looked : (file : ℕ) → Lasts file h → Lasts file (with h a)
    lasts_looked file last found l =
        subst (λ fs. IsKeptOf fs found file) (sym stay) (subst (λ x. IsKeptOf before_it x file) (sym (same l.0 found l.2)) (last l.0 l.1))

    pub names_looked : NamesLast h → NamesLast (with h a)
    names_looked last found l file =
        subst (λ fs. HasNameOf fs found file) (sym stay) (subst (λ x. HasNameOf before_it x file) (sym (same l.0 found l.2)) (last l.0 l.1 file))

    pub looks : Looks h (with h a)
    looks = record { loss = goes_answered Same same; files = lasts_looked; names = names_looked }

  -- a change of one file
  module _ (file : ℕ) (apart : (before found : Files) → Loses before_it a.0 before found → AreOthers file before found) (kept : (q : ℕ) → q ≢ file → get behind_it q ≡ get before_it q) where
    pub lasts_other : (q : ℕ) → q ≢ file → Lasts q h → Lasts q (with h a)
    lasts_other q ne last found l some there =
        let o : get found q ≡ get l.0 q = apart l.0 found l.2 q ne in
        let f : get behind_it q ≡ get before_it q = kept q ne in
        o ∙ last l.0 l.1 (subst (λ x. IsSome x) o some) (subst (λ x. IsSome x) f there) ∙ sym f

    -- .. that is there before and after
    pub names_other : IsSome (get behind_it file) → ((before found : Files) → Loses before_it a.0 before found → IsSome (get before file) → IsSome (get found file)) → IsSome (get before_it file)
        → NamesLast h → NamesLast (with h a)
    names_other now stays was last found l q =
        ⊎_elim
        (λ (e : q ≡ file). subst (λ x. HasNameOf behind_it found x) (sym e) (record {
          only = λ some. now;
          all = λ there. stays l.0 found l.2 ((last l.0 l.1 file).all was);
        }))
        (λ (ne : q ≢ file).
        let o : get found q ≡ get l.0 q = apart l.0 found l.2 q ne in
        let f : get behind_it q ≡ get before_it q = kept q ne in
        record {
          only = λ some. subst (λ x. IsSome x) (sym f) ((last l.0 l.1 q).only (subst (λ x. IsSome x) o some));
          all = λ there. subst (λ x. IsSome x) (sym o) ((last l.0 l.1 q).all (subst (λ x. IsSome x) f there));
        })
        (cases_eq q file)

-- ---- each call

module _ (h : Calls) where
  abbrev pub files_of : Files
  files_of = (contents_of h).files

  pub looks_listed : (numbers : List ℕ) → Looks h (with h (listing_answer numbers))
  looks_listed numbers = looks h (listing_answer numbers) (λ before found e. e) refl

  pub looks_measured : (file len : ℕ) → Looks h (with h (measured file len))
  looks_measured file len = looks h (measured file len) (λ before found e. e) refl

  pub looks_read : (file at : ℕ) (bytes : List ℕ) → Looks h (with h (read file at bytes))
  looks_read file at bytes = looks h (read file at bytes) (λ before found e. e) refl

  module _ (file at : ℕ) (bytes : List ℕ) where
    pub lasts_wrote : (q : ℕ) → q ≢ file → Lasts q h → Lasts q (with h (wrote file at bytes))
    lasts_wrote = lasts_other h (wrote file at bytes) file (λ before found (t : Tears file at before found). t.others) (get_other files_of file (overlaid (of_file files_of file) at bytes))

    pub names_wrote : IsSome (get files_of file) → NamesLast h → NamesLast (with h (wrote file at bytes))
    names_wrote =
        names_other h (wrote file at bytes) file (λ before found (t : Tears file at before found). t.others) (get_other files_of file (overlaid (of_file files_of file) at bytes))
        (subst (λ x. IsSome x) (sym (get_inserted files_of file (overlaid (of_file files_of file) at bytes))) refl)
        (λ before found (t : Tears file at before found). t.there)

  module _ (file len : ℕ) where
    pub lasts_resized : (q : ℕ) → q ≢ file → Lasts q h → Lasts q (with h (resized file len))
    lasts_resized = lasts_other h (resized file len) file (λ before found (t : Tears file len before found). t.others) (get_other files_of file (sized (of_file files_of file) len))

    pub names_resized : IsSome (get files_of file) → NamesLast h → NamesLast (with h (resized file len))
    names_resized =
        names_other h (resized file len) file (λ before found (t : Tears file len before found). t.others) (get_other files_of file (sized (of_file files_of file) len))
        (subst (λ x. IsSome x) (sym (get_inserted files_of file (sized (of_file files_of file) len))) refl)
        (λ before found (t : Tears file len before found). t.there)

  module _ (file : ℕ) where
    pub lasts_made : (q : ℕ) → q ≢ file → Lasts q h → Lasts q (with h (made file))
    lasts_made = lasts_other h (made file) file (λ before found (t : Makes file before found). t) (get_other files_of file [])

    -- what is removed has nothing to last
    pub lasts_removed : (q : ℕ) → (q ≢ file → Lasts q h) → Lasts q (with h (removed file))
    lasts_removed q last =
        ⊎_elim
        (λ (e : q ≡ file). λ found l some there. let n : IsSome {T = List ℕ} None = subst (λ x. IsSome x) (ap (get (remove files_of file)) e ∙ get_removed files_of file) there in absurd cc)
        (λ (ne : q ≢ file). lasts_other h (removed file) file (λ before found (d : Drops file before found). d.others) (get_kept files_of file) q ne (last ne))
        (cases_eq q file)

    pub lasts_synced : (q : ℕ) → (q ≢ file → Lasts q h) → Lasts q (with h (synced file))
    lasts_synced q last =
        ⊎_elim
        (λ (e : q ≡ file). λ found l. subst (λ x. IsKeptOf files_of found x) (sym e) l.2.1)
        (λ (ne : q ≢ file). λ found l. subst (λ x. IsKeptOf files_of x q) (sym l.2.0) (last ne l.0 l.1))
        (cases_eq q file)

    pub names_synced : NamesLast h → NamesLast (with h (synced file))
    names_synced last found l q = subst (λ x. HasNameOf files_of x q) (sym l.2.0) (last l.0 l.1 q)

  pub lasts_named : (q : ℕ) → Lasts q h → Lasts q (with h synced_names)
  lasts_named q last found l = subst (λ x. IsKeptOf files_of x q) (sym l.2.0) (last l.0 l.1)

  pub names_named : NamesLast (with h synced_names)
  names_named found l = l.2.1

-- ---- looks, one after another

pub looks_none : (h : Calls) → Looks h h
looks_none h = record { loss = stays_goes Same (λ c. refl) (folder_loss h); files = λ file last. last; names = λ last. last }

pub looks_on : (a b c : Calls) → Looks a b → Looks b c → Looks a c
looks_on a b c p q = record {
  loss = goes_same (folder_loss a) (folder_loss b) (folder_loss c) p.loss q.loss;
  files = λ file last. q.files file (p.files file last);
  names = λ last. q.names (p.names last);
}

-- ---- what is noted

was_false : (x y : Bool) → (x ≡ true → y ≡ true) → y ≡ false → x ≡ false
was_false false y f e = refl
was_false true y f e = let t : y ≡ true = f refl in absurd cc

module _ (gone : ℕ → Type 0) (c c' : Option Changed) (notes : NotesBut gone c c') where
  pub not_noted : (q : ℕ) → (gone q → ⊥) → is_noted c' q ≡ false → is_noted c q ≡ false
  not_noted q stays e = was_false (is_noted c q) (is_noted c' q) (notes.files q stays) e

  pub names_not_noted : are_names_noted c' ≡ false → are_names_noted c ≡ false
  names_not_noted e = was_false (are_names_noted c) (are_names_noted c') notes.names e

  pub still_minds : is_some c' ≡ true → is_some c ≡ true
  still_minds e = sym notes.minds ∙ e

-- more may be noted
pub minded_on : (c c' : Option Changed) (h : Calls) → NotesOn c c' → IsMinded c h → IsMinded c' h
minded_on c c' h notes minded some honest =
    let n = minded (still_minds (λ _. ⊥) c c' notes some) honest in
    record {
      files = λ q e. n.files q (not_noted (λ _. ⊥) c c' notes q (λ x. x) e);
      names = λ e. n.names (names_not_noted (λ _. ⊥) c c' notes e);
    }

noted_apart : (c : Option Changed) (file q : ℕ) → is_noted c file ≡ true → is_noted c q ≡ false → q ≢ file
noted_apart c file q noted e same = let t : is_noted c q ≡ true = ap (is_noted c) same ∙ noted in absurd cc

-- after a look
pub minded_looked : (c : Option Changed) (h h' : Calls) → Looks h h' → ((contents_of h').honest → (contents_of h).honest) → IsMinded c h → IsMinded c h'
minded_looked c h h' looks was minded some honest =
    let n = minded some (was honest) in
    record { files = λ q e. looks.files q (n.files q e); names = λ e. looks.names (n.names e) }

module _ (c : Option Changed) (h : Calls) (file : ℕ) (minded : IsMinded c h) where
  pub minded_wrote : (at : ℕ) (bytes : List ℕ) → Has (contents_of h) file → HasNoted c file → IsMinded c (with h (wrote file at bytes))
  minded_wrote at bytes has noted some honest =
      let n = minded some honest.0 in
      record {
        files = λ q e. lasts_wrote h file at bytes q (noted_apart c file q (noted some) e) (n.files q e);
        names = λ e. names_wrote h file at bytes (has honest.0) (n.names e);
      }

  pub minded_resized : (len : ℕ) → Has (contents_of h) file → HasNoted c file → IsMinded c (with h (resized file len))
  minded_resized len has noted some honest =
      let n = minded some honest.0 in
      record {
        files = λ q e. lasts_resized h file len q (noted_apart c file q (noted some) e) (n.files q e);
        names = λ e. names_resized h file len (has honest.0) (n.names e);
      }

  pub minded_made : HasNoted c file → HasNotedNames c → IsMinded c (with h (made file))
  minded_made noted names some honest =
      let n = minded some honest.0 in
      record {
        files = λ q e. lasts_made h file q (noted_apart c file q (noted some) e) (n.files q e);
        names = λ e. let t : are_names_noted c ≡ true = names some in absurd cc;
      }

  module _ (c' : Option Changed) (notes : NotesBut (λ gone. gone ≡ file) c c') where
    pub minded_removed : HasNotedNames c → IsMinded c' (with h (removed file))
    minded_removed names some honest =
        let was = still_minds (λ gone. gone ≡ file) c c' notes some in
        let n = minded was honest.0 in
        record {
          files = λ q e. lasts_removed h file q (λ ne. n.files q (not_noted (λ gone. gone ≡ file) c c' notes q ne e));
          names = λ e. let t : are_names_noted c' ≡ true = notes.names (names was) in absurd cc;
        }

    pub minded_synced : IsMinded c' (with h (synced file))
    minded_synced some honest =
        let was = still_minds (λ gone. gone ≡ file) c c' notes some in
        let n = minded was honest.0 in
        record {
          files = λ q e. lasts_synced h file q (λ ne. n.files q (not_noted (λ gone. gone ≡ file) c c' notes q ne e));
          names = λ e. names_synced h file (n.names (names_not_noted (λ gone. gone ≡ file) c c' notes e));
        }

-- the names were synced, and are not noted any longer
pub minded_named : (c c' : Option Changed) (h : Calls) → is_some c' ≡ is_some c → ((q : ℕ) → is_noted c q ≡ true → is_noted c' q ≡ true) → IsMinded c h → IsMinded c' (with h synced_names)
minded_named c c' h minds same minded some honest =
    let n = minded (sym minds ∙ some) honest.0 in
    record { files = λ q e. lasts_named h q (n.files q (was_false (is_noted c q) (is_noted c' q) (same q) e)); names = λ e. names_named h }

-- ---- where all lasts

same_option : {X : Type 0} (o p : Option X) → (IsSome o → IsSome p → o ≡ p) → (IsSome o → IsSome p) → (IsSome p → IsSome o) → o ≡ p
same_option None None same there back = refl
same_option {X} None (Some y) same there back = let n : IsSome {T = X} None = back refl in absurd cc
same_option (Some x) p same there back = same refl (there refl)

pub only_last : (h : Calls) → AllLast h → Only (contents_of h).files (folder_loss h)
only_last h all found l =
    same_map nat_cmp_total nat_cmp-IsAntisymmetric found (contents_of h).files (λ q.
    same_option (get found q) (get (contents_of h).files q) (all.files q found l) (all.names found l q).only (all.names found l q).all)

-- ---- what is noted, call by call

pub notes_same : (gone : ℕ → Type 0) (c : Option Changed) → NotesBut gone c c
notes_same gone c = record { minds = refl; files = λ file stays e. e; names = λ e. e }

pub notes_after : (gone : ℕ → Type 0) (a b c : Option Changed) → NotesBut gone a b → NotesBut gone b c → NotesBut gone a c
notes_after gone a b c p q = record {
  minds = q.minds ∙ p.minds;
  files = λ file stays e. q.files file stays (p.files file stays e);
  names = λ e. q.names (p.names e);
}

-- what was noted is, after more notes
pub has_noted_on : (b c : Option Changed) (file : ℕ) → NotesOn b c → HasNoted b file → HasNoted c file
has_noted_on b c file notes has some = notes.files file (λ x. x) (has (sym notes.minds ∙ some))

pub has_noted_names_on : (b c : Option Changed) → NotesOn b c → HasNotedNames b → HasNotedNames c
has_noted_names_on b c notes has some = notes.names (has (sym notes.minds ∙ some))

-- a file is forgotten that was not noted before
pub notes_back : (a b c : Option Changed) (file : ℕ) → is_noted a file ≡ false → NotesOn a b → NotesBut (λ gone. gone ≡ file) b c → NotesOn a c
notes_back a b c file new p q = record {
  minds = q.minds ∙ p.minds;
  files = λ other stays e. q.files other (λ same. noted_apart a other file e new (sym same)) (p.files other stays e);
  names = λ e. q.names (p.names e);
}

-- ---- syncs, one after another

as_before : (c : Contents) → IsAsBefore c c
as_before c = record { files = refl; honest = λ h. h; still = λ h. h }

pub as_before_on : (a b c : Contents) → IsAsBefore a b → IsAsBefore b c → IsAsBefore a c
as_before_on a b c p q = record { files = q.files ∙ p.files; honest = λ h. p.honest (q.honest h); still = λ h. q.still (p.still h) }

-- .. after a sync was noted
pub as_before_synced : (h : Calls) (file : ℕ) → IsAsBefore (contents_of h) (contents_of (with h (synced file)))
as_before_synced h file = record { files = refl; honest = λ t. t.0; still = λ t. (t, tt) }

pub as_before_named : (h : Calls) → IsAsBefore (contents_of h) (contents_of (with h synced_names))
as_before_named h = record { files = refl; honest = λ t. t.0; still = λ t. (t, tt) }

pub syncs_noted : (c c' : Option Changed) (h : Calls) → NotesOn c c' → Syncs c h c' h
syncs_noted c c' h notes = record {
  contents = as_before (contents_of h);
  loss = stays_goes Same (λ x. refl) (folder_loss h);
  minds = notes.minds;
  noted = minded_on c c' h notes;
}

pub syncs_on : (a b c : Option Changed) (h i j : Calls) → Syncs a h b i → Syncs b i c j → Syncs a h c j
syncs_on a b c h i j p q = record {
  contents = as_before_on (contents_of h) (contents_of i) (contents_of j) p.contents q.contents;
  loss = goes_same (folder_loss h) (folder_loss i) (folder_loss j) p.loss q.loss;
  minds = q.minds ∙ p.minds;
  noted = λ m. q.noted (p.noted m);
}

pub syncs_synced : (c c' : Option Changed) (h : Calls) (file : ℕ) → NotesBut (λ gone. gone ≡ file) c c' → Syncs c h c' (with h (synced file))
syncs_synced c c' h file notes = record {
  contents = as_before_synced h file;
  loss = goes_answered h (synced file) Same (λ before found (l : Same before found × IsKeptOf (contents_of h).files found file). l.0);
  minds = notes.minds;
  noted = λ m. minded_synced c h file m c' notes;
}

pub syncs_named : (c c' : Option Changed) (h : Calls) → is_some c' ≡ is_some c → ((q : ℕ) → is_noted c q ≡ true → is_noted c' q ≡ true) → Syncs c h c' (with h synced_names)
syncs_named c c' h minds same = record {
  contents = as_before_named h;
  loss = goes_answered h synced_names Same (λ before found (l : Same before found × ((file : ℕ) → HasNameOf (contents_of h).files found file)). l.0);
  minds = minds;
  noted = minded_named c c' h minds same;
}

-- ---- a call that was answered or refused

-- what only keeps all that was noted may forget a file, too
pub notes_weaker : (gone : ℕ → Type 0) (a b : Option Changed) → NotesOn a b → NotesBut gone a b
notes_weaker gone a b p = record { minds = p.minds; files = λ file stays e. p.files file (λ x. x) e; names = p.names }

-- a folder that keeps nothing in mind says nothing
pub no_minds : (c : Option Changed) (h : Calls) → c ≡ None → IsMinded c h
no_minds None h e some = let n : false ≡ true = some in absurd cc
no_minds (Some c) h e some = let n : Some c ≡ None = e in absurd cc

pub minded_as : (c : Option Changed) (h h' : Calls) → h' ≡ h → IsMinded c h → IsMinded c h'
minded_as c h h' e m = subst (IsMinded c) (sym e) m

pub minded_or : {T E : Type 0} (r : Result T E) (c : Option Changed) (h h' : Calls) (a : T → Answer) → IfOk r (λ x. h' ≡ with h (a x)) → OnErr r (h' ≡ h) → ((x : T) → IsMinded c (with h (a x)))
    → IsMinded c h → IsMinded c h'
minded_or (Ok x) c h h' a ok err good m = minded_as c (with h (a x)) h' ok (good x)
minded_or (Err e) c h h' a ok err good m = minded_as c h h' err m

pub goes_or : {T E : Type 0} (r : Result T E) (step : Files → Files → Type 0) (same : (x : Files) → step x x) (h h' : Calls) (a : T → Answer) → IfOk r (λ x. h' ≡ with h (a x)) → OnErr r (h' ≡ h)
    → ((x : T) (before found : Files) → Loses (contents_of h).files (a x).0 before found → step before found) → Goes step (folder_loss h) (folder_loss h')
goes_or (Ok x) step same h h' a ok err by = subst (λ k. Goes step (folder_loss h) (folder_loss k)) (sym ok) (goes_answered h (a x) step (by x))
goes_or (Err e) step same h h' a ok err by = subst (λ k. Goes step (folder_loss h) (folder_loss k)) (sym err) (stays_goes step same (folder_loss h))

-- ---- all was synced

pub only_hosted : (c : Option Changed) (h : Calls) → IsMinded c h → AllLasts c → (contents_of h).honest → Only (contents_of h).files (folder_loss h)
only_hosted None h m l honest = absurd l
only_hosted (Some c) h m l honest =
    let n = m refl honest in
    only_last h (record { files = λ q. n.files q (ap (list_any (is_at (nat_cmp q))) l.files); names = n.names l.names })

-- .. and each file that was found, and the names
pub minded_last : (c : Option Changed) (h : Calls) → ((contents_of h).honest → AllLast h) → IsMinded c h
minded_last c h all some honest = record { files = λ q e. (all honest).files q; names = λ e. (all honest).names }

-- ---- the calls of a folder

module _ (c : Option Changed) (h h' : Calls) (file k : ℕ) (same : k ≡ file) (has : Has (contents_of h) file) (noted : HasNoted c file) (minded : IsMinded c h) where
  has_k : Has (contents_of h) k
  has_k = subst (Has (contents_of h)) (sym same) has

  noted_k : HasNoted c k
  noted_k = subst (HasNoted c) (sym same) noted

  pub minded_written : {E : Type 0} (r : Result ℕ E) (at : ℕ) (bytes : List ℕ) → IfOk r (λ n. h' ≡ with h (wrote k at (take n bytes))) → OnErr r (h' ≡ h) → IsMinded c h'
  minded_written r at bytes ok err =
      minded_or r c h h' (λ n. wrote k at (take n bytes)) ok err (λ n. minded_wrote c h k minded at (take n bytes) has_k noted_k) minded

  pub minded_cut : {E : Type 0} (r : Result (Unit {0}) E) (len : ℕ) → OnOk r (h' ≡ with h (resized k len)) → OnErr r (h' ≡ h) → IsMinded c h'
  minded_cut r len ok err = minded_or r c h h' (λ _. resized k len) ok err (λ _. minded_resized c h k minded len has_k noted_k) minded

pub looks_or : {E : Type 0} (r : Result ℕ E) (h h' : Calls) (file at : ℕ) (bytes : List ℕ) → IfOk r (λ n. h' ≡ with h (read file at (take n bytes))) → OnErr r (h' ≡ h) → Looks h h'
looks_or (Ok n) h h' file at bytes ok err = subst (Looks h) (sym ok) (looks_read h file at (take n bytes))
looks_or (Err e) h h' file at bytes ok err = subst (Looks h) (sym err) (looks_none h)

pub on_ok : {T E A B : Type 0} (r : Result T E) → (A → B) → OnOk r A → OnOk r B
on_ok {T} {E} {A} {B} (Ok x) f a = f a
on_ok {T} {E} {A} {B} (Err e) f a = tt
