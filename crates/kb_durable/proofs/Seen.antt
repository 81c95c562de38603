-- The disk that callers see, and the one inside.
use Rattle.std.proofs.lemmas.Bool.{cases_eq}
use Rattle.std.proofs.lemmas.List.{append-nil}
use Rattle.std.specs.Ordering.{nat_cmp}
use Rattle.std.specs.Cmp.{nat_cmp_total}
use Rattle.kb_store.proofs.Maps.{get_inserted, get_other}
use Rattle.std.proofs.Common.{◌≡◌, ◌≢◌, ◌⊎◌, ◌∙◌, ◌+◌, ◌++◌, ◌&&◌, ◌||◌, not, ℕ, Bool, true, false, List, [], ◌∷◌, length, take, Option, Some, None, IsSome, refl, sym, ap, subst, arith, ⊎_elim, inl, inr}
use Rattle.std.specs.Prelude.{unwrap_or, option_map, Result, Ok, Err, IfOk, OnOk, OnErr}
use Rattle.std.specs.FinMap.{FinMap, get, insert, same_map, nat_cmp-IsAntisymmetric}
use Rattle.kb_store.specs.Disk.{Disk, Files, Table, Becomes, IsLawfulDisk, IsThere, Appends, AppendsSome, Cuts, Removes, Keeps, Creates, MayCreate, len_of, bytes_of}
use Rattle.kb_store.specs.Loss.{Loss}
use Rattle.kb_durable.specs.Durable.{disk_left, is_nil, IsKept}
use Rattle.kb_durable.specs.declared.torn.Torn.{Torn}
use Rattle.kb_durable.specs.Waiting.{has, without_keys, AreThere}
use Rattle.kb_durable.proofs.Left.{left_is, left_not, left_there, not_gone, put_left, there_put, there_same, without_push}

module _ (ks : List ℕ) (r : ℕ) (d : Disk) (q : ℕ) where
  pub there_inside : IsThere (disk_left ks r d) q → IsThere d q
  there_inside some = left_there ks d.table q some

  pub len_inside : IsThere (disk_left ks r d) q → len_of (disk_left ks r d) q ≡ len_of d q
  len_inside some = ap (λ o. unwrap_or o 0) (left_is ks d.table q some)

  pub bytes_inside : IsThere (disk_left ks r d) q → bytes_of (disk_left ks r d) q ≡ bytes_of d q
  bytes_inside some = ap (λ o. unwrap_or o []) (not_gone ks d.files q (left_not ks d.table q some))

-- ---- what is known of an answer

pub on_ok : {T E P Q : Type 0} (r : Result T E) → OnOk r P → (P → Q) → OnOk r Q
on_ok (Ok x) p f = f p
on_ok (Err e) p f = p

pub on_err : {T E P Q : Type 0} (r : Result T E) → OnErr r P → (P → Q) → OnErr r Q
on_err (Ok x) p f = p
on_err (Err e) p f = f p

pub if_ok : {T E : Type 0} {P Q : T → Type 0} (r : Result T E) → IfOk r P → ((x : T) → P x → Q x) → IfOk r Q
if_ok (Ok x) p f = f x p
if_ok (Err e) p f = p

-- ---- a call of the store inside, as callers see it

pub left_kept : (ks : List ℕ) (r s : ℕ) (d e : Disk) → Keeps d e → Keeps (disk_left ks r d) (disk_left ks s e)
left_kept ks r s d e keeps = record { table = ap (without_keys ks) keeps.table; honest = λ h. keeps.honest h; files = λ h. ap (without_keys ks) (keeps.files h) }

-- a file is put that does not wait
pub left_put : (ks : List ℕ) (r s : ℕ) (d e : Disk) (k n : ℕ) (bytes : List ℕ) → has ks k ≡ false
    → Becomes d (insert d.table k n) (insert d.files k bytes) e
    → Becomes (disk_left ks r d) (insert (without_keys ks d.table) k n) (insert (without_keys ks d.files) k bytes) (disk_left ks s e)
left_put ks r s d e k n bytes free puts = record {
  table = ap (without_keys ks) puts.table ∙ put_left ks d.table k n free;
  honest = λ h. puts.honest h;
  files = λ h. ap (without_keys ks) (puts.files h) ∙ put_left ks d.files k bytes free;
}

-- ---- one step after another

pub kept_twice : (a b c : Disk) → Keeps a b → Keeps b c → Keeps a c
kept_twice a b c k s = record { table = s.table ∙ k.table; honest = λ h. k.honest (s.honest h); files = λ h. s.files h ∙ k.files (s.honest h) }

pub kept_then : (a b c : Disk) (on_table : Table → Table) (on_files : Files → Files) → Keeps a b → Becomes b (on_table b.table) (on_files b.files) c → Becomes a (on_table a.table) (on_files a.files) c
kept_then a b c on_table on_files k s = record {
  table = s.table ∙ ap on_table k.table;
  honest = λ h. k.honest (s.honest h);
  files = λ h. s.files h ∙ ap on_files (k.files (s.honest h));
}

-- ---- a file is made

module _ (ks hs : List ℕ) (r s : ℕ) (d e f : Disk) (file : ℕ) (same : hs ≡ ks) (free : has ks file ≡ false) (keeps : Keeps d e) where
  pub made : Creates e file f → Creates (disk_left ks r d) file (disk_left hs s f)
  made creates =
      subst (λ l. Creates (disk_left ks r d) file (disk_left l s f)) (sym same)
      (left_put ks r s d f file 0 [] free (kept_then d e f (λ t. insert t file 0) (λ m. insert m file []) keeps creates))

  pub made_or_not : MayCreate e file f → MayCreate (disk_left ks r d) file (disk_left hs s f)
  made_or_not may = ⊎_elim
      (λ kept. inl (subst (λ l. Keeps (disk_left ks r d) (disk_left l s f)) (sym same) (left_kept ks r s d f (kept_twice d e f keeps kept))))
      (λ creates. inr (made creates))
      may

-- what is not seen and does not wait is not there
pub not_inside : (ks : List ℕ) (t : Table) (file : ℕ) → has ks file ≡ false → get (without_keys ks t) file ≡ None → get t file ≡ None
not_inside ks t file free none = sym (not_gone ks t file free) ∙ none

-- ---- what is noted stays right

pub kept_changed : (d : Disk) (l : Loss) (syncs changed : Bool) (ks : List ℕ) (ts : List Torn) → AreThere ks d.table → changed ≡ true
    → (syncs ≡ false → (ks ≡ []) × (changed ≡ true)) → IsKept d l syncs changed ks ts
kept_changed d l syncs changed ks ts there is never = record {
  there = there;
  synced = λ no h. absurd (not_both changed is no);
  whole = λ no. absurd (not_both changed is no);
  never = never;
}
  where
    not_both : (b : Bool) → b ≡ true → b ≡ false → ⊥
    not_both b yes' no' = let e : true ≡ false = sym yes' ∙ no' in cc

pub there_made : (ks : List ℕ) (d e : Disk) (file : ℕ) → MayCreate d file e → AreThere ks d.table → AreThere ks e.table
there_made ks d e file may are = ⊎_elim
    (λ kept. there_same ks d.table e.table kept.table are)
    (λ creates. there_put ks d.table e.table file 0 creates.table are)
    may

pub of_either : {T E P Q R : Type 0} (r : Result T E) → OnOk r P → OnErr r Q → (P → R) → (Q → R) → R
of_either (Ok x) p q f h = f p
of_either (Err e) p q f h = h q

-- ---- a file is cut, or has more

module _ (ks : List ℕ) (r s : ℕ) (d e : Disk) (file : ℕ) (there : IsThere (disk_left ks r d) file) where
  free : has ks file ≡ false
  free = left_not ks d.table file there

  pub cut_seen : (len : ℕ) → Cuts d file len e → Cuts (disk_left ks r d) file len (disk_left ks s e)
  cut_seen len cuts =
      let puts = left_put ks r s d e file len (take len (bytes_of d file)) free cuts in
      record {
        table = puts.table;
        honest = λ h. puts.honest h;
        files = λ h. puts.files h ∙ ap (λ bytes. insert (without_keys ks d.files) file (take len bytes)) (sym (bytes_inside ks r d file there));
      }

  pub more_seen : (bytes : List ℕ) → Appends d file bytes e → Appends (disk_left ks r d) file bytes (disk_left ks s e)
  more_seen bytes appends =
      let puts = left_put ks r s d e file (len_of d file + length bytes) (bytes_of d file ++ bytes) free appends in
      record {
        table = puts.table ∙ ap (λ n. insert (without_keys ks d.table) file (n + length bytes)) (sym (len_inside ks r d file there));
        honest = λ h. puts.honest h;
        files = λ h. puts.files h ∙ ap (λ had. insert (without_keys ks d.files) file (had ++ bytes)) (sym (bytes_inside ks r d file there));
      }

  pub some_seen : (bytes : List ℕ) → AppendsSome d file bytes e → AppendsSome (disk_left ks r d) file bytes (disk_left ks s e)
  some_seen bytes some = (some.0, some.1, more_seen (take some.0 bytes) some.2)

-- nothing, then an append, then nothing
pub appends_after : (a b c : Disk) (file : ℕ) (bytes : List ℕ) → Keeps a b → Appends b file bytes c → Appends a file bytes c
appends_after a b c file bytes keeps appends =
    kept_then a b c (λ t. insert t file (unwrap_or (get t file) 0 + length bytes)) (λ m. insert m file (unwrap_or (get m file) [] ++ bytes)) keeps appends

pub appends_kept : (a b c : Disk) (file : ℕ) (bytes : List ℕ) → Appends a file bytes b → Keeps b c → Appends a file bytes c
appends_kept a b c file bytes appends keeps = record {
  table = keeps.table ∙ appends.table;
  honest = λ h. appends.honest (keeps.honest h);
  files = λ h. keeps.files h ∙ appends.files (keeps.honest h);
}

pub some_between : (a b c e : Disk) (file : ℕ) (bytes : List ℕ) → Keeps a b → AppendsSome b file bytes c → Keeps c e → AppendsSome a file bytes e
some_between a b c e file bytes before some after =
    (some.0, some.1, appends_kept a c e file (take some.0 bytes) (appends_after a b c file (take some.0 bytes) before some.2) after)

-- ---- an append that was refused before it began

same_put : {X : Type 0} (m : FinMap nat_cmp X) (k : ℕ) (v : X) → get m k ≡ Some v → m ≡ insert m k v
same_put m k v e = same_map nat_cmp_total nat_cmp-IsAntisymmetric m (insert m k v) (λ q.
    ⊎_elim
    (λ (same : q ≡ k). subst (λ x. get m x ≡ get (insert m k v) x) (sym same) (e ∙ sym (get_inserted m k v)))
    (λ (ne : q ≢ k). sym (get_other m k v q ne))
    (cases_eq q k))

some_is : {X : Type 0} (o : Option X) (d : X) → IsSome o → o ≡ Some (unwrap_or o d)
some_is None d s = absurd cc
some_is (Some x) d s = refl

some_of : (o : Option (List ℕ)) → IsSome (option_map length o) → IsSome o
some_of None s = absurd cc
some_of (Some x) s = refl

pub appends_none : (d e : Disk) (file : ℕ) (bytes : List ℕ) → IsThere d file → IsLawfulDisk d → Keeps d e → AppendsSome d file bytes e
appends_none d e file bytes there l k =
    let len : len_of d file + length (take 0 bytes) ≡ len_of d file = omega arith in (
      0,
      omega arith,
      record {
        table = k.table ∙ same_put d.table file (len_of d file + length (take 0 bytes)) (some_is (get d.table file) 0 there ∙ ap Some (sym len));
        honest = λ h. k.honest h;
        files = λ h.
            let has = some_of (get d.files file) (subst (λ o. IsSome o) (l.lengths (k.honest h) file) there) in
            k.files h ∙ same_put d.files file (bytes_of d file ++ take 0 bytes) (some_is (get d.files file) [] has ∙ ap Some (sym (append-nil (bytes_of d file))));
      },
    )

-- ---- a file that was put is there still, and so are those that wait

pub there_cut : (ks : List ℕ) (d e : Disk) (file len : ℕ) → Cuts d file len e → AreThere ks d.table → AreThere ks e.table
there_cut ks d e file len cuts are = there_put ks d.table e.table file len cuts.table are

pub there_more : (ks : List ℕ) (d e : Disk) (file : ℕ) (bytes : List ℕ) → Appends d file bytes e → AreThere ks d.table → AreThere ks e.table
there_more ks d e file bytes appends are = there_put ks d.table e.table file (len_of d file + length bytes) appends.table are

-- ---- one more waits

pub removed_seen : (ks js : List ℕ) (r : ℕ) (d : Disk) (file : ℕ) → js ≡ ks ++ file ∷ [] → Removes (disk_left ks r d) file (disk_left js r d)
removed_seen ks js r d file more = record {
  table = ap (λ l. without_keys l d.table) more ∙ without_push ks file d.table;
  honest = λ h. h;
  files = λ h. ap (λ l. without_keys l d.files) more ∙ without_push ks file d.files;
}

-- ---- nothing is to be done

pub idle_or : (syncs changed : Bool) (ks : List ℕ) → (syncs && (changed || not (is_nil ks))) ≡ false → (syncs ≡ false) ⊎ ((changed ≡ false) × (ks ≡ []))
idle_or false changed ks e = inl refl
idle_or true true ks e = absurd cc
idle_or true false [] e = inr (refl, refl)
idle_or true false (k ∷ ks) e = absurd cc

-- ---- a length that has changed

pub len_noted : (ks : List ℕ) (r s : ℕ) (d e : Disk) (file len : ℕ) → IsThere (disk_left ks r d) file → len ≡ len_of d file
    → len_of (disk_left ks s e) file ≢ len_of (disk_left ks r d) file → len_of e file ≢ len
len_noted ks r s d e file len there is ne same =
    ne (ap (λ o. unwrap_or o 0) (not_gone ks e.table file (left_not ks d.table file there)) ∙ same ∙ is ∙ sym (len_inside ks r d file there))

pub told : {T E P : Type 0} (r : Result T E) → P → OnErr r P
told (Ok x) p = tt
told (Err e) p = p

pub kept_same : (d : Disk) → Keeps d d
kept_same d = record { table = refl; honest = λ h. h; files = λ h. refl }
