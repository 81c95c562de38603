-- What changes that are put off leave of a file, one after another.
use Rattle.std.proofs.Common.{◌≡◌, ◌≢◌, ◌∙◌, ◌≤◌, ◌+◌, ◌++◌, ◌==◌, ◌||◌, ℕ, Bool, true, false, List, [], ◌∷◌, length, take, drop, min, Option, Some, None, IsSome}
use Rattle.std.proofs.Common.{◌-◌, refl, sym, ap, subst, arith, ⊎_elim, length-take}
use Rattle.std.proofs.lemmas.List.{append-nil, drop-take, take-take}
use Rattle.std.specs.Prelude.{unwrap_or, option_map, if◌then◌else◌, Result, Ok, Err, OnErr, OnOk}
use Rattle.std.proofs.lemmas.Bool.{cases_eq, eq-eqb, ne_eqb}
use Rattle.std.specs.Ordering.{nat_cmp}
use Rattle.std.specs.Cmp.{nat_cmp_total}
use Rattle.std.specs.FinMap.{FinMap, get, insert, remove, same_map, nat_cmp-IsAntisymmetric}
use Rattle.kb_store.proofs.Maps.{get_inserted, get_other, get_removed, get_kept}
use Rattle.kb_store.specs.Disk.{Disk, Files, Table, Becomes, Cuts, IsThere, Keeps, AppendsSome, len_of, bytes_of, IsLawfulDisk}
use Rattle.kb_survey.specs.Changes.{ArePossible, IsPossible, disk_after, files_after, files_with, is_removal, length_after, length_with, removes, table_after, table_with}
use Rattle.kb_survey.specs.Postponed.{lengths_after}
use Rattle.kb_survey.specs.declared.change.Change.{Change}
use Rattle.kb_survey.specs.declared.change.Change.TheVariants.{Cut, Remove}

-- ---- a file that is there afterwards was there

pub there_with : (c : Change) (t : Table) (q : ℕ) → IsPossible c t → IsSome (get (table_with c t) q) → IsSome (get t q)
there_with (Cut k len) t q can some =
    ⊎_elim
    (λ (same : q ≡ k). subst (λ x. IsSome (get t x)) (sym same) can.0)
    (λ (ne : q ≢ k). subst (λ o. IsSome o) (get_other t k (min len (unwrap_or (get t k) 0)) q ne) some)
    (cases_eq q k)
there_with (Remove k) t q can some =
    ⊎_elim
    (λ (same : q ≡ k). subst (λ x. IsSome (get t x)) (sym same) can)
    (λ (ne : q ≢ k). subst (λ o. IsSome o) (get_kept t k q ne) some)
    (cases_eq q k)

pub there_before : (cs : List Change) (t : Table) (q : ℕ) → ArePossible cs t → IsSome (get (table_after cs t) q) → IsSome (get t q)
there_before [] t q can some = some
there_before (c ∷ cs) t q can some = there_with c t q can.0 (there_before cs (table_with c t) q can.1 some)

-- ---- and has the length that is told

no_some : {X : Type 0} (o : Option X) → o ≡ None → IsSome o → ⊥
no_some {X} o e some = let s : IsSome {T = X} None = subst (λ o. IsSome o) e some in absurd cc

length_step : (c : Change) (t : Table) (q : ℕ) → IsPossible c t → IsSome (get (table_with c t) q)
    → unwrap_or (get (table_with c t) q) 0 ≡ length_with c q (unwrap_or (get t q) 0)
length_step (Cut k len) t q can some =
    let n = unwrap_or (get t k) 0 in
    ⊎_elim
    (λ (same : q ≡ k). subst (λ x. unwrap_or (get (insert t k (min len n)) x) 0 ≡ (if k == x then min (unwrap_or (get t x) 0) len else unwrap_or (get t x) 0)) (sym same)
    (ap (λ o. unwrap_or o 0) (get_inserted t k (min len n)) ∙ omega arith ∙ sym (ap (λ b. if b then min n len else n) (eq-eqb k k refl))))
    (λ (ne : q ≢ k). ap (λ o. unwrap_or o 0) (get_other t k (min len n) q ne)
    ∙ sym (ap (λ b. if b then min (unwrap_or (get t q) 0) len else unwrap_or (get t q) 0) (ne_eqb k q (λ e. ne (sym e)))))
    (cases_eq q k)
length_step (Remove k) t q can some =
    ⊎_elim
    (λ (same : q ≡ k). absurd (no_some (get (remove t k) k) (get_removed t k) (subst (λ x. IsSome (get (remove t k) x)) same some)))
    (λ (ne : q ≢ k). ap (λ o. unwrap_or o 0) (get_kept t k q ne))
    (cases_eq q k)

pub length_is : (cs : List Change) (t : Table) (q : ℕ) → ArePossible cs t → IsSome (get (table_after cs t) q)
    → unwrap_or (get (table_after cs t) q) 0 ≡ length_after cs q (unwrap_or (get t q) 0)
length_is [] t q can some = refl
length_is (c ∷ cs) t q can some =
    length_is cs (table_with c t) q can.1 some
    ∙ ap (length_after cs q) (length_step c t q can.0 (there_before cs (table_with c t) q can.1 some))

-- ---- what it has is what it had

pub part_of_front : (n at len : ℕ) (s : List ℕ) → at + n ≤ len → take n (drop at (take len s)) ≡ take n (drop at s)
part_of_front n at len s l =
    let room = len - at in
    let whole : len ≡ at + room = omega (arith, l) in
    ap (λ k. take n (drop at (take k s))) whole ∙ ap (take n) (drop-take at room s) ∙ take-take n room (drop at s) (omega (arith, l))

part_with : (c : Change) (f : Files) (q n at : ℕ) → at + n ≤ length (unwrap_or (get (files_with c f) q) [])
    → take n (drop at (unwrap_or (get (files_with c f) q) [])) ≡ take n (drop at (unwrap_or (get f q) []))
part_with (Cut k len) f q n at within =
    let s = unwrap_or (get f k) [] in
    ⊎_elim
    (λ (same : q ≡ k).
    let e : unwrap_or (get (insert f k (take len s)) q) [] ≡ take len s = ap (λ x. unwrap_or (get (insert f k (take len s)) x) []) same ∙ ap (λ o. unwrap_or o []) (get_inserted f k (take len s)) in
    ap (λ x. take n (drop at x)) e ∙ part_of_front n at len s (omega (arith, within, ap length e, length-take len s)) ∙ ap (λ x. take n (drop at (unwrap_or (get f x) []))) (sym same))
    (λ (ne : q ≢ k). ap (λ o. take n (drop at (unwrap_or o []))) (get_other f k (take len s) q ne))
    (cases_eq q k)
part_with (Remove k) f q n at within =
    ⊎_elim
    (λ (same : q ≡ k).
    let e : unwrap_or (get (remove f k) q) [] ≡ [] = ap (λ x. unwrap_or (get (remove f k) x) []) same ∙ ap (λ o. unwrap_or o []) (get_removed f k) in
    let none : n ≡ 0 = omega (arith, within, ap length e) in
    ap (λ m. take m (drop at (unwrap_or (get (remove f k) q) []))) none ∙ sym (ap (λ m. take m (drop at (unwrap_or (get f q) []))) none))
    (λ (ne : q ≢ k). ap (λ o. take n (drop at (unwrap_or o []))) (get_kept f k q ne))
    (cases_eq q k)

length_of_with : (c : Change) (f : Files) (q : ℕ) → length (unwrap_or (get (files_with c f) q) []) ≤ length (unwrap_or (get f q) [])
length_of_with (Cut k len) f q =
    let s = unwrap_or (get f k) [] in
    ⊎_elim
    (λ (same : q ≡ k). subst (λ x. length (unwrap_or (get (insert f k (take len s)) x) []) ≤ length (unwrap_or (get f x) [])) (sym same)
    (subst (λ o. length (unwrap_or o []) ≤ length s) (sym (get_inserted f k (take len s))) (omega (arith, length-take len s))))
    (λ (ne : q ≢ k). subst (λ o. length (unwrap_or o []) ≤ length (unwrap_or (get f q) [])) (sym (get_other f k (take len s) q ne)) (omega arith))
    (cases_eq q k)
length_of_with (Remove k) f q =
    ⊎_elim
    (λ (same : q ≡ k). subst (λ x. length (unwrap_or (get (remove f k) x) []) ≤ length (unwrap_or (get f x) [])) (sym same)
    (subst (λ o. length (unwrap_or o []) ≤ length (unwrap_or (get f k) [])) (sym (get_removed f k)) (omega arith)))
    (λ (ne : q ≢ k). subst (λ o. length (unwrap_or o []) ≤ length (unwrap_or (get f q) [])) (sym (get_kept f k q ne)) (omega arith))
    (cases_eq q k)

length_of_after : (cs : List Change) (f : Files) (q : ℕ) → length (unwrap_or (get (files_after cs f) q) []) ≤ length (unwrap_or (get f q) [])
length_of_after [] f q = omega arith
length_of_after (c ∷ cs) f q = omega (arith, length_of_after cs (files_with c f) q, length_of_with c f q)

part_after : (cs : List Change) (f : Files) (q n at : ℕ) → at + n ≤ length (unwrap_or (get (files_after cs f) q) [])
    → take n (drop at (unwrap_or (get (files_after cs f) q) [])) ≡ take n (drop at (unwrap_or (get f q) []))
part_after [] f q n at within = refl
part_after (c ∷ cs) f q n at within =
    part_after cs (files_with c f) q n at within ∙ part_with c f q n at (omega (arith, within, length_of_after cs (files_with c f) q))

length_or : (o : Option (List ℕ)) → unwrap_or (option_map length o) 0 ≡ length (unwrap_or o [])
length_or None = refl
length_or (Some s) = refl

-- a part of a file that is read from the disk inside
pub part_is : (cs : List Change) (d : Disk) (q n at : ℕ) → IsLawfulDisk d → d.honest → at + n ≤ len_of (disk_after cs d) q
    → take n (drop at (bytes_of (disk_after cs d) q)) ≡ take n (drop at (bytes_of d q))
part_is cs d q n at l h within =
    let e = lengths_after cs d.table d.files (l.lengths h) q in
    let len : len_of (disk_after cs d) q ≡ length (bytes_of (disk_after cs d) q) = ap (λ o. unwrap_or o 0) e ∙ length_or (get (files_after cs d.files) q) in
    part_after cs d.files q n at (omega (arith, within, len))

-- ---- one more at the end

pub table_push : (cs : List Change) (c : Change) (t : Table) → table_after (cs ++ c ∷ []) t ≡ table_with c (table_after cs t)
table_push [] c t = refl
table_push (x ∷ cs) c t = table_push cs c (table_with x t)

pub files_push : (cs : List Change) (c : Change) (f : Files) → files_after (cs ++ c ∷ []) f ≡ files_with c (files_after cs f)
files_push [] c f = refl
files_push (x ∷ cs) c f = files_push cs c (files_with x f)

pub possible_push : (cs : List Change) (c : Change) (t : Table) → ArePossible cs t → IsPossible c (table_after cs t) → ArePossible (cs ++ c ∷ []) t
possible_push [] c t are is = (is, tt)
possible_push (x ∷ cs) c t are is = (are.0, possible_push cs c (table_with x t) are.1 is)

-- the disk with one more is that disk with it made
pub pushed : (cs : List Change) (c : Change) (d : Disk) → Becomes (disk_after cs d) (table_with c (table_after cs d.table)) (files_with c (files_after cs d.files)) (disk_after (cs ++ c ∷ []) d)
pushed cs c d = record { table = table_push cs c d.table; honest = λ h. h; files = λ h. files_push cs c d.files }

cut_is : (t : Table) (k len : ℕ) → len ≤ unwrap_or (get t k) 0 → table_with (Cut k len) t ≡ insert t k len
cut_is t k len l = ap (insert t k) (omega (arith, l))

-- a cut to a length within the file's
pub cut_last : (cs : List Change) (d : Disk) (k len : ℕ) → len ≤ len_of (disk_after cs d) k → Cuts (disk_after cs d) k len (disk_after (cs ++ Cut k len ∷ []) d)
cut_last cs d k len l = record {
  table = table_push cs (Cut k len) d.table ∙ cut_is (table_after cs d.table) k len l;
  honest = λ h. h;
  files = λ h. files_push cs (Cut k len) d.files;
}

-- ---- the first one made

pub made_first : (c : Change) (cs : List Change) (d e : Disk) → Becomes d (table_with c d.table) (files_with c d.files) e → Keeps (disk_after (c ∷ cs) d) (disk_after cs e)
made_first c cs d e b = record { table = ap (table_after cs) b.table; honest = λ h. b.honest h; files = λ h. ap (files_after cs) (b.files h) }

pub possible_rest : (c : Change) (cs : List Change) (t u : Table) → ArePossible (c ∷ cs) t → u ≡ table_with c t → ArePossible cs u
possible_rest c cs t u are e = subst (ArePossible cs) (sym e) are.1

-- where nothing was made
pub kept_all : (cs : List Change) (d e : Disk) → Keeps d e → Keeps (disk_after cs d) (disk_after cs e)
kept_all cs d e k = record { table = ap (table_after cs) k.table; honest = λ h. k.honest h; files = λ h. ap (files_after cs) (k.files h) }

pub possible_still : (cs : List Change) (t u : Table) → ArePossible cs t → u ≡ t → ArePossible cs u
possible_still cs t u are e = subst (ArePossible cs) (sym e) are

-- ---- one step after another

pub joined : (a b c : Disk) (on_table : Table → Table) (on_files : Files → Files) → Keeps a b → Becomes b (on_table b.table) (on_files b.files) c → Becomes a (on_table a.table) (on_files a.files) c
joined a b c on_table on_files k s = record {
  table = s.table ∙ ap on_table k.table;
  honest = λ h. k.honest (s.honest h);
  files = λ h. s.files h ∙ ap on_files (k.files (s.honest h));
}

pub kept_twice : (a b c : Disk) → Keeps a b → Keeps b c → Keeps a c
kept_twice a b c k s = joined a b c (λ t. t) (λ f. f) k s

-- ---- two rows of changes

pub removes_both : (xs ys : List Change) (file : ℕ) → removes (xs ++ ys) file ≡ (removes xs file || removes ys file)
removes_both [] ys file = refl
removes_both (x ∷ xs) ys file = ap (λ b. is_removal x file || b) (removes_both xs ys file) ∙ grouped (is_removal x file) (removes xs file) (removes ys file)
  where
    grouped : (a b c : Bool) → (a || (b || c)) ≡ ((a || b) || c)
    grouped true b c = refl
    grouped false b c = refl

pub length_both : (xs ys : List Change) (file n : ℕ) → length_after (xs ++ ys) file n ≡ length_after ys file (length_after xs file n)
length_both [] ys file n = refl
length_both (x ∷ xs) ys file n = length_both xs ys file (length_with x file n)

-- ---- what is known of an answer

pub on_ok : {T E P Q : Type 0} (r : Result T E) → OnOk r P → (P → Q) → OnOk r Q
on_ok (Ok x) p f = f p
on_ok (Err e) p f = p

pub on_oks : {T E P Q R : Type 0} (r : Result T E) → OnOk r P → OnOk r Q → (P → Q → R) → OnOk r R
on_oks (Ok x) p q f = f p q
on_oks (Err e) p q f = p

pub on_err : {T E P : Type 0} (r : Result T E) → P → OnErr r P
on_err (Ok x) p = tt
on_err (Err e) p = p

-- ---- an append that was refused before it began

same_put : {X : Type 0} (m : FinMap nat_cmp X) (k : ℕ) (v : X) → get m k ≡ Some v → m ≡ insert m k v
same_put m k v e = same_map nat_cmp_total nat_cmp-IsAntisymmetric m (insert m k v) (λ q.
    ⊎_elim
    (λ (same : q ≡ k). subst (λ x. get m x ≡ get (insert m k v) x) (sym same) (e ∙ sym (get_inserted m k v)))
    (λ (ne : q ≢ k). sym (get_other m k v q ne))
    (cases_eq q k))

some_is : {X : Type 0} (o : Option X) (d : X) → IsSome o → o ≡ Some (unwrap_or o d)
some_is None d s = absurd cc
some_is (Some x) d s = refl

some_of : (o : Option (List ℕ)) → IsSome (option_map length o) → IsSome o
some_of None s = absurd cc
some_of (Some x) s = refl

pub appends_none : (d e : Disk) (file : ℕ) (bytes : List ℕ) → IsThere d file → IsLawfulDisk d → Keeps d e → AppendsSome d file bytes e
appends_none d e file bytes there l k =
    let len : len_of d file + length (take 0 bytes) ≡ len_of d file = omega arith in (
      0,
      omega arith,
      record {
        table = k.table ∙ same_put d.table file (len_of d file + length (take 0 bytes)) (some_is (get d.table file) 0 there ∙ ap Some (sym len));
        honest = λ h. k.honest h;
        files = λ h.
            let has = some_of (get d.files file) (subst (λ o. IsSome o) (l.lengths (k.honest h) file) there) in
            k.files h ∙ same_put d.files file (bytes_of d file ++ take 0 bytes) (some_is (get d.files file) [] has ∙ ap Some (sym (append-nil (bytes_of d file))));
      },
    )
