-- The lengths that a store keeps, and the files of its folder.
use Rattle.std.proofs.Common.{◌≡◌, ◌≢◌, ◌∙◌, ◌≤◌, ◌<◌, ◌+◌, ◌++◌, ℕ, List, [], length, take, ap, sym, subst, refl, arith, cond, Bool, true, false, Option, Some, None, IsSome, ⊎_elim}
use Rattle.std.specs.Prelude.{option_map, unwrap_or}
use Rattle.std.specs.Ordering.{nat_cmp}
use Rattle.std.specs.FinMap.{FinMap, get, insert, remove, same_map, nat_cmp-IsAntisymmetric}
use Rattle.std.specs.Cmp.{nat_cmp_total, unsigned_tied}
use Rattle.std.specs.BTreeMap.{is_at}
use Rattle.std.specs.Map.{lookup}
use Rattle.std.proofs.lemmas.Bool.{cases_eq, eqb-true}
use Rattle.std.proofs.lemmas.List.{append-nil, length-append, length-take-le}
use Rattle.kb_store.specs.Disk.{Table, Files, Becomes, IsThere, len_of, Keeps, Appends, AppendsSome}
use Rattle.kb_store.proofs.Maps.{get_inserted, get_other, get_removed, get_kept}
use Rattle.kb_store.proofs.Seen.{get_seen, seen_as_insert, seen_remove, there_seen, at_seen}
use Rattle.kb_folder.specs.Folder.{Contents, Turns, Stays, bytes_in}
use Rattle.kb_folder.specs.Store.{fitted, table_of, AreLengths, folder_disk}

-- ---- what is kept under a number

pub is_kept : (c : Contents) (es : List (ℕ × ℕ)) (f k : ℕ) → IsThere (folder_disk c es f) k → IsSome (lookup (is_at (nat_cmp k)) es)
is_kept c es f k there = there_seen fitted es k there

pub len_kept : (c : Contents) (es : List (ℕ × ℕ)) (f k n : ℕ) → lookup (is_at (nat_cmp k)) es ≡ Some n → n < 18446744073709551616 → len_of (folder_disk c es f) k ≡ n
len_kept c es f k n e small = at_seen fitted es k n 0 e ∙ omega (arith, small)

some_length : (o : Option (List ℕ)) (n : ℕ) → option_map length o ≡ Some n → IsSome o × (n ≡ length (unwrap_or o []))
some_length None n e = absurd cc
some_length (Some s) n e = (refl, cc)

-- an honest folder has a file that is kept, of that length
pub held : (c : Contents) (es : List (ℕ × ℕ)) (k n : ℕ) → AreLengths (table_of es) c.files → lookup (is_at (nat_cmp k)) es ≡ Some n → n < 18446744073709551616 → IsSome (get c.files k) × (n ≡ length (bytes_in c k))
held c es k n are e small =
    let fits : fitted n ≡ n = omega (arith, small) in
    some_length (get c.files k) n (sym (are k) ∙ get_seen fitted es k ∙ ap (option_map fitted) e ∙ ap Some fits)

some_none : (o : Option (List ℕ)) → option_map length o ≡ None → o ≡ None
some_none None e = refl
some_none (Some s) e = absurd cc

-- and none that is not
pub absent : (c : Contents) (es : List (ℕ × ℕ)) (k : ℕ) → AreLengths (table_of es) c.files → get (table_of es) k ≡ None → get c.files k ≡ None
absent c es k are e = some_none (get c.files k) (sym (are k) ∙ e)

-- ---- after a change of one file

pub lengths_put : (t : Table) (files : Files) (k n : ℕ) (s : List ℕ) → AreLengths t files → n ≡ length s → AreLengths (insert t k n) (insert files k s)
lengths_put t files k n s are e q =
    ⊎_elim
    (λ (same : q ≡ k). subst (λ x. get (insert t k n) x ≡ option_map length (get (insert files k s) x)) (sym same)
    (get_inserted t k n ∙ ap Some e ∙ sym (ap (option_map length) (get_inserted files k s))))
    (λ (ne : q ≢ k). get_other t k n q ne ∙ are q ∙ sym (ap (option_map length) (get_other files k s q ne)))
    (cases_eq q k)

pub lengths_removed : (t : Table) (files : Files) (k : ℕ) → AreLengths t files → AreLengths (remove t k) (remove files k)
lengths_removed t files k are q =
    ⊎_elim
    (λ (same : q ≡ k). subst (λ x. get (remove t k) x ≡ option_map length (get (remove files k) x)) (sym same)
    (get_removed t k ∙ sym (ap (option_map length) (get_removed files k))))
    (λ (ne : q ≢ k). get_kept t k q ne ∙ are q ∙ sym (ap (option_map length) (get_kept files k q ne)))
    (cases_eq q k)

module _ (c c' : Contents) (es es' : List (ℕ × ℕ)) (k : ℕ) where
  -- the table of a length that was set
  pub table_put : (w n : ℕ) → ((q : ℕ) → lookup (is_at (nat_cmp q)) es' ≡ cond (is_at (nat_cmp k) q) (Some w) (lookup (is_at (nat_cmp q)) es)) → w < 18446744073709551616 → w ≡ n → table_of es' ≡ insert (table_of es) k n
  table_put w n u small e = seen_as_insert fitted es es' k w n u (omega (arith, small, e))

  pub table_removed : ((q : ℕ) → lookup (is_at (nat_cmp q)) es' ≡ cond (is_at (nat_cmp k) q) None (lookup (is_at (nat_cmp q)) es)) → table_of es' ≡ remove (table_of es) k
  table_removed u = seen_remove fitted es es' k u

  -- the lengths are those of the files again
  pub lengths_after : (files : Files) (table : Table) → (c.honest → AreLengths table files) → table_of es' ≡ table → Turns c files c' → c'.honest → AreLengths (table_of es') c'.files
  lengths_after files table are e t h =
      subst (λ (x : Table). AreLengths x c'.files) (sym e) (subst (λ (x : Files). AreLengths table x) (sym (t.files h)) (are (t.honest h)))

  -- and the disk is what it is to become
  pub becomes : (f f' : ℕ) (files : Files) (table : Table) → (c.honest → AreLengths (table_of es) c.files) → table_of es' ≡ table → Turns c files c' → Becomes (folder_disk c es f) table files (folder_disk c' es' f')
  becomes f f' files table are e t = record {
    table = e;
    honest = λ h. let hc = t.honest h.0 in (hc, are hc);
    files = λ h. t.files h.0;
  }

-- the same lengths, and the same files
pub stays : (c c' : Contents) (es : List (ℕ × ℕ)) (f f' : ℕ) → (c.honest → AreLengths (table_of es) c.files) → Stays c c' → Keeps (folder_disk c es f) (folder_disk c' es f')
stays c c' es f f' are t = becomes c c' es es 0 f f' c.files (table_of es) are refl t

-- a length within a file's is within its bytes
pub cut_within : (c : Contents) (es : List (ℕ × ℕ)) (f k n : ℕ) → AreLengths (table_of es) c.files → n ≤ len_of (folder_disk c es f) k → n ≤ length (bytes_in c k)
cut_within c es f k n are l =
    let e : len_of (folder_disk c es f) k ≡ length (bytes_in c k) = ap (λ o. unwrap_or o 0) (are k) ∙ length_or (get c.files k) in
    omega (arith, l, e)
  where
    length_or : (o : Option (List ℕ)) → unwrap_or (option_map length o) 0 ≡ length (unwrap_or o [])
    length_or None = refl
    length_or (Some s) = refl

none_seen : (o : Option ℕ) → option_map fitted o ≡ None → o ≡ None
none_seen None e = refl
none_seen (Some n) e = absurd cc

-- a length that was set where there was none, and taken out again
pub table_back : (es es' es'' : List (ℕ × ℕ)) (k : ℕ) → get (table_of es) k ≡ None → ((q : ℕ) → lookup (is_at (nat_cmp q)) es' ≡ cond (is_at (nat_cmp k) q) (Some 0) (lookup (is_at (nat_cmp q)) es)) → ((q : ℕ) → lookup (is_at (nat_cmp q)) es'' ≡ cond (is_at (nat_cmp k) q) None (lookup (is_at (nat_cmp q)) es')) → table_of es'' ≡ table_of es
table_back es es' es'' k none u u' = same_map nat_cmp_total nat_cmp-IsAntisymmetric (table_of es'') (table_of es) each
  where
    tied : (q : ℕ) → is_at (nat_cmp k) q ≡ true → q ≡ k
    tied q e = sym (eqb-true k q (sym (unsigned_tied k q) ∙ e))

    either : (q : ℕ) (b : Bool) → is_at (nat_cmp k) q ≡ b → cond b None (cond b (Some 0) (lookup (is_at (nat_cmp q)) es)) ≡ lookup (is_at (nat_cmp q)) es
    either q true e = sym (subst (λ x. lookup (is_at (nat_cmp x)) es ≡ None) (sym (tied q e)) (none_seen (lookup (is_at (nat_cmp k)) es) (sym (get_seen fitted es k) ∙ none)))
    either q false e = refl

    each : (q : ℕ) → get (table_of es'') q ≡ get (table_of es) q
    each q =
        get_seen fitted es'' q ∙ ap (option_map fitted) (u' q ∙ ap (cond (is_at (nat_cmp k) q) None) (u q) ∙ either q (is_at (nat_cmp k) q) refl) ∙ sym (get_seen fitted es q)

-- ---- a file that grows

pub same_put : {X : Type 0} (t : FinMap nat_cmp X) (k : ℕ) (v : X) → get t k ≡ Some v → t ≡ insert t k v
same_put t k v e = same_map nat_cmp_total nat_cmp-IsAntisymmetric t (insert t k v) (λ q.
    ⊎_elim
    (λ (same : q ≡ k). subst (λ x. get t x ≡ get (insert t k v) x) (sym same) (e ∙ sym (get_inserted t k v)))
    (λ (ne : q ≢ k). sym (get_other t k v q ne))
    (cases_eq q k))

pub some_is : {X : Type 0} (o : Option X) (d : X) → IsSome o → o ≡ Some (unwrap_or o d)
some_is None d s = absurd cc
some_is (Some x) d s = refl

-- no byte was taken
pub grows_none : (c c' : Contents) (es : List (ℕ × ℕ)) (f f' k n : ℕ) (bytes : List ℕ) → (c.honest → AreLengths (table_of es) c.files) → lookup (is_at (nat_cmp k)) es ≡ Some n → n < 18446744073709551616 → Stays c c' → AppendsSome (folder_disk c es f) k bytes (folder_disk c' es f')
grows_none c c' es f f' k n bytes are e small t =
    let fits : fitted n ≡ n = omega (arith, small) in
    let len : len_of (folder_disk c es f) k + 0 ≡ n = omega (arith, len_kept c es f k n e small) in (
      0,
      omega arith,
      record {
        table = same_put (table_of es) k (len_of (folder_disk c es f) k + 0) (get_seen fitted es k ∙ ap (option_map fitted) e ∙ ap Some (fits ∙ sym len));
        honest = λ h. let hc = t.honest h.0 in (hc, are hc);
        files = λ h.
            let hc = t.honest h.0 in
            let had = held c es k n (are hc) e small in
            t.files h.0 ∙ same_put c.files k (bytes_in c k ++ []) (some_is (get c.files k) [] had.0 ∙ ap Some (sym (append-nil (bytes_in c k))));
      },
    )

module _ (c c' : Contents) (es es' : List (ℕ × ℕ)) (k n taken : ℕ) (bytes : List ℕ) where
  -- the first bytes were taken
  pub grown : (f f' : ℕ) → (c.honest → AreLengths (table_of es) c.files) → lookup (is_at (nat_cmp k)) es ≡ Some n → n + taken < 18446744073709551616 → taken ≤ length bytes → ((q : ℕ) → lookup (is_at (nat_cmp q)) es' ≡ cond (is_at (nat_cmp k) q) (Some (n + taken)) (lookup (is_at (nat_cmp q)) es)) → Turns c (insert c.files k (bytes_in c k ++ take taken bytes)) c' → Appends (folder_disk c es f) k (take taken bytes) (folder_disk c' es' f')
  grown f f' are e small le u t =
      let len : n + taken ≡ len_of (folder_disk c es f) k + length (take taken bytes) = omega (arith, len_kept c es f k n e (omega (arith, small)), length-take-le taken bytes le) in
      becomes c c' es es' k f f' (insert c.files k (bytes_in c k ++ take taken bytes)) (insert (table_of es) k (len_of (folder_disk c es f) k + length (take taken bytes))) are (table_put c c' es es' k (n + taken) (len_of (folder_disk c es f) k + length (take taken bytes)) u small len) t

  pub grown_lengths : (c.honest → AreLengths (table_of es) c.files) → lookup (is_at (nat_cmp k)) es ≡ Some n → n + taken < 18446744073709551616 → taken ≤ length bytes → ((q : ℕ) → lookup (is_at (nat_cmp q)) es' ≡ cond (is_at (nat_cmp k) q) (Some (n + taken)) (lookup (is_at (nat_cmp q)) es)) → Turns c (insert c.files k (bytes_in c k ++ take taken bytes)) c' → c'.honest → AreLengths (table_of es') c'.files
  grown_lengths are e small le u t =
      lengths_after c c' es es' k (insert c.files k (bytes_in c k ++ take taken bytes)) (insert (table_of es) k (n + taken))
      (λ h. lengths_put (table_of es) c.files k (n + taken) (bytes_in c k ++ take taken bytes) (are h)
      (omega (arith, (held c es k n (are h) e (omega (arith, small))).1, length-append (bytes_in c k) (take taken bytes), length-take-le taken bytes le)))
      (table_put c c' es es' k (n + taken) (n + taken) u small refl) t

-- no length is kept
pub empty_table : (es : List (ℕ × ℕ)) → es ≡ [] → (q : ℕ) → get (table_of es) q ≡ None
empty_table es e q = ap (λ x. get (table_of x) q) e ∙ get_seen fitted [] q
