-- What a call for one file leaves of the others, and what is written of a file.
use Rattle.std.proofs.Common.{◌≡◌, ◌≢◌, ◌∙◌, ◌<◌, ◌≤◌, ◌+◌, ◌++◌, ⊎_elim, ℕ, List, [], length, take, drop, ap, sym, subst, refl, arith}
use Rattle.std.specs.Prelude.{IsSome, unwrap_or}
use Rattle.std.specs.FinMap.{FinMap, get, insert, same_map, nat_cmp-IsAntisymmetric}
use Rattle.std.specs.Cmp.{nat_cmp_total}
use Rattle.std.specs.Ordering.{nat_cmp}
use Rattle.std.proofs.Math.Seq.{take-add, take-append_seam}
use Rattle.std.proofs.lemmas.Bool.{cases_eq}
use Rattle.kb_store.proofs.Maps.{get_inserted, get_other}
use Rattle.kb_store.specs.Disk.{Appends, AppendsSome, Becomes, Creates, Disk, IsThere, Keeps, MayCreate, bytes_of}
use Rattle.kb_move.specs.Copied.{IsAlone, KeepsFiles}

put_twice : {X : Type 0} (t : FinMap nat_cmp X) (k : ℕ) (v w : X) → insert (insert t k v) k w ≡ insert t k w
put_twice t k v w = same_map nat_cmp_total nat_cmp-IsAntisymmetric (insert (insert t k v) k w) (insert t k w) (λ q.
    ⊎_elim
    (λ (same : q ≡ k). subst (λ x. get (insert (insert t k v) k w) x ≡ get (insert t k w) x) (sym same)
    (get_inserted (insert t k v) k w ∙ sym (get_inserted t k w)))
    (λ (ne : q ≢ k). get_other (insert t k v) k w q ne ∙ get_other t k v q ne ∙ sym (get_other t k w q ne))
    (cases_eq q k))

-- ---- the others

becomes_alone : (n x : ℕ) (bs : List ℕ) (old new : Disk) → Becomes old (insert old.table n x) (insert old.files n bs) new → IsAlone n old new
becomes_alone n x bs old new b = record {
  honest = b.honest;
  table = λ q ne. ap (λ t. get t q) b.table ∙ get_other old.table n x q ne;
  files = λ h q ne. ap (λ f. get f q) (b.files h) ∙ get_other old.files n bs q ne;
}

kept_alone : (n : ℕ) (old new : Disk) → Keeps old new → IsAlone n old new
kept_alone n old new k = record {
  honest = k.honest;
  table = λ q ne. ap (λ t. get t q) k.table;
  files = λ h q ne. ap (λ f. get f q) (k.files h);
}

pub alone_then : (n : ℕ) (a b c : Disk) → IsAlone n a b → IsAlone n b c → IsAlone n a c
alone_then n a b c p q = record {
  honest = λ h. p.honest (q.honest h);
  table = λ file ne. q.table file ne ∙ p.table file ne;
  files = λ h file ne. q.files h file ne ∙ p.files (q.honest h) file ne;
}

pub created_alone : (n : ℕ) (old new : Disk) → Creates old n new → IsAlone n old new
created_alone n old new made = becomes_alone n 0 [] old new made

pub may_create_alone : (n : ℕ) (old new : Disk) → MayCreate old n new → IsAlone n old new
may_create_alone n old new may = ⊎_elim (kept_alone n old new) (created_alone n old new) may

pub appended_alone : (n : ℕ) (bs : List ℕ) (old new : Disk) → Appends old n bs new → IsAlone n old new
appended_alone n bs old new more = becomes_alone n _ _ old new more

pub appended_some_alone : (n : ℕ) (bs : List ℕ) (old new : Disk) → AppendsSome old n bs new → IsAlone n old new
appended_some_alone n bs old new some = appended_alone n (take some.0 bs) old new some.2

-- a file more, under the first number that is free
pub free_then : (n : ℕ) (old new : Disk) → IsAlone n old new → ((file : ℕ) → IsThere old file → file < n) → (file : ℕ) → IsThere new file → file < n + 1
free_then n old new alone below file there =
    ⊎_elim
    (λ (same : file ≡ n). omega (arith, same))
    (λ (ne : file ≢ n). let le : file < n = below file (subst IsSome (alone.table file ne) there) in omega (arith, le))
    (cases_eq file n)

pub spares_then : (n first : ℕ) (a b c : Disk) → ((file : ℕ) → IsThere a file → file < first) → first ≤ n → KeepsFiles a b → IsAlone n b c → KeepsFiles a c
spares_then n first a b c below le p q = record {
  honest = λ h. p.honest (q.honest h);
  files = λ h file there.
      let lt : file < first = below file there in
      let ne : file ≢ n = (λ same. absurd (omega (arith, lt, le, same))) in
      q.files h file ne ∙ p.files (q.honest h) file there;
}

pub spares_behind : (a b c : Disk) → Keeps a b → KeepsFiles b c → KeepsFiles a c
spares_behind a b c p q = record {
  honest = λ h. p.honest (q.honest h);
  files = λ h file there.
      q.files h file (subst (λ t. IsSome (get t file)) (sym p.table) there) ∙ ap (λ f. get f file) (p.files (q.honest h));
}

-- ---- the file

pub created_there : (n : ℕ) (old new : Disk) → Creates old n new → IsThere new n
created_there n old new made = subst (λ t. IsSome (get t n)) (sym made.table) (subst IsSome (sym (get_inserted old.table n 0)) refl)

pub appended_there : (n : ℕ) (bs : List ℕ) (old new : Disk) → Appends old n bs new → IsThere new n
appended_there n bs old new more = subst (λ t. IsSome (get t n)) (sym more.table) (subst IsSome (sym (get_inserted old.table n _)) refl)

-- a buffer's front, of which some bytes were read of a file
pub read_part : (s read rest : List ℕ) (at k n : ℕ) → n ≡ k → length read ≡ k → read ≡ take n (drop at s) → take k (read ++ rest) ≡ take k (drop at s)
read_part s read rest at k n same len is =
    ap (λ j. take j (read ++ rest)) (sym len) ∙ take-append_seam read rest ∙ is ∙ ap (λ j. take j (drop at s)) same

pub written_more : (old now new : Disk) (n at k : ℕ) (s piece : List ℕ) → now.files ≡ insert old.files n (take at s) → piece ≡ take k (drop at s)
    → new.files ≡ insert now.files n (bytes_of now n ++ piece) → new.files ≡ insert old.files n (take (at + k) s)
written_more old now new n at k s piece was part is =
    let front : bytes_of now n ≡ take at s = ap (λ f. unwrap_or (get f n) []) was ∙ ap (λ o. unwrap_or o []) (get_inserted old.files n (take at s)) in
    is
    ∙ ap (λ f. insert f n (bytes_of now n ++ piece)) was
    ∙ put_twice old.files n (take at s) (bytes_of now n ++ piece)
    ∙ ap (λ x. insert old.files n (x ++ piece)) front
    ∙ ap (λ x. insert old.files n (take at s ++ x)) part
    ∙ sym (ap (insert old.files n) (take-add at k s))
