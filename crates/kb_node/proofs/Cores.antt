-- What becomes of sockets where one of them changes, and where some are left out.
use Rattle.std.proofs.Common.{◌≡◌, ◌<◌, ◌∙◌, ℕ, List, [], ◌∷◌, zero, suc, map, Bool, true, false, not, cond, Option, Some, None, option_map, slice_get, slice_set, slice_index_or, length, vec_len, refl, ap, sym, arith}
use Rattle.std.specs.List.{filter, remove}
use Rattle.std.specs.declared.alloc.Global.{Global}
use Rattle.std.specs.declared.vec.Vec.{Vec}
use Rattle.std.proofs.lemmas.List.{map-set}
use Rattle.std.proofs.lemmas.Option.{slice_get-get_or, slice_get-map}
use Rattle.kb_node.specs.declared.socket.Socket.{Socket}
use Rattle.kb_node.specs.Commits.{Host}
use Rattle.kb_node.specs.Cores.{Core, Seen, core, cores, open_ones, seen}

some_is : {X : Type 0} (x y : X) → Some x ≡ Some y → x ≡ y
some_is x y is = cc

same_in : {T : Type 0} (xs : List (Socket T)) (p : ℕ) (s t : Socket T) → slice_get xs p ≡ Some s → core t ≡ core s
    → cores (slice_set xs p t) ≡ cores xs
same_in [] p s t at same = refl
same_in (x ∷ xs) zero s t at same = ap (λ c. c ∷ cores xs) (same ∙ sym (ap core (some_is x s at)))
same_in (x ∷ xs) (suc p) s t at same = ap (λ c. core x ∷ c) (same_in xs p s t at same)

pub item_at : {A : Type 0} (v : Vec A Global) (p : ℕ) (x : A) → p < vec_len v → x ≡ slice_index_or v.items p x → slice_get v.items p ≡ Some x
item_at v p x lt is = slice_get-get_or v.items p x (omega (arith, lt, v.ok.0)) ∙ sym (ap (λ y. Some y) is)

-- of one only what is remembered of its turns changed
pub same_at : {S T : Type 0} (h : Host S) (v : Vec (Socket T) Global) (p : ℕ) (s t : Socket T) → p < vec_len v → s ≡ slice_index_or v.items p s
    → core t ≡ core s → seen h (slice_set v.items p t) ≡ seen h v.items
same_at h v p s t lt is same = ap (λ x. record { host = h; sockets = x }) (same_in v.items p s t (item_at v p s lt is) same)

pub held_in : {T : Type 0} (xs : List (Socket T)) (p : ℕ) (s : Socket T) → p < length xs → s ≡ slice_index_or xs p s
    → slice_get (cores xs) p ≡ Some (core s)
held_in xs p s lt is = slice_get-map core xs p ∙ ap (option_map core) (slice_get-get_or xs p s lt ∙ sym (ap (λ y. Some y) is))

pub held_at : {T : Type 0} (v : Vec (Socket T) Global) (p : ℕ) (s : Socket T) → p < vec_len v → s ≡ slice_index_or v.items p s
    → slice_get (cores v.items) p ≡ Some (core s)
held_at v p s lt is = slice_get-map core v.items p ∙ ap (option_map core) (item_at v p s lt is)

pub set_at : {T : Type 0} (xs : List (Socket T)) (p : ℕ) (t : Socket T) → cores (slice_set xs p t) ≡ slice_set (cores xs) p (core t)
set_at xs p t = map-set core xs p t

pub removed : {T : Type 0} (xs : List (Socket T)) (p : ℕ) → cores (remove xs p) ≡ remove (cores xs) p
removed [] zero = refl
removed [] (suc p) = refl
removed (x ∷ xs) zero = refl
removed (x ∷ xs) (suc p) = ap (λ c. core x ∷ c) (removed xs p)

kept : {T : Type 0} (b : Bool) (x : Socket T) (xs ys : List (Socket T)) → cores (cond b (x ∷ xs) ys) ≡ cond b (core x ∷ cores xs) (cores ys)
kept true x xs ys = refl
kept false x xs ys = refl

pub swept : {T : Type 0} (xs : List (Socket T)) → cores (filter (λ s. not s.is_ended) xs) ≡ open_ones (cores xs)
swept [] = refl
swept (x ∷ xs) = kept (not x.is_ended) x (filter (λ s. not s.is_ended) xs) (filter (λ s. not s.is_ended) xs)
    ∙ ap (λ ys. cond (not x.is_ended) (core x ∷ ys) ys) (swept xs)
