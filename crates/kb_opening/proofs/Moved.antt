-- A chain, and what a log has of it, stays where its own files do.
use Rattle.std.proofs.Common.{◌≡◌, ◌∙◌, ℕ, List, [], ◌∷◌, refl, sym, ap, subst, map}
use Rattle.std.specs.Prelude.{unwrap_or, IsPermutation}
use Rattle.std.specs.FinMap.{get}
use Rattle.std.specs.List.{All, Contains}
use Rattle.std.proofs.lemmas.List.Elements.{All-head, All-tail, All-contains_itself}
use Rattle.std.proofs.lemmas.List.Sorted.{All-permutation, IsPermutation-map}
use Rattle.kb_store.specs.Disk.{Files}
use Rattle.kb_segment.specs.Header.{header_in}
use Rattle.kb_log.specs.OnShelf.{Identity}
use Rattle.kb_segment_log.specs.SegmentLog.{IsNamed}
use Rattle.kb_segment_log.specs.Chain.{Chain, Part, base_said, behind_header, part_at, place_at, parts_at, first_of, IsChain, AreInOrder}
use Rattle.kb_segment_log.proofs.Chained.{all_unmap}
use Rattle.kb_tenant_state.specs.Logs.{LogState}
use Rattle.kb_opening.specs.Opened.{IsLogOf}

-- ---- lists

-- What two functions make of each item is the same, and so is what they make of all.
map_agree : {A B : Type 0} (xs : List A) (u v : A → B) → All (λ x. u x ≡ v x) xs → map u xs ≡ map v xs
map_agree [] u v all = refl
map_agree (x ∷ xs) u v all = ap (λ y. y ∷ map u xs) (All-head (λ x. u x ≡ v x) x xs all) ∙ ap (λ ys. v x ∷ ys) (map_agree xs u v (All-tail (λ x. u x ≡ v x) x xs all))

map_back : {A : Type 0} (place : ℕ → A) (file : A → ℕ) → ((n : ℕ) → file (place n) ≡ n) → (numbers : List ℕ) → map file (map place numbers) ≡ numbers
map_back place file back [] = refl
map_back place file back (n ∷ ns) = ap (λ m. m ∷ map file (map place ns)) (back n) ∙ ap (λ ms. n ∷ ms) (map_back place file back ns)

-- The places of some files, in another order, have no other numbers.
among : {A : Type 0} (place : ℕ → A) (file : A → ℕ) → ((n : ℕ) → file (place n) ≡ n) → (numbers : List ℕ) (order : List A) → IsPermutation (map place numbers) order → All (λ p. Contains numbers (file p)) order
among place file back numbers order these =
    let moved : IsPermutation numbers (map file order) = subst (λ ns. IsPermutation ns (map file order)) (map_back place file back numbers) (IsPermutation-map file (map place numbers) order these) in
    all_unmap (Contains numbers) file order (All-permutation (Contains numbers) numbers (map file order) moved (All-contains_itself numbers))

-- ---- files

-- Those files are as they were.
abbrev pub Agree : List ℕ → Files → Files → Type 0
Agree numbers f g = (n : ℕ) → Contains numbers n → get g n ≡ get f n

-- what is read of a file, from its bytes
abbrev part_of : List ℕ → Part
part_of bytes = record { base = base_said (header_in bytes); body = behind_header (header_in bytes) bytes }

part_stays : (f g : Files) (n : ℕ) → get g n ≡ get f n → part_at g n ≡ part_at f n
part_stays f g n e = ap (λ o. part_of (unwrap_or o [])) e

place_stays : (f g : Files) (n : ℕ) → get g n ≡ get f n → place_at g n ≡ place_at f n
place_stays f g n e = ap (λ o. record { base = base_said (header_in (unwrap_or o [])); file = n }) e

-- it is still named as it was
pub named_stays : (who : Identity) (f g : Files) (n : ℕ) → get g n ≡ get f n → IsNamed who f n → IsNamed who g n
named_stays who f g n e i = record { header = i.header; read = ap (λ o. header_in (unwrap_or o [])) e ∙ i.read; names = i.names }

-- ---- the chain

module _ (f g : Files) (numbers : List ℕ) (same : Agree numbers f g) where
  places_stay : map (place_at g) numbers ≡ map (place_at f) numbers
  places_stay = map_agree numbers (place_at g) (place_at f) (λ k d l. place_stays f g _ (same _ (All-contains_itself numbers k d l)))

  module _ (start : ℕ) (bs : List (List ℕ)) (c : Chain f numbers start bs) where
    pub ordered_stays : AreInOrder g numbers c.order
    ordered_stays = record { these = subst (λ ps. IsPermutation ps c.order) (sym places_stay) c.ordered.these; sorted = c.ordered.sorted }

    pub parts_stay : parts_at g c.order ≡ parts_at f c.order
    parts_stay = map_agree c.order (λ p. part_at g p.file) (λ p. part_at f p.file) (λ k d l. part_stays f g _ (same _ (among (place_at f) (λ p. p.file) (λ n. refl) numbers c.order c.ordered.these k d l)))

    -- The same files in the same order, and the same batches up to the same end.
    abbrev pub chain_stays : Chain g numbers start bs
    chain_stays = record {
      order = c.order;
      ordered = ordered_stays;
      end = c.end;
      count = c.count;
      chain = subst (λ ps. IsChain (first_of start c.order) ps bs c.end c.count) (sym parts_stay) c.chain;
    }

  pub log_of_stays : (start : ℕ) (l : LogState) → IsLogOf f numbers start l → IsLogOf g numbers start l
  log_of_stays start l i = record { bs = i.bs; chain = chain_stays start i.bs i.chain; starts = i.starts; ends = i.ends; batches = i.batches }
