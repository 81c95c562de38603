-- The choice of a protocol, member by member and name by name.
use Rattle.std.proofs.Common.{◌≡◌, ℕ, ◌+◌, ◌<◌, ◌≤◌, List, [], ◌∷◌, length, Option, Some, None, slice_get, get_or, drop, map, refl, sym, ap, ◌∙◌, Bool, true, false, ◌&&◌, ◌||◌, if◌then◌else◌}
use Rattle.kb_groups.specs.declared.member.Member.{Member}
use Rattle.kb_groups.specs.Members.{Roster, member, has_none}
use Rattle.kb_groups.specs.Calls.{others, is_that}
use Rattle.kb_groups.specs.Protocols.{lists, all_list, common, names_of, or_empty, protocols_of, chosen}
use Rattle.kb_groups.specs.declared.protocol.Protocol.{Protocol}
use Rattle.kb_groups.proofs.Steps.{drop_next, drop_end, at_index}

pub none_but_stop : (but : Option ℕ) (i : ℕ) (es : Roster) (n : ℕ) (m : Member) (all : Bool) → has_none (others but (drop i es)) ≡ all → Some (n, m) ≡ slice_get es i → false ≡ is_that but n → false ≡ all
unfolding others
none_but_stop but i es n m all inv at differ = ap (λ b. has_none (if b then others but (drop (i + 1) es) else (n, m) ∷ others but (drop (i + 1) es))) differ ∙ sym (ap (λ l. has_none (others but l)) (drop_next i es (n, m) (sym at))) ∙ inv

pub none_but_go : (but : Option ℕ) (i : ℕ) (es : Roster) (n : ℕ) (m : Member) (all : Bool) → has_none (others but (drop i es)) ≡ all → Some (n, m) ≡ slice_get es i → true ≡ is_that but n → has_none (others but (drop (i + 1) es)) ≡ all
unfolding others
none_but_go but i es n m all inv at same = ap (λ b. has_none (if b then others but (drop (i + 1) es) else (n, m) ∷ others but (drop (i + 1) es))) same ∙ sym (ap (λ l. has_none (others but l)) (drop_next i es (n, m) (sym at))) ∙ inv

pub none_but_end : (but : Option ℕ) (i : ℕ) (es : Roster) (all : Bool) → has_none (others but (drop i es)) ≡ all → length es ≤ i → true ≡ all
unfolding others
none_but_end but i es all inv h = sym (ap (λ l. has_none (others but l)) (drop_end i es h)) ∙ inv

-- One member: it is left out, or lists the name.
all_list_others : (but : Option ℕ) (e : ℕ × Member) (es : Roster) (name : List ℕ) → all_list (others but (e ∷ es)) name ≡ ((is_that but e.0 || lists e.1.protocols name) && all_list (others but es) name)
unfolding others all_list
all_list_others but e es name = elim (is_that but e.0) as (λ b. all_list (if b then others but es else e ∷ others but es) name ≡ ((b || lists e.1.protocols name) && all_list (others but es) name)) [ true ↦ refl | false ↦ refl ]

pub all_list_stop : (but : Option ℕ) (i : ℕ) (es : Roster) (n : ℕ) (m : Member) (name : List ℕ) (all : Bool) → all_list (others but (drop i es)) name ≡ all → Some (n, m) ≡ slice_get es i → false ≡ (is_that but n || lists m.protocols name) → false ≡ all
all_list_stop but i es n m name all inv at differ = ap (λ b. b && all_list (others but (drop (i + 1) es)) name) differ ∙ sym (all_list_others but (n, m) (drop (i + 1) es) name) ∙ sym (ap (λ l. all_list (others but l) name) (drop_next i es (n, m) (sym at))) ∙ inv

pub all_list_go : (but : Option ℕ) (i : ℕ) (es : Roster) (n : ℕ) (m : Member) (name : List ℕ) (all : Bool) → all_list (others but (drop i es)) name ≡ all → Some (n, m) ≡ slice_get es i → true ≡ (is_that but n || lists m.protocols name) → all_list (others but (drop (i + 1) es)) name ≡ all
all_list_go but i es n m name all inv at same = ap (λ b. b && all_list (others but (drop (i + 1) es)) name) same ∙ sym (all_list_others but (n, m) (drop (i + 1) es) name) ∙ sym (ap (λ l. all_list (others but l) name) (drop_next i es (n, m) (sym at))) ∙ inv

pub all_list_end : (but : Option ℕ) (i : ℕ) (es : Roster) (name : List ℕ) (all : Bool) → all_list (others but (drop i es)) name ≡ all → length es ≤ i → true ≡ all
unfolding others all_list
all_list_end but i es name all inv h = sym (ap (λ l. all_list (others but l) name) (drop_end i es h)) ∙ inv

module _ {N : Type 0} (f : N → List ℕ) (ms : Roster) where
  pub common_stop : (i : ℕ) (names : List N) (x : N) (all : Option (List ℕ)) → common (map f (drop i names)) ms ≡ all → i < length names → x ≡ get_or names i x → true ≡ all_list ms (f x) → Some (f x) ≡ all
  unfolding common
  common_stop i names x all inv h e same = ap (λ b. if b then Some (f x) else common (map f (drop (i + 1) names)) ms) same ∙ sym (ap (λ l. common (map f l) ms) (drop_next i names x (at_index names i x h e))) ∙ inv

  pub common_go : (i : ℕ) (names : List N) (x : N) (all : Option (List ℕ)) → common (map f (drop i names)) ms ≡ all → i < length names → x ≡ get_or names i x → false ≡ all_list ms (f x) → common (map f (drop (i + 1) names)) ms ≡ all
  unfolding common
  common_go i names x all inv h e differ = ap (λ b. if b then Some (f x) else common (map f (drop (i + 1) names)) ms) differ ∙ sym (ap (λ l. common (map f l) ms) (drop_next i names x (at_index names i x h e))) ∙ inv

  pub common_end : (i : ℕ) (names : List N) (all : Option (List ℕ)) → common (map f (drop i names)) ms ≡ all → length names ≤ i → None ≡ all
  unfolding common
  common_end i names all inv h = sym (ap (λ l. common (map f l) ms) (drop_end i names h)) ∙ inv

-- The members but none are the members.
pub others_none : (ms : Roster) → others None ms ≡ ms
unfolding others
others_none [] = refl
others_none (e ∷ ms) = ap (λ l. e ∷ l) (others_none ms)

-- The choice, from the leader's names and all members.
pub chosen_is : (leader : ℕ) (ms : Roster) (m : Member) (ps : List Protocol) (o : Option (List ℕ)) → Some m ≡ member ms leader → ps ≡ m.protocols → o ≡ common (map (λ p. p.name) ps) (others None ms) → or_empty o ≡ chosen leader ms
unfolding chosen
chosen_is leader ms m ps o at own e =
    ap or_empty (e ∙ (λ j. common (map (λ p. p.name) (own j)) (others_none ms j))) ∙ ap (λ x. or_empty (common (names_of (protocols_of x)) ms)) at

-- No member leads.
pub chosen_none : (leader : ℕ) (ms : Roster) → None ≡ member ms leader → [] ≡ chosen leader ms
unfolding chosen common
chosen_none leader ms at = ap (λ x. or_empty (common (names_of (protocols_of x)) ms)) at
