-- The connection at a place, and what is found at a number.
use Rattle.std.proofs.Common.{◌≡◌, ◌≢◌, ◌<◌, ◌≤◌, ℕ, suc, List, [], ◌∷◌, length, get_or, set, Option, Some, None, Result, Ok, Err, IfSome, IfNone, refl, sym, ◌∙◌, ap, subst, arith}
use Rattle.std.specs.Option.{is_some}
use Rattle.std.specs.Result.{result_ok}
use Rattle.std.specs.List.{AllByRecursion, remove}
use Rattle.std.specs.List.Sorted.{IsSearchInRange, IsBinarySearchResult, IsNonDecreasingBy}
use Rattle.std.specs.Ordering.{nat_cmp, ordering_index}
use Rattle.std.proofs.lemmas.Bool.Decides.{nat_tests}
use Rattle.std.proofs.lemmas.Cmp.{ranked}
use Rattle.std.proofs.lemmas.List.{get_or-map, get_or_default}
use Rattle.kb_isolation_spec.specs.Session.{new_session}
use Rattle.kb_isolation_spec.specs.Machine.{Line, each_line, on, those}
use Rattle.kb_isolation_spec.specs.Machine.{find_line}
use Rattle.kb_isolation_spec.specs.Broker.{BrokerState, Rising}
use Rattle.kb_isolation_spec.specs.Calls.{closed, left_by, left_in, other_than, output_taken, without_output, is_open, open_in}
use Rattle.kb_isolation_spec.proofs.Sets.{IsAt, rising-places, set-on, each-on_none, find-at, find-none}
use Rattle.kb_isolation_spec.proofs.Steps.{remove-those, those-all}
use Rattle.kb_connection.specs.View.{with_session}
use Rattle.kb_broker.specs.Places.{number_at}

-- 1. Places

-- the connection at a place has that number
pub record IsFound (b : BrokerState) (i n : ℕ) (l : Line) : Type 0 where
  pub at : IsAt b.lines i l
  pub number : l.number ≡ n

pub at-read : (a b : BrokerState) (i : ℕ) (l : Line) → a ≡ b → i < length b.lines → l ≡ get_or a.lines i l → IsAt b.lines i l
at-read a b i l e lt h = record { within = lt; here = h ∙ ap (λ (x : BrokerState). get_or x.lines i l) e }

pub found : (a b : BrokerState) (i n : ℕ) (l : Line) → a ≡ b → i < length b.lines → ((d : Line) → (get_or b.lines i d).number ≡ n) → l ≡ get_or a.lines i l → IsFound b i n l
found a b i n l e lt some h =
    let at = at-read a b i l e lt h in
    record { at = at; number = ap (λ (x : Line). x.number) at.here ∙ some l }

pub find-found : (b : BrokerState) (i n : ℕ) (l : Line) → Rising 0 b.last b.lines → IsFound b i n l → find_line n b.lines ≡ Some l.session
find-found b i n l r f = subst (λ k. find_line k b.lines ≡ Some l.session) f.number (find-at 0 b.last b.lines i l r f.at)

pub number_at-is : (b : BrokerState) (i : ℕ) (l : Line) → IsAt b.lines i l → number_at i b ≡ l.number
number_at-is b i l at = get_or-map (λ (x : Line). x.number) b.lines i l 0 at.within ∙ ap (λ (x : Line). x.number) (sym at.here)

-- 2. The search

all-places : (P : Line → Type 0) (ls : List Line) → ((i : ℕ) (l : Line) → IsAt ls i l → P l) → AllByRecursion P ls
all-places P [] f = tt
all-places P (k ∷ ls) f = (f 0 k (record { within = omega arith; here = refl }), all-places P ls (λ i l a. f (suc i) l (record { within = (let h = a.within in omega arith); here = a.here })))

pub get-at : (ls : List Line) (i : ℕ) (d : Line) → i < length ls → IsAt ls i (get_or ls i d)
get-at ls i d lt = record { within = lt; here = get_or_default ls i d (get_or ls i d) lt }

numbers-rise : (last : ℕ) (ls : List Line) (i j : ℕ) (d : Line) → Rising 0 last ls → i ≤ j → j < length ls → (get_or ls i d).number ≤ (get_or ls j d).number
numbers-rise last ls i j d r le lt =
    let low = λ (h : i < j). rising-places 0 last ls i j (get_or ls i d) (get_or ls j d) r (get-at ls i d (omega arith)) (get-at ls j d lt) h in
    let same = λ (h : i ≡ j). ap (λ k. (get_or ls k d).number) h in
    grind (arith, low, same)

comparisons-rise : (n last : ℕ) (ls : List Line) → Rising 0 last ls → IsNonDecreasingBy (λ (l : Line). ordering_index (nat_cmp l.number n)) ls
comparisons-rise n last ls r i j d le lt = let h = numbers-rise last ls i j d r le lt in grind (arith, nat_tests)

missing : (n last : ℕ) (ls : List Line) (r : Result ℕ ℕ) → Rising 0 last ls → IsSearchInRange r (length ls) → IsBinarySearchResult (λ (l : Line). nat_cmp l.number n) ls r → IfNone (result_ok r) (AllByRecursion (λ l. l.number ≢ n) ls)
missing n last ls (Ok i) up within is = tt
missing n last ls (Err i) up within is =
    let parts = is (comparisons-rise n last ls up) in
    all-places (λ l. l.number ≢ n) ls (λ j l a e.
    let at = ap (λ (x : Line). x.number) a.here in
    let below = λ (h : j < i). ranked (get_or ls j l).number n _ (sym (parts.0 j l (omega arith) h)) in
    let above = λ (h : i ≤ j). ranked (get_or ls j l).number n _ (sym (parts.1 j l h a.within)) in
    grind (arith, at, below, above))

present : (n : ℕ) (ls : List Line) (r : Result ℕ ℕ) → IsBinarySearchResult (λ (l : Line). nat_cmp l.number n) ls r → IfSome (result_ok r) (λ i. (d : Line) → (get_or ls i d).number ≡ n)
present n ls (Ok i) is = λ d. ranked (get_or ls i d).number n _ (sym (is d))
present n ls (Err i) is = tt

-- what a binary search among rising numbers finds
pub searched-none : (b : BrokerState) (n : ℕ) (ls : List Line) (r : Result ℕ ℕ) (o : Option ℕ) → ls ≡ b.lines → o ≡ result_ok r → Rising 0 b.last b.lines → IsSearchInRange r (length ls) → IsBinarySearchResult (λ (l : Line). nat_cmp l.number n) ls r → IfNone o (AllByRecursion (λ l. l.number ≢ n) b.lines)
searched-none b n ls r o e f up within is =
    let h : IfNone o (AllByRecursion (λ l. l.number ≢ n) ls) = subst (λ x. IfNone x (AllByRecursion (λ l. l.number ≢ n) ls)) (sym f) (missing n b.last ls r (subst (Rising 0 b.last) (sym e) up) within is) in
    subst (λ x. IfNone o (AllByRecursion (λ l. l.number ≢ n) x)) e h

pub searched-some : (b : BrokerState) (n : ℕ) (ls : List Line) (r : Result ℕ ℕ) (o : Option ℕ) → ls ≡ b.lines → o ≡ result_ok r → IsBinarySearchResult (λ (l : Line). nat_cmp l.number n) ls r → IfSome o (λ i. (d : Line) → (get_or b.lines i d).number ≡ n)
searched-some b n ls r o e f is =
    let h : IfSome o (λ i. (d : Line) → (get_or ls i d).number ≡ n) = subst (λ x. IfSome x (λ i. (d : Line) → (get_or ls i d).number ≡ n)) (sym f) (present n ls r is) in
    subst (λ x. IfSome o (λ i. (d : Line) → (get_or x i d).number ≡ n)) e h

-- 3. What a call at a number leaves

pub open-found : (b : BrokerState) (n : ℕ) (o : Option ℕ) → Rising 0 b.last b.lines → IfNone o (AllByRecursion (λ l. l.number ≢ n) b.lines) → IfSome o (λ i. i < length b.lines) → IfSome o (λ i. (d : Line) → (get_or b.lines i d).number ≡ n) → is_some o ≡ is_open n b
open-found b n None r none within some = sym (ap open_in (find-none n b.lines none))
open-found b n (Some i) r none within some =
    let d : Line = record { number = 0; session = new_session 0 } in
    let l = get_or b.lines i d in
    sym (ap open_in (find-found b i n l r (record { at = get-at b.lines i d within; number = some d })))

-- the connection at a place, in the state in which a member of a group that waited on it waits no longer
pub record IsLeft (c b : BrokerState) (i n : ℕ) (l : Line) : Type 0 where
  pub found : IsFound b i n l
  pub is : c ≡ record b { tenants = left_by b.clock l.number l.session.stage b.tenants }

pub left-found : (a c b : BrokerState) (i n : ℕ) (l : Line) → a ≡ c → ((d : Line) → let k = get_or b.lines i d in c ≡ record b { tenants = left_by b.clock k.number k.session.stage b.tenants }) → i < length b.lines → ((d : Line) → (get_or b.lines i d).number ≡ n) → l ≡ get_or a.lines i l → IsLeft c b i n l
left-found a c b i n l e left lt some h =
    let here : l ≡ get_or b.lines i l = h ∙ ap (λ (x : BrokerState). get_or x.lines i l) (e ∙ left l) in
    record {
      found = record { at = record { within = lt; here = here }; number = ap (λ (x : Line). x.number) here ∙ some l };
      is = left l ∙ ap (λ (x : Line). record b { tenants = left_by b.clock x.number x.session.stage b.tenants }) (sym here);
    }

pub closed-found : (a c b : BrokerState) (i n : ℕ) (l : Line) (ls : List Line) → a ≡ c → Rising 0 b.last b.lines → IsLeft c b i n l → ls ≡ remove a.lines i → record a { lines = ls } ≡ closed b n
closed-found a c b i n l ls e r f h =
    let ts = left_by b.clock l.number l.session.stage b.tenants in
    let is = e ∙ f.is in
    let same : ls ≡ remove b.lines i = h ∙ ap (λ (x : BrokerState). remove x.lines i) is in
    let cut : ls ≡ those (other_than n) b.lines = same ∙ (remove-those 0 b.last b.lines i l r f.found.at ∙ ap (λ k. those (other_than k) b.lines) f.found.number) in
    let left : ts ≡ left_in b.clock n (find_line n b.lines) b.tenants = ap (λ k. left_by b.clock k l.session.stage b.tenants) f.found.number ∙ ap (λ o. left_in b.clock n o b.tenants) (sym (find-found b i n l r f.found)) in
    ap (λ (x : BrokerState). record x { lines = ls }) is ∙ (ap (λ x. record b { tenants = ts; lines = x }) cut ∙ ap (λ x. record b { tenants = x; lines = those (other_than n) b.lines }) left)

pub closed-none : (b : BrokerState) (n : ℕ) → AllByRecursion (λ l. l.number ≢ n) b.lines → b ≡ closed b n
closed-none b n h =
    ap (λ o. record b { tenants = left_in b.clock n o b.tenants }) (sym (find-none n b.lines h))
    ∙ ap (λ x. record b { tenants = left_in b.clock n (find_line n b.lines) b.tenants; lines = x }) (sym (those-all n b.lines h))

pub taken-found : (a b : BrokerState) (i n : ℕ) (l m : Line) → a ≡ b → Rising 0 b.last b.lines → IsFound b i n l → m ≡ with_session l (without_output l.session) → record a { lines = set a.lines i m } ≡ output_taken b n
taken-found a b i n l m e r f h =
    let same : set b.lines i m ≡ each_line (on l.number without_output) b.lines = set-on 0 b.last without_output b.lines i l m r f.at (ap (λ (x : Line). x.number) h) (ap (λ (x : Line). x.session) h) in
    ap (λ (x : BrokerState). record x { lines = set x.lines i m }) e ∙ (ap (λ x. record b { lines = x }) same ∙ ap (λ k. output_taken b k) f.number)

pub taken-none : (b : BrokerState) (n : ℕ) → AllByRecursion (λ l. l.number ≢ n) b.lines → b ≡ output_taken b n
taken-none b n h = sym (ap (λ x. record b { lines = x }) (each-on_none n without_output b.lines h))
