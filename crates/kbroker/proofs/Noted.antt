-- What is noted of each tenant, place by place.
use Rattle.std.proofs.Common.{◌≡◌, ◌∙◌, ◌+◌, ◌<◌, ◌≤◌, ℕ, zero, suc, List, [], ◌∷◌, length, take, Option, Some, None, refl, sym, ap, arith, add-one, slice_get}
use Rattle.kb_metrics.specs.Rates.{History, noted_both}
use Rattle.kb_node.specs.declared.tenant_traffic.TenantTraffic.{TenantTraffic}
use Rattle.kbroker.specs.Server.{noted_at, noted_each}

take_nothing : (n : ℕ) → take {A = TenantTraffic} n [] ≡ []
take_nothing zero = refl
take_nothing (suc n) = refl

each_of_none : (s : ℕ) (ts : List TenantTraffic) → noted_each s ts [] ≡ []
each_of_none s [] = refl
each_of_none s (t ∷ ts) = refl

-- as many rates as before
pub as_many : (s : ℕ) (ts : List TenantTraffic) (hs : List History) → length (noted_each s ts hs) ≡ length hs
as_many s [] hs = refl
as_many s (t ∷ ts) [] = refl
as_many s (t ∷ ts) (h ∷ hs) = ap suc (as_many s ts hs)

behind : (s place : ℕ) (o : Option TenantTraffic) (h : History) (hs : List History) → noted_at s (suc place) o (h ∷ hs) ≡ h ∷ noted_at s place o hs
behind s place None h hs = refl
behind s place (Some t) h hs = refl

one : (s : ℕ) (ts : List TenantTraffic) (hs : List History) (place : ℕ) → place < length hs
    → noted_each s (take (suc place) ts) hs ≡ noted_at s place (slice_get ts place) (noted_each s (take place ts) hs)
one s [] hs place lt = sym (ap (λ ts. noted_each s ts hs) (take_nothing place))
one s (t ∷ ts) [] place lt = absurd (omega arith)
one s (t ∷ ts) (h ∷ hs) zero lt = refl
one s (t ∷ ts) (h ∷ hs) (suc k) lt =
    let first = noted_both s t.request_bytes t.response_bytes h in
    ap (λ xs. first ∷ xs) (one s ts hs k (omega (arith, lt))) ∙ sym (behind s k (slice_get ts k) first (noted_each s (take k ts) hs))

-- one more place
pub one_more : (s : ℕ) (ts : List TenantTraffic) (hs old new : List History) (place : ℕ) (o : Option TenantTraffic) → place < length hs
    → old ≡ noted_each s (take place ts) hs → o ≡ slice_get ts place → new ≡ noted_at s place o old → new ≡ noted_each s (take (place + 1) ts) hs
one_more s ts hs old new place o lt before there noted =
    noted ∙ ap (λ x. noted_at s place x old) there ∙ ap (noted_at s place (slice_get ts place)) before ∙ sym (one s ts hs place lt)
    ∙ ap (λ n. noted_each s (take n ts) hs) (sym (add-one place))

-- all places
pub at_all : (s : ℕ) (ts : List TenantTraffic) (hs : List History) (n : ℕ) → length hs ≤ n → noted_each s (take n ts) hs ≡ noted_each s ts hs
at_all s [] hs n le = ap (λ ts. noted_each s ts hs) (take_nothing n)
at_all s (t ∷ ts) [] n le = each_of_none s (take n (t ∷ ts))
at_all s (t ∷ ts) (h ∷ hs) zero le = absurd (omega arith)
at_all s (t ∷ ts) (h ∷ hs) (suc n) le = ap (λ xs. noted_both s t.request_bytes t.response_bytes h ∷ xs) (at_all s ts hs n (omega (arith, le)))
