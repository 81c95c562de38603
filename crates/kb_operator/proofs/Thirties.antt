-- Lines of tenants, thirty in each.
use Rattle.std.proofs.Common.{◌≡◌, ◌∙◌, ◌-◌, ◌<◌, ◌≤◌, ◌+◌, ◌++◌, ◌∷◌, ℕ, zero, suc, List, [], drop, take, ap, append-nil, append_assoc, arith, sym}
use Rattle.kb_operator.specs.declared.counts.TenantRefusals.{TenantRefusals}
use Rattle.kb_operator.specs.declared.journal.Closed.{Closed}
use Rattle.kb_operator.specs.declared.journal.Tenant.{Tenant}
use Rattle.kb_operator.specs.Logged.{texts_of}
use Rattle.kb_operator.specs.Refused.{closed_line, closed_lines, in_thirties, none_closed, refused_line, refused_lines}

-- one line, and those of the tenants behind it
pub next_thirty : (n i : ℕ) (ts : List Tenant) → i < n → in_thirties (n - i) ts ≡ take 30 ts ∷ in_thirties (n - (i + 1)) (drop 30 ts)
next_thirty n i ts lt =
    let more : n - i ≡ suc (n - (i + 1)) = omega (arith, lt) in
    ap (λ k. in_thirties k ts) more

-- no line is left
pub no_thirty : (n i : ℕ) (ts : List Tenant) → n ≤ i → in_thirties (n - i) ts ≡ []
no_thirty n i ts is = let none : n - i ≡ zero = omega (arith, is) in ap (λ k. in_thirties k ts) none

-- one more line is told
pub closed_next : (closed : ℕ → ℕ) (c : Closed) (n i : ℕ) (told all : List (List ℕ)) (ts : List Tenant) → i < n
    → told ++ closed_lines closed c (in_thirties (n - i) ts) ≡ all
    → (told ++ texts_of (closed_line closed c (take 30 ts))) ++ closed_lines closed none_closed (in_thirties (n - (i + 1)) (drop 30 ts)) ≡ all
closed_next closed c n i told all ts lt is =
    append_assoc told (texts_of (closed_line closed c (take 30 ts))) (closed_lines closed none_closed (in_thirties (n - (i + 1)) (drop 30 ts)))
    ∙ ap (λ tss. told ++ closed_lines closed c tss) (sym (next_thirty n i ts lt)) ∙ is

pub refused_next : (refused : ℕ → TenantRefusals) (unbound disk : ℕ) (whose : List ℕ) (n i : ℕ) (told all : List (List ℕ)) (ts : List Tenant) → i < n
    → told ++ refused_lines refused unbound disk whose (in_thirties (n - i) ts) ≡ all
    → (told ++ texts_of (refused_line refused unbound disk whose (take 30 ts)))
    ++ refused_lines refused 0 disk whose (in_thirties (n - (i + 1)) (drop 30 ts)) ≡ all
refused_next refused unbound disk whose n i told all ts lt is =
    append_assoc told (texts_of (refused_line refused unbound disk whose (take 30 ts)))
    (refused_lines refused 0 disk whose (in_thirties (n - (i + 1)) (drop 30 ts)))
    ∙ ap (λ tss. told ++ refused_lines refused unbound disk whose tss) (sym (next_thirty n i ts lt)) ∙ is

-- all are told
pub closed_all : (closed : ℕ → ℕ) (c : Closed) (n i : ℕ) (told all : List (List ℕ)) (ts : List Tenant) → n ≤ i
    → told ++ closed_lines closed c (in_thirties (n - i) ts) ≡ all → told ≡ all
closed_all closed c n i told all ts end is =
    sym (append-nil told) ∙ ap (λ tss. told ++ closed_lines closed c tss) (sym (no_thirty n i ts end)) ∙ is

pub refused_all : (refused : ℕ → TenantRefusals) (unbound disk : ℕ) (whose : List ℕ) (n i : ℕ) (told all : List (List ℕ)) (ts : List Tenant) → n ≤ i
    → told ++ refused_lines refused unbound disk whose (in_thirties (n - i) ts) ≡ all → told ≡ all
refused_all refused unbound disk whose n i told all ts end is =
    sym (append-nil told) ∙ ap (λ tss. told ++ refused_lines refused unbound disk whose tss) (sym (no_thirty n i ts end)) ∙ is
