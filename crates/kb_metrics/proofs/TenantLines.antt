-- The lines of a page with the label of the tenant of a name are those of a page of the tenants of that name.
use Rattle.std.proofs.Common.{◌≡◌, ◌∙◌, ℕ, List, [], ◌∷◌, ◌++◌, Bool, true, false, refl, sym, ap, cond, append_assoc, append-nil}
use Rattle.std.proofs.Common.{bytes_eq, filter, map}
use Rattle.std.specs.List.{flat_map}
use Rattle.kb_metrics.specs.Families.{all_families, family_text, head_of, said_of}
use Rattle.kb_metrics.specs.Gauges.{Observed, shown_tenant, tenants_text}
use Rattle.kb_metrics.specs.Lines.{text_of_lines, lines_of, metrics_text, said_of_all}
use Rattle.kb_metrics.specs.Lines as spec
use Rattle.kb_metrics.specs.Rows.{Tenant}
use Rattle.kb_metrics.specs.Server.{process_text, server_text}
use Rattle.kb_metrics.specs.Text.{head_text}
use Rattle.kb_metrics.specs.declared.families.Family.{Family}
use Rattle.kb_metrics.specs.declared.server.ProcessGauges.{ProcessGauges}
use Rattle.kb_metrics.specs.declared.server.ServerGauges.{ServerGauges}
use Rattle.kb_metrics.proofs.Lines.{Says, joined_both, silent_both}
use Rattle.kb_metrics.proofs.Said.{said, silent_family}
use Rattle.kb_metrics.proofs.Unlabelled.{process, server}

-- those of a name
named : List ℕ → List Tenant → List Tenant
named name ts = filter (λ t. bytes_eq t.name name) ts

-- ---- a family

module _ (f : Tenant → List ℕ) (says : (t : Tenant) → Says t.name (f t)) (name : List ℕ) where
  -- where what stands behind has the same lines, the whole has
  same_rows : (ts : List Tenant) (a b : List ℕ) → lines_of name a ≡ lines_of name b
      → lines_of name (flat_map f ts ++ a) ≡ lines_of name (flat_map f (named name ts) ++ b)
  unfolding named
  same_rows [] a b e = e
  same_rows (t ∷ ts) a b e =
      ap (lines_of name) (append_assoc (f t) (flat_map f ts) a) ∙ go (bytes_eq t.name name) refl (same_rows ts a b e)
    where
      go : (c : Bool) → bytes_eq t.name name ≡ c → lines_of name (flat_map f ts ++ a) ≡ lines_of name (flat_map f (named name ts) ++ b)
          → lines_of name (f t ++ (flat_map f ts ++ a)) ≡ lines_of name (flat_map f (cond c (t ∷ named name ts) (named name ts)) ++ b)
      go true own k = (says t).mine name (flat_map f ts ++ a) own ∙ ap (λ ls. (says t).lines ++ ls) k
          ∙ sym ((says t).mine name (flat_map f (named name ts) ++ b) own) ∙ ap (lines_of name) (sym (append_assoc (f t) (flat_map f (named name ts)) b))
      go false own k = (says t).others name (flat_map f ts ++ a) own ∙ k

  -- the lines are what is said of the tenants of that name
  exact_rows : (ts : List Tenant) (rest : List ℕ) → text_of_lines (lines_of name (flat_map f ts ++ rest)) ≡ flat_map f (named name ts) ++ text_of_lines (lines_of name rest)
  unfolding named
  exact_rows [] rest = refl
  exact_rows (t ∷ ts) rest =
      ap (λ x. text_of_lines (lines_of name x)) (append_assoc (f t) (flat_map f ts) rest) ∙ go (bytes_eq t.name name) refl (exact_rows ts rest)
    where
      go : (c : Bool) → bytes_eq t.name name ≡ c → text_of_lines (lines_of name (flat_map f ts ++ rest)) ≡ flat_map f (named name ts) ++ text_of_lines (lines_of name rest)
          → text_of_lines (lines_of name (f t ++ (flat_map f ts ++ rest))) ≡ flat_map f (cond c (t ∷ named name ts) (named name ts)) ++ text_of_lines (lines_of name rest)
      go true own k = ap text_of_lines ((says t).mine name (flat_map f ts ++ rest) own) ∙ joined_both (says t).lines (lines_of name (flat_map f ts ++ rest))
          ∙ ap (λ x. x ++ text_of_lines (lines_of name (flat_map f ts ++ rest))) (says t).whole ∙ ap (λ x. f t ++ x) k
          ∙ sym (append_assoc (f t) (flat_map f (named name ts)) (text_of_lines (lines_of name rest)))
      go false own k = ap text_of_lines ((says t).others name (flat_map f ts ++ rest) own) ∙ k

-- ---- families

regroup : (head said more a : List ℕ) → (head ++ said ++ more) ++ a ≡ head ++ (said ++ (more ++ a))
regroup head said more a = simp append_assoc

behind_head : (name : List ℕ) (family : Family) (said more a : List ℕ)
    → lines_of name ((head_text (head_of family) ++ said ++ more) ++ a) ≡ lines_of name (said ++ (more ++ a))
behind_head name family said more a =
    ap (lines_of name) (regroup (head_text (head_of family)) said more a) ∙ (silent_family family).silent name (said ++ (more ++ a))

same_families : (name : List ℕ) (ts : List Tenant) (fs : List Family) (a b : List ℕ) → lines_of name a ≡ lines_of name b
    → lines_of name (flat_map (family_text ts) fs ++ a) ≡ lines_of name (flat_map (family_text (named name ts)) fs ++ b)
same_families name ts [] a b e = e
same_families name ts (f ∷ fs) a b e =
    behind_head name f (flat_map (said_of f) ts) (flat_map (family_text ts) fs) a
    ∙ same_rows (said_of f) (said f) name ts (flat_map (family_text ts) fs ++ a) (flat_map (family_text (named name ts)) fs ++ b) (same_families name ts fs a b e)
    ∙ sym (behind_head name f (flat_map (said_of f) (named name ts)) (flat_map (family_text (named name ts)) fs) b)

exact_families : (name : List ℕ) (ts : List Tenant) (fs : List Family) (rest : List ℕ)
    → text_of_lines (lines_of name (flat_map (family_text ts) fs ++ rest))
    ≡ flat_map (λ f. flat_map (said_of f) (named name ts)) fs ++ text_of_lines (lines_of name rest)
exact_families name ts [] rest = refl
exact_families name ts (f ∷ fs) rest =
    ap text_of_lines (behind_head name f (flat_map (said_of f) ts) (flat_map (family_text ts) fs) rest)
    ∙ exact_rows (said_of f) (said f) name ts (flat_map (family_text ts) fs ++ rest)
    ∙ ap (λ x. flat_map (said_of f) (named name ts) ++ x) (exact_families name ts fs rest)
    ∙ sym (append_assoc (flat_map (said_of f) (named name ts)) (flat_map (λ g. flat_map (said_of g) (named name ts)) fs) (text_of_lines (lines_of name rest)))

-- ---- the page

seen_named : (name : List ℕ) (os : List Observed) → named name (map shown_tenant os) ≡ map shown_tenant (spec.observed_named name os)
unfolding named
seen_named name [] = refl
seen_named name (o ∷ os) = go (bytes_eq o.name name) (seen_named name os)
  where
    go : (c : Bool) → filter (λ (t : Tenant). bytes_eq t.name name) (map shown_tenant os) ≡ map shown_tenant (spec.observed_named name os)
        → cond c (shown_tenant o ∷ filter (λ (t : Tenant). bytes_eq t.name name) (map shown_tenant os)) (filter (λ (t : Tenant). bytes_eq t.name name) (map shown_tenant os))
        ≡ map shown_tenant (cond c (o ∷ spec.observed_named name os) (spec.observed_named name os))
    go true e = ap (λ ts. shown_tenant o ∷ ts) e
    go false e = e

-- what stands behind the tenants' part is nobody's
behind_tenants : (name : List ℕ) (s : ServerGauges) (p : ProcessGauges) → lines_of name (server_text s ++ process_text p) ≡ lines_of name []
behind_tenants name s p =
    ap (lines_of name) (sym (append-nil (server_text s ++ process_text p))) ∙ (silent_both (server s) (process p)).silent name []

nothing_left : (name : List ℕ) → text_of_lines (lines_of name []) ≡ []
unfolding lines_of
nothing_left name = refl

pub exact : (name : List ℕ) (os : List Observed) (s : ServerGauges) (p : ProcessGauges)
    → text_of_lines (lines_of name (metrics_text os s p)) ≡ said_of_all (map shown_tenant (spec.observed_named name os))
exact name os s p =
    ap (λ x. text_of_lines (lines_of name x)) (append_assoc (tenants_text os) (server_text s) (process_text p))
    ∙ exact_families name (map shown_tenant os) all_families (server_text s ++ process_text p)
    ∙ ap (λ x. said_of_all (named name (map shown_tenant os)) ++ x) (ap text_of_lines (behind_tenants name s p) ∙ nothing_left name)
    ∙ append-nil (said_of_all (named name (map shown_tenant os)))
    ∙ ap said_of_all (seen_named name os)

-- the lines are those of the tenants of that name, with nothing behind them
alone : (name : List ℕ) (os : List Observed) (s : ServerGauges) (p : ProcessGauges)
    → lines_of name (metrics_text os s p) ≡ lines_of name (flat_map (family_text (map shown_tenant (spec.observed_named name os))) all_families ++ [])
alone name os s p =
    ap (lines_of name) (append_assoc (tenants_text os) (server_text s) (process_text p))
    ∙ same_families name (map shown_tenant os) all_families (server_text s ++ process_text p) [] (behind_tenants name s p)
    ∙ ap (λ ts. lines_of name (flat_map (family_text ts) all_families ++ [])) (seen_named name os)

pub alike : (name : List ℕ) (os others : List Observed) (s more : ServerGauges) (p q : ProcessGauges) → spec.observed_named name os ≡ spec.observed_named name others
    → lines_of name (metrics_text os s p) ≡ lines_of name (metrics_text others more q)
alike name os others s more p q e =
    alone name os s p ∙ ap (λ xs. lines_of name (flat_map (family_text (map shown_tenant xs)) all_families ++ [])) e ∙ sym (alone name others more q)
