-- A page that was filled for a request, as its answer.
use Rattle.std.proofs.Common.{◌≡◌, List, ℕ, OnOk, Result, Ok, Err, refl, subst}
use Rattle.http_server.specs.declared.response.Response.{Response}
use Rattle.kb_pages.specs.Answer.{IsPage, Told}
use Rattle.kb_pages.specs.declared.route.Page.{Page}

pub answered : {X E A : Type 0} (self : A) (told : Told) (name other : List ℕ) (page shown : Page) (r : Response) (result : Result X E)
    → name ≡ other → page ≡ shown → OnOk result (IsPage told name page r) → OnOk result ((self ≡ self) × IsPage told other shown r)
answered self told name other page shown r (Ok x) en ep h =
    (refl, subst (λ p. IsPage told other p r) ep (subst (λ n. IsPage told n page r) en h))
answered self told name other page shown r (Err e) en ep h = h
