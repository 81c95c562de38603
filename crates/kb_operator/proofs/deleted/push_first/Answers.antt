use Rattle.std.proofs.Common.{◌≡◌, ◌∙◌, ◌+◌, ◌-◌, ◌<◌, ◌++◌, ◌∷◌, ℕ, zero, suc, List, ap, append_assoc, arith, string_bytes, sym, take}
use Rattle.std.specs.List.{flat_map}
use Rattle.std.specs.declared.string.String.{String}
use Rattle.kb_operator.specs.Found.{deleted_part}
use Rattle.kb_operator.proofs.deleted.push_first.Goals as goal

-- one tenant more, while there is room
one_more : {A : Type 0} (front new : List ℕ) (room : ℕ) (x : String A × ℕ) (es rest : List (String A × ℕ)) (all : List ℕ) → 0 < room → es ≡ x ∷ rest
    → new ≡ front ++ deleted_part x → front ++ flat_map deleted_part (take room es) ≡ all → new ++ flat_map deleted_part (take (room - 1) rest) ≡ all
one_more front new zero x es rest all l is n told = absurd (omega arith)
one_more front new (suc r) x es rest all l is n told =
    let less : suc r - 1 ≡ r = omega arith in
    ap (λ k. new ++ flat_map deleted_part (take k rest)) less
    ∙ ap (λ t. t ++ flat_map deleted_part (take r rest)) n
    ∙ append_assoc front (deleted_part x) (flat_map deleted_part (take r rest))
    ∙ ap (λ ys. front ++ flat_map deleted_part (take (suc r) ys)) (sym is) ∙ told

pub loop-tenant-preserved : goal.loop-tenant-preserved
loop-tenant-preserved c =
    let front = string_bytes c.loop-tenant.text in
    one_more front (string_bytes c.push_str.new.self) c.loop-tenant.room (c.in-Some.tenant.now, c.in-Some.files.now)
    c.loop-tenant.tenant-iterator c.next.new.self _ (omega (arith, c.if-room-eq0.false)) c.in-Some.ensures.steps
    (c.in_ok-push_str.ensures.bytes ∙ ap (λ p. front ++ p) (c.deref.ensures ∙ c.in_ok-part.ensures)) c.loop-tenant.invariant
