-- The first bytes of a name are kept in place.
use Rattle.std.proofs.Common.{◌≡◌, ◌≤◌, ◌-◌, ◌++◌, ℕ, List, length, take, drop, replicate, min, refl, sym, ap, ◌∙◌, subst, arith, length-append, length-take-le}
use Rattle.std.proofs.Math.Seq.{drop-append_seam, take-append_seam}
use Rattle.std.proofs.lemmas.List.{drop-replicate, length-replicate, take_min}
use Rattle.kb_isolation_spec.specs.Names.{IsInPlace, kept_name}

-- they stand in front, and zeros behind them
pub put-in-place : (len : ℕ) (name part zeros : List ℕ) → len ≡ min 64 (length name) → part ≡ take len name → zeros ≡ replicate 64 0 → IsInPlace len (part ++ drop len zeros)
put-in-place len name part zeros least is none =
    let short : len ≤ 64 = omega (arith, least) in
    let within : len ≤ length name = omega (arith, least) in
    let long : length part ≡ len = ap length is ∙ length-take-le len name within in
    let rest : drop len zeros ≡ replicate (64 - len) 0 = ap (drop len) none ∙ drop-replicate len 64 0 in
    let behind : length (drop len zeros) ≡ 64 - len = ap length rest ∙ length-replicate (64 - len) 0 in
    let seam : drop (length part) (part ++ drop len zeros) ≡ replicate (64 - len) 0 = drop-append_seam part (drop len zeros) ∙ rest in (
      short,
      omega (arith, short, length-append part (drop len zeros), long, behind),
      subst (λ n. drop n (part ++ drop len zeros) ≡ replicate (64 - len) 0) long seam,
    )

pub put-kept : (len : ℕ) (name part rest : List ℕ) → len ≡ min 64 (length name) → part ≡ take len name → take len (part ++ rest) ≡ kept_name name
put-kept len name part rest least is =
    let within : len ≤ length name = omega (arith, least) in
    let long : length part ≡ len = ap length is ∙ length-take-le len name within in
    subst (λ n. take n (part ++ rest) ≡ part) long (take-append_seam part rest) ∙ (is ∙ (ap (λ n. take n name) least ∙ take_min 64 name))
