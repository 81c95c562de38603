use Rattle.std.proofs.Common.{◌≡◌, ◌++◌, take, drop, sym, ap, ◌∙◌, arith, rules, append_assoc, take-append-drop}
use Rattle.std.proofs.lemmas.Grind.{common_steps}
use Rattle.std.proofs.KnownBytes.{Appends-trans, Appends-kept}
use Rattle.kb_operator.proofs.write.write_bytes.Goals as goal
use Rattle.kb_operator.proofs.write.write_bytes.Goals.{in-Ok, in-Err+else-ne}

pub loop-preserved : goal.loop-preserved
loop-preserved g c =
    let i = c.loop.invariant in
    elim c.match-write.branch [
      | in-Ok w ↦
          let left : c.match-write.rest.now ≡ drop w.in-Ok.n c.loop.rest.now = grind (arith, common_steps) in (
            i.0 ++ take w.in-Ok.n c.loop.rest.now,
            i.1 ∙ ap (λ x. i.0 ++ x) (sym (take-append-drop w.in-Ok.n c.loop.rest.now)) ∙ sym (append_assoc i.0 (take w.in-Ok.n c.loop.rest.now) (drop w.in-Ok.n c.loop.rest.now)) ∙ ap (λ x. (i.0 ++ take w.in-Ok.n c.loop.rest.now) ++ x) (sym left),
            Appends-trans _ _ _ _ _ i.2 w.in-Ok.ensures.bytes,
          )
      | in-Err+else-ne w ↦
          let left : c.match-write.rest.now ≡ c.loop.rest.now = search rules in
          (i.0, i.1 ∙ ap (λ x. i.0 ++ x) (sym left), Appends-kept _ _ _ _ i.2 w.in-Err.ensures.bytes)
    ]
