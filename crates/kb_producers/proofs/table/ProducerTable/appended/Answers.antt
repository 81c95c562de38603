use Rattle.std.proofs.Common.{◌≡◌, ◌∙◌, ◌≤◌, ◌++◌, ◌∷◌, [], ℤ, ap, filter, length, arith, rules, to_z, of_z, w64}
use Rattle.kb_batch.specs.Batch.{stamped}
use Rattle.kb_producers.specs.Batches.{kept_of, is_idempotent}
use Rattle.kb_producers.specs.declared.kept.Kept.{Kept}
use Rattle.kb_producers.proofs.Stamps.{kept_of_stamped}
use Rattle.kb_producers.proofs.table.ProducerTable.appended.Goals as goal

pub returns : goal.returns
returns c =
    let long : 16 ≤ length c.args.batch.now = omega (arith, c.kept_of.ensures.long) in
    let base : to_z w64 (of_z w64 c.args.base) ≡ c.args.base = search rules in
    let is : c.at.result ≡ kept_of (stamped c.args.base c.args.batch.now) =
    c.at.ensures ∙ ap (λ (b : ℤ). let k : Kept = record c.kept_of.result { base_offset = b } in k) base
    ∙ ap (λ (k : Kept). record k { base_offset = c.args.base }) c.kept_of.ensures.kept ∙ kept_of_stamped c.args.base c.args.batch.now c.ranges.base long in
    c.noted.ensures ∙ ap (λ k. c.args.self.now.kept ++ filter is_idempotent (k ∷ [])) is
