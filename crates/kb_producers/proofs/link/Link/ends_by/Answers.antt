use Rattle.std.proofs.Common.{rules, ◌≡◌, refl, pos, ◌+ℤ◌, to_z, w64, FitsSigned}
use Rattle.std.proofs.lemmas.Int.{to_z-of_z}
use mir.Syntax.{w128}
use Rattle.kb_producers.proofs.link.Link.ends_by.Goals as goal

pub returns : goal.returns
returns c =
    let base : FitsSigned w64 c.args.self.now.base_offset = search rules in
    let wide_base : FitsSigned w128 c.args.self.now.base_offset = search rules in
    let offset : FitsSigned w64 c.args.offset = search rules in
    let wide_offset : FitsSigned w128 c.args.offset = search rules in
    let count : to_z w128 c.args.self.now.record_count ≡ pos c.args.self.now.record_count = search rules in
    let end : FitsSigned w128 (c.args.self.now.base_offset +ℤ pos c.args.self.now.record_count) = search rules in
    simp (to_z-of_z, count) refl
