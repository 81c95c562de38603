use Rattle.std.proofs.Common.{◌≡◌, ◌++◌, ◌∷◌, [], ℕ, List, codes}
use Rattle.kb_operator.specs.Report.{lines_text}
use Rattle.kb_operator.specs.Shown.{count_line}
use Rattle.kb_operator.proofs.Pushed.{line_more, line_ok, line_one}
use Rattle.kb_operator.proofs.shown.push_sizes.Goals as goal

pub returns : goal.returns
returns c =
    let t = c.args.text.now.items in
    let d0 : List (List ℕ) = count_line (codes "segment_bytes") c.args.settings.now.segment_bytes ∷ [] in
    let i0 : c.push_count.new.text.items ≡ t ++ lines_text d0 = line_one t c.push_count.new.text.items (count_line (codes "segment_bytes") c.args.settings.now.segment_bytes) c.in_ok-push_count.ensures in
    let d1 : List (List ℕ) = d0 ++ (count_line (codes "cache_batches") c.args.settings.now.cache_batches) ∷ [] in
    let i1 : c.push_count-2.new.text.items ≡ t ++ lines_text d1 = line_more t c.push_count.new.text.items c.push_count-2.new.text.items d0 (count_line (codes "cache_batches") c.args.settings.now.cache_batches) i0 c.in_ok-push_count-2.ensures in
    let d2 : List (List ℕ) = d1 ++ (count_line (codes "cache_bytes") c.args.settings.now.cache_bytes) ∷ [] in
    let i2 : c.push_count-3.new.text.items ≡ t ++ lines_text d2 = line_more t c.push_count-2.new.text.items c.push_count-3.new.text.items d1 (count_line (codes "cache_bytes") c.args.settings.now.cache_bytes) i1 c.in_ok-push_count-3.ensures in
    let d3 : List (List ℕ) = d2 ++ (count_line (codes "connections") c.args.settings.now.connections) ∷ [] in
    let i3 : c.push_count-4.new.text.items ≡ t ++ lines_text d3 = line_more t c.push_count-3.new.text.items c.push_count-4.new.text.items d2 (count_line (codes "connections") c.args.settings.now.connections) i2 c.in_ok-push_count-4.ensures in
    line_ok c.push_count-5.result t c.push_count-4.new.text.items c.push_count-5.new.text.items d3 (count_line (codes "output_bytes") c.args.settings.now.output_bytes) i3 c.push_count-5.ensures
