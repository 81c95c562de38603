use Rattle.std.proofs.Common.{◌≡◌, ◌++◌, ◌∷◌, [], ℕ, List, codes}
use Rattle.kb_operator.specs.Report.{lines_text}
use Rattle.kb_operator.specs.Shown.{count_line}
use Rattle.kb_operator.proofs.Pushed.{line_more, line_ok, line_one}
use Rattle.kb_operator.proofs.shown.push_requests.Goals as goal

pub returns : goal.returns
returns c =
    let t = c.args.text.now.items in
    let d0 : List (List ℕ) = count_line (codes "request_seconds") c.args.requests.now.request_seconds ∷ [] in
    let i0 : c.push_count.new.text.items ≡ t ++ lines_text d0 = line_one t c.push_count.new.text.items (count_line (codes "request_seconds") c.args.requests.now.request_seconds) c.in_ok-push_count.ensures in
    let d1 : List (List ℕ) = d0 ++ (count_line (codes "idle_seconds") c.args.requests.now.idle_seconds) ∷ [] in
    let i1 : c.push_count-2.new.text.items ≡ t ++ lines_text d1 = line_more t c.push_count.new.text.items c.push_count-2.new.text.items d0 (count_line (codes "idle_seconds") c.args.requests.now.idle_seconds) i0 c.in_ok-push_count-2.ensures in
    let d2 : List (List ℕ) = d1 ++ (count_line (codes "input_bytes") c.args.requests.now.input_bytes) ∷ [] in
    let i2 : c.push_count-3.new.text.items ≡ t ++ lines_text d2 = line_more t c.push_count-2.new.text.items c.push_count-3.new.text.items d1 (count_line (codes "input_bytes") c.args.requests.now.input_bytes) i1 c.in_ok-push_count-3.ensures in
    line_ok c.push_count-4.result t c.push_count-3.new.text.items c.push_count-4.new.text.items d2 (count_line (codes "request_bytes") c.args.requests.now.request_bytes) i2 c.push_count-4.ensures
