use Rattle.std.proofs.Common.{◌≡◌, ◌++◌, ◌∷◌, [], ℕ, List, codes}
use Rattle.kb_operator.specs.Report.{lines_text}
use Rattle.kb_operator.specs.Shown.{count_line, quoted_line, sync_text}
use Rattle.kb_operator.proofs.Pushed.{line_more, line_ok, line_one}
use Rattle.kb_operator.proofs.shown.push_times.Goals as goal

pub returns : goal.returns
returns c =
    let t = c.args.text.now.items in
    let d0 : List (List ℕ) = quoted_line (codes "sync") (sync_text c.args.settings.now.sync) ∷ [] in
    let i0 : c.push_sync.new.text.items ≡ t ++ lines_text d0 = line_one t c.push_sync.new.text.items (quoted_line (codes "sync") (sync_text c.args.settings.now.sync)) c.in_ok-push_sync.ensures in
    let d1 : List (List ℕ) = d0 ++ (count_line (codes "sync_ms") c.args.settings.now.sync_ms) ∷ [] in
    let i1 : c.push_count.new.text.items ≡ t ++ lines_text d1 = line_more t c.push_sync.new.text.items c.push_count.new.text.items d0 (count_line (codes "sync_ms") c.args.settings.now.sync_ms) i0 c.in_ok-push_count.ensures in
    let d2 : List (List ℕ) = d1 ++ (count_line (codes "login_seconds") c.args.settings.now.login_seconds) ∷ [] in
    let i2 : c.push_count-2.new.text.items ≡ t ++ lines_text d2 = line_more t c.push_count.new.text.items c.push_count-2.new.text.items d1 (count_line (codes "login_seconds") c.args.settings.now.login_seconds) i1 c.in_ok-push_count-2.ensures in
    let d3 : List (List ℕ) = d2 ++ (count_line (codes "reply_seconds") c.args.settings.now.reply_seconds) ∷ [] in
    let i3 : c.push_count-3.new.text.items ≡ t ++ lines_text d3 = line_more t c.push_count-2.new.text.items c.push_count-3.new.text.items d2 (count_line (codes "reply_seconds") c.args.settings.now.reply_seconds) i2 c.in_ok-push_count-3.ensures in
    line_ok c.push_count-4.result t c.push_count-3.new.text.items c.push_count-4.new.text.items d3 (count_line (codes "strangers") c.args.settings.now.strangers) i3 c.push_count-4.ensures
