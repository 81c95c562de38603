use Rattle.std.proofs.Common.{◌≡◌, ◌++◌, ◌∷◌, [], codes}
use Rattle.kb_settings.specs.Values.{values_of}
use Rattle.kb_operator.specs.Report.{lines_text}
use Rattle.kb_operator.specs.Shown.{entries_lines, flag_line, reply_bytes_lines}
use Rattle.kb_operator.proofs.Pushed.{line_more, line_ok, lines_more}
use Rattle.kb_operator.proofs.shown.push_served.Goals as goal

pub returns : goal.returns
returns c =
    let s = c.args.settings.now in
    let t = c.args.text.now.items in
    let a = c.push_entries.new.text.items in
    let b = c.push_reply_bytes.new.text.items in
    let d = c.push_flag.new.text.items in
    let entries = entries_lines (values_of s) in
    let both = entries ++ reply_bytes_lines (values_of s) in
    let stock = flag_line (codes "stock_clients") s.stock_clients in
    let had : b ≡ t ++ lines_text both =
    lines_more t a b entries (reply_bytes_lines (values_of s)) c.in_ok-push_entries.ensures c.in_ok-push_reply_bytes.ensures in
    line_ok c.push_flag-2.result t d c.push_flag-2.new.text.items (both ++ stock ∷ []) (flag_line (codes "logins") s.logins)
    (line_more t b d both stock had c.in_ok-push_flag.ensures) c.push_flag-2.ensures
