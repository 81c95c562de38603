use Rattle.std.proofs.Common.{◌≡◌, ◌++◌, ℕ, List, codes}
use Rattle.kb_operator.specs.Report.{lines_text}
use Rattle.kb_settings.specs.Values.{values_of}
use Rattle.kb_operator.specs.Shown.{address_lines, listen_lines, quoted_line, request_lines, served_lines, size_lines, time_lines}
use Rattle.kb_operator.proofs.Pushed.{line_ok, lines_more}
use Rattle.kb_operator.proofs.shown.push_keys.Goals as goal

pub returns : goal.returns
returns c =
    let t = c.args.text.now.items in
    let d0 : List (List ℕ) = listen_lines (values_of c.args.settings.now) in
    let i0 : c.push_listen.new.text.items ≡ t ++ lines_text d0 = c.in_ok-push_listen.ensures in
    let d1 : List (List ℕ) = d0 ++ (size_lines (values_of c.args.settings.now)) in
    let i1 : c.push_sizes.new.text.items ≡ t ++ lines_text d1 = lines_more t c.push_listen.new.text.items c.push_sizes.new.text.items d0 (size_lines (values_of c.args.settings.now)) i0 c.in_ok-push_sizes.ensures in
    let d2 : List (List ℕ) = d1 ++ (time_lines (values_of c.args.settings.now)) in
    let i2 : c.push_times.new.text.items ≡ t ++ lines_text d2 = lines_more t c.push_sizes.new.text.items c.push_times.new.text.items d1 (time_lines (values_of c.args.settings.now)) i1 c.in_ok-push_times.ensures in
    let d3 : List (List ℕ) = d2 ++ (request_lines (values_of c.args.settings.now).requests) in
    let i3 : c.push_requests.new.text.items ≡ t ++ lines_text d3 = lines_more t c.push_times.new.text.items c.push_requests.new.text.items d2 (request_lines (values_of c.args.settings.now).requests) i2 c.in_ok-push_requests.ensures in
    let d4 : List (List ℕ) = d3 ++ (served_lines (values_of c.args.settings.now)) in
    let i4 : c.push_served.new.text.items ≡ t ++ lines_text d4 = lines_more t c.push_requests.new.text.items c.push_served.new.text.items d3 (served_lines (values_of c.args.settings.now)) i3 c.in_ok-push_served.ensures in
    let d5 : List (List ℕ) = d4 ++ (address_lines (codes "metrics") (values_of c.args.settings.now).metrics.address) in
    let i5 : c.push_address.new.text.items ≡ t ++ lines_text d5 = lines_more t c.push_served.new.text.items c.push_address.new.text.items d4 (address_lines (codes "metrics") (values_of c.args.settings.now).metrics.address) i4 c.in_ok-push_address.ensures in
    line_ok c.push_key.result t c.push_address.new.text.items c.push_key.new.text.items d5 (quoted_line (codes "data") c.args.folder.now) i5 c.push_key.ensures
