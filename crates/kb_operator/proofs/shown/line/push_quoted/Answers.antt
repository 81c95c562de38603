use Rattle.std.proofs.Common.{◌<◌, arith, length}
use Rattle.kb_operator.proofs.Pushed.{bytes_left}
use Rattle.kb_operator.proofs.shown.line.push_quoted.Goals as goal

pub loop-byte-preserved : goal.loop-byte-preserved
loop-byte-preserved c =
    let at = c.loop-byte in
    let bytes = c.as_bytes-bytes.result.now in
    let within : at.byte-index < length bytes = omega arith in
    bytes_left bytes at.byte-index 0 at.before at.text.items c.push_byte.new.text.items _ within c.in_ok-push_byte.ensures at.invariant
