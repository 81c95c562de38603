use Rattle.std.proofs.Common.{FitsSigned, rules, w32}
use Rattle.kb_connection.proofs.Appended.{replied_behind, if_added, size_of}
use Rattle.kb_connection.proofs.reply.append_reply.Goals as goal

pub returns-clause-ok : goal.returns-clause-ok
returns-clause-ok c =
    let fits : FitsSigned w32 c.args.head.correlation_id = search rules in
    if_added _ _ _ _ _ c.extend_from_slice-4.ensures.items
    (replied_behind c.args.head.correlation_id _ c.args.body.now _ _ _ _ _ _ _ _ c.throttle_time-throttle_time.result.now fits c.requires (c.throttle_time-throttle_time.ensures.bytes c.args.body.now) c.in_ok-try_reserve.ensures.items
    (size_of _ _ _ _ (c.throttle_time-throttle_time.ensures.bytes c.args.body.now) c.to_be_bytes.ensures) c.in_ok-extend_from_slice.ensures.items c.to_be_bytes-2.ensures c.in_ok-extend_from_slice-2.ensures.items c.in_ok-extend_from_slice-3.ensures.items)
