use Rattle.std.proofs.Common.{◌≡◌, ◌∙◌, ◌-◌, IfSome, vec_len, ap, refl, subst, sym}
use Rattle.kb_node.specs.Cores.{core}
use Rattle.kb_shares.specs.Ledger.{set_to}
use Rattle.kb_node.specs.Replies.{kept_for, holder_place}
use Rattle.kb_node.proofs.Carries.{on_ok}
use Rattle.kb_node.proofs.Cores.{item_at, same_at}
use Rattle.kb_node.proofs.Telling.{telling_still, telling_then}
use Rattle.kb_node.proofs.Seats.{kept_at, mark}
use Rattle.kb_node.proofs.edge.Edge.note_written.Goals as goal

pub returns-then-is_err-clause-tells : goal.returns-then-is_err-clause-tells
returns-then-is_err-clause-tells g c = telling_then (telling_still (same_at _ c.args.self.now.sockets c.args.place c.in-Some.socket.now c.note_reply-noted.new.socket (c.in-Some.ensures.variant.0 refl) c.in-Some.ensures.value (ap core c.note_reply-noted.ensures.rest))) c.close.ensures.tells

pub returns-clause-tells : goal.returns-clause-tells
returns-clause-tells g c = telling_still (same_at _ c.args.self.now.sockets c.args.place c.in-Some.socket.now c.note_reply-noted.new.socket (c.in-Some.ensures.variant.0 refl) c.in-Some.ensures.value (ap core c.note_reply-noted.ensures.rest))

pub invariant_of-self-2-clause-seated : goal.invariant_of-self-2-clause-seated
invariant_of-self-2-clause-seated g c = kept_at _ _ _ c.args.self.now.sockets c.args.place c.in-Some.socket.now c.note_reply-noted.new.socket (c.in-Some.ensures.variant.0 refl)
    c.in-Some.ensures.value refl (ap mark c.note_reply-noted.ensures.rest) c.args.self.now.seated

pub returns-clause-booked : goal.returns-clause-booked
returns-clause-booked g c = λ _.
    let a = c.args.self.now in let s = c.in-Some.socket.now in let promised = c.args.before.promised in
    let number = c.connection-number.ensures in
    let holder = c.holder-holder.ensures ∙ ap (λ n. holder_place n a.shares) number in
    let kept = c.saturating_add-kept.ensures ∙ ap (λ n. kept_for n promised) c.unwritten.ensures in
    subst (λ o. IfSome o (λ x. c.set-booked.new.self ≡ set_to x.connection (holder_place x.connection a.shares) (kept_for (vec_len x.output - x.written) promised) a.replies))
    (sym (item_at a.sockets c.args.place s (c.in-Some.ensures.variant.0 refl) c.in-Some.ensures.value))
    (on_ok c.set-booked.result c.set-booked.ensures.set (sym c.is_err.ensures.value ∙ c.if-is_err.false) ∙ λ i. set_to (number i) (holder i) (kept i) a.replies)
