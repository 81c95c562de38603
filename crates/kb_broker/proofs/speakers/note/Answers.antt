use Rattle.std.proofs.Common.{◌≤◌, ◌∙◌, length, sym, ap, subst}
use Rattle.std.specs.Vec.{vec_len, vec_capacity}
use Rattle.kb_broker.specs.Speakers.{with_number}
use Rattle.kb_broker.proofs.Heard.{searched-there, searched-nowhere, put-in}
use Rattle.kb_broker.proofs.speakers.note.Goals as goal

pub returns-in-Ok-clause-items : goal.returns-in-Ok-clause-items
returns-in-Ok-clause-items c =
    let n = c.args.number in
    let ns = c.args.speakers.now.items in
    let h = searched-there n ns c.deref.result.now c.in-Ok.i c.deref.ensures.value c.requires.rises c.in-Ok.ensures.bound c.in-Ok.ensures.position in
    c.remove.ensures.items ∙ (sym h.1 ∙ ap (λ b. with_number n b ns) (sym c.if-not-has_words.true))

pub returns-else-not-has_words-clause-items : goal.returns-else-not-has_words-clause-items
returns-else-not-has_words-clause-items c =
    let n = c.args.number in
    let ns = c.args.speakers.now.items in
    let h = searched-there n ns c.deref.result.now c.in-Ok.i c.deref.ensures.value c.requires.rises c.in-Ok.ensures.bound c.in-Ok.ensures.position in
    sym h.0 ∙ ap (λ b. with_number n b ns) (sym c.if-not-has_words.false)

pub returns-in-Err-clause-items : goal.returns-in-Err-clause-items
returns-in-Err-clause-items c =
    let n = c.args.number in
    let ns = c.args.speakers.now.items in
    let h = searched-nowhere n ns c.deref.result.now c.in-Err.i c.deref.ensures.value c.requires.rises c.in-Err.ensures.bound c.in-Err.ensures.position in
    let put = put-in n ns c.insert.new.self.items c.in-Err.i (vec_len c.args.speakers.now) (vec_capacity c.args.speakers.now) c.insert.result h c.args.speakers.now.ok.0 (subst (λ b. length (with_number n b ns) ≤ vec_capacity c.args.speakers.now) c.if-has_words.true c.requires.room) c.insert.ensures.succeeds c.insert.ensures.items in
    put ∙ ap (λ b. with_number n b ns) (sym c.if-has_words.true)

pub returns-else-has_words-clause-items : goal.returns-else-has_words-clause-items
returns-else-has_words-clause-items c =
    let n = c.args.number in
    let ns = c.args.speakers.now.items in
    let h = searched-nowhere n ns c.deref.result.now c.in-Err.i c.deref.ensures.value c.requires.rises c.in-Err.ensures.bound c.in-Err.ensures.position in
    sym h.without ∙ ap (λ b. with_number n b ns) (sym c.if-has_words.false)
