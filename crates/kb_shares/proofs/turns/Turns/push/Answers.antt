use Rattle.std.proofs.Common.{◌≡◌, ◌<◌, ◌++◌, ◌∷◌, List, ℕ, [], length, map, set, slice_index_or, arith, subst, sym, ap, ◌∙◌}
use Rattle.std.proofs.lemmas.Grind.{common_steps}
use Rattle.std.proofs.lemmas.Bool.Decides.{nat_tests}
use Rattle.kb_shares.specs.Turns.{IsInOrder, lines_of, enqueued}
use Rattle.kb_shares.proofs.Lines.{items_of, added_line, added_first, added_stays, added_longer, same_lines}
use Rattle.kb_shares.proofs.turns.Turns.push.Goals as goal

pub invariant_of-self-then-is_err-2 : goal.invariant_of-self-then-is_err-2
invariant_of-self-then-is_err-2 c =
    let there : c.args.holder < length c.self.inside.members.items = grind (arith, c.in-Some.ensures.variant) in
    let is : c.in-Some.line.now ≡ slice_index_or c.self.inside.members.items c.args.holder c.in-Some.line.now = c.in-Some.ensures.item.1 in
    let same : c.push_back.new.self.items ≡ c.in-Some.line.now.items = grind (arith, c.push_back.ensures.items, c.is_err-2.ensures.value, c.is_err-2.ensures.negation, c.if-is_err-2.true) in
    let lines : map items_of (set c.self.inside.members.items c.args.holder c.push_back.new.self) ≡ map items_of c.self.inside.members.items =
    same_lines items_of c.self.inside.members.items c.args.holder c.in-Some.line.now c.push_back.new.self is same in
    let inside : IsInOrder (map items_of c.self.inside.members.items) c.reserve.new.self.items =
    subst (IsInOrder (map items_of c.self.inside.members.items)) (sym c.reserve.ensures.items) c.self.invariant in
    subst (λ (W : List (List ℕ)). IsInOrder W c.reserve.new.self.items) (sym lines) inside

pub returns-then-is_err-2-clause-refused : goal.returns-then-is_err-2-clause-refused
returns-then-is_err-2-clause-refused c = λ _.
    let there : c.args.holder < length c.self.inside.members.items = grind (arith, c.in-Some.ensures.variant) in
    let is : c.in-Some.line.now ≡ slice_index_or c.self.inside.members.items c.args.holder c.in-Some.line.now = c.in-Some.ensures.item.1 in
    let same : c.push_back.new.self.items ≡ c.in-Some.line.now.items = grind (arith, c.push_back.ensures.items, c.is_err-2.ensures.value, c.is_err-2.ensures.negation, c.if-is_err-2.true) in
    let lines : map items_of (set c.self.inside.members.items c.args.holder c.push_back.new.self) ≡ map items_of c.self.inside.members.items =
    same_lines items_of c.self.inside.members.items c.args.holder c.in-Some.line.now c.push_back.new.self is same in
    ap (λ (W : List (List ℕ)). lines_of W c.reserve.new.self.items) lines
    ∙ ap (lines_of (map items_of c.self.inside.members.items)) c.reserve.ensures.items
    ∙ c.self.view_is

pub invariant_of-self-then-is_first : goal.invariant_of-self-then-is_first
invariant_of-self-then-is_first c =
    let there : c.args.holder < length c.self.inside.members.items = grind (arith, c.in-Some.ensures.variant) in
    let is : c.in-Some.line.now ≡ slice_index_or c.self.inside.members.items c.args.holder c.in-Some.line.now = c.in-Some.ensures.item.1 in
    let more : c.push_back.new.self.items ≡ c.in-Some.line.now.items ++ c.args.member ∷ [] = grind (arith, c.push_back.ensures.items, c.is_err-2.ensures.value, c.is_err-2.ensures.negation, c.if-is_err-2.false) in
    let none : c.in-Some.line.now.items ≡ [] = grind (arith, common_steps, c.if-is_first.true, c.is_empty-is_first.ensures, c.in-Some.line.now, nat_tests) in
    let inside : IsInOrder (map items_of c.self.inside.members.items) c.reserve.new.self.items =
    subst (IsInOrder (map items_of c.self.inside.members.items)) (sym c.reserve.ensures.items) c.self.invariant in
    subst (IsInOrder (map items_of (set c.self.inside.members.items c.args.holder c.push_back.new.self))) (sym c.push_back_reserved.ensures.items)
    (added_longer items_of c.self.inside.members.items c.reserve.new.self.items c.args.holder c.args.member c.in-Some.line.now c.push_back.new.self inside there is more none)

pub invariant_of-self-else-is_first : goal.invariant_of-self-else-is_first
invariant_of-self-else-is_first c =
    let there : c.args.holder < length c.self.inside.members.items = grind (arith, c.in-Some.ensures.variant) in
    let is : c.in-Some.line.now ≡ slice_index_or c.self.inside.members.items c.args.holder c.in-Some.line.now = c.in-Some.ensures.item.1 in
    let more : c.push_back.new.self.items ≡ c.in-Some.line.now.items ++ c.args.member ∷ [] = grind (arith, c.push_back.ensures.items, c.is_err-2.ensures.value, c.is_err-2.ensures.negation, c.if-is_err-2.false) in
    let some : 0 < length c.in-Some.line.now.items = grind (arith, c.if-is_first.false, c.is_empty-is_first.ensures, nat_tests) in
    let inside : IsInOrder (map items_of c.self.inside.members.items) c.reserve.new.self.items =
    subst (IsInOrder (map items_of c.self.inside.members.items)) (sym c.reserve.ensures.items) c.self.invariant in
    added_stays items_of c.self.inside.members.items c.reserve.new.self.items c.args.holder c.args.member c.in-Some.line.now c.push_back.new.self inside there is more some

pub returns-then-is_first-clause-joined : goal.returns-then-is_first-clause-joined
returns-then-is_first-clause-joined c = λ _.
    let there : c.args.holder < length c.self.inside.members.items = grind (arith, c.in-Some.ensures.variant) in
    let is : c.in-Some.line.now ≡ slice_index_or c.self.inside.members.items c.args.holder c.in-Some.line.now = c.in-Some.ensures.item.1 in
    let more : c.push_back.new.self.items ≡ c.in-Some.line.now.items ++ c.args.member ∷ [] = grind (arith, c.push_back.ensures.items, c.is_err-2.ensures.value, c.is_err-2.ensures.negation, c.if-is_err-2.false) in
    let none : c.in-Some.line.now.items ≡ [] = grind (arith, common_steps, c.if-is_first.true, c.is_empty-is_first.ensures, c.in-Some.line.now, nat_tests) in
    let inside : IsInOrder (map items_of c.self.inside.members.items) c.reserve.new.self.items =
    subst (IsInOrder (map items_of c.self.inside.members.items)) (sym c.reserve.ensures.items) c.self.invariant in
    ap (lines_of (map items_of (set c.self.inside.members.items c.args.holder c.push_back.new.self))) c.push_back_reserved.ensures.items
    ∙ added_first items_of c.self.inside.members.items c.reserve.new.self.items c.args.holder c.args.member c.in-Some.line.now c.push_back.new.self inside there is more none
    ∙ ap (λ (o : List ℕ). enqueued c.args.holder c.args.member (lines_of (map items_of c.self.inside.members.items) o)) c.reserve.ensures.items
    ∙ ap (enqueued c.args.holder c.args.member) c.self.view_is

pub returns-else-is_first-clause-joined : goal.returns-else-is_first-clause-joined
returns-else-is_first-clause-joined c = λ _.
    let there : c.args.holder < length c.self.inside.members.items = grind (arith, c.in-Some.ensures.variant) in
    let is : c.in-Some.line.now ≡ slice_index_or c.self.inside.members.items c.args.holder c.in-Some.line.now = c.in-Some.ensures.item.1 in
    let more : c.push_back.new.self.items ≡ c.in-Some.line.now.items ++ c.args.member ∷ [] = grind (arith, c.push_back.ensures.items, c.is_err-2.ensures.value, c.is_err-2.ensures.negation, c.if-is_err-2.false) in
    let some : 0 < length c.in-Some.line.now.items = grind (arith, c.if-is_first.false, c.is_empty-is_first.ensures, nat_tests) in
    let inside : IsInOrder (map items_of c.self.inside.members.items) c.reserve.new.self.items =
    subst (IsInOrder (map items_of c.self.inside.members.items)) (sym c.reserve.ensures.items) c.self.invariant in
    added_line items_of c.self.inside.members.items c.reserve.new.self.items c.args.holder c.args.member c.in-Some.line.now c.push_back.new.self inside there is more some
    ∙ ap (λ (o : List ℕ). enqueued c.args.holder c.args.member (lines_of (map items_of c.self.inside.members.items) o)) c.reserve.ensures.items
    ∙ ap (enqueued c.args.holder c.args.member) c.self.view_is
