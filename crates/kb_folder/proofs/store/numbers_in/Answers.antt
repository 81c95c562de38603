use Rattle.std.proofs.Common.{◌≡◌, ◌∙◌, ◌++◌, sym, ap}
use Rattle.std.proofs.lemmas.List.{append-nil}
use Rattle.std.specs.BTreeMap.{keys}
use Rattle.kb_store.proofs.Ascending.{keys_from}
use Rattle.kb_folder.specs.Store.{fitted}
use Rattle.kb_folder.proofs.store.numbers_in.Goals as goal

pub returns : goal.returns
returns c =
    let all : c.loop-number.numbers.items ≡ keys c.args.lens.now = sym (append-nil c.loop-number.numbers.items) ∙ sym (ap (λ x. c.loop-number.numbers.items ++ x) c.in-None.ensures.steps.0) ∙ c.loop-number.invariant in
    all ∙ sym (keys_from fitted c.args.lens.now.entries c.keys-number-items.ensures.ordered)
