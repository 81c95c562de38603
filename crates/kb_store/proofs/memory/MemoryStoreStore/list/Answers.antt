use Rattle.std.proofs.Common.{◌≡◌, ◌∙◌, ◌++◌, sym, ap, length}
use Rattle.std.proofs.lemmas.List.{append-nil}
use Rattle.std.specs.BTreeMap.{keys}
use Rattle.kb_store.proofs.Ascending.{keys_from}
use Rattle.kb_store.proofs.memory.MemoryStoreStore.list.Goals as goal

pub returns-clause-numbers : goal.returns-clause-numbers
returns-clause-numbers c =
    let all : c.loop-number.numbers.items ≡ keys c.args.self.now.files = sym (append-nil c.loop-number.numbers.items) ∙ sym (ap (λ x. c.loop-number.numbers.items ++ x) c.in-None.ensures.steps.0) ∙ c.loop-number.invariant in
    all ∙ sym (keys_from (λ v. length v.items) c.args.self.now.files.entries c.keys-number-items.ensures.ordered)
