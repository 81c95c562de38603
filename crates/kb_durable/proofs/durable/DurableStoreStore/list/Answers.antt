use Rattle.std.proofs.Common.{◌∙◌, ap, sym, not}
use Rattle.std.specs.FinMap as map
use Rattle.std.specs.List.{filter}
use Rattle.kb_durable.specs.Durable.{disk_of}
use Rattle.kb_durable.specs.Waiting.{has}
use Rattle.kb_durable.proofs.Keys.{keys_without}
use Rattle.kb_durable.proofs.durable.DurableStoreStore.list.Goals as goal

pub returns-clause-numbers : goal.returns-clause-numbers
returns-clause-numbers g c =
    let s = c.self.inside in
    c.in_ok-numbers_left.ensures ∙ ap (filter (λ q. not (has s.waiting.items q))) (c.deref.ensures.value ∙ c.in_ok-numbers.ensures.numbers)
    ∙ sym (keys_without s.waiting.items (g.S.Store.disk s.store).table) ∙ ap (λ v. map.keys (disk_of g.S.Store.disk v).table) c.self.view_is
