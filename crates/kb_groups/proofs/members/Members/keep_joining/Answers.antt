use Rattle.std.proofs.Common.{rules}
use Rattle.indexmap.proofs.CallerLemmas.{filter-RetainsPairs}
use Rattle.kb_groups.proofs.members.Members.keep_joining.Goals as goal

pub returns : goal.returns
returns c = rw (← c.self.view_is) (filter-RetainsPairs _ _ _ (λ k v b w g call. search rules) _ _ c.retain.ensures.filtered)
