use Rattle.std.proofs.Common.{◌∙◌, ◌++◌, ℕ, List, map-id, sym, ap}
use Rattle.std.proofs.lemmas.Map.Iter.{iter_end}
use Rattle.std.specs.declared.alloc.Global.{Global}
use Rattle.std.specs.declared.vec.Vec.{Vec}
use Rattle.kb_opening.specs.Directory.{owned_in}
use Rattle.kb_opening.specs.declared.owner.Owner.{Owner}
use Rattle.kb_opening.proofs.Entries.{left_more, all_left}
use Rattle.kb_opening.proofs.directory.Directory.into_strays.Goals as goal

pub loop-files-preserved : goal.loop-files-preserved
loop-files-preserved c =
    let left = c.loop-files.left.items in
    left_more c.args.self.strays.items left _ c.loop-files.yielded (c.in-Some.field-0-0, c.in-Some.files) c.loop-files.invariant
    (c.in_ok-extend_from_slice.ensures.items ∙ ap (λ (us : List ℕ). left ++ us) c.deref.ensures.value)

pub returns-clause-these : goal.returns-clause-these
returns-clause-these c =
    let strays = c.args.self.strays.items in
    let end = (iter_end (λ (e : Owner × Vec ℕ Global). e) c.args.self.owned.entries c.loop-files.yielded c.into_iter-files-iterator.result c.loop-files.files-iterator c.next.new.self c.next.result c.into_iter-files-iterator.ensures.into_iter_gives.0 c.loop-files.yielded_by c.in-None.is c.next.ensures.steps).0 in
    all_left strays _ _ c.args.self.owned.entries (c.loop-files.invariant ∙ ap (λ (es : List (Owner × Vec ℕ Global)). strays ++ owned_in es) (sym (map-id c.loop-files.yielded) ∙ end)) c.sort_unstable.ensures.permutation
