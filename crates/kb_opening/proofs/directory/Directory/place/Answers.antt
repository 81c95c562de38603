use Rattle.std.proofs.Common.{◌∙◌, ℕ, sym, ap, append-nil, Some, List, [], ◌∷◌, ◌++◌, cond}
use Rattle.std.specs.Prelude.{is_some}
use Rattle.std.specs.BTreeMap.{is_at, get, insert_entry}
use Rattle.kb_opening.specs.Owners.{owner_cmp, same_owner}
use Rattle.kb_opening.specs.Directory.{items_of}
use Rattle.kb_opening.proofs.Keys.{same_files_at}
use Rattle.kb_opening.proofs.Entries.{one_more_at, put_behind, put_new}
use Rattle.kb_opening.proofs.directory.Directory.place.Goals as goal

pub returns-in-Some : goal.returns-in-Some
returns-in-Some c =
    let d = c.args.self.now in
    let owner = c.args.owner in
    let writes = c.get_mut.follows.holds c.push.new.self in
    let updates = writes.3 (ap is_some (sym c.in-Some.ensures.value)) in
    let found = sym c.in-Some.ensures.value in
    record {
      files = λ o. ap items_of (updates.0 o) ∙ one_more_at (same_owner owner o) c.args.file _ c.push.new.self _ (λ e. sym (same_files_at d owner o e) ∙ ap items_of found) c.in_ok-push.ensures.items;
      strays = sym (append-nil d.strays.items);
      all = put_behind (is_at (owner_cmp owner)) _ _ d.strays.items c.args.file _ c.push.new.self writes.0 found c.in_ok-push.ensures.items;
    }

pub returns : goal.returns
returns c =
    let d = c.args.self.now in
    let owner = c.args.owner in
    let e = c.in_ok-insert.ensures in
    let new = c.push-2.new.self in
    let none = sym c.in_default.ensures.value in
    let back = c.get_mut.follows.holds-at-none in
    let grown = c.in_ok-push-2.ensures.items ∙ ap (λ (us : List ℕ). us ++ c.args.file ∷ []) c.new-files.ensures.items in
    record {
      files = λ o.
          ap items_of (e.updates.0 o ∙ ap (λ m. cond (same_owner owner o) (Some new) (get owner_cmp m o)) back)
          ∙ one_more_at (same_owner owner o) c.args.file [] new _ (λ q. sym (same_files_at d owner o q) ∙ ap items_of none) grown;
      strays = sym (append-nil d.strays.items);
      all = put_new owner_cmp d.owned.entries _ d.strays.items owner c.args.file new (e.entries ∙ ap (λ m. insert_entry owner_cmp m.entries owner new) back) none grown;
    }
