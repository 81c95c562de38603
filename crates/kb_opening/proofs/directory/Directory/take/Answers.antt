use Rattle.std.proofs.Common.{ℕ, List, ap, refl}
use Rattle.std.specs.BTreeMap.{is_at}
use Rattle.kb_opening.specs.Owners.{owner_cmp}
use Rattle.kb_opening.specs.Directory.{items_of}
use Rattle.kb_opening.proofs.Keys.{apart_owners}
use Rattle.kb_opening.proofs.Entries.{taken_out}
use Rattle.kb_opening.proofs.directory.Directory.take.Goals as goal

pub returns-in-Some : goal.returns-in-Some
returns-in-Some c =
    let e = c.in-Some.ensures in
    record {
      files = ap items_of e.value;
      none = ap items_of e.updates.1;
      others = λ o ne. ap items_of (e.updates.2 o (apart_owners c.args.owner o ne));
      strays = refl {A = List ℕ};
      all = taken_out (is_at (owner_cmp c.args.owner)) _ _ c.args.self.now.strays.items _ e.entries (ap items_of e.value);
    }
