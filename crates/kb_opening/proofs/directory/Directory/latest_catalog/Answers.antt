use Rattle.std.proofs.Common.{◌≡◌, false, sym, ap, subst, is_gt}
use Rattle.std.specs.Prelude.{is_some}
use Rattle.kb_opening.specs.Owners.{owner_cmp}
use Rattle.kb_opening.specs.declared.owner.Owner.{Owner}
use Rattle.kb_opening.proofs.Generations.{latest_none, latest_there}
use Rattle.kb_opening.proofs.directory.Directory.latest_catalog.Goals as goal

pub returns-in-Some-Catalog-default-clause-greatest : goal.returns-in-Some-Catalog-default-clause-greatest
returns-in-Some-Catalog-default-clause-greatest c =
    let x = c.in-Some-Catalog-default in
    let range = c.range-catalogs.ensures.in_range c.new.ensures.exhausted in
    let key = x.field-0-0.now in
    latest_none c.args.self.now c.args.tenant c.args.most x.field-0-0-0 x.generation key x.field-0-0-is
    (subst (λ (o : Owner). is_gt (owner_cmp key o) ≡ false) c.new.ensures.end (range.3 (key, x.field-0-1.now) c.next_back.new.self x.ensures.steps).0.1)
    (λ q within some. range.4 (key, x.field-0-1.now) c.next_back.new.self x.ensures.steps q
    (subst (λ (o : Owner). is_gt (owner_cmp o q) ≡ false) (sym c.new.ensures.start) within.0, subst (λ (o : Owner). is_gt (owner_cmp q o) ≡ false) (sym c.new.ensures.end) within.1)
    some)

pub returns-in-Some-Catalog-default-clause-there : goal.returns-in-Some-Catalog-default-clause-there
returns-in-Some-Catalog-default-clause-there c =
    let x = c.in-Some-Catalog-default in
    let range = c.range-catalogs.ensures.in_range c.new.ensures.exhausted in
    let key = x.field-0-0.now in
    let entry = range.3 (key, x.field-0-1.now) c.next_back.new.self x.ensures.steps in
    latest_there c.args.self.now c.args.tenant c.args.most x.field-0-0-0 x.generation key x.field-0-0-is
    (subst (λ (o : Owner). is_gt (owner_cmp o key) ≡ false) c.new.ensures.start entry.0.0)
    (subst (λ (o : Owner). is_gt (owner_cmp key o) ≡ false) c.new.ensures.end entry.0.1)
    (ap is_some entry.1)
