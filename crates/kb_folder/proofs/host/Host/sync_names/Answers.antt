use Rattle.std.proofs.Common.{◌≡◌, ◌∙◌, ℕ, Some, ap, sym, subst}
use Rattle.std.specs.Prelude.{is_some}
use Rattle.std.specs.BTreeSet.{contains}
use Rattle.std.specs.Ordering.{nat_cmp}
use Rattle.kb_folder.specs.Changed.{is_noted}
use Rattle.kb_folder.specs.Lasting.{Syncs}
use Rattle.kb_folder.specs.Told.{calls_of}
use Rattle.kb_folder.proofs.Synced.{notes_same, syncs_noted, syncs_named}
use Rattle.kb_folder.proofs.host.Host.sync_names.Goals as goal

pub returns-then-not-has_changed : goal.returns-then-not-has_changed
returns-then-not-has_changed g c = syncs_noted c.args.self.now.changed c.args.self.now.changed (calls_of c.args.history.now) (notes_same (λ _. ⊥) c.args.self.now.changed)

pub returns-in_err-settle_names : goal.returns-in_err-settle_names
returns-in_err-settle_names g c =
    let was = c.args.self.now.changed in
    let now = c.settle_names.new.self.changed in
    let h = calls_of c.args.history.now in
    subst (λ x. Syncs was h now x) (sym c.in_err-settle_names.ensures.refused) (syncs_noted was now h c.settle_names.ensures.on)

pub returns-in-Some-changed : goal.returns-in-Some-changed
returns-in-Some-changed g c =
    let was = c.args.self.now.changed in
    let asked = c.settle_names.new.self.changed in
    let now = Some c.set_names.new.self in
    let h = calls_of c.args.history.now in
    let on = c.settle_names.ensures.on in
    let some : asked ≡ Some c.in-Some-changed.changed = c.in-Some-changed.is in
    let files : (q : ℕ) → is_noted now q ≡ is_noted asked q = λ q. ap (λ x. contains nat_cmp x.files q) c.set_names.ensures ∙ ap (λ x. is_noted x q) (sym some) in
    subst (λ x. Syncs was h now x) (sym c.in_ok-settle_names.ensures.synced)
    (syncs_named was now h (ap is_some (sym some) ∙ on.minds) (λ q e. files q ∙ on.files q (λ x. x) e))
