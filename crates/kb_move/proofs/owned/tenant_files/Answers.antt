use Rattle.std.proofs.Common.{◌≡◌, ◌∙◌, ◌<◌, ◌+◌, ◌++◌, Bool, true, false, cond, [], ◌∷◌, ap, sym, subst, arith, append-nil, length, filter, take, get_or}
use Rattle.std.specs.FinMap.{keys}
use Rattle.std.specs.List.{All}
use Rattle.kb_store.specs.Disk.{IsThere}
use Rattle.kb_move.specs.Copied.{is_owned}
use Rattle.kb_move.proofs.Copies.{all_more, is_listed, kept_then, noted_more}
use Rattle.kb_move.proofs.owned.tenant_files.Goals as goal
use Rattle.kb_move.proofs.owned.tenant_files.Goals.{then-branch+in_ok-push, else-branch}

pub loop-number-preserved : goal.loop-number-preserved
loop-number-preserved g c =
    let i = c.loop-number.invariant in
    let had = g.S.Store.disk c.args.store.now in
    let mid = g.S.Store.disk c.loop-number.store in
    let e = c.in_ok-is_owned.ensures in
    let ks = c.deref-number-items.result.now in
    let at = c.loop-number.number-index in
    let old = c.loop-number.numbers.items in
    let new = c.if-branch.numbers.items in
    let lt : at < length ks = omega (arith, c.loop-number-test.true, c.loop-number.auto.number-index-end) in
    let tenant = c.args.tenant.now in
    let p = is_owned tenant had in
    let noted : (g.S.Store.disk c.is_owned.new.store).honest → (b : Bool) → b ≡ is_owned tenant mid (get_or ks at 0)
    → new ≡ old ++ cond b (get_or ks at 0 ∷ []) [] → new ≡ filter p (take (at + 1) (keys had.table)) = (λ h b is more.
    let before = e.unchanged.honest h in
    subst (λ xs. new ≡ filter p (take (at + 1) xs)) i.listed
    (noted_more tenant had mid ks old new at 0 b lt (i.kept.files before) is
    (i.noted before ∙ ap (λ xs. filter p (take at xs)) (sym i.listed)) more)) in
    elim c.if-branch.branch [
      | then-branch+in_ok-push w ↦
          let more : new ≡ old ++ get_or ks at 0 ∷ [] = ap (λ v. v.items) w.numbers-is ∙ w.in_ok-push.ensures.items in
          record {
            kept = kept_then had mid _ i.kept e.unchanged;
            listed = i.listed;
            later = omega (arith, i.later, e.cause.later);
            there = all_more (IsThere had) old new (get_or ks at 0) i.there (is_listed had ks at 0 i.listed lt) more;
            noted = λ h. noted h true (sym w.if-branch.true ∙ e.owned h) more;
          }
      | else-branch w ↦
          let same : new ≡ old = ap (λ v. v.items) w.numbers-is in
          record {
            kept = kept_then had mid _ i.kept e.unchanged;
            listed = i.listed;
            later = omega (arith, i.later, e.cause.later);
            there = subst (All (IsThere had)) (sym same) i.there;
            noted = λ h. noted h false (sym w.if-branch.false ∙ e.owned h) (same ∙ sym (append-nil old));
          }
    ]
