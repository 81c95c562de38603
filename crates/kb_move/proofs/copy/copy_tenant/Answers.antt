use Rattle.std.proofs.Common.{◌≡◌, ◌<◌, ◌∙◌, [], map, max, ap, sym, refl, subst, arith}
use Rattle.std.specs.Prelude.{unwrap_or}
use Rattle.std.specs.FinMap.{get, keys}
use Rattle.kb_store.specs.Disk.{Files, bytes_of}
use Rattle.kb_log.specs.Shelf.{next_number, one_above}
use Rattle.kb_log.proofs.Numbers.{tidy}
use Rattle.kb_move.specs.Alike.{Opens}
use Rattle.kb_move.specs.Copied.{first_number, owned, with_files_from}
use Rattle.kb_move.proofs.Disks.{spares_behind}
use Rattle.kb_move.proofs.Honest.{copy_opens, copy_spares, none_told}
use Rattle.kb_move.proofs.copy.copy_tenant.Goals as goal

pub copy_all-requires-clause-free : goal.copy_all-requires-clause-free
copy_all-requires-clause-free g c file there =
    let old = g.T.Store.disk c.args.to.now in
    let now = g.T.Store.disk c.tenant_files-2.new.store in
    let e = c.in_ok-there.ensures in
    let below : file < next_number c.in_ok-there.there.next = (tidy old now (keys old.table) (next_number c.in_ok-there.there.next) e.unchanged refl e.next).below file there in
    let is : next_number c.in_ok-there.there.next ≡ c.in-Some-Some.next_there = ap next_number c.in-Some-Some.is-1 in
    omega (arith, below, is, c.max-first.ensures)

pub returns-in_err-bytes-clause-spared : goal.returns-in_err-bytes-clause-spared
returns-in_err-bytes-clause-spared g c = spares_behind _ _ _ c.in_ok-there.ensures.unchanged c.in_err-bytes.ensures.spared

pub returns-clause-copied : goal.returns-clause-copied
returns-clause-copied g c h k =
    let from = g.F.Store.disk c.args.from.now in
    let mid = g.F.Store.disk c.tenant_files.new.store in
    let to = g.T.Store.disk c.args.to.now in
    let now = g.T.Store.disk c.tenant_files-2.new.store in
    let e = c.in_ok-bytes.ensures in
    let first = c.max-first.result in
    let numbers = c.in_ok-found.found.numbers.items in
    let before = e.unchanged.honest h in
    let files : mid.files ≡ from.files = c.in_ok-found.ensures.unchanged.files before in
    let here : c.in-Some-Some.next ≡ one_above (keys from.table) = sym (ap next_number c.in-Some-Some.is-0) ∙ c.in_ok-found.ensures.next in
    let there : c.in-Some-Some.next_there ≡ one_above (keys to.table) = sym (ap next_number c.in-Some-Some.is-1) ∙ c.in_ok-there.ensures.next in
    let begins : first ≡ first_number from to =
    c.max-first.ensures
    ∙ ap (λ n. max n c.in-Some-Some.next_there) here
    ∙ ap (max (one_above (keys from.table))) there in
    e.copied h k
    ∙ ap (λ ns. with_files_from first (map (bytes_of mid) ns) now.files) c.deref.ensures.value
    ∙ ap (with_files_from first (map (bytes_of mid) numbers)) (c.in_ok-there.ensures.unchanged.files (e.spared.honest k))
    ∙ ap (λ (f : Files). with_files_from first (map (λ n. unwrap_or (get f n) []) numbers) to.files) files
    ∙ ap (λ ns. with_files_from first (map (bytes_of from) ns) to.files) (c.in_ok-found.ensures.numbers before)
    ∙ ap (λ n. with_files_from n (map (bytes_of from) (owned c.args.tenant.now from)) to.files) begins

pub returns-clause-spared : goal.returns-clause-spared
returns-clause-spared g c = spares_behind _ _ _ c.in_ok-there.ensures.unchanged c.in_ok-bytes.ensures.spared

pub returns-clause-opens : goal.returns-clause-opens
returns-clause-opens g c h k known logs opens =
    let from = g.F.Store.disk c.args.from.now in
    let to = g.T.Store.disk c.args.to.now in
    let here = c.in_ok-found.ensures.unchanged.honest (c.in_ok-bytes.ensures.unchanged.honest h) in
    let there = c.in_ok-there.ensures.unchanged.honest (c.in_ok-bytes.ensures.spared.honest k) in
    subst (λ f. Opens f c.args.tenant.now known logs) (sym (returns-clause-copied g c h k))
    (copy_opens c.args.tenant.now from to (g.met.F.Store.lawful c.args.from.now) (g.met.T.Store.lawful c.args.to.now) here there (sym (c.in_ok-there.ensures.numbers (c.in_ok-bytes.ensures.spared.honest k)) ∙ none_told c.in_ok-there.there.numbers.items _ c.in_ok-there.there.numbers.ok.0 c.if-not-is_empty.ensures) known logs opens)

pub returns-clause-beside : goal.returns-clause-beside
returns-clause-beside g c h k other known logs apart opens =
    let from = g.F.Store.disk c.args.from.now in
    let to = g.T.Store.disk c.args.to.now in
    let here = c.in_ok-found.ensures.unchanged.honest (c.in_ok-bytes.ensures.unchanged.honest h) in
    let there = c.in_ok-there.ensures.unchanged.honest (c.in_ok-bytes.ensures.spared.honest k) in
    subst (λ f. Opens f other known logs) (sym (returns-clause-copied g c h k))
    (copy_spares c.args.tenant.now from to (g.met.F.Store.lawful c.args.from.now) (g.met.T.Store.lawful c.args.to.now) here there other apart known logs opens)
