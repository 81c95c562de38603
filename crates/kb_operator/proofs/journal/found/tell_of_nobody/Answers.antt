use Rattle.std.proofs.Common.{◌≡◌, ◌∙◌, ◌++◌, ◌∷◌, [], ℕ, List, ap, append-nil, append_assoc, map, refl, subst, sym}
use Rattle.std.specs.declared.alloc.Global.{Global}
use Rattle.std.specs.declared.string.String.{String}
use Rattle.kb_operator.specs.Found.{nobody_line}
use Rattle.kb_operator.specs.Logged.{TellsTexts}
use Rattle.kb_operator.proofs.Logged.{tells_both, tells_none, tells_one}
use Rattle.kb_operator.proofs.journal.found.tell_of_nobody.Goals as goal

pub loop-tenant-init : goal.loop-tenant-init
loop-tenant-init g c = record { told = []; are = tells_none c.args.now (g.T.LineLog.logged c.args.lines.now); rest = refl }

pub loop-tenant-preserved : goal.loop-tenant-preserved
loop-tenant-preserved g c =
    let i = c.loop-tenant.invariant in
    let line = nobody_line (c.in-Some.tenant.now, c.in-Some.files.now) in
    let lines : List (String Global × ℕ) → List (List ℕ) = map nobody_line in
    let old = g.T.LineLog.logged c.args.lines.now in
    let mid = g.T.LineLog.logged c.loop-tenant.lines in
    let new = g.T.LineLog.logged c.tell.new.self in
    record {
      told = i.told ++ line ∷ [];
      are = tells_both c.args.now i.told (line ∷ []) old mid new i.are (tells_one c.args.now line c.nobody_text.result mid new c.nobody_text.ensures c.tell.ensures);
      rest = ap (λ ls. ls) (append_assoc i.told (line ∷ []) (lines c.next.new.self)) ∙ ap (λ es. i.told ++ lines es) (sym c.in-Some.ensures.steps) ∙ i.rest;
    }

pub returns : goal.returns
returns g c =
    let i = c.loop-tenant.invariant in
    let lines : List (String Global × ℕ) → List (List ℕ) = map nobody_line in
    let all : i.told ≡ lines c.args.of_nobody.now.entries =
    sym (append-nil i.told) ∙ ap (λ es. i.told ++ lines es) (sym c.in-None.ensures.steps.0) ∙ i.rest
    ∙ ap lines c.into_iter-tenant-iterator.ensures.into_iter_gives.0 in
    subst (λ ts. TellsTexts c.args.now ts (g.T.LineLog.logged c.args.lines.now) (g.T.LineLog.logged c.loop-tenant.lines)) all i.are
