use Rattle.std.proofs.Common.{◌<◌, ◌∷◌, [], ℕ, List, Result, Ok, Err, arith, length, map, string_bytes, subst, take}
use Rattle.std.specs.Prelude.{IfOk, MatchResult}
use Rattle.std.specs.declared.alloc.Global.{Global}
use Rattle.std.specs.declared.string.String.{String}
use Rattle.kb_operator.specs.Logged.{TellsTexts}
use Rattle.kb_operator.proofs.Logged.{tells_both, tells_one}
use Rattle.kb_operator.proofs.Visited.{map_next}
use Rattle.kb_operator.proofs.journal.found.tell_each.Goals as goal

made : {A E : Type 0} (P : A → Type 0) (Q : E → Type 0) (r : Result A E) → MatchResult r P Q → IfOk r P
made P Q (Ok a) h = h
made P Q (Err e) h = tt

pub loop-text-preserved : goal.loop-text-preserved
loop-text-preserved g c =
    let before = c.loop-text in
    let texts = c.args.texts.now in
    let i = before.text-index in
    let item = c.text-item.result in
    let within : i < length texts = omega arith in
    let bytes : String Global → List ℕ = λ t. string_bytes t in
    let old = g.T.LineLog.logged c.args.lines.now in
    let mid = g.T.LineLog.logged before.lines in
    let new = g.T.LineLog.logged c.tell.new.self in
    subst (λ ts. TellsTexts c.args.now ts old new) (map_next bytes texts i item within c.text-item.is)
    (tells_both c.args.now (map bytes (take i texts)) (bytes item ∷ []) old mid new before.invariant
    (tells_one c.args.now (bytes item) c.clone.result mid new (made _ _ c.clone.result c.clone.ensures.cases) c.tell.ensures))
