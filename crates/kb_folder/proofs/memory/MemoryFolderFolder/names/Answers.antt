use Rattle.std.proofs.Common.{◌≡◌, ◌∙◌, ◌++◌, ◌∷◌, [], append_assoc, sym, ap, rules}
use Rattle.std.proofs.lemmas.List.{append-nil}
use Rattle.std.specs.BTreeMap.{keys}
use Rattle.kb_folder.specs.Names.{numbers_named}
use Rattle.kb_folder.proofs.Held.{are_numbers, named_more}
use Rattle.kb_folder.proofs.memory.MemoryFolderFolder.names.Goals as goal

pub loop-number-preserved : goal.loop-number-preserved
loop-number-preserved c =
    let names = c.loop-number.names.items in
    let name = c.in_ok-file_name.field-0 in
    let n = c.in-Some.number.now in
    let rest = c.next.new.self in
    let step : c.loop-number.number-iterator ≡ n ∷ rest = search rules in
    ap (λ ns. numbers_named ns ++ rest) c.in_ok-push.ensures.items ∙ ap (λ x. x ++ rest) (named_more names name n c.in_ok-file_name.ensures)
    ∙ append_assoc (numbers_named names) (n ∷ []) rest ∙ ap (λ x. numbers_named names ++ x) (sym step) ∙ c.loop-number.invariant

pub returns-clause-names : goal.returns-clause-names
returns-clause-names c = λ h.
    let numbers = numbers_named c.loop-number.names.items in
    let all : numbers ≡ keys c.args.self.now.files = sym (append-nil numbers) ∙ sym (ap (λ x. numbers ++ x) c.in-None.ensures.steps.0) ∙ c.loop-number.invariant in
    are_numbers c.args.self.now.files.entries numbers all
