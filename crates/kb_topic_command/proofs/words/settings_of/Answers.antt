use Rattle.std.proofs.Common.{◌∙◌, ℕ, List, [], Bor, Option, ap, codes, map, subst, sym}
use Rattle.std.specs.Prelude.{IfErr, IfOk, option_map, unwrap_or}
use Rattle.kb_admin.specs.declared.task.Setting.{Setting}
use Rattle.kb_topic_command.specs.Words.{AreSaid, BlamesWords, HasNoSetting}
use Rattle.kb_topic_command.proofs.Said.{texts_found}
use Rattle.kb_topic_command.proofs.words.settings_of.Goals as goal

-- the texts of some values
abbrev texts_of : Option (Bor (List (Bor (List ℕ)))) → List (List ℕ)
texts_of found = unwrap_or (option_map (λ (s : Bor (List (Bor (List ℕ)))). map (λ (t : Bor (List ℕ)). t.now) s.now) found) []

pub returns-in-Some-clause-settings : goal.returns-in-Some-clause-settings
returns-in-Some-clause-settings c =
    let found = ap texts_of (sym c.in-Some.is) ∙ texts_found c.args.found.now (codes "config") c.get_strs.result c.get_strs.ensures in
    subst (λ ts. IfOk c.settings_in.result (λ settings. AreSaid ts settings.items)) found c.settings_in.ensures.settings

pub returns-in-Some-clause-fault : goal.returns-in-Some-clause-fault
returns-in-Some-clause-fault c =
    let found = ap texts_of (sym c.in-Some.is) ∙ texts_found c.args.found.now (codes "config") c.get_strs.result c.get_strs.ensures in
    subst (λ ts. IfErr c.settings_in.result (BlamesWords (HasNoSetting ts))) found c.settings_in.ensures.fault

pub returns-in-None-clause-settings : goal.returns-in-None-clause-settings
returns-in-None-clause-settings c =
    let found = ap texts_of (sym c.in-None.is) ∙ texts_found c.args.found.now (codes "config") c.get_strs.result c.get_strs.ensures in
    subst (λ ts. AreSaid ts c.new.result.items) found (subst (λ (xs : List Setting). AreSaid [] xs) (sym c.new.ensures.items) tt)
