use Rattle.std.proofs.Common.{◌≡◌, ◌∙◌, ap, sym, true, false}
use Rattle.std.proofs.lemmas.Result.{on_ok_weaker}
use Rattle.kb_tenant.specs.DescribeConfigs.{is_asked}
use Rattle.kb_tenant.proofs.Configs.{asked_none, asked_one}
use Rattle.kb_tenant.proofs.describe_configs.put_if_asked.Goals as goal

pub returns-then-not-is_asked : goal.returns-then-not-is_asked
returns-then-not-is_asked c =
    let names = c.args.names.now in
    let not : is_asked names c.args.setting.now.name ≡ false = ap (is_asked names) (sym c.as_str.ensures) ∙ sym c.is_asked.ensures ∙ c.if-not-is_asked.true in
    asked_none c.args.old names c.args.setting.now c.args.sink.now.bytes not

pub returns : goal.returns
returns c = on_ok_weaker c.put_setting.result (λ wrote.
    let names = c.args.names.now in
    let told : is_asked names c.args.setting.now.name ≡ true = ap (is_asked names) (sym c.as_str.ensures) ∙ sym c.is_asked.ensures ∙ c.if-not-is_asked.false in
    asked_one c.args.old names c.args.setting.now c.args.sink.now.bytes c.put_setting.new.sink.bytes told wrote) c.put_setting.ensures
