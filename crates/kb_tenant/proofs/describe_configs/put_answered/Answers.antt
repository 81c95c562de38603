use Rattle.std.proofs.Common.{rules, ◌≡◌, ◌∙◌, of_z, to_z, w8, w16}
use Rattle.std.proofs.lemmas.Result.{on_ok_weaker}
use Rattle.kb_wire.specs.ErrorCode.{code_of}
use Rattle.kb_wire.specs.Fits.{null_string_fits}
use Rattle.kb_tenant.specs.DescribeConfigs.{answered}
use Rattle.kb_tenant.proofs.Configs.{resource_written}
use Rattle.kb_tenant.proofs.describe_configs.put_answered.Goals as goal

pub put_nullable_string-requires : goal.put_nullable_string-requires
put_nullable_string-requires c = null_string_fits

pub returns : goal.returns
returns c = on_ok_weaker c.put_settings.result (λ last.
    let resource = c.args.resource.now in
    let code : to_z w16 (of_z w16 c.code.result) ≡ c.code.result = search rules in
    let kind : to_z w8 (of_z w8 resource.resource_type) ≡ resource.resource_type = search rules in
    resource_written c.args.old (answered (code_of c.args.error) resource c.args.settings.now) _ _ _ c.args.sink.now.bytes c.put_i16.new.self.bytes c.put_nullable_string.new.self.bytes
    c.put_i8.new.self.bytes c.put_string.new.self.bytes c.put_settings.new.sink.bytes (code ∙ c.code.ensures) kind c.as_str.ensures
    c.in_ok-put_i16.ensures.ok c.in_ok-put_nullable_string.ensures.ok c.in_ok-put_i8.ensures.ok c.in_ok-put_string.ensures.ok last) c.put_settings.ensures
