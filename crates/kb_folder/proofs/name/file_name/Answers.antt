use Rattle.std.proofs.Common.{◌≡◌, ◌∙◌, ◌++◌, ◌<◌, ap, rules, string_bytes}
use Rattle.std.proofs.lemmas.Str.{IsUtf8-from_ascii}
use Rattle.kb_folder.specs.Names.{suffix}
use Rattle.kb_folder.proofs.Names.{digits_ascii, name_is}
use Rattle.kb_folder.proofs.name.file_name.Goals as goal

pub unreachable-requires : goal.unreachable-requires
unreachable-requires c = c.in_default.ensures.cases.0 (IsUtf8-from_ascii c.digits_of-digits.result (digits_ascii c.digits_of-digits.result c.digits_of-digits.ensures.digits))

pub returns : goal.returns
returns c =
    let d = c.digits_of-digits.ensures in
    let small : c.args.number < 18446744073709551616 = search rules in
    let name : string_bytes c.push_str.new.self ≡ c.digits_of-digits.result ++ suffix = c.in_ok-push_str.ensures.bytes ∙ ap (λ s. s ++ suffix) (c.in_ok-name.ensures.ok ∙ c.in-Ok.ensures.cases.0) in
    name_is c.digits_of-digits.result (string_bytes c.push_str.new.self) c.args.number d.length d.digits d.number small name
