use Rattle.std.proofs.Common.{◌≡◌, ◌∙◌, ap, sym, rules, length, drop, take, true, ◌-◌, arith}
use Rattle.std.proofs.lemmas.List.{take_all, length-drop}
use Rattle.kb_folder.specs.Names.{number_of, suffix}
use Rattle.std.specs.Prelude.{bytes_eq}
use Rattle.kb_folder.proofs.Names.{named, not_suffix}
use Rattle.kb_folder.proofs.name.file_number.Goals as goal

pub returns-then-not-is_suffix : goal.returns-then-not-is_suffix
returns-then-not-is_suffix c = sym (not_suffix c.args.name.now (search rules))

pub returns : goal.returns
returns c =
    let long : length c.args.name.now ≡ 24 = search rules in
    let bytes = c.as_bytes-bytes.result.now in
    let all = take_all (length bytes - 20) (drop 20 bytes) (omega (arith, length-drop 20 bytes)) in
    let back : bytes_eq (drop 20 c.args.name.now) suffix ≡ true = ap (λ s. bytes_eq (drop 20 s) suffix) (sym c.as_bytes-bytes.ensures.value) ∙ ap (λ s. bytes_eq s suffix) (sym all) ∙ sym c.is_suffix.ensures ∙ c.if-not-is_suffix.false in
    let front : c.number_of.result ≡ number_of (take 20 c.args.name.now) = search rules in
    front ∙ sym (named c.args.name.now long back)
