use Rattle.std.proofs.lemmas.Str.Pattern.{strip_prefix_char}
use Rattle.kb_settings.proofs.Addresses.{behind-from}
use Rattle.kb_settings.proofs.address.behind.Goals as goal

pub returns : goal.returns
returns c =
    behind-from c.args.c c.args.text.now c.strip_prefix.result
    (strip_prefix_char c.args.c c.args.text.now c.strip_prefix.result c.strip_prefix.ensures.cases c.requires)
