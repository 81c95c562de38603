use Rattle.std.proofs.Common.{◌+◌, ℕ, List, Bor, map, subst, sym, take}
use Rattle.kb_topic_command.specs.Words.{AreSaid}
use Rattle.kb_topic_command.proofs.Said.{said_next}
use Rattle.kb_topic_command.proofs.words.settings_in.Goals as goal

pub loop-text-preserved : goal.loop-text-preserved
loop-text-preserved c =
    let texts = c.args.texts.now in
    let i = c.loop-text.text-index in
    subst (λ ss. AreSaid (map (λ (t : Bor (List ℕ)). t.now) (take (i + 1) texts)) ss) (sym c.in_ok-push.ensures.items)
    (said_next texts i _ c.loop-text.settings.items c.in_ok-setting_of.field-0 c.loop-text-test.true c.loop-text.invariant c.in_ok-setting_of.ensures.setting)
