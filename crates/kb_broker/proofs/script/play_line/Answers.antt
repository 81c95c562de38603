use Rattle.std.proofs.Common.{◌≡◌, true, rules, sym, ap, ◌∙◌}
use Rattle.std.specs.Io.BufRead.{strip_last}
use Rattle.kb_isolation_spec.specs.Machine.{Opens, Closes}
use Rattle.kb_broker.specs.Script.{told, told_of, Event, here, is_placed, is_in_place}
use Rattle.kb_broker.proofs.ScriptEvents.{done-silently}
use Rattle.kb_broker.proofs.script.play_line.Goals as goal

pub returns-in-Open-clause-ok : goal.returns-in-Open-clause-ok
returns-in-Open-clause-ok g c honest =
    let says : told (strip_last 10 c.args.text.now) ≡ Event (Opens c.in-Open.connection) = ap told (sym c.without_feed.ensures) ∙ sym c.in-Ok.ensures ∙ ap told_of c.in-Open.is in
    let yes_placed : c.is_in_place.result ≡ true = search rules in
    let placed : is_in_place (here c.args.broker.now.state) (Opens c.in-Open.connection) ≡ true = ap (λ l. is_placed (here c.args.broker.now.state) (told_of l)) (sym c.in-Open.is) ∙ sym c.is_in_place.ensures ∙ yes_placed in
    done-silently c.open.result c.args.number c.args.broker.now.state c.open.new.broker.state (told (strip_last 10 c.args.text.now)) (Opens c.in-Open.connection) _ says placed (c.open.ensures.ok honest)

pub returns-in-Close-clause-ok : goal.returns-in-Close-clause-ok
returns-in-Close-clause-ok g c honest =
    let says : told (strip_last 10 c.args.text.now) ≡ Event (Closes c.in-Close.connection) = ap told (sym c.without_feed.ensures) ∙ sym c.in-Ok.ensures ∙ ap told_of c.in-Close.is in
    let yes_placed : c.is_in_place.result ≡ true = search rules in
    let placed : is_in_place (here c.args.broker.now.state) (Closes c.in-Close.connection) ≡ true = ap (λ l. is_placed (here c.args.broker.now.state) (told_of l)) (sym c.in-Close.is) ∙ sym c.is_in_place.ensures ∙ yes_placed in
    done-silently c.close.result c.args.number c.args.broker.now.state c.close.new.broker.state (told (strip_last 10 c.args.text.now)) (Closes c.in-Close.connection) _ says placed (c.close.ensures.ok honest)
