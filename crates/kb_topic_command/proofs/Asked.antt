-- What is printed and told for the words of a command line.
use Rattle.std.proofs.Common.{◌≡◌, ℕ, List, Option, Result, Ok, Err, codes, refl, sym, subst}
use Rattle.std.specs.Prelude.{IfErr, IsErrAnd, OnOk}
use Rattle.clap.specs.Words.{Row, Text}
use Rattle.kb_admin.specs.Session.{Session}
use Rattle.kb_topic_command.specs.declared.fault.TopicFault.{TopicFault}
use Rattle.kb_topic_command.specs.declared.fault.TopicFault.TheVariants as faults
use Rattle.kb_topic_command.specs.Telling.{Prints, TellsFault}
use Rattle.kb_topic_command.specs.Topic.{PrintsFor, IsNoConnectionTo, TellsFor, Unprinted}
use Rattle.kb_topic_command.specs.Words.{AsksBy, BlamesWords, IsWrong, text_for}

-- ---- what is printed

pub unprinted_fault : (fault : TopicFault) (had : Option (List ℕ)) → Unprinted fault had had
unprinted_fault (faults.Words message) had = refl
unprinted_fault faults.Memory had = refl
unprinted_fault (faults.Connect why) had = refl
unprinted_fault faults.Silent had = refl
unprinted_fault (faults.Admin fault meaning) had = refl
unprinted_fault faults.Write had = tt

pub unprinted_same : {T : Type 0} (r : Result T TopicFault) (had : Option (List ℕ)) → IfErr r (λ fault. Unprinted fault had had)
unprinted_same (Ok x) had = tt
unprinted_same (Err fault) had = unprinted_fault fault had

pub unprinted_write : {T : Type 0} (r : Result T TopicFault) (had has : Option (List ℕ)) → IfErr r (λ fault. fault ≡ faults.Write)
    → IfErr r (λ fault. Unprinted fault had has)
unprinted_write (Ok x) had has is = tt
unprinted_write (Err fault) had has is = subst (λ f. Unprinted f had has) (sym is) tt

pub prints_for : {E : Type 0} (r : Result (Unit {0}) E) (verb : Text) (rows : List Row) (s : Session) (from to before behind had has : Option (List ℕ))
    → AsksBy verb rows s → OnOk r (Prints s from to before behind had has) → OnOk r (PrintsFor verb rows had has)
prints_for (Ok x) verb rows s from to before behind had has asked prints =
    record { session = s; asked = asked; from = from; to = to; before = before; behind = behind; prints = prints }
prints_for (Err e) verb rows s from to before behind had has asked prints = tt

-- ---- faults

-- those of a session
tells_it : (fault : TopicFault) (verb : Text) (rows : List Row) (s : Session) (from to before behind : Option (List ℕ))
    → AsksBy verb rows s → TellsFault s from to before behind fault → TellsFor verb rows fault
tells_it (faults.Words message) verb rows s from to before behind asked tells = absurd tells
tells_it faults.Memory verb rows s from to before behind asked tells = tt
tells_it (faults.Connect why) verb rows s from to before behind asked tells = absurd tells
tells_it faults.Silent verb rows s from to before behind asked tells =
    record { session = s; asked = asked; from = from; to = to; before = before; behind = behind; tells = tells }
tells_it (faults.Admin fault meaning) verb rows s from to before behind asked tells =
    record { session = s; asked = asked; from = from; to = to; before = before; behind = behind; tells = tells }
tells_it faults.Write verb rows s from to before behind asked tells =
    record { session = s; asked = asked; from = from; to = to; before = before; behind = behind; tells = tells }

pub tells_for : {T : Type 0} (r : Result T TopicFault) (verb : Text) (rows : List Row) (s : Session) (from to before behind : Option (List ℕ))
    → AsksBy verb rows s → IfErr r (TellsFault s from to before behind) → IfErr r (TellsFor verb rows)
tells_for (Ok x) verb rows s from to before behind asked tells = tt
tells_for (Err fault) verb rows s from to before behind asked tells = tells_it fault verb rows s from to before behind asked tells

-- those of words
words_tell_it : (fault : TopicFault) (verb : Text) (rows : List Row) → BlamesWords (IsWrong verb rows) fault → TellsFor verb rows fault
words_tell_it (faults.Words message) verb rows b = b
words_tell_it faults.Memory verb rows b = tt
words_tell_it (faults.Connect why) verb rows b = absurd b
words_tell_it faults.Silent verb rows b = absurd b
words_tell_it (faults.Admin fault meaning) verb rows b = absurd b
words_tell_it faults.Write verb rows b = absurd b

pub words_tell : {T : Type 0} (r : Result T TopicFault) (e : TopicFault) (verb : Text) (rows : List Row) → IsErrAnd r (λ x. x ≡ e)
    → BlamesWords (IsWrong verb rows) e → IfErr r (TellsFor verb rows)
words_tell (Ok x) e verb rows is b = tt
words_tell (Err x) e verb rows is b = subst (TellsFor verb rows) (sym is) (words_tell_it e verb rows b)

-- those of a connection
connection_tells_it : (fault : TopicFault) (verb : Text) (rows : List Row) (s : Session) → AsksBy verb rows s
    → IsNoConnectionTo (text_for rows (codes "broker")) fault → TellsFor verb rows fault
connection_tells_it (faults.Words message) verb rows s asked b = absurd b
connection_tells_it faults.Memory verb rows s asked b = tt
connection_tells_it (faults.Connect why) verb rows s asked b = ((s, asked), b)
connection_tells_it faults.Silent verb rows s asked b = absurd b
connection_tells_it (faults.Admin fault meaning) verb rows s asked b = absurd b
connection_tells_it faults.Write verb rows s asked b = absurd b

pub connection_tells : {T : Type 0} (r : Result T TopicFault) (e : TopicFault) (verb address : Text) (rows : List Row) (s : Session)
    → AsksBy verb rows s → IsErrAnd r (λ x. x ≡ e) → address ≡ text_for rows (codes "broker") → IsNoConnectionTo address e → IfErr r (TellsFor verb rows)
connection_tells (Ok x) e verb address rows s asked is a b = tt
connection_tells (Err x) e verb address rows s asked is a b =
    subst (TellsFor verb rows) (sym is) (connection_tells_it e verb rows s asked (subst (λ t. IsNoConnectionTo t e) a b))
