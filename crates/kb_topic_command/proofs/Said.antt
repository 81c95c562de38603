-- What was matched to names, texts that say settings, and wrong words.
use Rattle.std.proofs.Common.{◌≡◌, ◌∙◌, ◌+◌, codes, ◌<◌, ℕ, List, [], ◌∷◌, ◌++◌, Bor, Option, Some, Result, Ok, Err, length, map, take, get_or, sym, ap, subst}
use Rattle.std.specs.Prelude.{IfErr, IsErrAnd, unwrap_or, option_map}
use Rattle.std.proofs.lemmas.List.{map-append, take_more}
use Rattle.clap.specs.Words.{Row, first_value, found_of, matched_of, raw_values, rows_of}
use Rattle.clap.specs.declared.parser.matches.ArgMatches.{ArgMatches}
use Rattle.clap.proofs.WalkLemmas.{first_value-rows, raw_values-rows}
use Rattle.kb_admin.specs.Session.{Session, new_admin_session}
use Rattle.kb_admin.specs.Settings.{SaysSetting}
use Rattle.kb_admin.specs.declared.task.Task.{Task}
use Rattle.kb_admin.specs.declared.task.Setting.{Setting}
use Rattle.kb_topic_command.specs.declared.fault.TopicFault.{TopicFault}
use Rattle.kb_topic_command.specs.declared.fault.TopicFault.TheVariants as faults
use Rattle.kb_topic_command.specs.Words.{AreSaid, Asks, AsksBy, BlamesWords, IsLong, text_for, texts_for}

said_more : (ts : List (List ℕ)) (ss : List Setting) (t : List ℕ) (s : Setting) → AreSaid ts ss → SaysSetting t (Some s) → AreSaid (ts ++ t ∷ []) (ss ++ s ∷ [])
said_more [] [] t s a h = (h, tt)
said_more [] (x ∷ ss) t s a h = absurd a
said_more (x ∷ ts) [] t s a h = absurd a
said_more (x ∷ ts) (y ∷ ss) t s a h = (a.0, said_more ts ss t s a.1 h)

-- one more text
pub said_next : (texts : List (Bor (List ℕ))) (i : ℕ) (d : Bor (List ℕ)) (ss : List Setting) (s : Setting) → i < length texts
    → AreSaid (map (λ (t : Bor (List ℕ)). t.now) (take i texts)) ss → SaysSetting (get_or texts i d).now (Some s)
    → AreSaid (map (λ (t : Bor (List ℕ)). t.now) (take (i + 1) texts)) (ss ++ s ∷ [])
said_next texts i d ss s lt a h =
    let now : Bor (List ℕ) → List ℕ = λ t. t.now in
    let x = get_or texts i d in
    let texts_of : map now (take (i + 1) texts) ≡ map now (take i texts) ++ now x ∷ [] =
    ap (map now) (take_more texts i d lt) ∙ map-append now (take i texts) (x ∷ []) in
    subst (λ ts. AreSaid ts (ss ++ s ∷ [])) (sym texts_of) (said_more (map now (take i texts)) ss (now x) s a h)

-- the text that was found for a name, and all of them
pub text_found : (found : ArgMatches) (name : List ℕ) (o : Option (Bor (List ℕ)))
    → option_map (λ (t : Bor (List ℕ)). t.now) o ≡ first_value (found_of found) name
    → unwrap_or (option_map (λ (t : Bor (List ℕ)). t.now) o) [] ≡ text_for (rows_of (found_of found)) name
text_found found name o e = ap (λ x. unwrap_or x []) (e ∙ first_value-rows (found_of found) name)

pub texts_found : (found : ArgMatches) (name : List ℕ) (o : Option (Bor (List (Bor (List ℕ)))))
    → option_map (λ (s : Bor (List (Bor (List ℕ)))). map (λ (t : Bor (List ℕ)). t.now) s.now) o ≡ option_map raw_values (matched_of (found_of found) name)
    → unwrap_or (option_map (λ (s : Bor (List (Bor (List ℕ)))). map (λ (t : Bor (List ℕ)). t.now) s.now) o) [] ≡ texts_for (rows_of (found_of found)) name
texts_found found name o e = ap (λ x. unwrap_or x []) (e ∙ raw_values-rows (found_of found) name)

-- ---- a session

pub asks_by : (verb : List ℕ) (rows : List Row) (s : Session) (user password : List ℕ) (task : Task) → Asks verb rows task → s ≡ new_admin_session user password task
    → user ≡ text_for rows (codes "user") → password ≡ text_for rows (codes "password") → AsksBy verb rows s
asks_by verb rows s user password task asked is u p =
    let same : s.task ≡ task = ap (λ (x : Session). x.task) is in (
      subst (Asks verb rows) (sym same) asked,
      is ∙ ap (λ x. new_admin_session x password task) u ∙ ap (λ x. new_admin_session (text_for rows (codes "user")) x task) p
          ∙ ap (new_admin_session (text_for rows (codes "user")) (text_for rows (codes "password"))) (sym same),
    )

-- ---- wrong words

words_weaker_it : (P Q : List ℕ → Type 0) (fault : TopicFault) → ((m : List ℕ) → P m → Q m) → BlamesWords P fault → BlamesWords Q fault
words_weaker_it P Q (faults.Words message) w b = w message.now b
words_weaker_it P Q faults.Memory w b = tt
words_weaker_it P Q (faults.Connect why) w b = absurd b
words_weaker_it P Q faults.Silent w b = absurd b
words_weaker_it P Q (faults.Admin fault meaning) w b = absurd b
words_weaker_it P Q faults.Write w b = absurd b

-- an error that `?` hands on
pub words_weaker : {T : Type 0} (P Q : List ℕ → Type 0) (e : TopicFault) (r : Result T TopicFault) → IsErrAnd r (λ x. x ≡ e)
    → ((m : List ℕ) → P m → Q m) → BlamesWords P e → IfErr r (BlamesWords Q)
words_weaker P Q e (Ok x) is w b = absurd is
words_weaker P Q e (Err x) is w b = subst (BlamesWords Q) (sym is) (words_weaker_it P Q e w b)

pub words_memory : {T : Type 0} (P : List ℕ → Type 0) (r : Result T TopicFault) → IsErrAnd r (λ x. x ≡ faults.Memory) → IfErr r (BlamesWords P)
words_memory P (Ok x) is = absurd is
words_memory P (Err x) is = subst (BlamesWords P) (sym is) tt

-- a text that is too long, where it is the value of a name
pub long_is : (a b message : List ℕ) → a ≡ b → IsLong a message → IsLong b message
long_is a b message e h = subst (λ t. IsLong t message) e h
