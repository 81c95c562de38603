-- What a broker says to all connections, spelled place by place.
use Rattle.std.proofs.Common.{◌≡◌, ℕ, zero, suc, ◌<◌, ◌&&◌, Bool, false, not, List, [], ◌∷◌, ◌++◌, length, map, take, get_or, refl, sym, ap, ◌∙◌, arith, Some, append_assoc, append-nil}
use Rattle.std.specs.List.{AllByRecursion}
use Rattle.kb_isolation_spec.specs.Machine.{Line, Sent, sent}
use Rattle.kb_isolation_spec.specs.Machine.{find_line}
use Rattle.kb_isolation_spec.specs.Broker.{BrokerState, Rising}
use Rattle.kb_isolation_spec.specs.Calls.{shut_in}
use Rattle.kb_isolation_spec.specs.Told.{said}
use Rattle.kb_isolation_spec.proofs.Sets.{IsAt, tail-at, no-at}
use Rattle.kb_isolation_spec.proofs.Owned.{found}
use Rattle.kb_connection.specs.View.{speaks}
use Rattle.kb_broker.specs.Places.{numbers}
use Rattle.kb_broker.specs.Script.{sent_text, step_text}
use Rattle.kb_broker.specs.ScriptRun.{words, shut_marks, said_since}
use Rattle.kb_broker.proofs.Heard.{silent-output, silent-shut}

-- 1. By the marks of those that were shut

abbrev numbered : List Line → List ℕ
numbered ls = map (λ (l : Line). l.number) ls

-- what is said since the marks were taken is what is said at the event
since-said : (all old new : List Line) → AllByRecursion (λ l. find_line l.number all ≡ Some l.session) old → numbered new ≡ numbered old → said_since (shut_marks old) new ≡ said all new
since-said all [] [] h e = refl
since-said all [] (m ∷ ms) h e = cc
since-said all (l ∷ ls) [] h e = cc
since-said all (l ∷ ls) (m ∷ ms) h e =
    let first : m.number ≡ l.number = cc in
    let behind : numbered ms ≡ numbered ls = cc in
    let was : l.session.shut ≡ shut_in (find_line m.number all) = sym (ap (λ k. shut_in (find_line k all)) first ∙ ap shut_in h.0) in
    ap (λ b. (let x : Sent = record { number = m.number; bytes = m.session.output; shut = m.session.shut && not b; why = m.session.why } in x) ∷ said_since (shut_marks ls) ms) was
    ∙ ap (λ ss. (let x : Sent = record { number = m.number; bytes = m.session.output; shut = m.session.shut && not (shut_in (find_line m.number all)); why = m.session.why } in x) ∷ ss) (since-said all ls ms h.1 behind)

pub words-since : (old new : BrokerState) (marks : List Bool) → Rising 0 old.last old.lines → numbers new ≡ numbers old → marks ≡ shut_marks old.lines → step_text (said_since marks new.lines) ≡ words old new
words-since old new marks rising same is =
    ap (λ m. step_text (said_since m new.lines)) is ∙ ap step_text (since-said old.lines old.lines new.lines (found 0 old.last old.lines rising) same)

-- 2. Place by place

-- the text of one connection more
pub since-more : (i : ℕ) (marks : List Bool) (ls : List Line) (l : Line) → IsAt ls i l → i < length marks
    → step_text (said_since (take (suc i) marks) (take (suc i) ls)) ≡ step_text (said_since (take i marks) (take i ls)) ++ sent_text l.number l.session.output (l.session.shut && not (get_or marks i false))
since-more i marks [] l a lt = no-at i l a
since-more i [] (k ∷ ls) l a lt = absurd (omega arith)
since-more zero (b ∷ marks) (k ∷ ls) l a lt = rw (← a.here) (append-nil (sent_text l.number l.session.output (l.session.shut && not b)))
since-more (suc i) (b ∷ marks) (k ∷ ls) l a lt =
    let first = sent_text k.number k.session.output (k.session.shut && not b) in
    ap (λ x. first ++ x) (since-more i marks ls l (tail-at k ls i l a) (omega (arith, lt)))
    ∙ sym (append_assoc first (step_text (said_since (take i marks) (take i ls))) (sent_text l.number l.session.output (l.session.shut && not (get_or marks i false))))

-- what was taken of a connection is what it got
pub got-text : (s : Sent) (l : Line) (was : Bool) → s ≡ sent l → sent_text s.number s.bytes (s.shut && not was) ≡ sent_text l.number l.session.output (l.session.shut && not was)
got-text s l was e = ap (λ (x : Sent). sent_text x.number x.bytes (x.shut && not was)) e

-- one that has nothing to tell is not spoken of
pub silent-text : (l : Line) (was : Bool) → speaks l.session ≡ false → sent_text l.number l.session.output (l.session.shut && not was) ≡ []
silent-text l was e =
    ap (λ o. sent_text l.number o (l.session.shut && not was)) (silent-output l.session e) ∙ ap (λ b. sent_text l.number [] (b && not was)) (silent-shut l.session e)
