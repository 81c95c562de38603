-- What a call of a journal tells and leaves.
use Rattle.std.proofs.Common.{◌≡◌, ◌∙◌, ◌<◌, ◌++◌, ℕ, List, [], ◌∷◌, Bor, Option, Some, None, Bool, true, false, Result, codes, length, refl, sym, ap, subst}
use Rattle.std.specs.Prelude.{IfOk, option_map, slice_get, slice_index_or, string_bytes}
use Rattle.std.specs.declared.string.String.{String}
use Rattle.std.specs.declared.net.SocketAddr.{SocketAddr}
use Rattle.std.proofs.lemmas.Option.{slice_get-get_or}
use Rattle.kb_operator.specs.Bucket.{at_second, has_room, told_of, with_line}
use Rattle.kb_operator.specs.Events.{passed_over, passed_over_lines}
use Rattle.kb_operator.specs.Known.{KnownUser, known_account}
use Rattle.kb_operator.specs.Logged.{LogLine, text_in, Grows, TellsTexts}
use Rattle.kb_operator.specs.Logins.{bucket_in, due_lines, known_at, line_if, lines_in, login_bucket, login_line, login_lines}
use Rattle.kb_operator.specs.Speaks.{Speaks}
use Rattle.kb_operator.specs.declared.bucket.Bucket.{Bucket}
use Rattle.kb_operator.specs.declared.journal.Account.{Account}
use Rattle.kb_operator.specs.declared.journal.Journal.{Journal}
use Rattle.kb_operator.proofs.Logged.{tells_both, tells_none, tells_one}

-- ---- the line of a second that has room

tells_in : {A E : Type 0} (now second : ℕ) (words line : List ℕ) (b m : Bucket) (takes : Bool) (r : Result (String A) E)
    (x y z : Option (List LogLine)) → TellsTexts now (due_lines words second b) x y → m ≡ told_of second b
    → takes ≡ has_room (at_second second m) → takes ≡ true → IfOk r (λ t. string_bytes t ≡ line)
    → Grows y z (record { moment = Some now; text = text_in r } ∷ []) → TellsTexts now (lines_in words line second b) x z
tells_in now second words line b m takes r x y z t is room taking h g =
    let has : has_room (at_second second (told_of second b)) ≡ true =
    ap (λ k. has_room (at_second second k)) (sym is) ∙ sym room ∙ taking in
    tells_both now (due_lines words second b) (line_if (has_room (at_second second (told_of second b))) line) x y z t
    (subst (λ q. TellsTexts now (line_if q line) y z) (sym has) (tells_one now line r y z h g))

-- what is left then
leaves_in : (second : ℕ) (b m taken : Bucket) → m ≡ told_of second b → taken ≡ with_line (at_second second m) → taken ≡ bucket_in second b
leaves_in second b m taken is e = e ∙ ap (λ k. with_line (at_second second k)) is

-- the user at a place
pub user_is : (users us : List Account) (place : ℕ) (u : Account) → place < length us → u ≡ slice_index_or us place u → us ≡ users
    → known_at users place ≡ Some (known_account u)
user_is users us place u lt is same =
    subst (λ xs. known_at xs place ≡ Some (known_account u)) same
    (ap (option_map known_account) (slice_get-get_or us place u lt ∙ sym (ap (λ y. Some y) is)))

module _ {T : Type 0} (logged : T → Option (List LogLine)) (now : ℕ) where
  -- a journal that is not quiet
  speaks_loud : (texts : List (List ℕ)) (left old new : Journal T) → old.is_quiet ≡ false
      → TellsTexts now texts (logged old.lines) (logged new.lines) → new ≡ record left { lines = new.lines } → Speaks logged now texts left old new
  speaks_loud texts left old new l t e = record { quiet = λ q. absurd cc; told = λ _. t; others = λ _. e }

  -- a login that failed
  pub speaks_failed : {A E : Type 0} (second : ℕ) (line : List ℕ) (old mid : Journal T) (taken : Bucket) (l : T) (takes : Bool) (r : Result (String A) E)
      → old.is_quiet ≡ false
      → TellsTexts now (due_lines (codes "login failed from others: ") second old.failed) (logged old.lines) (logged mid.lines)
      → mid ≡ record old { failed = told_of second old.failed; lines = mid.lines }
      → takes ≡ has_room (at_second second mid.failed) → takes ≡ true → taken ≡ with_line (at_second second mid.failed)
      → IfOk r (λ t. string_bytes t ≡ line) → Grows (logged mid.lines) (logged l) (record { moment = Some now; text = text_in r } ∷ [])
      → Speaks logged now (lines_in (codes "login failed from others: ") line second old.failed)
      (record old { failed = bucket_in second old.failed }) old (record mid { failed = taken; lines = l })
  speaks_failed second line old mid taken l takes r loud t is room taking left h g =
      let same : mid.failed ≡ told_of second old.failed = ap (λ (j : Journal T). j.failed) is in
      speaks_loud (lines_in (codes "login failed from others: ") line second old.failed) (record old { failed = bucket_in second old.failed }) old
      (record mid { failed = taken; lines = l }) loud
      (tells_in now second (codes "login failed from others: ") line old.failed mid.failed takes r (logged old.lines) (logged mid.lines) (logged l)
      t same room taking h g)
      (ap (λ (j : Journal T). record j { failed = taken; lines = l }) is
      ∙ ap (λ (k : Bucket). record old { failed = k; lines = l }) (leaves_in second old.failed mid.failed taken same left))

  -- a connection that was shut
  pub speaks_shut : {A E : Type 0} (second : ℕ) (line : List ℕ) (old mid : Journal T) (taken : Bucket) (l : T) (takes : Bool) (r : Result (String A) E)
      → old.is_quiet ≡ false
      → TellsTexts now (due_lines (codes "closed others: ") second old.shut) (logged old.lines) (logged mid.lines)
      → mid ≡ record old { shut = told_of second old.shut; lines = mid.lines }
      → takes ≡ has_room (at_second second mid.shut) → takes ≡ true → taken ≡ with_line (at_second second mid.shut)
      → IfOk r (λ t. string_bytes t ≡ line) → Grows (logged mid.lines) (logged l) (record { moment = Some now; text = text_in r } ∷ [])
      → Speaks logged now (lines_in (codes "closed others: ") line second old.shut)
      (record old { shut = bucket_in second old.shut }) old (record mid { shut = taken; lines = l })
  speaks_shut second line old mid taken l takes r loud t is room taking left h g =
      let same : mid.shut ≡ told_of second old.shut = ap (λ (j : Journal T). j.shut) is in
      speaks_loud (lines_in (codes "closed others: ") line second old.shut) (record old { shut = bucket_in second old.shut }) old
      (record mid { shut = taken; lines = l }) loud
      (tells_in now second (codes "closed others: ") line old.shut mid.shut takes r (logged old.lines) (logged mid.lines) (logged l)
      t same room taking h g)
      (ap (λ (j : Journal T). record j { shut = taken; lines = l }) is
      ∙ ap (λ (k : Bucket). record old { shut = k; lines = l }) (leaves_in second old.shut mid.shut taken same left))

  -- a login that was right
  pub speaks_login : {A E : Type 0} (address : SocketAddr) (place second : ℕ) (k : KnownUser) (old mid : Journal T) (taken : Bucket) (l : T)
      (takes : Bool) (r : Result (String A) E) → known_at old.users.items place ≡ Some k → old.is_quiet ≡ false
      → TellsTexts now (due_lines (codes "login of others: ") second old.logins) (logged old.lines) (logged mid.lines)
      → mid ≡ record old { logins = told_of second old.logins; lines = mid.lines }
      → takes ≡ has_room (at_second second mid.logins) → takes ≡ true → taken ≡ with_line (at_second second mid.logins)
      → IfOk r (λ t. string_bytes t ≡ login_line address k) → Grows (logged mid.lines) (logged l) (record { moment = Some now; text = text_in r } ∷ [])
      → Speaks logged now (login_lines address (known_at old.users.items place) second old.logins)
      (record old { logins = login_bucket (known_at old.users.items place) second old.logins }) old (record mid { logins = taken; lines = l })
  speaks_login address place second k old mid taken l takes r at loud t is room taking left h g =
      let same : mid.logins ≡ told_of second old.logins = ap (λ (j : Journal T). j.logins) is in
      let line = login_line address k in
      subst (λ o. Speaks logged now (login_lines address o second old.logins) (record old { logins = login_bucket o second old.logins }) old
      (record mid { logins = taken; lines = l })) (sym at)
      (speaks_loud (lines_in (codes "login of others: ") line second old.logins) (record old { logins = bucket_in second old.logins }) old
      (record mid { logins = taken; lines = l }) loud
      (tells_in now second (codes "login of others: ") line old.logins mid.logins takes r (logged old.lines) (logged mid.lines) (logged l)
      t same room taking h g)
      (ap (λ (j : Journal T). record j { logins = taken; lines = l }) is
      ∙ ap (λ (b : Bucket). record old { logins = b; lines = l }) (leaves_in second old.logins mid.logins taken same left)))

  -- what was passed over of each kind
  pub speaks_passed_over : (second : ℕ) (old a b new : Journal T) → old.is_quiet ≡ false
      → TellsTexts now (due_lines (codes "login of others: ") second old.logins) (logged old.lines) (logged a.lines)
      → a ≡ record old { logins = told_of second old.logins; lines = a.lines }
      → TellsTexts now (due_lines (codes "login failed from others: ") second a.failed) (logged a.lines) (logged b.lines)
      → b ≡ record a { failed = told_of second a.failed; lines = b.lines }
      → TellsTexts now (due_lines (codes "closed others: ") second b.shut) (logged b.lines) (logged new.lines)
      → new ≡ record b { shut = told_of second b.shut; lines = new.lines }
      → Speaks logged now (passed_over_lines second old) (passed_over second old) old new
  speaks_passed_over second old a b new loud t1 o1 t2 o2 t3 o3 =
      let w1 = due_lines (codes "login of others: ") second old.logins in
      let w2 = due_lines (codes "login failed from others: ") second old.failed in
      let w3 = due_lines (codes "closed others: ") second old.shut in
      let failed : a.failed ≡ old.failed = ap (λ (j : Journal T). j.failed) o1 in
      let shut : b.shut ≡ old.shut = ap (λ (j : Journal T). j.shut) o2 ∙ ap (λ (j : Journal T). j.shut) o1 in
      let second_told : TellsTexts now w2 (logged a.lines) (logged b.lines) =
      subst (λ k. TellsTexts now (due_lines (codes "login failed from others: ") second k) (logged a.lines) (logged b.lines)) failed t2 in
      let third_told : TellsTexts now w3 (logged b.lines) (logged new.lines) =
      subst (λ k. TellsTexts now (due_lines (codes "closed others: ") second k) (logged b.lines) (logged new.lines)) shut t3 in
      speaks_loud (passed_over_lines second old) (passed_over second old) old new loud
      (tells_both now (w1 ++ w2) w3 (logged old.lines) (logged b.lines) (logged new.lines)
      (tells_both now w1 w2 (logged old.lines) (logged a.lines) (logged b.lines) t1 second_told) third_told)
      (o3 ∙ ap (λ (j : Journal T). record j { shut = told_of second j.shut; lines = new.lines }) o2
      ∙ ap (λ (j : Journal T). record j { failed = told_of second j.failed; shut = told_of second j.shut; lines = new.lines }) o1)

  -- a call that leaves all else as it was, of a journal that is quiet or not
  pub announces_quiet : (texts : List (List ℕ)) (old : Journal T) → old.is_quiet ≡ true → Speaks logged now texts old old old
  announces_quiet texts old q = record { quiet = λ _. refl; told = λ l. absurd cc; others = λ l. absurd cc }

  pub announces_loud : (texts : List (List ℕ)) (old : Journal T) (l : T) → old.is_quiet ≡ false
      → TellsTexts now texts (logged old.lines) (logged l) → Speaks logged now texts old old (record old { lines = l })
  announces_loud texts old l loud t = speaks_loud texts old old (record old { lines = l }) loud t refl

  -- nothing is told
  pub announces_none : (old : Journal T) → Speaks logged now [] old old old
  announces_none old = record { quiet = λ _. refl; told = λ _. tells_none now (logged old.lines); others = λ _. refl }

  -- the one and then the other, of calls that leave all else as it was
  pub announces_both : (ts us : List (List ℕ)) (a b c : Journal T) → Speaks logged now ts a a b → Speaks logged now us b b c → Speaks logged now (ts ++ us) a a c
  announces_both ts us a b c p q = record {
    quiet = λ e. let same : b ≡ a = p.quiet e in q.quiet (ap (λ (j : Journal T). j.is_quiet) same ∙ e) ∙ same;
    told = λ e.
        let loud : b.is_quiet ≡ false = ap (λ (j : Journal T). j.is_quiet) (p.others e) ∙ e in
        tells_both now ts us (logged a.lines) (logged b.lines) (logged c.lines) (p.told e) (q.told loud);
    others = λ e.
        let loud : b.is_quiet ≡ false = ap (λ (j : Journal T). j.is_quiet) (p.others e) ∙ e in
        q.others loud ∙ ap (λ (j : Journal T). record j { lines = c.lines }) (p.others e);
  }
