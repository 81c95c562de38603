-- A socket has told all that there was to say.
use Rattle.std.proofs.Common.{◌≡◌, ◌≢◌, ◌≤◌, ◌-◌, ◌∙◌, ◌++◌, ◌&&◌, ◌==◌, ℕ, List, [], ◌∷◌, Bool, true, false, not, drop, length, length-drop, vec_len, inl, inr, ⊎_elim, ap, refl, subst, sym, arith}
use Rattle.std.proofs.Math.Seq.{drop-length}
use Rattle.kb_isolation_spec.specs.Broker.{BrokerState}
use Rattle.kb_isolation_spec.specs.Calls.{is_shut, output_of}
use Rattle.kb_node.specs.declared.socket.Socket.{Socket}
use Rattle.kb_node.specs.Carries.{HasHeard, HasToldAll, TellsInTurn, unwritten_of}
use Rattle.kb_node.specs.Sockets.{can_ask, is_done, is_held, is_waiting}
use Rattle.kb_node.proofs.Carries.{zero_of}

pub none_after : (xs ys : List ℕ) → [] ≡ xs ++ ys → ys ≡ []
none_after [] ys h = sym h
none_after (x ∷ xs) ys h = absurd (let no : [] ≡ x ∷ (xs ++ ys) = h in cc)

quiet : (over unwritten shut waits : Bool) → (not over && unwritten && not shut && not waits) ≡ true → unwritten ≡ true
quiet over true shut waits h = refl
quiet true false shut waits h = absurd (let no : false ≡ true = h in cc)
quiet false false shut waits h = absurd (let no : false ≡ true = h in cc)

-- one whose peer is gone does not go on
pub over_ends : {P : Type 0} (over half may_answer : Bool) (unwritten n : ℕ) (b : BrokerState) → over ≡ true
    → is_done over half may_answer unwritten n b ≡ false → P
over_ends true half may_answer unwritten n b is h = absurd (let none : true ≡ false = h in cc)
over_ends false half may_answer unwritten n b is h = absurd (let none : false ≡ true = is in cc)

module _ {T : Type 0} where
  -- all is written where so few bytes are not
  pub all_written : (s : Socket T) → vec_len s.output - s.written ≡ 0 → unwritten_of s ≡ []
  all_written s none = let at : s.written ≡ length s.output.items = omega (arith, none, s.within, s.output.ok.0) in
      subst (λ n. drop n s.output.items ≡ []) (sym at) (drop-length s.output.items)

  pub none_unwritten : (s : Socket T) → unwritten_of s ≡ [] → vec_len s.output - s.written ≡ 0
  none_unwritten s all = omega (arith, s.output.ok.0, length-drop s.written s.output.items, ap length all)

  -- one that can be asked has written all
  pub asked_written : (s : Socket T) (b : BrokerState) → can_ask s.is_over (vec_len s.output - s.written) s.connection b ≡ true → unwritten_of s ≡ []
  asked_written s b can = all_written s (zero_of (vec_len s.output - s.written)
      (quiet s.is_over (vec_len s.output - s.written == 0) (is_shut s.connection b) (is_waiting s.connection b) can))

  -- the output was taken, and some of it was written
  pub told_taken : (s t : Socket T) (b : BrokerState) → t.connection ≡ s.connection → output_of s.connection b ≡ [] → HasToldAll t b
  told_taken s t b number none = inl (ap (λ n. output_of n b) number ∙ none)

  -- none was taken, and some of what there was is written
  pub told_kept : (s t : Socket T) (b : BrokerState) (put : List ℕ) → t.connection ≡ s.connection → t.may_answer ≡ s.may_answer
      → unwritten_of s ≡ put ++ unwritten_of t → (unwritten_of s ≡ [] → is_held s.may_answer s.connection b ≡ true) → TellsInTurn s b
      → HasToldAll t b
  told_kept s t b put number answer out held turn = ⊎_elim
      (λ all. inr (none_after put (unwritten_of t) (sym all ∙ out), (λ i. is_held (answer i) (number i) b) ∙ held all))
      (λ none. told_taken s t b number none)
      turn

  -- and then only what was told of it changed
  pub told_on : (s t : Socket T) (b c : BrokerState) → c ≡ b → t ≡ record s { is_known = t.is_known; is_denied = t.is_denied }
      → HasToldAll s b → HasToldAll t c
  told_on s t b c host is told = subst (λ u. HasToldAll u c) (sym is) (subst (λ d. HasToldAll s d) (sym host) told)

  pub told_at : (s t : Socket T) (b c : BrokerState) → t ≡ s → c ≡ b → HasToldAll s b → HasToldAll t c
  told_at s t b c same host told = subst (λ u. HasToldAll u c) (sym same) (subst (λ d. HasToldAll s d) (sym host) told)

  -- all was told that there was to say
  pub heard_all : (s : Socket T) (b : BrokerState) → HasToldAll s b → HasHeard s b
  heard_all s b told = ⊎_elim (λ none. inl none) (λ held. inr (inr held.1)) told

  -- or some of it is still to be written
  pub heard_later : (s : Socket T) (b : BrokerState) → vec_len s.output - s.written ≢ 0 → HasHeard s b
  heard_later s b some = inr (inl (λ all. some (none_unwritten s all)))

  pub heard_at : (s t : Socket T) (b c : BrokerState) → t ≡ s → c ≡ b → HasHeard s b → HasHeard t c
  heard_at s t b c same host heard = subst (λ u. HasHeard u c) (sym same) (subst (λ d. HasHeard s d) (sym host) heard)

  pub heard_on : (s t : Socket T) (b c : BrokerState) → c ≡ b → t ≡ record s { is_known = t.is_known; is_denied = t.is_denied }
      → HasHeard s b → HasHeard t c
  heard_on s t b c host is heard = subst (λ u. HasHeard u c) (sym is) (subst (λ d. HasHeard s d) (sym host) heard)

  -- it was noted on it that it has logged in, and that a login failed
  pub both_noted : (s m t : Socket T) → m ≡ record s { is_known = m.is_known } → t ≡ record m { is_denied = t.is_denied }
      → t ≡ record s { is_known = t.is_known; is_denied = t.is_denied }
  both_noted s m t one two =
      let first : record m { is_denied = t.is_denied } ≡ record s { is_known = m.is_known; is_denied = t.is_denied } =
      ap {A = Socket T} (λ u. record u { is_denied = t.is_denied }) one in
      let again : m.is_known ≡ t.is_known = sym (ap (λ (u : Socket T). u.is_known) two) in
      two ∙ first ∙ λ i. record s { is_known = again i; is_denied = t.is_denied }
