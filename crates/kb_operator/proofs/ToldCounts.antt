-- What is told of counts.
use Rattle.std.proofs.Common.{◌≡◌, ◌≢◌, ◌∙◌, ◌+◌, ◌<◌, ◌&&◌, ◌∷◌, [], ℕ, zero, suc, true, false, List, Option, Some, inl, inr, not, leb, ap, arith, refl, subst, sym}
use Rattle.std.proofs.lemmas.Bool.{false≢true}
use Rattle.kb_server_log.specs.declared.pace.Pace.{Pace}
use Rattle.kb_operator.specs.declared.journal.Journal.{Journal}
use Rattle.kb_operator.specs.Counted.{turned_away_line, turned_away_lines}
use Rattle.kb_operator.specs.Logged.{Grows, LogLine, lines_at, missed_at}
use Rattle.kb_operator.specs.Refused.{BrokerCounts, MayTellCounts, TellsClosed, TellsRefusals, TellsTurnedAway, TellsUnread, are_due, with_pace, with_turned_away}
use Rattle.kb_operator.specs.Sums.{told}
use Rattle.kb_operator.proofs.Logged.{grows_both}

pub some_turned_away : (n most : ℕ) → 0 < n → turned_away_lines n most ≡ turned_away_line n most ∷ []
some_turned_away zero most lt = absurd (omega arith)
some_turned_away (suc n) most lt = refl

-- how many connections were closed at once
pub told_turned_away : (now n most : ℕ) (text : List ℕ) (a b : Option (List LogLine)) → 0 < n → text ≡ turned_away_line n most
    → Grows a b (record { moment = Some now; text = Some text } ∷ []) → Grows a b (lines_at now (turned_away_lines n most))
told_turned_away now n most text a b lt is grown =
    subst (λ ts. Grows a b (lines_at now ts)) (sym (some_turned_away n most lt)) (subst (λ t. Grows a b (lines_at now (t ∷ []))) is grown)

module _ {T : Type 0} (logged : T → Option (List LogLine)) (now : ℕ) where
  -- behind lines that were missed
  caught_up : (start a : Journal T) (t : ℕ) (p : Pace) (l : T) → t ≡ start.turned_away → p ≡ start.pace → Grows (logged start.lines) (logged l) []
      → TellsTurnedAway logged now (record start { turned_away = t; pace = p; lines = l }) a → TellsTurnedAway logged now start a
  caught_up start a t p l counted paced grown (inl first) =
      let most = start.connections in
      inl (record {
        lines = grows_both (logged start.lines) (logged l) (logged a.lines) [] (lines_at now (turned_away_lines start.turned_away most)) grown
            (subst (λ n. Grows (logged l) (logged a.lines) (lines_at now (turned_away_lines n most))) counted first.lines);
        others = first.others ∙ ap (λ k. record start { turned_away = 0; pace = k; lines = a.lines }) paced;
      })
  caught_up start a t p l counted paced grown (inr missed) = inr (record {
    some = subst (λ n. turned_away_lines n start.connections ≢ []) counted missed.some;
    line = grows_both (logged start.lines) (logged l) (logged a.lines) [] (missed_at now ∷ []) grown missed.line;
    others = missed.others ∙ ap (λ n. record start { turned_away = n; pace = p; lines = a.lines }) counted
        ∙ ap (λ k. record start { pace = k; lines = a.lines }) paced;
  })

  pub counts_told : (moment n t : ℕ) (c : BrokerCounts) (old a b d new : Journal T) (p : Pace) (l : T) → old.is_quiet ≡ false → leb old.pace.next moment ≡ true
      → t ≡ told (old.turned_away + n) → p.next ≡ moment + 1000 → Grows (logged old.lines) (logged l) []
      → TellsTurnedAway logged now (record old { turned_away = t; pace = p; lines = l }) a → TellsClosed logged now c.closed a b
      → TellsUnread logged now c.unread b d → TellsRefusals logged now c d new → MayTellCounts logged now moment n c old new
  counts_told moment n t c old a b d new p l loud due counted next grown first second third fourth =
      let start = with_pace moment (with_turned_away n old) in
      let is_due : are_due moment old ≡ true = ap (λ q. not q && leb old.pace.next moment) loud ∙ due in
      let paced : p ≡ start.pace = ap (λ k. record { next = k }) next in
      record {
        early = λ e. absurd (false≢true (sym e ∙ is_due));
        due = λ _. record {
          behind_first = a;
          behind_closed = b;
          behind_unread = d;
          turned_away = caught_up start a t p l counted paced grown first;
          closed = second;
          unread = third;
          refusals = fourth;
        };
      }
