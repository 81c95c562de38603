-- What a history says of each tenant, whatever was refused: it is a run of the machine of that tenant alone that may be refused something.
use Rattle.std.proofs.Common.{◌≡◌, ℕ, List, [], ◌∷◌, ◌++◌, Bool, true, false, refl, sym, ◌∙◌, ap, subst, inl, inr}
use Rattle.std.specs.Prelude.{cond}
use Rattle.kb_isolation_spec.specs.Machine.{Happening, Opens, Comes, Closes, Moment, Sent, those_sent}
use Rattle.kb_isolation_spec.specs.Owners.{concerns, purge}
use Rattle.kb_isolation_spec.specs.Broker.{AnyWait, BrokerState, IsEventRun, Mine}
use Rattle.kb_isolation_spec.specs.Calls.{without_output}
use Rattle.kb_isolation_spec.specs.Told.{quieted_lines}
use Rattle.kb_isolation_spec.proofs.Laws.{none-those, those-each}
use Rattle.kb_isolation_spec.proofs.Owned.{run-after}
use Rattle.kb_isolation_spec.proofs.Runs.{leaving-not, leaving-those, those_sent-append, those_sent-map}
use Rattle.kb_isolation_spec.proofs.Wakes.{unready-view}
use Rattle.kb_broker.specs.Runs.{Leads, MayEnd, MayRun, PassesEvents, emptied, unkept}
use Rattle.kb_broker.specs.Truth.{IsSettled, MayAct, Own, own_of}
use Rattle.kb_broker.proofs.Truth.{own-opened}

-- the connections that an event ends, of the tenant's own
own-ended : (t : ℕ) (mine : ℕ → Bool) (e : Happening) (old new : BrokerState) (ended : List Sent) → concerns mine e ≡ true → Leads e old new ended
    → MayEnd e (own_of t mine old) (own_of t mine new) (those_sent mine ended)
own-ended t mine (Opens n) old new ended ours (inl h) = inl (ap (own_of t mine) h.0 ∙ own-opened old n t mine true ours, ap (those_sent mine) h.1)
own-ended t mine (Opens n) old new ended ours (inr h) =
    inr (ap (own_of t mine) h.0.is, ap (those_sent mine) h.1 ∙ ap (λ (x : Bool). cond x (unkept n ∷ []) []) ours)
own-ended t mine (Comes n piece) old new ended ours h = ap (those_sent mine) h.1
own-ended t mine (Closes n) old new ended ours h = ap (those_sent mine) h.1 ∙ leaving-those mine (Closes n) old.lines
own-ended t mine (Moment now) old new ended ours h = ap (those_sent mine) h.1

-- and of another's event none
none-ended : (mine : ℕ → Bool) (e : Happening) (old new : BrokerState) (ended : List Sent) → concerns mine e ≡ false → Leads e old new ended → those_sent mine ended ≡ []
none-ended mine (Opens n) old new ended theirs (inl h) = ap (those_sent mine) h.1
none-ended mine (Opens n) old new ended theirs (inr h) = ap (those_sent mine) h.1 ∙ ap (λ (x : Bool). cond x (unkept n ∷ []) []) theirs
none-ended mine (Comes n piece) old new ended theirs h = ap (those_sent mine) h.1
none-ended mine (Closes n) old new ended theirs h = ap (those_sent mine) h.1 ∙ leaving-not mine (Closes n) old.lines theirs
none-ended mine (Moment now) old new ended theirs h = ap (those_sent mine) h.1

own-emptied : (t : ℕ) (mine : ℕ → Bool) (b : BrokerState) → own_of t mine (emptied b) ≡ record (own_of t mine b) { view = record (own_of t mine b).view { lines = quieted_lines (own_of t mine b).view.lines } }
own-emptied t mine b =
    ap (λ ls. let o : Own = record (own_of t mine b) { view = record (own_of t mine b).view { lines = ls } } in o) (those-each mine (λ k s. without_output s) b.lines)

pub own-passes : (honest : Type 0) (t : ℕ) (mine : ℕ → Bool) (es : List Happening) (old new : BrokerState) (got : List Sent) → honest → PassesEvents honest es old new got → Mine t mine es old → IsEventRun old.last es
    → MayRun t (purge mine es) (own_of t mine old) (own_of t mine new) (those_sent mine got)
own-passes honest t mine [] old new got h p m run = (ap (own_of t mine) p.0 ∙ own-emptied t mine old, ap (those_sent mine) p.1 ∙ those_sent-map mine old.lines)
own-passes honest t mine (e ∷ es) old new got h p m run =
    let next = p.0 in
    let acts = p.3.spoken h t mine es run m in
    let later = own-passes honest t mine es next new p.2 h p.4 acts.stays (run-after next.last old.last e es (p.3.step h).last run) in
    by (concerns mine e) refl acts.own acts.apart later
  where
    settled : IsSettled (own_of t mine p.0)
    settled =
        let ready = p.3.ready h in
        record { turns = none-those mine p.0.lines ready.settled; waits = unready-view AnyWait p.0 t mine es ready.unready (λ w. tt) (p.3.spoken h t mine es run m).stays }

    by : (x : Bool) → concerns mine e ≡ x → (concerns mine e ≡ true → MayAct t e (own_of t mine old) (own_of t mine p.0)) → (concerns mine e ≡ false → own_of t mine p.0 ≡ own_of t mine old)
        → MayRun t (purge mine es) (own_of t mine p.0) (own_of t mine new) (those_sent mine p.2) → MayRun t (cond (concerns mine e) (e ∷ purge mine es) (purge mine es)) (own_of t mine old) (own_of t mine new) (those_sent mine got)
    by true ours own apart later =
        subst (λ (x : Bool). MayRun t (cond x (e ∷ purge mine es) (purge mine es)) (own_of t mine old) (own_of t mine new) (those_sent mine got)) (sym ours)
        (own_of t mine p.0, those_sent mine p.1, those_sent mine p.2, own ours, settled, own-ended t mine e old p.0 p.1 ours p.3.leads, later, ap (those_sent mine) p.5 ∙ those_sent-append mine p.1 p.2)
    by false theirs own apart later =
        subst (λ (x : Bool). MayRun t (cond x (e ∷ purge mine es) (purge mine es)) (own_of t mine old) (own_of t mine new) (those_sent mine got)) (sym theirs)
        (subst (λ o. MayRun t (purge mine es) o (own_of t mine new) (those_sent mine got)) (apart theirs)
        (subst (MayRun t (purge mine es) (own_of t mine p.0) (own_of t mine new))
        (sym (ap (those_sent mine) p.5 ∙ (those_sent-append mine p.1 p.2 ∙ ap (λ ss. ss ++ those_sent mine p.2) (none-ended mine e old p.0 p.1 theirs p.3.leads)))) later))
