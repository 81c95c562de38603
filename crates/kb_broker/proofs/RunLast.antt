-- What a history leaves to each tenant.
use Rattle.std.proofs.Common.{◌≡◌, ℕ, List, [], ◌∷◌, ◌++◌, Bool, refl, sym, ◌∙◌, ap, subst}
use Rattle.kb_isolation_spec.specs.Machine.{Happening, Sent, leaving, run, those_sent}
use Rattle.kb_isolation_spec.specs.Owners.{purge}
use Rattle.kb_isolation_spec.specs.Broker.{BrokerState, IsCalmFor, Mine, view_of}
use Rattle.kb_isolation_spec.specs.Calls.{without_output}
use Rattle.kb_isolation_spec.specs.Told.{quieted}
use Rattle.kb_isolation_spec.specs.Left.{last_world}
use Rattle.kb_isolation_spec.proofs.Isolation.{last-step}
use Rattle.kb_isolation_spec.proofs.Laws.{those-each}
use Rattle.kb_isolation_spec.proofs.Runs.{run-step, those_sent-append, those_sent-map}
use Rattle.kb_isolation_spec.proofs.Parts.{calm-first, calm-then}
use Rattle.kb_broker.specs.Runs.{emptied, PassesEvents}
use Rattle.kb_broker.proofs.RunHistory.{ended-leaving, grows-passes}
use Rattle.kb_broker.proofs.ScriptHush.{mine-hushed}

view-emptied : (t : ℕ) (mine : ℕ → Bool) (b : BrokerState) → view_of t mine (emptied b) ≡ quieted (view_of t mine b)
view-emptied t mine b = ap (λ x. record (view_of t mine b) { lines = x }) (those-each mine (λ k s. without_output s) b.lines)

-- what a tenant's connections got, what it then has, and whose its connections then are
pub record IsTold (t : ℕ) (mine : ℕ → Bool) (es later : List Happening) (old new : BrokerState) (got : List Sent) : Type 0 where
  pub sent : those_sent mine got ≡ run (purge mine es) (view_of t mine old)
  pub world : view_of t mine new ≡ quieted (last_world (purge mine es) (view_of t mine old))
  pub owns : Mine t mine later new

pub told-passes : (honest : Type 0) (t : ℕ) (mine : ℕ → Bool) (es later : List Happening) (old new : BrokerState) (got : List Sent) → honest → PassesEvents honest es old new got → Mine t mine (es ++ later) old → IsCalmFor t old new
    → IsTold t mine es later old new got
told-passes honest t mine [] later old new got h p m q = record {
  sent = ap (those_sent mine) p.1 ∙ those_sent-map mine old.lines;
  world = ap (view_of t mine) p.0 ∙ view-emptied t mine old;
  owns = subst (Mine t mine later) (sym p.0) (mine-hushed t mine later old m);
}
told-passes honest t mine (e ∷ es) later old new got h p m q =
    let next = p.0 in
    let step = p.3.step h in
    let grows = grows-passes honest es next new p.2 h p.4 in
    let left = calm-first t old next new step.grows grows q in
    let right = calm-then t old next new step.grows grows q in
    let behind = told-passes honest t mine es later next new p.2 h p.4 (step.mine t mine (es ++ later) m left.unbound) right in
    let moved = step.view t mine (es ++ later) m left in
    record {
      sent = ap (those_sent mine) p.5
          ∙ (those_sent-append mine p.1 p.2
          ∙ (ap (λ ss. those_sent mine ss ++ those_sent mine p.2) (ended-leaving e old next p.1 p.3.leads left.unbound)
          ∙ (ap (λ ss. those_sent mine (leaving e old.lines) ++ ss) behind.sent
          ∙ run-step mine e es (view_of t mine old) (view_of t mine next) old.lines refl moved)));
      world = behind.world ∙ (ap (λ w. quieted (last_world (purge mine es) w)) moved ∙ ap quieted (last-step mine e es (view_of t mine old)));
      owns = behind.owns;
    }
