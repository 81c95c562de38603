use Rattle.std.proofs.Common.{◌++◌, ◌∷◌, [], ℕ, Vec, Global, ◌≡◌, ◌∙◌, refl, sym, subst, ap}
use Rattle.kb_broker.specs.Hosts.{tenants_in}
use Rattle.kb_broker.specs.Parked.{AreConcerned, AreWaitingFor}
use Rattle.kb_broker.specs.declared.serving.Touched.TheVariants as touches
use Rattle.kb_broker.proofs.Served.{concerned-all, concerned-waiting}
use Rattle.kb_broker.proofs.serving.those_concerned.Goals as goal
use Rattle.kb_broker.proofs.serving.those_concerned.Goals.{in-Groups+in_ok-numbers-in-Groups, in-Partitions+in_ok-waiting-in-Partitions+else-is_empty, in-Unknown+in_ok-numbers-in-Unknown}

pub returns-clause-concern : goal.returns-clause-concern
returns-clause-concern g c =
    let a = c.args in
    let t = a.tenant in
    let n = a.number in
    let ts = tenants_in g.L.PartitionLog.log g.S.Store.disk a.tenants.now in
    let q = a.parking.now in
    let ms = c.push.new.self.items in
    let pushed : ms ≡ c.match-touched.numbers.items ++ n ∷ [] = c.in_ok-push.ensures.items in (
      refl,
      elim c.match-touched.branch [
        | in-Groups+in_ok-numbers-in-Groups w ↦
            subst (λ touched. AreConcerned t n ts q touched ms) (sym w.in-Groups.is) (pushed ∙ ap (λ (v : Vec ℕ Global). v.items ++ n ∷ []) w.numbers-is ∙ ap (λ xs. xs ++ n ∷ []) w.in_ok-numbers-in-Groups.ensures)
        | in-Partitions+in_ok-waiting-in-Partitions+else-is_empty w ↦
            subst (λ touched. AreConcerned t n ts q touched ms) (sym w.in-Partitions.is)
            (concerned-waiting t n ts q w.in-Partitions.places w.in_ok-waiting-in-Partitions.waiting.items ms
            (subst (λ ps. AreWaitingFor t ts q ps w.in_ok-waiting-in-Partitions.waiting.items) w.deref.ensures.value w.in_ok-waiting-in-Partitions.ensures)
            (pushed ∙ ap (λ (v : Vec ℕ Global). v.items ++ n ∷ []) w.numbers-is))
        | in-Unknown+in_ok-numbers-in-Unknown w ↦
            subst (λ touched. AreConcerned t n ts q touched ms) (sym w.in-Unknown.is)
            (concerned-all t n ts q touches.Unknown w.in_ok-numbers-in-Unknown.numbers.items ms (λ e. absurd (cc)) w.in_ok-numbers-in-Unknown.ensures (pushed ∙ ap (λ (v : Vec ℕ Global). v.items ++ n ∷ []) w.numbers-is))
      ],
    )
