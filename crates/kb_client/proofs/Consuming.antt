-- What input answers of a consumer that ended.
use Rattle.std.proofs.Common.{◌≡◌, ℕ, List, Option, Some, Result, Ok, Err, refl, sym, ap, ◌∙◌}
use Rattle.kb_client.specs.declared.fault.ClientFault.{ClientFault}
use Rattle.kb_client.specs.declared.fault.ClientFault.TheVariants as faults
use Rattle.kb_client.specs.declared.stage.Ending.TheVariants as endings
use Rattle.kb_client.specs.declared.fetching.Fetching.{Fetching}
use Rattle.kb_client.specs.declared.fetching.Fetching.TheVariants as stages
use Rattle.kb_client.specs.Consumer.{Consumer, fault_at, fed, Inputs}

-- a consumer that ended takes no piece
fed_ended : (c : Consumer) (piece : List ℕ) (fault : ClientFault) → fault_at c.stage ≡ Some fault → fed piece c ≡ c
unfolding fed
fed_ended c piece fault is = rw is refl

-- neither want of memory nor a long line ends it
never : (stage : Fetching) (fault : ClientFault) → fault_at stage ≡ Some fault → (fault ≡ faults.Memory → ⊥) × (fault ≡ faults.LineTooLong → ⊥)
never stages.Closed fault is = absurd cc
never stages.Handshake fault is = absurd cc
never stages.Authenticate fault is = absurd cc
never stages.Fetch fault is = absurd cc
never stages.Finished fault is = absurd cc
never (stages.Ended endings.Denied) fault is = (λ e. cc, λ e. cc)
never (stages.Ended (endings.Code code)) fault is = (λ e. cc, λ e. cc)
never (stages.Ended endings.Protocol) fault is = (λ e. cc, λ e. cc)

ended_is : (c : Consumer) (piece : List ℕ) (fault : ClientFault) → c ≡ fed piece c → fault_at c.stage ≡ Some fault → Inputs c piece (Err fault) c
ended_is c piece faults.Denied is stands = (is, stands)
ended_is c piece (faults.Code code) is stands = (is, stands)
ended_is c piece faults.Protocol is stands = (is, stands)
ended_is c piece faults.LineTooLong is stands = (never c.stage faults.LineTooLong stands).1 refl
ended_is c piece faults.Memory is stands = absurd ((never c.stage faults.Memory stands).0 refl)

-- the fault of a consumer that ended
pub input_stands : (view c : Consumer) (piece : List ℕ) (fault : ClientFault) (said : Option ClientFault) → view ≡ c → said ≡ fault_at view.stage → said ≡ Some fault → Inputs c piece (Err fault) c
input_stands view c piece fault said same is some =
    let stands : fault_at c.stage ≡ Some fault = ap (λ q. fault_at q.stage) (sym same) ∙ sym is ∙ some in
    ended_is c piece fault (sym (fed_ended c piece fault stands)) stands
