-- A sync leaves what a broker is.
use Rattle.std.proofs.Common.{◌≡◌, ℕ, List, None, subst, sym}
use Rattle.kb_store.specs.Disk.{Disk}
use Rattle.std.specs.Prelude.{◌<◌, length}
use Rattle.std.specs.FinMap.{get}
use Rattle.std.specs.List.{AllByRecursion}
use Rattle.kb_isolation_spec.specs.Greeting.{User}
use Rattle.kb_isolation_spec.specs.Machine.{Line, find_line, first_able}
use Rattle.kb_isolation_spec.specs.Broker.{AnyWait, AreUnready, BrokerState, InRange, IsSound}
use Rattle.kb_tenant_api.specs.Hosted.{TenantState}
use Rattle.kb_waits.specs.Queue.{Queue}
use Rattle.kb_broker.specs.Parked.{IsKeyedIn, IsQueueOf}
use Rattle.kb_broker.specs.Hosts.{OnStore, IsReadyOn, is_honest}

pub queue_synced : (was now : Type 0) (q : Queue) (ts us : List TenantState) (lines : List Line) → (now → was) → (now → us ≡ ts)
    → IsQueueOf was q ts lines → IsQueueOf now q us lines
queue_synced was now q ts us lines before same k = record {
  dated = k.dated;
  owned = k.owned;
  keyed = λ honest. subst (λ (xs : List TenantState). (n : ℕ) → IsKeyedIn xs n (find_line n lines) (get q n)) (sym (same honest)) (k.keyed (before honest));
}

pub ready_synced : {S : Type 0} (disk : S → Disk) (old new : OnStore S) → new.state ≡ record old.state { tenants = new.state.tenants }
    → length new.state.tenants ≡ length old.state.tenants → (is_honest disk new → new.state ≡ old.state) → (is_honest disk new → is_honest disk old)
    → IsReadyOn disk old → IsReadyOn disk new
ready_synced disk old new others count same before r = record {
  sound = subst (λ (b : BrokerState). IsSound b) (sym others) (record {
    rising = r.sound.rising;
    in_range = subst (λ n. AllByRecursion (λ (l : Line). InRange n l.session.stage) old.state.lines) (sym count) r.sound.in_range;
    users = subst (λ n. AllByRecursion (λ (u : User). u.tenant < n) old.state.setup.users) (sym count) r.sound.users;
    clock = r.sound.clock;
  });
  settled = subst (λ (b : BrokerState). first_able b.lines ≡ None) (sym others) r.settled;
  unready = λ honest. subst (λ (b : BrokerState). AreUnready AnyWait b) (sym (same honest)) (r.unready (before honest));
}
