-- One turn more, by one reading more of the clock.
use Rattle.std.specs.Prelude.{◌/◌}
use Rattle.std.proofs.Common.{◌≡◌, ◌∙◌, ◌≤◌, ℕ, List, [], ◌∷◌, ◌++◌, Option, None, length, vec_len, ap, refl, sym, subst, arith}
use Rattle.std.specs.declared.alloc.Global.{Global}
use Rattle.std.specs.declared.vec.Vec.{Vec}
use Rattle.kb_store.specs.Disk.{Disk}
use Rattle.kb_store.specs.Loss.{Loss}
use Rattle.kb_server_log.specs.Guard.{clock_after}
use Rattle.kb_server_log.specs.declared.guard.GuardedClock.{GuardedClock}
use Rattle.kb_server_log.specs.declared.guard.Reading.{Reading}
use Rattle.kb_isolation_spec.specs.Broker.{IsEventRun, Rising}
use Rattle.kb_broker.specs.Hosts.{OnStore}
use Rattle.kb_node.specs.Cores.{Seen}
use Rattle.kb_node.specs.Known.{lasting}
use Rattle.kb_node.specs.Moves.{IsRunThrough, IsTurn}
use Rattle.kb_node.specs.Traffic.{Along, AreDone, Deed, events_of}
use Rattle.kb_node.proofs.Sent.{served}
use Rattle.kb_node.proofs.Goes.{run_begins, run_knowing, run_of, run_on, turn_knowing, turn_sync}
use Rattle.kb_node.proofs.Isolated.{isolated}
use Rattle.kb_node.proofs.Known.{lasting_on, none_there}
use Rattle.kb_node.proofs.Traffic.{along_then}
use Rattle.kbroker.specs.Turned.{AreTurned, IsServedSince, clock_behind, ticks}

no_items : {X : Type 0} (xs : List X) → length xs ≡ 0 → xs ≡ []
no_items [] is = refl
no_items (x ∷ xs) is = absurd (omega (arith, is))

-- a list of no length is empty
pub none_of : {X : Type 0} (v : Vec X Global) → vec_len v ≡ 0 → v.items ≡ []
none_of v is = no_items v.items (sym v.ok.0 ∙ is)

clock_more : (c : GuardedClock) (rs : List Reading) (r : Reading) → clock_behind c (rs ++ r ∷ []) ≡ clock_after (clock_behind c rs) r
clock_more c [] r = refl
clock_more c (x ∷ xs) r = clock_more (clock_after c x) xs r

ticks_more : (c : GuardedClock) (rs : List Reading) (r : Reading)
    → ticks c (rs ++ r ∷ []) ≡ ticks c rs ++ (clock_after (clock_behind c rs) r).time / 2000 ∷ []
ticks_more c [] r = refl
ticks_more c (x ∷ xs) r = ap (λ ms. (clock_after c x).time / 2000 ∷ ms) (ticks_more (clock_after c x) xs r)

-- What is known of the store may be less.
module _ {S T : Type 0} (disk : S → Disk) (known less : Deed → S → Type 0) (contents remaining : T → Option (List ℕ))
    (weaker : (d : Deed) (s : S) → known d s → less d s) where
  turns_knowing : (nows : List ℕ) (x y : Seen S T) → Along (IsTurn disk known contents remaining) nows x y
      → Along (IsTurn disk less contents remaining) nows x y
  turns_knowing [] x y h = h
  turns_knowing (now ∷ nows) x y h =
      (h.0, turn_knowing disk known less contents remaining weaker now x h.0 h.1, turns_knowing nows h.0 y h.2)

  turned_knowing : (rs : List Reading) (c d : GuardedClock) (x y : Seen S T) → AreTurned disk known contents remaining rs c d x y
      → AreTurned disk less contents remaining rs c d x y
  turned_knowing rs c d x y turned =
      let turns = turns_knowing (ticks c rs) x y turned.turns in
      record {
        clock = turned.clock;
        turns = turns;
        run = run_knowing disk known less (ticks c rs) x.host y.host weaker turned.run;
        clients = served (ticks c rs) x y turns;
      }

-- how commits are made stays
syncs : {S T : Type 0} (disk : S → Disk) (known : Deed → S → Type 0) (contents remaining : T → Option (List ℕ)) (nows : List ℕ) (x y : Seen S T)
    → Along (IsTurn disk known contents remaining) nows x y → y.host.commits.sync ≡ x.host.commits.sync
syncs disk known contents remaining [] x y h = ap (λ z. z.host.commits.sync) h
syncs disk known contents remaining (now ∷ nows) x y h = syncs disk known contents remaining nows h.0 y h.2 ∙ turn_sync h.1

pub turned_sync : {S T : Type 0} {disk : S → Disk} {known : Deed → S → Type 0} {contents remaining : T → Option (List ℕ)} {rs : List Reading}
    {c d : GuardedClock} {x y : Seen S T} → AreTurned disk known contents remaining rs c d x y → y.host.commits.sync ≡ x.host.commits.sync
turned_sync {S} {T} {disk} {known} {contents} {remaining} {rs} {c} {d} {x} {y} turned =
    syncs disk known contents remaining (ticks c rs) x y turned.turns

pub turned_none : {S T : Type 0} {disk : S → Disk} {known : Deed → S → Type 0} {contents remaining : T → Option (List ℕ)} (c : GuardedClock) (x : Seen S T)
    → AreTurned disk known contents remaining [] c c x x
turned_none {S} {T} {disk} {known} c x = record { clock = refl; turns = refl; run = run_begins disk known x.host; clients = served [] x x refl }

module _ {S T : Type 0} (settled : S → Type 0) (disk : S → Disk) (loss : S → Loss) {contents remaining : T → Option (List ℕ)} where
  -- a turn between what leaves the host and the sockets
  pub turned_between : {x' x y y' : Seen S T} (now at : ℕ) → x' ≡ x → now ≡ at
      → IsTurn disk (lasting settled disk loss y.host.commits) contents remaining now x' y → y' ≡ y
      → IsTurn disk (lasting settled disk loss y'.host.commits) contents remaining at x y'
  turned_between {x'} {x} {y} {y'} now at before same turn behind =
      subst (λ z. IsTurn disk (lasting settled disk loss z.host.commits) contents remaining at x z) (sym behind)
      (subst (λ z. IsTurn disk (lasting settled disk loss y.host.commits) contents remaining at z y) before
      (subst (λ n. IsTurn disk (lasting settled disk loss y.host.commits) contents remaining n x' y) same turn))

  pub turned_on : {rs : List Reading} {c d : GuardedClock} {x y z : Seen S T} (r : Reading) (now : ℕ) (e : GuardedClock)
      → y.host.commits.fault ≡ None → AreTurned disk (lasting settled disk loss y.host.commits) contents remaining rs c d x y
      → e ≡ clock_after d r → now ≡ e.time / 2000 → IsTurn disk (lasting settled disk loss z.host.commits) contents remaining now y z
      → AreTurned disk (lasting settled disk loss z.host.commits) contents remaining (rs ++ r ∷ []) c e x z
  turned_on {rs} {c} {d} {x} {y} {z} r now e none was after is turn =
      let known = lasting settled disk loss z.host.commits in
      let before : AreTurned disk known contents remaining rs c d x y =
      turned_knowing disk (lasting settled disk loss y.host.commits) known contents remaining
      (lasting_on settled disk loss y.host.commits z.host.commits (turn_sync turn) (λ some. absurd (none_there y.host.commits.fault none some))) rs c d x y was in
      let at : e ≡ clock_after (clock_behind c rs) r = after ∙ ap (λ k. clock_after k r) before.clock in
      let moments : ticks c (rs ++ r ∷ []) ≡ ticks c rs ++ now ∷ [] =
      ticks_more c rs r ∙ ap (λ n. ticks c rs ++ n ∷ []) (ap (λ k. k.time / 2000) (sym at) ∙ sym is) in
      let turns : Along (IsTurn disk known contents remaining) (ticks c (rs ++ r ∷ [])) x z =
      subst (λ ms. Along (IsTurn disk known contents remaining) ms x z) (sym moments)
      (along_then (IsTurn disk known contents remaining) (ticks c rs) (now ∷ []) x y z before.turns (z, turn, refl)) in
      record {
        clock = at ∙ sym (clock_more c rs r);
        turns = turns;
        run = subst (λ ms. IsRunThrough disk known ms x.host z.host) (sym moments)
            (run_on disk known (ticks c rs) now x.host y.host z.host before.run (run_of turn));
        clients = served (ticks c (rs ++ r ∷ [])) x z turns;
      }

  -- turns from a broker on that nobody was connected to by a socket
  pub turned_from : {rs : List Reading} {c d : GuardedClock} {x y : Seen S T} (broker : OnStore S)
      → AreTurned disk (lasting settled disk loss y.host.commits) contents remaining rs c d x y
      → x.host.broker ≡ broker → x.host.tried ≡ broker.state.last → x.sockets ≡ [] → broker.state.lines ≡ []
      → IsServedSince settled disk loss contents remaining broker y
  turned_from {rs} {c} {d} {x} {y} broker turned same tried none alone =
      let run = turned.run in
      let known = lasting settled disk loss y.host.commits in
      let done : AreDone disk known run.deeds broker y.host.broker = subst (λ b. AreDone disk known run.deeds b y.host.broker) same run.done in
      let rises : Rising 0 broker.state.last broker.state.lines =
      let low : 0 ≤ broker.state.last = omega arith in subst (Rising 0 broker.state.last) (sym alone) low in
      let is_run : IsEventRun broker.state.last (events_of run.deeds) = subst (λ n. IsEventRun n (events_of run.deeds)) tried run.is_run in
      record {
        start = c;
        readings = rs;
        deeds = run.deeds;
        done = done;
        moments = run.moments;
        is_run = is_run;
        isolated = λ honest. isolated disk known broker.state.last run.deeds broker y.host.broker done is_run rises (omega arith) honest;
        from = x;
        begins = (same, none);
        clients = turned.clients (record {
          sockets = none;
          lines = ap (λ (b : OnStore S). b.state.lines) same ∙ alone;
          tried = let last = ap (λ (b : OnStore S). b.state.last) same in omega (arith, tried, last);
        });
      }
