-- What each call is to the broker on its store: the engine's own a is the one that clauses see, b.
use Rattle.std.proofs.Common.{◌≡◌, ◌<◌, ℕ, None, Result, Ok, Err, OnOk, OnErr, sym, ◌∙◌, subst, ap}
use Rattle.kb_store.specs.Disk.{Disk}
use Rattle.kb_isolation_spec.specs.Machine.{Opens, Closes, first_able}
use Rattle.kb_isolation_spec.specs.Broker.{BrokerState, AreUnready, AnyWait, IsSound, IsStep}
use Rattle.kb_isolation_spec.specs.Calls.{IsRefusedUnbound, opened, closed, output_taken}
use Rattle.kb_isolation_spec.proofs.Steps.{sound-opened, settled-opened, unready-opened, step-opened, step-unopened, sound-closed, settled-closed, unready-closed, step-closed}
use Rattle.kb_isolation_spec.proofs.Taken.{sound-taken, settled-taken, unready-taken}
use Rattle.kb_isolation_spec.specs.Stranded.{NoneStranded}
use Rattle.kb_isolation_spec.proofs.Stranded.{stranded-closed, stranded-opened, stranded-taken, stranded-unopened}
use Rattle.kb_broker.specs.Hosts.{OnStore, is_honest, IsLaterBy, IsReadyOn, StepsTo}
use Rattle.kb_broker.specs.Truth.{SpeaksAt}
use Rattle.kb_broker.proofs.Honest.{later-is, later-still}
use Rattle.kb_broker.proofs.Once.{once-grows, once-loud}
use Rattle.kb_broker.proofs.Truth.{at_closed, at_opened}

-- another state on the same store
module _ {S : Type 0} (disk : S → Disk) (a c : OnStore S) (same : c.store ≡ a.store) where
  still-honest : is_honest disk c → is_honest disk a
  still-honest honest = subst (λ s. (disk s).honest) same honest

  pub ready-on : (x : BrokerState) → c.state ≡ x → IsReadyOn disk a → IsSound x → first_able x.lines ≡ None → (AreUnready AnyWait a.state → AreUnready AnyWait x) → IsReadyOn disk c
  ready-on x is ready sound settled unready = record {
    sound = subst IsSound (sym is) sound;
    settled = ap (λ (y : BrokerState). first_able y.lines) is ∙ settled;
    unready = λ honest. subst (AreUnready AnyWait) (sym is) (unready (ready.unready (still-honest honest)));
  }

sound-refused : (b c : BrokerState) → IsSound b → IsRefusedUnbound b c → IsSound (record b { unbound_refusals = c.unbound_refusals })
sound-refused b c s h = record { rising = s.rising; in_range = s.in_range; users = s.users; clock = s.clock }

pub connected-ready : {S A E : Type 0} (disk : S → Disk) (r : Result A E) (a b c : OnStore S) (n : ℕ) → a ≡ b → IsReadyOn disk a → b.state.last < n → c.store ≡ a.store → OnOk r (c.state ≡ opened a.state n) → OnErr r (IsRefusedUnbound a.state c.state) → IsReadyOn disk c
connected-ready disk (Ok x) a b c n e ready lt same ok err =
    let up : a.state.last < n = subst (λ (x : OnStore _). x.state.last < n) (sym e) lt in
    ready-on disk a c same (opened a.state n) ok ready (sound-opened a.state n ready.sound up) (settled-opened a.state n ready.settled) (unready-opened a.state n)
connected-ready disk (Err x) a b c n e ready lt same ok err =
    ready-on disk a c same (record a.state { unbound_refusals = c.state.unbound_refusals }) err.is ready (sound-refused a.state c.state ready.sound err) ready.settled (λ u. u)

connected-step : {A E : Type 0} (r : Result A E) (a c : BrokerState) (n : ℕ) → a.last < n → OnOk r (c ≡ opened a n) → OnErr r (IsRefusedUnbound a c) → IsStep (Opens n) a c
connected-step (Ok x) a c n lt ok err = subst (λ x. IsStep (Opens n) a x) (sym ok) (step-opened a n lt)
connected-step (Err x) a c n lt ok err = subst (λ x. IsStep (Opens n) a x) (sym err.is)
    (step-unopened a n c.unbound_refusals lt (once-grows a.unbound_refusals c.unbound_refusals err.once)
    (once-loud a.unbound_refusals c.unbound_refusals err.once))

pub connected : {S A E : Type 0} (disk : S → Disk) (r : Result A E) (a b c : OnStore S) (n : ℕ) → a ≡ b → b.state.last < n → OnOk r (c.state ≡ opened a.state n) → OnErr r (IsRefusedUnbound a.state c.state) → StepsTo disk (Opens n) b c
connected disk r a b c n e lt ok err = λ honest.
    let up : a.state.last < n = subst (λ (x : OnStore _). x.state.last < n) (sym e) lt in
    subst (λ (x : OnStore _). IsStep (Opens n) x.state c.state) e (connected-step r a.state c.state n up ok err)

pub disconnected-ready : {S : Type 0} (disk : S → Disk) (a c : OnStore S) (n : ℕ) → IsReadyOn disk a → c ≡ record a { state = closed a.state n } → IsReadyOn disk c
disconnected-ready disk a c n ready h =
    ready-on disk a c (ap (λ (x : OnStore _). x.store) h) (closed a.state n) (ap (λ (x : OnStore _). x.state) h) ready (sound-closed a.state n ready.sound) (settled-closed a.state n ready.settled) (unready-closed a.state n)

-- where a member of a group waited on it, it waits no longer
left-step : {S : Type 0} (a c : OnStore S) (n : ℕ) → c ≡ record a { state = closed a.state n } → IsStep (Closes n) a.state c.state
left-step a c n h = subst (λ x. IsStep (Closes n) a.state x) (sym (ap (λ (x : OnStore _). x.state) h)) (step-closed a.state n)

pub disconnected : {S : Type 0} (disk : S → Disk) (a b c : OnStore S) (n : ℕ) → a ≡ b → c ≡ record a { state = closed a.state n } → StepsTo disk (Closes n) b c
disconnected disk a b c n e h = λ honest. subst (λ (x : OnStore _). IsStep (Closes n) x.state c.state) e (left-step a c n h)

pub drained-ready : {S : Type 0} (disk : S → Disk) (a c : OnStore S) (n : ℕ) → IsReadyOn disk a → c ≡ record a { state = output_taken a.state n } → IsReadyOn disk c
drained-ready disk a c n ready h =
    ready-on disk a c (ap (λ (x : OnStore _). x.store) h) (output_taken a.state n) (ap (λ (x : OnStore _). x.state) h) ready (sound-taken a.state n ready.sound) (settled-taken a.state n ready.settled) (unready-taken a.state n)

-- a connection that opens, or cannot be kept, or closes, leaves the store and the tenants' counts as they are
tenants-connected : {A E : Type 0} (r : Result A E) (a c : BrokerState) (n : ℕ) → OnOk r (c ≡ opened a n) → OnErr r (IsRefusedUnbound a c) → c.tenants ≡ a.tenants
tenants-connected (Ok x) a c n ok err = ap (λ (b : BrokerState). b.tenants) ok
tenants-connected (Err x) a c n ok err = ap (λ (b : BrokerState). b.tenants) err.is

pub connected-later : {S A E : Type 0} (disk : S → Disk) (r : Result A E) (a c : OnStore S) (n : ℕ) → c.store ≡ a.store → c.strays ≡ a.strays → c.counts ≡ a.counts → OnOk r (c.state ≡ opened a.state n) → OnErr r (IsRefusedUnbound a.state c.state) → IsLaterBy disk (SpeaksAt (Opens n)) a c
connected-later disk r a c n same left shares ok err =
    later-is disk (SpeaksAt (Opens n)) a c same left shares (tenants-connected r a.state c.state n ok err) (at_opened r a.state c.state n ok err)

pub disconnected-later : {S : Type 0} (disk : S → Disk) (a c : OnStore S) (n : ℕ) → c ≡ record a { state = closed a.state n } → IsLaterBy disk (SpeaksAt (Closes n)) a c
disconnected-later disk a c n h =
    let grows = (left-step a c n h).grows in
    later-still disk (SpeaksAt (Closes n)) a c (ap (λ (x : OnStore _). x.store) h) (ap (λ (x : OnStore _). x.strays) h) (ap (λ (x : OnStore _). x.counts) h) grows.names grows.own
    (at_closed a.state c.state n (ap (λ (x : OnStore _). x.state) h))

-- what a call leaves of the members that wait: the engine's own a is the one that clauses see, b
pub connected-held : {S A E : Type 0} (r : Result A E) (a b c : OnStore S) (n : ℕ) → a ≡ b → OnOk r (c.state ≡ opened a.state n) → OnErr r (IsRefusedUnbound a.state c.state) → NoneStranded b.state → NoneStranded c.state
connected-held (Ok x) a b c n e ok err held = subst NoneStranded (sym ok) (stranded-opened a.state n (subst (λ (y : OnStore _). NoneStranded y.state) (sym e) held))
connected-held (Err x) a b c n e ok err held = subst NoneStranded (sym err.is) (stranded-unopened a.state c.state.unbound_refusals (subst (λ (y : OnStore _). NoneStranded y.state) (sym e) held))

pub disconnected-held : {S : Type 0} (a b c : OnStore S) (n : ℕ) → a ≡ b → c ≡ record a { state = closed a.state n } → NoneStranded b.state → NoneStranded c.state
disconnected-held a b c n e h held = subst (λ (y : OnStore _). NoneStranded y.state) (sym h) (stranded-closed a.state n (subst (λ (y : OnStore _). NoneStranded y.state) (sym e) held))

pub drained-held : {S : Type 0} (a b c : OnStore S) (n : ℕ) → a ≡ b → c ≡ record a { state = output_taken a.state n } → NoneStranded b.state → NoneStranded c.state
drained-held a b c n e h held = subst (λ (y : OnStore _). NoneStranded y.state) (sym h) (stranded-taken a.state n (subst (λ (y : OnStore _). NoneStranded y.state) (sym e) held))
