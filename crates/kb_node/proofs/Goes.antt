-- What is done in one move after another goes on.
use Rattle.std.proofs.Common.{◌≡◌, ◌⊎◌, ◌<◌, ◌≤◌, ℕ, List, [], ◌∷◌, ◌++◌, ◌∙◌, Option, Some, None, true, false, IfSome, length, slice_index_or, slice_set, vec_len, inl, inr, IsSome, ⊎_elim, ap, refl, sym, subst}
use Rattle.std.specs.List.{AllByRecursion, remove}
use Rattle.std.specs.Io.KnownBytes.{Appends}
use Rattle.std.specs.declared.alloc.Global.{Global}
use Rattle.std.specs.declared.vec.Vec.{Vec}
use Rattle.std.proofs.lemmas.List.{map-append}
use Rattle.kb_store.specs.Disk.{Disk}
use Rattle.kb_isolation_spec.specs.Machine.{Closes, Comes, Happening, Moment, Opens}
use Rattle.kb_isolation_spec.specs.Broker.{IsEventRun, last_after}
use Rattle.kb_broker.specs.Hosts.{OnStore}
use Rattle.kb_node.specs.declared.socket.Socket.{Socket}
use Rattle.kb_node.specs.Traffic.{Along, AreAbout, AreDone, Commit, Deed, Event, Fail, Happens, IsDone, Take, connection_of, events_of, is_moment, moments_of, tried_after}
use Rattle.kb_node.specs.Carries.{CarriesWith, unhanded_of, unwritten_of}
use Rattle.kb_node.specs.Commits.{Host}
use Rattle.kb_node.specs.Cores.{Core, Seen, core, cores, open_ones, seen}
use Rattle.kb_node.specs.Known.{silent}
use Rattle.kb_node.specs.Moves.{Carry, Goes, GoesWith, HasCarried, HasOpened, HasSettled, IsJoined, IsLeftOut, IsMoved, IsRunOf, IsRunThrough, IsTakenIn, IsTurn, Leave, LeaveAt, Move, Open, Settle}
use Rattle.kb_node.proofs.Cores.{held_at, held_in, removed, set_at}
use Rattle.kb_node.proofs.Carries.{carries_knowing, writes}
use Rattle.kb_node.proofs.Known.{from_silent}
use Rattle.kb_node.proofs.Traffic.{all_knowing, along_then, all_then, done_knowing}

-- 1. Moves

module _ {S T : Type 0} {disk : S → Disk} {known : Deed → S → Type 0} {contents remaining : T → Option (List ℕ)} where
  pub goes_none : (x : Seen S T) → GoesWith disk known contents remaining x x
  goes_none x = record { moves = []; done = refl }

  pub goes_then : {from at to : Seen S T} → GoesWith disk known contents remaining from at → GoesWith disk known contents remaining at to → GoesWith disk known contents remaining from to
  goes_then {from} {at} {to} one two = record {
    moves = one.moves ++ two.moves;
    done = along_then (IsMoved disk known contents remaining) one.moves two.moves from at to one.done two.done;
  }

  -- where the host stays, and of the sockets only what is remembered of their turns changes
  pub goes_same : {from a b : Seen S T} → b ≡ a → GoesWith disk known contents remaining from a → GoesWith disk known contents remaining from b
  goes_same {from} same goes = subst (λ (x : Seen S T). GoesWith disk known contents remaining from x) (sym same) goes

  pub goes_still : {a b : Seen S T} → b ≡ a → GoesWith disk known contents remaining a b
  goes_still {a} {b} same = goes_same same (goes_none a)

  -- the socket at a place carried
  pub goes_carried : (h k : Host S) (v : Vec (Socket T) Global) (p : ℕ) (s t : Socket T) → p < vec_len v → s ≡ slice_index_or v.items p s
      → t.connection ≡ s.connection → s.is_ended ≡ false → k.tried ≡ h.tried → k.commits.sync ≡ h.commits.sync
      → CarriesWith disk known contents remaining s t h.broker k.broker
      → GoesWith disk known contents remaining (seen h v.items) (seen k (slice_set v.items p t))
  goes_carried h k v p s t lt is same unended tried sync c = record {
    moves = Carry s.connection ∷ [];
    done = (
      seen k (slice_set v.items p t),
      record {
        place = p;
        old = s;
        new = t;
        before = held_at v p s lt is;
        after = set_at v.items p t;
        number = refl;
        same = same;
        not_ended = unended;
        tried = tried;
        sync = sync;
        carries = c;
      },
      refl,
    );
  }

  -- and then only what is remembered of its turns changed
  pub goes_carried_as : (h k : Host S) (v : Vec (Socket T) Global) (p : ℕ) (s t u : Socket T) → core u ≡ core t → p < vec_len v
      → s ≡ slice_index_or v.items p s → t.connection ≡ s.connection → s.is_ended ≡ false → k.tried ≡ h.tried → k.commits.sync ≡ h.commits.sync
      → CarriesWith disk known contents remaining s t h.broker k.broker
      → GoesWith disk known contents remaining (seen h v.items) (seen k (slice_set v.items p u))
  goes_carried_as h k v p s t u same_core lt is same unended tried sync c = goes_same
      (ap (λ cs. record { host = k; sockets = cs }) (set_at v.items p u ∙ ap (λ x. slice_set (cores v.items) p x) same_core ∙ sym (set_at v.items p t)))
      (goes_carried h k v p s t lt is same unended tried sync c)

  pub goes_left : (h : Host S) (xs ys : List (Socket T)) → cores ys ≡ open_ones (cores xs) → GoesWith disk known contents remaining (seen h xs) (seen h ys)
  goes_left h xs ys left = record { moves = Leave ∷ []; done = (seen h ys, (refl, left), refl) }

  pub goes_removed : (h : Host S) (xs ys zs : List (Socket T)) (p : ℕ) (s : Socket T) → p < length xs → s ≡ slice_index_or xs p s
      → s.is_ended ≡ true → xs ≡ ys → zs ≡ remove ys p → GoesWith disk known contents remaining (seen h ys) (seen h zs)
  goes_removed h xs ys zs p s lt is ended same left = subst (λ ws. GoesWith disk known contents remaining (seen h ys) (seen h ws)) (sym left)
      (subst (λ ws. GoesWith disk known contents remaining (seen h ws) (seen h (remove ws p))) same (record {
        moves = LeaveAt p ∷ [];
        done = (seen h (remove xs p), (refl, subst (λ o. IfSome o (λ c. c.is_ended ≡ true)) (sym (held_in xs p s lt is)) ended, removed xs p), refl);
      }))

  -- all that was done was made to last
  pub goes_committed : {from to : Seen S T} → to.host.tried ≡ from.host.tried → to.host.commits.sync ≡ from.host.commits.sync
      → to.host.commits.fault ≡ None → IsDone disk known Commit from.host.broker to.host.broker → to.sockets ≡ from.sockets
      → GoesWith disk known contents remaining from to
  goes_committed {from} {to} same sync none done sockets = record {
    moves = Settle ∷ [];
    done = (to, record { tried = same; sync = sync; sockets = sockets; answer = inl (done, none) }, refl);
  }

  -- or that was refused
  pub goes_refused : {from to : Seen S T} → to.host.tried ≡ from.host.tried → to.host.commits.sync ≡ from.host.commits.sync
      → IsSome to.host.commits.fault → IsDone disk known Fail from.host.broker to.host.broker → to.sockets ≡ from.sockets
      → GoesWith disk known contents remaining from to
  goes_refused {from} {to} same sync some done sockets = record {
    moves = Settle ∷ [];
    done = (to, record { tried = same; sync = sync; sockets = sockets; answer = inr (done, some) }, refl);
  }

  -- a connection opens, and could not be kept
  pub goes_opened : {from to : Seen S T} {n : ℕ} → from.host.tried < n → to.host.tried ≡ n → to.host.commits.sync ≡ from.host.commits.sync
      → Happens disk (Opens n) from.host.broker to.host.broker
      → IsLeftOut from to → GoesWith disk known contents remaining from to
  goes_opened {from} {to} {n} rises is sync c left =
      record { moves = Open n ∷ []; done = (to, record { rises = rises; tried = is; sync = sync; opens = c; sockets = inl left }, refl) }

  -- or its socket joins the others
  pub goes_joined : {from to : Seen S T} (n : ℕ) (stream : T) → from.host.tried < n → to.host.tried ≡ n
      → to.host.commits.sync ≡ from.host.commits.sync
      → Happens disk (Opens n) from.host.broker to.host.broker → IsTakenIn stream n from to → GoesWith disk known contents remaining from to
  goes_joined {from} {to} n stream rises is sync c taken =
      record { moves = Open n ∷ []; done = (to, record { rises = rises; tried = is; sync = sync; opens = c; sockets = inr (stream, taken) }, refl) }

  -- the socket at a place wrote some of its output
  pub goes_written : (h : Host S) (v : Vec (Socket T) Global) (p : ℕ) (s t : Socket T) → p < vec_len v → s ≡ slice_index_or v.items p s
      → t.connection ≡ s.connection → s.is_ended ≡ false → (put : List ℕ) → Appends (contents s.stream) (contents t.stream) put
      → unwritten_of s ≡ put ++ unwritten_of t → unhanded_of t ≡ unhanded_of s → (s.is_over ≡ true → t.is_over ≡ true) → t.is_lost ≡ s.is_lost
      → GoesWith disk known contents remaining (seen h v.items) (seen h (slice_set v.items p t))
  goes_written h v p s t lt is same unended put stream out in_ over lost = goes_carried h h v p s t lt is same unended refl refl
      (writes disk contents remaining s t h.broker h.broker put refl stream out in_ over lost)

  -- and then only what is remembered of its turns changed
  pub goes_noted : (h : Host S) (v : Vec (Socket T) Global) (p : ℕ) (s t u : Socket T) (a m k : ℕ) (w : t.written ≤ vec_len t.output)
      → u ≡ record t { active = a; moved = m; holder = k; within = w }
      → p < vec_len v → s ≡ slice_index_or v.items p s
      → t.connection ≡ s.connection → s.is_ended ≡ false → (put : List ℕ) → Appends (contents s.stream) (contents t.stream) put
      → unwritten_of s ≡ put ++ unwritten_of t → unhanded_of t ≡ unhanded_of s → (s.is_over ≡ true → t.is_over ≡ true) → t.is_lost ≡ s.is_lost
      → GoesWith disk known contents remaining (seen h v.items) (seen h (slice_set v.items p u))
  goes_noted h v p s t u a m k w noted lt is same unended put stream out in_ over lost =
      subst (λ (x : Socket T). GoesWith disk known contents remaining (seen h v.items) (seen h (slice_set v.items p x))) (sym noted)
      (goes_written h v p s (record t { active = a; moved = m; holder = k; within = w }) lt is same unended put stream out in_ over lost)

  pub turned : {now : ℕ} {from at to : Seen S T} → Happens disk (Moment now) from.host.broker at.host.broker → at.host.tried ≡ from.host.tried
      → at.host.commits.sync ≡ from.host.commits.sync → at.sockets ≡ from.sockets → GoesWith disk known contents remaining at to → IsTurn disk known contents remaining now from to
  turned {now} {from} {at} {to} moment tried sync sockets goes =
      record { begun = at; moment = moment; tried = tried; sync = sync; sockets = sockets; goes = goes }

-- how commits are made stays
module _ {S T : Type 0} (disk : S → Disk) (known : Deed → S → Type 0) (contents remaining : T → Option (List ℕ)) where
  sync_on : (m : Move) (from to : Seen S T) → IsMoved disk known contents remaining m from to → to.host.commits.sync ≡ from.host.commits.sync
  sync_on (Open n) from to h = h.sync
  sync_on (Carry n) from to h = h.sync
  sync_on Leave from to h = ap (λ x. x.commits.sync) h.0
  sync_on (LeaveAt p) from to h = ap (λ x. x.commits.sync) h.0
  sync_on Settle from to h = h.sync

  sync_along : (ms : List Move) (from to : Seen S T) → Along (IsMoved disk known contents remaining) ms from to
      → to.host.commits.sync ≡ from.host.commits.sync
  sync_along [] from to h = ap (λ x. x.host.commits.sync) h
  sync_along (m ∷ ms) from to h = sync_along ms h.0 to h.2 ∙ sync_on m from h.0 h.1

pub turn_sync : {S T : Type 0} {disk : S → Disk} {known : Deed → S → Type 0} {contents remaining : T → Option (List ℕ)} {now : ℕ} {from to : Seen S T}
    → IsTurn disk known contents remaining now from to → to.host.commits.sync ≡ from.host.commits.sync
turn_sync {S} {T} {disk} {known} {contents} {remaining} {now} {from} {to} turn =
    sync_along disk known contents remaining turn.goes.moves turn.begun to turn.goes.done ∙ turn.sync

-- What is known of the store may be less.
module _ {S T : Type 0} (disk : S → Disk) (known less : Deed → S → Type 0) (contents remaining : T → Option (List ℕ))
    (weaker : (d : Deed) (s : S) → known d s → less d s) where
  moved_knowing : (m : Move) (from to : Seen S T) → IsMoved disk known contents remaining m from to → IsMoved disk less contents remaining m from to
  moved_knowing (Open n) from to h = h
  moved_knowing (Carry n) from to h = record {
    place = h.place;
    old = h.old;
    new = h.new;
    before = h.before;
    after = h.after;
    number = h.number;
    same = h.same;
    not_ended = h.not_ended;
    tried = h.tried;
    sync = h.sync;
    carries = carries_knowing disk known less contents remaining weaker h.old h.new from.host.broker to.host.broker h.carries;
  }
  moved_knowing Leave from to h = h
  moved_knowing (LeaveAt p) from to h = h
  moved_knowing Settle from to h = record {
    tried = h.tried;
    sync = h.sync;
    sockets = h.sockets;
    answer = ⊎_elim (λ done. inl (done_knowing disk known less weaker Commit from.host.broker to.host.broker done.0, done.1))
        (λ done. inr (done_knowing disk known less weaker Fail from.host.broker to.host.broker done.0, done.1)) h.answer;
  }

  along_knowing : (ms : List Move) (from to : Seen S T) → Along (IsMoved disk known contents remaining) ms from to
      → Along (IsMoved disk less contents remaining) ms from to
  along_knowing [] from to h = h
  along_knowing (m ∷ ms) from to h = (h.0, moved_knowing m from h.0 h.1, along_knowing ms h.0 to h.2)

pub goes_knowing : {S T : Type 0} {disk : S → Disk} {known less : Deed → S → Type 0} {contents remaining : T → Option (List ℕ)} {from to : Seen S T}
    → ((d : Deed) (s : S) → known d s → less d s) → GoesWith disk known contents remaining from to → GoesWith disk less contents remaining from to
goes_knowing {S} {T} {disk} {known} {less} {contents} {remaining} {from} {to} weaker goes =
    record { moves = goes.moves; done = along_knowing disk known less contents remaining weaker goes.moves from to goes.done }

pub turn_knowing : {S T : Type 0} (disk : S → Disk) (known less : Deed → S → Type 0) (contents remaining : T → Option (List ℕ))
    → ((d : Deed) (s : S) → known d s → less d s) → (now : ℕ) (from to : Seen S T) → IsTurn disk known contents remaining now from to
    → IsTurn disk less contents remaining now from to
turn_knowing disk known less contents remaining weaker now from to turn = record {
  begun = turn.begun;
  moment = turn.moment;
  tried = turn.tried;
  sync = turn.sync;
  sockets = turn.sockets;
  goes = goes_knowing weaker turn.goes;
}

-- where nothing was taken or committed, anything is known of that
pub goes_silent : {S T : Type 0} {disk : S → Disk} {known : Deed → S → Type 0} {contents remaining : T → Option (List ℕ)} {from to : Seen S T}
    → Goes disk contents remaining from to → GoesWith disk known contents remaining from to
goes_silent {S} {T} {disk} {known} {contents} {remaining} {from} {to} goes = goes_knowing (from_silent known) goes

pub happens_same : {S T : Type 0} {disk : S → Disk} {e : Happening} {from : OnStore S} {a b : Seen S T}
    → b ≡ a → Happens disk e from a.host.broker → Happens disk e from b.host.broker
happens_same {S} {T} {disk} {e} {from} same happens = subst (λ (x : Seen S T). Happens disk e from x.host.broker) (sym same) happens

-- a socket that comes behind the others, as they were
pub joined : {T : Type 0} {stream : T} {n : ℕ} (old mid new : List (Socket T)) (s : Socket T) → new ≡ mid ++ s ∷ [] → mid ≡ old
    → s.connection ≡ n → s.stream ≡ stream → unwritten_of s ≡ [] → unhanded_of s ≡ [] → s.is_lost ≡ false
    → s.is_ended ≡ false → IsJoined stream n (cores old) (cores new)
joined {T} {stream} {n} old mid new s is same number carries unwritten unhanded whole is_open = record {
  behind = ap cores is ∙ map-append core mid (s ∷ []) ∙ ap (λ xs. cores xs ++ core s ∷ []) same ∙ λ i. cores old
      ++ record { connection = number i; stream = carries i; unwritten = unwritten i; unhanded = unhanded i; is_lost = whole i; is_ended = is_open i } ∷ [];
}

pub seen_same : {S T : Type 0} {h k : Host S} {v w : Vec (Socket T) Global} → k ≡ h → w ≡ v → seen k w.items ≡ seen h v.items
seen_same host sockets = λ i. seen (host i) (sockets i).items

-- 2. Their deeds

no_moment : (n : ℕ) (d : Deed) → connection_of d ≡ Some n → is_moment d ≡ false
no_moment n (Event (Opens k)) is = refl
no_moment n (Event (Comes k piece)) is = refl
no_moment n (Event (Closes k)) is = refl
no_moment n (Event (Moment now)) is = absurd (let no : None ≡ Some n = is in cc)
no_moment n (Take k bytes) is = refl
no_moment n Commit is = absurd (let no : None ≡ Some n = is in cc)
no_moment n Fail is = absurd (let no : None ≡ Some n = is in cc)

pub timeless : (n : ℕ) (deeds : List Deed) → AreAbout n deeds → AllByRecursion (λ d. is_moment d ≡ false) deeds
timeless n [] all = tt
timeless n (d ∷ ds) all = (no_moment n d all.0, timeless n ds all.1)

-- what a socket does opens nothing, so no number is tried in it
pub run_about : (n t : ℕ) (deeds : List Deed) → AreAbout n deeds → IsEventRun t (events_of deeds)
run_about n t [] all = tt
run_about n t (Event (Opens k) ∷ ds) all = absurd (let no : None ≡ Some n = all.0 in cc)
run_about n t (Event (Comes k piece) ∷ ds) all = run_about n t ds all.1
run_about n t (Event (Closes k) ∷ ds) all = run_about n t ds all.1
run_about n t (Event (Moment now) ∷ ds) all = absurd (let no : None ≡ Some n = all.0 in cc)
run_about n t (Take k bytes ∷ ds) all = run_about n t ds all.1
run_about n t (Commit ∷ ds) all = absurd (let no : None ≡ Some n = all.0 in cc)
run_about n t (Fail ∷ ds) all = absurd (let no : None ≡ Some n = all.0 in cc)

pub tried_about : (n t : ℕ) (deeds : List Deed) → AreAbout n deeds → tried_after t (events_of deeds) ≡ t
tried_about n t [] all = refl
tried_about n t (Event (Opens k) ∷ ds) all = absurd (let no : None ≡ Some n = all.0 in cc)
tried_about n t (Event (Comes k piece) ∷ ds) all = tried_about n t ds all.1
tried_about n t (Event (Closes k) ∷ ds) all = tried_about n t ds all.1
tried_about n t (Event (Moment now) ∷ ds) all = tried_about n t ds all.1
tried_about n t (Take k bytes ∷ ds) all = tried_about n t ds all.1
tried_about n t (Commit ∷ ds) all = tried_about n t ds all.1
tried_about n t (Fail ∷ ds) all = tried_about n t ds all.1

-- 3. Events, one list after another

run_then : (t : ℕ) (es fs : List Happening) → IsEventRun t es → IsEventRun (tried_after t es) fs → IsEventRun t (es ++ fs)
run_then t [] fs h k = k
run_then t (Opens n ∷ es) fs h k = (h.0, run_then n es fs h.1 k)
run_then t (Comes n piece ∷ es) fs h k = run_then t es fs h k
run_then t (Closes n ∷ es) fs h k = run_then t es fs h k
run_then t (Moment now ∷ es) fs h k = (h.0, run_then t es fs h.1 k)

after_then : (t : ℕ) (es fs : List Happening) → tried_after t (es ++ fs) ≡ tried_after (tried_after t es) fs
after_then t [] fs = refl
after_then t (e ∷ es) fs = after_then (last_after e t) es fs

events_then : (ds es : List Deed) → events_of (ds ++ es) ≡ events_of ds ++ events_of es
events_then [] es = refl
events_then (Event e ∷ ds) es = ap (λ x. e ∷ x) (events_then ds es)
events_then (Take n bytes ∷ ds) es = events_then ds es
events_then (Commit ∷ ds) es = events_then ds es
events_then (Fail ∷ ds) es = events_then ds es

pub moments_then : (ds es : List Deed) → moments_of (ds ++ es) ≡ moments_of ds ++ moments_of es
moments_then [] es = refl
moments_then (Event (Opens n) ∷ ds) es = moments_then ds es
moments_then (Event (Comes n piece) ∷ ds) es = moments_then ds es
moments_then (Event (Closes n) ∷ ds) es = moments_then ds es
moments_then (Event (Moment now) ∷ ds) es = ap (λ x. now ∷ x) (moments_then ds es)
moments_then (Take n bytes ∷ ds) es = moments_then ds es
moments_then (Commit ∷ ds) es = moments_then ds es
moments_then (Fail ∷ ds) es = moments_then ds es

pub no_moments : (ds : List Deed) → AllByRecursion (λ d. is_moment d ≡ false) ds → moments_of ds ≡ []
no_moments [] all = refl
no_moments (Event (Opens n) ∷ ds) all = no_moments ds all.1
no_moments (Event (Comes n piece) ∷ ds) all = no_moments ds all.1
no_moments (Event (Closes n) ∷ ds) all = no_moments ds all.1
no_moments (Event (Moment now) ∷ ds) all = absurd (let no : true ≡ false = all.0 in cc)
no_moments (Take n bytes ∷ ds) all = no_moments ds all.1
no_moments (Commit ∷ ds) all = no_moments ds all.1
no_moments (Fail ∷ ds) all = no_moments ds all.1

-- a run goes on by another where that has its numbers above those of the first
pub runs_then : (a b : ℕ) (ds es : List Deed) → IsEventRun a (events_of ds) → b ≡ tried_after a (events_of ds) → IsEventRun b (events_of es)
    → IsEventRun a (events_of (ds ++ es))
runs_then a b ds es one is two = subst (λ x. IsEventRun a x) (sym (events_then ds es))
    (run_then a (events_of ds) (events_of es) one (subst (λ t. IsEventRun t (events_of es)) is two))

pub tries_then : (a b c : ℕ) (ds es : List Deed) → b ≡ tried_after a (events_of ds) → c ≡ tried_after b (events_of es)
    → c ≡ tried_after a (events_of (ds ++ es))
tries_then a b c ds es one two = two ∙ ap (λ t. tried_after t (events_of es)) one ∙ sym (after_then a (events_of ds) (events_of es))
    ∙ ap (λ x. tried_after a x) (sym (events_then ds es))

-- 4. Turns

-- deeds without a moment lead from one to the other, and their events are a run
pub record AreTimeless {S : Type 0} (disk : S → Disk) (known : Deed → S → Type 0) (from to : Host S) : Type 0 where
  pub deeds : List Deed
  pub timeless : AllByRecursion (λ d. is_moment d ≡ false) deeds
  pub done : AreDone disk known deeds from.broker to.broker
  pub is_run : IsEventRun from.tried (events_of deeds)
  pub tried : to.tried ≡ tried_after from.tried (events_of deeds)

-- what was done was made to last, or that was refused
abbrev pub SettledAs : {S : Type 0} → (S → Disk) → (Deed → S → Type 0) → Host S → Host S → Type 0
SettledAs disk known from to = (IsDone disk known Commit from.broker to.broker × (to.commits.fault ≡ None))
    ⊎ (IsDone disk known Fail from.broker to.broker × IsSome to.commits.fault)

module _ {S T : Type 0} (disk : S → Disk) (known : Deed → S → Type 0) (contents remaining : T → Option (List ℕ)) where
  unfoldable pub of_settled : (from to : Seen S T) → to.host.tried ≡ from.host.tried → SettledAs disk known from.host to.host
      → AreTimeless disk known from.host to.host
  of_settled from to tried (inl done) =
      record { deeds = Commit ∷ []; timeless = (refl, tt); done = (to.host.broker, done.0, refl); is_run = tt; tried = tried }
  of_settled from to tried (inr done) =
      record { deeds = Fail ∷ []; timeless = (refl, tt); done = (to.host.broker, done.0, refl); is_run = tt; tried = tried }

  unfoldable pub of_move : (m : Move) (from to : Seen S T) → IsMoved disk known contents remaining m from to → AreTimeless disk known from.host to.host
  of_move (Open n) from to h =
      record { deeds = Event (Opens n) ∷ []; timeless = (refl, tt); done = (to.host.broker, h.opens, refl); is_run = (h.rises, tt); tried = h.tried }
  of_move (Carry n) from to h = let c = h.carries in let m = h.old.connection in record {
    deeds = c.deeds;
    timeless = timeless m c.deeds c.about;
    done = c.done;
    is_run = run_about m from.host.tried c.deeds c.about;
    tried = h.tried ∙ sym (tried_about m from.host.tried c.deeds c.about);
  }
  of_move Leave from to h =
      record { deeds = []; timeless = tt; done = ap (λ x. x.broker) h.0; is_run = tt; tried = ap (λ x. x.tried) h.0 }
  of_move (LeaveAt p) from to h =
      record { deeds = []; timeless = tt; done = ap (λ x. x.broker) h.0; is_run = tt; tried = ap (λ x. x.tried) h.0 }
  of_move Settle from to h = of_settled from to h.tried h.answer

  unfoldable pub of_moves : (ms : List Move) (from to : Seen S T) → Along (IsMoved disk known contents remaining) ms from to → AreTimeless disk known from.host to.host
  of_moves [] from to h =
      record { deeds = []; timeless = tt; done = ap (λ x. x.host.broker) h; is_run = tt; tried = ap (λ x. x.host.tried) h }
  of_moves (m ∷ ms) from to h =
      let one = of_move m from h.0 h.1 in
      let two = of_moves ms h.0 to h.2 in
      record {
        deeds = one.deeds ++ two.deeds;
        timeless = all_then (λ d. is_moment d ≡ false) one.deeds two.deeds one.timeless two.timeless;
        done = along_then (IsDone disk known) one.deeds two.deeds from.host.broker h.0.host.broker to.host.broker one.done two.done;
        is_run = runs_then from.host.tried h.0.host.tried one.deeds two.deeds one.is_run one.tried two.is_run;
        tried = tries_then from.host.tried h.0.host.tried to.host.tried one.deeds two.deeds one.tried two.tried;
      }

-- a turn, as what it does one after another
unfoldable pub run_of : {S T : Type 0} {disk : S → Disk} {known : Deed → S → Type 0} {contents remaining : T → Option (List ℕ)} {now : ℕ} {from to : Seen S T}
    → IsTurn disk known contents remaining now from to → IsRunOf disk known now from.host to.host
run_of {S} {T} {disk} {known} {contents} {remaining} {now} {from} {to} turn =
    let all = of_moves disk known contents remaining turn.goes.moves turn.begun to turn.goes.done in
    record {
      begun = turn.begun.host.broker;
      moment = turn.moment;
      sync = turn_sync turn;
      deeds = all.deeds;
      timeless = all.timeless;
      done = all.done;
      is_run = (turn.moment.within.0, subst (λ t. IsEventRun t (events_of all.deeds)) turn.tried all.is_run);
      tried = all.tried ∙ ap (λ t. tried_after t (events_of all.deeds)) turn.tried;
    }

-- turns one after another are one run
unfoldable pub run_through : {S : Type 0} (disk : S → Disk) (known : Deed → S → Type 0) (nows : List ℕ) (from to : Host S)
    → Along (IsRunOf disk known) nows from to → IsRunThrough disk known nows from to
run_through disk known [] from to h =
    record { deeds = []; done = ap (λ x. x.broker) h; moments = refl; is_run = tt; tried = ap (λ x. x.tried) h }
run_through disk known (now ∷ nows) from to h =
    let one = h.1 in
    let rest = run_through disk known nows h.0 to h.2 in
    let first : List Deed = Event (Moment now) ∷ one.deeds in
    record {
      deeds = first ++ rest.deeds;
      done = along_then (IsDone disk known) first rest.deeds from.broker h.0.broker to.broker (one.begun, one.moment, one.done) rest.done;
      moments = moments_then first rest.deeds ∙ ap (λ x. now ∷ (x ++ moments_of rest.deeds)) (no_moments one.deeds one.timeless)
          ∙ ap (λ x. now ∷ x) rest.moments;
      is_run = runs_then from.tried h.0.tried first rest.deeds one.is_run one.tried rest.is_run;
      tried = tries_then from.tried h.0.tried to.tried first rest.deeds one.tried rest.tried;
    }

-- and one turn more goes on with it
unfoldable pub run_on : {S : Type 0} (disk : S → Disk) (known : Deed → S → Type 0) (nows : List ℕ) (now : ℕ) (from at to : Host S)
    → IsRunThrough disk known nows from at → IsRunOf disk known now at to → IsRunThrough disk known (nows ++ now ∷ []) from to
run_on disk known nows now from at to before turn =
    let last : List Deed = Event (Moment now) ∷ turn.deeds in
    record {
      deeds = before.deeds ++ last;
      done = along_then (IsDone disk known) before.deeds last from.broker at.broker to.broker before.done (turn.begun, turn.moment, turn.done);
      moments = moments_then before.deeds last ∙ ap (λ x. moments_of before.deeds ++ now ∷ x) (no_moments turn.deeds turn.timeless)
          ∙ ap (λ x. x ++ now ∷ []) before.moments;
      is_run = runs_then from.tried at.tried before.deeds last before.is_run before.tried turn.is_run;
      tried = tries_then from.tried at.tried to.tried before.deeds last before.tried turn.tried;
    }

unfoldable pub run_begins : {S : Type 0} (disk : S → Disk) (known : Deed → S → Type 0) (x : Host S) → IsRunThrough disk known [] x x
run_begins disk known x = run_through disk known [] x x refl

-- what is known of the store may be less
pub run_knowing : {S : Type 0} (disk : S → Disk) (known less : Deed → S → Type 0) (nows : List ℕ) (from to : Host S)
    → ((d : Deed) (s : S) → known d s → less d s) → IsRunThrough disk known nows from to → IsRunThrough disk less nows from to
run_knowing disk known less nows from to weaker run = record {
  deeds = run.deeds;
  done = all_knowing disk known less weaker run.deeds from.broker to.broker run.done;
  moments = run.moments;
  is_run = run.is_run;
  tried = run.tried;
}
