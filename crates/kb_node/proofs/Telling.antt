-- What sockets tell, one after another.
use Rattle.std.proofs.Common.{◌≡◌, ◌<◌, ◌∙◌, List, [], ◌∷◌, ◌++◌, ℕ, Option, false, slice_index_or, slice_set, vec_len, sym, refl, subst, ap}
use Rattle.std.specs.declared.alloc.Global.{Global}
use Rattle.std.specs.declared.vec.Vec.{Vec}
use Rattle.kb_store.specs.Disk.{Disk}
use Rattle.kb_node.specs.declared.socket.Socket.{Socket}
use Rattle.kb_node.specs.Traffic.{Along, Deed}
use Rattle.kb_node.specs.Carries.{TellsWith}
use Rattle.kb_node.specs.Commits.{Host}
use Rattle.kb_node.specs.Cores.{Seen, core, cores, seen}
use Rattle.kb_node.specs.Moves.{Carry, GoesTelling, GoesTellingWith, GoesWith, HasTold, IsMoved, Move}
use Rattle.kb_node.proofs.Cores.{held_at, set_at}
use Rattle.kb_node.proofs.Carries.{tells_knowing}
use Rattle.kb_node.proofs.Known.{from_silent}
use Rattle.kb_node.proofs.Traffic.{along_then}

-- what they told they carried
abbrev moves_by : List ℕ → List Move
moves_by [] = []
moves_by (n ∷ ns) = Carry n ∷ moves_by ns

carried_by : {S T : Type 0} (disk : S → Disk) (known : Deed → S → Type 0) (contents remaining : T → Option (List ℕ)) (ns : List ℕ) (from to : Seen S T)
    → Along (HasTold disk known contents remaining) ns from to → Along (IsMoved disk known contents remaining) (moves_by ns) from to
carried_by disk known contents remaining [] from to h = h
carried_by disk known contents remaining (n ∷ ns) from to h = (h.0, h.1.carried, carried_by disk known contents remaining ns h.0 to h.2)

-- and opened no connection
tried_along : {S T : Type 0} (disk : S → Disk) (known : Deed → S → Type 0) (contents remaining : T → Option (List ℕ)) (ns : List ℕ) (from to : Seen S T)
    → Along (HasTold disk known contents remaining) ns from to → to.host.tried ≡ from.host.tried
tried_along disk known contents remaining [] from to h = ap (λ x. x.host.tried) h
tried_along disk known contents remaining (n ∷ ns) from to h = tried_along disk known contents remaining ns h.0 to h.2 ∙ h.1.carried.tried

module _ {S T : Type 0} {disk : S → Disk} {known : Deed → S → Type 0} {contents remaining : T → Option (List ℕ)} where
  pub telling_none : (x : Seen S T) → GoesTellingWith disk known contents remaining x x
  telling_none x = record { numbers = []; done = refl; store = refl }

  pub telling_then : {from at to : Seen S T} → GoesTellingWith disk known contents remaining from at → GoesTellingWith disk known contents remaining at to
      → GoesTellingWith disk known contents remaining from to
  telling_then {from} {at} {to} one two = record {
    numbers = one.numbers ++ two.numbers;
    done = along_then (HasTold disk known contents remaining) one.numbers two.numbers from at to one.done two.done;
    store = two.store ∙ one.store;
  }

  -- where the host stays, and of the sockets only what is remembered of their turns changes
  pub telling_same : {from a b : Seen S T} → b ≡ a → GoesTellingWith disk known contents remaining from a → GoesTellingWith disk known contents remaining from b
  telling_same {from} same goes = subst (λ (x : Seen S T). GoesTellingWith disk known contents remaining from x) (sym same) goes

  pub telling_still : {a b : Seen S T} → b ≡ a → GoesTellingWith disk known contents remaining a b
  telling_still {a} {b} same = telling_same same (telling_none a)

  -- the socket at a place told, and then only what is remembered of its turns changed
  pub telling_at_place : (h k : Host S) (v : Vec (Socket T) Global) (p : ℕ) (s t u : Socket T) → core u ≡ core t → p < vec_len v
      → s ≡ slice_index_or v.items p s → t.connection ≡ s.connection → s.is_ended ≡ false → k.tried ≡ h.tried → k.commits.sync ≡ h.commits.sync
      → TellsWith disk known contents remaining s t h.broker k.broker
      → GoesTellingWith disk known contents remaining (seen h v.items) (seen k (slice_set v.items p u))
  telling_at_place h k v p s t u same_core lt is same unended tried sync told = record {
    numbers = s.connection ∷ [];
    done = (
      seen k (slice_set v.items p u),
      record {
        carried = record {
          place = p;
          old = s;
          new = t;
          before = held_at v p s lt is;
          after = set_at v.items p u ∙ ap (λ x. slice_set (cores v.items) p x) same_core;
          number = refl;
          same = same;
          not_ended = unended;
          tried = tried;
          sync = sync;
          carries = told.carries;
        };
        told = told.told;
      },
      refl,
    );
    store = told.told.store;
  }

  -- and no connection opens meanwhile
  pub telling_tried : {from to : Seen S T} → GoesTellingWith disk known contents remaining from to → to.host.tried ≡ from.host.tried
  telling_tried {from} {to} tells = tried_along disk known contents remaining tells.numbers from to tells.done

  pub goes_telling : {from to : Seen S T} → GoesTellingWith disk known contents remaining from to → GoesWith disk known contents remaining from to
  goes_telling {from} {to} h = record { moves = moves_by h.numbers; done = carried_by disk known contents remaining h.numbers from to h.done }

-- What is known of the store may be less.
module _ {S T : Type 0} (disk : S → Disk) (known less : Deed → S → Type 0) (contents remaining : T → Option (List ℕ))
    (weaker : (d : Deed) (s : S) → known d s → less d s) where
  told_knowing : (n : ℕ) (from to : Seen S T) → HasTold disk known contents remaining n from to → HasTold disk less contents remaining n from to
  told_knowing n from to h =
      let c = h.carried in
      let tells = tells_knowing disk known less contents remaining weaker c.old c.new from.host.broker to.host.broker
      (record { carries = c.carries; told = h.told }) in
      record {
        carried = record {
          place = c.place;
          old = c.old;
          new = c.new;
          before = c.before;
          after = c.after;
          number = c.number;
          same = c.same;
          not_ended = c.not_ended;
          tried = c.tried;
          sync = c.sync;
          carries = tells.carries;
        };
        told = tells.told;
      }

  along_knowing : (ns : List ℕ) (from to : Seen S T) → Along (HasTold disk known contents remaining) ns from to
      → Along (HasTold disk less contents remaining) ns from to
  along_knowing [] from to h = h
  along_knowing (n ∷ ns) from to h = (h.0, told_knowing n from h.0 h.1, along_knowing ns h.0 to h.2)

pub telling_knowing : {S T : Type 0} {disk : S → Disk} {known less : Deed → S → Type 0} {contents remaining : T → Option (List ℕ)} {from to : Seen S T}
    → ((d : Deed) (s : S) → known d s → less d s) → GoesTellingWith disk known contents remaining from to
    → GoesTellingWith disk less contents remaining from to
telling_knowing {S} {T} {disk} {known} {less} {contents} {remaining} {from} {to} weaker h =
    record { numbers = h.numbers; done = along_knowing disk known less contents remaining weaker h.numbers from to h.done; store = h.store }

-- where no output was taken, anything is known of that
pub telling_silent : {S T : Type 0} {disk : S → Disk} {known : Deed → S → Type 0} {contents remaining : T → Option (List ℕ)} {from to : Seen S T}
    → GoesTelling disk contents remaining from to → GoesTellingWith disk known contents remaining from to
telling_silent {S} {T} {disk} {known} {contents} {remaining} {from} {to} goes = telling_knowing (from_silent known) goes
