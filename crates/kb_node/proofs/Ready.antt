-- Who comes behind those that can go on.
use Rattle.std.proofs.Common.{◌≡◌, ◌<◌, ◌≤◌, ◌⊎◌, ◌∙◌, ℕ, List, [], ◌∷◌, map, Bool, true, false, not, ◌&&◌, Option, Some, None, IfSome, length, take, zero, suc, slice_get, slice_set, vec_len, inl, inr, ⊎_elim, refl, sym, subst, ap, arith}
use Rattle.std.specs.List.{AllByRecursion}
use Rattle.std.specs.Vec.{vec_capacity}
use Rattle.std.proofs.lemmas.Bool.Decides.{eqb_tells}
use Rattle.kb_shares.specs.Shares.{Pool}
use Rattle.kb_node.specs.declared.socket.Socket.{Socket}
use Rattle.kb_node.specs.Numbers.{Rise, socket_of}
use Rattle.kb_node.specs.Ready.{ComesBehind, IsCalled, IsFull, Hears, HearsAt, IsQueued, LinesUp, Ready, Standing, can_hear}
use Rattle.kb_node.specs.SocketShares.{Seats}
use Rattle.kb_node.specs.Traffic.{Along}
use Rattle.kb_node.proofs.Traffic.{along_all}
use Rattle.kb_node.proofs.Numbers.{find_is, rise_set, set_here, set_other}

-- 1. One of them

-- one that can hear and is not queued now is queued already
is_to_come : (can queued : Bool) → (can && not queued) ≡ false → can ≡ true → queued ≡ true
is_to_come true true off is = refl
is_to_come true false off is = absurd (let none : true ≡ false = off in cc)
is_to_come false queued off is = absurd (let none : false ≡ true = is in cc)

the_same : {X : Type 0} (x y : X) → Some x ≡ Some y → x ≡ y
the_same x y is = cc

module _ {T : Type 0} where
  -- what was looked at is the one at that place
  pub queued_at : (o : Option (Socket T)) (s : Socket T) (a b : Ready T) → o ≡ Some s → IsQueued (not s.is_queued) s a b
      → IfSome o (λ x. IsQueued (not x.is_queued) x a b)
  queued_at o s a b at h = subst (λ x. IfSome x (λ y. IsQueued (not y.is_queued) y a b)) (sym at) h

  pub queued_by : (s : Socket T) (a b : Ready T) → s.is_queued ≡ false → ComesBehind s a b → IsQueued (not s.is_queued) s a b
  queued_by s a b is h = subst (λ v. IsQueued v s a b) (sym (ap not is)) (inl h)

  pub queued_later : (s : Socket T) (a b : Ready T) → s.is_queued ≡ false → IsFull a b → IsQueued (not s.is_queued) s a b
  queued_later s a b is h = subst (λ v. IsQueued v s a b) (sym (ap not is)) (inr h)

  pub queued_before : (s : Socket T) (a b : Ready T) → s.is_queued ≡ true → b ≡ a → IsQueued (not s.is_queued) s a b
  queued_before s a b is h = subst (λ v. IsQueued v s a b) (sym (ap not is)) h

  -- one that is put where it was
  pub put_back : (xs : List (Socket T)) (p : ℕ) (s : Socket T) → slice_get xs p ≡ Some s → slice_set xs p s ≡ xs
  put_back [] p s at = refl
  put_back (x ∷ xs) zero s at = ap (λ y. y ∷ xs) (the_same s x (sym at))
  put_back (x ∷ xs) (suc p) s at = ap (λ ys. x ∷ ys) (put_back xs p s at)

-- 2. One after another

abbrev number : {T : Type 0} → Socket T → ℕ
number s = s.connection

module _ {T : Type 0} where
  abbrev IsOrdered : ℕ → Ready T → Type 0
  IsOrdered tried x = Rise 0 tried (map number x.sockets)

  abbrev HasNoRoom : Ready T → Type 0
  HasNoRoom x = vec_capacity x.numbers ≤ vec_len x.numbers

  -- one came behind, or the list was full, or nothing was to be done
  abbrev Comes : Ready T → Ready T → Type 0
  Comes a b = (b ≡ a) ⊎ (((s : Socket T) × ComesBehind s a b) ⊎ IsFull a b)

  comes_by : (w : Bool) (s : Socket T) (a b : Ready T) → IsQueued w s a b → Comes a b
  comes_by true s a b h = ⊎_elim (λ one. inr (inl (s, one))) (λ full. inr (inr full)) h
  comes_by false s a b h = inl h

  comes_at : (o : Option (Socket T)) (a b : Ready T) → HearsAt o a b → Comes a b
  comes_at None a b h = inl h
  comes_at (Some s) a b h = comes_by (can_hear s && not s.is_queued) s a b h

  comes : (n : ℕ) (a b : Ready T) → Hears n a b → Comes a b
  comes n a b h = comes_at (socket_of n a.sockets) a b h

  -- the order stays
  ordered_behind : (tried : ℕ) (s : Socket T) (a b : Ready T) → IsOrdered tried a → ComesBehind s a b → IsOrdered tried b
  ordered_behind tried s a b r one = subst (λ xs. Rise 0 tried (map number xs)) (sym one.noted)
      (rise_set number 0 tried a.sockets one.place s (record s { is_queued = true }) r one.there refl)

  ordered : (tried : ℕ) (a b : Ready T) → IsOrdered tried a → Comes a b → IsOrdered tried b
  ordered tried a b r out = ⊎_elim
      (λ same. subst (λ (x : Ready T). IsOrdered tried x) (sym same) r)
      (λ rest. ⊎_elim (λ one. ordered_behind tried one.0 a b r one.1) (λ full. subst (λ (x : Ready T). IsOrdered tried x) (sym full.same) r) rest)
      out

  -- what is full stays full
  full_still : (a b : Ready T) → HasNoRoom a → Comes a b → HasNoRoom b
  full_still a b full out = ⊎_elim
      (λ same. subst (λ (x : Ready T). HasNoRoom x) (sym same) full)
      (λ rest. ⊎_elim
      (λ (one : (s : Socket T) × ComesBehind s a b). absurd (let room = one.1.room in omega (arith, full, room)))
      (λ stays. subst (λ (x : Ready T). HasNoRoom x) (sym stays.same) full) rest)
      out

  -- who came behind is called
  called_here : (tried : ℕ) (s : Socket T) (a b : Ready T) → IsOrdered tried a → ComesBehind s a b → IsCalled (socket_of s.connection b.sockets)
  called_here tried s a b r one =
      let found = ap (λ xs. socket_of s.connection xs) one.noted
      ∙ set_here number 0 tried a.sockets one.place s (record s { is_queued = true }) r one.there refl in
      subst (λ o. IsCalled o) (sym found) (λ can. refl)

  called_behind : (tried m : ℕ) (s : Socket T) (a b : Ready T) → IsOrdered tried a → ComesBehind s a b → IsCalled (socket_of m a.sockets)
      → IsCalled (socket_of m b.sockets)
  called_behind tried m s a b r one was = ⊎_elim
      (λ e. subst (λ k. IsCalled (socket_of k b.sockets)) (sym e.1) (called_here tried s a b r one))
      (λ e. subst (λ o. IsCalled o) (sym (ap (λ xs. socket_of m xs) one.noted
      ∙ set_other number m a.sockets one.place s (record s { is_queued = true }) one.there refl e.1)) was)
      (eqb_tells m s.connection)

  -- and who was called is called still
  called_still : (tried m : ℕ) (a b : Ready T) → IsOrdered tried a → Comes a b → IsCalled (socket_of m a.sockets) → IsCalled (socket_of m b.sockets)
  called_still tried m a b r out was = ⊎_elim
      (λ same. subst (λ (x : Ready T). IsCalled (socket_of m x.sockets)) (sym same) was)
      (λ rest. ⊎_elim
      (λ one. called_behind tried m one.0 a b r one.1 was)
      (λ full. subst (λ (x : Ready T). IsCalled (socket_of m x.sockets)) (sym full.same) was) rest)
      out

  -- the one that was heard is called, unless the list is full
  called_by : (tried n : ℕ) (w : Bool) (s : Socket T) (a b : Ready T) → IsOrdered tried a → socket_of n a.sockets ≡ Some s
      → (can_hear s && not s.is_queued) ≡ w → IsQueued w s a b → IsCalled (socket_of n b.sockets) ⊎ HasNoRoom b
  called_by tried n true s a b r at is h = ⊎_elim
      (λ one. inl (subst (λ k. IsCalled (socket_of k b.sockets)) (find_is number n a.sockets s at) (called_here tried s a b r one)))
      (λ full. inr (subst (λ (x : Ready T). HasNoRoom x) (sym full.same) full.full))
      h
  called_by tried n false s a b r at is h = inl (subst (λ (x : Ready T). IsCalled (socket_of n x.sockets)) (sym h)
      (subst (λ o. IsCalled o) (sym at) (is_to_come (can_hear s) s.is_queued is)))

  called_at : (tried n : ℕ) (o : Option (Socket T)) (a b : Ready T) → IsOrdered tried a → socket_of n a.sockets ≡ o → HearsAt o a b
      → IsCalled (socket_of n b.sockets) ⊎ HasNoRoom b
  called_at tried n None a b r at h = inl (subst (λ (x : Ready T). IsCalled (socket_of n x.sockets)) (sym h) (subst (λ o. IsCalled o) (sym at) tt))
  called_at tried n (Some s) a b r at h = called_by tried n (can_hear s && not s.is_queued) s a b r at refl h

  full_along : (ns : List ℕ) (a b : Ready T) → HasNoRoom a → Along Hears ns a b → HasNoRoom b
  full_along [] a b full h = subst (λ (x : Ready T). HasNoRoom x) (sym h) full
  full_along (n ∷ ns) a b full h = full_along ns h.0 b (full_still a h.0 full (comes n a h.0 h.1)) h.2

  called_along : (tried m : ℕ) (ns : List ℕ) (a b : Ready T) → IsOrdered tried a → Along Hears ns a b → IsCalled (socket_of m a.sockets)
      → IsCalled (socket_of m b.sockets)
  called_along tried m [] a b r h was = subst (λ (x : Ready T). IsCalled (socket_of m x.sockets)) (sym h) was
  called_along tried m (n ∷ ns) a b r h was = let out = comes n a h.0 h.1 in
      called_along tried m ns h.0 b (ordered tried a h.0 r out) h.2 (called_still tried m a h.0 r out was)

  -- all of them are
  all_called : (tried : ℕ) (ns : List ℕ) (a b : Ready T) → IsOrdered tried a → Along Hears ns a b → vec_len b.numbers < vec_capacity b.numbers
      → AllByRecursion (λ n. IsCalled (socket_of n b.sockets)) ns
  all_called tried [] a b r h room = tt
  all_called tried (n ∷ ns) a b r h room =
      let r' = ordered tried a h.0 r (comes n a h.0 h.1) in (
        ⊎_elim
            (λ was. called_along tried n ns h.0 b r' h.2 was)
            (λ none. absurd (let full = full_along ns h.0 b none h.2 in omega (arith, full, room)))
            (called_at tried n (socket_of n a.sockets) a h.0 r refl h.1),
        all_called tried ns h.0 b r' h.2 room,
      )

  pub called_all : (tried i : ℕ) (ns : List ℕ) (a b : Ready T) → IsOrdered tried a → length ns ≤ i → Along Hears (take i ns) a b
      → vec_len b.numbers < vec_capacity b.numbers → AllByRecursion (λ n. IsCalled (socket_of n b.sockets)) ns
  called_all tried i ns a b r le h room = all_called tried ns a b r (along_all Hears ns i a b le h) room

-- 3. Who stands in line

module _ {T : Type 0} where
  -- what it goes by is the same
  pub lined_with : (all : Bool) (s t : Seats) (r q i j : Pool) (xs ys : List (Socket T)) (n : ℕ) (a b : Standing) → t ≡ s → q ≡ r → j ≡ i
      → ys ≡ xs → LinesUp all t q j ys n a b → LinesUp all s r i xs n a b
  lined_with all s t r q i j xs ys n a b is rs js same h = subst (λ v. LinesUp all v r i xs n a b) is (subst (λ v. LinesUp all t v i xs n a b) rs
      (subst (λ v. LinesUp all t q v xs n a b) js (subst (λ (v : List (Socket T)). LinesUp all t q j v n a b) same h)))
