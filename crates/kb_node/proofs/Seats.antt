-- Each connection goes on to be counted for the holder that has its open socket, where a socket changes, comes or leaves.
use Rattle.std.proofs.Common.{◌≡◌, ◌≢◌, ◌<◌, ◌≤◌, ◌∙◌, ℕ, List, [], ◌∷◌, ◌++◌, map, Bool, true, false, not, if◌then◌else◌, Option, Some, None, Result, Ok, Err, slice_get, slice_index_or, slice_set, length, vec_len, ⊎_elim, refl, sym, ap, subst, arith}
use Rattle.std.specs.List.{filter, remove}
use Rattle.std.specs.declared.alloc.Global.{Global}
use Rattle.std.specs.declared.vec.Vec.{Vec}
use Rattle.std.proofs.lemmas.Bool.Decides.{eqb_tells}
use Rattle.std.proofs.lemmas.Option.{slice_get-get_or}
use Rattle.std.specs.Prelude.{OnErr, OnOk}
use Rattle.kb_node.specs.declared.socket.Socket.{Socket}
use Rattle.kb_node.specs.Commits.{Host}
use Rattle.kb_node.specs.Cores.{seen}
use Rattle.kb_node.specs.Numbers.{IsInOrder, Rise, socket_of}
use Rattle.kb_node.specs.Waiting.{socket_at}
use Rattle.kb_node.specs.SocketShares.{IsSeated, Seats, holder_of, seat_among}
use Rattle.kb_node.specs.Seats.{AreSeated, FreesSeat, IsReseated, KeepsSeat, seat_in, seat_of}
use Rattle.kb_node.proofs.Counts.{given_again}
use Rattle.kb_node.proofs.Cores.{item_at}
use Rattle.kb_node.proofs.Numbers.{behind_here, behind_other, find_here, find_is, left_out, none_above, numbers_of, remove_here, remove_other, rise_append, rise_filter, rise_remove, rise_set, rise_up, set_here, set_other}

abbrev number : {T : Type 0} → Socket T → ℕ
number s = s.connection

-- 1. One socket

-- what settles which holder has it
abbrev pub mark : {T : Type 0} → Socket T → ℕ × Bool × Bool × Option ℕ
mark s = (s.connection, s.is_ended, s.is_bound, s.tenant)

module _ {T : Type 0} where
  keeps : (m : ℕ) (s t : Socket T) → KeepsSeat s t → seat_of m t ≡ seat_of m s
  keeps m s t k = λ i. if k.0 i then seat_among m (k.1 i) else Some m

  -- its seat stays, and so do all others
  pub stays_seated : (a : Seats) (s t : Socket T) → KeepsSeat s t → IsReseated s t a a
  stays_seated a s t k = record { tenants = refl; seat = λ had. had ∙ sym (keeps a.tenants s t k); others = λ n ne. refl }

  -- one after another
  pub seated_then : (s t u : Socket T) (a b c : Seats) → t.connection ≡ s.connection → IsReseated s t a b → IsReseated t u b c → IsReseated s u a c
  seated_then s t u a b c is one two = record {
    tenants = two.tenants ∙ one.tenants;
    seat = λ had. subst (λ n. holder_of n c.sockets ≡ seat_of a.tenants u) is
        (subst (λ m. holder_of t.connection c.sockets ≡ seat_of m u) one.tenants
        (two.seat (subst (λ n. holder_of n b.sockets ≡ seat_of b.tenants t) (sym is) (one.seat had ∙ ap (λ m. seat_of m t) (sym one.tenants)))));
    others = λ n ne. two.others n (λ e. ne (e ∙ is)) ∙ one.others n ne;
  }

  -- it was looked at which tenant has it, between other things
  pub seated_between : (s m t u : Socket T) (a b : Seats) → m.connection ≡ s.connection → KeepsSeat s m → IsReseated m t a b
      → t.connection ≡ m.connection → KeepsSeat t u → IsReseated s u a b
  seated_between s m t u a b is before seat same behind = seated_then s m u a a b is (stays_seated a s m before)
      (seated_then m t u a b b same seat (stays_seated b t u behind))

  pub kept_then : (s t u : Socket T) → KeepsSeat s t → KeepsSeat t u → KeepsSeat s u
  kept_then s t u one two = (two.0 ∙ one.0, two.1 ∙ one.1)

  -- its connection has a seat, and another socket takes its place
  pub given_seat : (a b : Seats) (s t : Socket T) (o : Option ℕ) → IsSeated s.connection o a b → seat_of a.tenants t ≡ o → IsReseated s t a b
  given_seat a b s t o given is = record { tenants = given.tenants; seat = λ had. given.seat ∙ sym is; others = given.others }

  -- what was seen of it where branches joined
  pub joined_at : (s t u : Socket T) (a b c : Seats) → u ≡ t → c ≡ b → (t.connection ≡ s.connection) × IsReseated s t a b
      → (u.connection ≡ s.connection) × IsReseated s u a c
  joined_at s t u a b c same seats h = subst (λ v. (v.connection ≡ s.connection) × IsReseated s v a c) (sym same)
      (subst (λ d. (t.connection ≡ s.connection) × IsReseated s t a d) (sym seats) h)

  -- and then it told what there was to say
  pub joined_then : (s m t u : Socket T) (a b : Seats) → m.connection ≡ s.connection → KeepsSeat s m → (t.connection ≡ m.connection) × IsReseated m t a b
      → KeepsSeat t u → IsReseated s u a b
  joined_then s m t u a b is before h behind = seated_between s m t u a b is before h.1 h.0 behind

  pub mark_of : (s t : Socket T) → t.connection ≡ s.connection → t.is_ended ≡ s.is_ended → KeepsSeat s t → mark t ≡ mark s
  mark_of s t number ended k = λ i. (number i, ended i, k.0 i, k.1 i)

  open_seat : (tenants : ℕ) (s : Socket T) → s.is_ended ≡ false → seat_in tenants (Some s) ≡ seat_of tenants s
  open_seat tenants s is = ap (λ c. if c then None else seat_of tenants s) is

  closed_seat : (tenants : ℕ) (s : Socket T) → s.is_ended ≡ true → seat_in tenants (Some s) ≡ None
  closed_seat tenants s is = ap (λ c. if c then None else seat_of tenants s) is

  left_seat : (b c : Seats) (t : Socket T) → holder_of t.connection b.sockets ≡ seat_of b.tenants t → FreesSeat t b c
      → holder_of t.connection c.sockets ≡ seat_in c.tenants (Some t)
  left_seat b c t had left = left.seat ∙ ap (λ o. if t.is_ended then None else o) had
      ∙ ap (λ m. seat_in m (Some t)) (sym left.tenants)

is_not : (b : Bool) → not b ≡ false → b ≡ true
is_not true h = refl
is_not false h = absurd (let no : true ≡ false = h in cc)

-- whichever it was that was answered
pub given_any : {A E : Type 0} (r : Result A E) (n m : ℕ) (a b : Seats) → OnOk r (IsSeated n (Some m) a b) → OnErr r (IsSeated n None a b)
    → (o : Option ℕ) × IsSeated n o a b
given_any (Ok x) n m a b ok err = (Some m, ok)
given_any (Err e) n m a b ok err = (None, err)

-- 2. All of them

module _ {S T : Type 0} where
  pub rising : (h : Host S) (xs : List (Socket T)) → IsInOrder (seen h xs) → Rise 0 h.tried (map number xs)
  rising h xs r = subst (λ ns. Rise 0 h.tried ns) (numbers_of xs) r

  ordered : (h : Host S) (xs : List (Socket T)) → Rise 0 h.tried (map number xs) → IsInOrder (seen h xs)
  ordered h xs r = subst (λ ns. Rise 0 h.tried ns) (sym (numbers_of xs)) r

  -- the host goes on

  pub with_host : (h k : Host S) (a : Seats) (xs : List (Socket T)) → h.tried ≤ k.tried → AreSeated h a xs → AreSeated k a xs
  with_host h k a xs le w = record { in_order = ordered k xs (rise_up 0 h.tried k.tried (map number xs) le (rising h xs w.in_order)); seated = w.seated }

  pub same_host : (h k : Host S) (a : Seats) (xs : List (Socket T)) → k.tried ≡ h.tried → AreSeated h a xs → AreSeated k a xs
  same_host h k a xs is w = with_host h k a xs (omega (arith, is)) w

  -- a socket changes, and its seat with it
  pub changed_in : (h k : Host S) (a b : Seats) (xs : List (Socket T)) (p : ℕ) (s t : Socket T) → slice_get xs p ≡ Some s
      → t.connection ≡ s.connection → k.tried ≡ h.tried → b.tenants ≡ a.tenants
      → ((n : ℕ) → n ≢ s.connection → holder_of n b.sockets ≡ holder_of n a.sockets)
      → (holder_of s.connection a.sockets ≡ seat_in a.tenants (Some s) → holder_of s.connection b.sockets ≡ seat_in b.tenants (Some t))
      → AreSeated h a xs → AreSeated k b (slice_set xs p t)
  changed_in h k a b xs p s t at same tried tenants others own w =
      let r = rising h xs w.in_order in
      record {
        in_order = ordered k (slice_set xs p t) (subst (λ n. Rise 0 n (map number (slice_set xs p t))) (sym tried) (rise_set number 0 h.tried xs p s t r at same));
        seated = λ n. ⊎_elim
            (λ e. subst (λ m. holder_of m b.sockets ≡ seat_in b.tenants (socket_of m (slice_set xs p t))) (sym e.1)
            (own (w.seated s.connection ∙ ap (seat_in a.tenants) (find_here number 0 h.tried xs p s r at))
            ∙ sym (ap (seat_in b.tenants) (set_here number 0 h.tried xs p s t r at same))))
            (λ e. others n e.1 ∙ w.seated n ∙ ap (λ m. seat_in m (socket_of n xs)) (sym tenants)
            ∙ ap (seat_in b.tenants) (sym (set_other number n xs p s t at same e.1)))
            (eqb_tells n s.connection);
      }

  pub changed : (h k : Host S) (a b : Seats) (v : Vec (Socket T) Global) (p : ℕ) (s t : Socket T) → p < vec_len v → s ≡ slice_index_or v.items p s
      → t.connection ≡ s.connection → k.tried ≡ h.tried → b.tenants ≡ a.tenants
      → ((n : ℕ) → n ≢ s.connection → holder_of n b.sockets ≡ holder_of n a.sockets)
      → (holder_of s.connection a.sockets ≡ seat_in a.tenants (Some s) → holder_of s.connection b.sockets ≡ seat_in b.tenants (Some t))
      → AreSeated h a v.items → AreSeated k b (slice_set v.items p t)
  changed h k a b v p s t lt is same tried tenants others own w =
      changed_in h k a b v.items p s t (item_at v p s lt is) same tried tenants others own w

  -- a socket changes, and its seat stays
  pub stayed : (h k : Host S) (a : Seats) (v : Vec (Socket T) Global) (p : ℕ) (s t : Socket T) → p < vec_len v → s ≡ slice_index_or v.items p s
      → t.connection ≡ s.connection → k.tried ≡ h.tried → seat_in a.tenants (Some t) ≡ seat_in a.tenants (Some s)
      → AreSeated h a v.items → AreSeated k a (slice_set v.items p t)
  stayed h k a v p s t lt is same tried seat w = changed h k a a v p s t lt is same tried refl (λ n ne. refl) (λ had. had ∙ sym seat) w

  -- what is open and has logged in was seated, and stays open
  pub reseated : (h k : Host S) (a b : Seats) (v : Vec (Socket T) Global) (p : ℕ) (s t : Socket T) → p < vec_len v → s ≡ slice_index_or v.items p s
      → t.connection ≡ s.connection → k.tried ≡ h.tried → s.is_ended ≡ false → t.is_ended ≡ s.is_ended → IsReseated s t a b
      → AreSeated h a v.items → AreSeated k b (slice_set v.items p t)
  reseated h k a b v p s t lt is same tried is_open stays seats w = changed h k a b v p s t lt is same tried seats.tenants seats.others
      (λ had. seats.seat (had ∙ open_seat a.tenants s is_open) ∙ ap (λ m. seat_of m t) (sym seats.tenants)
      ∙ sym (open_seat b.tenants t (stays ∙ is_open))) w

  -- it was served, and seated, and left its seat where it is closed
  pub served : (h k : Host S) (a b c : Seats) (v : Vec (Socket T) Global) (p : ℕ) (s t : Socket T) → p < vec_len v → s ≡ slice_index_or v.items p s
      → t.connection ≡ s.connection → k.tried ≡ h.tried → s.is_ended ≡ false → IsReseated s t a b → FreesSeat t b c
      → AreSeated h a v.items → AreSeated k c (slice_set v.items p t)
  served h k a b c v p s t lt is same tried is_open seats left w = changed h k a c v p s t lt is same tried (left.tenants ∙ seats.tenants)
      (λ n ne. left.others n (λ e. ne (e ∙ same)) ∙ seats.others n ne)
      (λ had. subst (λ n. holder_of n c.sockets ≡ seat_in c.tenants (Some t)) same (left_seat b c t
      (subst (λ n. holder_of n b.sockets ≡ seat_of b.tenants t) (sym same)
      (seats.seat (had ∙ open_seat a.tenants s is_open) ∙ ap (λ m. seat_of m t) (sym seats.tenants))) left)) w

  -- it told what there was to say, and left its seat where it is closed
  pub told : (h k : Host S) (a c : Seats) (v : Vec (Socket T) Global) (p : ℕ) (s t : Socket T) → p < vec_len v → s ≡ slice_index_or v.items p s
      → t.connection ≡ s.connection → k.tried ≡ h.tried → s.is_ended ≡ false → KeepsSeat s t → FreesSeat t a c
      → AreSeated h a v.items → AreSeated k c (slice_set v.items p t)
  told h k a c v p s t lt is same tried is_open stays left w = served h k a a c v p s t lt is same tried is_open (stays_seated a s t stays) left w

  -- what of it is remembered changes alone
  pub kept_at : (h k : Host S) (a : Seats) (v : Vec (Socket T) Global) (p : ℕ) (s t : Socket T) → p < vec_len v → s ≡ slice_index_or v.items p s
      → k.tried ≡ h.tried → mark t ≡ mark s → AreSeated h a v.items → AreSeated k a (slice_set v.items p t)
  kept_at h k a v p s t lt is tried same w = stayed h k a v p s t lt is (ap (λ m. m.0) same) tried
      (ap (λ m. if m.1 then None else (if m.2 then seat_among a.tenants m.3 else Some a.tenants)) same) w

  -- a seat is given back by a connection that has none
  pub given_back : (h : Host S) (a b : Seats) (n : ℕ) (xs : List (Socket T)) → IsSeated n None a b → seat_in a.tenants (socket_of n xs) ≡ None
      → AreSeated h a xs → AreSeated h b xs
  given_back h a b n xs given none w = record {
    in_order = w.in_order;
    seated = λ m. ⊎_elim
        (λ e. subst (λ k. holder_of k b.sockets ≡ seat_in b.tenants (socket_of k xs)) (sym e.1)
        (given.seat ∙ sym none ∙ ap (λ t. seat_in t (socket_of n xs)) (sym given.tenants)))
        (λ e. given.others m e.1 ∙ w.seated m ∙ ap (λ t. seat_in t (socket_of m xs)) (sym given.tenants))
        (eqb_tells m n);
  }

  -- by one that was never tried
  pub untried : (h : Host S) (a b : Seats) (n : ℕ) (xs : List (Socket T)) → IsSeated n None a b → h.tried < n → AreSeated h a xs → AreSeated h b xs
  untried h a b n xs given lt w = given_back h a b n xs given
      (ap (seat_in a.tenants) (none_above number 0 h.tried n xs (rising h xs w.in_order) lt)) w

  pub none_yet : (h : Host S) (a : Seats) → a.sockets ≡ [] → AreSeated {T = T} h a []
  none_yet h a is = record { in_order = omega arith; seated = λ n. ap (λ ss. holder_of n ss) is }

  pub nobody_seated : (h : Host S) (a : Seats) (xs : List (Socket T)) → length xs ≡ 0 → a.sockets ≡ [] → AreSeated h a xs
  nobody_seated h a [] none is = none_yet h a is
  nobody_seated h a (x ∷ xs) none is = absurd (omega (arith, none))

  pub comes : (h k : Host S) (a b : Seats) (xs : List (Socket T)) (n : ℕ) (s : Socket T) → h.tried < n → k.tried ≡ n → IsSeated n (Some a.tenants) a b
      → s.connection ≡ n → s.is_ended ≡ false → s.is_bound ≡ false → AreSeated h a xs → AreSeated k b (xs ++ s ∷ [])
  comes h k a b xs n s lt tried given is is_open is_new w =
      let r = rising h xs w.in_order in
      let above : h.tried < s.connection = omega (arith, lt, is) in
      record {
        in_order = ordered k (xs ++ s ∷ []) (subst (λ m. Rise 0 m (map number (xs ++ s ∷ []))) (is ∙ sym tried) (rise_append number 0 h.tried xs s r above));
        seated = λ m. ⊎_elim
            (λ e. subst (λ j. holder_of j b.sockets ≡ seat_in b.tenants (socket_of j (xs ++ s ∷ []))) (sym e.1)
            (ap (λ j. holder_of j b.sockets) is ∙ given.seat ∙ ap Some (sym given.tenants)
            ∙ sym (open_seat b.tenants s is_open ∙ ap (λ c. if c then seat_among b.tenants s.tenant else Some b.tenants) is_new)
            ∙ sym (ap (seat_in b.tenants) (behind_here number 0 h.tried xs s r above))))
            (λ e. given.others m (λ f. e.1 (f ∙ sym is)) ∙ w.seated m ∙ ap (λ t. seat_in t (socket_of m xs)) (sym given.tenants)
            ∙ ap (seat_in b.tenants) (sym (behind_other number m xs s e.1)))
            (eqb_tells m s.connection);
      }

  pub leaves : (h : Host S) (a : Seats) (xs : List (Socket T)) (p : ℕ) (s : Socket T) → slice_get xs p ≡ Some s → s.is_ended ≡ true
      → AreSeated h a xs → AreSeated h a (remove xs p)
  leaves h a xs p s at is w =
      let r = rising h xs w.in_order in
      record {
        in_order = ordered h (remove xs p) (rise_remove number 0 h.tried xs p r);
        seated = λ n. ⊎_elim
            (λ e. subst (λ m. holder_of m a.sockets ≡ seat_in a.tenants (socket_of m (remove xs p))) (sym e.1)
            (w.seated s.connection ∙ ap (seat_in a.tenants) (find_here number 0 h.tried xs p s r at) ∙ closed_seat a.tenants s is
            ∙ sym (ap (seat_in a.tenants) (remove_here number 0 h.tried xs p s r at))))
            (λ e. w.seated n ∙ ap (seat_in a.tenants) (sym (remove_other number n xs p s at e.1)))
            (eqb_tells n s.connection);
      }

  pub leave : (h : Host S) (a : Seats) (xs : List (Socket T)) → AreSeated h a xs → AreSeated h a (filter (λ s. not s.is_ended) xs)
  leave h a xs w =
      let r = rising h xs w.in_order in
      record {
        in_order = ordered h (filter (λ s. not s.is_ended) xs) (rise_filter number 0 h.tried xs (λ s. not s.is_ended) r);
        seated = λ n. w.seated n ∙ sym (left_out number (seat_in a.tenants) n 0 h.tried xs (λ s. not s.is_ended)
            (λ s e. closed_seat a.tenants s (is_not s.is_ended e)) r);
      }

  -- The socket of a connection is closed, and has no seat.
  pub closed : (h k : Host S) (a b : Seats) (v : Vec (Socket T) Global) (p n : ℕ) (s t : Socket T) → p < vec_len v → s ≡ slice_index_or v.items p s
      → t.connection ≡ s.connection → k.tried ≡ h.tried → (IsInOrder (seen h v.items) → slice_get v.items p ≡ socket_of n v.items)
      → t.is_ended ≡ true → IsSeated n None a b → AreSeated h a v.items → AreSeated k b (slice_set v.items p t)
  closed h k a b v p n s t lt is same tried found ended given w =
      let at = item_at v p s lt is in
      let its : s.connection ≡ n = find_is number n v.items s (sym (found w.in_order) ∙ at) in
      changed h k a b v p s t lt is same tried given.tenants (λ m ne. given.others m (λ e. ne (e ∙ sym its)))
      (λ had. ap (λ m. holder_of m b.sockets) its ∙ given.seat ∙ sym (closed_seat b.tenants t ended)) w

  -- No socket carries a connection that has no seat, or a closed one.
  pub nobody : (h : Host S) (a b : Seats) (xs : List (Socket T)) (n : ℕ) (o : Option ℕ) → IsSeated n None a b
      → (IsInOrder (seen h xs) → socket_at o xs ≡ socket_of n xs) → seat_in a.tenants (socket_at o xs) ≡ None → AreSeated h a xs → AreSeated h b xs
  nobody h a b xs n o given found none w = given_back h a b n xs given (ap (seat_in a.tenants) (sym (found w.in_order)) ∙ none) w

  -- the same where what is remembered of it changed, too
  pub reseated_as : (h k : Host S) (a b : Seats) (v : Vec (Socket T) Global) (p : ℕ) (s t u : Socket T) → p < vec_len v
      → s ≡ slice_index_or v.items p s → t.connection ≡ s.connection → k.tried ≡ h.tried → s.is_ended ≡ false → t.is_ended ≡ s.is_ended
      → IsReseated s t a b → mark u ≡ mark t → AreSeated h a v.items → AreSeated k b (slice_set v.items p u)
  reseated_as h k a b v p s t u lt is same tried is_open stays seats alike w = reseated h k a b v p s u lt is (ap (λ m. m.0) alike ∙ same) tried is_open
      (ap (λ m. m.1) alike ∙ stays) (seated_then s t u a b b same seats (stays_seated b t u (ap (λ m. m.2) alike, ap (λ m. m.3) alike))) w

  pub served_as : (h k : Host S) (a b c : Seats) (v : Vec (Socket T) Global) (p : ℕ) (s t u : Socket T) → p < vec_len v
      → s ≡ slice_index_or v.items p s → t.connection ≡ s.connection → k.tried ≡ h.tried → s.is_ended ≡ false
      → IsReseated s t a b → mark u ≡ mark t → FreesSeat u b c → AreSeated h a v.items → AreSeated k c (slice_set v.items p u)
  served_as h k a b c v p s t u lt is same tried is_open seats alike left w = served h k a b c v p s u lt is (ap (λ m. m.0) alike ∙ same) tried is_open
      (seated_then s t u a b b same seats (stays_seated b t u (ap (λ m. m.2) alike, ap (λ m. m.3) alike))) left w

  pub told_as : (h k : Host S) (a c : Seats) (v : Vec (Socket T) Global) (p : ℕ) (s t u : Socket T) → p < vec_len v → s ≡ slice_index_or v.items p s
      → t.connection ≡ s.connection → k.tried ≡ h.tried → s.is_ended ≡ false → KeepsSeat s t → mark u ≡ mark t → FreesSeat u a c
      → AreSeated h a v.items → AreSeated k c (slice_set v.items p u)
  told_as h k a c v p s t u lt is same tried is_open stays alike left w =
      served_as h k a a c v p s t u lt is same tried is_open (stays_seated a s t stays) alike left w

  pub leaves_at : (h : Host S) (a : Seats) (xs ys zs : List (Socket T)) (p : ℕ) (s : Socket T) → p < length xs → s ≡ slice_index_or xs p s
      → s.is_ended ≡ true → xs ≡ ys → zs ≡ remove ys p → AreSeated h a ys → AreSeated h a zs
  leaves_at h a xs ys zs p s lt is ended same left w = subst (λ ws. AreSeated h a ws) (sym left)
      (leaves h a ys p s (subst (λ ws. slice_get ws p ≡ Some s) same (slice_get-get_or xs p s lt ∙ sym (ap (λ y. Some y) is))) ended w)

  pub comes_behind : (h k : Host S) (a b : Seats) (old mid new : List (Socket T)) (n : ℕ) (s : Socket T) → new ≡ mid ++ s ∷ [] → mid ≡ old
      → h.tried < n → k.tried ≡ n → IsSeated n (Some a.tenants) a b → s.connection ≡ n → s.is_ended ≡ false → s.is_bound ≡ false
      → AreSeated h a old → AreSeated k b new
  comes_behind h k a b old mid new n s behind same lt tried given is is_open is_new w = subst (λ xs. AreSeated k b xs)
      (sym (behind ∙ ap (λ xs. xs ++ s ∷ []) same)) (comes h k a b old n s lt tried given is is_open is_new w)

  -- it could not be kept
  pub not_kept : (h k : Host S) (a b c : Seats) (xs ys : List (Socket T)) (n : ℕ) (o : Option ℕ) → ys ≡ xs → h.tried < n → h.tried ≤ k.tried
      → IsSeated n o a b → IsSeated n None b c → AreSeated h a xs → AreSeated k c ys
  not_kept h k a b c xs ys n o same lt le one two w = subst (λ zs. AreSeated k c zs) (sym same)
      (with_host h k c xs le (untried h a c n xs (given_again n o None a b c one two) lt w))
