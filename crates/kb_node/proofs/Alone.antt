-- What becomes of sockets where that of one connection changes alone.
use Rattle.std.proofs.Common.{◌≡◌, ◌≢◌, ◌<◌, ◌+◌, ◌-◌, ◌∙◌, ◌⊎◌, ℕ, zero, suc, List, [], ◌∷◌, ◌++◌, map, length, drop, nat_eq, Bool, true, false, cond, Option, None, Some, IfSome, option_map, slice_get, slice_index_or, slice_set, vec_len, ap, refl, sym, subst, arith}
use Rattle.std.specs.List.{remove}
use Rattle.std.specs.declared.alloc.Global.{Global}
use Rattle.std.specs.declared.vec.Vec.{Vec}
use Rattle.std.proofs.lemmas.List.{length-append, length-drop}
use Rattle.std.proofs.lemmas.Option.{slice_get-get_or}
use Rattle.kb_node.specs.declared.socket.Socket.{Socket}
use Rattle.kb_node.specs.Carries.{unwritten_of}
use Rattle.kb_node.specs.Closing.{ChangesAlone, IsBegunAt, IsClosed, IsGone, IsRemoved, IsRoomMade, LeavesIfClosed, TookSome}
use Rattle.kb_node.specs.Commits.{Host}
use Rattle.kb_node.specs.Cores.{Core, core, cores, seen}
use Rattle.kb_node.specs.Moves.{IsJoined}
use Rattle.kb_node.specs.Numbers.{IsInOrder, socket_of}
use Rattle.kb_node.specs.Streams.{core_of, is_closed_in}
use Rattle.kb_node.specs.Waiting.{socket_at}
use Rattle.kb_node.proofs.Cores.{held_at, item_at, set_at}
use Rattle.kb_node.proofs.Numbers.{behind_other, find_here, find_is, remove_here, remove_other, set_here, set_other}
use Rattle.kb_node.proofs.Seats.{rising}

some_is : {X : Type 0} (x y : X) → Some x ≡ Some y → x ≡ y
some_is x y is = cc

-- one more of the same number stands in its place
numbers_set : {X : Type 0} (number : X → ℕ) (xs : List X) (p : ℕ) (x y : X) → slice_get xs p ≡ Some x → number y ≡ number x
    → map number (slice_set xs p y) ≡ map number xs
numbers_set number [] p x y at same = refl
numbers_set number (z ∷ xs) zero x y at same = ap (λ n. n ∷ map number xs) (same ∙ ap number (sym (some_is z x at)))
numbers_set number (z ∷ xs) (suc p) x y at same = ap (λ ns. number z ∷ ns) (numbers_set number xs p x y at same)

-- what is left is less, unless it is as much
less_by : (put from left : List ℕ) → from ≡ put ++ left → length left ≢ length from → length left < length from
less_by [] from left out ne = absurd (ne (sym (ap length out)))
less_by (x ∷ put) from left out ne = omega (arith, ap length out, length-append put left)

module _ {T : Type 0} where
  -- 1. Nothing changes, or one thing after another

  pub alone_none : (n : ℕ) (a : List (Core T)) → ChangesAlone n a a
  alone_none n a = record { numbers = refl; others = λ m ne. refl }

  pub alone_still : (n : ℕ) (a b : List (Core T)) → b ≡ a → ChangesAlone n a b
  alone_still n a b same = subst (λ (x : List (Core T)). ChangesAlone n a x) (sym same) (alone_none n a)

  pub alone_then : (n : ℕ) (a b c : List (Core T)) → ChangesAlone n a b → ChangesAlone n b c → ChangesAlone n a c
  alone_then n a b c one two = record { numbers = two.numbers ∙ one.numbers; others = λ m ne. two.others m ne ∙ one.others m ne }

  pub closed_then : (n : ℕ) (a b c : List (Core T)) → ChangesAlone n a b → IsClosed n b c → IsClosed n a c
  closed_then n a b c one two = record { alone = alone_then n a b c one two.alone; gone = two.gone }

  -- 2. The socket at a place changes, which carries that connection

  by_cond : (b : Bool) (x : Socket T) (o : Option (Core T)) (r : Option (Socket T)) → o ≡ option_map core r
      → cond b (Some (core x)) o ≡ option_map core (cond b (Some x) r)
  by_cond true x o r h = refl
  by_cond false x o r h = h

  pub core_is : (n : ℕ) (xs : List (Socket T)) → core_of n (cores xs) ≡ option_map core (socket_of n xs)
  core_is n [] = refl
  core_is n (x ∷ xs) = by_cond (nat_eq x.connection n) x (core_of n (cores xs)) (socket_of n xs) (core_is n xs)

  -- where no socket carries it, none is open
  pub gone_none : {S : Type 0} (h : Host S) (xs : List (Socket T)) (n : ℕ) → (IsInOrder (seen h xs) → socket_at None xs ≡ socket_of n xs)
      → IsInOrder (seen h xs) → IsGone n (cores xs)
  gone_none h xs n found r = ap (λ o. is_closed_in o) (core_is n xs ∙ ap (λ o. option_map core o) (sym (found r)))

  -- 3. It is closed, and left out

  here_at : (xs ys : List (Socket T)) (p : ℕ) (s : Socket T) → p < length xs → s ≡ slice_index_or xs p s → xs ≡ ys → slice_get ys p ≡ Some s
  here_at xs ys p s lt is same = subst (λ ws. slice_get ws p ≡ Some s) same (slice_get-get_or xs p s lt ∙ sym (ap (λ y. Some y) is))

  closed_some : (o : Option (Socket T)) → is_closed_in (option_map core o) ≡ true → IfSome o (λ s. s.is_ended ≡ true)
  closed_some None is = tt
  closed_some (Some s) is = is

  pub removed_then : (n : ℕ) (a b c : List (Socket T)) → IsClosed n (cores a) (cores b) → LeavesIfClosed n b c → IsRemoved n (cores a) (cores c)
  removed_then n a b c closed left = record {
    gone = core_is n c
        ∙ ap (λ o. option_map core o) (left.gone (closed_some (socket_of n b) (ap (λ o. is_closed_in o) (sym (core_is n b)) ∙ closed.gone)));
    others = λ m ne. core_is m c ∙ ap (λ o. option_map core o) (left.others m ne) ∙ sym (core_is m b) ∙ closed.alone.others m ne;
  }

  pub room_there : (b : Bool) (o : Option ℕ) (a : List (Core T)) → b ≡ true → IsRoomMade b o a a
  room_there b o a is = subst (λ x. IsRoomMade x o a a) (sym is) refl

  pub nobody_there : (b : Bool) (o : Option ℕ) (a : List (Core T)) → b ≡ false → o ≡ None → IsRoomMade b o a a
  nobody_there b o a is none = subst (λ x. IsRoomMade x o a a) (sym is) (subst (λ p. IsRoomMade false p a a) (sym none) refl)

  pub room_made : (b : Bool) (o : Option ℕ) (n : ℕ) (a c : List (Core T)) → b ≡ false → o ≡ Some n → IsRemoved n a c → IsRoomMade b o a c
  room_made b o n a c is some removed = subst (λ x. IsRoomMade x o a c) (sym is) (subst (λ p. IsRoomMade false p a c) (sym some) removed)

  pub others_made : (b : Bool) (o : Option ℕ) (a c : List (Core T)) → IsRoomMade b o a c → (n : ℕ) → Some n ≢ o → core_of n c ≡ core_of n a
  others_made true o a c made n ne = ap (λ (cs : List (Core T)). core_of n cs) made
  others_made false None a c made n ne = ap (λ (cs : List (Core T)). core_of n cs) made
  others_made false (Some m) a c made n ne = made.others n (λ e. ne (ap (λ k. Some k) e))

  pub others_joined : (stream : T) (m : ℕ) (a c : List (Core T)) → IsJoined stream m a c → (n : ℕ) → n ≢ m → core_of n c ≡ core_of n a
  others_joined stream m a c joined n ne =
      let new : Core T = record { connection = m; stream = stream; unwritten = []; unhanded = []; is_lost = false; is_ended = false } in
      ap (λ (cs : List (Core T)). core_of n cs) joined.behind ∙ behind_other (λ (x : Core T). x.connection) n a new ne

  -- where no socket carries it, none leaves
  pub leaves_none : {S : Type 0} (h : Host S) (xs : List (Socket T)) (n : ℕ) → (IsInOrder (seen h xs) → socket_at None xs ≡ socket_of n xs)
      → IsInOrder (seen h xs) → LeavesIfClosed n xs xs
  leaves_none h xs n found r = record { gone = λ closed. sym (found r); kept = λ open_one. refl; others = λ m ne. refl }

  -- the socket s at the place p of ys is that of n
  pub leaves_open : {S : Type 0} (h : Host S) (xs ys : List (Socket T)) (p n : ℕ) (s : Socket T) → p < length xs → s ≡ slice_index_or xs p s
      → xs ≡ ys → (IsInOrder (seen h ys) → slice_get ys p ≡ socket_of n ys) → IsInOrder (seen h ys) → s.is_ended ≡ false → LeavesIfClosed n ys ys
  leaves_open h xs ys p n s lt is same found r unended =
      let there : socket_of n ys ≡ Some s = sym (found r) ∙ here_at xs ys p s lt is same in
      record {
        gone = λ closed. absurd (let no : true ≡ false = sym (subst (λ o. IfSome o (λ x. x.is_ended ≡ true)) there closed) ∙ unended in cc);
        kept = λ open_one. refl;
        others = λ m ne. refl;
      }

  pub leaves_closed : {S : Type 0} (h : Host S) (xs ys zs : List (Socket T)) (p n : ℕ) (s : Socket T) → p < length xs → s ≡ slice_index_or xs p s
      → xs ≡ ys → (IsInOrder (seen h ys) → slice_get ys p ≡ socket_of n ys) → IsInOrder (seen h ys) → s.is_ended ≡ true → zs ≡ remove ys p
      → LeavesIfClosed n ys zs
  leaves_closed h xs ys zs p n s lt is same found r ended left =
      let at : slice_get ys p ≡ Some s = here_at xs ys p s lt is same in
      let there : socket_of n ys ≡ Some s = sym (found r) ∙ at in
      let number : s.connection ≡ n = find_is (λ (x : Socket T). x.connection) n ys s there in
      record {
        gone = λ closed. subst (λ ws. socket_of n ws ≡ None) (sym left) (subst (λ m. socket_of m (remove ys p) ≡ None) number
            (remove_here (λ (x : Socket T). x.connection) 0 h.tried ys p s (rising h ys r) at));
        kept = λ open_one. absurd (let no : true ≡ false = sym ended ∙ subst (λ o. IfSome o (λ x. x.is_ended ≡ false)) there open_one in cc);
        others = λ m ne. subst (λ ws. socket_of m ws ≡ socket_of m ys) (sym left)
            (remove_other (λ (x : Socket T). x.connection) m ys p s at (λ e. ne (e ∙ number)));
      }

-- the socket s at the place p of v is that of n, and t comes there
module _ {S T : Type 0} (h : Host S) (v : Vec (Socket T) Global) (p n : ℕ) (s t : Socket T) (lt : p < vec_len v) (is : s ≡ slice_index_or v.items p s)
    (found : IsInOrder (seen h v.items) → slice_get v.items p ≡ socket_of n v.items) (r : IsInOrder (seen h v.items))
    (same : t.connection ≡ s.connection) where
  its : s.connection ≡ n
  its = find_is (λ (x : Socket T). x.connection) n v.items s (sym (found r) ∙ item_at v p s lt is)

  pub alone_at : ChangesAlone n (cores v.items) (cores (slice_set v.items p t))
  alone_at = record {
    numbers = ap (λ (cs : List (Core T)). map (λ c. c.connection) cs) (set_at v.items p t)
        ∙ numbers_set (λ (c : Core T). c.connection) (cores v.items) p (core s) (core t) (held_at v p s lt is) same;
    others = λ m ne. ap (λ (cs : List (Core T)). core_of m cs) (set_at v.items p t)
        ∙ set_other (λ (c : Core T). c.connection) m (cores v.items) p (core s) (core t) (held_at v p s lt is) same (λ e. ne (e ∙ its));
  }

  pub core_before : core_of n (cores v.items) ≡ Some (core s)
  core_before = subst (λ m. core_of m (cores v.items) ≡ Some (core s)) its
      (find_here (λ (c : Core T). c.connection) 0 h.tried (cores v.items) p (core s) r (held_at v p s lt is))

  pub core_after : core_of n (cores (slice_set v.items p t)) ≡ Some (core t)
  core_after = ap (λ (cs : List (Core T)). core_of n cs) (set_at v.items p t)
      ∙ subst (λ m. core_of m (slice_set (cores v.items) p (core t)) ≡ Some (core t)) its
      (set_here (λ (c : Core T). c.connection) 0 h.tried (cores v.items) p (core s) (core t) r (held_at v p s lt is) same)

  pub closed_at : t.is_ended ≡ true → IsClosed n (cores v.items) (cores (slice_set v.items p t))
  closed_at ended = record { alone = alone_at; gone = ap (λ o. is_closed_in o) core_after ∙ ended }

  pub begun_at : (now : ℕ) → t.begun ≡ Some now → IsBegunAt n now (slice_set v.items p t)
  begun_at now begun = record {
    socket = t;
    there = subst (λ m. socket_of m (slice_set v.items p t) ≡ Some t) its
        (set_here (λ (x : Socket T). x.connection) 0 h.tried v.items p s t (rising h v.items r) (item_at v p s lt is) same);
    begun = begun;
  }

  -- it wrote some of what was unwritten
  pub took_at : (put : List ℕ) → unwritten_of s ≡ put ++ unwritten_of t → (before after : ℕ) → before ≡ vec_len s.output - s.written
      → after ≡ vec_len t.output - t.written → after ≢ before → TookSome n (cores v.items) (cores (slice_set v.items p t))
  took_at put out before after was left ne = record {
    before = core s;
    after = core t;
    was = core_before;
    is = core_after;
    less = less_by put (unwritten_of s) (unwritten_of t) out (λ e. ne (omega (
      arith,
      e,
      was,
      left,
      length-drop s.written s.output.items,
      length-drop t.written t.output.items,
      s.output.ok.0,
      t.output.ok.0,
    )));
  }
