-- What is read of what is kept, as far as a loop over it has come.
use Rattle.std.proofs.Common.{◌≡◌, ◌∙◌, ◌≤◌, ◌<◌, ◌+◌, ◌-◌, ◌++◌, ◌==◌, ℕ, zero, suc, true, false, cond, List, [], ◌∷◌, length, take, refl, sym, ap, arith, append_assoc, eq-eqb}
use Rattle.std.proofs.lemmas.Bool.{ne_eqb}
use Rattle.std.proofs.lemmas.List.{append-nil, length-append, length-take, take_all, take_at}
use Rattle.kb_cache.specs.Kept.{Entry, cached_at, is_kept, prepended, reads, used}

reads_none : (k : ℕ) (es : List Entry) (file at n : ℕ) → n ≡ 0 → reads k es file at n ≡ ([], es)
reads_none zero es file at n none = refl
reads_none (suc k) es file at n none =
    let b = take n (cached_at es file at) in
    ap (λ c. cond c ([], es) (prepended b (used es file at) (reads k (used es file at) file (at + length b) (n - length b)))) (eq-eqb n 0 none)

joined_same : (b : List ℕ) (es : List Entry) (x y : List ℕ × List Entry) → (0 < length b → x ≡ y) → prepended b es x ≡ prepended b es y
joined_same [] es x y same = refl
joined_same (c ∷ b) es x y same = ap (λ r. prepended (c ∷ b) es r) (same (omega arith))

joined_none : (b : List ℕ) (es : List Entry) (r : List ℕ × List Entry) → length b ≡ 0 → prepended b es r ≡ ([], es)
joined_none [] es r none = refl
joined_none (x ∷ b) es r none = absurd (omega (arith, none))

joined_some : (b : List ℕ) (es : List Entry) (r : List ℕ × List Entry) → 0 < length b → prepended b es r ≡ (b ++ r.0, r.1)
joined_some [] es r some = absurd (omega (arith, some))
joined_some (x ∷ b) es r some = refl

-- more steps than there are bytes to read change nothing
reads_same : (k m : ℕ) (es : List Entry) (file at n : ℕ) → n ≤ k → n ≤ m → reads k es file at n ≡ reads m es file at n
reads_same zero m es file at n l h = sym (reads_none m es file at n (omega (arith, l)))
reads_same (suc k) zero es file at n l h = reads_none (suc k) es file at n (omega (arith, h))
reads_same (suc k) (suc m) es file at n l h =
    let b = take n (cached_at es file at) in
    let next = used es file at in
    ap (λ r. cond (n == 0) ([], es) r) (joined_same b next (reads k next file (at + length b) (n - length b)) (reads m next file (at + length b) (n - length b))
    (λ some. reads_same k m next file (at + length b) (n - length b) (omega (arith, l, some)) (omega (arith, h, some))))

reads_some : (es : List Entry) (file at n : ℕ) → 0 < n → (b : List ℕ) → b ≡ take n (cached_at es file at)
    → reads n es file at n ≡ prepended b (used es file at) (reads (n - length b) (used es file at) file (at + length b) (n - length b))
reads_some es file at zero some b is = absurd (omega (arith, some))
reads_some es file at (suc n) some b is =
    let found_here = take (suc n) (cached_at es file at) in
    let next = used es file at in
    ap (λ c. cond c ([], es) (prepended found_here next (reads n next file (at + length found_here) (suc n - length found_here)))) (ne_eqb (suc n) 0 (λ e. absurd (omega (arith, e))))
    ∙ ap (λ x. prepended x next (reads n next file (at + length x) (suc n - length x))) (sym is)
    ∙ joined_same b next (reads n next file (at + length b) (suc n - length b)) (reads (suc n - length b) next file (at + length b) (suc n - length b))
    (λ more. reads_same n (suc n - length b) next file (at + length b) (suc n - length b) (omega (arith, more)) (omega arith))

-- Of n bytes so many have been read, and the entries are as far.
pub record Filling (first : List Entry) (file at n : ℕ) (es : List Entry) (done : ℕ) (buffer : List ℕ) : Type 0 where
  pub within : done ≤ n
  pub bytes : (reads n first file at n).0 ≡ take done buffer ++ (reads (n - done) es file (at + done) (n - done)).0
  pub entries : (reads n first file at n).1 ≡ (reads (n - done) es file (at + done) (n - done)).1

pub filling_none : (es : List Entry) (file at n : ℕ) (buffer : List ℕ) → Filling es file at n es 0 buffer
filling_none es file at n buffer =
    let begins : reads n es file at n ≡ reads (n - 0) es file (at + 0) (n - 0) = (let l : n ≡ n - 0 = omega arith in let a : at ≡ at + 0 = omega arith in λ i. reads (l i) es file (a i) (l i)) in
    record { within = omega arith; bytes = ap (λ r. r.0) begins; entries = ap (λ r. r.1) begins }

module _ (first : List Entry) (file at n : ℕ) (es next : List Entry) (done : ℕ) (buffer b : List ℕ) (is : Filling first file at n es done buffer)
    (less : done < n) (here : b ≡ take (n - done) (cached_at es file (at + done))) (then : next ≡ used es file (at + done)) where
  step : reads (n - done) es file (at + done) (n - done) ≡ prepended b next (reads (n - done - length b) next file (at + done + length b) (n - done - length b))
  step = reads_some es file (at + done) (n - done) (omega (arith, less)) b here
      ∙ ap (λ x. prepended b x (reads (n - done - length b) x file (at + done + length b) (n - done - length b))) (sym then)

  short : length b ≤ n - done
  short = omega (arith, ap length here, length-take (n - done) (cached_at es file (at + done)))

  more : 0 < length b → reads (n - done) es file (at + done) (n - done)
      ≡ (b ++ (reads (n - (done + length b)) next file (at + (done + length b)) (n - (done + length b))).0, (reads (n - (done + length b)) next file (at + (done + length b)) (n - (done + length b))).1)
  more some =
      let left : n - done - length b ≡ n - (done + length b) = omega arith in
      let place : at + done + length b ≡ at + (done + length b) = omega arith in
      step ∙ (λ i. prepended b next (reads (left i) next file (place i) (left i)))
      ∙ joined_some b next (reads (n - (done + length b)) next file (at + (done + length b)) (n - (done + length b))) some

  pub filling_more : (buffer' rest : List ℕ) → 0 < length b → done ≤ length buffer → buffer' ≡ take done buffer ++ (b ++ rest) → Filling first file at n next (done + length b) buffer'
  filling_more buffer' rest some room new =
      let size : length (take done buffer ++ b) ≡ done + length b = omega (arith, length-append (take done buffer) b, length-take done buffer, room) in
      let front : take (done + length b) buffer' ≡ take done buffer ++ b =
      ap (take (done + length b)) (new ∙ sym (append_assoc (take done buffer) b rest)) ∙ take_at (take done buffer ++ b) rest (done + length b) size in
      let left = (reads (n - (done + length b)) next file (at + (done + length b)) (n - (done + length b))).0 in
      record {
        within = omega (arith, short, less);
        bytes = is.bytes ∙ ap (λ r. take done buffer ++ r.0) (more some) ∙ sym (append_assoc (take done buffer) b left) ∙ sym (ap (λ r. r ++ left) front);
        entries = is.entries ∙ ap (λ r. r.1) (more some);
      }

  stops : length b ≡ 0 → reads (n - done) es file (at + done) (n - done) ≡ ([], next)
  stops none =
      step ∙ joined_none b next (reads (n - done - length b) next file (at + done + length b) (n - done - length b)) none

  pub stopped_entries : length b ≡ 0 → next ≡ (reads n first file at n).1
  stopped_entries none = sym (is.entries ∙ ap (λ r. r.1) (stops none))

  pub stopped_short : length b ≡ 0 → done ≤ length buffer → false ≡ is_kept first file at n
  stopped_short none room =
      let read : (reads n first file at n).0 ≡ take done buffer = is.bytes ∙ ap (λ r. take done buffer ++ r.0) (stops none) ∙ append-nil (take done buffer) in
      sym (ne_eqb (length (reads n first file at n).0) n (λ e. absurd (omega (arith, e, ap length read, length-take done buffer, less))))

module _ (first : List Entry) (file at n : ℕ) (es : List Entry) (done : ℕ) (buffer : List ℕ) (is : Filling first file at n es done buffer) (all : n ≤ done) where
  rest : reads (n - done) es file (at + done) (n - done) ≡ ([], es)
  rest = reads_none (n - done) es file (at + done) (n - done) (omega (arith, all))

  pub filled_bytes : length buffer ≡ n → buffer ≡ (reads n first file at n).0
  filled_bytes size = sym (is.bytes ∙ ap (λ r. take done buffer ++ r.0) rest ∙ append-nil (take done buffer) ∙ take_all done buffer (omega (arith, size, all)))

  pub filled_entries : es ≡ (reads n first file at n).1
  filled_entries = sym (is.entries ∙ ap (λ r. r.1) rest)

  pub filled_whole : length buffer ≡ n → true ≡ is_kept first file at n
  filled_whole size = sym (eq-eqb (length (reads n first file at n).0) n (sym (ap length (filled_bytes size)) ∙ size))

-- an entry that is long enough has what is asked for
pub kept_long : (es : List Entry) (file at n : ℕ) → 0 < n → n ≤ length (cached_at es file at) → is_kept es file at n ≡ true
kept_long es file at n some long =
    let b = take n (cached_at es file at) in
    let size : length b ≡ n = omega (arith, length-take n (cached_at es file at), long) in
    let next = used es file at in
    let r = reads (n - length b) next file (at + length b) (n - length b) in
    let none : r ≡ ([], next) = reads_none (n - length b) next file (at + length b) (n - length b) (omega (arith, size)) in
    let read : reads n es file at n ≡ (b ++ r.0, r.1) = reads_some es file at n some b refl
    ∙ joined_some b next r (omega (arith, size, some)) in
    eq-eqb (length (reads n es file at n).0) n (ap (λ x. length x.0) read ∙ ap (λ x. length (b ++ x.0)) none ∙ ap length (append-nil b) ∙ size)
