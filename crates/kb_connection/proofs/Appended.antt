-- A reply behind the output, piece by piece.
use Rattle.std.proofs.Common.{◌≡◌, ℕ, ◌<◌, ◌+◌, ◌^◌, ℤ, pos, Bool, true, List, ◌∷◌, length, length-append, sym, ◌++◌, Result, Ok, Err, OnOk, is_ok, if◌then◌else◌, append_assoc, ap, ◌∙◌, w32, to_z, of_z, FitsSigned, arith}
use Rattle.std.specs.Int.{to_be_bytes}
use Rattle.std.proofs.lemmas.Int.{to_z-of_z, of_z-to_z}
use Rattle.kb_wire.specs.Codec.{int, int32}
use Rattle.kb_tenant.specs.Replies.{framed, reply_size}
use Rattle.kb_isolation_spec.specs.declared.head.Head.{Head}
use Rattle.kb_isolation_spec.specs.Session.{throttled}

-- a size that fits an INT32
size_written : (n : ℕ) → n < 2 ^ 31 → to_be_bytes w32 (of_z w32 (to_z w32 n)) ≡ int32.written (pos n)
unfolding int
size_written n lt = ap (to_be_bytes w32) (of_z-to_z w32 n (omega arith))

number_written : (id : ℤ) → FitsSigned w32 id → to_be_bytes w32 (of_z w32 (to_z w32 (of_z w32 id))) ≡ int32.written id
unfolding int
number_written id fits = ap (λ x. to_be_bytes w32 (of_z w32 x)) (to_z-of_z w32 id fits)

joined : (old start size number throttle all a b time body : List ℕ) → start ≡ old → size ≡ start ++ a → number ≡ size ++ b → throttle ≡ number ++ time → all ≡ throttle ++ body → all ≡ old ++ (a ++ (b ++ (time ++ body)))
joined old start size number throttle all a b time body e f g t h = h ∙ ap (λ x. x ++ body) (t ∙ ap (λ x. x ++ time) (g ∙ ap (λ x. x ++ b) (f ∙ ap (λ x. x ++ a) e))) ∙ simp append_assoc

-- the size, the correlation id, the throttle time and the body, one after another
pub replied_behind : (id : ℤ) (whole body old start size number throttle all a b time : List ℕ) → FitsSigned w32 id → reply_size whole < 2 ^ 31 → time ++ body ≡ whole → start ≡ old → a ≡ to_be_bytes w32 (of_z w32 (to_z w32 (reply_size whole))) → size ≡ start ++ a → b ≡ to_be_bytes w32 (of_z w32 (to_z w32 (of_z w32 id))) → number ≡ size ++ b → throttle ≡ number ++ time → all ≡ throttle ++ body → all ≡ old ++ framed id whole
unfolding framed
replied_behind id whole body old start size number throttle all a b time fits lt stands e p f q g t h =
    joined old start size number throttle all a b time body e f g t h ∙ ap (λ x. old ++ (x ++ (b ++ (time ++ body)))) (p ∙ size_written (reply_size whole) lt) ∙ ap (λ x. old ++ (int32.written (pos (reply_size whole)) ++ (x ++ (time ++ body)))) (q ∙ number_written id fits)
    ∙ ap (λ x. old ++ (int32.written (pos (reply_size whole)) ++ (int32.written id ++ x))) stands

-- the size counts the throttle time and the body
pub size_of : (whole time body a : List ℕ) → time ++ body ≡ whole → a ≡ to_be_bytes w32 (of_z w32 (to_z w32 (4 + length time + length body))) → a ≡ to_be_bytes w32 (of_z w32 (to_z w32 (reply_size whole)))
size_of whole time body a stands is =
    let long = length-append time body in
    let same : 4 + length time + length body ≡ reply_size whole = omega (arith, long, ap length stands) in
    is ∙ ap (λ n. to_be_bytes w32 (of_z w32 (to_z w32 n))) same

-- a throttle time of 0 milliseconds stands in front
pub throttled-is : (head : Head) (body : List ℕ) → head.is_throttled ≡ true → 0 ∷ 0 ∷ 0 ∷ 0 ∷ body ≡ throttled head body
unfolding int
throttled-is head body e = sym (ap (λ (t : Bool). if t then int32.written (pos 0) ++ body else body) e)

-- a refused last step says nothing
pub if_added : {E : Type 0} (result : Result (Unit {0}) E) (all more kept goal : List ℕ) → all ≡ (if is_ok result then more else kept) → (all ≡ more → all ≡ goal) → OnOk result (all ≡ goal)
if_added (Ok u) all more kept goal is f = f is
if_added (Err e) all more kept goal is f = tt
