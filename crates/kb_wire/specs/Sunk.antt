-- What a sink has, and what a put does to it.
use Rattle.std.specs.Prelude.{◌≡◌, ℕ, ◌+◌, ◌≤◌, List, ◌++◌, length, Result, Ok, Err, IsOk, IsErr, OnOk, OnErr}
use Rattle.std.specs.declared.alloc.AllocError.{AllocError}
use Rattle.std.proofs.Common.{sym, ◌∙◌, ap, append_assoc, length-append, arith, refl, []}
use Rattle.std.proofs.lemmas.List.{append-nil}
use Rattle.kb_wire.specs.Codec.{Codec}

-- the bytes that were written, and how many more take no memory
pub record Sunk : Type 0 where
  pub bytes : List ℕ
  pub room : ℕ

-- A put adds the bytes, or leaves the sink as it was. Within the room it succeeds, and takes no more of it than its bytes.
pub record Puts (old : Sunk) (bytes : List ℕ) (result : Result (Unit {0}) AllocError) (new : Sunk) : Type 0 where
  pub ok : OnOk result (new.bytes ≡ old.bytes ++ bytes)
  pub err : OnErr result (new ≡ old)
  pub succeeds : length bytes ≤ old.room → IsOk result
  pub room : OnOk result (old.room ≤ new.room + length bytes)

-- new begins with old
pub record Extends (old new : List ℕ) : Type 0 where
  pub more : List ℕ
  pub is : new ≡ old ++ more

-- Several puts, one after another: all of the bytes are added, or some front of them where one fails. Within the room they succeed, and
-- no more of it is taken than what was added.
pub record Adds (bytes : List ℕ) (fact : Type 0) (old : Sunk) (result : Result (Unit {0}) AllocError) (new : Sunk) : Type 0 where
  pub ok : OnOk result (new.bytes ≡ old.bytes ++ bytes)
  pub in_range : OnOk result fact
  pub kept : Extends old.bytes new.bytes
  pub succeeds : length bytes ≤ old.room → IsOk result
  pub room : old.room + length old.bytes ≤ new.room + length new.bytes

-- A layout's put adds the value's spelling.
abbrev pub Writes : {A : Type 0} → Codec A → Sunk → A → Result (Unit {0}) AllocError → Sunk → Type 0
Writes c old value result new = Adds (c.written value) (c.InRange value) old result new

pub extends_trans : (a b c : List ℕ) → Extends a b → Extends b c → Extends a c
extends_trans a b c p q = record { more = p.more ++ q.more; is = q.is ∙ ap (λ t. t ++ q.more) p.is ∙ append_assoc a p.more q.more }

-- one put alone
pub adds_put : {F : Type 0} (bytes : List ℕ) (s0 s1 : Sunk) (r : Result (Unit {0}) AllocError) → Puts s0 bytes r s1 → OnOk r F
    → Adds bytes F s0 r s1
adds_put bytes s0 s1 (Ok u) p f = record {
  ok = p.ok;
  in_range = f;
  kept = record { more = bytes; is = p.ok };
  succeeds = p.succeeds;
  room = omega (arith, p.room, ap length p.ok, length-append s0.bytes bytes);
}
adds_put bytes s0 s1 (Err e) p f = record {
  ok = tt;
  in_range = tt;
  kept = record { more = []; is = ap (λ s. s.bytes) p.err ∙ sym (append-nil s0.bytes) };
  succeeds = p.succeeds;
  room = rw p.err (omega arith);
}

-- some bytes, and then the others
pub adds_both : {F G : Type 0} {a b : List ℕ} {s0 s1 s2 : Sunk} {r : Result (Unit {0}) AllocError} → Adds a F s0 (Ok tt) s1
    → Adds b G s1 r s2 → Adds (a ++ b) (F × G) s0 r s2
adds_both {a = a} {b = b} {s0 = s0} {s1 = s1} {s2 = s2} {r = Ok u} p q = record {
  ok = q.ok ∙ ap (λ t. t ++ b) p.ok ∙ append_assoc s0.bytes a b;
  in_range = (p.in_range, q.in_range);
  kept = extends_trans s0.bytes s1.bytes s2.bytes p.kept q.kept;
  succeeds = λ fits. refl;
  room = omega (arith, p.room, q.room);
}
adds_both {a = a} {b = b} {s0 = s0} {s1 = s1} {s2 = s2} {r = Err e} p q = record {
  ok = tt;
  in_range = tt;
  kept = extends_trans s0.bytes s1.bytes s2.bytes p.kept q.kept;
  succeeds = λ fits. q.succeeds (omega (arith, p.room, fits, ap length p.ok, length-append s0.bytes a, length-append a b));
  room = omega (arith, p.room, q.room);
}

-- the others are left out where the first fail
pub adds_stop : {F G : Type 0} {a : List ℕ} {s0 s1 : Sunk} {e : AllocError} {r : Result (Unit {0}) AllocError} (b : List ℕ)
    → Adds a F s0 (Err e) s1 → IsErr r → Adds (a ++ b) (F × G) s0 r s1
adds_stop {r = Ok u} b p failed = absurd cc
adds_stop {a = a} {r = Err d} b p failed = record {
  ok = tt;
  in_range = tt;
  kept = p.kept;
  succeeds = λ fits. p.succeeds (omega (arith, fits, length-append a b));
  room = p.room;
}
