-- Counting over items one after the other, as a loop does.
use Rattle.std.proofs.Common.{◌≡◌, ◌∙◌, ℕ, ◌-◌, ◌+◌, ◌<◌, ◌≤◌, List, [], ◌∷◌, ◌++◌, Ok, Err, ap, refl, sym, arith}
use Rattle.kb_wire.specs.Codec.{Codec, items}
use Rattle.kb_wire.specs.declared.fault.WireFault.{WireFault}
use Rattle.kb_wire.specs.declared.fault.ReadFault.TheVariants as faults
use Rattle.kb_wire.proofs.Loop.{ends, goes_on, is_done, starts, with_front}
use Rattle.kb_over_limit.specs.Coded.{Tallies, each}
use Rattle.kb_over_limit.specs.declared.tally.Tally.{Tally}

each_behind : {A : Type 0} (f : A → Tally → Tally) (xs : List A) (y : A) (t : Tally) → each f (xs ++ y ∷ []) t ≡ f y (each f xs t)
each_behind f [] y t = refl
each_behind f (x ∷ xs) y t = each_behind f xs y (f x t)

-- so many items were read, and that was made of the tally
pub record IsSoFar {A : Type 0} (c : Codec A) (f : A → Tally → Tally) (count : ℕ) (first : List ℕ) (old : Tally) (i : ℕ) (bytes : List ℕ) (new : Tally) : Type 0 where
  pub front : List A
  pub rest : with_front front ((items c).read (count - i) bytes) ≡ (items c).read count first
  pub so_far : new ≡ each f front old

module _ {A : Type 0} (c : Codec A) (f : A → Tally → Tally) (count : ℕ) (first : List ℕ) (old : Tally) where
  pub none_yet : IsSoFar c f count first old 0 first old
  none_yet =
      let whole : count - 0 ≡ count = omega arith in
      record { front = []; rest = rw whole (starts ((items c).read count first)); so_far = refl }

  pub one_more : (i : ℕ) (bytes after : List ℕ) (mid new : Tally) (u : Unit {0}) → i < count → IsSoFar c f count first old i bytes mid
      → Tallies (c.read bytes) f mid (Ok u) new after → IsSoFar c f count first old (i + 1) after new
  one_more i bytes after mid new u lt before (x, read, is) = record {
    front = before.front ++ x ∷ [];
    rest = goes_on c before.front count i bytes x after ((items c).read count first) lt read before.rest;
    so_far = is ∙ ap (f x) before.so_far ∙ sym (each_behind f before.front x old);
  }

  pub fault_ends : (i : ℕ) (bytes after : List ℕ) (mid : Tally) (e : WireFault) → i < count → IsSoFar c f count first old i bytes mid
      → c.read bytes ≡ Err e → (items c).read count first ≡ Err e
  fault_ends i bytes after mid e lt before read = ends c (faults.Wire e) before.front count i bytes after after ((items c).read count first) lt read before.rest

  pub all_counted : (i : ℕ) (bytes : List ℕ) (mid : Tally) (u : Unit {0}) → count ≤ i → IsSoFar c f count first old i bytes mid
      → Tallies ((items c).read count first) (each f) old (Ok u) mid bytes
  all_counted i bytes mid u le before = (before.front, is_done c before.front count i bytes ((items c).read count first) le before.rest, before.so_far)
