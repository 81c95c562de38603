-- What is known of a store says less, or more.
use Rattle.std.proofs.Common.{◌≡◌, ◌∙◌, Bool, true, false, Option, Some, None, IsSome, refl, subst, sym}
use Rattle.kb_store.specs.Disk.{Disk}
use Rattle.kb_store.specs.Loss.{Loss}
use Rattle.kb_node.specs.Commits.{holds_back}
use Rattle.kb_node.specs.Known.{hasty, lasting, silent, telling}
use Rattle.kb_node.specs.Traffic.{Commit, Deed, Event, Fail, Take}
use Rattle.kb_node.specs.declared.commits.Commits.{Commits}

-- where nothing is taken or committed, anything is known of that
pub from_silent : {S : Type 0} (known : Deed → S → Type 0) (d : Deed) (s : S) → silent d s → known d s
from_silent known d s none = absurd none

pub some_is_there : {X : Type 0} {o : Option X} {x : X} → o ≡ Some x → IsSome o
some_is_there {X} {o} {x} is = subst (λ (p : Option X). IsSome p) (sym is) refl

pub none_there : {X : Type 0} (o : Option X) → o ≡ None → IsSome o → ⊥
none_there {X} o is some = let none : IsSome {T = X} None = subst (λ p. IsSome p) is some in absurd cc

both : (b : Bool) → b ≡ true → b ≡ false → ⊥
both b is_on is_off = let same : true ≡ false = sym is_on ∙ is_off in cc

module _ {S : Type 0} (settled : S → Type 0) (disk : S → Disk) (loss : S → Loss) where
  pub telling_hasty : (c : Commits) (d : Deed) (s : S) → telling settled disk loss c d s → hasty d s
  telling_hasty c (Event e) s h = tt
  telling_hasty c (Take n bytes) s h = tt
  telling_hasty c Commit s h = absurd h
  telling_hasty c Fail s h = absurd h

  pub telling_lasting : (c k : Commits) → k.sync ≡ c.sync → (d : Deed) (s : S) → telling settled disk loss c d s → lasting settled disk loss k d s
  telling_lasting c k same (Event e) s h = tt
  telling_lasting c k same (Take n bytes) s h = λ waits. h (subst (λ sync. holds_back sync ≡ true) same waits)
  telling_lasting c k same Commit s h = absurd h
  telling_lasting c k same Fail s h = absurd h

  -- where no reply waits for a commit
  pub hasty_lasting : (k : Commits) → holds_back k.sync ≡ false → (d : Deed) (s : S) → hasty d s → lasting settled disk loss k d s
  hasty_lasting k none (Event e) s h = tt
  hasty_lasting k none (Take n bytes) s h = λ waits. absurd (both (holds_back k.sync) waits none)
  hasty_lasting k none Commit s h = absurd h
  hasty_lasting k none Fail s h = absurd h

  -- what was known goes on to be known, where a refusal does
  pub lasting_on : (c k : Commits) → k.sync ≡ c.sync → (IsSome c.fault → IsSome k.fault) → (d : Deed) (s : S) → lasting settled disk loss c d s
      → lasting settled disk loss k d s
  lasting_on c k same refused (Event e) s h = tt
  lasting_on c k same refused (Take n bytes) s h = λ waits. h (subst (λ sync. holds_back sync ≡ true) same waits)
  lasting_on c k same refused Commit s h = h
  lasting_on c k same refused Fail s h = refused h
