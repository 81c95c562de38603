-- A log stays sound where the files stay as they are.
use Rattle.std.proofs.Common.{◌≡◌, ℕ, sym, subst}
use Rattle.kb_store.specs.Disk.{Disk, Table, Keeps}
use Rattle.kb_log.specs.OnShelf.{Log}

pub still_sound : (l : Log) (d e : Disk) (m n : ℕ) → Keeps d e → n ≡ m → l.sound d.table m → l.sound e.table n
still_sound l d e m n k same sound = subst (λ (t : Table). l.sound t n) (sym k.table) (subst (λ (x : ℕ). l.sound d.table x) (sym same) sound)
