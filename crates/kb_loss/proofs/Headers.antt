-- A file whose bytes go on has the header that it had.
use Rattle.std.proofs.Common.{◌≡◌, ◌∙◌, ◌≤◌, ◌<◌, ◌+◌, ◌++◌, ℕ, Bool, true, false, cond, List, [], length, take, drop, Option, Some, None, Ok, Err, sym, ap, refl, arith}
use Rattle.std.specs.Prelude.{◌&&◌, ◌==◌, IsSome, unwrap_or, nat_le}
use Rattle.std.specs.Int.{w32}
use Rattle.std.specs.FinMap.{get}
use Rattle.std.proofs.lemmas.Bool.{false≢true}
use Rattle.std.proofs.lemmas.Bool.Decides.{nat_tests}
use Rattle.std.proofs.lemmas.List.{take-append-le, drop-append-le, length-take}
use Rattle.std.proofs.lemmas.Option.{none-some}
use Rattle.kb_batch.specs.Batch.{is_natural}
use Rattle.kb_batch.specs.BatchLaws.{both_true}
use Rattle.kb_batch.specs.Crc.{crc_of}
use Rattle.kb_batch.specs.Header.{number_at}
use Rattle.kb_store.specs.Disk.{Files}
use Rattle.kb_segment.specs.Header.{Header, header_in, header_of, header_with, is_legal, is_readable, is_sealed, said_read, said_size}
use Rattle.kb_segment_log.specs.SegmentLog.{bytes_at}
use Rattle.kb_segment_log.specs.Chain.{Part, base_said, behind_header}
use Rattle.kb_segment_log.proofs.Fronts.{header_stays}
use Rattle.kb_loss.specs.Fronts.{IsFrontOf}
use Rattle.kb_loss.specs.Chains.{GoesOn}
use Rattle.kb_opening.specs.Owners.{passes, says}

is_le : (n m : ℕ) → nat_le n m ≡ true → n ≤ m
is_le n m e = grind (arith, nat_tests, e)

some_same : (x y : Header) → Some x ≡ Some y → x ≡ y
some_same x y e = cc

cond_both : (b : Bool) (x h : Header) → cond b (Some x) None ≡ Some h → (b ≡ true) × (x ≡ h)
cond_both true x h e = (refl, some_same x h e)
cond_both false x h e = absurd (none-some h e)

-- a readable header has a byte, and stands in its bytes
pub header_size : (bytes : List ℕ) (h : Header) → header_in bytes ≡ Some h → (h.size ≤ length bytes) × (0 < h.size)
unfolding header_in
header_size bytes h =
    let s = take 106 bytes in
    elim (said_read s) as (λ r. header_of s r ≡ Some h → (h.size ≤ length bytes) × (0 < h.size)) [
      | Ok x ↦ λ e.
          let read = cond_both (is_readable x.0.0 x.0.1 s) (header_with x.0.0 x.0.1) h e in
          let parts = both_true (is_natural 1262637895 x.0.0.magic && is_legal (header_with x.0.0 x.0.1)) (is_sealed (said_size x.0.0) s) read.0 in
          let sealed = both_true (nat_le (said_size x.0.0 + 4) (length s)) (number_at w32 (said_size x.0.0) s == crc_of (take (said_size x.0.0) s)) parts.1 in
          let long : said_size x.0.0 + 4 ≤ length s = is_le (said_size x.0.0 + 4) (length s) sealed.0 in
          let size : said_size x.0.0 + 4 ≡ h.size = ap (λ (k : Header). k.size) read.1 in
          (omega (arith, long, size, length-take 106 bytes), omega (arith, size))
      | Err fault ↦ λ e. absurd (none-some h e)
    ]

some_header : (o : Option Header) → IsSome o → (h : Header) × (o ≡ Some h)
some_header None s = absurd (false≢true s)
some_header (Some h) s = (h, refl)

-- where bytes go on from a readable header it is read
pub header_on : (old new : List ℕ) (h : Header) → IsFrontOf old new → header_in old ≡ Some h → header_in new ≡ Some h
header_on old new h on e =
    let size = header_size old h e in
    header_stays old new h e (ap (take h.size) on.split ∙ take-append-le h.size old on.rest size.0)

abbrev part_of : List ℕ → Part
part_of bytes = record { base = base_said (header_in bytes); body = behind_header (header_in bytes) bytes }

pub part_on : (old new : List ℕ) (h : Header) → IsFrontOf old new → header_in old ≡ Some h → GoesOn (part_of old) (part_of new)
part_on old new h on e =
    let again = header_on old new h on e in
    let size = header_size old h e in
    record {
      base = ap base_said again ∙ sym (ap base_said e);
      body = record {
        rest = on.rest;
        split = ap (λ o. behind_header o new) again ∙ ap (drop h.size) on.split ∙ drop-append-le h.size old on.rest size.0 ∙ sym (ap (λ o. behind_header o old ++ on.rest) e);
      };
    }

-- a file that is not there has none
none_read : (o : Option Header) → ((h : Header) → o ≡ Some h → ⊥) → o ≡ None
none_read None f = refl
none_read (Some h) f = absurd (f h refl)

pub nothing_said : (files : Files) (test : Header → Bool) (n : ℕ) → get files n ≡ None → says files test n ≡ true → ⊥
nothing_said files test n e said =
    let none : header_in (bytes_at files n) ≡ None = ap (λ o. header_in (unwrap_or o [])) e ∙ none_read (header_in []) (λ h is. let size = header_size [] h is in omega (arith, size.0, size.1)) in
    false≢true (sym (ap (passes test) none) ∙ said)

-- one that passes a test has a readable header
pub said_header : (files : Files) (test : Header → Bool) (n : ℕ) → says files test n ≡ true → (h : Header) × (header_in (bytes_at files n) ≡ Some h)
said_header files test n said = by (header_in (bytes_at files n)) refl said
  where
    by : (o : Option Header) → header_in (bytes_at files n) ≡ o → passes test o ≡ true → (h : Header) × (header_in (bytes_at files n) ≡ Some h)
    by None is said = absurd (false≢true said)
    by (Some h) is said = (h, is)

pub readable_header : (files : Files) (n : ℕ) → IsSome (header_in (bytes_at files n)) → (h : Header) × (header_in (bytes_at files n) ≡ Some h)
readable_header files n some = some_header (header_in (bytes_at files n)) some
