-- A backup is what there was.
use Rattle.std.proofs.Common.{◌≡◌, ◌∙◌, ◌++◌, ℕ, List, [], ◌∷◌, length, ap, refl, sym, subst}
use Rattle.std.specs.Prelude.{Option, Some, None, option_map, take, unwrap_or}
use Rattle.std.specs.Cmp.{nat_cmp_total}
use Rattle.std.specs.FinMap.{get, nat_cmp-IsAntisymmetric, same_map}
use Rattle.kb_store.specs.Disk.{Files, Table}
use Rattle.kb_segment_log.specs.SegmentLog.{bytes_at}
use Rattle.kb_topics.specs.Known.{Known}
use Rattle.kb_tenant_state.specs.Logs.{Logs}
use Rattle.kb_move.specs.Alike.{Opens}
use Rattle.kb_move.specs.Backup.{AreLengths, HaveGrown, IsBackup}

-- a front up to its length is it
up_to : (bytes more : List ℕ) → take (length bytes) (bytes ++ more) ≡ bytes
up_to [] more = refl
up_to (b ∷ bs) more = ap (λ xs. b ∷ xs) (up_to bs more)

file_backed_up : (moment later : Files) (lengths : Table) (file : ℕ) → AreLengths lengths moment → HaveGrown moment later
    → option_map (λ len. take len (bytes_at later file)) (get lengths file) ≡ get moment file
file_backed_up moment later lengths file are grown = by (get moment file) refl
  where
    by : (o : Option (List ℕ)) → get moment file ≡ o → option_map (λ len. take len (bytes_at later file)) (get lengths file) ≡ get moment file
    by None e = ap (option_map (λ len. take len (bytes_at later file))) (are file ∙ ap (option_map length) e) ∙ sym e
    by (Some bytes) e =
        let g = grown file bytes e in
        ap (option_map (λ len. take len (bytes_at later file))) (are file ∙ ap (option_map length) e)
        ∙ (ap (λ o. Some (take (length bytes) (unwrap_or o []))) g.1 ∙ (ap Some (up_to bytes g.0) ∙ sym e))

pub backed_up : (moment later backup : Files) (lengths : Table) → AreLengths lengths moment → HaveGrown moment later → IsBackup lengths later backup → backup ≡ moment
backed_up moment later backup lengths are grown is = same_map nat_cmp_total nat_cmp-IsAntisymmetric backup moment (λ file. is file ∙ file_backed_up moment later lengths file are grown)

pub opens_as_then : (moment later backup : Files) (lengths : Table) (name : List ℕ) (k : Known) (logs : Logs) → AreLengths lengths moment
    → HaveGrown moment later → IsBackup lengths later backup → Opens moment name k logs → Opens backup name k logs
opens_as_then moment later backup lengths name k logs are grown is opens = subst (λ f. Opens f name k logs) (sym (backed_up moment later backup lengths are grown is)) opens
