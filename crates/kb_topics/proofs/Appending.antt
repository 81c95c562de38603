-- What an append leaves, by what the log says of it.
use Rattle.std.proofs.Common.{◌≡◌, ◌∙◌, ◌≤◌, ◌+◌, ◌^◌, ◌↔◌, ℕ, suc, List, [], ◌∷◌, length, map, Result, Ok, Err, OnOk, OnErr, refl, sym, ap, subst, arith}
use Rattle.std.specs.Prelude.{ℤ, pos, IsErrOf}
use Rattle.kb_batch.specs.Batch.{IsBatch, count_of, records_of, stamped}
use Rattle.kb_batch.specs.Record.{view_of}
use Rattle.kb_batch.specs.Header.{base_timestamp_of}
use Rattle.kb_batch.specs.BatchLaws.{batch_long}
use Rattle.kb_log.specs.Log.{added}
use Rattle.kb_log.specs.OnShelf.{OnShelf, batches_of, WhereHonest, BlamesStore}
use Rattle.kb_log.specs.declared.fault.LogFault.{LogFault}
use Rattle.kb_log.specs.declared.fault.LogFault.TheVariants as log
use Rattle.kb_topics.specs.CatalogFault.{of_log}
use Rattle.kb_topics.specs.declared.command.Command.{Command}
use Rattle.kb_topics.specs.MetaLog.{Says}
use Rattle.kb_topics.specs.Calls.{Appended, Unchanged, IsLogCause}
use Rattle.kb_topics.proofs.Said.{says_stamped}

length_map : {A B : Type 0} (f : A → B) (xs : List A) → length (map f xs) ≡ length xs
length_map f [] = refl
length_map f (x ∷ xs) = ap suc (length_map f xs)

-- a batch that records a command has one record
pub says_counts : (s : List ℕ) (c : Command) → Says s c → count_of s ≡ 1
says_counts s c h = sym (length_map (view_of (base_timestamp_of s)) (records_of s)) ∙ ap length h.alone

pub unchanged_same : (a : OnShelf) → Unchanged a a
unchanged_same a = record { start = refl; end = refl; kept = λ h g. refl }

module _ (a b : OnShelf) (s : List ℕ) (c : Command) (r : Result ℤ LogFault)
    (batch : IsBatch s) (says : Says s c)
    (start : b.log.start ≡ a.log.start)
    (end : OnOk r (b.log.end ≡ a.log.end + count_of s))
    (end_err : OnErr r (b.log.end ≡ a.log.end))
    (added_ : OnOk r (WhereHonest a b (batches_of b ≡ added a.log.end s (batches_of a))))
    (kept : OnErr r (WhereHonest a b (batches_of b ≡ batches_of a)))
    (full : (r ≡ Err log.Full) ↔ (2 ^ 63 ≤ a.log.end + count_of s))
    (range : r ≡ Err log.Range → ⊥)
    (cause : BlamesStore a r b) where
  pub appended_ok : (x : ℤ) → r ≡ Ok x → Appended a b c
  appended_ok x e = record {
    start = start;
    room =
        let small : 2 ^ 63 ≤ a.log.end + count_of s → ⊥ = λ h. (let f : r ≡ Err log.Full = full.1 h in cc) in
        grind (arith, small, says_counts s c says);
    end = subst (λ q. OnOk q (b.log.end ≡ a.log.end + count_of s)) e end ∙ ap (λ n. a.log.end + n) (says_counts s c says);
    added = λ h g. (stamped (pos a.log.end) s, says_stamped (pos a.log.end) s c (let l = batch_long s batch in omega arith) says, subst (λ q. OnOk q (WhereHonest a b (batches_of b ≡ added a.log.end s (batches_of a)))) e added_ h g);
  }

  caused : (f : LogFault) → r ≡ Err f → IsLogCause a (of_log f) b
  caused log.Range e = absurd (range e)
  caused log.Full e = let h = full.0 e in omega (arith, h, says_counts s c says)
  caused log.Store e = λ h g. cause h g (store r e)
    where
      store : (q : Result ℤ LogFault) → q ≡ Err log.Store → IsErrOf q log.Store
      store q g = g
  caused log.Memory e = tt

  pub appended_err : (f : LogFault) → r ≡ Err f → IsLogCause a (of_log f) b × Unchanged a b
  appended_err f e = (
    caused f e,
    record {
      start = start;
      end = subst (λ q. OnErr q (b.log.end ≡ a.log.end)) e end_err;
      kept = subst (λ q. OnErr q (WhereHonest a b (batches_of b ≡ batches_of a))) e kept;
    },
  )
