-- What a refused renewal left is no catalog.
use Rattle.std.proofs.Common.{◌≡◌, ◌∙◌, ◌<◌, ◌+◌, ◌++◌, ◌∷◌, [], ℕ, List, Some, length, sym, ap, subst, refl, arith, append_assoc, length-append}
use Rattle.std.specs.List.{Contains}
use Rattle.kb_store.specs.Disk.{Files}
use Rattle.kb_log.specs.OnShelf.{Identity}
use Rattle.kb_segment_log.specs.SegmentLog.{segment_log}
use Rattle.kb_segment_log.specs.declared.log.SegmentLog.{SegmentLog}
use Rattle.kb_topics.specs.Known.{Known}
use Rattle.kb_topics.specs.MetaLog.{SayEach}
use Rattle.kb_topics.specs.Reading.{in_use, read_all, starting_at}
use Rattle.kb_topics.specs.declared.command.Command.{Command}
use Rattle.kb_replay.proofs.Reading.{one_command}
use Rattle.kb_snapshot.specs.Renewal.{IsUnfinished}
use Rattle.kb_snapshot.specs.Snapshot.{snapshot_of}
use Rattle.kb_snapshot.proofs.Parted.{part_unread}
use Rattle.kb_opening.specs.Opened.{ComesToKnown, IsLongestFold}
use Rattle.kb_restart.proofs.PartComes.{IsHad, part_comes}

-- ---- the commands that batches record

record Said (xs ys : List (List ℕ)) (cs : List Command) : Type 0 where
  left : List Command
  right : List Command
  split : cs ≡ left ++ right
  said : SayEach xs left
  rest : SayEach ys right

said_split : (xs ys : List (List ℕ)) (cs : List Command) → SayEach (xs ++ ys) cs → Said xs ys cs
said_split [] ys cs s = record { left = []; right = cs; split = refl; said = tt; rest = s }
said_split (x ∷ xs) ys [] s = absurd s
said_split (x ∷ xs) ys (c ∷ cs) s =
    let r = said_split xs ys cs s.1 in
    record { left = c ∷ r.left; right = r.right; split = ap (λ es. c ∷ es) r.split; said = (s.0, r.said); rest = r.rest }

same_commands : (ss : List (List ℕ)) (cs ds : List Command) → SayEach ss cs → SayEach ss ds → cs ≡ ds
same_commands [] [] [] p q = refl
same_commands [] [] (d ∷ ds) p q = absurd q
same_commands [] (c ∷ cs) ds p q = absurd p
same_commands (s ∷ ss) [] ds p q = absurd p
same_commands (s ∷ ss) (c ∷ cs) [] p q = absurd q
same_commands (s ∷ ss) (c ∷ cs) (d ∷ ds) p q = ap (λ e. e ∷ cs) (one_command s c d p.0 q.0) ∙ ap (λ es. d ∷ es) (same_commands ss cs ds p.1 q.1)

-- ---- a part of a part

module _ {A : Type 0} where
  -- of two pieces of a list the first, and what stands behind it
  part_split : (before piece behind first more whole : List A) → piece ≡ first ++ more → before ++ (piece ++ behind) ≡ whole → before ++ (first ++ (more ++ behind)) ≡ whole
  part_split before piece behind first more whole two all =
      ap (λ xs. before ++ xs) (sym (append_assoc first more behind)) ∙ ap (λ xs. before ++ (xs ++ behind)) (sym two) ∙ all

  -- a piece of the front of a list, and what stands behind it
  front_split : (left first more rest front right whole : List A) → front ≡ left ++ right → right ≡ first ++ more → front ++ rest ≡ whole → left ++ (first ++ (more ++ rest)) ≡ whole
  front_split left first more rest front right whole two three all =
      part_split left right rest first more whole three (sym (append_assoc left right rest) ∙ ap (λ xs. xs ++ rest) (sym two) ∙ all)

-- a part of a list that records the front of a snapshot, short of its last commands, is no catalog in use
part_fold : (k j : Known) (front rest : List Command) → front ++ rest ≡ snapshot_of k → 0 < length rest → (list : List (List ℕ)) → SayEach list front → (before bs behind : List (List ℕ)) → before ++ (bs ++ behind) ≡ list
    → (generation : ℕ) → 0 < generation → IsLongestFold generation bs j → ⊥
part_fold k j front rest all short list said before bs behind is generation above f =
    let whole = part_split before bs behind f.before f.behind list f.split is in
    let two = said_split before (f.before ++ (f.behind ++ behind)) front (subst (λ ss. SayEach ss front) (sym whole) said) in
    let three = said_split f.before (f.behind ++ behind) two.right two.rest in
    let same : f.fold.commands ≡ three.left = same_commands f.before f.fold.commands three.left f.fold.said three.said in
    let read : read_all (starting_at generation) three.left ≡ Some (in_use j) = subst (λ cs. read_all (starting_at generation) cs ≡ Some (in_use j)) same f.fold.read in
    let many : length (three.right ++ rest) ≡ length three.right + length rest = length-append three.right rest in
    part_unread generation k j two.left three.left (three.right ++ rest) above (omega (arith, many, short)) (front_split two.left three.left three.right rest front two.right (snapshot_of k) two.split three.split all) read

-- ---- the files of an unfinished log

module _ (k : Known) (who : Identity) (l : SegmentLog) (files : Files) (u : IsUnfinished segment_log k who l files) (now : Files) where
  -- it had the file, which is as it was
  abbrev pub WasIts : ℕ → Type 0
  WasIts file = IsHad l u.table files u.next u.lengths u.sound u.agrees now file

  -- some of them come to no catalog in use
  pub not_whole : (numbers : List ℕ) → ((file : ℕ) → Contains numbers file → WasIts file) → (generation : ℕ) → 0 < generation → (j : Known) → ComesToKnown now numbers generation j → ⊥
  not_whole numbers each generation above j c =
      let part = part_comes l u.table files u.next u.lengths u.sound u.agrees now u.resumes numbers each c.commands c.chain in
      part_fold k j u.front u.rest u.split u.short ((segment_log l).batches files) u.said part.before c.commands part.behind part.split generation above c.known
