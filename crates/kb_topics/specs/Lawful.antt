-- The spelling of commands keeps the laws of a codec.
use Rattle.std.proofs.Common.{◌≡◌, ◌∙◌, ℕ, zero, suc, List, [], ◌++◌, Option, Some, None, Ok, refl, sym, ap, subst, append_assoc}
use Rattle.std.specs.Prelude.{ℤ, pos, negsuc}
use Rattle.kb_wire.specs.declared.fault.WireFault.TheVariants.{Short, Bad}
use Rattle.kb_wire.specs.Codec.{Codec, int8}
use Rattle.kb_wire.specs.Laws.{IsLawful, int8_lawful, int32_lawful, int64_lawful, string_lawful, pair_lawful, via_lawful, bind_ok, map_err}
use Rattle.kb_wire.specs.Laws.{ok_is, bad_then, ends_then}
use Rattle.kb_topics.specs.declared.command.Command.{Command}
use Rattle.kb_topics.specs.declared.command.Command.TheVariants.{Create, Delete, Issue, Commit, Start, Snapshot, Topic, DeleteGroup}
use Rattle.kb_topics.specs.Layouts.{create_topic, commit_offset, move_start, begin_snapshot, within, nowhere, kinded, created, deleted}
use Rattle.kb_topics.specs.Layouts.{issued, committed, started, snapshotted, held, group_deleted, kind_of, of_kind, command_codec, written_back, FitsBack, InRangeBack}

pub create_topic_lawful : IsLawful create_topic
unfolding create_topic
create_topic_lawful = via_lawful _ _ (pair_lawful string_lawful
    (pair_lawful int64_lawful (pair_lawful int32_lawful (pair_lawful int64_lawful int64_lawful)))) (λ _. refl) (λ _. refl)

pub commit_offset_lawful : IsLawful commit_offset
unfolding commit_offset
commit_offset_lawful = via_lawful _ _ (pair_lawful string_lawful
    (pair_lawful int64_lawful (pair_lawful int32_lawful (pair_lawful int64_lawful string_lawful)))) (λ _. refl) (λ _. refl)

pub move_start_lawful : IsLawful move_start
unfolding move_start
move_start_lawful = via_lawful _ _ (pair_lawful int64_lawful (pair_lawful int32_lawful int64_lawful)) (λ _. refl) (λ _. refl)

pub begin_snapshot_lawful : IsLawful begin_snapshot
unfolding begin_snapshot
begin_snapshot_lawful = via_lawful _ _ (pair_lawful int32_lawful (pair_lawful int64_lawful int64_lawful)) (λ _. refl) (λ _. refl)

two_parts : (s a t b rest : List ℕ) → s ≡ a ++ t → t ≡ b ++ rest → s ≡ (a ++ b) ++ rest
two_parts s a t b rest e f = e ∙ ap (λ u. a ++ u) f ∙ sym (append_assoc a b rest)

again_back : {A : Type 0} (c : Codec A) → IsLawful c → (o : Option A) → InRangeBack c o → FitsBack c o → (a : A) × (o ≡ Some a)
    × c.Spells (written_back c o) a
again_back c l None r f = absurd f
again_back c l (Some a) r f = (a, refl, l.again a r f)

-- `back` undoes `there`, and nothing else comes back
pub within_lawful : {A B : Type 0} (there : A → B) (back : B → Option A) {c : Codec A} → IsLawful c → ((a : A) → back (there a) ≡ Some a)
    → ((v : B) (a : A) → back v ≡ Some a → there a ≡ v) → IsLawful (within there back c)
within_lawful {A} {B} there back {c} l forth only = record {
  found = λ s v rest e.
      let p = bind_ok (c.read s) (λ x. Ok (there x.0, x.1)) (v, rest) e in
      let f = l.found s p.0.0 p.0.1 p.1 in
      let made : B × List ℕ = (there p.0.0, p.0.1) in
      subst (λ (w : B × List ℕ). (x : List ℕ) × (s ≡ x ++ w.1) × (within there back c).Spells x w.0) (ok_is made (v, rest) p.2)
      (f.0, f.1, (p.0.0, forth p.0.0, f.2));
  only = λ x v rest h. rw (l.only x h.0 rest h.2, only v h.0 h.1) refl;
  bad = λ s t e. rw (l.bad s t (map_err (c.read s) (λ x. (there x.0, x.1)) Bad e)) refl;
  ends = λ s. let g = l.ends s in (g.0, λ e. g.1 (map_err (c.read (s ++ g.0)) (λ x. (there x.0, x.1)) Short e));
  again = λ v r f. again_back c l (back v) r f;
  fits = λ x v h. subst (λ o. FitsBack c o) (sym h.1) (l.fits x h.0 h.2);
  in_range = λ x v h. subst (λ o. InRangeBack c o) (sym h.1) (l.in_range x h.0 h.2);
}

pub nowhere_lawful : {A : Type 0} → IsLawful {A = A} nowhere
nowhere_lawful = record {
  found = λ s v rest e. absurd cc;
  only = λ x v rest h. absurd h;
  bad = λ s t e. refl;
  ends = λ s. ([], λ e. cc);
  again = λ v r f. absurd f;
  fits = λ x v h. absurd h;
  in_range = λ x v h. absurd h;
}

-- the codec of each kind spells values of that kind alone
pub kinded_lawful : {A : Type 0} (kind : A → ℤ) (parts : ℤ → Codec A) → ((k : ℤ) → IsLawful (parts k))
    → ((k : ℤ) (x : List ℕ) (v : A) → (parts k).Spells x v → kind v ≡ k) → IsLawful (kinded kind parts)
kinded_lawful {A} kind parts l own = record {
  found = λ s v rest e.
      let p = bind_ok (int8.read s) (λ k. (parts k.0).read k.1) (v, rest) e in
      let fa = int8_lawful.found s p.0.0 p.0.1 p.1 in
      let fb = (l p.0.0).found p.0.1 v rest p.2 in
      let same : p.0.0 ≡ kind v = sym (own p.0.0 fb.0 v fb.2) in (
        fa.0 ++ fb.0,
        two_parts s fa.0 p.0.1 fb.0 rest fa.1 fb.1,
        (fa.0, fb.0, refl {a = fa.0 ++ fb.0}, subst (λ k. int8.Spells fa.0 k) same fa.2, subst (λ k. (parts k).Spells fb.0 v) same fb.2),
      );
  only = λ s v rest h. rw (h.2, append_assoc, int8_lawful.only h.0 (kind v) (h.1 ++ rest) h.3) ((l (kind v)).only h.1 v rest h.4);
  bad = bad_then {B = A × List ℕ} int8 int8_lawful (λ k. (parts k.0).read k.1) (λ k rest t q. (l k).bad rest t q);
  ends = ends_then {B = A × List ℕ} int8 int8_lawful (λ k. (parts k.0).read k.1) (λ k rest. (l k).ends rest);
  again =
      λ v r f. (int8.written (kind v), (parts (kind v)).written v, refl, int8_lawful.again (kind v) r.0 f.0, (l (kind v)).again v r.1 f.1);
  fits = λ x v h. (int8_lawful.fits h.0 (kind v) h.3, (l (kind v)).fits h.1 v h.4);
  in_range = λ x v h. (int8_lawful.in_range h.0 (kind v) h.3, (l (kind v)).in_range h.1 v h.4);
}

created_only : (v : Command) (a : _) → created v ≡ Some a → Create a ≡ v
created_only (Create topic) a e = cc
created_only (Delete name) a e = absurd cc
created_only (Issue id) a e = absurd cc
created_only (Commit commit) a e = absurd cc
created_only (Start start) a e = absurd cc
created_only (Snapshot snapshot) a e = absurd cc
created_only (Topic topic) a e = absurd cc
created_only (DeleteGroup group) a e = absurd cc

deleted_only : (v : Command) (a : _) → deleted v ≡ Some a → Delete a ≡ v
deleted_only (Create topic) a e = absurd cc
deleted_only (Delete name) a e = cc
deleted_only (Issue id) a e = absurd cc
deleted_only (Commit commit) a e = absurd cc
deleted_only (Start start) a e = absurd cc
deleted_only (Snapshot snapshot) a e = absurd cc
deleted_only (Topic topic) a e = absurd cc
deleted_only (DeleteGroup group) a e = absurd cc

issued_only : (v : Command) (a : _) → issued v ≡ Some a → Issue a ≡ v
issued_only (Create topic) a e = absurd cc
issued_only (Delete name) a e = absurd cc
issued_only (Issue id) a e = cc
issued_only (Commit commit) a e = absurd cc
issued_only (Start start) a e = absurd cc
issued_only (Snapshot snapshot) a e = absurd cc
issued_only (Topic topic) a e = absurd cc
issued_only (DeleteGroup group) a e = absurd cc

committed_only : (v : Command) (a : _) → committed v ≡ Some a → Commit a ≡ v
committed_only (Create topic) a e = absurd cc
committed_only (Delete name) a e = absurd cc
committed_only (Issue id) a e = absurd cc
committed_only (Commit commit) a e = cc
committed_only (Start start) a e = absurd cc
committed_only (Snapshot snapshot) a e = absurd cc
committed_only (Topic topic) a e = absurd cc
committed_only (DeleteGroup group) a e = absurd cc

started_only : (v : Command) (a : _) → started v ≡ Some a → Start a ≡ v
started_only (Create topic) a e = absurd cc
started_only (Delete name) a e = absurd cc
started_only (Issue id) a e = absurd cc
started_only (Commit commit) a e = absurd cc
started_only (Start start) a e = cc
started_only (Snapshot snapshot) a e = absurd cc
started_only (Topic topic) a e = absurd cc
started_only (DeleteGroup group) a e = absurd cc

snapshotted_only : (v : Command) (a : _) → snapshotted v ≡ Some a → Snapshot a ≡ v
snapshotted_only (Create topic) a e = absurd cc
snapshotted_only (Delete name) a e = absurd cc
snapshotted_only (Issue id) a e = absurd cc
snapshotted_only (Commit commit) a e = absurd cc
snapshotted_only (Start start) a e = absurd cc
snapshotted_only (Snapshot snapshot) a e = cc
snapshotted_only (Topic topic) a e = absurd cc
snapshotted_only (DeleteGroup group) a e = absurd cc

held_only : (v : Command) (a : _) → held v ≡ Some a → Topic a ≡ v
held_only (Create topic) a e = absurd cc
held_only (Delete name) a e = absurd cc
held_only (Issue id) a e = absurd cc
held_only (Commit commit) a e = absurd cc
held_only (Start start) a e = absurd cc
held_only (Snapshot snapshot) a e = absurd cc
held_only (Topic topic) a e = cc
held_only (DeleteGroup group) a e = absurd cc

group_deleted_only : (v : Command) (a : _) → group_deleted v ≡ Some a → DeleteGroup a ≡ v
group_deleted_only (Create topic) a e = absurd cc
group_deleted_only (Delete name) a e = absurd cc
group_deleted_only (Issue id) a e = absurd cc
group_deleted_only (Commit commit) a e = absurd cc
group_deleted_only (Start start) a e = absurd cc
group_deleted_only (Snapshot snapshot) a e = absurd cc
group_deleted_only (Topic topic) a e = absurd cc
group_deleted_only (DeleteGroup group) a e = cc

of_kind_lawful : (k : ℤ) → IsLawful (of_kind k)
of_kind_lawful (pos zero) = nowhere_lawful
of_kind_lawful (pos (suc zero)) = within_lawful Create created create_topic_lawful (λ _. refl) created_only
of_kind_lawful (pos (suc (suc zero))) = within_lawful Delete deleted string_lawful (λ _. refl) deleted_only
of_kind_lawful (pos (suc (suc (suc zero)))) = within_lawful Issue issued int64_lawful (λ _. refl) issued_only
of_kind_lawful (pos (suc (suc (suc (suc zero))))) = within_lawful Commit committed commit_offset_lawful (λ _. refl) committed_only
of_kind_lawful (pos (suc (suc (suc (suc (suc zero)))))) = within_lawful Start started move_start_lawful (λ _. refl) started_only
of_kind_lawful (pos (suc (suc (suc (suc (suc (suc zero))))))) =
    within_lawful Snapshot snapshotted begin_snapshot_lawful (λ _. refl) snapshotted_only
of_kind_lawful (pos (suc (suc (suc (suc (suc (suc (suc zero)))))))) = within_lawful Topic held create_topic_lawful (λ _. refl) held_only
of_kind_lawful (pos (suc (suc (suc (suc (suc (suc (suc (suc zero))))))))) =
    within_lawful DeleteGroup group_deleted string_lawful (λ _. refl) group_deleted_only
of_kind_lawful (pos (suc (suc (suc (suc (suc (suc (suc (suc (suc n)))))))))) = nowhere_lawful
of_kind_lawful (negsuc n) = nowhere_lawful

own_kind : (k : ℤ) (x : List ℕ) (v : Command) → (of_kind k).Spells x v → kind_of v ≡ k
own_kind (pos zero) x v h = absurd h
own_kind (pos (suc zero)) x v h = ap kind_of (sym (created_only v h.0 h.1))
own_kind (pos (suc (suc zero))) x v h = ap kind_of (sym (deleted_only v h.0 h.1))
own_kind (pos (suc (suc (suc zero)))) x v h = ap kind_of (sym (issued_only v h.0 h.1))
own_kind (pos (suc (suc (suc (suc zero))))) x v h = ap kind_of (sym (committed_only v h.0 h.1))
own_kind (pos (suc (suc (suc (suc (suc zero)))))) x v h = ap kind_of (sym (started_only v h.0 h.1))
own_kind (pos (suc (suc (suc (suc (suc (suc zero))))))) x v h = ap kind_of (sym (snapshotted_only v h.0 h.1))
own_kind (pos (suc (suc (suc (suc (suc (suc (suc zero)))))))) x v h = ap kind_of (sym (held_only v h.0 h.1))
own_kind (pos (suc (suc (suc (suc (suc (suc (suc (suc zero))))))))) x v h = ap kind_of (sym (group_deleted_only v h.0 h.1))
own_kind (pos (suc (suc (suc (suc (suc (suc (suc (suc (suc n)))))))))) x v h = absurd h
own_kind (negsuc n) x v h = absurd h

pub command_lawful : IsLawful command_codec
unfolding command_codec
command_lawful = kinded_lawful kind_of of_kind of_kind_lawful own_kind
