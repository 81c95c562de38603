-- How each command is spelled: its kind, an INT8, and the fields of that kind.
use Rattle.std.specs.Prelude.{◌≡◌, ℕ, zero, suc, ℤ, pos, List, [], ◌++◌, Option, Some, None, Ok, Err}
use Rattle.kb_wire.specs.declared.fault.WireFault.TheVariants.{Bad}
use Rattle.kb_wire.specs.Codec.{Codec, ◌>>=◌, int8, int32, int64, string, ◌⊗◌, via}
use Rattle.kb_topics.specs.declared.command.CreateTopic.{CreateTopic}
use Rattle.kb_topics.specs.declared.command.CommitOffset.{CommitOffset}
use Rattle.kb_topics.specs.declared.command.MoveStart.{MoveStart}
use Rattle.kb_topics.specs.declared.command.BeginSnapshot.{BeginSnapshot}
use Rattle.kb_topics.specs.declared.command.Command.{Command}
use Rattle.kb_topics.specs.declared.command.Command.TheVariants.{Create, Delete, Issue, Commit, Start, Snapshot, Topic, DeleteGroup}

unfoldable pub create_topic : Codec CreateTopic
create_topic = via (λ p. record {
  name = p.0;
  instance = p.1.0;
  partitions = p.1.1.0;
  retention_ms = p.1.1.1.0;
  retention_bytes = p.1.1.1.1;
}) (λ v. (v.name, (v.instance, (v.partitions, (v.retention_ms, v.retention_bytes)))))
    (string ⊗ int64 ⊗ int32 ⊗ int64 ⊗ int64)

unfoldable pub commit_offset : Codec CommitOffset
commit_offset = via (λ p. record { group = p.0; instance = p.1.0; partition = p.1.1.0; offset = p.1.1.1.0; metadata = p.1.1.1.1 }) (λ v.
    (v.group, (v.instance, (v.partition, (v.offset, v.metadata))))) (string ⊗ int64 ⊗ int32 ⊗ int64 ⊗ string)

unfoldable pub move_start : Codec MoveStart
move_start = via (λ p. record { instance = p.0; partition = p.1.0; offset = p.1.1 }) (λ v.
    (v.instance, (v.partition, v.offset))) (int64 ⊗ int32 ⊗ int64)

unfoldable pub begin_snapshot : Codec BeginSnapshot
begin_snapshot = via (λ p. record { count = p.0; instances = p.1.0; issues = p.1.1 }) (λ v.
    (v.count, (v.instances, v.issues))) (int32 ⊗ int64 ⊗ int64)

-- ---- kinds

-- What a codec spells, as values of another type, of which `back` picks those that are.
abbrev pub written_back : {A : Type 0} → Codec A → Option A → List ℕ
written_back c None = []
written_back c (Some v) = c.written v

abbrev pub FitsBack : {A : Type 0} → Codec A → Option A → Type 0
FitsBack c None = ⊥
FitsBack c (Some v) = c.Fits v

abbrev pub InRangeBack : {A : Type 0} → Codec A → Option A → Type 0
InRangeBack c None = Unit {0}
InRangeBack c (Some v) = c.InRange v

abbrev pub within : {A B : Type 0} → (A → B) → (B → Option A) → Codec A → Codec B
within {A} there back c = record {
  Spells = λ s v. (a : A) × (back v ≡ Some a) × c.Spells s a;
  read = λ s. c.read s >>= λ x. Ok (there x.0, x.1);
  written = λ v. written_back c (back v);
  Fits = λ v. FitsBack c (back v);
  InRange = λ v. InRangeBack c (back v);
}

-- no bytes spell a value
abbrev pub nowhere : {A : Type 0} → Codec A
nowhere = record {
  Spells = λ s v. ⊥;
  read = λ s. Err Bad;
  written = λ v. [];
  Fits = λ v. ⊥;
  InRange = λ v. Unit {0};
}

-- the kind of a value, an INT8, and then the value by the codec of its kind
abbrev pub kinded : {A : Type 0} → (A → ℤ) → (ℤ → Codec A) → Codec A
kinded kind of_kind = record {
  Spells = λ s v. (x y : List ℕ) × (s ≡ x ++ y) × int8.Spells x (kind v) × (of_kind (kind v)).Spells y v;
  read = λ s. int8.read s >>= λ k. (of_kind k.0).read k.1;
  written = λ v. int8.written (kind v) ++ (of_kind (kind v)).written v;
  Fits = λ v. int8.Fits (kind v) × (of_kind (kind v)).Fits v;
  InRange = λ v. int8.InRange (kind v) × (of_kind (kind v)).InRange v;
}

-- ---- commands

abbrev pub created : Command → Option CreateTopic
created (Create topic) = Some topic
created _ = None

abbrev pub deleted : Command → Option (List ℕ)
deleted (Delete name) = Some name
deleted _ = None

abbrev pub issued : Command → Option ℤ
issued (Issue id) = Some id
issued _ = None

abbrev pub committed : Command → Option CommitOffset
committed (Commit commit) = Some commit
committed _ = None

abbrev pub started : Command → Option MoveStart
started (Start start) = Some start
started _ = None

abbrev pub snapshotted : Command → Option BeginSnapshot
snapshotted (Snapshot snapshot) = Some snapshot
snapshotted _ = None

abbrev pub held : Command → Option CreateTopic
held (Topic topic) = Some topic
held _ = None

abbrev pub group_deleted : Command → Option (List ℕ)
group_deleted (DeleteGroup group) = Some group
group_deleted _ = None

abbrev pub kind_of : Command → ℤ
kind_of (Create topic) = pos 1
kind_of (Delete name) = pos 2
kind_of (Issue id) = pos 3
kind_of (Commit commit) = pos 4
kind_of (Start start) = pos 5
kind_of (Snapshot snapshot) = pos 6
kind_of (Topic topic) = pos 7
kind_of (DeleteGroup group) = pos 8

-- the fields of each kind
abbrev pub of_kind : ℤ → Codec Command
of_kind (pos (suc zero)) = within Create created create_topic
of_kind (pos (suc (suc zero))) = within Delete deleted string
of_kind (pos (suc (suc (suc zero)))) = within Issue issued int64
of_kind (pos (suc (suc (suc (suc zero))))) = within Commit committed commit_offset
of_kind (pos (suc (suc (suc (suc (suc zero)))))) = within Start started move_start
of_kind (pos (suc (suc (suc (suc (suc (suc zero))))))) = within Snapshot snapshotted begin_snapshot
of_kind (pos (suc (suc (suc (suc (suc (suc (suc zero)))))))) = within Topic held create_topic
of_kind (pos (suc (suc (suc (suc (suc (suc (suc (suc zero))))))))) = within DeleteGroup group_deleted string
of_kind _ = nowhere

unfoldable pub command_codec : Codec Command
command_codec = kinded kind_of of_kind
