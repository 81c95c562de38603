-- What a call that makes a topic makes of the catalog, and when it may be made.
use Rattle.std.proofs.Common.{◌≡◌, ◌<◌, ◌≤◌, ◌≤ℤ◌, ◌-◌, ◌^◌, ℕ, ℤ, pos, negsuc, nat_le, Bool, true, false, List, length, Option, Some, None, is_some, not, ◌&&◌, refl, arith}
use Rattle.std.proofs.lemmas.Bool.Decides.{nat_tests}
use Rattle.std.proofs.lemmas.Int.{ints}
use Rattle.std.specs.Prelude.{if◌then◌else◌}
use Rattle.kb_batch.specs.Batch.{natural}
use Rattle.kb_topics.specs.Commands.{create_command}
use Rattle.kb_topics.specs.Known.{Known, may_create, new_topic, with_topic, is_partition_count, is_limit, named, step}
use Rattle.kb_topics.specs.Name.{is_legal}
use Rattle.kb_topics.specs.Refusals.{create_refusal}
use Rattle.kb_topics.specs.declared.command.CreateTopic.{CreateTopic}
use Rattle.kb_topics.specs.declared.config.TopicConfig.{TopicConfig}
use Rattle.kb_topics.specs.declared.fault.CatalogFault.{CatalogFault}
use Rattle.kb_topics.specs.declared.fault.CatalogFault.TheVariants as faults

made_by : {A : Type 0} (t : Bool) (x y : A) → (if t then Some x else None) ≡ Some y → y ≡ x
made_by true x y e = let is : Some x ≡ Some y = e in cc
made_by false x y e = absurd cc

pub created : (old new : Known) (name : List ℕ) (partitions : ℤ) (config : TopicConfig) → step old (create_command old name partitions config) ≡ Some new → new ≡ with_topic old (new_topic name (natural partitions) config)
created old new name partitions config e =
    let c : CreateTopic = record { name = name; instance = pos old.creates; partitions = partitions; retention_ms = config.retention_ms; retention_bytes = config.retention_bytes } in
    made_by (may_create old c) (with_topic old (new_topic name (natural partitions) config)) new e

-- a test that was passed, and those behind it
passed : (t : Bool) (f : CatalogFault) (rest : Option CatalogFault) → (if t then Some f else rest) ≡ None → (t ≡ false) × (rest ≡ None)
passed true f rest e = absurd cc
passed false f rest e = (refl, e)

-- the number of partitions and the number of topics that were made are in range
pub record IsRoom (creates : ℕ) (partitions : ℤ) : Type 0 where
  pub some : pos 1 ≤ℤ partitions
  pub few : natural partitions ≤ 64
  pub left : creates < 2 ^ 63 - 1

in_range : (z : ℤ) → not (is_partition_count z) ≡ false → (pos 1 ≤ℤ z) × (natural z ≤ 64)
in_range (pos n) e = (grind (arith, ints, nat_tests), grind (arith, ints, nat_tests))
in_range (negsuc n) e = absurd (grind (arith, ints, nat_tests))

below_end : (n : ℕ) → nat_le (2 ^ 63 - 1) n ≡ false → n < 2 ^ 63 - 1
below_end n e = grind (arith, nat_tests)

pub room : (k : Known) (name : List ℕ) (partitions : ℤ) (config : TopicConfig) → create_refusal k name partitions config ≡ None → IsRoom k.creates partitions
room k name partitions config e =
    let full : Option CatalogFault = if nat_le (2 ^ 63 - 1) k.creates then Some faults.Full else None in
    let many : Option CatalogFault = if nat_le 1000 (length k.topics) then Some faults.TooMany else full in
    let limit : Option CatalogFault = if not (is_limit config.retention_ms && is_limit config.retention_bytes) then Some faults.Limit else many in
    let count : Option CatalogFault = if not (is_partition_count partitions) then Some faults.Partitions else limit in
    let exists : Option CatalogFault = if is_some (named name k.topics) then Some faults.Exists else count in
    let a = passed (not (is_legal name)) faults.Name exists e in
    let b = passed (is_some (named name k.topics)) faults.Exists count a.1 in
    let c = passed (not (is_partition_count partitions)) faults.Partitions limit b.1 in
    let d = passed (not (is_limit config.retention_ms && is_limit config.retention_bytes)) faults.Limit many c.1 in
    let f = passed (nat_le 1000 (length k.topics)) faults.TooMany full d.1 in
    let g = passed (nat_le (2 ^ 63 - 1) k.creates) faults.Full None f.1 in
    let r = in_range partitions c.0 in
    record { some = r.0; few = r.1; left = below_end k.creates g.0 }
