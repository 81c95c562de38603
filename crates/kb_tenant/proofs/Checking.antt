-- A request of CreateTopics that is only checked is answered as one that makes its topics, where an instance is left for each.
use Rattle.std.proofs.Common.{◌≡◌, ◌∙◌, ℕ, ℤ, ◌+◌, ◌-◌, ◌<◌, ◌≤◌, ◌^◌, Bool, true, false, cond, List, [], ◌∷◌, ◌++◌, length, Option, Some, None, refl, sym, subst, ap, append_assoc, arith}
use Rattle.std.specs.Prelude.{pos, negsuc, ⊤, codes, is_some, nat_le, nat_lt, not, unwrap_or, ◌&&◌, if◌then◌else◌, Err}
use Rattle.std.specs.Option.{option_and_then}
use Rattle.std.specs.List.{count_by, sum_by}
use Rattle.std.specs.Ordering.{int_eq, nat_cmp, match_ordering, is_eq}
use Rattle.std.specs.declared.cmp.Ordering.{Ordering}
use Rattle.std.specs.declared.cmp.Ordering.TheVariants.{Less, Equal, Greater}
use Rattle.std.specs.BTreeMap.{insert_entry}
use Rattle.std.specs.Str.{bytes_eq}
use Rattle.std.specs.Str.Parse.{digits_value}
use Rattle.std.proofs.lemmas.List.{length-replicate}
use Rattle.std.proofs.lemmas.List.Sums.{sum_by-append, sum_by-cons}
use Rattle.std.proofs.lemmas.Slice.Eq.{bytes_eq-Decides}
use Rattle.kb_batch.specs.Batch.{natural}
use Rattle.kb_wire.specs.ErrorCode.{code_of}
use Rattle.kb_wire.specs.declared.error_code.ErrorCode.{ErrorCode}
use Rattle.kb_wire.specs.declared.error_code.ErrorCode.TheVariants as codes_of
use Rattle.kb_api_data.specs.declared.create_topics.CreateConfig.{CreateConfig}
use Rattle.kb_api_data.specs.declared.create_topics.CreateTopic.{CreateTopic}
use Rattle.kb_api_data.specs.declared.create_topics.CreateTopicsRequest.{CreateTopicsRequest}
use Rattle.kb_api_data.specs.declared.create_topics.CreateTopicReply.{CreateTopicReply}
use Rattle.kb_topics.specs.Config.{is_numeral, limit_in, number_in}
use Rattle.kb_topics.specs.Known.{TopicState, is_limit, is_partition_count, named, new_partition, new_topic, topic_at, with_topic}
use Rattle.kb_topics.specs.Name.{is_legal}
use Rattle.kb_topics.specs.Refusals.{create_refusal}
use Rattle.kb_topics.specs.declared.config.TopicConfig.{TopicConfig}
use Rattle.kb_topics.specs.declared.fault.CatalogFault.{CatalogFault}
use Rattle.kb_topics.specs.declared.fault.CatalogFault.TheVariants as faults
use Rattle.kb_tenant_state.specs.Calls.{created_unless}
use Rattle.kb_tenant_state.specs.Tied.{IsTied}
use Rattle.kb_tenant_state.specs.World.{World}
use Rattle.kb_tenant.specs.CreateTopics.{checked_all, checked_topic, checked_unless, checked_unless_full, checked_with, code_in}
use Rattle.kb_tenant.specs.CreateTopics.{created_all, created_topic, made, made_unless, made_unless_full, made_with, refusal, stands_twice}
use Rattle.kb_tenant.specs.CreateTopics.{is_too_much, room_behind, room_in}
use Rattle.kb_tenant.specs.Limits.{left_of}
use Rattle.kb_tenant_state.specs.Stored.{partitions_in}
use Rattle.kb_tenant.specs.declared.create_topics.room.Room.{Room}
use Rattle.kb_tenant.specs.declared.limits.DataLimits.{DataLimits}
use Rattle.kb_tenant.specs.Settings.{are_allowed, entry_named, limit_named, settings_in, settings_of}
use Rattle.kb_tenant.specs.Turns.{in_turn}
use Rattle.kb_tenant.proofs.Entries.{insert_other}
use Rattle.kb_topics.proofs.Names.{named_inserted}

-- ---- the settings that a topic may be given are limits

abbrev Limit : Option ℤ → Type 0
Limit None = ⊤
Limit (Some n) = is_limit n ≡ true

number_limit : (text : List ℕ) → Limit (number_in text)
number_limit text = by (nat_lt (digits_value 10 text) (2 ^ 63))
  where
    by : (b : Bool) → Limit (cond b (Some (pos (digits_value 10 text))) None)
    by true = refl
    by false = tt

limit_limit : (text : List ℕ) → Limit (limit_in text)
limit_limit text = by (bytes_eq text (codes "-1")) (is_numeral text) (number_limit text)
  where
    by : (b c : Bool) → Limit (number_in text) → Limit (cond b (Some (negsuc 0)) (cond c (number_in text) None))
    by true c h = refl
    by false true h = h
    by false false h = tt

or_default : (o : Option ℤ) (d : ℤ) → Limit o → is_limit d ≡ true → is_limit (unwrap_or o d) ≡ true
or_default None d h own = own
or_default (Some n) d h own = h

both : (a b : Bool) → a ≡ true → b ≡ true → (a && b) ≡ true
both true b p q = q
both false b p q = absurd cc

abbrev HasLimits : TopicConfig → Type 0
HasLimits config = (is_limit config.retention_ms && is_limit config.retention_bytes) ≡ true

named_limit : (name : List ℕ) (cs : List CreateConfig) → Limit (limit_named name cs)
named_limit name cs = by (entry_named name cs)
  where
    of_value : (value : Option (List ℕ)) → Limit (option_and_then limit_in value)
    of_value None = tt
    of_value (Some text) = limit_limit text

    by : (o : Option CreateConfig) → Limit (option_and_then (λ (c : CreateConfig). option_and_then limit_in c.value) o)
    by None = tt
    by (Some c) = of_value c.value

settings_limits : (cs : List CreateConfig) (config : TopicConfig) → settings_in cs ≡ Some config → HasLimits config
settings_limits cs config is = by (are_allowed cs) is
  where
    by : (b : Bool) → cond b (Some (settings_of cs)) None ≡ Some config → HasLimits config
    by false e = absurd cc
    by true e =
        let same : settings_of cs ≡ config = cc in
        let time = limit_named (codes "retention.ms") cs in
        let size = limit_named (codes "retention.bytes") cs in
        subst HasLimits same
        (both (is_limit (unwrap_or time (pos 604800000))) (is_limit (unwrap_or size (negsuc 0)))
        (or_default time (pos 604800000) (named_limit (codes "retention.ms") cs) refl)
        (or_default size (negsuc 0) (named_limit (codes "retention.bytes") cs) refl))

-- ---- one entry

abbrev HasNext : World → Type 0
HasNext w = (i : ℕ) → w.known.creates ≤ i → topic_at i w.known.topics ≡ None

-- What is foretold of a topic of that name is what making it comes to, and no other name is given by it.
record Foretells (limits : DataLimits) (v : World) (name : List ℕ) (r : Room × ℤ) (m : World × ℤ) : Type 0 where
  pub room : HasNext v → r.0 ≡ room_in limits m.0.known
  pub code : r.1 ≡ m.1
  pub creates : m.0.known.creates ≤ v.known.creates + 1
  pub next : HasNext v → HasNext m.0
  pub names : HasNext v → (other : List ℕ) → bytes_eq other name ≡ false → named other m.0.known.topics ≡ named other v.known.topics

nothing_made : (limits : DataLimits) (v : World) (name : List ℕ) (code : ℤ) → Foretells limits v name (room_in limits v.known, code) (v, code)
nothing_made limits v name code = record { room = λ h. refl; code = refl; creates = omega arith; next = λ h. h; names = λ h other apart. refl }

length_inserted : (ts : List (ℕ × TopicState)) (n : ℕ) (t : TopicState) → topic_at n ts ≡ None → length (insert_entry nat_cmp ts n t) ≡ length ts + 1
length_inserted [] n t none = refl
length_inserted (e ∷ ts) n t none = by (nat_cmp n e.0) none (length_inserted ts n t)
  where
    by : (o : Ordering) → cond (is_eq o) (Some e.1) (topic_at n ts) ≡ None → (topic_at n ts ≡ None → length (insert_entry nat_cmp ts n t) ≡ length ts + 1)
        → length (match_ordering {X = List (ℕ × TopicState)} o ((n, t) ∷ e ∷ ts) ((e.0, t) ∷ ts) (e ∷ insert_entry nat_cmp ts n t)) ≡ length (e ∷ ts) + 1
    by Less gone rest = omega arith
    by Equal gone rest = absurd cc
    by Greater gone rest = let h = rest gone in omega (arith, h)

sum_inserted : (size : ℕ × TopicState → ℕ) (ts : List (ℕ × TopicState)) (n : ℕ) (t : TopicState) → topic_at n ts ≡ None → sum_by size (insert_entry nat_cmp ts n t) ≡ sum_by size ts + size (n, t)
sum_inserted size [] n t none = let one = sum_by-cons size (n, t) [] in omega (arith, one)
sum_inserted size (e ∷ ts) n t none = by (nat_cmp n e.0) none (sum_inserted size ts n t)
  where
    by : (o : Ordering) → cond (is_eq o) (Some e.1) (topic_at n ts) ≡ None → (topic_at n ts ≡ None → sum_by size (insert_entry nat_cmp ts n t) ≡ sum_by size ts + size (n, t))
        → sum_by size (match_ordering {X = List (ℕ × TopicState)} o ((n, t) ∷ e ∷ ts) ((e.0, t) ∷ ts) (e ∷ insert_entry nat_cmp ts n t)) ≡ sum_by size (e ∷ ts) + size (n, t)
    by Less gone rest = let one = sum_by-cons size (n, t) (e ∷ ts) in omega (arith, one)
    by Equal gone rest = absurd cc
    by Greater gone rest =
        let h = rest gone in
        let new = sum_by-cons size e (insert_entry nat_cmp ts n t) in
        let old = sum_by-cons size e ts in
        omega (arith, h, new, old)

-- what is left of the chain of refusals where none holds
passed : (twice legal there count replica brokers : Bool)
    → (if twice then Some codes_of.InvalidRequest
    else (if not legal then Some codes_of.InvalidTopic
    else (if there then Some codes_of.TopicAlreadyExists
    else (if not count then Some codes_of.InvalidPartitions
    else (if not replica then Some codes_of.InvalidReplicationFactor
    else (if brokers then Some codes_of.InvalidReplicaAssignment else None)))))) ≡ None
    → (legal ≡ true) × (there ≡ false) × (count ≡ true)
passed true legal there count replica brokers e = absurd cc
passed false false there count replica brokers e = absurd cc
passed false true true count replica brokers e = absurd cc
passed false true false false replica brokers e = absurd cc
passed false true false true replica brokers e = (refl, refl, refl)

-- all that the catalog can still refuse a topic for
room_alone : (v : World) (t : CreateTopic) (twice : Bool) (config : TopicConfig) → refusal twice (is_some (named t.name v.known.topics)) t ≡ None → HasLimits config → v.known.creates < 2 ^ 63 - 1
    → create_refusal v.known t.name t.num_partitions config ≡ (if nat_le 1000 (length v.known.topics) then Some faults.TooMany else None)
room_alone v t twice config none limits left =
    let p = passed twice (is_legal t.name) (is_some (named t.name v.known.topics)) (is_partition_count t.num_partitions) (int_eq t.replication_factor (pos 1)) (nat_le 1 (length t.assignments)) none in
    let early : nat_le (2 ^ 63 - 1) v.known.creates ≡ false = grind (arith, left) in
    rw (p.0, p.1, p.2, limits, early) refl

-- 1,000 topics are refused whatever instances are left
pub made_past_all : (limits : DataLimits) (w : World) (t : CreateTopic) (twice there : Bool) (partitions : ℤ) (config : TopicConfig) (full : Bool) (code : ℤ) → there ≡ is_some (named t.name w.known.topics) → None ≡ refusal twice there t → Some config ≡ settings_in t.configs
    → partitions ≡ t.num_partitions → full ≡ is_too_much limits (room_in limits w.known) partitions → full ≡ false → 1000 ≤ length w.known.topics → code ≡ code_in (Err faults.TooMany) → (w, code) ≡ made limits twice w t
made_past_all limits w t twice there partitions config full code at is some many past under all here =
    let none : refusal twice (is_some (named t.name w.known.topics)) t ≡ None = sym (is ∙ ap (λ b. refusal twice b t) at) in
    let p = passed twice (is_legal t.name) (is_some (named t.name w.known.topics)) (is_partition_count t.num_partitions) (int_eq t.replication_factor (pos 1)) (nat_le 1 (length t.assignments)) none in
    let limited = settings_limits t.configs config (sym some) in
    let reached : nat_le 1000 (length w.known.topics) ≡ true = grind (arith, all) in
    let refused : create_refusal w.known t.name t.num_partitions config ≡ Some faults.TooMany = rw (p.0, p.1, p.2, limited, reached) refl in
    ap (λ z. (w, z)) here
    ∙ sym (ap (λ (o : Option CatalogFault). let m = created_unless w t.name t.num_partitions config o in (m.0, code_in m.1)) refused)
    ∙ ap (λ b. made_unless_full b w t config) (sym under ∙ past ∙ ap (is_too_much limits (room_in limits w.known)) many) ∙ ap (made_with limits w t) some ∙ ap (made_unless limits w t) (sym none)

-- the partitions of one topic more are counted
more_partitions : (v : World) (name : List ℕ) (count : ℕ) (config : TopicConfig) → HasNext v
    → partitions_in (with_topic v.known (new_topic name count config)) ≡ partitions_in v.known + count
more_partitions v name count config next =
    let t : TopicState = new_topic name count config in
    sum_inserted (λ (s : ℕ × TopicState). length s.1.partitions) v.known.topics v.known.creates t (next v.known.creates (omega arith))
    ∙ ap (λ n. partitions_in v.known + n) (length-replicate count new_partition)

left_twice : (o : Option ℕ) (a b n : ℕ) → n ≡ a + b → left_of (left_of o a) b ≡ left_of o n
left_twice None a b n is = refl
left_twice (Some limit) a b n is = ap Some (let e : (limit - a) - b ≡ limit - n = omega (arith, is) in e)

one_more : (limits : DataLimits) (v : World) (name : List ℕ) (partitions : ℤ) (config : TopicConfig) → HasNext v
    → let m = created_unless v name partitions config None in Foretells limits v name (room_behind (room_in limits v.known) partitions, code_of codes_of.None) (m.0, code_in m.1)
one_more limits v name partitions config next =
    let t : TopicState = new_topic name (natural partitions) config in
    let k = v.known.creates in
    record {
      room = λ h. ap (λ n. let r : Room = record { topics = n; partitions = left_of (left_of limits.partitions (partitions_in v.known)) (natural partitions) } in r) (sym (length_inserted v.known.topics k t (next k (omega arith))))
          ∙ ap (λ o. let r : Room = record { topics = length (with_topic v.known t).topics; partitions = o } in r)
          (left_twice limits.partitions (partitions_in v.known) (natural partitions) (partitions_in (with_topic v.known t)) (more_partitions v name (natural partitions) config next));
      code = refl;
      creates = omega arith;
      next = λ h i le. insert_other v.known.topics k i t (λ same. omega (arith, same, le)) ∙ h i (omega (arith, le));
      names = λ h other apart. named_inserted v.known.topics k t other (h k (omega arith)) apart;
    }

-- a topic that the tenant may not have, or may
foretold_by : (limits : DataLimits) (v : World) (t : CreateTopic) (twice : Bool) (config : TopicConfig) (full : Bool) → settings_in t.configs ≡ Some config → refusal twice (is_some (named t.name v.known.topics)) t ≡ None
    → HasNext v → v.known.creates < 2 ^ 63 - 1 → Foretells limits v t.name (checked_unless_full full (room_in limits v.known) t) (made_unless_full full v t config)
foretold_by limits v t twice config true is none next left = nothing_made limits v t.name (code_of codes_of.PolicyViolation)
foretold_by limits v t twice config false is none next left =
    let refused = room_alone v t twice config none (settings_limits t.configs config is) left in
    subst (λ (o : Option CatalogFault). let m = created_unless v t.name t.num_partitions config o in Foretells limits v t.name (checked_unless_full false (room_in limits v.known) t) (m.0, code_in m.1)) (sym refused)
    (by (nat_le 1000 (length v.known.topics)))
  where
    by : (b : Bool) → let m = created_unless v t.name t.num_partitions config (if b then Some faults.TooMany else None) in
        Foretells limits v t.name (if b then (room_in limits v.known, code_in (Err faults.TooMany)) else (room_behind (room_in limits v.known) t.num_partitions, code_of codes_of.None)) (m.0, code_in m.1)
    by true = nothing_made limits v t.name (code_in (Err faults.TooMany))
    by false = one_more limits v t.name t.num_partitions config next

foretold_with : (limits : DataLimits) (v : World) (t : CreateTopic) (twice : Bool) (o : Option TopicConfig) → settings_in t.configs ≡ o → refusal twice (is_some (named t.name v.known.topics)) t ≡ None
    → HasNext v → v.known.creates < 2 ^ 63 - 1 → Foretells limits v t.name (checked_with limits (room_in limits v.known) t o) (made_with limits v t o)
foretold_with limits v t twice None is none next left = nothing_made limits v t.name (code_of codes_of.InvalidConfig)
foretold_with limits v t twice (Some config) is none next left =
    foretold_by limits v t twice config (is_too_much limits (room_in limits v.known) t.num_partitions) is none next left

foretold : (limits : DataLimits) (v : World) (t : CreateTopic) (twice : Bool) (o : Option ErrorCode) → refusal twice (is_some (named t.name v.known.topics)) t ≡ o
    → HasNext v → v.known.creates < 2 ^ 63 - 1 → Foretells limits v t.name (checked_unless limits (room_in limits v.known) t o) (made_unless limits v t o)
foretold limits v t twice (Some e) is next left = nothing_made limits v t.name (code_of e)
foretold limits v t twice None is next left = foretold_with limits v t twice (settings_in t.configs) refl is next left

-- ---- the entries of a request

abbrev is_named : List ℕ → CreateTopic → Bool
is_named name t = bytes_eq name t.name

abbrev times : List ℕ → List CreateTopic → ℕ
times name ts = count_by (is_named name) ts

times_both : (name : List ℕ) (xs ys : List CreateTopic) → times name (xs ++ ys) ≡ times name xs + times name ys
times_both name xs ys = sum_by-append (λ t. cond (is_named name t) 1 0) xs ys

times_cons : (name : List ℕ) (t : CreateTopic) (ts : List CreateTopic) → times name (t ∷ ts) ≡ cond (is_named name t) 1 0 + times name ts
times_cons name t ts = sum_by-cons (λ x. cond (is_named name x) 1 0) t ts

own_name : (name : List ℕ) → bytes_eq name name ≡ true
own_name name = (bytes_eq-Decides name name).1 refl

-- a name that does not stand twice does not stand before
not_before : (ts done es : List CreateTopic) (t : CreateTopic) → ts ≡ done ++ t ∷ es → stands_twice t.name ts ≡ false → times t.name done ≡ 0
not_before ts done es t split once =
    let all : times t.name ts ≡ times t.name done + times t.name (t ∷ es) = ap (times t.name) split ∙ times_both t.name done (t ∷ es) in
    let here : times t.name (t ∷ es) ≡ 1 + times t.name es = times_cons t.name t es ∙ ap (λ b. cond b 1 0 + times t.name es) (own_name t.name) in
    grind (arith, all, here, once)

-- a name that stands in none of them, nor in one more
not_among : (name : List ℕ) (done : List CreateTopic) (t : CreateTopic) → times name (done ++ t ∷ []) ≡ 0 → (times name done ≡ 0) × (bytes_eq name t.name ≡ false)
not_among name done t none =
    let all = sym (times_both name done (t ∷ [])) ∙ none in
    let last = times_cons name t [] in
    (omega (arith, all), by (bytes_eq name t.name) (omega (arith, all, last)))
  where
    by : (b : Bool) → cond {A = ℕ} b 1 0 ≡ 0 → b ≡ false
    by true e = absurd (omega (arith, e))
    by false e = refl

-- the names that stand in none of the entries before are those of the world before
record Follows (w v : World) (done : List CreateTopic) : Type 0 where
  pub next : HasNext v
  pub names : (name : List ℕ) → times name done ≡ 0 → is_some (named name v.known.topics) ≡ is_some (named name w.known.topics)

-- the refusal is the one by the names of the world before
refusal_same : (w v : World) (ts done es : List CreateTopic) (t : CreateTopic) → ts ≡ done ++ t ∷ es → Follows w v done
    → refusal (stands_twice t.name ts) (is_some (named t.name w.known.topics)) t ≡ refusal (stands_twice t.name ts) (is_some (named t.name v.known.topics)) t
refusal_same w v ts done es t split follows = by (stands_twice t.name ts) refl
  where
    by : (b : Bool) → stands_twice t.name ts ≡ b → refusal b (is_some (named t.name w.known.topics)) t ≡ refusal b (is_some (named t.name v.known.topics)) t
    by true is = refl
    by false is = ap (λ b. refusal false b t) (sym (follows.names t.name (not_before ts done es t split is)))

follows_more : (limits : DataLimits) (w v : World) (done : List CreateTopic) (t : CreateTopic) (r : Room × ℤ) (m : World × ℤ) → Follows w v done → Foretells limits v t.name r m → Follows w m.0 (done ++ t ∷ [])
follows_more limits w v done t r m follows f = record {
  next = f.next follows.next;
  names = λ name none. let h = not_among name done t none in ap is_some (f.names follows.next name h.1) ∙ follows.names name h.0;
}

all_foretold : (limits : DataLimits) (w v : World) (ts done es : List CreateTopic) → ts ≡ done ++ es → Follows w v done → v.known.creates + length es < 2 ^ 63
    → (in_turn (checked_topic limits ts w) (room_in limits v.known) es).1 ≡ (in_turn (created_topic limits ts) v es).1
all_foretold limits w v ts done [] split follows left = refl
all_foretold limits w v ts done (t ∷ es) split follows left =
    let twice = stands_twice t.name ts in
    let room : Room = room_in limits v.known in
    let ref : Option ErrorCode = refusal twice (is_some (named t.name v.known.topics)) t in
    let f = foretold limits v t twice ref refl follows.next (omega (arith, left)) in
    let m : World × ℤ = made_unless limits v t ref in
    let r : Room × ℤ = checked_unless limits room t ref in
    let answer = λ (code : ℤ). let x : CreateTopicReply = record { name = t.name; error_code = code } in x in
    let rest = λ (n : Room). (in_turn (checked_topic limits ts w) n es).1 in
    let later : rest (room_in limits m.0.known) ≡ (in_turn (created_topic limits ts) m.0 es).1 =
    all_foretold limits w m.0 ts (done ++ t ∷ []) es (split ∙ sym (append_assoc done (t ∷ []) es)) (follows_more limits w v done t r m follows f) (let c = f.creates in omega (arith, left, c)) in
    ap (λ (o : Option ErrorCode). answer (checked_unless limits room t o).1 ∷ rest (checked_unless limits room t o).0) (refusal_same w v ts done es t split follows)
    ∙ ap (λ z. answer z ∷ rest r.0) f.code ∙ ap (λ n. answer m.1 ∷ rest n) (f.room follows.next) ∙ ap (λ l. answer m.1 ∷ l) later

pub checks_foretell : (limits : DataLimits) (w : World) (q : CreateTopicsRequest) → IsTied w → w.known.creates + length q.topics < 2 ^ 63 → checked_all limits w q.topics ≡ (created_all limits w q).1
checks_foretell limits w q tied left =
    ap (λ l. record { topics = l }) (all_foretold limits w w q.topics [] q.topics refl (record { next = tied.next; names = λ name none. refl }) left)
