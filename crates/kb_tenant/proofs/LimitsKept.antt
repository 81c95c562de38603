-- No count of what a tenant has passes its limit.
use Rattle.std.proofs.Common.{◌≡◌, ◌≤◌, ◌+◌, ℕ, Option, Some, None, List, [], ◌∷◌, length, false, arith}
use Rattle.std.proofs.lemmas.Bool.Decides.{nat_tests}
use Rattle.kb_tenant_state.specs.Stored.{offsets_in, partitions_in, stored_in, texts_in}
use Rattle.kb_tenant_state.specs.World.{World}
use Rattle.kb_tenant.specs.Limits.{is_past, left_of}
use Rattle.kb_tenant.specs.LimitsKept.{AreLimitsKept, HasOrderedCommits, IsKept}
use Rattle.kb_tenant.specs.Turns.{in_turn}
use Rattle.kb_tenant.specs.declared.limits.DataLimits.{DataLimits}

-- ---- one count

pub kept_less : (limit : Option ℕ) (old new : ℕ) → new ≤ old → IsKept limit old new
kept_less None old new le = tt
kept_less (Some limit) old new le = omega (arith, le)

pub kept_then : (limit : Option ℕ) (a b c : ℕ) → IsKept limit a b → IsKept limit b c → IsKept limit a c
kept_then None a b c p q = tt
kept_then (Some limit) a b c p q = omega (arith, p, q)

-- what is not past what is left of the limit
pub kept_more : (limit : Option ℕ) (old n new : ℕ) → is_past (left_of limit old) n ≡ false → new ≤ old + n → IsKept limit old new
kept_more None old n new room le = tt
kept_more (Some limit) old n new room le = grind (arith, nat_tests, room, le)

-- one more that is not past the limit
pub kept_one : (limit : Option ℕ) (old new : ℕ) → is_past limit (old + 1) ≡ false → new ≤ old + 1 → IsKept limit old new
kept_one None old new room le = tt
kept_one (Some limit) old new room le = grind (arith, nat_tests, room, le)

-- ---- worlds

-- nothing becomes more
pub record Less (w v : World) : Type 0 where
  pub bytes : stored_in v ≤ stored_in w
  pub topics : length v.known.topics ≤ length w.known.topics
  pub partitions : partitions_in v.known ≤ partitions_in w.known
  pub offsets : offsets_in v.known ≤ offsets_in w.known
  pub texts : texts_in v.known ≤ texts_in w.known

pub less_kept : (limits : DataLimits) (w v : World) → Less w v → AreLimitsKept limits w v
less_kept limits w v less = record {
  bytes = kept_less limits.bytes (stored_in w) (stored_in v) less.bytes;
  topics = kept_less limits.topics (length w.known.topics) (length v.known.topics) less.topics;
  partitions = kept_less limits.partitions (partitions_in w.known) (partitions_in v.known) less.partitions;
  offsets = kept_less limits.offsets (offsets_in w.known) (offsets_in v.known) less.offsets;
  texts = kept_less limits.group_bytes (texts_in w.known) (texts_in v.known) less.texts;
}

pub none_less : (w : World) → Less w w
none_less w = record { bytes = omega arith; topics = omega arith; partitions = omega arith; offsets = omega arith; texts = omega arith }

pub less_then : (w v u : World) → Less w v → Less v u → Less w u
less_then w v u p q = record {
  bytes = omega (arith, p.bytes, q.bytes);
  topics = omega (arith, p.topics, q.topics);
  partitions = omega (arith, p.partitions, q.partitions);
  offsets = omega (arith, p.offsets, q.offsets);
  texts = omega (arith, p.texts, q.texts);
}

pub limits_then : (limits : DataLimits) (w v u : World) → AreLimitsKept limits w v → AreLimitsKept limits v u → AreLimitsKept limits w u
limits_then limits w v u p q = record {
  bytes = kept_then limits.bytes (stored_in w) (stored_in v) (stored_in u) p.bytes q.bytes;
  topics = kept_then limits.topics (length w.known.topics) (length v.known.topics) (length u.known.topics) p.topics q.topics;
  partitions = kept_then limits.partitions (partitions_in w.known) (partitions_in v.known) (partitions_in u.known) p.partitions q.partitions;
  offsets = kept_then limits.offsets (offsets_in w.known) (offsets_in v.known) (offsets_in u.known) p.offsets q.offsets;
  texts = kept_then limits.group_bytes (texts_in w.known) (texts_in v.known) (texts_in u.known) p.texts q.texts;
}

-- A world whose commits are in order has them so after it, and its counts are kept.
pub record Stays (limits : DataLimits) (w v : World) : Type 0 where
  pub ordered : HasOrderedCommits w → HasOrderedCommits v
  pub kept : HasOrderedCommits w → AreLimitsKept limits w v

pub stays_less : (limits : DataLimits) (w v : World) → (HasOrderedCommits w → HasOrderedCommits v) → Less w v → Stays limits w v
stays_less limits w v ordered less = record { ordered = ordered; kept = λ h. less_kept limits w v less }

pub stays_same : (limits : DataLimits) (w : World) → Stays limits w w
stays_same limits w = stays_less limits w w (λ h. h) (none_less w)

pub stays_then : (limits : DataLimits) (w v u : World) → Stays limits w v → Stays limits v u → Stays limits w u
stays_then limits w v u p q = record {
  ordered = λ h. q.ordered (p.ordered h);
  kept = λ h. limits_then limits w v u (p.kept h) (q.kept (p.ordered h));
}

-- one entry after another
pub turns_stay : {S E A : Type 0} (limits : DataLimits) (world : S → World) (f : S → E → S × A) → ((s : S) (e : E) → Stays limits (world s) (world (f s e).0)) → (s : S) (es : List E)
    → Stays limits (world s) (world (in_turn f s es).0)
turns_stay limits world f each s [] = stays_same limits (world s)
turns_stay {S} {E} {A} limits world f each s (e ∷ es) =
    let t : S = (f s e).0 in
    let u : S = (in_turn f t es).0 in
    stays_then limits (world s) (world t) (world u) (each s e) (turns_stay limits world f each t es)
