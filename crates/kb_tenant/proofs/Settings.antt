-- What is read entry by entry is what the entries give by their names.
use Rattle.std.proofs.Common.{◌≡◌, ◌∙◌, ◌<◌, ◌≤◌, ℕ, suc, ℤ, Bool, true, false, cond, List}
use Rattle.std.proofs.Common.{[], ◌∷◌, length, drop, drop-cons, get_or, Option, Some, None, refl, sym, subst, ap}
use Rattle.std.specs.Prelude.{codes, is_none, is_some, not, option_map, ◌&&◌, ◌||◌}
use Rattle.std.specs.Option.{option_and_then}
use Rattle.std.specs.Str.{bytes_eq}
use Rattle.std.proofs.lemmas.Slice.Eq.{bytes_eq-Decides}
use Rattle.kb_api_data.specs.declared.create_topics.CreateConfig.{CreateConfig}
use Rattle.kb_topics.specs.Config.{limit_in}
use Rattle.kb_topics.specs.ConfigReading.{config_of, entry_of, nothing_read, with_entry}
use Rattle.kb_topics.specs.declared.config.ConfigEntry.TheVariants.{RetentionMs, RetentionBytes, CleanupPolicy}
use Rattle.kb_topics.specs.declared.config.ConfigReader.{ConfigReader}
use Rattle.kb_topics.specs.declared.config.TopicConfig.{TopicConfig}
use Rattle.kb_tenant.specs.Settings.{are_allowed, entry_named, is_allowed, limit_named, settings_in, settings_of}
use Rattle.kb_tenant.proofs.Turning.{drop_past}

-- what was read, and then these entries, if a topic may be given each
abbrev pub with_settings : ConfigReader → List CreateConfig → Option ConfigReader
with_settings r [] = Some r
with_settings r (c ∷ cs) = option_and_then (λ x. with_settings x cs) (with_entry r (entry_of c.name c.value))

-- ---- what they come to

-- the name of each limit, and of the policy
abbrev time : List ℕ
time = codes "retention.ms"

abbrev size : List ℕ
size = codes "retention.bytes"

abbrev policy : List ℕ
policy = codes "cleanup.policy"

-- what was read, or else what is given
abbrev or_given : Option ℤ → Option ℤ → Option ℤ
or_given None o = o
or_given (Some n) o = Some n

abbrev all_read : ConfigReader → List CreateConfig → ConfigReader
all_read r cs = record {
  retention_ms = or_given r.retention_ms (limit_named time cs);
  retention_bytes = or_given r.retention_bytes (limit_named size cs);
  cleanup_policy = r.cleanup_policy || is_some (entry_named policy cs);
}

-- a name that was read has no entry
abbrev is_new : Bool → List ℕ → List CreateConfig → Bool
is_new read name cs = not (read && is_some (entry_named name cs))

abbrev are_new : ConfigReader → List CreateConfig → Bool
are_new r cs = is_new (is_some r.retention_ms) time cs && (is_new (is_some r.retention_bytes) size cs && is_new r.cleanup_policy policy cs)

abbrev IsRead : List CreateConfig → ConfigReader → Type 0
IsRead cs r = with_settings r cs ≡ cond (are_new r cs && are_allowed cs) (Some (all_read r cs)) None

-- ---- what a refusal needs

refused : {X : Type 0} (a : Bool) (x : Option X) → None ≡ cond (a && false) x None
refused true x = refl
refused false x = refl

refused_second : {X : Type 0} (a b c : Bool) (x : Option X) → None ≡ cond ((a && (false && b)) && c) x None
refused_second true b c x = refl
refused_second false b c x = refl

refused_third : {X : Type 0} (a b c : Bool) (x : Option X) → None ≡ cond ((a && (b && false)) && c) x None
refused_third true true c x = refl
refused_third true false c x = refl
refused_third false b c x = refl

-- the entry that was read is new, and no other has its name
first_new : {X : Type 0} (e : Option X) (a b all : Bool) → ((not (is_some e) && (a && b)) && all) ≡ ((a && b) && (is_none e && all))
first_new None true b all = refl
first_new None false b all = refl
first_new (Some x) true true all = refl
first_new (Some x) true false all = refl
first_new (Some x) false b all = refl

second_new : {X : Type 0} (e : Option X) (a b all : Bool) → ((a && (not (is_some e) && b)) && all) ≡ ((a && b) && (is_none e && all))
second_new None a b all = refl
second_new (Some x) true true all = refl
second_new (Some x) true false all = refl
second_new (Some x) false b all = refl

third_new : {X : Type 0} (e : Option X) (a b all : Bool)
    → ((a && (b && not (is_some e))) && all) ≡ ((a && (b && true)) && (is_none e && all))
third_new None a b all = refl
third_new (Some x) true true all = refl
third_new (Some x) true false all = refl
third_new (Some x) false b all = refl

-- ---- one entry more

module _ (cs : List CreateConfig) (rest : (r : ConfigReader) → IsRead cs r) (v : List ℕ) where
  time_read : (r : ConfigReader) → IsRead (record { name = time; value = Some v } ∷ cs) r
  time_read r = by (limit_in v) r.retention_ms refl
    where
      by : (o m : Option ℤ) → r.retention_ms ≡ m
          → option_and_then (λ x. with_settings x cs) (with_entry (record r { retention_ms = m }) (option_map RetentionMs o))
          ≡ cond ((not (is_some m && true) && (is_new (is_some r.retention_bytes) size cs && is_new r.cleanup_policy policy cs)) &&
          (is_some o && is_none (entry_named time cs) && are_allowed cs))
          (Some (record {
            retention_ms = or_given m o;
            retention_bytes = or_given r.retention_bytes (limit_named size cs);
            cleanup_policy = r.cleanup_policy || is_some (entry_named policy cs);
          })) None
      by None m is = refused (not (is_some m && true) &&
          (is_new (is_some r.retention_bytes) size cs && is_new r.cleanup_policy policy cs)) _
      by (Some n) (Some k) is = refl
      by (Some n) None is =
          rest (record r { retention_ms = Some n })
          ∙ ap (λ b. cond b (Some (all_read (record r { retention_ms = Some n }) cs)) None)
          (first_new (entry_named time cs) (is_new (is_some r.retention_bytes) size cs) (is_new r.cleanup_policy policy cs)
          (are_allowed cs))

  size_read : (r : ConfigReader) → IsRead (record { name = size; value = Some v } ∷ cs) r
  size_read r = by (limit_in v) r.retention_bytes refl
    where
      by : (o m : Option ℤ) → r.retention_bytes ≡ m
          → option_and_then (λ x. with_settings x cs) (with_entry (record r { retention_bytes = m }) (option_map RetentionBytes o))
          ≡ cond ((is_new (is_some r.retention_ms) time cs && (not (is_some m && true) && is_new r.cleanup_policy policy cs)) &&
          (is_some o && is_none (entry_named size cs) && are_allowed cs))
          (Some (record {
            retention_ms = or_given r.retention_ms (limit_named time cs);
            retention_bytes = or_given m o;
            cleanup_policy =
                r.cleanup_policy || is_some (entry_named policy cs);
          })) None
      by None m is = refused (is_new (is_some r.retention_ms) time cs && (not (is_some m && true) && is_new r.cleanup_policy policy cs)) _
      by (Some n) (Some k) is = refused_second (is_new (is_some r.retention_ms) time cs) (is_new r.cleanup_policy policy cs)
          (is_none (entry_named size cs) && are_allowed cs) _
      by (Some n) None is =
          rest (record r { retention_bytes = Some n })
          ∙ ap (λ b. cond b (Some (all_read (record r { retention_bytes = Some n }) cs)) None)
          (second_new (entry_named size cs) (is_new (is_some r.retention_ms) time cs) (is_new r.cleanup_policy policy cs) (are_allowed cs))

  policy_read : (r : ConfigReader) → IsRead (record { name = policy; value = Some v } ∷ cs) r
  policy_read r = by (bytes_eq v (codes "delete")) r.cleanup_policy refl
    where
      by : (o m : Bool) → r.cleanup_policy ≡ m
          → option_and_then (λ x. with_settings x cs) (with_entry (record r { cleanup_policy = m }) (cond o (Some CleanupPolicy) None))
          ≡ cond ((is_new (is_some r.retention_ms) time cs && (is_new (is_some r.retention_bytes) size cs && not (m && true))) &&
          (o && is_none (entry_named policy cs) && are_allowed cs))
          (Some (record {
            retention_ms = or_given r.retention_ms (limit_named time cs);
            retention_bytes = or_given r.retention_bytes
                (limit_named size cs);
            cleanup_policy = m || true;
          })) None
      by false m is = refused (is_new (is_some r.retention_ms) time cs && (is_new (is_some r.retention_bytes) size cs && not (m && true))) _
      by true true is = refused_third (is_new (is_some r.retention_ms) time cs) (is_new (is_some r.retention_bytes) size cs)
          (is_none (entry_named policy cs) && are_allowed cs) _
      by true false is =
          rest (record r { cleanup_policy = true })
          ∙ ap (λ b. cond b (Some (all_read (record r { cleanup_policy = true }) cs)) None)
          (third_new (entry_named policy cs) (is_new (is_some r.retention_ms) time cs) (is_new (is_some r.retention_bytes) size cs)
          (are_allowed cs))

-- a name that no setting has
module _ (c : CreateConfig) (cs : List CreateConfig) (r : ConfigReader) where
  no_setting : entry_of c.name c.value ≡ None → is_allowed c.name c.value ≡ false → IsRead (c ∷ cs) r
  no_setting none bad =
      ap (λ e. option_and_then (λ x. with_settings x cs) (with_entry r e)) none
      ∙ refused (are_new r (c ∷ cs)) (Some (all_read r (c ∷ cs)))
      ∙ ap (λ b. cond (are_new r (c ∷ cs) && (b && is_none (entry_named c.name cs) && are_allowed cs)) (Some (all_read r (c ∷ cs))) None)
      (sym bad)

same_name : (name other : List ℕ) → bytes_eq name other ≡ true → name ≡ other
same_name name other is = (bytes_eq-Decides name other).0 is

pub entries_read : (cs : List CreateConfig) (r : ConfigReader) → IsRead cs r
entries_read [] r = by r.retention_ms r.retention_bytes r.cleanup_policy
  where
    by : (m n : Option ℤ) (p : Bool) → IsRead [] (record { retention_ms = m; retention_bytes = n; cleanup_policy = p })
    by None None true = refl
    by None None false = refl
    by None (Some n) true = refl
    by None (Some n) false = refl
    by (Some m) None true = refl
    by (Some m) None false = refl
    by (Some m) (Some n) true = refl
    by (Some m) (Some n) false = refl
entries_read (c ∷ cs) r = by c.value refl (λ x. entries_read cs x)
  where
    names : (v : List ℕ) (x y z : Bool) → bytes_eq c.name time ≡ x → bytes_eq c.name size ≡ y → bytes_eq c.name policy ≡ z
        → ((x : ConfigReader) → IsRead cs x) → IsRead (record { name = c.name; value = Some v } ∷ cs) r
    names v true y z a b d rest =
        subst (λ n. IsRead (record { name = n; value = Some v } ∷ cs) r) (sym (same_name c.name time a)) (time_read cs rest v r)
    names v false true z a b d rest =
        subst (λ n. IsRead (record { name = n; value = Some v } ∷ cs) r) (sym (same_name c.name size b)) (size_read cs rest v r)
    names v false false true a b d rest =
        subst (λ n. IsRead (record { name = n; value = Some v } ∷ cs) r) (sym (same_name c.name policy d)) (policy_read cs rest v r)
    names v false false false a b d rest =
        no_setting (record { name = c.name; value = Some v }) cs r (rw (a, b, d) refl) (rw (a, b, d) refl)

    by : (o : Option (List ℕ)) → c.value ≡ o → ((x : ConfigReader) → IsRead cs x) → IsRead (c ∷ cs) r
    by None is rest = no_setting c cs r (ap (entry_of c.name) is) (ap (is_allowed c.name) is)
    by (Some v) is rest =
        subst (λ o. IsRead (record { name = c.name; value = o } ∷ cs) r) (sym is)
        (names v (bytes_eq c.name time) (bytes_eq c.name size) (bytes_eq c.name policy) refl refl refl rest)

-- what is read of the entries is what they give
pub settings_are : (cs : List CreateConfig) → option_map config_of (with_settings nothing_read cs) ≡ settings_in cs
settings_are cs = ap (option_map config_of) (entries_read cs nothing_read) ∙ by (are_allowed cs)
  where
    by : (b : Bool) → option_map config_of (cond b (Some (all_read nothing_read cs)) None) ≡ cond b (Some (settings_of cs)) None
    by true = refl
    by false = refl

-- ---- the loop that reads them

-- one of them is refused
pub none_read : (cs : List CreateConfig) (r : ConfigReader) (i : ℕ) (c : CreateConfig) → i < length cs → c ≡ get_or cs i c
    → with_entry r (entry_of c.name c.value) ≡ None
    → with_settings r (drop i cs) ≡ with_settings nothing_read cs → None ≡ settings_in cs
none_read cs r i c lt is none told =
    let there : drop i cs ≡ c ∷ drop (suc i) cs = drop-cons cs i c lt ∙ ap (λ x. x ∷ drop (suc i) cs) (sym is) in
    ap (option_map config_of) (sym (ap (option_and_then (λ x. with_settings x (drop (suc i) cs))) none) ∙ ap (with_settings r) (sym there)
    ∙ told) ∙ settings_are cs

-- all are read
pub all_are_read : (cs : List CreateConfig) (r : ConfigReader) (i : ℕ) (config : TopicConfig) → length cs ≤ i → config ≡ config_of r
    → with_settings r (drop i cs) ≡ with_settings nothing_read cs → Some config ≡ settings_in cs
all_are_read cs r i config le is told =
    ap (λ x. Some x) is ∙ ap (option_map config_of) (ap (with_settings r) (sym (drop_past cs i le)) ∙ told) ∙ settings_are cs
