-- What a family says of a tenant is lines with its label. What stands in front of a family is nobody's.
use Rattle.std.proofs.Common.{◌≡◌, ℕ, List, [], ◌∷◌, ◌++◌, ◌==◌, Bool, true, false, refl, subst, cond, append_assoc}
use Rattle.std.proofs.Common.{codes, decimal, length, map, Option, Some, None}
use Rattle.std.specs.List.{flat_map, range_with_len}
use Rattle.kb_metrics.specs.Causes.{cause_text, each_cause}
use Rattle.kb_metrics.specs.Families.{api_name, api_text, counted_text, sample_front, head_of, known_text}
use Rattle.kb_metrics.specs.Families.{lag_text, members_text, number_text, with_place, requests_text, said_of}
use Rattle.kb_metrics.specs.Limits.{each_limit, limit_text, most_text}
use Rattle.kb_metrics.specs.Overs.{each_over, over_text}
use Rattle.kb_metrics.specs.Rows.{Group, Lag, Tenant}
use Rattle.kb_metrics.specs.Text.{HeadText, behind_text, head_text, kind_text, more_text}
use Rattle.kb_metrics.specs.declared.families.Family.{Family}
use Rattle.kb_metrics.specs.declared.families.Family.TheVariants as families
use Rattle.kb_metrics.specs.declared.limits.Limits.{Limits}
use Rattle.kb_metrics.specs.declared.text.Kind.{Kind}
use Rattle.kb_metrics.specs.declared.text.Kind.TheVariants as kinds
use Rattle.kb_metrics.proofs.Lines.{Says, Silent, decimal_inner, inner, more_inner, onto, quiet, quiet_is, quiet_onto, says_both, says_each}
use Rattle.kb_metrics.proofs.Lines.{says_nothing, says_sample, silent_both, silent_quiet}

-- ---- heads

quiet_kind : (kind : Kind) → quiet (kind_text kind) ≡ true
quiet_kind kinds.Counter = refl
quiet_kind kinds.Gauge = refl

as_head : (first mark name kind : List ℕ)
    → (first ++ 10 ∷ []) ++ ((mark ++ name ++ 32 ∷ kind) ++ 10 ∷ []) ≡ first ++ 10 ∷ mark ++ name ++ 32 ∷ kind ++ 10 ∷ []
as_head first mark name kind = simp append_assoc

pub silent_head : (h : HeadText) → quiet h.name ≡ true → quiet h.help ≡ true → Silent (head_text h)
silent_head h name help =
    let first : List ℕ = codes "# HELP " ++ h.name ++ 32 ∷ h.help in
    let second : List ℕ = codes "# TYPE " ++ h.name ++ 32 ∷ kind_text h.kind in
    let one : quiet first ≡ true = quiet_onto (codes "# HELP " ++ h.name) (32 ∷ h.help) (quiet_onto (codes "# HELP ") h.name refl name) help in
    let two : quiet second ≡ true =
    quiet_onto (codes "# TYPE " ++ h.name) (32 ∷ kind_text h.kind) (quiet_onto (codes "# TYPE ") h.name refl name) (quiet_kind h.kind) in
    subst Silent (as_head first (codes "# TYPE ") h.name (kind_text h.kind)) (silent_both (silent_quiet first one) (silent_quiet second two))

name_quiet : (family : Family) → quiet (head_of family).name ≡ true
name_quiet families.Connections = refl
name_quiet families.Waiting = refl
name_quiet families.Topics = refl
name_quiet families.Partitions = refl
name_quiet families.StoredBytes = refl
name_quiet families.CommittedOffsets = refl
name_quiet families.Limit = refl
name_quiet families.Members = refl
name_quiet families.Lag = refl
name_quiet families.Requests = refl
name_quiet families.RequestBytes = refl
name_quiet families.ResponseBytes = refl
name_quiet families.Refusals = refl
name_quiet families.OverLimit = refl
name_quiet families.Start = refl
name_quiet families.End = refl
name_quiet families.Committed = refl

help_quiet : (family : Family) → quiet (head_of family).help ≡ true
help_quiet families.Connections = refl
help_quiet families.Waiting = refl
help_quiet families.Topics = refl
help_quiet families.Partitions = refl
help_quiet families.StoredBytes = refl
help_quiet families.CommittedOffsets = refl
help_quiet families.Limit = refl
help_quiet families.Members = refl
help_quiet families.Lag = refl
help_quiet families.Requests = refl
help_quiet families.RequestBytes = refl
help_quiet families.ResponseBytes = refl
help_quiet families.Refusals = refl
help_quiet families.OverLimit = refl
help_quiet families.Start = refl
help_quiet families.End = refl
help_quiet families.Committed = refl

pub silent_family : (family : Family) → Silent (head_text (head_of family))
silent_family family = silent_head (head_of family) (name_quiet family) (help_quiet family)

-- ---- samples

sample : (family : Family) (own : List ℕ) (more : List (List ℕ × List ℕ)) (n : ℕ) → inner (flat_map more_text more) ≡ true
    → Says own (behind_text (sample_front family own) more (decimal n))
sample family own more n h =
    let name = quiet_is (head_of family).name (name_quiet family) in
    says_sample own (head_of family).name more (decimal n) name.1 name.0 h (decimal_inner n)

one_label : (name value : List ℕ) → inner name ≡ true → inner (flat_map more_text ((name, value) ∷ [])) ≡ true
one_label name value h = onto (more_text (name, value)) [] (more_inner (name, value) h) refl

number : (family : Family) (own : List ℕ) (n : ℕ) → Says own (number_text family own n)
number family own n = sample family own [] n refl

known : (family : Family) (own : List ℕ) (n : Option ℕ) → Says own (known_text family own n)
known family own None = says_nothing
known family own (Some n) = number family own n

limit : (own what : List ℕ) (most : Option ℕ) → Says own (most_text (sample_front families.Limit own) what most)
limit own what None = says_nothing
limit own what (Some most) = sample families.Limit own ((codes "what", what) ∷ []) most (one_label (codes "what") what refl)

limits : (own : List ℕ) (l : Limits) → Says own (flat_map (limit_text (sample_front families.Limit own)) (each_limit l))
unfolding each_limit
limits own l =
    says_both (limit own (codes "topics") l.topics) (says_both (limit own (codes "partitions") l.partitions)
    (says_both (limit own (codes "offsets") l.offsets) (says_both (limit own (codes "bytes") l.bytes)
    (says_both (limit own (codes "fetch_bytes") l.fetch_bytes) (says_both (limit own (codes "groups") l.groups)
    (says_both (limit own (codes "group_bytes") l.group_bytes) says_nothing))))))

members : (own : List ℕ) (g : Group) → Says own (members_text (sample_front families.Members own) g)
members own g = sample families.Members own ((codes "group", g.id) ∷ []) g.members (one_label (codes "group") g.id refl)

lag : (own : List ℕ) (l : Lag) → Says own (lag_text (sample_front families.Lag own) l)
lag own l = sample families.Lag own ((codes "group", l.group) ∷ (codes "topic", l.topic) ∷ []) l.value
    (onto (more_text (codes "group", l.group)) _ (more_inner (codes "group", l.group) refl) (one_label (codes "topic") l.topic refl))

counted : (own : List ℕ) (api : Option (List ℕ)) (n : ℕ) → Says own (counted_text (sample_front families.Requests own) api n)
counted own None n = says_nothing
counted own (Some api) n = go (n == 0)
  where
    go : (none : Bool) → Says own (cond none [] (behind_text (sample_front families.Requests own) ((codes "api", api) ∷ []) (decimal n)))
    go true = says_nothing
    go false = sample families.Requests own ((codes "api", api) ∷ []) n (one_label (codes "api") api refl)

requests : (own ns : List ℕ) → Says own (requests_text (sample_front families.Requests own) ns)
requests own ns = says_each (api_text (sample_front families.Requests own)) (λ c. counted own (api_name c.0) c.1) (map (with_place ns) (range_with_len 0 (length ns)))

cause : (own : List ℕ) (c : List ℕ × ℕ) → Says own (cause_text (sample_front families.Refusals own) c)
cause own c = sample families.Refusals own ((codes "cause", c.0) ∷ []) c.1 (one_label (codes "cause") c.0 refl)

over : (own : List ℕ) (o : List ℕ × ℕ) → Says own (over_text (sample_front families.OverLimit own) o)
over own o = sample families.OverLimit own ((codes "what", o.0) ∷ []) o.1 (one_label (codes "what") o.0 refl)

pub said : (family : Family) (t : Tenant) → Says t.name (said_of family t)
said families.Connections t = number families.Connections t.name t.connections
said families.Waiting t = number families.Waiting t.name t.waiting
said families.Topics t = number families.Topics t.name t.topics
said families.Partitions t = number families.Partitions t.name t.partitions
said families.StoredBytes t = known families.StoredBytes t.name t.stored
said families.CommittedOffsets t = number families.CommittedOffsets t.name t.committed_offsets
said families.Limit t = limits t.name t.limits
said families.Members t = says_each (members_text (sample_front families.Members t.name)) (members t.name) t.groups
said families.Lag t = says_each (lag_text (sample_front families.Lag t.name)) (lag t.name) t.lags
said families.Requests t = requests t.name t.requests
said families.RequestBytes t = number families.RequestBytes t.name t.request_bytes
said families.ResponseBytes t = number families.ResponseBytes t.name t.response_bytes
said families.Refusals t = says_each (cause_text (sample_front families.Refusals t.name)) (cause t.name) (each_cause t.refusals t.store_refusals)
said families.OverLimit t = says_each (over_text (sample_front families.OverLimit t.name)) (over t.name) (each_over t.over)
said families.Start t = says_nothing
said families.End t = says_nothing
said families.Committed t = says_nothing
