-- Settings that are described: what fits, and what is written put after put.
use Rattle.std.proofs.Common.{◌≡◌, ◌∙◌, sym, ap, refl, subst, ℕ, suc, ◌+◌, ◌<◌, ◌≤◌, ℤ, Bool, true, false, List, [], ◌∷◌, ◌++◌, length, map, drop, get_or, Option, Some, None, append_assoc, drop-cons, add-one, lit<, arith, w32}
use Rattle.std.specs.Prelude.{pos, filter, All, codes, ◌&&◌, if◌then◌else◌}
use Rattle.std.specs.List.{flat_map}
use Rattle.std.specs.Option.{option_map, option_and_then}
use Rattle.std.specs.Ordering.{int_eq}
use Rattle.std.specs.Str.{bytes_eq}
use Rattle.std.proofs.lemmas.List.{append-nil, length-map}
use Rattle.std.proofs.lemmas.List.Elements.{All-from_recursion, All-get_or}
use Rattle.std.proofs.lemmas.List.Folds.{flat_map-map}
use Rattle.kb_wire.specs.Codec.{array, boolean, count, counted, int, int8, int16, int32, items, nullable, nullable_counted, nullable_string, sized, string, utf8}
use Rattle.kb_wire.specs.Fits.{array_fits, string_fits}
use Rattle.kb_api_data.specs.Layouts.{config_resource, config_synonym, describe_configs_request, describe_configs_request_v1, described_config, described_config_v1, described_resource, described_resource_v1, describe_configs_reply, describe_configs_reply_v1}
use Rattle.kb_api_data.specs.declared.describe_configs.ConfigResource.{ConfigResource}
use Rattle.kb_api_data.specs.declared.describe_configs.DescribeConfigsRequest.{DescribeConfigsRequest}
use Rattle.kb_api_data.specs.declared.describe_configs_v1.DescribeConfigsRequestV1.{DescribeConfigsRequestV1}
use Rattle.kb_tenant.specs.DescribeConfigs.{answered, asked, broker_settings, described, fixed, limit_setting, topic_found, config_v0, config_v1, config_named, configs_as, is_asked, resource_as, resource_v0, resource_v1, resources_until, setting_as, settings_as, Described, FitsSetting}
use Rattle.kb_topics.specs.Known.{TopicState, named, topic_at}
use Rattle.kb_tenant.specs.Replies.{AreUntil}
use Rattle.kb_tenant.specs.declared.describe_configs.Setting.{Setting}
use Rattle.kb_tenant.proofs.Fitting.{small_count, written_both}
use Rattle.kb_tenant.proofs.Serving.{drop_past}
use Rattle.kb_tenant.proofs.Until.{are_until, until_all}

-- ---- what fits

pub request_fits : (r : DescribeConfigsRequestV1) → describe_configs_request_v1.Fits r → describe_configs_request.Fits (record { resources = r.resources })
unfolding describe_configs_request describe_configs_request_v1
request_fits r fits = fits.0

some_fits : (value : List ℕ) → string.Fits value → nullable_string.Fits (Some value)
unfolding sized counted nullable nullable_counted utf8
some_fits value fits = fits

pub config_fits : (name value : List ℕ) (default : Bool) → string.Fits name → string.Fits value
    → described_config.Fits (record { name = name; value = Some value; read_only = true; is_default = default; is_sensitive = false })
unfolding described_config boolean
config_fits name value default n v = (n, (some_fits value v, (tt, (tt, tt))))

no_synonyms_fit : (array config_synonym).Fits []
no_synonyms_fit = array_fits config_synonym [] (lit< tt) (λ k e below. absurd (omega (arith, below)))

pub config_fits_v1 : (name value : List ℕ) (source : ℤ) → string.Fits name → string.Fits value
    → described_config_v1.Fits (record { name = name; value = Some value; read_only = true; config_source = source; is_sensitive = false; synonyms = [] })
unfolding described_config_v1 boolean int
config_fits_v1 name value source n v = (n, (some_fits value v, (tt, (tt, (tt, no_synonyms_fit)))))

filter_few : {A : Type 0} (p : A → Bool) (es : List A) → length (filter p es) ≤ length es
filter_few p [] = omega arith
filter_few {A} p (e ∷ es) = by (p e) (filter_few p es)
  where
    by : (b : Bool) → length (filter p es) ≤ length es → length (if b then e ∷ filter p es else filter p es) ≤ suc (length es)
    by true few = omega (arith, few)
    by false few = omega (arith, few)

pub count_fits : (names : Option (List (List ℕ))) (ss : List Setting) (n : ℕ) → length ss ≤ 6 → n ≡ length (asked names ss) → (count w32).Fits n
count_fits names ss n few is =
    let all : length (asked names ss) ≤ length ss = filter_few (λ (s : Setting). is_asked names s.name) ss in
    small_count n (omega (arith, few, is, all))

pub setting_fits : (ss : List Setting) (i : ℕ) (e : Setting) → All FitsSetting ss → i < length ss → e ≡ get_or ss i e → FitsSetting e
setting_fits ss i e fits lt is = subst FitsSetting (sym is) (All-get_or FitsSetting ss i e lt fits)

pub resources_fit : (q : DescribeConfigsRequest) → describe_configs_request.Fits q → (array config_resource).Fits q.resources
unfolding describe_configs_request
resources_fit q fits = fits

pub resource_name_fits : (r : ConfigResource) → config_resource.Fits r → string.Fits r.resource_name
unfolding config_resource
resource_name_fits r fits = fits.1.0

-- ---- settings, one after another

-- one that is asked is written, and another is not
pub asked_one : (old : Bool) (names : Option (List (List ℕ))) (s : Setting) (out made : List ℕ) → is_asked names s.name ≡ true → made ≡ out ++ setting_as old s → made ≡ out ++ flat_map (setting_as old) (asked names (s ∷ []))
asked_one old names s out made told wrote =
    wrote ∙ ap (λ x. out ++ x) (sym (append-nil (setting_as old s))) ∙ ap (λ b. out ++ flat_map (setting_as old) (if b then s ∷ [] else [])) (sym told)

pub asked_none : (old : Bool) (names : Option (List (List ℕ))) (s : Setting) (out : List ℕ) → is_asked names s.name ≡ false → out ≡ out ++ flat_map (setting_as old) (asked names (s ∷ []))
asked_none old names s out not = sym (append-nil out) ∙ ap (λ b. out ++ flat_map (setting_as old) (if b then s ∷ [] else [])) (sym not)

-- the first of some, and the others
asked_both : (old : Bool) (names : Option (List (List ℕ))) (s : Setting) (rest : List Setting)
    → flat_map (setting_as old) (asked names (s ∷ [])) ++ flat_map (setting_as old) (asked names rest) ≡ flat_map (setting_as old) (asked names (s ∷ rest))
asked_both old names s rest = by (is_asked names s.name)
  where
    others : List Setting
    others = asked names rest

    by : (b : Bool) → flat_map (setting_as old) (if b then s ∷ [] else []) ++ flat_map (setting_as old) others ≡ flat_map (setting_as old) (if b then s ∷ others else others)
    by true = ap (λ x. x ++ flat_map (setting_as old) others) (append-nil (setting_as old s))
    by false = refl

pub asked_next : (old : Bool) (names : Option (List (List ℕ))) (out more : List ℕ) (ss : List Setting) (i : ℕ) (s : Setting) → i < length ss → s ≡ get_or ss i s
    → more ≡ out ++ flat_map (setting_as old) (asked names (s ∷ []))
    → more ++ flat_map (setting_as old) (asked names (drop (i + 1) ss)) ≡ out ++ flat_map (setting_as old) (asked names (drop i ss))
asked_next old names out more ss i s lt is wrote =
    let write = setting_as old in
    let one = flat_map write (asked names (s ∷ [])) in
    let rest = drop (suc i) ss in
    let there : drop i ss ≡ s ∷ rest = drop-cons ss i s lt ∙ ap (λ x. x ∷ rest) (sym is) in
    ap (λ n. more ++ flat_map write (asked names (drop n ss))) (add-one i)
    ∙ ap (λ x. x ++ flat_map write (asked names rest)) wrote ∙ append_assoc out one (flat_map write (asked names rest))
    ∙ ap (λ x. out ++ x) (asked_both old names s rest) ∙ ap (λ l. out ++ flat_map write (asked names l)) (sym there)

-- behind the last of them nothing is to come
pub asked_over : (old : Bool) (names : Option (List (List ℕ))) (ss : List Setting) (i n : ℕ) (out counted made : List ℕ) → length ss ≤ i → n ≡ length (asked names ss) → counted ≡ out ++ (count w32).written n
    → made ++ flat_map (setting_as old) (asked names (drop i ss)) ≡ counted ++ flat_map (setting_as old) (asked names ss) → made ≡ out ++ settings_as old (asked names ss)
asked_over old names ss i n out counted made le is front all =
    let write = setting_as old in
    let rest = flat_map write (asked names ss) in
    sym (append-nil made) ∙ ap (λ l. made ++ flat_map write (asked names l)) (sym (drop_past ss i le)) ∙ all
    ∙ ap (λ s. s ++ rest) (front ∙ ap (λ m. out ++ (count w32).written m) is) ∙ append_assoc out ((count w32).written (length (asked names ss))) rest

-- ---- a resource

pub resource_parts : (old : Bool) (d : Described) → int16.written d.error_code ++ (nullable_string.written None ++ (int8.written d.resource_type ++ (string.written d.resource_name ++ settings_as old d.settings))) ≡ resource_as old d
unfolding described_resource described_resource_v1 sized items
resource_parts true d =
    ap (λ l. int16.written d.error_code ++ (nullable_string.written None ++ (int8.written d.resource_type ++ (string.written d.resource_name ++ l))))
    (ap (λ n. (count w32).written n ++ flat_map (setting_as true) d.settings) (sym (length-map d.settings config_v0))
    ∙ ap (λ l. (count w32).written (length (map config_v0 d.settings)) ++ l) (sym (flat_map-map described_config.written config_v0 d.settings)))
resource_parts false d =
    ap (λ l. int16.written d.error_code ++ (nullable_string.written None ++ (int8.written d.resource_type ++ (string.written d.resource_name ++ l))))
    (ap (λ n. (count w32).written n ++ flat_map (setting_as false) d.settings) (sym (length-map d.settings config_v1))
    ∙ ap (λ l. (count w32).written (length (map config_v1 d.settings)) ++ l) (sym (flat_map-map described_config_v1.written config_v1 d.settings)))

pub resource_written : (old : Bool) (d : Described) (code kind : ℤ) (name s0 s1 s2 s3 s4 s5 : List ℕ) → code ≡ d.error_code → kind ≡ d.resource_type → name ≡ d.resource_name
    → s1 ≡ s0 ++ int16.written code → s2 ≡ s1 ++ nullable_string.written None → s3 ≡ s2 ++ int8.written kind → s4 ≡ s3 ++ string.written name → s5 ≡ s4 ++ settings_as old d.settings
    → s5 ≡ s0 ++ resource_as old d
resource_written old d code kind name s0 s1 s2 s3 s4 s5 p q r a b c e f =
    let settings = settings_as old d.settings in
    let named : s5 ≡ s3 ++ (string.written d.resource_name ++ settings) =
    written_both s3 s4 s5 (string.written d.resource_name) settings (e ∙ ap (λ n. s3 ++ string.written n) r) f in
    let typed : s5 ≡ s2 ++ (int8.written d.resource_type ++ (string.written d.resource_name ++ settings)) =
    written_both s2 s3 s5 (int8.written d.resource_type) (string.written d.resource_name ++ settings) (c ∙ ap (λ k. s2 ++ int8.written k) q) named in
    written_both s0 s1 s5 (int16.written d.error_code) (nullable_string.written None ++ (int8.written d.resource_type ++ (string.written d.resource_name ++ settings)))
    (a ∙ ap (λ k. s0 ++ int16.written k) p)
    (written_both s1 s2 s5 (nullable_string.written None) (int8.written d.resource_type ++ (string.written d.resource_name ++ settings)) b typed)
    ∙ ap (λ x. s0 ++ x) (resource_parts old d)

-- ---- the settings of a topic, and of the broker

pub fixed_fits : (s : Setting) (name value : List ℕ) → s ≡ fixed name value → length name ≤ 40 → length value ≤ 40 → FitsSetting s
fixed_fits s name value is n v = subst FitsSetting (sym is) (string_fits name (omega (arith, n)), string_fits value (omega (arith, v)))

pub limit_fits : (s : Setting) (name : List ℕ) (limit default : ℤ) → s ≡ limit_setting name limit default → length name ≤ 40 → length s.value ≤ 40 → FitsSetting s
limit_fits s name limit default is n v = (subst string.Fits (sym (ap (λ (x : Setting). x.name) is)) (string_fits name (omega (arith, n))), string_fits s.value (omega (arith, v)))

pub limit_is : (s : Setting) (name : List ℕ) (sent limit known default : ℤ) → sent ≡ limit → known ≡ default → s ≡ limit_setting name sent known → s ≡ limit_setting name limit default
limit_is s name sent limit known default p q is = is ∙ ap (λ z. limit_setting name z known) p ∙ ap (λ z. limit_setting name limit z) q

pub three_are : (a b c x y z : Setting) → a ≡ x → b ≡ y → c ≡ z → a ∷ b ∷ c ∷ [] ≡ x ∷ y ∷ z ∷ []
three_are a b c x y z p q r = ap (λ s. s ∷ b ∷ c ∷ []) p ∙ ap (λ s. x ∷ s ∷ c ∷ []) q ∙ ap (λ s. x ∷ y ∷ s ∷ []) r

pub six_are : (a b c d e f u v w x y z : Setting) → a ≡ u → b ≡ v → c ≡ w → d ≡ x → e ≡ y → f ≡ z → a ∷ b ∷ c ∷ d ∷ e ∷ f ∷ [] ≡ u ∷ v ∷ w ∷ x ∷ y ∷ z ∷ []
six_are a b c d e f u v w x y z p q r s t o =
    ap (λ l. l ++ d ∷ e ∷ f ∷ []) (three_are a b c u v w p q r) ∙ ap (λ l. u ∷ v ∷ w ∷ l) (three_are d e f x y z s t o)

pub three_fit : (a b c : Setting) → FitsSetting a → FitsSetting b → FitsSetting c → All FitsSetting (a ∷ b ∷ c ∷ [])
three_fit a b c p q r = All-from_recursion FitsSetting (a ∷ b ∷ c ∷ []) (p, (q, (r, tt)))

pub six_fit : (a b c d e f : Setting) → FitsSetting a → FitsSetting b → FitsSetting c → FitsSetting d → FitsSetting e → FitsSetting f → All FitsSetting (a ∷ b ∷ c ∷ d ∷ e ∷ f ∷ [])
six_fit a b c d e f p q r s t u = All-from_recursion FitsSetting (a ∷ b ∷ c ∷ d ∷ e ∷ f ∷ []) (p, (q, (r, (s, (t, (u, tt))))))

-- ---- the settings of a topic by its name

pub config_unknown : (ts : List (ℕ × TopicState)) (name : List ℕ) → None ≡ named name ts → None ≡ config_named name ts
config_unknown ts name none = ap (λ o. option_map (λ (t : TopicState). t.config) (option_and_then (λ i. topic_at i ts) o)) none

pub config_gone : (ts : List (ℕ × TopicState)) (name : List ℕ) (i : ℕ) → Some i ≡ named name ts → None ≡ topic_at i ts → None ≡ config_named name ts
config_gone ts name i some none = ap (option_map (λ (t : TopicState). t.config)) none ∙ ap (λ o. option_map (λ (t : TopicState). t.config) (option_and_then (λ j. topic_at j ts) o)) some

pub config_known : (ts : List (ℕ × TopicState)) (name : List ℕ) (i : ℕ) (t : TopicState) → Some i ≡ named name ts → Some t ≡ topic_at i ts → Some t.config ≡ config_named name ts
config_known ts name i t some there = ap (option_map (λ (t : TopicState). t.config)) there ∙ ap (λ o. option_map (λ (t : TopicState). t.config) (option_and_then (λ j. topic_at j ts) o)) some

pub described_topic : (ts : List (ℕ × TopicState)) (r : ConfigResource) → r.resource_type ≡ pos 2 → topic_found r (config_named r.resource_name ts) ≡ described ts r
described_topic ts r is =
    ap (λ k. if int_eq k (pos 2) then topic_found r (config_named r.resource_name ts)
    else if int_eq k (pos 4) && bytes_eq r.resource_name (codes "0") then answered (pos 0) r broker_settings else answered (pos 42) r []) (sym is)

-- ---- the whole reply

pub reply_parts : (old : Bool) (ds : List Described) → int32.written (pos 0) ++ ((count w32).written (length ds) ++ flat_map (resource_as old) ds) ≡ configs_as old ds
unfolding describe_configs_reply describe_configs_reply_v1 sized items
reply_parts true ds =
    ap (λ l. int32.written (pos 0) ++ l)
    (ap (λ n. (count w32).written n ++ flat_map (resource_as true) ds) (sym (length-map ds resource_v0))
    ∙ ap (λ l. (count w32).written (length (map resource_v0 ds)) ++ l) (sym (flat_map-map described_resource.written resource_v0 ds)))
reply_parts false ds =
    ap (λ l. int32.written (pos 0) ++ l)
    (ap (λ n. (count w32).written n ++ flat_map (resource_as false) ds) (sym (length-map ds resource_v1))
    ∙ ap (λ l. (count w32).written (length (map resource_v1 ds)) ++ l) (sym (flat_map-map described_resource_v1.written resource_v1 ds)))

pub configs_until_all : (most : ℕ) (old : Bool) (out : List ℕ) (ds : List Described) → AreUntil most (out ++ configs_as old ds) (resources_until most old (out ++ int32.written (pos 0)) ds)
configs_until_all most old out ds =
    let number = (count w32).written (length ds) in
    let front = out ++ int32.written (pos 0) in
    let rest = flat_map (resource_as old) ds in
    are_until most ((front ++ number) ++ rest) (out ++ configs_as old ds) (resources_until most old front ds) (resources_until most old front ds)
    (append_assoc front number rest ∙ append_assoc out (int32.written (pos 0)) (number ++ rest) ∙ ap (λ x. out ++ x) (reply_parts old ds)) refl
    (until_all most (resource_as old) (front ++ number) ds)
