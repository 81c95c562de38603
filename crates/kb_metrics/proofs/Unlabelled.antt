-- What is said of the server and of its process is nobody's.
use Rattle.std.proofs.Common.{◌≡◌, ◌∙◌, ◌/◌, ◌%◌, ◌+◌, ℕ, List, [], ◌∷◌, ◌++◌, ◌&&◌, Bool, true, false, refl, ap, subst, append_assoc, codes, decimal, nat_eq}
use Rattle.std.proofs.Common.{Option, None, Some}
use Rattle.std.specs.List.{flat_map, list_all, starts_with}
use Rattle.kb_metrics.specs.Families.{tenant_label}
use Rattle.kb_metrics.specs.Server.{cause_text, causes, closed_head, closed_text, process_figures, process_text}
use Rattle.kb_metrics.specs.Server.{server_text, socket_figures, trouble_figures, version_text}
use Rattle.kb_metrics.specs.Text.{FigureText, HeadText, digit, figure_text, gauge_head, head_text, label_text, sample_text, value_text}
use Rattle.kb_metrics.specs.declared.server.Closed.{Closed}
use Rattle.kb_metrics.specs.declared.server.ProcessGauges.{ProcessGauges}
use Rattle.kb_metrics.specs.declared.server.ServerGauges.{ServerGauges}
use Rattle.kb_metrics.specs.declared.text.Value.{Value}
use Rattle.kb_metrics.specs.declared.text.Value.TheVariants as values
use Rattle.kb_metrics.proofs.Lines.{Silent, as_sample, behind_brace, both, decimal_inner, decimal_quiet, inner, label_inner, onto, quiet, quiet_digit, quiet_is}
use Rattle.kb_metrics.proofs.Lines.{quiet_one, quiet_onto, silent_both, silent_each, silent_line, silent_nothing, silent_quiet}
use Rattle.kb_metrics.proofs.Said.{silent_head}

-- ---- families of one sample without labels

digits_behind : (a b c : ℕ) → quiet ((48 + a % 10) ∷ (48 + b % 10) ∷ (48 + c % 10) ∷ []) ≡ true
digits_behind a b c =
    quiet_one (48 + a % 10) ((48 + b % 10) ∷ (48 + c % 10) ∷ []) (quiet_digit a)
    (quiet_one (48 + b % 10) ((48 + c % 10) ∷ []) (quiet_digit b) (quiet_one (48 + c % 10) [] (quiet_digit c) refl))

quiet_value : (v : Value) → quiet (value_text v) ≡ true
quiet_value (values.Whole n) = decimal_quiet n
quiet_value (values.Thousandths n) =
    quiet_onto (decimal (n / 1000)) (46 ∷ digit n 100 ∷ digit n 10 ∷ digit n 1 ∷ []) (decimal_quiet (n / 1000))
    (digits_behind (n / 100) (n / 10) (n / 1))
quiet_value (values.Millionths n) =
    let last : quiet (digit n 100 ∷ digit n 10 ∷ digit n 1 ∷ []) ≡ true = digits_behind (n / 100) (n / 10) (n / 1) in
    quiet_onto (decimal (n / 1000000)) (46 ∷ digit n 100000 ∷ digit n 10000 ∷ digit n 1000 ∷ digit n 100 ∷ digit n 10 ∷ digit n 1 ∷ []) (decimal_quiet (n / 1000000))
    (quiet_one (digit n 100000) (digit n 10000 ∷ digit n 1000 ∷ digit n 100 ∷ digit n 10 ∷ digit n 1 ∷ []) (quiet_digit (n / 100000))
    (quiet_one (digit n 10000) (digit n 1000 ∷ digit n 100 ∷ digit n 10 ∷ digit n 1 ∷ []) (quiet_digit (n / 10000))
    (quiet_one (digit n 1000) (digit n 100 ∷ digit n 10 ∷ digit n 1 ∷ []) (quiet_digit (n / 1000)) last)))

as_figure : (head name value : List ℕ) → head ++ ((name ++ 32 ∷ value) ++ 10 ∷ []) ≡ head ++ name ++ (32 ∷ value ++ 10 ∷ [])
as_figure head name value = simp append_assoc

figure : (f : FigureText) → quiet f.head.name ≡ true → quiet f.head.help ≡ true → Silent (figure_text f)
figure f name help = go f.head f.value name help
  where
    go : (head : HeadText) (v : Option Value) → quiet head.name ≡ true → quiet head.help ≡ true → Silent (figure_text (record { head = head; value = v }))
    go head None n h = silent_nothing
    go head (Some v) n h = subst Silent (as_figure (head_text head) head.name (value_text v))
        (silent_both (silent_head head n h) (silent_quiet (head.name ++ 32 ∷ value_text v) (quiet_onto head.name (32 ∷ value_text v) n (quiet_value v))))

is_quiet_head : FigureText → Bool
is_quiet_head f = quiet f.head.name && quiet f.head.help

figures : (fs : List FigureText) → list_all is_quiet_head fs ≡ true → Silent (flat_map figure_text fs)
unfolding is_quiet_head
figures [] h = silent_nothing
figures (f ∷ fs) h =
    let first = both (is_quiet_head f) (list_all is_quiet_head fs) h in
    let quiet_head = both (quiet f.head.name) (quiet f.head.help) first.0 in
    silent_both (figure f quiet_head.0 quiet_head.1) (figures fs first.1)

sockets : (s : ServerGauges) → Silent (flat_map figure_text (socket_figures s))
unfolding socket_figures is_quiet_head
sockets s = figures (socket_figures s) refl

troubles : (s : ServerGauges) → Silent (flat_map figure_text (trouble_figures s))
unfolding trouble_figures is_quiet_head
troubles s = figures (trouble_figures s) refl

process_parts : (p : ProcessGauges) → Silent (flat_map figure_text (process_figures p))
unfolding process_figures is_quiet_head
process_parts p = figures (process_figures p) refl

-- ---- samples with another label

-- a label that is no tenant's
IsOther : List ℕ × List ℕ → Type 0
IsOther l = (name rest : List ℕ) → starts_with nat_eq (label_text l ++ rest) (label_text (tenant_label name)) ≡ false

other_sample : (fname : List ℕ) (l : List ℕ × List ℕ) (n : ℕ) → quiet fname ≡ true → inner l.0 ≡ true → IsOther l → Silent (sample_text fname l [] n)
unfolding IsOther
other_sample fname l n h k other =
    let label : List ℕ = label_text l in
    let tail : List ℕ = 125 ∷ 32 ∷ decimal n in
    let line : List ℕ = fname ++ 123 ∷ (label ++ tail) in
    let name = quiet_is fname h in
    let fits : inner line ≡ true = onto fname (123 ∷ (label ++ tail)) name.0 (onto label tail (label_inner l.0 l.1 k) (decimal_inner n)) in
    subst Silent (as_sample fname label [] (decimal n)) (silent_line line fits (λ own.
    ap (λ t. starts_with nat_eq t (label_text (tenant_label own))) (behind_brace fname (label ++ tail) name.1) ∙ other own tail))

why : (cause : List ℕ) → IsOther (codes "why", cause)
unfolding IsOther
why cause name rest = refl

version : (v : List ℕ) → IsOther (codes "version", v)
unfolding IsOther
version v name rest = refl

closed_part : (cause : List ℕ) (n : ℕ) → Silent (cause_text closed_head.name (cause, n))
closed_part cause n = other_sample closed_head.name (codes "why", cause) n refl refl (why cause)

closed : (c : Closed) → Silent (closed_text c)
closed c = silent_both (silent_head closed_head refl refl) (silent_each (cause_text closed_head.name) (λ w. closed_part w.0 w.1) (causes c))

build : (v : List ℕ) → Silent (version_text v)
build v = silent_both (silent_head (gauge_head (codes "kbroker_build_info") (codes "The version that runs.")) refl refl)
    (other_sample (codes "kbroker_build_info") (codes "version", v) 1 refl refl (version v))

pub server : (s : ServerGauges) → Silent (server_text s)
server s = silent_both (silent_both (sockets s) (troubles s)) (closed s.closed)

pub process : (p : ProcessGauges) → Silent (process_text p)
process p = silent_both (build p.version.now) (process_parts p)
