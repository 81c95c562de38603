-- The text format of Prometheus, 0.0.4, and how a label's value is read back.
use Rattle.std.specs.Prelude.{ℕ, ◌+◌, ◌/◌, ◌%◌, List, [], ◌∷◌, ◌++◌, Bool, true, false, ◌==◌, ◌||◌, not, if◌then◌else◌, Option, None, Some, codes, decimal}
use Rattle.std.specs.List.{flat_map, list_all}
use Rattle.kb_metrics.specs.declared.text.Head.{Head}
use Rattle.kb_metrics.specs.declared.text.Kind.{Kind}
use Rattle.kb_metrics.specs.declared.text.Kind.TheVariants as kinds
use Rattle.kb_metrics.specs.declared.text.Label.{Label}
use Rattle.kb_metrics.specs.declared.text.Value.{Value}
use Rattle.kb_metrics.specs.declared.text.Value.TheVariants as values
use Rattle.kb_metrics.specs.declared.text.Figure.{Figure}

-- 1. Writing

-- a byte of a label's value: a backslash, a quote and a line feed stand behind a backslash
abbrev pub escape : ℕ → List ℕ
escape b = if b == 92 then 92 ∷ 92 ∷ [] else if b == 34 then 92 ∷ 34 ∷ [] else if b == 10 then 92 ∷ 110 ∷ [] else b ∷ []

abbrev pub escaped : List ℕ → List ℕ
escaped value = flat_map escape value

-- a byte that stands for itself
abbrev pub is_plain_byte : ℕ → Bool
is_plain_byte b = not (b == 92 || b == 34 || b == 10)

abbrev pub is_plain : List ℕ → Bool
is_plain value = list_all is_plain_byte value

-- `name="value"`
abbrev pub label_text : List ℕ × List ℕ → List ℕ
label_text l = l.0 ++ 61 ∷ 34 ∷ escaped l.1 ++ 34 ∷ []

abbrev pub more_text : List ℕ × List ℕ → List ℕ
more_text l = 44 ∷ label_text l

-- `name{label`
abbrev pub front_text : List ℕ → List ℕ × List ℕ → List ℕ
front_text name label = name ++ 123 ∷ label_text label

-- ` value`, and the end of the line
abbrev pub end_text : List ℕ → List ℕ
end_text value = 32 ∷ value ++ 10 ∷ []

-- a sample behind its front: `,label,label} value`
abbrev pub behind_text : List ℕ → List (List ℕ × List ℕ) → List ℕ → List ℕ
behind_text front more value = front ++ flat_map more_text more ++ 125 ∷ end_text value

-- `name{label,label} value`
abbrev pub sample_text : List ℕ → List ℕ × List ℕ → List (List ℕ × List ℕ) → ℕ → List ℕ
sample_text name first more value = behind_text (front_text name first) more (decimal value)

abbrev pub kind_text : Kind → List ℕ
kind_text kinds.Counter = codes "counter"
kind_text kinds.Gauge = codes "gauge"

-- a family: its name, what it counts in words, and its kind
pub record HeadText : Type 0 where
  pub name : List ℕ
  pub help : List ℕ
  pub kind : Kind

abbrev pub head_seen : Head → HeadText
head_seen h = record { name = h.name.now; help = h.help.now; kind = h.kind }

abbrev pub gauge_head : List ℕ → List ℕ → HeadText
gauge_head name help = record { name = name; help = help; kind = kinds.Gauge }

abbrev pub counter_head : List ℕ → List ℕ → HeadText
counter_head name help = record { name = name; help = help; kind = kinds.Counter }

-- what stands in front of the samples of a family
abbrev pub head_text : HeadText → List ℕ
head_text h = codes "# HELP " ++ h.name ++ 32 ∷ h.help ++ codes "\n# TYPE " ++ h.name ++ 32 ∷ kind_text h.kind ++ 10 ∷ []

-- a family with what is said of each row
abbrev pub rows_text : {X : Type 0} → HeadText → (X → List ℕ) → List X → List ℕ
rows_text head said xs = head_text head ++ flat_map said xs

abbrev pub label_of : Label → List ℕ × List ℕ
label_of l = (l.name.now, l.value.now)

-- the digit of a number that counts so many
abbrev pub digit : ℕ → ℕ → ℕ
digit n unit = 48 + n / unit % 10

-- a number, or a decimal fraction with all its digits
abbrev pub value_text : Value → List ℕ
value_text (values.Whole n) = decimal n
value_text (values.Thousandths n) = decimal (n / 1000) ++ 46 ∷ digit n 100 ∷ digit n 10 ∷ digit n 1 ∷ []
value_text (values.Millionths n) =
    decimal (n / 1000000) ++ 46 ∷ digit n 100000 ∷ digit n 10000 ∷ digit n 1000 ∷ digit n 100 ∷ digit n 10 ∷ digit n 1 ∷ []

-- a family of one sample without labels: its head, and the value where it is known
pub record FigureText : Type 0 where
  pub head : HeadText
  pub value : Option Value

abbrev pub figure_of : Figure → FigureText
figure_of f = record { head = record { name = f.name.now; help = f.help.now; kind = f.kind }; value = f.value }

-- nothing where the value is not known
abbrev pub known_text : HeadText → Option Value → List ℕ
known_text head None = []
known_text head (Some value) = head_text head ++ head.name ++ end_text (value_text value)

abbrev pub figure_text : FigureText → List ℕ
figure_text f = known_text f.head f.value

-- 2. Reading

-- what a byte behind a backslash stands for
abbrev pub meant : ℕ → ℕ
meant c = if c == 110 then 10 else c

abbrev pub with_front : ℕ → Option (List ℕ × List ℕ) → Option (List ℕ × List ℕ)
with_front b None = None
with_front b (Some read) = Some (b ∷ read.0, read.1)

-- a label's value, and what stands behind the quote that ends it; whether a backslash stands in front
abbrev pub value_read : Bool → List ℕ → Option (List ℕ × List ℕ)
value_read behind [] = None
value_read true (c ∷ text) = with_front (meant c) (value_read false text)
value_read false (c ∷ text) =
    if c == 34 then Some ([], text) else if c == 92 then value_read true text else with_front c (value_read false text)
