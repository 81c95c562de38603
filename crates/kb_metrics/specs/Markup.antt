-- HTML: how names and numbers stand on a page.
use Rattle.std.specs.Prelude.{ℕ, ℤ, ◌+◌, ◌-◌, ◌/◌, ◌%◌, ◌≡◌, List, [], ◌∷◌, ◌++◌, Bool, false, ◌==◌, ◌&&◌, ◌||◌, not, nat_le, nat_lt, if◌then◌else◌, codes, decimal}
use Rattle.std.specs.Prelude.{Option, None, Some, map, max, length, slice_index_or}
use Rattle.std.specs.Fmt.{signed_decimal}
use Rattle.std.specs.List.{flat_map, list_all, range_with_len}
use Rattle.kb_metrics.specs.Text.{value_text}
use Rattle.kb_metrics.specs.declared.markup.Cell.{Cell}
use Rattle.kb_metrics.specs.declared.markup.Fact.{Fact}
use Rattle.kb_metrics.specs.declared.markup.Tag.{Tag}
use Rattle.kb_metrics.specs.declared.markup.Tag.TheVariants as tags
use Rattle.kb_metrics.specs.declared.text.Value.{Value}

-- 1. Names

-- a byte of a name: `<`, `>`, `&` and both quotes are entities
abbrev pub entity : ℕ → List ℕ
entity b =
    if b == 38 then codes "&amp;" else if b == 60 then codes "&lt;" else if b == 62 then codes "&gt;"
    else if b == 34 then codes "&quot;" else if b == 39 then codes "&#39;" else b ∷ []

abbrev pub marked : List ℕ → List ℕ
marked name = flat_map entity name

-- a byte that stands for itself
abbrev pub is_bare_byte : ℕ → Bool
is_bare_byte b = not (b == 38 || b == 60 || b == 62 || b == 34 || b == 39)

abbrev pub is_bare : List ℕ → Bool
is_bare name = list_all is_bare_byte name

-- begins or ends a tag, or a value in quotes
abbrev pub is_markup : ℕ → Bool
is_markup b = b == 60 || (b == 62 || (b == 34 || b == 39))

abbrev pub IsNoMarkup : ℕ → Type 0
IsNoMarkup b = is_markup b ≡ false

-- a byte that stands for itself in a query (RFC 3986, "Unreserved Characters")
abbrev pub is_unreserved : ℕ → Bool
is_unreserved b =
    (nat_le 48 b && nat_le b 57) || (nat_le 65 b && nat_le b 90) || (nat_le 97 b && nat_le b 122) || b == 45 || b == 46 || b == 95
    || b == 126

abbrev pub hex_digit : ℕ → ℕ
hex_digit d = if nat_lt d 10 then 48 + d else 55 + d

abbrev pub query_byte : ℕ → List ℕ
query_byte b = if is_unreserved b then b ∷ [] else 37 ∷ hex_digit (b / 16) ∷ hex_digit (b % 16) ∷ []

abbrev pub query : List ℕ → List ℕ
query name = flat_map query_byte name

-- 2. Tags

unfoldable pub tag_text : Tag → List ℕ
tag_text tags.Row = codes "<tr>"
tag_text tags.RowEnd = codes "</tr>\n"
tag_text tags.Cell = codes "<td data-l=\""
tag_text tags.Quote = codes "\">"
tag_text tags.CellEnd = codes "</td>"
tag_text tags.Link = codes "<a href=\"/?tenant="
tag_text tags.LinkEnd = codes "</a></td>"
tag_text tags.Plot = codes "<svg viewBox=\"0 0 119 25\"><polyline points=\""
tag_text tags.PlotEnd = codes "\"/></svg> "
tag_text tags.Line = codes "<tr><th>"
tag_text tags.LineMiddle = codes "</th><td>"
tag_text tags.LineEnd = codes "</td></tr>\n"

-- 3. Cells of a table, each with what it says in words

unfoldable pub cell_start : List ℕ → List ℕ
cell_start label = tag_text tags.Cell ++ label ++ tag_text tags.Quote

unfoldable pub name_cell : List ℕ → List ℕ → List ℕ
name_cell label name = cell_start label ++ marked name ++ tag_text tags.CellEnd

unfoldable pub cell : List ℕ × ℕ → List ℕ
cell c = cell_start c.0 ++ decimal c.1 ++ tag_text tags.CellEnd

unfoldable pub signed_cell : List ℕ → ℤ → List ℕ
signed_cell label n = cell_start label ++ signed_decimal n ++ tag_text tags.CellEnd

-- a number, or words where there is none
abbrev pub number_or : List ℕ → Option ℕ → List ℕ
number_or words None = words
number_or words (Some n) = decimal n

unfoldable pub cell_or : List ℕ → List ℕ → Option ℕ → List ℕ
cell_or label words n = cell_start label ++ number_or words n ++ tag_text tags.CellEnd

-- a name that leads to the page of its tenant
unfoldable pub link_cell : List ℕ → List ℕ → List ℕ
link_cell label name =
    cell_start label ++ tag_text tags.Link ++ query name ++ tag_text tags.Quote ++ marked name ++ tag_text tags.LinkEnd

abbrev pub cell_of : Cell → List ℕ × ℕ
cell_of c = (c.label.now, c.value)

-- 4. Lines of a table with two columns

unfoldable pub line_text : List ℕ → List ℕ → List ℕ
line_text label value = tag_text tags.Line ++ label ++ tag_text tags.LineMiddle ++ value ++ tag_text tags.LineEnd

abbrev pub known_line : List ℕ → Option Value → List ℕ
known_line label None = []
known_line label (Some value) = line_text label (value_text value)

abbrev pub fact_text : List ℕ × Option Value → List ℕ
fact_text f = known_line f.0 f.1

abbrev pub fact_of : Fact → List ℕ × Option Value
fact_of f = (f.label.now, f.value)

-- 5. Plots

abbrev pub greatest : List ℕ → ℕ
greatest [] = 0
greatest (n ∷ ns) = max n (greatest ns)

-- a sample as a point: so far to the right as its second, and the higher the greater; 24 is the bottom
abbrev pub point_text : ℕ → ℕ × ℕ → List ℕ
point_text step p = decimal p.0 ++ 44 ∷ decimal (24 - p.1 / step) ++ 32 ∷ []

abbrev pub sample_at : List ℕ → ℕ → ℕ × ℕ
sample_at ns place = (place, slice_index_or ns place 0)

unfoldable pub points_text : List ℕ → List ℕ
points_text ns = flat_map (point_text (greatest ns / 24 + 1)) (map (sample_at ns) (range_with_len 0 (length ns)))

-- the last of 120
abbrev pub newest : List ℕ → ℕ
newest ns = slice_index_or ns 119 0

-- a plot, and the newest sample as a number
unfoldable pub plot_cell : List ℕ → List ℕ → List ℕ
plot_cell label ns =
    cell_start label ++ tag_text tags.Plot ++ points_text ns ++ tag_text tags.PlotEnd
    ++ decimal (newest ns) ++ tag_text tags.CellEnd
