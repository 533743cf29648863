-- How many units of storage a comparison reads.
use Rattle.std.specs.Prelude.{Bool, List, Option, [], false, if◌then◌else◌, is_some, length, not, true, ℕ, ℤ, ◌&&◌, ◌+◌, ◌∷◌, ◌||◌}
use Rattle.std.specs.Ordering.{int_eq}
use Rattle.bw_mask.specs.Masks.{MaskRows, row_at}
use Rattle.bw_code.specs.Encodings.{range_of, same_encoding, test_of, width}
use Rattle.bw_code.specs.Units.{units_of_addition, units_of_fetches, units_of_pair, units_of_scan}
use Rattle.bw_code.specs.declared.compare.CmpOp.{CmpOp}
use Rattle.bw_code.specs.declared.compare.CmpOp.TheVariants.{Eq}
use Rattle.bw_code.specs.declared.compare.CodeTest.{CodeTest}
use Rattle.bw_code.specs.declared.encoding.Encoding.{Encoding}
use Rattle.bw_code.specs.declared.encoding.Encoding.TheVariants as by
use Rattle.bw_code.specs.declared.kind.Layout.{Layout}
use Rattle.bw_code.specs.declared.kind.Layout.TheVariants.{P, V, H, S}
use Rattle.bw_column.specs.Codes.{codes_for}
use Rattle.bw_column.specs.Columns.{ColumnView}
use Rattle.bw_column.specs.Comparisons.{holds_of}
use Rattle.bw_column.specs.Values.{value_at}

-- the needed rows whose value is non-null
abbrev pub needed_known : MaskRows → List (Option ℤ) → ℕ → Bool
needed_known need values i = row_at need i && is_some (value_at values i)

-- one scan of the codes for a test
abbrev pub units_of_test : ColumnView → CodeTest → (ℕ → Bool) → ℕ
units_of_test column test needed = units_of_scan column.layout (width column.encoding) test needed (codes_for column.encoding column.values)

abbrev pub units_of_comparison : ColumnView → CmpOp → ℤ → MaskRows → ℕ
units_of_comparison column op constant need = units_of_test column (test_of column.encoding op constant) (needed_known need column.values)

abbrev pub units_of_range : ColumnView → ℤ → ℤ → MaskRows → ℕ
units_of_range column low high need = units_of_test column (range_of column.encoding low high) (needed_known need column.values)

-- one scan for each entry of a list, in order, of the needed rows that no earlier entry has made true
abbrev pub units_of_entries : ColumnView → (ℕ → Bool) → List ℤ → ℕ
units_of_entries column needed [] = 0
units_of_entries column needed (c ∷ entries) = units_of_test column (test_of column.encoding Eq c) needed + units_of_entries column (λ i. needed i && not (holds_of (λ x. int_eq x c) (value_at column.values i))) entries

abbrev pub units_of_list : ColumnView → List ℤ → MaskRows → ℕ
units_of_list column entries need = units_of_entries column (needed_known need column.values) entries

abbrev pub is_offset : Encoding → Bool
is_offset (by.Offset o) = true
is_offset (by.Dictionary entries) = false

abbrev pub is_plain : Layout → Bool
is_plain P = true
is_plain V = false
is_plain H = false
is_plain S = false

abbrev pub same_layout : Layout → Layout → Bool
same_layout P other = is_plain other
same_layout V V = true
same_layout V H = false
same_layout V S = false
same_layout V P = false
same_layout H H = true
same_layout H V = false
same_layout H S = false
same_layout H P = false
same_layout S S = true
same_layout S V = false
same_layout S H = false
same_layout S P = false

-- two columns of the same layout and encoding, whose codes therefore compare as their values do
abbrev pub are_alike : ColumnView → ColumnView → Bool
are_alike column other = same_layout column.layout other.layout && same_encoding column.encoding other.encoding

-- two columns of kind OFFSET, neither in plain codes: every other layout has planes that can be read, H too
abbrev pub have_sums : ColumnView → ColumnView → Bool
have_sums column other = (is_offset column.encoding && is_offset other.encoding) && not (is_plain column.layout || is_plain other.layout)

-- what is read to compare two columns at the needed rows where neither is null: their codes side by side, where they are alike
-- (for plain codes this is the cost of fetching them); else all planes of both, to which the bases are added; else the two values
-- of each row
abbrev pub units_of_both : ColumnView → ColumnView → (ℕ → Bool) → ℕ
units_of_both column other needed =
    if are_alike column other then units_of_pair column.layout (width column.encoding) needed (codes_for column.encoding column.values) (codes_for other.encoding other.values)
    else if have_sums column other then units_of_addition (width column.encoding) (width other.encoding) needed (length column.values)
    else units_of_fetches needed (length column.values)

abbrev pub units_of_columns : ColumnView → ColumnView → MaskRows → ℕ
units_of_columns column other need = units_of_both column other (λ i. needed_known need column.values i && is_some (value_at other.values i))
