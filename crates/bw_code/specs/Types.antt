-- Which integers a column of a type holds, and which layouts hold such a column.
use Rattle.std.specs.Prelude.{All, Bool, FitsSigned, List, None, Option, Some, [], false, int_le, map, negsuc, pos, true, ⊤, ℕ, ℤ, ◌&&◌, ◌∷◌}
use Rattle.std.specs.List.{AllZip}
use Rattle.std.specs.Int.{w32, w64}
use Rattle.bw_code.specs.declared.kind.ColumnType.{ColumnType}
use Rattle.bw_code.specs.declared.kind.ColumnType.TheVariants.{BigInt, Integer}
use Rattle.bw_code.specs.declared.header.Header.{Header}
use Rattle.bw_code.specs.declared.kind.Layout.{Layout}
use Rattle.bw_code.specs.declared.kind.Layout.TheVariants.{H, P, S, V}

-- the greatest integer of the type; the least is -(greatest + 1)
abbrev pub greatest_of : ColumnType → ℕ
greatest_of Integer = 2147483647
greatest_of BigInt = 9223372036854775807

abbrev pub IsOfType : ColumnType → ℤ → Type 0
IsOfType Integer x = FitsSigned w32 x
IsOfType BigInt x = FitsSigned w64 x

abbrev pub IsNullOrOfType : ColumnType → Option ℤ → Type 0
IsNullOrOfType t None = ⊤
IsNullOrOfType t (Some x) = IsOfType t x

-- the same, as a Boolean
abbrev pub is_of_type : ColumnType → ℤ → Bool
is_of_type t x = int_le (negsuc (greatest_of t)) x && int_le x (pos (greatest_of t))

abbrev pub is_null_or_of_type : ColumnType → Option ℤ → Bool
is_null_or_of_type t None = true
is_null_or_of_type t (Some x) = is_of_type t x

-- a row that has for each column a value of its type
abbrev pub IsRowOf : List ColumnType → List (Option ℤ) → Type 0
IsRowOf types row = AllZip IsNullOrOfType types row

-- whether each value of a row is of its column's type, up to the end of the shorter list
abbrev pub are_of_types : List ColumnType → List (Option ℤ) → Bool
are_of_types [] row = true
are_of_types (t ∷ types) [] = true
are_of_types (t ∷ types) (value ∷ row) = is_null_or_of_type t value && are_of_types types row

-- whether a column of a type may have a layout: BitWeaving/H holds no BIGINT column
abbrev pub holds : Layout → ColumnType → Bool
holds H Integer = true
holds H BigInt = false
holds P t = true
holds V t = true
holds S t = true

-- whether the layout of a header holds the header's type
abbrev pub holds_its_type : {N : Type 0} → Header N → Bool
holds_its_type header = holds header.layout header.column_type

abbrev pub types_of : {N : Type 0} → List (Header N) → List ColumnType
types_of headers = map (λ header. header.column_type) headers

-- the cells of a column are of its header's type
abbrev pub IsTyped : {N : Type 0} → Header N → List (Option ℤ) → Type 0
IsTyped header cells = All (IsNullOrOfType header.column_type) cells
