-- The header of a column in a table file as bytes: the length of the name, the name, in version 2 the type, the layout and the kind.
use Rattle.std.specs.Prelude.{List, [], length, ℕ, ◌+◌, ◌++◌, ◌∷◌}
use Rattle.bw_code.specs.declared.kind.Kind.{Kind}
use Rattle.bw_code.specs.declared.kind.Kind.TheVariants.{Dictionary, Offset}
use Rattle.bw_code.specs.declared.kind.Layout.{Layout}
use Rattle.bw_code.specs.declared.kind.Layout.TheVariants.{H, P, S, V}
use Rattle.bw_code.specs.declared.kind.ColumnType.{ColumnType}
use Rattle.bw_code.specs.declared.kind.ColumnType.TheVariants.{BigInt, Integer}
use Rattle.bw_file.specs.Table.{Header}
use Rattle.bw_file.specs.declared.version.Version.{Version}
use Rattle.bw_file.specs.declared.version.Version.TheVariants.{First, Second}

abbrev pub layout_number : Layout → ℕ
layout_number P = 0
layout_number V = 1
layout_number H = 2
layout_number S = 3

abbrev pub kind_number : Kind → ℕ
kind_number Offset = 0
kind_number Dictionary = 1

abbrev pub type_number : ColumnType → ℕ
type_number Integer = 0
type_number BigInt = 1

-- version 1 has no types
abbrev pub type_bytes : Version → ColumnType → List ℕ
type_bytes First t = []
type_bytes Second t = type_number t ∷ []

abbrev pub header_bytes : Version → Header → List ℕ
header_bytes version header = length header.name ∷ header.name ++ (type_bytes version header.column_type ++ layout_number header.layout ∷ kind_number header.kind ∷ [])

-- how many bytes a header takes
abbrev pub header_size : Version → Header → ℕ
header_size First header = 3 + length header.name
header_size Second header = 4 + length header.name
