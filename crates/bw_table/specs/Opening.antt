-- A table made of whole columns: its rows, read across the columns, and an encoding that fits each column.
use Rattle.std.specs.Prelude.{List, Option, [], length, map, slice_index_or, ℕ, ℤ, ◌<◌, ◌≡◌}
use Rattle.bw_code.specs.Encodings.{IsFit, kind_of}
use Rattle.bw_code.specs.Lists.{made}
use Rattle.bw_code.specs.declared.encoding.Encoding.{Encoding}
use Rattle.bw_code.specs.declared.header.Header.{Header}
use Rattle.bw_column.specs.Columns.{ColumnView}
use Rattle.bw_column.specs.Values.{known, value_at}

-- row i across columns: cell i of each
abbrev pub row_across : List (List (Option ℤ)) → ℕ → List (Option ℤ)
row_across columns i = map (λ cells. value_at cells i) columns

-- the rows across columns, in order
abbrev pub rows_across : ℕ → List (List (Option ℤ)) → List (List (Option ℤ))
rows_across rows columns = made rows (row_across columns)

-- an encoding of the header's kind that fits the non-null cells
pub record IsFitted {N : Type 0} (header : Header N) (cells : List (Option ℤ)) (encoding : Encoding) : Type 0 where
  pub kind : kind_of encoding ≡ header.kind
  pub fits : IsFit (known cells) encoding

-- one fitted encoding for each header's column
pub record AreFitted {N : Type 0} (headers : List (Header N)) (columns : List (List (Option ℤ))) (encodings : List Encoding) : Type 0 where
  pub count : length encodings ≡ length headers
  pub each : (k : ℕ) (h : Header N) (e : Encoding) → k < length headers → IsFitted (slice_index_or headers k h) (slice_index_or columns k []) (slice_index_or encodings k e)

-- a column of these cells, in the layout and of the kind in its header
pub record IsOpened {N : Type 0} (header : Header N) (cells : List (Option ℤ)) (column : ColumnView) : Type 0 where
  pub values : column.values ≡ cells
  pub layout : column.layout ≡ header.layout
  pub fitted : IsFitted header cells column.encoding

-- the first n columns are of these cells, as in their headers
abbrev pub AreOpenedBelow : {N : Type 0} → ℕ → List (Header N) → List (List (Option ℤ)) → List ColumnView → Type 0
AreOpenedBelow {N} n headers columns opened = (k : ℕ) (h : Header N) (d : ColumnView) → k < n → IsOpened (slice_index_or headers k h) (slice_index_or columns k []) (slice_index_or opened k d)

pub record AreOpened {N : Type 0} (headers : List (Header N)) (columns : List (List (Option ℤ))) (opened : List ColumnView) : Type 0 where
  pub count : length opened ≡ length headers
  pub each : AreOpenedBelow (length headers) headers columns opened
