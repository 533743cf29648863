-- The codes of values, and the values of codes. A null's code is 0, which need not be a code of the encoding.
use Rattle.std.specs.Prelude.{Bool, List, None, Option, Some, false, map, true, unwrap_or, ⊤, ℕ, ℤ, ◌<◌, ◌≡◌, ◌≤◌, ◌^◌}
use Rattle.std.specs.List.{All}
use Rattle.bw_mask.specs.Masks.{MaskRows, len, row_at}
use Rattle.bw_code.specs.Columns.{CodeList, code_at, count}
use Rattle.bw_code.specs.Encodings.{HasCode, IsEncoding, code_of, value_of, width}
use Rattle.bw_code.specs.declared.encoding.Encoding.{Encoding}
use Rattle.bw_code.specs.Lists.{made}
use Rattle.bw_code.specs.declared.kind.Layout.{Layout}
use Rattle.bw_column.specs.Values.{IsNullOrHeld, IsStorable, widest}

-- an encoding has a code for a value; every encoding has one for a null
abbrev pub IsCoded : Encoding → Option ℤ → Type 0
IsCoded e None = ⊤
IsCoded e (Some x) = HasCode e x

abbrev pub code_for : Encoding → Option ℤ → ℕ
code_for e None = 0
code_for e (Some x) = unwrap_or (code_of e x) 0

abbrev pub codes_for : Encoding → List (Option ℤ) → List ℕ
codes_for e values = map (code_for e) values

-- the value of a row, by its code and whether it is non-null
abbrev pub value_from : Encoding → ℕ → Bool → Option ℤ
value_from e code true = Some (value_of e code)
value_from e code false = None

abbrev pub values_from : Encoding → CodeList → MaskRows → List (Option ℤ)
values_from e codes nonnull = made (count codes) (λ i. value_from e (code_at codes i) (row_at nonnull i))

-- the code of an integer that a column may hold, or of a null
abbrev pub IsRowCode : Encoding → ℕ → Bool → Type 0
IsRowCode e code true = (code_of e (value_of e code) ≡ Some code) × IsStorable (value_of e code)
IsRowCode e code false = code ≡ 0

-- the codes of a column in a layout, and its non-null rows
pub record AreRowCodes (layout : Layout) (e : Encoding) (codes : CodeList) (nonnull : MaskRows) : Type 0 where
  pub sound : IsEncoding e
  pub len : len nonnull ≡ count codes
  pub narrow : width e ≤ widest layout
  pub width : codes.width ≡ width e
  pub few : count codes ≤ 2 ^ 24
  pub each : (i : ℕ) → i < count codes → IsRowCode e (code_at codes i) (row_at nonnull i)
  pub held : All (IsNullOrHeld layout) (values_from e codes nonnull)
