-- The value of a field of a CSV file: NULL, or an integer of its column's type, spelled by an optional sign and digits.
use Rattle.std.specs.Prelude.{Bool, Err, List, Ok, None, Option, Result, Some, [], codes, if◌then◌else◌, neg_ℤ, not, pos, ℕ, ℤ, ◌&&◌, ◌==◌, ◌||◌, ◌∷◌, false, length}
use Rattle.std.specs.Char.{is_ascii_digit}
use Rattle.std.specs.List.{list_all}
use Rattle.std.specs.Str.{str_eq_ignore_ascii_case}
use Rattle.std.specs.Str.Parse.{digits_value}
use Rattle.bw_code.specs.Types.{is_of_type}
use Rattle.bw_code.specs.declared.kind.ColumnType.{ColumnType}
use Rattle.bw_csvload.specs.declared.fault.FieldFault.{FieldFault}
use Rattle.bw_csvload.specs.declared.fault.FieldFault.TheVariants.{NotInteger, Range}

-- empty, or NULL in any case
abbrev pub is_null : List ℕ → Bool
is_null text = (length text == 0) || str_eq_ignore_ascii_case text (codes "NULL")

-- whether a minus comes first
abbrev pub is_minus : List ℕ → Bool
is_minus [] = false
is_minus (b ∷ bytes) = b == 45

-- the text without its sign
abbrev pub without_sign : List ℕ → List ℕ
without_sign [] = []
without_sign (b ∷ bytes) = if (b == 43) || (b == 45) then bytes else b ∷ bytes

-- one or more digits
abbrev pub are_digits : List ℕ → Bool
are_digits text = not (length text == 0) && list_all is_ascii_digit text

-- the integer of this sign and size
abbrev pub signed : Bool → ℕ → ℤ
signed minus size = if minus then neg_ℤ (pos size) else pos size

-- the integer, if it is of the type
abbrev pub within_type : ColumnType → ℤ → Result (Option ℤ) FieldFault
within_type t x = if is_of_type t x then Ok (Some x) else Err Range

-- the value of a field of a column of this type
abbrev pub cell_of : ColumnType → List ℕ → Result (Option ℤ) FieldFault
cell_of t text =
    if is_null text then Ok None
    else if are_digits (without_sign text) then within_type t (signed (is_minus text) (digits_value 10 (without_sign text)))
    else Err NotInteger
