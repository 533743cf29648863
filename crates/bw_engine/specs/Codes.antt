-- The codes of a dictionary in place of its values.
use Rattle.std.specs.Int.{cast_unsigned, w64}
use Rattle.std.specs.Prelude.{List, Some, map, option_map, pos, ℕ, ℤ, ◌%◌, ◌+◌, ◌-◌, ◌^◌}
use Rattle.bw_code.specs.declared.encoding.Encoding.{Encoding}
use Rattle.bw_column.specs.Codes.{code_for}
use Rattle.bw_model.specs.Store.{Value}

-- each value as its code; null stays null
abbrev pub codes_in : Encoding → List Value → List Value
codes_in encoding values = map (option_map (λ x. pos (code_for encoding (Some x)))) values

-- the distance of a number from a base, modulo 2^64
abbrev pub rebased : ℤ → ℕ → ℕ
rebased base number = (number + (2 ^ 64 - cast_unsigned w64 base)) % 2 ^ 64
