-- The size of a number as far as the types distinguish sizes, so that it fits 64 bits whatever the digits.
use Rattle.std.specs.Prelude.{List, Option, min, ℕ}
use Rattle.std.specs.Bool.{then_some}
use Rattle.std.specs.Char.{is_ascii_digit}
use Rattle.std.specs.List.{list_all}
use Rattle.std.specs.Str.Parse.{digits_value, digits_value_after}
use Rattle.bw_csvload.specs.Fields.{are_digits, without_sign}

-- the least number of 20 digits, which is outside each type with either sign
abbrev pub too_large : ℕ
too_large = 10000000000000000000

-- the number that the digits of n followed by these digits spell, if there are only digits
abbrev pub size_after : ℕ → List ℕ → Option ℕ
size_after n text = then_some (list_all is_ascii_digit text) (min (digits_value_after 10 n text) too_large)

-- the number that a text spells, if it is only digits
abbrev pub size_of : List ℕ → Option ℕ
size_of text = size_after 0 text

-- the number that the digits after the sign spell, if there are one or more digits
abbrev pub size_written : List ℕ → Option ℕ
size_written text = then_some (are_digits (without_sign text)) (min (digits_value 10 (without_sign text)) too_large)
