-- The cells that are integers.
use Rattle.std.specs.Prelude.{List, Option, ℤ}
use Rattle.std.specs.List.{filter_map}

abbrev pub known : List (Option ℤ) → List ℤ
known cells = filter_map (λ cell. cell) cells
