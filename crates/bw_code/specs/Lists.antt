-- A list that is made from a function of the index.
use Rattle.std.specs.Prelude.{List, map, ℕ}
use Rattle.std.specs.List.{range_with_len}

abbrev pub made : {X : Type 0} → ℕ → (ℕ → X) → List X
made n f = map f (range_with_len 0 n)
