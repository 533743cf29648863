-- The codes that a column keeps from when it prepares for values until it takes them.
use Rattle.std.specs.Prelude.{List, ⊤, ℕ, ◌≡◌}
use Rattle.bw_column.specs.declared.kept.KeptCodes.{KeptCodes}
use Rattle.bw_column.specs.declared.kept.KeptCodes.TheVariants.{Distances, Places}

-- if codes are kept, they are these
abbrev pub AreKept : List ℕ → KeptCodes → Type 0
AreKept codes Distances = ⊤
AreKept codes (Places list) = list.items ≡ codes
