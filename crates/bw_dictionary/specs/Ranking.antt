-- Cells by the indices of their integers among the distinct ones.
use Rattle.std.specs.Prelude.{List, None, Option, Some, map, unwrap_or, ℕ, ℤ, ◌≡◌}
use Rattle.bw_cells.specs.Known.{known}
use Rattle.bw_code.specs.Encodings.{AreDistinct, entry_code}
use Rattle.bw_dictionary.specs.declared.ranked_cells.RankedCells.{RankedCells}

-- the index of a cell's integer among entries; 0 for a null
abbrev pub place_of : List ℤ → Option ℤ → ℕ
place_of entries None = 0
place_of entries (Some x) = unwrap_or (entry_code entries x) 0

-- the distinct integers of the cells, and the index of each cell's integer
pub record AreRanked (cells : List (Option ℤ)) (ranked : RankedCells) : Type 0 where
  pub entries : AreDistinct (known cells) ranked.entries.items
  pub places : ranked.places.items ≡ map (place_of ranked.entries.items) cells
