-- What an offset encoding is fitted to: the least and the greatest value.
use Rattle.std.specs.Prelude.{List, Option, Some, None, [], ℤ, ◌≡◌}
use Rattle.bw_code.specs.Encodings.{IsGreatest, IsLeast}
use Rattle.bw_code.specs.declared.ends.Ends.{Ends}

-- the least and the greatest of some values; `None` where there is no value
abbrev pub AreEnds : List ℤ → Option Ends → Type 0
AreEnds values None = values ≡ []
AreEnds values (Some ends) = IsLeast values ends.least × IsGreatest values ends.greatest
