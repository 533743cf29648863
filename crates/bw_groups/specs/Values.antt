-- Values as a list of integers and a list of which of them are integers.
use Rattle.std.specs.Prelude.{Bool, List, None, Option, Some, [], if◌then◌else◌, ◌∷◌, ℤ}

-- where one isn't an integer, it is null
abbrev pub values_of : List ℤ → List Bool → List (Option ℤ)
values_of (x ∷ numbers) (is_known ∷ rest) = (if is_known then Some x else None) ∷ values_of numbers rest
values_of _ _ = []
