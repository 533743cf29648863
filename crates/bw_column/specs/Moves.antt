-- Codes that are mapped from one dictionary to another.
use Rattle.std.specs.Prelude.{List, None, Option, Some, if◌then◌else◌, length, nat_lt, slice_index, ⊤, ℕ, ℤ, ◌+◌, ◌<◌, ◌≡◌}
use Rattle.bw_code.specs.Encodings.{code_of}
use Rattle.bw_code.specs.declared.encoding.Encoding.{Encoding}
use Rattle.bw_column.specs.Codes.{code_for}

-- the table `moves` has the new code of a value at the index of the old one
abbrev pub IsMoved : Encoding → Encoding → List ℕ → Option ℤ → Type 0
IsMoved own e moves None = ⊤
IsMoved own e moves (Some x) = (code_for own (Some x) < length moves) × (code_of e x ≡ Some (slice_index moves (code_for own (Some x))))

-- an index after one entry came before those from a place on
abbrev pub raised_code : ℕ → ℕ → ℕ
raised_code place code = if nat_lt code place then code else code + 1

-- the new code of a value is the old one, raised
abbrev pub IsRaised : Encoding → Encoding → ℕ → Option ℤ → Type 0
IsRaised own e place None = ⊤
IsRaised own e place (Some x) = code_of e x ≡ Some (raised_code place (code_for own (Some x)))
