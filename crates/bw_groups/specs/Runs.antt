-- Values of a column in runs.
use Rattle.std.specs.Prelude.{FitsSigned, List, None, Option, Some, drop, is_some, length, map, nat_lt, slice_index, slice_index_or, take, ℕ, ℤ, ◌*◌, ◌+◌, ◌/◌, ◌<◌, ◌≡◌, ◌≤◌, ◌≤ℤ◌}
use Rattle.std.specs.Int.{w64}
use Rattle.std.specs.List.{flat_map, range_with_len}
use Rattle.bw_mask.specs.Masks.{bit_of}
use Rattle.bw_cells.specs.Distances.{distance_from}
use Rattle.bw_code.specs.declared.ends.Ends.{Ends}

-- the values of all runs, concatenated
abbrev pub values_in : List (List (Option ℤ)) → List (Option ℤ)
values_in runs = flat_map (λ run. run) runs

-- a list of values in runs of 64; the last may be shorter
abbrev pub runs_of : List (Option ℤ) → List (List (Option ℤ))
runs_of values = map (λ q. take 64 (drop (64 * q) values)) (range_with_len 0 ((length values + 63) / 64))

-- a value is between the ends
abbrev pub IsWithin : Ends → ℤ → Type 0
IsWithin ends x = (ends.least ≤ℤ x) × (x ≤ℤ ends.greatest)

-- a run of at most 64 values of 64 bits was measured: its length, a bit for each value that tells whether it is non-null, and the
-- distance of each value above a base
pub record IsMeasured (base : ℤ) (run : List (Option ℤ)) (len present : ℕ) (distances : List ℕ) : Type 0 where
  pub few : length run ≤ 64
  pub long : len ≡ length run
  pub fits : (i : ℕ) (x : ℤ) → slice_index_or run i None ≡ Some x → FitsSigned w64 x
  pub there : (i : ℕ) → i < length run → bit_of present i ≡ is_some (slice_index_or run i None)
  pub far : (i : ℕ) → i < length run → slice_index distances i ≡ distance_from base (slice_index_or run i None)

-- the same with a byte for each value instead of a bit
pub record AreFilled (base : ℤ) (run : List (Option ℤ)) (len : ℕ) (distances bytes : List ℕ) : Type 0 where
  pub few : length run ≤ 64
  pub long : len ≡ length run
  pub fits : (i : ℕ) (x : ℤ) → slice_index_or run i None ≡ Some x → FitsSigned w64 x
  pub there : (i : ℕ) → i < length run → nat_lt 0 (slice_index bytes i) ≡ is_some (slice_index_or run i None)
  pub far : (i : ℕ) → i < length run → slice_index distances i ≡ distance_from base (slice_index_or run i None)
