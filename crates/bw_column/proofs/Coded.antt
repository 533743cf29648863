-- Runs of cells that go into a column by their codes.
use Rattle.std.proofs.Common.{List, None, Option, ap, arith, drop, get_or, is_some, length, length-drop, length-take, map, sym, take, ℕ, ℤ, ◌+◌, ◌<◌, ◌≡◌, ◌≤◌, ◌∙◌}
use Rattle.std.specs.List.{All}
use Rattle.std.proofs.lemmas.List.{length-map}
use Rattle.bw_mask.specs.Masks.{bit_of}
use Rattle.bw_code.specs.Encodings.{IsEncoding}
use Rattle.bw_code.specs.declared.encoding.Encoding.{Encoding}
use Rattle.bw_code.specs.declared.kind.Layout.{Layout}
use Rattle.bw_column.specs.Codes.{IsCoded, IsRowCode, code_for, codes_for}
use Rattle.bw_column.specs.Values.{IsNullOrHeld}
use Rattle.bw_column.proofs.Blocks.{are_row_codes, rows, rows_are_values}
use Rattle.bw_column.proofs.Held.{all_storable}
use Rattle.bw_column.proofs.Pieces.{all_here, map_part}

pub record IsRun (l : Layout) (e : Encoding) (cells : List (Option ℤ)) (codes : List ℕ) (word at n : ℕ) : Type 0 where
  pub each : (k : ℕ) → k < length codes → IsRowCode e (get_or codes k 0) (bit_of word k)
  pub are : rows e codes word ≡ take n (drop at cells)
  pub held : All (IsNullOrHeld l) (rows e codes word)

pub coded_run : (l : Layout) (e : Encoding) (sound : IsEncoding e) (cells : List (Option ℤ)) (codes : List ℕ) (word at n : ℕ) → All (IsCoded e) cells → All (IsNullOrHeld l) cells
    → codes ≡ take n (drop at (codes_for e cells)) → ((i : ℕ) → bit_of word i ≡ is_some (get_or (take n (drop at cells)) i None)) → IsRun l e cells codes word at n
coded_run l e sound cells codes word at n coded held is present =
    let here = take n (drop at cells) in
    let here_coded : All (IsCoded e) here = all_here (IsCoded e) cells at n coded in
    let here_held : All (IsNullOrHeld l) here = all_here (IsNullOrHeld l) cells at n held in
    let by_codes : codes ≡ codes_for e here = is ∙ sym (map_part (code_for e) cells at n) in
    let same = rows_are_values e sound here codes word here_coded (all_storable l here here_held) by_codes present in
    record {
      each = are_row_codes e sound here codes word here_coded (all_storable l here here_held) by_codes present;
      are = same;
      held = rw same here_held;
    }

-- a buffer that held as many distances, once codes are put there
pub measured_many : (cells : List (Option ℤ)) (before : List ℕ) (f : Option ℤ → ℕ) {m : ℕ} (at n : ℕ) → before ≡ map f (take m (drop at cells)) → m ≡ n → at + n ≤ length cells → length before ≡ n
measured_many cells before f {m} at n are same inside = ap length are ∙ length-map (take m (drop at cells)) f ∙ omega (arith, same, inside, length-take m (drop at cells), length-drop at cells)

pub measured_places : (places : List ℕ) (cells : List (Option ℤ)) (before run : List ℕ) (f : Option ℤ → ℕ) {m : ℕ} (at n : ℕ) → before ≡ map f (take m (drop at cells)) → run ≡ take (length before) (drop at places) → m ≡ n → at + n ≤ length cells → run ≡ take n (drop at places)
measured_places places cells before run f {m} at n are is same inside = is ∙ ap (λ k. take k (drop at places)) (measured_many cells before f {m = m} at n are same inside)
