-- Cells as numbers of four bytes.
use Rattle.std.proofs.Common.{List, None, Option, Some, [], ap, arith, drop, drop-cons, get_or, length, refl, slice_index, suc, sym, ℕ, ℤ, ◌%◌, ◌*◌, ◌+◌, ◌++◌, ◌/◌, ◌<◌, ◌≡◌, ◌∙◌, ◌∷◌}
use Rattle.std.proofs.Math.Facts.{Fits-lt-pow, Fits-of_z}
use Rattle.std.proofs.lemmas.List.{drop-drop}
use Rattle.std.proofs.lemmas.List.Elements.{All-get_or}
use Rattle.std.specs.Int.{cast_unsigned, w32}
use Rattle.std.specs.List.{flat_map}
use Rattle.std.specs.Prelude.{All}
use Rattle.byteorder.specs.Endian.{little_bytes, little_number}
use Rattle.byteorder.specs.Numbers.{little_number-reads_back}
use Rattle.bw_file.specs.Cells.{IsCell, cell_bytes, cell_number}
use Rattle.bw_file.proofs.Places.{drop-words}

-- four bytes are those of their number
four : (a b c d : ℕ) (rest : List ℕ) → a < 256 → b < 256 → c < 256 → d < 256 → little_bytes 4 (little_number 4 (a ∷ b ∷ c ∷ d ∷ rest)) ≡ a ∷ b ∷ c ∷ d ∷ []
four a b c d rest ha hb hc hd =
    let n = a + 256 * (b + 256 * (c + 256 * (d + 256 * 0))) in
    let p : n % 256 ≡ a = omega arith in
    let q : n / 256 % 256 ≡ b = omega arith in
    let r : n / 65536 % 256 ≡ c = omega arith in
    let s : n / 16777216 % 256 ≡ d = omega arith in
    rw (p, q, r, s) refl

-- the number that stands at a cell
pub number_at : (cells : List (Option ℤ)) (i : ℕ) → All IsCell cells → i < length cells
    → little_number 4 (drop (4 * i) (flat_map cell_bytes cells)) ≡ cell_number (get_or cells i None)
number_at cells i all h =
    let next = drop-words cells i ∙ ap (flat_map cell_bytes) (drop-cons cells i None h) in
    rw next (first (get_or cells i None) (flat_map cell_bytes (drop (suc i) cells)) (All-get_or IsCell cells i None h all))
  where
    first : (c : Option ℤ) (rest : List ℕ) → IsCell c → little_number 4 (cell_bytes c ++ rest) ≡ cell_number c
    first None rest t = refl
    first (Some z) rest t = little_number-reads_back 4 (cast_unsigned w32 z) rest (Fits-lt-pow {w = w32} (Fits-of_z {w = w32} {z = z} t))

-- bytes of which each four are the number of a cell
pub words-by_numbers : (words : List ℕ) (cells : List (Option ℤ)) → ((k : ℕ) → slice_index words k < 256) → length words ≡ 4 * length cells
    → ((k : ℕ) → k < length cells → little_number 4 (drop (4 * k) words) ≡ cell_number (get_or cells k None)) → words ≡ flat_map cell_bytes cells
words-by_numbers [] [] small long each = refl
words-by_numbers (a ∷ words) [] small long each = absurd (omega arith)
words-by_numbers [] (c ∷ cells) small long each = absurd (omega arith)
words-by_numbers (a ∷ []) (c ∷ cells) small long each = absurd (omega arith)
words-by_numbers (a ∷ b ∷ []) (c ∷ cells) small long each = absurd (omega arith)
words-by_numbers (a ∷ b ∷ d ∷ []) (c ∷ cells) small long each = absurd (omega arith)
words-by_numbers (a ∷ b ∷ d ∷ e ∷ words) (c ∷ cells) small long each =
    let n = little_number 4 (a ∷ b ∷ d ∷ e ∷ words) in
    let bytes : little_bytes 4 n ≡ cell_bytes c = ap (little_bytes 4) (each 0 (omega arith)) in
    let first : a ∷ b ∷ d ∷ e ∷ [] ≡ cell_bytes c = sym (four a b d e words (small 0) (small 1) (small 2) (small 3)) ∙ bytes in
    let rest : words ≡ flat_map cell_bytes cells =
    words-by_numbers words cells (λ k. small (suc (suc (suc (suc k))))) (omega arith) (λ k h.
    let step : 4 * suc k ≡ 4 + 4 * k = omega arith in
    ap (little_number 4) (drop-drop (4 * k) 4 (a ∷ b ∷ d ∷ e ∷ words) ∙ ap (λ m. drop m (a ∷ b ∷ d ∷ e ∷ words)) (sym step)) ∙ each (suc k) (omega arith)) in
    ap (λ xs. xs ++ words) first ∙ ap (λ xs. cell_bytes c ++ xs) rest
