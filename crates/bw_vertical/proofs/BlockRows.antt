-- Rows of a block of planes, and rows of the segments that a block holds.
use Rattle.std.proofs.Common.{Bool, List, [], ap, arith, cond, false, get_or, inl, inr, length, refl, subst, sym, true, ℕ, ◌%◌, ◌*◌, ◌+◌, ◌/◌, ◌<◌, ◌==◌, ◌^◌, ◌≡◌, ◌≤◌, ◌∙◌}
use Rattle.std.specs.Simd.Lanes.{mask_l}
use Rattle.std.proofs.Math.Nat.{mul-le-mul_right}
use Rattle.std.proofs.lemmas.Bool.{cases_lt}
use Rattle.std.proofs.lemmas.List.{get_or_past}
use Rattle.std.proofs.lemmas.Simd.{bit_mask_l, mask_l-lt}
use Rattle.bw_code.proofs.Lists.{made_at, made_len}
use Rattle.bw_code.specs.Lists.{made}
use Rattle.bw_mask.specs.Masks.{bit_of, row_in, rows_of}
use Rattle.bw_mask.proofs.Bits.{bit_of_zero}
use Rattle.bw_mask.proofs.Views.{rows_at, rows_len}
use Rattle.bw_vertical.specs.Planes.{code_by_planes}
use Rattle.bw_vertical.specs.Storage.{is_set, planes_in, word_of}

-- the number of a row fits k bits
pub code_by_planes_lt : (k : ℕ) (block : List (List ℕ)) (r : ℕ) → code_by_planes k block r < 2 ^ k
code_by_planes_lt k block r =
    let f = λ (b : ℕ). row_in (get_or block b []) r in
    subst (λ n. mask_l (rows_of k f) < 2 ^ n) (rows_len k f) (mask_l-lt (rows_of k f))

-- bit b of the number of a row is the row of plane b
pub code_by_planes_bit : (k : ℕ) (block : List (List ℕ)) (r b : ℕ) → b < k → bit_of (code_by_planes k block r) b ≡ row_in (get_or block b []) r
code_by_planes_bit k block r b h =
    let f = λ (i : ℕ). row_in (get_or block i []) r in
    ap (λ x. x == 1) (bit_mask_l (rows_of k f) b ∙ ap (λ t. cond {A = ℕ} t 1 0) (rows_at k f b h)) ∙ one (f b)
  where
    one : (t : Bool) → (cond {A = ℕ} t 1 0 == 1) ≡ t
    one true = refl
    one false = refl

-- a row of plane b is bit b of the row's number, also past the last row
pub row_of_planes : (k n rows : ℕ) (block : List (List ℕ)) → ((b r : ℕ) → b < k → n ≤ r → r < rows → row_in (get_or block b []) r ≡ false) → (b r : ℕ) → b < k → r < rows
    → row_in (get_or block b []) r ≡ bit_of (get_or (made n (code_by_planes k block)) r 0) b
row_of_planes k n rows block rest b r h l =
    elim (cases_lt r n) [
      | inl low ↦ sym (code_by_planes_bit k block r b h) ∙ ap (λ c. bit_of c b) (sym (made_at n (code_by_planes k block) r 0 low))
      | inr past ↦ rest b r h past l ∙ sym (bit_of_zero b) ∙ ap (λ c. bit_of c b) (sym (get_or_past (made n (code_by_planes k block)) r 0 (omega (arith, past, made_len n (code_by_planes k block)))))
    ]

-- the words from row `at` on, the first row of a segment, are those of a plane of a block: so are the rows
pub block_row : (k i at r : ℕ) (gs : List (List (List ℕ))) (plane : List ℕ) → at % 256 ≡ 0 → word_of k gs i (4 * (at / 256) + r / 64) ≡ get_or plane (r / 64) 0
    → is_set k gs i (at + r) ≡ row_in plane r
block_row k i at r gs plane first same =
    let word : (at + r) / 64 ≡ 4 * (at / 256) + r / 64 = omega (arith, first) in
    let bit : (at + r) % 64 ≡ r % 64 = omega (arith, first) in
    ap (λ w. bit_of (word_of k gs i w) ((at + r) % 64)) word ∙ ap (bit_of (word_of k gs i (4 * (at / 256) + r / 64))) bit ∙ ap (λ w. bit_of w (r % 64)) same

-- no row past the last segment is set
pub none_past : (k s i j : ℕ) (gs : List (List (List ℕ))) → length (get_or gs (i / 4) []) ≡ s * planes_in k (i / 4) → 256 * s ≤ j → is_set k gs i j ≡ false
none_past k s i j gs size h =
    let past : s ≤ j / 64 / 4 = omega (arith, h) in
    let place = j / 64 / 4 * planes_in k (i / 4) + i % 4 in
    let behind : length (get_or gs (i / 4) []) ≤ place = omega (arith, size, mul-le-mul_right (planes_in k (i / 4)) past) in
    ap (λ plane. bit_of (get_or plane (j / 64 % 4) 0) (j % 64)) (get_or_past (get_or gs (i / 4) []) place [] behind) ∙ bit_of_zero (j % 64)
