-- Sums of rows by runs: a row more, and a run of which no row is in.
use Rattle.std.proofs.Common.{Bool, List, [], ap, arith, drop, false, get_or, if◌then◌else◌, length, length-drop, ltb, refl, suc, sum, sym, take, true, w64, zero, ℕ, ℤ, ◌&&◌, ◌*◌, ◌+◌, ◌+ℤ◌, ◌-◌, ◌<◌, ◌^◌, ◌≡◌, ◌≤◌, ◌∙◌, ◌∷◌}
use Rattle.std.proofs.lemmas.Int.{ints}
use Rattle.std.proofs.lemmas.Bool.Decides.{nat_tests}
use Rattle.std.proofs.lemmas.List.{get_or-drop, get_or-take}
use Rattle.std.proofs.lemmas.List.Sums.{sum_by-cons, sum_by_more}
use Rattle.std.specs.Int.{w128}
use Rattle.std.specs.List.{items_where_true}
use Rattle.std.specs.Prelude.{FitsSigned, unsigned_abs}
use mir.Val.{of_z, to_z}
use Rattle.bw_mask.specs.Masks.{bit_of}
use Rattle.bw_mask.proofs.Bits.{bit_of_ones, bit_of_zero}
use Rattle.bw_aggregate.specs.Runs.{IsRun, code_sum}

-- the code of a row that is in; 0 where it isn't
abbrev pub code_in : List Bool → List ℕ → ℕ → ℕ
code_in rows codes r = if get_or rows r false then get_or codes r 0 else 0

pub sum_more : (rows : List Bool) (codes : List ℕ) (r : ℕ) → r < length rows → r < length codes → code_sum rows codes (suc r) ≡ code_sum rows codes r + code_in rows codes r
sum_more [] codes r a b = absurd (omega (arith, a))
sum_more (m ∷ rows) [] r a b = absurd (omega (arith, b))
sum_more (true ∷ rows) (c ∷ codes) zero a b = omega (arith, sum_by-cons (λ (x : ℕ). x) c [])
sum_more (false ∷ rows) (c ∷ codes) zero a b = refl
sum_more (true ∷ rows) (c ∷ codes) (suc r) a b =
    let rest = sum_more rows codes r (omega (arith, a)) (omega (arith, b)) in
    omega (arith, rest, sum_by-cons (λ (x : ℕ). x) c (items_where_true (take r rows) (take r codes)), sum_by-cons (λ (x : ℕ). x) c (items_where_true (take (suc r) rows) (take (suc r) codes)))
sum_more (false ∷ rows) (c ∷ codes) (suc r) a b = sum_more rows codes r (omega (arith, a)) (omega (arith, b))

-- an item of a run
pub item_of_run : {A : Type 0} (xs all : List A) (at i : ℕ) (d : A) → xs ≡ take (length xs) (drop at all) → i < length xs → get_or all (at + i) d ≡ get_or xs i d
item_of_run xs all at i d is h =
    let read : get_or (take (length xs) (drop at all)) i d ≡ get_or all (at + i) d = get_or-take (length xs) (drop at all) i d h ∙ get_or-drop at all i d in
    sym_ap read
  where
    sym_ap : get_or (take (length xs) (drop at all)) i d ≡ get_or all (at + i) d → get_or all (at + i) d ≡ get_or xs i d
    sym_ap read = let whole : get_or xs i d ≡ get_or (take (length xs) (drop at all)) i d = ap (λ ys. get_or ys i d) is in cc

module _ (rows : List Bool) (at n word : ℕ) (run : IsRun rows at n word) where
  -- one row of a run more
  pub sum_row : (codes all : List ℕ) (i c sum : ℕ) → length rows ≡ length all → codes ≡ take (length codes) (drop at all) → n ≡ length codes → i < n → c ≡ (if bit_of word i then get_or codes i 0 else 0)
      → code_sum rows all (at + i) ≡ code_sum rows all at + sum → code_sum rows all (at + (i + 1)) ≡ code_sum rows all at + (sum + c)
  sum_row codes all i c sum same is count h code before =
      let place : at + (i + 1) ≡ suc (at + i) = omega arith in
      let more = sum_more rows all (at + i) (omega (arith, run.inside, h)) (omega (arith, run.inside, h, same)) in
      let here : code_in rows all (at + i) ≡ c = rw (run.bits i h, item_of_run codes all at i 0 is (omega (arith, h, count)), code) refl in
      ap (code_sum rows all) place ∙ omega (arith, more, here, before)

-- a run of which no row is in
module _ (rows : List Bool) (at : ℕ) where
  pub sum_none : (all : List ℕ) (n : ℕ) → length rows ≡ length all → IsRun rows at n 0 → code_sum rows all (at + n) ≡ code_sum rows all at + 0
  sum_none all zero same run = let e : at + zero ≡ at = omega arith in ap (code_sum rows all) e ∙ omega arith
  sum_none all (suc n) same run =
      let shorter : IsRun rows at n 0 = record { inside = omega (arith, run.inside); bits = λ i h. run.bits i (omega (arith, h)) } in
      let place : at + suc n ≡ suc (at + n) = omega arith in
      let more = sum_more rows all (at + n) (omega (arith, run.inside)) (omega (arith, run.inside, same)) in
      let out : get_or rows (at + n) false ≡ false = run.bits n (omega arith) ∙ bit_of_zero n in
      let none : code_in rows all (at + n) ≡ 0 = rw out refl in
      ap (code_sum rows all) place ∙ omega (arith, more, none, sum_none all n same shorter)

-- a run of which all rows are in
pub sum_whole : (rows : List Bool) (all : List ℕ) (at n : ℕ) → n ≤ 64 → length rows ≡ length all → IsRun rows at n (2 ^ 64 - 1) → code_sum rows all (at + n) ≡ code_sum rows all at + sum (take n (drop at all))
sum_whole rows all at zero few same run = let e : at + zero ≡ at = omega arith in ap (code_sum rows all) e ∙ omega arith
sum_whole rows all at (suc n) few same run =
    let shorter : IsRun rows at n (2 ^ 64 - 1) = record { inside = omega (arith, run.inside); bits = λ i h. run.bits i (omega (arith, h)) } in
    let place : at + suc n ≡ suc (at + n) = omega arith in
    let more = sum_more rows all (at + n) (omega (arith, run.inside)) (omega (arith, run.inside, same)) in
    let set : bit_of (2 ^ 64 - 1) n ≡ true = let ones = bit_of_ones 64 n (omega arith) in let low : ltb n 64 ≡ true = grind (arith, nat_tests, few) in ones ∙ low in
    let is_in : get_or rows (at + n) false ≡ true = run.bits n (omega arith) ∙ set in
    let code : code_in rows all (at + n) ≡ get_or all (at + n) 0 = rw is_in refl in
    let d : suc n ≡ n + 1 = omega arith in
    let item = sum_by_more (λ (c : ℕ). c) (drop at all) n 0 (omega (arith, length-drop at all, run.inside, same)) in
    let read = get_or-drop at all n 0 in
    let last : sum (take (suc n) (drop at all)) ≡ sum (take n (drop at all)) + get_or all (at + n) 0 = ap (λ m. sum (take m (drop at all))) d ∙ omega (arith, item, read) in
    ap (code_sum rows all) place ∙ omega (arith, more, code, last, sum_whole rows all at n (omega (arith, few)) same shorter)

pub few_in : (b : Bool) (code : ℕ) → code < 2 ^ 32 → (if b then code else 0) ≤ 2 ^ 32
few_in true code h = omega (arith, h)
few_in false code h = omega arith

-- one value of 64 bits more in a run does not wrap
pub added_in : (sum value : ℤ) (i : ℕ) → unsigned_abs sum ≤ i * 2 ^ 63 → i < 64 → FitsSigned w64 value
    → (to_z w128 (of_z w128 (sum +ℤ to_z w128 (of_z w128 (to_z w64 (of_z w64 value))))) ≡ sum +ℤ value) × (unsigned_abs (sum +ℤ value) ≤ (i + 1) * 2 ^ 63)
added_in sum value i small few fits =
    let first : to_z w64 (of_z w64 value) ≡ value = omega (arith, ints, fits) in
    let second : to_z w128 (of_z w128 value) ≡ value = omega (arith, ints, fits) in
    let most : unsigned_abs value ≤ 2 ^ 63 = omega (arith, ints, fits) in
    let whole : unsigned_abs sum ≤ 2 ^ 69 = omega (arith, small, few) in
    (rw (first, second) (omega (arith, ints, most, whole)), omega (arith, ints, most, small))

-- one run more does not wrap
pub run_added : (sum run : ℤ) (q : ℕ) → unsigned_abs sum ≤ q * (64 * 2 ^ 63) → q < 2 ^ 24 → unsigned_abs run ≤ 64 * 2 ^ 63
    → (to_z w128 (of_z w128 (sum +ℤ to_z w128 (of_z w128 run))) ≡ sum +ℤ run) × (unsigned_abs (sum +ℤ run) ≤ (q + 1) * (64 * 2 ^ 63))
run_added sum run q small few most =
    let first : to_z w128 (of_z w128 run) ≡ run = omega (arith, ints, most) in
    let whole : unsigned_abs sum ≤ 2 ^ 93 = omega (arith, small, few) in
    (rw first (omega (arith, ints, most, whole)), omega (arith, ints, most, small))

-- the bits of a mask from a place on are a run of its rows
pub run_of_bits : (rows : List Bool) (at n word : ℕ) → at + n ≤ length rows → n ≤ 64 → ((i : ℕ) → bit_of word i ≡ (ltb i 64 && get_or rows (at + i) false)) → IsRun rows at n word
run_of_bits rows at n word inside few each = record {
  inside = inside;
  bits = λ i h. let low : ltb i 64 ≡ true = grind (arith, nat_tests, h, few) in sym (each i ∙ ap (λ b. b && get_or rows (at + i) false) low);
}
