-- The comparisons of words of sections: a sum for each, whose carry into a delimiter tells.
use Rattle.std.proofs.Common.{◌≡◌, ◌≢◌, ℕ, zero, suc, ◌+◌, ◌-◌, ◌*◌, ◌/◌, ◌%◌, ◌^◌, ◌<◌, ◌≤◌, Bool, true, false, not, cond, ltb, leb, ◌==◌, inl, inr, bit_and, bit_or, bit_xor, refl, sym, ap, subst, ◌∙◌, arith}
use Rattle.std.proofs.lemmas.Nat.{pow_pos, pow-add, xor_lt, xor_block, and_block, mul-add-lt, div-add-mod', shl_whole, or_shifted}
use native.Mathlib.Nat.{mod-eq_of_lt}
use Rattle.std.proofs.lemmas.Nat.Bits.{and_pow, bit_at_above, bit_at-lt, bit_at-zero, bit_at_xor, same_from_bits}
use Rattle.std.proofs.Math.Nat.{div-eq_of_lt-le, pow-le-pow_right, mul-le-mul_right, mul-sub, zero-div, zero-mod}
use Rattle.std.proofs.lemmas.Bool.{cases_lt, cases_eq}
use Rattle.std.proofs.lemmas.Bool.Decides.{nat_tests}
use Rattle.std.specs.Int.Bits.{xor_self, xor_zero_l}
use Rattle.std.specs.Int.{bit_at}
use Rattle.bw_lane.specs.Sections.{lowest_bits, delimiter_bits, code_bits, sections_in, section_of, IsStored, IsCompared}
use Rattle.bw_lane.specs.declared.sections.LaneOp.TheVariants.{Eq, Ne, Lt, Le, Gt, Ge}
use Rattle.bw_lane.proofs.Sectionwise.{base, HoldsCodes, IsSectionwise, sectionwise, room_more}

pow-suc_left : (k : ℕ) → 2 ^ suc k ≡ 2 * 2 ^ k
pow-suc_left k = ap (λ e. 2 ^ e) {x = suc k} {y = k + 1} (omega arith) ∙ pow-add 2 k 1 ∙ omega arith

pub doubled : (k : ℕ) → base k ≡ 2 * 2 ^ k
doubled k = pow-add 2 k 1 ∙ (omega arith)

delimiters_more : (k s : ℕ) → delimiter_bits k (suc s) ≡ delimiter_bits k s * base k + 2 ^ k
delimiters_more k s = omega arith

codes_more : (k s : ℕ) → code_bits k (suc s) ≡ code_bits k s * base k + (2 ^ k - 1)
codes_more k s = omega arith

-- a code with each of its bits turned
flip_bit : (r : ℕ) → r < 2 → bit_xor r 1 ≡ 1 - r
flip_bit zero h = refl
flip_bit (suc zero) h = refl
flip_bit (suc (suc r)) h = absurd (omega arith)

pub xor_ones : (k a : ℕ) → a < 2 ^ k → bit_xor a (2 ^ k - 1) ≡ 2 ^ k - 1 - a
xor_ones zero a h =
    let e : a ≡ 0 = omega arith in
    subst (λ n. bit_xor n (2 ^ 0 - 1) ≡ 2 ^ 0 - 1 - n) (sym e) refl
xor_ones (suc k) a h =
    let twice : 2 ^ suc k ≡ 2 * 2 ^ k = pow-suc_left k in
    let some : 0 < 2 ^ k = pow_pos k in
    let whole : a ≡ a / 2 * 2 + a % 2 = omega arith in
    let ones : 2 ^ suc k - 1 ≡ (2 ^ k - 1) * 2 + 1 = omega arith in
    let half : a / 2 < 2 ^ k = omega arith in
    let bit : a % 2 < 2 = omega arith in
    let high = xor_ones k (a / 2) half in
    let low = flip_bit (a % 2) bit in
    let both : bit_xor a (2 ^ suc k - 1) ≡ bit_xor (a / 2) (2 ^ k - 1) * 2 + bit_xor (a % 2) 1 =
    ap (λ n. bit_xor n (2 ^ suc k - 1)) whole ∙ ap (λ n. bit_xor (a / 2 * 2 + a % 2) n) ones ∙ xor_block 1 (a / 2) (2 ^ k - 1) (a % 2) 1 bit (omega arith) in
    omega arith

pub xor_zero : (a b : ℕ) → bit_xor a b ≡ 0 → a ≡ b
xor_zero a b e = same_from_bits a b (λ i. omega (arith, bit_at_xor a b i, bit_at-lt a i, bit_at-lt b i, ap (λ n. bit_at n i) e, bit_at-zero i))

-- the delimiter of a sum of two codes
pub top : (k n : ℕ) → n < base k → bit_and n (2 ^ k) ≡ cond (leb (2 ^ k) n) (2 ^ k) 0
top k n h =
    let bits = and_pow n k in
    elim (cases_lt n (2 ^ k)) [
      | inl lt ↦
          let e : bit_at n k ≡ 0 = bit_at_above n k k lt (omega arith) in
          grind (arith, nat_tests)
      | inr ge ↦
          let below : n < 2 * 2 ^ k = omega (arith, doubled k) in
          let one : n / 2 ^ k ≡ 1 = div-eq_of_lt-le (2 ^ k) (omega arith) (omega arith) in
          let e : bit_at n k ≡ 1 = ap (λ m. m % 2) one in
          grind (arith, nat_tests)
    ]

-- The words of sums, and the sums in one section
abbrev pub unequal_sum : ℕ → ℕ → ℕ → ℕ → ℕ
unequal_sum k s x y = bit_xor x y + code_bits k s

abbrev pub less_sum : ℕ → ℕ → ℕ → ℕ → ℕ
less_sum k s x y = y + bit_xor x (code_bits k s)

abbrev pub at_most_sum : ℕ → ℕ → ℕ → ℕ → ℕ
at_most_sum k s x y = y + bit_xor x (code_bits k s) + lowest_bits k s

-- where the sum of two codes reaches the delimiter exactly if a test holds, the delimiters of the word of sums are the tests
module _ (k : ℕ) (sum : ℕ → ℕ → ℕ → ℕ) (one : ℕ → ℕ → ℕ) (test : ℕ → ℕ → Bool)
    (none : sum 0 0 0 ≡ 0)
    (more : (s x y a b : ℕ) → a < 2 ^ k → b < 2 ^ k → sum (suc s) (x * base k + a) (y * base k + b) ≡ sum s x y * base k + one a b)
    (fits : (a b : ℕ) → a < 2 ^ k → b < 2 ^ k → one a b < base k)
    (tells : (a b : ℕ) → a < 2 ^ k → b < 2 ^ k → leb (2 ^ k) (one a b) ≡ test a b) where
  pub sums : (s x y : ℕ) → HoldsCodes k s x → HoldsCodes k s y → IsSectionwise k one s x y (sum s x y)
  sums = sectionwise k sum one none more fits

  abbrev mark : ℕ → ℕ → ℕ → ℕ
  mark s x y = bit_and (sum s x y) (delimiter_bits k s)

  small : 2 ^ k < base k
  small = omega (arith, doubled k, pow_pos k)

  mark_none : mark 0 0 0 ≡ 0
  mark_none = ap (λ n. bit_and n (delimiter_bits k 0)) none

  mark_more : (s x y a b : ℕ) → a < 2 ^ k → b < 2 ^ k → mark (suc s) (x * base k + a) (y * base k + b) ≡ mark s x y * base k + cond (test a b) (2 ^ k) 0
  mark_more s x y a b p q =
      ap (λ n. bit_and n (delimiter_bits k (suc s))) (more s x y a b p q)
      ∙ ap (λ n. bit_and (sum s x y * base k + one a b) n) (delimiters_more k s)
      ∙ and_block (k + 1) (sum s x y) (delimiter_bits k s) (one a b) (2 ^ k) (fits a b p q) small
      ∙ ap (λ n. mark s x y * base k + n) (top k (one a b) (fits a b p q) ∙ ap (λ t. cond t (2 ^ k) 0) (tells a b p q))

  cond_small : (t : Bool) → cond t (2 ^ k) 0 < base k
  cond_small true = small
  cond_small false = pow_pos (k + 1)

  pub marks : (s x y : ℕ) → HoldsCodes k s x → HoldsCodes k s y → IsSectionwise k (λ a b. cond (test a b) (2 ^ k) 0) s x y (mark s x y)
  marks = sectionwise k mark (λ a b. cond (test a b) (2 ^ k) 0) mark_none mark_more (λ a b p q. cond_small (test a b))

  abbrev turned : ℕ → ℕ → ℕ → ℕ
  turned s x y = bit_xor (mark s x y) (delimiter_bits k s)

  turn : (t : Bool) → bit_xor (cond t (2 ^ k) 0) (2 ^ k) ≡ cond (not t) (2 ^ k) 0
  turn true = xor_self (2 ^ k)
  turn false = xor_zero_l (2 ^ k)

  turned_none : turned 0 0 0 ≡ 0
  turned_none = ap (λ n. bit_xor n (delimiter_bits k 0)) mark_none ∙ xor_zero_l (delimiter_bits k 0) ∙ omega arith

  turned_more : (s x y a b : ℕ) → a < 2 ^ k → b < 2 ^ k → turned (suc s) (x * base k + a) (y * base k + b) ≡ turned s x y * base k + cond (not (test a b)) (2 ^ k) 0
  turned_more s x y a b p q =
      ap (λ n. bit_xor n (delimiter_bits k (suc s))) (mark_more s x y a b p q)
      ∙ ap (λ n. bit_xor (mark s x y * base k + cond (test a b) (2 ^ k) 0) n) (delimiters_more k s)
      ∙ xor_block (k + 1) (mark s x y) (delimiter_bits k s) (cond (test a b) (2 ^ k) 0) (2 ^ k) (cond_small (test a b)) small
      ∙ ap (λ n. turned s x y * base k + n) (turn (test a b))

  pub turns : (s x y : ℕ) → HoldsCodes k s x → HoldsCodes k s y → IsSectionwise k (λ a b. cond (not (test a b)) (2 ^ k) 0) s x y (turned s x y)
  turns = sectionwise k turned (λ a b. cond (not (test a b)) (2 ^ k) 0) turned_none turned_more (λ a b p q. cond_small (not (test a b)))

module _ (k : ℕ) where
  ones_fit : 2 ^ k - 1 < base k
  ones_fit = omega (arith, doubled k, pow_pos k)

  code_fits : (a : ℕ) → a < 2 ^ k → a < base k
  code_fits a p = omega (arith, doubled k)

  abbrev unequal_one : ℕ → ℕ → ℕ
  unequal_one a b = bit_xor a b + (2 ^ k - 1)

  unequal_none : unequal_sum k 0 0 0 ≡ 0
  unequal_none = omega arith

  unequal_more : (s x y a b : ℕ) → a < 2 ^ k → b < 2 ^ k → unequal_sum k (suc s) (x * base k + a) (y * base k + b) ≡ unequal_sum k s x y * base k + unequal_one a b
  unequal_more s x y a b p q =
      let apart = xor_block (k + 1) x y a b (code_fits a p) (code_fits b q) in
      omega (arith, codes_more k s)

  unequal_fits : (a b : ℕ) → a < 2 ^ k → b < 2 ^ k → unequal_one a b < base k
  unequal_fits a b p q = omega (arith, xor_lt k a b p q, doubled k)

  unequal_tells : (a b : ℕ) → a < 2 ^ k → b < 2 ^ k → leb (2 ^ k) (unequal_one a b) ≡ not (a == b)
  unequal_tells a b p q =
      elim (cases_eq a b) [
        | inl e ↦
            let none : bit_xor a b ≡ 0 = subst (λ n. bit_xor a n ≡ 0) e (xor_self a) in
            let pos : 0 < 2 ^ k = pow_pos k in
            grind (arith, nat_tests)
        | inr ne ↦
            let some : bit_xor a b ≢ 0 = λ e. ne (xor_zero a b e) in
            grind (arith, nat_tests)
      ]

  flipped_more : (s x a : ℕ) → a < 2 ^ k → bit_xor (x * base k + a) (code_bits k (suc s)) ≡ bit_xor x (code_bits k s) * base k + bit_xor a (2 ^ k - 1)
  flipped_more s x a p =
      ap (λ n. bit_xor (x * base k + a) n) (codes_more k s) ∙ xor_block (k + 1) x (code_bits k s) a (2 ^ k - 1) (code_fits a p) ones_fit

  abbrev less_one : ℕ → ℕ → ℕ
  less_one a b = b + bit_xor a (2 ^ k - 1)

  less_none : less_sum k 0 0 0 ≡ 0
  less_none = omega (arith, xor_zero_l (code_bits k 0))

  less_more : (s x y a b : ℕ) → a < 2 ^ k → b < 2 ^ k → less_sum k (suc s) (x * base k + a) (y * base k + b) ≡ less_sum k s x y * base k + less_one a b
  less_more s x y a b p q = let apart = flipped_more s x a p in omega arith

  less_fits : (a b : ℕ) → a < 2 ^ k → b < 2 ^ k → less_one a b < base k
  less_fits a b p q = omega (arith, xor_ones k a p, doubled k)

  less_tells : (a b : ℕ) → a < 2 ^ k → b < 2 ^ k → leb (2 ^ k) (less_one a b) ≡ ltb a b
  less_tells a b p q = let e = xor_ones k a p in grind (arith, nat_tests)

  abbrev at_most_one : ℕ → ℕ → ℕ
  at_most_one a b = b + bit_xor a (2 ^ k - 1) + 1

  at_most_none : at_most_sum k 0 0 0 ≡ 0
  at_most_none = omega (arith, less_none)

  at_most_more : (s x y a b : ℕ) → a < 2 ^ k → b < 2 ^ k → at_most_sum k (suc s) (x * base k + a) (y * base k + b) ≡ at_most_sum k s x y * base k + at_most_one a b
  at_most_more s x y a b p q = let apart = flipped_more s x a p in omega arith

  at_most_fits : (a b : ℕ) → a < 2 ^ k → b < 2 ^ k → at_most_one a b < base k
  at_most_fits a b p q = omega (arith, xor_ones k a p, doubled k)

  at_most_tells : (a b : ℕ) → a < 2 ^ k → b < 2 ^ k → leb (2 ^ k) (at_most_one a b) ≡ leb a b
  at_most_tells a b p q = let e = xor_ones k a p in grind (arith, nat_tests)

held : (k word : ℕ) → IsStored k word → HoldsCodes k (sections_in k) word
held k word p = record { no_spare = p.no_spare; codes = p.codes }

-- what a word of sections counts up to fits a word
pub room : (k : ℕ) → 2 ^ (sections_in k * (k + 1)) ≤ 2 ^ 64
room k =
    let fits : sections_in k * (k + 1) ≤ 64 = omega (arith, div-add-mod' 64 (k + 1)) in
    pow-le-pow_right (omega arith) fits

not_twice : (b : Bool) → not (not b) ≡ b
not_twice true = refl
not_twice false = refl

module _ (k x y : ℕ) (p : IsStored k x) (q : IsStored k y) where
  abbrev s : ℕ
  s = sections_in k

  pub unequal_fits_word : unequal_sum k s x y < 2 ^ 64
  unequal_fits_word =
      let all = sums k (unequal_sum k) (unequal_one k) (λ a b. not (a == b)) (unequal_none k) (unequal_more k) (unequal_fits k) (unequal_tells k) s x y (held k x p) (held k y q) in
      omega (arith, all.no_spare, room k)

  pub less_fits_word : less_sum k s x y < 2 ^ 64
  less_fits_word =
      let all = sums k (less_sum k) (less_one k) ltb (less_none k) (less_more k) (less_fits k) (less_tells k) s x y (held k x p) (held k y q) in
      omega (arith, all.no_spare, room k)

  pub at_most_fits_word : at_most_sum k s x y < 2 ^ 64
  at_most_fits_word =
      let all = sums k (at_most_sum k) (at_most_one k) leb (at_most_none k) (at_most_more k) (at_most_fits k) (at_most_tells k) s x y (held k x p) (held k y q) in
      omega (arith, all.no_spare, room k)

  pub unequal : IsCompared Ne k x y (bit_and (unequal_sum k s x y) (delimiter_bits k s))
  unequal =
      let all = marks k (unequal_sum k) (unequal_one k) (λ a b. not (a == b)) (unequal_none k) (unequal_more k) (unequal_fits k) (unequal_tells k) s x y (held k x p) (held k y q) in
      record { no_spare = all.no_spare; delimiters = all.each }

  pub equal : IsCompared Eq k x y (bit_xor (bit_and (unequal_sum k s x y) (delimiter_bits k s)) (delimiter_bits k s))
  equal =
      let all = turns k (unequal_sum k) (unequal_one k) (λ a b. not (a == b)) (unequal_none k) (unequal_more k) (unequal_fits k) (unequal_tells k) s x y (held k x p) (held k y q) in
      record {
        no_spare = all.no_spare;
        delimiters = λ t h. all.each t h ∙ ap (λ b. cond b (2 ^ k) 0) (not_twice (section_of k t x == section_of k t y));
      }

  pub less : IsCompared Lt k x y (bit_and (less_sum k s x y) (delimiter_bits k s))
  less =
      let all = marks k (less_sum k) (less_one k) ltb (less_none k) (less_more k) (less_fits k) (less_tells k) s x y (held k x p) (held k y q) in
      record { no_spare = all.no_spare; delimiters = all.each }

  pub at_most : IsCompared Le k x y (bit_and (at_most_sum k s x y) (delimiter_bits k s))
  at_most =
      let all = marks k (at_most_sum k) (at_most_one k) leb (at_most_none k) (at_most_more k) (at_most_fits k) (at_most_tells k) s x y (held k x p) (held k y q) in
      record { no_spare = all.no_spare; delimiters = all.each }

-- a comparison with its operands exchanged
pub exchanged_less : (k x y out : ℕ) → IsCompared Lt k x y out → IsCompared Gt k y x out
exchanged_less k x y out h = record { no_spare = h.no_spare; delimiters = h.delimiters }

pub exchanged_at_most : (k x y out : ℕ) → IsCompared Le k x y out → IsCompared Ge k y x out
exchanged_at_most k x y out h = record { no_spare = h.no_spare; delimiters = h.delimiters }

-- ---- how the masks are computed

lowest_room : (k s : ℕ) → delimiter_bits k s < 2 ^ (s * (k + 1))
lowest_room k zero = omega (arith, pow_pos (0 * (k + 1)))
lowest_room k (suc s) =
    let small : 2 ^ k < base k = omega (arith, doubled k, pow_pos k) in
    omega (arith, room_more k s, mul-add-lt (delimiter_bits k s) (base k) (2 ^ k) (2 ^ (s * (k + 1))) (lowest_room k s) small, delimiters_more k s)

lowest_small : (k s : ℕ) → lowest_bits k s ≤ delimiter_bits k s
lowest_small k s = grind (arith, pow_pos k)

pub next_lowest : (k t : ℕ) → t < sections_in k → bit_or (lowest_bits k t * 2 ^ (k + 1) % 2 ^ 64) 1 ≡ lowest_bits k (t + 1)
next_lowest k t h =
    let places : (t + 1) * (k + 1) ≤ 64 = omega (arith, div-add-mod' 64 (k + 1), mul-le-mul_right (k + 1) h) in
    let small : lowest_bits k t < 2 ^ (t * (k + 1)) = omega (arith, lowest_room k t, lowest_small k t) in
    let one : 1 < 2 ^ (k + 1) = omega (arith, doubled k, pow_pos k) in
    ap (λ n. bit_or n 1) (shl_whole (lowest_bits k t) (t * (k + 1)) (k + 1) 64 small (omega arith)) ∙ or_shifted (lowest_bits k t) (k + 1) 1 one ∙ ap (lowest_bits k) {x = suc t} {y = t + 1} (omega arith)

pub delimiters_fit : (k : ℕ) → delimiter_bits k (sections_in k) < 2 ^ 64
delimiters_fit k = omega (arith, lowest_room k (sections_in k), room k)

pub shifted_delimiters : (k : ℕ) → lowest_bits k (sections_in k) * 2 ^ k % 2 ^ 64 ≡ delimiter_bits k (sections_in k)
shifted_delimiters k = mod-eq_of_lt (delimiters_fit k)

pub codes_between : (k s : ℕ) → (lowest_bits k s ≤ delimiter_bits k s) × (delimiter_bits k s - lowest_bits k s ≡ code_bits k s)
codes_between k s = (lowest_small k s, omega (arith, mul-sub (lowest_bits k s) (2 ^ k) 1))

-- ---- the word that holds one code everywhere

module _ (k c : ℕ) (small : c < 2 ^ k) where
  all_zero : (s : ℕ) → HoldsCodes k s 0
  all_zero s = record {
    no_spare = pow_pos (s * (k + 1));
    codes = λ t h. subst (λ n. n < 2 ^ k) (sym (zero-div-mod (2 ^ (t * (k + 1))) (base k))) (pow_pos k);
  }
    where
      zero-div-mod : (m n : ℕ) → 0 / m % n ≡ 0
      zero-div-mod m n = ap (λ q. q % n) (zero-div m) ∙ zero-mod n

  filled_more : (s : ℕ) → lowest_bits k (suc s) * c ≡ lowest_bits k s * c * base k + c
  filled_more s = omega arith

  pub filled : (s : ℕ) → IsSectionwise k (λ _ _. c) s 0 0 (lowest_bits k s * c)
  filled s = sectionwise k (λ s _ _. lowest_bits k s * c) (λ _ _. c) (omega arith) (λ s _ _ _ _ _ _. filled_more s) (λ _ _ _ _. code_fits k c small) s 0 0 (all_zero s) (all_zero s)

  pub filled_stored : IsStored k (lowest_bits k (sections_in k) * c)
  filled_stored = record {
    no_spare = (filled (sections_in k)).no_spare;
    codes = λ t h. subst (λ n. n < 2 ^ k) (sym ((filled (sections_in k)).each t h)) small;
  }

  pub filled_fits : lowest_bits k (sections_in k) * c < 2 ^ 64
  filled_fits = omega (arith, (filled (sections_in k)).no_spare, room k)
