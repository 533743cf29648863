-- Codes counted by a digit, and the digit of one entry of the sorted codes.
use Rattle.std.proofs.Common.{Bool, List, [], ap, arith, cond, count_by, drop, false, get_or, inl, inr, length, nat_le, nat_lt, pow-add, pow_pos, set, refl, subst, suc, sum, sym, take, true, zero, ℕ, ◌&&◌, ◌*◌, ◌+◌, ◌-◌, ◌/◌, ◌<◌, ◌==◌, ◌^◌, ◌≡◌, ◌≤◌, ◌∙◌, ◌∷◌}
use Rattle.std.proofs.lemmas.Bool.{cases_eq, cases_lt, true≢false}
use Rattle.std.proofs.lemmas.Bool.Decides.{nat_tests}
use Rattle.std.proofs.lemmas.List.Sums.{sum_by_more}
use Rattle.std.specs.List.{items_where_true}
use Rattle.std.specs.Prelude.{All}
use Rattle.bw_mask.specs.Masks.{MaskRows, bit_of, row_at, rows_of}
use Rattle.bw_mask.proofs.Bits.{bit_of_zero}
use Rattle.bw_mask.proofs.Views.{rows_clean, rows_len}
use Rattle.std.proofs.lemmas.List.{get_or-set_other, get_or-set_same, get_or_past, take_all}
use Rattle.std.proofs.Math.Nat.{div-div-eq-div-mul, div-eq_of_lt, div-eq_of_lt-le, div-lt_iff_lt-mul, div-mul-le_self, lt-div-mul-add, mul-le-mul_left, mul-le-mul_right, pow-le-pow_right}
use Rattle.bw_aggregate.specs.Descents.{IsRest, front}
use Rattle.bw_aggregate.specs.Digits.{AreLeft, front_count}
use Rattle.bw_aggregate.specs.Runs.{IsRun}
use Rattle.bw_aggregate.proofs.Counting.{count_cons, count_mask, count_same, count_split}
use Rattle.bw_aggregate.proofs.RowsMore.{item_of_run}

-- one more at a place
pub added_at : (counts : List ℕ) (place k : ℕ) → place < length counts → get_or (set counts place (get_or counts place 0 + 1)) k 0 ≡ get_or counts k 0 + cond {A = ℕ} (place == k) 1 0
added_at counts place k there =
    elim (cases_eq place k) [
      | inl e ↦
          let it : (place == k) ≡ true = grind (arith, nat_tests, e) in
          let same : get_or (set counts place (get_or counts place 0 + 1)) place 0 ≡ get_or counts place 0 + 1 = get_or-set_same counts place (get_or counts place 0 + 1) 0 there in
          rw it (subst (λ m. get_or (set counts place (get_or counts place 0 + 1)) m 0 ≡ get_or counts m 0 + 1) e same)
      | inr d ↦
          let not_it : (place == k) ≡ false = grind (arith, nat_tests, d) in
          rw not_it (get_or-set_other counts place k (get_or counts place 0 + 1) 0 (λ e. d (sym e)) ∙ omega arith)
    ]

pub one_at_most : (b : Bool) → cond {A = ℕ} b 1 0 ≤ 1
one_at_most true = omega arith
one_at_most false = omega arith

-- one row more
pub front_more : (rows : List Bool) (codes : List ℕ) (n i x : ℕ) → n < length rows → n < length codes
    → front_count rows codes (suc n) i x ≡ front_count rows codes n i x + cond {A = ℕ} (get_or rows n false && (front i (get_or codes n 0) == x)) 1 0
front_more [] codes n i x a b = absurd (omega (arith, a))
front_more (m ∷ rows) [] n i x a b = absurd (omega (arith, b))
front_more (true ∷ rows) (c ∷ codes) zero i x a b = omega (arith, count_cons (λ d. front i d == x) c [])
front_more (false ∷ rows) (c ∷ codes) zero i x a b = refl
front_more (true ∷ rows) (c ∷ codes) (suc n) i x a b =
    let rest = front_more rows codes n i x (omega (arith, a)) (omega (arith, b)) in
    omega (arith, rest, count_cons (λ d. front i d == x) c (items_where_true (take n rows) (take n codes)), count_cons (λ d. front i d == x) c (items_where_true (take (suc n) rows) (take (suc n) codes)))
front_more (false ∷ rows) (c ∷ codes) (suc n) i x a b = front_more rows codes n i x (omega (arith, a)) (omega (arith, b))

-- a run of which no row is in
pub front_none : (rows : List Bool) (all : List ℕ) (at n i x : ℕ) → length rows ≡ length all → IsRun rows at n 0 → front_count rows all (at + n) i x ≡ front_count rows all at i x
front_none rows all at zero i x same run = let e : at + zero ≡ at = omega arith in ap (λ m. front_count rows all m i x) e
front_none rows all at (suc n) i x same run =
    let shorter : IsRun rows at n 0 = record { inside = omega (arith, run.inside); bits = λ j h. run.bits j (omega (arith, h)) } in
    let place : at + suc n ≡ suc (at + n) = omega arith in
    let more = front_more rows all (at + n) i x (omega (arith, run.inside)) (omega (arith, run.inside, same)) in
    let out : get_or rows (at + n) false ≡ false = run.bits n (omega arith) ∙ bit_of_zero n in
    let none : ◌≡◌ {A = ℕ} (cond (get_or rows (at + n) false && (front i (get_or all (at + n) 0) == x)) 1 0) 0 = rw out refl in
    ap (λ m. front_count rows all m i x) place ∙ omega (arith, more, none, front_none rows all at n i x same shorter)

-- what a row of a run adds at a digit: 1 where it is counted there
pub counted_there : (word_bit : Bool) (code i first d place many : ℕ) → d < many → (word_bit ≡ true → first + place ≡ front i code) → (word_bit ≡ false → many ≤ place)
    → cond {A = ℕ} (word_bit && (front i code == first + d)) 1 0 ≡ cond (place == d) 1 0
counted_there true code i first d place many low is_in out = let e = is_in refl in grind (arith, nat_tests, e)
counted_there false code i first d place many low is_in out = let e = out refl in grind (arith, nat_tests, e, low)

pub run_counted : (rows : List Bool) (codes all : List ℕ) (at word j i first d place many before now next : ℕ) → length rows ≡ length all → codes ≡ take (length codes) (drop at all) → IsRun rows at (length codes) word → j < length codes
    → d < many → (bit_of word j ≡ true → first + place ≡ front i (get_or codes j 0)) → (bit_of word j ≡ false → many ≤ place)
    → next ≡ now + cond (place == d) 1 0
    → now + front_count rows all at i (first + d) ≡ before + front_count rows all (at + j) i (first + d)
    → next + front_count rows all at i (first + d) ≡ before + front_count rows all (at + (j + 1)) i (first + d)
run_counted rows codes all at word j i first d place many before now next same is run h low is_in out step so_far =
    let at_next : at + (j + 1) ≡ suc (at + j) = omega arith in
    let more = front_more rows all (at + j) i (first + d) (omega (arith, run.inside, h)) (omega (arith, run.inside, h, same)) in
    let here = counted_there (bit_of word j) (get_or codes j 0) i first d place many low is_in out in
    let row : ◌≡◌ {A = ℕ} (cond (get_or rows (at + j) false && (front i (get_or all (at + j) 0) == first + d)) 1 0) (cond (bit_of word j && (front i (get_or codes j 0) == first + d)) 1 0) =
    rw (run.bits j h, item_of_run codes all at j 0 is h) refl in
    let moved = ap (λ m. front_count rows all m i (first + d)) at_next in
    omega (arith, more, here, row, moved, step, so_far)

-- ---- the digit of entry n

-- what begins with `found` lies between the first number that goes on from there and the first that doesn't any more
pub goes_on : (x found many : ℕ) → 0 < many → x / many ≡ found → (found * many ≤ x) × (x < found * many + many)
goes_on x found many some is =
    let low = div-mul-le_self x many in
    let high = lt-div-mul-add {a = x} {b = many} some in
    let same : x / many * many ≡ found * many = ap (λ y. y * many) is in
    (omega (arith, low, same), omega (arith, high, same))

pub begins : (x found many : ℕ) → found * many ≤ x → x < found * many + many → x / many ≡ found
begins x found many low high = div-eq_of_lt-le many {m = x} low (omega (arith, high))

below_first : (x found many : ℕ) → 0 < many → nat_lt (x / many) found ≡ nat_lt x (found * many)
below_first x found many some =
    elim (cases_lt (x / many) found) [
      | inl less ↦
          let other : x < found * many = (div-lt_iff_lt-mul {k = many} {x = x} {y = found} some).0 less in
          let a : nat_lt (x / many) found ≡ true = grind (arith, nat_tests, less) in
          let b : nat_lt x (found * many) ≡ true = grind (arith, nat_tests, other) in
          a ∙ sym b
      | inr more ↦
          let low = div-mul-le_self x many in
          let scaled : found * many ≤ x / many * many = mul-le-mul_right many more in
          let other : found * many ≤ x = omega (arith, low, scaled) in
          let a : nat_lt (x / many) found ≡ false = grind (arith, nat_tests, more) in
          let b : nat_lt x (found * many) ≡ false = grind (arith, nat_tests, other) in
          a ∙ sym b
    ]

-- a code without more of its bits
pub front_of : (i j many code : ℕ) → 2 ^ i ≡ 2 ^ j * many → front i code ≡ front j code / many
front_of i j many code size = ap (λ n. code / n) size ∙ sym (div-div-eq-div-mul code (2 ^ j) many)

module _ (held : List ℕ) (j found many : ℕ) (some : 0 < many) (counts : List ℕ) (long : length counts ≡ many) (each : (d : ℕ) → d < many → get_or counts d 0 ≡ count_by (λ c. front j c == found * many + d) held) where
  -- the codes below each digit, from those below the first
  below_digit : (d : ℕ) → d ≤ many → count_by (λ c. nat_lt (front j c) (found * many + d)) held ≡ count_by (λ c. nat_lt (front j c) (found * many)) held + sum (take d counts)
  below_digit zero h = let e : found * many + zero ≡ found * many = omega arith in ap (λ x. count_by (λ c. nat_lt (front j c) x) held) e ∙ omega arith
  below_digit (suc d) h =
      let rest = below_digit d (omega (arith, h)) in
      let split = count_split (λ c. nat_lt (front j c) (found * many + d)) (λ c. front j c == found * many + d) (λ c. nat_lt (front j c) (found * many + suc d)) held (λ c. grind (arith, nat_tests)) in
      let more = sum_by_more (λ (x : ℕ). x) counts d 0 (omega (arith, h, long)) in
      let e : suc d ≡ d + 1 = omega arith in
      let taken = ap (λ m. sum (take m counts)) e in
      omega (arith, rest, split, more, taken, each d (omega (arith, h)))

  module _ (i : ℕ) (size : 2 ^ i ≡ 2 ^ j * many) where
    under : (x : ℕ) → count_by (λ c. nat_lt (front i c) x) held ≡ count_by (λ c. nat_lt (front j c) (x * many)) held
    under x = count_same (λ c. nat_lt (front i c) x) (λ c. nat_lt (front j c) (x * many)) held (λ c. ap (λ y. nat_lt y x) (front_of i j many c size) ∙ below_first (front j c) x many some)

    upto : count_by (λ c. nat_lt (front i c) (found + 1)) held ≡ count_by (λ c. nat_lt (front i c) found) held + count_by (λ c. front i c == found) held
    upto = count_split (λ c. nat_lt (front i c) found) (λ c. front i c == found) (λ c. nat_lt (front i c) (found + 1)) held (λ c. grind (arith, nat_tests))

    -- there are as many codes that begin with `found` as are counted
    pub rest_there : (rest : ℕ) → rest < count_by (λ c. front i c == found) held → rest < sum counts
    rest_there rest there =
        let all : sum (take many counts) ≡ sum counts = ap sum (take_all many counts (omega (arith, long))) in
        let next : (found + 1) * many ≡ found * many + many = omega arith in
        let last = ap (λ x. count_by (λ c. nat_lt (front j c) x) held) next in
        omega (arith, all, last, upto, under found, under (found + 1), below_digit many (omega arith), there)

    -- and the digit at which they were passed over is the next
    pub goes_down : (n rest digit left : ℕ) → IsRest held n i rest found → digit < many → sum (take digit counts) + left ≡ rest → left < get_or counts digit 0 → IsRest held n j left (found * many + digit)
    goes_down n rest digit left is low passed there = record {
      below = omega (arith, passed, under found, below_digit digit (omega (arith, low)), is.below);
      there = omega (arith, there, each digit low);
    }

-- ---- the bits that are found

pub implied_by : (i j many code found digit : ℕ) → 2 ^ i ≡ 2 ^ j * many → digit < many → (front j code == found * many + digit) ≡ true → (front i code == found) ≡ true
implied_by i j many code found digit size low is =
    let here : front j code ≡ found * many + digit = grind (arith, nat_tests, is) in
    let quotient : front j code / many ≡ found = begins (front j code) found many (omega (arith, here)) (omega (arith, here, low)) in
    let e : front i code ≡ found = front_of i j many code size ∙ quotient in
    grind (arith, nat_tests, e)

module _ (i j k many found width : ℕ) (down : i ≡ j + k) (many_is : many ≡ 2 ^ k) (small : (found + 1) * 2 ^ i ≤ 2 ^ width) (narrow : width ≤ 64) where
  pub sizes : 2 ^ i ≡ 2 ^ j * many
  sizes = ap (λ n. 2 ^ n) down ∙ pow-add 2 j k ∙ ap (λ n. 2 ^ j * n) (sym many_is)

  pub small_on : (digit : ℕ) → digit < many → (found * many + digit + 1) * 2 ^ j ≤ 2 ^ width
  small_on digit low =
      let within : found * many + digit + 1 ≤ (found + 1) * many = omega (arith, low) in
      let scaled : (found * many + digit + 1) * 2 ^ j ≤ (found + 1) * many * 2 ^ j = mul-le-mul_right (2 ^ j) within in
      let whole : (found + 1) * many * 2 ^ j ≡ (found + 1) * 2 ^ i = grind (arith, sizes) in
      omega (arith, scaled, whole, small)

  pub room : (digit : ℕ) → digit < many → found * many + digit < 2 ^ 64
  room digit low =
      let on = small_on digit low in
      let most : 2 ^ width ≤ 2 ^ 64 = pow-le-pow_right {n = 2} (omega arith) {i = width} {j = 64} narrow in
      let one : (found * many + digit + 1) * 1 ≤ (found * many + digit + 1) * 2 ^ j = mul-le-mul_left (found * many + digit + 1) (pow_pos j) in
      omega (arith, on, most, one)

-- a code begins with `found` where it lies between the ends of these
pub range_is : (code found size : ℕ) → 0 < size → (nat_le (found * size) code && nat_le code (found * size + (size - 1))) ≡ (code / size == found)
range_is code found size some =
    elim (cases_eq (code / size) found) [
      | inl e ↦
          let within = goes_on code found size some e in
          let it : (code / size == found) ≡ true = grind (arith, nat_tests, e) in
          let low : nat_le (found * size) code ≡ true = grind (arith, nat_tests, within.0) in
          let high : nat_le code (found * size + (size - 1)) ≡ true = grind (arith, nat_tests, within.1, some) in
          rw (low, high, it) refl
      | inr d ↦
          let not_it : (code / size == found) ≡ false = grind (arith, nat_tests, d) in
          rw not_it (outside d)
    ]
  where
    not_high : (b : Bool) → (b && false) ≡ false
    not_high true = refl
    not_high false = refl

    outside : (code / size ≡ found → ⊥) → (nat_le (found * size) code && nat_le code (found * size + (size - 1))) ≡ false
    outside d =
        elim (cases_lt code (found * size)) [
          | inl less ↦ let low : nat_le (found * size) code ≡ false = grind (arith, nat_tests, less) in rw low refl
          | inr from ↦
              elim (cases_lt code (found * size + size)) [
                | inl upto ↦ absurd (d (begins code found size from upto))
                | inr over ↦
                    let high : nat_le code (found * size + (size - 1)) ≡ false = grind (arith, nat_tests, over, some) in
                    rw high (not_high (nat_le (found * size) code))
              ]
        ]

-- ---- the rows that are left

-- a test that implies another says as much where that was made
pub narrower : (b c d : Bool) → (d ≡ true → c ≡ true) → (b && d) ≡ ((b && c) && d)
narrower b c true h = let e = h refl in rw e (with_true b)
  where
    with_true : (b : Bool) → (b && true) ≡ ((b && true) && true)
    with_true true = refl
    with_true false = refl
narrower true true false h = refl
narrower true false false h = refl
narrower false c false h = refl

-- of rows that are left by a test, so many have what only rows that meet it have
module _ (rows left : List Bool) (codes : List ℕ) (same : length rows ≡ length codes) (other : length left ≡ length codes) (p q : ℕ → Bool) (each : (r : ℕ) → get_or left r false ≡ (get_or rows r false && q (get_or codes r 0))) (implied : (c : ℕ) → p c ≡ true → q c ≡ true) where
  abbrev those : List Bool
  those = rows_of (length rows) (λ r. get_or rows r false && p (get_or codes r 0))

  those_at : (r : ℕ) → get_or those r false ≡ (get_or rows r false && p (get_or codes r 0))
  those_at r = rows_clean (length rows) (λ j. get_or rows j false && p (get_or codes j 0)) (λ j h. ap (λ b. b && p (get_or codes j 0)) (get_or_past rows j false h)) r

  those_len : length those ≡ length codes
  those_len = rows_len (length rows) (λ r. get_or rows r false && p (get_or codes r 0)) ∙ same

  pub left_alike : count_by p (items_where_true left codes) ≡ count_by p (items_where_true rows codes)
  left_alike =
      sym (count_mask those left codes p those_len other (λ r. those_at r ∙ narrower (get_or rows r false) (q (get_or codes r 0)) (p (get_or codes r 0)) (implied (get_or codes r 0)) ∙ ap (λ b. b && p (get_or codes r 0)) (sym (each r))))
      ∙ count_mask those rows codes p those_len same those_at

-- at first all rows are left
pub left_start : (rows left : MaskRows) (codes : List ℕ) (k : ℕ) → left.rows ≡ rows.rows → All (λ c. c < 2 ^ k) codes → AreLeft rows codes k 0 left
left_start rows left codes k same low = record {
  len = ap length same;
  each = λ r. ap (λ xs. get_or xs r false) same ∙ sym (with_true (row_at rows r)) ∙ ap (λ b. row_at rows r && b) (sym (it r));
}
  where
    with_true : (b : Bool) → (b && true) ≡ b
    with_true true = refl
    with_true false = refl

    small : (r : ℕ) → get_or codes r 0 < 2 ^ k
    small r =
        elim (cases_lt r (length codes)) [
          | inl there ↦ low r 0 there
          | inr past ↦ let none = get_or_past codes r 0 past in omega (arith, none, pow_pos k)
        ]

    it : (r : ℕ) → (front k (get_or codes r 0) == 0) ≡ true
    it r = let none : front k (get_or codes r 0) ≡ 0 = div-eq_of_lt (small r) in ap (λ y. y == 0) none

-- a row that is left begins with what was found
pub begin_of : (rows : MaskRows) (codes : List ℕ) (i found : ℕ) (left : MaskRows) → AreLeft rows codes i found left → (r : ℕ) → row_at left r ≡ true → front i (get_or codes r 0) ≡ found
begin_of rows codes i found left are r is_in =
    let both : (row_at rows r && (front i (get_or codes r 0) == found)) ≡ true = sym (are.each r) ∙ is_in in
    let it : (front i (get_or codes r 0) == found) ≡ true = second (row_at rows r) (front i (get_or codes r 0) == found) both in
    grind (arith, nat_tests, it)
  where
    second : (a b : Bool) → (a && b) ≡ true → b ≡ true
    second true b h = h
    second false b h = absurd (true≢false (sym h))
