-- Marked places, counted.
use Rattle.std.proofs.Common.{Bool, List, [], ap, arith, bit_and, cond, count_by, false, get_or, inl, inr, length, nat_lt, refl, suc, sum_by, sym, true, zero, ℕ, ◌&&◌, ◌+◌, ◌<◌, ◌^◌, ◌≡◌, ◌≤◌, ◌∙◌, ◌∷◌}
use Rattle.std.proofs.lemmas.Bool.{cases_eq, cases_lt, true≢false}
use Rattle.std.proofs.lemmas.Bool.Decides.{nat_tests}
use Rattle.std.proofs.lemmas.List.FromFn.{map-range_with_len_more}
use Rattle.std.proofs.lemmas.List.Sums.{count_by-le-length, sum_by-cons, sum_by_push}
use Rattle.std.specs.Int.RustNames.{count_ones}
use Rattle.std.proofs.lemmas.List.{get_or_past}
use Rattle.std.proofs.lemmas.Nat.{and_le_l}
use Rattle.std.proofs.lemmas.Simd.{get_or-zip2}
use lib.Lanes.{zip2}
use Rattle.std.specs.List.{zip}
use Rattle.bw_lane.proofs.Bits.{len_and, row_and}
use Rattle.bw_mask.specs.Masks.{row_in, rows_of}
use Rattle.bw_mask.proofs.Counts.{many_is}
use Rattle.bw_mask.proofs.Views.{past, rows_len}
use Rattle.bw_code.specs.Units.{some_below}
use Rattle.bw_code.proofs.Reach.{none_at, none_if}
use Rattle.bw_aggregate.specs.Marks.{marked}

pub marked_zero : (f : ℕ → Bool) → marked 0 f ≡ 0
unfolding marked
marked_zero f = refl

pub marked_more : (n : ℕ) (f : ℕ → Bool) → marked (n + 1) f ≡ marked n f + cond (f n) 1 0
unfolding marked
marked_more n f = ap (λ xs. count_by (λ b. b) xs) (map-range_with_len_more f 0 n n (omega arith)) ∙ sum_by_push (λ b. cond b 1 0) (rows_of n f) (f n)

pub marked_few : (n : ℕ) (f : ℕ → Bool) → marked n f ≤ n
unfolding marked
marked_few n f = omega (arith, count_by-le-length (λ (b : Bool). b) (rows_of n f), rows_len n f)

-- places that are marked alike
pub marked_same : (n : ℕ) (f g : ℕ → Bool) → ((j : ℕ) → j < n → f j ≡ g j) → marked n f ≡ marked n g
marked_same zero f g same = marked_zero f ∙ sym (marked_zero g)
marked_same (suc n) f g same =
    let d : suc n ≡ n + 1 = omega arith in
    let before = marked_same n f g (λ j h. same j (omega arith)) in
    let last : ◌≡◌ {A = ℕ} (cond (f n) 1 0) (cond (g n) 1 0) = ap (λ b. cond {A = ℕ} b 1 0) (same n (omega arith)) in
    ap (λ k. marked k f) d ∙ omega (arith, marked_more n f, marked_more n g, before, last) ∙ sym (ap (λ k. marked k g) d)

-- places of which more are marked
pub marked_within : (n : ℕ) (f g : ℕ → Bool) → ((j : ℕ) → j < n → f j ≡ true → g j ≡ true) → marked n f ≤ marked n g
marked_within zero f g more = omega (arith, marked_zero f)
marked_within (suc n) f g more =
    let d : suc n ≡ n + 1 = omega arith in
    let before = marked_within n f g (λ j h. more j (omega arith)) in
    let last = one (f n) (g n) (more n (omega arith)) in
    let first : marked (suc n) f ≡ marked n f + cond (f n) 1 0 = ap (λ k. marked k f) d ∙ marked_more n f in
    let second : marked (suc n) g ≡ marked n g + cond (g n) 1 0 = ap (λ k. marked k g) d ∙ marked_more n g in
    omega (arith, first, second, before, last)
  where
    one : (a b : Bool) → (a ≡ true → b ≡ true) → cond {A = ℕ} a 1 0 ≤ cond b 1 0
    one true b h = let e = h refl in rw e (omega arith)
    one false b h = omega arith

pub marked_none : (n : ℕ) (f : ℕ → Bool) → ((j : ℕ) → j < n → f j ≡ false) → marked n f ≡ 0
marked_none zero f none = marked_zero f
marked_none (suc n) f none =
    let d : suc n ≡ n + 1 = omega arith in
    let before = marked_none n f (λ j h. none j (omega arith)) in
    let last : ◌≡◌ {A = ℕ} (cond (f n) 1 0) 0 = ap (λ b. cond {A = ℕ} b 1 0) (none n (omega arith)) in
    ap (λ k. marked k f) d ∙ omega (arith, marked_more n f, before, last)

-- where none is marked, each is not
pub none_marked : (n : ℕ) (f : ℕ → Bool) → marked n f ≡ 0 → (j : ℕ) → j < n → f j ≡ false
none_marked zero f none j h = absurd (omega (arith, h))
none_marked (suc n) f none j h =
    let d : suc n ≡ n + 1 = omega arith in
    let whole : marked (n + 1) f ≡ 0 = sym (ap (λ k. marked k f) d) ∙ none in
    let more = marked_more n f in
    let last : ◌≡◌ {A = ℕ} (cond (f n) 1 0) 0 = omega (arith, more, whole) in
    elim (cases_eq j n) [
      | inl e ↦ rw e (is_false (f n) last)
      | inr d ↦ none_marked n f (omega (arith, more, whole)) j (omega (arith, h, d))
    ]
  where
    is_false : (b : Bool) → ◌≡◌ {A = ℕ} (cond b 1 0) 0 → b ≡ false
    is_false true e = absurd (omega (arith, e))
    is_false false e = refl

-- where as many are marked as there are places, each is
pub all_marked : (n : ℕ) (f : ℕ → Bool) → marked n f ≡ n → (j : ℕ) → j < n → f j ≡ true
all_marked zero f all j h = absurd (omega (arith, h))
all_marked (suc n) f all j h =
    let d : suc n ≡ n + 1 = omega arith in
    let whole : marked (n + 1) f ≡ suc n = sym (ap (λ k. marked k f) d) ∙ all in
    let more = marked_more n f in
    let few = marked_few n f in
    let last : ◌≡◌ {A = ℕ} (cond (f n) 1 0) 1 = is_one (f n) (omega (arith, more, whole, few)) in
    elim (cases_eq j n) [
      | inl e ↦ rw e (is_true (f n) last)
      | inr d ↦ all_marked n f (omega (arith, more, whole, last)) j (omega (arith, h, d))
    ]
  where
    is_one : (b : Bool) → 1 ≤ cond {A = ℕ} b 1 0 → ◌≡◌ {A = ℕ} (cond b 1 0) 1
    is_one true e = refl
    is_one false e = absurd (omega (arith, e))

    is_true : (b : Bool) → ◌≡◌ {A = ℕ} (cond b 1 0) 1 → b ≡ true
    is_true true e = refl
    is_true false e = absurd (omega (arith, e))

-- the first a, and then b more
pub marked_add : (a b : ℕ) (f : ℕ → Bool) → marked (a + b) f ≡ marked a f + marked b (λ j. f (a + j))
marked_add a zero f =
    let e : a + 0 ≡ a = omega arith in
    ap (λ k. marked k f) e ∙ omega (arith, marked_zero (λ j. f (a + j)))
marked_add a (suc b) f =
    let before = marked_add a b f in
    let one = marked_more (a + b) f in
    let two = marked_more b (λ j. f (a + j)) in
    let e : a + suc b ≡ (a + b) + 1 = omega arith in
    let d : suc b ≡ b + 1 = omega arith in
    ap (λ k. marked k f) e ∙ omega (arith, one, two, before) ∙ sym (ap (λ k. marked a f + marked k (λ j. f (a + j))) d)

-- the ones of four words
pub marked_words : (words : List ℕ) → length words ≡ 4 → ((k : ℕ) → get_or words k 0 < 2 ^ 64) → sum_by count_ones words ≡ marked 256 (row_in words)
unfolding marked
marked_words words four fits = many_is words 256 (record { count = four; clean = λ i h. past words i (omega (arith, four)); small = omega arith }) fits

-- whether one is marked
pub marked_some : (n : ℕ) (f : ℕ → Bool) → nat_lt 0 (marked n f) ≡ some_below n f
marked_some n f = by_cases (some_below n f) refl
  where
    by_cases : (b : Bool) → some_below n f ≡ b → nat_lt 0 (marked n f) ≡ b
    by_cases false e = let none = marked_none n f (none_at n f e) in rw none refl
    by_cases true e =
        elim (cases_eq (marked n f) 0) [
          | inl z ↦ let no = none_if n f (none_marked n f z) in absurd (true≢false (sym e ∙ no))
          | inr d ↦ grind (arith, nat_tests, d)
        ]

-- the ones of words that are in others, too, added up
both_summed : (xs ys : List ℕ) → sum_by (λ (p : ℕ × ℕ). count_ones (bit_and p.0 p.1)) (zip xs ys) ≡ sum_by count_ones (zip2 bit_and xs ys)
both_summed [] ys = refl
both_summed (x ∷ xs) [] = refl
both_summed (x ∷ xs) (y ∷ ys) =
    sum_by-cons (λ (p : ℕ × ℕ). count_ones (bit_and p.0 p.1)) (x, y) (zip xs ys) ∙ ap (λ n. count_ones (bit_and x y) + n) (both_summed xs ys)
    ∙ sym (sum_by-cons count_ones (bit_and x y) (zip2 bit_and xs ys))

-- the ones of four words that are in four others, too
module _ (xs ys : List ℕ) (four : length xs ≡ 4) (other : length ys ≡ 4) (fits : (k : ℕ) → get_or xs k 0 < 2 ^ 64) where
  both_fits : (k : ℕ) → get_or (zip2 bit_and xs ys) k 0 < 2 ^ 64
  both_fits k =
      elim (cases_lt k 4) [
        | inl h ↦
            let word = get_or-zip2 bit_and xs ys k 0 0 0 (omega (arith, h, four)) (omega (arith, h, other)) in
            omega (arith, word, and_le_l (get_or xs k 0) (get_or ys k 0), fits k)
        | inr h ↦ let none = get_or_past (zip2 bit_and xs ys) k 0 (omega (arith, h, len_and xs ys four other)) in omega (arith, none)
      ]

  pub marked_both : sum_by (λ (p : ℕ × ℕ). count_ones (bit_and p.0 p.1)) (zip xs ys) ≡ marked 256 (λ j. row_in xs j && row_in ys j)
  marked_both =
      both_summed xs ys ∙ marked_words (zip2 bit_and xs ys) (len_and xs ys four other) both_fits
      ∙ marked_same 256 (row_in (zip2 bit_and xs ys)) (λ j. row_in xs j && row_in ys j) (row_and xs ys four other)
