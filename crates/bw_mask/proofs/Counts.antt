-- How many rows are in: the ones of the words.
use Rattle.std.proofs.Common.{inl, inr, [], ◌&&◌, ◌∷◌, ◌≡◌, ℕ, zero, suc, ◌+◌, ◌-◌, ◌*◌, ◌/◌, ◌%◌, ◌^◌, ◌<◌, ◌≤◌, Bool, false, cond, List, length, get_or, take, refl, sym, ap, subst, ◌∙◌, arith, sum_by, count_by}
use Rattle.std.specs.Int.{bit_at}
use Rattle.std.specs.Int.Bits.{bit_and}
use Rattle.std.specs.List.{zip}
use Rattle.std.specs.Int.RustNames.{count_ones}
use Rattle.std.proofs.lemmas.Nat.Bits.{bit_at-lt, same_from_bits_below}
use Rattle.std.proofs.lemmas.Bool.{cases_lt}
use Rattle.std.proofs.lemmas.List.{get_or_past, map-id, take_all}
use Rattle.std.proofs.lemmas.Nat.{and_le_l}
use Rattle.std.proofs.lemmas.List.FromFn.{map-range_with_len_more}
use Rattle.std.proofs.lemmas.List.Sums.{sum_by-cons, sum_by_more, sum_by_push}
use Rattle.std.proofs.lemmas.Simd.{bit_mask_l, get_or-zip2, length-zip2, mask_l-lt, ones-mask_l}
use Rattle.bw_mask.specs.Masks.{bit_of, rows_of, row_in, AreWords}
use Rattle.bw_mask.proofs.Bits.{bit_of_and}
use Rattle.bw_mask.proofs.Views.{rows_are, rows_at, rows_len, rows_zip, zip_words}
use lib.Lanes.{mask_l, zip2}

abbrev pub many : ℕ → (ℕ → Bool) → ℕ
many n f = count_by (λ b. b) (rows_of n f)

many_more : (n : ℕ) (f : ℕ → Bool) → many (n + 1) f ≡ many n f + cond (f n) 1 0
many_more n f = ap (λ xs. count_by (λ b. b) xs) (map-range_with_len_more f 0 n n (omega arith)) ∙ sum_by_push (λ b. cond b 1 0) (rows_of n f) (f n)

-- the first a and then b more
many_add : (a b : ℕ) (f g : ℕ → Bool) → ((j : ℕ) → j < b → f (a + j) ≡ g j) → many (a + b) f ≡ many a f + many b g
many_add a zero f g same =
    let e : a + 0 ≡ a = omega arith in
    ap (λ k. many k f) e ∙ omega arith
many_add a (suc b) f g same =
    let last : ◌≡◌ {A = ℕ} (cond (f (a + b)) 1 0) (cond (g b) 1 0) = ap (λ x. cond {A = ℕ} x 1 0) (same b (omega arith)) in
    let before = many_add a b f g (λ j h. same j (omega arith)) in
    let one = many_more (a + b) f in
    let two = many_more b g in
    let e : a + suc b ≡ (a + b) + 1 = omega arith in
    let d : suc b ≡ b + 1 = omega arith in
    ap (λ k. many k f) e ∙ one ∙ omega (arith, last, before, two, ap (λ k. many k g) d)

many_none : (n : ℕ) (f : ℕ → Bool) → ((j : ℕ) → j < n → f j ≡ false) → many n f ≡ 0
many_none zero f none = refl
many_none (suc n) f none =
    let d : suc n ≡ n + 1 = omega arith in
    ap (λ k. many k f) d ∙ many_more n f ∙ rw (none n (omega arith)) (ap (λ x. x + 0) (many_none n f (λ j h. none j (omega arith))))

one_bit : (w i : ℕ) → cond (bit_of w i) 1 0 ≡ bit_at w i
one_bit w i = grind (arith, bit_at-lt w i)

-- the bits of a word
many_word : (w : ℕ) → w < 2 ^ 64 → many 64 (bit_of w) ≡ count_ones w
many_word w h =
    let ms = rows_of 64 (bit_of w) in
    let small : mask_l ms < 2 ^ 64 = subst (λ n. mask_l ms < 2 ^ n) (rows_len 64 (bit_of w)) (mask_l-lt ms) in
    let same : mask_l ms ≡ w = same_from_bits_below 64 (mask_l ms) w small h (λ i l. bit_mask_l ms i ∙ ap (λ b. cond b 1 0) (rows_at 64 (bit_of w) i l) ∙ one_bit w i) in
    sym (ones-mask_l (λ b. b) ms) ∙ ap (λ xs. count_ones (mask_l xs)) (map-id ms) ∙ ap count_ones same

many_words : (words : List ℕ) → ((k : ℕ) → get_or words k 0 < 2 ^ 64) → (k : ℕ) → k ≤ length words → many (k * 64) (row_in words) ≡ sum_by count_ones (take k words)
many_words words fits zero h = refl
many_words words fits (suc k) h =
    let word : (j : ℕ) → j < 64 → row_in words (k * 64 + j) ≡ bit_of (get_or words k 0) j = λ j l.
    let q : (k * 64 + j) / 64 ≡ k = omega arith in
    let r : (k * 64 + j) % 64 ≡ j = omega arith in
    ap (λ x. bit_of (get_or words x 0) ((k * 64 + j) % 64)) q ∙ ap (λ x. bit_of (get_or words k 0) x) r in
    let one = many_add (k * 64) 64 (row_in words) (bit_of (get_or words k 0)) word in
    let two = many_words words fits k (omega arith) in
    let three = many_word (get_or words k 0) (fits k) in
    let four = sum_by_more count_ones words k 0 (omega arith) in
    let e : suc k * 64 ≡ k * 64 + 64 = omega arith in
    let d : suc k ≡ k + 1 = omega arith in
    ap (λ x. many x (row_in words)) e ∙ one ∙ ap (λ x. x + many 64 (bit_of (get_or words k 0))) two ∙ ap (λ x. sum_by count_ones (take k words) + x) three ∙ sym four ∙ ap (λ x. sum_by count_ones (take x words)) (sym d)

-- the rows that are in are the ones of the words
pub many_is : (words : List ℕ) (n : ℕ) → AreWords words n → ((k : ℕ) → get_or words k 0 < 2 ^ 64) → sum_by count_ones words ≡ many n (row_in words)
many_is words n are fits =
    let all = length words * 64 in
    let over : n + (all - n) ≡ all = omega (arith, are.count) in
    let rest = λ (j : ℕ). row_in words (n + j) in
    let whole : many all (row_in words) ≡ sum_by count_ones words = many_words words fits (length words) (omega arith) ∙ ap (sum_by count_ones) (take_all (length words) words (omega arith)) in
    let cut : many (n + (all - n)) (row_in words) ≡ many n (row_in words) + many (all - n) rest = many_add n (all - n) (row_in words) rest (λ j h. refl) in
    let none : many (all - n) rest ≡ 0 = many_none (all - n) rest (λ j h. are.clean (n + j) (omega arith)) in
    sym whole ∙ ap (λ x. many x (row_in words)) (sym over) ∙ cut ∙ omega (arith, none)

-- ---- the rows that are in both of two masks

sum_both : (xs ys : List ℕ) → length xs ≡ length ys → sum_by (λ p. count_ones (bit_and p.0 p.1)) (zip xs ys) ≡ sum_by count_ones (zip2 bit_and xs ys)
sum_both [] [] e = refl
sum_both [] (y ∷ ys) e = absurd (omega (arith, e))
sum_both (x ∷ xs) [] e = absurd (omega (arith, e))
sum_both (x ∷ xs) (y ∷ ys) e =
    sum_by-cons (λ p. count_ones (bit_and p.0 p.1)) (x, y) (zip xs ys)
    ∙ ap (λ n. count_ones (bit_and x y) + n) (sum_both xs ys (omega (arith, e)))
    ∙ sym (sum_by-cons count_ones (bit_and x y) (zip2 bit_and xs ys))

module _ (xs ys : List ℕ) (n : ℕ) (x_are : AreWords xs n) (y_are : AreWords ys n) where
  same_count : length xs ≡ length ys
  same_count = x_are.count ∙ sym y_are.count

  count_zip : length (zip2 bit_and xs ys) ≡ length xs
  count_zip = length-zip2 bit_and xs ys same_count

  row_both : (j : ℕ) → j < 64 * length xs → row_in (zip2 bit_and xs ys) j ≡ (row_in xs j && row_in ys j)
  row_both j h =
      ap (λ w. bit_of w (j % 64)) (get_or-zip2 bit_and xs ys (j / 64) 0 0 0 (omega arith) (omega (arith, same_count)))
      ∙ bit_of_and (get_or xs (j / 64) 0) (get_or ys (j / 64) 0) (j % 64)

  word_fits : ((k : ℕ) → get_or xs k 0 < 2 ^ 64) → (k : ℕ) → get_or (zip2 bit_and xs ys) k 0 < 2 ^ 64
  word_fits fits k =
      elim (cases_lt k (length xs)) [
        | inl h ↦
            let word = get_or-zip2 bit_and xs ys k 0 0 0 h (omega (arith, same_count)) in
            omega (arith, word, and_le_l (get_or xs k 0) (get_or ys k 0), fits k)
        | inr h ↦ let none = get_or_past (zip2 bit_and xs ys) k 0 (omega (arith, count_zip)) in omega (arith, none)
      ]

  pub many_both : ((k : ℕ) → get_or xs k 0 < 2 ^ 64)
      → sum_by (λ p. count_ones (bit_and p.0 p.1)) (zip xs ys) ≡ many n (λ i. get_or (rows_of n (row_in xs)) i false && get_or (rows_of n (row_in ys)) i false)
  many_both fits =
      let both = zip2 bit_and xs ys in
      let test = λ (i : ℕ). get_or (rows_of n (row_in xs)) i false && get_or (rows_of n (row_in ys)) i false in
      let are = zip_words (λ a b. a && b) refl n xs ys both x_are y_are count_zip row_both in
      let each = rows_zip (λ a b. a && b) refl n xs ys both x_are y_are count_zip row_both in
      let same : rows_of n (row_in both) ≡ rows_of n test = rows_are n (row_in both) (rows_of n test) (rows_len n test) (λ i h. rows_at n test i h ∙ sym (each i) ∙ rows_at n (row_in both) i h) in
      sum_both xs ys same_count ∙ many_is both n are (word_fits fits) ∙ ap (count_by (λ b. b)) same
