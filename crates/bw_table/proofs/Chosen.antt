-- The rows of a mask, counted word by word, and the values there.
use Rattle.std.proofs.Common.{Bool, List, [], ap, arith, cond, count_by, drop, false, get_or, inl, inr, length, length-append, length-drop, map, min, nat_lt, refl, subst, suc, sym, take, zero, ℕ, ℤ, Option, None, ◌&&◌, ◌*◌, ◌++◌, ◌+◌, ◌-◌, ◌<◌, ◌^◌, ◌∷◌, ◌≡◌, ◌≤◌, ◌∙◌}
use Rattle.std.specs.Int.{bit_at}
use Rattle.std.specs.Int.RustNames.{count_ones}
use Rattle.std.specs.List.{filter, range_with_len}
use Rattle.std.proofs.lemmas.Bool.{cases_Bool, cases_lt, le-ltb, lt-ltb}
use Rattle.std.proofs.lemmas.List.{append-nil, append_assoc, drop-append-le, get_or_append_left, get_or_default, get_or_push, length-map, map-append, map-id, take-append-le}
use Rattle.std.proofs.lemmas.List.Sums.{count_by-le-length, length-filter, sum_by-cons}
use Rattle.std.proofs.lemmas.List.FromFn.{length-range_with_len}
use Rattle.std.proofs.Math.Seq.{drop-append-add}
use Rattle.std.proofs.lemmas.Nat.Bits.{bit_at-lt, same_from_bits_below}
use Rattle.std.proofs.lemmas.Simd.{bit_mask_l, mask_l-lt, ones-mask_l}
use lib.Lanes.{mask_l}
use Rattle.bw_mask.specs.Masks.{MaskRows, bit_of, len, row_at, rows_of}
use Rattle.bw_mask.proofs.Views.{rows_at, rows_len}
use Rattle.bw_column.proofs.Overwriting.{below_len}
use Rattle.bw_column.proofs.Ordered.{place_in, place_out}
use Rattle.bw_table.specs.Changes.{places, places_below}
use Rattle.bw_table.specs.Choosing.{AreCounts}
use Rattle.bw_table.proofs.Picks.{gathered_run, picked_out}
use Rattle.bw_table.proofs.Places.{places_between}

module _ (mask : MaskRows) where
  -- places of more rows begin with those of fewer
  more_places : (a d : ℕ) → (rest : List ℕ) × (places_below mask (a + d) ≡ places_below mask a ++ rest)
  more_places a zero = let e : a + zero ≡ a = omega arith in ([], ap (places_below mask) e ∙ sym (append-nil (places_below mask a)))
  more_places a (suc d) =
      let e : a + suc d ≡ a + d + 1 = omega arith in
      let before = more_places a d in
      elim (cases_Bool (row_at mask (a + d))) [
        | inl t ↦ (before.0 ++ (a + d) ∷ [], ap (places_below mask) e ∙ place_in mask (a + d) t ∙ ap (λ ps. ps ++ (a + d) ∷ []) before.1 ∙ append_assoc (places_below mask a) before.0 ((a + d) ∷ []))
        | inr f ↦ (before.0, ap (places_below mask) e ∙ place_out mask (a + d) f ∙ before.1)
      ]

  pub places_begin : (a b : ℕ) → a ≤ b → (rest : List ℕ) × (places_below mask b ≡ places_below mask a ++ rest)
  places_begin a b h =
      let e : a + (b - a) ≡ b = omega (arith, h) in
      subst (λ n. (rest : List ℕ) × (places_below mask n ≡ places_below mask a ++ rest)) e (more_places a (b - a))

  pub fewer : (a b : ℕ) → a ≤ b → length (places_below mask a) ≤ length (places_below mask b)
  fewer a b h =
      let begin = places_begin a b h in
      omega (arith, ap length begin.1, length-append (places_below mask a) begin.0)

  -- past the last row there is no place
  pub places_past : (b : ℕ) → len mask ≤ b → places_below mask b ≡ places mask
  places_past b h = places_between mask (len mask) b h (λ j low high. elim (cases_Bool (row_at mask j)) [
    | inl t ↦ absurd (omega (arith, below_len mask j t, low))
    | inr f ↦ f
  ])

one_bit : (w i : ℕ) → cond (bit_of w i) 1 0 ≡ bit_at w i
one_bit w i = grind (arith, bit_at-lt w i)

-- how many bits of a word are set
ones : (w : ℕ) → w < 2 ^ 64 → count_by (λ b. b) (rows_of 64 (bit_of w)) ≡ count_ones w
ones w h =
    let ms = rows_of 64 (bit_of w) in
    let small : mask_l ms < 2 ^ 64 = subst (λ n. mask_l ms < 2 ^ n) (rows_len 64 (bit_of w)) (mask_l-lt ms) in
    let same : mask_l ms ≡ w = same_from_bits_below 64 (mask_l ms) w small h (λ i l. bit_mask_l ms i ∙ ap (λ b. cond b 1 0) (rows_at 64 (bit_of w) i l) ∙ one_bit w i) in
    sym (ones-mask_l (λ b. b) ms) ∙ ap (λ xs. count_ones (mask_l xs)) (map-id ms) ∙ ap count_ones same

-- the elements that pass a test are as many as those of which the test says so
count_of : {X : Type 0} (p : X → Bool) (xs : List X) → count_by (λ b. b) (map p xs) ≡ count_by p xs
count_of p [] = refl
count_of p (x ∷ xs) = sum_by-cons (λ b. cond {A = ℕ} b 1 0) (p x) (map p xs) ∙ ap (λ n. cond {A = ℕ} (p x) 1 0 + n) (count_of p xs) ∙ sym (sum_by-cons (λ y. cond {A = ℕ} (p y) 1 0) x xs)

-- bits that are not set add no place
no_more : (w n d : ℕ) → ((i : ℕ) → n ≤ i → bit_of w i ≡ false) → length (filter (bit_of w) (range_with_len 0 (n + d))) ≡ length (filter (bit_of w) (range_with_len 0 n))
no_more w n zero none = let e : n + zero ≡ n = omega arith in ap (λ m. length (filter (bit_of w) (range_with_len 0 m))) e
no_more w n (suc d) none =
    let e : n + suc d ≡ n + d + 1 = omega arith in
    let same : map (λ (i : ℕ). i) (filter (bit_of w) (range_with_len 0 (n + d + 1))) ≡ map (λ (i : ℕ). i) (filter (bit_of w) (range_with_len 0 (n + d))) = picked_out (bit_of w) (λ (i : ℕ). i) (n + d) (none (n + d) (omega arith)) in
    let long = ap length same in
    let a = length-map (filter (bit_of w) (range_with_len 0 (n + d + 1))) (λ (i : ℕ). i) in
    let b = length-map (filter (bit_of w) (range_with_len 0 (n + d))) (λ (i : ℕ). i) in
    ap (λ m. length (filter (bit_of w) (range_with_len 0 m))) e ∙ omega (arith, long, a, b, no_more w n d none)

ones_picked : (w n : ℕ) → w < 2 ^ 64 → n ≤ 64 → ((i : ℕ) → n ≤ i → bit_of w i ≡ false) → length (filter (bit_of w) (range_with_len 0 n)) ≡ count_ones w
ones_picked w n small few none =
    let e : n + (64 - n) ≡ 64 = omega (arith, few) in
    sym (no_more w n (64 - n) none) ∙ ap (λ m. length (filter (bit_of w) (range_with_len 0 m))) e ∙ length-filter (bit_of w) (range_with_len 0 64) ∙ sym (count_of (bit_of w) (range_with_len 0 64)) ∙ ones w small

-- the word of the rows from a row on, taken from a mask
abbrev pub IsWordOf : MaskRows → ℕ → ℕ → ℕ → Type 0
IsWordOf mask row n w = (i : ℕ) → bit_of w i ≡ (nat_lt i n && row_at mask (row + i))

module _ (mask : MaskRows) where
  pub same_bits : (row n w : ℕ) → IsWordOf mask row n w → (i : ℕ) → i < n → bit_of w i ≡ row_at mask (row + i)
  same_bits row n w is i h = is i ∙ rw (lt-ltb i n h) refl

  no_bits : (row n w : ℕ) → IsWordOf mask row n w → (i : ℕ) → n ≤ i → bit_of w i ≡ false
  no_bits row n w is i h = is i ∙ rw (le-ltb i n h) refl

  -- as many places more as bits
  pub more_ones : (row n w : ℕ) → w < 2 ^ 64 → n ≤ 64 → IsWordOf mask row n w → length (places_below mask (row + n)) ≡ length (places_below mask row) + count_ones w
  more_ones row n w small few is =
      let f : ℕ → Option ℤ = λ _. None in
      let run = ap length (gathered_run mask f row w n (same_bits row n w is)) in
      let a = length-map (places_below mask (row + n)) f in
      let b = length-map (places_below mask row) f in
      let c = length-map (filter (bit_of w) (range_with_len 0 n)) (λ i. f (row + i)) in
      let d = length-append (map f (places_below mask row)) (map (λ i. f (row + i)) (filter (bit_of w) (range_with_len 0 n))) in
      omega (arith, run, a, b, c, d, ones_picked w n small few (no_bits row n w is))

  pub few_places : (n : ℕ) → length (places_below mask n) ≤ n
  few_places n = omega (arith, length-filter (row_at mask) (range_with_len 0 n), count_by-le-length (row_at mask) (range_with_len 0 n), length-range_with_len 0 n)

  -- the places below the next word
  pub next_word : (w n : ℕ) → 64 * w < len mask → n ≡ min (len mask - 64 * w) 64 → places_below mask (64 * (w + 1)) ≡ places_below mask (64 * w + n)
  next_word w n there is =
      elim (cases_lt n 64) [
        | inl low ↦
            let end : 64 * w + n ≡ len mask = omega (arith, low, is, there) in
            places_past mask (64 * (w + 1)) (omega (arith, low, is, there)) ∙ ap (places_below mask) (sym end)
        | inr high ↦ let e : 64 * (w + 1) ≡ 64 * w + n = omega (arith, high, is) in ap (places_below mask) e
      ]

-- the next word's number is that of the rows before it
pub count_pushed : (mask : MaskRows) (counts : List ℕ) (count w : ℕ) → length counts ≡ w → count ≡ length (places_below mask (64 * w)) → ((j : ℕ) → j < w → get_or counts j 0 ≡ length (places_below mask (64 * j))) → (j : ℕ) → j < w + 1 → get_or (counts ++ count ∷ []) j 0 ≡ length (places_below mask (64 * j))
count_pushed mask counts count w long now each j h =
    elim (cases_lt j w) [
      | inl low ↦ get_or_append_left counts (count ∷ []) 0 j (omega (arith, low, long)) ∙ each j low
      | inr high ↦
          let e : j ≡ w = omega (arith, h, high) in
          rw e (get_or_push counts count 0 w long ∙ now)
    ]

-- a part of a list that stands between two others
pub part_between : {A : Type 0} (whole before part after : List A) (skip n : ℕ) → whole ≡ (before ++ part) ++ after → skip + n ≤ length part → take n (drop (length before + skip) whole) ≡ take n (drop skip part)
part_between whole before part after skip n is fits =
    let step : drop (length before + skip) whole ≡ drop skip (part ++ after) = ap (drop (length before + skip)) (is ∙ append_assoc before part after) ∙ drop-append-add before (part ++ after) skip in
    let rest : drop skip (part ++ after) ≡ drop skip part ++ after = drop-append-le skip part after (omega (arith, fits)) in
    ap (take n) (step ∙ rest) ∙ take-append-le n (drop skip part) after (omega (arith, fits, length-drop skip part))

module _ (mask : MaskRows) where
  -- a word before which there are not all places is one of the mask
  pub word_there : (w pos : ℕ) → length (places_below mask (64 * w)) ≤ pos → pos < length (places mask) → 64 * w < len mask
  word_there w pos low below =
      elim (cases_lt (64 * w) (len mask)) [
        | inl here ↦ here
        | inr past ↦ absurd (omega (arith, low, below, ap length (places_past mask (64 * w) past)))
      ]

  -- and its number is not above the index of a row that is in it or after it
  pub at_word : (counts : List ℕ) (w pos : ℕ) → AreCounts mask counts → length (places_below mask (64 * w)) ≤ pos → pos < length (places mask)
      → (64 * w < len mask) × (w < length counts) × ((d : ℕ) → get_or counts w d ≡ length (places_below mask (64 * w)))
  at_word counts w pos are low below =
      let there = word_there w pos low below in
      let inside : w < length counts = omega (arith, there, are.covers) in
      (there, inside, λ d. get_or_default counts w d 0 inside ∙ are.each w inside)

  -- all values in the places begin with those below some row
  pub all_begin : {A : Type 0} (f : ℕ → A) (b : ℕ) → (rest : List A) × (map f (places mask) ≡ map f (places_below mask b) ++ rest)
  all_begin f b =
      elim (cases_lt (len mask) b) [
        | inl past ↦ ([], ap (map f) (sym (places_past mask b (omega (arith, past)))) ∙ sym (append-nil (map f (places_below mask b))))
        | inr inside ↦
            let begin = places_begin mask b (len mask) inside in
            (map f begin.0, ap (map f) begin.1 ∙ map-append f (places_below mask b) begin.0)
      ]

-- how many values a word has
pub word_count : {A : Type 0} (f : ℕ → A) (fewer more : List ℕ) (part : List A) → map f more ≡ map f fewer ++ part → length more ≡ length fewer + length part
word_count f fewer more part is = omega (arith, ap length is, length-append (map f fewer) part, length-map more f, length-map fewer f)
