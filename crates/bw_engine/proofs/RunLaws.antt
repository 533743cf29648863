-- The lines of the places that pass, in parts, and from the columns.
use Rattle.std.proofs.Common.{None, drop, slice_index_or, take, ◌≡◌, ◌∙◌, ℕ, zero, suc, ◌%◌, ◌*◌, ◌+◌, ◌-◌, ◌/◌, ◌<◌, ◌≤◌, ◌^◌, ◌&&◌, Bool, true, false, List, [], ◌∷◌, ◌++◌, append-nil, append_assoc, get_or, if◌then◌else◌, length, map, nat_lt, refl, sym, ap, arith}
use Rattle.std.specs.List.{filter, range_with_len}
use Rattle.std.proofs.lemmas.Bool.{lt-ltb, true≢false}
use Rattle.std.proofs.lemmas.List.{drop_more, get_or-map, length-map, same_lists}
use Rattle.bw_mask.specs.Masks.{MaskRows, bit_of, row_at, row_in}
use Rattle.bw_mask.proofs.Bits.{bit_of_ones, bit_of_zero}
use Rattle.bw_column.specs.Values as columns
use Rattle.bw_table.specs.Slots.{Slot, slot_at}
use Rattle.bw_sql.specs.Rows.{joined}
use Rattle.bw_model.specs.Store.{Row, Value, value_at}
use Rattle.bw_engine.specs.Found.{rows_where}
use Rattle.bw_engine.specs.Runs.{AreRead, line_across, line_at, lines_from, slot_line}
use Rattle.bw_engine.specs.Stores.{rows_of_slots}
use Rattle.bw_engine.proofs.SetRows.{same_value}

pub one_line : (b : Bool) (line : ℕ → List Value) (a : ℕ) (rest : List ℕ) → joined (map line (if b then a ∷ rest else rest)) ≡ (if b then line a else []) ++ joined (map line rest)
one_line true line a rest = refl
one_line false line a rest = refl

module _ (line : ℕ → List Value) (passes : ℕ → Bool) where
  -- the lines of n places, and those of the next
  pub lines_join : (m n a k b : ℕ) → k ≡ m + n → b ≡ a + m → lines_from line passes a k ≡ lines_from line passes a m ++ lines_from line passes b n
  lines_join zero n a k b e f =
      let same : k ≡ n = omega (arith, e) in
      let here : a ≡ b = omega (arith, f) in
      (λ j. lines_from line passes (here j) (same j))
  lines_join (suc m) n a k b e f =
      let more : k ≡ suc (m + n) = omega (arith, e) in
      ap (lines_from line passes a) more
      ∙ one_line (passes a) line a (filter passes (range_with_len (a + 1) (m + n)))
      ∙ ap (λ l. (if passes a then line a else []) ++ l) (lines_join m n (a + 1) (m + n) b refl (omega (arith, f)))
      ∙ sym (append_assoc (if passes a then line a else []) (lines_from line passes (a + 1) m) (lines_from line passes b n))
      ∙ ap (λ l. l ++ lines_from line passes b n) (sym (one_line (passes a) line a (filter passes (range_with_len (a + 1) m))))

  pub lines_more : (a n b : ℕ) → b ≡ a + n → lines_from line passes a (n + 1) ≡ lines_from line passes a n ++ (if passes b then line b else [])
  lines_more a n b f =
      lines_join n 1 a (n + 1) b refl f
      ∙ ap (λ l. lines_from line passes a n ++ l) (one_line (passes b) line b [] ∙ append-nil (if passes b then line b else []))

  -- a place that passes puts its line last
  pub lines_put : (n b : ℕ) (old values new : List Value) → b ≡ 0 + n → passes b ≡ true → values ≡ old ++ lines_from line passes 0 n → new ≡ values ++ line b → new ≡ old ++ lines_from line passes 0 (n + 1)
  lines_put n b old values new f e so_far more =
      more
      ∙ ap (λ l. l ++ line b) so_far
      ∙ append_assoc old (lines_from line passes 0 n) (line b)
      ∙ ap (λ p. old ++ (lines_from line passes 0 n ++ (if p then line b else []))) (sym e)
      ∙ ap (λ l. old ++ l) (sym (lines_more 0 n b f))

  pub lines_left : (n b : ℕ) (old values : List Value) → b ≡ 0 + n → passes b ≡ false → values ≡ old ++ lines_from line passes 0 n → values ≡ old ++ lines_from line passes 0 (n + 1)
  lines_left n b old values f e so_far =
      so_far
      ∙ ap (λ l. old ++ l) (sym (append-nil (lines_from line passes 0 n)))
      ∙ ap (λ p. old ++ (lines_from line passes 0 n ++ (if p then line b else []))) (sym e)
      ∙ ap (λ l. old ++ l) (sym (lines_more 0 n b f))

  pub lines_none : (n a : ℕ) → ((i : ℕ) → i < n → passes (a + i) ≡ false) → lines_from line passes a n ≡ []
  lines_none zero a none = refl
  lines_none (suc n) a none =
      let here : passes a ≡ false = ap passes (omega arith) ∙ none 0 (omega arith) in
      one_line (passes a) line a (filter passes (range_with_len (a + 1) n))
      ∙ ap (λ b. (if b then line a else []) ++ lines_from line passes (a + 1) n) here
      ∙ lines_none n (a + 1) (λ i h. ap passes (next a i) ∙ none (suc i) (omega (arith, h)))
    where
      next : (a i : ℕ) → (a + 1) + i ≡ a + suc i
      next a i = omega arith

-- the same lines from another place on
pub lines_same : (line other : ℕ → List Value) (passes others : ℕ → Bool) (n a b : ℕ) → ((i : ℕ) → i < n → passes (a + i) ≡ others (b + i)) → ((i : ℕ) → i < n → others (b + i) ≡ true → line (a + i) ≡ other (b + i)) → lines_from line passes a n ≡ lines_from other others b n
lines_same line other passes others zero a b tests lines = refl
lines_same line other passes others (suc n) a b tests lines =
    let here : passes a ≡ others b = ap passes (plain a) ∙ tests 0 (omega arith) ∙ ap others (sym (plain b)) in
    let first : others b ≡ true → line a ≡ other b = λ e. ap line (plain a) ∙ lines 0 (omega arith) (ap others (sym (plain b)) ∙ e) ∙ ap other (sym (plain b)) in
    one_line (passes a) line a (filter passes (range_with_len (a + 1) n))
    ∙ ap (λ p. (if p then line a else []) ++ lines_from line passes (a + 1) n) here
    ∙ ap (λ l. l ++ lines_from line passes (a + 1) n) (by (others b) first)
    ∙ ap (λ l. (if others b then other b else []) ++ l) (lines_same line other passes others n (a + 1) (b + 1)
    (λ i h. ap passes (next a i) ∙ tests (suc i) (omega (arith, h)) ∙ ap others (sym (next b i)))
    (λ i h e. ap line (next a i) ∙ lines (suc i) (omega (arith, h)) (ap others (sym (next b i)) ∙ e) ∙ ap other (sym (next b i))))
    ∙ sym (one_line (others b) other b (filter others (range_with_len (b + 1) n)))
  where
    plain : (a : ℕ) → a ≡ a + 0
    plain a = omega arith

    next : (a i : ℕ) → (a + 1) + i ≡ a + suc i
    next a i = omega arith

    by : (p : Bool) → (p ≡ true → line a ≡ other b) → (if p then line a else []) ≡ (if p then other b else [])
    by true same = same refl
    by false same = refl

-- the lines of the slots that pass are those of their rows
pub lines_where : (places : List ℕ) (passes : ℕ → Bool) (slots : List Slot) → lines_from (slot_line places slots) passes 0 (length slots) ≡ joined (map (line_at places) (rows_where passes (rows_of_slots slots)))
lines_where places passes [] = refl
lines_where places passes (slot ∷ slots) =
    one_line (passes 0) (slot_line places (slot ∷ slots)) 0 (filter passes (range_with_len 1 (length slots)))
    ∙ ap (λ l. (if passes 0 then line_at places slot.row else []) ++ l)
    (lines_same (slot_line places (slot ∷ slots)) (slot_line places slots) passes (λ i. passes (suc i)) (length slots) 1 0
    (λ i h. ap passes (next i)) (λ i h e. ap (slot_line places (slot ∷ slots)) (next i))
    ∙ lines_where places (λ i. passes (suc i)) slots)
    ∙ by (passes 0) (rows_where (λ i. passes (suc i)) (rows_of_slots slots))
  where
    next : (i : ℕ) → 1 + i ≡ suc (0 + i)
    next i = omega arith

    by : (p : Bool) (rows : List Row) → (if p then line_at places slot.row else []) ++ joined (map (line_at places) rows) ≡ joined (map (line_at places) (if p then slot.row ∷ rows else rows))
    by true rows = refl
    by false rows = refl

-- an empty word of the found slots has no line
pub word_none : (line : ℕ → List Value) (passes : ℕ → Bool) (words : List ℕ) (q n : ℕ) → n ≤ 64 → ((i : ℕ) → row_in words i ≡ passes i) → get_or words q 0 ≡ 0 → lines_from line passes (64 * q) n ≡ []
word_none line passes words q n few rows e =
    lines_none line passes n (64 * q) (λ i h.
    let word : (64 * q + i) / 64 ≡ q = omega (arith, few, h) in
    sym (rows (64 * q + i)) ∙ ap (λ w. bit_of (get_or words w 0) ((64 * q + i) % 64)) word ∙ ap (λ w. bit_of w ((64 * q + i) % 64)) e ∙ bit_of_zero ((64 * q + i) % 64))

-- a run of slots, by the word of those that are found
module _ (slots : List Slot) (places : List ℕ) (found : MaskRows) (word at n : ℕ) (bits : (i : ℕ) → bit_of word i ≡ (nat_lt i n && row_at found (at + i))) where
  bit_is : (i : ℕ) → i < n → bit_of word i ≡ row_at found (at + i)
  bit_is i h = bits i ∙ ap (λ b. b && row_at found (at + i)) (lt-ltb i n h)

  pub run_fetched : lines_from (λ i. slot_line places slots (at + i)) (bit_of word) 0 n ≡ lines_from (slot_line places slots) (row_at found) at n
  run_fetched =
      lines_same (λ i. slot_line places slots (at + i)) (slot_line places slots) (bit_of word) (row_at found) n 0 at
      (λ i h. ap (bit_of word) (plain i) ∙ bit_is i h)
      (λ i h e. ap (λ k. slot_line places slots (at + k)) (plain i))
    where
      plain : (i : ℕ) → 0 + i ≡ i
      plain i = omega arith

  pub run_lines : (runs : List (List Value)) → AreRead slots places at n runs → lines_from (line_across runs) (bit_of word) 0 n ≡ lines_from (slot_line places slots) (row_at found) at n
  run_lines runs are =
      lines_same (line_across runs) (slot_line places slots) (bit_of word) (row_at found) n 0 at
      (λ i h. ap (bit_of word) (plain i) ∙ bit_is i h)
      (λ i h e. ap (line_across runs) (plain i) ∙ read_line i h)
    where
      plain : (i : ℕ) → 0 + i ≡ i
      plain i = omega arith

      read_line : (i : ℕ) → i < n → line_across runs i ≡ slot_line places slots (at + i)
      read_line i h =
          let row = (slot_at slots (at + i)).row in
          let m = length-map runs (λ (values : List Value). columns.value_at values i) in
          same_lists (line_across runs i) (slot_line places slots (at + i)) (m ∙ are.count ∙ sym (length-map places (λ (place : ℕ). value_at row place))) (λ k d l.
          let low : k < length places = omega (arith, l, m, are.count) in
          get_or-map (λ (values : List Value). columns.value_at values i) runs k [] d (omega (arith, low, are.count))
          ∙ are.values k i low h
          ∙ same_value row (get_or places k 0)
          ∙ sym (get_or-map (λ (place : ℕ). value_at row place) places k 0 d low))

module _ (place : ℕ) where
  -- each place that passes has one value
  pub values_few : (slots : List Slot) (passes : ℕ → Bool) (n a : ℕ) → length (lines_from (slot_line (place ∷ []) slots) passes a n) ≤ n
  values_few slots passes zero a = omega arith
  values_few slots passes (suc n) a =
      let one = ap length (one_line (passes a) (slot_line (place ∷ []) slots) a (filter passes (range_with_len (a + 1) n))) in
      by (passes a) one (values_few slots passes n (a + 1))
    where
      by : (p : Bool) → length (lines_from (slot_line (place ∷ []) slots) passes a (suc n)) ≡ length ((if p then slot_line (place ∷ []) slots a else []) ++ lines_from (slot_line (place ∷ []) slots) passes (a + 1) n)
          → length (lines_from (slot_line (place ∷ []) slots) passes (a + 1) n) ≤ n → length (lines_from (slot_line (place ∷ []) slots) passes a (suc n)) ≤ suc n
      by true e few = omega (arith, e, few)
      by false e few = omega (arith, e, few)

  -- where all pass, those of a run of the column
  pub values_all : (slots : List Slot) (values : List Value) (passes : ℕ → Bool) (n a : ℕ) → a + n ≤ length values → ((i : ℕ) → i < length values → slice_index_or values i None ≡ value_at (slot_at slots i).row place) → ((i : ℕ) → i < n → passes (a + i) ≡ true)
      → take n (drop a values) ≡ lines_from (slot_line (place ∷ []) slots) passes a n
  values_all slots values passes zero a inside are all = none (drop a values)
    where
      none : (vs : List Value) → take 0 vs ≡ []
      none [] = refl
      none (v ∷ vs) = refl
  values_all slots values passes (suc n) a inside are all =
      let low : a < length values = omega (arith, inside) in
      let here : passes a ≡ true = ap passes (omega arith) ∙ all 0 (omega arith) in
      ap (take (suc n)) (drop_more values a None low)
      ∙ ap (λ v. v ∷ take n (drop (a + 1) values)) (are a low)
      ∙ ap (λ vs. value_at (slot_at slots a).row place ∷ vs) (values_all slots values passes n (a + 1) (omega (arith, inside)) are (λ i h. ap passes (next i) ∙ all (suc i) (omega (arith, h))))
      ∙ sym (one_line (passes a) (slot_line (place ∷ []) slots) a (filter passes (range_with_len (a + 1) n))
      ∙ ap (λ p. (if p then slot_line (place ∷ []) slots a else []) ++ lines_from (slot_line (place ∷ []) slots) passes (a + 1) n) here)
    where
      next : (i : ℕ) → (a + 1) + i ≡ a + suc i
      next i = omega arith

pub in_list : (rows : List Bool) (i : ℕ) → get_or rows i false ≡ true → i < length rows
in_list [] i h = absurd (true≢false (sym h))
in_list (r ∷ rows) zero h = omega arith
in_list (r ∷ rows) (suc i) h = let rest = in_list rows i h in omega (arith, rest)

-- a word of ones: 64 slots that are found
module _ (found : MaskRows) (word at : ℕ) (bits : (i : ℕ) → bit_of word i ≡ (nat_lt i 64 && row_at found (at + i))) (ones : word ≡ 2 ^ 64 - 1) where
  pub all_found : (i : ℕ) → i < 64 → row_at found (at + i) ≡ true
  all_found i h =
      ap (λ b. b && row_at found (at + i)) (sym (lt-ltb i 64 h)) ∙ sym (bits i) ∙ ap (λ w. bit_of w i) ones ∙ bit_of_ones 64 i (omega arith) ∙ lt-ltb i 64 h

  pub word_inside : at + 64 ≤ length found.rows
  word_inside = let last = in_list found.rows (at + 63) (all_found 63 (omega arith)) in omega (arith, last)
