-- A list made from a function of the row, and what a changed word changes.
use Rattle.std.proofs.Common.{◌≡◌, ℕ, ◌+◌, ◌*◌, ◌/◌, ◌%◌, ◌<◌, ◌≤◌, Bool, true, false, ◌&&◌, ◌==◌, ltb, List, [], ◌∷◌, ◌++◌, length, get_or, set, replicate, inl, inr, refl, sym, ap, ◌∙◌, arith, length-set, length-append, ◌-◌}
use mathlib.Core.Logic.{◌≢◌}
use Rattle.std.proofs.lemmas.Bool.{cases_lt, cases_eq, lt-ltb, le-ltb, and_right}
use Rattle.std.proofs.lemmas.List.{get_or_past, same_lists, get_or-set_same, get_or-set_other, get_or_default, get_or_push, get_or_append_left, get_or-append_right, get_or-replicate, length-replicate, length_push}
use Rattle.std.proofs.lemmas.List.FromFn.{length-map-range_with_len, get_or-map-range_with_len}
use Rattle.std.proofs.lemmas.Nat.Bits.{bit_at-zero}
use Rattle.bw_mask.specs.Masks.{bit_of, rows_of, row_in, AreWords}

and_true : (b : Bool) → (b && true) ≡ b
and_true true = refl
and_true false = refl

-- no row past the last word is in
pub past : (words : List ℕ) (j : ℕ) → length words ≤ j / 64 → row_in words j ≡ false
past words j h = ap (λ w. bit_of w (j % 64)) (get_or_past words (j / 64) 0 h) ∙ ap (λ x. x == 1) (bit_at-zero (j % 64))

pub rows_len : (n : ℕ) (f : ℕ → Bool) → length (rows_of n f) ≡ n
rows_len n f = length-map-range_with_len f 0 n

pub rows_at : (n : ℕ) (f : ℕ → Bool) (i : ℕ) → i < n → get_or (rows_of n f) i false ≡ f i
rows_at n f i h = get_or-map-range_with_len f 0 n i i false h (omega arith)

-- at any place, where no bit past the end is set
pub rows_clean : (n : ℕ) (f : ℕ → Bool) → ((j : ℕ) → n ≤ j → f j ≡ false) → (i : ℕ) → get_or (rows_of n f) i false ≡ f i
rows_clean n f clean i =
    elim (cases_lt i n) [
      | inl h ↦ rows_at n f i h
      | inr h ↦ get_or_past (rows_of n f) i false (omega (arith, rows_len n f)) ∙ sym (clean i h)
    ]

-- a list of n whose rows are those of f
pub rows_are : (n : ℕ) (f : ℕ → Bool) (xs : List Bool) → length xs ≡ n → ((i : ℕ) → i < n → get_or xs i false ≡ f i) → rows_of n f ≡ xs
rows_are n f xs len each =
    same_lists (rows_of n f) xs (rows_len n f ∙ sym len) (λ k d h.
    let low : k < n = omega (arith, rows_len n f) in
    get_or_default (rows_of n f) k d false h ∙ rows_at n f k low ∙ sym (each k low) ∙ get_or_default xs k false d (omega (arith, len)))

pub rows_set : (n : ℕ) (f g : ℕ → Bool) (i : ℕ) (b : Bool) → i < n → g i ≡ b → ((j : ℕ) → j ≢ i → g j ≡ f j) → rows_of n g ≡ set (rows_of n f) i b
rows_set n f g i b h same other =
    rows_are n g (set (rows_of n f) i b) (length-set (rows_of n f) i b ∙ rows_len n f) (λ j l.
    elim (cases_eq j i) [
      | inl e ↦ rw e (get_or-set_same (rows_of n f) i b false (omega (arith, rows_len n f)) ∙ sym same)
      | inr d ↦ get_or-set_other (rows_of n f) i j b false d ∙ rows_at n f j l ∙ sym (other j d)
    ])

pub rows_push : (n : ℕ) (f g : ℕ → Bool) (b : Bool) → g n ≡ b → ((j : ℕ) → j ≢ n → g j ≡ f j) → rows_of (n + 1) g ≡ rows_of n f ++ b ∷ []
rows_push n f g b same other =
    rows_are (n + 1) g (rows_of n f ++ b ∷ []) (length_push (rows_of n f) b ∙ ap (λ k. k + 1) (rows_len n f)) (λ j l.
    elim (cases_eq j n) [
      | inl e ↦ rw e (get_or_push (rows_of n f) b false n (rows_len n f) ∙ sym same)
      | inr d ↦
          let low : j < n = omega arith in
          get_or_append_left (rows_of n f) (b ∷ []) false j (omega (arith, rows_len n f)) ∙ rows_at n f j low ∙ sym (other j d)
    ])

-- n rows, and m more after them
pub rows_append : (n m : ℕ) (f g h : ℕ → Bool) → ((j : ℕ) → j < n → g j ≡ f j) → ((i : ℕ) → i < m → g (n + i) ≡ h i) → rows_of (n + m) g ≡ rows_of n f ++ rows_of m h
rows_append n m f g h old more =
    rows_are (n + m) g (rows_of n f ++ rows_of m h) (length-append (rows_of n f) (rows_of m h) ∙ omega (arith, rows_len n f, rows_len m h)) (λ j l.
    elim (cases_lt j n) [
      | inl p ↦ get_or_append_left (rows_of n f) (rows_of m h) false j (omega (arith, rows_len n f)) ∙ rows_at n f j p ∙ sym (old j p)
      | inr p ↦
          let here : n + (j - n) ≡ j = omega arith in
          let low : j - n < m = omega arith in
          get_or-append_right (rows_of n f) (rows_of m h) n j false (rows_len n f) p ∙ rows_at m h (j - n) low ∙ sym (more (j - n) low) ∙ ap g here
    ])

pub rows_replicate : (n : ℕ) (f : ℕ → Bool) (b : Bool) → ((j : ℕ) → j < n → f j ≡ b) → rows_of n f ≡ replicate n b
rows_replicate n f b each = rows_are n f (replicate n b) (length-replicate n b) (λ j l. get_or-replicate n j b false l ∙ sym (each j l))

-- the rows below n stay, and those from n on go: word n / 64 keeps its bits below n % 64
module _ (words : List ℕ) (n w : ℕ) (count : length words ≡ (n + 63) / 64) (part : 0 < n % 64) (each : (k : ℕ) → bit_of w k ≡ (bit_of (get_or words (n / 64) 0) k && ltb k (n % 64))) where
  abbrev cut : List ℕ
  cut = set words (n / 64) w

  at_cut : (j : ℕ) → j / 64 ≡ n / 64 → row_in cut j ≡ (row_in words j && ltb (j % 64) (n % 64))
  at_cut j e =
      ap (λ q. bit_of (get_or cut q 0) (j % 64)) e
      ∙ ap (λ x. bit_of x (j % 64)) (get_or-set_same words (n / 64) w 0 (omega (arith, count)))
      ∙ each (j % 64)
      ∙ ap (λ q. bit_of (get_or words q 0) (j % 64) && ltb (j % 64) (n % 64)) (sym e)

  off_cut : (j : ℕ) → j / 64 ≢ n / 64 → row_in cut j ≡ row_in words j
  off_cut j d = ap (λ x. bit_of x (j % 64)) (get_or-set_other words (n / 64) (j / 64) w 0 d)

  pub cut_keeps : (j : ℕ) → j < n → row_in cut j ≡ row_in words j
  cut_keeps j h =
      elim (cases_eq (j / 64) (n / 64)) [
        | inl e ↦ at_cut j e ∙ ap (λ b. row_in words j && b) (lt-ltb (j % 64) (n % 64) (omega arith)) ∙ and_true (row_in words j)
        | inr d ↦ off_cut j d
      ]

  pub cut_clean : (j : ℕ) → n ≤ j → row_in cut j ≡ false
  cut_clean j h =
      elim (cases_eq (j / 64) (n / 64)) [
        | inl e ↦ at_cut j e ∙ ap (λ b. row_in words j && b) (le-ltb (j % 64) (n % 64) (omega arith)) ∙ and_right (row_in words j) false refl
        | inr d ↦ off_cut j d ∙ past words j (omega (arith, count))
      ]

-- two masks of n rows, word by word
pub zip_words : (f : Bool → Bool → Bool) → f false false ≡ false → (n : ℕ) (xs ys zs : List ℕ) → AreWords xs n → AreWords ys n → length zs ≡ length xs → ((j : ℕ) → j < 64 * length xs → row_in zs j ≡ f (row_in xs j) (row_in ys j)) → AreWords zs n
zip_words f none n xs ys zs x y len each = record {
  count = len ∙ x.count;
  clean = λ j l.
      elim (cases_lt j (64 * length xs)) [
        | inl h ↦ each j h ∙ rw (x.clean j l, y.clean j l, none)
        | inr h ↦ past zs j (omega (arith, len))
      ];
  small = x.small;
}

pub rows_zip : (f : Bool → Bool → Bool) → f false false ≡ false → (n : ℕ) (xs ys zs : List ℕ) → AreWords xs n → AreWords ys n → length zs ≡ length xs → ((j : ℕ) → j < 64 * length xs → row_in zs j ≡ f (row_in xs j) (row_in ys j)) → (i : ℕ) → get_or (rows_of n (row_in zs)) i false ≡ f (get_or (rows_of n (row_in xs)) i false) (get_or (rows_of n (row_in ys)) i false)
rows_zip f none n xs ys zs x y len each i =
    let z = zip_words f none n xs ys zs x y len each in
    rw (rows_clean n (row_in xs) x.clean i, rows_clean n (row_in ys) y.clean i, rows_clean n (row_in zs) z.clean i) (
    elim (cases_lt i n) [
      | inl h ↦ each i (omega (arith, x.count))
      | inr h ↦ rw (x.clean i h, y.clean i h, z.clean i h, none)
    ])

-- words that are all the same
pub same_words : (k w : ℕ) (b : Bool) → ((i : ℕ) → i < 64 → bit_of w i ≡ b) → (j : ℕ) → j / 64 < k → row_in (replicate k w) j ≡ b
same_words k w b each j h = ap (λ x. bit_of x (j % 64)) (get_or-replicate k (j / 64) w 0 h) ∙ each (j % 64) (omega arith)
