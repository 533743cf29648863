-- The comparisons on four words at a time.
use Rattle.std.proofs.Common.{◌≡◌, ℕ, ◌+◌, ◌-◌, ◌%◌, ◌^◌, ◌<◌, ◌≤◌, List, length, get_or, replicate, bit_and, bit_xor, refl, sym, ap, subst, ◌∙◌, inl, inr, arith}
use Rattle.std.specs.List.{All}
use Rattle.std.proofs.lemmas.Bool.{cases_lt}
use Rattle.std.proofs.lemmas.Simd.{get_or-zip2, length-zip2, get_or-replicate, length-chunk, get_or-chunk, get_or-put_chunk_below, get_or-put_chunk_at}
use Rattle.bw_lane.specs.Sections.{lowest_bits, delimiter_bits, code_bits, sections_in, IsStored, IsCompared}
use Rattle.bw_lane.specs.declared.sections.LaneOp.{LaneOp}
use Rattle.bw_lane.specs.declared.sections.LaneOp.TheVariants.{Eq, Ne, Lt, Le}
use Rattle.bw_lane.proofs.Kernels.{unequal_sum, less_sum, at_most_sum, unequal_fits_word, less_fits_word, at_most_fits_word, unequal, equal, less, at_most}
use native.Mathlib.Nat.{mod-eq_of_lt}
use lib.Lanes.{zip2, chunk, put_chunk}

abbrev wrap : ℕ → ℕ → ℕ
wrap a b = (a + b) % 2 ^ 64

long : (f : ℕ → ℕ → ℕ) (xs ys : List ℕ) → length xs ≡ 4 → length ys ≡ 4 → length (zip2 f xs ys) ≡ 4
long f xs ys p q = length-zip2 f xs ys (p ∙ sym q) ∙ p

lane : (f : ℕ → ℕ → ℕ) (xs ys : List ℕ) (j : ℕ) → length xs ≡ 4 → length ys ≡ 4 → j < 4 → get_or (zip2 f xs ys) j 0 ≡ f (get_or xs j 0) (get_or ys j 0)
lane f xs ys j p q h = get_or-zip2 f xs ys j 0 0 0 (omega arith) (omega arith)

lane_splat : (f : ℕ → ℕ → ℕ) (xs : List ℕ) (v j : ℕ) → length xs ≡ 4 → j < 4 → get_or (zip2 f xs (replicate 4 v)) j 0 ≡ f (get_or xs j 0) v
lane_splat f xs v j p h = lane f xs (replicate 4 v) j p refl h ∙ ap (f (get_or xs j 0)) (get_or-replicate {A = ℕ} 4 j v 0 h)

module _ (k m d l : ℕ) (em : m ≡ code_bits k (sections_in k)) (ed : d ≡ delimiter_bits k (sections_in k)) (el : l ≡ lowest_bits k (sections_in k))
    (xs ys : List ℕ) (p : length xs ≡ 4) (q : length ys ≡ 4) (xp : All (IsStored k) xs) (yp : All (IsStored k) ys) where
  x_stored : (j : ℕ) → j < 4 → IsStored k (get_or xs j 0)
  x_stored j h = xp j 0 (omega arith)

  y_stored : (j : ℕ) → j < 4 → IsStored k (get_or ys j 0)
  y_stored j h = yp j 0 (omega arith)

  abbrev s : ℕ
  s = sections_in k

  abbrev unequal_list : List ℕ
  unequal_list = zip2 wrap (zip2 bit_xor xs ys) (replicate 4 m)

  unequal_lane : (j : ℕ) → j < 4 → get_or unequal_list j 0 ≡ unequal_sum k s (get_or xs j 0) (get_or ys j 0)
  unequal_lane j h =
      lane_splat wrap (zip2 bit_xor xs ys) m j (long bit_xor xs ys p q) h
      ∙ ap (λ n. wrap n m) (lane bit_xor xs ys j p q h)
      ∙ ap (λ n. wrap (bit_xor (get_or xs j 0) (get_or ys j 0)) n) em
      ∙ mod-eq_of_lt (unequal_fits_word k (get_or xs j 0) (get_or ys j 0) (x_stored j h) (y_stored j h))

  unequal_long : length unequal_list ≡ 4
  unequal_long = long wrap (zip2 bit_xor xs ys) (replicate 4 m) (long bit_xor xs ys p q) refl

  abbrev less_list : List ℕ
  less_list = zip2 wrap ys (zip2 bit_xor xs (replicate 4 m))

  less_long : length less_list ≡ 4
  less_long = long wrap ys (zip2 bit_xor xs (replicate 4 m)) q (long bit_xor xs (replicate 4 m) p refl)

  less_lane : (j : ℕ) → j < 4 → get_or less_list j 0 ≡ less_sum k s (get_or xs j 0) (get_or ys j 0)
  less_lane j h =
      lane wrap ys (zip2 bit_xor xs (replicate 4 m)) j q (long bit_xor xs (replicate 4 m) p refl) h
      ∙ ap (wrap (get_or ys j 0)) (lane_splat bit_xor xs m j p h ∙ ap (bit_xor (get_or xs j 0)) em)
      ∙ mod-eq_of_lt (less_fits_word k (get_or xs j 0) (get_or ys j 0) (x_stored j h) (y_stored j h))

  abbrev at_most_list : List ℕ
  at_most_list = zip2 wrap less_list (replicate 4 l)

  at_most_lane : (j : ℕ) → j < 4 → get_or at_most_list j 0 ≡ at_most_sum k s (get_or xs j 0) (get_or ys j 0)
  at_most_lane j h =
      lane_splat wrap less_list l j less_long h
      ∙ ap (λ n. wrap n l) (less_lane j h)
      ∙ ap (wrap (less_sum k s (get_or xs j 0) (get_or ys j 0))) el
      ∙ mod-eq_of_lt (at_most_fits_word k (get_or xs j 0) (get_or ys j 0) (x_stored j h) (y_stored j h))

  marks_lane : (sums : List ℕ) (j n : ℕ) → length sums ≡ 4 → j < 4 → get_or sums j 0 ≡ n → get_or (zip2 bit_and sums (replicate 4 d)) j 0 ≡ bit_and n (delimiter_bits k s)
  marks_lane sums j n g h e = lane_splat bit_and sums d j g h ∙ ap (λ v. bit_and v d) e ∙ ap (bit_and n) ed

  pub unequal_each : (j : ℕ) → j < 4 → IsCompared Ne k (get_or xs j 0) (get_or ys j 0) (get_or (zip2 bit_and unequal_list (replicate 4 d)) j 0)
  unequal_each j h =
      subst (IsCompared Ne k (get_or xs j 0) (get_or ys j 0)) (sym (marks_lane unequal_list j _ unequal_long h (unequal_lane j h)))
      (unequal k (get_or xs j 0) (get_or ys j 0) (x_stored j h) (y_stored j h))

  pub equal_each : (j : ℕ) → j < 4 → IsCompared Eq k (get_or xs j 0) (get_or ys j 0) (get_or (zip2 bit_xor (zip2 bit_and unequal_list (replicate 4 d)) (replicate 4 d)) j 0)
  equal_each j h =
      let marks = marks_lane unequal_list j (unequal_sum k s (get_or xs j 0) (get_or ys j 0)) unequal_long h (unequal_lane j h) in
      let turned = lane_splat bit_xor (zip2 bit_and unequal_list (replicate 4 d)) d j (long bit_and unequal_list (replicate 4 d) unequal_long refl) h in
      subst (IsCompared Eq k (get_or xs j 0) (get_or ys j 0))
      (sym (turned ∙ ap (λ n. bit_xor n d) marks ∙ ap (bit_xor (bit_and (unequal_sum k s (get_or xs j 0) (get_or ys j 0)) (delimiter_bits k s))) ed))
      (equal k (get_or xs j 0) (get_or ys j 0) (x_stored j h) (y_stored j h))

  pub less_each : (j : ℕ) → j < 4 → IsCompared Lt k (get_or xs j 0) (get_or ys j 0) (get_or (zip2 bit_and less_list (replicate 4 d)) j 0)
  less_each j h =
      subst (IsCompared Lt k (get_or xs j 0) (get_or ys j 0)) (sym (marks_lane less_list j _ less_long h (less_lane j h)))
      (less k (get_or xs j 0) (get_or ys j 0) (x_stored j h) (y_stored j h))

  pub at_most_each : (j : ℕ) → j < 4 → IsCompared Le k (get_or xs j 0) (get_or ys j 0) (get_or (zip2 bit_and at_most_list (replicate 4 d)) j 0)
  at_most_each j h =
      subst (IsCompared Le k (get_or xs j 0) (get_or ys j 0)) (sym (marks_lane at_most_list j _ (long wrap less_list (replicate 4 l) less_long refl) h (at_most_lane j h)))
      (at_most k (get_or xs j 0) (get_or ys j 0) (x_stored j h) (y_stored j h))

-- what holds of each word written so far, and of the next four
pub stored_four : (P : ℕ → ℕ → Type 0) (out four : List ℕ) (i : ℕ) → length four ≡ 4 → i + 4 ≤ length out
    → ((j : ℕ) → j < i → P j (get_or out j 0)) → ((j : ℕ) → j < 4 → P (i + j) (get_or four j 0))
    → (j : ℕ) → j < i + 4 → P j (get_or (put_chunk i out four) j 0)
stored_four P out four i is_four le before here j h =
    elim (cases_lt j i) [
      | inl l ↦ subst (P j) (sym (get_or-put_chunk_below i out four j 0 l)) (before j l)
      | inr g ↦
          let at : i + (j - i) ≡ j = omega arith in
          subst (λ n. P n (get_or (put_chunk i out four) n 0)) at
          (subst (P (i + (j - i))) (sym (get_or-put_chunk_at i out four (j - i) 0 (omega (arith, is_four)) (omega (arith, is_four)))) (here (j - i) (omega arith)))
    ]

-- the next four of a list
pub next_four : (P : ℕ → Type 0) (xs : List ℕ) (i : ℕ) → i + 4 ≤ length xs → All P xs → All P (chunk i 4 xs)
next_four P xs i le all j d h =
    let lt : j < 4 = omega (arith, length-chunk i 4 xs le) in
    subst P (sym (get_or-chunk i 4 xs j d lt)) (all (i + j) d (omega arith))

pub four_compared : (op : LaneOp) (k w : ℕ) (xs : List ℕ) (y i : ℕ) (four : List ℕ) → w ≡ k
    → ((j : ℕ) → j < 4 → IsCompared op w (get_or (chunk i 4 xs) j 0) (get_or (replicate 4 y) j 0) (get_or four j 0))
    → (j : ℕ) → j < 4 → IsCompared op k (get_or xs (i + j) 0) y (get_or four j 0)
four_compared op k w xs y i four e each j h =
    subst (λ n. IsCompared op n (get_or xs (i + j) 0) y (get_or four j 0)) e
    (subst (λ n. IsCompared op w n y (get_or four j 0)) (get_or-chunk i 4 xs j 0 h)
    (subst (λ n. IsCompared op w (get_or (chunk i 4 xs) j 0) n (get_or four j 0)) (get_or-replicate {A = ℕ} 4 j y 0 h) (each j h)))

pub fours_compared : (op : LaneOp) (k w : ℕ) (xs ys : List ℕ) (i : ℕ) (four : List ℕ) → w ≡ k
    → ((j : ℕ) → j < 4 → IsCompared op w (get_or (chunk i 4 xs) j 0) (get_or (chunk i 4 ys) j 0) (get_or four j 0))
    → (j : ℕ) → j < 4 → IsCompared op k (get_or xs (i + j) 0) (get_or ys (i + j) 0) (get_or four j 0)
fours_compared op k w xs ys i four e each j h =
    subst (λ n. IsCompared op n (get_or xs (i + j) 0) (get_or ys (i + j) 0) (get_or four j 0)) e
    (subst (λ n. IsCompared op w n (get_or ys (i + j) 0) (get_or four j 0)) (get_or-chunk i 4 xs j 0 h)
    (subst (λ n. IsCompared op w (get_or (chunk i 4 xs) j 0) n (get_or four j 0)) (get_or-chunk i 4 ys j 0 h) (each j h)))
