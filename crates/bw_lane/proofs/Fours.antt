-- Four words that are stored over a list.
use Rattle.std.proofs.Common.{◌≡◌, ℕ, ◌+◌, ◌-◌, ◌<◌, ◌≤◌, List, length, map, get_or, ap, sym, subst, ◌∙◌, inl, inr, arith, w64}
use Rattle.std.specs.Int.{bit_not}
use Rattle.std.proofs.lemmas.Bool.{cases_lt}
use Rattle.std.proofs.lemmas.List.{get_or-map, length-map}
use Rattle.std.proofs.lemmas.Simd.{length-chunk, length-zip2, length-put_chunk, get_or-chunk, get_or-zip2, get_or-put_chunk_below, get_or-put_chunk_at, get_or-put_chunk_above}
use lib.Lanes.{zip2, chunk, put_chunk}

module _ (f : ℕ → ℕ → ℕ) (xs ys old four : List ℕ) (i : ℕ) (is_four : length four ≡ 4) (each : (j : ℕ) → j < 4 → get_or four j 0 ≡ f (get_or xs (i + j) 0) (get_or ys (i + j) 0)) where
  pub stored_len : length (put_chunk i xs four) ≡ length xs
  stored_len = length-put_chunk i xs four

  pub stored_below : i + 4 ≤ length xs → ((k : ℕ) → k < i → get_or xs k 0 ≡ f (get_or old k 0) (get_or ys k 0)) → ((k : ℕ) → i ≤ k → get_or xs k 0 ≡ get_or old k 0)
      → (k : ℕ) → k < i + 4 → get_or (put_chunk i xs four) k 0 ≡ f (get_or old k 0) (get_or ys k 0)
  stored_below le done rest k h =
      elim (cases_lt k i) [
        | inl l ↦ get_or-put_chunk_below i xs four k 0 l ∙ done k l
        | inr g ↦
            let at : i + (k - i) ≡ k = omega arith in
            let lane : k - i < 4 = omega arith in
            subst (λ n. get_or (put_chunk i xs four) n 0 ≡ f (get_or old n 0) (get_or ys n 0)) at (
            get_or-put_chunk_at i xs four (k - i) 0 (omega (arith, is_four)) (omega (arith, is_four))
            ∙ each (k - i) lane
            ∙ ap (λ a. f a (get_or ys (i + (k - i)) 0)) (rest (i + (k - i)) (omega arith))
            )
      ]

  pub stored_above : ((k : ℕ) → i ≤ k → get_or xs k 0 ≡ get_or old k 0) → (k : ℕ) → i + 4 ≤ k → get_or (put_chunk i xs four) k 0 ≡ get_or old k 0
  stored_above rest k h = get_or-put_chunk_above i xs four k 0 (omega (arith, is_four)) ∙ rest k (omega arith)

-- four words of two lists, and what each pair of them gives
module _ (xs ys : List ℕ) (i : ℕ) (le : i + 4 ≤ length xs) (same : length xs ≡ length ys) where
  long : length (chunk i 4 xs) ≡ 4
  long = length-chunk i 4 xs le

  also : length (chunk i 4 ys) ≡ 4
  also = length-chunk i 4 ys (omega (arith, same))

  pub four_of : (f : ℕ → ℕ → ℕ) → length (zip2 f (chunk i 4 xs) (chunk i 4 ys)) ≡ 4
  four_of f = length-zip2 f _ _ (long ∙ sym also) ∙ long

  pub each_of : (f : ℕ → ℕ → ℕ) (j : ℕ) → j < 4 → get_or (zip2 f (chunk i 4 xs) (chunk i 4 ys)) j 0 ≡ f (get_or xs (i + j) 0) (get_or ys (i + j) 0)
  each_of f j h =
      get_or-zip2 f (chunk i 4 xs) (chunk i 4 ys) j 0 0 0 (omega (arith, long)) (omega (arith, also))
      ∙ ap (λ a. f a (get_or (chunk i 4 ys) j 0)) (get_or-chunk i 4 xs j 0 h)
      ∙ ap (λ b. f (get_or xs (i + j) 0) b) (get_or-chunk i 4 ys j 0 h)

  abbrev turned : List ℕ
  turned = map (bit_not w64) (chunk i 4 ys)

  turned_long : length turned ≡ 4
  turned_long = length-map (chunk i 4 ys) (bit_not w64) ∙ also

  pub four_turned : (f : ℕ → ℕ → ℕ) → length (zip2 f (chunk i 4 xs) (map (bit_not w64) (chunk i 4 ys))) ≡ 4
  four_turned f = length-zip2 f _ _ (long ∙ sym turned_long) ∙ long

  pub each_turned : (f : ℕ → ℕ → ℕ) (j : ℕ) → j < 4 → get_or (zip2 f (chunk i 4 xs) (map (bit_not w64) (chunk i 4 ys))) j 0 ≡ f (get_or xs (i + j) 0) (bit_not w64 (get_or ys (i + j) 0))
  each_turned f j h =
      get_or-zip2 f (chunk i 4 xs) (map (bit_not w64) (chunk i 4 ys)) j 0 0 0 (omega (arith, long)) (omega (arith, turned_long))
      ∙ ap (λ a. f a (get_or (map (bit_not w64) (chunk i 4 ys)) j 0)) (get_or-chunk i 4 xs j 0 h)
      ∙ ap (λ b. f (get_or xs (i + j) 0) b) (get_or-map (bit_not w64) (chunk i 4 ys) j 0 0 (omega (arith, also)) ∙ ap (bit_not w64) (get_or-chunk i 4 ys j 0 h))
