-- Values of the rows of a word, those alone whose bit is set.
use Rattle.std.proofs.Common.{Bool, List, None, Option, [], ap, arith, false, get_or, inl, inr, length, map, refl, replicate, suc, sym, take, true, zero, ℕ, ℤ, ◌++◌, ◌+◌, ◌<◌, ◌≡◌, ◌≤◌, ◌∙◌, ◌∷◌, subst, drop, length-drop, length-take}
use Rattle.std.specs.List.{filter, range_with_len}
use Rattle.std.proofs.lemmas.Bool.{cases_Bool}
use Rattle.std.proofs.lemmas.List.{append-nil, append_assoc, map-append, map-id}
use Rattle.std.proofs.lemmas.List.Elements.{All-filter, filter-append}
use Rattle.std.proofs.lemmas.List.FromFn.{get_or-range_with_len, length-range_with_len, map-range_with_len_more}
use Rattle.bw_mask.specs.Masks.{MaskRows, bit_of, row_at}
use Rattle.bw_code.proofs.Lists.{part_at}
use Rattle.bw_column.specs.Values.{value_at}
use Rattle.bw_table.specs.Changes.{places_below}
use Rattle.bw_table.specs.Sets.{picked}
use Rattle.bw_table.proofs.Places.{gathered_in, gathered_out, map_alike}

range_more : (n : ℕ) → range_with_len 0 (n + 1) ≡ range_with_len 0 n ++ n ∷ []
range_more n = sym (map-id (range_with_len 0 (n + 1))) ∙ map-range_with_len_more (λ (i : ℕ). i) 0 n n (omega arith) ∙ ap (λ xs. xs ++ n ∷ []) (map-id (range_with_len 0 n))

-- those of the first n places that pass a test
module _ {X : Type 0} (test : ℕ → Bool) (f : ℕ → X) where
  more : (n : ℕ) → filter test (range_with_len 0 (n + 1)) ≡ filter test (range_with_len 0 n) ++ filter test (n ∷ [])
  more n = ap (filter test) (range_more n) ∙ filter-append test (range_with_len 0 n) (n ∷ [])

  pub picked_in : (n : ℕ) → test n ≡ true → map f (filter test (range_with_len 0 (n + 1))) ≡ map f (filter test (range_with_len 0 n)) ++ f n ∷ []
  picked_in n e =
      let one : filter test (n ∷ []) ≡ n ∷ [] = rw e refl in
      ap (map f) (more n ∙ ap (λ ys. filter test (range_with_len 0 n) ++ ys) one) ∙ map-append f (filter test (range_with_len 0 n)) (n ∷ [])

  pub picked_out : (n : ℕ) → test n ≡ false → map f (filter test (range_with_len 0 (n + 1))) ≡ map f (filter test (range_with_len 0 n))
  picked_out n e =
      let none : filter test (n ∷ []) ≡ [] = rw e refl in
      ap (map f) (more n ∙ ap (λ ys. filter test (range_with_len 0 n) ++ ys) none ∙ append-nil (filter test (range_with_len 0 n)))

-- what stands in the rows of a mask from a row on, by the word of them
pub gathered_run : (mask : MaskRows) (f : ℕ → Option ℤ) (row rows n : ℕ) → ((i : ℕ) → i < n → bit_of rows i ≡ row_at mask (row + i))
    → map f (places_below mask (row + n)) ≡ map f (places_below mask row) ++ map (λ i. f (row + i)) (filter (bit_of rows) (range_with_len 0 n))
gathered_run mask f row rows zero same = let e : row + zero ≡ row = omega arith in ap (λ m. map f (places_below mask m)) e ∙ sym (append-nil (map f (places_below mask row)))
gathered_run mask f row rows (suc n) same =
    let here = bit_of rows n in
    let now = map f (places_below mask row) in
    let g : ℕ → Option ℤ = λ i. f (row + i) in
    let before = gathered_run mask f row rows n (λ i h. same i (omega (arith, h))) in
    let e : row + suc n ≡ row + n + 1 = omega arith in
    let s : n + 1 ≡ suc n = omega arith in
    subst (λ m. map f (places_below mask (row + suc n)) ≡ now ++ map g (filter (bit_of rows) (range_with_len 0 m))) s
    (ap (λ m. map f (places_below mask m)) e
    ∙ elim (cases_Bool here) [
      | inl t ↦
          gathered_in mask f (row + n) (sym (same n (omega arith)) ∙ t) ∙ ap (λ xs. xs ++ f (row + n) ∷ []) before
          ∙ append_assoc now (map g (filter (bit_of rows) (range_with_len 0 n))) (f (row + n) ∷ [])
          ∙ ap (λ xs. now ++ xs) (sym (picked_in (bit_of rows) g n t))
      | inr t ↦ gathered_out mask f (row + n) (sym (same n (omega arith)) ∙ t) ∙ before ∙ ap (λ xs. now ++ xs) (sym (picked_out (bit_of rows) g n t))
    ])

-- a value for each place
pub one_value : {A : Type 0} (x : Option ℤ) (ps : List A) → replicate (length ps) x ≡ map (λ _. x) ps
one_value x [] = refl
one_value x (p ∷ ps) = ap (λ xs. x ∷ xs) (one_value x ps)

-- of a run that was read from a list, those whose bit is set
pub picked_run : (rows row n : ℕ) (vs run : List (Option ℤ)) → run ≡ take n (drop row vs) → row + n ≤ length vs → picked rows run ≡ map (λ i. value_at vs (row + i)) (filter (bit_of rows) (range_with_len 0 n))
picked_run rows row n vs run is inside =
    let long : length run ≡ n = omega (arith, ap length is, length-take n (drop row vs), length-drop row vs, inside) in
    let there : ℕ → Option ℤ = λ i. value_at vs (row + i) in
    ap (λ m. map (value_at run) (filter (bit_of rows) (range_with_len 0 m))) long
    ∙ map_alike (value_at run) there (filter (bit_of rows) (range_with_len 0 n)) (All-filter (bit_of rows) (λ i. value_at run i ≡ there i) (range_with_len 0 n) (λ k d l.
    let low : k < n = omega (arith, l, length-range_with_len 0 n) in
    let e : get_or (range_with_len 0 n) k d ≡ k = omega (arith, get_or-range_with_len 0 n k d low) in
    rw e (part_at vs run row n k None is (omega (arith, low, long)))))
