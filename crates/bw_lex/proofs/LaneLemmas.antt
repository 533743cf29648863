-- Runs of bytes that pass a test, seen through the mask of those that fail it.
use Rattle.std.proofs.Common.{◌≡◌, ℕ, ◌+◌, ◌*◌, ◌%◌, ◌^◌, ◌-◌, ◌<◌, ◌≤◌, ltb, leb, Bool, true, false, not, ◌&&◌, ◌||◌, cond, eqb, List, [], ◌∷◌, map, length, drop, take, refl, sym, ap, ap₂, ◌∙◌, arith}
use Rattle.std.specs.Char.{is_ascii_digit}
use Rattle.std.specs.List.{prefix_len}
use Rattle.std.proofs.lemmas.Bool.{eq-eqb, le-ltb, leb-false, leb-true, lt-ltb, ne_eqb}
use Rattle.std.proofs.lemmas.List.{length-drop, length-map, length-take}
use Rattle.std.proofs.lemmas.List.Folds.{prefix_len-append}
use Rattle.std.proofs.lemmas.List.Sums.{prefix_len-le-length}
use Rattle.std.proofs.lemmas.Simd.{chunk-drop, length-chunk, leading_from_mask_l, mask_l-mod, trailing_mask_l, zip2_of_maps}
use lib.Bits.{bit_or}
use lib.Count.{count_trailing_zeros}
use lib.Lanes.{chunk, mask_l, top, zip2}
use Rattle.bw_lex.specs.Fronts.{is_plain}

-- a lane that is all ones where the test holds
abbrev pub marked : Bool → ℕ
marked t = cond t 255 0

pub top_either : (a b : Bool) → top 7 (bit_or (marked a) (marked b)) ≡ (a || b)
top_either true true = refl
top_either true false = refl
top_either false true = refl
top_either false false = refl

pub top_one_of : (a b c : Bool) → top 7 (bit_or (bit_or (marked a) (marked b)) (marked c)) ≡ ((a || b) || c)
top_one_of true true true = refl
top_one_of true true false = refl
top_one_of true false true = refl
top_one_of true false false = refl
top_one_of false true true = refl
top_one_of false true false = refl
top_one_of false false true = refl
top_one_of false false false = refl

tops_are : (f : ℕ → ℕ) (p : ℕ → Bool) → ((x : ℕ) → top 7 (f x) ≡ p x) → (v : List ℕ) → map (top 7) (map f v) ≡ map p v
tops_are f p same [] = refl
tops_are f p same (x ∷ v) = ap₂ (λ a b. a ∷ b) (same x) (tops_are f p same v)

-- the mask of lanes whose top bit says whether the byte passes
pub masked : (f : ℕ → ℕ) (p : ℕ → Bool) (v z : List ℕ) → ((x : ℕ) → top 7 (f x) ≡ p x) → length v ≤ 64 → z ≡ map f v → mask_l (map (top 7) z) % 2 ^ 64 ≡ mask_l (map p v)
masked f p v z same short e =
    ap (λ l. mask_l l % 2 ^ 64) (ap (map (top 7)) e ∙ tops_are f p same v) ∙ mask_l-mod (map p v) 64 (omega (arith, length-map v p))

-- two masks in one
pub either : (f g : ℕ → ℕ) (v : List ℕ) {a b : List ℕ} → a ≡ map f v → b ≡ map g v → zip2 bit_or a b ≡ map (λ x. bit_or (f x) (g x)) v
either f g v p q = zip2_of_maps bit_or f g v p q

below_is : (a b : ℕ) (t : Bool) → leb b a ≡ t → ltb a b ≡ not t
below_is a b true e = le-ltb a b (leb-true b a e)
below_is a b false e = lt-ltb a b (leb-false b a e)

-- below 48 or above 57
pub no_digit_is : (x : ℕ) → (ltb x 48 || ltb 57 x) ≡ not (is_ascii_digit x)
no_digit_is x = rw (below_is x 48 (leb 48 x) refl, below_is 57 x (leb x 57) refl) (by_cases (leb 48 x) (leb x 57))
  where
    by_cases : (t u : Bool) → (not t || not u) ≡ not (t && u)
    by_cases true true = refl
    by_cases true false = refl
    by_cases false true = refl
    by_cases false false = refl

one_of_three : (a b c : Bool) → ((a || b) || c) ≡ not ((not a && not b) && not c)
one_of_three true b c = refl
one_of_three false true c = refl
one_of_three false false true = refl
one_of_three false false false = refl

-- a quote, a semicolon or a dash
pub no_plain_is : (x : ℕ) → ((eqb x 39 || eqb x 59) || eqb x 45) ≡ not (is_plain x)
no_plain_is x = one_of_three (eqb x 39) (eqb x 59) (eqb x 45)

not-not : (b : Bool) → b ≡ not (not b)
not-not true = refl
not-not false = refl

none_fails : (b : Bool) (n l m : ℕ) → n ≤ l → cond b (1 + n) 0 ≡ 1 + l → (n ≡ l → m ≡ 0) → cond (not b) 1 0 + 2 * m ≡ 0
none_fails false n l m le e ih = absurd (omega arith)
none_fails true n l m le e ih = let z = ih (omega arith) in omega arith

-- A run of bytes that pass q, sixteen or so at a time.
module _ (q : ℕ → Bool) where
  all_pass : (xs : List ℕ) → prefix_len q xs ≡ length xs → mask_l (map (λ x. not (q x)) xs) ≡ 0
  all_pass [] e = refl
  all_pass (x ∷ xs) e = none_fails (q x) _ (length xs) _ (prefix_len-le-length q xs) (omega (arith, e)) (all_pass xs)

  twice : (xs : List ℕ) → prefix_len q xs ≡ prefix_len (λ x. not (not (q x))) xs
  twice [] = refl
  twice (x ∷ xs) = ap₂ (λ b n. cond b (1 + n) 0) (not-not (q x)) (twice xs)

  split : (d : List ℕ) (i n : ℕ) → prefix_len q (drop i d) ≡ cond (eqb (prefix_len q (chunk i n d)) (length (chunk i n d))) (length (chunk i n d) + prefix_len q (drop (i + n) d)) (prefix_len q (chunk i n d))
  split d i n = ap (prefix_len q) (chunk-drop i n d) ∙ prefix_len-append q (chunk i n d) (drop (i + n) d)

  pub run_through : (d : List ℕ) (i n : ℕ) → i + n ≤ length d → mask_l (map (λ x. not (q x)) (chunk i n d)) ≡ 0 → prefix_len q (drop i d) ≡ n + prefix_len q (drop (i + n) d)
  run_through d i n room none =
      let c = chunk i n d in
      split d i n ∙ ap (λ b. cond b (length c + prefix_len q (drop (i + n) d)) (prefix_len q c)) (eq-eqb _ _ (twice c ∙ leading_from_mask_l (λ x. not (q x)) c none))
      ∙ ap (λ k. k + prefix_len q (drop (i + n) d)) (length-chunk i n d room)

  pub run_stops : (d : List ℕ) (i n : ℕ) → i + n ≤ length d → n ≤ 64 → 0 < mask_l (map (λ x. not (q x)) (chunk i n d)) → prefix_len q (drop i d) ≡ count_trailing_zeros 64 (mask_l (map (λ x. not (q x)) (chunk i n d)))
  run_stops d i n room short some =
      let c = chunk i n d in
      split d i n ∙ ap (λ b. cond b (length c + prefix_len q (drop (i + n) d)) (prefix_len q c)) (ne_eqb _ _ (λ (e : prefix_len q c ≡ length c). omega (arith, all_pass c e, some)))
      ∙ twice c ∙ sym (trailing_mask_l (λ x. not (q x)) 64 c (omega (arith, length-chunk i n d room)) some)

  -- what is left from a place on, as the code cuts it
  pub rest_len : (d : List ℕ) (i : ℕ) → i ≤ length d → i + prefix_len q (take (length d - i) (drop i d)) ≤ length d
  rest_len d i h = omega (arith, prefix_len-le-length q (take (length d - i) (drop i d)), length-take (length d - i) (drop i d), length-drop i d)
