-- The codes that begin with the bits found so far, one plane further.
use Rattle.std.proofs.Common.{Bool, pow_pos, List, [], add-one, ap, arith, cond, count_by, false, length, nat_le, nat_lt, not, refl, sym, true, ℕ, ◌%◌, ◌&&◌, ◌*◌, ◌+◌, ◌-◌, ◌/◌, ◌<◌, ◌==◌, ◌^◌, ◌≡◌, ◌≤◌, ◌∙◌, ◌∷◌}
use Rattle.std.proofs.Math.Nat.{div-div-eq-div-mul, div-eq_of_lt, div-one, mul-le-mul_left, pow-le-pow_right, pow-suc}
use Rattle.std.proofs.lemmas.Bool.Decides.{nat_tests}
use Rattle.bw_mask.specs.Masks.{bit_of}
use Rattle.bw_aggregate.specs.Descents.{BeginsAll, IsNthCode, IsRest, begin_count, front, next}
use Rattle.bw_aggregate.specs.Planes.{has_bit}
use Rattle.bw_aggregate.proofs.Counting.{count_all, count_cons, count_no, count_same, count_split, count_yes}
use Rattle.std.proofs.lemmas.List.Elements.{All-cons, All-head, All-nil, All-tail}
use Rattle.std.specs.List.{items_where_true}
use Rattle.std.specs.Prelude.{All}

pub front-half : (i code : ℕ) → front (i + 1) code ≡ front i code / 2
front-half i code = rw (add-one i, pow-suc 2 i) (sym (div-div-eq-div-mul code (2 ^ i) 2))

begins_zero : (x q : ℕ) → (x == q * 2) ≡ (not (x % 2 == 1) && (x / 2 == q))
begins_zero x q = grind (arith, nat_tests)

begins_one : (x q : ℕ) → (x == q * 2 + 1) ≡ ((x % 2 == 1) && (x / 2 == q))
begins_one x q = grind (arith, nat_tests)

below_zero : (x q : ℕ) → nat_lt x (q * 2) ≡ nat_lt (x / 2) q
below_zero x q = grind (arith, nat_tests)

below_one : (x q : ℕ) → cond {A = ℕ} (nat_lt x (q * 2 + 1)) 1 0 ≡ cond (nat_lt (x / 2) q) 1 0 + cond (x == q * 2) 1 0
below_one x q = grind (arith, nat_tests)

one_of_two : (x q : ℕ) → cond {A = ℕ} (x / 2 == q) 1 0 ≡ cond (x == q * 2) 1 0 + cond (x == q * 2 + 1) 1 0
one_of_two x q = grind (arith, nat_tests)

module _ (codes : List ℕ) (n i left found : ℕ) where
  -- the codes that go on with 0, and those that go on with 1
  pub both : count_by (λ c. front (i + 1) c == found) codes ≡ count_by (λ c. front i c == found * 2) codes + count_by (λ c. front i c == found * 2 + 1) codes
  both = count_split (λ c. front i c == found * 2) (λ c. front i c == found * 2 + 1) (λ c. front (i + 1) c == found) codes
      (λ c. ap (λ x. cond {A = ℕ} (x == found) 1 0) (front-half i c) ∙ one_of_two (front i c) found)

  pub go_zero : IsRest codes n (i + 1) left found → left < count_by (λ c. front i c == found * 2) codes → IsRest codes n i left (found * 2)
  go_zero d low =
      let below = d.below in
      let same = count_same (λ c. nat_lt (front i c) (found * 2)) (λ c. nat_lt (front (i + 1) c) found) codes (λ c. below_zero (front i c) found ∙ ap (λ x. nat_lt x found) (sym (front-half i c))) in
      record { below = omega arith; there = low }

  pub go_one : IsRest codes n (i + 1) left found → count_by (λ c. front i c == found * 2) codes ≤ left → IsRest codes n i (left - count_by (λ c. front i c == found * 2) codes) (found * 2 + 1)
  go_one d high =
      let below = d.below in
      let there = d.there in
      let more = count_split (λ c. nat_lt (front (i + 1) c) found) (λ c. front i c == found * 2) (λ c. nat_lt (front i c) (found * 2 + 1)) codes
      (λ c. below_one (front i c) found ∙ ap (λ x. cond {A = ℕ} (nat_lt x found) 1 0 + cond (front i c == found * 2) 1 0) (sym (front-half i c))) in
      record { below = omega arith; there = omega (arith, both) }

-- of codes of k bits all begin with nothing
pub descent_start : (codes : List ℕ) (n k : ℕ) → All (λ c. c < 2 ^ k) codes → n < length codes → IsRest codes n k n 0
descent_start codes n k below low = record { below = omega (arith, none codes); there = omega (arith, every codes below) }
  where
    none : (xs : List ℕ) → count_by (λ c. nat_lt (front k c) 0) xs ≡ 0
    none [] = refl
    none (x ∷ xs) = let no_one : nat_lt (front k x) 0 ≡ false = grind (arith, nat_tests) in count_no (λ c. nat_lt (front k c) 0) x xs no_one ∙ none xs

    every : (xs : List ℕ) → All (λ c. c < 2 ^ k) xs → count_by (λ c. front k c == 0) xs ≡ length xs
    every [] all = refl
    every (x ∷ xs) all =
        let small : front k x ≡ 0 = div-eq_of_lt (All-head (λ c. c < 2 ^ k) x xs all) in
        let it : (front k x == 0) ≡ true = ap (λ y. y == 0) small in
        let rest = every xs (All-tail (λ c. c < 2 ^ k) x xs all) in
        omega (arith, count_yes (λ c. front k c == 0) x xs it)

-- where no bit is left, it is found
pub descent_end : (codes : List ℕ) (n left found : ℕ) → IsRest codes n 0 left found → IsNthCode codes n found
descent_end codes n left found d =
    let below = d.below in
    let there = d.there in
    let less = count_same (λ c. nat_lt (front 0 c) found) (λ c. nat_lt c found) codes (λ c. ap (λ x. nat_lt x found) (div-one c)) in
    let same = count_same (λ c. front 0 c == found) (λ c. c == found) codes (λ c. ap (λ x. x == found) (div-one c)) in
    let up_to = count_split (λ c. nat_lt c found) (λ c. c == found) (λ c. nat_le c found) codes (λ c. grind (arith, nat_tests)) in
    record { below = omega arith; upto = omega arith; there = omega arith }

-- the codes that go on with a bit are those that have it and began as before
pub begins_next : (i found c : ℕ) (bit : Bool) → (front i c == next found bit) ≡ (has_bit i bit c && (front (i + 1) c == found))
begins_next i found c true = begins_one (front i c) found ∙ ap (λ x. bit_of c i && (x == found)) (sym (front-half i c))
begins_next i found c false = begins_zero (front i c) found ∙ ap (λ x. not (bit_of c i) && (x == found)) (sym (front-half i c))

turned : (a b : Bool) → (a && b) ≡ (b && a)
turned true true = refl
turned true false = refl
turned false true = refl
turned false false = refl

turned_in : (a b p : Bool) → (a && (b && p)) ≡ ((b && a) && p)
turned_in true true p = refl
turned_in true false p = refl
turned_in false true p = refl
turned_in false false p = refl

count_fewer : (p q : ℕ → Bool) (xs : List ℕ) → count_by (λ c. p c && q c) xs ≤ count_by p xs
count_fewer p q [] = omega arith
count_fewer p q (x ∷ xs) =
    let rest = count_fewer p q xs in
    omega (arith, count_cons (λ c. p c && q c) x xs, count_cons p x xs, one (p x) (q x))
  where
    one : (a b : Bool) → cond {A = ℕ} (a && b) 1 0 ≤ cond a 1 0
    one true true = omega arith
    one true false = omega arith
    one false b = omega arith

-- the rows that are left, counted by any test of their codes
module _ (held : List ℕ) (i found : ℕ) (counted : (ℕ → Bool) → ℕ) (left : (p : ℕ → Bool) → counted p ≡ count_by (λ c. (front (i + 1) c == found) && p c) held) where
  -- those with the bit
  pub narrowed : (bit : Bool) (p : ℕ → Bool) → counted (λ c. has_bit i bit c && p c) ≡ count_by (λ c. (front i c == next found bit) && p c) held
  narrowed bit p =
      left (λ c. has_bit i bit c && p c)
      ∙ count_same (λ c. (front (i + 1) c == found) && (has_bit i bit c && p c)) (λ c. (front i c == next found bit) && p c) held
      (λ c. turned_in (front (i + 1) c == found) (has_bit i bit c) (p c) ∙ ap (λ b. b && p c) (sym (begins_next i found c bit)))

  pub with_bit : (bit : Bool) → counted (has_bit i bit) ≡ begin_count held i (next found bit)
  with_bit bit =
      left (has_bit i bit)
      ∙ count_same (λ c. (front (i + 1) c == found) && has_bit i bit c) (λ c. front i c == next found bit) held
      (λ c. turned (front (i + 1) c == found) (has_bit i bit c) ∙ sym (begins_next i found c bit))

-- above the top plane all codes begin with nothing
module _ (k : ℕ) (held : List ℕ) (begins : BeginsAll k held) where
  pub all_begin : (p : ℕ → Bool) → count_by p held ≡ count_by (λ c. (front k c == 0) && p c) held
  all_begin p = over held begins.below
    where
      over : (xs : List ℕ) → All (λ c. c < 2 ^ k) xs → count_by p xs ≡ count_by (λ c. (front k c == 0) && p c) xs
      over [] all = refl
      over (x ∷ xs) all =
          let small : front k x ≡ 0 = div-eq_of_lt (All-head (λ c. c < 2 ^ k) x xs all) in
          let it : ((front k x == 0) && p x) ≡ p x = ap (λ y. (y == 0) && p x) small in
          let same : ◌≡◌ {A = ℕ} (cond ((front k x == 0) && p x) 1 0) (cond (p x) 1 0) = ap (λ b. cond {A = ℕ} b 1 0) it in
          let rest = over xs (All-tail (λ c. c < 2 ^ k) x xs all) in
          omega (arith, same, rest, count_cons p x xs, count_cons (λ c. (front k c == 0) && p c) x xs)

  pub begin_all : begin_count held k 0 ≡ length held
  begin_all =
      sym (count_same (λ c. (front k c == 0) && true) (λ c. front k c == 0) held (λ c. and_true (front k c == 0)))
      ∙ sym (all_begin (λ c. true)) ∙ count_all held
    where
      and_true : (b : Bool) → (b && true) ≡ b
      and_true true = refl
      and_true false = refl

  pub small_start : (0 + 1) * 2 ^ k ≤ 2 ^ 64
  small_start = let most : 2 ^ k ≤ 2 ^ 64 = pow-le-pow_right {n = 2} (omega arith) {i = k} {j = 64} begins.narrow in omega (arith, most)

  pub rest_start : (n : ℕ) → n < length held → IsRest held n k n 0
  rest_start n low = descent_start held n k begins.below low

pub small_room : (found i : ℕ) → (found + 1) * 2 ^ (i + 1) ≤ 2 ^ 64 → found < 2 ^ 63
small_room found i h =
    let g = rw (add-one i, pow-suc 2 i) at h in
    let one : (found + 1) * 1 ≤ (found + 1) * 2 ^ i = mul-le-mul_left (found + 1) (pow_pos i) in
    omega arith

pub small_next : (found i : ℕ) (bit : Bool) → (found + 1) * 2 ^ (i + 1) ≤ 2 ^ 64 → (next found bit + 1) * 2 ^ i ≤ 2 ^ 64
small_next found i true h = let g = rw (add-one i, pow-suc 2 i) at h in omega arith
small_next found i false h = let g = rw (add-one i, pow-suc 2 i) at h in omega arith

pub all_chosen : (k : ℕ) (rows : List Bool) (codes : List ℕ) → All (λ c. c < 2 ^ k) codes → All (λ c. c < 2 ^ k) (items_where_true rows codes)
all_chosen k [] codes all = All-nil (λ c. c < 2 ^ k)
all_chosen k (b ∷ rows) [] all = All-nil (λ c. c < 2 ^ k)
all_chosen k (true ∷ rows) (c ∷ codes) all = All-cons (λ x. x < 2 ^ k) c (items_where_true rows codes) (All-head (λ x. x < 2 ^ k) c codes all) (all_chosen k rows codes (All-tail (λ x. x < 2 ^ k) c codes all))
all_chosen k (false ∷ rows) (c ∷ codes) all = all_chosen k rows codes (All-tail (λ x. x < 2 ^ k) c codes all)
