-- Codes summed as two numbers: one of their lowest m bits, and one of the others.
use Rattle.std.proofs.Common.{Bool, List, [], ap, arith, drop, false, get_or, inl, inr, length, length-take, map, pow_pos, refl, sum, sym, take, true, ℕ, ◌%◌, ◌*◌, ◌+◌, ◌-◌, ◌/◌, ◌<◌, ◌∷◌, ◌^◌, ◌≡◌, ◌≤◌, ◌∙◌}
use Rattle.std.proofs.Math.Nat.{add-mul, div-lt_iff_lt-mul, mod-lt, mul-le-mul, pow-le-pow_right, zero-add}
use Rattle.std.proofs.lemmas.Bool.{cases_lt}
use Rattle.std.proofs.lemmas.List.{drop-map, get_or-map, get_or-take, get_or_default, get_or_past, length-map, same_lists, take-map}
use Rattle.std.proofs.lemmas.List.Elements.{All-map}
use Rattle.std.proofs.lemmas.List.Sums.{sum_by-cons}
use Rattle.std.proofs.lemmas.Nat.{div-add-mod', pow-add}
use Rattle.std.specs.List.{items_where_true}
use Rattle.std.specs.Prelude.{All}
use Rattle.bw_mask.specs.Masks.{bit_of}
use Rattle.bw_mask.proofs.Bits.{bit_of_shr}
use Rattle.bw_vertical.proofs.ByteBits.{low_bit}
use Rattle.bw_aggregate.specs.Left.{codes_between}
use Rattle.bw_aggregate.specs.PlaneSums.{AreMadeOf}
use Rattle.bw_aggregate.specs.Runs.{code_sum}
use Rattle.bw_aggregate.proofs.Descents.{all_chosen}
use Rattle.bw_aggregate.proofs.Fronts.{fronts-all, fronts-bound}

-- a part of the codes, each with its half
pub half_part : (f : ℕ → ℕ) (codes all half : List ℕ) (at : ℕ) → codes ≡ take (length codes) (drop at all) → half ≡ map f codes → half ≡ take (length half) (drop at (map f all))
half_part f codes all half at is are =
    let long : length half ≡ length codes = ap length are ∙ length-map codes f in
    are ∙ ap (map f) is ∙ sym (take-map f (length codes) (drop at all)) ∙ ap (take (length codes)) (sym (drop-map f at all)) ∙ ap (λ n. take n (drop at (map f all))) (sym long)

-- an item, and 0 past the last
item : (f : ℕ → ℕ) → f 0 ≡ 0 → (codes : List ℕ) (r : ℕ) → get_or (map f codes) r 0 ≡ f (get_or codes r 0)
item f none codes r =
    elim (cases_lt r (length codes)) [
      | inl h ↦ get_or-map f codes r 0 0 h
      | inr h ↦ get_or_past (map f codes) r 0 (omega (arith, h, length-map codes f)) ∙ sym none ∙ ap f (sym (get_or_past codes r 0 h))
    ]

-- a run's halves, by each of them
pub halves_are : (f : ℕ → ℕ) (codes out : List ℕ) → length codes ≤ length out → ((k : ℕ) → k < length codes → get_or out k 0 ≡ f (get_or codes k 0)) → take (length codes) out ≡ map f codes
halves_are f codes out few each =
    let long : length (take (length codes) out) ≡ length codes = omega (arith, few, length-take (length codes) out) in
    same_lists (take (length codes) out) (map f codes) (long ∙ sym (length-map codes f)) (λ k d h.
    let low : k < length codes = omega (arith, h, long) in
    get_or-take (length codes) out k d low ∙ get_or_default out k d 0 (omega (arith, low, few)) ∙ each k low ∙ sym (get_or-map f codes k 0 d low))

module _ (m : ℕ) where
  abbrev pub lower : ℕ → ℕ
  lower code = code % 2 ^ m

  abbrev pub upper : ℕ → ℕ
  upper code = code / 2 ^ m

  sums : (rows : List Bool) (codes : List ℕ) → sum (items_where_true rows codes) ≡ sum (items_where_true rows (map lower codes)) + sum (items_where_true rows (map upper codes)) * 2 ^ m
  sums [] codes = omega arith
  sums (b ∷ rows) [] = omega arith
  sums (true ∷ rows) (c ∷ codes) =
      omega (arith, sums rows codes, div-add-mod' c (2 ^ m), add-mul (upper c) (sum (items_where_true rows (map upper codes))) (2 ^ m), ap (λ n. n * 2 ^ m) (sum_by-cons (λ x. x) (upper c) (items_where_true rows (map upper codes))), sum_by-cons (λ x. x) c (items_where_true rows codes), sum_by-cons (λ x. x) (lower c) (items_where_true rows (map lower codes)), sum_by-cons (λ x. x) (upper c) (items_where_true rows (map upper codes)))
  sums (false ∷ rows) (c ∷ codes) = sums rows codes

  -- those of the rows in front of a place
  pub sums_in_front : (rows : List Bool) (codes : List ℕ) (n : ℕ) → code_sum rows codes n ≡ code_sum rows (map lower codes) n + code_sum rows (map upper codes) n * 2 ^ m
  sums_in_front rows codes n = sums (take n rows) (take n codes) ∙ rw (take-map lower n codes, take-map upper n codes) refl

  -- those of the rows between two places
  part_of : (f : ℕ → ℕ) (codes : List ℕ) (from n : ℕ) → take n (drop from (map f codes)) ≡ map f (take n (drop from codes))
  part_of f codes from n = ap (take n) (drop-map f from codes) ∙ take-map f n (drop from codes)

  pub sums_between : (rows : List Bool) (codes : List ℕ) (from to : ℕ)
      → sum (codes_between rows codes from to) ≡ sum (codes_between rows (map lower codes) from to) + sum (codes_between rows (map upper codes) from to) * 2 ^ m
  sums_between rows codes from to =
      sums (take (to - from) (drop from rows)) (take (to - from) (drop from codes)) ∙ rw (part_of lower codes from (to - from), part_of upper codes from (to - from)) refl

  -- both are numbers of their bits
  pub lower_made : (codes : List ℕ) → AreMadeOf codes 0 m (map lower codes)
  lower_made codes r i h = ap (λ x. bit_of x i) (item lower (omega (arith, pow_pos m)) codes r) ∙ low_bit (get_or codes r 0) m i h ∙ ap (bit_of (get_or codes r 0)) (sym (zero-add i))

  pub upper_made : (codes : List ℕ) (n : ℕ) → AreMadeOf codes m n (map upper codes)
  upper_made codes n r i h = ap (λ x. bit_of x i) (item upper (omega (arith, pow_pos m)) codes r) ∙ bit_of_shr (get_or codes r 0) m i

  pub lower_fit : (codes : List ℕ) → All (λ n. n < 2 ^ m) (map lower codes)
  lower_fit codes = All-map (λ n. n < 2 ^ m) lower codes (λ k d h. mod-lt (get_or codes k d) (pow_pos m))

  pub upper_fit : (codes : List ℕ) (n : ℕ) → All (λ c. c < 2 ^ (m + n)) codes → All (λ c. c < 2 ^ n) (map upper codes)
  upper_fit codes n all = All-map (λ c. c < 2 ^ n) upper codes (λ k d h. (div-lt_iff_lt-mul {k = 2 ^ m} {x = get_or codes k d} {y = 2 ^ n} (pow_pos m)).1 (omega (arith, all k d h, pow-add 2 m n)))

-- ---- how great a sum of codes is

few_chosen : (rows : List Bool) (codes : List ℕ) → length (items_where_true rows codes) ≤ length codes
few_chosen [] codes = omega arith
few_chosen (b ∷ rows) [] = omega arith
few_chosen (true ∷ rows) (c ∷ codes) = omega (arith, few_chosen rows codes)
few_chosen (false ∷ rows) (c ∷ codes) = omega (arith, few_chosen rows codes)

pub chosen_small : (k : ℕ) (rows : List Bool) (codes : List ℕ) → k ≤ 64 → length codes ≤ 2 ^ 24 → All (λ c. c < 2 ^ k) codes → sum (items_where_true rows codes) < 2 ^ 89
chosen_small k rows codes narrow few all =
    let held = items_where_true rows codes in
    let most = fronts-bound 0 k held (all_chosen k rows codes all) in
    let wide : 2 ^ k ≤ 2 ^ 64 = pow-le-pow_right {n = 2} (omega arith) {i = k} {j = 64} narrow in
    let many : length held ≤ 2 ^ 24 = omega (arith, few, few_chosen rows codes) in
    let both : length held * 2 ^ k ≤ 2 ^ 24 * 2 ^ 64 = mul-le-mul many wide in
    omega (arith, most, both, fronts-all held)

-- a sum that is told where it is asked for
pub told_small : (asked : Bool) (told sum : ℕ) → (asked ≡ true → told ≡ sum) → (asked ≡ false → told ≡ 0) → sum < 2 ^ 89 → told < 2 ^ 89
told_small true told sum is none small = omega (arith, is refl, small)
told_small false told sum is none small = omega (arith, none refl)

-- codes of fewer bits
pub fit_wider : (k m : ℕ) (codes : List ℕ) → k ≤ m → All (λ c. c < 2 ^ k) codes → All (λ c. c < 2 ^ m) codes
fit_wider k m codes more all i d h =
    let wide : 2 ^ k ≤ 2 ^ m = pow-le-pow_right {n = 2} (omega arith) {i = k} {j = m} more in
    omega (arith, wide, all i d h)
