-- For how many rows there is capacity.
use Rattle.std.proofs.Common.{List, arith, get_or, inl, inr, suc, zero, ℕ, ◌*◌, ◌+◌, ◌/◌, ◌<◌, ◌≤◌}
use Rattle.std.proofs.Math.Nat.{le-div_iff_mul-le, mul-le-mul_right, div-mul-le_self}
use Rattle.std.proofs.lemmas.Bool.{cases_eq}
use Rattle.bw_code.specs.Units.{segments_of}
use Rattle.bw_vertical.specs.Storage.{groups_of, least_below, planes_in, room_of}

least_most : (most n : ℕ) (f : ℕ → ℕ) → least_below most n f ≤ most
unfolding least_below
least_most most zero f = omega arith
least_most most (suc n) f = omega (arith, least_most most n f)

least_at : (most n : ℕ) (f : ℕ → ℕ) (g : ℕ) → g < n → least_below most n f ≤ f g
unfolding least_below
least_at most zero f g h = absurd (omega arith)
least_at most (suc n) f g h =
    elim (cases_eq g n) [
      | inl e ↦ rw e (omega arith)
      | inr d ↦ omega (arith, least_at most n f g (omega (arith, h, d)))
    ]

least_if : (most n : ℕ) (f : ℕ → ℕ) (s : ℕ) → s ≤ most → ((g : ℕ) → g < n → s ≤ f g) → s ≤ least_below most n f
unfolding least_below
least_if most zero f s h each = h
least_if most (suc n) f s h each = omega (arith, least_if most n f s h (λ g l. each g (omega arith)), each n (omega arith))

-- there is room for the segment of the row after n rows
pub room_at : (k n : ℕ) (caps : List ℕ) → n < room_of k caps → (g : ℕ) → 4 * g < k → (n / 256 + 1) * planes_in k g ≤ get_or caps g 0
room_at k n caps h g l =
    let per = λ (g : ℕ). get_or caps g 0 / planes_in k g in
    let few : n / 256 + 1 ≤ least_below 65536 (groups_of k) per = omega (arith, h) in
    let here : least_below 65536 (groups_of k) per ≤ per g = least_at 65536 (groups_of k) per g (omega (arith, l)) in
    let some : 0 < planes_in k g = omega (arith, l) in
    (le-div_iff_mul-le {k = planes_in k g} {x = n / 256 + 1} {y = get_or caps g 0} some).0 (omega (arith, few, here))

-- there is capacity for the segments of n rows
pub room_below : (k n : ℕ) (caps : List ℕ) → n ≤ room_of k caps → (g : ℕ) → 4 * g < k → segments_of 256 n * planes_in k g ≤ get_or caps g 0
room_below k n caps h g l =
    let per = λ (g : ℕ). get_or caps g 0 / planes_in k g in
    let few : segments_of 256 n ≤ least_below 65536 (groups_of k) per = omega (arith, h) in
    let here : least_below 65536 (groups_of k) per ≤ per g = least_at 65536 (groups_of k) per g (omega (arith, l)) in
    let some : 0 < planes_in k g = omega (arith, l) in
    (le-div_iff_mul-le {k = planes_in k g} {x = segments_of 256 n} {y = get_or caps g 0} some).0 (omega (arith, few, here))

-- room for so many segments
pub room_for : (k s : ℕ) (caps : List ℕ) → s ≤ 65536 → ((g : ℕ) → 4 * g < k → s * planes_in k g ≤ get_or caps g 0) → 256 * s ≤ room_of k caps
room_for k s caps few each =
    let per = λ (g : ℕ). get_or caps g 0 / planes_in k g in
    let least : s ≤ least_below 65536 (groups_of k) per = least_if 65536 (groups_of k) per s few (λ g h.
    let some : 0 < planes_in k g = omega (arith, h) in
    (le-div_iff_mul-le {k = planes_in k g} {x = s} {y = get_or caps g 0} some).1 (each g (omega (arith, h)))) in
    omega (arith, least)

-- with more capacity there is no less room
pub room_more : (k : ℕ) (caps more : List ℕ) → ((g : ℕ) → get_or caps g 0 ≤ get_or more g 0) → room_of k caps ≤ room_of k more
room_more k caps more each =
    let per = λ (g : ℕ). get_or caps g 0 / planes_in k g in
    let s = least_below 65536 (groups_of k) per in
    let fits : 256 * s ≤ room_of k more = room_for k s more (least_most 65536 (groups_of k) per) (λ g l.
    let here : s ≤ per g = least_at 65536 (groups_of k) per g (omega (arith, l)) in
    omega (arith, mul-le-mul_right (planes_in k g) here, div-mul-le_self (get_or caps g 0) (planes_in k g), each g)) in
    fits
