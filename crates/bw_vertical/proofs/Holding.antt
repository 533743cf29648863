-- What groups of planes hold.
use Rattle.std.proofs.Common.{Global, List, Vec, [], ◌++◌, ap, arith, drop, false, get_or, inl, inr, length, set, sym, take, ℕ, ◌%◌, ◌*◌, ◌+◌, ◌-◌, ◌/◌, ◌<◌, ◌^◌, ◌≡◌, ◌≤◌, ◌∙◌, pow_pos}
use mathlib.Core.Logic.{◌≢◌}
use Rattle.std.proofs.Math.Nat.{mul-le-mul_right}
use Rattle.std.proofs.lemmas.Bool.{cases_lt}
use Rattle.std.proofs.lemmas.List.{get_or-drop, get_or-take, get_or_past, length-map, length-take}
use Rattle.std.proofs.lemmas.Nat.{div-mul-add, mod-mul-add}
use Rattle.bw_mask.specs.Masks.{bit_of, row_in}
use Rattle.bw_mask.proofs.Bits.{bit_of_zero}
use Rattle.bw_code.proofs.Lists.{made_at, made_len, made_more, made_set}
use Rattle.bw_code.specs.Units.{segments_of}
use Rattle.bw_vertical.specs.Planes.{code_in, in_plane}
use Rattle.bw_vertical.specs.Storage.{AreGroups, HasSegment, HoldsUnits, KeepsSizes, code_of, codes_of, is_set, lists, plane_at, planes_in, units_of}
use Rattle.bw_vertical.proofs.Numbers.{number_bit, number_is, number_lt, number_same}

pub codes_len : (k n : ℕ) (gs : List (List (List ℕ))) → length (codes_of k gs n) ≡ n
codes_len k n gs = made_len n (code_of k gs)

pub code_lt : (k : ℕ) (gs : List (List (List ℕ))) (j : ℕ) → code_of k gs j < 2 ^ k
code_lt k gs j = number_lt (λ i. is_set k gs i j) k

pub code_bit : (k i j : ℕ) (gs : List (List (List ℕ))) → i < k → bit_of (code_of k gs j) (k - 1 - i) ≡ is_set k gs i j
code_bit k i j gs h = number_bit (λ p. is_set k gs p j) k i h

pub code_is : (k j code : ℕ) (gs : List (List (List ℕ))) → code < 2 ^ k → ((i : ℕ) → i < k → is_set k gs i j ≡ bit_of code (k - 1 - i)) → code_of k gs j ≡ code
code_is k j code gs small each = number_is (λ i. is_set k gs i j) k code small each

pub code_same : (k j : ℕ) (new old : List (List (List ℕ))) → ((i : ℕ) → i < k → is_set k new i j ≡ is_set k old i j) → code_of k new j ≡ code_of k old j
code_same k j new old each = number_same (λ i. is_set k new i j) (λ i. is_set k old i j) k each

module _ (k n : ℕ) (gs : List (List (List ℕ))) (held : AreGroups k gs n) where
  pub has_segment : (q : ℕ) → q < segments_of 256 n → HasSegment k gs q
  has_segment q h g l = let more : q + 1 ≤ segments_of 256 n = omega arith in omega (arith, held.sizes g l, mul-le-mul_right (planes_in k g) more)

  -- past the last row every code is 0
  pub codes_at : (j : ℕ) → get_or (codes_of k gs n) j 0 ≡ code_of k gs j
  codes_at j =
      elim (cases_lt j n) [
        | inl h ↦ made_at n (code_of k gs) j 0 h
        | inr h ↦
            get_or_past (codes_of k gs n) j 0 (omega (arith, h, codes_len k n gs))
            ∙ sym (code_is k j 0 gs (pow_pos k) (λ i l. held.clean i j l h ∙ sym (bit_of_zero (k - 1 - i))))
      ]

  pub codes_bit : (i j : ℕ) → i < k → bit_of (get_or (codes_of k gs n) j 0) (k - 1 - i) ≡ is_set k gs i j
  codes_bit i j h = ap (λ c. bit_of c (k - 1 - i)) (codes_at j) ∙ code_bit k i j gs h

-- row r of plane i of segment q
pub plane_row : (k q i r : ℕ) (gs : List (List (List ℕ))) → r < 256 → row_in (plane_at k gs q i) r ≡ is_set k gs i (256 * q + r)
plane_row k q i r gs h =
    let segment : (256 * q + r) / 64 / 4 ≡ q = omega arith in
    let lane : (256 * q + r) / 64 % 4 ≡ r / 64 = omega arith in
    let bit : (256 * q + r) % 64 ≡ r % 64 = omega arith in
    sym (
    ap (λ s. bit_of (get_or (plane_at k gs s i) ((256 * q + r) / 64 % 4) 0) ((256 * q + r) % 64)) segment
    ∙ ap (λ l. bit_of (get_or (plane_at k gs q i) l 0) ((256 * q + r) % 64)) lane
    ∙ ap (bit_of (get_or (plane_at k gs q i) (r / 64) 0)) bit)

-- the same by the place in the group
pub group_row : (k q g i r : ℕ) (gs : List (List (List ℕ))) → i < planes_in k g → r < 256
    → row_in (get_or (get_or gs g []) (q * planes_in k g + i) []) r ≡ is_set k gs (4 * g + i) (256 * q + r)
group_row k q g i r gs low h =
    let group : (4 * g + i) / 4 ≡ g = omega (arith, low) in
    let place : (4 * g + i) % 4 ≡ i = omega (arith, low) in
    sym (ap (λ x. row_in (get_or (get_or gs x []) (q * planes_in k x + (4 * g + i) % 4) []) r) group ∙ ap (λ x. row_in (get_or (get_or gs g []) (q * planes_in k g + x) []) r) place)
    ∙ plane_row k q (4 * g + i) r gs h

-- the planes as units
module _ (k n : ℕ) (gs : List (List (List ℕ))) where
  pub units_len : length (units_of k gs n) ≡ segments_of 256 n * k
  units_len = made_len (segments_of 256 n * k) (λ u. plane_at k gs (u / k) (u % k))

  pub unit_at : (u : ℕ) (d : List ℕ) → u < segments_of 256 n * k → get_or (units_of k gs n) u d ≡ plane_at k gs (u / k) (u % k)
  unit_at u d h = made_at (segments_of 256 n * k) (λ v. plane_at k gs (v / k) (v % k)) u d h

  pub unit_held : (run : List (List ℕ)) (first u : ℕ) (d : List ℕ) → HoldsUnits k gs run first → first ≤ u → u - first < length run → u < segments_of 256 n * k
      → get_or run (u - first) [] ≡ get_or (units_of k gs n) u d
  unit_held run first u d held from to h =
      let unit : first + (u - first) ≡ u = omega (arith, from) in
      held (u - first) to ∙ ap (λ v. plane_at k gs (v / k) (v % k)) unit ∙ sym (unit_at u d h)

  pub unit_row : (q i r : ℕ) → q < segments_of 256 n → i < k → r < 256 → row_in (get_or (units_of k gs n) (q * k + i) []) r ≡ is_set k gs i (256 * q + r)
  unit_row q i r within low h =
      let more : q + 1 ≤ segments_of 256 n = omega (arith, within) in
      let inside : q * k + i < segments_of 256 n * k = omega (arith, low, mul-le-mul_right k more) in
      ap (λ p. row_in p r) (
      unit_at (q * k + i) [] inside
      ∙ ap (λ s. plane_at k gs s ((q * k + i) % k)) (div-mul-add q k i low)
      ∙ ap (plane_at k gs q) (mod-mul-add q k i low))
      ∙ plane_row k q i r gs h

  plane_is : (i j : ℕ) → i < k → j / 256 < segments_of 256 n → in_plane k (units_of k gs n) i j ≡ is_set k gs i j
  plane_is i j low h =
      let row : 256 * (j / 256) + j % 256 ≡ j = omega arith in
      unit_row (j / 256) i (j % 256) h low (omega arith) ∙ ap (is_set k gs i) row

  pub code_in_is : (j : ℕ) → j / 256 < segments_of 256 n → code_in k (units_of k gs n) j ≡ code_of k gs j
  code_in_is j h = number_same (λ i. in_plane k (units_of k gs n) i j) (λ i. is_set k gs i j) k (λ i low. plane_is i j low h)

-- planes side by side without the first m
pub held_past : (k first m : ℕ) (gs : List (List (List ℕ))) (run : List (List ℕ)) → HoldsUnits k gs run first → HoldsUnits k gs (take (length run - m) (drop m run)) (first + m)
held_past k first m gs run held n h =
    let low : n < length run - m = omega (arith, h, length-take (length run - m) (drop m run)) in
    let unit : first + (m + n) ≡ first + m + n = omega arith in
    get_or-take (length run - m) (drop m run) n [] low ∙ get_or-drop m run n [] ∙ held (m + n) (omega (arith, low)) ∙ ap (λ v. plane_at k gs (v / k) (v % k)) unit

-- row j is overwritten
module _ (k n j code : ℕ) (old new : List (List (List ℕ))) (small : code < 2 ^ k) (low : j < n)
    (same : (i : ℕ) → i < k → is_set k new i j ≡ bit_of code (k - 1 - i))
    (other : (i r : ℕ) → i < k → r ≢ j → is_set k new i r ≡ is_set k old i r) where
  pub codes_set : codes_of k new n ≡ set (codes_of k old n) j code
  codes_set = made_set n (code_of k old) (code_of k new) j code low (code_is k j code new small same) (λ r h d. code_same k r new old (λ i l. other i r l d))

-- codes appended to the others
module _ (k n : ℕ) (codes : List ℕ) (old new : List (List (List ℕ)))
    (fit : (r : ℕ) → r < length codes → get_or codes r 0 < 2 ^ k)
    (kept : (i j : ℕ) → i < k → j < n → is_set k new i j ≡ is_set k old i j)
    (added : (i r : ℕ) → i < k → r < length codes → is_set k new i (n + r) ≡ bit_of (get_or codes r 0) (k - 1 - i)) where
  pub codes_more : codes_of k new (n + length codes) ≡ codes_of k old n ++ codes
  codes_more =
      made_more n (code_of k old) (code_of k new) codes 0
      (λ j h. code_same k j new old (λ i l. kept i j l h))
      (λ r h. code_is k (n + r) (get_or codes r 0) new (fit r h) (λ i l. added i r l h))

-- what a vector of groups holds is as long as the vector
pub lists_len : (vs : List (Vec (List ℕ) Global)) → length (lists vs) ≡ length vs
lists_len vs = length-map vs (λ (x : Vec (List ℕ) Global). x.items)

-- rows are overwritten
pub held_set : (k n : ℕ) (new old : List (Vec (List ℕ) Global)) → AreGroups k (lists old) n → KeepsSizes new old
    → ((i j : ℕ) → i < k → n ≤ j → is_set k (lists new) i j ≡ is_set k (lists old) i j) → AreGroups k (lists new) n
held_set k n new old held keeps rest = record {
  some = held.some;
  narrow = held.narrow;
  few = held.few;
  count = omega (arith, lists_len new, lists_len old, keeps.count, held.count);
  sizes = λ g h. keeps.sizes g ∙ held.sizes g h;
  clean = λ i j h l. rest i j h l ∙ held.clean i j h l;
}

-- rows are appended
pub held_more : (k n m : ℕ) (new mid old : List (Vec (List ℕ) Global)) → AreGroups k (lists old) n → m ≤ 2 ^ 24 → segments_of 256 m ≡ n / 256 + 1 → length mid ≡ length old
    → ((g : ℕ) → 4 * g < k → length (get_or (lists mid) g []) ≡ (n / 256 + 1) * planes_in k g) → KeepsSizes new mid
    → ((i j : ℕ) → i < k → m ≤ j → is_set k (lists new) i j ≡ false) → AreGroups k (lists new) m
held_more k n m new mid old held few segments count sizes keeps clean = record {
  some = held.some;
  narrow = held.narrow;
  few = few;
  count = omega (arith, lists_len new, lists_len old, keeps.count, held.count, count);
  sizes = λ g h. keeps.sizes g ∙ sizes g h ∙ ap (λ s. s * planes_in k g) (sym segments);
  clean = clean;
}
