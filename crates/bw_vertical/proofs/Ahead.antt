-- The groups of a segment that a source has yet to take from.
use Rattle.std.proofs.Common.{Global, List, Vec, [], ap, arith, drop, get_or, length, min, subst, sym, take, ℕ, ◌*◌, ◌+◌, ◌-◌, ◌/◌, ◌<◌, ◌≡◌, ◌≤◌, ◌∙◌}
use Rattle.std.proofs.lemmas.List.{get_or-drop, get_or-take, length-drop, length-take}
use Rattle.bw_vertical.specs.Storage.{HasSegment, LieAhead, lists, planes_in}
use Rattle.bw_vertical.proofs.Placing.{group_is}

module _ (k left : ℕ) (groups behind : List (Vec (List ℕ) Global)) (some : 0 < left) (within : left ≤ k) (count : length groups ≡ (k + 3) / 4) (ahead : LieAhead k groups behind left) where
  pub any_ahead : 0 < length behind
  any_ahead = omega (arith, some, within, count, ahead.count, ahead.whole)

  pub first_ahead : (v : Vec (List ℕ) Global) → v ≡ get_or behind 0 v → get_or (lists groups) ((k - left) / 4) [] ≡ v.items
  first_ahead v read =
      let place : (k - left) / 4 + 0 ≡ (k - left) / 4 = omega arith in
      let low : (k - left) / 4 < length groups = omega (arith, any_ahead, ahead.count) in
      group_is groups ((k - left) / 4) v low (read ∙ ahead.same 0 any_ahead v ∙ ap (λ n. get_or groups n v) place)

  pub group_holds : (v : Vec (List ℕ) Global) (q m : ℕ) (planes : List (List ℕ)) → v ≡ get_or behind 0 v → planes ≡ v.items → m ≡ min left 4 → HasSegment k (lists groups) q → q * m + m ≤ length planes
  group_holds v q m planes read planes_are m_is there =
      let g = (k - left) / 4 in
      let low : 4 * g < k = omega (arith, some, within, ahead.whole) in
      let m_here : planes_in k g ≡ m = omega (arith, m_is, some, within, ahead.whole) in
      let more : (q + 1) * planes_in k g ≤ length planes = subst (λ xs. (q + 1) * planes_in k g ≤ length xs) (first_ahead v read ∙ sym planes_are) (there g low) in
      omega (arith, subst (λ n. (q + 1) * n ≤ length planes) m_here more)

  pub more_ahead : (m : ℕ) → m ≡ min left 4 → 0 < left - m → LieAhead k groups (take (length behind - 1) (drop 1 behind)) (left - m)
  more_ahead m m_is more =
      let cut = length-take (length behind - 1) (drop 1 behind) in
      let rest = length-drop 1 behind in
      let four : (k - (left - m)) / 4 ≡ (k - left) / 4 + 1 = omega (arith, some, within, ahead.whole, m_is, more) in
      record {
        whole = omega (arith, some, within, ahead.whole, m_is, more);
        count = omega (arith, four, ahead.count, cut, rest, any_ahead);
        same = λ g h d.
            let low : g < length behind - 1 = omega (arith, h, cut) in
            let place : (k - left) / 4 + (1 + g) ≡ (k - (left - m)) / 4 + g = omega (arith, four) in
            get_or-take (length behind - 1) (drop 1 behind) g d low ∙ get_or-drop 1 behind g d ∙ ahead.same (1 + g) (omega (arith, low)) d ∙ ap (λ n. get_or groups n d) place;
      }

-- from group g on
pub all_ahead : (k g : ℕ) (groups : List (Vec (List ℕ) Global)) → 4 * g < k → length groups ≡ (k + 3) / 4 → LieAhead k groups (take (length groups - g) (drop g groups)) (k - 4 * g)
all_ahead k g groups low count =
    let cut = length-take (length groups - g) (drop g groups) in
    let rest = length-drop g groups in
    let at : (k - (k - 4 * g)) / 4 ≡ g = omega (arith, low) in
    record {
      whole = omega (arith, low);
      count = omega (arith, at, cut, rest, low, count);
      same = λ i h d.
          let inside : i < length groups - g = omega (arith, h, cut) in
          let place : g + i ≡ (k - (k - 4 * g)) / 4 + i = omega (arith, at) in
          get_or-take (length groups - g) (drop g groups) i d inside ∙ get_or-drop g groups i d ∙ ap (λ n. get_or groups n d) place;
    }
