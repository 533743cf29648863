use Rattle.std.proofs.Common.{[], ap, arith, get_or, inl, inr, length, subst, sym, vec_capacity, ℕ, ◌*◌, ◌+◌, ◌-◌, ◌<◌, ◌^◌, ◌≡◌, ◌≤◌, ◌∙◌}
use Rattle.std.proofs.Math.Seq.{map-set_same}
use Rattle.std.proofs.lemmas.Bool.{cases_lt}
use Rattle.std.proofs.lemmas.List.{get_or_past}
use Rattle.bw_code.specs.Units.{digit}
use Rattle.bw_vertical.specs.Planes.{code_by_planes}
use Rattle.bw_byteslice.specs.Slices.{shift_of, slices_of}
use Rattle.bw_byteslice.specs.Storing.{byte_of, bytes_of}
use Rattle.bw_byteslice.proofs.PlaneBytes.{IsOfPlanes, digit_of_planes, none_of_planes}
use Rattle.bw_byteslice.proofs.Replacing.{each_is, read_is}
use Rattle.bw_byteslice.proofs.plane_blocks.put_block.Goals as goal

pub put_slice-requires-clause-there : goal.put_slice-requires-clause-there
put_slice-requires-clause-there c =
    let i = c.loop-i.i in
    let was = read_is (λ v. v.items) [] c.loop-i.slices.items i (omega arith) c.index_mut-slice.result.now c.index_mut-slice.ensures.value in
    omega (arith, ap length was, c.loop-i.invariant.len i, c.requires.there i (omega arith))

pub loop-i-preserved : goal.loop-i-preserved
loop-i-preserved c =
    let k = c.args.width in
    let at = c.args.at in
    let n = c.args.n in
    let block = c.args.block.now in
    let slices = c.loop-i.slices.items in
    let old = c.args.slices.now.items in
    let i = c.loop-i.i in
    let slice = c.index_mut-slice.result.now in
    let new = c.put_slice.new.slice in
    let inv = c.loop-i.invariant in
    let step = c.put_slice.ensures in
    let number = λ (r : ℕ). code_by_planes k block r * 2 ^ shift_of k in
    let count : c.len-m.result ≡ slices_of k = omega arith in
    let within : i < length slices = omega arith in
    let low : i < slices_of k = omega arith in
    let was : get_or (bytes_of slices) i [] ≡ slice.items = read_is (λ v. v.items) [] slices i within slice c.index_mut-slice.ensures.value in
    let long : at + n ≤ length slice.items = omega (arith, ap length was, inv.len i, c.requires.there i low) in
    let byte : (r : ℕ) → r < 2048 → at + r < length slice.items → IsOfPlanes block (8 * (slices_of k - 1 - i)) (shift_of k) r (get_or new.items (at + r) 0) = λ r h l.
    subst (λ s. IsOfPlanes block (8 * (slices_of k - 1 - i)) s r (get_or new.items (at + r) 0)) c.shift_of-spare.ensures
    (subst (λ m. IsOfPlanes block (8 * (m - 1 - i)) c.shift_of-spare.result r (get_or new.items (at + r) 0)) count
    (record { small = step.small r h l; planes = λ t. step.planes r t h l; below = λ t. step.below r t h l })) in
    let kept : (j : ℕ) → (at ≤ j → at + n ≤ j) → get_or new.items j 0 ≡ byte_of (bytes_of old) j i = λ j apart.
    let same : get_or slice.items j 0 ≡ byte_of (bytes_of old) j i = ap (λ xs. get_or xs j 0) (sym was) ∙ inv.outside i j apart in
    elim (cases_lt j at) [
      | inl l ↦ step.outside j (λ up. absurd (omega (arith, up, l))) ∙ same
      | inr up ↦
          let r = j - at in
          let place : at + r ≡ j = omega (arith, up) in
          let behind = apart up in
          let clean : byte_of (bytes_of old) j i ≡ 0 = c.requires.clean i j behind in
          elim (cases_lt j (at + 2048)) [
            | inl near ↦
                elim (cases_lt j (length slice.items)) [
                  | inl there ↦
                      subst (λ e. get_or new.items e 0 ≡ 0) place
                      (none_of_planes k i r (get_or new.items (at + r) 0) block low (byte r (omega (arith, near, up)) (omega (arith, there, up))) (λ b h. c.requires.rest b r h (omega (arith, behind, up)) (omega (arith, near, up))))
                      ∙ sym clean
                  | inr past ↦ get_or_past new.items j 0 (omega (arith, past, step.len)) ∙ sym clean
                ]
            | inr far ↦ step.outside j (λ _. far) ∙ same
          ]
    ] in
    record {
      count = inv.count;
      capacities = map-set_same (λ v. vec_capacity v) slices i new slice (step.capacity ∙ ap (λ v. vec_capacity v) c.index_mut-slice.ensures.value) ∙ inv.capacities;
      len = each_is (λ v. v.items) [] slices i within new (λ h xs. length xs ≡ length (get_or (bytes_of old) h []))
          (step.len ∙ ap length (sym was) ∙ inv.len i) (λ h _. inv.len h);
      inside = λ h r l below. each_is (λ v. v.items) [] slices i within new (λ e xs. e < i + 1 → get_or xs (at + r) 0 ≡ digit 256 (slices_of k) (number r) e)
          (λ _. digit_of_planes k i r (get_or new.items (at + r) 0) block low (byte r (omega (arith, below, c.requires.few)) (omega (arith, below, long))))
          (λ e other f. inv.inside e r (omega (arith, other, f)) below)
          h l;
      outside = λ h j apart. each_is (λ v. v.items) [] slices i within new (λ e xs. get_or xs j 0 ≡ byte_of (bytes_of old) j e) (kept j apart) (λ e _. inv.outside e j apart) h;
    }
