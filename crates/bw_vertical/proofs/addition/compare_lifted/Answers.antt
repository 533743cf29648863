use Rattle.std.proofs.Common.{ap, arith, ℕ, subst, ◌*◌, ◌+◌, ◌<◌, ◌^◌, ◌≡◌, ◌∙◌}
use Rattle.std.proofs.Math.Nat.{pow-le-pow_right}
use Rattle.bw_mask.specs.Masks.{bit_of, row_in}
use Rattle.bw_vertical.specs.Carries.{AreCompared}
use Rattle.bw_vertical.specs.Planes.{code_in}
use Rattle.bw_vertical.proofs.Planes.{code_lt}
use Rattle.bw_vertical.proofs.addition.compare_lifted.Given.{Over}
use Rattle.bw_vertical.proofs.addition.compare_lifted.Goals as goal

pub loop-g-preserved : goal.loop-g-preserved
loop-g-preserved g c =
    let inv = c.loop-g.invariant in
    let n = 4 * c.loop-g.g in
    let q = c.args.q in
    let x = c.low_planes-x.ensures in
    let y = c.low_planes-y.ensures in
    let four : n + 1 + 1 + 1 + 1 ≡ 4 * (c.loop-g.g + 1) = omega arith in
    record {
      units = x.units ∙ inv.units;
      other_units = y.units ∙ inv.other_units;
      reads = omega (arith, x.reads, inv.reads);
      other_reads = omega (arith, y.reads, inv.other_reads);
      rows = λ j h.
          let code = code_in c.args.width (g.A.Source.units c.args.a.now) (256 * q + j) in
          let other = code_in c.args.other (g.B.Source.units c.args.b.now) (256 * q + j) in
          let left = λ (b : ℕ). ap (λ us. bit_of (code_in c.args.width us (256 * q + j)) b) inv.units in
          let right = λ (b : ℕ). ap (λ us. bit_of (code_in c.args.other us (256 * q + j)) b) inv.other_units in
          let one = c.and_plane-one.ensures j code c.args.lift other n h (x.first j h ∙ left n) c.has_bit.ensures (y.first j h ∙ right n) (inv.rows j h) in
          let two = c.and_plane-two.ensures j code c.args.lift other (n + 1) h (x.second j h ∙ left (n + 1)) c.has_bit-in-loop-g.ensures (y.second j h ∙ right (n + 1)) one in
          let three = c.and_plane-three.ensures j code c.args.lift other (n + 2) h (x.third j h ∙ left (n + 2)) c.has_bit-in-loop-g-2.ensures (y.third j h ∙ right (n + 2)) (subst (λ m. AreCompared code c.args.lift other m (row_in c.and_plane-two.result.carry j) (row_in c.and_plane-two.result.lt j) (row_in c.and_plane-two.result.differ j)) (omega arith) two) in
          subst (λ m. AreCompared code c.args.lift other m (row_in c.and_plane-low.result.carry j) (row_in c.and_plane-low.result.lt j) (row_in c.and_plane-low.result.differ j)) (omega arith)
          (c.and_plane-low.ensures j code c.args.lift other (n + 3) h (x.fourth j h ∙ left (n + 3)) c.has_bit-in-loop-g-3.ensures (y.fourth j h ∙ right (n + 3)) (subst (λ m. AreCompared code c.args.lift other m (row_in c.and_plane-three.result.carry j) (row_in c.and_plane-three.result.lt j) (row_in c.and_plane-three.result.differ j)) (omega arith) three));
    }

-- no code has more bits than were compared
module _ (g : Over) (c : goal.After-whole g) (j : ℕ) where
  abbrev code : ℕ
  code = code_in c.args.width (g.A.Source.units c.args.a.now) (256 * c.args.q + j)

  abbrev other : ℕ
  other = code_in c.args.other (g.B.Source.units c.args.b.now) (256 * c.args.q + j)

  fits : code < 2 ^ (4 * c.div_ceil-groups.result)
  fits =
      let most = pow-le-pow_right {n = 2} (omega arith) {i = c.args.width} {j = (4 * c.div_ceil-groups.result)} (omega (arith, c.max.ensures, c.div_ceil-groups.ensures)) in
      omega (arith, most, code_lt c.args.width (g.A.Source.units c.args.a.now) (256 * c.args.q + j))

  other_fits : other < 2 ^ (4 * c.div_ceil-groups.result)
  other_fits =
      let most = pow-le-pow_right {n = 2} (omega arith) {i = c.args.other} {j = (4 * c.div_ceil-groups.result)} (omega (arith, c.max.ensures, c.div_ceil-groups.ensures)) in
      omega (arith, most, code_lt c.args.other (g.B.Source.units c.args.b.now) (256 * c.args.q + j))

  end : 4 * c.loop-g.g ≡ 4 * c.div_ceil-groups.result
  end = omega (arith, c.loop-g-test.false, c.loop-g.auto.g-end)

  compared : j < 256 → AreCompared code c.args.lift other (4 * c.div_ceil-groups.result) (row_in c.loop-g.low.carry j) (row_in c.loop-g.low.lt j) (row_in c.loop-g.low.differ j)
  compared h = subst (λ n. AreCompared code c.args.lift other n (row_in c.loop-g.low.carry j) (row_in c.loop-g.low.lt j) (row_in c.loop-g.low.differ j)) end (c.loop-g.invariant.rows j h)

pub returns-clause-less : goal.returns-clause-less
returns-clause-less g c j h = c.whole.ensures.less j (code g c j) (other g c j) h (fits g c j) (other_fits g c j) (compared g c j h)

pub returns-clause-differ : goal.returns-clause-differ
returns-clause-differ g c j h = c.whole.ensures.differ j (code g c j) (other g c j) h (fits g c j) (other_fits g c j) (compared g c j h)
