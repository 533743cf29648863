use Rattle.std.proofs.Common.{Bool, FitsSigned, ap, arith, false, inl, inr, nat_lt, not, of_z, pos, refl, rules, subst, sym, to_z, true, w64, ℕ, ◌&&◌, ◌*◌, ◌+◌, ◌+ℤ◌, ◌-◌, ◌<◌, ◌==◌, ◌≡◌, ◌≤◌, ◌∙◌}
use Rattle.std.proofs.lemmas.Bool.{cases_lt}
use Rattle.std.proofs.lemmas.Int.{to_z-of_z}
use Rattle.std.proofs.lemmas.List.{get_or_past}
use Rattle.bw_mask.specs.Masks.{len, row_at, row_in}
use Rattle.bw_code.specs.Tests.{code_compares, int_compares}
use Rattle.bw_code.specs.Units.{segments_of, some_below}
use Rattle.bw_code.proofs.Reach.{none_if}
use Rattle.bw_vertical.specs.Planes.{code_in}
use Rattle.bw_vertical.proofs.Sums.{by_sums, some_row}
use Rattle.bw_vertical.proofs.addition.add_from.Given.{Over}
use Rattle.bw_vertical.proofs.addition.add_from.Goals as goal

nothing : (g : Over) (c : goal.After-and_in g) → some_below (len c.args.need.now) (row_at c.args.need.now) ≡ false
nothing g c = none_if (len c.args.need.now) (row_at c.args.need.now) (λ j h. c.any.ensures.none c.if-not-any.true j)

pub returns-then-not-any-clause-reads : goal.returns-then-not-any-clause-reads
returns-then-not-any-clause-reads g c = rw (nothing g c) (omega arith)

pub returns-then-not-any-clause-other_reads : goal.returns-then-not-any-clause-other_reads
returns-then-not-any-clause-other_reads g c = rw (nothing g c) (omega arith)

pub loop-q-preserved : goal.loop-q-preserved
loop-q-preserved g c =
    let inv = c.loop-q.invariant in
    let q = c.loop-q.q in
    let op = c.args.op in
    let need = c.args.need.now in
    let code : ℕ → ℕ = λ j. code_in c.args.left.width (g.A.Source.units c.args.a.now) j in
    let other : ℕ → ℕ = λ j. code_in c.args.right.width (g.B.Source.units c.args.b.now) j in
    let left = c.of-lifts.result.left in
    let right = c.of-lifts.result.right in
    let compares : ℕ → Bool = λ j. int_compares op (c.args.left.base +ℤ pos (code j)) (c.args.right.base +ℤ pos (other j)) in
    let fits : FitsSigned w64 c.args.left.base = search rules in
    let other_fits : FitsSigned w64 c.args.right.base = search rules in
    let base : to_z w64 (of_z w64 c.args.left.base) ≡ c.args.left.base = to_z-of_z w64 c.args.left.base fits in
    let other_base : to_z w64 (of_z w64 c.args.right.base) ≡ c.args.right.base = to_z-of_z w64 c.args.right.base other_fits in
    let in_order : (j : ℕ) → compares j ≡ code_compares op (code j + left) (other j + right) = λ j. rw (base, other_base) at (c.of-lifts.ensures.order op (code j) (other j)) in
    let less : (j : ℕ) → j < 256 → row_in c.compare_sums.result.0 j ≡ nat_lt (code (256 * q + j) + left) (other (256 * q + j) + right) = λ j h.
    c.compare_sums.ensures.less j h ∙ ap (λ us. nat_lt (code_in c.args.left.width us (256 * q + j) + left) (code_in c.args.right.width (g.B.Source.units c.loop-q.b) (256 * q + j) + right)) inv.units
    ∙ ap (λ us. nat_lt (code (256 * q + j) + left) (code_in c.args.right.width us (256 * q + j) + right)) inv.other_units in
    let differ : (j : ℕ) → j < 256 → row_in c.compare_sums.result.1 j ≡ not (code (256 * q + j) + left == other (256 * q + j) + right) = λ j h.
    c.compare_sums.ensures.differ j h ∙ ap (λ us. not (code_in c.args.left.width us (256 * q + j) + left == code_in c.args.right.width (g.B.Source.units c.loop-q.b) (256 * q + j) + right)) inv.units
    ∙ ap (λ us. not (code (256 * q + j) + left == code_in c.args.right.width us (256 * q + j) + right)) inv.other_units in
    let needed : (j : ℕ) → j < 256 → row_in c.lanes_at.result j ≡ row_at need (256 * q + j) = λ j h. c.lanes_at.ensures j h ∙ c.words-words.ensures.rows (256 * q + j) in
    let found : (j : ℕ) → j < 256 → row_in c.chosen_of_sums.result j ≡ (row_at need (256 * q + j) && compares (256 * q + j)) = λ j h.
    c.chosen_of_sums.ensures j h ∙ rw (needed j h, less j h, differ j h) (
    by_sums op (row_at need (256 * q + j)) (code (256 * q + j) + left) (other (256 * q + j) + right)
    ∙ ap (λ b. row_at need (256 * q + j) && b) (sym (in_order (256 * q + j)))) in
    record {
      units = c.compare_sums.ensures.units ∙ inv.units;
      other_units = c.compare_sums.ensures.other_units ∙ inv.other_units;
      reads = omega (arith, c.compare_sums.ensures.reads, inv.reads);
      other_reads = omega (arith, c.compare_sums.ensures.other_reads, inv.other_reads);
      shape = (c.put_lanes.ensures.shape.0 ∙ inv.shape.0, c.put_lanes.ensures.shape.1 ∙ inv.shape.1);
      rows = λ j h.
          elim (cases_lt j (256 * q)) [
            | inl l ↦ c.put_lanes.ensures.before j l ∙ inv.rows j l
            | inr l ↦
                let r = j - 256 * q in
                let within : r < 256 = omega arith in
                let at : 256 * q + r ≡ j = omega arith in
                let same_len : len c.loop-q.out ≡ len need = inv.shape.0 ∙ c.requires.out in
                elim (cases_lt j (len need)) [
                  | inl inside ↦ subst (λ n. row_at c.put_lanes.new.out n ≡ (row_at need n && compares n)) at (c.put_lanes.ensures.inside r within (omega (arith, same_len)) ∙ found r within)
                  | inr past ↦
                      let none : row_at c.put_lanes.new.out j ≡ false = get_or_past c.put_lanes.new.out.rows j false (omega (arith, c.put_lanes.ensures.shape.0, same_len)) in
                      let unneeded : row_at need j ≡ false = get_or_past need.rows j false past in
                      none ∙ rw unneeded refl
                ]
          ];
    }

some : (g : Over) (c : goal.After-loop-q g) → some_below (len c.args.need.now) (row_at c.args.need.now) ≡ true
some g c = some_row c.args.need.now.rows (sym c.any.ensures.rows ∙ c.if-not-any.false)

end : (g : Over) (c : goal.After-loop-q g) → c.loop-q.q ≡ segments_of 256 (len c.args.need.now)
end g c = omega (arith, c.loop-q-test.false, c.loop-q.auto.q-end, c.div_ceil-q-end.ensures, c.len.ensures.rows)

pub returns-clause-reads : goal.returns-clause-reads
returns-clause-reads g c = rw (some g c) (c.loop-q.invariant.reads ∙ ap (λ n. g.A.Source.reads c.args.a.now + n * c.args.left.width) (end g c))

pub returns-clause-other_reads : goal.returns-clause-other_reads
returns-clause-other_reads g c = rw (some g c) (c.loop-q.invariant.other_reads ∙ ap (λ n. g.B.Source.reads c.args.b.now + n * c.args.right.width) (end g c))

pub returns-clause-rows : goal.returns-clause-rows
returns-clause-rows g c i =
    let need = c.args.need.now in
    let inv = c.loop-q.invariant in
    let same_len : len c.loop-q.out ≡ len need = inv.shape.0 ∙ c.requires.out in
    elim (cases_lt i (256 * c.loop-q.q)) [
      | inl l ↦ inv.rows i l
      | inr past ↦
          let beyond : len need ≤ i = omega (arith, past, end g c) in
          let none : row_at c.loop-q.out i ≡ false = get_or_past c.loop-q.out.rows i false (omega (arith, same_len, beyond)) in
          let unneeded : row_at need i ≡ false = get_or_past need.rows i false beyond in
          none ∙ rw unneeded refl
    ]
