use Rattle.std.proofs.Common.{arith, inl, inr, max, refl, subst, sym, ℕ, ◌*◌, ◌+◌, ◌-◌, ◌/◌, ◌<◌, ◌≡◌, ◌≤◌, ◌∙◌}
use Rattle.bw_mask.specs.Masks.{bit_of, row_in}
use Rattle.bw_code.specs.Units.{agreement}
use Rattle.bw_code.proofs.Digits.{compared_none}
use Rattle.bw_code.proofs.Segments.{AreCompared, none_of_two, row_left, rows_final, rows_left_of_two, within_ends}
use Rattle.bw_vertical.specs.Planes.{code_in}
use Rattle.bw_vertical.proofs.Lanes.{no_rows}
use Rattle.bw_vertical.proofs.Planes.{code_lt, group_left, group_stopped, plane_more, shifted_more}
use Rattle.bw_vertical.proofs.scan.between.Goals as goal

pub loop-g-init : goal.loop-g-init
loop-g-init g c = record {
  units = refl;
  reads = omega arith;
  left = omega arith;
  lo = λ j h. compared_none 2 c.args.k _ c.args.low (omega arith) (code_lt _ _ _) c.requires.low _ _ _ (no_rows j h) refl;
  hi = λ j h. compared_none 2 c.args.k _ c.args.high (omega arith) (code_lt _ _ _) c.requires.high _ _ _ (no_rows j h) refl;
}

pub loop-g-preserved : goal.loop-g-preserved
loop-g-preserved g c =
    let k = c.args.k in
    let n = c.loop-g.g in
    let need = row_in c.args.need.now in
    let units = g.S.Source.units c.args.source.now in
    let code = λ (j : ℕ). code_in k units (256 * c.args.q + j) in
    let code_fits = λ (j : ℕ). code_lt k units (256 * c.args.q + j) in
    let low : 4 * (n + 1) ≤ k = omega (arith, c.loop-g-test.true) in
    let a = c.between_plane in
    let b = c.between_plane-in-loop-g in
    let d = c.between_plane-in-loop-g-2 in
    let e = c.between_plane-in-loop-g-3 in
    let lo = shifted_more k c.args.q c.args.low units c.args.need.now c.requires.there c.requires.low n low _ _ _ _ c.loop-g.invariant.units a.ensures.units b.ensures.units d.ensures.units
    c.loop-g.lo.lt c.loop-g.lo.eq a.new.low.lt a.new.low.eq b.new.low.lt b.new.low.eq d.new.low.lt d.new.low.eq e.new.low.lt e.new.low.eq
    a.ensures.low_less a.ensures.low_same b.ensures.low_less b.ensures.low_same d.ensures.low_less d.ensures.low_same e.ensures.low_less e.ensures.low_same c.loop-g.invariant.lo in
    let hi = shifted_more k c.args.q c.args.high units c.args.need.now c.requires.there c.requires.high n low _ _ _ _ c.loop-g.invariant.units a.ensures.units b.ensures.units d.ensures.units
    c.loop-g.hi.lt c.loop-g.hi.eq a.new.high.lt a.new.high.eq b.new.high.lt b.new.high.eq d.new.high.lt d.new.high.eq e.new.high.lt e.new.high.eq
    a.ensures.high_less a.ensures.high_same b.ensures.high_less b.ensures.high_same d.ensures.high_less d.ensures.high_same e.ensures.high_less e.ensures.high_same c.loop-g.invariant.hi in
    let low_left = row_left 256 2 k need code c.args.low (4 * (n + 1)) (row_in e.new.low.lt) (row_in e.new.low.eq) (omega arith) code_fits c.requires.low lo low in
    let high_left = row_left 256 2 k need code c.args.high (4 * (n + 1)) (row_in e.new.high.lt) (row_in e.new.high.eq) (omega arith) code_fits c.requires.high hi low in
    let left = rows_left_of_two 256 (4 * (n + 1)) need (row_in c.either.result) (row_in e.new.low.eq) (row_in e.new.high.eq) (λ j. agreement 2 k (code j) c.args.low) (λ j. agreement 2 k (code j) c.args.high) c.either.ensures low_left high_left c.requires.needed in
    record {
      units = e.ensures.units ∙ d.ensures.units ∙ b.ensures.units ∙ a.ensures.units ∙ c.loop-g.invariant.units;
      reads = omega (arith, a.ensures.reads, b.ensures.reads, d.ensures.reads, e.ensures.reads, c.loop-g.invariant.reads);
      left = group_left k n _ need (λ j. max (agreement 2 k (code j) c.args.low) (agreement 2 k (code j) c.args.high)) c.requires.needed refl _ left (sym c.is_empty.ensures ∙ c.if-is_empty.false);
      lo = lo;
      hi = hi;
    }

pub returns-then-is_empty : goal.returns-then-is_empty
returns-then-is_empty g c =
    let k = c.args.k in
    let n = c.loop-g.g in
    let need = row_in c.args.need.now in
    let units = g.S.Source.units c.args.source.now in
    let code = λ (j : ℕ). code_in k units (256 * c.args.q + j) in
    let code_fits = λ (j : ℕ). code_lt k units (256 * c.args.q + j) in
    let low : 4 * (n + 1) ≤ k = omega (arith, c.loop-g-test.true) in
    let a = c.between_plane in
    let b = c.between_plane-in-loop-g in
    let d = c.between_plane-in-loop-g-2 in
    let e = c.between_plane-in-loop-g-3 in
    let lo = shifted_more k c.args.q c.args.low units c.args.need.now c.requires.there c.requires.low n low _ _ _ _ c.loop-g.invariant.units a.ensures.units b.ensures.units d.ensures.units
    c.loop-g.lo.lt c.loop-g.lo.eq a.new.low.lt a.new.low.eq b.new.low.lt b.new.low.eq d.new.low.lt d.new.low.eq e.new.low.lt e.new.low.eq
    a.ensures.low_less a.ensures.low_same b.ensures.low_less b.ensures.low_same d.ensures.low_less d.ensures.low_same e.ensures.low_less e.ensures.low_same c.loop-g.invariant.lo in
    let hi = shifted_more k c.args.q c.args.high units c.args.need.now c.requires.there c.requires.high n low _ _ _ _ c.loop-g.invariant.units a.ensures.units b.ensures.units d.ensures.units
    c.loop-g.hi.lt c.loop-g.hi.eq a.new.high.lt a.new.high.eq b.new.high.lt b.new.high.eq d.new.high.lt d.new.high.eq e.new.high.lt e.new.high.eq
    a.ensures.high_less a.ensures.high_same b.ensures.high_less b.ensures.high_same d.ensures.high_less d.ensures.high_same e.ensures.high_less e.ensures.high_same c.loop-g.invariant.hi in
    let low_left = row_left 256 2 k need code c.args.low (4 * (n + 1)) (row_in e.new.low.lt) (row_in e.new.low.eq) (omega arith) code_fits c.requires.low lo low in
    let high_left = row_left 256 2 k need code c.args.high (4 * (n + 1)) (row_in e.new.high.lt) (row_in e.new.high.eq) (omega arith) code_fits c.requires.high hi low in
    let left = rows_left_of_two 256 (4 * (n + 1)) need (row_in c.either.result) (row_in e.new.low.eq) (row_in e.new.high.eq) (λ j. agreement 2 k (code j) c.args.low) (λ j. agreement 2 k (code j) c.args.high) c.either.ensures low_left high_left c.requires.needed in
    let stopped = group_stopped k n _ need (λ j. max (agreement 2 k (code j) c.args.low) (agreement 2 k (code j) c.args.high)) c.requires.needed refl _ left (sym c.is_empty.ensures ∙ c.if-is_empty.true) c.loop-g.invariant.left low in
    let gone = none_of_two 256 (row_in c.either.result) (row_in e.new.low.eq) (row_in e.new.high.eq) c.either.ensures stopped.0 in
    let low_end = rows_final 256 2 k need code c.args.low (4 * (n + 1)) (row_in e.new.low.lt) (row_in e.new.low.eq) (omega arith) code_fits c.requires.low lo (inr gone.0) in
    let high_end = rows_final 256 2 k need code c.args.high (4 * (n + 1)) (row_in e.new.high.lt) (row_in e.new.high.eq) (omega arith) code_fits c.requires.high hi (inr gone.1) in
    record {
      units = e.ensures.units ∙ d.ensures.units ∙ b.ensures.units ∙ a.ensures.units ∙ c.loop-g.invariant.units;
      reads = omega (arith, a.ensures.reads, b.ensures.reads, d.ensures.reads, e.ensures.reads, c.loop-g.invariant.reads, stopped.1);
      rows = λ j h. c.inside.ensures j h ∙ within_ends _ _ _ (need j) (code j) c.args.low c.args.high (low_end j h).0 (high_end j h).0 (high_end j h).1;
    }

pub loop-i-init : goal.loop-i-init
loop-i-init g c =
    let k = c.args.k in
    let units = g.S.Source.units c.args.source.now in
    let code = λ (j : ℕ). code_in k units (256 * c.args.q + j) in
    let inv = c.loop-g.invariant in
    let end : 4 * c.loop-g.g ≡ k / 4 * 4 = omega (arith, c.loop-g-test.false, c.loop-g.auto.g-end) in
    record {
      units = inv.units;
      reads = omega (arith, end, inv.reads);
      left = omega (arith, end, inv.left);
      lo = subst (AreCompared 256 2 k (row_in c.args.need.now) code c.args.low (row_in c.loop-g.lo.lt) (row_in c.loop-g.lo.eq)) end inv.lo;
      hi = subst (AreCompared 256 2 k (row_in c.args.need.now) code c.args.high (row_in c.loop-g.hi.lt) (row_in c.loop-g.hi.eq)) end inv.hi;
    }

pub loop-i-preserved : goal.loop-i-preserved
loop-i-preserved g c =
    let k = c.args.k in
    let units = g.S.Source.units c.args.source.now in
    let low : c.loop-i.i < k = c.loop-i-test.true in
    let p = c.between_plane-in-loop-i in
    record {
      units = p.ensures.units ∙ c.loop-i.invariant.units;
      reads = omega (arith, p.ensures.reads, c.loop-i.invariant.reads);
      left = c.loop-i.invariant.left;
      lo = plane_more k c.args.q (λ _. c.args.low) (λ i _. bit_of c.args.low (k - 1 - i)) units c.args.need.now c.requires.there (λ _. c.requires.low) (λ i l j h. refl) c.loop-i.i _ low c.loop-i.invariant.units c.loop-i.lo.lt c.loop-i.lo.eq p.new.low.lt p.new.low.eq p.ensures.low_less p.ensures.low_same c.loop-i.invariant.lo;
      hi = plane_more k c.args.q (λ _. c.args.high) (λ i _. bit_of c.args.high (k - 1 - i)) units c.args.need.now c.requires.there (λ _. c.requires.high) (λ i l j h. refl) c.loop-i.i _ low c.loop-i.invariant.units c.loop-i.hi.lt c.loop-i.hi.eq p.new.high.lt p.new.high.eq p.ensures.high_less p.ensures.high_same c.loop-i.invariant.hi;
    }

pub returns-clause-rows : goal.returns-clause-rows
returns-clause-rows g c j h =
    let k = c.args.k in
    let i = c.loop-i.i in
    let need = row_in c.args.need.now in
    let units = g.S.Source.units c.args.source.now in
    let code = λ (j : ℕ). code_in k units (256 * c.args.q + j) in
    let code_fits = λ (j : ℕ). code_lt k units (256 * c.args.q + j) in
    let low = rows_final 256 2 k need code c.args.low i (row_in c.loop-i.lo.lt) (row_in c.loop-i.lo.eq) (omega arith) code_fits c.requires.low c.loop-i.invariant.lo (inl (omega arith)) j h in
    let high = rows_final 256 2 k need code c.args.high i (row_in c.loop-i.hi.lt) (row_in c.loop-i.hi.eq) (omega arith) code_fits c.requires.high c.loop-i.invariant.hi (inl (omega arith)) j h in
    c.inside-2.ensures j h ∙ within_ends _ _ _ (need j) (code j) c.args.low c.args.high low.0 high.0 high.1
