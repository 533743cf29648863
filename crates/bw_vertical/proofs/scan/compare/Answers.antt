use Rattle.std.proofs.Common.{arith, inr, refl, sym, ℕ, ◌*◌, ◌+◌, ◌-◌, ◌<◌, ◌≤◌, ◌∙◌}
use Rattle.bw_mask.specs.Masks.{bit_of, row_in}
use Rattle.bw_code.specs.Units.{agreement}
use Rattle.bw_code.proofs.Digits.{compared_none}
use Rattle.bw_code.proofs.Segments.{rows_final, rows_left}
use Rattle.bw_vertical.specs.Planes.{code_in}
use Rattle.bw_vertical.proofs.Lanes.{no_rows}
use Rattle.bw_vertical.proofs.Planes.{code_lt, group_left, group_stopped, plane_more, shifted_more}
use Rattle.bw_vertical.proofs.scan.compare.Goals as goal

pub loop-g-init : goal.loop-g-init
loop-g-init g c = record {
  units = refl;
  reads = omega arith;
  left = omega arith;
  rows = λ j h. compared_none 2 c.args.k _ c.args.constant (omega arith) (code_lt _ _ _) c.requires.constant _ _ _ (no_rows j h) refl;
}

pub loop-g-preserved : goal.loop-g-preserved
loop-g-preserved g c =
    let k = c.args.k in
    let n = c.loop-g.g in
    let need = row_in c.args.need.now in
    let units = g.S.Source.units c.args.source.now in
    let code = λ (j : ℕ). code_in k units (256 * c.args.q + j) in
    let low : 4 * (n + 1) ≤ k = omega (arith, c.loop-g-test.true) in
    let a = c.compare_plane in
    let b = c.compare_plane-in-loop-g in
    let d = c.compare_plane-in-loop-g-2 in
    let e = c.compare_plane-in-loop-g-3 in
    let rows = shifted_more k c.args.q c.args.constant units c.args.need.now c.requires.there c.requires.constant n low _ _ _ _ c.loop-g.invariant.units a.ensures.units b.ensures.units d.ensures.units
    c.loop-g.lt c.loop-g.eq a.new.lt a.new.eq b.new.lt b.new.eq d.new.lt d.new.eq e.new.lt e.new.eq a.ensures.less a.ensures.same b.ensures.less b.ensures.same d.ensures.less d.ensures.same e.ensures.less e.ensures.same c.loop-g.invariant.rows in
    let left = rows_left 256 2 k need code c.args.constant (4 * (n + 1)) (row_in e.new.lt) (row_in e.new.eq) (omega arith) (λ j. code_lt k units (256 * c.args.q + j)) c.requires.constant rows low c.requires.needed in
    record {
      units = e.ensures.units ∙ d.ensures.units ∙ b.ensures.units ∙ a.ensures.units ∙ c.loop-g.invariant.units;
      reads = omega (arith, a.ensures.reads, b.ensures.reads, d.ensures.reads, e.ensures.reads, c.loop-g.invariant.reads);
      left = group_left k n _ need (λ j. agreement 2 k (code j) c.args.constant) c.requires.needed refl _ left (sym c.is_empty.ensures ∙ c.if-is_empty.false);
      rows = rows;
    }

pub returns-then-is_empty : goal.returns-then-is_empty
returns-then-is_empty g c =
    let k = c.args.k in
    let n = c.loop-g.g in
    let need = row_in c.args.need.now in
    let units = g.S.Source.units c.args.source.now in
    let code = λ (j : ℕ). code_in k units (256 * c.args.q + j) in
    let code_fits = λ (j : ℕ). code_lt k units (256 * c.args.q + j) in
    let low : 4 * (n + 1) ≤ k = omega (arith, c.loop-g-test.true) in
    let a = c.compare_plane in
    let b = c.compare_plane-in-loop-g in
    let d = c.compare_plane-in-loop-g-2 in
    let e = c.compare_plane-in-loop-g-3 in
    let rows = shifted_more k c.args.q c.args.constant units c.args.need.now c.requires.there c.requires.constant n low _ _ _ _ c.loop-g.invariant.units a.ensures.units b.ensures.units d.ensures.units
    c.loop-g.lt c.loop-g.eq a.new.lt a.new.eq b.new.lt b.new.eq d.new.lt d.new.eq e.new.lt e.new.eq a.ensures.less a.ensures.same b.ensures.less b.ensures.same d.ensures.less d.ensures.same e.ensures.less e.ensures.same c.loop-g.invariant.rows in
    let left = rows_left 256 2 k need code c.args.constant (4 * (n + 1)) (row_in e.new.lt) (row_in e.new.eq) (omega arith) code_fits c.requires.constant rows low c.requires.needed in
    let stopped = group_stopped k n _ need (λ j. agreement 2 k (code j) c.args.constant) c.requires.needed refl _ left (sym c.is_empty.ensures ∙ c.if-is_empty.true) c.loop-g.invariant.left low in
    let masks = rows_final 256 2 k need code c.args.constant (4 * (n + 1)) (row_in e.new.lt) (row_in e.new.eq) (omega arith) code_fits c.requires.constant rows (inr stopped.0) in
    record {
      units = e.ensures.units ∙ d.ensures.units ∙ b.ensures.units ∙ a.ensures.units ∙ c.loop-g.invariant.units;
      reads = omega (arith, a.ensures.reads, b.ensures.reads, d.ensures.reads, e.ensures.reads, c.loop-g.invariant.reads, stopped.1);
      less = λ j h. (masks j h).0;
      same = λ j h. (masks j h).1;
    }

pub loop-i-preserved : goal.loop-i-preserved
loop-i-preserved g c =
    let k = c.args.k in
    let units = g.S.Source.units c.args.source.now in
    let low : c.loop-i.i < k = c.loop-i-test.true in
    let p = c.compare_plane-in-loop-i in
    record {
      units = p.ensures.units ∙ c.loop-i.invariant.units;
      reads = omega (arith, p.ensures.reads, c.loop-i.invariant.reads);
      left = c.loop-i.invariant.left;
      rows = plane_more k c.args.q (λ _. c.args.constant) (λ i _. bit_of c.args.constant (k - 1 - i)) units c.args.need.now c.requires.there (λ _. c.requires.constant) (λ i l j h. refl) c.loop-i.i _ low c.loop-i.invariant.units c.loop-i.lt c.loop-i.eq p.new.lt p.new.eq p.ensures.less p.ensures.same c.loop-i.invariant.rows;
    }
