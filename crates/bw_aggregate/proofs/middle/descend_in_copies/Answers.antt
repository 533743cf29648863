use Rattle.std.proofs.Common.{ap, arith, subst, sym, ◌+◌, ◌-◌, ◌≡◌, ◌∙◌}
use Rattle.bw_mask.specs.Masks.{bit_of}
use Rattle.bw_column.specs.Codes.{codes_for}
use Rattle.bw_aggregate.specs.Descending.{IsDescent}
use Rattle.bw_aggregate.proofs.KnownValues.{code_of_row}
use Rattle.bw_aggregate.proofs.middle.descend_in_copies.Goals as goal

pub planes-preserved : goal.planes-preserved
planes-preserved c =
    let column = c.args.column.now in
    let codes = codes_for column.encoding column.values in
    let i = c.planes.i - 1 in
    let inv = c.planes.invariant in
    let next : c.planes.i ≡ i + 1 = omega (arith, c.planes-test.true) in
    record {
      planes = omega (arith, inv.planes);
      copy = c.plane.ensures.shape.0 ∙ inv.copy;
      leads = λ held n on.
          c.step.ensures codes held n i
          (λ r. c.words.ensures.rows r ∙ c.plane.ensures.rows r ∙ ap (λ x. bit_of x i) (sym (code_of_row column.encoding column.values r)))
          (subst (λ k. IsDescent codes held n k c.planes.descent) next (inv.leads held n on));
    }

pub returns : goal.returns
returns c held n on =
    let column = c.args.column.now in
    let none : c.planes.i ≡ 0 = omega (arith, c.planes-test.false) in
    subst (λ k. IsDescent (codes_for column.encoding column.values) held n k c.planes.descent) none (c.planes.invariant.leads held n on)
