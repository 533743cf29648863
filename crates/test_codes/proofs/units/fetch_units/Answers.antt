use Rattle.std.proofs.Common.{ap, arith, if◌then◌else◌, sym, ◌*◌, ◌∙◌, ◌≡◌}
use Rattle.bw_mask.specs.Masks.{len, row_at}
use Rattle.bw_code.specs.Units.{count_below}
use Rattle.test_codes.proofs.UnitLemmas.{fetches_are, one_at_most, sum_more, sum_none}
use Rattle.test_codes.proofs.units.fetch_units.Goals as goal

pub loop-row-init : goal.loop-row-init
loop-row-init c = record { count = sym (sum_none _); few = omega arith }

pub loop-row-preserved : goal.loop-row-preserved
loop-row-preserved c = record {
  count = rw (c.loop-row.invariant.count, c.one_if-count.ensures, c.is_needed.ensures) (sym (sum_more c.loop-row.row (λ i. if row_at c.args.need.now i then 1 else 0)));
  few = omega (arith, one_at_most c.is_needed.result c.one_if-count.result c.one_if-count.ensures, c.loop-row.invariant.few);
}

pub returns : goal.returns
returns c =
    let last : c.loop-row.row ≡ len c.args.need.now = omega (arith, c.loop-row-test.false, c.loop-row.auto.row-end, c.len-row-end.ensures.rows) in
    ap (λ n. 2 * n) c.loop-row.invariant.count ∙ ap (λ n. 2 * count_below n (row_at c.args.need.now)) last ∙ sym (fetches_are (len c.args.need.now) (row_at c.args.need.now))
