use Rattle.std.proofs.Common.{ap, arith, get_or, ◌*◌, ◌∙◌}
use Rattle.bw_mask.specs.Masks.{len, row_at}
use Rattle.test_codes.proofs.UnitLemmas.{is_row, units_of_two}
use Rattle.test_codes.proofs.units.pair_units.Goals as goal

pub returns : goal.returns
returns c =
    let need = c.args.need.now in
    let row = is_row need in
    ap (λ n. 2 * n) c.column_units.ensures.units
    ∙ units_of_two c.args.layout c.args.width (len need) (row_at need) c.args.codes.now c.args.others.now (λ i. get_or c.deref.result.now i 0) c.requires.count
    (λ i e. ap (λ xs. get_or xs i 0) c.deref.ensures.value ∙ c.in_ok-agreed.ensures.agreed i (omega (arith, row i e, c.requires.count)))
