use Rattle.std.proofs.Common.{All, ap, arith, length, length-append, get_or, subst, take, ◌*◌, ◌+◌, ◌++◌, ◌≡◌, ◌∙◌}
use Rattle.std.proofs.lemmas.List.{take-append-le, take_all}
use Rattle.bw_code.specs.Types.{IsNullOrOfType}
use Rattle.bw_file.specs.Cells as cells
use Rattle.bw_file.specs.Cells.{IsCell}
use Rattle.bw_file.specs.Format.{column_bytes}
use Rattle.bw_file.proofs.FirstColumn.{as_cell}
use Rattle.bw_file.proofs.Places.{length-column_bytes}
use Rattle.bw_file.proofs.column.FileColumn.first_in.Goals as goal

pub returns-then-bytes-size-clause-none : goal.returns-then-bytes-size-clause-none
returns-then-bytes-size-clause-none c e list tail count all same =
    let there : c.args.bytes.now ≡ cells.column_bytes list ++ tail = same ∙ ap (λ v. column_bytes v list ++ tail) c.in-First.is in
    omega (arith, ap length there, length-append (cells.column_bytes list) tail, length-column_bytes list, count, c.div_ceil.ensures, c.if-bytes-size.true)

pub returns-in_default-clause-none : goal.returns-in_default-clause-none
returns-in_default-clause-none c e list tail count all same =
    let there : c.args.bytes.now ≡ cells.column_bytes list ++ tail = same ∙ ap (λ v. column_bytes v list ++ tail) c.in-First.is in
    let n = c.div_ceil.result + 4 * c.args.rows in
    let long : length (cells.column_bytes list) ≡ n = omega (arith, length-column_bytes list, count, c.div_ceil.ensures) in
    let fits : All IsCell list = λ k d h. as_cell (get_or list k d) (subst (λ u. IsNullOrOfType u (get_or list k d)) (c.requires.integer c.in-First.is) (all k d h)) in
    c.in_bytes.ensures.none c.in_default.is list count fits
    (c.split_at.ensures.front ∙ ap (take n) there ∙ take-append-le n (cells.column_bytes list) tail (omega (arith, long)) ∙ take_all n (cells.column_bytes list) (omega (arith, long)))
