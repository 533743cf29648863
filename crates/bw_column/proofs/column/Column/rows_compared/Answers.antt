use Rattle.std.proofs.Common.{of_z, to_z, w64, ◌≡◌}
use Rattle.std.proofs.lemmas.Int.{to_z-of_z}
use Rattle.bw_code.specs.Tests.{int_compares}
use Rattle.bw_column.proofs.column.Column.rows_compared.Goals as goal

pub returns-clause-found : goal.returns-clause-found
returns-clause-found c =
    let v : to_z w64 (of_z w64 c.args.constant) ≡ c.args.constant = to_z-of_z w64 c.args.constant c.ranges.constant in
    c.find.ensures.found (λ x. int_compares c.args.op x c.args.constant) (λ x code h. rw v at (c.test-test.ensures.meets x code (rw c.encoding.ensures.is h)))
