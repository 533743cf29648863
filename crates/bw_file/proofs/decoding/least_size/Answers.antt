use Rattle.std.proofs.Common.{ap, length, subst, sym, ◌*◌, ◌+◌, ◌∙◌, ◌≤◌}
use Rattle.bw_file.specs.Format.{least_column_size, spelling}
use Rattle.bw_file.proofs.Least.{least_length}
use Rattle.bw_file.proofs.decoding.least_size.Goals as goal

pub returns : goal.returns
returns c t h many few =
    let version = c.args.front.version in
    let size = ap (least_column_size version) few ∙ sym c.least_column_size.ensures in
    subst (λ n. 14 + n * (4 + c.least_column_size.result) ≤ length (spelling version t)) many
    (subst (λ m. 14 + length t.headers * (4 + m) ≤ length (spelling version t)) size (least_length version t h))
