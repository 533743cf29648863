use Rattle.std.proofs.Common.{ap, drop, length, nat_lt, rules, take, ◌&&◌, ◌+◌, ◌≡◌, ◌∙◌}
use Rattle.bw_mask.specs.Masks.{row_at}
use Rattle.bw_column.specs.Codes.{values_from}
use Rattle.bw_column.specs.Storing.{list_of}
use Rattle.bw_column.proofs.Bases.{present_part}
use Rattle.bw_column.proofs.Rows.{known_rows}
use Rattle.bw_column.proofs.Scans.{all_codes}
use Rattle.bw_column.proofs.column.Column.read_codes.Goals as goal

pub returns-clause-codes : goal.returns-clause-codes
returns-clause-codes c =
    let s = c.self.inside in
    rw (← c.self.view_is) (c.read.ensures.codes ∙ ap (λ xs. take (length c.args.codes.now) (drop c.args.at xs)) (all_codes s.encoding (list_of s.codes) s.nonnull c.self.invariant))

pub returns-clause-present : goal.returns-clause-present
returns-clause-present c i =
    let s = c.self.inside in
    let values = values_from s.encoding (list_of s.codes) s.nonnull in
    let long : length c.read.new.out ≡ length c.args.codes.now = search rules in
    rw (← c.self.view_is) (c.bits.ensures i ∙ ap (λ n. nat_lt i n && row_at s.nonnull (c.args.at + i)) long
    ∙ present_part values (row_at s.nonnull) c.args.at (length c.args.codes.now) i (known_rows s.encoding (list_of s.codes) s.nonnull c.self.invariant))
