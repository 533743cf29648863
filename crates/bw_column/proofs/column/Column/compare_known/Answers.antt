use Rattle.std.proofs.Common.{sym, ◌∙◌}
use Rattle.bw_code.specs.Encodings.{same_encoding}
use Rattle.bw_code.specs.Sameness.{same_decides}
use Rattle.bw_code.proofs.Meeting.{and_both}
use Rattle.bw_column.specs.Costs.{same_layout}
use Rattle.bw_column.proofs.column.Column.compare_known.Goals as goal

pub compare_codes-requires-clause-encoding : goal.compare_codes-requires-clause-encoding
compare_codes-requires-clause-encoding c =
    let x = c.args.self.now in
    let y = c.args.other.now in
    let both = and_both (same_layout x.layout y.layout) (same_encoding x.encoding y.encoding) (sym c.is_alike.ensures ∙ c.if-is_alike.true) in
    sym ((same_decides x.encoding y.encoding).0 both.1)
