use Rattle.std.proofs.Common.{length, sym, ◌≡◌, ◌∙◌}
use Rattle.csv.specs.Records.{fields_of}
use Rattle.bw_csvload.proofs.Firsts.{integer_fields, row_of-fits}
use Rattle.bw_csvload.proofs.load.push_row.Goals as goal

pub returns-in-Integers-clause-row : goal.returns-in-Integers-clause-row
returns-in-Integers-clause-row c =
    let types = c.args.types.now in
    let fields = fields_of c.args.fields.now in
    let same : length fields ≡ length types = sym c.len.ensures ∙ c.if-len-types.false in
    rw (row_of-fits types c.args.number fields same, integer_fields types fields (rw c.in-Integers.is at c.requires) same, c.in-Integers.is) c.push_integers.ensures.row
