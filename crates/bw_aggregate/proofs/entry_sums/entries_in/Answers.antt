use Rattle.std.proofs.Common.{FitsSigned, arith, rules, w64}
use Rattle.std.specs.Int.{w128}
use Rattle.bw_aggregate.proofs.EntrySums.{entry_more}
use Rattle.bw_aggregate.proofs.RowsMore.{added_in}
use Rattle.bw_aggregate.proofs.entry_sums.entries_in.Goals as goal
use mir.Val.{to_z}

pub codes-preserved : goal.codes-preserved
codes-preserved c =
    let codes = c.args.codes.now in
    let i = c.codes.i in
    let fits : FitsSigned w64 c.entry_in.result = search rules in
    let one = added_in (to_z w128 c.codes.total-bits) c.entry_in.result i c.codes.invariant.small (omega (arith, c.codes-test.true, c.requires.few)) fits in
    rw (c.from-total.ensures, one.0) (record {
      totals = λ need all at summed. entry_more need all at c.args.entries.now codes c.args.rows summed i c.entry_in.result (to_z w128 c.codes.total-bits) (omega arith) c.entry_in.ensures (c.codes.invariant.totals need all at summed);
      small = one.1;
    })
