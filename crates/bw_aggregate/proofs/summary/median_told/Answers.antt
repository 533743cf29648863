use Rattle.std.proofs.Common.{ap, arith, length, sym, true, w64, ◌≡◌, ◌∙◌}
use Rattle.std.proofs.lemmas.Int.{ints, to_z-of_z}
use Rattle.bw_cells.specs.SetFunctions.{median}
use Rattle.bw_aggregate.proofs.Told.{same_values}
use Rattle.bw_aggregate.proofs.summary.median_told.Goals as goal
use Rattle.std.proofs.lemmas.Grind.{common_steps}
use mir.Val.{of_z, to_z}

pub median_of-requires-clause-count : goal.median_of-requires-clause-count
median_of-requires-clause-count c =
    let kept = c.in_ok-known.ensures in
    let same = same_values c.in_ok-known.known.rows c.args.rows.now.rows c.args.column.now.values (kept.len ∙ c.requires.len) c.requires.len kept.each in
    c.requires.count ∙ sym (ap length same)

pub returns : goal.returns
returns c =
    let kept = c.in_ok-known.ensures in
    let same = same_values c.in_ok-known.known.rows c.args.rows.now.rows c.args.column.now.values (kept.len ∙ c.requires.len) c.requires.len kept.each in
    let back : to_z w64 (of_z w64 c.in_ok-median_of.field-0) ≡ c.in_ok-median_of.field-0 = search (arith, ints, to_z-of_z) in
    let asked : c.args.asked ≡ true = grind (arith, common_steps, c.if-not-asked.false) in
    rw (asked, back) (c.in_ok-median_of.ensures ∙ ap median same)
