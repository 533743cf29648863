use Rattle.std.proofs.Common.{ap, arith, length, subst, ◌∙◌}
use Rattle.bw_mask.specs.Masks.{row_at}
use Rattle.bw_groups.specs.Entries.{IsIndexOf}
use Rattle.bw_groups.specs.Grouping.{AreGroups}
use Rattle.bw_groups.specs.Runs.{values_in}
use Rattle.bw_groups.proofs.Entries.{groups_all}
use Rattle.bw_engine.specs.Codes.{codes_in}
use Rattle.bw_engine.specs.Runs.{found_runs, slots_of}
use Rattle.bw_engine.proofs.CellLaws.{slots_long}
use Rattle.bw_engine.proofs.CodeLaws.{codes_long, found_back, found_inside, found_many}
use Rattle.bw_engine.proofs.FoundRuns.{runs_few}
use Rattle.bw_engine.proofs.grouped.groups_by_codes.Goals as goal

pub of-requires : goal.of-requires
of-requires c =
    let column = c.args.column.now in
    let codes = codes_in column.encoding column.values in
    omega (arith, runs_few 0 (slots_of codes) (row_at c.args.found.now), slots_long codes, codes_long column.encoding column.values, c.len-few.ensures.count, c.len-few.ensures.few)

pub through-requires-clause-ascending : goal.through-requires-clause-ascending
through-requires-clause-ascending c = c.entries.ensures.ascending

pub through-requires-clause-inside : goal.through-requires-clause-inside
through-requires-clause-inside c =
    let column = c.args.column.now in
    let passes = row_at c.args.found.now in
    let indices = values_in (found_runs 0 (slots_of (codes_in column.encoding column.values)) passes) in
    groups_all (IsIndexOf c.entries.result.now) indices c.in_ok-groups.groups c.in_ok-groups.ensures.groups
    (found_inside column.encoding c.entries.result.now c.entries.ensures.is c.encoding-coded.ensures.sound column.values c.encoding-coded.ensures.coded passes)

pub returns-clause-groups : goal.returns-clause-groups
returns-clause-groups c =
    let column = c.args.column.now in
    let passes = row_at c.args.found.now in
    let indices = values_in (found_runs 0 (slots_of (codes_in column.encoding column.values)) passes) in
    let back = found_back column.encoding c.entries.result.now c.entries.ensures.is c.encoding-coded.ensures.sound column.values c.encoding-coded.ensures.coded passes in
    subst (λ values. AreGroups values c.through.result) back (c.through.ensures.groups indices c.in_ok-groups.ensures.groups)

pub returns-clause-rows : goal.returns-clause-rows
returns-clause-rows c =
    let column = c.args.column.now in
    let passes = row_at c.args.found.now in
    ap length c.through.ensures.rows ∙ c.in_ok-groups.ensures.rows
    ∙ found_many column.encoding c.entries.result.now c.entries.ensures.is c.encoding-coded.ensures.sound column.values c.encoding-coded.ensures.coded passes
