use Rattle.std.proofs.Common.{sym, ◌∙◌}
use Rattle.bw_plan.proofs.Selecting.{all_placed, no_columns}
use Rattle.bw_plan.proofs.select.listed_plan.Goals as goal

pub functions_in-requires : goal.functions_in-requires
functions_in-requires c = all_placed c.args.headers.now c.args.list.now c.requires.there (no_columns c.args.list.now (sym c.has_functions.ensures ∙ c.if-has_functions.true) c.requires.apart)
