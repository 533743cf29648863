use Rattle.bw_plan.proofs.Selecting.{all_grouped}
use Rattle.bw_plan.proofs.select.grouped_plan.Goals as goal

pub group_items-requires : goal.group_items-requires
group_items-requires c = all_grouped c.args.headers.now c.args.list.now c.requires.there
